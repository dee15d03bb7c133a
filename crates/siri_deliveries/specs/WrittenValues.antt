-- What messages and their deliveries write alike: errors, and flags that are written only where they are true (EN
-- 15531-2).
use Rattle.std.specs.Prelude.{ℕ, List, [], ◌∷◌, Bool, true, false, Option, Some, None}
use Rattle.serde_json.specs.Data.{Data}
use Rattle.siri_tables.specs.Writing.{row_object, written_text, written_flag}
use Rattle.siri_deliveries.specs.declared.names.TheConstants.{ERROR_TEXT, OTHER_ERROR}

-- a flag that is written only where it is true
abbrev pub written_where_true : Bool → Option Data
written_where_true true = written_flag true
written_where_true false = None

-- ErrorCondition: an error of a kind of its own, with a text
unfoldable pub written_error : List ℕ → Option Data
written_error text = Some (row_object (
    (OTHER_ERROR.now, Some (row_object ((ERROR_TEXT.now, written_text text) ∷ []))) ∷ []))
