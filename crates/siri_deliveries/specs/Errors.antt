-- What messages say of errors: ErrorCondition is an object whose member OtherError is an object with ErrorText (EN
-- 15531-2). Other content counts as absent.
use Rattle.std.specs.Prelude.{ℕ, List, Option, Result}
use Rattle.serde_json.specs.Data.{Data}
use Rattle.siri_tables.specs.Refusals.{Refusal}
use Rattle.siri_tables.specs.Rules.{text, row, inside}
use Rattle.siri_deliveries.specs.declared.names.TheConstants.{ERROR_CONDITION, OTHER_ERROR, ERROR_TEXT}

unfoldable pub other_error : Data → Result (Option (List ℕ)) Refusal
other_error d = inside (inside text ERROR_TEXT.now) OTHER_ERROR.now d

-- the text of an error
abbrev pub error_condition : Data → Result (Option (List ℕ)) Refusal
error_condition d = row other_error ERROR_CONDITION.now d
