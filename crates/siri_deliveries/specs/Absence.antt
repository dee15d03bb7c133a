-- Texts that are absent.
use Rattle.std.specs.Prelude.{ℕ, List, Bool, true, false, Option, Some, None}
use Rattle.serde_json.specs.Data.{Data}
use Rattle.siri_json.specs.Values.{Found, found, absent, wrong, member_of, text_in}

-- no text stands where one is wanted
abbrev pub is_no_text : Found (List ℕ) → Bool
is_no_text (found t) = false
is_no_text absent = true
is_no_text wrong = false

abbrev pub is_text_absent : Option Data → Bool
is_text_absent None = true
is_text_absent (Some d) = is_no_text (text_in d)

-- the member of that name, which is wanted to be a text, is absent
unfoldable pub lacks : List ℕ → Data → Bool
lacks key d = is_text_absent (member_of key d)
