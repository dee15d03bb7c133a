-- What the row of a moment says, by whether its text is UTF-8.
use Rattle.std.proofs.Common.{◌≡◌, ℕ, Bool, true, false, List, Option, None, refl, subst}
use Rattle.std.specs.Prelude.{IsUtf8}
use Rattle.std.specs.Option.{option_and_then}
use Rattle.std.specs.Str.{is_utf8}
use Rattle.std.proofs.lemmas.Str.{IsUtf8-from_is_utf8, is_utf8-from_IsUtf8}
use Rattle.siri_row_texts.specs.declared.moments.Began.{Began}
use Rattle.siri_row_texts.specs.Reading.{began_of_row, if_begun, parted}

begun_at : (text : List ℕ) (b : Bool) → is_utf8 text ≡ b → (IsUtf8 text → ⊥) → None ≡ began_of_row text
unfolding began_of_row
begun_at text true is never = absurd (never (IsUtf8-from_is_utf8 text is))
begun_at text false is never = rw is refl

pub none_begun : (text : List ℕ) → (IsUtf8 text → ⊥) → None ≡ began_of_row text
none_begun text never = begun_at text (is_utf8 text) refl never

pub some_begun : (text whole : List ℕ) (began : Option Began) → whole ≡ text → IsUtf8 text → parted whole ≡ began
    → began_of_row text ≡ option_and_then (if_begun text) began
unfolding began_of_row
some_begun text whole began same utf8 is =
    let parts : parted text ≡ began = subst (λ t. parted t ≡ began) same is in
    rw (is_utf8-from_IsUtf8 text utf8, parts) refl
