-- Whether bytes are UTF-8.
use Rattle.std.proofs.Common.{◌≡◌, ℕ, List, Bool, true, false, refl, sym}
use Rattle.std.specs.Prelude.{Result, Ok, Err, MatchResult}
use Rattle.std.specs.Borrow.{Bor}
use Rattle.std.specs.Result.{is_ok}
use Rattle.std.specs.Str.{IsUtf8, is_utf8}
use Rattle.std.proofs.lemmas.Str.{IsUtf8-from_is_utf8, is_utf8-from_IsUtf8}

none_at : (text : List ℕ) (b : Bool) → is_utf8 text ≡ b → ¬ (IsUtf8 text) → b ≡ false
none_at text true is none = absurd (none (IsUtf8-from_is_utf8 text is))
none_at text false is none = refl

-- what isn't UTF-8 fails the test
pub not_utf8 : (text : List ℕ) → ¬ (IsUtf8 text) → is_utf8 text ≡ false
not_utf8 text none = none_at text (is_utf8 text) refl none

-- what was read as UTF-8 is
pub utf8_where : {E : Type 0} (Q : E → Type 0) (text : List ℕ) (read : Result (Bor (List ℕ)) E)
    → MatchResult read (λ s. (s.now ≡ text) × IsUtf8 text) (λ e. ¬ (IsUtf8 text) × Q e) → is_ok read ≡ is_utf8 text
utf8_where Q text (Ok s) r = sym (is_utf8-from_IsUtf8 text r.1)
utf8_where Q text (Err e) r = sym (not_utf8 text r.0)
