-- The failures, named beforehand, that calls of a source or a sink met, one after the other: none, or one at their end.
use Rattle.std.specs.Prelude.{◌≡◌, ℕ, ◌+◌, List, ◌∷◌, length, Bool, true, false, Option, Result, Ok, Err}
use Rattle.siri_outside.specs.Failures.{Passes}
use Rattle.siri_outside.specs.OutsideCalls.{WhereTold}
use Rattle.siri_outside.specs.declared.errors.OutsideError.{OutsideError}
use Rattle.siri_outside.specs.declared.errors.OutsideError.TheVariants as outside
use Rattle.siri_base.specs.declared.status.Status.{Status}
use Rattle.siri_base.specs.declared.status.Status.TheVariants as status

-- So many bytes passed, and no failure came. Or the next failure came after them, at the end, and each other is still to come.
abbrev pub Meets : (failed : Bool) → List ℕ → List ℕ → ℕ → Type 0
Meets false old new count = Passes old new count
Meets true old new count = old ≡ count ∷ new

-- so many bytes were taken of those that were left, and this was met
pub record Takes (failed : Bool) (before after : Option (List ℕ)) (old new : List ℕ) : Type 0 where
  pub count : ℕ
  pub bytes : WhereTold before after (λ left later. length left ≡ count + length later)
  pub meets : Meets failed old new count

-- so many bytes came to those that were held, and this was met
pub record Puts (failed : Bool) (before after : Option (List ℕ)) (old new : List ℕ) : Type 0 where
  pub count : ℕ
  pub bytes : WhereTold before after (λ held more. length more ≡ length held + count)
  pub meets : Meets failed old new count

-- What the calls of a source met, of which the last failed or none, by the bytes that it had left and its failures before and after
-- them. Where it failed, nothing was read after the failure.
abbrev pub SourceMeets : (failed : Bool) → (left later old new : Option (List ℕ)) → Type 0
SourceMeets failed left later old new = WhereTold old new (Takes failed left later)

-- The same of the calls of a sink, by the bytes that it held. Where it failed, nothing was written after the failure.
abbrev pub SinkMeets : (failed : Bool) → (held more old new : Option (List ℕ)) → Type 0
SinkMeets failed held more old new = WhereTold old new (Puts failed held more)

-- ---- which calls and runs end at a failure

-- a call that may want memory, too
abbrev pub has_failed : {T : Type 0} → Result T OutsideError → Bool
has_failed (Ok value) = false
has_failed (Err outside.Failed) = true
has_failed (Err outside.OutOfMemory) = false

-- a run that its source ended
abbrev pub is_read_fault : Status → Bool
is_read_fault status.ReadFault = true
is_read_fault other = false

-- a run that its sink ended
abbrev pub is_write_fault : Status → Bool
is_write_fault status.WriteFault = true
is_write_fault other = false
