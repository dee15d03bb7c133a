-- Failures that are named beforehand, each by what passes before it: bytes for a read or a write, calls for any other call.
-- The first of a list counts from now, and each other from the failure before it.
use Rattle.siri_outside.specs.declared.errors.OutsideError.{OutsideError}
use Rattle.siri_outside.specs.declared.errors.OutsideError.TheVariants as outside
use Rattle.std.specs.Prelude.{◌≡◌, ℕ, ◌-◌, ◌<◌, ◌≤◌, List, [], ◌∷◌, length, Result, Ok, Err, if◌then◌else◌, nat_eq}

-- the next failure is due
abbrev pub IsDue : List ℕ → Type 0
IsDue [] = ⊥
IsDue (before ∷ later) = before ≡ 0

-- the failures to come after one more call, which fails where a failure is due
abbrev pub after_call : List ℕ → List ℕ
after_call [] = []
after_call (before ∷ later) = if nat_eq before 0 then later else (before - 1) ∷ later

-- so many bytes pass, no more than come before the next failure
abbrev pub Passes : List ℕ → List ℕ → ℕ → Type 0
Passes [] new count = new ≡ []
Passes (before ∷ later) new count = (count ≤ before) × (new ≡ (before - count) ∷ later)

-- a failure that was due came, to a call over so many bytes
abbrev pub Came : List ℕ → List ℕ → ℕ → Type 0
Came old new length = (old ≡ 0 ∷ new) × (0 < length)

-- a read into so many bytes fails exactly where a failure is due and it is over some bytes; else it goes no further than the next
abbrev pub ReadMeets : {E : Type 0} → List ℕ → List ℕ → Result ℕ E → ℕ → Type 0
ReadMeets old new (Ok count) length = Passes old new count × (IsDue old → length ≡ 0)
ReadMeets old new (Err failed) length = Came old new length

-- the same of a write; want of memory leaves the failures as they are
abbrev pub WriteMeets : List ℕ → List ℕ → Result ℕ OutsideError → ℕ → Type 0
WriteMeets old new (Ok count) length = Passes old new count × (IsDue old → length ≡ 0)
WriteMeets old new (Err outside.Failed) length = Came old new length
WriteMeets old new (Err outside.OutOfMemory) length = new ≡ old
