-- Readings that may be refused, with the path and the reason.
use Rattle.std.specs.Prelude.{◌≡◌, ℕ, List, [], ◌∷◌, ◌++◌, length, Bool, nat_lt, nat_le, ◌&&◌, Option, Some, None, Result, Ok, Err}
use Rattle.siri_base.specs.declared.reason.Reason.{Reason}
use Rattle.siri_json.specs.declared.path.Step.{Step}
use Rattle.siri_tables.specs.declared.refusal.TableError.{TableError}
use Rattle.siri_tables.specs.declared.refusal.TableError.TheVariants as errors

-- why and where, with the path from where the reading began
pub record Refusal : Type 0 where
  pub path : List Step
  pub reason : Reason

-- what was read is read on; the first refusal stands
infixl 10 ◌>>=◌
abbrev pub ◌>>=◌ : {A B : Type 0} → Result A Refusal → (A → Result B Refusal) → Result B Refusal
(Ok x) >>= f = f x
(Err e) >>= f = Err e

-- what a call returned is what a reading gives, unless there was no memory
abbrev pub Fails : {A : Type 0} → TableError → Result A Refusal → Type 0
Fails errors.OutOfMemory read = Unit {0}
Fails (errors.Refused path reason) read = read ≡ Err (record { path = path; reason = reason })

abbrev pub Gives : {A : Type 0} → Result A TableError → Result A Refusal → Type 0
Gives (Ok x) read = read ≡ Ok x
Gives (Err e) read = Fails e read

-- refused where the reading began
abbrev pub refused : {A : Type 0} → Reason → Result A Refusal
refused reason = Err (record { path = []; reason = reason })

-- the same reading, seen from one step above
abbrev pub below : {A : Type 0} → Step → Result A Refusal → Result A Refusal
below step (Ok x) = Ok x
below step (Err r) = Err (record { path = step ∷ r.path; reason = r.reason })

-- the same reading, where it began at a path
abbrev pub at_path : {A : Type 0} → List Step → Result A Refusal → Result A Refusal
at_path path (Ok x) = Ok x
at_path path (Err r) = Err (record { path = path ++ r.path; reason = r.reason })

-- what is there is read further
abbrev pub each : {A B : Type 0} → (A → Result B Refusal) → Option A → Result (Option B) Refusal
each read None = Ok None
each read (Some x) = read x >>= λ y. Ok (Some y)

-- a name of a member: 1 to 255 bytes, as a test that computes
abbrev pub is_key : List ℕ → Bool
is_key text = nat_lt 0 (length text) && nat_le (length text) 255
