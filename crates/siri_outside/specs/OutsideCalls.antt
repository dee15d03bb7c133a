-- What a clock and a keeper that tell what they hold do.
use Rattle.siri_outside.specs.Failures.{IsDue, after_call}
use Rattle.siri_outside.specs.declared.errors.OutsideError.{OutsideError}
use Rattle.siri_outside.specs.declared.errors.OutsideError.TheVariants as outside
use Rattle.std.specs.Prelude.{◌≡◌, ◌⊎◌, ℕ, ◌+◌, ◌≤◌, List, [], ◌∷◌, ⊤, Option, None, Some, Result, Ok, Err}

-- Nothing is said of an object that doesn't tell what it holds. One that tells goes on to tell, and this holds of what it tells.
abbrev pub WhereTold : {S : Type 0} → Option S → Option S → (S → S → Type 0) → Type 0
WhereTold None new Does = ⊤
WhereTold (Some old) None Does = ⊥
WhereTold (Some old) (Some new) Does = Does old new

-- what a clock tells: the moments to come, and its failures, each by how many calls of `now` come before it
pub record ClockState : Type 0 where
  pub coming : List ℕ
  pub fails : List ℕ

-- the clock after a call that gives no moment
abbrev pub unread : ClockState → ClockState
unread clock = record clock { fails = after_call clock.fails }

-- a call of `now` takes the first moment to come, and fails exactly where a failure is due or no moment is left
abbrev pub GivesMoment : {E : Type 0} → ClockState → ClockState → Result ℕ E → Type 0
GivesMoment old new (Ok moment) = (¬ IsDue old.fails) × (old.coming ≡ moment ∷ new.coming) × (new.fails ≡ after_call old.fails)
GivesMoment old new (Err failed) = (IsDue old.fails ⊎ (old.coming ≡ [])) × (new ≡ unread old)

-- what a keeper tells: its number, and its failures, each by how many calls of `raise` come before it
pub record KeeperState : Type 0 where
  pub kept : ℕ
  pub fails : List ℕ

-- the keeper after a call that gives no number
abbrev pub unraised : KeeperState → KeeperState
unraised keeper = record keeper { fails = after_call keeper.fails }

-- the keeper after a call that gives its number
abbrev pub raised : KeeperState → KeeperState
raised keeper = record { kept = keeper.kept + 1; fails = after_call keeper.fails }

-- A call of `raise` gives the next number, and fails exactly where a failure is due or the last number is kept.
-- Want of memory leaves all as it was.
abbrev pub RaisesNumber : KeeperState → KeeperState → Result ℕ OutsideError → Type 0
RaisesNumber old new (Ok given) = (¬ IsDue old.fails) × (given ≡ old.kept + 1) × (new ≡ raised old)
RaisesNumber old new (Err outside.Failed) = (IsDue old.fails ⊎ (99999999999 ≤ old.kept)) × (new ≡ unraised old)
RaisesNumber old new (Err outside.OutOfMemory) = new ≡ old
