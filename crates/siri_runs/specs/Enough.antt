-- What an outside that tells what it holds has to have, for a run over the network to do its work whole. Nothing is asked of what
-- its connections bring, of their failures, or of what is dialled.
use Rattle.std.specs.Prelude.{ℕ, ◌+◌, ◌<◌, ◌≤◌, List, [], ◌∷◌, length, ⊤, IsSomeAnd}
use Rattle.siri_outside.specs.OutsideCalls.{ClockState, KeeperState}
use Rattle.siri_outside.specs.Wires.{WireState}
use Rattle.siri_base.specs.declared.status.Status.{Status}
use Rattle.siri_base.specs.declared.status.Status.TheVariants as status
use Rattle.siri_runs.specs.Calls.{Outside}

-- no failure is named for so many calls, the next ones
abbrev pub NoneFails : ℕ → List ℕ → Type 0
NoneFails calls [] = ⊤
NoneFails calls (before ∷ later) = calls ≤ before

-- a wire has so many connections to come, and none of the calls that accept them fails
pub record HasConnections (count : ℕ) (wire : WireState) : Type 0 where
  pub connections : count ≤ length wire.to_accept
  pub accepts : NoneFails count wire.accept_fails

-- a clock has so many moments to come, and none of the calls that tell them fails
pub record HasMoments (count : ℕ) (clock : ClockState) : Type 0 where
  pub moments : count ≤ length clock.coming
  pub tells : NoneFails count clock.fails

-- a keeper has a number below the greatest, and the next call that raises it doesn't fail
pub record HasNumber (keeper : KeeperState) : Type 0 where
  pub below : keeper.kept < 99999999999
  pub raises : NoneFails 1 keeper.fails

-- The outside tells what it holds, and this is enough for so many connections: the wire listens, and each connection is to come;
-- there is a moment for the opening and one for each connection; and there is a number for the start.
pub record HasEnough (count : ℕ) (outside : Outside) : Type 0 where
  pub listens : IsSomeAnd outside.wire.tells (λ wire. NoneFails 1 wire.listen_fails)
  pub connections : IsSomeAnd outside.wire.tells (HasConnections count)
  pub moments : IsSomeAnd outside.clock.tells (HasMoments (count + 1))
  pub number : IsSomeAnd outside.keeper.tells HasNumber

-- the run did its work whole, or memory was wanting
abbrev pub EndsWhole : Status → Type 0
EndsWhole status.Done = Unit {0}
EndsWhole status.OutOfMemory = Unit {0}
EndsWhole other = ⊥
