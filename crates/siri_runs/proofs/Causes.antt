-- Counts of faults never fall, so a run that ends early by a fault has raised one.
use Rattle.std.proofs.Common.{◌≡◌, ◌≤◌, ◌⊎◌, ℕ, zero, suc, List, Bool, Err, refl, sym, ap, ◌∙◌, subst, arith, inl, inr}
use Rattle.std.specs.Prelude.{IsTrue}
use Rattle.siri_outside.specs.Causes.{HasOutsideCause, Rose}
use Rattle.siri_outside.specs.OutsideCalls.{GivesMoment, RaisesNumber}
use Rattle.siri_outside.specs.Wires.{Listens, WireState}
use Rattle.siri_outside.specs.declared.errors.OutsideError.{OutsideError}
use Rattle.siri_outside.specs.declared.errors.OutsideError.TheVariants as outside
use Rattle.siri_base.specs.declared.status.Status.{Status}
use Rattle.siri_base.specs.declared.status.Status.TheVariants as status
use Rattle.siri_outside.specs.Shelves.{CountsFault, after_fault}
use Rattle.siri_runs.specs.Calls.{CountsShelf, Fails, Outside, Told}
use Rattle.siri_runs.specs.Errors.{clock_error, keeper_error, shelf_error, status_of, wire_error}
use Rattle.siri_runs.specs.Run.{EndsAtTurn, EndsInTurns, MakesTurns, Turning}
use Rattle.siri_runs.specs.Turns.{Running, Turn, Turns}
use Rattle.siri_runs.specs.declared.network_error.NetworkError.{NetworkError}
use Rattle.siri_runs.specs.declared.network_error.NetworkError.TheVariants as error

pub rose_since : (a b c : ℕ) → a ≤ b → Rose b c → Rose a c
rose_since a b c first rose = omega (arith, first, rose)

-- a call that failed, after others
pub cause_since : {T : Type 0} (failure : OutsideError) (a b c : ℕ) → a ≤ b → HasOutsideCause {T = T} b c (Err failure)
    → HasOutsideCause {T = T} a c (Err failure)
cause_since failure a b c first cause = record {
  later = omega (arith, first, cause.later);
  failed = λ is. rose_since a b c first (cause.failed is);
}

-- ---- the count of the shelf beside an end

-- a call of a shelf that ends a run
pub shelf_counts : (T U : Type 0) (a b c : ℕ) (why : OutsideError) → b ≡ a → CountsFault {T = T} b c (Err why)
    → CountsShelf {T = U} a c (Err (shelf_error why))
shelf_counts T U a b c outside.Failed same counts = counts ∙ ap after_fault same
shelf_counts T U a b c outside.OutOfMemory same counts = counts ∙ same

-- a call of the wire or of the clock does, and the shelf's count stays
pub wire_counts : (U : Type 0) (a : ℕ) (why : OutsideError) → CountsShelf {T = U} a a (Err (wire_error why))
wire_counts U a outside.Failed = refl
wire_counts U a outside.OutOfMemory = refl

pub clock_counts : (U : Type 0) (a : ℕ) (why : OutsideError) → CountsShelf {T = U} a a (Err (clock_error why))
clock_counts U a outside.Failed = refl
clock_counts U a outside.OutOfMemory = refl

-- after turns of which none failed
pub turns_count : (T U : Type 0) (a b c : ℕ) (e : NetworkError) → b ≡ a → CountsShelf {T = T} b c (Err e) → CountsShelf {T = U} a c (Err e)
turns_count T U a b c error.WireFault same counts = counts ∙ same
turns_count T U a b c error.ClockFault same counts = counts ∙ same
turns_count T U a b c error.KeeperFault same counts = counts ∙ same
turns_count T U a b c error.ShelfFault same counts = counts ∙ ap after_fault same
turns_count T U a b c error.OutOfMemory same counts = counts ∙ same

-- ---- over turns

-- counts that never fall
pub record Later (from to : Outside) : Type 0 where
  pub wire : from.wire.faults ≤ to.wire.faults
  pub clock : from.clock.faults ≤ to.clock.faults

-- answering a connection never lowers the wire's count
abbrev pub AnswersLater : {State : Type 0} → Turning State → Type 0
AnswersLater turning = (s : _) (before : Told WireState) (t : _) (after : Told WireState)
    → turning.Answers s before t after → before.faults ≤ after.faults

module _ {State : Type 0} (turning : Turning State) (later : AnswersLater turning) where
  turn_later : (from to : Running State) → Turn turning.given turning.Answers from to → Later from.outside to.outside
  turn_later from to turn = record {
    wire = omega (
      arith,
      turn.accepts.cause.later,
      later (turning.given turn.moment from.state) turn.wire to.state to.outside.wire turn.answers,
    );
    clock = omega (arith, turn.tells.cause.later);
  }

  pub turns_later : (count : ℕ) (from to : Running State) → MakesTurns turning count from to → Later from.outside to.outside
  unfolding Turns
  turns_later zero from to is = subst (λ (r : Running State). Later from.outside r.outside) (sym is)
      (record { wire = omega arith; clock = omega arith })
  turns_later (suc count) from to some =
      let before : Later from.outside some.0.outside = turns_later count from some.0 some.1 in
      let last : Later some.0.outside to.outside = turn_later some.0 to some.2 in
      record {
        wire = omega (arith, before.wire, last.wire);
        clock = omega (arith, before.clock, last.clock);
      }

-- ---- an end's own errors

-- an end ends a run by these errors alone
pub record EndsBy {State : Type 0} (Own : NetworkError → Type 0) (turning : Turning State) : Type 0 where
  pub refuses : (e : NetworkError) (state : State) → turning.Refuses e state → Own e
  pub stops : (e : NetworkError) (state : State) (before after : Told WireState) → turning.Stops e state before after → Own e

-- by want of memory alone
abbrev pub IsMemory : NetworkError → Type 0
IsMemory e = e ≡ error.OutOfMemory

-- ---- why a run ended early

-- the count that its status names rose, memory was wanting, or its status is one of its command's own
abbrev pub HasReason : (is_own : Status → Bool) → (from to : Outside) → Status → Type 0
HasReason is_own from to status.WireFault = Rose from.wire.faults to.wire.faults
HasReason is_own from to status.ClockFault = Rose from.clock.faults to.clock.faults
HasReason is_own from to status.KeeperFault = Rose from.keeper.faults to.keeper.faults
HasReason is_own from to status.OutOfMemory = Unit {0}
HasReason is_own from to status.Done = ⊥
HasReason is_own from to status.WriteFault = ⊥
HasReason is_own from to other = IsTrue (is_own other)

-- a call failed as it opened
abbrev pub CallFails : (listen : List ℕ) → NetworkError → Outside → Outside → Type 0
CallFails listen e from to =
    Fails RaisesNumber keeper_error e from.keeper to.keeper
    ⊎ (Fails {T = Unit {0}} (Listens listen) wire_error e from.wire to.wire ⊎ Fails GivesMoment clock_error e from.clock to.clock)

module _ (is_own : Status → Bool) (from to : Outside) (e : NetworkError) (end : Status) (at : end ≡ status_of e) where
  by_wire : {T : Type 0} (failure : OutsideError) → e ≡ wire_error failure
      → HasOutsideCause {T = T} from.wire.faults to.wire.faults (Err failure) → HasReason is_own from to end
  by_wire outside.Failed is cause = subst (HasReason is_own from to) (sym (at ∙ ap status_of is)) (cause.failed refl)
  by_wire outside.OutOfMemory is cause = subst (HasReason is_own from to) (sym (at ∙ ap status_of is)) tt

  by_clock : {T : Type 0} (failure : OutsideError) → e ≡ clock_error failure
      → HasOutsideCause {T = T} from.clock.faults to.clock.faults (Err failure) → HasReason is_own from to end
  by_clock outside.Failed is cause = subst (HasReason is_own from to) (sym (at ∙ ap status_of is)) (cause.failed refl)
  by_clock outside.OutOfMemory is cause = subst (HasReason is_own from to) (sym (at ∙ ap status_of is)) tt

  by_keeper : {T : Type 0} (failure : OutsideError) → e ≡ keeper_error failure
      → HasOutsideCause {T = T} from.keeper.faults to.keeper.faults (Err failure) → HasReason is_own from to end
  by_keeper outside.Failed is cause = subst (HasReason is_own from to) (sym (at ∙ ap status_of is)) (cause.failed refl)
  by_keeper outside.OutOfMemory is cause = subst (HasReason is_own from to) (sym (at ∙ ap status_of is)) tt

  -- a call failed as it opened
  pub call_reason : (listen : List ℕ) → CallFails listen e from to → HasReason is_own from to end
  call_reason listen (inl raise) = by_keeper raise.failure raise.error_is raise.call.cause
  call_reason listen (inr (inl fails)) = by_wire fails.failure fails.error_is fails.call.cause
  call_reason listen (inr (inr tell)) = by_clock tell.failure tell.error_is tell.call.cause

  module _ {State : Type 0} (turning : Turning State) (Own : NetworkError → Type 0) (own : EndsBy Own turning)
      (own_reason : Own e → HasReason is_own from to end) where
    turn_reason : (last : Running State) → Later from last.outside → EndsAtTurn turning e last to → HasReason is_own from to end
    turn_reason last before (inl accept) = by_wire accept.accepts.failure accept.accepts.error_is
        (cause_since accept.accepts.failure from.wire.faults last.outside.wire.faults to.wire.faults before.wire accept.accepts.call.cause)
    turn_reason last before (inr (inl tell)) = by_clock tell.tells.failure tell.tells.error_is
        (cause_since tell.tells.failure from.clock.faults last.outside.clock.faults to.clock.faults before.clock tell.tells.call.cause)
    turn_reason last before (inr (inr (inl give))) = own_reason (own.refuses e last.state give.refuses)
    turn_reason last before (inr (inr (inr stop))) =
        own_reason (own.stops e (turning.given stop.moment last.state) stop.wire to.wire stop.stops)

    -- a turn ended it
    pub turns_reason : AnswersLater turning → (count : ℕ) (first : Running State) → Later from first.outside
        → EndsInTurns turning count e first to → HasReason is_own from to end
    turns_reason later count first opened fails =
        let made : Later first.outside fails.last.outside = turns_later turning later fails.made first fails.last fails.turns in
        turn_reason fails.last (record { wire = omega (arith, opened.wire, made.wire); clock = omega (arith, opened.clock, made.clock) })
        fails.ends
