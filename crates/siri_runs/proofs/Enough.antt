-- Where the outside has enough for so many connections, no call of it ends a run but for want of memory.
use Rattle.std.proofs.Common.{◌≡◌, ◌≤◌, ◌+◌, ◌-◌, ◌⊎◌, ℕ, zero, suc, Bool, true, false, List, [], ◌∷◌, length, Option, None, Some, Ok, Err}
use Rattle.std.proofs.Common.{refl, sym, ap, ◌∙◌, subst, arith, inl, inr}
use Rattle.std.specs.Prelude.{IsSome, IsSomeAnd, if◌then◌else◌, nat_eq}
use Rattle.std.proofs.lemmas.Bool.{eqb-true}
use Rattle.siri_outside.specs.Failures.{IsDue, after_call}
use Rattle.siri_outside.specs.OutsideCalls.{ClockState, GivesMoment, KeeperState, RaisesNumber, WhereTold}
use Rattle.siri_outside.specs.Wires.{Accepts, Connection, Listens, TakesComing, WireState, accept_called}
use Rattle.siri_outside.specs.declared.errors.OutsideError.{OutsideError}
use Rattle.siri_outside.specs.declared.errors.OutsideError.TheVariants as outside
use Rattle.siri_runs.specs.Calls.{Call, Fails, Outside, Told}
use Rattle.siri_runs.specs.Enough.{HasConnections, HasEnough, HasMoments, HasNumber, NoneFails}
use Rattle.siri_runs.specs.Errors.{clock_error, keeper_error, wire_error}
use Rattle.siri_runs.specs.Run.{EndsAtTurn, EndsInTurns, MakesTurn, MakesTurns, Turning}
use Rattle.siri_runs.specs.Turns.{Running, Turns}
use Rattle.siri_runs.specs.declared.network_error.NetworkError.{NetworkError}
use Rattle.siri_runs.specs.declared.network_error.NetworkError.TheVariants as error
use Rattle.siri_runs.proofs.Causes.{CallFails, EndsBy}

-- ---- failures that are named

none_due : (n : ℕ) (fails : List ℕ) → NoneFails (n + 1) fails → IsDue fails → ⊥
none_due n [] none due = due
none_due n (before ∷ later) none due = omega (arith, none, due)

none_after : (n : ℕ) (fails : List ℕ) → NoneFails (n + 1) fails → NoneFails n (after_call fails)
none_after n [] none = tt
none_after n (before ∷ later) none = by (nat_eq before 0) refl
  where
    by : (due : Bool) → nat_eq before 0 ≡ due → NoneFails n (if due then later else (before - 1) ∷ later)
    by true is = absurd (omega (arith, none, eqb-true before 0 is))
    by false is = omega (arith, none)

-- ---- one call

-- what a failure of a wire or of a keeper ends a run with, where it is want of memory
wire_wanting : (failure : OutsideError) (e : NetworkError) → e ≡ wire_error failure → failure ≡ outside.OutOfMemory → e ≡ error.OutOfMemory
wire_wanting failure e is at = is ∙ ap wire_error at

keeper_wanting : (failure : OutsideError) (e : NetworkError) → e ≡ keeper_error failure → failure ≡ outside.OutOfMemory → e ≡ error.OutOfMemory
keeper_wanting failure e is at = is ∙ ap keeper_error at

raise_wanting : (failure : OutsideError) (old new : Option KeeperState) → IsSomeAnd old HasNumber
    → WhereTold old new (λ before after. RaisesNumber before after (Err failure)) → failure ≡ outside.OutOfMemory
raise_wanting failure None new has told = absurd has
raise_wanting failure (Some old) None has told = absurd told
raise_wanting outside.Failed (Some old) (Some new) has told = absurd (by told.0)
  where
    by : IsDue old.fails ⊎ (99999999999 ≤ old.kept) → ⊥
    by (inl due) = none_due 0 old.fails has.raises due
    by (inr last) = omega (arith, last, has.below)
raise_wanting outside.OutOfMemory (Some old) (Some new) has told = refl

-- a number that can be raised is raised, or there is no memory
fails_to_raise : (e : NetworkError) (old new : Told KeeperState) → IsSomeAnd old.tells HasNumber
    → Fails RaisesNumber keeper_error e old new → e ≡ error.OutOfMemory
fails_to_raise e old new has fails = keeper_wanting fails.failure e fails.error_is (raise_wanting fails.failure old.tells new.tells has fails.call.does)

listen_wanting : (listen : List ℕ) (failure : OutsideError) (old new : Option WireState)
    → IsSomeAnd old (λ wire. NoneFails 1 wire.listen_fails)
    → WhereTold old new (λ before after. Listens {T = Unit {0}} listen before after (Err failure))
    → failure ≡ outside.OutOfMemory
listen_wanting listen failure None new has told = absurd has
listen_wanting listen failure (Some old) None has told = absurd told
listen_wanting listen outside.Failed (Some old) (Some new) has told = absurd (none_due 0 old.listen_fails has told.0)
listen_wanting listen outside.OutOfMemory (Some old) (Some new) has told = refl

-- a wire that can listen does, or there is no memory
fails_to_listen : (listen : List ℕ) (e : NetworkError) (old new : Told WireState)
    → IsSomeAnd old.tells (λ wire. NoneFails 1 wire.listen_fails)
    → Fails {T = Unit {0}} (Listens listen) wire_error e old new → e ≡ error.OutOfMemory
fails_to_listen listen e old new has fails = wire_wanting fails.failure e fails.error_is
    (listen_wanting listen fails.failure old.tells new.tells has fails.call.does)

accept_wanting : (n : ℕ) (failure : OutsideError) (old new : Option WireState) → IsSomeAnd old (HasConnections (n + 1))
    → WhereTold old new (λ before after. Accepts {T = Unit {0}} before after (Err failure))
    → failure ≡ outside.OutOfMemory
accept_wanting n failure None new has told = absurd has
accept_wanting n failure (Some old) None has told = absurd told
accept_wanting n outside.Failed (Some old) (Some new) has told = absurd (by told.0)
  where
    by : IsDue old.accept_fails ⊎ (old.to_accept ≡ []) → ⊥
    by (inl due) = none_due n old.accept_fails has.accepts due
    by (inr none) = omega (arith, ap length none, has.connections)
accept_wanting n outside.OutOfMemory (Some old) (Some new) has told = refl

fails_to_accept : (n : ℕ) (e : NetworkError) (old new : Told WireState) → IsSomeAnd old.tells (HasConnections (n + 1))
    → Fails {T = Unit {0}} Accepts wire_error e old new → e ≡ error.OutOfMemory
fails_to_accept n e old new has fails = wire_wanting fails.failure e fails.error_is (accept_wanting n fails.failure old.tells new.tells has fails.call.does)

tells_anyway : (n : ℕ) (failure : OutsideError) (old new : Option ClockState) → IsSomeAnd old (HasMoments (n + 1))
    → WhereTold old new (λ before after. GivesMoment before after (Err failure)) → ⊥
tells_anyway n failure None new has told = has
tells_anyway n failure (Some old) None has told = told
tells_anyway n failure (Some old) (Some new) has told = by told.0
  where
    by : IsDue old.fails ⊎ (old.coming ≡ []) → ⊥
    by (inl due) = none_due n old.fails has.tells due
    by (inr none) = omega (arith, ap length none, has.moments)

-- a clock that has a moment tells it
fails_to_tell : (n : ℕ) (e : NetworkError) (old new : Told ClockState) → IsSomeAnd old.tells (HasMoments (n + 1))
    → Fails GivesMoment clock_error e old new → e ≡ error.OutOfMemory
fails_to_tell n e old new has fails = absurd (tells_anyway n fails.failure old.tells new.tells has fails.call.does)

-- ---- what a call leaves to come

listened_on : (listen : List ℕ) (n : ℕ) (old new : Option WireState) → IsSomeAnd old (HasConnections n)
    → WhereTold old new (λ before after. Listens {T = Unit {0}} listen before after (Ok tt))
    → IsSomeAnd new (HasConnections n)
listened_on listen n None new has told = absurd has
listened_on listen n (Some old) None has told = absurd told
listened_on listen n (Some old) (Some new) has told = subst (HasConnections n) (sym told.1) (record { connections = has.connections; accepts = has.accepts })

told_on : (n moment : ℕ) (old new : Option ClockState) → IsSomeAnd old (HasMoments (n + 1))
    → WhereTold old new (λ before after. GivesMoment {E = OutsideError} before after (Ok moment))
    → IsSomeAnd new (HasMoments n)
told_on n moment None new has told = absurd has
told_on n moment (Some old) None has told = absurd told
told_on n moment (Some old) (Some new) has told = record {
  moments = omega (arith, has.moments, ap length told.1);
  tells = subst (NoneFails n) (sym told.2) (none_after n old.fails has.tells);
}

-- a connection is there, and so many are still to come
pub record HasAccepted (n : ℕ) (wire : WireState) : Type 0 where
  pub there : IsSome wire.present
  pub coming : HasConnections n wire

first_taken : (n : ℕ) (coming : List Connection) (old new : WireState) → n + 1 ≤ length coming
    → NoneFails n old.accept_fails → TakesComing coming old new → HasAccepted n new
first_taken n [] old new most none takes = absurd takes
first_taken n (first ∷ later) old new most none takes =
    subst (HasAccepted n) (sym takes) (record { there = refl; coming = record { connections = omega (arith, most); accepts = none } })

accepted_on : (n : ℕ) (old new : Option WireState) → IsSomeAnd old (HasConnections (n + 1))
    → WhereTold old new (λ before after. Accepts {T = Unit {0}} before after (Ok tt)) → IsSomeAnd new (HasAccepted n)
accepted_on n None new has told = absurd has
accepted_on n (Some old) None has told = absurd told
accepted_on n (Some old) (Some new) has told = first_taken n old.to_accept (accept_called old) new has.connections
    (none_after n old.accept_fails has.accepts) told.1

-- ---- over turns

-- so many connections and moments are to come
pub record HasTurns (n : ℕ) (outside : Outside) : Type 0 where
  pub connections : IsSomeAnd outside.wire.tells (HasConnections n)
  pub moments : IsSomeAnd outside.clock.tells (HasMoments n)

-- a run that has opened has enough for its turns
pub opened_with : (n moment : ℕ) (listen : List ℕ) (from to : Outside) → HasEnough n from
    → Call {T = Unit {0}} (Listens listen) (Ok tt) from.wire to.wire → Call GivesMoment (Ok moment) from.clock to.clock → HasTurns n to
opened_with n moment listen from to has listens tells = record {
  connections = listened_on listen n from.wire.tells to.wire.tells has.connections listens.does;
  moments = told_on n moment from.clock.tells to.clock.tells has.moments tells.does;
}

-- answering a connection takes none of those that are still to come
abbrev pub AnswersOnly : {State : Type 0} → Turning State → Type 0
AnswersOnly turning = (n : ℕ) (s : _) (before : Told WireState) (t : _) (after : Told WireState)
    → IsSomeAnd before.tells (HasAccepted n) → turning.Answers s before t after → IsSomeAnd after.tells (HasConnections n)

module _ {State : Type 0} (turning : Turning State) (only : AnswersOnly turning) where
  turn_leaves : (n : ℕ) (from to : Running State) → HasTurns (n + 1) from.outside → MakesTurn turning from to → HasTurns n to.outside
  turn_leaves n from to has turn = record {
    connections = only n (turning.given turn.moment from.state) turn.wire to.state to.outside.wire
        (accepted_on n from.outside.wire.tells turn.wire.tells has.connections turn.accepts.does) turn.answers;
    moments = told_on n turn.moment from.outside.clock.tells to.outside.clock.tells has.moments turn.tells.does;
  }

  turns_leave : (made n all : ℕ) (from to : Running State) → all ≡ made + n → HasTurns all from.outside
      → MakesTurns turning made from to → HasTurns n to.outside
  unfolding Turns
  turns_leave zero n all from to is has turns =
      let same : all ≡ n = omega (arith, is) in
      subst (λ (r : Running _). HasTurns n r.outside) (sym turns) (subst (λ k. HasTurns k from.outside) same has)
  turns_leave (suc made) n all from to is has turns =
      let more : all ≡ made + (n + 1) = omega (arith, is) in
      turn_leaves n turns.0 to (turns_leave made (n + 1) all from turns.0 more has turns.1) turns.2

  module _ (Own : NetworkError → Type 0) (own : EndsBy Own turning) (memory : Own error.OutOfMemory) where
    turn_fails : (n : ℕ) (e : NetworkError) (from : Running State) (to : Outside)
        → HasTurns (n + 1) from.outside → EndsAtTurn turning e from to → Own e
    turn_fails n e from to has (inl accept) =
        subst Own (sym (fails_to_accept n e from.outside.wire to.wire has.connections accept.accepts)) memory
    turn_fails n e from to has (inr (inl tell)) =
        subst Own (sym (fails_to_tell n e from.outside.clock to.clock has.moments tell.tells)) memory
    turn_fails n e from to has (inr (inr (inl give))) = own.refuses e from.state give.refuses
    turn_fails n e from to has (inr (inr (inr stop))) = own.stops e (turning.given stop.moment from.state) stop.wire to.wire stop.stops

    -- a run that has enough for its turns ends in them by its end's own errors alone
    pub turns_fail : (count : ℕ) (e : NetworkError) (from : Running State) (to : Outside) → HasTurns count from.outside
        → EndsInTurns turning count e from to → Own e
    turns_fail count e from to has fails =
        let left : ℕ = count - fails.made - 1 in
        let all : count ≡ fails.made + (left + 1) = omega (arith, fails.fewer) in
        turn_fails left e fails.last to (turns_leave fails.made (left + 1) count from fails.last all has fails.turns) fails.ends

-- as it opens, a call fails for want of memory alone
pub call_fails : (listen : List ℕ) (count : ℕ) (e : NetworkError) (from to : Outside) → HasEnough count from
    → CallFails listen e from to → e ≡ error.OutOfMemory
call_fails listen count e from to has (inl raise) = fails_to_raise e from.keeper to.keeper has.number raise
call_fails listen count e from to has (inr (inl fails)) = fails_to_listen listen e from.wire to.wire has.listens fails
call_fails listen count e from to has (inr (inr tell)) = fails_to_tell count e from.clock to.clock has.moments tell
