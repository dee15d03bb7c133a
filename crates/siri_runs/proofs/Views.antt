-- What a command says of its end, turn by turn, it says of a whole run.
use Rattle.std.specs.Prelude.{⊤}
use Rattle.std.proofs.Common.{◌≡◌, ◌⊎◌, ℕ, zero, suc, Ok, Err, refl, sym, ap, ◌∙◌, subst, arith, inl, inr}
use Rattle.siri_outside.specs.Wires.{Accepts, WireState}
use Rattle.siri_outside.specs.declared.errors.OutsideError.{OutsideError}
use Rattle.siri_outside.specs.declared.errors.OutsideError.TheVariants as outside
use Rattle.siri_outside.specs.Shelves.{CountsFault, after_fault}
use Rattle.siri_http.specs.Requests.{Meaning}
use Rattle.siri_http.specs.declared.tally.Tally.{Tally}
use Rattle.siri_ends.specs.At.{At, at_of}
use Rattle.siri_ends.specs.InTurn.{most_sends}
use Rattle.siri_ends.specs.Manners.{Manner, Posting}
use Rattle.siri_ends.specs.TurnsTaken.{StopsTurn, TakesTurn}
use Rattle.siri_ends.specs.declared.taker.Taker.{Ghosts as TakerGhosts}
use Rattle.siri_ends.proofs.Sends.{whole_first}
use Rattle.siri_runs.specs.Calls.{Call, Outside, Told}
use Rattle.siri_runs.specs.Ends.{FailsBeside, InRun, IsNotGiven, IsNotOver, RunsTurn, StopsTurns, StopsWithin, TakesSome, TurnOf}
use Rattle.siri_runs.specs.Errors.{shelf_error}
use Rattle.siri_runs.specs.Left.{AnswersNone}
use Rattle.siri_runs.specs.Run.{EndsAtTurn, EndsInTurns, MakesTurn, MakesTurns, Turning}
use Rattle.siri_runs.specs.Turns.{FailsToAccept, FailsToGive, FailsToTell, Running, StopsAnswering, Turns, TurnsFail, running}
use Rattle.siri_runs.specs.declared.network_error.NetworkError.{NetworkError}
use Rattle.siri_runs.specs.declared.network_error.NetworkError.TheVariants as errors
use Rattle.siri_runs.proofs.TurnByTurn.{turns_none, turns_suc}

-- ---- what an end keeps

module _ {Own Beside R M G : Type 0} (of : TakerGhosts Own Beside R M G) (asks : Meaning) (target : G) where
  keeps_turn : (moment : ℕ) (from : InRun Own Beside) (before : Told WireState) (to : InRun Own Beside) (after : Told WireState)
      → TurnOf of asks target moment from before to after → of.identity to.own ≡ of.identity from.own
  keeps_turn moment from before to after turn = turn.over.keeps ∙ turn.takes.keeps ∙ turn.given.keeps

  turns_keep : (n : ℕ) (from to : Running (InRun Own Beside)) → Turns (RunsTurn of asks target) n from to
      → of.identity to.state.own ≡ of.identity from.state.own
  unfolding Turns
  turns_keep zero from to is = ap (λ (r : Running (InRun Own Beside)). of.identity r.state.own) is
  turns_keep (suc n) from to some =
      keeps_turn some.2.moment some.0.state some.2.wire to.state to.outside.wire some.2.turn ∙ turns_keep n from some.0 some.1

-- ---- whatever is said of an end

module _ {Own Beside R M G : Type 0} (of : TakerGhosts Own Beside R M G) (asks : Meaning) (target : G) {State : Type 0}
    (turning : of.Identity → Turning State) (stands : InRun Own Beside → State → Type 0)
    (Left : of.Identity → Beside → Running State → Outside → Type 0) where
  -- what a call within a turn ended it by, and what it left
  abbrev pub Stopped : of.Identity → Beside → NetworkError → Running State → Outside → Type 0
  Stopped identity last e from to =
      (FailsToGive (turning identity).Refuses e from to ⊎ StopsAnswering (turning identity).given (turning identity).Stops e from to)
      × Left identity last from to

  -- The law: by what the end stands for before a turn it stands for something after it that a command allows, and where a turn was
  -- stopped, the command allows that.
  pub record IsViewed : Type 0 where
    pub turn : (moment : ℕ) (from : InRun Own Beside) (before : Told WireState) (to : InRun Own Beside) (after : Told WireState)
        → TurnOf of asks target moment from before to after → (s : State) → stands from s
        → (next : State) × stands to next
        × (turning (of.identity from.own)).Answers ((turning (of.identity from.own)).given moment s) before next after
    pub early : (from : Running (InRun Own Beside)) (to : Outside) → AnswersNone from.outside to → (s : State) → stands from.state s
        → Left (of.identity from.state.own) from.state.beside (running s from.outside) to
    pub stop : (last : Beside) (e : NetworkError) (from : Running (InRun Own Beside)) (to : Outside)
        → StopsWithin of asks target last e from to → (s : State) → stands from.state s
        → Stopped (of.identity from.state.own) last e (running s from.outside) to

  -- what so many turns come to
  abbrev pub Seen : ℕ → Running (InRun Own Beside) → Running (InRun Own Beside) → Type 0
  Seen n from to = (s : State) → stands from.state s
      → (next : State) × stands to.state next
      × MakesTurns (turning (of.identity from.state.own)) n (running s from.outside) (running next to.outside)

  module _ (viewed : IsViewed) where
    seen_next : (n : ℕ) (from mid to : Running (InRun Own Beside)) → of.identity mid.state.own ≡ of.identity from.state.own → Seen n from mid
        → RunsTurn of asks target mid to → Seen (suc n) from to
    seen_next n from mid to keeps first turn s so =
        let one = first s so in
        let two = viewed.turn turn.moment mid.state turn.wire to.state to.outside.wire turn.turn one.0 one.1 in
        let made : MakesTurn (turning (of.identity mid.state.own)) (running one.0 mid.outside) (running two.0 to.outside) = record {
          wire = turn.wire;
          moment = turn.moment;
          accepts = turn.accepts;
          tells = turn.tells;
          answers = two.2;
          keeper = turn.keeper;
        } in (
          two.0,
          two.1,
          turns_suc (MakesTurn (turning (of.identity from.state.own))) n (running s from.outside) (running one.0 mid.outside)
              (running two.0 to.outside) one.2
              (subst (λ k. MakesTurn (turning k) (running one.0 mid.outside) (running two.0 to.outside)) keeps made),
        )

    pub turns_seen : (n : ℕ) (from to : Running (InRun Own Beside)) → Turns (RunsTurn of asks target) n from to → Seen n from to
    unfolding Turns
    turns_seen zero from to is = subst (λ r. Seen zero from r) (sym is)
        (λ s so. (s, so, turns_none (MakesTurn (turning (of.identity from.state.own))) (running s from.outside)))
    turns_seen (suc n) from to some =
        seen_next n from some.0 to (turns_keep of asks target n from some.0 some.1) (turns_seen n from some.0 some.1) some.2

    stop_seen : (last : Beside) (e : NetworkError) (from : Running (InRun Own Beside)) (to : Outside)
        → StopsTurns of asks target last e from to → (s : State) → stands from.state s
        → EndsAtTurn (turning (of.identity from.state.own)) e (running s from.outside) to
        × Left (of.identity from.state.own) last (running s from.outside) to
    stop_seen last e from to (inl (same, none)) s so = (
      early none,
      subst (λ b. Left (of.identity from.state.own) b (running s from.outside) to) (sym same) (viewed.early from to (e, none) s so),
    )
      where
        early : FailsToAccept e from.outside to ⊎ FailsToTell e from.outside to
            → EndsAtTurn (turning (of.identity from.state.own)) e (running s from.outside) to
        early (inl accept) = inl accept
        early (inr tell) = inr (inl tell)
    stop_seen last e from to (inr within) s so =
        let some = viewed.stop last e from to within s so in
        (inr (inr some.0), some.1)

    -- where one ended the run
    pub turns_stopped : (last : Beside) (count : ℕ) (e : NetworkError) (from : Running (InRun Own Beside)) (to : Outside)
        → TurnsFail (RunsTurn of asks target) (StopsTurns of asks target last) count e from to → (s : State) → stands from.state s
        → (fails : EndsInTurns (turning (of.identity from.state.own)) count e (running s from.outside) to)
        × Left (of.identity from.state.own) last fails.last to
    turns_stopped last count e from to fails s so =
        let one = turns_seen fails.made from fails.last fails.turns s so in
        let at = running one.0 fails.last.outside in
        let ended = subst (λ k. EndsAtTurn (turning k) e at to × Left k last at to) (turns_keep of asks target fails.made from fails.last fails.turns)
        (stop_seen last e fails.last to fails.ends one.0 one.1) in
        (record { made = fails.made; fewer = fails.fewer; last = at; turns = one.2; ends = ended.0 }, ended.1)

-- ---- an end with nothing beside it

-- where nothing beside it ever fails, memory was wanting
never_fails : (a b : ℕ) → a ≡ 0 → b ≡ 0 → b ≡ after_fault a → ⊥
never_fails a b zero_a zero_b fails = omega (arith, zero_a, zero_b, fails)

wants_memory : (why : OutsideError) (a b : ℕ) → a ≡ 0 → b ≡ 0 → CountsFault {T = Unit {0}} a b (Err why) → why ≡ outside.OutOfMemory
wants_memory outside.Failed a b zero_a zero_b counts = absurd (never_fails a b zero_a zero_b counts)
wants_memory outside.OutOfMemory a b zero_a zero_b counts = refl

-- a turn that was taken whole was taken in part
taken_first : {State M : Type 0} (asks : Meaning) (Posts : Posting M) (manner : Manner State M) (at end : At State)
    → TakesTurn asks Posts manner at end → StopsTurn asks Posts manner at end.wire
taken_first asks Posts manner at end turn =
    inr (turn.asked, turn.mid, turn.answers, whole_first Posts manner most_sends _ turn.mid end turn.sends)

module _ {Own Beside R M G : Type 0} (of : TakerGhosts Own Beside R M G) (asks : Meaning) (target : G) {State : Type 0}
    (turning : of.Identity → Turning State) (state_of : State → of.State) (tally_of : State → Tally) (counting : of.State → Tally → State) where
  -- It stands for a state with what was counted, as a command has them.
  pub record IsCounted : Type 0 where
    pub state_is : (s : of.State) (tally : Tally) → state_of (counting s tally) ≡ s
    pub tally_is : (s : of.State) (tally : Tally) → tally_of (counting s tally) ≡ tally
    pub never : (beside : Beside) → of.faults beside ≡ 0
    pub given : (identity : of.Identity) (moment : ℕ) (s : State) → state_of ((turning identity).given moment s) ≡ of.given moment (state_of s)
    pub given_tally : (identity : of.Identity) (moment : ℕ) (s : State) → tally_of ((turning identity).given moment s) ≡ tally_of s
    pub refuses : (identity : of.Identity) (s : State) → of.refuses outside.OutOfMemory (state_of s) → (turning identity).Refuses errors.OutOfMemory s
    pub answers : (identity : of.Identity) (from : State) (before : Told WireState) (to : State) (after : Told WireState)
        → TakesTurn asks (of.posts target) (of.manner identity) (at_of (state_of from) (tally_of from) before.tells before.faults)
        (at_of (state_of to) (tally_of to) after.tells after.faults) → (turning identity).Answers from before to after
    pub stops : (identity : of.Identity) (from : State) (before after : Told WireState)
        → StopsTurn asks (of.posts target) (of.manner identity) (at_of (state_of from) (tally_of from) before.tells before.faults) after.tells
        → (turning identity).Stops errors.OutOfMemory from before after

  abbrev pub counts : InRun Own Beside → State → Type 0
  counts end s = of.stands end.own (state_of s) × (end.tally ≡ tally_of s)

  abbrev pub LeavesNothing : of.Identity → Beside → Running State → Outside → Type 0
  LeavesNothing identity last from to = ⊤

  module _ (counted : IsCounted) where
    -- the state and the count that a turn begins with
    module _ (identity later : of.Identity) (moment : ℕ) (s : State) (tally : Tally) (same : later ≡ identity) (tally_same : tally ≡ tally_of s)
        (before : Told WireState) where
      abbrev given_now : At of.State
      given_now = at_of (of.given moment (state_of s)) tally before.tells before.faults

      abbrev given_at : At of.State
      given_at = at_of (state_of ((turning identity).given moment s)) (tally_of ((turning identity).given moment s)) before.tells before.faults

      now_is : given_now ≡ given_at
      now_is = λ i. at_of ((sym (counted.given identity moment s)) i) ((tally_same ∙ sym (counted.given_tally identity moment s)) i) before.tells before.faults

      taken_at : (next : of.State) (count : Tally) (after : Told WireState)
          → TakesTurn asks (of.posts target) (of.manner later) given_now (at_of next count after.tells after.faults)
          → (turning identity).Answers ((turning identity).given moment s) before (counting next count) after
      taken_at next count after taken =
          let to = counting next count in
          let end : At of.State = at_of next count after.tells after.faults in
          let end_is : end ≡ at_of (state_of to) (tally_of to) after.tells after.faults =
          λ i. at_of ((sym (counted.state_is next count)) i) ((sym (counted.tally_is next count)) i) after.tells after.faults in
          counted.answers identity ((turning identity).given moment s) before to after
          (subst (λ e. TakesTurn asks (of.posts target) (of.manner identity) given_at e) end_is
          (subst (λ a. TakesTurn asks (of.posts target) (of.manner identity) a end) now_is
          (subst (λ k. TakesTurn asks (of.posts target) (of.manner k) given_now end) same taken)))

      stopped_at : (after : Told WireState) → StopsTurn asks (of.posts target) (of.manner later) given_now after.tells
          → (turning identity).Stops errors.OutOfMemory ((turning identity).given moment s) before after
      stopped_at after stops =
          counted.stops identity ((turning identity).given moment s) before after
          (subst (λ a. StopsTurn asks (of.posts target) (of.manner identity) a after.tells) now_is
          (subst (λ k. StopsTurn asks (of.posts target) (of.manner k) given_now after.tells) same stops))

    module _ (from : InRun Own Beside) (s : State) (so : counts from s) where
      abbrev kept_of : of.Identity
      kept_of = of.identity from.own

      seen_turn : (moment : ℕ) (before : Told WireState) (to : InRun Own Beside) (after : Told WireState)
          → TurnOf of asks target moment from before to after
          → (next : State) × counts to next × (turning kept_of).Answers ((turning kept_of).given moment s) before next after
      seen_turn moment before to after turn =
          let one = turn.takes.goes (of.given moment (state_of s)) (turn.given.stands (state_of s) so.0) in (
            counting one.0 to.tally,
            (
              subst (of.stands to.own) (sym (counted.state_is one.0 to.tally)) (turn.over.stands one.0 one.1),
              sym (counted.tally_is one.0 to.tally),
            ),
            taken_at kept_of (of.identity turn.later) moment s from.tally turn.given.keeps so.1 before one.0 to.tally after one.2.0,
          )

      module _ (last : Beside) (e : NetworkError) (outside_ to : Outside)
          (within : StopsWithin of asks target last e (running from outside_) to) where
        memory : (was : Beside) → FailsBeside of within.why was last → e ≡ errors.OutOfMemory
        memory was cause = within.error_is
            ∙ ap shelf_error (wants_memory within.why (of.faults was) (of.faults last) (counted.never was) (counted.never last) cause)

        not_given : IsNotGiven of within.why within.moment from last within.wire to.wire
            → FailsToGive (turning kept_of).Refuses e (running s outside_) to
        not_given none =
            let why = wants_memory within.why (of.faults from.beside) (of.faults last) (counted.never from.beside) (counted.never last) none.counted in
            record {
              moment = within.moment;
              accepts = subst (λ w. Call Accepts (Ok (tt {0})) outside_.wire w) (sym none.same) within.accepts;
              tells = within.tells;
              refuses = subst (λ e. (turning kept_of).Refuses e s) (sym (memory from.beside none.counted))
                  (counted.refuses kept_of s (subst (λ y. of.refuses y (state_of s)) why (none.refuses (state_of s) so.0)));
              keeper = within.keeper;
            }

        in_part : (later : Own) (was : Beside) → of.identity later ≡ kept_of → FailsBeside of within.why was last
            → StopsTurn asks (of.posts target) (of.manner (of.identity later))
            (at_of (of.given within.moment (state_of s)) from.tally within.wire.tells within.wire.faults) to.wire.tells
            → StopsAnswering (turning kept_of).given (turning kept_of).Stops e (running s outside_) to
        in_part later was keeps cause stops = record {
          wire = within.wire;
          moment = within.moment;
          accepts = within.accepts;
          tells = within.tells;
          stops = subst (λ e. (turning kept_of).Stops e ((turning kept_of).given within.moment s) within.wire to.wire) (sym (memory was cause))
              (stopped_at kept_of (of.identity later) within.moment s from.tally keeps so.1 within.wire to.wire stops);
          keeper = within.keeper;
        }

        seen_stop : Stopped of asks target turning counts LeavesNothing kept_of last e (running s outside_) to
        seen_stop = (by within.stops, tt)
          where
            by : IsNotGiven of within.why within.moment from last within.wire to.wire
                ⊎ (TakesSome of asks target within.why within.moment from last within.wire to.wire
                ⊎ IsNotOver of asks target within.why within.moment from last within.wire to.wire)
                → FailsToGive (turning kept_of).Refuses e (running s outside_) to
                ⊎ StopsAnswering (turning kept_of).given (turning kept_of).Stops e (running s outside_) to
            by (inl none) = inl (not_given none)
            by (inr (inl some)) = inr (in_part some.later some.between some.given.keeps some.counted
                (some.stops (of.given within.moment (state_of s)) (some.given.stands (state_of s) so.0)))
            by (inr (inr whole)) =
                let one = whole.takes.goes (of.given within.moment (state_of s)) (whole.given.stands (state_of s) so.0) in
                inr (in_part whole.later whole.left whole.given.keeps whole.counted
                (taken_first asks (of.posts target) (of.manner (of.identity whole.later))
                (at_of (of.given within.moment (state_of s)) from.tally within.wire.tells within.wire.faults)
                (at_of one.0 whole.tally to.wire.tells to.wire.faults) one.2.0))

    pub counted_is_viewed : IsViewed of asks target turning counts LeavesNothing
    counted_is_viewed = record {
      turn = λ moment from before to after turn s so. seen_turn from s so moment before to after turn;
      early = λ from to none s so. tt;
      stop = λ last e from to within s so. seen_stop from.state s so last e from.outside to within;
    }

-- ---- over a run

-- so many turns, as a command has them
pub made_seen : {Own Beside R M G : Type 0} {of : TakerGhosts Own Beside R M G} {asks : Meaning} {target : G} (count : ℕ)
    (from to : Running (InRun Own Beside)) → Turns (RunsTurn of asks target) count from to → {State : Type 0}
    (turning : of.Identity → Turning State) (stands : InRun Own Beside → State → Type 0)
    (Left : of.Identity → Beside → Running State → Outside → Type 0) → IsViewed of asks target turning stands Left
    → (identity : of.Identity) → of.identity from.state.own ≡ identity → (s : State) → stands from.state s
    → (end : State) × stands to.state end × MakesTurns (turning identity) count (running s from.outside) (running end to.outside)
    × (of.identity to.state.own ≡ identity)
made_seen {of = of} {asks = asks} {target = target} count from to turns turning stands Left viewed identity is s so =
    let one = turns_seen of asks target turning stands Left viewed count from to turns s so in (
      one.0,
      one.1,
      subst (λ k. MakesTurns (turning k) count (running s from.outside) (running one.0 to.outside)) is one.2,
      turns_keep of asks target count from to turns ∙ is,
    )

-- and where one ended it
pub stop_is_seen : {Own Beside R M G : Type 0} {of : TakerGhosts Own Beside R M G} {asks : Meaning} {target : G} {count : ℕ} {last : Beside}
    {e : NetworkError} {from : Running (InRun Own Beside)} {to : Outside}
    → TurnsFail (RunsTurn of asks target) (StopsTurns of asks target last) count e from to → {State : Type 0}
    (turning : of.Identity → Turning State) (stands : InRun Own Beside → State → Type 0)
    (Left : of.Identity → Beside → Running State → Outside → Type 0) → IsViewed of asks target turning stands Left
    → (identity : of.Identity) → of.identity from.state.own ≡ identity → (s : State) → stands from.state s
    → (fails : EndsInTurns (turning identity) count e (running s from.outside) to) × Left identity last fails.last to
stop_is_seen {of = of} {asks = asks} {target = target} {count = count} {last = last} {e = e} {from = from} {to = to} stops turning stands Left
    viewed identity is s so =
    subst (λ k. (fails : EndsInTurns (turning k) count e (running s from.outside) to) × Left k last fails.last to) is
    (turns_stopped of asks target turning stands Left viewed last count e from to stops s so)

-- the same of an end with nothing beside it
pub made_counted : {Own Beside R M G : Type 0} {of : TakerGhosts Own Beside R M G} {asks : Meaning} {target : G} (count : ℕ)
    (from to : Running (InRun Own Beside)) → Turns (RunsTurn of asks target) count from to → {State : Type 0}
    (turning : of.Identity → Turning State) (state_of : State → of.State) (tally_of : State → Tally) (counting : of.State → Tally → State)
    → IsCounted of asks target turning state_of tally_of counting
    → (identity : of.Identity) → of.identity from.state.own ≡ identity → (s : State) → of.stands from.state.own (state_of s) → from.state.tally ≡ tally_of s
    → (end : State) × (of.stands to.state.own (state_of end) × (to.state.tally ≡ tally_of end))
    × MakesTurns (turning identity) count (running s from.outside) (running end to.outside)
made_counted {of = of} {asks = asks} {target = target} count from to turns turning state_of tally_of counting counted identity is s so same =
    let one = made_seen count from to turns turning (counts of asks target turning state_of tally_of counting)
    (LeavesNothing of asks target turning state_of tally_of counting)
    (counted_is_viewed of asks target turning state_of tally_of counting counted) identity is s (so, same) in
    (one.0, one.1, one.2)

pub stop_is_counted : {Own Beside R M G : Type 0} {of : TakerGhosts Own Beside R M G} {asks : Meaning} {target : G} {count : ℕ} {last : Beside}
    {e : NetworkError} {from : Running (InRun Own Beside)} {to : Outside}
    → TurnsFail (RunsTurn of asks target) (StopsTurns of asks target last) count e from to → {State : Type 0}
    (turning : of.Identity → Turning State) (state_of : State → of.State) (tally_of : State → Tally) (counting : of.State → Tally → State)
    → IsCounted of asks target turning state_of tally_of counting
    → (identity : of.Identity) → of.identity from.state.own ≡ identity → (s : State) → of.stands from.state.own (state_of s) → from.state.tally ≡ tally_of s
    → EndsInTurns (turning identity) count e (running s from.outside) to
stop_is_counted {of = of} {asks = asks} {target = target} stops turning state_of tally_of counting counted identity is s so same =
    (stop_is_seen stops turning (counts of asks target turning state_of tally_of counting)
    (LeavesNothing of asks target turning state_of tally_of counting)
    (counted_is_viewed of asks target turning state_of tally_of counting counted) identity is s (so, same)).0
