-- What a run of `keep` says of its end, turn by turn.
use Rattle.std.specs.Prelude.{IsSomeAnd}
use Rattle.std.proofs.Common.{◌≡◌, ◌⊎◌, ◌+◌, ℕ, List, [], ◌∷◌, ◌++◌, Option, Ok, sym, ap, ◌∙◌, subst, inl, inr}
use Rattle.siri_outside.specs.OutsideCalls.{WhereTold}
use Rattle.siri_outside.specs.Wires.{Accepts, WireState}
use Rattle.siri_http.specs.Requests.{post_alone}
use Rattle.siri_model.specs.History.{Clock, History}
use Rattle.siri_producer.specs.Known.{StandsFor}
use Rattle.siri_subscriptions.specs.declared.outs.Out.{Out}
use Rattle.siri_ends.specs.Lending.{CanBeWritten, IsReply}
use Rattle.siri_ends.specs.Looks.{LooksHearing}
use Rattle.siri_ends.specs.Responses.{taking}
use Rattle.siri_ends.specs.Serving.{PostsOut, acknowledging}
use Rattle.siri_ends.specs.declared.reply.Reply.{Reply}
use Rattle.siri_ends.specs.declared.taker.Taker.{Ghosts as TakerGhosts}
use Rattle.siri_outside.specs.Shelves.{ShelfState}
use Rattle.siri_keep.specs.Calls.{AddsFronts, Holds}
use Rattle.siri_keep.specs.KeptTurns.{KeepsOn}
use Rattle.siri_keep.specs.Looks.{KeptLooksOnce}
use Rattle.siri_keep.specs.Serving.{LeavesLiveAt, ServesKept, ServesKeptSome, keeping, message_kept, steps_of}
use Rattle.siri_keep.specs.declared.kept.Kept.{Kept}
use Rattle.siri_keep.proofs.KeptTurns.{adds_turn, goes_kept, keeps_answered}
use Rattle.siri_keep.proofs.Told.{told_weaker}
use Rattle.siri_runs.specs.Calls.{Call, Outside, Told}
use Rattle.siri_runs.specs.Ends.{InRun, IsNotGiven, IsNotOver, StopsWithin, TakesSome, TurnOf}
use Rattle.siri_runs.specs.Left.{AnswersNone}
use Rattle.siri_runs.specs.Turns.{Running, StopsAnswering, running}
use Rattle.siri_runs.specs.declared.network_error.NetworkError.{NetworkError}
use Rattle.siri_runs.proofs.Views.{IsViewed, Stopped}
use Rattle.siri_keep_run.specs.Serving.{IsOwn, IsSince, Keeping, Leaves, LeavesAtTurn, RestsOver, Serves, StandsOver, StopsTurn, end_at, end_left}
use Rattle.siri_keep_run.specs.Serving.{given, history_now, turning}
use Rattle.siri_keep_run.proofs.Over.{clocked_leaves, clocked_over, own_error, served_leaves, served_over, stopped_leaves, stopped_over, turn_goes}

module _ {B : Type 0} (is_open : B → Type 0) (tells : B → Option ShelfState) (faults : B → ℕ) where
  -- a producer over a shelf, as what a run calls
  abbrev pub kept_end : TakerGhosts Kept B Reply Out (Unit {0})
  kept_end = record {
    Identity = List ℕ;
    identity = λ kept. kept.producer.responder.name;
    State = History;
    stands = λ kept h. StandsFor kept.producer h;
    is_ready = λ shelf. is_open shelf;
    holds = λ kept shelf h. IsSomeAnd (tells shelf) (λ state. Holds kept state.rows h);
    may_leave = λ kept occasion before after. WhereTold (tells before) (tells after) (AddsFronts kept (steps_of occasion));
    has_left = λ kept asked before after.
        WhereTold (tells before) (tells after) (λ old new. KeepsOn kept (taking (message_kept asked)) old.rows new.rows);
    has_ended = λ kept made before after.
        WhereTold (tells before) (tells after) (λ old new. LeavesLiveAt kept made old.rows new.rows);
    looks_taking = λ old asked new. KeptLooksOnce old.producer new.producer (message_kept asked);
    looks_hearing = λ old sent message new. LooksHearing old.producer new.producer (acknowledging message);
    faults = λ shelf. faults shelf;
    given = λ now h. h ++ Clock now ∷ [];
    refuses = λ why h. Unit {0};
    manner = keeping;
    posts = λ nothing. PostsOut;
    can_be_written = CanBeWritten;
    is_reply = λ name reply h response. IsReply reply name h response;
  }

  abbrev pub rests : InRun Kept B → Keeping → Type 0
  rests end state = RestsOver end.own end.tally end.made (tells end.beside) state

  abbrev pub LeavesLast : List ℕ → B → Running Keeping → Outside → Type 0
  LeavesLast name last from to = LeavesAtTurn name (tells last) from to

  abbrev name_in : Kept → List ℕ
  name_in kept = kept.producer.responder.name

  -- ---- a turn

  module _ (from : InRun Kept B) (state : Keeping) (so : rests from state) (moment : ℕ) (later : Kept) (between : B)
      (keeps : name_in later ≡ name_in from.own)
      (on : (h : History) → StandsFor from.own.producer h → StandsFor later.producer (h ++ Clock moment ∷ []))
      (holds : (h : History) → StandsFor from.own.producer h → IsSomeAnd (tells from.beside) (λ s. Holds from.own s.rows h)
      → IsSomeAnd (tells between) (λ t. Holds later t.rows (h ++ Clock moment ∷ [])))
      (may : WhereTold (tells from.beside) (tells between) (AddsFronts from.own (Clock moment ∷ []))) where
    given_over : StandsOver later from.tally from.made (tells between) (given moment state)
    given_over = clocked_over from.own later moment keeps state from.tally from.made (tells from.beside) (tells between) on
        (holds (history_now state) so.stands.history) may so.stands

  turn_seen : (moment : ℕ) (from : InRun Kept B) (before : Told WireState) (to : InRun Kept B) (after : Told WireState)
      → TurnOf kept_end post_alone tt moment from before to after → (state : Keeping) → rests from state
      → (next : Keeping) × rests to next × Serves (name_in from.own) (given moment state) before next after
  turn_seen moment from before to after turn state so =
      let over : StandsOver turn.later from.tally from.made (tells turn.between) (given moment state) =
      given_over from state so moment turn.later turn.between turn.given.keeps turn.given.stands turn.given.holds turn.given.may in
      let goes = goes_kept tells turn.later turn.between turn.left before.tells after.tells turn.taken from.tally to.tally before.faults after.faults
      turn.leaves turn.takes in
      let one = turn_goes turn.later turn.taken from.tally to.tally before after (tells turn.between) (tells turn.left) goes (given moment state)
      to.own to.made (tells to.beside) turn.over.stands turn.over.keeps
      (adds_turn tells turn.later turn.between turn.left before.tells after.tells turn.leaves) turn.over.holds turn.over.ended turn.over.may
      (turn.made ∙ ap (λ n. n + 1) so.stands.turns_are) from.made over in
      (one.0, one.1, subst (λ n. Serves n (given moment state) before one.0 after) turn.given.keeps one.2)

  -- ---- where one ended the run

  early_seen : (from : Running (InRun Kept B)) (to : Outside) → AnswersNone from.outside to → (state : Keeping) → rests from.state state
      → LeavesLast (name_in from.state.own) from.state.beside (running state from.outside) to
  early_seen from to none state so = inl (
    told_weaker (IsSince from.state.own state) (λ s t. t ≡ s) state.shelf (tells from.state.beside) (λ s t since. since.rests so.rests)
        so.stands.over,
    none,
  )

  module _ (from : InRun Kept B) (state : Keeping) (so : rests from state) (last : B) (e : NetworkError) (outside_ to : Outside)
      (within : StopsWithin kept_end post_alone tt last e (running from outside_) to) where
    abbrev name : List ℕ
    name = name_in from.own

    abbrev left_of : Told WireState → Type 0
    left_of before = Leaves name (given within.moment state) before to.wire (tells last)

    own : IsOwn e
    own = subst IsOwn (sym within.error_is) (own_error within.why)

    begun : left_of within.wire → LeavesLast name last (running state outside_) to
    begun leaves =
        inr (record { wire = within.wire; moment = within.moment; accepts = within.accepts; tells = within.tells; leaves = leaves })

    stops : StopsTurn name (given within.moment state) within.wire to.wire
        → StopsAnswering (turning name).given (turning name).Stops e (running state outside_) to
    stops some = record {
      wire = within.wire;
      moment = within.moment;
      accepts = within.accepts;
      tells = within.tells;
      stops = (own, some);
      keeper = within.keeper;
    }

    not_given : IsNotGiven kept_end within.why within.moment from last within.wire to.wire
        → Stopped kept_end post_alone tt turning rests LeavesLast name last e (running state outside_) to
    not_given none = (
      inl (record {
        moment = within.moment;
        accepts = subst (λ w. Call Accepts (Ok (tt {0})) outside_.wire w) (sym none.same) within.accepts;
        tells = within.tells;
        refuses = own;
        keeper = within.keeper;
      }),
      begun (subst (λ w. Leaves name (given within.moment state) within.wire w (tells last)) (sym none.same)
          (clocked_leaves from.own from.tally from.made within.moment (tells from.beside) (tells last) none.may state so.stands within.wire)),
    )

    in_part : TakesSome kept_end post_alone tt within.why within.moment from last within.wire to.wire
        → Stopped kept_end post_alone tt turning rests LeavesLast name last e (running state outside_) to
    in_part some =
        let over : StandsOver some.later from.tally from.made (tells some.between) (given within.moment state) =
        given_over from state so within.moment some.later some.between some.given.keeps some.given.stands some.given.holds some.given.may in (
          inr (stops (inl (subst (λ n. ServesKeptSome n (end_at (given within.moment state) within.wire) to.wire.tells) some.given.keeps
              (stopped_over some.later from.tally from.made within.wire to.wire.tells (tells some.between) some.stops (given within.moment state) over)))),
          begun (subst (λ n. Leaves n (given within.moment state) within.wire to.wire (tells last)) some.given.keeps
              (stopped_leaves some.later from.tally from.made within.wire to.wire (tells some.between) (tells last)
              (adds_turn tells some.later some.between last within.wire.tells to.wire.tells some.leaves)
              (keeps_answered tells some.later some.between last within.wire.tells to.wire.tells some.leaves) (given within.moment state) over)),
        )

    not_over : IsNotOver kept_end post_alone tt within.why within.moment from last within.wire to.wire
        → Stopped kept_end post_alone tt turning rests LeavesLast name last e (running state outside_) to
    not_over whole =
        let over : StandsOver whole.later from.tally from.made (tells whole.between) (given within.moment state) =
        given_over from state so within.moment whole.later whole.between whole.given.keeps whole.given.stands whole.given.holds whole.given.may in
        let goes = goes_kept tells whole.later whole.between whole.left within.wire.tells to.wire.tells whole.taken from.tally whole.tally
        within.wire.faults to.wire.faults whole.leaves whole.takes in
        let one = served_over whole.later whole.taken from.tally whole.tally within.wire to.wire (tells whole.between) (tells whole.left) goes
        (given within.moment state) over.history over.tally_is in
        let next : Keeping = record { history = one.0; tally = whole.tally; turns = state.turns; shelf = state.shelf; since = [] } in (
          inr (stops (inr (
            next,
            subst (λ n. ServesKept n (end_at (given within.moment state) within.wire) (end_left next to.wire)) whole.given.keeps one.1.1,
          ))),
          begun (subst (λ n. Leaves n (given within.moment state) within.wire to.wire (tells last)) whole.given.keeps
              (served_leaves whole.later whole.taken from.tally whole.tally within.wire to.wire (tells whole.between) (tells whole.left) goes
              (given within.moment state) (tells last)
              (adds_turn tells whole.later whole.between whole.left within.wire.tells to.wire.tells whole.leaves) whole.may from.made over)),
        )

    stop_seen : Stopped kept_end post_alone tt turning rests LeavesLast name last e (running state outside_) to
    stop_seen = by within.stops
      where
        by : IsNotGiven kept_end within.why within.moment from last within.wire to.wire
            ⊎ (TakesSome kept_end post_alone tt within.why within.moment from last within.wire to.wire
            ⊎ IsNotOver kept_end post_alone tt within.why within.moment from last within.wire to.wire)
            → Stopped kept_end post_alone tt turning rests LeavesLast name last e (running state outside_) to
        by (inl none) = not_given none
        by (inr (inl some)) = in_part some
        by (inr (inr whole)) = not_over whole

  pub keep_is_viewed : IsViewed kept_end post_alone tt turning rests LeavesLast
  keep_is_viewed = record {
    turn = turn_seen;
    early = early_seen;
    stop = λ last e from to within state so. stop_seen from.state state so last e from.outside to within;
  }
