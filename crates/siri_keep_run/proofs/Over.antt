-- A producer over a shelf, as the end of a run.
use Rattle.std.specs.Prelude.{IsSomeAnd}
use Rattle.std.proofs.Common.{◌≡◌, ◌+◌, ◌⊎◌, ℕ, List, [], ◌∷◌, ◌++◌, Option, None, Some, refl, sym, ◌∙◌, subst, append-nil, append_assoc, inl, inr}
use Rattle.siri_outside.specs.OutsideCalls.{WhereTold}
use Rattle.siri_outside.specs.Wires.{WireState}
use Rattle.siri_outside.specs.declared.errors.OutsideError.{OutsideError}
use Rattle.siri_outside.specs.declared.errors.OutsideError.TheVariants as outside
use Rattle.siri_http.specs.Connections.{OnConnection}
use Rattle.siri_http.specs.Requests.{Asks, post_alone}
use Rattle.siri_http.specs.Tallies.{nothing_yet}
use Rattle.siri_http.specs.declared.asked.Asked.{Asked}
use Rattle.siri_http.specs.declared.tally.Tally.{Tally}
use Rattle.siri_model.specs.History.{Clock, History}
use Rattle.siri_producer.specs.Known.{StandsFor}
use Rattle.siri_ends.specs.At.{at_of}
use Rattle.siri_ends.specs.Responses.{taking}
use Rattle.siri_outside.specs.Rows.{Rows}
use Rattle.siri_outside.specs.Shelves.{ShelfState}
use Rattle.siri_keeping.specs.Keeping.{AddsOnly}
use Rattle.siri_keeping.specs.Keeps.{Keeps}
use Rattle.siri_keep.specs.Calls.{AddsFronts, Holds, KeepsFront}
use Rattle.siri_keep.specs.Serving.{AddsTurn, GoesOnServing, KeepsWhatIsAnswered, LeavesLiveAt, ServesKept, ServesKeptSome, message_kept}
use Rattle.siri_keep.specs.declared.kept.Kept.{Kept}
use Rattle.siri_keep.proofs.Answered.{not_answered}
use Rattle.siri_keep.proofs.Left.{keeps_of}
use Rattle.siri_keep.proofs.Told.{told_some}
use Rattle.siri_runs.specs.Calls.{Told}
use Rattle.siri_runs.specs.Errors.{shelf_error}
use Rattle.siri_keep_run.specs.Serving.{IsOwn, IsSince, Keeping, KeepsInTurn, KeepsWhole, Leaves, LeavesAmid, LeavesWhole, RestsOver, Serves}
use Rattle.siri_keep_run.specs.Serving.{StandsOver, end_at, given, history_now}
use Rattle.siri_keep_run.proofs.Trails.{adds_as, adds_front_then, adds_nothing, adds_then, front_keeps_after, front_keeps_more, front_keeps_none}
use Rattle.siri_keep_run.proofs.Trails.{keeps_after, keeps_none, told_pair, told_then}

-- ---- what ends it

pub own_error : (why : OutsideError) → IsOwn (shelf_error why)
own_error outside.Failed = tt
own_error outside.OutOfMemory = tt

-- ---- what it stands for

-- over a shelf that was opened
pub since_begun : (kept : Kept) (h : History) (t : ShelfState) → Holds kept t.rows h
    → IsSince kept (record { history = h; tally = nothing_yet; turns = 0; shelf = Some t; since = [] }) t t
since_begun kept h t holds = record {
  holds = subst (Holds kept t.rows) (sym (append-nil h)) holds;
  adds = adds_nothing (λ r. Keeps kept.producer.responder.name r h) (KeepsFront kept.producer.responder.name h []) t
      (keeps_of kept t.rows h holds);
  rests = λ none. refl;
}

-- ---- after a moment

more_steps : (steps : History) (now : ℕ) → steps ++ Clock now ∷ [] ≡ [] → ⊥
more_steps [] now is = cc
more_steps (step ∷ steps) now is = cc

module _ (old new : Kept) (now : ℕ) (name : new.producer.responder.name ≡ old.producer.responder.name) (state : Keeping) where
  since_clocked : (s t u : ShelfState) → IsSince old state s t
      → (Holds old t.rows (history_now state) → Holds new u.rows (history_now state ++ Clock now ∷ [])) × AddsFronts old (Clock now ∷ []) t u
      → IsSince new (given now state) s u
  since_clocked s t u since goes =
      let h = state.history in
      record {
        holds = subst (Holds new u.rows) (append_assoc h state.since (Clock now ∷ [])) (goes.0 since.holds);
        adds = subst (λ n. AddsOnly (λ r. Keeps n r h) (KeepsFront n h (state.since ++ Clock now ∷ [])) s u) (sym name)
            (adds_front_then old.producer.responder.name h state.since (Clock now ∷ []) s t u since.adds
            (goes.1 (history_now state) since.holds));
        rests = λ none. absurd (more_steps state.since now none);
      }

  pub clocked_over : (tally : Tally) (turns : ℕ) (x y : Option ShelfState)
      → ((h : History) → StandsFor old.producer h → StandsFor new.producer (h ++ Clock now ∷ []))
      → (IsSomeAnd x (λ s. Holds old s.rows (history_now state)) → IsSomeAnd y (λ t. Holds new t.rows (history_now state ++ Clock now ∷ [])))
      → WhereTold x y (AddsFronts old (Clock now ∷ []))
      → StandsOver old tally turns x state → StandsOver new tally turns y (given now state)
  clocked_over tally turns x y on holds adds stands =
      let Held : ShelfState → ShelfState → Type 0 =
      λ t u. Holds old t.rows (history_now state) → Holds new u.rows (history_now state ++ Clock now ∷ []) in
      let held : WhereTold x y Held = told_some (AddsFronts old (Clock now ∷ [])) x y (λ s. Holds old s.rows (history_now state))
      (λ t. Holds new t.rows (history_now state ++ Clock now ∷ [])) adds holds in
      record {
        history = subst (StandsFor new.producer) (append_assoc state.history state.since (Clock now ∷ []))
            (on (history_now state) stands.history);
        tally_is = stands.tally_is;
        turns_are = stands.turns_are;
        over = told_then (IsSince old state) (λ t u. Held t u × AddsFronts old (Clock now ∷ []) t u) (IsSince new (given now state))
            state.shelf x y since_clocked stands.over (told_pair Held (AddsFronts old (Clock now ∷ [])) x y held adds);
      }

-- ---- what may be left within a turn

module _ (old : Kept) (wire : Option WireState) (state : Keeping) where
  abbrev own_name : List ℕ
  own_name = old.producer.responder.name

  in_turn_since : (r : Rows) → (Keeps own_name r state.history ⊎ KeepsFront own_name state.history state.since r) → KeepsInTurn own_name state wire r
  in_turn_since r (inl k) = ([], inl refl, keeps_none own_name state.history (state.since ++ []) r k)
  in_turn_since r (inr k) = ([], inl refl, front_keeps_more own_name state.history state.since [] r k)

  in_turn_taken : (asked : Asked) (read : Option WireState) → OnConnection (Asks post_alone (Some asked)) wire read → (r : Rows)
      → (Keeps own_name r (history_now state) ⊎ KeepsFront own_name (history_now state) (taking (message_kept asked)) r) → KeepsInTurn own_name state wire r
  in_turn_taken asked read on r (inl k) =
      (taking (message_kept asked), inr (asked, read, on, refl), keeps_after own_name state.history state.since (taking (message_kept asked)) r k)
  in_turn_taken asked read on r (inr k) =
      (taking (message_kept asked), inr (asked, read, on, refl), front_keeps_after own_name state.history state.since (taking (message_kept asked)) r k)

  pub adds_in_turn : (Whole : Rows → Type 0) (s t u : ShelfState) → IsSince old state s t → AddsTurn old wire t u
      → AddsOnly Whole (KeepsInTurn own_name state wire) s u
  adds_in_turn Whole s t u since (inl same) =
      subst (λ (v : ShelfState). AddsOnly Whole (KeepsInTurn own_name state wire) s v) (sym same)
      (adds_as (λ r. Keeps own_name r state.history) (KeepsFront own_name state.history state.since) Whole (KeepsInTurn own_name state wire)
      (λ r k. inr (in_turn_since r k)) s t since.adds)
  adds_in_turn Whole s t u since (inr (asked, read, on, fronts)) =
      adds_then (λ r. Keeps own_name r state.history) (KeepsFront own_name state.history state.since)
      (λ r. Keeps own_name r (history_now state)) (KeepsFront own_name (history_now state) (taking (message_kept asked)))
      Whole (KeepsInTurn own_name state wire) (λ r k. inr (in_turn_since r k)) (λ r k. inr (in_turn_taken asked read on r k)) s t u since.adds
      (fronts (history_now state) since.holds)

-- ---- after a turn

-- where a shelf told nothing it is taken to tell nothing
abbrev shelf_after : Option ShelfState → Option ShelfState → Option ShelfState
shelf_after None z = None
shelf_after (Some s) z = z

module _ (old mid : Kept) (was is : Tally) (before after : Told WireState) (x y : Option ShelfState)
    (goes : GoesOnServing (at_of old was before.tells before.faults) (at_of mid is after.tells after.faults) x y) (state : Keeping) where
  abbrev name : List ℕ
  name = old.producer.responder.name

  -- the connection was served, and the producer stands for the history that this leaves
  abbrev Served : History → Type 0
  Served next = StandsFor mid.producer next × ServesKept name (end_at state before) (at_of next is after.tells after.faults)
      × WhereTold x y (λ s t. Holds old s.rows (history_now state) → Holds mid t.rows next)

  pub served_over : StandsFor old.producer (history_now state) → was ≡ state.tally → (next : History) × Served next
  served_over stands tally_is =
      let one = goes.goes (history_now state) stands in (
        one.0,
        (
          one.1,
          subst (λ tally. ServesKept name (at_of (history_now state) tally before.tells before.faults) (at_of one.0 is after.tells after.faults))
              tally_is one.2,
          one.3,
        ),
      )

  module _ (new : Kept) (turns : ℕ) (z : Option ShelfState) (on : (h : History) → StandsFor mid.producer h → StandsFor new.producer h)
      (named : new.producer.responder.name ≡ mid.producer.responder.name) (adds : WhereTold x y (AddsTurn old before.tells))
      (holds : (h : History) → StandsFor mid.producer h → IsSomeAnd y (λ t. Holds mid t.rows h) → IsSomeAnd z (λ u. Holds new u.rows h))
      (live : WhereTold y z (λ t u. LeavesLiveAt mid turns t.rows u.rows)) (trail : WhereTold y z (AddsFronts mid []))
      (turns_are : turns ≡ state.turns + 1) where
    abbrev left : History → Option ShelfState → Keeping
    left next shelf = record { history = next; tally = is; turns = state.turns + 1; shelf = shelf; since = [] }

    mid_name : mid.producer.responder.name ≡ name
    mid_name = goes.name

    whole_of : (next : History) (r : Rows) → (Keeps mid.producer.responder.name r next ⊎ KeepsFront mid.producer.responder.name next [] r)
        → Keeps name r next ⊎ KeepsInTurn name state before.tells r
    whole_of next r (inl k) = inl (subst (λ n. Keeps n r next) mid_name k)
    whole_of next r (inr k) = inl (subst (λ n. Keeps n r next) mid_name (front_keeps_none mid.producer.responder.name next r k))

    -- the turn was over, and the rows of dead items left or not
    abbrev Ends : History → ShelfState → ShelfState → Type 0
    Ends next u v = (Holds mid u.rows next → Holds new v.rows next) × LeavesLiveAt mid turns u.rows v.rows

    module _ (next : History) (s t u v : ShelfState) (since : IsSince old state s t) (held : Holds mid u.rows next)
        (added : AddsTurn old before.tells t u) (ends : Ends next u v) (fronts : AddsFronts mid [] u v) (shelf : Option ShelfState) where
      now_keeps : Keeps new.producer.responder.name v.rows next
      now_keeps = keeps_of new v.rows next (ends.0 held)

      since_turn : IsSince new (left next shelf) v v
      since_turn = record {
        holds = subst (Holds new v.rows) (sym (append-nil next)) (ends.0 held);
        adds = adds_nothing (λ r. Keeps new.producer.responder.name r next) (KeepsFront new.producer.responder.name next []) v now_keeps;
        rests = λ none. refl;
      }

      leaves_turn : LeavesWhole name state (left next shelf) before.tells s v
      leaves_turn = record {
        keeps = subst (λ n. Keeps n v.rows next) (named ∙ mid_name) now_keeps;
        trail = adds_then (λ r. Keeps name r next) (KeepsInTurn name state before.tells)
            (λ r. Keeps mid.producer.responder.name r next) (KeepsFront mid.producer.responder.name next [])
            (λ r. Keeps name r next) (KeepsInTurn name state before.tells) (λ r k. k) (whole_of next) s u v
            (adds_in_turn old before.tells state (λ r. Keeps name r next) s t u since added) (fronts next held);
        cleaned = λ n number. ends.1 n (turns_are ∙ number) next held;
      }

    -- as it is told
    leaves_told : (next : History) (from x y z : Option ShelfState) → WhereTold from x (IsSince old state)
        → WhereTold x y (λ s t. Holds old s.rows (history_now state) → Holds mid t.rows next) → WhereTold x y (AddsTurn old before.tells)
        → WhereTold y z (Ends next) → WhereTold y z (AddsFronts mid [])
        → WhereTold from (shelf_after from z) (LeavesWhole name state (left next (shelf_after from z)) before.tells)
        × WhereTold (shelf_after from z) z (IsSince new (left next (shelf_after from z)))
    leaves_told next None x y z since held adds ends fronts = (tt, tt)
    leaves_told next (Some s) None y z since held adds ends fronts = absurd since
    leaves_told next (Some s) (Some t) None z since held adds ends fronts = absurd adds
    leaves_told next (Some s) (Some t) (Some u) None since held adds ends fronts = absurd fronts
    leaves_told next (Some s) (Some t) (Some u) (Some v) since held adds ends fronts = (
      leaves_turn next s t u v since (held since.holds) adds ends fronts (Some v),
      since_turn next s t u v since (held since.holds) adds ends fronts (Some v),
    )

    pub turn_goes : (from : ℕ) → StandsOver old was from x state
        → (to : Keeping) × RestsOver new is turns z to × Serves name state before to after
    turn_goes from stands =
        let one = served_over stands.history stands.tally_is in
        let ends : WhereTold y z (Ends one.0) = told_pair (λ u v. Holds mid u.rows one.0 → Holds new v.rows one.0)
        (λ u v. LeavesLiveAt mid turns u.rows v.rows) y z
        (told_some (AddsFronts mid []) y z (λ u. Holds mid u.rows one.0) (λ v. Holds new v.rows one.0) trail (holds one.0 one.1.0)) live in
        let told = leaves_told one.0 state.shelf x y z stands.over one.1.2 adds ends trail in
        let to = left one.0 (shelf_after state.shelf z) in (
          to,
          record {
            stands = record {
              history = subst (StandsFor new.producer) (sym (append-nil one.0)) (on one.0 one.1.0);
              tally_is = refl;
              turns_are = turns_are;
              over = told.1;
            };
            rests = refl;
          },
          record { serves = one.1.1; turns = refl; since = refl; leaves = told.0 },
        )

  -- whatever came of its end
  module _ (z : Option ShelfState) (adds : WhereTold x y (AddsTurn old before.tells))
      (trail : WhereTold y z (AddsFronts mid [])) where
    abbrev AfterServed : Rows → Type 0
    AfterServed = KeepsWhole name state before after

    after_count : (next : History) → Served next → (r : Rows)
        → (Keeps mid.producer.responder.name r next ⊎ KeepsFront mid.producer.responder.name next [] r) → AfterServed r
    after_count next served r (inl k) = (next, is, served.1, subst (λ n. Keeps n r next) goes.name k)
    after_count next served r (inr k) =
        (next, is, served.1, subst (λ n. Keeps n r next) goes.name (front_keeps_none mid.producer.responder.name next r k))

    leaves_served : (next : History) → Served next → (s t u v : ShelfState) → IsSince old state s t
        → (Holds old t.rows (history_now state) → Holds mid u.rows next) × AddsTurn old before.tells t u → AddsFronts mid [] u v
        → LeavesAmid name state before after s v
    leaves_served next served s t u v since both fronts =
        let counted = fronts next (both.0 since.holds) in
        record {
          trail = adds_then AfterServed (KeepsInTurn name state before.tells) (λ r. Keeps mid.producer.responder.name r next)
              (KeepsFront mid.producer.responder.name next []) AfterServed (KeepsInTurn name state before.tells) (λ r k. k)
              (λ r k. inl (after_count next served r k)) s u v
              (adds_in_turn old before.tells state AfterServed s t u since both.1) counted;
          answered = λ a b from to ok. inr (after_count next served v.rows counted.present);
        }

    pub served_leaves : (turns : ℕ) → StandsOver old was turns x state → Leaves name state before after z
    served_leaves turns stands =
        let one = served_over stands.history stands.tally_is in
        let turn : ShelfState → ShelfState → Type 0 =
        λ t u. (Holds old t.rows (history_now state) → Holds mid u.rows one.0) × AddsTurn old before.tells t u in
        let both : WhereTold x y turn =
        told_pair (λ t u. Holds old t.rows (history_now state) → Holds mid u.rows one.0) (AddsTurn old before.tells) x y one.1.2 adds in
        told_then (IsSince old state) (λ t v. (u : ShelfState) × turn t u × AddsFronts mid [] u v)
        (LeavesAmid name state before after) state.shelf x z
        (λ s t v since some. leaves_served one.0 one.1 s t some.0 v since some.1 some.2) stands.over
        (told_then turn (AddsFronts mid []) (λ t v. (u : ShelfState) × turn t u × AddsFronts mid [] u v) x y z
        (λ t u v a b. (u, a, b)) both trail)

-- where serving ended it
module _ (old : Kept) (was : Tally) (turns : ℕ) (before after : Told WireState) (x y : Option ShelfState)
    (adds : WhereTold x y (AddsTurn old before.tells)) (answered : WhereTold x y (KeepsWhatIsAnswered old before.tells after.tells)) where
  pub stopped_leaves : (state : Keeping) → StandsOver old was turns x state
      → Leaves old.producer.responder.name state before after y
  stopped_leaves state stands =
      let whole = KeepsWhole old.producer.responder.name state before after in
      told_then (IsSince old state) (λ t u. AddsTurn old before.tells t u × KeepsWhatIsAnswered old before.tells after.tells t u)
      (LeavesAmid old.producer.responder.name state before after) state.shelf x y
      (λ s t u since both. record {
        trail = adds_in_turn old before.tells state whole s t u since both.0;
        answered = λ a b from to ok. inl (both.1 a b from to ok (history_now state) since.holds);
      }) stands.over (told_pair (AddsTurn old before.tells) (KeepsWhatIsAnswered old before.tells after.tells) x y adds answered)

-- and of a moment
pub clocked_leaves : (old : Kept) (tally : Tally) (turns now : ℕ) (x y : Option ShelfState) → WhereTold x y (AddsFronts old (Clock now ∷ []))
    → (state : Keeping) → StandsOver old tally turns x state → (wire : Told WireState)
    → Leaves old.producer.responder.name (given now state) wire wire y
clocked_leaves old tally turns now x y adds state stands wire =
    let name = old.producer.responder.name in
    let later = given now state in
    let h = state.history in
    told_then (IsSince old state) (AddsFronts old (Clock now ∷ [])) (LeavesAmid name later wire wire) state.shelf x y
    (λ s t u since fronts. record {
      trail = adds_as (λ r. Keeps name r h) (KeepsFront name h later.since) (KeepsWhole name later wire wire)
          (KeepsInTurn name later wire.tells) (λ r k. inr (in_turn_since old wire.tells later r k)) s u
          (adds_front_then name h state.since (Clock now ∷ []) s t u since.adds (fronts (history_now state) since.holds));
      answered = λ a b from to ok. absurd (not_answered wire.tells a b from to ok);
    }) stands.over adds

-- where a turn was stopped
pub stopped_over : (old : Kept) (was : Tally) (turns : ℕ) (before : Told WireState) (after : Option WireState) (x : Option ShelfState)
    → ((h : History) → StandsFor old.producer h → ServesKeptSome old.producer.responder.name (at_of h was before.tells before.faults) after)
    → (state : Keeping) → StandsOver old was turns x state
    → ServesKeptSome old.producer.responder.name (end_at state before) after
stopped_over old was turns before after x stops state stands =
    subst (λ tally. ServesKeptSome old.producer.responder.name (at_of (history_now state) tally before.tells before.faults) after) stands.tally_is
    (stops (history_now state) stands.history)
