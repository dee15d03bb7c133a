-- A run of `keep`, as its parts make it.
use Rattle.std.specs.Prelude.{⊤}
use Rattle.std.proofs.Common.{◌≡◌, ℕ, zero, suc, List, [], ◌++◌, Option, None, Some, Err, refl, sym, ap, ◌∙◌, subst, append-nil, arith}
use Rattle.siri_outside.specs.Causes.{Rose}
use Rattle.siri_outside.specs.OutsideCalls.{WhereTold}
use Rattle.siri_base.specs.declared.status.Status.{Status}
use Rattle.siri_base.specs.declared.status.Status.TheVariants as status
use Rattle.siri_http.specs.Tallies.{nothing_yet}
use Rattle.siri_http.specs.declared.tally.Tally.{Tally}
use Rattle.siri_model.specs.History.{History}
use Rattle.siri_outside.specs.Shelves.{ShelfState, after_fault}
use Rattle.siri_keeping.specs.Keeps.{Keeps}
use Rattle.siri_keep.specs.declared.kept.Kept.{Kept}
use Rattle.siri_keep.proofs.Left.{keeps_of}
use Rattle.siri_keep.proofs.Told.{told_weaker}
use Rattle.siri_runs.specs.Calls.{CountsShelf, Outside}
use Rattle.siri_runs.specs.Errors.{status_of}
use Rattle.siri_runs.specs.Run.{Completes}
use Rattle.siri_runs.specs.Summaries.{summary_text}
use Rattle.siri_runs.specs.Turns.{Running, Turns, running}
use Rattle.siri_runs.specs.declared.network_error.NetworkError.{NetworkError}
use Rattle.siri_runs.specs.declared.network_error.NetworkError.TheVariants as error
use Rattle.siri_keep_run.specs.Opening.{BeginsBy, BeginsKeeping, BeginsWith, CountsEnd, CountsOpening, OpensKept, begun}
use Rattle.siri_keep_run.specs.Runs.{keep_procedure}
use Rattle.siri_keep_run.specs.Serving.{IsSince, Keeping, KeepsTurns, LeavesWhole, RestsOver, StandsOver, given, history_now}
use Rattle.siri_keep_run.proofs.Opened.{begins_over}
use Rattle.siri_keep_run.proofs.Trails.{told_then}

-- ---- its turns

-- a shelf that tells its rows goes on to tell them
told_on : (name : List ℕ) (count : ℕ) (x : Option ShelfState) (from to : Running Keeping) → KeepsTurns name count from to
    → WhereTold x from.state.shelf (λ s t. ⊤) → WhereTold x to.state.shelf (λ s t. ⊤)
unfolding Turns
told_on name zero x from to is told = subst (λ (r : Running Keeping). WhereTold x r.state.shelf (λ s t. ⊤)) (sym is) told
told_on name (suc count) x from to some told =
    told_then (λ s t. ⊤) (LeavesWhole name (given some.2.moment some.0.state) to.state some.2.wire.tells) (λ s t. ⊤) x some.0.state.shelf to.state.shelf
    (λ s t u p q. tt) (told_on name count x from some.0 some.1 told) some.2.answers.leaves

begins_told : (name file : List ℕ) (start moment : ℕ) (x shelf : Option ShelfState) (h : History) → BeginsWith name file start moment x shelf h
    → WhereTold x shelf (λ s t. ⊤)
begins_told name file start moment x shelf h begins = told_weaker (λ s t. BeginsBy name file start moment s t h) (λ s t. ⊤) x shelf (λ s t b. tt) begins

-- a shelf at rest is as the last turn left it
left_at_rest : (kept : Kept) (state : Keeping) (x y : Option ShelfState) → state.since ≡ [] → WhereTold x state.shelf (λ s t. ⊤)
    → WhereTold state.shelf y (IsSince kept state) → WhereTold x y (λ s t. state.shelf ≡ Some t)
left_at_rest kept state x y none told since = by x state.shelf y refl told since
  where
    by : (x shelf y : Option ShelfState) → state.shelf ≡ shelf → WhereTold x shelf (λ s t. ⊤) → WhereTold shelf y (IsSince kept state)
        → WhereTold x y (λ s t. state.shelf ≡ Some t)
    by None shelf y is told since = tt
    by (Some s) None y is told since = absurd told
    by (Some s) (Some t) None is told since = absurd since
    by (Some s) (Some t) (Some u) is told since = is ∙ ap Some (sym (since.rests none))

keeps_at_rest : (kept : Kept) (state : Keeping) (x y : Option ShelfState) → state.since ≡ [] → WhereTold x state.shelf (λ s t. ⊤)
    → WhereTold state.shelf y (IsSince kept state) → WhereTold x y (λ s t. Keeps kept.producer.responder.name t.rows state.history)
keeps_at_rest kept state x y none told since =
    told_then (λ s t. ⊤) (IsSince kept state) (λ s t. Keeps kept.producer.responder.name t.rows state.history) x state.shelf y
    (λ s t u p i. subst (Keeps kept.producer.responder.name u.rows) (ap (λ l. state.history ++ l) none ∙ append-nil state.history)
    (keeps_of kept u.rows (history_now state) i.holds)) told since

module _ (name listen file : List ℕ) (count : ℕ) (kept : Kept) (x y : Option ShelfState) (from open_ : Outside)
    (opens : OpensKept name listen file kept x y from open_) where
  abbrev begins : (shelf : Option ShelfState) × (h : History) × BeginsWith name file opens.start opens.moment x shelf h
      × StandsOver kept nothing_yet 0 y (begun h shelf open_).state
  begins = begins_over name file opens.start opens.moment kept x y open_ opens.opened

  -- what it stands for as it opened
  abbrev pub first_state : Keeping
  first_state = (begun begins.1 begins.0 open_).state

  pub first_rests : (tally : Tally) → tally ≡ nothing_yet → RestsOver kept tally 0 y first_state
  first_rests tally none = record { stands = subst (λ t. StandsOver kept t 0 y first_state) (sym none) begins.3; rests = refl }

  pub opened : BeginsKeeping name listen file x from (running first_state open_)
  opened = record {
    start = opens.start;
    moment = opens.moment;
    opens = opens.opens;
    shelf = begins.0;
    history = begins.1;
    begins = begins.2;
    first_is = refl;
  }

  -- every connection was served
  pub all_kept : (last : Kept) (tally : Tally) (z : Option ShelfState) (to : Outside)
      → (end : Keeping) × RestsOver last tally count z end × KeepsTurns name count (running first_state open_) (running end to)
      × (last.producer.responder.name ≡ name)
      → Completes (keep_procedure name listen file x z) count (summary_text tally) from to
  all_kept last tally z to one =
      let over = one.1.stands.over in
      let told = told_on name count x (running first_state open_) (running one.0 to) one.2
      (begins_told name file opens.start opens.moment x begins.0 begins.1 begins.2) in
      record {
        first = running first_state open_;
        opens = opened;
        end = one.0;
        turns = one.2;
        leaves = (
          subst (λ n. WhereTold x z (λ s t. Keeps n t.rows one.0.history)) one.3 (keeps_at_rest last one.0 x z one.1.rests told over),
          left_at_rest last one.0 x z one.1.rests told over,
        );
        text_is = ap summary_text one.1.stands.tally_is;
      }

-- ---- the shelf

counts_of : (T U : Type 0) (a b c : ℕ) (e : NetworkError) → b ≡ a → CountsShelf {T = T} b c (Err e)
    → CountsOpening {T = U} a c (Err (status_of e))
counts_of T U a b c error.WireFault same counts = counts ∙ same
counts_of T U a b c error.ClockFault same counts = counts ∙ same
counts_of T U a b c error.KeeperFault same counts = counts ∙ same
counts_of T U a b c error.ShelfFault same counts = counts ∙ ap after_fault same
counts_of T U a b c error.OutOfMemory same counts = counts ∙ same

-- a turn ended the run, and none before it failed
pub counts_turns : (T U : Type 0) (a b c : ℕ) (e : NetworkError) (end : Status) → end ≡ status_of e → b ≡ a → CountsShelf {T = T} b c (Err e)
    → CountsOpening {T = U} a c (Err end)
counts_turns T U a b c e end is same counts = subst (λ s. CountsOpening {T = U} a c (Err s)) (sym is) (counts_of T U a b c e same counts)

-- a run that ends as the shelf failed raised its count
pub shelf_rose : (a c : ℕ) (end : Status) → CountsEnd a c end → end ≡ status.ShelfFault → Rose a c
shelf_rose a c end counts is = let now : c ≡ after_fault a = subst (CountsEnd a c) is counts in omega (arith, now)
