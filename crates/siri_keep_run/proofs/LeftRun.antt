-- What a run leaves on a shelf that tells its rows.
use Rattle.std.specs.Prelude.{⊤}
use Rattle.std.specs.List.{AllByRecursion as All}
use Rattle.std.proofs.Common.{◌≡◌, ◌⊎◌, ◌≤◌, ◌<◌, ℕ, zero, suc, List, [], ◌∷◌, ◌++◌, Option, None, Some, refl, sym, ◌∙◌, subst, inl, inr, arith}
use Rattle.siri_outside.specs.OutsideCalls.{WhereTold}
use Rattle.siri_outside.specs.Wires.{WireState}
use Rattle.siri_base.specs.declared.status.Status.{Status}
use Rattle.siri_model.specs.History.{History}
use Rattle.siri_outside.specs.Rows.{Rows}
use Rattle.siri_outside.specs.Shelves.{ShelfState}
use Rattle.siri_keeping.specs.Keeping.{AddsOnly}
use Rattle.siri_keeping.specs.Keeps.{Keeps}
use Rattle.siri_keep.proofs.Alls.{all_weaker}
use Rattle.siri_keep.proofs.Fed.{all_appended}
use Rattle.siri_keep.proofs.Told.{told_weaker}
use Rattle.siri_runs.specs.Calls.{Outside, Told}
use Rattle.siri_runs.specs.Left.{AnswersNone}
use Rattle.siri_runs.specs.Run.{Completes, EndsBefore}
use Rattle.siri_runs.specs.Turns.{Running, Turns, running}
use Rattle.siri_runs.specs.producers.Opening.{Opens}
use Rattle.siri_runs.proofs.TurnByTurn.{turns_none}
use Rattle.siri_keep_run.specs.Left.{Begun, IsLeft, KeepAnswered, KeepTrail, KeepsAnswers, KeepsSoFar, SoFar}
use Rattle.siri_keep_run.specs.Opening.{AreAsOpened, BeginsBy, BeginsKeeping, BeginsWith, FailsToOpen, LeavesUnopened, begun}
use Rattle.siri_keep_run.specs.Runs.{keep_procedure}
use Rattle.siri_keep_run.specs.Serving.{Keeping, KeepsInTurn, KeepsTurn, KeepsTurns, KeepsWhole, LeavesAmid, LeavesAtTurn, LeavesWhole, given}

-- with the outside as it is
module _ (name listen file : List ℕ) (count : ℕ) (before : ShelfState) (from : Outside) where
  abbrev Left_ : Rows → Type 0
  Left_ = IsLeft name listen file count from before

  module _ (start moment : ℕ) (open_ : Outside) (opens : Opens listen start moment from open_) (shelf : Option ShelfState) (first : History)
      (begins : BeginsWith name file start moment (Some before) shelf first) where
    abbrev First : Running Keeping
    First = begun first shelf open_

    so_far : (made : ℕ) (at : Running Keeping) → made ≤ count → KeepsTurns name made First at → SoFar name listen file count before from at
    so_far made at most turns = record {
      start = start;
      moment = moment;
      open_ = open_;
      opens = opens;
      shelf = shelf;
      first = first;
      begins = begins;
      made = made;
      most = most;
      turns = turns;
    }

    left_by : (made : ℕ) (at : Running Keeping) → made ≤ count → KeepsTurns name made First at → (r : Rows) → KeepsSoFar name at r → Left_ r
    left_by made at most turns r keeps = inr (inr (at, so_far made at most turns, keeps))

    first_row : (r : Rows) → ((r ≡ before.rows) ⊎ Keeps name r first) → Left_ r
    first_row r (inl is) = inl is
    first_row r (inr keeps) = inr (inr (First, so_far 0 First (omega arith) (turns_none (KeepsTurn name) First), inl keeps))

    -- a turn's rows
    turn_row : (made : ℕ) (at to : Running Keeping) → made < count → KeepsTurns name made First at → KeepsTurns name (suc made) First to
        → (turn : KeepsTurn name at to) → (r : Rows)
        → (Keeps name r to.state.history ⊎ KeepsInTurn name (given turn.moment at.state) turn.wire.tells r) → Left_ r
    turn_row made at to fewer turns more turn r (inl keeps) = left_by (suc made) to (omega (arith, fewer)) more r (inl keeps)
    turn_row made at to fewer turns more turn r (inr keeps) = left_by made at (omega (arith, fewer)) turns r
        (inr (
          turn.moment,
          turn.wire,
          to.outside.wire,
          record { clock = to.outside.clock; accepts = turn.accepts; tells = turn.tells },
          inl keeps,
        ))

    -- of a shelf after turns
    abbrev Trailed : Option ShelfState → Type 0
    Trailed x = WhereTold (Some before) x (λ s t. (t.named ≡ s.named ++ file ∷ []) × All Left_ t.trail × Left_ t.rows)

    trailed_then : (x y : Option ShelfState) (B A : Rows → Type 0) → Trailed x → WhereTold x y (λ s t. AddsOnly B A s t)
        → ((r : Rows) → (B r ⊎ A r) → Left_ r) → Trailed y
    trailed_then None y B A trailed adds f = absurd trailed
    trailed_then (Some s) None B A trailed adds f = absurd adds
    trailed_then (Some s) (Some t) B A trailed adds f = (
      adds.named ∙ trailed.0,
      subst (All Left_) (sym adds.trail) (all_appended Left_ s.trail adds.added trailed.1
          (all_weaker (λ r. B r ⊎ A r) Left_ f adds.added adds.each)),
      f t.rows adds.present,
    )

    first_trailed : (x : Option ShelfState) → BeginsWith name file start moment (Some before) x first → Trailed x
    first_trailed None b = b
    first_trailed (Some t) b =
        (b.named, all_weaker (λ r. (r ≡ before.rows) ⊎ Keeps name r first) Left_ first_row t.trail b.trail, first_row t.rows (inr b.keeps))

    trailed : (made : ℕ) (at : Running Keeping) → made ≤ count → KeepsTurns name made First at → Trailed at.state.shelf
    unfolding Turns
    trailed zero at most is = subst (λ (a : Running Keeping). Trailed a.state.shelf) (sym is) (first_trailed shelf begins)
    trailed (suc made) at most some =
        trailed_then some.0.state.shelf at.state.shelf (λ r. Keeps name r at.state.history)
        (KeepsInTurn name (given some.2.moment some.0.state) some.2.wire.tells)
        (trailed made some.0 (omega (arith, most)) some.1)
        (told_weaker (LeavesWhole name (given some.2.moment some.0.state) at.state some.2.wire.tells)
        (λ s t. AddsOnly (λ r. Keeps name r at.state.history) (KeepsInTurn name (given some.2.moment some.0.state) some.2.wire.tells) s t)
        some.0.state.shelf at.state.shelf (λ s t leaves. leaves.trail) some.2.answers.leaves)
        (turn_row made some.0 at (omega (arith, most)) some.1 some some.2)

    -- the history of all turns is kept at rest
    abbrev Kept_ : Running Keeping → Option ShelfState → Type 0
    Kept_ at x = WhereTold (Some before) x (λ s t. Keeps name t.rows at.state.history)

    kept_then : (at : Running Keeping) (x y : Option ShelfState) (P : ShelfState → ShelfState → Type 0) → WhereTold (Some before) x (λ s t. ⊤)
        → WhereTold x y P → ((s t : ShelfState) → P s t → Keeps name t.rows at.state.history) → Kept_ at y
    kept_then at None y P told p f = absurd told
    kept_then at (Some s) None P told p f = absurd p
    kept_then at (Some s) (Some t) P told p f = f s t p

    kept_told : (at : Running Keeping) (x : Option ShelfState) → Kept_ at x → WhereTold (Some before) x (λ s t. ⊤)
    kept_told at None k = k
    kept_told at (Some t) k = tt

    kept : (made : ℕ) (at : Running Keeping) → KeepsTurns name made First at → Kept_ at at.state.shelf
    unfolding Turns
    kept zero at is = subst (λ (a : Running Keeping). Kept_ a a.state.shelf) (sym is)
        (told_weaker (λ s t. BeginsBy name file start moment s t first) (λ s t. Keeps name t.rows first) (Some before) shelf (λ s t b. b.keeps) begins)
    kept (suc made) at some = kept_then at some.0.state.shelf at.state.shelf (LeavesWhole name (given some.2.moment some.0.state) at.state some.2.wire.tells)
        (kept_told some.0 some.0.state.shelf (kept made some.0 some.1)) some.2.answers.leaves (λ s t leaves. leaves.keeps)

    -- ---- where a turn ended it

    module _ (made : ℕ) (last : Running Keeping) (fewer : made < count) (turns : KeepsTurns name made First last) (to : Outside) where
      amid_row : (moment : ℕ) (wire after : Told WireState) → Begun last moment wire → (r : Rows)
          → (KeepsWhole name (given moment last.state) wire after r ⊎ KeepsInTurn name (given moment last.state) wire.tells r) → KeepsSoFar name last r
      amid_row moment wire after begun_ r (inl whole) = inr (moment, wire, after, begun_, inr whole)
      amid_row moment wire after begun_ r (inr front) = inr (moment, wire, after, begun_, inl front)

      stayed : (P : Option ShelfState → Type 0) (x y : Option ShelfState) → WhereTold (Some before) x (λ s t. ⊤) → P x
          → WhereTold x y (λ s t. t ≡ s) → P y
      stayed P None y told p same = absurd told
      stayed P (Some s) None told p same = absurd same
      stayed P (Some s) (Some t) told p same = subst (λ v. P (Some v)) (sym same) p

      trailed_amid : (y : Option ShelfState) → LeavesAtTurn name y last to → Trailed y
      trailed_amid y (inl (same, no_more)) = stayed Trailed last.state.shelf y (kept_told last last.state.shelf (kept made last turns))
          (trailed made last (omega (arith, fewer)) turns) same
      trailed_amid y (inr b) =
          let begun_ : Begun last b.moment b.wire = record { clock = to.clock; accepts = b.accepts; tells = b.tells } in
          trailed_then last.state.shelf y (KeepsWhole name (given b.moment last.state) b.wire to.wire)
          (KeepsInTurn name (given b.moment last.state) b.wire.tells) (trailed made last (omega (arith, fewer)) turns)
          (told_weaker (LeavesAmid name (given b.moment last.state) b.wire to.wire)
          (λ s t. AddsOnly (KeepsWhole name (given b.moment last.state) b.wire to.wire) (KeepsInTurn name (given b.moment last.state) b.wire.tells) s t)
          last.state.shelf y (λ s t leaves. leaves.trail) b.leaves)
          (λ r k. left_by made last (omega (arith, fewer)) turns r (amid_row b.moment b.wire to.wire begun_ r k))

      trailed_as : (y : Option ShelfState) → Trailed y → WhereTold (Some before) y (KeepTrail name listen file count from)
      trailed_as None t = t
      trailed_as (Some after) t = inr (inr t)

      pub trail_ended : (y : Option ShelfState) → LeavesAtTurn name y last to → WhereTold (Some before) y (KeepTrail name listen file count from)
      trail_ended y leaves = trailed_as y (trailed_amid y leaves)

      abbrev Answers_ : Option ShelfState → Type 0
      Answers_ y = WhereTold (Some before) y (KeepsAnswers name listen file count from to)

      reached : SoFar name listen file count before from last
      reached = so_far made last (omega (arith, fewer)) turns

      answers_stayed : (x y : Option ShelfState) → Kept_ last x → WhereTold x y (λ s t. t ≡ s) → AnswersNone last.outside to → Answers_ y
      answers_stayed None y k same none = absurd k
      answers_stayed (Some s) None k same none = absurd same
      answers_stayed (Some s) (Some t) k same none = record {
        last = last;
        so_far = reached;
        keeps = inl (subst (λ (v : ShelfState). Keeps name v.rows last.state.history) (sym same) k);
        ends = inl (inr none);
      }

      answers_begun : (x y : Option ShelfState) → Kept_ last x → (moment : ℕ) (wire : Told WireState) → Begun last moment wire
          → WhereTold x y (LeavesAmid name (given moment last.state) wire to.wire) → Answers_ y
      answers_begun None y k moment wire begun_ leaves = absurd k
      answers_begun (Some s) None k moment wire begun_ leaves = absurd leaves
      answers_begun (Some s) (Some t) k moment wire begun_ leaves = record {
        last = last;
        so_far = reached;
        keeps = amid_row moment wire to.wire begun_ t.rows leaves.trail.present;
        ends = inr (record { moment = moment; wire = wire; begun_ = begun_; answered = leaves.answered });
      }

      pub answers_ended : (y : Option ShelfState) → LeavesAtTurn name y last to → Answers_ y
      answers_ended y (inl (same, none)) = answers_stayed last.state.shelf y (kept made last turns) same none
      answers_ended y (inr b) = answers_begun last.state.shelf y (kept made last turns) b.moment b.wire
          (record { clock = to.clock; accepts = b.accepts; tells = b.tells }) b.leaves

    -- ---- where all connections were served

    pub trail_whole : (end : Running Keeping) (y : Option ShelfState) → KeepsTurns name count First end
        → WhereTold (Some before) y (λ s t. end.state.shelf ≡ Some t) → WhereTold (Some before) y (KeepTrail name listen file count from)
    trail_whole end None turns leaves = absurd leaves
    trail_whole end (Some t) turns leaves = inr (inr (subst Trailed leaves (trailed count end (omega arith) turns)))

    pub answers_whole : (end : Running Keeping) (to : Outside) (y : Option ShelfState) → KeepsTurns name count First end → to ≡ end.outside
        → WhereTold (Some before) y (λ s t. Keeps name t.rows end.state.history)
        → WhereTold (Some before) y (KeepsAnswers name listen file count from to)
    answers_whole end to None turns is keeps = absurd keeps
    answers_whole end to (Some t) turns is keeps = record {
      last = end;
      so_far = so_far count end (omega arith) turns;
      keeps = inl keeps;
      ends = inl (inl is);
    }

-- ---- by how it ended

module _ (name listen file : List ℕ) (count : ℕ) (from to : Outside) where
  abbrev Trail_ : Option ShelfState → Option ShelfState → Type 0
  Trail_ x y = WhereTold x y (KeepTrail name listen file count from)

  unopened_row : (start moment : ℕ) → Opens listen start moment from to → (s : ShelfState) (r : Rows) → AreAsOpened name start moment s.rows r
      → IsLeft name listen file count from s r
  unopened_row start moment opens s r rows = inr (inl (start, moment, to, opens, rows))

  unopened_trail : (start moment : ℕ) → Opens listen start moment from to → (s t : ShelfState) → LeavesUnopened name file start moment s t
      → KeepTrail name listen file count from s t
  unopened_trail start moment opens s t (inl same) = inl same
  unopened_trail start moment opens s t (inr (inl called)) = inr (inl called)
  unopened_trail start moment opens s t (inr (inr rows)) =
      inr (inr (
        rows.0,
        all_weaker (AreAsOpened name start moment s.rows) (IsLeft name listen file count from s) (unopened_row start moment opens s) t.trail rows.1,
        unopened_row start moment opens s t.rows rows.2,
      ))

  trail_same : (x : Option ShelfState) → Trail_ x x
  trail_same None = tt
  trail_same (Some s) = inl refl

  -- the turns of a run that opened so
  turns_from : (x : Option ShelfState) (first at : Running Keeping) (made : ℕ) (opens : BeginsKeeping name listen file x from first)
      → KeepsTurns name made first at → KeepsTurns name made (begun opens.history opens.shelf first.outside) at
  turns_from x first at made opens turns = subst (λ (f : Running Keeping). KeepsTurns name made f at) opens.first_is turns

  pub trail_all : (text : List ℕ) (x y : Option ShelfState) → Completes (keep_procedure name listen file x y) count text from to → Trail_ x y
  trail_all text None y all = tt
  trail_all text (Some s) y all = trail_whole name listen file count s from all.opens.start all.opens.moment all.first.outside all.opens.opens
      all.opens.shelf all.opens.history all.opens.begins (running all.end to) y
      (turns_from (Some s) all.first (running all.end to) count all.opens all.turns) all.leaves.1

  pub trail_not : (end : Status) (x y : Option ShelfState) → EndsBefore (keep_procedure name listen file x y) count end from to → Trail_ x y
  trail_not end None y not = tt
  trail_not end (Some s) y (inl (inl fails)) = subst (Trail_ (Some s)) (sym fails.same) (trail_same (Some s))
  trail_not end (Some s) y (inl (inr fails)) = told_weaker (LeavesUnopened name file fails.start fails.moment) (KeepTrail name listen file count from) (Some s) y
      (unopened_trail fails.start fails.moment fails.opens) fails.leaves
  trail_not end (Some s) y (inr fails) = trail_ended name listen file count s from fails.opens.start fails.opens.moment fails.first.outside
      fails.opens.opens fails.opens.shelf fails.opens.history fails.opens.begins fails.fails.made fails.fails.last fails.fails.fewer
      (turns_from (Some s) fails.first fails.fails.last fails.fails.made fails.opens fails.fails.turns) to y fails.leaves

  abbrev Answered_ : Status → Option ShelfState → Option ShelfState → Type 0
  Answered_ end x y = WhereTold x y (KeepAnswered name listen file count end from to)

  pub answered_all : (text : List ℕ) (end : Status) (x y : Option ShelfState) → Completes (keep_procedure name listen file x y) count text from to
      → Answered_ end x y
  answered_all text end None y all = tt
  answered_all text end (Some s) y all = told_weaker (KeepsAnswers name listen file count from to) (KeepAnswered name listen file count end from to) (Some s) y
      (λ s t answers. inr answers)
      (answers_whole name listen file count s from all.opens.start all.opens.moment all.first.outside all.opens.opens all.opens.shelf
      all.opens.history all.opens.begins (running all.end to) to y
      (turns_from (Some s) all.first (running all.end to) count all.opens all.turns) refl all.leaves.0)

  answered_unopened : (end : Status) (s : ShelfState) (y : Option ShelfState) → FailsToOpen name listen file end (Some s) y from to
      → WhereTold (Some s) y (λ s t. ⊤) → Answered_ end (Some s) y
  answered_unopened end s None fails told = told
  answered_unopened end s (Some t) fails told = inl fails

  told_same_shelf : (s : ShelfState) (y : Option ShelfState) → y ≡ Some s → WhereTold (Some s) y (λ s t. ⊤)
  told_same_shelf s y is = subst (λ x. WhereTold (Some s) x (λ s t. ⊤)) (sym is) tt

  pub answered_not : (end : Status) (x y : Option ShelfState) → EndsBefore (keep_procedure name listen file x y) count end from to → Answered_ end x y
  answered_not end None y not = tt
  answered_not end (Some s) y (inl (inl fails)) = answered_unopened end s y (inl fails) (told_same_shelf s y fails.same)
  answered_not end (Some s) y (inl (inr fails)) = answered_unopened end s y (inr fails)
      (told_weaker (LeavesUnopened name file fails.start fails.moment) (λ s t. ⊤) (Some s) y (λ s t l. tt) fails.leaves)
  answered_not end (Some s) y (inr fails) = told_weaker (KeepsAnswers name listen file count from to) (KeepAnswered name listen file count end from to) (Some s) y
      (λ s t answers. inr answers)
      (answers_ended name listen file count s from fails.opens.start fails.opens.moment fails.first.outside fails.opens.opens fails.opens.shelf
      fails.opens.history fails.opens.begins fails.fails.made fails.fails.last fails.fails.fewer
      (turns_from (Some s) fails.first fails.fails.last fails.fails.made fails.opens fails.fails.turns) to y fails.leaves)
