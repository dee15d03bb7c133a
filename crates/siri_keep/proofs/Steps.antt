-- What a step leaves of what a producer knows.
use Rattle.std.proofs.Common.{◌≡◌, List, [], ◌∷◌, ◌++◌, map, refl, sym, ap, ◌∙◌, subst}
use Rattle.std.specs.List.{AllByRecursion as All}
use Rattle.siri_records.specs.Keyed.{living}
use Rattle.siri_subs.specs.declared.entry.Row.{Row}
use Rattle.siri_model.specs.Held.{held_of}
use Rattle.siri_model.specs.History.{History, State, Step, Settle, after_step, state_of}
use Rattle.siri_model.specs.Rows.{KeptLife, rows_after, settled_row}
use Rattle.siri_model.specs.Remembered.{AreRemembered}
use Rattle.siri_model.proofs.Histories.{rows_go_on}
use Rattle.siri_model.proofs.InOrder.{more_steps}
use Rattle.siri_producer.specs.Known.{Follows, Known, GoesOn, SameButReads, StandsFor, looks_of}
use Rattle.siri_outside.specs.Rows.{Rows}
use Rattle.siri_keeping.specs.Keeps.{IsProperStep, Keeps}
use Rattle.siri_keep.specs.declared.kept.Kept.{Kept}
use Rattle.siri_keep.specs.Calls.{GoesOnKept, Holds, Left}
use Rattle.siri_keep.proofs.Left.{keeps_of}

-- one more proper step
pub proper_more : (h : History) (step : Step) → All IsProperStep h → IsProperStep step → All IsProperStep (h ++ step ∷ [])
proper_more [] step all one = (one, tt)
proper_more (first ∷ h) step all one = (all.0, proper_more h step all.1 one)

module _ (old new : Known) (h : History) (step : Step) (s : StandsFor old h) (t : StandsFor new (h ++ step ∷ [])) where
  abbrev later : State
  later = after_step (state_of h) step

  pub start_is : new.responder.start ≡ later.start
  start_is = t.responder.start ∙ ap (λ (x : State). x.start) (more_steps h step)

  pub moment_is : new.responder.moment ≡ later.now
  moment_is = t.responder.moment ∙ ap (λ (x : State). x.now) (more_steps h step)

  pub held_is : new.responder.held ≡ living later.now later.current
  held_is = t.responder.held ∙ ap (λ (x : State). living x.now x.current) (more_steps h step)

  pub table_is : new.table ≡ rows_after (state_of h) step old.table
  table_is = t.table ∙ rows_go_on h step ∙ ap (rows_after (state_of h) step) (sym s.table)

  -- where it leaves what is current and the moment
  module _ (same : after_step (state_of h) step ≡ state_of h) where
    pub same_start : new.responder.start ≡ old.responder.start
    same_start = start_is ∙ ap (λ (x : State). x.start) same ∙ sym s.responder.start

    pub same_moment : new.responder.moment ≡ old.responder.moment
    same_moment = moment_is ∙ ap (λ (x : State). x.now) same ∙ sym s.responder.moment

    pub same_held : new.responder.held ≡ old.responder.held
    same_held = held_is ∙ ap (λ (x : State). living x.now x.current) same ∙ sym s.responder.held

-- what is left depends on these alone
pub left_as : (old new : Kept) (rows : Rows)
    → new.producer.responder.name ≡ old.producer.responder.name
    → new.producer.responder.moment ≡ old.producer.responder.moment
    → new.producer.responder.start ≡ old.producer.responder.start
    → new.producer.responder.held ≡ old.producer.responder.held
    → new.mirror ≡ old.mirror → new.places ≡ old.places
    → map held_of new.producer.table ≡ map held_of old.producer.table
    → Left old rows → Left new rows
left_as old new rows n m s l k p t left = rw (n, m, s, l, k, p, t) left

-- ---- a settle

pub helds_settled : (state : State) (rows : List (Row KeptLife)) → map held_of (rows_after state Settle rows) ≡ map held_of rows
unfolding rows_after
helds_settled state rows = by rows
  where
    by : (rows : List (Row KeptLife)) → map held_of (map (settled_row state.now state.current) rows) ≡ map held_of rows
    by [] = refl
    by (row ∷ rows) = ap (λ helds. held_of row ∷ helds) (by rows)

same_settled : (state : State) → after_step state Settle ≡ state
unfolding after_step
same_settled state = refl

pub settle_goes : (old new : Kept) → new ≡ record old { producer = new.producer }
    → new.producer.responder.name ≡ old.producer.responder.name → GoesOn old.producer new.producer Settle
    → (rows : Rows) → GoesOnKept old new (Settle ∷ []) rows rows
settle_goes old new rest name goes rows = λ h holds.
    let t = goes.stands h holds.stands in
    let same = same_settled (state_of h) in
    let helds = ap (map held_of) (table_is old.producer new.producer h Settle holds.stands t)
    ∙ helds_settled (state_of h) old.producer.table in
    let after : Holds new rows (h ++ Settle ∷ []) = record {
      left = left_as old new rows name
          (same_moment old.producer new.producer h Settle holds.stands t same)
          (same_start old.producer new.producer h Settle holds.stands t same)
          (same_held old.producer new.producer h Settle holds.stands t same)
          (ap (λ (k : Kept). k.mirror) rest) (ap (λ (k : Kept). k.places) rest) helds holds.left;
      stands = t;
      proper = proper_more h Settle holds.proper tt;
    } in
    record {
      holds = after;
      keeps = subst (λ n. Keeps n rows (h ++ Settle ∷ [])) name (keeps_of new rows (h ++ Settle ∷ []) after);
    }

-- ---- steps of the counter

-- they change nothing that is stood for
pub stands_read : (old new : Known) (h : History) → SameButReads old new → StandsFor old h → StandsFor new h
stands_read old new h same s = subst (λ (k : Known). StandsFor k h) (sym same) (record {
  responder = record { start = s.responder.start; started = s.responder.started; moment = s.responder.moment; held = s.responder.held };
  table = s.table;
  settled = s.settled;
})

-- or followed
pub follows_read : (old new : Known) (h : History) → SameButReads old new → Follows old h → Follows new h
follows_read old new h same f = record {
  stands = stands_read old new h same f.stands;
  looks = subst (λ looks. AreRemembered looks (looks_of h)) (sym (ap (λ (k : Known). k.looks) same)) f.looks;
}
