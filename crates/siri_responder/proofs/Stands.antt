-- A responder goes on standing for its history.
use Rattle.std.proofs.Common.{◌≡◌, ℕ, List, [], ◌∷◌, ◌++◌, length, take, map, fold, max, refl, sym, ap, ◌∙◌, arith}
use Rattle.std.proofs.Math.Seq.{take-append_seam}
use Rattle.siri_records.specs.Keyed.{Items, living}
use Rattle.siri_records.specs.declared.key.Key.{Key}
use Rattle.siri_records.specs.KeyLists.{with_keys}
use Rattle.siri_store.specs.Marked.{Marked, keys_since, unmarked}
use Rattle.siri_model.specs.History.{Entry, Start, Clock, Feed, History, State, after_entry, after_step, state_of, now_of, current}
use Rattle.siri_model.specs.Fed.{counts_of}
use Rattle.siri_model.specs.Last.{entry_key}
use Rattle.siri_store.specs.Held.{Held}
use Rattle.siri_responder.specs.declared.feeding.Fed.{Fed}
use Rattle.siri_responder.specs.declared.feeding.Feeding.{Feeding}
use Rattle.siri_responder.specs.Feeding.{Filling, filling, after_all, AreMarked, TakesEntries, ReachesSome}
use Rattle.siri_responder.specs.Known.{Known, StandsFor, GoesOn, Touches, TookSome, CountsFor}
use Rattle.siri_responder.specs.Standing.{HasHistory}
use Rattle.siri_responder.specs.FedCounts.{fed_counts}
use Rattle.siri_model.proofs.InOrder.{current_in_order, more_steps, live_later}
use Rattle.siri_responder.proofs.Fold.{none_fed, fitting, all_alike}

-- ---- one more step

stands_as : (known : Known) (h : History) (state : State) → state_of h ≡ state → known.start ≡ state.start
    → known.started ≡ state.started → known.moment ≡ state.now → known.held ≡ living state.now state.current
    → StandsFor known h
stands_as known h state is start started moment held = record {
  start = start ∙ ap (λ (s : State). s.start) (sym is);
  started = started ∙ ap (λ (s : State). s.started) (sym is);
  moment = moment ∙ ap (λ (s : State). s.now) (sym is);
  held = held ∙ ap (λ (s : State). living s.now s.current) (sym is);
}

-- histories after which the same is known
pub stands_alike : (known : Known) (h other : History) → state_of other ≡ state_of h → StandsFor known h → StandsFor known other
stands_alike known h other is s = stands_as known other (state_of h) is s.start s.started s.moment s.held

-- ---- the start

pub stands_new : (known : Known) (number now : ℕ) → known.start ≡ number → known.started ≡ now → known.moment ≡ now
    → known.held ≡ [] → StandsFor known (Start number now ∷ [])
unfolding after_step
stands_new known number now start started moment held = record {
  start = start;
  started = started;
  moment = moment;
  held = held;
}

-- ---- the clock

pub stands_clock : (old new : Known) (moment : ℕ) (h : History) → StandsFor old h → new.start ≡ old.start
    → new.started ≡ old.started → new.moment ≡ max old.moment moment
    → new.held ≡ living (max old.moment moment) old.held → StandsFor new (h ++ Clock moment ∷ [])
unfolding after_step
stands_clock old new moment h s start started now held =
    stands_as new (h ++ Clock moment ∷ []) (after_step (state_of h) (Clock moment)) (more_steps h (Clock moment))
    (start ∙ s.start)
    (started ∙ s.started)
    (now ∙ ap (λ n. max n moment) s.moment)
    (held ∙ ap (λ n. living (max n moment) old.held) s.moment ∙ ap (living (max (now_of h) moment)) s.held
    ∙ live_later (now_of h) (max (now_of h) moment) (current h) (omega arith))

-- ---- a feed

abbrev pub nothing_told : Fed
nothing_told = record { observed = 0; withdrawn = 0; full = 0 }

-- what a responder holds, as a store that told nothing yet
abbrev pub store_of : Known → Filling
store_of k = record { store = record { entries = k.held; moment = k.moment; reads = k.reads }; fed = nothing_told }

told_none : fed_counts none_fed ≡ nothing_told
told_none = refl

store_fits : (k : Known) (h : History) → StandsFor k h → store_of k ≡ fitting (now_of h) k.reads (current h) none_fed
store_fits k h s = λ i. record { store = record { entries = s.held i; moment = s.moment i; reads = k.reads }; fed = told_none i }

fed_is : (k : Known) (h : History) (entries : List Entry) → StandsFor k h
    → after_all (store_of k) entries ≡ fitting (now_of h) k.reads (fold (after_entry (now_of h)) (current h) entries)
    (counts_of (now_of h) (current h) entries)
fed_is k h entries s = ap (λ f. after_all f entries) (store_fits k h s) ∙ all_alike (now_of h) k.reads (current h) entries (current_in_order h)

pub stands_fed : (old new : Known) (entries : List Entry) (h : History) → StandsFor old h → new.start ≡ old.start
    → new.started ≡ old.started → record {
      entries = new.held;
      moment = new.moment;
      reads = new.reads;
    } ≡ (after_all (store_of old) entries).store → StandsFor new (h ++ Feed entries ∷ [])
unfolding after_step
stands_fed old new entries h s start started is =
    let fed = is ∙ ap (λ (f : Filling). f.store) (fed_is old h entries s) in
    stands_as new (h ++ Feed entries ∷ []) (after_step (state_of h) (Feed entries)) (more_steps h (Feed entries))
    (start ∙ s.start)
    (started ∙ s.started)
    (ap (λ (t : Held). t.moment) fed)
    (ap (λ (t : Held). t.entries) fed)

pub told_fed : (old : Known) (fed : Fed) (entries : List Entry) (h : History) → StandsFor old h
    → fed ≡ (after_all (store_of old) entries).fed → fed ≡ fed_counts (counts_of (now_of h) (current h) entries)
told_fed old fed entries h s is = is ∙ ap (λ (f : Filling). f.fed) (fed_is old h entries s)

-- what a responder knows before a feed and after it, and what feeds it, which is told of nothing yet
pub record IsFed (old new : Known) (before after : Feeding) : Type 0 where
  pub start : new.start ≡ old.start
  pub started : new.started ≡ old.started
  pub before_is : filling before ≡ store_of old
  pub marks_are : before.marks ≡ old.marks
  pub store_is : record { entries = new.held; moment = new.moment; reads = new.reads } ≡ after.store
  pub marked_is : new.marks ≡ after.marks

-- the entries that were taken
pub goes_on : (old new : Known) (before after : Feeding) (entries : List Entry) → IsFed old new before after → TakesEntries before after entries
    → GoesOn old new (Feed entries)
goes_on old new before after entries is takes = λ h s.
    stands_fed old new entries h s is.start is.started
    (is.store_is ∙ ap (λ (f : Filling). f.store) (takes.stands ∙ ap (λ f. after_all f entries) is.before_is))

pub tells : (old : Known) (before after : Feeding) (entries : List Entry) → filling before ≡ store_of old → TakesEntries before after entries
    → CountsFor old entries after.fed
tells old before after entries is takes = λ h s.
    told_fed old after.fed entries h s (ap (λ (f : Filling). f.fed) (takes.stands ∙ ap (λ f. after_all f entries) is))

-- some keys were marked
pub touches : (old new : Known) (before after : Marked) (keys : List Key) → before ≡ old.marks → new.marks ≡ after → AreMarked before after keys
    → Touches old new keys
touches old new before after keys b a marked = record {
  number = ap (λ (m : Marked). m.number) a ∙ marked.number ∙ ap (λ (m : Marked). m.number) b;
  touched = λ n le. ap (λ (m : Marked). keys_since m.log n) a
      ∙ marked.touched n (rw b le)
      ∙ ap (λ (m : Marked). with_keys (keys_since m.log n) keys) b;
}

pub took_some : (old new : Known) (before after : Feeding) (entries : List Entry) → IsFed old new before after
    → ReachesSome before after entries → TookSome old new entries
took_some old new before after entries is some =
    let r = some.1 in
    let front : r.taken ≡ take (length r.taken) entries = sym (ap (take (length r.taken)) r.apart ∙ take-append_seam r.taken some.0) in
    let takes : TakesEntries before after (take (length r.taken) entries) = rw (← front) r.takes in
    record {
      n = length r.taken;
      goes_on = goes_on old new before after (take (length r.taken) entries) is takes;
      touched = touches old new before.marks after.marks (map entry_key (take (length r.taken) entries)) is.marks_are is.marked_is takes.marked;
    }

-- ---- some history that a responder stands for

-- neither the name nor the counter nor the marks matter
pub stands_named : (known : Known) (name : List ℕ) (reads : ℕ) (marks : Marked) (h : History) → StandsFor known h
    → StandsFor (record known { name = name; reads = reads; marks = marks }) h
stands_named known name reads marks h s = record { start = s.start; started = s.started; moment = s.moment; held = s.held }

-- what a responder knows, but for its name, its counter and its marks
abbrev unnamed : ℕ → ℕ → ℕ → Items → Known
unnamed start started moment held = record { name = []; start = start; started = started; moment = moment; held = held; reads = 0; marks = unmarked }

pub history_new : (number now : ℕ) → HasHistory number now now []
history_new number now = (Start number now ∷ [], stands_new (unnamed number now now []) number now refl refl refl refl)

pub history_clock : (start started moment : ℕ) (held : Items) (now : ℕ) → HasHistory start started moment held
    → HasHistory start started (max moment now) (living (max moment now) held)
history_clock start started moment held now has = (
  has.0 ++ Clock now ∷ [],
  stands_clock (unnamed start started moment held)
      (unnamed start started (max moment now) (living (max moment now) held)) now has.0 has.1 refl refl refl refl,
)

pub history_fed : (start started : ℕ) (old before new : Feeding) (entries : List Entry)
    → HasHistory start started old.store.moment old.store.entries
    → before ≡ record old { fed = nothing_told }
    → TakesEntries before new entries
    → HasHistory start started new.store.moment new.store.entries
history_fed start started old before new entries has is takes =
    let from = record (unnamed start started old.store.moment old.store.entries) { reads = old.store.reads } in
    let to = record (unnamed start started new.store.moment new.store.entries) { reads = new.store.reads } in
    let stands = stands_named (unnamed start started old.store.moment old.store.entries) [] old.store.reads unmarked has.0 has.1 in
    let fed = takes.stands ∙ ap (λ f. after_all (filling f) entries) is in (
      has.0 ++ Feed entries ∷ [],
      stands_named to [] 0 unmarked (has.0 ++ Feed entries ∷ [])
          (stands_fed from to entries has.0 stands refl refl (ap (λ (f : Filling). f.store) fed)),
    )

pub history_some : (start started : ℕ) (old before new : Feeding) (entries : List Entry)
    → HasHistory start started old.store.moment old.store.entries
    → before ≡ record old { fed = nothing_told }
    → ReachesSome before new entries
    → HasHistory start started new.store.moment new.store.entries
history_some start started old before new entries has is some = history_fed start started old before new some.1.taken has is some.1.takes

pub history_known : (known : Known) → HasHistory known.start known.started known.moment known.held → (h : History) × StandsFor known h
history_known known has = (
  has.0,
  stands_named (unnamed known.start known.started known.moment known.held) known.name known.reads known.marks has.0 has.1,
)
