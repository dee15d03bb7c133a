-- The current items stay in order of key, and what one more step does.
use Rattle.std.proofs.Common.{◌≡◌, ℕ, ◌≤◌, List, [], ◌∷◌, ◌++◌, fold, Bool, true, false, ◌||◌, not, nat_lt, if◌then◌else◌, Option, None, Some, refl, arith}
use Rattle.std.specs.BTreeMap.{insert_entry}
use Rattle.std.specs.List.Sorted.{IsStrictlySortedBy}
use Rattle.std.specs.Option.{option_map_or}
use Rattle.std.proofs.lemmas.Bool.{ltb-true, lt-ltb}
use Rattle.std.proofs.lemmas.List.Sums.{fold-append}
use Rattle.siri_records.specs.declared.item.Item.{Item}
use Rattle.siri_records.specs.declared.key.Key.{Key}
use Rattle.siri_records.specs.Ends.{is_dead, is_closed, end_of}
use Rattle.siri_records.specs.Keys.{key_of}
use Rattle.siri_records.specs.Order.{key_cmp, key_cmp_total}
use Rattle.siri_records.specs.Keyed.{Items, living, InOrder}
use Rattle.siri_model.specs.History.{Entry, Observed, Withdrawn, is_refused, Step, Start, Clock, Feed, Take, Settle, History, State}
use Rattle.siri_model.specs.History.{nothing, after_entry, after_step, entries_fed, state_of, current}
use Rattle.siri_model.proofs.Entries.{filter_stronger, sorted_inserted, sorted_removed}

-- ---- items stay in order

in_order_if : (b : Bool) (old new : Items) → InOrder old → InOrder new → InOrder (if b then old else new)
in_order_if true old new a b = a
in_order_if false old new a b = b

pub in_order_after : (now : ℕ) (items : Items) (e : Entry) → InOrder items → InOrder (after_entry now items e)
in_order_after now items (Observed item) s = in_order_if (is_refused now items item) items
    (insert_entry key_cmp items (key_of item) item) s (sorted_inserted key_cmp_total (key_of item) item items s)
in_order_after now items (Withdrawn key) s = sorted_removed key_cmp_total key items s

-- ---- the current items are in order of key

pub none_in_order : InOrder {X = Item} []
unfolding IsStrictlySortedBy
none_in_order = tt

pub in_order_all : (now : ℕ) (items : Items) (entries : List Entry) → InOrder items → InOrder (fold (after_entry now) items entries)
in_order_all now items [] s = s
in_order_all now items (e ∷ entries) s = in_order_all now (after_entry now items e) entries (in_order_after now items e s)

pub in_order_step : (state : State) (step : Step) → InOrder state.current → InOrder (after_step state step).current
unfolding after_step
in_order_step state (Start n m) s = none_in_order
in_order_step state (Clock m) s = s
in_order_step state (Feed entries) s = in_order_all state.now state.current entries s
in_order_step state (Take message) s = in_order_all state.now state.current (entries_fed message) s
in_order_step state Settle s = s

in_order_from : (state : State) (steps : History) → InOrder state.current → InOrder (fold after_step state steps).current
in_order_from state [] s = s
in_order_from state (step ∷ steps) s = in_order_from (after_step state step) steps (in_order_step state step s)

pub current_in_order : (h : History) → InOrder (current h)
current_in_order h = in_order_from nothing h none_in_order

-- ---- one more step

pub more_steps : (h : History) (step : Step) → state_of (h ++ step ∷ []) ≡ after_step (state_of h) step
more_steps h step = fold-append after_step nothing h (step ∷ [])

-- ---- a later moment

-- what has not ended later has not ended now
ended_later : (end : Option ℕ) (now later : ℕ) → now ≤ later
    → not (option_map_or (λ e. nat_lt e later) end false) ≡ true
    → not (option_map_or (λ e. nat_lt e now) end false) ≡ true
ended_later None now later le h = refl
ended_later (Some e) now later le h = grind (arith, ltb-true, lt-ltb)

alive_later_at : (closed : Bool) (end : Option ℕ) (now later : ℕ) → now ≤ later
    → not (closed || option_map_or (λ e. nat_lt e later) end false) ≡ true
    → not (closed || option_map_or (λ e. nat_lt e now) end false) ≡ true
alive_later_at true end now later le h = h
alive_later_at false end now later le h = ended_later end now later le h

pub live_later : (now later : ℕ) (items : Items) → now ≤ later → living later (living now items) ≡ living later items
live_later now later items le = filter_stronger (λ (e : Key × Item). not (is_dead e.1 now))
    (λ (e : Key × Item). not (is_dead e.1 later)) (λ e h. alive_later_at (is_closed e.1) (end_of e.1) now later le h)
    items
