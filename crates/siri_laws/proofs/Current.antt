-- The current items after proper steps are proper, and the moment is one that a document can say.
use Rattle.std.proofs.Common.{ℕ, Bool, true, false, List, [], ◌∷◌, ◌++◌, map, flat_map, fold, arith, if◌then◌else◌}
use Rattle.std.specs.List.{AllByRecursion}
use Rattle.std.specs.Map.{remove_entry}
use Rattle.std.specs.BTreeMap.{insert_entry, is_at}
use Rattle.std.specs.Ordering.{match_ordering}
use Rattle.std.specs.declared.cmp.Ordering.{Ordering}
use Rattle.std.specs.declared.cmp.Ordering.TheVariants.{Less, Equal, Greater}
use Rattle.siri_records.specs.declared.item.Item.{Item}
use Rattle.siri_records.specs.declared.item.Service.{Service}
use Rattle.siri_records.specs.declared.item.Service.TheVariants as service
use Rattle.siri_records.specs.declared.key.Key.{Key}
use Rattle.siri_records.specs.Keys.{key_of}
use Rattle.siri_records.specs.Order.{key_cmp}
use Rattle.siri_messages.specs.declared.deliveries.FunctionalDelivery.{FunctionalDelivery}
use Rattle.siri_messages.specs.declared.deliveries.ServiceDelivery.{ServiceDelivery}
use Rattle.siri_messages.specs.declared.message.Message.{Message}
use Rattle.siri_messages.specs.declared.message.Message.TheVariants as message
use Rattle.siri_messages.specs.Rounds.{has_round}
use Rattle.siri_model.specs.History.{Entry, Observed, Withdrawn, Step, Start, Clock, Feed, Take, Settle, History, State, nothing}
use Rattle.siri_model.specs.History.{is_refused, after_entry, after_step, entries_in, entries_of, entries_fed, now_of, current}
use Rattle.siri_tables.specs.Proper.{IsMoment}
use Rattle.siri_items.specs.Proper.{IsProper as IsProperItem}
use Rattle.siri_wire.specs.laws.ProperDeliveries.{IsProperOf, IsProperDelivery, IsProperServiceDelivery}
use Rattle.siri_wire.specs.laws.ProperMessages.{IsProper}
use Rattle.siri_laws.specs.ProperHistories.{IsProperEntry, IsProperStep, IsProperHistory}

-- each item is proper
abbrev pub AreProper : List (Key × Item) → Type 0
AreProper items = AllByRecursion (λ e. IsProperItem e.1) items

-- ---- an item goes in, a key goes out

inserted_at : (o : Ordering) (k : Key) (i : Item) (e : Key × Item) (items others : List (Key × Item)) → IsProperItem i
    → IsProperItem e.1 → AreProper items → AreProper others
    → AreProper (match_ordering o ((k, i) ∷ e ∷ items) ((e.0, i) ∷ items) (e ∷ others))
inserted_at Less k i e items others p q all rest = (p, (q, all))
inserted_at Equal k i e items others p q all rest = (p, all)
inserted_at Greater k i e items others p q all rest = (q, rest)

inserted : (k : Key) (i : Item) (items : List (Key × Item)) → IsProperItem i → AreProper items → AreProper (insert_entry key_cmp items k i)
inserted k i [] p all = (p, tt)
inserted k i (e ∷ items) p all = inserted_at (key_cmp k e.0) k i e items (insert_entry key_cmp items k i) p all.0 all.1 (inserted k i items p all.1)

removed_at : (b : Bool) (e : Key × Item) (items others : List (Key × Item)) → IsProperItem e.1 → AreProper items
    → AreProper others → AreProper (if b then items else e ∷ others)
removed_at true e items others q all rest = all
removed_at false e items others q all rest = (q, rest)

removed : (k : Key) (items : List (Key × Item)) → AreProper items → AreProper (remove_entry (is_at (key_cmp k)) items)
removed k [] all = tt
removed k (e ∷ items) all = removed_at (is_at (key_cmp k) e.0) e items (remove_entry (is_at (key_cmp k)) items) all.0 all.1 (removed k items all.1)

-- ---- entries and steps

observed_at : (refused : Bool) (item : Item) (items : List (Key × Item)) → IsProperItem item → AreProper items
    → AreProper (if refused then items else insert_entry key_cmp items (key_of item) item)
observed_at true item items p all = all
observed_at false item items p all = inserted (key_of item) item items p all

after : (now : ℕ) (items : List (Key × Item)) (e : Entry) → IsProperEntry e → AreProper items → AreProper (after_entry now items e)
after now items (Observed item) p all = observed_at (is_refused now items item) item items p all
after now items (Withdrawn key) p all = removed key items all

after_all : (now : ℕ) (items : List (Key × Item)) (entries : List Entry) → AllByRecursion IsProperEntry entries
    → AreProper items → AreProper (fold (after_entry now) items entries)
after_all now items [] p all = all
after_all now items (e ∷ entries) p all = after_all now (after_entry now items e) entries p.1 (after now items e p.0 all)

both : (xs ys : List Entry) → AllByRecursion IsProperEntry xs → AllByRecursion IsProperEntry ys → AllByRecursion IsProperEntry (xs ++ ys)
both [] ys p q = q
both (x ∷ xs) ys p q = (p.0, both xs ys p.1 q)

observed : (s : Service) (items : List Item) → AllByRecursion (IsProperOf s) items → AllByRecursion IsProperEntry (map Observed items)
observed s [] p = tt
observed s (i ∷ items) p = (p.0.proper, observed s items p.1)

withdrawn : (keys : List Key) → AllByRecursion IsProperEntry (map Withdrawn keys)
withdrawn [] = tt
withdrawn (k ∷ keys) = (tt, withdrawn keys)

-- each entry of a delivery is proper
abbrev Feeds : FunctionalDelivery → Type 0
Feeds d = AllByRecursion IsProperEntry (entries_in d)

each_feeds : (s : Service) (ds : List FunctionalDelivery) → AllByRecursion (IsProperDelivery s) ds → AllByRecursion Feeds ds
each_feeds s [] p = tt
each_feeds s (d ∷ ds) p = (
  both (map Observed d.items) (map Withdrawn d.removals) (observed s d.items p.0.1.1.0.each)
      (withdrawn d.removals),
  each_feeds s ds p.1,
)

all_feed : (ds others : List FunctionalDelivery) → AllByRecursion Feeds ds → AllByRecursion Feeds others → AllByRecursion Feeds (ds ++ others)
all_feed [] others p q = q
all_feed (d ∷ ds) others p q = (p.0, all_feed ds others p.1 q)

entries_feed : (ds : List FunctionalDelivery) → AllByRecursion Feeds ds → AllByRecursion IsProperEntry (flat_map entries_in ds)
entries_feed [] p = tt
entries_feed (d ∷ ds) p = both (entries_in d) (flat_map entries_in ds) p.0 (entries_feed ds p.1)

pub entries_proper : (d : ServiceDelivery) → IsProperServiceDelivery d → AllByRecursion IsProperEntry (entries_of d)
entries_proper d p =
    let lists = p.1.1.1.1.1.1.1 in
    let stop = each_feeds service.Stop d.stop_monitoring_delivery lists.0.each in
    let timetable = each_feeds service.Timetable d.estimated_timetable_delivery lists.1.0.each in
    let vehicle = each_feeds service.Vehicle d.vehicle_monitoring_delivery lists.1.1.0.each in
    let situation = each_feeds service.Situation d.situation_exchange_delivery lists.1.1.1.0.each in
    entries_feed (d.stop_monitoring_delivery ++ d.estimated_timetable_delivery ++ d.vehicle_monitoring_delivery ++ d.situation_exchange_delivery)
    (all_feed (d.stop_monitoring_delivery ++ d.estimated_timetable_delivery ++ d.vehicle_monitoring_delivery) d.situation_exchange_delivery
    (all_feed (d.stop_monitoring_delivery ++ d.estimated_timetable_delivery) d.vehicle_monitoring_delivery
    (all_feed d.stop_monitoring_delivery d.estimated_timetable_delivery stop timetable) vehicle)
    situation)

unless_round : (b : Bool) (entries : List Entry) → AllByRecursion IsProperEntry entries → AllByRecursion IsProperEntry (if b then [] else entries)
unless_round true entries p = tt
unless_round false entries p = p

fed_proper : (m : Message) → IsProper m → AllByRecursion IsProperEntry (entries_fed m)
fed_proper (message.ServiceDelivery d) p = unless_round (has_round d) (entries_of d) (entries_proper d p)
fed_proper other p = tt

-- ---- histories

-- what holds of a state after proper steps
record IsProperState (s : State) : Type 0 where
  moment : IsMoment s.now
  items : AreProper s.current

step_proper : (s : State) (step : Step) → IsProperStep step → IsProperState s → IsProperState (after_step s step)
unfolding after_step
step_proper s (Start number moment) p is = record { moment = p; items = tt }
step_proper s (Clock moment) p is = record { moment = omega (arith, p, is.moment); items = is.items }
step_proper s (Feed entries) p is = record { moment = is.moment; items = after_all s.now s.current entries p is.items }
step_proper s (Take message) p is = record { moment = is.moment; items = after_all s.now s.current (entries_fed message) (fed_proper message p) is.items }
step_proper s Settle p is = is

steps_proper : (s : State) (h : History) → IsProperHistory h → IsProperState s → IsProperState (fold after_step s h)
steps_proper s [] p is = is
steps_proper s (step ∷ h) p is = steps_proper (after_step s step) h p.1 (step_proper s step p.0 is)

history_proper : (h : History) → IsProperHistory h → IsProperState (fold after_step nothing h)
history_proper h p = steps_proper nothing h p (record { moment = omega arith; items = tt })

pub moment_proper : (h : History) → IsProperHistory h → IsMoment (now_of h)
moment_proper h p = (history_proper h p).moment

pub current_proper : (h : History) → IsProperHistory h → AreProper (current h)
current_proper h p = (history_proper h p).items
