-- What is planned makes of the rows what they are to be.
use Rattle.std.proofs.Common.{◌≡◌, ◌≤◌, ℕ, List, [], ◌∷◌, ◌++◌, length, map, fold, Bool, true, false, cond, not, Some, refl, sym, ap, ◌∙◌, subst, inl, inr, append-nil, arith}
use Rattle.std.specs.List.{AllByRecursion as All}
use Rattle.std.specs.Map.{keys_of}
use Rattle.std.proofs.lemmas.List.{length-map, map-append}
use Rattle.std.proofs.lemmas.List.Sums.{fold-append}
use Rattle.std.proofs.lemmas.Map.Entries.{option_filter}
use Rattle.siri_model.proofs.Entries.{sorted_passing}
use Rattle.siri_records.specs.declared.item.Item.{Item}
use Rattle.siri_records.specs.declared.key.Key.{Key}
use Rattle.siri_records.specs.Ends.{is_dead}
use Rattle.siri_records.specs.Order.{key_cmp}
use Rattle.siri_records.specs.Keyed.{InOrder, Items, after_change, apply, dead_of, item_of, living, most_live}
use Rattle.siri_messages.specs.Rounds.{has_round}
use Rattle.siri_messages.specs.declared.deliveries.ServiceDelivery.{ServiceDelivery}
use Rattle.siri_messages.specs.declared.message.Message.{Message}
use Rattle.siri_messages.specs.declared.message.Message.TheVariants as message
use Rattle.siri_subs.specs.Table.{most_subscriptions}
use Rattle.siri_subs.specs.declared.entry.Row.{Row}
use Rattle.siri_change.proofs.Leads.{order_applied}
use Rattle.siri_model.specs.Held.{Held, held_of}
use Rattle.siri_model.specs.History.{Clock, Entry, Step, after_entry, fed, History, State, Take, after_step, current, entries_fed, entries_of, now_of, state_of}
use Rattle.siri_model.specs.Last.{entry_key}
use Rattle.siri_model.specs.Rows.{KeptLife, rows_after, rows_taken}
use Rattle.siri_model.proofs.Current.{few_live}
use Rattle.siri_model.proofs.InOrder.{current_in_order, in_order_all}
use Rattle.siri_producer.proofs.Stands.{fed_all}
use Rattle.siri_producer.specs.Known.{Follows, GoesOn, Known, SameButReads, StandsFor}
use Rattle.siri_responder.specs.Known as responder
use Rattle.siri_outside.specs.declared.rows.Put.{Put}
use Rattle.siri_outside.specs.Rows.{Rows, with_puts}
use Rattle.siri_wire.specs.laws.ProperMessages.{IsProper}
use Rattle.siri_keeping.specs.Keeping.{Covers, HasItems, IsProperKey, change_to, changes_to, live_after, live_of, moment_put, most_rows, places_to, put_to, puts_to, subscription_puts}
use Rattle.siri_keeping.specs.Keeps.{KeepsThese}
use Rattle.siri_keeping.proofs.Kept.{changes_leave, covers_after, covers_still, is_named}
use Rattle.siri_keeping.proofs.LiveItems.{live_at}
use Rattle.siri_keep.specs.declared.kept.Kept.{Kept}
use Rattle.siri_keep.specs.Calls.{Holds, LeavesLive, Left}
use Rattle.siri_keep.specs.Planning.{Plans, ReadsMoment}
use Rattle.siri_keep.specs.Puts.{changes_rows, has_long_row}
use Rattle.siri_keep.proofs.Alls.{all_filtered, all_mapped, all_unmapped, all_weaker}
use Rattle.siri_keep.proofs.Cleaned.{all_by_items, item_by_all, live_left, unlooked_changes, unlooked_puts}
use Rattle.siri_keep.proofs.Clocked.{all_stay, is_later, later_held, same_rows, start_stays}
use Rattle.siri_keep.proofs.Started.{begun_start}
use Rattle.siri_tables.specs.Proper.{IsNumber}
use Rattle.siri_keep.proofs.Fed.{ReadsEntry, ReadsItem, all_appended, found_after, named_proper, reads_entries}
use Rattle.siri_keep.proofs.Messages.{Reads, ReadsRow, helds_ignored, reads_taken}
use Rattle.siri_row_texts.specs.SubscriptionRows.{renewal_of, renewal_text, request_of, request_text}
use Rattle.siri_row_texts.specs.Reading.{began_of_row, item_of_row, renewal_of_row, request_of_row}
use Rattle.siri_row_texts.specs.ItemRows.{item_text, key_text, moment_row}
use Rattle.siri_records.specs.Keys.{key_of}
use Rattle.siri_keep.proofs.Written.{covers_clocked, dead_stays, items_kept, moment_kept, passed, subscriptions_kept}
use Rattle.siri_keep.proofs.Steps.{follows_read, held_is, left_as, moment_is, proper_more, same_held, same_moment, same_start, stands_read, start_is, table_is}

abbrev helds : Known → List Held
helds known = map held_of known.table

-- ---- what is read back

items_read : (kept : Items) → All (λ e. e.0 ≡ key_of e.1) kept → All (λ e. IsProperKey e.0) kept
    → All (λ e. item_of_row (key_text e.0) (item_text e.1) ≡ Some e.1) kept → All ReadsItem kept
items_read [] keyed proper read = tt
items_read (e ∷ kept) keyed proper read =
    (record { keyed = keyed.0; proper = proper.0; read = read.0 }, items_read kept keyed.1 proper.1 read.1)

subscriptions_read : (helds : List Held)
    → All (λ s. request_of_row (request_text s.asked s.base) ≡ Some (message.SubscriptionRequest (request_of s.asked s.base))) helds
    → All (λ s. (text : List ℕ) → renewal_text s.asked.subscription s.number s.base ≡ Some text
    → renewal_of_row s.asked.subscription s.base text ≡ Some (message.DataSupplyRequest (renewal_of s.asked.subscription s.number s.base))) helds
    → All (λ s. s.base ≤ s.number) helds → All Reads helds
subscriptions_read [] requests renewals based = tt
subscriptions_read (s ∷ helds) requests renewals based =
    (record { request = requests.0; renewal = renewals.0; based = based.0 }, subscriptions_read helds requests.1 renewals.1 based.1)

-- of what a shelf keeps
items_left : (kept : Kept) (rows : Rows) → Left kept rows → All ReadsItem kept.mirror
items_left kept rows left = items_read kept.mirror left.reads.keyed left.reads.proper left.reads.items

subscriptions_there : (kept : Kept) (rows : Rows) → Left kept rows → All Reads (helds kept.producer)
subscriptions_there kept rows left =
    subscriptions_read (helds kept.producer) left.reads.requests left.reads.renewals left.reads.based

-- all rows of subscriptions, in place of those of others
subscriptions_left : (kept : Kept) (rows : Rows) (before : List Held)
    → KeepsThese kept.producer.responder.name kept.producer.responder.moment kept.producer.responder.start kept.producer.responder.held
    kept.mirror kept.places before rows
    → length kept.producer.table ≤ most_subscriptions → All Reads (helds kept.producer)
    → Left (record kept { places = places_to (length kept.producer.table) }) (with_puts rows (subscription_puts kept.places (helds kept.producer)))
subscriptions_left kept rows before these few all =
    let known = kept.producer.responder in
    let count = length-map kept.producer.table held_of in
    subst (λ n. KeepsThese known.name known.moment known.start known.held kept.mirror (places_to n) (helds kept.producer)
    (with_puts rows (subscription_puts kept.places (helds kept.producer)))) count
    (subscriptions_kept known.name known.moment known.start known.held kept.mirror kept.places before rows these (helds kept.producer)
    (rw count few) all)

-- ---- what is live

-- what is live is in order of key, and few
live_in_order : (known : Known) (h : History) → StandsFor known h → InOrder known.responder.held
live_in_order known h s = subst InOrder (sym s.responder.held) (sorted_passing key_cmp (λ (i : Item). not (is_dead i (now_of h))) (current h) (current_in_order h))

live_few : (known : Known) (h : History) → StandsFor known h → length known.responder.held ≤ most_rows
live_few known h s =
    let few : length known.responder.held ≤ most_live = rw s.responder.held (few_live h) in
    omega (arith, few)

-- and isn't dead
alive : (b : Bool) → not b ≡ true → b ≡ false
alive true is = cc
alive false is = refl

live_alive : (known : Known) (h : History) → StandsFor known h → (k : Key) (i : Item) → item_of known.responder.held k ≡ Some i
    → is_dead i known.responder.moment ≡ false
live_alive known h s k i at =
    let there = passed (λ (i : Item). not (is_dead i (now_of h))) (item_of (current h) k) i
    (sym (live_at (now_of h) (current h) k (current_in_order h)) ∙ ap (λ items. item_of items k) (sym s.responder.held) ∙ at) in
    rw s.responder.moment (alive (is_dead i (now_of h)) there.1)

dead_proper : (now : ℕ) (kept : Items) → All ReadsItem kept → All IsProperKey (keys_of (dead_of now kept))
dead_proper now kept all = all_mapped IsProperKey (λ (e : Key × Item). e.0) (dead_of now kept)
    (all_filtered (λ (e : Key × Item). IsProperKey e.0) (λ (e : Key × Item). is_dead e.1 now) kept
    (all_weaker ReadsItem (λ (e : Key × Item). IsProperKey e.0) (λ e reads. reads.proper) kept all))

-- ---- a message that feeds nothing

pub taken_nothing : (state : State) (m : Message) → entries_fed m ≡ [] → after_step state (Take m) ≡ state
unfolding after_step
taken_nothing state m none = rw none refl

pub rows_of_message : (state : State) (m : Message) (rows : List (Row KeptLife))
    → rows_after state (Take m) rows ≡ rows_taken state.start state.now m rows
unfolding rows_after
rows_of_message state m rows = refl

fed_by : (d : ServiceDelivery) (b : Bool) → has_round d ≡ b → not b ≡ false → cond b [] (entries_of d) ≡ []
fed_by d true is none = refl
fed_by d false is none = cc

-- a message that changes no row feeds nothing
pub rowless_feeds : (m : Message) → changes_rows m ≡ false → entries_fed m ≡ []
rowless_feeds (message.ServiceRequest r) none = refl
rowless_feeds (message.ServiceDelivery d) none = fed_by d (has_round d) refl none
rowless_feeds (message.SubscriptionRequest r) none = refl
rowless_feeds (message.SubscriptionResponse r) none = refl
rowless_feeds (message.TerminateSubscriptionRequest r) none = refl
rowless_feeds (message.TerminateSubscriptionResponse r) none = refl
rowless_feeds (message.DataReadyNotification r) none = refl
rowless_feeds (message.DataReadyAcknowledgement r) none = refl
rowless_feeds (message.DataSupplyRequest r) none = refl
rowless_feeds (message.DataReceivedAcknowledgement a) none = refl
rowless_feeds (message.CheckStatusRequest r) none = refl
rowless_feeds (message.CheckStatusResponse r) none = refl
rowless_feeds (message.HeartbeatNotification r) none = refl

-- nothing that is kept changes
pub nothing_plans : (old new : Kept) (m : Message) → new ≡ record old { producer = new.producer }
    → new.producer.responder.name ≡ old.producer.responder.name → GoesOn old.producer new.producer (Take m)
    → IsProper m → entries_fed m ≡ [] → changes_rows m ≡ false → Plans old new (Take m ∷ []) []
nothing_plans old new m rest name goes proper none same = record {
  name = name;
  stands = goes.stands;
  follows = goes.follows;
  holds = λ rows h holds.
      let t = goes.stands h holds.stands in
      let state = taken_nothing (state_of h) m none in
      let rows_same = ap (map held_of) (table_is old.producer new.producer h (Take m) holds.stands t
      ∙ rows_of_message (state_of h) m old.producer.table)
      ∙ helds_ignored (state_of h).start (state_of h).now m old.producer.table same in
      record {
        left = left_as old new rows name
            (same_moment old.producer new.producer h (Take m) holds.stands t state)
            (same_start old.producer new.producer h (Take m) holds.stands t state)
            (same_held old.producer new.producer h (Take m) holds.stands t state)
            (ap (λ (k : Kept). k.mirror) rest) (ap (λ (k : Kept). k.places) rest) rows_same holds.left;
        stands = t;
        proper = proper_more h (Take m) holds.proper proper;
      };
}

-- all rows of subscriptions are written
pub subscriptions_plans : (old mid new : Kept) (m : Message) → mid ≡ record old { producer = mid.producer }
    → new ≡ record mid { places = places_to (length mid.producer.table) }
    → mid.producer.responder.name ≡ old.producer.responder.name → GoesOn old.producer mid.producer (Take m)
    → length mid.producer.table ≤ most_subscriptions
    → IsProper m → has_long_row m ≡ false → entries_fed m ≡ []
    → Plans old new (Take m ∷ []) (subscription_puts mid.places (helds mid.producer))
subscriptions_plans old mid new m one two name goes few proper short none = record {
  name = ap (λ (k : Kept). k.producer.responder.name) two ∙ name;
  stands = λ h s. subst (λ (k : Kept). StandsFor k.producer (h ++ Take m ∷ [])) (sym two) (goes.stands h s);
  follows = λ h f. subst (λ (k : Kept). Follows k.producer (h ++ Take m ∷ [])) (sym two) (goes.follows h f);
  holds = λ rows h holds.
      let t = goes.stands h holds.stands in
      let state = taken_nothing (state_of h) m none in
      let table = table_is old.producer mid.producer h (Take m) holds.stands t ∙ rows_of_message (state_of h) m old.producer.table in
      let before : All ReadsRow old.producer.table = all_unmapped Reads held_of old.producer.table
      (subscriptions_there old rows holds.left) in
      let after : All Reads (helds mid.producer) = all_mapped Reads held_of mid.producer.table
      (subst (All ReadsRow) (sym table) (reads_taken (state_of h).start (state_of h).now m old.producer.table proper short none before)) in
      let unwritten : KeepsThese mid.producer.responder.name mid.producer.responder.moment mid.producer.responder.start
      mid.producer.responder.held mid.mirror mid.places (helds old.producer) rows =
      rw (
        name,
        same_moment old.producer mid.producer h (Take m) holds.stands t state,
        same_start old.producer mid.producer h (Take m) holds.stands t state,
        same_held old.producer mid.producer h (Take m) holds.stands t state,
        ap (λ (k : Kept). k.mirror) one,
        ap (λ (k : Kept). k.places) one,
      ) holds.left in
      subst (λ (k : Kept). Holds k (with_puts rows (subscription_puts mid.places (helds mid.producer))) (h ++ Take m ∷ [])) (sym two) (record {
        left = subscriptions_left mid rows (helds old.producer) unwritten few after;
        stands = t;
        proper = proper_more h (Take m) holds.proper proper;
      });
}

-- ---- a later moment

module _ (old mid : Kept) (now : ℕ) (one : mid ≡ record old { producer = mid.producer })
    (name : mid.producer.responder.name ≡ old.producer.responder.name) (goes : GoesOn old.producer mid.producer (Clock now)) where
  abbrev known : responder.Known
  known = mid.producer.responder

  abbrev first : Put
  first = moment_put known.moment known.start known.name

  abbrev Began : Type 0
  Began = ReadsMoment known.moment known.start known.name

  -- a start that was read back is from 1 on, and a number
  start_left : (rows : Rows) (h : History) → Holds old rows h → (1 ≤ known.start) × IsNumber known.start
  start_left rows h holds =
      let r = old.producer.responder in
      subst (λ n. (1 ≤ n) × IsNumber n) (sym (start_stays old.producer mid.producer h now holds.stands (goes.stands h holds.stands)))
      (begun_start (moment_row r.moment r.start r.name) (record { moment = r.moment; start = r.start; name = r.name }) holds.left.reads.began)

  -- the row of the moment is written
  moment_left : (rows : Rows) (h : History) → Holds old rows h → Began
      → KeepsThese known.name known.moment known.start known.held mid.mirror mid.places (helds old.producer) (with_puts rows (first ∷ []))
  moment_left rows h holds began =
      let t = goes.stands h holds.stands in
      let covers = covers_clocked old.producer.responder.moment known.moment old.producer.responder.held old.mirror
      (live_in_order old.producer h holds.stands)
      (dead_stays old.producer.responder.moment known.moment (is_later old.producer mid.producer h now holds.stands t)) holds.left.covers in
      let start = start_left rows h holds in
      let read : began_of_row (moment_row known.moment known.start old.producer.responder.name)
      ≡ Some (record { moment = known.moment; start = known.start; name = old.producer.responder.name }) =
      subst (λ n. began_of_row (moment_row known.moment known.start n) ≡ Some (record { moment = known.moment; start = known.start; name = n })) name (began start.0 start.1) in
      rw (name, ap (λ (k : Kept). k.mirror) one, ap (λ (k : Kept). k.places) one)
      (moment_kept old.producer.responder.name old.producer.responder.moment old.producer.responder.start old.producer.responder.held
      old.mirror old.places (helds old.producer) rows holds.left known.moment known.start known.held read
      (subst (λ items. Covers known.moment items old.mirror) (sym (later_held old.producer mid.producer h now holds.stands t)) covers))

  -- where no fewer subscriptions are held nothing more is
  pub clock_plans : Began → length old.producer.table ≤ length mid.producer.table → Plans old mid (Clock now ∷ []) (first ∷ [])
  clock_plans began more = record {
    name = name;
    stands = goes.stands;
    follows = goes.follows;
    holds = λ rows h holds.
        let t = goes.stands h holds.stands in
        record {
          left = rw (same_rows old.producer mid.producer h now holds.stands t more) (moment_left rows h holds began);
          stands = t;
          proper = proper_more h (Clock now) holds.proper tt;
        };
  }

  -- else all rows of subscriptions are
  pub clock_plans_all : Began → (new : Kept) → new ≡ record mid { places = places_to (length mid.producer.table) }
      → length mid.producer.table ≤ most_subscriptions
      → Plans old new (Clock now ∷ []) (first ∷ subscription_puts mid.places (helds mid.producer))
  clock_plans_all began new two few = record {
    name = ap (λ (k : Kept). k.producer.responder.name) two ∙ name;
    stands = λ h s. subst (λ (k : Kept). StandsFor k.producer (h ++ Clock now ∷ [])) (sym two) (goes.stands h s);
    follows = λ h f. subst (λ (k : Kept). Follows k.producer (h ++ Clock now ∷ [])) (sym two) (goes.follows h f);
    holds = λ rows h holds.
        let t = goes.stands h holds.stands in
        let all = all_stay old.producer mid.producer h now holds.stands t Reads (subscriptions_there old rows holds.left) in
        let puts = subscription_puts mid.places (helds mid.producer) in
        subst (λ (k : Kept). Holds k (with_puts (with_puts rows (first ∷ [])) puts) (h ++ Clock now ∷ [])) (sym two) (record {
          left = subscriptions_left mid (with_puts rows (first ∷ [])) (helds old.producer) (moment_left rows h holds began) few all;
          stands = t;
          proper = proper_more h (Clock now) holds.proper tt;
        });
  }

-- ---- dead items leave

pub clean_plans : (old new : Kept) → new.producer ≡ old.producer
    → new.mirror ≡ apply old.mirror (changes_to [] (keys_of (dead_of old.producer.responder.moment old.mirror)))
    → new.places ≡ old.places
    → Plans old new [] (puts_to [] (keys_of (dead_of old.producer.responder.moment old.mirror)))
clean_plans old new same mirror places = record {
  name = ap (λ (k : Known). k.responder.name) same;
  stands = λ h s. rw (append-nil h) (subst (λ (k : Known). StandsFor k h) (sym same) s);
  follows = λ h f. rw (append-nil h) (subst (λ (k : Known). Follows k h) (sym same) f);
  holds = λ rows h holds.
      let known = old.producer.responder in
      let dead = keys_of (dead_of known.moment old.mirror) in
      let puts = puts_to known.held dead in
      let kept = apply old.mirror (changes_to known.held dead) in
      let s = live_in_order old.producer h holds.stands in
      let is = live_left known.moment known.held old.mirror s holds.left.ordered holds.left.covers in
      let lives = live_alive old.producer h holds.stands in
      let changes = unlooked_changes known.moment known.held old.mirror s holds.left.ordered holds.left.covers lives in
      let all = items_left old rows holds.left in
      let live : All ReadsItem known.held = all_by_items ReadsItem known.held s
      (λ k i at. item_by_all ReadsItem old.mirror k i all (holds.left.covers.has_live k i at)) in
      let after : KeepsThese known.name known.moment known.start known.held kept old.places (helds old.producer) (with_puts rows puts) =
      items_kept known.name known.moment known.start known.held old.mirror old.places (helds old.producer) rows holds.left dead known.held
      (dead_proper known.moment old.mirror all)
      (covers_still known.moment known.held old.mirror dead holds.left.ordered holds.left.covers)
      (subst (λ items. length items ≤ most_rows) (sym is) (live_few old.producer h holds.stands))
      (subst (All ReadsItem) (sym is) live) in
      rw (append-nil h) (subst (λ puts. Holds new (with_puts rows puts) h)
      (unlooked_puts known.moment known.held old.mirror s holds.left.ordered holds.left.covers lives) (record {
        left = rw (same, mirror ∙ ap (apply old.mirror) (sym changes), places) after;
        stands = subst (λ (k : Known). StandsFor k h) (sym same) holds.stands;
        proper = holds.proper;
      }));
}

-- the rows that are left are those of live items
pub clean_leaves : (old new : Kept) → new.producer ≡ old.producer
    → new.mirror ≡ apply old.mirror (changes_to [] (keys_of (dead_of old.producer.responder.moment old.mirror)))
    → new.places ≡ old.places → (rows : Rows)
    → LeavesLive old rows (with_puts rows (puts_to [] (keys_of (dead_of old.producer.responder.moment old.mirror))))
clean_leaves old new same mirror places rows = λ h holds.
    let known = old.producer.responder in
    let after : Rows = with_puts rows (puts_to [] (keys_of (dead_of known.moment old.mirror))) in
    let s = live_in_order old.producer h holds.stands in
    let is = live_left known.moment known.held old.mirror s holds.left.ordered holds.left.covers in
    let changes = unlooked_changes known.moment known.held old.mirror s holds.left.ordered holds.left.covers
    (live_alive old.producer h holds.stands) in
    let left = (clean_plans old new same mirror places).holds rows h holds in
    subst (HasItems after) (mirror ∙ ap (apply old.mirror) (sym changes) ∙ is ∙ holds.stands.responder.held) left.left.items

-- ---- a feed

rows_fed : (state : State) (d : ServiceDelivery) (rows : List (Row KeptLife)) → rows_taken state.start state.now (message.ServiceDelivery d) rows ≡ rows
unfolding rows_taken
rows_fed state d rows = refl

passes : (now : ℕ) (i : Item) → not (is_dead i now) ≡ true → option_filter (λ i. not (is_dead i now)) (Some i) ≡ Some i
passes now i alive = rw alive refl

-- of the items that are named, and of those that were kept, each is read back
module _ (old : Kept) (mid : Known) (d : ServiceDelivery) (more : List Key) where
  abbrev entries : List Entry
  entries = entries_of d

  abbrev named : List Key
  named = map entry_key entries

  abbrev live : Items
  live = mid.responder.held

  abbrev fed_mirror : Items
  fed_mirror = apply old.mirror (changes_to live named)

  abbrev all_mirror : Items
  all_mirror = apply old.mirror (changes_to live (named ++ more))

  -- there are few enough of them, seeing that what is live is few
  abbrev AreFew : Type 0
  AreFew = Covers mid.responder.moment live fed_mirror → InOrder live → InOrder fed_mirror → length live ≤ most_rows
      → length all_mirror ≤ most_rows

  split : all_mirror ≡ apply fed_mirror (changes_to live more)
  split = ap (apply old.mirror) (map-append (change_to live) named more)
      ∙ fold-append after_change old.mirror (changes_to live named) (changes_to live more)

  module _ (h : History) (none : has_round d ≡ false) (holds_reads : All ReadsItem old.mirror) (ordered : InOrder old.mirror)
      (s : StandsFor old.producer h) (t : StandsFor mid (h ++ Take (message.ServiceDelivery d) ∷ []))
      (covers : Covers old.producer.responder.moment old.producer.responder.held old.mirror)
      (brings : All ReadsEntry entries) where
    abbrev now : ℕ
    now = now_of h

    abbrev step : Step
    step = Take (message.ServiceDelivery d)

    state_fed : after_step (state_of h) step ≡ fed (state_of h) entries
    unfolding after_step
    state_fed = ap (fed (state_of h)) (fed_all d none)

    pub fed_moment : mid.responder.moment ≡ old.producer.responder.moment
    fed_moment = moment_is old.producer mid h step s t ∙ ap (λ (x : State). x.now) state_fed ∙ sym s.responder.moment

    pub fed_start : mid.responder.start ≡ old.producer.responder.start
    fed_start = start_is old.producer mid h step s t ∙ ap (λ (x : State). x.start) state_fed ∙ sym s.responder.start

    fed_held : live ≡ live_after now (current h) entries
    fed_held = held_is old.producer mid h step s t ∙ ap (λ (x : State). living x.now x.current) state_fed

    pub fed_table : mid.table ≡ old.producer.table
    fed_table = table_is old.producer mid h step s t ∙ rows_of_message (state_of h) (message.ServiceDelivery d) old.producer.table
        ∙ rows_fed (state_of h) d old.producer.table

    covers_now : Covers now (live_of now (current h)) old.mirror
    covers_now = subst (λ items. Covers now items old.mirror) s.responder.held
        (subst (λ m. Covers m old.producer.responder.held old.mirror) s.responder.moment covers)

    covers_fed : Covers now live fed_mirror
    covers_fed = subst (λ items. Covers now items (apply old.mirror (changes_to items named))) (sym fed_held)
        (covers_after now (current h) old.mirror entries (current_in_order h) ordered covers_now)

    covers_all : Covers now live all_mirror
    covers_all = subst (Covers now live) (sym split)
        (covers_still now live fed_mirror more (order_applied old.mirror (changes_to live named) ordered) covers_fed)

    pub covers_named : Covers mid.responder.moment live fed_mirror
    covers_named = subst (λ m. Covers m live fed_mirror) (sym s.responder.moment ∙ sym fed_moment) covers_fed

    pub covers_then : Covers mid.responder.moment live all_mirror
    covers_then = subst (λ m. Covers m live all_mirror) (sym s.responder.moment ∙ sym fed_moment) covers_all

    -- ---- what is kept is read back

    live_reads : (k : Key) (i : Item) → item_of live k ≡ Some i → ReadsItem (k, i)
    live_reads k i at =
        let there = passed (λ i. not (is_dead i now)) (item_of (fold (after_entry now) (current h) entries) k) i
        (sym (live_at now (fold (after_entry now) (current h) entries) k (in_order_all now (current h) entries (current_in_order h)))
        ∙ ap (λ items. item_of items k) (sym fed_held) ∙ at) in
        elim (found_after now k i entries (current h) (current_in_order h) brings there.0) [
          | inl was ↦ item_by_all ReadsItem old.mirror k i holds_reads (covers_now.has_live k i
              (live_at now (current h) k (current_in_order h) ∙ ap (option_filter (λ i. not (is_dead i now))) was ∙ passes now i there.1))
          | inr reads ↦ reads
        ]

    mirror_reads : (keys : List Key) (k : Key) (i : Item) (b : Bool) → is_named k keys ≡ b
        → cond b (item_of live k) (item_of old.mirror k) ≡ Some i → ReadsItem (k, i)
    mirror_reads keys k i true there at = live_reads k i at
    mirror_reads keys k i false there at = item_by_all ReadsItem old.mirror k i holds_reads at

    pub all_read : (keys : List Key) → All ReadsItem (apply old.mirror (changes_to live keys))
    all_read keys = all_by_items ReadsItem (apply old.mirror (changes_to live keys)) (order_applied old.mirror (changes_to live keys) ordered)
        (λ k i at. mirror_reads keys k i (is_named k keys) refl (sym (changes_leave live k keys old.mirror ordered) ∙ at))

  pub feed_plans : (new : Kept) → has_round d ≡ false → IsProper (message.ServiceDelivery d) → has_long_row (message.ServiceDelivery d) ≡ false
      → mid.responder.name ≡ old.producer.responder.name → GoesOn old.producer mid (Take (message.ServiceDelivery d))
      → SameButReads mid new.producer → new.mirror ≡ all_mirror → new.places ≡ old.places → AreFew
      → (All ReadsItem fed_mirror → All IsProperKey more)
      → Plans old new (Take (message.ServiceDelivery d) ∷ []) (puts_to live (named ++ more))
  feed_plans new none proper short name goes reads mirror places few are = record {
    name = ap (λ (k : Known). k.responder.name) reads ∙ name;
    stands = λ h s. stands_read mid new.producer (h ++ Take (message.ServiceDelivery d) ∷ []) reads (goes.stands h s);
    follows = λ h f. follows_read mid new.producer (h ++ Take (message.ServiceDelivery d) ∷ []) reads (goes.follows h f);
    holds = λ rows h holds.
        let m = message.ServiceDelivery d in
        let s = holds.stands in
        let t = goes.stands h s in
        let was = items_left old rows holds.left in
        let ordered = holds.left.ordered in
        let covers = holds.left.covers in
        let brings = reads_entries d proper short in
        let known = mid.responder in
        let unwritten : KeepsThese known.name known.moment known.start old.producer.responder.held old.mirror old.places (helds mid) rows =
        rw (
          name,
          fed_moment h none was ordered s t covers brings,
          fed_start h none was ordered s t covers brings,
          fed_table h none was ordered s t covers brings,
        ) holds.left in
        let after : KeepsThese known.name known.moment known.start live all_mirror old.places (helds mid) (with_puts rows (puts_to live (named ++ more))) =
        items_kept known.name known.moment known.start old.producer.responder.held old.mirror old.places (helds mid) rows unwritten
        (named ++ more) live
        (all_appended IsProperKey named more (named_proper entries brings) (are (all_read h none was ordered s t covers brings named)))
        (covers_then h none was ordered s t covers brings)
        (few (covers_named h none was ordered s t covers brings) (live_in_order mid (h ++ Take m ∷ []) t)
        (order_applied old.mirror (changes_to live named) ordered) (live_few mid (h ++ Take m ∷ []) t)) (all_read h none was ordered s t covers brings (named ++ more)) in
        record {
          left = rw (
            ap (λ (k : Known). k.responder.name) reads,
            ap (λ (k : Known). k.responder.moment) reads,
            ap (λ (k : Known). k.responder.start) reads,
            ap (λ (k : Known). k.responder.held) reads,
            ap (λ (k : Known). k.table) reads,
            mirror,
            places,
          ) after;
          stands = stands_read mid new.producer (h ++ Take m ∷ []) reads t;
          proper = proper_more h (Take m) holds.proper proper;
        };
  }

-- a feed after which there are few enough rows of items
pub fed_plans : (old : Kept) (mid : Known) (d : ServiceDelivery) (new : Kept)
    → has_round d ≡ false → IsProper (message.ServiceDelivery d) → has_long_row (message.ServiceDelivery d) ≡ false
    → mid.responder.name ≡ old.producer.responder.name
    → GoesOn old.producer mid (Take (message.ServiceDelivery d)) → SameButReads mid new.producer
    → new.mirror ≡ apply old.mirror (changes_to mid.responder.held (map entry_key (entries_of d))) → new.places ≡ old.places
    → length new.mirror ≤ most_rows
    → Plans old new (Take (message.ServiceDelivery d) ∷ []) (puts_to mid.responder.held (map entry_key (entries_of d)))
fed_plans old mid d new none proper short name goes reads mirror places few =
    let keys = map entry_key (entries_of d) in
    let live = mid.responder.held in
    let more = append-nil keys in
    let whole : new.mirror ≡ apply old.mirror (changes_to live (keys ++ [])) =
    mirror ∙ ap (λ all. apply old.mirror (changes_to live all)) (sym more) in
    subst (λ all. Plans old new (Take (message.ServiceDelivery d) ∷ []) (puts_to live all)) more
    (feed_plans old mid d [] new none proper short name goes reads whole places
    (λ covers one two small. subst (λ items. length items ≤ most_rows) whole few) (λ all. tt))

-- a feed after which dead items leave too, of which none is looked up
pub fed_plans_dead : (old : Kept) (mid : Known) (d : ServiceDelivery) (one new : Kept)
    → has_round d ≡ false → IsProper (message.ServiceDelivery d) → has_long_row (message.ServiceDelivery d) ≡ false
    → mid.responder.name ≡ old.producer.responder.name
    → GoesOn old.producer mid (Take (message.ServiceDelivery d)) → SameButReads mid one.producer → new.producer ≡ one.producer
    → one.mirror ≡ apply old.mirror (changes_to mid.responder.held (map entry_key (entries_of d)))
    → new.mirror ≡ apply one.mirror (changes_to [] (keys_of (dead_of one.producer.responder.moment one.mirror)))
    → one.places ≡ old.places → new.places ≡ one.places
    → Plans old new (Take (message.ServiceDelivery d) ∷ []) (puts_to mid.responder.held (map entry_key (entries_of d))
    ++ puts_to [] (keys_of (dead_of one.producer.responder.moment one.mirror)))
fed_plans_dead old mid d one new none proper short name goes reads same fed left places same_places =
    let m = message.ServiceDelivery d in
    let keys = map entry_key (entries_of d) in
    let live = mid.responder.held in
    let mirror = apply old.mirror (changes_to live keys) in
    let dead = keys_of (dead_of mid.responder.moment mirror) in
    let all_reads : SameButReads mid new.producer = subst (SameButReads mid) (sym same) reads in
    let moment_same : one.producer.responder.moment ≡ mid.responder.moment = ap (λ (k : Known). k.responder.moment) reads in
    let dead_same : keys_of (dead_of one.producer.responder.moment one.mirror) ≡ dead = λ i. keys_of (dead_of (moment_same i) (fed i)) in
    let whole : apply old.mirror (changes_to live (keys ++ dead)) ≡ apply mirror (changes_to live dead) = split old mid d dead in
    let gone : apply one.mirror (changes_to [] (keys_of (dead_of one.producer.responder.moment one.mirror)))
    ≡ apply mirror (changes_to [] dead) = λ i. apply (fed i) (changes_to [] (dead_same i)) in
    record {
      name = ap (λ (k : Known). k.responder.name) all_reads ∙ name;
      stands = λ h s. stands_read mid new.producer (h ++ Take m ∷ []) all_reads (goes.stands h s);
      follows = λ h f. follows_read mid new.producer (h ++ Take m ∷ []) all_reads (goes.follows h f);
      holds = λ rows h holds.
          let t = goes.stands h holds.stands in
          let s = live_in_order mid (h ++ Take m ∷ []) t in
          let sorted = order_applied old.mirror (changes_to live keys) holds.left.ordered in
          let covers = covers_named old mid d dead h none (items_left old rows holds.left) holds.left.ordered holds.stands t
          holds.left.covers (reads_entries d proper short) in
          let lives = live_alive mid (h ++ Take m ∷ []) t in
          let changes = unlooked_changes mid.responder.moment live mirror s sorted covers lives in
          let unlooked = unlooked_puts mid.responder.moment live mirror s sorted covers lives in
          let all : new.mirror ≡ apply old.mirror (changes_to live (keys ++ dead)) =
          left ∙ gone ∙ ap (apply mirror) (sym changes) ∙ sym whole in
          let puts : puts_to live (keys ++ dead)
          ≡ puts_to live keys ++ puts_to [] (keys_of (dead_of one.producer.responder.moment one.mirror)) =
          map-append (put_to live) keys dead ∙ ap (λ rest. puts_to live keys ++ rest) (unlooked ∙ ap (puts_to []) (sym dead_same)) in
          let plans = feed_plans old mid d dead new none proper short name goes all_reads all (same_places ∙ places)
          (λ covers ordered sorted small. subst (λ items. length items ≤ most_rows)
          (sym (whole ∙ live_left mid.responder.moment live mirror ordered sorted covers)) small)
          (λ each. dead_proper mid.responder.moment mirror each) in
          subst (λ puts. Holds new (with_puts rows puts) (h ++ Take m ∷ [])) puts (plans.holds rows h holds);
    }
