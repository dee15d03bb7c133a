-- Tables of which one row is read apart: the other rows don't look at its member.
use Rattle.std.proofs.Common.{◌≡◌, ℕ, List, [], ◌∷◌, Bool, true, false, Option, Some, None, Result, Ok, Err, refl, ap}
use Rattle.std.specs.Prelude.{unwrap_or, nat_le, cond, length, map, ◌≤◌}
use Rattle.std.proofs.lemmas.Bool.{le-leb}
use Rattle.json.specs.Json.{Members, object}
use Rattle.serde_json.specs.Data.{Data}
use Rattle.serde_json.specs.Find.{get}
use Rattle.siri_json.specs.Shown.{data_of}
use Rattle.siri_json.specs.Values.{member_of, unless_null, object_in}
use Rattle.siri_json.specs.declared.path.Step.TheVariants.{Member}
use Rattle.siri_items.specs.Journeys.{journey}
use Rattle.siri_records.specs.declared.item.Item.{Item}
use Rattle.siri_records.specs.declared.journey.Journey.{Journey}
use Rattle.siri_records.specs.declared.key.Key.{Key}
use Rattle.siri_messages.specs.declared.deliveries.FunctionalDelivery.{FunctionalDelivery}
use Rattle.siri_messages.specs.declared.deliveries.ServiceDelivery.{ServiceDelivery}
use Rattle.siri_base.specs.declared.reason.Reason.TheVariants.{TooMany}
use Rattle.siri_tables.specs.Refusals.{Refusal, ◌>>=◌, below, refused}
use Rattle.siri_tables.specs.Rules.{table, row, list, maybe, or_empty, at_most, list_of, list_inside, unless_wrong, entry_count, moment, name, flag}
use Rattle.siri_deliveries.specs.AsItComes.{entries, is_among, AreOthers, IsOwn}
use Rattle.siri_deliveries.specs.Incoming.{of_services, situations_in, AreDeliveries}
use Rattle.siri_deliveries.specs.declared.incoming_deliveries.Deliveries.{Deliveries}
use Rattle.siri_deliveries.specs.Deliveries.{visit_item, stop_monitoring_delivery, estimated_timetable_delivery, vehicle_monitoring_delivery}
use Rattle.siri_deliveries.specs.Deliveries.{situation_exchange_delivery, service_delivery, make_service_delivery, vehicle_item, situation_item, with_extensions}
use Rattle.siri_deliveries.specs.Limits.{most_entries}
use Rattle.siri_deliveries.specs.Errors.{other_error}
use Rattle.siri_deliveries.specs.Frames.{journey_of_frame, journeys, frame, concat_frames, frames_of, journeys_of_frames}
use Rattle.siri_deliveries.specs.Parts.{heading, round_position, no_round, delivery_extensions, no_extensions, delivery_of}
use Rattle.siri_deliveries.specs.Removals.{visit_cancellation, vehicle_cancellation, removed_journey, removed_situation}
use Rattle.siri_deliveries.specs.declared.names.TheConstants.{MONITORED_STOP_VISIT, MONITORED_STOP_VISIT_CANCELLATION, STOP_MONITORING_DELIVERY}
use Rattle.siri_deliveries.specs.declared.names.TheConstants.{VEHICLE_ACTIVITY, VEHICLE_ACTIVITY_CANCELLATION, SITUATIONS, PT_SITUATION_ELEMENT}
use Rattle.siri_deliveries.specs.declared.names.TheConstants.{ESTIMATED_VEHICLE_JOURNEY, ESTIMATED_JOURNEY_VERSION_FRAME}
use Rattle.siri_items.specs.declared.names.TheConstants.{RECORDED_AT_TIME}
use Rattle.siri_deliveries.specs.declared.names.TheConstants.{ESTIMATED_TIMETABLE_DELIVERY, VEHICLE_MONITORING_DELIVERY}
use Rattle.siri_deliveries.specs.declared.names.TheConstants.{SITUATION_EXCHANGE_DELIVERY, PRODUCER_REF, RESPONSE_MESSAGE_IDENTIFIER}
use Rattle.siri_deliveries.specs.declared.names.TheConstants.{REQUEST_MESSAGE_REF, MORE_DATA}
use Rattle.siri_deliveries.specs.declared.names.TheConstants.{RESPONSE_TIMESTAMP, SUBSCRIBER_REF, SUBSCRIPTION_REF, STATUS, ERROR_CONDITION, EXTENSIONS}

-- what was read first is read on
then : {A B : Type 0} (a : Result A Refusal) (f g : A → Result B Refusal) (y z : B)
    → ((x : A) → f x ≡ Ok y → g x ≡ Ok z) → (a >>= f) ≡ Ok y → (a >>= g) ≡ Ok z
then (Ok x) f g y z h e = h x e
then (Err r) f g y z h e = absurd (cc e)

module _ (keys : List (List ℕ)) (ms : Members) (others : Data) (h : AreOthers keys ms others) where
  same_member : (name : List ℕ) → is_among keys name ≡ false → member_of name (data_of (object ms)) ≡ member_of name others
  unfolding member_of
  same_member name other = ap unless_null (h.same name other)

  pub same_row : {B : Type 0} (rule : Data → Result (Option B) Refusal) (name : List ℕ) → is_among keys name ≡ false
      → row rule name (data_of (object ms)) ≡ row rule name others
  unfolding row
  same_row rule name other = ap (λ (o : Option Data). below (Member name) (maybe rule o)) (same_member name other)

  pub same_list : {B : Type 0} (rule : Data → Result (Option B) Refusal) (bound : ℕ) (name : List ℕ) → is_among keys name ≡ false
      → list rule bound name (data_of (object ms)) ≡ list rule bound name others
  unfolding list
  same_list rule bound name other = ap (λ (o : Option Data). below (Member name) (or_empty (at_most bound (list_of rule)) o)) (same_member name other)

  pub no_list : {B : Type 0} (rule : Data → Result (Option B) Refusal) (bound : ℕ) (name : List ℕ) → is_among keys name ≡ true
      → list rule bound name others ≡ Ok []
  unfolding list member_of
  no_list rule bound name own = ap (λ (o : Option Data). below (Member name) (or_empty (at_most bound (list_of rule)) (unless_null o))) (h.none name own)

pub own_list : {A : Type 0} (rows : Data → Result A Refusal) (most : ℕ) (key : List ℕ) (ms : Members) (own : List A)
    → IsOwn (entries rows most) key ms own → list (table rows) most key (data_of (object ms)) ≡ Ok own
unfolding list
own_list rows most key ms own h = ap (below (Member key)) h

-- a delivery with these items
abbrev pub with_items : FunctionalDelivery → List Item → FunctionalDelivery
with_items d items = record d { items = items }

-- the rows of a delivery before its Extensions
pub same_heading : (keys : List (List ℕ)) (ms : Members) (others : Data) → AreOthers keys ms others
    → is_among keys RESPONSE_TIMESTAMP.now ≡ false → is_among keys SUBSCRIBER_REF.now ≡ false
    → is_among keys SUBSCRIPTION_REF.now ≡ false → is_among keys STATUS.now ≡ false → is_among keys ERROR_CONDITION.now ≡ false
    → heading (data_of (object ms)) ≡ heading others
unfolding heading
same_heading keys ms others h a b c d e =
    rw (
      same_row keys ms others h moment RESPONSE_TIMESTAMP.now a,
      same_row keys ms others h name SUBSCRIBER_REF.now b,
      same_row keys ms others h name SUBSCRIPTION_REF.now c,
      same_row keys ms others h flag STATUS.now d,
      same_row keys ms others h other_error ERROR_CONDITION.now e,
    ) refl

-- a delivery of items and removals, each in a list of its own
abbrev by_lists : (Data → Result Item Refusal) → (Data → Result Key Refusal) → List ℕ → List ℕ → Data → Result FunctionalDelivery Refusal
by_lists item removal key removed d =
    heading d >>= λ h. (row (table round_position) EXTENSIONS.now d >>= λ o. Ok (unwrap_or o no_round)) >>= λ p.
    list (table item) most_entries key d >>= λ i. list (table removal) most_entries removed d >>= λ r. Ok (delivery_of h p i r)

items_apart : (item : Data → Result Item Refusal) (removal : Data → Result Key Refusal) (key removed : List ℕ) (ms : Members)
    (others : Data) (items : List Item) → heading (data_of (object ms)) ≡ heading others
    → is_among (key ∷ []) EXTENSIONS.now ≡ false → is_among (key ∷ []) removed ≡ false → is_among (key ∷ []) key ≡ true
    → AreOthers (key ∷ []) ms others → IsOwn (entries item most_entries) key ms items
    → (d : FunctionalDelivery) → by_lists item removal key removed others ≡ Ok d
    → by_lists item removal key removed (data_of (object ms)) ≡ Ok (with_items d items)
items_apart item removal key removed ms others items heads a b c h own d e =
    let k = key ∷ [] in
    let place = same_row k ms others h (table round_position) EXTENSIONS.now a in
    let gone = same_list k ms others h (table removal) most_entries removed b in
    rw (heads, place, own_list item most_entries key ms items own, gone)
    (then (heading others) _ _ d (with_items d items) (λ x at_heading.
    then (row (table round_position) EXTENSIONS.now others >>= λ o. Ok (unwrap_or o no_round)) _ _ d (with_items d items) (λ y at_place.
    then (list (table removal) most_entries removed others) _ _ d (with_items d items) (λ z at_removed.
    let made : delivery_of x y [] z ≡ d = cc at_removed in ap (λ (made : FunctionalDelivery). Ok (with_items made items)) made)
    at_place) at_heading) (rw (no_list k ms others h (table item) most_entries key c) at e))

pub visits_apart : (ms : Members) (others : Data) (items : List Item) → AreOthers (MONITORED_STOP_VISIT.now ∷ []) ms others
    → IsOwn (entries visit_item most_entries) MONITORED_STOP_VISIT.now ms items
    → (d : FunctionalDelivery) → stop_monitoring_delivery others ≡ Ok d
    → stop_monitoring_delivery (data_of (object ms)) ≡ Ok (with_items d items)
unfolding stop_monitoring_delivery
visits_apart ms others items h own d e =
    items_apart visit_item visit_cancellation MONITORED_STOP_VISIT.now MONITORED_STOP_VISIT_CANCELLATION.now ms others items
    (same_heading (MONITORED_STOP_VISIT.now ∷ []) ms others h refl refl refl refl refl) refl refl refl h own d e

pub vehicles_apart : (ms : Members) (others : Data) (items : List Item) → AreOthers (VEHICLE_ACTIVITY.now ∷ []) ms others
    → IsOwn (entries vehicle_item most_entries) VEHICLE_ACTIVITY.now ms items
    → (d : FunctionalDelivery) → vehicle_monitoring_delivery others ≡ Ok d
    → vehicle_monitoring_delivery (data_of (object ms)) ≡ Ok (with_items d items)
unfolding vehicle_monitoring_delivery
vehicles_apart ms others items h own d e =
    items_apart vehicle_item vehicle_cancellation VEHICLE_ACTIVITY.now VEHICLE_ACTIVITY_CANCELLATION.now ms others items
    (same_heading (VEHICLE_ACTIVITY.now ∷ []) ms others h refl refl refl refl refl) refl refl refl h own d e

-- ---- frames

unbounded : {A : Type 0} (b : Bool) (read : Result (List A) Refusal) (xs : List A)
    → cond b read (refused TooMany) ≡ Ok xs → read ≡ Ok xs
unbounded true read xs e = e
unbounded false read xs e = absurd (cc e)

without_bound : {A : Type 0} (rows : Data → Result A Refusal) (most : ℕ) (o : Option Data) (xs : List A)
    → or_empty (entries rows most) o ≡ Ok xs → or_empty (list_of (table rows)) o ≡ Ok xs
without_bound rows most None xs e = e
without_bound rows most (Some d) xs e = unbounded (nat_le (entry_count d) most) (list_of (table rows) d) xs e

pub frame_apart : (ms : Members) (others : Data) (found : List Journey) (time : Option ℕ)
    → AreOthers (ESTIMATED_VEHICLE_JOURNEY.now ∷ []) ms others
    → IsOwn (entries journey most_entries) ESTIMATED_VEHICLE_JOURNEY.now ms found
    → row moment RECORDED_AT_TIME.now others ≡ Ok time
    → frame (data_of (object ms)) ≡ Ok (map (journey_of_frame time) found)
unfolding frame journeys
frame_apart ms others found time h own e =
    let k = ESTIMATED_VEHICLE_JOURNEY.now ∷ [] in
    let all = ap (below (Member ESTIMATED_VEHICLE_JOURNEY.now)) (without_bound journey most_entries (member_of ESTIMATED_VEHICLE_JOURNEY.now (data_of (object ms))) found own) in
    rw (same_row k ms others h moment RECORDED_AT_TIME.now refl, e, all) refl

frames_read : (o : Option Data) (found : List (List Item)) → or_empty (entries frame most_entries) o ≡ Ok found
    → length (concat_frames found) ≤ most_entries → or_empty frames_of o ≡ Ok (concat_frames found)
unfolding frames_of
frames_read None found e le = let none : [] ≡ found = cc e in rw (← none) refl
frames_read (Some d) found e le =
    let few : nat_le (length (concat_frames found)) most_entries ≡ true = le-leb _ _ le in
    rw (unbounded (nat_le (entry_count d) most_entries) (list_of (table frame) d) found e, few) refl

pub journeys_apart : (ms : Members) (others : Data) (found : List (List Item))
    → AreOthers (ESTIMATED_JOURNEY_VERSION_FRAME.now ∷ []) ms others
    → IsOwn (entries frame most_entries) ESTIMATED_JOURNEY_VERSION_FRAME.now ms found
    → length (concat_frames found) ≤ most_entries → (d : FunctionalDelivery) → estimated_timetable_delivery others ≡ Ok d
    → estimated_timetable_delivery (data_of (object ms)) ≡ Ok (with_items d (concat_frames found))
unfolding estimated_timetable_delivery journeys_of_frames member_of
journeys_apart ms others found h own le d e =
    let key = ESTIMATED_JOURNEY_VERSION_FRAME.now in
    let items = concat_frames found in
    let gone = table (delivery_extensions removed_journey) in
    let heads = same_heading (key ∷ []) ms others h refl refl refl refl refl in
    let rest = same_row (key ∷ []) ms others h gone EXTENSIONS.now refl in
    let all = frames_read (unless_null (get key (data_of (object ms)))) found own le in
    rw (heads, rest, all)
    (then (heading others) _ _ d (with_items d items) (λ x at_heading.
    then (row gone EXTENSIONS.now others >>= λ o. Ok (unwrap_or o no_extensions)) _ _ d (with_items d items) (λ y at_rest.
    let made : with_extensions x y [] ≡ d = cc at_rest in ap (λ (made : FunctionalDelivery). Ok (with_items made items)) made)
    at_heading) (rw (h.none key refl) at e))

-- ---- situations, which stand in an object of their own

pub situations_are : (ms : Members) (items : List Item)
    → IsOwn (entries situation_item most_entries) PT_SITUATION_ELEMENT.now ms items → situations_in (data_of (object ms)) ≡ Ok items
unfolding object_in
situations_are ms items own = own_list situation_item most_entries PT_SITUATION_ELEMENT.now ms items own

situations_read : (o : Option Data) (items : List Item) → or_empty situations_in o ≡ Ok items
    → (maybe (λ v. unless_wrong (object_in v)) o >>= or_empty (list (table situation_item) most_entries PT_SITUATION_ELEMENT.now)) ≡ Ok items
situations_read None items e = e
situations_read (Some d) items e = e

pub situations_apart : (ms : Members) (others : Data) (items : List Item) → AreOthers (SITUATIONS.now ∷ []) ms others
    → IsOwn situations_in SITUATIONS.now ms items
    → (d : FunctionalDelivery) → situation_exchange_delivery others ≡ Ok d
    → situation_exchange_delivery (data_of (object ms)) ≡ Ok (with_items d items)
unfolding situation_exchange_delivery list_inside member_of
situations_apart ms others items h own d e =
    let key = SITUATIONS.now in
    let gone = table (delivery_extensions removed_situation) in
    let heads = same_heading (key ∷ []) ms others h refl refl refl refl refl in
    let rest = same_row (key ∷ []) ms others h gone EXTENSIONS.now refl in
    let all = situations_read (unless_null (get key (data_of (object ms)))) items own in
    rw (heads, rest, all)
    (then (heading others) _ _ d (with_items d items) (λ x at_heading.
    then (row gone EXTENSIONS.now others >>= λ o. Ok (unwrap_or o no_extensions)) _ _ d (with_items d items) (λ y at_rest.
    let made : with_extensions x y [] ≡ d = cc at_rest in ap (λ (made : FunctionalDelivery). Ok (with_items made items)) made)
    at_heading) (rw (h.none key refl) at e))

-- a ServiceDelivery with these deliveries
abbrev pub with_deliveries : ServiceDelivery → Deliveries → ServiceDelivery
with_deliveries s d = record s {
  stop_monitoring_delivery = d.stop_monitoring;
  estimated_timetable_delivery = d.estimated_timetable;
  vehicle_monitoring_delivery = d.vehicle_monitoring;
  situation_exchange_delivery = d.situation_exchange;
}

pub deliveries_apart : (ms : Members) (others : Data) (ds : Deliveries) → AreOthers of_services ms others → AreDeliveries ms ds
    → (s : ServiceDelivery) → service_delivery others ≡ Ok s → service_delivery (data_of (object ms)) ≡ Ok (with_deliveries s ds)
unfolding service_delivery
deliveries_apart ms others ds h own s e =
    let k = of_services in
    let t = with_deliveries s ds in
    let stamp = same_row k ms others h moment RESPONSE_TIMESTAMP.now refl in
    let producer = same_row k ms others h name PRODUCER_REF.now refl in
    let identifier = same_row k ms others h name RESPONSE_MESSAGE_IDENTIFIER.now refl in
    let request = same_row k ms others h name REQUEST_MESSAGE_REF.now refl in
    let status = same_row k ms others h flag STATUS.now refl in
    let error = same_row k ms others h other_error ERROR_CONDITION.now refl in
    let more = same_row k ms others h flag MORE_DATA.now refl in
    let stops = own_list stop_monitoring_delivery 100 STOP_MONITORING_DELIVERY.now ms ds.stop_monitoring own.stop in
    let timetables = own_list estimated_timetable_delivery 100 ESTIMATED_TIMETABLE_DELIVERY.now ms ds.estimated_timetable own.timetable in
    let vehicles = own_list vehicle_monitoring_delivery 100 VEHICLE_MONITORING_DELIVERY.now ms ds.vehicle_monitoring own.vehicle in
    let situations = own_list situation_exchange_delivery 100 SITUATION_EXCHANGE_DELIVERY.now ms ds.situation_exchange own.situation in
    let no_stops = no_list k ms others h (table stop_monitoring_delivery) 100 STOP_MONITORING_DELIVERY.now refl in
    let no_timetables = no_list k ms others h (table estimated_timetable_delivery) 100 ESTIMATED_TIMETABLE_DELIVERY.now refl in
    let no_vehicles = no_list k ms others h (table vehicle_monitoring_delivery) 100 VEHICLE_MONITORING_DELIVERY.now refl in
    let no_situations = no_list k ms others h (table situation_exchange_delivery) 100 SITUATION_EXCHANGE_DELIVERY.now refl in
    rw (stamp, producer, identifier, request, status, error, more, stops, timetables, vehicles, situations)
    (then (row moment RESPONSE_TIMESTAMP.now others) _ _ s t (λ a at_a.
    then (row name PRODUCER_REF.now others) _ _ s t (λ b at_b.
    then (row name RESPONSE_MESSAGE_IDENTIFIER.now others) _ _ s t (λ c at_c.
    then (row name REQUEST_MESSAGE_REF.now others) _ _ s t (λ d at_d.
    then (row flag STATUS.now others >>= λ o. Ok (unwrap_or o true)) _ _ s t (λ f at_f.
    then (row other_error ERROR_CONDITION.now others) _ _ s t (λ g at_g.
    then (row flag MORE_DATA.now others >>= λ o. Ok (unwrap_or o false)) _ _ s t (λ m at_m.
    let made : make_service_delivery a b c d f g m [] [] [] [] ≡ s = cc at_m in ap (λ (made : ServiceDelivery). Ok (with_deliveries made ds)) made)
    at_g) at_f) at_d) at_c) at_b) at_a) (rw (no_stops, no_timetables, no_vehicles, no_situations) at e))
