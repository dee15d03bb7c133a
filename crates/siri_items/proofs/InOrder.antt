-- Tables that are written in byte order of their names, a lemma a table.
use Rattle.std.proofs.Common.{◌≡◌, ℕ, true, false, List, [], ◌∷◌, ◌++◌, Option, Some, None, refl, sym, ap, ◌∙◌, append_assoc, append-nil, arith}
use Rattle.std.proofs.lemmas.Bool.{lt-ltb}
use Rattle.std.specs.Prelude.{option_and_then, is_some, nat_lt, length}
use Rattle.json.specs.Token.{Token, key, begin_object, end_object, begin_array, end_array}
use Rattle.serde_json.specs.Data.{Data}
use Rattle.siri_records.specs.declared.call.StopCall.{StopCall}
use Rattle.siri_records.specs.declared.visit.Visit.{Visit}
use Rattle.siri_records.specs.declared.visit.VisitJourney.{VisitJourney}
use Rattle.siri_records.specs.declared.visit.VehicleLocation.{VehicleLocation}
use Rattle.siri_records.specs.declared.vehicle.Vehicle.{Vehicle}
use Rattle.siri_records.specs.declared.vehicle.VehicleJourney.{VehicleJourney}
use Rattle.siri_records.specs.declared.journey.Journey.{Journey}
use Rattle.siri_records.specs.declared.situation.Situation.{Situation}
use Rattle.siri_records.specs.declared.situation.Period.{Period}
use Rattle.siri_items.specs.declared.names.TheConstants.{AFFECTED_NETWORK, AFFECTS, NETWORKS, RECORDED_AT_TIME, VEHICLE_LOCATION}
use Rattle.siri_json.specs.Tokens.{tokens_of}
use Rattle.siri_tables.specs.Appended.{row_tokens, Appends}
use Rattle.siri_tables.specs.Writing.{row_object, written_list, written_moment, written_name}
use Rattle.siri_tables.specs.Tables.{all_written}
use Rattle.siri_items.specs.Calls.{call_table, written_call, rows_of_location, written_location, rows_of_framed_ref}
use Rattle.siri_items.specs.Visits.{visit_journey_table, written_visit_journey, visit_table, written_visit}
use Rattle.siri_items.specs.Vehicles.{vehicle_journey_table, written_vehicle_journey, vehicle_table, written_vehicle}
use Rattle.siri_items.specs.Journeys.{rows_of_journey, written_journey, written_timed_journey}
use Rattle.siri_items.specs.Situations.{rows_of_period, written_names, written_network, written_networks, rows_of_affects, written_affects}
use Rattle.siri_items.specs.Situations.{situation_table, written_situation}
use Rattle.siri_tables.proofs.Sorted.{rows_onto, sorted, object_in_order, row_in_order, any_written, written_object, left_out}

pub call_in_order : (old : List Token) (c : StopCall)
    → rows_onto (old ++ begin_object ∷ []) (sorted (all_written call_table c)) ++ end_object ∷ [] ≡ old
    ++ tokens_of (written_call c)
unfolding written_call
call_in_order old c = object_in_order old (all_written call_table c)

pub location_in_order : (old : List Token) (l : VehicleLocation)
    → rows_onto (old ++ begin_object ∷ []) (sorted (rows_of_location l)) ++ end_object ∷ [] ≡ old
    ++ tokens_of (row_object (rows_of_location l))
location_in_order old l = object_in_order old (rows_of_location l)

pub framed_in_order : (old : List Token) (name frame : List ℕ) (dated : Option Data)
    → rows_onto ((old ++ key name ∷ []) ++ begin_object ∷ []) (sorted (rows_of_framed_ref frame dated))
    ++ end_object ∷ [] ≡ old ++ key name ∷ tokens_of (row_object (rows_of_framed_ref frame dated))
framed_in_order old name frame dated = row_in_order old name (rows_of_framed_ref frame dated)

pub visit_journey_in_order : (old : List Token) (j : VisitJourney)
    → rows_onto (old ++ begin_object ∷ []) (sorted (all_written visit_journey_table j)) ++ end_object ∷ [] ≡ old
    ++ tokens_of (written_visit_journey j)
unfolding written_visit_journey
visit_journey_in_order old j = object_in_order old (all_written visit_journey_table j)

pub visit_in_order : (old : List Token) (v : Visit) → rows_onto (old ++ begin_object ∷ [])
    (sorted (all_written visit_table v)) ++ end_object ∷ [] ≡ old ++ tokens_of (written_visit v)
unfolding written_visit
visit_in_order old v = object_in_order old (all_written visit_table v)

pub vehicle_journey_in_order : (old : List Token) (j : VehicleJourney)
    → rows_onto (old ++ begin_object ∷ []) (sorted (all_written vehicle_journey_table j)) ++ end_object ∷ [] ≡ old
    ++ tokens_of (written_vehicle_journey j)
unfolding written_vehicle_journey
vehicle_journey_in_order old j = object_in_order old (all_written vehicle_journey_table j)

pub vehicle_in_order : (old : List Token) (v : Vehicle)
    → rows_onto (old ++ begin_object ∷ []) (sorted (all_written vehicle_table v)) ++ end_object ∷ [] ≡ old
    ++ tokens_of (written_vehicle v)
unfolding written_vehicle
vehicle_in_order old v = object_in_order old (all_written vehicle_table v)

pub journey_in_order : (old : List Token) (time : Option ℕ) (j : Journey)
    → rows_onto (old ++ begin_object ∷ []) (sorted
    ((RECORDED_AT_TIME.now, option_and_then written_moment time) ∷ rows_of_journey j)) ++ end_object ∷ [] ≡ old
    ++ tokens_of (written_timed_journey time j)
unfolding written_timed_journey
journey_in_order old time j = object_in_order old ((RECORDED_AT_TIME.now, option_and_then written_moment time) ∷ rows_of_journey j)

pub untimed : (j : Journey) → written_timed_journey None j ≡ written_journey j
unfolding written_timed_journey written_journey
untimed j = refl

pub period_in_order : (old : List Token) (p : Period)
    → rows_onto (old ++ begin_object ∷ []) (sorted (rows_of_period p)) ++ end_object ∷ [] ≡ old
    ++ tokens_of (row_object (rows_of_period p))
period_in_order old p = object_in_order old (rows_of_period p)

pub affects_in_order : (old : List Token) (os ls ss : List (List ℕ))
    → rows_onto (old ++ begin_object ∷ []) (sorted (rows_of_affects os ls ss)) ++ end_object ∷ [] ≡ old ++ tokens_of (row_object (rows_of_affects os ls ss))
affects_in_order old os ls ss = object_in_order old (rows_of_affects os ls ss)

pub situation_in_order : (old : List Token) (s : Situation)
    → rows_onto (old ++ begin_object ∷ []) (sorted (all_written situation_table s)) ++ end_object ∷ [] ≡ old
    ++ tokens_of (written_situation s)
unfolding written_situation
situation_in_order old s = object_in_order old (all_written situation_table s)

-- ---- objects that are left out

pub location_left_out : (old : List Token) (l : VehicleLocation) → any_written (rows_of_location l) ≡ false
    → old ≡ old ++ row_tokens VEHICLE_LOCATION.now (written_location l)
unfolding written_location
location_left_out old l is = rw (left_out (rows_of_location l) is) (sym (append-nil old))

pub location_written : (old : List Token) (l : VehicleLocation) → any_written (rows_of_location l) ≡ true
    → (old ++ key VEHICLE_LOCATION.now ∷ []) ++ tokens_of (row_object (rows_of_location l)) ≡ old ++ row_tokens VEHICLE_LOCATION.now (written_location l)
unfolding written_location
location_written old l is = rw (written_object (rows_of_location l) is)
    (append_assoc old (key VEHICLE_LOCATION.now ∷ []) (tokens_of (row_object (rows_of_location l))))

pub affects_left_out : (old : List Token) (os ls ss : List (List ℕ)) → any_written (rows_of_affects os ls ss) ≡ false
    → old ≡ old ++ row_tokens AFFECTS.now (written_affects os ls ss)
unfolding written_affects
affects_left_out old os ls ss is = rw (left_out (rows_of_affects os ls ss) is) (sym (append-nil old))

pub affects_written : (old : List Token) (os ls ss : List (List ℕ)) → any_written (rows_of_affects os ls ss) ≡ true
    → (old ++ key AFFECTS.now ∷ []) ++ tokens_of (row_object (rows_of_affects os ls ss)) ≡ old ++ row_tokens AFFECTS.now (written_affects os ls ss)
unfolding written_affects
affects_written old os ls ss is = rw (written_object (rows_of_affects os ls ss) is)
    (append_assoc old (key AFFECTS.now ∷ []) (tokens_of (row_object (rows_of_affects os ls ss))))

regroup : (old a : List Token) (k o n l e f : Token)
    → (((((((old ++ k ∷ []) ++ o ∷ []) ++ n ∷ []) ++ l ∷ []) ++ a) ++ e ∷ []) ++ f ∷ []) ≡ old
    ++ k ∷ o ∷ n ∷ l ∷ (a ++ e ∷ f ∷ [])
regroup old a k o n l e f = simp append_assoc

closing : (old a : List Token) → old ++ key NETWORKS.now ∷ begin_object ∷ key
    AFFECTED_NETWORK.now ∷ begin_array ∷ (a ++ end_array ∷ end_object ∷ []) ≡ old
    ++ key NETWORKS.now ∷ begin_object ∷ key
    AFFECTED_NETWORK.now ∷ ((begin_array ∷ (a ++ end_array ∷ [])) ++ end_object ∷ [])
closing old a = ap (λ ts. old ++ key NETWORKS.now ∷ begin_object ∷ key AFFECTED_NETWORK.now ∷ begin_array ∷ ts)
    (sym (append_assoc a (end_array ∷ []) (end_object ∷ [])))

-- all lines under one network
pub network_written : (w : Option Data) (old new : List Token)
    → Appends w ((((old ++ key NETWORKS.now ∷ []) ++ begin_object ∷ []) ++ key AFFECTED_NETWORK.now ∷ [])
    ++ begin_array ∷ []) new
    → (new ++ end_array ∷ []) ++ end_object ∷ [] ≡ old ++ row_tokens NETWORKS.now (written_network w)
unfolding written_network
network_written None old new is = absurd is
network_written (Some d) old new is =
    rw is (regroup old (tokens_of d) (key NETWORKS.now) begin_object (key AFFECTED_NETWORK.now) begin_array end_array end_object ∙ closing old (tokens_of d))

pub no_networks : (old : List Token) (lines : List (List ℕ)) → length lines ≡ 0 → old ≡ old ++ row_tokens NETWORKS.now (written_networks lines)
unfolding written_networks written_names written_list written_network
no_networks old [] is = sym (append-nil old)
no_networks old (x ∷ xs) is = absurd cc

pub names_there : (name inner : List ℕ) (xs : List (List ℕ)) → is_some (written_names name inner xs) ≡ nat_lt 0 (length xs)
unfolding written_names written_list written_name
names_there name inner [] = refl
names_there name inner (x ∷ xs) = sym (lt-ltb 0 (length (x ∷ xs)) (omega arith))

pub networks_there : (xs : List (List ℕ)) → is_some (written_networks xs) ≡ nat_lt 0 (length xs)
unfolding written_networks written_names written_list written_network written_name
networks_there [] = refl
networks_there (x ∷ xs) = sym (lt-ltb 0 (length (x ∷ xs)) (omega arith))
