-- Tables that are written in byte order of their names, a lemma a table.
use Rattle.std.proofs.Common.{◌≡◌, ℕ, true, false, List, [], ◌∷◌, ◌++◌, Option, refl, sym, length, append_assoc}
use Rattle.std.proofs.Common.{append-nil, arith}
use Rattle.std.proofs.lemmas.Bool.{lt-ltb}
use Rattle.std.specs.Prelude.{is_some, nat_lt}
use Rattle.json.specs.Token.{Token, key, string, begin_object, end_object, begin_array, end_array}
use Rattle.serde_json.specs.Data.{Data}
use Rattle.siri_json.specs.Tokens.{tokens_of}
use Rattle.siri_tables.specs.Appended.{row_tokens}
use Rattle.siri_tables.proofs.Sorted.{rows_onto, sorted, object_in_order, any_written, written_object, left_out}
use Rattle.siri_tables.specs.Tables.{all_written}
use Rattle.siri_tables.specs.Writing.{Row, array_unless_empty, row_object, written_list, written_text}
use Rattle.siri_deliveries.specs.declared.names.TheConstants.{ERROR_TEXT, ESTIMATED_VEHICLE_JOURNEY, EXTENSIONS}
use Rattle.siri_deliveries.specs.declared.names.TheConstants.{OTHER_ERROR, REMOVED}
use Rattle.siri_topic.specs.declared.topics.StopTopic.{StopTopic}
use Rattle.siri_topic.specs.declared.topics.TimetableTopic.{TimetableTopic}
use Rattle.siri_topic.specs.declared.topics.LineDirection.{LineDirection}
use Rattle.siri_topic.specs.declared.topics.VehicleTopic.{VehicleTopic}
use Rattle.siri_topic.specs.declared.topics.SituationTopic.{SituationTopic}
use Rattle.siri_records.specs.declared.item.Item.{Item}
use Rattle.siri_records.specs.declared.key.Key.{Key}
use Rattle.siri_messages.specs.declared.deliveries.FunctionalDelivery.{FunctionalDelivery}
use Rattle.siri_messages.specs.declared.deliveries.ServiceDelivery.{ServiceDelivery}
use Rattle.siri_deliveries.specs.Removals.{rows_of_removal, written_removal}
use Rattle.siri_deliveries.specs.Frames.{rows_of_frame}
use Rattle.siri_deliveries.specs.Parts.{rows_of_place, written_position, written_place, written_extensions}
use Rattle.siri_deliveries.specs.Parts.{written_removed}
use Rattle.siri_deliveries.specs.Deliveries.{stop_delivery_table, timetable_delivery_table, vehicle_delivery_table}
use Rattle.siri_deliveries.specs.Deliveries.{situation_delivery_table, service_delivery_table, written_service_delivery}
use Rattle.siri_deliveries.specs.Topics.{stop_topic_table, written_stop_topic, line_direction_table}
use Rattle.siri_deliveries.specs.Topics.{timetable_topic_table}
use Rattle.siri_deliveries.specs.Topics.{written_timetable_topic, vehicle_topic_table, written_vehicle_topic}
use Rattle.siri_deliveries.specs.Topics.{situation_topic_table}
use Rattle.siri_deliveries.specs.Topics.{written_situation_topic}
use Rattle.siri_records.specs.declared.key.Key.TheVariants as keys

pub stop_topic_in_order : (old : List Token) (t : StopTopic)
    → rows_onto (old ++ begin_object ∷ []) (sorted (all_written stop_topic_table t)) ++ end_object ∷ [] ≡ old
    ++ tokens_of (written_stop_topic t)
unfolding written_stop_topic
stop_topic_in_order old t = object_in_order old (all_written stop_topic_table t)

pub line_direction_in_order : (old : List Token) (l : LineDirection)
    → rows_onto (old ++ begin_object ∷ []) (sorted (all_written line_direction_table l)) ++ end_object ∷ [] ≡ old
    ++ tokens_of (row_object (all_written line_direction_table l))
line_direction_in_order old l = object_in_order old (all_written line_direction_table l)

pub timetable_topic_in_order : (old : List Token) (t : TimetableTopic)
    → rows_onto (old ++ begin_object ∷ []) (sorted (all_written timetable_topic_table t)) ++ end_object ∷ [] ≡ old
    ++ tokens_of (written_timetable_topic t)
unfolding written_timetable_topic
timetable_topic_in_order old t = object_in_order old (all_written timetable_topic_table t)

pub vehicle_topic_in_order : (old : List Token) (t : VehicleTopic)
    → rows_onto (old ++ begin_object ∷ []) (sorted (all_written vehicle_topic_table t)) ++ end_object ∷ [] ≡ old
    ++ tokens_of (written_vehicle_topic t)
unfolding written_vehicle_topic
vehicle_topic_in_order old t = object_in_order old (all_written vehicle_topic_table t)

pub situation_topic_in_order : (old : List Token) (t : SituationTopic)
    → rows_onto (old ++ begin_object ∷ []) (sorted (all_written situation_topic_table t)) ++ end_object ∷ [] ≡ old
    ++ tokens_of (written_situation_topic t)
unfolding written_situation_topic
situation_topic_in_order old t = object_in_order old (all_written situation_topic_table t)

pub frame_in_order : (old : List Token) (i : Item) → rows_onto (old ++ begin_object ∷ []) (sorted (rows_of_frame i))
    ++ end_object ∷ [] ≡ old ++ tokens_of (row_object (rows_of_frame i))
frame_in_order old i = object_in_order old (rows_of_frame i)

pub removed_visit_in_order : (old : List Token) (m i : List ℕ)
    → rows_onto (old ++ begin_object ∷ []) (sorted (rows_of_removal (keys.Visit m i))) ++ end_object ∷ [] ≡ old
    ++ tokens_of (row_object (rows_of_removal (keys.Visit m i)))
removed_visit_in_order old m i = object_in_order old (rows_of_removal (keys.Visit m i))

pub removed_journey_in_order : (old : List Token) (l : List ℕ) (d f : Option (List ℕ)) (j : List ℕ)
    → rows_onto (old ++ begin_object ∷ []) (sorted (rows_of_removal (keys.Journey l d f j))) ++ end_object ∷ [] ≡ old
    ++ tokens_of (row_object (rows_of_removal (keys.Journey l d f j)))
removed_journey_in_order old l d f j = object_in_order old (rows_of_removal (keys.Journey l d f j))

pub removed_vehicle_in_order : (old : List Token) (v : List ℕ)
    → rows_onto (old ++ begin_object ∷ []) (sorted (rows_of_removal (keys.Vehicle v))) ++ end_object ∷ [] ≡ old
    ++ tokens_of (row_object (rows_of_removal (keys.Vehicle v)))
removed_vehicle_in_order old v = object_in_order old (rows_of_removal (keys.Vehicle v))

pub removed_situation_in_order : (old : List Token) (p : Option (List ℕ)) (n : List ℕ)
    → rows_onto (old ++ begin_object ∷ []) (sorted (rows_of_removal (keys.Situation p n))) ++ end_object ∷ [] ≡ old
    ++ tokens_of (row_object (rows_of_removal (keys.Situation p n)))
removed_situation_in_order old p n = object_in_order old (rows_of_removal (keys.Situation p n))

pub place_in_order : (old : List Token) (d : FunctionalDelivery)
    → rows_onto (old ++ begin_object ∷ []) (sorted (rows_of_place d [])) ++ end_object ∷ [] ≡ old
    ++ tokens_of (row_object (rows_of_place d []))
place_in_order old d = object_in_order old (rows_of_place d [])

pub removed_in_order : (old : List Token) (d : FunctionalDelivery)
    → rows_onto (old ++ begin_object ∷ []) (sorted
    (rows_of_place d ((REMOVED.now, written_list written_removal d.removals) ∷ []))) ++ end_object ∷ [] ≡ old
    ++ tokens_of (row_object (rows_of_place d ((REMOVED.now, written_list written_removal d.removals) ∷ [])))
removed_in_order old d = object_in_order old
    (rows_of_place d ((REMOVED.now, written_list written_removal d.removals) ∷ []))

pub stop_delivery_in_order : (old : List Token) (d : FunctionalDelivery)
    → rows_onto (old ++ begin_object ∷ []) (sorted (all_written stop_delivery_table d)) ++ end_object ∷ [] ≡ old
    ++ tokens_of (row_object (all_written stop_delivery_table d))
stop_delivery_in_order old d = object_in_order old (all_written stop_delivery_table d)

pub timetable_delivery_in_order : (old : List Token) (d : FunctionalDelivery)
    → rows_onto (old ++ begin_object ∷ []) (sorted (all_written timetable_delivery_table d)) ++ end_object ∷ [] ≡ old
    ++ tokens_of (row_object (all_written timetable_delivery_table d))
timetable_delivery_in_order old d = object_in_order old (all_written timetable_delivery_table d)

pub vehicle_delivery_in_order : (old : List Token) (d : FunctionalDelivery)
    → rows_onto (old ++ begin_object ∷ []) (sorted (all_written vehicle_delivery_table d)) ++ end_object ∷ [] ≡ old
    ++ tokens_of (row_object (all_written vehicle_delivery_table d))
vehicle_delivery_in_order old d = object_in_order old (all_written vehicle_delivery_table d)

pub situation_delivery_in_order : (old : List Token) (d : FunctionalDelivery)
    → rows_onto (old ++ begin_object ∷ []) (sorted (all_written situation_delivery_table d)) ++ end_object ∷ [] ≡ old
    ++ tokens_of (row_object (all_written situation_delivery_table d))
situation_delivery_in_order old d = object_in_order old (all_written situation_delivery_table d)

pub service_delivery_in_order : (old : List Token) (d : ServiceDelivery)
    → rows_onto (old ++ begin_object ∷ []) (sorted (all_written service_delivery_table d)) ++ end_object ∷ [] ≡ old
    ++ tokens_of (written_service_delivery d)
unfolding written_service_delivery
service_delivery_in_order old d = object_in_order old (all_written service_delivery_table d)

-- ---- values and objects in forms of their own

regroup_error : (old a : List Token) (b k c e f : Token)
    → (((((old ++ b ∷ []) ++ k ∷ []) ++ c ∷ []) ++ a) ++ e ∷ []) ++ f ∷ [] ≡ old ++ b ∷ k ∷ c ∷ (a ++ e ∷ f ∷ [])
regroup_error old a b k c e f = simp append_assoc

pub error_in_order : (old : List Token) (t : List ℕ)
    → (((((old ++ begin_object ∷ []) ++ key OTHER_ERROR.now ∷ []) ++ begin_object ∷ [])
    ++ row_tokens ERROR_TEXT.now (written_text t)) ++ end_object ∷ []) ++ end_object ∷ []
    ≡ old ++ begin_object ∷ key OTHER_ERROR.now ∷ begin_object ∷ key ERROR_TEXT.now ∷ string t ∷ end_object ∷ end_object
    ∷ []
error_in_order old t = regroup_error old (row_tokens ERROR_TEXT.now (written_text t)) begin_object
    (key OTHER_ERROR.now) begin_object end_object end_object

pub regroup_row : (old a : List Token) (k b e : Token)
    → (((old ++ k ∷ []) ++ b ∷ []) ++ a) ++ e ∷ [] ≡ old ++ k ∷ b ∷ (a ++ e ∷ [])
regroup_row old a k b e = simp append_assoc

pub journey_row_is : (old : List Token) (d : Data)
    → (((old ++ key ESTIMATED_VEHICLE_JOURNEY.now ∷ []) ++ begin_array ∷ []) ++ tokens_of d) ++ end_array ∷ [] ≡ old
    ++ row_tokens ESTIMATED_VEHICLE_JOURNEY.now (array_unless_empty (d ∷ []))
journey_row_is old d = regroup_row old (tokens_of d) (key ESTIMATED_VEHICLE_JOURNEY.now) begin_array end_array

-- ---- Extensions that are left out where they would be empty

pub place_left_out : (old : List Token) (d : FunctionalDelivery) → any_written (rows_of_place d []) ≡ false
    → old ≡ old ++ row_tokens EXTENSIONS.now (written_place d)
unfolding written_position
place_left_out old d is = rw (left_out (rows_of_place d []) is) (sym (append-nil old))

pub place_written : (old : List Token) (d : FunctionalDelivery) → any_written (rows_of_place d []) ≡ true
    → (old ++ key EXTENSIONS.now ∷ []) ++ tokens_of (row_object (rows_of_place d [])) ≡ old
    ++ row_tokens EXTENSIONS.now (written_place d)
unfolding written_position
place_written old d is = rw (written_object (rows_of_place d []) is)
    (append_assoc old (key EXTENSIONS.now ∷ []) (tokens_of (row_object (rows_of_place d []))))

rows_of_removed : FunctionalDelivery → List Row
rows_of_removed d = rows_of_place d ((REMOVED.now, written_list written_removal d.removals) ∷ [])

pub removed_left_out : (old : List Token) (d : FunctionalDelivery)
    → any_written (rows_of_place d ((REMOVED.now, written_list written_removal d.removals) ∷ [])) ≡ false
    → old ≡ old ++ row_tokens EXTENSIONS.now (written_removed d)
unfolding written_extensions rows_of_removed
removed_left_out old d is = rw (left_out (rows_of_removed d) is) (sym (append-nil old))

pub removed_written : (old : List Token) (d : FunctionalDelivery)
    → any_written (rows_of_place d ((REMOVED.now, written_list written_removal d.removals) ∷ [])) ≡ true
    → (old ++ key EXTENSIONS.now ∷ []) ++ tokens_of
    (row_object (rows_of_place d ((REMOVED.now, written_list written_removal d.removals) ∷ []))) ≡ old
    ++ row_tokens EXTENSIONS.now (written_removed d)
unfolding written_extensions rows_of_removed
removed_written old d is = rw (written_object (rows_of_removed d) is)
    (append_assoc old (key EXTENSIONS.now ∷ []) (tokens_of (row_object (rows_of_removed d))))

pub any_removed : (keys : List Key) → is_some (written_list written_removal keys) ≡ nat_lt 0 (length keys)
unfolding written_list written_removal
any_removed [] = refl
any_removed (k ∷ ks) = sym (lt-ltb 0 (length (k ∷ ks)) (omega arith))
