-- A request for one topic, as it is written.
use Rattle.std.proofs.Common.{◌≡◌, Bool, true, false, List, [], ◌∷◌, ◌++◌, length, nat_lt, Option, Some, None, refl, ap, subst}
use Rattle.std.specs.Prelude.{option_and_then, if◌then◌else◌}
use Rattle.std.specs.List.{AllByRecursion}
use Rattle.serde_json.specs.Data.{Data}
use Rattle.siri_json.specs.Canonical.{as_texts}
use Rattle.siri_records.specs.declared.item.Service.TheVariants as service
use Rattle.siri_topic.specs.declared.topics.TimetableTopic.{TimetableTopic}
use Rattle.siri_topic.specs.declared.topics.Topic.{Topic}
use Rattle.siri_topic.specs.declared.topics.Topic.TheVariants as topics
use Rattle.siri_messages.specs.declared.requests.ServiceRequest.{ServiceRequest}
use Rattle.siri_tables.specs.Writing.{row_object, written_list}
use Rattle.siri_tables.proofs.RowSpells.{some_is}
use Rattle.siri_deliveries.specs.declared.names.TheConstants.{REQUEST_TIMESTAMP, REQUESTOR_REF, MESSAGE_IDENTIFIER, STOP_MONITORING_REQUEST}
use Rattle.siri_deliveries.specs.declared.names.TheConstants.{ESTIMATED_TIMETABLE_REQUEST, VEHICLE_MONITORING_REQUEST}
use Rattle.siri_deliveries.specs.declared.names.TheConstants.{SITUATION_EXCHANGE_REQUEST}
use Rattle.siri_deliveries.specs.Topics.{written_topic, topic_writing, IsProperTopic}
use Rattle.siri_wire.specs.Requests.{written_service_request}
use Rattle.siri_queries.specs.Documents.{list_of_one, request_name}
use Rattle.siri_queries.specs.Targets.{topics_of, only, unless_several_lines, query_topic}
use Rattle.siri_laws.specs.queries.Queried.{queried}
use Rattle.siri_laws.proofs.queries.AskedTopics.{HasOneLine}
use Rattle.siri_topic.specs.Services.{service_asked}

-- the lists of a request
abbrev lists_written : (stops timetables vehicles situations : List Topic) → Data
lists_written stops timetables vehicles situations = row_object (
    (REQUEST_TIMESTAMP.now, None) ∷
    (REQUESTOR_REF.now, None) ∷
    (MESSAGE_IDENTIFIER.now, None) ∷
    (STOP_MONITORING_REQUEST.now, written_list topic_writing stops) ∷
    (ESTIMATED_TIMETABLE_REQUEST.now, written_list topic_writing timetables) ∷
    (VEHICLE_MONITORING_REQUEST.now, written_list topic_writing vehicles) ∷
    (SITUATION_EXCHANGE_REQUEST.now, written_list topic_writing situations) ∷ [])

-- a topic that stands alone in the list of its service
record StandsAlone (written : Data) (t : Topic) : Type 0 where
  proper : IsProperTopic (service_asked t) t
  is : as_texts written ≡ list_of_one (request_name (service_asked t)) (as_texts (written_topic t))

alone : (written : Data) (x t : Topic) → Some x ≡ Some t → StandsAlone written x → StandsAlone written t
alone written x t e stands = subst (StandsAlone written) (some_is x t e) stands

stop_alone : (x : Topic) → IsProperTopic service.Stop x → StandsAlone (lists_written (x ∷ []) [] [] []) x
unfolding written_list
stop_alone (topics.Stop x) p = record { proper = p; is = refl }
stop_alone other p = absurd p

timetable_alone : (x : Topic) → IsProperTopic service.Timetable x → StandsAlone (lists_written [] (x ∷ []) [] []) x
unfolding written_list
timetable_alone (topics.Timetable x) p = record { proper = p; is = refl }
timetable_alone other p = absurd p

vehicle_alone : (x : Topic) → IsProperTopic service.Vehicle x → StandsAlone (lists_written [] [] (x ∷ []) []) x
unfolding written_list
vehicle_alone (topics.Vehicle x) p = record { proper = p; is = refl }
vehicle_alone other p = absurd p

situation_alone : (x : Topic) → IsProperTopic service.Situation x → StandsAlone (lists_written [] [] [] (x ∷ [])) x
unfolding written_list
situation_alone (topics.Situation x) p = record { proper = p; is = refl }
situation_alone other p = absurd p

-- the only topic of four lists
only_alone : (a b c d : List Topic) (t : Topic) → AllByRecursion (IsProperTopic service.Stop) a
    → AllByRecursion (IsProperTopic service.Timetable) b → AllByRecursion (IsProperTopic service.Vehicle) c
    → AllByRecursion (IsProperTopic service.Situation) d → only (a ++ (b ++ (c ++ d))) ≡ Some t
    → StandsAlone (lists_written a b c d) t
only_alone [] [] [] [] t sa sb sc sd e = absurd (cc e)
only_alone (x ∷ []) [] [] [] t sa sb sc sd e = alone _ x t e (stop_alone x sa.0)
only_alone (x ∷ []) [] [] (y ∷ d) t sa sb sc sd e = absurd (cc e)
only_alone (x ∷ []) [] (y ∷ c) d t sa sb sc sd e = absurd (cc e)
only_alone (x ∷ []) (y ∷ b) c d t sa sb sc sd e = absurd (cc e)
only_alone (x ∷ y ∷ a) b c d t sa sb sc sd e = absurd (cc e)
only_alone [] (x ∷ []) [] [] t sa sb sc sd e = alone _ x t e (timetable_alone x sb.0)
only_alone [] (x ∷ []) [] (y ∷ d) t sa sb sc sd e = absurd (cc e)
only_alone [] (x ∷ []) (y ∷ c) d t sa sb sc sd e = absurd (cc e)
only_alone [] (x ∷ y ∷ b) c d t sa sb sc sd e = absurd (cc e)
only_alone [] [] (x ∷ []) [] t sa sb sc sd e = alone _ x t e (vehicle_alone x sc.0)
only_alone [] [] (x ∷ []) (y ∷ d) t sa sb sc sd e = absurd (cc e)
only_alone [] [] (x ∷ y ∷ c) d t sa sb sc sd e = absurd (cc e)
only_alone [] [] [] (x ∷ []) t sa sb sc sd e = alone _ x t e (situation_alone x sd.0)
only_alone [] [] [] (x ∷ y ∷ d) t sa sb sc sd e = absurd (cc e)

-- ---- a topic that one query can ask

pub record IsAsked (r : ServiceRequest) (t : Topic) : Type 0 where
  pub proper : IsProperTopic (service_asked t) t
  pub one_line : HasOneLine t
  pub written : as_texts (written_service_request (queried r)) ≡ list_of_one (request_name (service_asked t)) (as_texts (written_topic t))

-- a topic without several lines
record IsWithin (x t : Topic) : Type 0 where
  same : x ≡ t
  one_line : HasOneLine t

timetable_same : (x : TimetableTopic) (t : Topic) (several : Bool) → nat_lt 1 (length x.lines) ≡ several
    → (if several then None else Some (topics.Timetable x)) ≡ Some t → IsWithin (topics.Timetable x) t
timetable_same x t true is e = absurd (cc e)
timetable_same x t false is e =
    let same = some_is (topics.Timetable x) t e in
    record { same = same; one_line = subst HasOneLine same is }

within_same : (x t : Topic) → unless_several_lines x ≡ Some t → IsWithin x t
within_same (topics.Timetable x) t e = timetable_same x t (nat_lt 1 (length x.lines)) refl e
within_same (topics.Stop x) t e = let same = some_is (topics.Stop x) t e in record { same = same; one_line = subst HasOneLine same tt }
within_same (topics.Vehicle x) t e = let same = some_is (topics.Vehicle x) t e in record { same = same; one_line = subst HasOneLine same tt }
within_same (topics.Situation x) t e = let same = some_is (topics.Situation x) t e in record { same = same; one_line = subst HasOneLine same tt }

-- what is first there and then without several lines
found_within : (o : Option Topic) (t : Topic) → option_and_then unless_several_lines o ≡ Some t → (o ≡ Some t) × HasOneLine t
found_within None t e = absurd (cc e)
found_within (Some x) t e = let within = within_same x t e in (ap Some within.same, within.one_line)

pub topic_asked : (r : ServiceRequest) (t : Topic) → AllByRecursion (IsProperTopic service.Stop) r.stop_monitoring_request
    → AllByRecursion (IsProperTopic service.Timetable) r.estimated_timetable_request
    → AllByRecursion (IsProperTopic service.Vehicle) r.vehicle_monitoring_request
    → AllByRecursion (IsProperTopic service.Situation) r.situation_exchange_request
    → query_topic r ≡ Some t → IsAsked r t
unfolding written_service_request
topic_asked r t stops timetables vehicles situations e =
    let found = found_within (only (topics_of r)) t e in
    let stands = only_alone r.stop_monitoring_request r.estimated_timetable_request r.vehicle_monitoring_request
    r.situation_exchange_request t stops timetables vehicles situations found.0 in
    record { proper = stands.proper; one_line = found.1; written = stands.is }
