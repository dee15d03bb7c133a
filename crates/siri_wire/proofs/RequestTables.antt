-- The laws of the tables of topics, of requests that are answered at once, and of answers.
use Rattle.std.proofs.Common.{◌≡◌, Bool, true, false, Some, Ok, refl, ap, subst, if◌then◌else◌}
use Rattle.serde_json.specs.Data.{Data, object, Members}
use Rattle.siri_base.specs.declared.reason.Reason.TheVariants.{NotCarried}
use Rattle.siri_json.specs.Canonical.{as_texts}
use Rattle.siri_json.specs.TextsOfTrees.{TextsAreUtf8}
use Rattle.siri_records.specs.declared.item.Service.{Service}
use Rattle.siri_records.specs.declared.item.Service.TheVariants as service
use Rattle.siri_topic.specs.declared.topics.Topic.{Topic}
use Rattle.siri_topic.specs.declared.topics.Topic.TheVariants as topics
use Rattle.siri_messages.specs.declared.requests.ServiceRequest.{ServiceRequest}
use Rattle.siri_tables.specs.Refusals.{◌>>=◌, refused}
use Rattle.siri_tables.specs.Tables.{Table, Maker, read_all, AllSpelled}
use Rattle.siri_tables.proofs.BackLists.{table_entry}
use Rattle.siri_tables.proofs.BackValues.{table_back}
use Rattle.siri_tables.proofs.CanonicalParts.{IsCanonicalWithin, MayBeWithin}
use Rattle.siri_tables.proofs.RowSpells.{bind_ok, done, ok_is}
use Rattle.siri_tables.proofs.TableLaws.{KindLaws, EntryLaws, optional_laws, mandatory_laws, entries_inside_laws, TableLaws, read_spelled}
use Rattle.siri_tables.proofs.TableLaws.{spelled_read, written_read, spelled_proper, table_within, table_entries}
use Rattle.siri_tables.proofs.ValueLaws.{name_laws, moment_laws, number_laws, flag_laws}
use Rattle.siri_deliveries.specs.declared.names.TheConstants.{LINE_DIRECTION}
use Rattle.siri_deliveries.specs.Topics.{stop_topic_table, make_stop_topic, read_stop_topic_rows, written_stop_topic, stop_topic}
use Rattle.siri_deliveries.specs.Topics.{line_direction_table, make_line_direction, line_direction}
use Rattle.siri_deliveries.specs.Topics.{written_line_direction, a_line_direction, timetable_topic_table, make_timetable_topic}
use Rattle.siri_deliveries.specs.Topics.{timetable_topic, written_timetable_topic, vehicle_topic_table, make_vehicle_topic, vehicle_topic}
use Rattle.siri_deliveries.specs.Topics.{written_vehicle_topic, situation_topic_table, make_situation_topic, situation_topic}
use Rattle.siri_deliveries.specs.Topics.{written_situation_topic, topic_rows, written_topic, topic_writing, IsProperTopic, a_topic}
use Rattle.siri_wire.specs.Requests.{service_request_table, make_service_request, read_service_request_rows, written_service_request}
use Rattle.siri_wire.specs.Requests.{asks_nothing, unless_for_nothing, service_request}
use Rattle.siri_wire.specs.Subscriptions.{response_status_table, make_response_status, response_status, written_response_status}
use Rattle.siri_wire.specs.Subscriptions.{a_response_status, subscription_response_table, make_subscription_response}
use Rattle.siri_wire.specs.Terminations.{termination_status_table, make_termination_status, termination_status, written_termination_status}
use Rattle.siri_wire.specs.Terminations.{a_termination_status, termination_response_table, make_termination_response}
use Rattle.siri_wire.specs.laws.ProperRequests.{IsProperServiceRequest}
use Rattle.siri_wire.specs.laws.SpellingRequests.{SpellsTopic, SpellsServiceRequest}
use Rattle.siri_wire.proofs.ProperReadValues.{spelled_yields}
use Rattle.siri_wire.proofs.RowLaws.{whole_span_laws, error_laws, with_default_laws, entries_laws}

-- ---- the tables of topics

pub line_direction_laws : TableLaws 0 line_direction_table make_line_direction
line_direction_laws = record { rows = search (optional_laws, mandatory_laws, name_laws); whole = λ l. refl; holds = λ a b. search; distinct = λ l. refl }

line_direction_entries : EntryLaws 1 a_line_direction
unfolding line_direction written_line_direction
line_direction_entries = table_entries line_direction_laws

pub stop_topic_laws : TableLaws 3 stop_topic_table make_stop_topic
stop_topic_laws = record {
  rows = search (
    optional_laws,
    mandatory_laws,
    name_laws,
    whole_span_laws,
    moment_laws,
    number_laws,
  );
  whole = λ t. refl;
  holds = λ a b c d e f g h. search;
  distinct = λ t. refl;
}

pub timetable_topic_laws : TableLaws 3 timetable_topic_table make_timetable_topic
timetable_topic_laws = record {
  rows = (
    optional_laws whole_span_laws refl refl,
    (
      optional_laws name_laws refl refl,
      (
        entries_inside_laws {kind = a_line_direction} {bound = 100}
            LINE_DIRECTION.now line_direction_entries refl refl refl,
        tt,
      ),
    ),
  );
  whole = λ t. refl;
  holds = λ a b c. search;
  distinct = λ t. refl;
}

pub vehicle_topic_laws : TableLaws 3 vehicle_topic_table make_vehicle_topic
vehicle_topic_laws = record { rows = search (optional_laws, name_laws); whole = λ t. refl; holds = λ a b c. search; distinct = λ t. refl }

pub situation_topic_laws : TableLaws 3 situation_topic_table make_situation_topic
situation_topic_laws = record {
  rows = search (optional_laws, name_laws, whole_span_laws, moment_laws);
  whole = λ t. refl;
  holds = λ a b c d e. search;
  distinct = λ t. refl;
}

-- ---- topics of a service

-- what holds of each topic that a table reads, seen as a topic of any service
of_any : {A : Type 0} {t : Table A} {make : Maker t} → TableLaws 3 t make
    → (wrap : A → Topic) (d : Data) (x : Topic) (P : Topic → Type 0) → (read_all t make d >>= λ y. done (wrap y)) ≡ Ok x
    → ((y : A) → AllSpelled t d y → P (wrap y)) → P x
of_any {t = t} {make = make} laws wrap d x P e h =
    let r = bind_ok (read_all t make d) (λ y. done (wrap y)) x e in
    subst P (ok_is (wrap r.0) x r.2) (h r.0 (read_spelled laws d r.0 r.1))

pub topic_spelled : (s : Service) (d : Data) (x : Topic) → topic_rows s d ≡ Ok x → SpellsTopic s d x
unfolding stop_topic read_stop_topic_rows timetable_topic vehicle_topic situation_topic
topic_spelled service.Stop d x e = of_any stop_topic_laws topics.Stop d x (SpellsTopic service.Stop d) e (λ y is. is)
topic_spelled service.Timetable d x e = of_any timetable_topic_laws topics.Timetable d x (SpellsTopic service.Timetable d) e (λ y is. is)
topic_spelled service.Vehicle d x e = of_any vehicle_topic_laws topics.Vehicle d x (SpellsTopic service.Vehicle d) e (λ y is. is)
topic_spelled service.Situation d x e = of_any situation_topic_laws topics.Situation d x (SpellsTopic service.Situation d) e (λ y is. is)

pub topic_read : (s : Service) (d : Data) (x : Topic) → SpellsTopic s d x → topic_rows s d ≡ Ok x
unfolding stop_topic read_stop_topic_rows timetable_topic vehicle_topic situation_topic
topic_read service.Stop d (topics.Stop t) s_ = rw (spelled_read stop_topic_laws d t s_) refl
topic_read service.Timetable d (topics.Timetable t) s_ = rw (spelled_read timetable_topic_laws d t s_) refl
topic_read service.Vehicle d (topics.Vehicle t) s_ = rw (spelled_read vehicle_topic_laws d t s_) refl
topic_read service.Situation d (topics.Situation t) s_ = rw (spelled_read situation_topic_laws d t s_) refl
topic_read s d x s_ = absurd s_

topic_proper : (s : Service) (d : Data) (x : Topic) → TextsAreUtf8 d → SpellsTopic s d x → IsProperTopic s x
topic_proper service.Stop d (topics.Stop t) u s_ = spelled_proper stop_topic_laws d t u s_
topic_proper service.Timetable d (topics.Timetable t) u s_ = spelled_proper timetable_topic_laws d t u s_
topic_proper service.Vehicle d (topics.Vehicle t) u s_ = spelled_proper vehicle_topic_laws d t u s_
topic_proper service.Situation d (topics.Situation t) u s_ = spelled_proper situation_topic_laws d t u s_
topic_proper s d x u s_ = absurd s_

topic_back : (s : Service) (x : Topic) → IsProperTopic s x → topic_rows s (as_texts (written_topic x)) ≡ Ok x
unfolding stop_topic read_stop_topic_rows timetable_topic vehicle_topic situation_topic written_topic written_stop_topic
    written_timetable_topic written_vehicle_topic written_situation_topic
topic_back service.Stop (topics.Stop t) p = rw (written_read stop_topic_laws t p) refl
topic_back service.Timetable (topics.Timetable t) p = rw (written_read timetable_topic_laws t p) refl
topic_back service.Vehicle (topics.Vehicle t) p = rw (written_read vehicle_topic_laws t p) refl
topic_back service.Situation (topics.Situation t) p = rw (written_read situation_topic_laws t p) refl
topic_back s x p = absurd p

topic_within : (s : Service) (x : Topic) → IsProperTopic s x → MayBeWithin 4 (topic_writing x)
unfolding written_topic written_stop_topic written_timetable_topic written_vehicle_topic written_situation_topic
topic_within service.Stop (topics.Stop t) p = table_within stop_topic_laws t p
topic_within service.Timetable (topics.Timetable t) p = table_within timetable_topic_laws t p
topic_within service.Vehicle (topics.Vehicle t) p = table_within vehicle_topic_laws t p
topic_within service.Situation (topics.Situation t) p = table_within situation_topic_laws t p
topic_within s x p = absurd p

-- it is written as an object
topic_object : (x : Topic) → (ms : Members) × (written_topic x ≡ object ms)
unfolding written_topic written_stop_topic written_timetable_topic written_vehicle_topic written_situation_topic
topic_object (topics.Stop t) = (_, refl)
topic_object (topics.Timetable t) = (_, refl)
topic_object (topics.Vehicle t) = (_, refl)
topic_object (topics.Situation t) = (_, refl)

pub topic_entries : (s : Service) → EntryLaws 4 (a_topic s)
topic_entries s = record {
  entry = λ x p. let o = topic_object x in table_entry (topic_rows s) topic_writing o.0 x (ap Some o.1) (rw o.1 at (topic_back s x p));
  within = topic_within s;
  yields = spelled_yields (topic_rows s) (IsProperTopic s) (λ d x u e. topic_proper s d x u (topic_spelled s d x e));
}

pub topic_kind : (s : Service) → KindLaws 4 (a_topic s)
topic_kind s = record {
  back = λ x p. let o = topic_object x in rw o.1 (table_back (topic_rows s) o.0 x (rw o.1 at (topic_back s x p)));
  within = topic_within s;
  yields = spelled_yields (topic_rows s) (IsProperTopic s) (λ d x u e. topic_proper s d x u (topic_spelled s d x e));
}

-- ---- requests that are answered at once

service_request_laws : TableLaws 5 service_request_table make_service_request
service_request_laws = record {
  rows = search (
    optional_laws,
    entries_laws,
    name_laws,
    moment_laws,
    topic_entries service.Stop,
    topic_entries service.Timetable,
    topic_entries service.Vehicle,
    topic_entries service.Situation,
  );
  whole = λ m. refl;
  holds = λ a b c d e f g. search;
  distinct = λ m. refl;
}

-- what was refused in one case was read in the other
pub unless_is : {A : Type 0} (x y : A) (b : Bool) → (if b then refused NotCarried else done x) ≡ Ok y → (b ≡ false) × (x ≡ y)
unless_is x y true e = absurd cc
unless_is x y false e = (refl, ok_is x y e)

for_something_ok : (m : ServiceRequest) → asks_nothing m ≡ false → unless_for_nothing m ≡ Ok m
for_something_ok m h = rw h refl

pub service_request_spelled : (d : Data) (m : ServiceRequest) → service_request d ≡ Ok m → SpellsServiceRequest d m
unfolding service_request read_service_request_rows
service_request_spelled d m e =
    let r = bind_ok (read_service_request_rows d) _ m e in
    let asks = unless_is r.0 m (asks_nothing r.0) r.2 in
    subst (λ (x : ServiceRequest). SpellsServiceRequest d x) asks.1 (read_spelled service_request_laws d r.0 r.1, asks.0)

pub service_request_read : (d : Data) (m : ServiceRequest) → SpellsServiceRequest d m → service_request d ≡ Ok m
unfolding service_request read_service_request_rows
service_request_read d m s_ = rw (spelled_read service_request_laws d m s_.0) (for_something_ok m s_.1)

pub service_request_back : (m : ServiceRequest) → IsProperServiceRequest m → service_request (as_texts (written_service_request m)) ≡ Ok m
unfolding service_request read_service_request_rows written_service_request
service_request_back m p = rw (written_read service_request_laws m p.0) (for_something_ok m p.1)

pub service_request_within : (m : ServiceRequest) → IsProperServiceRequest m → IsCanonicalWithin 6 (written_service_request m)
unfolding written_service_request
service_request_within m p = table_within service_request_laws m p.0

pub service_request_proper : (d : Data) (m : ServiceRequest) → TextsAreUtf8 d → SpellsServiceRequest d m → IsProperServiceRequest m
service_request_proper d m u s_ = (spelled_proper service_request_laws d m u s_.0, s_.1)

-- ---- answers

pub response_status_laws : TableLaws 2 response_status_table make_response_status
response_status_laws = record {
  rows = search
      (optional_laws, with_default_laws, name_laws, flag_laws, moment_laws, error_laws);
  whole = λ r. refl;
  holds = λ a b c d e. search;
  distinct = λ r. refl;
}

response_status_entries : EntryLaws 3 a_response_status
unfolding response_status written_response_status
response_status_entries = table_entries response_status_laws

pub subscription_response_laws : TableLaws 4 subscription_response_table make_subscription_response
subscription_response_laws = record {
  rows = search
      (optional_laws, entries_laws, name_laws, moment_laws, response_status_entries);
  whole = λ m. refl;
  holds = λ a b c. search;
  distinct = λ m. refl;
}

pub termination_status_laws : TableLaws 2 termination_status_table make_termination_status
termination_status_laws = record {
  rows = search (optional_laws, with_default_laws, name_laws, flag_laws, error_laws);
  whole = λ r. refl;
  holds = λ a b c d. search;
  distinct = λ r. refl;
}

termination_status_entries : EntryLaws 3 a_termination_status
unfolding termination_status written_termination_status
termination_status_entries = table_entries termination_status_laws

pub termination_response_laws : TableLaws 4 termination_response_table make_termination_response
termination_response_laws = record {
  rows = search
      (optional_laws, entries_laws, name_laws, moment_laws, termination_status_entries);
  whole = λ m. refl;
  holds = λ a b c. search;
  distinct = λ m. refl;
}
