-- The tables of deliveries: of the four services (EN 15531-3, CEN/TS 15531-5), and of all of them (EN 15531-2).
use Rattle.std.specs.Prelude.{◌≡◌, List, [], ◌∷◌, true, false, Option, Some, Result, Ok, ⊤}
use Rattle.serde_json.specs.Data.{Data, no_members}
use Rattle.siri_records.specs.declared.item.Item.{Item}
use Rattle.siri_records.specs.declared.item.Item.TheVariants as item
use Rattle.siri_records.specs.declared.item.Service.{Service}
use Rattle.siri_records.specs.declared.item.Service.TheVariants as service
use Rattle.siri_messages.specs.declared.deliveries.FunctionalDelivery.{FunctionalDelivery}
use Rattle.siri_messages.specs.declared.deliveries.ServiceDelivery.{ServiceDelivery}
use Rattle.siri_tables.specs.Refusals.{Refusal, ◌>>=◌}
use Rattle.siri_tables.specs.Rules.{table}
use Rattle.siri_tables.specs.Proper.{IsListWithin}
use Rattle.siri_tables.specs.Writing.{row_object, with_rows, object_unless_empty, written_list}
use Rattle.siri_tables.specs.Tables.{Kind, Row, optional, entries_inside, a_name, a_moment, a_flag, Table, Maker}
use Rattle.siri_tables.specs.Tables.{read_all, AllProper, all_written}
use Rattle.siri_items.specs.Visits.{visit}
use Rattle.siri_items.specs.Vehicles.{vehicle}
use Rattle.siri_items.specs.Situations.{situation}
use Rattle.siri_items.specs.Proper.{IsProper}
use Rattle.siri_items.specs.Written.{written_item}
use Rattle.siri_deliveries.specs.Removals.{visit_cancellation, vehicle_cancellation, removed_journey, removed_situation}
use Rattle.siri_deliveries.specs.Removals.{IsProperRemoval, a_removal}
use Rattle.siri_deliveries.specs.Parts.{heading_table, heading_of, with_heading, no_round, IsPlaced, position_of}
use Rattle.siri_deliveries.specs.Parts.{a_place, no_extensions}
use Rattle.siri_deliveries.specs.Parts.{extensions_of, some_extensions, delivery_of}
use Rattle.siri_deliveries.specs.Frames.{journeys_of_frames, written_frame}
use Rattle.siri_deliveries.specs.Rows.{an_error, with_default, flag_where_true, entries}
use Rattle.siri_deliveries.specs.declared.read_parts.DeliveryExtensions.{DeliveryExtensions}
use Rattle.siri_deliveries.specs.declared.read_parts.Heading.{Heading}
use Rattle.siri_deliveries.specs.declared.names.TheConstants.{RESPONSE_TIMESTAMP, PRODUCER_REF}
use Rattle.siri_deliveries.specs.declared.names.TheConstants.{RESPONSE_MESSAGE_IDENTIFIER}
use Rattle.siri_deliveries.specs.declared.names.TheConstants.{REQUEST_MESSAGE_REF, STATUS, ERROR_CONDITION, MORE_DATA}
use Rattle.siri_deliveries.specs.declared.names.TheConstants.{EXTENSIONS}
use Rattle.siri_deliveries.specs.declared.names.TheConstants.{MONITORED_STOP_VISIT, MONITORED_STOP_VISIT_CANCELLATION}
use Rattle.siri_deliveries.specs.declared.names.TheConstants.{ESTIMATED_JOURNEY_VERSION_FRAME, VEHICLE_ACTIVITY}
use Rattle.siri_deliveries.specs.declared.names.TheConstants.{VEHICLE_ACTIVITY_CANCELLATION, SITUATIONS}
use Rattle.siri_deliveries.specs.declared.names.TheConstants.{PT_SITUATION_ELEMENT}
use Rattle.siri_deliveries.specs.declared.names.TheConstants.{STOP_MONITORING_DELIVERY, ESTIMATED_TIMETABLE_DELIVERY}
use Rattle.siri_deliveries.specs.declared.names.TheConstants.{VEHICLE_MONITORING_DELIVERY, SITUATION_EXCHANGE_DELIVERY}
use Rattle.siri_deliveries.specs.Limits.{most_entries}
use Rattle.siri_records.specs.Services.{service_of}

-- ---- items

-- MonitoredStopVisit
unfoldable pub visit_item : Data → Result Item Refusal
visit_item d = do
  visit ← visit d
  Ok (item.Visit visit)

-- VehicleActivity
unfoldable pub vehicle_item : Data → Result Item Refusal
vehicle_item d = do
  vehicle ← vehicle d
  Ok (item.Vehicle vehicle)

-- PtSituationElement
unfoldable pub situation_item : Data → Result Item Refusal
situation_item d = do
  situation ← situation d
  Ok (item.Situation situation)

-- an item that a service tells of
pub record IsProperOf (s : Service) (i : Item) : Type 0 where
  pub proper : IsProper i
  pub of_service : service_of i ≡ s

-- each is written by the table of its own service wherever it stands
abbrev pub item_writing : Item → Option Data
item_writing i = Some (written_item i)

abbrev pub an_item : (Data → Result Item Refusal) → Service → Kind Item
an_item read s = record { rule = table read; writing = item_writing; Is = IsProperOf s }

-- journeys stand in frames
abbrev pub in_frames : Row FunctionalDelivery
in_frames = record {
  Of = List Item;
  of = λ d. d.items;
  read = journeys_of_frames;
  Spelled = λ d items. journeys_of_frames d ≡ Ok items;
  write = λ items. (ESTIMATED_JOURNEY_VERSION_FRAME.now, written_list written_frame items) ∷ [];
  Is = IsListWithin most_entries (IsProperOf service.Timetable);
  blank = λ items. false;
}

-- ---- one service

-- the delivery of a service
abbrev pub IsProperDelivery : Service → FunctionalDelivery → Type 0
IsProperDelivery s d =
    AllProper heading_table (heading_of d) × (IsPlaced (position_of d)
    × (IsListWithin most_entries (IsProperOf s) d.items
    × (IsListWithin most_entries (IsProperRemoval s) d.removals × ⊤)))

-- StopMonitoringDelivery: visits, and visits that are no more
abbrev pub stop_delivery_table : Table FunctionalDelivery
stop_delivery_table =
    with_heading ∷
    with_default a_place no_round EXTENSIONS.now position_of ∷
    entries (an_item visit_item service.Stop) most_entries MONITORED_STOP_VISIT.now (λ d. d.items) ∷
    entries (a_removal visit_cancellation service.Stop) most_entries MONITORED_STOP_VISIT_CANCELLATION.now
    (λ d. d.removals) ∷ []

unfoldable pub stop_monitoring_delivery : Data → Result FunctionalDelivery Refusal
stop_monitoring_delivery d = read_all stop_delivery_table delivery_of d

unfoldable pub written_stop_delivery : FunctionalDelivery → Option Data
written_stop_delivery d = Some (row_object (all_written stop_delivery_table d))

abbrev pub a_stop_delivery : Kind FunctionalDelivery
a_stop_delivery = record
    { rule = table stop_monitoring_delivery; writing = written_stop_delivery; Is = IsProperDelivery service.Stop }

-- EstimatedTimetableDelivery: the journeys of its frames, and journeys that are shown no more
abbrev pub timetable_delivery_table : Table FunctionalDelivery
timetable_delivery_table =
    with_heading ∷
    with_default (some_extensions removed_journey service.Timetable) no_extensions EXTENSIONS.now extensions_of ∷
    in_frames ∷ []

abbrev pub with_extensions : Heading → DeliveryExtensions → List Item → FunctionalDelivery
with_extensions heading extensions items = delivery_of heading extensions.round_position items extensions.removals

unfoldable pub estimated_timetable_delivery : Data → Result FunctionalDelivery Refusal
estimated_timetable_delivery d = read_all timetable_delivery_table with_extensions d

unfoldable pub written_timetable_delivery : FunctionalDelivery → Option Data
written_timetable_delivery d = Some (row_object (all_written timetable_delivery_table d))

abbrev pub a_timetable_delivery : Kind FunctionalDelivery
a_timetable_delivery = record {
  rule = table estimated_timetable_delivery;
  writing = written_timetable_delivery;
  Is = IsProperDelivery
      service.Timetable;
}

-- VehicleMonitoringDelivery: vehicle activities, and those that are no more
abbrev pub vehicle_delivery_table : Table FunctionalDelivery
vehicle_delivery_table =
    with_heading ∷
    with_default a_place no_round EXTENSIONS.now position_of ∷
    entries (an_item vehicle_item service.Vehicle) most_entries VEHICLE_ACTIVITY.now (λ d. d.items) ∷
    entries (a_removal vehicle_cancellation service.Vehicle) most_entries VEHICLE_ACTIVITY_CANCELLATION.now
    (λ d. d.removals) ∷ []

unfoldable pub vehicle_monitoring_delivery : Data → Result FunctionalDelivery Refusal
vehicle_monitoring_delivery d = read_all vehicle_delivery_table delivery_of d

unfoldable pub written_vehicle_delivery : FunctionalDelivery → Option Data
written_vehicle_delivery d = Some (row_object (all_written vehicle_delivery_table d))

abbrev pub a_vehicle_delivery : Kind FunctionalDelivery
a_vehicle_delivery = record {
  rule = table vehicle_monitoring_delivery;
  writing = written_vehicle_delivery;
  Is = IsProperDelivery
      service.Vehicle;
}

-- Situations, which isn't written where there is none
abbrev pub written_situations : List Item → Option Data
written_situations items = object_unless_empty
    (with_rows no_members ((PT_SITUATION_ELEMENT.now, written_list item_writing items) ∷ []))

-- SituationExchangeDelivery: situations, and situations that are shown no more
abbrev pub situation_delivery_table : Table FunctionalDelivery
situation_delivery_table =
    with_heading ∷
    with_default (some_extensions removed_situation service.Situation) no_extensions EXTENSIONS.now extensions_of ∷
    entries_inside (an_item situation_item service.Situation) most_entries SITUATIONS.now PT_SITUATION_ELEMENT.now
    (λ d. d.items) ∷ []

unfoldable pub situation_exchange_delivery : Data → Result FunctionalDelivery Refusal
situation_exchange_delivery d = read_all situation_delivery_table with_extensions d

unfoldable pub written_situation_delivery : FunctionalDelivery → Option Data
written_situation_delivery d = Some (row_object (all_written situation_delivery_table d))

abbrev pub a_situation_delivery : Kind FunctionalDelivery
a_situation_delivery = record {
  rule = table situation_exchange_delivery;
  writing = written_situation_delivery;
  Is = IsProperDelivery
      service.Situation;
}

-- ---- all services

-- ServiceDelivery: what is delivered of the four services
abbrev pub service_delivery_table : Table ServiceDelivery
service_delivery_table =
    optional a_moment RESPONSE_TIMESTAMP.now (λ s. s.response_timestamp) ∷
    optional a_name PRODUCER_REF.now (λ s. s.producer_ref) ∷
    optional a_name RESPONSE_MESSAGE_IDENTIFIER.now (λ s. s.response_message_identifier) ∷
    optional a_name REQUEST_MESSAGE_REF.now (λ s. s.request_message_ref) ∷
    with_default a_flag true STATUS.now (λ s. s.status) ∷
    optional an_error ERROR_CONDITION.now (λ s. s.error_condition) ∷
    flag_where_true MORE_DATA.now (λ s. s.more_data) ∷
    entries a_stop_delivery 100 STOP_MONITORING_DELIVERY.now (λ s. s.stop_monitoring_delivery) ∷
    entries a_timetable_delivery 100 ESTIMATED_TIMETABLE_DELIVERY.now (λ s. s.estimated_timetable_delivery) ∷
    entries a_vehicle_delivery 100 VEHICLE_MONITORING_DELIVERY.now (λ s. s.vehicle_monitoring_delivery) ∷
    entries a_situation_delivery 100 SITUATION_EXCHANGE_DELIVERY.now (λ s. s.situation_exchange_delivery) ∷ []

abbrev pub make_service_delivery : Maker service_delivery_table
make_service_delivery =
    λ response_timestamp producer_ref response_message_identifier request_message_ref status error_condition more_data
    stop_monitoring_delivery
    estimated_timetable_delivery vehicle_monitoring_delivery situation_exchange_delivery.
    record {
      response_timestamp = response_timestamp;
      producer_ref = producer_ref;
      response_message_identifier = response_message_identifier;
      request_message_ref = request_message_ref;
      status = status;
      error_condition = error_condition;
      more_data = more_data;
      stop_monitoring_delivery = stop_monitoring_delivery;
      estimated_timetable_delivery = estimated_timetable_delivery;
      vehicle_monitoring_delivery = vehicle_monitoring_delivery;
      situation_exchange_delivery = situation_exchange_delivery;
    }

unfoldable pub service_delivery : Data → Result ServiceDelivery Refusal
service_delivery d = read_all service_delivery_table make_service_delivery d

unfoldable pub written_service_delivery : ServiceDelivery → Data
written_service_delivery s = row_object (all_written service_delivery_table s)
