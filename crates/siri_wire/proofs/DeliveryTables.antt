-- The laws of the tables of deliveries.
use Rattle.std.proofs.Common.{Result, refl, arith}
use Rattle.serde_json.specs.Data.{Data}
use Rattle.siri_records.specs.declared.item.Service.{Service}
use Rattle.siri_records.specs.declared.item.Service.TheVariants as service
use Rattle.siri_records.specs.declared.key.Key.{Key}
use Rattle.siri_items.proofs.ItemLaws.{item_within}
use Rattle.siri_tables.specs.Refusals.{Refusal}
use Rattle.siri_tables.specs.Proper.{IsListWithin}
use Rattle.siri_tables.proofs.ProperParts.{on_ok, table_yields}
use Rattle.siri_tables.proofs.TableLaws.{EntryLaws, RowLaws, at_depth, optional_laws, entries_inside_laws, AllLaws, TableLaws, read_spelled}
use Rattle.siri_tables.proofs.TableLaws.{spelled_read, spelled_proper, table_entries}
use Rattle.siri_tables.proofs.ValueLaws.{name_laws, moment_laws, flag_laws}
use Rattle.siri_deliveries.specs.declared.names.TheConstants.{ESTIMATED_JOURNEY_VERSION_FRAME, EXTENSIONS, PT_SITUATION_ELEMENT}
use Rattle.siri_deliveries.specs.Deliveries.{visit_item, vehicle_item, situation_item, IsProperOf, an_item, in_frames, stop_delivery_table}
use Rattle.siri_deliveries.specs.Deliveries.{stop_monitoring_delivery, written_stop_delivery, a_stop_delivery, timetable_delivery_table}
use Rattle.siri_deliveries.specs.Deliveries.{with_extensions, estimated_timetable_delivery, written_timetable_delivery}
use Rattle.siri_deliveries.specs.Deliveries.{a_timetable_delivery, vehicle_delivery_table, vehicle_monitoring_delivery}
use Rattle.siri_deliveries.specs.Deliveries.{written_vehicle_delivery, a_vehicle_delivery, situation_delivery_table}
use Rattle.siri_deliveries.specs.Deliveries.{situation_exchange_delivery, written_situation_delivery, a_situation_delivery}
use Rattle.siri_deliveries.specs.Deliveries.{service_delivery_table, make_service_delivery}
use Rattle.siri_deliveries.specs.Frames.{journeys_of_frames}
use Rattle.siri_deliveries.specs.Parts.{heading_table, make_heading, heading, with_heading, no_round, position_of, a_place, no_extensions}
use Rattle.siri_deliveries.specs.Parts.{extensions_of, some_extensions, delivery_of}
use Rattle.siri_deliveries.specs.Removals.{visit_cancellation, vehicle_cancellation, removed_journey, removed_situation, IsProperRemoval, a_removal}
use Rattle.siri_deliveries.specs.Rows.{with_default}
use Rattle.siri_wire.proofs.DeliveryParts.{visit_entry, vehicle_entry, situation_entry, frames_back, visit_removal, journey_removal}
use Rattle.siri_wire.proofs.DeliveryParts.{vehicle_removal, situation_removal, place_back, extensions_back, frames_within}
use Rattle.siri_wire.proofs.DeliveryParts.{removal_within, place_within, extensions_within, visit_item_on, vehicle_item_on}
use Rattle.siri_wire.proofs.DeliveryParts.{situation_item_on, journeys_of_frames_on, visit_removal_on, vehicle_removal_on}
use Rattle.siri_wire.proofs.DeliveryParts.{journey_removal_on, situation_removal_on, round_position_yields, extensions_yields}
use Rattle.siri_wire.proofs.RowLaws.{error_laws, with_default_laws, default_or_empty_laws, flag_where_true_laws, entries_laws, entries_as}
use Rattle.siri_deliveries.specs.Limits.{most_entries}

-- ---- the rows before Extensions

heading_rows : AllLaws 10 heading_table
heading_rows = search (optional_laws, with_default_laws, name_laws, moment_laws, flag_laws, error_laws)

heading_laws : TableLaws 10 heading_table make_heading
heading_laws = record { rows = heading_rows; whole = λ h. refl; holds = λ a b c d e. search; distinct = λ h. refl }

with_heading_laws : RowLaws 10 with_heading
unfolding heading
with_heading_laws = record {
  spelled = λ d h e. read_spelled heading_laws d h e;
  reads = λ d h s_. spelled_read heading_laws d h s_;
  back = λ d h is there. (
    heading_rows.0.back d h.response_timestamp is.0 (there.0, tt),
    (
      heading_rows.1.0.back d h.subscriber_ref is.1.0 (there.1.0, tt),
      (
        heading_rows.1.1.0.back d h.subscription_ref is.1.1.0 (there.1.1.0, tt),
        (
          heading_rows.1.1.1.0.back d h.status is.1.1.1.0 (there.1.1.1.0, tt),
          (
            heading_rows.1.1.1.1.0.back d h.error_condition is.1.1.1.1.0 (there.1.1.1.1.0, tt),
            tt,
          ),
        ),
      ),
    ),
  );
  within = λ h is. (
    (heading_rows.0.within h.response_timestamp is.0).0,
    (
      (heading_rows.1.0.within h.subscriber_ref is.1.0).0,
      (
        (heading_rows.1.1.0.within h.subscription_ref is.1.1.0).0,
        (
          (heading_rows.1.1.1.0.within h.status is.1.1.1.0).0,
          (
            (heading_rows.1.1.1.1.0.within h.error_condition is.1.1.1.1.0).0,
            tt,
          ),
        ),
      ),
    ),
  );
  proper = λ d h u s_. spelled_proper heading_laws d h u s_;
}

-- ---- Extensions

place_laws : RowLaws 10 (with_default a_place no_round EXTENSIONS.now position_of)
place_laws =
    default_or_empty_laws {kind = a_place} 1 place_back place_within round_position_yields
    (record { start = tt; round = tt; part = tt; start_stands = refl; part_stands = refl }) refl refl

extensions_laws : (removed : Data → Result Key Refusal) (s : Service) → EntryLaws 1 (a_removal removed s)
    → RowLaws 10 (with_default (some_extensions removed s) no_extensions EXTENSIONS.now extensions_of)
extensions_laws removed s laws =
    default_or_empty_laws {kind = some_extensions removed s} 3 (extensions_back removed s laws)
    (extensions_within removed s laws) (extensions_yields removed s laws)
    (record { start = tt; round = tt; part = tt; start_stands = refl; part_stands = refl }, record { bound = omega arith; each = tt }) refl refl

-- ---- items and removals

visits : EntryLaws 7 (an_item visit_item service.Stop)
visits = record { entry = visit_entry; within = λ i is. item_within i is.proper; yields = table_yields visit_item (IsProperOf service.Stop) visit_item_on }

vehicles : EntryLaws 7 (an_item vehicle_item service.Vehicle)
vehicles = record {
  entry = vehicle_entry;
  within = λ i is. item_within i is.proper;
  yields = table_yields vehicle_item (IsProperOf service.Vehicle) vehicle_item_on;
}

situations : EntryLaws 7 (an_item situation_item service.Situation)
situations = record {
  entry = situation_entry;
  within = λ i is. item_within i is.proper;
  yields = table_yields situation_item (IsProperOf service.Situation) situation_item_on;
}

in_frames_laws : RowLaws 10 in_frames
in_frames_laws = record {
  spelled = λ d items e. e;
  reads = λ d items e. e;
  back = λ d items is there. frames_back d items is.each is.bound there.0;
  within = λ items is. (at_depth 10 10 ESTIMATED_JOURNEY_VERSION_FRAME.now _ refl refl (frames_within items is), tt);
  proper = λ d items u e. on_ok (IsListWithin most_entries (IsProperOf service.Timetable)) (journeys_of_frames d) items (journeys_of_frames_on d u) e;
}

removed_visits : EntryLaws 1 (a_removal visit_cancellation service.Stop)
removed_visits = record {
  entry = visit_removal;
  within = removal_within service.Stop;
  yields = table_yields visit_cancellation (IsProperRemoval service.Stop) visit_removal_on;
}

removed_journeys : EntryLaws 1 (a_removal removed_journey service.Timetable)
removed_journeys = record {
  entry = journey_removal;
  within = removal_within service.Timetable;
  yields = table_yields removed_journey (IsProperRemoval service.Timetable) journey_removal_on;
}

removed_vehicles : EntryLaws 1 (a_removal vehicle_cancellation service.Vehicle)
removed_vehicles = record {
  entry = vehicle_removal;
  within = removal_within service.Vehicle;
  yields = table_yields vehicle_cancellation (IsProperRemoval service.Vehicle) vehicle_removal_on;
}

removed_situations : EntryLaws 1 (a_removal removed_situation service.Situation)
removed_situations = record {
  entry = situation_removal;
  within = removal_within service.Situation;
  yields = table_yields removed_situation (IsProperRemoval service.Situation) situation_removal_on;
}

-- ---- one service

pub stop_delivery_laws : TableLaws 10 stop_delivery_table delivery_of
stop_delivery_laws = record {
  rows = (with_heading_laws, (place_laws, (entries_laws visits refl refl, (entries_laws removed_visits refl refl, tt))));
  whole = λ d. refl;
  holds = λ a b c e. search;
  distinct = λ d. refl;
}

pub timetable_delivery_laws : TableLaws 10 timetable_delivery_table with_extensions
timetable_delivery_laws = record {
  rows = (with_heading_laws, (extensions_laws removed_journey service.Timetable removed_journeys, (in_frames_laws, tt)));
  whole = λ d. refl;
  holds = λ a b c. search;
  distinct = λ d. refl;
}

pub vehicle_delivery_laws : TableLaws 10 vehicle_delivery_table delivery_of
vehicle_delivery_laws = record {
  rows = (with_heading_laws, (place_laws, (entries_laws vehicles refl refl, (entries_laws removed_vehicles refl refl, tt))));
  whole = λ d. refl;
  holds = λ a b c e. search;
  distinct = λ d. refl;
}

pub situation_delivery_laws : TableLaws 10 situation_delivery_table with_extensions
situation_delivery_laws = record {
  rows = (
    with_heading_laws,
    (
      extensions_laws removed_situation service.Situation removed_situations,
      (entries_inside_laws PT_SITUATION_ELEMENT.now situations refl refl refl, tt),
    ),
  );
  whole = λ d. refl;
  holds = λ a b c. search;
  distinct = λ d. refl;
}

stop_deliveries : EntryLaws 11 a_stop_delivery
unfolding stop_monitoring_delivery written_stop_delivery
stop_deliveries = table_entries stop_delivery_laws

timetable_deliveries : EntryLaws 11 a_timetable_delivery
unfolding estimated_timetable_delivery written_timetable_delivery
timetable_deliveries = entries_as (table_entries timetable_delivery_laws)
    (λ d is. (is.0, ((is.1.0, is.1.1.1.0), (is.1.1.0, tt)))) (λ d is. (is.0, (is.1.0.0, (is.1.1.0, (is.1.0.1, tt)))))

vehicle_deliveries : EntryLaws 11 a_vehicle_delivery
unfolding vehicle_monitoring_delivery written_vehicle_delivery
vehicle_deliveries = table_entries vehicle_delivery_laws

situation_deliveries : EntryLaws 11 a_situation_delivery
unfolding situation_exchange_delivery written_situation_delivery
situation_deliveries = entries_as (table_entries situation_delivery_laws)
    (λ d is. (is.0, ((is.1.0, is.1.1.1.0), (is.1.1.0, tt)))) (λ d is. (is.0, (is.1.0.0, (is.1.1.0, (is.1.0.1, tt)))))

-- ---- all services

pub service_delivery_laws : TableLaws 12 service_delivery_table make_service_delivery
service_delivery_laws = record {
  rows = search (
    optional_laws,
    with_default_laws,
    flag_where_true_laws,
    entries_laws,
    name_laws,
    moment_laws,
    flag_laws,
    error_laws,
    stop_deliveries,
    timetable_deliveries,
    vehicle_deliveries,
    situation_deliveries,
  );
  whole = λ s. refl;
  holds = λ a b c d e f g h i j k. search;
  distinct = λ s. refl;
}
