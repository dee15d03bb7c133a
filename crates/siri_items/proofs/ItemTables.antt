-- The laws of the tables of items.
use Rattle.std.proofs.Common.{◌≡◌, ℕ, true, nat_le, refl}
use Rattle.siri_items.specs.declared.read_parts.ServiceInfo.{ServiceInfo}
use Rattle.siri_items.specs.declared.read_parts.JourneyProgress.{JourneyProgress}
use Rattle.siri_items.specs.Parts.{service_info, service_info_table, make_service_info, progress, progress_table, make_progress}
use Rattle.siri_items.specs.Visits.{visit, visit_journey, visit_journey_table, make_visit_journey, a_visit_journey, visit_table, make_visit}
use Rattle.siri_items.specs.Visits.{written_visit_journey, written_visit, a_visit}
use Rattle.siri_items.specs.Vehicles.{vehicle, vehicle_journey, vehicle_journey_table, make_vehicle_journey, a_vehicle_journey}
use Rattle.siri_items.specs.Vehicles.{vehicle_table, make_vehicle, written_vehicle_journey, written_vehicle, a_vehicle}
use Rattle.siri_items.specs.Journeys.{journey_table, make_journey}
use Rattle.siri_items.specs.Situations.{situation, period, period_table, make_period, a_period, situation_table, make_situation}
use Rattle.siri_items.specs.Situations.{written_period, written_situation, a_situation}
use Rattle.siri_tables.proofs.TableLaws.{KindLaws, EntryLaws, RowLaws, optional_laws, mandatory_laws, some_entries_laws, AllLaws, TableLaws}
use Rattle.siri_tables.proofs.TableLaws.{together_laws, table_kind, table_entries}
use Rattle.siri_tables.specs.Tables.{together}
use Rattle.siri_tables.proofs.ValueLaws.{name_laws, text_laws, moment_laws, span_laws, flag_laws}
use Rattle.siri_items.proofs.References.{optional_ref_laws, mandatory_ref_laws}
use Rattle.siri_items.proofs.CallTables.{location_kind, optional_call_kind, mandatory_timed_call_laws, calls_inside_laws}
use Rattle.siri_items.proofs.Affects.{optional_affects_laws}

service_info_laws : {most : ℕ} → nat_le 0 most ≡ true → TableLaws most service_info_table make_service_info
service_info_laws le = record {
  rows = (optional_laws text_laws refl le, (optional_laws name_laws refl le, (optional_laws name_laws refl le, (optional_laws text_laws refl le, tt))));
  whole = λ i. refl;
  holds = λ a b c d. search;
  distinct = λ i. refl;
}

service_info_row : {S : Type 0} {most : ℕ} {of : S → ServiceInfo} → nat_le 0 most ≡ true → RowLaws most (together service_info_table service_info of)
unfolding service_info
service_info_row le = together_laws (service_info_laws le)

progress_laws : {most : ℕ} → nat_le 0 most ≡ true → TableLaws most progress_table make_progress
progress_laws le = record {
  rows = (optional_laws flag_laws refl le, (optional_laws text_laws refl le, (optional_laws span_laws refl le, tt)));
  whole = λ p. refl;
  holds = λ a b c. search;
  distinct = λ p. refl;
}

progress_row : {S : Type 0} {most : ℕ} {of : S → JourneyProgress} → nat_le 0 most ≡ true → RowLaws most (together progress_table progress of)
unfolding progress
progress_row le = together_laws (progress_laws le)

visit_journey_rows : AllLaws 1 visit_journey_table
visit_journey_rows = search (optional_laws, name_laws, optional_ref_laws, service_info_row, progress_row, location_kind, mandatory_timed_call_laws)

pub visit_journey_laws : TableLaws 1 visit_journey_table make_visit_journey
visit_journey_laws = record { rows = visit_journey_rows; whole = λ j. refl; holds = λ a b c d e f g h. search; distinct = λ j. refl }

visit_journey_kind : KindLaws 2 a_visit_journey
unfolding visit_journey written_visit_journey
visit_journey_kind = table_kind visit_journey_laws

visit_rows : AllLaws 2 visit_table
visit_rows = search (optional_laws, mandatory_laws, name_laws, moment_laws, visit_journey_kind)

pub visit_laws : TableLaws 2 visit_table make_visit
visit_laws = record { rows = visit_rows; whole = λ v. refl; holds = λ a b c d. search; distinct = λ v. refl }

pub visit_kind : KindLaws 3 a_visit
unfolding visit written_visit
visit_kind = table_kind visit_laws

vehicle_journey_rows : AllLaws 1 vehicle_journey_table
vehicle_journey_rows = search (optional_laws, mandatory_laws, name_laws, optional_ref_laws, service_info_row, progress_row, location_kind, optional_call_kind)

pub vehicle_journey_laws : TableLaws 1 vehicle_journey_table make_vehicle_journey
vehicle_journey_laws = record { rows = vehicle_journey_rows; whole = λ j. refl; holds = λ a b c d e f g h. search; distinct = λ j. refl }

vehicle_journey_kind : KindLaws 2 a_vehicle_journey
unfolding vehicle_journey written_vehicle_journey
vehicle_journey_kind = table_kind vehicle_journey_laws

vehicle_rows : AllLaws 2 vehicle_table
vehicle_rows = search (optional_laws, mandatory_laws, name_laws, moment_laws, vehicle_journey_kind)

pub vehicle_laws : TableLaws 2 vehicle_table make_vehicle
vehicle_laws = record { rows = vehicle_rows; whole = λ v. refl; holds = λ a b c d. search; distinct = λ v. refl }

pub vehicle_kind : KindLaws 3 a_vehicle
unfolding vehicle written_vehicle
vehicle_kind = table_kind vehicle_laws

journey_rows : AllLaws 3 journey_table
journey_rows = search (optional_laws, mandatory_laws, name_laws, moment_laws, flag_laws, mandatory_ref_laws, service_info_row, progress_row, calls_inside_laws)

pub journey_laws : TableLaws 3 journey_table make_journey
journey_laws = record { rows = journey_rows; whole = λ j. refl; holds = λ a b c d e f g h i j. search; distinct = λ j. refl }

period_rows : AllLaws 0 period_table
period_rows = search (optional_laws, mandatory_laws, moment_laws)

pub period_laws : TableLaws 0 period_table make_period
period_laws = record { rows = period_rows; whole = λ p. refl; holds = λ a b. search; distinct = λ p. refl }

period_entries : EntryLaws 1 a_period
unfolding period written_period
period_entries = table_entries period_laws

situation_rows : AllLaws 6 situation_table
situation_rows = search (optional_laws, mandatory_laws, some_entries_laws, name_laws, text_laws, moment_laws, period_entries, optional_affects_laws)

pub situation_laws : TableLaws 6 situation_table make_situation
situation_laws = record { rows = situation_rows; whole = λ s. refl; holds = λ a b c d e f g h i j k. search; distinct = λ s. refl }

pub situation_kind : KindLaws 7 a_situation
unfolding situation written_situation
situation_kind = table_kind situation_laws
