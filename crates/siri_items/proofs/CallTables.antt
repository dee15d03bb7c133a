-- The laws of the tables of calls and locations.
use Rattle.std.proofs.Common.{◌≡◌, ℕ, true, nat_le, List, Option, Some, None, Ok, refl, IsSome, subst}
use Rattle.serde_json.specs.Data.{Data, object, no_members}
use Rattle.siri_json.specs.Values.{member_of}
use Rattle.siri_records.specs.declared.call.StopCall.{StopCall}
use Rattle.siri_records.specs.declared.visit.VehicleLocation.{VehicleLocation}
use Rattle.siri_items.specs.declared.names.TheConstants.{MONITORED_CALL}
use Rattle.siri_tables.specs.Rules.{table, row, required_row}
use Rattle.siri_items.specs.Calls.{stop_call, call_is_blank, location, location_is_blank, times_table, arrival_table, departure_table}
use Rattle.siri_items.specs.Calls.{make_times, arrival, departure, arrival_of, departure_of, call_table, location_table, make_call}
use Rattle.siri_items.specs.Calls.{make_location, a_call, an_optional_call, a_location, written_call, call_writing, written_calls}
use Rattle.siri_items.specs.Calls.{written_location}
use Rattle.siri_items.specs.declared.read_call.CallTimes.{CallTimes}
use Rattle.siri_items.specs.Visits.{timed_call, with_moment, mandatory_timed_call}
use Rattle.siri_items.specs.Journeys.{calls_inside}
use Rattle.siri_tables.proofs.RowSpells.{bind_ok, ok_is, required_row_spelled, required_row_ok}
use Rattle.siri_tables.proofs.CanonicalParts.{are_ascii}
use Rattle.siri_tables.specs.Spelling.{Spells}
use Rattle.siri_tables.proofs.ProperParts.{row_is}
use Rattle.siri_records.specs.Ends.{call_moment}
use Rattle.siri_tables.proofs.TableLaws.{KindLaws, EntryLaws, RowLaws, at_depth, optional_laws, entries_inside_laws, AllLaws, TableLaws}
use Rattle.siri_tables.proofs.TableLaws.{are_distinct, together_laws, table_kind, table_entries, shown_table_kind, left_out_table_kind}
use Rattle.siri_tables.proofs.TableLaws.{at_key}
use Rattle.siri_tables.proofs.ValueLaws.{name_laws, text_laws, moment_laws, number_laws, decimal_laws, flag_laws}
use Rattle.siri_tables.specs.Tables.{AllProper, read_all, all_written, together}

pub location_laws : TableLaws 0 location_table make_location
location_laws = record {
  rows = (optional_laws decimal_laws refl refl, (optional_laws decimal_laws refl refl, tt));
  whole = λ l. refl;
  holds = λ a b. (refl, (refl, tt));
  distinct = λ l. refl;
}

no_location : VehicleLocation
no_location = record { longitude = None; latitude = None }

location_of_none : read_all location_table make_location (object no_members) ≡ Ok no_location
unfolding row member_of no_location
location_of_none = refl

no_location_is_blank : location_is_blank no_location ≡ true
unfolding location_is_blank no_location
no_location_is_blank = refl

pub location_kind : KindLaws 1 a_location
unfolding location written_location
location_kind = left_out_table_kind location_laws location_is_blank no_location location_of_none no_location_is_blank

times_laws : {aimed expected actual status platform_name : List ℕ}
    → AllLaws 0 (times_table aimed expected actual status platform_name)
    → ((t : CallTimes) → are_distinct (all_written (times_table aimed expected actual status platform_name) t) ≡ true)
    → TableLaws 0 (times_table aimed expected actual status platform_name) make_times
times_laws rows distinct = record { rows = rows; whole = λ t. refl; holds = λ a b c d e. search; distinct = distinct }

arrival_laws : TableLaws 0 arrival_table make_times
arrival_laws = times_laws (search (optional_laws, text_laws, moment_laws)) (λ t. refl)

departure_laws : TableLaws 0 departure_table make_times
departure_laws = times_laws (search (optional_laws, text_laws, moment_laws)) (λ t. refl)

arrival_row : RowLaws 0 (together arrival_table arrival arrival_of)
unfolding arrival
arrival_row = together_laws arrival_laws

departure_row : RowLaws 0 (together departure_table departure departure_of)
unfolding departure
departure_row = together_laws departure_laws

call_rows : AllLaws 0 call_table
call_rows = search (optional_laws, name_laws, text_laws, number_laws, flag_laws, arrival_row, departure_row)

pub call_laws : TableLaws 0 call_table make_call
call_laws = record { rows = call_rows; whole = λ c. refl; holds = λ a b c d e f. search; distinct = λ c. refl }

call_kind : KindLaws 1 a_call
unfolding stop_call written_call
call_kind = table_kind call_laws

call_entries : EntryLaws 1 a_call
unfolding stop_call written_call
call_entries = table_entries call_laws

pub optional_call_kind : KindLaws 1 an_optional_call
unfolding stop_call written_call
optional_call_kind = shown_table_kind call_laws call_is_blank

with_moment_ok : (c x : StopCall) (m : Option ℕ) → with_moment c m ≡ Ok x → IsSome m × (c ≡ x)
with_moment_ok c x None e = absurd cc
with_moment_ok c x (Some m) e = (refl, ok_is c x e)

timed_call_spelled : (d : Data) (c : StopCall) → timed_call d ≡ Ok c → Spells (table stop_call) MONITORED_CALL.now d (Some c) × IsSome (call_moment c)
unfolding timed_call
timed_call_spelled d c e =
    let r = bind_ok (required_row (table stop_call) MONITORED_CALL.now d) _ c e in
    let t = with_moment_ok r.0 c (call_moment r.0) r.2 in
    subst (λ (x : StopCall). Spells (table stop_call) MONITORED_CALL.now d (Some x) × IsSome (call_moment x)) t.1
    (required_row_spelled (table stop_call) MONITORED_CALL.now d r.0 r.1, t.0)

timed : (c : StopCall) (m : Option ℕ) → IsSome m → with_moment c m ≡ Ok c
timed c None h = absurd cc
timed c (Some m) h = refl

timed_call_reads : (d : Data) (c : StopCall) → Spells (table stop_call) MONITORED_CALL.now d (Some c) → IsSome (call_moment c) → timed_call d ≡ Ok c
unfolding timed_call
timed_call_reads d c spells some = rw (required_row_ok (table stop_call) MONITORED_CALL.now d c spells) (timed c (call_moment c) some)

pub mandatory_timed_call_laws : {S : Type 0} {most : ℕ} {of : S → StopCall} → nat_le 1 most ≡ true → RowLaws most (mandatory_timed_call of)
mandatory_timed_call_laws {most = most} le = record {
  spelled = timed_call_spelled;
  reads = λ d c s_. timed_call_reads d c s_.0 s_.1;
  back = λ d c is there. (at_key (table stop_call) MONITORED_CALL.now d (call_writing c) (Some c) there.0 (call_kind.back c is.0), is.1);
  within = λ c is. (at_depth 1 most MONITORED_CALL.now _ refl le (call_kind.within c is.0), tt);
  proper = λ d c u s_. (row_is (table stop_call) (AllProper call_table) call_kind.yields MONITORED_CALL.now d (Some c) u s_.0, s_.1);
}

pub calls_inside_laws : {S : Type 0} {most : ℕ} {outer : List ℕ} {of : S → List StopCall} (key : List ℕ)
    → are_ascii outer ≡ true → are_ascii key ≡ true → nat_le 3 most ≡ true → RowLaws most (calls_inside outer key of)
unfolding written_calls
calls_inside_laws key outer_ascii ascii le = entries_inside_laws {kind = a_call} {bound = 1000} key call_entries outer_ascii ascii le
