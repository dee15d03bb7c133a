-- The laws of items.
use Rattle.std.proofs.Common.{◌≡◌, ◌≤◌, true, Some, None, Result, Ok, refl, arith, Bool, false, ◌||◌, subst, if◌then◌else◌}
use Rattle.serde_json.specs.Data.{Data, object, Members, no_members, depth}
use Rattle.siri_json.specs.Canonical.{as_texts, IsCanonical}
use Rattle.siri_json.specs.Values.{object_in}
use Rattle.siri_records.specs.declared.visit.Visit.{Visit}
use Rattle.siri_records.specs.declared.vehicle.Vehicle.{Vehicle}
use Rattle.siri_records.specs.declared.journey.Journey.{Journey}
use Rattle.siri_records.specs.declared.situation.Situation.{Situation}
use Rattle.siri_records.specs.declared.item.Item.{Item}
use Rattle.siri_records.specs.declared.item.Item.TheVariants as item
use Rattle.siri_tables.specs.Refusals.{Refusal, refused}
use Rattle.siri_tables.specs.Rules.{table, required_value}
use Rattle.siri_items.specs.Visits.{visit, visit_table, written_visit}
use Rattle.siri_items.specs.Vehicles.{vehicle, vehicle_table, written_vehicle}
use Rattle.siri_items.specs.Journeys.{journey, has_time, read_journey_rows, with_time, rows_of_journey, written_journey}
use Rattle.siri_items.specs.Situations.{situation, situation_table, written_situation}
use Rattle.siri_items.specs.Items.{item_of}
use Rattle.siri_tables.specs.Writing.{with_rows}
use Rattle.siri_tables.proofs.Back.{GivesBack}
use Rattle.siri_tables.proofs.BackValues.{table_back}
use Rattle.siri_tables.proofs.RowSpells.{bind_ok, done, ok_is, table_is, found_map, value_ok, table_ok}
use Rattle.serde_json.specs.Written.{compact_text}
use Rattle.siri_json.specs.Tree.{tree_of}
use Rattle.siri_json.proofs.Read.{tree_of-compact_text}
use Rattle.siri_tables.proofs.CanonicalParts.{IsCanonicalWithin, deeper, ◌then◌}
use Rattle.siri_base.specs.declared.reason.Reason.{Reason}
use Rattle.siri_records.specs.Services.{service_of}
use Rattle.siri_records.specs.declared.item.Service.{Service}
use Rattle.siri_records.specs.declared.item.Service.TheVariants as service
use Rattle.siri_tables.specs.Spelling.{IfFound}
use Rattle.siri_json.specs.TextsOfTrees.{TextsAreUtf8}
use Rattle.siri_tables.proofs.ProperParts.{OnRead, Yields, reads_to, on_ok, on_bind, table_yields, required_value_on}
use Rattle.siri_tables.proofs.TableLaws.{read_spelled, spelled_read, written_read, table_within, spelled_proper}
use Rattle.siri_tables.specs.Tables.{AllProper, all_written}
use Rattle.siri_items.specs.Spelling.{SpellsVisit, SpellsJourney, SpellsVehicle, SpellsSituation, SpellsItem}
use Rattle.siri_items.specs.Proper.{IsProperJourney, IsProper, as_written}
use Rattle.siri_items.specs.Written.{written_item}
use Rattle.siri_items.proofs.ItemTables.{visit_laws, visit_kind, vehicle_laws, vehicle_kind, journey_laws, situation_laws, situation_kind}

-- ---- what is read is spelled

with_time_is : (why : Reason) (j x : Journey) (b : Bool) → b ≡ has_time j.recorded_calls || has_time j.estimated_calls
    → (if b then done j else refused why) ≡ Ok x → (b ≡ true) × (j ≡ x)
with_time_is why j x true is e = (refl, ok_is j x e)
with_time_is why j x false is e = absurd cc

pub journey_spelled : (d : Data) (j : Journey) → journey d ≡ Ok j → SpellsJourney d j
unfolding journey read_journey_rows
journey_spelled d j e =
    let r = bind_ok (read_journey_rows d) _ j e in
    let t = with_time_is _ r.0 j (has_time r.0.recorded_calls || has_time r.0.estimated_calls) refl r.2 in
    subst (λ (x : Journey). SpellsJourney d x) t.1 (read_spelled journey_laws d r.0 r.1, t.0)

visit_item : (d : Data) (v : Visit) → required_value (table visit) d ≡ Ok v → IfFound (object_in d) (λ o. SpellsVisit o v)
unfolding visit
visit_item d v e = found_map (object_in d) _ _ (λ o is. read_spelled visit_laws o v is) (table_is visit d v e)

journey_item : (d : Data) (j : Journey) → required_value (table journey) d ≡ Ok j → IfFound (object_in d) (λ o. SpellsJourney o j)
journey_item d j e = found_map (object_in d) _ _ (λ o is. journey_spelled o j is) (table_is journey d j e)

vehicle_item : (d : Data) (v : Vehicle) → required_value (table vehicle) d ≡ Ok v → IfFound (object_in d) (λ o. SpellsVehicle o v)
unfolding vehicle
vehicle_item d v e = found_map (object_in d) _ _ (λ o is. read_spelled vehicle_laws o v is) (table_is vehicle d v e)

situation_item : (d : Data) (s : Situation) → required_value (table situation) d ≡ Ok s → IfFound (object_in d) (λ o. SpellsSituation o s)
unfolding situation
situation_item d s e = found_map (object_in d) _ _ (λ o is. read_spelled situation_laws o s is) (table_is situation d s e)

pub item_spelled : (s_ : Service) (d : Data) (i : Item) → item_of s_ d ≡ Ok i → SpellsItem s_ d i
item_spelled service.Stop d i e =
    let r = bind_ok (required_value (table visit) d) _ i e in
    subst (λ (x : Item). SpellsItem service.Stop d x) (ok_is (item.Visit r.0) i r.2) (visit_item d r.0 r.1)
item_spelled service.Timetable d i e =
    let r = bind_ok (required_value (table journey) d) _ i e in
    subst (λ (x : Item). SpellsItem service.Timetable d x) (ok_is (item.Journey r.0) i r.2) (journey_item d r.0 r.1)
item_spelled service.Vehicle d i e =
    let r = bind_ok (required_value (table vehicle) d) _ i e in
    subst (λ (x : Item). SpellsItem service.Vehicle d x) (ok_is (item.Vehicle r.0) i r.2) (vehicle_item d r.0 r.1)
item_spelled service.Situation d i e =
    let r = bind_ok (required_value (table situation) d) _ i e in
    subst (λ (x : Item). SpellsItem service.Situation d x) (ok_is (item.Situation r.0) i r.2) (situation_item d r.0 r.1)

-- ---- and what is spelled is read

with_time_ok : (j : Journey) → has_time j.recorded_calls || has_time j.estimated_calls ≡ true → with_time j ≡ Ok j
with_time_ok j h = rw h refl

journey_reads : (d : Data) (j : Journey) → SpellsJourney d j → journey d ≡ Ok j
unfolding journey read_journey_rows
journey_reads d j s_ = rw (spelled_read journey_laws d j s_.0) (with_time_ok j s_.1)

pub item_reads : (s_ : Service) (d : Data) (i : Item) → SpellsItem s_ d i → item_of s_ d ≡ Ok i
unfolding visit vehicle situation
item_reads service.Stop d (item.Visit v) is = rw (table_ok visit d v (found_map (object_in d) _ _ (λ o s_. spelled_read visit_laws o v s_) is)) refl
item_reads service.Timetable d (item.Journey j) is = rw (table_ok journey d j (found_map (object_in d) _ _ (λ o s_. journey_reads o j s_) is)) refl
item_reads service.Vehicle d (item.Vehicle v) is = rw (table_ok vehicle d v (found_map (object_in d) _ _ (λ o s_. spelled_read vehicle_laws o v s_) is)) refl
item_reads service.Situation d (item.Situation t) is =
    rw (table_ok situation d t (found_map (object_in d) _ _ (λ o s_. spelled_read situation_laws o t s_) is)) refl
item_reads service.Stop d (item.Journey j) is = elim is [ ]
item_reads service.Stop d (item.Vehicle v) is = elim is [ ]
item_reads service.Stop d (item.Situation t) is = elim is [ ]
item_reads service.Timetable d (item.Visit v) is = elim is [ ]
item_reads service.Timetable d (item.Vehicle v) is = elim is [ ]
item_reads service.Timetable d (item.Situation t) is = elim is [ ]
item_reads service.Vehicle d (item.Visit v) is = elim is [ ]
item_reads service.Vehicle d (item.Journey j) is = elim is [ ]
item_reads service.Vehicle d (item.Situation t) is = elim is [ ]
item_reads service.Situation d (item.Visit v) is = elim is [ ]
item_reads service.Situation d (item.Journey j) is = elim is [ ]
item_reads service.Situation d (item.Vehicle v) is = elim is [ ]

-- ---- what is read is proper

journey_proper : (d : Data) (j : Journey) → TextsAreUtf8 d → journey d ≡ Ok j → IsProperJourney j
journey_proper d j u e = let s_ = journey_spelled d j e in (spelled_proper journey_laws d j u s_.0, s_.1)

pub journey_yields : Yields (table journey) IsProperJourney
journey_yields = table_yields journey IsProperJourney (λ d u. reads_to IsProperJourney (journey d) (λ j e. journey_proper d j u e))

item_on : (s_ : Service) (d : Data) → TextsAreUtf8 d → OnRead (item_of s_ d) IsProper
item_on service.Stop d u = on_bind (AllProper visit_table) IsProper (required_value (table visit) d) _
    (required_value_on (table visit) (AllProper visit_table) visit_kind.yields d u) (λ v is. is)
item_on service.Timetable d u = on_bind IsProperJourney IsProper (required_value (table journey) d) _
    (required_value_on (table journey) IsProperJourney journey_yields d u) (λ j is. is)
item_on service.Vehicle d u = on_bind (AllProper vehicle_table) IsProper (required_value (table vehicle) d) _
    (required_value_on (table vehicle) (AllProper vehicle_table) vehicle_kind.yields d u) (λ v is. is)
item_on service.Situation d u = on_bind (AllProper situation_table) IsProper (required_value (table situation) d) _
    (required_value_on (table situation) (AllProper situation_table) situation_kind.yields d u) (λ s is. is)

pub read_proper : (s_ : Service) (d : Data) (i : Item) → TextsAreUtf8 d → item_of s_ d ≡ Ok i → IsProper i
read_proper s_ d i u e = on_ok IsProper (item_of s_ d) i (item_on s_ d u) e

-- ---- what was written is read

-- its RecordedAtTime isn't written
abbrev pub without_time : Journey → Journey
without_time j = record j { recorded_at_time = None }

pub journey_back : (j : Journey) → IsProperJourney j → GivesBack (table journey) (Some (written_journey j)) (Some (without_time j))
unfolding written_journey journey read_journey_rows
journey_back j p =
    let reads = written_read journey_laws (without_time j) (tt, p.0.1) in
    table_back journey (with_rows no_members (rows_of_journey j)) (without_time j) (rw reads (with_time_ok (without_time j) p.1))

table_given : {A : Type 0} (rows : Data → Result A Refusal) (ms : Members) (x : A)
    → GivesBack (table rows) (Some (object ms)) (Some x) → required_value (table rows) (as_texts (object ms)) ≡ Ok x
table_given rows ms x back = value_ok (table rows) (as_texts (object ms)) x back

pub item_back : (i : Item) → IsProper i → item_of (service_of i) (as_texts (written_item i)) ≡ Ok (as_written i)
unfolding written_visit written_journey written_vehicle written_situation
item_back (item.Visit v) p = rw (table_given visit (with_rows no_members (all_written visit_table v)) v (visit_kind.back v p)) refl
item_back (item.Journey j) p = rw (table_given journey (with_rows no_members (rows_of_journey j)) (without_time j) (journey_back j p)) refl
item_back (item.Vehicle v) p = rw (table_given vehicle (with_rows no_members (all_written vehicle_table v)) v (vehicle_kind.back v p)) refl
item_back (item.Situation s) p = rw (table_given situation (with_rows no_members (all_written situation_table s)) s (situation_kind.back s p)) refl

-- ---- what is written is canonical

journey_within : (j : Journey) → IsProperJourney j → IsCanonicalWithin 4 (written_journey j)
unfolding written_journey
journey_within j p = table_within journey_laws (without_time j) (tt, p.0.1)

pub item_within : (i : Item) → IsProper i → IsCanonicalWithin 7 (written_item i)
item_within (item.Visit v) p = deeper 3 7 (Some (written_visit v)) (omega arith) (visit_kind.within v p)
item_within (item.Journey j) p = deeper 4 7 (Some (written_journey j)) (omega arith) (journey_within j p)
item_within (item.Vehicle v) p = deeper 3 7 (Some (written_vehicle v)) (omega arith) (vehicle_kind.within v p)
item_within (item.Situation s) p = situation_kind.within s p

pub item_canonical : (i : Item) → IsProper i → IsCanonical (written_item i) × (depth (written_item i) ≤ 7)
item_canonical i p = let is = item_within i p in (is.canonical, is.shallow)

-- so the tree of its compact text is the tree with texts for its numbers
pub item_text : (i : Item) → IsProper i → tree_of (compact_text (written_item i)) ≡ Some (as_texts (written_item i))
item_text i p = let is = item_within i p in tree_of-compact_text (written_item i) is.canonical (omega (arith, is.shallow))
