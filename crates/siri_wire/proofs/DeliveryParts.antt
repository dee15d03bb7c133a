-- What is written of the parts of deliveries is read again, and is canonical and not deep; and what is read of them is proper where
-- the texts of its tree are UTF-8.
use Rattle.std.proofs.Common.{◌≡◌, ◌⊎◌, ℕ, ◌≤◌, true, nat_le, List, [], ◌∷◌, length, map, Option, Some, None, Result, Ok, refl, ap}
use Rattle.std.proofs.Common.{◌∙◌, arith, Bool, false, cond, is_some, sym, subst}
use Rattle.std.specs.Prelude.{option_and_then, IfSome}
use Rattle.std.specs.List.{filter_map, AllByRecursion}
use Rattle.std.proofs.lemmas.Bool.{le-leb, leb-true}
use Rattle.serde_json.specs.Data.{Data, object, Members, no_members}
use Rattle.siri_base.specs.declared.reason.Reason.TheVariants.{TooMany}
use Rattle.siri_json.specs.Canonical.{as_texts}
use Rattle.siri_json.specs.Values.{member_of, entries_of}
use Rattle.siri_json.specs.TextsOfTrees.{TextsAreUtf8}
use Rattle.siri_records.specs.declared.item.Item.{Item}
use Rattle.siri_records.specs.declared.item.Item.TheVariants as item
use Rattle.siri_records.specs.declared.item.Service.TheVariants as service
use Rattle.siri_records.specs.declared.item.Service.{Service}
use Rattle.siri_records.specs.declared.journey.Journey.{Journey}
use Rattle.siri_records.specs.declared.key.Key.{Key}
use Rattle.siri_records.specs.declared.key.Key.TheVariants as key
use Rattle.siri_items.specs.declared.names.TheConstants.{DATA_FRAME_REF, DATED_VEHICLE_JOURNEY_REF, DIRECTION_REF, LINE_REF, MONITORING_REF}
use Rattle.siri_items.specs.declared.names.TheConstants.{PARTICIPANT_REF, RECORDED_AT_TIME, SITUATION_NUMBER}
use Rattle.siri_items.specs.Journeys.{journey, rows_of_journey, written_journey}
use Rattle.siri_items.specs.Vehicles.{vehicle, vehicle_table, written_vehicle}
use Rattle.siri_items.specs.Situations.{situation, situation_table, written_situation}
use Rattle.siri_items.specs.Visits.{visit, visit_table, written_visit}
use Rattle.siri_items.specs.Proper.{IsProperJourney, IsProper}
use Rattle.siri_items.specs.Written.{written_item}
use Rattle.siri_tables.specs.Refusals.{Refusal, refused}
use Rattle.siri_tables.specs.Rules.{name, moment, number, table, required_value, entries_from, list_of, list, or_empty, row, required_row}
use Rattle.siri_tables.specs.Writing.{Row, with_rows, row_object, array_unless_empty, written_list, written_number}
use Rattle.siri_tables.specs.Tables.{all_written, AllProper}
use Rattle.siri_tables.specs.Proper.{IsMoment, IsListWithin, IsName, IsNumber}
use Rattle.siri_tables.proofs.Back.{found_again, GivesBack, in_rows, member_again, row_again}
use Rattle.siri_tables.proofs.BackValues.{name_back, some_name_back, number_back, some_moment_back}
use Rattle.siri_tables.proofs.BackLists.{object_back_or_empty, same_as_empty, EntryBack, table_entry, list_again, list_of_back, list_back}
use Rattle.siri_tables.proofs.TableLaws.{EntryLaws, all_joined, written_read, read_proper}
use Rattle.siri_tables.proofs.RowSpells.{done}
use Rattle.siri_tables.proofs.CanonicalParts.{MayBeWithin, text_within, some_text_within, some_number_within, some_moment_within}
use Rattle.siri_tables.proofs.CanonicalParts.{row_within, ◌then◌, object_within, object_unless_empty_within, array_unless_empty_within}
use Rattle.siri_tables.proofs.CanonicalParts.{list_within}
use Rattle.siri_tables.proofs.ProperParts.{OnRead, Yields, reads_to, on_map, on_bind, name_yields, moment_yields, number_yields}
use Rattle.siri_tables.proofs.ProperParts.{table_yields, row_on, row_is, AreRead, list_of_on, at_name}
use Rattle.siri_items.proofs.References.{name_row}
use Rattle.siri_items.proofs.ItemTables.{visit_laws, vehicle_laws, situation_laws}
use Rattle.siri_items.proofs.ItemLaws.{journey_back, without_time, item_within, journey_yields}
use Rattle.siri_deliveries.specs.declared.names.TheConstants.{ESTIMATED_JOURNEY_VERSION_FRAME, ESTIMATED_VEHICLE_JOURNEY, ITEM_REF, PART, REMOVED, ROUND, START}
use Rattle.siri_deliveries.specs.declared.read_parts.DeliveryExtensions.{DeliveryExtensions}
use Rattle.siri_deliveries.specs.declared.read_parts.RoundPosition.{RoundPosition}
use Rattle.siri_deliveries.specs.Deliveries.{IsProperOf, item_writing, visit_item, vehicle_item, situation_item}
use Rattle.siri_deliveries.specs.Frames.{journeys, frame, concat_frames, frames_of, journeys_of_frames, rows_of_frame, written_frame}
use Rattle.siri_deliveries.specs.Frames.{frame_time, own_or, journey_of_frame}
use Rattle.siri_deliveries.specs.Parts.{no_round, IsPlaced, round_position, rows_of_position, written_position, delivery_extensions}
use Rattle.siri_deliveries.specs.Parts.{no_extensions, written_extensions, some_extensions}
use Rattle.siri_deliveries.specs.Removals.{IsProperRemoval, a_removal, rows_of_removal, written_removal, visit_cancellation}
use Rattle.siri_deliveries.specs.Removals.{vehicle_cancellation, removed_journey, removed_situation}
use Rattle.siri_deliveries.specs.Absence.{lacks}
use Rattle.siri_wire.specs.laws.SpellingDeliveries.{SpellsRoundPosition, SpellsFrame, SpellsBeside}
use Rattle.siri_wire.proofs.MessageValues.{all_map}
use Rattle.siri_wire.proofs.ReadIffSpellsParts.{visit_cancellation_read, vehicle_cancellation_read, removed_journey_read}
use Rattle.siri_wire.proofs.ReadIffSpellsParts.{removed_situation_read, round_position_read, delivery_extensions_read, frame_read}
use Rattle.siri_wire.proofs.ReadIffSpellsParts.{round_position_spelled, delivery_extensions_spelled}
use Rattle.siri_wire.proofs.ProperReadValues.{required_row_on, spelled_yields, list_is}
use Rattle.siri_deliveries.specs.Limits.{most_entries}

-- ---- items

pub visit_entry : (i : Item) → IsProperOf service.Stop i → EntryBack (table visit_item) item_writing i
unfolding written_visit visit_item visit
visit_entry (item.Visit v) p = table_entry visit_item item_writing (with_rows no_members (all_written visit_table v))
    (item.Visit v) refl (rw (written_read visit_laws v p.proper) refl)
visit_entry i p = absurd (cc p.of_service)

pub vehicle_entry : (i : Item) → IsProperOf service.Vehicle i → EntryBack (table vehicle_item) item_writing i
unfolding written_vehicle vehicle_item vehicle
vehicle_entry (item.Vehicle v) p = table_entry vehicle_item item_writing
    (with_rows no_members (all_written vehicle_table v)) (item.Vehicle v) refl
    (rw (written_read vehicle_laws v p.proper) refl)
vehicle_entry i p = absurd (cc p.of_service)

pub situation_entry : (i : Item) → IsProperOf service.Situation i → EntryBack (table situation_item) item_writing i
unfolding written_situation situation_item situation
situation_entry (item.Situation s) p = table_entry situation_item item_writing
    (with_rows no_members (all_written situation_table s)) (item.Situation s) refl
    (rw (written_read situation_laws s p.proper) refl)
situation_entry i p = absurd (cc p.of_service)

pub visit_item_on : (d : Data) → TextsAreUtf8 d → OnRead (visit_item d) (IsProperOf service.Stop)
unfolding visit_item visit
visit_item_on d u =
    on_bind (AllProper visit_table) (IsProperOf service.Stop) (visit d) _
    (reads_to (AllProper visit_table) (visit d) (λ v e. read_proper visit_laws d v u e))
    (λ v is. record { proper = is; of_service = refl })

pub vehicle_item_on : (d : Data) → TextsAreUtf8 d → OnRead (vehicle_item d) (IsProperOf service.Vehicle)
unfolding vehicle_item vehicle
vehicle_item_on d u =
    on_bind (AllProper vehicle_table) (IsProperOf service.Vehicle) (vehicle d) _
    (reads_to (AllProper vehicle_table) (vehicle d) (λ v e. read_proper vehicle_laws d v u e))
    (λ v is. record { proper = is; of_service = refl })

pub situation_item_on : (d : Data) → TextsAreUtf8 d → OnRead (situation_item d) (IsProperOf service.Situation)
unfolding situation_item situation
situation_item_on d u =
    on_bind (AllProper situation_table) (IsProperOf service.Situation) (situation d) _
    (reads_to (AllProper situation_table) (situation d) (λ v e. read_proper situation_laws d v u e))
    (λ v is. record { proper = is; of_service = refl })

-- ---- journeys, each in a frame of its own

journey_inside : (d : Data) (ms : Members) (j : Journey)
    → member_of ESTIMATED_VEHICLE_JOURNEY.now d ≡ found_again (array_unless_empty (object ms ∷ []))
    → GivesBack (table journey) (Some (object ms)) (Some j) → journeys d ≡ Ok (j ∷ [])
unfolding journeys list_of entries_of entries_from required_value
journey_inside d ms j at_journeys again = rw (at_journeys, again) refl

frame_again : (j : Journey) → IsProperJourney j → SpellsFrame (as_texts (row_object (rows_of_frame (item.Journey j)))) (item.Journey j ∷ [])
unfolding written_journey
frame_again j p = record {
  recorded_at_time = j.recorded_at_time;
  spelled = row_again moment RECORDED_AT_TIME.now (rows_of_frame (item.Journey j)) _ j.recorded_at_time refl (some_moment_back j.recorded_at_time p.0.0);
  inside = without_time j ∷ [];
  journeys = journey_inside _ (with_rows no_members (rows_of_journey j)) (without_time j)
      (member_again ESTIMATED_VEHICLE_JOURNEY.now (rows_of_frame (item.Journey j)) _ refl) (journey_back j p);
  are = refl;
}

-- a frame of one item
abbrev single : Item → List Item
single i = i ∷ []

abbrev written_single : List Item → Option Data
written_single [] = None
written_single (i ∷ is) = written_frame i

singles_written : (is : List Item) → filter_map written_single (map single is) ≡ filter_map written_frame is
singles_written [] = refl
singles_written (i ∷ is) = rw (singles_written is) refl

singles_together : (is : List Item) → concat_frames (map single is) ≡ is
singles_together [] = refl
singles_together (i ∷ is) = rw (singles_together is) refl

frame_entry : (i : Item) → IsProperOf service.Timetable i → EntryBack (table frame) written_single (single i)
unfolding written_frame
frame_entry (item.Journey j) p = table_entry frame written_single
    (with_rows no_members (rows_of_frame (item.Journey j))) (single (item.Journey j)) refl
    (frame_read _ (single (item.Journey j)) (frame_again j p.proper))
frame_entry i p = absurd (cc p.of_service)

frame_entries : (is : List Item) → AllByRecursion (IsProperOf service.Timetable) is → AllByRecursion (EntryBack (table frame) written_single) (map single is)
frame_entries [] all = tt
frame_entries (i ∷ is) all = (frame_entry i all.0, frame_entries is all.1)

frames_none : list_of (table frame) (list_again []) ≡ Ok []
unfolding list_of entries_of entries_from
frames_none = refl

frames_at : (ds : List Data) (frames : List (List Item)) (items : List Item)
    → list_of (table frame) (list_again ds) ≡ Ok frames → concat_frames frames ≡ items → length items ≤ most_entries
    → or_empty frames_of (found_again (array_unless_empty ds)) ≡ Ok items
unfolding frames_of
frames_at [] frames items read are le =
    let none : [] ≡ frames = same_as_empty (list_of (table frame) (list_again [])) frames [] frames_none read in
    ap (λ (fs : List (List Item)). done (concat_frames fs)) none ∙ ap (λ (is : List Item). done is) are
frames_at (d ∷ ds) frames items read are le =
    let few : nat_le (length items) most_entries ≡ true = le-leb _ _ le in
    rw (read, are, few) refl

pub frames_back : (d : Data) (items : List Item) → AllByRecursion (IsProperOf service.Timetable) items
    → length items ≤ most_entries → member_of ESTIMATED_JOURNEY_VERSION_FRAME.now d ≡ found_again
    (written_list written_frame items)
    → journeys_of_frames d ≡ Ok items
unfolding journeys_of_frames written_list
frames_back d items all le at_frames =
    let read : list_of (table frame) (list_again (filter_map written_frame items)) ≡ Ok (map single items) =
    rw (← singles_written items) (list_of_back (table frame) written_single (map single items)
    (frame_entries items all)) in
    rw (at_frames, frames_at (filter_map written_frame items) (map single items) items read (singles_together items) le) refl

frame_time_proper : (i : Item) → IsProper i → IfSome (frame_time i) IsMoment
frame_time_proper (item.Visit v) p = tt
frame_time_proper (item.Journey j) p = p.0.0
frame_time_proper (item.Vehicle v) p = tt
frame_time_proper (item.Situation s) p = tt

frame_within : (i : Item) → IsProper i → MayBeWithin 9 (written_frame i)
unfolding written_frame
frame_within i p =
    let is = item_within i p in
    object_within 8 (rows_of_frame i) (
    row_within 8 RECORDED_AT_TIME.now _ refl (some_moment_within 8 (frame_time i) (frame_time_proper i p)) then
    row_within 8 ESTIMATED_VEHICLE_JOURNEY.now _ refl
    (array_unless_empty_within 7 (written_item i ∷ [])
    (record { canonical = (is.canonical, tt); shallow = omega (arith, is.shallow) })) then
    tt)

pub frames_within : (items : List Item) → IsListWithin most_entries (IsProperOf service.Timetable) items → MayBeWithin 10 (written_list written_frame items)
frames_within items p = list_within 9 written_frame items (all_map _ _ (λ i is. frame_within i is.proper) items p.each)

own_is : (own frame : Option ℕ) → IfSome own IsMoment → IfSome frame IsMoment → IfSome (own_or own frame) IsMoment
own_is None frame o f = f
own_is (Some own) frame o f = o

framed_ref_is : (t : Option ℕ) (j : Journey) → IfSome t IsMoment → IsProperJourney j → IsProperOf service.Timetable (journey_of_frame t j)
framed_ref_is t j f is = record { proper = ((own_is j.recorded_at_time t is.0.0 f, is.0.1), is.1); of_service = refl }

abbrev AreJourneys : List Item → Type 0
AreJourneys items = AllByRecursion (IsProperOf service.Timetable) items

all_of_frame : (t : Option ℕ) (js : List Journey) → IfSome t IsMoment → AllByRecursion IsProperJourney js → AreJourneys (map (journey_of_frame t) js)
all_of_frame t [] f all = tt
all_of_frame t (j ∷ js) f all = (framed_ref_is t j f all.0, all_of_frame t js f all.1)

journeys_on : (d : Data) → TextsAreUtf8 d → OnRead (journeys d) (AllByRecursion IsProperJourney)
unfolding journeys
journeys_on d u =
    at_name (AllByRecursion IsProperJourney) (list_of (table journey)) tt
    (λ e v. on_map (AreRead IsProperJourney (entries_of e)) (AllByRecursion IsProperJourney) (list_of (table journey) e)
    (list_of_on (table journey) IsProperJourney journey_yields e v) (λ xs is. is.each))
    ESTIMATED_VEHICLE_JOURNEY.now d u

frame_on : (d : Data) → TextsAreUtf8 d → OnRead (frame d) AreJourneys
unfolding frame
frame_on d u =
    on_bind (λ o. IfSome o IsMoment) AreJourneys (row moment RECORDED_AT_TIME.now d) _ (row_on moment IsMoment moment_yields RECORDED_AT_TIME.now d u)
    (λ t f. on_bind (AllByRecursion IsProperJourney) AreJourneys (journeys d) _ (journeys_on d u) (λ js all. all_of_frame t js f all))

frame_yields : Yields (table frame) AreJourneys
frame_yields = table_yields frame AreJourneys frame_on

all_concat : (frames : List (List Item)) → AllByRecursion AreJourneys frames → AreJourneys (concat_frames frames)
all_concat [] all = tt
all_concat (items ∷ frames) all = all_joined (IsProperOf service.Timetable) items (concat_frames frames) all.0 (all_concat frames all.1)

few_by : (items : List Item) (b : Bool) → nat_le (length items) most_entries ≡ b → AreJourneys items
    → OnRead (cond b (Ok items) (refused TooMany)) (IsListWithin most_entries (IsProperOf service.Timetable))
few_by items true fits all = record { bound = leb-true (length items) most_entries fits; each = all }
few_by items false fits all = tt

frames_on : (d : Data) → TextsAreUtf8 d → OnRead (frames_of d) (IsListWithin most_entries (IsProperOf service.Timetable))
unfolding frames_of
frames_on d u =
    on_bind (AreRead AreJourneys (entries_of d)) (IsListWithin most_entries (IsProperOf service.Timetable))
    (list_of (table frame) d) _ (list_of_on (table frame) AreJourneys frame_yields d u)
    (λ frames is. few_by (concat_frames frames) (nat_le (length (concat_frames frames)) most_entries) refl (all_concat frames is.each))

pub journeys_of_frames_on : (d : Data) → TextsAreUtf8 d → OnRead (journeys_of_frames d) (IsListWithin most_entries (IsProperOf service.Timetable))
unfolding journeys_of_frames
journeys_of_frames_on d u =
    at_name (IsListWithin most_entries (IsProperOf service.Timetable)) frames_of
    (record { bound = omega arith; each = tt }) frames_on ESTIMATED_JOURNEY_VERSION_FRAME.now d u

-- ---- removals

pub visit_removal : (k : Key) → IsProperRemoval service.Stop k → EntryBack (table visit_cancellation) written_removal k
unfolding written_removal
visit_removal (key.Visit monitoring visit) p =
    let rs = rows_of_removal (key.Visit monitoring visit) in
    table_entry visit_cancellation written_removal (with_rows no_members rs) (key.Visit monitoring visit) refl
    (visit_cancellation_read _ (key.Visit monitoring visit) (
      row_again name ITEM_REF.now rs _ (Some visit) refl (name_back visit p.1),
      row_again name MONITORING_REF.now rs _ (Some monitoring) refl (name_back monitoring p.0),
    ))
visit_removal k p = absurd p

pub journey_removal : (k : Key) → IsProperRemoval service.Timetable k → EntryBack (table removed_journey) written_removal k
unfolding written_removal
journey_removal (key.Journey line direction frame journey) p =
    let rs = rows_of_removal (key.Journey line direction frame journey) in
    table_entry removed_journey written_removal (with_rows no_members rs)
    (key.Journey line direction frame journey) refl
    (removed_journey_read _ (key.Journey line direction frame journey) (
      row_again name LINE_REF.now rs _ (Some line) refl (name_back line p.0),
      row_again name DIRECTION_REF.now rs _ direction refl (some_name_back direction p.1),
      row_again name DATA_FRAME_REF.now rs _ frame refl (some_name_back frame p.2),
      row_again name DATED_VEHICLE_JOURNEY_REF.now rs _ (Some journey) refl (name_back journey p.3),
    ))
journey_removal k p = absurd p

pub vehicle_removal : (k : Key) → IsProperRemoval service.Vehicle k → EntryBack (table vehicle_cancellation) written_removal k
unfolding written_removal
vehicle_removal (key.Vehicle vehicle) p =
    let rs = rows_of_removal (key.Vehicle vehicle) in
    table_entry vehicle_cancellation written_removal (with_rows no_members rs) (key.Vehicle vehicle) refl
    (vehicle_cancellation_read _ (key.Vehicle vehicle) (row_again name ITEM_REF.now rs _ (Some vehicle) refl (name_back vehicle p)))
vehicle_removal k p = absurd p

pub situation_removal : (k : Key) → IsProperRemoval service.Situation k → EntryBack (table removed_situation) written_removal k
unfolding written_removal
situation_removal (key.Situation participant number) p =
    let rs = rows_of_removal (key.Situation participant number) in
    table_entry removed_situation written_removal (with_rows no_members rs) (key.Situation participant number) refl
    (removed_situation_read _ (key.Situation participant number) (
      row_again name PARTICIPANT_REF.now rs _ participant refl (some_name_back participant p.0),
      row_again name SITUATION_NUMBER.now rs _ (Some number) refl (name_back number p.1),
    ))
situation_removal k p = absurd p

pub removal_within : (s : Service) (k : Key) → IsProperRemoval s k → MayBeWithin 1 (written_removal k)
unfolding written_removal
removal_within service.Stop (key.Visit monitoring visit) p =
    object_within 0 (rows_of_removal (key.Visit monitoring visit)) (
    row_within 0 ITEM_REF.now _ refl (text_within 0 visit p.1.utf8) then
    row_within 0 MONITORING_REF.now _ refl (text_within 0 monitoring p.0.utf8) then
    tt)
removal_within service.Timetable (key.Journey line direction frame journey) p =
    object_within 0 (rows_of_removal (key.Journey line direction frame journey)) (
    row_within 0 LINE_REF.now _ refl (text_within 0 line p.0.utf8) then
    row_within 0 DIRECTION_REF.now _ refl (some_text_within 0 _ direction p.1) then
    row_within 0 DATA_FRAME_REF.now _ refl (some_text_within 0 _ frame p.2) then
    row_within 0 DATED_VEHICLE_JOURNEY_REF.now _ refl (text_within 0 journey p.3.utf8) then
    tt)
removal_within service.Vehicle (key.Vehicle vehicle) p =
    object_within 0 (rows_of_removal (key.Vehicle vehicle)) (row_within 0 ITEM_REF.now _ refl (text_within 0 vehicle p.utf8) then tt)
removal_within service.Situation (key.Situation participant number) p =
    object_within 0 (rows_of_removal (key.Situation participant number)) (
    row_within 0 PARTICIPANT_REF.now _ refl (some_text_within 0 _ participant p.0) then
    row_within 0 SITUATION_NUMBER.now _ refl (text_within 0 number p.1.utf8) then
    tt)
removal_within s k p = absurd p

required_name : (key : List ℕ) (d : Data) → TextsAreUtf8 d → OnRead (required_row name key d) IsName
required_name key d u = required_row_on name IsName name_yields key d u

pub visit_removal_on : (d : Data) → TextsAreUtf8 d → OnRead (visit_cancellation d) (IsProperRemoval service.Stop)
unfolding visit_cancellation
visit_removal_on d u =
    on_bind IsName (IsProperRemoval service.Stop) (required_row name ITEM_REF.now d) _ (required_name ITEM_REF.now d u)
    (λ visit v. on_bind IsName (IsProperRemoval service.Stop) (required_row name MONITORING_REF.now d) _
    (required_name MONITORING_REF.now d u) (λ monitoring m. (m, v)))

pub vehicle_removal_on : (d : Data) → TextsAreUtf8 d → OnRead (vehicle_cancellation d) (IsProperRemoval service.Vehicle)
unfolding vehicle_cancellation
vehicle_removal_on d u = on_bind IsName (IsProperRemoval service.Vehicle) (required_row name ITEM_REF.now d) _ (required_name ITEM_REF.now d u) (λ vehicle v. v)

pub journey_removal_on : (d : Data) → TextsAreUtf8 d → OnRead (removed_journey d) (IsProperRemoval service.Timetable)
unfolding removed_journey
journey_removal_on d u =
    on_bind IsName (IsProperRemoval service.Timetable) (required_row name LINE_REF.now d) _ (required_name LINE_REF.now d u) (λ line l.
    on_bind (λ o. IfSome o IsName) (IsProperRemoval service.Timetable) (row name DIRECTION_REF.now d) _ (name_row DIRECTION_REF.now d u) (λ direction r.
    on_bind (λ o. IfSome o IsName) (IsProperRemoval service.Timetable) (row name DATA_FRAME_REF.now d) _ (name_row DATA_FRAME_REF.now d u) (λ frame f.
    on_bind IsName (IsProperRemoval service.Timetable) (required_row name DATED_VEHICLE_JOURNEY_REF.now d) _
    (required_name DATED_VEHICLE_JOURNEY_REF.now d u) (λ journey j. (l, r, f, j)))))

pub situation_removal_on : (d : Data) → TextsAreUtf8 d → OnRead (removed_situation d) (IsProperRemoval service.Situation)
unfolding removed_situation
situation_removal_on d u =
    on_bind (λ o. IfSome o IsName) (IsProperRemoval service.Situation) (row name PARTICIPANT_REF.now d) _ (name_row PARTICIPANT_REF.now d u)
    (λ participant p. on_bind IsName (IsProperRemoval service.Situation) (required_row name SITUATION_NUMBER.now d) _
    (required_name SITUATION_NUMBER.now d u) (λ number n. (p, n)))

-- ---- where in a round a delivery stands

round_position_again : (rs : List Row) (start round part : Option ℕ) → IsPlaced (record { start = start; round = round; part = part })
    → in_rows START.now None rs ≡ option_and_then written_number start
    → in_rows ROUND.now None rs ≡ option_and_then written_number round
    → in_rows PART.now None rs ≡ option_and_then written_number part
    → SpellsRoundPosition (as_texts (row_object rs)) (record { start = start; round = round; part = part })
round_position_again rs None None None is at_start at_round at_part =
    record { round = row_again number ROUND.now rs None None at_round refl; start = refl; part = refl }
round_position_again rs (Some start) (Some round) (Some part) is at_start at_round at_part = record {
  round = row_again number ROUND.now rs _ (Some round) at_round (number_back round is.round);
  start = (row_again number START.now rs _ (Some start) at_start (number_back start is.start), refl);
  part = (row_again number PART.now rs _ (Some part) at_part (number_back part is.part), refl);
}
round_position_again rs (Some start) None part is at_start at_round at_part = absurd (cc is.start_stands)
round_position_again rs None (Some round) part is at_start at_round at_part = absurd (cc is.start_stands)
round_position_again rs None None (Some part) is at_start at_round at_part = absurd (cc is.part_stands)
round_position_again rs (Some start) (Some round) None is at_start at_round at_part = absurd (cc is.part_stands)

round_position_of_none : round_position (object no_members) ≡ Ok no_round
unfolding round_position lacks member_of
round_position_of_none = refl

pub place_back : (p : RoundPosition) → IsPlaced p → GivesBack (table round_position) (written_position p) (Some p)
    ⊎ (GivesBack (table round_position) (written_position p) None × (no_round ≡ p))
unfolding written_position
place_back p is =
    let rs = rows_of_position p [] in
    object_back_or_empty round_position (with_rows no_members rs) p no_round round_position_of_none
    (round_position_read _ p (round_position_again rs p.start p.round p.part is refl refl refl))

extensions_of_none : (removed : Data → Result Key Refusal) → delivery_extensions removed (object no_members) ≡ Ok no_extensions
unfolding delivery_extensions round_position lacks list member_of
extensions_of_none removed = refl

pub extensions_back : (removed : Data → Result Key Refusal) (s : Service) → EntryLaws 1 (a_removal removed s)
    → (e : DeliveryExtensions) → (some_extensions removed s).Is e
    → GivesBack (table (delivery_extensions removed)) (written_extensions e) (Some e)
    ⊎ (GivesBack (table (delivery_extensions removed)) (written_extensions e) None × (no_extensions ≡ e))
unfolding written_extensions
extensions_back removed s laws e is =
    let rs = rows_of_position e.round_position ((REMOVED.now, written_list written_removal e.removals) ∷ []) in
    let reads = delivery_extensions_read removed _ e (record {
      round_position = round_position_again rs e.round_position.start e.round_position.round e.round_position.part is.0 refl refl refl;
      removals = list_back (table removed) written_removal most_entries REMOVED.now _ e.removals
          (all_map _ _ laws.entry e.removals is.1.each) is.1.bound (member_again REMOVED.now rs _ refl);
    }) in
    object_back_or_empty (delivery_extensions removed) (with_rows no_members rs) e no_extensions (extensions_of_none removed) reads

pub place_within : (p : RoundPosition) → IsPlaced p → MayBeWithin 1 (written_position p)
unfolding written_position
place_within p is =
    object_unless_empty_within 1 _ (object_within 0 (rows_of_position p []) (
    row_within 0 START.now _ refl (some_number_within 0 p.start is.start) then
    row_within 0 ROUND.now _ refl (some_number_within 0 p.round is.round) then
    row_within 0 PART.now _ refl (some_number_within 0 p.part is.part) then
    tt))

pub extensions_within : (removed : Data → Result Key Refusal) (s : Service) → EntryLaws 1 (a_removal removed s)
    → (e : DeliveryExtensions) → (some_extensions removed s).Is e → MayBeWithin 3 (written_extensions e)
unfolding written_extensions
extensions_within removed s laws e is =
    object_unless_empty_within 3 _ (object_within 2 (rows_of_position e.round_position ((REMOVED.now, written_list written_removal e.removals) ∷ [])) (
    row_within 2 START.now _ refl (some_number_within 2 e.round_position.start is.0.start) then
    row_within 2 ROUND.now _ refl (some_number_within 2 e.round_position.round is.0.round) then
    row_within 2 PART.now _ refl (some_number_within 2 e.round_position.part is.0.part) then
    row_within 2 REMOVED.now _ refl (list_within 1 written_removal e.removals (all_map _ _ laws.within e.removals is.1.each)) then
    tt))

beside_is : (round : Option ℕ) (key : List ℕ) (d : Data) (value : Option ℕ) → TextsAreUtf8 d
    → SpellsBeside round key d value → IfSome value IsNumber × (is_some value ≡ is_some round)
beside_is None key d value u s_ = subst (λ (o : Option ℕ). IfSome o IsNumber × (is_some o ≡ false)) (sym s_) (tt, refl)
beside_is (Some round) key d value u s_ = (row_is number IsNumber number_yields key d value u s_.0, s_.1)

round_position_proper : (d : Data) (s : RoundPosition) → TextsAreUtf8 d → SpellsRoundPosition d s → IsPlaced s
round_position_proper d s u s_ =
    let start = beside_is s.round START.now d s.start u s_.start in
    let part = beside_is s.round PART.now d s.part u s_.part in
    record {
      start = start.0;
      round = row_is number IsNumber number_yields ROUND.now d s.round u s_.round;
      part = part.0;
      start_stands = start.1;
      part_stands = part.1;
    }

pub round_position_yields : Yields (table round_position) IsPlaced
round_position_yields = spelled_yields round_position IsPlaced (λ d s u e. round_position_proper d s u (round_position_spelled d s e))

pub extensions_yields : (removed : Data → Result Key Refusal) (s : Service) → EntryLaws 1 (a_removal removed s)
    → Yields (table (delivery_extensions removed)) (some_extensions removed s).Is
extensions_yields removed s laws = spelled_yields (delivery_extensions removed) (some_extensions removed s).Is (λ d x u e.
    let s_ = delivery_extensions_spelled removed d x e in (
      round_position_proper d x.round_position u s_.round_position,
      list_is (table removed) (IsProperRemoval s) laws.yields most_entries REMOVED.now d x.removals u s_.removals,
    ))
