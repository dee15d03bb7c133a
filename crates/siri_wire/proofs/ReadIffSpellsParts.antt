-- What is read is spelled and the other way round: rows inside objects, errors, removals, the journeys of frames, and where in a
-- round a delivery stands.
use Rattle.std.proofs.Common.{◌≡◌, ℕ, ◌+◌, ◌≤◌, Bool, true, false, not, nat_le, List, [], ◌∷◌, length, filter, map, Option, Some, None}
use Rattle.std.proofs.Common.{Result, Ok, Err, refl, sym, ap, ap₂, ◌∙◌, subst, arith, if◌then◌else◌}
use Rattle.std.proofs.lemmas.Bool.{le-leb, leb-true}
use Rattle.std.proofs.lemmas.List.{length-map}
use Rattle.std.proofs.lemmas.List.Sums.{length-filter}
use Rattle.serde_json.specs.Data.{Data}
use Rattle.siri_base.specs.declared.reason.Reason.TheVariants.{TooMany}
use Rattle.siri_json.specs.Values.{Found, found, absent, wrong, object_in, member_of, entries_of, text_in}
use Rattle.siri_json.specs.declared.path.Step.TheVariants.{Member, Place}
use Rattle.siri_records.specs.declared.item.Item.{Item}
use Rattle.siri_records.specs.declared.item.Service.TheVariants as service
use Rattle.siri_records.specs.declared.journey.Journey.{Journey}
use Rattle.siri_records.specs.declared.key.Key.{Key}
use Rattle.siri_records.specs.declared.key.Key.TheVariants as key
use Rattle.siri_items.specs.declared.names.TheConstants.{DATA_FRAME_REF, DATED_VEHICLE_JOURNEY_REF, DIRECTION_REF, LINE_REF, MONITORING_REF}
use Rattle.siri_items.specs.declared.names.TheConstants.{PARTICIPANT_REF, SITUATION_NUMBER, RECORDED_AT_TIME}
use Rattle.siri_items.specs.Journeys.{journey}
use Rattle.siri_tables.specs.Refusals.{Refusal, ◌>>=◌, refused, below, each}
use Rattle.siri_tables.specs.Rules.{name, text, table, maybe, unless_wrong, required, row, required_row, inside, required_value, is_null}
use Rattle.siri_tables.specs.Rules.{entry_count, entries_from, at_most, list_of, list, or_empty, moment, number, read_from_text}
use Rattle.siri_tables.specs.Spelling.{Spells}
use Rattle.siri_tables.proofs.RowSpells.{done, ok_is, below_ok, bind_ok, row_spelled, required_row_spelled, row_ok, required_row_ok, value_ok}
use Rattle.siri_deliveries.specs.declared.names.TheConstants.{ERROR_TEXT, ESTIMATED_JOURNEY_VERSION_FRAME, ESTIMATED_VEHICLE_JOURNEY}
use Rattle.siri_deliveries.specs.declared.names.TheConstants.{ITEM_REF, OTHER_ERROR, PART, REMOVED, ROUND, START}
use Rattle.siri_deliveries.specs.Errors.{other_error}
use Rattle.siri_deliveries.specs.Frames.{journeys, frame, concat_frames, few_in_all, frames_of, journeys_of_frames}
use Rattle.siri_deliveries.specs.Removals.{visit_cancellation, vehicle_cancellation, removed_journey, removed_situation}
use Rattle.siri_wire.specs.laws.SpellingDeliveries.{SpellsRemoval, SpellsJourneys, SpellsFrames, SpellsRoundPosition}
use Rattle.siri_wire.specs.laws.SpellingDeliveries.{SpellsDeliveryExtensions, SpellsFrame, SpellsBeside}
use Rattle.siri_wire.specs.laws.SpellingValues.{SpellsFound, SpellsInside, SpellsErrorCondition, SpellsEntries, SpellsList}
use Rattle.siri_deliveries.specs.declared.read_parts.DeliveryExtensions.{DeliveryExtensions}
use Rattle.siri_deliveries.specs.declared.read_parts.RoundPosition.{RoundPosition}
use Rattle.siri_deliveries.specs.Parts.{no_round, within_round, round_position, delivery_extensions}
use Rattle.siri_deliveries.specs.Absence.{is_no_text, is_text_absent, lacks}
use Rattle.siri_deliveries.specs.Limits.{most_entries}

-- ---- rows inside objects

found_spelled : {A : Type 0} (rule : Data → Result (Option A) Refusal) (key : List ℕ) (f : Found Data)
    (value : Option A) → (unless_wrong f >>= maybe (row rule key)) ≡ Ok value
    → SpellsFound f (λ o given. Spells rule key o given) value
found_spelled rule key (found o) value e = row_spelled rule key o value e
found_spelled rule key absent value e = sym (ok_is None value e)
found_spelled rule key wrong value e = absurd cc

found_read : {A : Type 0} (rule : Data → Result (Option A) Refusal) (key : List ℕ) (f : Found Data) (value : Option A)
    → SpellsFound f (λ o given. Spells rule key o given) value
    → (unless_wrong f >>= maybe (row rule key)) ≡ Ok value
found_read rule key (found o) value is = row_ok rule key o value is
found_read rule key absent value is = ap (λ (v : Option _). done v) (sym is)
found_read rule key wrong value is = absurd is

pub inside_spelled : {A : Type 0} (rule : Data → Result (Option A) Refusal) (key : List ℕ) (d : Data) (value : Option A)
    → inside rule key d ≡ Ok value → SpellsInside rule key d value
unfolding inside
inside_spelled rule key d value e = found_spelled rule key (object_in d) value e

pub inside_read : {A : Type 0} (rule : Data → Result (Option A) Refusal) (key : List ℕ) (d : Data) (value : Option A)
    → SpellsInside rule key d value → inside rule key d ≡ Ok value
unfolding inside
inside_read rule key d value is = found_read rule key (object_in d) value is

pub error_condition_spelled : (d : Data) (error : Option (List ℕ)) → other_error d ≡ Ok error → SpellsErrorCondition d error
unfolding other_error
error_condition_spelled d error e = inside_spelled (inside text ERROR_TEXT.now) OTHER_ERROR.now d error e

pub error_condition_read : (d : Data) (error : Option (List ℕ)) → SpellsErrorCondition d error → other_error d ≡ Ok error
unfolding other_error
error_condition_read d error is = inside_read (inside text ERROR_TEXT.now) OTHER_ERROR.now d error is

-- ---- removals

pub visit_cancellation_spelled : (d : Data) (k : Key) → visit_cancellation d ≡ Ok k → SpellsRemoval service.Stop d k
unfolding visit_cancellation
visit_cancellation_spelled d k e =
    let r1 = bind_ok (required_row name ITEM_REF.now d) _ k e in
    let r2 = bind_ok (required_row name MONITORING_REF.now d) _ k r1.2 in
    subst (λ (x : Key). SpellsRemoval service.Stop d x) (ok_is _ k r2.2)
    (required_row_spelled name ITEM_REF.now d r1.0 r1.1, required_row_spelled name MONITORING_REF.now d r2.0 r2.1)

pub visit_cancellation_read : (d : Data) (k : Key) → SpellsRemoval service.Stop d k → visit_cancellation d ≡ Ok k
unfolding visit_cancellation
visit_cancellation_read d (key.Visit monitoring visit) is =
    rw (required_row_ok name ITEM_REF.now d visit is.0, required_row_ok name MONITORING_REF.now d monitoring is.1) refl
visit_cancellation_read d k is = absurd is

pub vehicle_cancellation_spelled : (d : Data) (k : Key) → vehicle_cancellation d ≡ Ok k → SpellsRemoval service.Vehicle d k
unfolding vehicle_cancellation
vehicle_cancellation_spelled d k e =
    let r1 = bind_ok (required_row name ITEM_REF.now d) _ k e in
    subst (λ (x : Key). SpellsRemoval service.Vehicle d x) (ok_is _ k r1.2) (required_row_spelled name ITEM_REF.now d r1.0 r1.1)

pub vehicle_cancellation_read : (d : Data) (k : Key) → SpellsRemoval service.Vehicle d k → vehicle_cancellation d ≡ Ok k
unfolding vehicle_cancellation
vehicle_cancellation_read d (key.Vehicle vehicle) is = rw (required_row_ok name ITEM_REF.now d vehicle is) refl
vehicle_cancellation_read d k is = absurd is

pub removed_journey_spelled : (d : Data) (k : Key) → removed_journey d ≡ Ok k → SpellsRemoval service.Timetable d k
unfolding removed_journey
removed_journey_spelled d k e =
    let r1 = bind_ok (required_row name LINE_REF.now d) _ k e in
    let r2 = bind_ok (row name DIRECTION_REF.now d) _ k r1.2 in
    let r3 = bind_ok (row name DATA_FRAME_REF.now d) _ k r2.2 in
    let r4 = bind_ok (required_row name DATED_VEHICLE_JOURNEY_REF.now d) _ k r3.2 in
    subst (λ (x : Key). SpellsRemoval service.Timetable d x) (ok_is _ k r4.2) (
      required_row_spelled name LINE_REF.now d r1.0 r1.1,
      row_spelled name DIRECTION_REF.now d r2.0 r2.1,
      row_spelled name DATA_FRAME_REF.now d r3.0 r3.1,
      required_row_spelled name DATED_VEHICLE_JOURNEY_REF.now d r4.0 r4.1,
    )

pub removed_journey_read : (d : Data) (k : Key) → SpellsRemoval service.Timetable d k → removed_journey d ≡ Ok k
unfolding removed_journey
removed_journey_read d (key.Journey line direction frame journey) is =
    rw (
      required_row_ok name LINE_REF.now d line is.0,
      row_ok name DIRECTION_REF.now d direction is.1,
      row_ok name DATA_FRAME_REF.now d frame is.2,
      required_row_ok name DATED_VEHICLE_JOURNEY_REF.now d journey is.3,
    ) refl
removed_journey_read d k is = absurd is

pub removed_situation_spelled : (d : Data) (k : Key) → removed_situation d ≡ Ok k → SpellsRemoval service.Situation d k
unfolding removed_situation
removed_situation_spelled d k e =
    let r1 = bind_ok (row name PARTICIPANT_REF.now d) _ k e in
    let r2 = bind_ok (required_row name SITUATION_NUMBER.now d) _ k r1.2 in
    subst (λ (x : Key). SpellsRemoval service.Situation d x) (ok_is _ k r2.2)
    (row_spelled name PARTICIPANT_REF.now d r1.0 r1.1, required_row_spelled name SITUATION_NUMBER.now d r2.0 r2.1)

pub removed_situation_read : (d : Data) (k : Key) → SpellsRemoval service.Situation d k → removed_situation d ≡ Ok k
unfolding removed_situation
removed_situation_read d (key.Situation participant number) is =
    rw (row_ok name PARTICIPANT_REF.now d participant is.0, required_row_ok name SITUATION_NUMBER.now d number is.1) refl
removed_situation_read d k is = absurd is

-- ---- lists, entry by entry

-- what is asked of the entries
EachSpells : {A : Type 0} → (Data → Result (Option A) Refusal) → List Data → List A → Type 0
EachSpells rule ds xs = map rule (filter (λ e. not (is_null e)) ds) ≡ map (λ x. done (Some x)) xs

required_is : {A : Type 0} (r : Result (Option A) Refusal) (x : A) → (r >>= required []) ≡ Ok x → r ≡ Ok (Some x)
required_is (Ok None) x e = absurd cc
required_is (Ok (Some y)) x e = ap (λ (v : _). done (Some v)) (ok_is y x e)
required_is (Err r) x e = absurd cc

value_is : {A : Type 0} (rule : Data → Result (Option A) Refusal) (d : Data) (x : A) → required_value rule d ≡ Ok x → rule d ≡ Ok (Some x)
unfolding required_value
value_is rule d x e = required_is (rule d) x e

entry_spelled : {A : Type 0} (rule : Data → Result (Option A) Refusal) (place : ℕ) (d : Data) (ds : List Data)
    (xs : List A) (null : Bool) → ((ys : List A) → entries_from rule (place + 1) ds ≡ Ok ys → EachSpells rule ds ys)
    → (if null then entries_from rule (place + 1) ds
    else (below (Place place) (required_value rule d) >>= λ first. entries_from rule (place + 1) ds >>= λ others.
    done (first ∷ others))) ≡ Ok xs
    → map rule (if not null then d ∷ filter (λ e. not (is_null e)) ds else filter (λ e. not (is_null e)) ds) ≡ map (λ x. done (Some x)) xs
unfolding EachSpells
entry_spelled rule place d ds xs true h e = h xs e
entry_spelled rule place d ds xs false h e =
    let r1 = bind_ok (below (Place place) (required_value rule d)) _ xs e in
    let r2 = bind_ok (entries_from rule (place + 1) ds) _ xs r1.2 in
    let first : rule d ≡ done (Some r1.0) = value_is rule d r1.0 (below_ok (Place place) (required_value rule d) r1.0 r1.1) in
    ap₂ (λ (a : Result _ Refusal) (rest : List (Result _ Refusal)). a ∷ rest) first (h r2.0 r2.1) ∙ ap (map (λ x. done (Some x))) (ok_is (r1.0 ∷ r2.0) xs r2.2)

entries_spelled : {A : Type 0} (rule : Data → Result (Option A) Refusal) (place : ℕ) (ds : List Data) (xs : List A)
    → entries_from rule place ds ≡ Ok xs → EachSpells rule ds xs
unfolding entries_from EachSpells
entries_spelled rule place [] xs e = ap (map (λ x. done (Some x))) (ok_is [] xs e)
entries_spelled rule place (d ∷ ds) xs e = entry_spelled rule place d ds xs (is_null d) (λ ys f. entries_spelled rule (place + 1) ds ys f) e

first_is : {A : Type 0} (a b : A) (xs ys : List A) → a ∷ xs ≡ b ∷ ys → a ≡ b
first_is a b xs ys e = cc

others_are : {A : Type 0} (a b : A) (xs ys : List A) → a ∷ xs ≡ b ∷ ys → xs ≡ ys
others_are a b xs ys e = cc

entry_read : {A : Type 0} (rule : Data → Result (Option A) Refusal) (place : ℕ) (d : Data) (ds : List Data)
    (xs : List A) (null : Bool) → ((ys : List A) → EachSpells rule ds ys → entries_from rule (place + 1) ds ≡ Ok ys)
    → map rule (if not null then d ∷ filter (λ e. not (is_null e)) ds else filter (λ e. not (is_null e)) ds) ≡ map (λ x. done (Some x)) xs
    → (if null then entries_from rule (place + 1) ds
    else (below (Place place) (required_value rule d) >>= λ first. entries_from rule (place + 1) ds >>= λ others.
    done (first ∷ others))) ≡ Ok xs
unfolding EachSpells
entry_read rule place d ds xs true h e = h xs e
entry_read rule place d ds [] false h e = absurd cc
entry_read rule place d ds (x ∷ xs) false h e =
    rw (value_ok rule d x (first_is _ _ _ _ e), h xs (others_are _ _ _ _ e)) refl

entries_read : {A : Type 0} (rule : Data → Result (Option A) Refusal) (place : ℕ) (ds : List Data) (xs : List A)
    → EachSpells rule ds xs → entries_from rule place ds ≡ Ok xs
unfolding entries_from EachSpells
entries_read rule place [] [] e = refl
entries_read rule place [] (x ∷ xs) e = absurd cc
entries_read rule place (d ∷ ds) xs e = entry_read rule place d ds xs (is_null d) (λ ys f. entries_read rule (place + 1) ds ys f) e

list_spelled : {A : Type 0} (rule : Data → Result (Option A) Refusal) (o : Option Data) (xs : List A)
    → or_empty (list_of rule) o ≡ Ok xs → SpellsEntries rule o xs
unfolding list_of EachSpells
list_spelled rule None xs e = sym (ok_is [] xs e)
list_spelled rule (Some d) xs e = entries_spelled rule 0 (entries_of d) xs e

list_read : {A : Type 0} (rule : Data → Result (Option A) Refusal) (o : Option Data) (xs : List A) → SpellsEntries rule o xs → or_empty (list_of rule) o ≡ Ok xs
unfolding list_of EachSpells
list_read rule None xs is = ap (λ (ys : List _). done ys) (sym is)
list_read rule (Some d) xs is = entries_read rule 0 (entries_of d) xs is

-- as many entries that aren't null as elements
count_is : {A : Type 0} (rule : Data → Result (Option A) Refusal) (d : Data) (xs : List A) → SpellsEntries rule (Some d) xs → entry_count d ≡ length xs
count_is rule d xs is =
    let entries = filter (λ e. not (is_null e)) (entries_of d) in
    sym (length-filter (λ e. not (is_null e)) (entries_of d)) ∙ (sym (length-map entries rule) ∙ (ap length is ∙ length-map xs (λ x. done (Some x))))

few_spelled : {A : Type 0} (rule : Data → Result (Option A) Refusal) (most : ℕ) (d : Data) (xs : List A) (few : Bool)
    → nat_le (entry_count d) most ≡ few → (if few then list_of rule d else refused TooMany) ≡ Ok xs
    → SpellsEntries rule (Some d) xs × (length xs ≤ most)
few_spelled rule most d xs true at e =
    let is = list_spelled rule (Some d) xs e in
    (is, subst (λ (n : ℕ). n ≤ most) (count_is rule d xs is) (leb-true (entry_count d) most at))
few_spelled rule most d xs false at e = absurd cc

bounded_spelled : {A : Type 0} (rule : Data → Result (Option A) Refusal) (most : ℕ) (o : Option Data) (xs : List A)
    → or_empty (at_most most (list_of rule)) o ≡ Ok xs → SpellsEntries rule o xs × (length xs ≤ most)
bounded_spelled rule most None xs e =
    let none = ok_is [] xs e in
    (sym none, subst (λ (x : List _). length x ≤ most) none (omega arith))
bounded_spelled rule most (Some d) xs e = few_spelled rule most d xs (nat_le (entry_count d) most) refl e

bounded_read : {A : Type 0} (rule : Data → Result (Option A) Refusal) (most : ℕ) (o : Option Data) (xs : List A)
    → SpellsEntries rule o xs → length xs ≤ most → or_empty (at_most most (list_of rule)) o ≡ Ok xs
bounded_read rule most None xs is few = ap (λ (ys : List _). done ys) (sym is)
bounded_read rule most (Some d) xs is few =
    let le : entry_count d ≤ most = subst (λ (n : ℕ). n ≤ most) (sym (count_is rule d xs is)) few in
    rw (le-leb (entry_count d) most le) (list_read rule (Some d) xs is)

pub bounded_list_spelled : {A : Type 0} (rule : Data → Result (Option A) Refusal) (most : ℕ) (key : List ℕ) (d : Data)
    (xs : List A) → list rule most key d ≡ Ok xs → SpellsList rule most key d xs
unfolding list
bounded_list_spelled rule most key d xs e =
    let r = bounded_spelled rule most (member_of key d) xs (below_ok (Member key) _ xs e) in
    record { entries = r.0; few = r.1 }

pub bounded_list_read : {A : Type 0} (rule : Data → Result (Option A) Refusal) (most : ℕ) (key : List ℕ) (d : Data)
    (xs : List A) → SpellsList rule most key d xs → list rule most key d ≡ Ok xs
unfolding list
bounded_list_read rule most key d xs s_ = rw (bounded_read rule most (member_of key d) xs s_.entries s_.few) refl

-- ---- the journeys of frames

pub journeys_spelled : (d : Data) (inside : List Journey) → journeys d ≡ Ok inside → SpellsJourneys d inside
unfolding journeys
journeys_spelled d inside e = list_spelled (table journey) (member_of ESTIMATED_VEHICLE_JOURNEY.now d) inside
    (below_ok (Member ESTIMATED_VEHICLE_JOURNEY.now) _ inside e)

pub journeys_read : (d : Data) (inside : List Journey) → SpellsJourneys d inside → journeys d ≡ Ok inside
unfolding journeys
journeys_read d inside is = rw (list_read (table journey) (member_of ESTIMATED_VEHICLE_JOURNEY.now d) inside is) refl

few_is : (all items : List Item) (few : Bool) → nat_le (length all) most_entries ≡ few
    → (if few then done all else refused TooMany) ≡ Ok items → (items ≡ all) × (length items ≤ most_entries)
few_is all items true at e =
    let same = ok_is all items e in
    (sym same, subst (λ (x : List Item). length x ≤ most_entries) same (leb-true (length all) most_entries at))
few_is all items false at e = absurd cc

frames_spelled : (o : Option Data) (d : Data) (items : List Item) → o ≡ member_of ESTIMATED_JOURNEY_VERSION_FRAME.now d
    → or_empty frames_of o ≡ Ok items → SpellsFrames d items
unfolding frames_of
frames_spelled None d items at e =
    let none = ok_is [] items e in
    record {
      frames = [];
      spelled = subst (λ (x : Option Data). SpellsEntries (table frame) x []) at refl;
      are = sym none;
      few = subst (λ (x : List Item). length x ≤ most_entries) none (omega arith);
    }
frames_spelled (Some v) d items at e =
    let r = bind_ok (list_of (table frame) v) _ items e in
    let is = few_is (concat_frames r.0) items (nat_le (length (concat_frames r.0)) most_entries) refl r.2 in
    record {
      frames = r.0;
      spelled = subst (λ (x : Option Data). SpellsEntries (table frame) x r.0) at (list_spelled (table frame) (Some v) r.0 r.1);
      are = is.0;
      few = is.1;
    }

pub journeys_of_frames_spelled : (d : Data) (items : List Item) → journeys_of_frames d ≡ Ok items → SpellsFrames d items
unfolding journeys_of_frames
journeys_of_frames_spelled d items e = frames_spelled (member_of ESTIMATED_JOURNEY_VERSION_FRAME.now d) d items refl
    (below_ok (Member ESTIMATED_JOURNEY_VERSION_FRAME.now) _ items e)

few_read : (all items : List Item) → items ≡ all → length items ≤ most_entries → few_in_all all ≡ Ok items
few_read all items are few =
    let all_few : length all ≤ most_entries = subst (λ (x : List Item). length x ≤ most_entries) are few in
    rw (le-leb (length all) most_entries all_few) (ap (λ (x : List Item). done x) (sym are))

frames_read : (o : Option Data) (frames : List (List Item)) (items : List Item) → SpellsEntries (table frame) o frames
    → items ≡ concat_frames frames → length items ≤ most_entries
    → or_empty frames_of o ≡ Ok items
unfolding frames_of
frames_read None frames items is are few =
    let none : items ≡ [] = are ∙ ap concat_frames is in
    ap (λ (x : List Item). done x) (sym none)
frames_read (Some v) frames items is are few = rw (list_read (table frame) (Some v) frames is) (few_read (concat_frames frames) items are few)

pub journeys_of_frames_read : (d : Data) (items : List Item) → SpellsFrames d items → journeys_of_frames d ≡ Ok items
unfolding journeys_of_frames
journeys_of_frames_read d items s_ = rw (frames_read (member_of ESTIMATED_JOURNEY_VERSION_FRAME.now d) s_.frames items s_.spelled s_.are s_.few) refl

-- a frame
pub frame_spelled : (d : Data) (items : List Item) → frame d ≡ Ok items → SpellsFrame d items
unfolding frame
frame_spelled d items e =
    let r1 = bind_ok (row moment RECORDED_AT_TIME.now d) _ items e in
    let r2 = bind_ok (journeys d) _ items r1.2 in
    subst (λ (x : List Item). SpellsFrame d x) (ok_is _ items r2.2)
    (record { recorded_at_time = r1.0; spelled = row_spelled moment RECORDED_AT_TIME.now d r1.0 r1.1; inside = r2.0; journeys = r2.1; are = refl })

pub frame_read : (d : Data) (items : List Item) → SpellsFrame d items → frame d ≡ Ok items
unfolding frame
frame_read d items s_ = rw (row_ok moment RECORDED_AT_TIME.now d s_.recorded_at_time s_.spelled, s_.journeys, s_.are) refl

-- ---- texts that are absent, and texts that are there

none_spelled : {A : Type 0} (read : List ℕ → Result A Refusal) (f : Found (List ℕ)) → is_no_text f ≡ true → (unless_wrong f >>= each read) ≡ Ok None
none_spelled read (found t) e = absurd cc
none_spelled read absent e = refl
none_spelled read wrong e = absurd cc

-- what is absent where a text is wanted spells nothing
pub absent_spelled : {A : Type 0} (read : List ℕ → Result A Refusal) (o : Option Data) → is_text_absent o ≡ true → maybe (read_from_text read) o ≡ Ok None
unfolding read_from_text
absent_spelled read None e = refl
absent_spelled read (Some d) e = none_spelled read (text_in d) e

none_read : {A : Type 0} (read : List ℕ → Result A Refusal) (f : Found (List ℕ)) → (unless_wrong f >>= each read) ≡ Ok None → is_no_text f ≡ true
none_read read (found t) e = let r = bind_ok (read t) _ None e in absurd (cc r.2)
none_read read absent e = refl
none_read read wrong e = absurd cc

some_read : {A : Type 0} (read : List ℕ → Result A Refusal) (f : Found (List ℕ)) (x : A) → (unless_wrong f >>= each read) ≡ Ok (Some x) → is_no_text f ≡ false
some_read read (found t) x e = refl
some_read read absent x e = absurd cc
some_read read wrong x e = refl

-- what is spelled as nothing is absent where a text is wanted
pub nothing_spelled : {A : Type 0} (read : List ℕ → Result A Refusal) (o : Option Data) → maybe (read_from_text read) o ≡ Ok None → is_text_absent o ≡ true
unfolding read_from_text
nothing_spelled read None e = refl
nothing_spelled read (Some d) e = none_read read (text_in d) e

-- what is spelled as something is there
pub something_spelled : {A : Type 0} (read : List ℕ → Result A Refusal) (o : Option Data) (x : A)
    → maybe (read_from_text read) o ≡ Ok (Some x) → is_text_absent o ≡ false
unfolding read_from_text
something_spelled read None x e = absurd cc
something_spelled read (Some d) x e = some_read read (text_in d) x e

-- ---- where in a round a delivery stands

round_position_cases : (d : Data) (s : RoundPosition) (b : Bool) → lacks ROUND.now d ≡ b
    → (if b then done no_round else within_round d) ≡ Ok s → SpellsRoundPosition d s
unfolding lacks within_round
round_position_cases d s true at_round e =
    subst (λ (x : RoundPosition). SpellsRoundPosition d x) (ok_is no_round s e)
    (record { round = absent_spelled _ (member_of ROUND.now d) at_round; start = refl; part = refl })
round_position_cases d s false at_round e =
    let r1 = bind_ok (required_row number START.now d) _ s e in
    let r2 = bind_ok (required_row number ROUND.now d) _ s r1.2 in
    let r3 = bind_ok (required_row number PART.now d) _ s r2.2 in
    subst (λ (x : RoundPosition). SpellsRoundPosition d x) (ok_is _ s r3.2) (record {
      round = required_row_spelled number ROUND.now d r2.0 r2.1;
      start = (required_row_spelled number START.now d r1.0 r1.1, refl);
      part = (required_row_spelled number PART.now d r3.0 r3.1, refl);
    })

pub round_position_spelled : (d : Data) (s : RoundPosition) → round_position d ≡ Ok s → SpellsRoundPosition d s
unfolding round_position
round_position_spelled d s e = round_position_cases d s (lacks ROUND.now d) refl e

pub delivery_extensions_spelled : (removed : Data → Result Key Refusal) (d : Data) (x : DeliveryExtensions)
    → delivery_extensions removed d ≡ Ok x → SpellsDeliveryExtensions removed d x
unfolding delivery_extensions
delivery_extensions_spelled removed d x e =
    let r1 = bind_ok (round_position d) _ x e in
    let r2 = bind_ok (list (table removed) most_entries REMOVED.now d) _ x r1.2 in
    subst (λ (y : DeliveryExtensions). SpellsDeliveryExtensions removed d y) (ok_is _ x r2.2)
    (record { round_position = round_position_spelled d r1.0 r1.1; removals = r2.1 })

round_position_at : (d : Data) (start round part : Option ℕ) → Spells number ROUND.now d round
    → SpellsBeside round START.now d start → SpellsBeside round PART.now d part
    → round_position d ≡ Ok (record { start = start; round = round; part = part })
unfolding round_position within_round lacks
round_position_at d start None part at_round at_start at_part =
    let no_round : is_text_absent (member_of ROUND.now d) ≡ true = nothing_spelled _ (member_of ROUND.now d) at_round in
    rw (no_round, at_start, at_part) refl
round_position_at d None (Some round) part at_round at_start at_part = absurd (cc at_start.1)
round_position_at d (Some start) (Some round) None at_round at_start at_part = absurd (cc at_part.1)
round_position_at d (Some start) (Some round) (Some part) at_round at_start at_part =
    let a_round : is_text_absent (member_of ROUND.now d) ≡ false = something_spelled _ (member_of ROUND.now d) round at_round in
    rw (
      a_round,
      required_row_ok number START.now d start at_start.0,
      required_row_ok number ROUND.now d round at_round,
      required_row_ok number PART.now d part at_part.0,
    ) refl

pub round_position_read : (d : Data) (s : RoundPosition) → SpellsRoundPosition d s → round_position d ≡ Ok s
round_position_read d s s_ = round_position_at d s.start s.round s.part s_.round s_.start s_.part

pub delivery_extensions_read : (removed : Data → Result Key Refusal) (d : Data) (e : DeliveryExtensions)
    → SpellsDeliveryExtensions removed d e → delivery_extensions removed d ≡ Ok e
unfolding delivery_extensions
delivery_extensions_read removed d e s_ = rw (round_position_read d e.round_position s_.round_position, s_.removals) refl
