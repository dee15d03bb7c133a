-- Every item is near itself, items that are near differ in nothing but their record times and predicted times, with no
-- slack they are equal but for the former, and slacks add up along a chain: by induction over the tables, of the laws of
-- their rows.
use Rattle.std.proofs.Common.{◌≡◌, ℕ, ◌+◌, ℤ, pos, [], ◌∷◌, true, refl, ap}
use Rattle.std.proofs.lemmas.Bool.{and_parts}
use Rattle.siri_records.specs.declared.item.Item.{Item}
use Rattle.siri_records.specs.declared.item.Item.TheVariants as item
use Rattle.siri_records.specs.declared.journey.Journey.{Journey}
use Rattle.siri_records.specs.declared.situation.Situation.{Situation}
use Rattle.siri_records.specs.declared.vehicle.Vehicle.{Vehicle}
use Rattle.siri_records.specs.declared.visit.Visit.{Visit}
use Rattle.siri_records.specs.Near.{Table, all_pass, call_table, visit_journey_table, visit_table, journey_table, vehicle_journey_table}
use Rattle.siri_records.specs.Near.{vehicle_table, situation_table, is_near_call, is_near_visit_journey, is_near_visit, is_near_journey}
use Rattle.siri_records.specs.Near.{is_near_vehicle_journey, is_near_vehicle, is_near_situation, is_near}
use Rattle.siri_records.specs.Near.{steady_call, steady_visit_journey, steady_visit, steady_journey, steady_vehicle_journey, steady_vehicle, steady}
use Rattle.siri_records.proofs.NearTests.{TestLaws, PassesSteady, number_laws, flag_laws, text_laws, location_laws, period_laws}
use Rattle.siri_records.proofs.NearTests.{optional_laws, optional_passes_steady, each_laws, each_passes_steady, close_laws, close_moments_laws}

-- ---- tables

abbrev AllLaws : {S : Type 0} → Table S → Type 0
AllLaws [] = Unit {0}
AllLaws (r ∷ t) = TestLaws r.test × AllLaws t

-- the two values of each row are equal
abbrev AllEqual : {S : Type 0} → Table S → S → S → Type 0
AllEqual [] a b = Unit {0}
AllEqual (r ∷ t) a b = (r.of a ≡ r.of b) × AllEqual t a b

-- where the two values of a row pass, what is steady of them passes with no slack
abbrev AllPassSteady : {S : Type 0} → Table S → (S → S) → Type 0
AllPassSteady [] rest = Unit {0}
AllPassSteady {S} (r ∷ t) rest =
    ((slack : ℤ) (a b : S) → r.test slack (r.of a) (r.of b) ≡ true → r.test (pos 0) (r.of (rest a)) (r.of (rest b)) ≡ true)
    × AllPassSteady t rest

all_itself : {S : Type 0} (t : Table S) → AllLaws t → (slack : ℤ) (a : S) → all_pass t slack a a ≡ true
all_itself [] laws slack a = refl
all_itself (r ∷ t) laws slack a = rw (laws.0.itself slack (r.of a)) (all_itself t laws.1 slack a)

all_equal : {S : Type 0} (t : Table S) → AllLaws t → (a b : S) → all_pass t (pos 0) a b ≡ true → AllEqual t a b
all_equal [] laws a b e = tt
all_equal (r ∷ t) laws a b e =
    let parts = and_parts (r.test (pos 0) (r.of a) (r.of b)) (all_pass t (pos 0) a b) e in
    (laws.0.exact (r.of a) (r.of b) parts.0, all_equal t laws.1 a b parts.1)

all_join : {S : Type 0} (t : Table S) → AllLaws t → (p q : ℕ) (a b c : S)
    → all_pass t (pos p) a b ≡ true → all_pass t (pos q) b c ≡ true → all_pass t (pos (p + q)) a c ≡ true
all_join [] laws p q a b c h k = refl
all_join (r ∷ t) laws p q a b c h k =
    let first = and_parts (r.test (pos p) (r.of a) (r.of b)) (all_pass t (pos p) a b) h in
    let second = and_parts (r.test (pos q) (r.of b) (r.of c)) (all_pass t (pos q) b c) k in
    rw (laws.0.joins p q (r.of a) (r.of b) (r.of c) first.0 second.0) (all_join t laws.1 p q a b c first.1 second.1)

all_pass_steady : {S : Type 0} (t : Table S) (rest : S → S) → AllPassSteady t rest → PassesSteady (all_pass t) rest
all_pass_steady [] rest passes slack a b e = refl
all_pass_steady (r ∷ t) rest passes slack a b e =
    let parts = and_parts (r.test slack (r.of a) (r.of b)) (all_pass t slack a b) e in
    rw (passes.0 slack a b parts.0) (all_pass_steady t rest passes.1 slack a b parts.1)

-- a table that has each field of S
table_laws : {S : Type 0} (t : Table S) → AllLaws t → ((a b : S) → AllEqual t a b → a ≡ b) → TestLaws (all_pass t)
table_laws t laws whole = record {
  itself = all_itself t laws;
  exact = λ a b e. whole a b (all_equal t laws a b e);
  joins = all_join t laws;
}

-- ---- calls

-- (a record with one of its fields put in again is shown field by field, so that `cc` finds it equal where each of them
-- is)
call_laws : TestLaws is_near_call
unfolding is_near_call
call_laws = table_laws call_table
    (search (optional_laws, number_laws, flag_laws, text_laws, close_moments_laws))
    (λ a b h. let whole : record a { order = a.order } ≡ record b { order = b.order } = cc in whole)

call_passes_steady : PassesSteady is_near_call steady_call
unfolding is_near_call
call_passes_steady = all_pass_steady call_table steady_call search

-- ---- journeys

visit_journey_laws : TestLaws is_near_visit_journey
unfolding is_near_visit_journey
visit_journey_laws = table_laws visit_journey_table
    (search (optional_laws, flag_laws, text_laws, location_laws, close_laws, call_laws))
    (λ a b h. let whole : record a { delay = a.delay } ≡ record b { delay = b.delay } = cc in whole)

visit_journey_passes_steady : PassesSteady is_near_visit_journey steady_visit_journey
unfolding is_near_visit_journey
visit_journey_passes_steady = all_pass_steady visit_journey_table steady_visit_journey (search call_passes_steady)

vehicle_journey_laws : TestLaws is_near_vehicle_journey
unfolding is_near_vehicle_journey
vehicle_journey_laws = table_laws vehicle_journey_table
    (search (optional_laws, flag_laws, text_laws, location_laws, close_laws, call_laws))
    (λ a b h. let whole : record a { delay = a.delay } ≡ record b { delay = b.delay } = cc in whole)

vehicle_journey_passes_steady : PassesSteady is_near_vehicle_journey steady_vehicle_journey
unfolding is_near_vehicle_journey
vehicle_journey_passes_steady = all_pass_steady vehicle_journey_table steady_vehicle_journey
    (search (optional_passes_steady, call_passes_steady))

-- ---- items, each but for the time when it was recorded

visit_rows : AllLaws visit_table
visit_rows = search (text_laws, visit_journey_laws)

pub visit_equal : (a b : Visit) → a.recorded_at_time ≡ b.recorded_at_time → is_near_visit (pos 0) a b ≡ true → a ≡ b
unfolding is_near_visit
visit_equal a b r e =
    let h = all_equal visit_table visit_rows a b e in
    let whole : record a { recorded_at_time = a.recorded_at_time } ≡
    record b { recorded_at_time = b.recorded_at_time } = cc in
    whole

visit_passes_steady : PassesSteady is_near_visit steady_visit
unfolding is_near_visit
visit_passes_steady = all_pass_steady visit_table steady_visit (search visit_journey_passes_steady)

journey_rows : AllLaws journey_table
journey_rows = search (optional_laws, each_laws, flag_laws, text_laws, close_laws, call_laws)

pub journey_equal : (a b : Journey) → a.recorded_at_time ≡ b.recorded_at_time → is_near_journey (pos 0) a b ≡ true → a ≡ b
unfolding is_near_journey
journey_equal a b r e =
    let h = all_equal journey_table journey_rows a b e in
    let whole : record a { recorded_at_time = a.recorded_at_time } ≡
    record b { recorded_at_time = b.recorded_at_time } = cc in
    whole

journey_passes_steady : PassesSteady is_near_journey steady_journey
unfolding is_near_journey
journey_passes_steady = all_pass_steady journey_table steady_journey (search (each_passes_steady, call_passes_steady))

vehicle_rows : AllLaws vehicle_table
vehicle_rows = search (optional_laws, number_laws, text_laws, vehicle_journey_laws)

pub vehicle_equal : (a b : Vehicle) → a.recorded_at_time ≡ b.recorded_at_time → is_near_vehicle (pos 0) a b ≡ true → a ≡ b
unfolding is_near_vehicle
vehicle_equal a b r e =
    let h = all_equal vehicle_table vehicle_rows a b e in
    let whole : record a { recorded_at_time = a.recorded_at_time } ≡
    record b { recorded_at_time = b.recorded_at_time } = cc in
    whole

vehicle_passes_steady : PassesSteady is_near_vehicle steady_vehicle
unfolding is_near_vehicle
vehicle_passes_steady = all_pass_steady vehicle_table steady_vehicle (search vehicle_journey_passes_steady)

situation_laws : TestLaws (all_pass situation_table)
situation_laws = table_laws situation_table
    (search (optional_laws, each_laws, number_laws, text_laws, period_laws))
    (λ a b h. let whole : record a { version = a.version } ≡ record b { version = b.version } = cc in whole)

pub situation_equal : (a b : Situation) → is_near_situation a b ≡ true → a ≡ b
unfolding is_near_situation
situation_equal = situation_laws.exact

-- ---- items

pub near_itself : (slack : ℤ) (a : Item) → is_near slack a a ≡ true
unfolding is_near_visit is_near_journey is_near_vehicle is_near_situation
near_itself slack (item.Visit a) = all_itself visit_table visit_rows slack a
near_itself slack (item.Journey a) = all_itself journey_table journey_rows slack a
near_itself slack (item.Vehicle a) = all_itself vehicle_table vehicle_rows slack a
near_itself slack (item.Situation a) = situation_laws.itself (pos 0) a

-- items that are near agree in what is steady
pub near_agrees : (slack : ℤ) (a b : Item) → is_near slack a b ≡ true → steady a ≡ steady b
near_agrees slack (item.Visit a) (item.Visit b) e = ap item.Visit
    (visit_equal (steady_visit a) (steady_visit b) refl (visit_passes_steady slack a b e))
near_agrees slack (item.Journey a) (item.Journey b) e = ap item.Journey
    (journey_equal (steady_journey a) (steady_journey b) refl (journey_passes_steady slack a b e))
near_agrees slack (item.Vehicle a) (item.Vehicle b) e = ap item.Vehicle
    (vehicle_equal (steady_vehicle a) (steady_vehicle b) refl (vehicle_passes_steady slack a b e))
near_agrees slack (item.Situation a) (item.Situation b) e = ap item.Situation (situation_equal a b e)
near_agrees slack a b e = cc

-- slacks add up along a chain
pub near_joins : (p q : ℕ) (a b c : Item)
    → is_near (pos p) a b ≡ true → is_near (pos q) b c ≡ true → is_near (pos (p + q)) a c ≡ true
unfolding is_near_visit is_near_journey is_near_vehicle is_near_situation
near_joins p q (item.Visit a) (item.Visit b) (item.Visit c) h k = all_join visit_table visit_rows p q a b c h k
near_joins p q (item.Journey a) (item.Journey b) (item.Journey c) h k = all_join journey_table journey_rows p q a b c h k
near_joins p q (item.Vehicle a) (item.Vehicle b) (item.Vehicle c) h k = all_join vehicle_table vehicle_rows p q a b c h k
near_joins p q (item.Situation a) (item.Situation b) (item.Situation c) h k = situation_laws.joins 0 0 a b c h k
near_joins p q a b c h k = cc
