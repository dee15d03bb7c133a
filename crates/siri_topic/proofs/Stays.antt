-- An item that isn't dead, and of which no end of a window passed an edge, stays as it was shown.
use Rattle.std.proofs.Common.{◌≡◌, ℕ, ℤ, pos, ◌≤◌, List, [], ◌∷◌, ◌++◌, Bool, false, ◌&&◌, ◌||◌, not, Option}
use Rattle.std.proofs.Common.{None, Some, refl, ap, sym, ◌∙◌, arith, flat_map, nat_lt}
use Rattle.std.specs.Prelude.{◌+ℤ◌, int_lt, option_map}
use Rattle.std.specs.List.{list_any}
use Rattle.std.specs.Option.{option_map_or}
use Rattle.siri_records.specs.declared.item.Item.{Item}
use Rattle.siri_records.specs.declared.item.Item.TheVariants as item
use Rattle.siri_records.specs.declared.situation.Period.{Period}
use Rattle.siri_records.specs.Ends.{entry_of, end_of, is_closed, is_dead}
use Rattle.siri_topic.specs.declared.topics.Topic.{Topic}
use Rattle.siri_topic.specs.declared.topics.Topic.TheVariants as topic
use Rattle.siri_topic.specs.Agreement.{agrees}
use Rattle.siri_topic.specs.Shown.{near_edge, window_of, is_from, is_before, ends_before, is_period_in, is_in}
use Rattle.siri_records.specs.Edges.{listed, edges_in, edges_of, is_within}
use Rattle.siri_topic.proofs.Dead.{none_of_both}
use Rattle.siri_topic.specs.Crossed.{near_end_passed, far_end_between, far_end_passed, StaysShown}

near_rises : (start : Option ℕ) (before now : ℕ) → before ≤ now → near_edge start before ≤ near_edge start now
near_rises None before now le = le
near_rises (Some s) before now le = omega (arith, le)

-- ---- the edges of a part of a list

any_left : (test : ℕ → Bool) (xs ys : List ℕ) → list_any test (xs ++ ys) ≡ false → list_any test xs ≡ false
any_left test [] ys h = refl
any_left test (x ∷ xs) ys h =
    let parts = none_of_both (test x) (list_any test (xs ++ ys)) h in
    rw (parts.0) (any_left test xs ys parts.1)

any_right : (test : ℕ → Bool) (xs ys : List ℕ) → list_any test (xs ++ ys) ≡ false → list_any test ys ≡ false
any_right test [] ys h = h
any_right test (x ∷ xs) ys h = any_right test xs ys (none_of_both (test x) (list_any test (xs ++ ys)) h).1

-- ---- the near end: an item that isn't dead ends at or after it, where it is now

-- no end, or one that isn't before now
alive_from : (near before now : ℕ) (end : Option ℕ) → before ≤ now → option_map_or (λ e. nat_lt e now) end false ≡ false
    → is_from (pos now) end ≡ is_from (pos before) end
alive_from near before now None le alive = refl
alive_from near before now (Some e) le alive = grind arith

alive_before : (before now : ℕ) (end : Option ℕ) → before ≤ now → option_map_or (λ e. nat_lt e now) end false ≡ false
    → ends_before (pos now) end ≡ ends_before (pos before) end
alive_before before now None le alive = refl
alive_before before now (Some e) le alive = grind arith

-- of a topic with a StartTime the near end is that or now
start_from : (s before now e : ℕ) → before ≤ now → nat_lt e now ≡ false
    → is_from (pos (near_edge (Some s) now)) (Some e) ≡ is_from (pos (near_edge (Some s) before)) (Some e)
start_from s before now e le alive = grind arith

near_from : (start : Option ℕ) (before now : ℕ) (end : Option ℕ) → before ≤ now
    → option_map_or (λ e. nat_lt e now) end false ≡ false
    → is_from (pos (near_edge start now)) end ≡ is_from (pos (near_edge start before)) end
near_from start before now None le alive = refl
near_from None before now (Some e) le alive = alive_from now before now (Some e) le alive
near_from (Some s) before now (Some e) le alive = start_from s before now e le alive

-- an end that the near end didn't pass
ends_stay : (a b : ℕ) (end : Option ℕ) → a ≤ b → list_any (is_within (pos a) (pos b)) (listed end) ≡ false
    → ends_before (pos b) end ≡ ends_before (pos a) end
ends_stay a b None le h = refl
ends_stay a b (Some e) le h =
    let out = (none_of_both (is_within (pos a) (pos b) e) false h).0 in
    grind arith

-- ---- the far end

-- the far end of a window for a preview, by the near one
abbrev far : Option ℤ → ℕ → Option ℤ
far preview near = option_map (λ p. pos near +ℤ p) preview

-- it passed none of these moments
abbrev far_passes : Option ℤ → ℕ → ℕ → List ℕ → Bool
far_passes None a b moments = false
far_passes (Some p) a b moments = list_any (is_within (pos a +ℤ p) (pos b +ℤ p)) moments

before_stays : (p : ℤ) (a b m : ℕ) → a ≤ b → is_within (pos a +ℤ p) (pos b +ℤ p) m ≡ false
    → int_lt (pos m) (pos b +ℤ p) ≡ int_lt (pos m) (pos a +ℤ p)
before_stays p a b m le out = grind arith

far_stays : (preview : Option ℤ) (a b m : ℕ) → a ≤ b → far_passes preview a b (m ∷ []) ≡ false
    → is_before (far preview b) (Some m) ≡ is_before (far preview a) (Some m)
far_stays None a b m le h = refl
far_stays (Some p) a b m le h = before_stays p a b m le (none_of_both (is_within (pos a +ℤ p) (pos b +ℤ p) m) false h).0

entry_stays : (preview : Option ℤ) (a b : ℕ) (entry : Option ℕ) → a ≤ b → far_passes preview a b (listed entry) ≡ false
    → is_before (far preview b) entry ≡ is_before (far preview a) entry
entry_stays preview a b None le h = refl
entry_stays preview a b (Some m) le h = far_stays preview a b m le h

-- ---- periods

far_first : (preview : Option ℤ) (a b m : ℕ) (ms : List ℕ) → far_passes preview a b (m ∷ ms) ≡ false
    → far_passes preview a b (m ∷ []) ≡ false
far_first None a b m ms h = refl
far_first (Some p) a b m ms h = any_left (is_within (pos a +ℤ p) (pos b +ℤ p)) (m ∷ []) ms h

far_rest : (preview : Option ℤ) (a b : ℕ) (xs ys : List ℕ) → far_passes preview a b (xs ++ ys) ≡ false
    → far_passes preview a b ys ≡ false
far_rest None a b xs ys h = refl
far_rest (Some p) a b xs ys h = any_right (is_within (pos a +ℤ p) (pos b +ℤ p)) xs ys h

abbrev in_window : Option ℤ → ℕ → Period → Bool
in_window preview near p = is_period_in (record { from = pos near; to = far preview near }) p

period_stays : (preview : Option ℤ) (a b : ℕ) (p : Period) (ms : List ℕ) → a ≤ b
    → list_any (is_within (pos a) (pos b)) (edges_in p ++ ms) ≡ false
    → far_passes preview a b (edges_in p ++ ms) ≡ false → in_window preview b p ≡ in_window preview a p
period_stays preview a b p ms le near_out far_out =
    let passed = is_within (pos a) (pos b) in
    let ends = any_left passed (listed p.end_time) ms
    (none_of_both (passed p.start_time) (list_any passed (listed p.end_time ++ ms)) near_out).1 in
    let begins = far_first preview a b p.start_time (listed p.end_time ++ ms) far_out in
    λ i. far_stays preview a b p.start_time le begins i && not (ends_stay a b p.end_time le ends i)

periods_stay : (preview : Option ℤ) (a b : ℕ) (ps : List Period) → a ≤ b
    → list_any (is_within (pos a) (pos b)) (flat_map edges_in ps) ≡ false
    → far_passes preview a b (flat_map edges_in ps) ≡ false → list_any (in_window preview b) ps ≡ list_any (in_window preview a) ps
periods_stay preview a b [] le near_out far_out = refl
periods_stay preview a b (p ∷ ps) le near_out far_out =
    let here = period_stays preview a b p (flat_map edges_in ps) le near_out far_out in
    let rest = periods_stay preview a b ps le (any_right (is_within (pos a) (pos b)) (edges_in p) (flat_map edges_in ps) near_out)
    (far_rest preview a b (edges_in p) (flat_map edges_in ps) far_out) in
    λ i. here i || rest i

-- ---- items

-- what isn't dead isn't closed, and hasn't ended
not_ended : (i : Item) (now : ℕ) → is_dead i now ≡ false → option_map_or (λ e. nat_lt e now) (end_of i) false ≡ false
not_ended i now alive = (none_of_both (is_closed i) (option_map_or (λ e. nat_lt e now) (end_of i) false) alive).1

-- where the window's test is the same, so is the whole one
shown_as : (t : Topic) (i : Item) (before now : ℕ) → is_in (window_of t now) now i ≡ is_in (window_of t before) before i
    → (agrees t i && not (is_closed i) && is_in (window_of t now) now i) ≡ (agrees t i && not (is_closed i) && is_in (window_of t before) before i)
shown_as t i before now same = ap (λ inside. agrees t i && not (is_closed i) && inside) same

-- the hypothesis on the far end, by the preview
passes_by : (preview : Option ℤ) (a b : ℕ) (i : Item) (moments : List ℕ) → edges_of i ≡ moments
    → far_end_between (far preview a) (far preview b) i ≡ false → far_passes preview a b moments ≡ false
passes_by None a b i moments is h = refl
passes_by (Some p) a b i moments is h = ap (list_any (is_within (pos a +ℤ p) (pos b +ℤ p))) (sym is) ∙ h

pub stays_shown : StaysShown
stays_shown (topic.Stop t) (item.Visit v) before now le alive out =
    let i = item.Visit v in
    let a = near_edge t.start_time before in
    let b = near_edge t.start_time now in
    let up = near_rises t.start_time before now le in
    let ends = near_from t.start_time before now (end_of i) le (not_ended i now alive) in
    let begins = entry_stays t.preview_interval a b (entry_of i) up (passes_by t.preview_interval a b i (listed (entry_of i)) refl out) in
    shown_as (topic.Stop t) i before now (λ j. ends j && begins j)
stays_shown (topic.Timetable t) (item.Journey j) before now le alive out =
    let i = item.Journey j in
    let ends = alive_from now before now (end_of i) le (not_ended i now alive) in
    let begins = entry_stays t.preview_interval before now (entry_of i) le (passes_by t.preview_interval before now i (listed (entry_of i)) refl out) in
    shown_as (topic.Timetable t) i before now (λ k. ends k && begins k)
stays_shown (topic.Vehicle t) (item.Vehicle v) before now le alive out =
    let i = item.Vehicle v in
    shown_as (topic.Vehicle t) i before now (ap not (alive_before before now (end_of i) le (not_ended i now alive)))
stays_shown (topic.Situation t) (item.Situation s) before now le alive out =
    let i = item.Situation s in
    let a = near_edge t.start_time before in
    let b = near_edge t.start_time now in
    let up = near_rises t.start_time before now le in
    let parts = none_of_both (near_end_passed (topic.Situation t) before now i) (far_end_passed (topic.Situation t) before now i) out in
    shown_as (topic.Situation t) i before now
    (periods_stay t.preview_interval a b s.validity_period up parts.0 (passes_by t.preview_interval a b i (flat_map edges_in s.validity_period) refl parts.1))
stays_shown (topic.Stop t) (item.Journey j) before now le alive out = refl
stays_shown (topic.Stop t) (item.Vehicle v) before now le alive out = refl
stays_shown (topic.Stop t) (item.Situation s) before now le alive out = refl
stays_shown (topic.Timetable t) (item.Visit v) before now le alive out = refl
stays_shown (topic.Timetable t) (item.Vehicle v) before now le alive out = refl
stays_shown (topic.Timetable t) (item.Situation s) before now le alive out = refl
stays_shown (topic.Vehicle t) (item.Visit v) before now le alive out = refl
stays_shown (topic.Vehicle t) (item.Journey j) before now le alive out = refl
stays_shown (topic.Vehicle t) (item.Situation s) before now le alive out = refl
stays_shown (topic.Situation t) (item.Visit v) before now le alive out = refl
stays_shown (topic.Situation t) (item.Journey j) before now le alive out = refl
stays_shown (topic.Situation t) (item.Vehicle v) before now le alive out = refl
