-- A dead item is in no window at its moment.
use Rattle.std.proofs.Common.{◌≡◌, ℕ, ℤ, pos, ◌≤◌, List, [], ◌∷◌, Bool, true, false, ◌&&◌, ◌||◌, not, Option, None, Some, refl, arith, map}
use Rattle.std.proofs.Common.{fold, is_none, nat_lt, if◌then◌else◌}
use Rattle.std.specs.List.{list_any}
use Rattle.std.specs.Option.{option_map_or}
use Rattle.siri_records.specs.declared.item.Item.{Item}
use Rattle.siri_records.specs.declared.item.Item.TheVariants as item
use Rattle.siri_records.specs.declared.situation.Period.{Period}
use Rattle.siri_records.specs.Ends.{later, greatest, end_of, is_closed}
use Rattle.siri_topic.specs.declared.topics.Topic.{Topic}
use Rattle.siri_topic.specs.Agreement.{agrees}
use Rattle.siri_topic.specs.Shown.{start_of, near_edge, window_of, is_from, is_before, ends_before, is_period_in, is_in, DeadAreNeverShown}

-- there is no such end, or it is before now
abbrev is_below : ℕ → Option ℕ → Bool
is_below now None = true
is_below now (Some end) = nat_lt end now

-- there is such an end, and it is before now
abbrev has_ended : ℕ → Option ℕ → Bool
has_ended now end = option_map_or (λ e. nat_lt e now) end false

ended_is_below : (now : ℕ) (end : Option ℕ) → has_ended now end ≡ true → is_below now end ≡ true
ended_is_below now None h = refl
ended_is_below now (Some e) h = h

after_now : (start : Option ℕ) (now : ℕ) → now ≤ near_edge start now
after_now None now = omega arith
after_now (Some s) now = omega arith

-- what ended before now ended before the near edge
ended_ends_before : (now near : ℕ) (end : Option ℕ) → now ≤ near → has_ended now end ≡ true → ends_before (pos near) end ≡ true
ended_ends_before now near None le h = h
ended_ends_before now near (Some e) le h = grind arith

over_not_from : (now near : ℕ) (end : Option ℕ) → now ≤ near → has_ended now end ≡ true → is_from (pos near) end ≡ false
over_not_from now near None le h = refl
over_not_from now near (Some e) le h = grind arith

below_later : (now : ℕ) (a b : Option ℕ) → is_below now (later a b) ≡ true → (is_below now a ≡ true) × (is_below now b ≡ true)
below_later now None b h = (refl, h)
below_later now (Some a) None h = (h, refl)
below_later now (Some a) (Some b) h = (grind arith, grind arith)

below_fold : (now : ℕ) (first : Option ℕ) (ends : List (Option ℕ)) → is_below now (fold later first ends) ≡ true → is_below now first ≡ true
below_fold now first [] h = h
below_fold now first (e ∷ es) h = (below_later now first e (below_fold now (later first e) es h)).0

-- a period that ended before now doesn't begin before the far edge and last to the near edge
period_is_out : (begins : Bool) (now near : ℕ) (end : Option ℕ) → now ≤ near → is_none end ≡ false → is_below now end ≡ true
    → (begins && not (ends_before (pos near) end)) ≡ false
period_is_out begins now near None le closed below = cc
period_is_out false now near (Some e) le closed below = refl
period_is_out true now near (Some e) le closed below = rw (ended_ends_before now near (Some e) le below) refl

pub none_of_both : (a b : Bool) → (a || b) ≡ false → (a ≡ false) × (b ≡ false)
none_of_both false b h = (refl, h)
none_of_both true b h = cc

neither : (a b : Bool) → a ≡ false → b ≡ false → (a || b) ≡ false
neither false b p q = q
neither true b p q = cc

-- periods that all ended before now are in no window whose near edge isn't before now
periods_are_out : (now near : ℕ) (to : Option ℤ) (first : Option ℕ) (ps : List Period) → now ≤ near
    → list_any (λ p. is_none p.end_time) ps ≡ false → is_below now (fold later first (map (λ p. p.end_time) ps)) ≡ true
    → list_any (λ p. is_period_in (record { from = pos near; to = to }) p) ps ≡ false
periods_are_out now near to first [] le closed below = refl
periods_are_out now near to first (p ∷ ps) le closed below =
    let parts = none_of_both (is_none p.end_time) (list_any (λ p. is_none p.end_time) ps) closed in
    let here = below_fold now (later first p.end_time) (map (λ p. p.end_time) ps) below in
    neither _ _
    (period_is_out (is_before to (Some p.start_time)) now near p.end_time le parts.0 (below_later now first p.end_time here).1)
    (periods_are_out now near to (later first p.end_time) ps le parts.1 below)

closed_and_ended : (now : ℕ) (unbounded : Bool) (end : Option ℕ) → has_ended now (if unbounded then None else end) ≡ true
    → (unbounded ≡ false) × (has_ended now end ≡ true)
closed_and_ended now true end h = cc
closed_and_ended now false end h = (refl, h)

left_false : (a b : Bool) → a ≡ false → (a && b) ≡ false
left_false false b h = refl
left_false true b h = cc

not_in_window : (topic : Topic) (i : Item) (now : ℕ) → has_ended now (end_of i) ≡ true → is_in (window_of topic now) now i ≡ false
not_in_window topic (item.Visit v) now h =
    left_false _ _ (over_not_from now (near_edge (start_of topic) now) (end_of (item.Visit v)) (after_now (start_of topic) now) h)
not_in_window topic (item.Journey j) now h =
    left_false _ _ (over_not_from now (near_edge (start_of topic) now) (end_of (item.Journey j)) (after_now (start_of topic) now) h)
not_in_window topic (item.Vehicle v) now h = rw (ended_ends_before now now v.valid_until_time (omega arith) h) refl
not_in_window topic (item.Situation s) now h =
    let parts = closed_and_ended now (list_any (λ p. is_none p.end_time) s.validity_period) (greatest (map (λ p. p.end_time) s.validity_period)) h in
    periods_are_out now (near_edge (start_of topic) now) (window_of topic now).to None s.validity_period (after_now (start_of topic) now)
    parts.0 (ended_is_below now (greatest (map (λ p. p.end_time) s.validity_period)) parts.1)

shown_false : (agreed closed inside ended : Bool) → (ended ≡ true → inside ≡ false) → (closed || ended) ≡ true
    → (agreed && not closed && inside) ≡ false
shown_false false closed inside ended out dead = refl
shown_false true true inside ended out dead = refl
shown_false true false inside ended out dead = out dead

pub dead_are_never_shown : DeadAreNeverShown
dead_are_never_shown topic i now dead =
    shown_false (agrees topic i) (is_closed i) (is_in (window_of topic now) now i) (has_ended now (end_of i)) (not_in_window topic i now) dead
