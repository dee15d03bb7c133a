-- When items begin, end and are over.
use Rattle.std.specs.Prelude.{ℕ, List, [], ◌∷◌, ◌++◌, map, fold, min, max, Bool, false, ◌||◌, nat_lt, nat_eq, is_none, if◌then◌else◌, Option, Some, None, codes}
use Rattle.std.specs.Option.{option_or, option_map_or}
use Rattle.std.specs.List.{list_any}
use Rattle.std.specs.Cmp.Lexicographic.{pointwise}
use Rattle.siri_records.specs.declared.call.StopCall.{StopCall}
use Rattle.siri_records.specs.declared.item.Item.{Item}
use Rattle.siri_records.specs.declared.item.Item.TheVariants.{Visit, Journey, Vehicle, Situation}
use Rattle.siri_records.specs.declared.situation.Period.{Period}

-- the first of these times that is there
abbrev pub first_present : List (Option ℕ) → Option ℕ
first_present times = fold option_or None times

-- the moment of a call: departures before arrivals, of each the actual time before the expected before the aimed one
unfoldable pub call_moment : StopCall → Option ℕ
call_moment c = first_present (
    c.actual_departure_time ∷ c.expected_departure_time ∷ c.aimed_departure_time ∷
    c.actual_arrival_time ∷ c.expected_arrival_time ∷ c.aimed_arrival_time ∷ [])

-- the earlier of two moments, where an absent one gives way
abbrev pub earlier : Option ℕ → Option ℕ → Option ℕ
earlier None b = b
earlier (Some a) None = Some a
earlier (Some a) (Some b) = Some (min a b)

-- the later of two moments, where an absent one gives way
abbrev pub later : Option ℕ → Option ℕ → Option ℕ
later None b = b
later (Some a) None = Some a
later (Some a) (Some b) = Some (max a b)

-- the least of the moments that are there
abbrev pub least : List (Option ℕ) → Option ℕ
least moments = fold earlier None moments

-- the greatest of the moments that are there
abbrev pub greatest : List (Option ℕ) → Option ℕ
greatest moments = fold later None moments

-- the greatest end of the periods, none where one of them is open
abbrev pub last_end : List Period → Option ℕ
last_end periods = if list_any (λ p. is_none p.end_time) periods then None else greatest (map (λ p. p.end_time) periods)

-- the entry of an item: of a visit its call moment, of a journey the least moment of its calls, of a situation the
-- least start of its periods; a vehicle has none
abbrev pub entry_of : Item → Option ℕ
entry_of (Visit v) = call_moment v.monitored_vehicle_journey.monitored_call
entry_of (Journey j) = least (map call_moment (j.recorded_calls ++ j.estimated_calls))
entry_of (Vehicle v) = None
entry_of (Situation s) = least (map (λ p. Some p.start_time) s.validity_period)

-- the end of an item: of a visit its call moment, of a journey the greatest moment of its calls, of a vehicle the time
-- until which it is valid, of a situation the greatest end of its periods, none where one of them is open
abbrev pub end_of : Item → Option ℕ
end_of (Visit v) = call_moment v.monitored_vehicle_journey.monitored_call
end_of (Journey j) = greatest (map call_moment (j.recorded_calls ++ j.estimated_calls))
end_of (Vehicle v) = v.valid_until_time
end_of (Situation s) = last_end s.validity_period

-- where an item is closed: a situation whose progress is `closed` (CEN/TS 15531-5)
abbrev pub is_closed : Item → Bool
is_closed (Visit v) = false
is_closed (Journey j) = false
is_closed (Vehicle v) = false
is_closed (Situation s) = option_map_or (λ progress. pointwise nat_eq progress (codes "closed")) s.progress false

-- where an item is dead: it is closed, or its end is before now
abbrev pub is_dead : Item → ℕ → Bool
is_dead i now = is_closed i || option_map_or (λ end. nat_lt end now) (end_of i) false
