-- When each outcome of a mark comes: the table of outcomes, by the four numbers that are kept.
use Rattle.std.specs.Prelude.{◌≡◌, ◌≢◌, ℕ, suc, ◌<◌, ◌⊎◌}
use Rattle.siri_life.specs.Life.{Mark}
use Rattle.siri_life.specs.Link as life

-- after so many whole rounds and so many parts of the next one a place was taken before
abbrev pub IsBefore : (round parts : ℕ) → Mark → Type 0
IsBefore round parts m = (m.round < suc round) ⊎ ((m.round ≡ suc round) × (m.part < suc parts))

-- it is the wanted one
abbrev pub IsAt : (round parts : ℕ) → Mark → Type 0
IsAt round parts m = (m.round ≡ suc round) × (m.part ≡ suc parts)

-- it is past the wanted one
abbrev pub IsPast : (round parts : ℕ) → Mark → Type 0
IsPast round parts m = (suc round < m.round) ⊎ ((m.round ≡ suc round) × (suc parts < m.part))

-- it is past the greatest part or the greatest round
abbrev pub IsTooGreat : Mark → Type 0
IsTooGreat m = (m.part ≡ 401) ⊎ (m.round ≡ 1000000000000000000)

-- it is part 1 of round 1
abbrev pub IsFirst : Mark → Type 0
IsFirst m = (m.round ≡ 1) × (m.part ≡ 1)

-- where a subscription is kept under a number, with a start, so many whole rounds and so many parts of the next, an outcome
-- comes: another number; the number and a smaller start; a greater start and another place than the first, or the kept
-- start and a place past the wanted one; the kept start and a place before the wanted one; the wanted place, which is too
-- great; a greater start and the first place, or the kept start and the wanted one
abbrev pub Comes : (number start round parts : ℕ) → Mark → life.Outcome → Type 0
Comes number start round parts m life.UnknownSubscription = m.number ≢ number
Comes number start round parts m life.OldStart = (m.number ≡ number) × (m.start < start)
Comes number start round parts m life.Gap =
    (m.number ≡ number) × (((start < m.start) × (¬ (IsFirst m))) ⊎ ((m.start ≡ start) × IsPast round parts m))
Comes number start round parts m life.Repeat = (m.number ≡ number) × (m.start ≡ start) × IsBefore round parts m
Comes number start round parts m life.Overlong =
    (m.number ≡ number) × (m.start ≡ start) × IsAt round parts m × IsTooGreat m
Comes number start round parts m life.Wanted =
    (m.number ≡ number) × (((start < m.start) × IsFirst m) ⊎ ((m.start ≡ start) × IsAt round parts m × (¬ (IsTooGreat m))))
