-- Inner words: cited by private functions alone.
-- What answers are made of.
use Rattle.std.specs.Prelude.{◌≡◌, ℕ, List, map, filter, count_by, nat_lt, Option}
use Rattle.std.specs.declared.cmp.Ordering.{Ordering}
use Rattle.std.specs.List.{enumerate_from}
use Rattle.std.specs.Map.{values_of}
use Rattle.std.specs.Option.{option_cmp}
use Rattle.std.specs.Ordering.{nat_cmp, on, then_cmp, is_lt, is_le}
use Rattle.siri_records.specs.declared.item.Item.{Item}
use Rattle.siri_records.specs.Ends.{entry_of}

-- ---- by call moment and then by place

abbrev pub Rank : Type 0
Rank = Option ℕ × ℕ

abbrev pub rank_cmp : Rank → Rank → Ordering
rank_cmp = then_cmp (on (λ rank. rank.0) (option_cmp nat_cmp)) (on (λ rank. rank.1) nat_cmp)

-- the rank of an item at a place
abbrev pub rank_of : ℕ × Item → Rank
rank_of placed = (entry_of placed.1, placed.0)

abbrev pub ranks_of : List Item → List Rank
ranks_of items = map rank_of (enumerate_from 0 items)

-- how many of some ranks come before one
abbrev pub before : List Rank → Rank → ℕ
before ranks rank = count_by (λ other. is_lt (rank_cmp other rank)) ranks

-- the last of the first so many: up to it are exactly those before which fewer stand
abbrev pub IsLastOf : ℕ → List Rank → Rank → Type 0
IsLastOf most ranks last = (rank : Rank) → nat_lt (before ranks rank) most ≡ is_le (rank_cmp rank last)

-- the items up to a rank, where the first has this place
abbrev pub up_to_from : ℕ → Rank → List Item → List Item
up_to_from place last items = values_of (filter (λ placed. is_le (rank_cmp (rank_of placed) last)) (enumerate_from place items))

-- the items up to a rank
abbrev pub up_to : Rank → List Item → List Item
up_to last items = up_to_from 0 last items
