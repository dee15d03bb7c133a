-- What is told of a feed: how many of its observations were taken, how many removals were read, and how many
-- observations were refused.
use Rattle.std.specs.Prelude.{ℕ, List, Bool, true, false, not, ◌&&◌, map, filter, count_by}
use Rattle.std.specs.List.{scan}
use Rattle.siri_records.specs.Keyed.{Items}
use Rattle.siri_model.specs.History.{Entry, Observed, Withdrawn, is_refused, after_entry}

abbrev pub is_observation : Entry → Bool
is_observation (Observed item) = true
is_observation (Withdrawn key) = false

-- an observation may be refused, a removal never is
abbrev pub refuses : ℕ → Items → Entry → Bool
refuses now items (Observed item) = is_refused now items item
refuses now items (Withdrawn key) = false

-- the entries of a feed in their order, each with whether it is refused by the items that are current as it comes
abbrev pub met : ℕ → Items → List Entry → List (Entry × Bool)
met now items entries = scan (after_entry now) (λ items entry. (entry, refuses now items entry)) items entries

-- those that aren't refused
abbrev pub taken : ℕ → Items → List Entry → List Entry
taken now items entries = map (λ m. m.0) (filter (λ m. not m.1) (met now items entries))

pub record Counts : Type 0 where
  pub observed : ℕ
  pub withdrawn : ℕ
  pub full : ℕ

-- what is told of these entries, one after the other
abbrev pub counts_of : ℕ → Items → List Entry → Counts
counts_of now items entries = record {
  observed = count_by (λ m. is_observation m.0 && not m.1) (met now items entries);
  withdrawn = count_by (λ m. not (is_observation m.0)) (met now items entries);
  full = count_by (λ m. m.1) (met now items entries);
}
