-- What the part of a store holds that lends its items.
-- Inner words: cited by private functions and an invariant alone.
use Rattle.std.specs.Prelude.{ℕ}
use Rattle.siri_records.specs.Keyed.{Items}

-- the current items in order of key, and the steps that were counted
pub record CountedEntries : Type 0 where
  pub entries : Items
  pub reads : ℕ
