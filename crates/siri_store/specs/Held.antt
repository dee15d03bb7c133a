-- What a store holds.
use Rattle.std.specs.Prelude.{ℕ, ◌+◌, ◌-◌, ◌^◌, min, max}
use Rattle.siri_records.specs.Keyed.{Items}

-- the current items in order of key, the moment, and the steps that were counted
pub record Held : Type 0 where
  pub entries : Items
  pub moment : ℕ
  pub reads : ℕ

-- the counter after some more steps: it never falls, and stays where it can rise no more
abbrev pub counted : ℕ → ℕ → ℕ
counted reads steps = max reads (min (reads + steps) (2 ^ 64 - 1))
