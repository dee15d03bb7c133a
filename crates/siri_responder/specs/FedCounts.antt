-- What is told of a feed, in numbers of 64 bits.
use Rattle.std.specs.Prelude.{ℕ, ◌-◌, ◌^◌, min}
use Rattle.siri_model.specs.Fed.{Counts}
use Rattle.siri_responder.specs.declared.feeding.Fed.{Fed}

-- a count that would pass the greatest number stands there
abbrev pub at_most_greatest : ℕ → ℕ
at_most_greatest count = min count (2 ^ 64 - 1)

abbrev pub fed_counts : Counts → Fed
fed_counts counts = record {
  observed = at_most_greatest counts.observed;
  withdrawn = at_most_greatest counts.withdrawn;
  full = at_most_greatest counts.full;
}
