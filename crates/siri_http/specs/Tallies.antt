-- What is counted. A count that would pass 2^64 - 1 stands there.
use Rattle.std.specs.Prelude.{ℕ, ◌+◌, ◌-◌, ◌^◌, min}
use Rattle.siri_http.specs.declared.tally.Tally.{Tally}

-- a count that rises by so many
abbrev pub risen : ℕ → ℕ → ℕ
risen more count = min (count + more) (2 ^ 64 - 1)

abbrev pub nothing_yet : Tally
nothing_yet = record { served = 0; refused = 0; dropped = 0; unsent = 0 }

abbrev pub with_served : Tally → Tally
with_served tally = record tally { served = risen 1 tally.served }

abbrev pub with_refused : Tally → Tally
with_refused tally = record tally { refused = risen 1 tally.refused }

abbrev pub with_dropped : Tally → Tally
with_dropped tally = record tally { dropped = risen 1 tally.dropped }

abbrev pub with_unsent : ℕ → Tally → Tally
with_unsent messages tally = record tally { unsent = risen messages tally.unsent }
