-- What a world is: of each start of the producer its history, all packets, and the consumers.
use Rattle.std.specs.Prelude.{ℕ, zero, suc, List, [], ◌∷◌, ◌++◌, None, slice_get, unwrap_or}
use Rattle.std.specs.List.{last_or}
use Rattle.siri_model.specs.History.{History}
use Rattle.siri_view.specs.Consuming.{Consuming}
use Rattle.siri_world_model.specs.Packets.{SentPacket}

-- the greatest moment that was given, the history of each start, the packets that were sent, the consumers
pub record World : Type 0 where
  pub moment : ℕ
  pub starts : List History  -- of the first start first; a producer's start number is its place, which counts from 1
  pub packets : List SentPacket  -- in the order sent; they are kept for good
  pub consumers : List Consuming  -- in order of first use

-- before its first event
abbrev pub nothing : World
nothing = record { moment = 0; starts = []; packets = []; consumers = [] }

-- the history of the latest start, and nothing before the first
abbrev pub latest : World → History
latest world = unwrap_or (last_or None world.starts) []

-- the history of a start, by its number
abbrev pub start_at : ℕ → World → History
start_at zero world = []
start_at (suc before) world = unwrap_or (slice_get world.starts before) []

-- a history goes on by these steps
abbrev pub last_goes_on : History → List History → List History
last_goes_on steps [] = []
last_goes_on steps (history ∷ []) = (history ++ steps) ∷ []
last_goes_on steps (history ∷ next ∷ more) = history ∷ last_goes_on steps (next ∷ more)

-- the latest start goes on by these steps
abbrev pub goes_on : World → History → World
goes_on world steps = record world { starts = last_goes_on steps world.starts }
