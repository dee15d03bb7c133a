-- Inner words: cited by private functions alone. Where a consumer stands.
use Rattle.std.specs.Prelude.{◌≡◌, ℕ, zero, suc, List, [], ◌∷◌, true, false, Option, Some, None}
use Rattle.siri_life.specs.Named.{Name}
use Rattle.siri_view.specs.Consuming.{Consuming}
use Rattle.siri_world_model.specs.Consumers.{consumer_of, is_named}

-- the first consumer of a name stands at a place
abbrev pub IsAt : Name → List Consuming → ℕ → Consuming → Type 0
IsAt name [] place consumer = ⊥
IsAt name (other ∷ consumers) zero consumer = (is_named name other ≡ true) × (other ≡ consumer)
IsAt name (other ∷ consumers) (suc place) consumer = (is_named name other ≡ false) × IsAt name consumers place consumer

-- this is its place, or there is no consumer of the name
abbrev pub IsPlaceOf : Name → List Consuming → Option ℕ → Type 0
IsPlaceOf name consumers None = consumer_of name consumers ≡ None
IsPlaceOf name consumers (Some place) = (consumer : Consuming) × IsAt name consumers place consumer
