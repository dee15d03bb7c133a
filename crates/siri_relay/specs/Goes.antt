-- How a relay's producer goes on.
use Rattle.std.specs.Prelude.{◌≡◌, ℕ, ◌⊎◌, List, [], ◌∷◌, ◌++◌, take}
use Rattle.siri_model.specs.History.{History, Step, Feed}
use Rattle.siri_producer.specs.Known.{Known, StandsFor, Follows}

-- whatever history a producer stood for before a call, it stands for that history and these steps after it, and so it follows
-- that one where it followed it before; its name stays
pub record GoesBy (old new : Known) (steps : List Step) : Type 0 where
  pub stands : (h : History) → StandsFor old h → StandsFor new (h ++ steps)
  pub follows : (h : History) → Follows old h → Follows new (h ++ steps)
  pub name : new.responder.name ≡ old.responder.name

-- a feed of the first entries of another
abbrev pub IsCut : (some all : Step) → Type 0
IsCut (Feed taken) (Feed entries) = (n : ℕ) × (taken ≡ take n entries)
IsCut some all = ⊥

-- some steps are a front of others: the first ones, and the last of them maybe a feed that was cut
abbrev pub IsFront : (some all : List Step) → Type 0
IsFront [] all = Unit {0}
IsFront (s ∷ some) [] = ⊥
IsFront (s ∷ some) (step ∷ steps) = ((s ≡ step) × IsFront some steps) ⊎ ((some ≡ []) × IsCut s step)

-- memory was wanting on the way: the producer goes by a front of the steps
abbrev pub GoesSome : (old new : Known) → List Step → Type 0
GoesSome old new steps = (some : List Step) × IsFront some steps × GoesBy old new some
