-- Small runs of the two ends of a subscription, step by step. A view is a number: how many entries were fed. A round carries it in two
-- parts.
use Rattle.std.specs.Prelude.{ℕ, ◌==◌, ◌&&◌, Bool, false, cond, List, [], ◌∷◌, length, Option, Some, None}
use Rattle.siri_life.specs.Life.{Life, is_quiet}
use Rattle.siri_life.specs.Link.{Holding, Link, first_link}
use Rattle.siri_life.specs.laws.Schedules.{counts}
use Rattle.siri_laws.specs.two_ends.Acts.{LinkAct, Asks, Feeds, Hears, Settles, Takes, acts_after}

abbrev pub quiet_at : Link ℕ ℕ ℕ ℕ → ℕ → Option (Life ℕ ℕ ℕ) → Bool
quiet_at w number None = false
quiet_at w number (Some l) = l.number == number && is_quiet counts l w.known

-- the number, start and round held, the parts buffered, the view, whether the producer is quiet, and how many packets were sent
abbrev pub line_of : Link ℕ ℕ ℕ ℕ → Option (Holding ℕ ℕ ℕ) → List ℕ
line_of w None = []
line_of w (Some h) =
    h.number ∷ h.start ∷ h.round ∷ length h.parts ∷ h.view ∷ cond (quiet_at w h.number w.life) 1 0 ∷ length w.packets ∷ []

abbrev pub line : List (LinkAct ℕ ℕ) → List ℕ
line acts = let w = acts_after counts acts (first_link counts 0) in line_of w w.held

-- one entry is fed, the consumer asks, and the first round is taken: the request, part 1, its acknowledgement, part 2, its
-- acknowledgement
abbrev pub first_round : List (LinkAct ℕ ℕ)
first_round =
    Feeds (7 ∷ []) ∷ Asks 0 ∷ Hears 0 false ∷ Settles ∷ Takes 1 ∷ Hears 2 false ∷ Settles ∷ Takes 3 ∷ Hears 4 false ∷ Settles ∷ []
