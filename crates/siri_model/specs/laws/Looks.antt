-- What follows of followed rows.
use Rattle.std.specs.Prelude.{◌≡◌, [], ◌∷◌, ◌++◌, map}
use Rattle.siri_model.specs.History.{History, Step, state_of}
use Rattle.siri_model.specs.Lives.{table_of}
use Rattle.siri_model.specs.Rows.{rows_of}
use Rattle.siri_model.specs.Followed.{life_row, followed_after, followed_of}

-- the followed rows of a history are the rows of its table, each with its last look beside
abbrev pub AreTheRows : Type 0
AreTheRows = (h : History) → map life_row (followed_of h) ≡ rows_of (table_of h)

-- and go on step by step
abbrev pub GoOn : Type 0
GoOn = (h : History) (step : Step) → followed_of (h ++ step ∷ []) ≡ followed_after (state_of h) step (followed_of h)
