-- How many subscriptions a message may speak of.
use Rattle.std.specs.Prelude.{ℕ}

-- the most subscriptions to a service in one request, and the most that one request ends
abbrev pub most_subscriptions : ℕ
most_subscriptions = 200

-- the most statuses in an answer: those of so many subscriptions to each of four services
abbrev pub most_statuses : ℕ
most_statuses = 800
