-- What holds of each subscription of a history, by its last look.
use Rattle.std.specs.Prelude.{◌≡◌, ◌⊎◌, ℕ, ◌≤◌, List, [], Option, Some, None}
use Rattle.std.specs.List.{All}
use Rattle.siri_records.specs.Keyed.{Items, living}
use Rattle.siri_topic.specs.declared.subscription.Subscription.{Subscription}
use Rattle.siri_change.specs.Parts.{Carried}
use Rattle.siri_life.specs.Life.{greatest_round}
use Rattle.siri_life.specs.Slot.{Slot}
use Rattle.siri_subs.specs.declared.entry.Row.{Row}
use Rattle.siri_model.specs.Facts.{Follows}
use Rattle.siri_model.specs.Followed.{Followed, Look, goal_of, followed_of}
use Rattle.siri_model.specs.History.{History, now_of, current}

-- after a look at a subscription, by what is held at a moment: the two facts hold, no key is kept apart unless the numbers of
-- rounds are used up, and a round was opened
pub record LookHolds (now : ℕ) (held : Items) (wanted : Subscription) (rounds : Slot Items Carried)
    (look : Look) : Type 0 where
  pub facts : Follows wanted.slack wanted.topic now held (goal_of rounds) look
  pub used_up : (look.apart ≡ []) ⊎ (greatest_round ≤ rounds.rounds_opened)
  pub some_opened : 1 ≤ rounds.rounds_opened

-- before the first look no round was opened
abbrev pub HoldsBy : ℕ → Items → Subscription → Slot Items Carried → Option Look → Type 0
HoldsBy now held wanted rounds None = rounds.rounds_opened ≡ 0
HoldsBy now held wanted rounds (Some look) = LookHolds now held wanted rounds look

abbrev pub RowHolds : ℕ → Items → Row Followed → Type 0
RowHolds now held row = HoldsBy now held row.wanted row.slot.life.rounds row.slot.look

abbrev pub AllHold : ℕ → Items → List (Row Followed) → Type 0
AllHold now held rows = All (RowHolds now held) rows

-- it holds of all subscriptions of a history, by its live items
abbrev pub FactsHold : Type 0
FactsHold = (h : History) → AllHold (now_of h) (living (now_of h) (current h)) (followed_of h)
