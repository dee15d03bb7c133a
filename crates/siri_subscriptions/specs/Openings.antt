-- A round that is to open, before it does.
use Rattle.std.specs.Prelude.{◌≡◌, ℕ, ◌+◌, ◌<◌, ◌≤◌, length, Option, Some, None}
use Rattle.siri_change.specs.Parts.{base_view, led_to}
use Rattle.siri_life.specs.Slot.{begun}
use Rattle.siri_subs.specs.rounds.Wanted.{RoundsOfChanges, round_on}
use Rattle.siri_subscriptions.specs.declared.looks.Opening.{Opening}
use Rattle.siri_life.specs.Life.{greatest_round}

-- what is kept of a subscription once the round that is to open has opened at a moment, where there is one: it leads to the
-- view that its changes make
abbrev pub with_opening : ℕ → Option Opening → RoundsOfChanges → RoundsOfChanges
with_opening now None rounds = rounds
with_opening now (Some opening) rounds =
    begun rounds (round_on rounds.acknowledged now (led_to rounds.acknowledged opening.incremental opening.changes) opening.changes)

-- it may open: nothing is outstanding, the last round is below the greatest, and there is room for its changes
pub record MayOpen (opening : Opening) (rounds : RoundsOfChanges) : Type 0 where
  pub level : rounds.outstanding ≡ None
  pub room : rounds.rounds_opened < greatest_round
  pub fits : length (base_view rounds.acknowledged opening.incremental) + length opening.changes ≤ opening.room

abbrev pub CanOpen : Option Opening → RoundsOfChanges → Type 0
CanOpen None rounds = Unit {0}
CanOpen (Some opening) rounds = MayOpen opening rounds
