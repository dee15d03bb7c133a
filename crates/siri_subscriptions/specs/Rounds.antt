-- What a settle does to the rounds of a subscription.
use Rattle.std.specs.Prelude.{ℕ, List, if◌then◌else◌}
use Rattle.siri_records.specs.Keyed.{Items, KeyChange}
use Rattle.siri_messages.specs.Asked.{AskedFor}
use Rattle.siri_change.specs.Changes as change
use Rattle.siri_change.specs.Parts as part
use Rattle.siri_life.specs.Life.{Round}
use Rattle.siri_life.specs.Slot.{begun, sent, is_message_due, opens_round}
use Rattle.siri_model.specs.Meaning.{meaning}
use Rattle.siri_subs.specs.rounds.Wanted.{RoundsOfChanges, round_on, rounds_carried}

-- the round that a direct response makes at a moment, on the acknowledged view: its target, and what it carries
abbrev pub next_round : AskedFor → Items → ℕ → RoundsOfChanges → Round Items (List KeyChange)
next_round asked direct now rounds =
    let target = change.target asked.subscription.slack asked.subscription.incremental rounds.acknowledged direct in
    round_on rounds.acknowledged now target (part.load rounds.acknowledged target asked.subscription.incremental)

-- a look: a round opens where one is due
abbrev pub looked : AskedFor → Items → ℕ → RoundsOfChanges → RoundsOfChanges
looked asked direct now rounds =
    if opens_round meaning (rounds_carried rounds).outstanding (rounds_carried rounds) asked direct then begun rounds (next_round asked direct now rounds)
    else rounds

-- a message that is due is sent
abbrev pub sent_if_due : ℕ → RoundsOfChanges → RoundsOfChanges
sent_if_due now rounds = if is_message_due rounds now then sent rounds now else rounds
