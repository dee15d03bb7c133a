-- What a producer keeps of the subscriptions of its history, row by row of its table, and what its steps do to a row.
use Rattle.std.specs.Prelude.{ℕ, ◌==◌, List, [], map, Bool, ◌&&◌, Option, None, if◌then◌else◌}
use Rattle.siri_records.specs.Keyed.{Items}
use Rattle.siri_messages.specs.Asked.{AskedFor}
use Rattle.siri_messages.specs.declared.message.Message.{Message}
use Rattle.siri_messages.specs.declared.supplies.Mark.{Mark as MarkOf}
use Rattle.siri_change.specs.Parts.{Carried}
use Rattle.siri_life.specs.Life.{Mark, Round}
use Rattle.siri_life.specs.Named.{Name, Of}
use Rattle.siri_life.specs.Slot.{Slot, slot_of, opens_round, begun, is_message_due, sent, with_acknowledgement, with_supply}
use Rattle.siri_subs.specs.declared.entry.Row.{Row}
use Rattle.siri_model.specs.Direct.{direct_to}
use Rattle.siri_model.specs.History.{State, Step}
use Rattle.siri_model.specs.Lives.{Living}
use Rattle.siri_model.specs.Meaning.{meaning}
use Rattle.siri_model.specs.Steps as steps
use Rattle.siri_model.specs.Steps.{Keeps}
pub use Rattle.siri_model.specs.Steps.{row_with, asked_of, with_row_of, rows_ended}

-- what is kept of a life, beside what its request asked for: its rounds, and the moment of the last heartbeat, or of the
-- acceptance
pub record KeptLife : Type 0 where
  pub rounds : Slot Items Carried
  pub last_heartbeat : ℕ

abbrev pub kept_of : Living → KeptLife
kept_of life = record { rounds = slot_of meaning life; last_heartbeat = life.last_heartbeat }

-- the row of a life
abbrev pub row_of : Living → Row KeptLife
row_of life = row_with life.number life.base life.wanted (kept_of life)

-- the rows of a table, in its order
abbrev pub rows_of : List (Of Living) → List (Row KeptLife)
rows_of table = map (λ held. row_of held.it) table

-- ---- what a step does to a row

-- nothing was acknowledged, and no round was opened
abbrev pub nothing_kept : ℕ → AskedFor → KeptLife
nothing_kept now asked = record {
  rounds = record { fetched = asked.subscription.fetched; acknowledged = []; rounds_opened = 0; outstanding = None };
  last_heartbeat = now;
}

-- a row with other rounds
abbrev pub with_rounds : Row KeptLife → Slot Items Carried → Row KeptLife
with_rounds row rounds = record row { slot = record row.slot { rounds = rounds } }

-- a mark is of this number and start
abbrev pub is_numbered : Mark → ℕ → ℕ → Bool
is_numbered m number start = m.number == number && m.start == start

-- after an acknowledgement of the part that a mark names, in a start at a moment
abbrev pub acknowledged_row : ℕ → ℕ → Mark → Row KeptLife → Row KeptLife
acknowledged_row start now m row =
    if is_numbered m row.number start then with_rounds row (with_acknowledgement row.slot.rounds m.round m.part now) else row

-- after a request to supply the part that a mark names
abbrev pub supplied_row : ℕ → ℕ → Mark → Row KeptLife → Row KeptLife
supplied_row start now m row =
    if is_numbered m row.number start then with_rounds row (with_supply row.slot.rounds m.round m.part now) else row

-- the round that a direct response makes at a moment
abbrev pub next_round : AskedFor → Items → ℕ → Slot Items Carried → Round Items Carried
next_round asked direct now rounds =
    let target = meaning.target rounds.acknowledged direct asked in
    record { moment = now; base = rounds.acknowledged; target = target; parts = meaning.load rounds.acknowledged target asked }

-- a look: a round opens where one is due
abbrev pub looked : AskedFor → Items → ℕ → Slot Items Carried → Slot Items Carried
looked asked direct now rounds =
    if opens_round meaning rounds.outstanding rounds asked direct then begun rounds (next_round asked direct now rounds) else rounds

-- a message that is due is sent
abbrev pub sent_if_due : ℕ → Slot Items Carried → Slot Items Carried
sent_if_due now rounds = if is_message_due rounds now then sent rounds now else rounds

-- a heartbeat is due
abbrev pub is_heartbeat_due : ℕ → Row KeptLife → Bool
is_heartbeat_due now row = meaning.is_heartbeat_due (asked_of row) row.slot.last_heartbeat now

-- a row after a settle, by the current items at a moment
abbrev pub settled_row : ℕ → Items → Row KeptLife → Row KeptLife
settled_row now items row =
    record row {
      slot = record {
        rounds = sent_if_due now (looked (asked_of row) (direct_to now items row.wanted.topic) now row.slot.rounds);
        last_heartbeat = if is_heartbeat_due now row then now else row.slot.last_heartbeat;
      };
    }

-- ---- the rows after a step

-- of a life alone nothing changes where a key is touched
abbrev pub keeps_lives : Keeps KeptLife
keeps_lives = record {
  begun = nothing_kept;
  acknowledged = acknowledged_row;
  supplied = supplied_row;
  settled = settled_row;
  touched = λ keys rows. rows;
}

-- the row of a subscription that is accepted at a moment
abbrev pub new_row : ℕ → ℕ → AskedFor → Row KeptLife
new_row = steps.new_row nothing_kept

-- after a request for all of the acceptance with a base, under a number, at a moment
abbrev pub renewed_row : ℕ → (number base : ℕ) → Row KeptLife → Row KeptLife
renewed_row = steps.renewed_row nothing_kept

abbrev pub rows_asked : ℕ → ℕ → List AskedFor → List (Row KeptLife) → List (Row KeptLife)
rows_asked = steps.rows_asked nothing_kept

abbrev pub rows_acknowledged : ℕ → ℕ → Bool → Option Name → Option MarkOf → List (Row KeptLife) → List (Row KeptLife)
rows_acknowledged = steps.rows_acknowledged keeps_lives

abbrev pub rows_supplied : ℕ → ℕ → (all_data : Bool) → Name → MarkOf → List (Row KeptLife) → List (Row KeptLife)
rows_supplied = steps.rows_supplied keeps_lives

-- after a message that is taken, in a start at a moment
unfoldable pub rows_taken : ℕ → ℕ → Message → List (Row KeptLife) → List (Row KeptLife)
unfolding steps.rows_taken
rows_taken start now m rows = steps.rows_taken keeps_lives start now m rows

-- after a step, by what was known before it
unfoldable pub rows_after : State → Step → List (Row KeptLife) → List (Row KeptLife)
unfolding steps.rows_after rows_taken
rows_after state step rows = steps.rows_after keeps_lives state step rows
