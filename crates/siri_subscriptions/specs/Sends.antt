-- What is sent at a settle, subscription by subscription in the order of the table (EN 15531-2): the message of the wanted
-- part, where one is due after a look, and then a heartbeat, where one is due.
use Rattle.std.specs.Prelude.{ℕ, List, [], ◌∷◌, ◌++◌, flat_map, if◌then◌else◌, Option, Some, None}
use Rattle.siri_records.specs.Keyed.{Items}
use Rattle.siri_messages.specs.declared.message.Message.{Message}
use Rattle.siri_messages.specs.declared.message.Message.TheVariants as message
use Rattle.siri_subs.specs.declared.entry.Row.{Row}
use Rattle.siri_model.specs.Direct.{direct_to}
use Rattle.siri_model.specs.Rows.{KeptLife, asked_of, looked, is_heartbeat_due}
use Rattle.siri_subscriptions.specs.replies.Statuses.{heartbeat}
use Rattle.siri_responder.specs.Known.{Known}
use Rattle.siri_subscriptions.specs.declared.outs.Out.{Out}
use Rattle.siri_subscriptions.specs.Messages.{message_due}

-- of a producer: its name, the number and the moment of its start, and its moment
pub record At : Type 0 where
  pub producer : List ℕ
  pub start : ℕ
  pub started : ℕ
  pub now : ℕ

abbrev pub at_of : Known → At
at_of known = record { producer = known.name; start = known.start; started = known.started; now = known.moment }

-- a message to the consumer of a subscription
abbrev pub out_of : Row KeptLife → Message → Out
out_of row message = record { to = row.wanted.subscriber; address = row.address; message = message }

abbrev pub outs_with : Row KeptLife → Option Message → List Out
outs_with row None = []
outs_with row (Some message) = out_of row message ∷ []

-- the message of the wanted part, where one is due after a look at the direct response by the current items
abbrev pub part_due : At → Items → Row KeptLife → Option Message
part_due at items row =
    message_due at.producer at.start row.wanted row.number at.now (looked (asked_of row) (direct_to at.now items row.wanted.topic) at.now row.slot.rounds)

abbrev pub heartbeat_due : At → Row KeptLife → Option Message
heartbeat_due at row = if is_heartbeat_due at.now row then Some (message.HeartbeatNotification (heartbeat at.producer at.now at.started)) else None

-- what is sent of a subscription
abbrev pub row_sends : At → Items → Row KeptLife → List Out
row_sends at items row = outs_with row (part_due at items row) ++ outs_with row (heartbeat_due at row)

-- what is sent of a table
abbrev pub table_sends : At → Items → List (Row KeptLife) → List Out
table_sends at items rows = flat_map (row_sends at items) rows
