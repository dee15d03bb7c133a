-- What is sent of a subscription at a settle (EN 15531-2, ServiceDelivery with direct delivery, DataReadyNotification with
-- fetched delivery).
use Rattle.std.specs.Prelude.{ℕ, List, Option, None, option_map, if◌then◌else◌}
use Rattle.siri_topic.specs.declared.subscription.Subscription.{Subscription}
use Rattle.siri_messages.specs.declared.message.Message.{Message}
use Rattle.siri_messages.specs.declared.message.Message.TheVariants as message
use Rattle.siri_life.specs.Slot.{is_message_due}
use Rattle.siri_subs.specs.rounds.Wanted.{KeptRounds, WantedPart, wanted_part}
use Rattle.siri_subscriptions.specs.replies.Parts.{part_delivery, part_notification}

-- the message of a part: its notification where it is to be fetched, else the part itself
abbrev pub message_of : (producer : List ℕ) → (start : ℕ) → Subscription → (number : ℕ) → WantedPart → Message
message_of producer start wanted number part =
    if wanted.fetched then message.DataReadyNotification (part_notification producer wanted number start part)
    else message.ServiceDelivery (part_delivery producer wanted number start part)

-- the message of the wanted part, where one is due at a moment
abbrev pub message_due : (producer : List ℕ) → (start : ℕ) → Subscription → (number : ℕ) → (now : ℕ) → KeptRounds → Option Message
message_due producer start wanted number now rounds =
    if is_message_due rounds now then option_map (message_of producer start wanted number) (wanted_part rounds) else None
