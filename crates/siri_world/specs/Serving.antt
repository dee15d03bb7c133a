-- Inner words: cited by private functions alone. What the producer of a world tells and sends.
use Rattle.std.specs.Prelude.{◌≡◌, List, [], ◌∷◌, ◌++◌, length, map, Option, Some, None}
use Rattle.siri_messages.specs.declared.deliveries.ServiceDelivery.{ServiceDelivery}
use Rattle.siri_messages.specs.declared.requests.ServiceRequest.{ServiceRequest}
use Rattle.siri_messages.specs.declared.message.Message.TheVariants as message
use Rattle.siri_records.specs.Keyed.{Items}
use Rattle.siri_life.specs.Named.{Name}
use Rattle.siri_model.specs.Direct.{response}
use Rattle.siri_model.specs.Fed.{counts_of}
use Rattle.siri_model.specs.History.{History, Step, Settle, entries_of, now_of, current}
use Rattle.siri_model.specs.Lives.{quiet_number}
use Rattle.siri_responder.specs.FedCounts.{fed_counts}
use Rattle.siri_producer.specs.Known.{Known}
use Rattle.siri_producer.specs.Sends.{sends}
use Rattle.siri_producer.specs.declared.answers.Answer.{Answer}
use Rattle.siri_view.specs.Consuming.{Consuming, held_by}
use Rattle.siri_view.specs.Kept.{HeldSubscription}
use Rattle.siri_world_model.specs.declared.word.Word.TheVariants as word
use Rattle.siri_world_model.specs.Goals.{is_number}
use Rattle.siri_world_model.specs.Lines as line
use Rattle.siri_world_model.specs.Lines.{ToldLine, told_lines}
use Rattle.siri_world_model.specs.Packets.{SentPacket, producer, packets_out}
use Rattle.siri_world.specs.declared.happened.Happened.{Happened}
use Rattle.siri_world.specs.Kept.{sent_packets}
use Rattle.siri_world.specs.Known.{Serves}

-- what is told of a feed, of a request and of a message that is taken
abbrev pub fed_line : History → ServiceDelivery → ToldLine
fed_line history delivery = line.Fed (fed_counts (counts_of (now_of history) (current history) (entries_of delivery)))

abbrev pub answer_line : History → ServiceRequest → ToldLine
answer_line history request = line.Answer (message.ServiceDelivery (response producer (now_of history) (current history) request))

abbrev pub took_line : Answer → ToldLine
took_line answer = line.Took producer (word.Producer answer.note)

-- what a settle sends comes after what was sent before
abbrev pub SendsFor : Known → (before after : List SentPacket) → Type 0
SendsFor known before after = (history : History) → Serves known history → after ≡ before ++ packets_out (sends producer history)

-- after a step and a settle: this was told, and this was sent before what the settle sends
pub record Settles (new : Known) (history : History) (step : Step) (told : List ToldLine) (before : List SentPacket) (happened : Happened) : Type 0 where
  pub serves : Serves new (history ++ step ∷ Settle ∷ [])
  pub lines : told_lines happened.lines ≡ told
  pub packets : sent_packets happened.packets ≡ before ++ packets_out (sends producer (history ++ step ∷ []))

-- ---- views

abbrev pub item_lines : Items → List ToldLine
item_lines items = map (λ entry. line.Item entry.1) items

-- what is told of a view, by what its consumer keeps of the subscription
abbrev pub shown_lines : History → Consuming → Name → Option HeldSubscription → List ToldLine
shown_lines history consumer identifier None = line.Unknown consumer.name (Some identifier) ∷ []
shown_lines history consumer identifier (Some kept) =
    line.View consumer.name identifier (held_by kept) (length kept.view) (is_number (quiet_number history consumer.name identifier) kept.number)
    ∷ item_lines kept.view
