-- What a relay answers to a message.
use Rattle.std.specs.Prelude.{◌≡◌, ◌++◌, true, false}
use Rattle.siri_messages.specs.declared.message.Message.{Message}
use Rattle.siri_model.specs.History.{History}
use Rattle.siri_producer.specs.Answers.{answer_to}
use Rattle.siri_producer.specs.Known.{StandsFor}
use Rattle.siri_view.specs.Consuming.{seen_of}
use Rattle.siri_relay.specs.declared.answers.RelayAnswer.{RelayAnswer}
use Rattle.siri_relay.specs.declared.answers.RelayAnswer.TheVariants as answer
use Rattle.siri_relay.specs.Relaying.{KnownRelay, catch_up_steps, is_up}

-- what a message for the consumer is to it, with the replies; what the producer answers to a message for it, once it was fed
-- what was missing
abbrev pub AnswersFor : KnownRelay → Message → RelayAnswer → Type 0
AnswersFor r m (answer.Up seen) = (is_up m ≡ true) × (seen ≡ seen_of r.consumer m)
AnswersFor r m (answer.Down given) = (is_up m ≡ false) × ((h : History) → StandsFor r.producer h
    → given ≡ answer_to r.producer.responder.name (h ++ catch_up_steps r) m)
