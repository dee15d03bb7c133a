-- A producer as an end.
use Rattle.std.proofs.Common.{List, [], None, Some, refl}
use Rattle.siri_messages.specs.declared.message.Message.{Message}
use Rattle.siri_producer.specs.Known.{Known, StandsFor}
use Rattle.siri_subscriptions.specs.declared.outs.Out.{Out}
use Rattle.siri_ends.specs.EndCalls.{Hears}
use Rattle.siri_ends.specs.Serving.{acknowledging, serving}
use Rattle.siri_ends.specs.Turns.{Acknowledges}

-- without an acknowledgement nothing is taken
pub acknowledges_nothing : (known : Known) → Acknowledges known known None []
acknowledges_nothing known = record { name = refl; stands = λ h s. s; outs_are = λ h s. refl }

-- so a message is heard
pub heard : (old new : Known) (sent : Out) (message : Message) (outs : List Out) → Acknowledges old new (acknowledging message) outs
    → Hears {Beside = Unit {0}} (λ known. known.responder.name) StandsFor (λ known beside h. Unit {0}) serving sent (Some message) outs old new
heard old new sent message outs a = record {
  keeps = a.name;
  stands_for = a.stands;
  holds_for = λ beside h s holds. tt;
  more_are = a.outs_are;
}
