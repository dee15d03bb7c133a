-- What becomes of the subscriptions that a producer holds, beside their rounds, with each of its steps.
use Rattle.std.specs.Prelude.{ℕ, List, Bool, true, false, not, nat_le}
use Rattle.std.specs.List.{filter}
use Rattle.siri_messages.specs.declared.message.Message.{Message}
use Rattle.siri_messages.specs.declared.message.Message.TheVariants as message
use Rattle.siri_model.specs.Held.{Held}
use Rattle.siri_model.specs.History.{Step, Start, Clock, Take}

-- a message that is no request for subscriptions, for their end, or for all of one
abbrev pub is_about_rounds : Message → Bool
is_about_rounds (message.SubscriptionRequest r) = false
is_about_rounds (message.TerminateSubscriptionRequest r) = false
is_about_rounds (message.DataSupplyRequest r) = not r.all_data
is_about_rounds other = true

-- a step that leaves what is held of each subscription beside its rounds
abbrev pub leaves_held : Step → Bool
leaves_held (Start number moment) = false
leaves_held (Clock moment) = false
leaves_held (Take m) = is_about_rounds m
leaves_held other = true

-- those whose InitialTerminationTime hasn't come at a moment
abbrev pub unexpired : ℕ → List Held → List Held
unexpired now helds = filter (λ s. not (nat_le s.asked.subscription.termination now)) helds
