-- A relay that is given a moment, by whatever it stands for.
use Rattle.std.proofs.Common.{◌≡◌, ℕ, ◌++◌, sym, ap, ◌∙◌, subst}
use Rattle.siri_producer.specs.Known.{StandsFor}
use Rattle.siri_view.specs.Consuming.{clocked}
use Rattle.siri_relay.specs.Feeds.{has_room}
use Rattle.siri_relay.specs.Goes.{GoesBy}
use Rattle.siri_relay.specs.Relaying.{KnownRelay, UpperSide, clock_steps, moment_steps, upper_clocked, upper_of, view_in, view_of}
use Rattle.siri_relay_run.specs.Passing.{after_moment}
use Rattle.siri_relay_run.specs.Relays.{Relaying}
use Rattle.siri_relay_run.specs.Steps.{Stands}

upper_is : (old new : KnownRelay) (now : ℕ) → new.consumer ≡ clocked old.consumer now → new.level ≡ has_room (view_of new)
    → new.fed ≡ view_of new → new.upstream ≡ old.upstream → upper_of new ≡ upper_clocked (upper_of old) now
upper_is old new now consumer level fed upstream =
    let view : view_of new ≡ view_in old.upstream (clocked old.consumer now) = λ i. view_in (upstream i) (consumer i) in
    λ i. record { consumer = consumer i; upstream = upstream i; fed = (fed ∙ view) i; level = (level ∙ ap has_room view) i }

pub clocks : (old new : KnownRelay) (now : ℕ) → GoesBy old.producer new.producer (clock_steps old now)
    → new.consumer ≡ clocked old.consumer now → new.level ≡ has_room (view_of new) → new.fed ≡ view_of new
    → new.upstream ≡ old.upstream → (s : Relaying) → Stands old s → Stands new (after_moment now s)
clocks old new now goes consumer level fed upstream s so = record {
  history = subst (λ (u : UpperSide). StandsFor new.producer (s.history ++ moment_steps u now)) (sym so.upper)
      (goes.stands s.history so.history);
  upper = ap (λ (u : UpperSide). upper_clocked u now) so.upper ∙ sym (upper_is old new now consumer level fed upstream);
}
