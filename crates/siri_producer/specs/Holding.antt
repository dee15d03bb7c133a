-- What is lent of what a producer holds.
use Rattle.std.specs.Option.{option_copied}
use Rattle.siri_model.specs.Held.{Held}
use Rattle.siri_producer.specs.declared.holding.Subscribed.{Subscribed}

-- a lent subscription is what is held
abbrev pub subscribed_of : Subscribed → Held
subscribed_of s = record {
  asked = record { subscription = s.wanted.now; address = option_copied s.address; beat = s.beat };
  number = s.number;
  base = s.base;
}
