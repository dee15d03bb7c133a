-- Inner words: cited by private functions alone. What the code hears in a delivery, as what the delivery says.
use Rattle.std.specs.Prelude.{◌≡◌, Bool, ◌&&◌, Option, Some, None}
use Rattle.siri_change.specs.Parts.{Carried}
use Rattle.siri_life.specs.Link as life
use Rattle.siri_view.specs.declared.outcome.Seen.{Seen}
use Rattle.siri_view.specs.declared.hearing.Delivered.{Delivered as Part}
use Rattle.siri_view.specs.Hearing.{Heard, Delivered, Noted}
use Rattle.siri_view.specs.Kept.{HeldSubscription, meaning, kept_of}
use Rattle.siri_view.specs.Consuming.{Consuming, after_delivery, seen_in_delivery}
use Rattle.siri_view.specs.Marks.{mark_by}

-- what a part carries
abbrev pub carried_in : Part → Carried
carried_in p = record { items = p.items; removals = p.removals }

abbrev pub delivered_by : Part → Heard
delivered_by p = Delivered p.subscriber p.identifier (mark_by p.mark) p.more (carried_in p)

-- a part, or nothing of one
abbrev pub heard_if : Option Part → Heard
heard_if None = Noted
heard_if (Some p) = delivered_by p

-- a part that is delivered is wanted of what is kept, and the next one is asked for after it or isn't
abbrev pub IsWanted : Part → Bool → Option HeldSubscription → Type 0
IsWanted p asks None = ⊥
IsWanted p asks (Some h) =
    (life.outcome meaning h (mark_by p.mark) ≡ life.Wanted) × (asks ≡ (p.more && h.wanted.subscription.fetched))

-- a consumer after a part that is delivered to it, and what it sees in it
abbrev pub after_part : Consuming → Part → Consuming
after_part c p =
    after_delivery c p.identifier (kept_of p.identifier c.held) (mark_by p.mark) p.more (carried_in p)

abbrev pub seen_in_part : Consuming → Part → Seen
seen_in_part c p = seen_in_delivery c p.identifier (kept_of p.identifier c.held) (mark_by p.mark) p.more
