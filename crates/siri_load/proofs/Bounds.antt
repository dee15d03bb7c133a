-- How many packets are ever sent, and that a view passes no limit.
use Rattle.std.proofs.Common.{◌≡◌, ℕ, ◌+◌, ◌≤◌, Bool, true, false, List, [], ◌∷◌, ◌++◌, length, Option, Some, None, Err, refl, sym, ap, ◌∙◌}
use Rattle.std.proofs.Common.{length-append, if◌then◌else◌, arith}
use Rattle.std.specs.Prelude.{fold}
use Rattle.std.proofs.lemmas.Bool.{ltb-true, ltb-false}
use Rattle.siri_view.specs.Consuming.{Consuming}
use Rattle.siri_view.specs.Kept.{HeldSubscription, kept_of}
use Rattle.siri_world_model.specs.declared.event.Event.{Event}
use Rattle.siri_world_model.specs.declared.event.Event.TheVariants as event
use Rattle.siri_world_model.specs.declared.step_error.StepError.{StepError}
use Rattle.siri_world_model.specs.declared.step_error.StepError.TheVariants as error
use Rattle.siri_world_model.specs.Consumers.{consumer_of}
use Rattle.siri_world_model.specs.World.{World, nothing}
use Rattle.siri_world_model.specs.Effects.{effect, viewed, viewed_if}
use Rattle.siri_world_model.specs.Told.{is_early, passes_starts, passes_consumers, passes_packets, refusal, told, told_if, after, after_if, world_after}
use Rattle.siri_world.proofs.Deeds.{packets_stay}

-- ---- the last test

-- the first refusal that holds, of four tests
first_of : (early starts consumers packets : Bool) → Option StepError
first_of early starts consumers packets =
    if early then Some error.NotStarted
    else (if starts then Some error.StartLimit
    else (if consumers then Some error.ConsumerLimit
    else (if packets then Some error.PacketLimit else None)))

refusal_is : (world : World) (happening : Event) → refusal world happening ≡ first_of (is_early world happening)
    (passes_starts world happening) (passes_consumers world happening) (passes_packets world happening)
unfolding refusal first_of
refusal_is world happening = refl

not_last : (early starts consumers packets : Bool) → first_of early starts consumers packets ≡ None → packets ≡ false
unfolding first_of
not_last true starts consumers packets is = cc
not_last false true consumers packets is = cc
not_last false false true packets is = cc
not_last false false false true is = cc
not_last false false false false is = refl

is_last : (early starts consumers packets : Bool) → first_of early starts consumers packets ≡ Some error.PacketLimit → packets ≡ true
unfolding first_of
is_last true starts consumers packets is = cc
is_last false true consumers packets is = cc
is_last false false true packets is = cc
is_last false false false true is = refl
is_last false false false false is = cc

-- ---- every world

after_few : (world : World) (happening : Event) → length world.packets ≤ 1000000 → length (after world happening).packets ≤ 1000000
after_few world happening few = by_refusal (refusal world happening) refl
  where
    done : passes_packets world happening ≡ false → length ((effect world happening).world.packets ++ (effect world happening).packets) ≤ 1000000
    done is = omega (
      arith,
      ltb-false 1000000 (length world.packets + length (effect world happening).packets) is,
      length-append (effect world happening).world.packets (effect world happening).packets,
      ap length (packets_stay world happening),
    )

    by_refusal : (refused : Option StepError) → refusal world happening ≡ refused → length (after_if refused world happening).packets ≤ 1000000
    by_refusal (Some why) is = few
    by_refusal None is = done (not_last (is_early world happening) (passes_starts world happening)
        (passes_consumers world happening) (passes_packets world happening) (sym (refusal_is world happening) ∙ is))

-- no more packets than this are ever sent
pub few_packets : (events : List Event) → length (world_after events).packets ≤ 1000000
few_packets events = from nothing events (omega arith)
  where
    from : (world : World) (events : List Event) → length world.packets ≤ 1000000 → length (fold after world events).packets ≤ 1000000
    from world [] few = few
    from world (first ∷ events) few = from (after world first) events (after_few world first few)

-- ---- a view

view_sends_none : (world : World) (name identifier : List ℕ) → (effect world (event.View name identifier)).packets ≡ []
unfolding effect
view_sends_none world name identifier = by_consumer (consumer_of name world.consumers)
  where
    by_kept : (consumer : Consuming) (kept : Option HeldSubscription) → (viewed_if world consumer identifier kept).packets ≡ []
    by_kept consumer None = refl
    by_kept consumer (Some kept) = refl

    by_consumer : (consumer : Option Consuming) → (viewed world name identifier consumer).packets ≡ []
    by_consumer None = refl
    by_consumer (Some consumer) = by_kept consumer (kept_of identifier consumer.held)

refused_by : (refused : Option StepError) (world : World) (happening : Event)
    → told_if refused world happening ≡ Err error.PacketLimit → refused ≡ Some error.PacketLimit
refused_by (Some why) world happening is = cc
refused_by None world happening is = cc

-- a view never passes the limit of packets
pub view_passes_none : (events : List Event) (name identifier : List ℕ) → told (world_after events) (event.View name identifier) ≡ Err error.PacketLimit → ⊥
view_passes_none events name identifier is =
    let world = world_after events in
    let happening = event.View name identifier in
    let passes : passes_packets world happening ≡ true =
    is_last (is_early world happening) (passes_starts world happening) (passes_consumers world happening)
    (passes_packets world happening) (sym (refusal_is world happening)
    ∙ refused_by (refusal world happening) world happening is) in
    omega (
      arith,
      ltb-true 1000000 (length world.packets + length (effect world happening).packets) passes,
      few_packets events,
      ap length (view_sends_none world name identifier),
    )
