-- What is told at the end: a view is told, and nothing changes.
use Rattle.std.proofs.Common.{◌≡◌, ℕ, List, [], ◌∷◌, ◌++◌, Option, Some, None, Ok, Err, refl, sym, ap, ◌∙◌, subst, append-nil}
use Rattle.std.specs.Prelude.{fold}
use Rattle.std.specs.Fmt.{decimal}
use Rattle.siri_view.specs.Consuming.{Consuming}
use Rattle.siri_view.specs.Kept.{HeldSubscription, kept_of}
use Rattle.siri_world_model.specs.declared.event.Event.{Event}
use Rattle.siri_world_model.specs.declared.event.Event.TheVariants as event
use Rattle.siri_world_model.specs.declared.line.Line.{Line}
use Rattle.siri_world_model.specs.declared.step_error.StepError.{StepError}
use Rattle.siri_world_model.specs.declared.step_error.StepError.TheVariants as error
use Rattle.siri_world_model.specs.Lines.{told_lines}
use Rattle.siri_world_model.specs.Consumers.{consumer_of}
use Rattle.siri_world_model.specs.World.{World, nothing}
use Rattle.siri_world_model.specs.Effects.{effect, viewed, viewed_if, with_packets}
use Rattle.siri_world_model.specs.Told.{refusal, told, after, after_if, world_after}
use Rattle.siri_world.specs.Known.{Known, Knows, StandsFor}
use Rattle.siri_world.specs.Refused.{Refuses, Stays}
use Rattle.siri_load.specs.Events.{consumer, viewing}
use Rattle.siri_load.specs.Load.{Progress, world_of, lines_of, view}
use Rattle.siri_load.specs.Playing.{Playing, Plays, Shown, IsUntold}
use Rattle.siri_load.proofs.Bounds.{view_passes_none}

-- a world to which no packet is added
with_none : (world : World) → record world { packets = world.packets ++ [] } ≡ world
with_none world = ap (λ packets. record world { packets = packets }) (append-nil world.packets)

viewed_changes_nothing : (world : World) (name identifier : List ℕ) (consumer : Option Consuming) → with_packets (viewed world name identifier consumer) ≡ world
viewed_changes_nothing world name identifier None = with_none world
viewed_changes_nothing world name identifier (Some consumer) = by_kept (kept_of identifier consumer.held)
  where
    by_kept : (kept : Option HeldSubscription) → with_packets (viewed_if world consumer identifier kept) ≡ world
    by_kept None = with_none world
    by_kept (Some kept) = with_none world

effect_of_view : (world : World) (name identifier : List ℕ)
    → effect world (event.View name identifier) ≡ viewed world name identifier (consumer_of name world.consumers)
unfolding effect
effect_of_view world name identifier = refl

-- a view changes nothing, whether it is told or not
pub view_changes_nothing : (world : World) (name identifier : List ℕ) → after world (event.View name identifier) ≡ world
view_changes_nothing world name identifier = by_refusal (refusal world (event.View name identifier))
  where
    by_refusal : (refused : Option StepError) → after_if refused world (event.View name identifier) ≡ world
    by_refusal (Some why) = refl
    by_refusal None = ap with_packets (effect_of_view world name identifier) ∙ viewed_changes_nothing world name identifier (consumer_of name world.consumers)

-- the world after one more event
pub after_one : (events : List Event) (event : Event) → world_after (events ++ event ∷ []) ≡ after (world_after events) event
after_one events event = from nothing events
  where
    from : (world : World) (events : List Event) → fold after world (events ++ event ∷ []) ≡ after (fold after world events) event
    from world [] = refl
    from world (first ∷ events) = from (after world first) events

-- ---- the player at the end

-- what stands for a view too stands for what was before it
still_stands : (known : Known) (events : List Event) (name identifier : List ℕ)
    → StandsFor known (events ++ event.View name identifier ∷ []) → StandsFor known events
still_stands known events name identifier stands =
    let family : World → Type 0 = λ world. Knows known world in
    subst family (after_one events (event.View name identifier) ∙ view_changes_nothing (world_after events) name identifier) stands

-- the player came as far as before, whatever its world is
plays_still : (old new : Playing) (progress : Progress) → Plays old progress → StandsFor new.world progress.events
    → new ≡ record old { world = new.world } → Plays new progress
plays_still old new progress plays stands rest = record {
  world = stands;
  number = ap (λ (p : Playing). p.number) rest ∙ plays.number;
  moment = ap (λ (p : Playing). p.moment) rest ∙ plays.moment;
  lines = ap (λ (p : Playing). p.lines) rest ∙ plays.lines;
  looked = ap (λ (p : Playing). p.looked) rest ∙ plays.looked;
  lost = ap (λ (p : Playing). p.lost) rest ∙ plays.lost;
}

-- a view was told
pub shows_view : (old new : Playing) (number : ℕ) (seen shared : Event) (progress : Progress) (lines given : List Line)
    → seen ≡ shared → shared ≡ viewing number → given ≡ lines → Plays old progress
    → new ≡ record old { world = new.world } → told (world_of progress) seen ≡ Ok (told_lines lines)
    → StandsFor new.world (progress.events ++ seen ∷ []) → Shown new given (view number (world_of progress)) progress
shows_view old new number seen shared progress lines given seen_is shared_is given_is plays rest is stands =
    let viewed_is : seen ≡ viewing number = seen_is ∙ shared_is in
    let family : Event → Type 0 = λ happening. StandsFor new.world (progress.events ++ happening ∷ []) in
    record {
      lines_are = ap told_lines given_is ∙ ap lines_of (sym is ∙ ap (told (world_of progress)) viewed_is);
      plays = plays_still old new progress plays (still_stands new.world progress.events consumer (decimal number) (subst family viewed_is stands)) rest;
    }

-- a view wasn't told
pub shows_none : (old new : Playing) (number : ℕ) (seen shared : Event) (progress : Progress) (why : StepError)
    (given : List Line) → seen ≡ shared → shared ≡ viewing number → IsUntold why given → Plays old progress
    → new ≡ record old { world = new.world } → Refuses (world_of progress) seen why → Stays why old.world new.world
    → Shown new given (view number (world_of progress)) progress
shows_none old new number seen shared progress why given seen_is shared_is untold plays rest refuses stays =
    by_error why untold (subst family (seen_is ∙ shared_is) refuses) stays
  where
    family : Event → Type 0
    family happening = Refuses (world_of progress) happening why

    same : (why : StepError) → given ≡ [] → told (world_of progress) (viewing number) ≡ Err why → new.world ≡ old.world
        → Shown new given (view number (world_of progress)) progress
    same why none is stays =
        let known : Known → Type 0 = λ known. StandsFor known progress.events in
        record {
          lines_are = ap told_lines none ∙ ap lines_of (sym is);
          plays = plays_still old new progress plays (subst known (sym stays) plays.world) rest;
        }

    by_error : (why : StepError) → IsUntold why given → Refuses (world_of progress) (viewing number) why
        → Stays why old.world new.world → Shown new given (view number (world_of progress)) progress
    by_error error.NotStarted none is stays = same error.NotStarted none is stays
    by_error error.StartLimit none is stays = same error.StartLimit none is stays
    by_error error.ConsumerLimit none is stays = same error.ConsumerLimit none is stays
    by_error error.PacketLimit none is stays = absurd (view_passes_none progress.events consumer (decimal number) is)
    by_error error.OutOfMemory bad is stays = absurd bad
