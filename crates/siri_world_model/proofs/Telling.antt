-- What is told of a view shows the direct response to what was observed, where it is quiet; what is told of a request has it.
use Rattle.std.proofs.Common.{◌≡◌, suc, true, inl, inr, List, [], ◌∷◌, length, map, Option, Some, None, refl, sym, ap, ◌∙◌, subst, append-nil}
use Rattle.std.specs.Prelude.{Result, Ok}
use Rattle.std.specs.List.{All}
use Rattle.std.specs.Option.{option_and_then}
use Rattle.siri_change.specs.Changes.{Meets}
use Rattle.siri_change.proofs.Leads.{meets_stated}
use Rattle.siri_life.specs.Named.{Name}
use Rattle.siri_records.specs.Keyed.{Items, InOrder}
use Rattle.siri_change.specs.Views.{is_keyed}
use Rattle.siri_messages.specs.declared.requests.ServiceRequest.{ServiceRequest}
use Rattle.siri_model.specs.Direct.{answer, answering, direct_to, response}
use Rattle.siri_model.specs.History.{current, now_of}
use Rattle.siri_model.specs.Meaning.{direct_of}
use Rattle.siri_topic.specs.declared.topics.Topic.{Topic}
use Rattle.siri_view.specs.Consuming.{Consuming, held_by}
use Rattle.siri_view.specs.Kept.{HeldSubscription, kept_of}
use Rattle.siri_world_model.specs.declared.event.Event.{Event}
use Rattle.siri_world_model.specs.declared.event.Event.TheVariants as event
use Rattle.siri_world_model.specs.declared.step_error.StepError.{StepError}
use Rattle.siri_world_model.specs.Consumers.{consumer_of}
use Rattle.siri_world_model.specs.Effects as effects
use Rattle.siri_world_model.specs.Effects.{all_lines, effect}
use Rattle.siri_world_model.specs.Goals.{goal, is_quiet}
use Rattle.siri_world_model.specs.Lines as line
use Rattle.siri_world_model.specs.Lines.{ToldLine}
use Rattle.siri_world_model.specs.Packets.{producer}
use Rattle.siri_world_model.specs.Told.{refusal, told, told_if, world_after}
use Rattle.siri_world_model.specs.World.{World, latest}
use Rattle.siri_world_model.specs.laws.Networks.{kept_by}
use Rattle.siri_world_model.specs.laws.QuietViews.{asked_last}
use Rattle.siri_world_model.specs.laws.Views.{AllHappen, AnswersDirect, AreDirect, ShowsDirect, TellsView, WasSent, answered, direct_response, items_listed, observed}
use Rattle.siri_world_model.proofs.Known.{found_named}
use Rattle.siri_world_model.proofs.LastAsked.{wants_last, wants_none}
use Rattle.siri_world_model.proofs.Observed.{Knows, observed_known}
use Rattle.siri_world_model.proofs.QuietLines.{keyed_again, quiet_viewed}
use Rattle.siri_world_model.proofs.SentItems.{view_sent}
use Rattle.siri_world_model.proofs.Worlds.{world_stands}
use Rattle.siri_world_model.proofs.Views.{held_is, quiet_meets, quiet_view, view_shown}

-- the direct response to what the producer knows is that to what was observed
direct_observed : (events : List Event) (topic : Topic) → Knows (world_after events) (observed events)
    → direct_to (now_of (latest (world_after events))) (current (latest (world_after events))) topic ≡ direct_response
    events topic
direct_observed events topic knows = λ i. direct_to (knows.now i) (knows.current i) topic

-- ---- what is told

-- the lines of an event that is told of
told_lines_are : (world : World) (e : Event) (lines : List ToldLine) (refused : Option StepError)
    → told_if refused world e ≡ Ok lines → lines ≡ all_lines world (effect world e)
told_lines_are world e lines (Some error) is = absurd (cc)
told_lines_are world e lines None is = sym (ok_same (all_lines world (effect world e)) lines is)
  where
    ok_same : (a b : List ToldLine) → ◌≡◌ {A = Result (List ToldLine) StepError} (Ok a) (Ok b) → a ≡ b
    ok_same a b is = cc

map_both : (items : Items) → map (λ entry. line.Item entry.1) items ≡ map line.Item (map (λ entry. entry.1) items)
map_both [] = refl
map_both (entry ∷ items) = ap (λ lines. line.Item entry.1 ∷ lines) (map_both items)

same_length : (items : Items) → length items ≡ length (map (λ entry. entry.1) items)
same_length [] = refl
same_length (entry ∷ items) = ap suc (same_length items)

module _ (events : List Event) (happen : AllHappen events) (consumer identifier : Name) where
  abbrev world : World
  world = world_after events

  -- the items of a quiet view are direct
  quiet_direct : (kept : HeldSubscription) → kept_by consumer identifier world.consumers ≡ Some kept → is_quiet world consumer identifier kept.number ≡ true
      → AreDirect kept.wanted.subscription.slack (map (λ entry. entry.1) (goal world consumer identifier kept.origin))
      (direct_response events kept.wanted.subscription.topic)
  quiet_direct kept is quiet =
      let slack = kept.wanted.subscription.slack in
      let shown_is = view_shown events consumer identifier kept is in
      let viewed = subst (λ view. InOrder view × (is_keyed view ≡ true)) shown_is
      (quiet_viewed events consumer identifier kept (quiet_view events consumer identifier kept is quiet)) in
      let items = goal world consumer identifier kept.origin in
      let again = sym (keyed_again items viewed.1) in
      let met = (meets_stated slack items (direct_of (latest world) kept.wanted)).0 (quiet_meets events consumer identifier kept is quiet) in
      let direct = subst (Meets slack items) (direct_observed events kept.wanted.subscription.topic (observed_known events happen)) met in
      record {
        in_order = subst InOrder again viewed.0;
        meets = subst (λ view. Meets slack view (direct_response events kept.wanted.subscription.topic)) again direct;
      }

  -- what is told of what a consumer keeps
  kept_tells : (found : Consuming) (kept : HeldSubscription) → consumer_of consumer world.consumers ≡ Some found → kept_of identifier found.held ≡ Some kept
      → ShowsDirect events consumer identifier (effects.view_lines world found identifier kept (goal world found.name identifier kept.origin))
  kept_tells found kept there holds =
      let named : found.name ≡ consumer = found_named consumer world.consumers found there in
      let is_kept : kept_by consumer identifier world.consumers ≡ Some kept =
      ap (λ c. option_and_then (λ (c : Consuming). kept_of identifier c.held) c) there ∙ holds in
      let goal_items = goal world consumer identifier kept.origin in
      let quiet = is_quiet world consumer identifier kept.number in
      record {
        held = held_by kept;
        items = map (λ entry. entry.1) goal_items;
        quiet = quiet;
        says = ap (λ name. line.View name identifier (held_by kept) (length (goal world name identifier kept.origin))
            (is_quiet world name identifier kept.number) ∷ map (λ entry. line.Item entry.1)
            (goal world name identifier kept.origin)) named
            ∙ (λ i. line.View consumer identifier (held_by kept) (same_length goal_items i) quiet ∷ map_both goal_items i);
        are_sent = subst (λ (view : Items). All (WasSent events consumer identifier (held_by kept))
            (map (λ entry. entry.1) view)) (view_shown events consumer identifier kept is_kept)
            (view_sent events consumer identifier kept is_kept);
        asked = kept.wanted;
        is_asked = wants_last events consumer identifier kept (held_is events consumer identifier kept is_kept);
        is_direct = quiet_direct kept is_kept;
      }

  -- nothing is asked for of what isn't held
  none_asked : kept_by consumer identifier world.consumers ≡ None → asked_last events consumer identifier ≡ None
  none_asked none = wants_none events consumer identifier ((world_stands events).1.holdings consumer identifier ∙ none)

  -- and of each view
  view_tells : TellsView events consumer identifier (all_lines world (effect world (event.View consumer identifier)))
  unfolding effect
  view_tells = by (consumer_of consumer world.consumers) refl
    where
      one : (found : Consuming) (kept : Option HeldSubscription) → consumer_of consumer world.consumers ≡ Some found → kept_of identifier found.held ≡ kept
          → TellsView events consumer identifier (all_lines world (effects.viewed_if world found identifier kept))
      one found None there holds = inl (record {
        is_asked = none_asked (ap (option_and_then (λ (c : Consuming). kept_of identifier c.held)) there ∙ holds);
        says = ap (λ name. line.Unknown name (Some identifier) ∷ []) (found_named consumer world.consumers found there);
      })
      one found (Some kept) there holds =
          subst (TellsView events consumer identifier)
          (sym (append-nil (effects.view_lines world found identifier kept
          (goal world found.name identifier kept.origin)))) (inr (kept_tells found kept there holds))

      by : (found : Option Consuming) → consumer_of consumer world.consumers ≡ found
          → TellsView events consumer identifier (all_lines world (effects.viewed world consumer identifier found))
      by None there = inl (record { is_asked = none_asked (ap (option_and_then (λ (c : Consuming). kept_of identifier c.held)) there); says = refl })
      by (Some found) there = one found (kept_of identifier found.held) there refl

-- where all events happened, a view that is told shows the direct response where it is quiet
pub views_tell : (events : List Event) → AllHappen events → (consumer identifier : Name) (lines : List ToldLine)
    → told (world_after events) (event.View consumer identifier) ≡ Ok lines → TellsView events consumer identifier lines
views_tell events happen consumer identifier lines is =
    subst (TellsView events consumer identifier)
    (sym (told_lines_are (world_after events) (event.View consumer identifier) lines
    (refusal (world_after events) (event.View consumer identifier)) is))
    (view_tells events happen consumer identifier)

-- ---- what is told of a request

module _ (events : List Event) (happen : AllHappen events) where
  abbrev known : World
  known = world_after events

  topic_answered : (topic : Topic) → answering (now_of (latest known)) (current (latest known)) topic ≡ answered events topic
  unfolding answering
  topic_answered topic = ap (λ (items : Items). map (λ entry. entry.1) items)
      (direct_observed events topic (observed_known events happen))

  topics_answered : (topics : List Topic) → items_listed (map (answer (now_of (latest known)) (current (latest known))) topics) ≡ map (answered events) topics
  unfolding answer
  topics_answered [] = refl
  topics_answered (topic ∷ topics) = λ i. topic_answered topic i ∷ topics_answered topics i

  request_answered : (request : ServiceRequest) → AnswersDirect events request (all_lines known (effect known (event.Ask request)))
  unfolding effect response
  request_answered request = record {
    delivery = response producer (now_of (latest known)) (current (latest known)) request;
    says = refl;
    stops = topics_answered request.stop_monitoring_request;
    timetables = topics_answered request.estimated_timetable_request;
    vehicles = topics_answered request.vehicle_monitoring_request;
    situations = topics_answered request.situation_exchange_request;
  }

-- where all events happened, a request that is told of is answered by the direct response to each of its topics
pub requests_answered : (events : List Event) → AllHappen events → (request : ServiceRequest) (lines : List ToldLine)
    → told (world_after events) (event.Ask request) ≡ Ok lines → AnswersDirect events request lines
requests_answered events happen request lines is =
    subst (AnswersDirect events request) (sym
    (told_lines_are (world_after events) (event.Ask request) lines
    (refusal (world_after events) (event.Ask request)) is)) (request_answered events happen request)
