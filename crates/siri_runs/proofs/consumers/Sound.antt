-- What is known of the procedure of `consume`: why it doesn't open, and what its opening and its turns leave.
use Rattle.std.proofs.Common.{◌≡◌, ◌⊎◌, ℕ, List, Option, None, Some, refl, sym, ap, subst, arith, inl, inr}
use Rattle.std.specs.Prelude.{IsSomeAnd, is_ok}
use Rattle.siri_base.specs.declared.status.Status.{Status}
use Rattle.siri_base.specs.declared.status.Status.TheVariants as status
use Rattle.siri_outside.specs.Wires.{WireState}
use Rattle.siri_http.specs.Requests.{post_alone}
use Rattle.siri_http.specs.Texts.{request_text}
use Rattle.siri_http.specs.declared.posting.Sent.{Sent}
use Rattle.siri_life.specs.Named.{Name}
use Rattle.siri_lines.specs.Ends.{Bytes}
use Rattle.siri_messages.specs.declared.message.Message.{Message}
use Rattle.siri_wire.specs.Canonical.{canonical}
use Rattle.siri_ends.specs.Consuming.{PostsUp, consuming}
use Rattle.siri_ends.specs.InTurn.{most_sends}
use Rattle.siri_runs.specs.Calls.{Outside}
use Rattle.siri_runs.specs.Enough.{EndsWhole, HasConnections, HasEnough, HasMoments}
use Rattle.siri_runs.specs.Errors.{status_of}
use Rattle.siri_runs.specs.Run.{ByError}
use Rattle.siri_runs.specs.Turns.{Running}
use Rattle.siri_runs.specs.consumers.Consumption.{Consumption, Target, asking, end_at, requests}
use Rattle.siri_runs.specs.consumers.Opening.{FailsToOpen, opened}
use Rattle.siri_runs.specs.consumers.Reading.{EndsReading, StopsAt, TellsWanted, is_of_source}
use Rattle.siri_runs.specs.consumers.Runs.{BeginsConsuming, FailsToAsk, consume_procedure}
use Rattle.siri_runs.specs.consumers.Wanting.{most_wanted}
use Rattle.siri_runs.proofs.Causes.{CallFails, HasReason, IsMemory, Later}
use Rattle.siri_runs.proofs.Enough.{HasTurns, opened_with}
use Rattle.siri_runs.proofs.Exchanges.{post_only}
use Rattle.siri_runs.proofs.Run.{IsSound}
use Rattle.siri_runs.proofs.TurnsTaken.{sends_later, sends_only, turn_later, turn_only}

-- ---- where it doesn't open

-- its lines ended it, or memory was wanting
abbrev pub EndsApart : (most : ℕ) → Name → (input left : Bytes) → Status → Type 0
EndsApart most name input left end = (StopsAt most name input left end × EndsReading end) ⊎ (end ≡ status.OutOfMemory)

opening_fails : (name listen : List ℕ) (target : Target) (input left : Bytes) (end : Status) (from to : Outside)
    → FailsToOpen name listen input left end from to ⊎ FailsToAsk name listen target input end from to
    → ByError (CallFails listen) end from to ⊎ EndsApart most_wanted name input left end
opening_fails name listen target input left end from to (inl (inl raise)) = inl (record { error = raise.error; end_is = raise.end_is; fails = inl raise.raises })
opening_fails name listen target input left end from to (inl (inr (inl read))) = inr (inl (read.stops, read.ends))
opening_fails name listen target input left end from to (inl (inr (inr (inl tell)))) =
    inl (record { error = tell.error; end_is = tell.end_is; fails = inr (inr tell.tells) })
opening_fails name listen target input left end from to (inl (inr (inr (inr (inl fails))))) =
    inl (record { error = fails.error; end_is = fails.end_is; fails = inr (inl fails.listens) })
opening_fails name listen target input left end from to (inl (inr (inr (inr (inr none))))) = inr (inr none.end_is)
opening_fails name listen target input left end from to (inr ask) = inr (inr ask.end_is)

-- a status that the reading of lines ends a run with is one of its own
pub reading_reason : (from to : Outside) (end : Status) → EndsReading end → HasReason is_of_source from to end
reading_reason from to (status.Script n why) ends = refl
reading_reason from to (status.Limit n) ends = refl
reading_reason from to status.ReadFault ends = refl
reading_reason from to status.OutOfMemory ends = tt
reading_reason from to other ends = absurd ends

pub memory_reason : (from to : Outside) (end : Status) → end ≡ status.OutOfMemory → HasReason is_of_source from to end
memory_reason from to end is = subst (HasReason is_of_source from to) (sym is) tt

apart_reason : (most : ℕ) (name : Name) (input left : Bytes) (from to : Outside) (end : Status) → EndsApart most name input left end
    → HasReason is_of_source from to end
apart_reason most name input left from to end (inl read) = reading_reason from to end read.1
apart_reason most name input left from to end (inr none) = memory_reason from to end none

-- ---- where it opens

posted_only : (target : Target) (message : Message) (outcome : Sent) (n : ℕ) (old new : Option WireState)
    → IsSomeAnd old (HasConnections n) → PostsUp target.0 target.1 message (Some outcome) old new
    → IsSomeAnd new (HasConnections n)
posted_only target message outcome n old new has told =
    post_only target.0 (request_text target.0 target.1 (canonical message)) outcome n old new has told

module _ (name listen : List ℕ) (target : Target) (input : Bytes) (from : Outside) (first : Running Consumption)
    (begins : BeginsConsuming name listen target input from first) where
  -- what it asks for at first lowers no count
  asked_later : Later from first.outside
  asked_later =
      let asks = begins.asks in
      let sent = sends_later (PostsUp target.0 target.1) consuming most_sends
      (requests (opened name listen begins.start begins.moment) begins.list)
      (asking (opened name listen begins.start begins.moment) begins.list begins.open_.wire)
      (end_at first.state first.outside.wire) asks.sends in
      record {
        wire = omega (arith, begins.opens.listens.cause.later, sent);
        clock = omega (arith, begins.opens.tells.cause.later, ap (λ (o : Outside). o.clock.faults) asks.rest);
      }

  -- and takes no connection that is still to come
  asked_only : (count : ℕ) → HasEnough count from → HasTurns count first.outside
  asked_only count has =
      let asks = begins.asks in
      let has_turns = opened_with count begins.moment listen from begins.open_ has begins.opens.listens begins.opens.tells in
      record {
        connections = sends_only (PostsUp target.0 target.1) consuming (posted_only target) most_sends count
            (requests (opened name listen begins.start begins.moment) begins.list)
            (asking (opened name listen begins.start begins.moment) begins.list begins.open_.wire)
            (end_at first.state first.outside.wire) has_turns.connections asks.sends;
        moments = subst (λ (o : Outside). IsSomeAnd o.clock.tells (HasMoments count)) (sym asks.rest) has_turns.moments;
      }

pub consume_is_sound : (name listen : List ℕ) (target : Target) (input left : Bytes)
    → IsSound (consume_procedure name listen target input left) listen (EndsApart most_wanted name input left) IsMemory
consume_is_sound name listen target input left = record {
  fails = opening_fails name listen target input left;
  apart = apart_reason most_wanted name input left;
  own = record { refuses = λ e state never. absurd never; stops = λ e state before after stops. stops.0 };
  own_reason = λ from to e is. memory_reason from to (status_of e) (ap status_of is);
  opens_later = asked_later name listen target input;
  opens_only = λ count from first has begins. asked_only name listen target input from first begins count has;
  later = λ from before to after consumes.
      turn_later (PostsUp target.0 target.1) consuming post_alone (end_at from before) (end_at to after) consumes;
  only = λ n from before to after has consumes. turn_only (PostsUp target.0 target.1) consuming (posted_only target) post_alone n
      (end_at from before) (end_at to after) has consumes;
}

-- ---- where there is enough

-- a source that tells good lines doesn't end it, unless it fails
reading_whole : (name : Name) (input left : Bytes) (end : Status) → TellsWanted name input → StopsAt most_wanted name input left end
    → EndsReading end → (end ≡ status.ReadFault → ⊥) → EndsWhole end
reading_whole name None left end wanted stops ends read = absurd wanted
reading_whole name (Some input) left (status.Script n why) wanted stops ends read = absurd (cc (wanted, ap is_ok stops))
reading_whole name (Some input) left (status.Limit n) wanted stops ends read = absurd (cc (wanted, ap is_ok stops))
reading_whole name (Some input) left status.ReadFault wanted stops ends read = absurd (read refl)
reading_whole name (Some input) left status.OutOfMemory wanted stops ends read = tt
reading_whole name (Some input) left status.Done wanted stops ends read = absurd ends
reading_whole name (Some input) left status.Refused wanted stops ends read = absurd ends
reading_whole name (Some input) left status.Usage wanted stops ends read = absurd ends
reading_whole name (Some input) left status.WireFault wanted stops ends read = absurd ends
reading_whole name (Some input) left status.WriteFault wanted stops ends read = absurd ends
reading_whole name (Some input) left status.ClockFault wanted stops ends read = absurd ends
reading_whole name (Some input) left status.KeeperFault wanted stops ends read = absurd ends
reading_whole name (Some input) left status.ShelfFault wanted stops ends read = absurd ends
reading_whole name (Some input) left (status.BadShelf shelf) wanted stops ends read = absurd ends

pub apart_whole : (name : Name) (input left : Bytes) (end : Status) → TellsWanted name input → (end ≡ status.ReadFault → ⊥)
    → EndsApart most_wanted name input left end → EndsWhole end
apart_whole name input left end wanted read (inl lines) = reading_whole name input left end wanted lines.0 lines.1 read
apart_whole name input left end wanted read (inr none) = subst EndsWhole (sym none) tt
