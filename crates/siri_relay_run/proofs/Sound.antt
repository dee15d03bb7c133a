-- What is known of the procedure of `relay`: why it doesn't open, and what its opening and its turns leave.
use Rattle.std.proofs.Common.{◌≡◌, ◌⊎◌, ℕ, List, [], ◌∷◌, Option, None, Some, refl, sym, ap, subst, arith, inl, inr}
use Rattle.std.specs.Prelude.{IsSomeAnd, Ok}
use Rattle.siri_base.specs.declared.status.Status.{Status}
use Rattle.siri_base.specs.declared.status.Status.TheVariants as status
use Rattle.siri_outside.specs.Wires.{WireState}
use Rattle.siri_http.specs.Requests.{post_alone}
use Rattle.siri_http.specs.Tallies.{nothing_yet}
use Rattle.siri_http.specs.Texts.{request_text}
use Rattle.siri_http.specs.declared.posting.Sent.{Sent}
use Rattle.siri_life.specs.Named.{Name}
use Rattle.siri_lines.specs.Ends.{Bytes}
use Rattle.siri_wire.specs.Canonical.{canonical}
use Rattle.siri_ends.specs.At.{at_of}
use Rattle.siri_ends.specs.InTurn.{most_sends}
use Rattle.siri_ends.specs.Serving.{target_of}
use Rattle.siri_runs.specs.Calls.{Outside}
use Rattle.siri_runs.specs.Enough.{EndsWhole, HasConnections, HasEnough, HasMoments}
use Rattle.siri_runs.specs.Errors.{status_of}
use Rattle.siri_runs.specs.Run.{ByError}
use Rattle.siri_runs.specs.Turns.{Running}
use Rattle.siri_runs.specs.consumers.Reading.{EndsReading, StopsAt, Wants, is_of_source}
use Rattle.siri_runs.specs.consumers.Wanting.{all_wanted}
use Rattle.siri_runs.proofs.Causes.{CallFails, HasReason, IsMemory, Later}
use Rattle.siri_runs.proofs.Enough.{HasTurns, opened_with}
use Rattle.siri_runs.proofs.Exchanges.{post_only, post_to_only}
use Rattle.siri_runs.proofs.Run.{IsSound}
use Rattle.siri_runs.proofs.TurnsTaken.{sends_later, sends_only, turn_later, turn_only}
use Rattle.siri_runs.proofs.consumers.Sound.{memory_reason, reading_reason}
use Rattle.siri_relay_run.specs.Made.{EndsAtLines}
use Rattle.siri_relay_run.specs.Opening.{FailsToOpen, begun}
use Rattle.siri_relay_run.specs.Passing.{Passing, end_at}
use Rattle.siri_relay_run.specs.Relays.{PostsGoing, relaying}
use Rattle.siri_relay_run.specs.Runs.{BeginsRelaying, FailsToAsk, TellsOne, first_sent, relay_procedure}
use Rattle.siri_relay_run.specs.declared.going.Going.{Going}
use Rattle.siri_relay_run.specs.declared.going.Going.TheVariants as going

-- ---- where it doesn't open

-- its lines ended it, or memory was wanting
abbrev pub EndsApart : Name → (input left : Bytes) → Status → Type 0
EndsApart name input left end = EndsAtLines name input left end ⊎ (end ≡ status.OutOfMemory)

opening_fails : (name listen : List ℕ) (target : List ℕ × List ℕ) (input left : Bytes) (end : Status) (from to : Outside)
    → FailsToOpen name listen input left end from to ⊎ FailsToAsk name listen target input end from to
    → ByError (CallFails listen) end from to ⊎ EndsApart name input left end
opening_fails name listen target input left end from to (inl (inl raise)) = inl (record { error = raise.error; end_is = raise.end_is; fails = inl raise.raises })
opening_fails name listen target input left end from to (inl (inr (inl read))) = inr (inl (inl (read.stops, read.ends)))
opening_fails name listen target input left end from to (inl (inr (inr (inl nothing)))) = inr (inl (inr (nothing.end_is, nothing.wants)))
opening_fails name listen target input left end from to (inl (inr (inr (inr (inl fails))))) =
    inl (record { error = fails.error; end_is = fails.end_is; fails = inr (inl fails.listens) })
opening_fails name listen target input left end from to (inl (inr (inr (inr (inr (inl tell)))))) =
    inl (record { error = tell.error; end_is = tell.end_is; fails = inr (inr tell.tells) })
opening_fails name listen target input left end from to (inl (inr (inr (inr (inr (inr none)))))) = inr (inr none.end_is)
opening_fails name listen target input left end from to (inr ask) = inr (inr ask.end_is)

apart_reason : (name : Name) (input left : Bytes) (from to : Outside) (end : Status) → EndsApart name input left end
    → HasReason is_of_source from to end
apart_reason name input left from to end (inl (inl read)) = reading_reason from to end read.1
apart_reason name input left from to end (inl (inr nothing)) =
    subst (HasReason is_of_source from to) (sym nothing.0) refl
apart_reason name input left from to end (inr none) = memory_reason from to end none

-- ---- where it opens

posted_only : (host path : List ℕ) (message : Going) (outcome : Sent) (n : ℕ) (old new : Option WireState)
    → IsSomeAnd old (HasConnections n) → PostsGoing host path message (Some outcome) old new → IsSomeAnd new (HasConnections n)
posted_only host path (going.Up message) outcome n old new has told =
    post_only host (request_text host path (canonical message)) outcome n old new has told
posted_only host path (going.Down out) outcome n old new has told = post_to_only (target_of out.address) _ outcome n old new has told

module _ (name listen : List ℕ) (target : List ℕ × List ℕ) (input : Bytes) (from : Outside) (first : Running Passing)
    (begins : BeginsRelaying name listen target input from first) where
  -- what it asks for at first lowers no count
  asked_later : Later from first.outside
  asked_later =
      let asks = begins.asks in
      let sent = sends_later (PostsGoing target.0 target.1) (relaying name) most_sends
      (first_sent name listen begins.start begins.moment begins.wanted)
      (at_of (begun name listen begins.start begins.moment begins.wanted) nothing_yet begins.open_.wire.tells begins.open_.wire.faults)
      (end_at first.state first.outside.wire) asks.sends in
      record {
        wire = omega (arith, begins.opens.listens.cause.later, sent);
        clock = omega (arith, begins.opens.tells.cause.later, ap (λ (o : Outside). o.clock.faults) asks.rest);
      }

  -- and takes no connection that is still to come
  asked_only : (count : ℕ) → HasEnough count from → HasTurns count first.outside
  asked_only count has =
      let asks = begins.asks in
      let has_turns = opened_with count begins.moment listen from begins.open_ has begins.opens.listens begins.opens.tells in
      record {
        connections = sends_only (PostsGoing target.0 target.1) (relaying name) (posted_only target.0 target.1) most_sends count
            (first_sent name listen begins.start begins.moment begins.wanted)
            (at_of (begun name listen begins.start begins.moment begins.wanted) nothing_yet begins.open_.wire.tells begins.open_.wire.faults)
            (end_at first.state first.outside.wire) has_turns.connections asks.sends;
        moments = subst (λ (o : Outside). IsSomeAnd o.clock.tells (HasMoments count)) (sym asks.rest) has_turns.moments;
      }

pub relay_is_sound : (name listen : List ℕ) (target : List ℕ × List ℕ) (input left : Bytes)
    → IsSound (relay_procedure name listen target input left) listen (EndsApart name input left) IsMemory
relay_is_sound name listen target input left = record {
  fails = opening_fails name listen target input left;
  apart = apart_reason name input left;
  own = record { refuses = λ e state refuses. refuses; stops = λ e state before after stops. stops.0 };
  own_reason = λ from to e is. memory_reason from to (status_of e) (ap status_of is);
  opens_later = asked_later name listen target input;
  opens_only = λ count from first has begins. asked_only name listen target input from first begins count has;
  later = λ from before to after passes.
      turn_later (PostsGoing target.0 target.1) (relaying name) post_alone (end_at from before) (end_at to after) passes;
  only = λ n from before to after has passes. turn_only (PostsGoing target.0 target.1) (relaying name)
      (posted_only target.0 target.1) post_alone n (end_at from before) (end_at to after) has passes;
}

-- ---- where there is enough

-- a source that tells one good line doesn't end it, unless it fails
reading_whole : (name : Name) (input left : Bytes) (end : Status) → TellsOne name input → StopsAt 1 name input left end
    → EndsReading end → (end ≡ status.ReadFault → ⊥) → EndsWhole end
reading_whole name None left end wanted stops ends read = absurd wanted
reading_whole name (Some input) left (status.Script n why) wanted stops ends read = absurd (cc (wanted.1, stops))
reading_whole name (Some input) left (status.Limit n) wanted stops ends read = absurd (cc (wanted.1, stops))
reading_whole name (Some input) left status.ReadFault wanted stops ends read = absurd (read refl)
reading_whole name (Some input) left status.OutOfMemory wanted stops ends read = tt
reading_whole name (Some input) left status.Done wanted stops ends read = absurd ends
reading_whole name (Some input) left status.Refused wanted stops ends read = absurd ends
reading_whole name (Some input) left status.Usage wanted stops ends read = absurd ends
reading_whole name (Some input) left status.WireFault wanted stops ends read = absurd ends
reading_whole name (Some input) left status.WriteFault wanted stops ends read = absurd ends
reading_whole name (Some input) left status.ClockFault wanted stops ends read = absurd ends
reading_whole name (Some input) left status.KeeperFault wanted stops ends read = absurd ends
reading_whole name (Some input) left status.ShelfFault wanted stops ends read = absurd ends
reading_whole name (Some input) left (status.BadShelf shelf) wanted stops ends read = absurd ends

-- a source that tells a line that wants something wants something
wants_not_nothing : (name : Name) (input : Bytes) → TellsOne name input → Wants 1 name input [] → ⊥
wants_not_nothing name None wanted wants = wanted
wants_not_nothing name (Some input) wanted wants =
    let one : all_wanted 1 name input ≡ Ok (wanted.0 ∷ []) = wanted.1 in
    let none : all_wanted 1 name input ≡ Ok [] = subst (λ (bytes : List ℕ). all_wanted 1 name bytes ≡ Ok []) (sym wants.read) wants.are in
    cc (one, none)

pub apart_whole : (name : Name) (input left : Bytes) (end : Status) → TellsOne name input → (end ≡ status.ReadFault → ⊥)
    → EndsApart name input left end → EndsWhole end
apart_whole name input left end wanted read (inl (inl lines)) = reading_whole name input left end wanted lines.0 lines.1 read
apart_whole name input left end wanted read (inl (inr nothing)) = absurd (wants_not_nothing name input wanted nothing.1)
apart_whole name input left end wanted read (inr none) = subst EndsWhole (sym none) tt
