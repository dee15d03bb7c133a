-- A turn of an end, whichever it is: the wire's count never falls, and none of the connections that are still to come is taken.
use Rattle.std.proofs.Common.{◌≤◌, ℕ, zero, suc, List, [], ◌∷◌, ◌++◌, Option, None, Some, ap, sym, subst, arith}
use Rattle.std.specs.Prelude.{IsSomeAnd}
use Rattle.siri_outside.specs.Wires.{WireState}
use Rattle.siri_http.specs.Requests.{Asks, Meaning}
use Rattle.siri_http.specs.Texts.{response_text}
use Rattle.siri_http.specs.declared.posting.Sent.{Sent}
use Rattle.siri_ends.specs.declared.response.Response.{Response}
use Rattle.siri_ends.specs.Answering.{AnswersWith}
use Rattle.siri_ends.specs.At.{At, Surroundings, around}
use Rattle.siri_ends.specs.InTurn.{InTurn, most_sends}
use Rattle.siri_ends.specs.Manners.{Manner, Posting, brings_of, message_answered}
use Rattle.siri_ends.specs.TurnsTaken.{TakesTurn}
use Rattle.siri_runs.specs.Enough.{HasConnections}
use Rattle.siri_runs.proofs.Enough.{HasAccepted}
use Rattle.siri_runs.proofs.Exchanges.{hung_up_only, read_only, response_only}

answer_later : (response : Option Response) (at mid : Surroundings) → AnswersWith response at mid → at.faults ≤ mid.faults
answer_later None at mid answers = answers.later
answer_later (Some response) at mid answers = answers.cause.later

answer_only : (response : Option Response) (n : ℕ) (at mid : Surroundings) → IsSomeAnd at.wire (HasAccepted n)
    → AnswersWith response at mid → IsSomeAnd mid.wire (HasConnections n)
answer_only None n at mid has answers = hung_up_only n at.wire mid.wire has answers.told
answer_only (Some response) n at mid has answers = response_only
    (response_text response.status response.plain response.body) answers.whole n at.wire mid.wire has answers.told

module _ {State M : Type 0} (Posts : Posting M) (manner : Manner State M) where
  pub sends_later : (limit : ℕ) (list : List M) (at end : At State) → InTurn Posts manner limit list at end → at.faults ≤ end.faults
  unfolding InTurn
  sends_later zero list at end is = omega (arith, ap (λ (a : At State). a.faults) is)
  sends_later (suc limit) [] at end is = omega (arith, ap (λ (a : At State). a.faults) is)
  sends_later (suc limit) (message ∷ rest) at end some =
      omega (arith, some.2.cause.later, sends_later limit (rest ++ brings_of manner message (message_answered some.0) at.state) some.1 end some.3)

  pub turn_later : (asks : Meaning) (at end : At State) → TakesTurn asks Posts manner at end → at.faults ≤ end.faults
  turn_later asks at end turn =
      omega (
        arith,
        turn.answers.reads.cause.later,
        answer_later (manner.responds at.state turn.asked) turn.answers.read (around turn.mid) turn.answers.answers,
        sends_later most_sends (manner.sends at.state turn.asked) turn.mid end turn.sends,
      )

  module _ (posts_only : (message : M) (outcome : Sent) (n : ℕ) (old new : Option WireState)
      → IsSomeAnd old (HasConnections n) → Posts message (Some outcome) old new → IsSomeAnd new (HasConnections n)) where
    pub sends_only : (limit n : ℕ) (list : List M) (at end : At State) → IsSomeAnd at.wire (HasConnections n)
        → InTurn Posts manner limit list at end → IsSomeAnd end.wire (HasConnections n)
    unfolding InTurn
    sends_only zero n list at end has is = subst (λ (a : At State). IsSomeAnd a.wire (HasConnections n)) (sym is) has
    sends_only (suc limit) n [] at end has is = subst (λ (a : At State). IsSomeAnd a.wire (HasConnections n)) (sym is) has
    sends_only (suc limit) n (message ∷ rest) at end has some =
        sends_only limit n (rest ++ brings_of manner message (message_answered some.0) at.state) some.1 end
        (posts_only message some.0 n at.wire some.1.wire has some.2.told) some.3

    pub turn_only : (asks : Meaning) (n : ℕ) (at end : At State) → IsSomeAnd at.wire (HasAccepted n)
        → TakesTurn asks Posts manner at end → IsSomeAnd end.wire (HasConnections n)
    turn_only asks n at end has turn =
        let read = read_only (Asks asks (Some turn.asked)) n at.wire turn.answers.read.wire has turn.answers.reads.told in
        let answered = answer_only (manner.responds at.state turn.asked) n turn.answers.read (around turn.mid) read turn.answers.answers in
        sends_only most_sends n (manner.sends at.state turn.asked) turn.mid end answered turn.sends
