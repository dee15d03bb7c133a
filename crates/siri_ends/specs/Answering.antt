-- A connection that is answered, whichever end does it (RFC 9112).
use Rattle.std.specs.Prelude.{◌≡◌, ◌⊎◌, ◌≤◌, Bool, Option, None, Some, if◌then◌else◌}
use Rattle.siri_outside.specs.OutsideCalls.{WhereTold}
use Rattle.siri_outside.specs.Wires.{WireState, hung_up}
use Rattle.siri_http.specs.Connections.{OnConnection}
use Rattle.siri_http.specs.Texts.{response_text}
use Rattle.siri_http.specs.ExchangeCauses.{HasAskedCause, HasResponseCause}
use Rattle.siri_http.specs.Requests.{Asks, Meaning}
use Rattle.siri_http.specs.Responses.{Responds}
use Rattle.siri_http.specs.Tallies.{with_served, with_refused, with_dropped}
use Rattle.siri_http.specs.declared.asked.Asked.{Asked}
use Rattle.siri_http.specs.declared.tally.Tally.{Tally}
use Rattle.siri_ends.specs.declared.response.Response.{Response}
use Rattle.siri_ends.specs.At.{Surroundings}

-- a connection more was served; it counts as refused where it is answered a refusal, and as dropped where its answer
-- wasn't written whole
abbrev pub answered_tally : (refused whole : Bool) → Tally → Tally
answered_tally refused whole tally =
    let told : Tally = if refused then with_refused (with_served tally) else with_served tally in
    if whole then told else with_dropped told

-- a connection whose request didn't come whole counts as dropped
abbrev pub dropped_tally : Tally → Tally
dropped_tally tally = with_dropped (with_served tally)

-- a response is written, as far as the connection takes it
pub record Writes (response : Response) (at mid : Surroundings) : Type 0 where
  pub whole : Bool
  pub told : WhereTold at.wire mid.wire
      (Responds (response_text response.status response.plain response.body) (Some whole))
  pub cause : HasResponseCause at.faults mid.faults (Some whole)
  pub tally : mid.tally ≡ answered_tally response.plain whole at.tally

-- nothing is written
pub record HangsUp (at mid : Surroundings) : Type 0 where
  pub told : WhereTold at.wire mid.wire (λ old new. new ≡ hung_up old)
  pub later : at.faults ≤ mid.faults
  pub tally : mid.tally ≡ dropped_tally at.tally

-- the connection that is there is answered, and it is over
abbrev pub AnswersWith : Option Response → (at mid : Surroundings) → Type 0
AnswersWith None at mid = HangsUp at mid
AnswersWith (Some response) at mid = Writes response at mid

-- what the connection that is there asks is read, where a request that is whole asks so
pub record Reads (asks : Meaning) (asked : Asked) (at mid : Surroundings) : Type 0 where
  pub told : OnConnection (Asks asks (Some asked)) at.wire mid.wire
  pub cause : HasAskedCause at.faults mid.faults (Some asked)
  pub tally : mid.tally ≡ at.tally

-- where memory was wanting for an answer, a front of it was written
abbrev pub StopsWriting : Option Response → (before after : Option WireState) → Type 0
StopsWriting None before after = ⊥
StopsWriting (Some response) before after = WhereTold before after
    (Responds (response_text response.status response.plain response.body) None)

-- where memory was wanting before the connection was answered: some of its request was read, or all of it and a front
-- of the answer was written, if any
abbrev pub StopsAnswering : (asks : Meaning) → (answer : Asked → Option Response)
    → (before after : Option WireState) → Type 0
StopsAnswering asks answer before after =
    OnConnection (Asks asks None) before after
    ⊎ ((asked : Asked) × (read : Option WireState) × OnConnection (Asks asks (Some asked)) before read
    × ((after ≡ read) ⊎ StopsWriting (answer asked) read after))
