-- What a running end did, in order (EN 15531-2 for what is said, RFC 9112 for how): its log, by the turns that it made and the messages
-- that it sent in each.
use Rattle.std.specs.Prelude.{ℕ, zero, suc, Bool, true, false, List, [], ◌∷◌, ◌++◌, length, Option, None, Some}
use Rattle.siri_outside.specs.OutsideCalls.{WhereTold}
use Rattle.siri_outside.specs.Wires.{Connection, Present, WireState}
use Rattle.siri_messages.specs.declared.message.Message.{Message}
use Rattle.siri_wire.specs.Canonical.{canonical}
use Rattle.siri_wire.specs.declared.wanted.Wanted.{Wanted}
use Rattle.siri_http.specs.Exchanges.{dialled}
use Rattle.siri_http.specs.Posts.{Posts}
use Rattle.siri_http.specs.Requests.{Meaning}
use Rattle.siri_http.specs.declared.tally.Tally.{Tally}
use Rattle.siri_ends.specs.At.{At, at_of}
use Rattle.siri_ends.specs.InTurn.{InTurn, most_sends}
use Rattle.siri_ends.specs.Manners.{Manner, Posting, brings_of, message_answered}
use Rattle.siri_ends.specs.Responses.{message_asked}
use Rattle.siri_ends.specs.TurnsTaken.{TakesTurn}
use Rattle.siri_runs.specs.Calls.{Told}
use Rattle.siri_runs.specs.Turns.{Running, Turn, Turns}

-- A thing that an end did. `by` is the place of a connection among all of its wire, in the order in which they came, counted from 0.
pub data Done : Type 0 where
  Began : (start moment : ℕ) → Done  -- it began, under the number of its start, at its first moment
  Asked : List Wanted → Done  -- a consumer asked for these
  Accepted : (by : ℕ) → Connection → Done  -- a connection came
  Dialled : (by : ℕ) → Connection → Done  -- one was dialled
  Given : (moment : ℕ) → Done  -- the clock told a moment
  Took : (by : ℕ) → Message → Done  -- a message that the connection brought
  Settled : Done  -- a producer did
  Said : (by : ℕ) → Message → Done  -- this was written to the connection, or a front of it

-- ---- one connection

-- the place of the connection that is there: so many are over
abbrev pub place : WireState → ℕ
place wire = length wire.over

abbrev pub place_of : Option WireState → ℕ
place_of None = 0
place_of (Some wire) = place wire

-- a connection that is there came so
abbrev pub came_at : (how : (by : ℕ) → Connection → Done) → (by : ℕ) → Option Present → List Done
came_at how by None = []
came_at how by (Some present) = how by present.left ∷ []

abbrev pub came : (how : (by : ℕ) → Connection → Done) → Option WireState → List Done
came how None = []
came how (Some wire) = came_at how (place wire) wire.present

-- a message is taken, where there is one
abbrev pub took : (by : ℕ) → Option Message → List Done
took by None = []
took by (Some message) = Took by message ∷ []

-- a message is said, where there is one
abbrev pub said : (by : ℕ) → Option Message → List Done
said by None = []
said by (Some message) = Said by message ∷ []

-- ---- how an end speaks

-- How an end takes part in the exchange; whether it settles once it took a message; what it replies to a message; which it takes of those
-- that are answered to its own; and of one that it sends where it goes, to a host with its port and a path, and what it says.
pub record Speaking (State M : Type 0) : Type 0 where
  pub manner : Manner State M
  pub settles : Bool
  pub reply : State → Message → Option Message
  pub hears : Message → Option Message
  pub target : M → Option (List ℕ × List ℕ)
  pub message : M → Message

abbrev pub settled : Bool → List Done
settled true = Settled ∷ []
settled false = []

module _ {State M : Type 0} (speaker : Speaking State M) where
  -- a message's exchange with where it goes, or the first steps of it
  abbrev pub posts : Posting M
  posts m outcome before after = WhereTold before after (Posts (speaker.target m) (canonical (speaker.message m)) outcome)

  -- of a connection that was accepted
  abbrev pub takes : (by : ℕ) → Option Message → List Done
  takes by message = took by message ++ settled speaker.settles

  -- of what is answered to a message of its own
  abbrev pub hears_if : (by : ℕ) → Option Message → List Done
  hears_if by None = []
  hears_if by (Some message) = takes by (Some message)

  abbrev pub heard : Option Message → Option Message
  heard None = None
  heard (Some message) = speaker.hears message

  abbrev pub replied : State → Option Message → Option Message
  replied state None = None
  replied state (Some message) = speaker.reply state message

  -- ---- messages that are sent

  -- the wire with the connection that a message goes over, where one is dialled
  abbrev pub dialled_for : Option (List ℕ × List ℕ) → Option WireState → Option WireState
  dialled_for None wire = None
  dialled_for (Some address) None = None
  dialled_for (Some address) (Some wire) = dialled address.0 wire

  -- a connection is dialled, the message is said, and what is answered is taken; nothing, where none is dialled
  abbrev pub exchange : Message → (answer : Option Message) → Option WireState → List Done
  exchange message answer None = []
  exchange message answer (Some there) =
      came_at Dialled (place there) there.present ++ (Said (place there) message ∷ hears_if (place there) (heard answer))

  -- messages that are sent one after the other
  unfoldable pub of_sends : (limit : ℕ) (list : List M) (at last : At State) → InTurn posts speaker.manner limit list at last → List Done
  unfolding InTurn
  of_sends zero list at last sends = []
  of_sends (suc limit) [] at last sends = []
  of_sends (suc limit) (first ∷ rest) at last sends =
      exchange (speaker.message first) (message_answered sends.0) (dialled_for (speaker.target first) at.wire)
      ++ of_sends limit (rest ++ brings_of speaker.manner first (message_answered sends.0) at.state) sends.1 last sends.3

  -- ---- a turn

  -- a connection that is there is answered, and what comes of it is sent
  abbrev pub of_answer : (asks : Meaning) (at last : At State) → TakesTurn asks posts speaker.manner at last → List Done
  of_answer asks at last turn =
      takes (place_of at.wire) (message_asked turn.asked)
      ++ (said (place_of at.wire) (replied at.state (message_asked turn.asked))
      ++ of_sends most_sends (speaker.manner.sends at.state turn.asked) turn.mid last turn.sends)

  -- ---- the turns of a run, of an end that is given a moment so; in a run it has a state, and a count

  module _ {Own : Type 0} (asks : Meaning) (given : ℕ → Own → Own) (state_of : Own → State) (tally_of : Own → Tally) where
    abbrev pub end_at : Own → Told WireState → At State
    end_at own wire = at_of (state_of own) (tally_of own) wire.tells wire.faults

    abbrev pub Answers : Own → Told WireState → Own → Told WireState → Type 0
    Answers from before to after = TakesTurn asks posts speaker.manner (end_at from before) (end_at to after)

    abbrev pub of_turn : (from to : Running Own) → Turn given Answers from to → List Done
    of_turn from to turn =
        came Accepted turn.wire.tells
        ++ (Given turn.moment
        ∷ of_answer asks (end_at (given turn.moment from.state) turn.wire) (end_at to.state to.outside.wire) turn.answers)

    unfoldable pub of_turns : (count : ℕ) (from to : Running Own) → Turns (Turn given Answers) count from to → List Done
    unfolding Turns
    of_turns zero from to turns = []
    of_turns (suc count) from to turns = of_turns count from turns.0 turns.1 ++ of_turn turns.0 to turns.2
