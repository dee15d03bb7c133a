-- A turn of an end: a connection is answered, and then messages are sent.
use Rattle.std.specs.Prelude.{◌≡◌, ◌⊎◌, Option, Some}
use Rattle.siri_outside.specs.Wires.{WireState}
use Rattle.siri_http.specs.Connections.{OnConnection}
use Rattle.siri_http.specs.Requests.{Asks, Meaning}
use Rattle.siri_http.specs.declared.asked.Asked.{Asked}
use Rattle.siri_ends.specs.Answering.{AnswersWith, Reads, StopsAnswering}
use Rattle.siri_ends.specs.At.{At, Surroundings, around}
use Rattle.siri_ends.specs.EndCalls.{StopsAsked}
use Rattle.siri_ends.specs.InTurn.{FirstSends, SendsAll}
use Rattle.siri_ends.specs.Manners.{Manner, Posting}

-- The connection that is there is answered: its request is read, which asks so where it is whole; its message is taken,
-- where it brings one, and the answer is written.
pub record Answers {State M : Type 0} (asks : Meaning) (manner : Manner State M) (asked : Asked)
    (at mid : At State) : Type 0 where
  pub read : Surroundings
  pub reads : Reads asks asked (around at) read
  pub answers : AnswersWith (manner.responds at.state asked) read (around mid)
  pub state : mid.state ≡ manner.after at.state asked

-- a connection is answered, and what comes of it is sent
pub record TakesTurn {State M : Type 0} (asks : Meaning) (Posts : Posting M) (manner : Manner State M)
    (at end : At State) : Type 0 where
  pub asked : Asked
  pub mid : At State
  pub answers : Answers asks manner asked at mid
  pub sends : SendsAll Posts manner (manner.sends at.state asked) mid end

-- where memory was wanting in a turn: the first steps of its answer were made, or its answer and the first sends
abbrev pub StopsTurn : {State M : Type 0} → (asks : Meaning) → Posting M → Manner State M → At State
    → (after : Option WireState) → Type 0
StopsTurn asks Posts manner at after =
    StopsAnswering asks (manner.responds at.state) at.wire after
    ⊎ ((asked : Asked) × (mid : At _) × Answers asks manner asked at mid
    × FirstSends Posts manner (manner.sends at.state asked) mid.state mid.wire after)

-- ---- what a turn does beside its end, whatever comes of it

-- after a connection asked this: nothing was answered, or a front of the answer, or all of it, and then the first sends, if any
abbrev pub AnswersSome : {State M : Type 0} → Posting M → Manner State M → Asked → State → (read after : Option WireState) → Type 0
AnswersSome Posts manner asked state read after =
    StopsAsked (manner.responds state asked) read after
    ⊎ ((at mid : Surroundings) × (at.wire ≡ read) × AnswersWith (manner.responds state asked) at mid
    × FirstSends Posts manner (manner.sends state asked) (manner.after state asked) mid.wire after)

-- Until the request is read, nothing is done there. What a connection asked may be there then; and it is there before anything
-- is answered, by whatever state the end stands for.
abbrev pub LeavesBeside : {State M : Type 0} → (asks : Meaning) → Posting M → Manner State M → (stands : State → Type 0)
    → (Same : Type 0) → (May Has : Asked → Type 0) → (before after : Option WireState) → Type 0
LeavesBeside {State = State} asks Posts manner stands Same May Has before after =
    (Same × (outcome : Option Asked) × OnConnection (Asks asks outcome) before after)
    ⊎ ((asked : Asked) × (read : Option WireState) × OnConnection (Asks asks (Some asked)) before read × May asked
    × ((after ≡ read) ⊎ (Has asked × ((s : State) → stands s → AnswersSome Posts manner asked s read after))))
