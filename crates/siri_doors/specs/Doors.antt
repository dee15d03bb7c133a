-- Doors: what doors that tell what they hold do.
use Rattle.siri_base.specs.declared.errors.OutOfMemory.{OutOfMemory}
use Rattle.siri_doors.specs.declared.event.Event.{Event}
use Rattle.siri_outside.specs.Wires.{Dials, WireState, unfailing, with_connection}
use Rattle.siri_outside.specs.declared.errors.OutsideError.{OutsideError}
use Rattle.siri_outside.specs.declared.errors.OutsideError.TheVariants as outside
use Rattle.std.specs.Prelude.{◌≡◌, ℕ, List, [], ◌∷◌, ◌++◌, Result, Ok, Err}

-- What doors tell: the events to come, in order; the slots that were refused, in order; the slot of the connection that has its turn,
-- or had it last; and the wire of the connections that have their turns, one after the other. None comes by that wire: who comes is
-- told by the events.
pub record DoorsState : Type 0 where
  pub coming : List Event
  pub refused : List ℕ
  pub slot : ℕ
  pub line : WireState

-- a call that is of the connection that has its turn
abbrev pub OnLine : (WireState → WireState → Type 0) → DoorsState → DoorsState → Type 0
OnLine Does old new = Does old.line new.line × (new ≡ record old { line = new.line })

-- A call of `next` takes the first event to come, and fails exactly where none is to come. Want of memory leaves all as it was, here
-- and below.
abbrev pub GivesEvent : DoorsState → DoorsState → Result Event OutsideError → Type 0
GivesEvent old new (Ok event) = (old.coming ≡ event ∷ new.coming) × (new ≡ record old { coming = new.coming })
GivesEvent old new (Err outside.Failed) = (old.coming ≡ []) × (new ≡ old)
GivesEvent old new (Err outside.OutOfMemory) = new ≡ old

-- the connection in this slot has its turn, and nothing was written to it yet
abbrev pub with_turn : ℕ → DoorsState → DoorsState
with_turn slot doors = record doors { slot = slot; line = with_connection (unfailing []) doors.line }

-- a call of `turn` never fails otherwise
abbrev pub GivesTurn : {T : Type 0} → ℕ → DoorsState → DoorsState → Result T OutOfMemory → Type 0
GivesTurn slot old new (Ok done) = new ≡ with_turn slot old
GivesTurn slot old new (Err error) = new ≡ old

-- a call of `refuse` refuses the connection in this slot
abbrev pub Refuses : {T : Type 0} → ℕ → DoorsState → DoorsState → Result T OutOfMemory → Type 0
Refuses slot old new (Ok done) = new ≡ record old { refused = old.refused ++ slot ∷ [] }
Refuses slot old new (Err error) = new ≡ old

-- the slot of the connection that has its turn after a call of `dial`
abbrev pub slot_after : ℕ → Result ℕ OutsideError → ℕ
slot_after before (Ok slot) = slot
slot_after before (Err error) = before

-- a call of `dial` takes the first connection to be dialled, in the slot that it gives
abbrev pub DialsSlot : List ℕ → DoorsState → DoorsState → Result ℕ OutsideError → Type 0
DialsSlot address old new result =
    Dials address old.line new.line result × (new ≡ record old { slot = slot_after old.slot result; line = new.line })
