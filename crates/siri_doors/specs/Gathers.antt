-- The wire that a gatherer tells, by what its doors tell.
use Rattle.siri_doors.specs.Decisions.{decided, outcomes, refusals, slots, turns}
use Rattle.siri_doors.specs.Doors.{DoorsState}
use Rattle.siri_doors.specs.Gathered.{Asking}
use Rattle.siri_doors.specs.declared.event.Event.{Event}
use Rattle.siri_doors.specs.declared.outcome.Outcome.{Outcome}
use Rattle.siri_doors.specs.declared.outcome.Outcome.TheVariants.{Decides, Refuses, Waits}
use Rattle.siri_doors.specs.declared.queue.Queue.{Queue}
use Rattle.siri_doors.specs.declared.turn.Turn.{Turn}
use Rattle.siri_doors.specs.declared.turn.Turn.TheVariants.{Asked, Dialled, Nobody}
use Rattle.siri_outside.specs.OutsideCalls.{WhereTold}
use Rattle.siri_outside.specs.Wires.{Connection, Present, WireState, unfailing}
use Rattle.siri_outside.specs.declared.errors.OutsideError.{OutsideError}
use Rattle.std.specs.Prelude.{◌≡◌, ℕ, Bool, List, [], ◌∷◌, ◌++◌, drop, map, option_map, option_to_list, Option, Result, Ok, Err}

-- a connection that is decided, as a run reads it: its bytes so far, and then the end
abbrev pub as_read : Asking → Connection
as_read asking = unfailing asking.bytes

-- The wire over doors: the connections come in the order in which they are decided, each with its bytes so far.
abbrev pub wire_over : (List ℕ → Bool) → DoorsState → WireState
wire_over whole doors = record doors.line { to_accept = map as_read (turns whole doors.coming); accept_fails = [] }

-- ---- in the midst

-- What is to come of doors: the connections that have their turns, in order, and all slots that are refused, those so far too; and the
-- slot of the connection that has its turn, or had it last.
pub record Prospect : Type 0 where
  pub line : WireState
  pub slot : ℕ
  pub turns : List Asking
  pub refused : List ℕ

-- what is to come by who waits, by what was decided and not done yet, and by the events that aren't seen yet
abbrev pub prospect_by : (List ℕ → Bool) → List Asking → Outcome → List Event → (refused : List ℕ) → (slot : ℕ) → WireState → Prospect
prospect_by whole waiting outcome unseen refused slot line = record {
  line = line;
  slot = slot;
  turns = decided (outcome ∷ outcomes whole waiting unseen);
  refused = refused ++ refusals (outcome ∷ outcomes whole waiting unseen);
}

abbrev pub prospect_of : (List ℕ → Bool) → Queue → DoorsState → Prospect
prospect_of whole queue doors =
    prospect_by whole queue.waiting queue.outcome (option_to_list queue.unseen ++ doors.coming) doors.refused doors.slot doors.line

abbrev pub prospect : (List ℕ → Bool) → Queue → Option DoorsState → Option Prospect
prospect whole queue doors = option_map (prospect_of whole queue) doors

-- the same is to come
abbrev pub Stays : Option Prospect → Option Prospect → Type 0
Stays before now = WhereTold before now (λ old new. new ≡ old)

-- no connection is to come
abbrev pub IsOver : Option Prospect → Option Prospect → Type 0
IsOver before now = WhereTold before now (λ old new. new.turns ≡ [])

-- The first connection that is decided has its turn, in its slot, and each slot is refused that was to be. After an error the same is
-- to come as before.
abbrev pub TakesTurn : {T : Type 0} → Prospect → Prospect → Result T OutsideError → Type 0
TakesTurn old new (Ok done) = (slots old.turns ≡ new.slot ∷ slots new.turns) × (new.refused ≡ old.refused)
TakesTurn old new (Err error) = new ≡ old

-- what is left of the connection that has its turn: of one that was gathered, the bytes that weren't given
abbrev pub left_of : Turn → Connection → Connection
left_of Nobody left = left
left_of (Asked asking given) left = record left { input = drop given asking.bytes; read_fails = [] }
left_of (Dialled slot) left = left

abbrev pub served_of : Turn → Present → Present
served_of turn present = record present { left = left_of turn present.left }

-- the wire by what is to come and by whose turn it is
abbrev pub wire_of : Turn → Prospect → WireState
wire_of turn prospect = record prospect.line {
  to_accept = map as_read prospect.turns;
  present = option_map (served_of turn) prospect.line.present;
  accept_fails = [];
}

-- a connection has its turn, and is open
abbrev pub HasTurn : (ℕ → Type 0) → Turn → Type 0
HasTurn IsOpen Nobody = ⊥
HasTurn IsOpen (Asked asking given) = IsOpen asking.slot
HasTurn IsOpen (Dialled slot) = IsOpen slot

-- a connection is decided
abbrev pub IsDecided : Outcome → Type 0
IsDecided Waits = ⊥
IsDecided (Decides asking) = Unit {0}
IsDecided (Refuses slot) = ⊥
