-- Inner words: cited by private functions alone. What doors in memory tell.
use Rattle.siri_doors.specs.Doors.{DoorsState}
use Rattle.siri_doors.specs.declared.in_memory.Served.{Served}
use Rattle.siri_outside.specs.Wires.{Ending, HungUp, Over, Present, Replaced, WireState, connections, unfailing, with_connection}
use Rattle.std.specs.Borrow.{Bor}
use Rattle.std.specs.Prelude.{◌≡◌, ℕ, List, [], ◌∷◌, ◌++◌, map, option_map, IsSome, Option, None, Some}

-- the connection that had its turn last, where it is still there
abbrev pub present_of : Option Served → Option Present
present_of None = None
present_of (Some last) = option_map (λ left. record { left = unfailing left.now; written = last.written.items }) last.left

-- how a connection ended that brings nothing any more, or still does
abbrev pub ending_of : Option (Bor (List ℕ)) → Ending
ending_of None = HungUp
ending_of (Some left) = Replaced

-- a connection that is over
abbrev pub over_of : Served → Over
over_of served = record { written = served.written.items; ending = ending_of served.left }

-- the connection that had its turn last, where it is over
abbrev pub last_over : Option Served → List Over
last_over None = []
last_over (Some last) = elim last.left [ None ↦ over_of last ∷ [] | Some left ↦ [] ]

-- the wire, by the connection that had its turn last, those before it, those to be dialled and the addresses
abbrev pub line_of : Option Served → (before : List Served) → (to_dial : List (Bor (List ℕ))) → (named : List (List ℕ)) → WireState
line_of last before to_dial named = record {
  to_accept = [];
  to_dial = connections to_dial;
  present = present_of last;
  over = map over_of before ++ last_over last;
  named = named;
  listen_fails = [];
  accept_fails = [];
  dial_fails = [];
}

-- what doors in memory tell, and how often they have failed
pub record InMemory : Type 0 where
  pub doors : DoorsState
  pub faults : ℕ

-- the connection in this slot has its turn
abbrev pub HasTurn : DoorsState → ℕ → Type 0
HasTurn doors slot = IsSome doors.line.present × (doors.slot ≡ slot)

-- a connection by which this is to be read has its turn
abbrev pub served : ℕ → List ℕ → DoorsState → DoorsState
served slot left doors = record doors { slot = slot; line = with_connection (unfailing left) doors.line }
