-- What wires in memory tell, by what they are made of and what they hold.
use Rattle.siri_outside.specs.Failures.{IsDue}
use Rattle.siri_outside.specs.Wires.{Connection, Ending, HungUp, Over, Present, Replaced, WireState, accept_called, dial_called, new_wire, with_connection}
use Rattle.siri_outside.specs.declared.errors.OutsideError.{OutsideError}
use Rattle.siri_outside.specs.declared.errors.OutsideError.TheVariants as outside
use Rattle.siri_outside.specs.declared.in_memory.line.FailingCalls.{FailingCalls}
use Rattle.siri_outside.specs.declared.in_memory.line.FailingConnection.{FailingConnection}
use Rattle.siri_outside.specs.declared.in_memory.line.Taken.{Taken}
use Rattle.siri_outside.specs.declared.in_memory.source.FailingSource.{FailingSource}
use Rattle.std.specs.Prelude.{◌≡◌, ◌⊎◌, ℕ, List, [], ◌∷◌, ◌++◌, map, option_map, Option, None, Some, Result, Ok, Err}

-- a connection with its failures
abbrev pub connection_of : FailingConnection → Connection
connection_of connection = record {
  input = connection.input.now;
  read_fails = connection.read_fails.now;
  write_fails = connection.write_fails.now;
}

-- a wire with these connections to come and to be dialled, whose calls fail so, that has done nothing yet
abbrev pub with_failures : FailingCalls → (to_accept to_dial : List Connection) → WireState
with_failures calls to_accept to_dial = record (new_wire [] []) {
  to_accept = to_accept;
  to_dial = to_dial;
  listen_fails = calls.listen.now;
  accept_fails = calls.accept.now;
  dial_fails = calls.dial.now;
}

-- ---- inner words, cited by private functions alone

-- what a line tells, which has no connections to come or to be dialled, and how often it has failed
pub record LineState : Type 0 where
  pub wire : WireState
  pub faults : ℕ

-- the connection that was taken last, where it is still there
abbrev pub present_of : Option Taken → Option Present
present_of None = None
present_of (Some last) =
    option_map (λ source. record {
      left = record {
        input = source.bytes.now;
        read_fails = source.failures;
        write_fails = last.sink.failures;
      };
      written = last.sink.bytes.items;
    }) last.source

-- how a connection ended that brings nothing any more, or still does
abbrev pub ending_of : Option FailingSource → Ending
ending_of None = HungUp
ending_of (Some source) = Replaced

-- a connection that is over
abbrev pub over_of : Taken → Over
over_of taken = record { written = taken.sink.bytes.items; ending = ending_of taken.source }

-- the connection that was taken last, where it is over
abbrev pub last_over : Option Taken → List Over
last_over None = []
last_over (Some last) = elim last.source [ None ↦ over_of last ∷ [] | Some source ↦ [] ]

-- what a line tells, by the connection that was taken last, those before it, the addresses and the failures
abbrev pub line_wire : Option Taken → (before : List Taken) → (named : List (List ℕ)) → (listen_fails accept_fails dial_fails : List ℕ) → WireState
line_wire last before named listen_fails accept_fails dial_fails = record {
  to_accept = [];
  to_dial = [];
  present = present_of last;
  over = map over_of before ++ last_over last;
  named = named;
  listen_fails = listen_fails;
  accept_fails = accept_fails;
  dial_fails = dial_fails;
}

-- an address was named
abbrev pub named : List ℕ → WireState → WireState
named address wire = record wire { named = wire.named ++ address ∷ [] }

-- a call that takes this connection, where there is one, fails exactly where a failure is due or there is none
abbrev pub TakesNext : {T : Type 0} → List ℕ → Option Connection → (old called new : WireState) → Result T OutsideError → Type 0
TakesNext fails None old called new (Ok done) = ⊥
TakesNext fails (Some next) old called new (Ok done) = (¬ IsDue fails) × (new ≡ with_connection next called)
TakesNext fails next old called new (Err outside.Failed) = (IsDue fails ⊎ (next ≡ None)) × (new ≡ called)
TakesNext fails next old called new (Err outside.OutOfMemory) = new ≡ old

abbrev pub AcceptsNext : {T : Type 0} → Option Connection → WireState → WireState → Result T OutsideError → Type 0
AcceptsNext next old new result = TakesNext old.accept_fails next old (accept_called old) new result

abbrev pub DialsNext : {T : Type 0} → Option Connection → List ℕ → WireState → WireState → Result T OutsideError → Type 0
DialsNext next address old new result = TakesNext old.dial_fails next old (dial_called address old) new result
