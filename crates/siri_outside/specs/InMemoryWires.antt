-- Inner words: cited by private functions alone. What the wires in memory tell.
use Rattle.siri_outside.specs.InMemoryLines.{connection_of}
use Rattle.siri_outside.specs.Wires.{WireState, connections}
use Rattle.siri_outside.specs.declared.in_memory.wire.FailingWire.{FailingWire}
use Rattle.siri_outside.specs.declared.in_memory.wire.InMemoryWire.{InMemoryWire}
use Rattle.std.specs.Prelude.{map}

abbrev pub in_memory : InMemoryWire → WireState
in_memory wire = record wire.line.wire { to_accept = connections wire.to_accept.now; to_dial = connections wire.to_dial.now }

abbrev pub failing : FailingWire → WireState
failing wire = record wire.line.wire { to_accept = map connection_of wire.to_accept.now; to_dial = map connection_of wire.to_dial.now }
