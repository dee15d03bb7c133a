use Rattle.std.proofs.Common.{◌-◌, ◌≤◌, ◌<◌, length, false}
use Rattle.siri_outside.specs.MetFailures.{SourceMeets}
use Rattle.std.specs.Io.KnownBytes.{Consumes}
use Rattle.siri_document.proofs.document.read_document.Given as goal

abbrev pub invariant-loop-piece : goal.invariant-loop-piece
invariant-loop-piece g l = record {
  taken : Consumes (g.S.Source.left l.fn.source) (g.S.Source.left l.source) l.document.items;
  bound : length l.document.items ≤ 8388609;
  room : 0 < length l.piece.items;
  later : g.S.Source.faults l.fn.source ≤ g.S.Source.faults l.source;
  meets : SourceMeets false (g.S.Source.left l.fn.source) (g.S.Source.left l.source) (g.S.Source.fails l.fn.source) (g.S.Source.fails l.source);
}

abbrev pub decreases-loop-piece : goal.decreases-loop-piece
decreases-loop-piece g l = 8388609 - length l.document.items
