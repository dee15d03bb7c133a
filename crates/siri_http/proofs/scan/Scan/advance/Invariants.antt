use Rattle.std.proofs.Common.{◌≡◌, ◌≤◌, ◌+◌, ◌++◌, ℕ, List, length}
use Rattle.siri_http.specs.inner.Scanning.{head_from}
use Rattle.siri_http.proofs.scan.Scan.advance.Given as goal

abbrev pub invariant-loop-piece : goal.invariant-loop-piece
invariant-loop-piece l = record {
  same : (rest : List ℕ) → head_from l.fn.self (l.fn.piece ++ rest) ≡ head_from l.self (l.piece ++ rest);
  some : l.self.full ≤ l.self.len;
  len : l.self.len + length l.piece ≡ l.fn.self.len + length l.fn.piece;
}

abbrev pub decreases-loop-piece : goal.decreases-loop-piece
decreases-loop-piece l = length l.piece
