use Rattle.std.proofs.Common.{◌≡◌, drop}
use Rattle.siri_outside.specs.Rows.{HasByteTables, with_puts}
use Rattle.siri_outside.proofs.puts.after_puts.Given as goal

abbrev pub invariant-loop-put : goal.invariant-loop-put
invariant-loop-put l =
    (with_puts l.after (drop l.put-index l.list) ≡ with_puts l.fn.rows l.list) × (HasByteTables l.fn.rows → HasByteTables l.after)
