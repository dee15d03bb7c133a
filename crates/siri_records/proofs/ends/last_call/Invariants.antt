use Rattle.std.proofs.Common.{◌≡◌, map, fold, take}
use Rattle.siri_records.specs.Ends as ends
use Rattle.siri_records.proofs.ends.last_call.Given as goal

abbrev pub invariant-loop-call : goal.invariant-loop-call
invariant-loop-call l = l.last ≡ fold ends.later l.fn.before (map ends.call_moment (take l.call-index l.calls))
