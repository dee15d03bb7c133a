use Rattle.std.proofs.Common.{◌≡◌, drop}
use Rattle.siri_keep.specs.RowByRow.{request_at}
use Rattle.siri_keep.proofs.kept_requests.request_at.Given as goal

-- it is none of those so far
abbrev pub invariant-loop-kept : goal.invariant-loop-kept
invariant-loop-kept l = request_at (drop l.kept-index l.requests) l.place ≡ request_at l.fn.requests l.place
