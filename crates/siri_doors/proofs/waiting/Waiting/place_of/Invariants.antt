use Rattle.std.proofs.Common.{◌≡◌, false, take}
use Rattle.siri_doors.specs.Decisions.{waits_in}
use Rattle.siri_doors.proofs.waiting.Waiting.place_of.Given as goal

-- none of those so far is in the slot
abbrev pub invariant-loop-place : goal.invariant-loop-place
invariant-loop-place l = waits_in l.slot (take l.place l.gathered-items) ≡ false
