use Rattle.std.proofs.Common.{◌≡◌, take}
use Rattle.siri_producer.specs.Oldest.{oldest_look}
use Rattle.siri_producer.proofs.leaving.oldest_look.Given as goal

abbrev pub invariant-loop-place : goal.invariant-loop-place
invariant-loop-place l = l.oldest ≡ oldest_look l.most (take l.place l.table)
