use Rattle.std.proofs.Common.{◌≡◌, ◌++◌, map}
use Rattle.siri_relay_run.specs.declared.going.Going.TheVariants as going
use Rattle.siri_relay_run.proofs.taking.goings.Given as goal

abbrev pub invariant-loop-message : goal.invariant-loop-message
invariant-loop-message l = l.list ≡ map going.Up l.yielded

abbrev pub invariant-loop-out : goal.invariant-loop-out
invariant-loop-out l = l.list ≡ map going.Up l.fn.up ++ map going.Down l.yielded
