use Rattle.std.proofs.Common.{◌≡◌, ◌≤◌}
use Rattle.std.specs.Prelude.{IsSome}
use Rattle.siri_doors.specs.Gathers.{Stays, prospect}
use Rattle.siri_doors.proofs.gather.Gather.gather.Given as goal

-- the same is to come as at first
abbrev pub invariant-loop : goal.invariant-loop
invariant-loop g l = record {
  stays : Stays (prospect (g.P.Patience.whole l.fn.self.patience) l.fn.self.queue (g.D.Doors.tells l.fn.self.doors))
      (prospect (g.P.Patience.whole l.self.patience) l.self.queue (g.D.Doors.tells l.self.doors));
  rest : l.self ≡ record l.fn.self { doors = l.self.doors; queue = l.self.queue };
  later : g.D.Doors.faults l.fn.self.doors ≤ g.D.Doors.faults l.self.doors;
  counted : IsSome (g.D.Doors.tells l.fn.self.doors) → g.D.Doors.faults l.self.doors ≡ g.D.Doors.faults l.fn.self.doors;
}
