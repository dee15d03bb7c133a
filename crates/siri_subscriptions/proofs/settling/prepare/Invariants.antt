use Rattle.std.proofs.Common.{◌≡◌, ◌+◌, ◌≤◌, take}
use Rattle.siri_model.specs.Followed.{look_bounds}
use Rattle.siri_subscriptions.specs.Again.{AreTouched}
use Rattle.siri_subscriptions.specs.Looked.{followed_rows}
use Rattle.siri_subscriptions.proofs.Planned.{IsPlan}
use Rattle.siri_subscriptions.proofs.settling.prepare.Given as goal

abbrev pub invariant-loop-place : goal.invariant-loop-place
invariant-loop-place l = record {
  plan : IsPlan l.initial.responder (take l.place l.table) l.outs l.dues.items;
  touched : AreTouched l.responder l.touched;
  rest : l.responder ≡ record l.initial.responder { reads = l.responder.reads };
  risen : l.initial.responder.reads ≤ l.responder.reads;
  bound : l.responder.reads ≤ l.initial.responder.reads
      + look_bounds l.initial.responder.moment l.initial.responder.held
      (followed_rows l.initial.responder.marks (take l.place l.table));
}
