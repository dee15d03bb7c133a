use Rattle.siri_view.specs.Marks.{mark_by}
use Rattle.siri_view.proofs.Taken.{applied_to}
use Rattle.siri_view.proofs.subscribed.Subscribed.apply.Goals as goal

pub returns-clause-ok : goal.returns-clause-ok
returns-clause-ok c =
    rw c.new.ensures (applied_to c.args.self.now (mark_by c.args.mark) c.args.last c.requires.wanted _ c.self.view_is
    c.put_round.new.view _ _ c.in_ok-changes.ensures c.is_anew-is_anew.ensures c.in_ok-put_round.ensures.ok)
