use Rattle.std.proofs.Common.{arith}
use Rattle.std.proofs.lemmas.Result.{on_ok_weaker}
use Rattle.siri_records.proofs.Edited.{set_is, keys_set}
use Rattle.siri_view.proofs.Places.{taken_at_is}
use Rattle.siri_view.specs.Marks.{mark_by}
use Rattle.siri_view.proofs.holdings.take_at.Goals as goal

pub returns-clause-ok : goal.returns-clause-ok
returns-clause-ok c = on_ok_weaker c.take.result
    (λ is. rw is (taken_at_is (mark_by c.args.mark) c.args.more c.args.part c.args.entries.now.items c.args.at
    c.index_mut-entry.result.now (omega (arith, c.requires.place)) c.index_mut-entry.ensures.value)) c.take.ensures.ok

pub returns-clause-keys : goal.returns-clause-keys
returns-clause-keys c = rw (set_is c.args.entries.now.items c.args.at c.index_mut-entry.result.now c.take.new.self
    (omega (arith, c.requires.place)) c.index_mut-entry.ensures.value)
    (keys_set c.args.entries.now.items c.args.at c.take.new.self)
