use Rattle.std.proofs.Common.{arith}
use Rattle.siri_records.proofs.Edited.{set_is, keys_set}
use Rattle.siri_view.proofs.Restarted.{restarted_at_is}
use Rattle.siri_view.proofs.holdings.restart_at.Goals as goal

pub returns-clause-items : goal.returns-clause-items
returns-clause-items c = rw c.restart.ensures
    (restarted_at_is c.args.number c.args.entries.now.items c.args.at c.index_mut-entry.result.now
    (omega (arith, c.requires)) c.index_mut-entry.ensures.value)

pub returns-clause-keys : goal.returns-clause-keys
returns-clause-keys c = rw (set_is c.args.entries.now.items c.args.at c.index_mut-entry.result.now c.restart.new.self
    (omega (arith, c.requires)) c.index_mut-entry.ensures.value)
    (keys_set c.args.entries.now.items c.args.at c.restart.new.self)
