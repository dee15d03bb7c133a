use Rattle.std.proofs.Common.{arith}
use Rattle.siri_records.proofs.Edited.{set_is}
use Rattle.siri_records.proofs.entries.replace.Goals as goal

pub returns-clause-items : goal.returns-clause-items
returns-clause-items c = set_is _ _ _ _ (omega (arith, c.requires)) c.index_mut.ensures.value
