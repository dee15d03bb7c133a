use Rattle.std.proofs.Common.{None, Some}
use Rattle.siri_subs.specs.Lent.{entry_of}
use Rattle.siri_producer.proofs.Lent.{own_is}
use Rattle.siri_producer.proofs.lending.part_of.Goals as goal

pub returns-in-Some-clause-part : goal.returns-in-Some-clause-part
returns-in-Some-clause-part c = own_is (entry_of c.args.row.now) (Some c.in-Some.part) c.in-Some.ensures.sent

pub returns-in-None-clause-part : goal.returns-in-None-clause-part
returns-in-None-clause-part c = own_is (entry_of c.args.row.now) None c.in-None.ensures.sent
