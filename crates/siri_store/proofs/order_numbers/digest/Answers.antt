use Rattle.std.proofs.Common.{rules, take_all}
use Rattle.siri_store.proofs.Digests.{digest_is}
use Rattle.siri_store.proofs.order_numbers.digest.Goals as goal

pub returns-clause-digest : goal.returns-clause-digest
returns-clause-digest c = rw (digest_is c.args.start c.args.bytes.now) (search (rules, take_all))
