use Rattle.std.proofs.Common.{refl}
use Rattle.std.proofs.lemmas.Result.{on_ok_weaker}
use Rattle.siri_keep.proofs.Steps.{settle_goes}
use Rattle.siri_keep.proofs.kept.Kept.settle.Goals as goal

pub returns-clause-ok : goal.returns-clause-ok
returns-clause-ok c = λ not_closed. on_ok_weaker c.settle.result
    (λ goes. settle_goes c.args.self.now (record c.args.self.now { producer = c.settle.new.self }) refl c.settle.ensures.name goes)
    c.settle.ensures.ok
