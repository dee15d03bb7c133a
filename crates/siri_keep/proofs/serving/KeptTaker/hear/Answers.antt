use Rattle.std.proofs.Common.{refl}
use Rattle.std.proofs.lemmas.Result.{IfOk-weaker}
use Rattle.siri_keep.specs.declared.kept.Kept.{Kept}
use Rattle.siri_keep.proofs.KeptTurns.{heard}
use Rattle.siri_keep.proofs.serving.KeptTaker.hear.Goals as goal

pub returns-clause-hears : goal.returns-clause-hears
returns-clause-hears g c =
    let old : Kept = c.args.self.now in
    IfOk-weaker c.hear.result _ _
    (λ more hears. heard g.B.Shelf.tells c.args.sent.now c.args.message more old (record old { producer = c.hear.new.self }) c.requires refl
    hears) c.hear.ensures.hears
