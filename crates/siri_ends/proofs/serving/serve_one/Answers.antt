use Rattle.siri_ends.specs.Serving.{ServesOne}
use Rattle.siri_ends.proofs.Taking.{only_goes}
use Rattle.siri_ends.proofs.serving.serve_one.Goals as goal

pub returns-in-Ok-clause-ok : goal.returns-in-Ok-clause-ok
returns-in-Ok-clause-ok g c = only_goes _ _ (λ name. ServesOne g.A.Asking.asks name) _ _ _ c.in-Ok.ensures.ok
