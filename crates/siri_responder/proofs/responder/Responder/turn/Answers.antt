use Rattle.std.proofs.Common.{ap, ◌∙◌}
use Rattle.siri_store.specs.Marked.{keys_since}
use Rattle.siri_responder.proofs.responder.Responder.turn.Goals as goal

pub returns-clause-fresh : goal.returns-clause-fresh
returns-clause-fresh c = ap (keys_since c.forget.new.self.log) c.forget.ensures.number ∙ c.forget.ensures.fresh _ c.turn.ensures.fresh
