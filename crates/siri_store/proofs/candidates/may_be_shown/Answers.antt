use Rattle.std.proofs.Common.{ap, sym, ◌∙◌}
use Rattle.std.specs.Ordering.{is_eq}
use Rattle.siri_store.proofs.Sides.{middle_is}
use Rattle.siri_store.proofs.candidates.may_be_shown.Goals as goal

pub returns : goal.returns
returns c = c.is_eq.ensures ∙ (ap is_eq c.side.ensures ∙ sym (middle_is c.args.topic.now c.args.key.now))
