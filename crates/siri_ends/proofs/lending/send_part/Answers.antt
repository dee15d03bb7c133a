use Rattle.std.proofs.Common.{◌++◌, ◌∙◌, subst, false}
use Rattle.siri_http.specs.Texts.{head_text}
use Rattle.siri_ends.specs.Sinks.{WritesText}
use Rattle.siri_ends.proofs.lending.send_part.Goals as goal

pub returns-in-Some-clause-told : goal.returns-in-Some-clause-told
returns-in-Some-clause-told g c =
    subst (λ text. WritesText (head_text 200 false c.args.measured.now.length ++ text) c.send_text.result
    (g.W.Wire.tells c.args.wire.now) (g.W.Wire.tells c.send_text.new.wire)
    (g.W.Wire.faults c.args.wire.now) (g.W.Wire.faults c.send_text.new.wire))
    (c.deref.ensures.value ∙ (rw c.in-Some.is at c.requires.measured.1))
    c.send_text.ensures.told
