use Rattle.std.proofs.Common.{◌∙◌}
use Rattle.siri_document.proofs.Texts.{utf8_where}
use Rattle.siri_document.proofs.script.lines.is_text.Goals as goal

pub returns : goal.returns
returns c = c.is_ok.ensures.value ∙ utf8_where _ c.args.line.now c.from_utf8.result c.from_utf8.ensures.cases
