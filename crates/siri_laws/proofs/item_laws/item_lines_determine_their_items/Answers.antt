use Rattle.siri_laws.proofs.ItemLines.{same_lines}
use Rattle.siri_laws.proofs.item_laws.item_lines_determine_their_items.Goals as goal

pub returns : goal.returns
returns c = same_lines
