use Rattle.siri_row_texts.proofs.Asked.{each_alone}
use Rattle.siri_row_texts.proofs.laws.each_request_alone_is_proper.Goals as goal

pub returns : goal.returns
returns c = each_alone
