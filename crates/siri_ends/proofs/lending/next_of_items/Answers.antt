use Rattle.siri_ends.proofs.Lends.{if_ok}
use Rattle.siri_ends.proofs.LentTexts.{items_next}
use Rattle.siri_ends.proofs.lending.next_of_items.Goals as goal

pub returns-clause-text : goal.returns-clause-text
returns-clause-text c = if_ok c.next_piece.result _ _
    (λ piece step. items_next c.args.pieces.now c.next_piece.new.self piece step c.next_piece.ensures.service
    c.next_piece.ensures.head)
    c.next_piece.ensures.steps
