use Rattle.std.proofs.Common.{ap, ◌∙◌, subst}
use Rattle.siri_ends.specs.Pieces.{direct_head}
use Rattle.siri_ends.proofs.LentTexts.{items_first}
use Rattle.siri_ends.proofs.lending.put_topic.Goals as goal

pub returns-clause-takes : goal.returns-clause-takes
returns-clause-takes g c = λ h stands.
    subst (λ text. g.S.Sink.takes (c.args.sink.now, c.args.gathered.now.items)
    (c.put_items.new.sink, c.put_items.new.gathered.items) text c.put_items.result)
    (items_first c.item_pieces-pieces.result c.args.service _ _ c.item_pieces-pieces.ensures.service
    (c.item_pieces-pieces.ensures.head ∙ c.requires.head ∙ ap direct_head stands.responder.moment)
    c.item_pieces-pieces.ensures.stage (rw c.item_pieces-pieces.ensures.items (c.lend.ensures.lends h stands)))
    c.put_items.ensures.takes
