use Rattle.std.proofs.Common.{◌≡◌, ◌++◌, ◌∷◌, [], List, sym, ap, ◌∙◌, subst}
use Rattle.json.specs.Token.{Token, key, begin_object, end_object}
use Rattle.json.specs.Print.{print}
use Rattle.siri_deliveries.specs.declared.frame.FramePiece.{FramePiece}
use Rattle.siri_deliveries.specs.declared.frame.FramePiece.TheVariants as piece
use Rattle.siri_deliveries.specs.declared.names.TheConstants.{SIRI, SERVICE_DELIVERY}
use Rattle.siri_deliveries.specs.Frame.{GoesOn, filled_text}
use Rattle.siri_wire.proofs.Framed.{frame_said, goes_from, opening}
use Rattle.siri_wire.proofs.frame.reply_frame.Goals as goal

pub returns-clause-text : goal.returns-clause-text
returns-clause-text c d same =
    let opened : c.key-2.new.self ≡ opening =
    c.in_ok-key-2.ensures.ok
    ∙ ap (λ (o : List Token). o ++ key SERVICE_DELIVERY.now ∷ []) (c.in_ok-begin_object-2.ensures.ok
    ∙ ap (λ (o : List Token). o ++ begin_object ∷ []) (c.in_ok-key.ensures.ok
    ∙ ap (λ (o : List Token). o ++ key SIRI.now ∷ []) (c.in_ok-begin_object.ensures.ok
    ∙ ap (λ (o : List Token). o ++ begin_object ∷ []) c.new-out.ensures))) in
    let begins : GoesOn d c.new-pieces.result c.key-2.new.self opening =
    subst (λ (ps : List FramePiece). GoesOn d ps c.key-2.new.self opening) (sym c.new-pieces.ensures)
    (subst (λ (o : List Token). GoesOn d [] o opening) (sym opened) (goes_from d opening)) in
    let goes = c.in_ok-write_frame.ensures.text d opening same begins in
    let ended : c.end_object-2.new.self ≡ (c.write_frame.new.out ++ end_object ∷ []) ++ end_object ∷ [] =
    c.in_ok-end_object-2.ensures.ok ∙ ap (λ (o : List Token). o ++ end_object ∷ []) c.in_ok-end_object.ensures.ok in
    ap (filled_text d) (c.in_ok-cut.ensures.pieces ∙ ap (λ (o : List Token). c.write_frame.new.pieces ++ piece.Text (print o) ∷ []) ended)
    ∙ frame_said d c.write_frame.new.pieces c.write_frame.new.out goes
