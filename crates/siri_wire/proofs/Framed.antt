-- The frame of a reply, filled, is the whole document.
use Rattle.std.proofs.Common.{◌≡◌, List, [], ◌∷◌, ◌++◌, refl, sym, ap, ◌∙◌, append_assoc}
use Rattle.json.specs.Token.{Token, key, begin_object, end_object}
use Rattle.json.specs.Print.{print}
use Rattle.siri_json.specs.Tokens.{tokens_of}
use Rattle.siri_messages.specs.declared.deliveries.ServiceDelivery.{ServiceDelivery}
use Rattle.siri_messages.specs.declared.message.Message.TheVariants as message
use Rattle.siri_deliveries.specs.declared.frame.FramePiece.{FramePiece}
use Rattle.siri_deliveries.specs.declared.frame.FramePiece.TheVariants as piece
use Rattle.siri_deliveries.specs.declared.names.TheConstants.{SIRI, SERVICE_DELIVERY}
use Rattle.siri_deliveries.specs.Deliveries.{written_service_delivery}
use Rattle.siri_deliveries.specs.Frame.{GoesOn, filled_text}
use Rattle.siri_deliveries.proofs.Framed.{filled_push}
use Rattle.siri_wire.specs.Canonical.{canonical, written_body}
use Rattle.siri_wire.proofs.InOrder.{message_in_order, message_said}

-- what stands before the message's own object
abbrev pub opening : List Token
opening = ((([] ++ begin_object ∷ []) ++ key SIRI.now ∷ []) ++ begin_object ∷ []) ++ key SERVICE_DELIVERY.now ∷ []

pub goes_from : (d : ServiceDelivery) (out : List Token) → GoesOn d [] out out
goes_from d out later = refl

regroup_end : (ts : List Token) (e f : Token) → ts ++ e ∷ f ∷ [] ≡ (ts ++ e ∷ []) ++ f ∷ []
regroup_end ts e f = simp append_assoc

pub frame_said : (d : ServiceDelivery) (ps : List FramePiece) (out : List Token) → GoesOn d ps out (opening ++ tokens_of (written_service_delivery d))
    → filled_text d (ps ++ piece.Text (print ((out ++ end_object ∷ []) ++ end_object ∷ [])) ∷ []) ≡ canonical (message.ServiceDelivery d)
unfolding written_body
frame_said d ps out goes =
    filled_push d ps (piece.Text (print ((out ++ end_object ∷ []) ++ end_object ∷ [])))
    ∙ ap (λ ts. filled_text d ps ++ print ts) (sym (regroup_end out end_object end_object))
    ∙ goes (end_object ∷ end_object ∷ [])
    ∙ ap print (regroup_end (opening ++ tokens_of (written_service_delivery d)) end_object end_object ∙ message_in_order [] (message.ServiceDelivery d))
    ∙ message_said (message.ServiceDelivery d)
