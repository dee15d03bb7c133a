use Rattle.std.proofs.Common.{◌≡◌, ◌<◌, ◌+◌, ◌++◌, ◌∷◌, [], ℕ, suc, List, true, length, refl, sym, ap, ◌∙◌, subst}
use Rattle.std.proofs.Common.{arith}
use Rattle.std.specs.List.{list_all}
use Rattle.siri_deliveries.specs.Frame.{deliveries_of, filled_text, is_of}
use Rattle.siri_deliveries.specs.declared.frame.FramePiece.{FramePiece}
use Rattle.siri_deliveries.specs.declared.frame.FramePiece.TheVariants as piece
use Rattle.siri_deliveries.proofs.Framed.{place_further, place_there, rest_of, there_push}
use Rattle.siri_deliveries.proofs.frame.further_places.Goals as goal

one_more : (n : ℕ) → n + 1 ≡ suc n
one_more n = omega arith

pub loop-place-preserved : goal.loop-place-preserved
loop-place-preserved c =
    let s = c.args.service in
    let ps = c.loop-place.pieces in
    let place = c.loop-place.place in
    let below = c.loop-place-test.true in
    let two : List FramePiece = (ps ++ piece.Text (44 ∷ []) ∷ []) ++ piece.Delivery s place ∷ [] in
    let whole : c.push-in-loop-place.new.self ≡ two =
    c.in_ok-push-2.ensures.ok
    ∙ ap (λ (p : List FramePiece). p ++ piece.Delivery s place ∷ [])
    (c.in_ok-push.ensures.ok ∙ ap (λ (t : List ℕ). ps ++ piece.Text t ∷ []) c.in_ok-comma.ensures) in (
      (λ d count us.
          let within : place < length (deliveries_of s d) = omega arith in
          ap (λ (p : List FramePiece). filled_text d p ++ rest_of s d (place + 1) us) whole
          ∙ ap (λ (n : ℕ). filled_text d two ++ rest_of s d n us) (one_more place)
          ∙ place_further d s ps place within us
          ∙ c.loop-place.invariant.0 d count us),
      (λ d count all.
          let within : place < length (deliveries_of s d) = omega arith in
          subst (λ (p : List FramePiece). list_all (is_of d) p ≡ true) (sym whole)
          (there_push d (ps ++ piece.Text (44 ∷ []) ∷ []) (piece.Delivery s place)
          (there_push d ps (piece.Text (44 ∷ [])) (c.loop-place.invariant.1 d count all) refl)
          (place_there d s place within))),
    )
