-- A text that is put piece by piece.
use Rattle.std.proofs.Common.{◌≡◌, ◌<◌, ◌+◌, ℕ, List, [], ◌++◌, length, Result, Ok, Err}
use Rattle.std.proofs.Common.{sym, ap, ◌∙◌, subst, append-nil, append_assoc, length-append, arith, drop, get_or}
use Rattle.std.specs.Prelude.{flat_map}
use Rattle.std.proofs.lemmas.List.{drop_more}
use Rattle.siri_http.specs.declared.errors.HttpError.{HttpError}
use Rattle.siri_http.specs.declared.errors.HttpError.TheVariants as http

module _ {S : Type 0} (takes : S → S → List ℕ → Result (Unit {0}) HttpError → Type 0) where
  -- a front of a text was put, and this is left of it
  pub record PutsFront (text left : List ℕ) (old now : S) : Type 0 where
    pub front : List ℕ
    pub parts : text ≡ front ++ left
    pub put : takes old now front (Ok tt)

  module _ (both : (x y z : S) (text more : List ℕ) (result : Result (Unit {0}) HttpError)
      → takes x y text (Ok tt) → takes y z more result → takes x z (text ++ more) result) where
    -- a piece more was put
    pub puts_more : (text left rest piece : List ℕ) (old now next : S) → PutsFront text left old now
        → left ≡ piece ++ rest
        → takes now next piece (Ok tt) → PutsFront text rest old next
    puts_more text left rest piece old now next puts is took = record {
      front = puts.front ++ piece;
      parts = puts.parts ∙ ap (λ l. puts.front ++ l) is ∙ sym (append_assoc puts.front piece rest);
      put = both old now next puts.front piece (Ok tt) puts.put took;
    }

    -- all was put
    pub puts_all : (text left : List ℕ) (old now : S) → PutsFront text left old now → left ≡ []
        → takes old now text (Ok tt)
    puts_all text left old now puts none =
        subst (λ l. takes old now l (Ok tt))
        (sym (puts.parts ∙ ap (λ l. puts.front ++ l) none ∙ append-nil puts.front)) puts.put

    -- a piece wasn't put whole
    pub puts_short :
        ((x y : S) (text more : List ℕ) (error : HttpError) → takes x y text (Err error)
        → takes x y (text ++ more) (Err error))
        → (text left rest piece : List ℕ) (error : HttpError) (old now next : S) → PutsFront text left old now
        → left ≡ piece ++ rest
        → takes now next piece (Err error) → takes old next text (Err error)
    puts_short first text left rest piece error old now next puts is took =
        subst (λ l. takes old next l (Err error))
        (sym (puts.parts ∙ ap (λ l. puts.front ++ l) is))
        (both old now next puts.front (piece ++ rest) (Err error) puts.put (first now next piece rest error took))

    -- memory was wanting for a piece
    pub puts_stop : ((s : S) (text : List ℕ) → takes s s text (Err http.OutOfMemory))
        → (text left : List ℕ) (old now : S) → PutsFront text left old now → takes old now text (Err http.OutOfMemory)
    puts_stop nothing text left old now puts =
        subst (λ l. takes old now l (Err http.OutOfMemory)) (sym puts.parts)
        (both old now now puts.front left (Err http.OutOfMemory) puts.put (nothing now left))

-- what is left grows shorter by a piece
pub shorter : (left rest piece : List ℕ) → left ≡ piece ++ rest → 0 < length piece → length rest < length left
shorter left rest piece is some = omega (arith, ap length is, length-append piece rest, some)

-- what is left of texts that are put one after the other
pub pieces_left : {P : Type 0} (text_of : P → List ℕ) (pieces : List P) (place : ℕ) (piece : P) → place < length pieces
    → piece ≡ get_or pieces place piece
    → flat_map text_of (drop place pieces) ≡ text_of piece ++ flat_map text_of (drop (place + 1) pieces)
pieces_left text_of pieces place piece less is =
    ap (flat_map text_of) (drop_more pieces place piece less)
    ∙ ap (λ p. text_of p ++ flat_map text_of (drop (place + 1) pieces)) (sym is)
