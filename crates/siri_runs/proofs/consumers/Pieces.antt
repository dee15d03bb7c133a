-- A text that is written piece by piece: of each entry of a list what it shows.
use Rattle.std.proofs.Common.{◌≡◌, ℕ, ◌+◌, List, [], ◌∷◌, ◌++◌, take, drop, Option, Some, None, refl, sym, ap, ◌∙◌, subst, append-nil, take-append-drop}
use Rattle.std.specs.Prelude.{flat_map, option_map, slice_get}
use Rattle.std.specs.Io.KnownBytes.{Appends}
use Rattle.std.proofs.KnownBytes.{Appends-trans}
use Rattle.std.proofs.lemmas.Grind.{flat_map-append}
use Rattle.siri_lines.specs.Ends.{Bytes, AppendsFront}
use Rattle.siri_lines.proofs.Written.{front_longer, front_more}
use Rattle.siri_records.proofs.Placed.{take_at, take_past}

module _ {X Y : Type 0} (shows : X → Y) (text : Y → List ℕ) where
  -- the texts of all entries
  abbrev pub texts : List X → List ℕ
  texts xs = flat_map (λ x. text (shows x)) xs

  piece_more : (xs : List X) (i : ℕ) (y : Y) → Some y ≡ option_map shows (slice_get xs i) → texts (take (i + 1) xs) ≡ texts (take i xs) ++ text y
  piece_more xs i y is = by (slice_get xs i) refl is
    where
      by : (o : Option X) → slice_get xs i ≡ o → Some y ≡ option_map shows o → texts (take (i + 1) xs) ≡ texts (take i xs) ++ text y
      by None there is = absurd (cc)
      by (Some x) there is =
          let same : y ≡ shows x = cc in
          ap texts (take_at xs i x there)
          ∙ flat_map-append (λ x. text (shows x)) (take i xs) (x ∷ [])
          ∙ ap (λ t. texts (take i xs) ++ t) (append-nil (text (shows x)) ∙ ap text (sym same))

  -- one more was written
  pub pieces_more : (a b c : Bytes) (xs : List X) (i : ℕ) (y : Y) → Some y ≡ option_map shows (slice_get xs i)
      → Appends a b (texts (take i xs)) → Appends b c (text y) → Appends a c (texts (take (i + 1) xs))
  pieces_more a b c xs i y is p q = subst (Appends a c) (sym (piece_more xs i y is)) (Appends-trans a b c (texts (take i xs)) (text y) p q)

  -- a front of the next was written
  pub pieces_cut : (a b c : Bytes) (xs : List X) (i : ℕ) (y : Y) → Some y ≡ option_map shows (slice_get xs i)
      → Appends a b (texts (take i xs)) → AppendsFront b c (text y) → AppendsFront a c (texts xs)
  pieces_cut a b c xs i y is p w =
      let front : AppendsFront a c (texts (take (i + 1) xs)) =
      subst (AppendsFront a c) (sym (piece_more xs i y is)) (front_more a b c (texts (take i xs)) (text y) p w) in
      let whole : texts (take (i + 1) xs) ++ texts (drop (i + 1) xs) ≡ texts xs =
      sym (flat_map-append (λ x. text (shows x)) (take (i + 1) xs) (drop (i + 1) xs))
      ∙ ap texts (take-append-drop (i + 1) xs) in
      subst (AppendsFront a c) whole (front_longer a c (texts (take (i + 1) xs)) (texts (drop (i + 1) xs)) front)

  -- nothing of the next was written
  pub pieces_begun : (a b : Bytes) (xs : List X) (i : ℕ) → Appends a b (texts (take i xs)) → AppendsFront a b (texts xs)
  pieces_begun a b xs i p = record {
    front = texts (take i xs);
    rest = texts (drop i xs);
    parts = sym (sym (flat_map-append (λ x. text (shows x)) (take i xs) (drop i xs)) ∙ ap texts (take-append-drop i xs));
    written = p;
  }

  -- there is no further entry
  pub pieces_all : (a b : Bytes) (xs : List X) (i : ℕ) → None ≡ option_map shows (slice_get xs i) → Appends a b (texts (take i xs)) → Appends a b (texts xs)
  pieces_all a b xs i is p = by (slice_get xs i) refl is
    where
      by : (o : Option X) → slice_get xs i ≡ o → None ≡ option_map shows o → Appends a b (texts xs)
      by None there is = subst (Appends a b) (ap texts (take_past xs i there)) p
      by (Some x) there is = absurd (cc)
