-- What is read of a connection that was gathered.
use Rattle.siri_doors.specs.Gathered.{Asking}
use Rattle.siri_doors.specs.Gathers.{Prospect, served_of, wire_of}
use Rattle.siri_doors.specs.declared.turn.Turn.TheVariants.{Asked}
use Rattle.siri_outside.specs.OutsideCalls.{WhereTold}
use Rattle.siri_outside.specs.Wires.{Present, Reads, TakesBytes}
use Rattle.std.specs.Prelude.{option_map, Ok}
use Rattle.std.proofs.Common.{◌≡◌, ◌+◌, ◌<◌, min, ℕ, zero, suc, List, [], ◌∷◌, ◌++◌, length, take, drop, Option, None, Some, refl, sym, ap, ◌∙◌, arith, take-append-drop}
use Rattle.std.proofs.lemmas.List.{nil_from_length}

-- ---- what is read of a connection that was gathered

drop_more : {X : Type 0} → (n m : ℕ) (l : List X) → drop (n + m) l ≡ drop m (drop n l)
drop_more zero m l = let e : 0 + m ≡ m = omega arith in ap (λ k. drop k l) e
drop_more (suc n) zero [] = let e : suc n + 0 ≡ suc n = omega arith in ap (λ k. drop k []) e
drop_more (suc n) (suc m) [] = let e : suc n + suc m ≡ suc (n + suc m) = omega arith in ap (λ k. drop k []) e
drop_more (suc n) m (x ∷ l) = let e : suc n + m ≡ suc (n + m) = omega arith in ap (λ k. drop k (x ∷ l)) e ∙ drop_more n m l

module _ (asking : Asking) (given more count : ℕ) (buffer : List ℕ) where
  consumes : take count buffer ≡ take count (drop given asking.bytes) → more ≡ given + count
      → drop given asking.bytes ≡ take count buffer ++ drop more asking.bytes
  consumes bytes is =
      sym (take-append-drop count (drop given asking.bytes)) ∙ ap (λ l. l ++ drop count (drop given asking.bytes)) (sym bytes)
      ∙ ap (λ l. take count buffer ++ l) (sym (drop_more given count asking.bytes)) ∙ ap (λ n. take count buffer ++ drop n asking.bytes) (sym is)

  at_end : count ≡ min (length buffer) (length (drop given asking.bytes)) → more ≡ given + count → count ≡ 0 → 0 < length buffer
      → drop more asking.bytes ≡ []
  at_end least is none some =
      let same : more ≡ given = omega arith in
      let empty : length (drop given asking.bytes) ≡ 0 = omega arith in
      ap (λ n. drop n asking.bytes) same ∙ nil_from_length (drop given asking.bytes) empty

  takes : (E : Type 0) (present : Option Present) → count ≡ min (length buffer) (length (drop given asking.bytes))
      → take count buffer ≡ take count (drop given asking.bytes) → more ≡ given + count
      → WhereTold (option_map (served_of (Asked asking given)) present) (option_map (served_of (Asked asking more)) present)
      (λ before after. TakesBytes {E = E} before after (Ok count) buffer)
  takes E None least bytes is = tt
  takes E (Some present) least bytes is = record {
    bytes = (consumes bytes is, at_end least is);
    fails = (refl, λ due. absurd due);
    unwritten = refl;
    written = refl;
  }

  pub reads_gathered : (E : Type 0) (p : Option Prospect) → count ≡ min (length buffer) (length (drop given asking.bytes))
      → take count buffer ≡ take count (drop given asking.bytes) → more ≡ given + count
      → WhereTold (option_map (wire_of (Asked asking given)) p) (option_map (wire_of (Asked asking more)) p)
      (λ old new. Reads {E = E} old new (Ok count) buffer)
  reads_gathered E None least bytes is = tt
  reads_gathered E (Some p) least bytes is = record { present = takes E p.line.present least bytes is; rest = refl }
