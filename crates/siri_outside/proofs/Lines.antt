-- What went by the connections of a wire in memory.
use Rattle.std.specs.Prelude.{option_map, option_to_list, slice_get}
use Rattle.std.proofs.Common.{◌≡◌, ℕ, zero, suc, List, [], ◌∷◌, ◌++◌, length, map, Option, None, Some, refl, sym, ap, ◌∙◌, append-nil, arith}
use Rattle.std.proofs.lemmas.List.{map-append}
use Rattle.std.proofs.lemmas.Option.{slice_get-map}
use Rattle.siri_outside.specs.InMemoryLines.{last_over, line_wire, over_of}
use Rattle.siri_outside.specs.Wires.{Over, Present, texts}
use Rattle.siri_outside.specs.declared.in_memory.line.Taken.{Taken}
use Rattle.siri_outside.specs.declared.in_memory.source.FailingSource.{FailingSource}

-- what went by a connection
abbrev pub bytes_of : Taken → List ℕ
bytes_of taken = taken.sink.bytes.items

over_bytes : (before : List Taken) → map (λ (over : Over). over.written) (map over_of before) ≡ map bytes_of before
over_bytes [] = refl
over_bytes (taken ∷ before) = ap (λ texts. bytes_of taken ∷ texts) (over_bytes before)

-- the texts by whether the connection that was taken last is still there
abbrev texts_by : Taken → Option FailingSource → List Taken → List (List ℕ)
texts_by last source before =
    map (λ (over : Over). over.written) (map over_of before ++ elim source [ None ↦ over_of last ∷ [] | Some source ↦ [] ])
    ++ option_to_list (option_map (λ source. bytes_of last) source)

texts_by_bytes : (last : Taken) (source : Option FailingSource) (before : List Taken)
    → texts_by last source before ≡ map bytes_of before ++ bytes_of last ∷ []
texts_by_bytes last None before =
    append-nil _ ∙ map-append (λ (over : Over). over.written) (map over_of before) (over_of last ∷ [])
    ∙ ap (λ texts. texts ++ bytes_of last ∷ []) (over_bytes before)
texts_by_bytes last (Some source) before =
    ap (λ over. map (λ (over : Over). over.written) over ++ bytes_of last ∷ []) (append-nil (map over_of before))
    ∙ ap (λ texts. texts ++ bytes_of last ∷ []) (over_bytes before)

written_by : (last : Taken) (source : Option FailingSource)
    → option_to_list (option_map (λ (present : Present). present.written) (option_map (λ source. record {
      left = record { input = source.bytes.now; read_fails = source.failures; write_fails = last.sink.failures };
      written = bytes_of last;
    }) source)) ≡ option_to_list (option_map (λ source. bytes_of last) source)
written_by last None = refl
written_by last (Some source) = refl

line_texts : (last : Option Taken) (before : List Taken) → texts (line_wire last before [] [] [] []) ≡ map bytes_of (before ++ option_to_list last)
line_texts None before =
    append-nil _ ∙ ap (map (λ (over : Over). over.written)) (append-nil (map over_of before)) ∙ over_bytes before
    ∙ ap (map bytes_of) (sym (append-nil before))
line_texts (Some last) before =
    ap (λ texts. map (λ (over : Over). over.written) (map over_of before ++ last_over (Some last)) ++ texts) (written_by last last.source)
    ∙ texts_by_bytes last last.source before ∙ sym (map-append bytes_of before (last ∷ []))

-- what went by the connection at a place
pub line_text : (last : Option Taken) (before : List Taken) (place : ℕ)
    → slice_get (texts (line_wire last before [] [] [] [])) place ≡ option_map bytes_of (slice_get (before ++ option_to_list last) place)
line_text last before place =
    ap (λ texts. slice_get texts place) (line_texts last before) ∙ slice_get-map bytes_of (before ++ option_to_list last) place

-- ---- places of a list with one more

pub in_front : {X : Type 0} (xs ys : List X) (x : X) (place : ℕ) → slice_get xs place ≡ Some x → slice_get (xs ++ ys) place ≡ Some x
in_front [] ys x place is = absurd (cc is)
in_front (y ∷ xs) ys x zero is = is
in_front (y ∷ xs) ys x (suc place) is = in_front xs ys x place is

pub at_end : {X : Type 0} (xs : List X) (x : X) (place : ℕ) → place ≡ length xs → slice_get (xs ++ x ∷ []) place ≡ Some x
at_end [] x zero is = refl
at_end [] x (suc place) is = absurd (cc is)
at_end (y ∷ xs) x zero is = absurd (cc is)
at_end (y ∷ xs) x (suc place) is = at_end xs x place (omega (arith, is))

pub past_end : {X : Type 0} (xs : List X) (x : X) (place : ℕ) → slice_get xs place ≡ None → (place ≡ length xs → ⊥)
    → slice_get (xs ++ x ∷ []) place ≡ None
past_end [] x zero none other = absurd (other refl)
past_end [] x (suc place) none other = refl
past_end (y ∷ xs) x zero none other = absurd (cc none)
past_end (y ∷ xs) x (suc place) none other = past_end xs x place none (λ is. other (ap suc is))
