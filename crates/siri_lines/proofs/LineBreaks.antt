-- The lines of a text that comes in parts.
use Rattle.std.proofs.Common.{◌≡◌, ℕ, zero, suc, ◌+◌, ◌-◌, ◌≤◌, ◌<◌, List, [], ◌∷◌, ◌++◌, Bool, true, false, cond, eqb, refl, sym, ap, ◌∙◌}
use Rattle.std.proofs.Common.{append_assoc, append-nil, length, take, drop, map, arith, add-one, subst, length-append, inl, inr}
use Rattle.std.proofs.Math.Seq.{take-length}
use Rattle.std.specs.Prelude.{slice_index, ◌==◌}
use Rattle.std.specs.List.{slice_split, onto_first}
use Rattle.std.specs.Str.Lines.{lines, lines_of_parts, strip_carriage_return}
use Rattle.std.proofs.lemmas.Bool.{lt-ltb}
use Rattle.std.proofs.lemmas.Bool.Decides.{eqb_tells}
use Rattle.std.proofs.lemmas.List.{length-take-le}
use Rattle.siri_base.specs.declared.status.Status.TheVariants as status
use Rattle.siri_lines.specs.RunResult.{Events, ends_with, report_from, verdict, longest_line}
use Rattle.siri_lines.specs.Ends.{AreWholeLines, HasNoBreak}

abbrev is_break : ℕ → Bool
is_break b = eqb b 10

abbrev parts_of : List ℕ → List (List ℕ)
parts_of = slice_split is_break

-- there is a first part
some_part : (bs : List ℕ) → (y : List ℕ) × (more : List (List ℕ)) × (parts_of bs ≡ y ∷ more)
some_part [] = ([], [], refl)
some_part (b ∷ bs) =
    let (y, more, e) = some_part bs in
    elim (is_break b) as (λ t. (z : List ℕ) × (rest : List (List ℕ)) × (cond t ([] ∷ parts_of bs) (onto_first b (parts_of bs)) ≡ z ∷ rest)) [
      | true ↦ ([], parts_of bs, refl)
      | false ↦ (b ∷ y, more, ap (onto_first b) e)
    ]

onto_first_append : (b : ℕ) (y : List ℕ) (more rest : List (List ℕ)) (parts : List (List ℕ)) → parts ≡ y ∷ more
    → onto_first b (parts ++ rest) ≡ onto_first b parts ++ rest
onto_first_append b y more rest parts e = rw e refl

-- a line feed cuts the parts
parts_break : (front rest : List ℕ) → parts_of (front ++ 10 ∷ rest) ≡ parts_of front ++ parts_of rest
parts_break [] rest = refl
parts_break (b ∷ front) rest =
    let (y, more, e) = some_part front in
    elim (is_break b) as (λ t. cond t ([] ∷ parts_of (front ++ 10 ∷ rest))
    (onto_first b (parts_of (front ++ 10 ∷ rest))) ≡ cond t ([] ∷ parts_of front) (onto_first b (parts_of front))
    ++ parts_of rest) [
      | true ↦ ap (λ ps. [] ∷ ps) (parts_break front rest)
      | false ↦ ap (onto_first b) (parts_break front rest) ∙ onto_first_append b y more (parts_of rest) (parts_of front) e
    ]

lines_of_more : (xs : List (List ℕ)) (y : List ℕ) (ys : List (List ℕ)) → lines_of_parts (xs ++ y ∷ ys) ≡ map strip_carriage_return xs ++ lines_of_parts (y ∷ ys)
lines_of_more [] y ys = refl
lines_of_more (x ∷ []) y ys = refl
lines_of_more (x ∷ z ∷ xs) y ys = ap (λ ls. strip_carriage_return x ∷ ls) (lines_of_more (z ∷ xs) y ys)

-- a line feed ends the lines before it
lines_break : (front rest : List ℕ) → lines (front ++ 10 ∷ rest) ≡ map strip_carriage_return (parts_of front) ++ lines rest
lines_break front rest =
    let (y, more, e) = some_part rest in
    ap lines_of_parts (parts_break front rest ∙ ap (λ ps. parts_of front ++ ps) e)
    ∙ lines_of_more (parts_of front) y more ∙ ap
    (λ ps. map strip_carriage_return (parts_of front) ++ lines_of_parts ps) (sym e)

-- whole lines and what follows them
pub lines_whole : (bytes rest : List ℕ) → AreWholeLines bytes → lines (bytes ++ rest) ≡ lines bytes ++ lines rest
lines_whole bytes rest (inl e) = rw e refl
lines_whole bytes rest (inr (front, e)) =
    ap (λ l. lines (l ++ rest)) e
    ∙ ap lines (append_assoc front (10 ∷ []) rest)
    ∙ lines_break front rest
    ∙ ap (λ ls. ls ++ lines rest) (sym (append-nil _) ∙ sym (lines_break front []))
    ∙ ap (λ l. lines l ++ lines rest) (sym e)

pub whole_append : (a b : List ℕ) → AreWholeLines a → AreWholeLines b → AreWholeLines (a ++ b)
whole_append a b p (inl e) = rw (e, append-nil) p
whole_append a b p (inr (front, e)) = inr (a ++ front, ap (λ l. a ++ l) e ∙ sym (append_assoc a front (10 ∷ [])))

pub no_break_append : (line run : List ℕ) → HasNoBreak line → HasNoBreak run → HasNoBreak (line ++ run)
no_break_append [] run h e = e
no_break_append (b ∷ line) run h e = (h.0, no_break_append line run h.1 e)

-- no line feed stands before a place
pub no_break_before : (bytes : List ℕ) (n : ℕ) → n ≤ length bytes
    → ((k : ℕ) → 0 ≤ k → k < n → ¬ ((slice_index bytes k == 10) ≡ true)) → HasNoBreak (take n bytes)
no_break_before bytes zero h none = tt
no_break_before [] (suc n) h none = tt
no_break_before (b ∷ bytes) (suc n) h none = (
  not_true (b == 10) (none 0 (omega arith) (omega arith)),
  no_break_before bytes n (omega (arith, h)) (λ k low high. none (suc k) (omega arith) (omega (arith, high))),
)
  where
    not_true : (t : Bool) → ¬ (t ≡ true) → t ≡ false
    not_true true f = absurd (f refl)
    not_true false f = refl

-- no line feed stands anywhere
pub no_break_whole : (bytes : List ℕ) → ((k : ℕ) → 0 ≤ k → k < length bytes → ¬ ((slice_index bytes k == 10) ≡ true)) → HasNoBreak bytes
no_break_whole bytes none = subst HasNoBreak (take-length bytes) (no_break_before bytes (length bytes) (omega arith) none)

cut_before : (bytes : List ℕ) (n : ℕ) → n < length bytes → (slice_index bytes n == 10) ≡ true → bytes ≡ take n bytes ++ 10 ∷ drop (suc n) bytes
cut_before [] n h e = absurd (omega (arith, h))
cut_before (b ∷ bytes) zero h e = let is : b ≡ 10 = grind (arith, eqb_tells, e) in ap (λ c. c ∷ bytes) is
cut_before (b ∷ bytes) (suc n) h e = ap (λ l. b ∷ l) (cut_before bytes n (omega (arith, h)) e)

-- a line feed stands at a place
pub cut_at : (bytes : List ℕ) (n : ℕ) → n < length bytes → (slice_index bytes n == 10) ≡ true → bytes ≡ (take n bytes ++ 10 ∷ []) ++ drop (n + 1) bytes
cut_at bytes n h e = rw add-one (cut_before bytes n h e ∙ sym (append_assoc (take n bytes) (10 ∷ []) (drop (suc n) bytes)))

-- a line that has begun goes on to the first line feed
begun : (line rest y : List ℕ) (more : List (List ℕ)) → HasNoBreak line → parts_of rest ≡ y ∷ more → parts_of (line ++ rest) ≡ (line ++ y) ∷ more
begun [] rest y more h e = e
begun (b ∷ line) rest y more h e = rw (h.0, begun line rest y more h.1 e) refl

pub line_ended : (line : List ℕ) → HasNoBreak line → lines (line ++ 10 ∷ []) ≡ strip_carriage_return line ∷ []
line_ended line h = ap lines_of_parts (begun line (10 ∷ []) [] ([] ∷ []) h refl) ∙ ap (λ l. strip_carriage_return l ∷ []) (append-nil line)

pub last_line : (line : List ℕ) → HasNoBreak line → eqb (length line) 0 ≡ false → lines line ≡ line ∷ []
last_line line h e =
    let p : parts_of line ≡ line ∷ [] = ap parts_of (sym (append-nil line)) ∙ begun line [] [] [] h refl ∙ ap (λ l. l ∷ []) (append-nil line) in
    rw (p, e) refl

length-strip : (l : List ℕ) → length l ≤ length (strip_carriage_return l) + 1
length-strip l = elim (eqb (slice_index l (length l - 1)) 13) as (λ t. length l ≤ length (cond t (take (length l - 1) l) l) + 1) [
  | true ↦ let e = length-take-le (length l - 1) l (omega arith) in omega (arith, e)
  | false ↦ omega arith
]

first_too_long : {W : Type 0} (most : ℕ) (event : Events W) (n : ℕ) (w : W) (line : List ℕ) (more : List (List ℕ))
    → longest_line < length line → report_from (verdict most event) n w (line ∷ more) ≡ ends_with (status.Limit n)
first_too_long most event n w line more h = rw (lt-ltb longest_line (length line) h) refl

parts_too_long : {W : Type 0} (most : ℕ) (event : Events W) (n : ℕ) (w : W) (line : List ℕ) (more : List (List ℕ))
    → 1048577 < length line → report_from (verdict most event) n w (lines_of_parts (line ∷ more)) ≡ ends_with
    (status.Limit n)
parts_too_long most event n w line [] h = let e : eqb (length line) 0 ≡ false = grind (arith, eqb_tells) in
    rw e (first_too_long most event n w line [] (omega arith))
parts_too_long most event n w line (z ∷ more) h = first_too_long most event n w (strip_carriage_return line)
    (lines_of_parts (z ∷ more)) (omega (arith, length-strip line))

-- a line that has become too long ends the run, whatever follows
pub too_long : {W : Type 0} (most : ℕ) (event : Events W) (n : ℕ) (w : W) (line rest : List ℕ) → HasNoBreak line
    → 1048577 < length line → report_from (verdict most event) n w (lines (line ++ rest)) ≡ ends_with (status.Limit n)
too_long most event n w line rest h long =
    let (y, more, e) = some_part rest in
    rw (begun line rest y more h e) (parts_too_long most event n w (line ++ y) more (omega (arith, length-append line y)))
