-- A text is UTF-8 exactly where its quoted text is.
use Rattle.std.proofs.Common.{◌≡◌, ℕ, ◌<◌, Bool, true, false, cond, not, ◌&&◌, ◌==◌, List, [], ◌∷◌, ◌++◌, length, take, drop, get_or, refl}
use Rattle.std.proofs.Common.{sym, ap, subst, arith, append_assoc}
use Rattle.std.proofs.Math.Seq.{take-append_seam, drop-append_seam, get_or-append_seam}
use Rattle.std.specs.Prelude.{⊤, IsUtf8}
use Rattle.std.specs.Str.{is_utf8}
use Rattle.std.proofs.lemmas.Str.{IsUtf8-append, IsUtf8-past_char, IsUtf8-take, IsUtf8-drop, IsUtf8-from_ascii, IsCharBoundary-before_ascii}
use Rattle.std.proofs.lemmas.Str.{encode_ascii, is_utf8-from_IsUtf8, IsUtf8-from_is_utf8}
use Rattle.std.proofs.lemmas.Str.Ascii.{IsAscii-cons, IsAscii-nil}
use Rattle.json.specs.Word.{after_number}
use Rattle.siri_json.specs.Quoted.{is_run_byte, is_number, is_before_colon, run_text, outside, inside, after_inside, after_outside, quoted_from, quoted}
use Rattle.siri_json.proofs.Pieces.{run_byte}
use Rattle.siri_json.proofs.Words.{AllRun, AllRun-nil, AllRun-push, AllRun-first}
use Rattle.siri_json.proofs.Clean.{at_end}

abbrev Iff : Type 0 → Type 0 → Type 0
Iff A B = (A → B) × (B → A)

-- ---- a text may be cut before and after ASCII

longer : (a r : List ℕ) (x : ℕ) → length a < length (a ++ x ∷ r)
longer [] r x = omega arith
longer (y ∷ a) r x = let more = longer a r x in omega arith

pub cut : (a r : List ℕ) (x : ℕ) → x < 128 → IsUtf8 (a ++ x ∷ r) → IsUtf8 a × IsUtf8 (x ∷ r)
cut a r x small u =
    let low : get_or (a ++ x ∷ r) (length a) 0 < 128 = rw (get_or-append_seam a x r 0) small in
    let boundary = IsCharBoundary-before_ascii (a ++ x ∷ r) (length a) (longer a r x) low in (
      subst IsUtf8 (take-append_seam a (x ∷ r)) (IsUtf8-take (a ++ x ∷ r) (length a) u boundary),
      subst IsUtf8 (drop-append_seam a (x ∷ r)) (IsUtf8-drop (a ++ x ∷ r) (length a) u boundary),
    )

pub past : (x : ℕ) (r : List ℕ) → x < 128 → IsUtf8 (x ∷ r) → IsUtf8 r
past x r small u = IsUtf8-past_char (x ∷ r) r x u (ap (λ (t : List ℕ). t ++ r) (sym (encode_ascii x small)))

before : (x : ℕ) (r : List ℕ) → x < 128 → IsUtf8 r → IsUtf8 (x ∷ r)
before x r small u = IsUtf8-append (x ∷ []) r (IsUtf8-from_ascii (x ∷ []) (IsAscii-cons x [] small IsAscii-nil)) u

AllSmall : List ℕ → Type 0
AllSmall [] = ⊤
AllSmall (x ∷ xs) = (x < 128) × AllSmall xs

past_all : (s r : List ℕ) → AllSmall s → IsUtf8 (s ++ r) → IsUtf8 r
unfolding AllSmall
past_all [] r h u = u
past_all (x ∷ s) r h u = past_all s r h.1 (past x (s ++ r) h.0 u)

before_all : (s r : List ℕ) → AllSmall s → IsUtf8 r → IsUtf8 (s ++ r)
unfolding AllSmall
before_all [] r h u = u
before_all (x ∷ s) r h u = before x (s ++ r) h.0 (before_all s r h.1 u)

-- ASCII between two texts
strip : (a s r : List ℕ) (x : ℕ) → AllSmall (x ∷ s) → Iff (IsUtf8 (a ++ (x ∷ (s ++ r)))) (IsUtf8 a × IsUtf8 r)
unfolding AllSmall
strip a s r x h = (
  λ u. let both = cut a (s ++ r) x h.0 u in (both.0, past_all s r h.1 (past x (s ++ r) h.0 both.1)),
  λ p. IsUtf8-append a (x ∷ (s ++ r)) p.0 (before x (s ++ r) h.0 (before_all s r h.1 p.1)),
)

all_small : (run : List ℕ) → AllRun run → AllSmall run
unfolding AllSmall
all_small [] h = tt
all_small (x ∷ run) h = let both = AllRun-first x run h in (run_byte x both.0, all_small run both.1)

small_push : (s : List ℕ) (x : ℕ) → AllSmall s → x < 128 → AllSmall (s ++ x ∷ [])
unfolding AllSmall
small_push [] x h e = (e, tt)
small_push (y ∷ s) x h e = (h.0, small_push s x h.1 e)

small_cons : (x : ℕ) (s : List ℕ) → x < 128 → AllSmall s → AllSmall (x ∷ s)
unfolding AllSmall
small_cons x s e h = (e, h)

-- ---- runs

in_quotes : (a run r t : List ℕ) (x : ℕ) → AllRun (x ∷ run) → Iff (IsUtf8 r) (IsUtf8 t)
    → Iff (IsUtf8 (a ++ ((x ∷ run) ++ r))) (IsUtf8 (a ++ ((34 ∷ ((x ∷ run) ++ 34 ∷ [])) ++ t)))
in_quotes a run r t x h k =
    let small = all_small (x ∷ run) h in
    let one = strip a run r x small in
    let two = strip a ((x ∷ run) ++ 34 ∷ []) t 34 (small_cons 34 ((x ∷ run) ++ 34 ∷ []) (omega arith) (small_push (x ∷ run) 34 small (omega arith))) in
    (λ u. let p = one.0 u in two.1 (p.0, k.0 p.1), λ u. let p = two.0 u in one.1 (p.0, k.1 p.1))

run_at : (b : Bool) (a run r t : List ℕ) (x : ℕ) → AllRun (x ∷ run) → ((h : List ℕ) → Iff (IsUtf8 (h ++ r)) (IsUtf8 (h ++ t)))
    → Iff (IsUtf8 (a ++ ((x ∷ run) ++ r))) (IsUtf8 (a ++ (cond b (34 ∷ ((x ∷ run) ++ 34 ∷ [])) (x ∷ run) ++ t)))
run_at true a run r t x h k = in_quotes a run r t x h (k [])
run_at false a run r t x h k =
    let left = append_assoc a (x ∷ run) r in
    let right = append_assoc a (x ∷ run) t in
    let both = k (a ++ x ∷ run) in
    (λ u. subst IsUtf8 right (both.0 (subst IsUtf8 (sym left) u)), λ u. subst IsUtf8 left (both.1 (subst IsUtf8 (sym right) u)))

run_iff : (a run r t : List ℕ) → AllRun run → ((h : List ℕ) → Iff (IsUtf8 (h ++ r)) (IsUtf8 (h ++ t)))
    → Iff (IsUtf8 (a ++ (run ++ r))) (IsUtf8 (a ++ (run_text run r ++ t)))
unfolding after_number
run_iff a [] r t h k = k a
run_iff a (x ∷ run) r t h k = run_at (is_number (x ∷ run) && not (is_before_colon r)) a run r t x h k

-- ---- the whole text

record Same (xs : List ℕ) : Type 0 where
  out : (a run : List ℕ) → AllRun run → Iff (IsUtf8 (a ++ (run ++ xs))) (IsUtf8 (a ++ quoted_from (outside run) xs))
  within : (a : List ℕ) (odd : Bool) → Iff (IsUtf8 (a ++ xs)) (IsUtf8 (a ++ quoted_from (inside odd) xs))

same_nil : Same []
unfolding quoted_from
same_nil = record {
  out = λ a run h. subst (λ (t : List ℕ). Iff (IsUtf8 (a ++ (run ++ []))) (IsUtf8 (a ++ t))) (at_end run) (run_iff a run [] [] h (λ b. (λ u. u, λ u. u)));
  within = λ a odd. (λ u. u, λ u. u);
}

-- a byte that stays
stays : (a xs ys : List ℕ) (x : ℕ) → ((b : List ℕ) → Iff (IsUtf8 (b ++ xs)) (IsUtf8 (b ++ ys))) → Iff (IsUtf8 (a ++ x ∷ xs)) (IsUtf8 (a ++ x ∷ ys))
stays a xs ys x k =
    let left = append_assoc a (x ∷ []) xs in
    let right = append_assoc a (x ∷ []) ys in
    let both = k (a ++ x ∷ []) in
    (λ u. subst IsUtf8 right (both.0 (subst IsUtf8 (sym left) u)), λ u. subst IsUtf8 left (both.1 (subst IsUtf8 (sym right) u)))

next_at : (xs : List ℕ) (q odd : Bool) → Same xs → (b : List ℕ) → Iff (IsUtf8 (b ++ xs)) (IsUtf8 (b ++ quoted_from (cond q (outside []) (inside odd)) xs))
next_at xs true odd s b = s.out b [] AllRun-nil
next_at xs false odd s b = s.within b odd

begin_at : (xs : List ℕ) (q : Bool) → Same xs → (b : List ℕ) → Iff (IsUtf8 (b ++ xs)) (IsUtf8 (b ++ quoted_from (cond q (inside false) (outside [])) xs))
begin_at xs true s b = s.within b false
begin_at xs false s b = s.out b [] AllRun-nil

out_at : (a run xs : List ℕ) (x : ℕ) (r : Bool) → is_run_byte x ≡ r → Same xs → AllRun run
    → Iff (IsUtf8 (a ++ (run ++ x ∷ xs))) (IsUtf8
    (a ++ cond r (quoted_from (outside (run ++ x ∷ [])) xs)
    (run_text run (x ∷ xs) ++ x ∷ quoted_from (after_outside x) xs)))
out_at a run xs x true e s h =
    subst (λ (t : List ℕ). Iff (IsUtf8 (a ++ t)) (IsUtf8 (a ++ quoted_from (outside (run ++ x ∷ [])) xs)))
    (append_assoc run (x ∷ []) xs) (s.out a (run ++ x ∷ []) (AllRun-push run x h e))
out_at a run xs x false e s h = run_iff a run (x ∷ xs) (x ∷ quoted_from (after_outside x) xs) h
    (λ b. stays b xs (quoted_from (after_outside x) xs) x (begin_at xs (x == 34) s))

same_cons : (x : ℕ) (xs : List ℕ) → Same xs → Same (x ∷ xs)
unfolding quoted_from
same_cons x xs s = record {
  out = λ a run h. out_at a run xs x (is_run_byte x) refl s h;
  within = λ a odd. stays a xs (quoted_from (after_inside odd x) xs) x (next_at xs ((x == 34) && not odd) ((x == 92) && not odd) s);
}

same : (xs : List ℕ) → Same xs
same [] = same_nil
same (x ∷ xs) = same_cons x xs (same xs)

bool_same : (p q : Bool) → (p ≡ true → q ≡ true) → (q ≡ true → p ≡ true) → p ≡ q
bool_same true q f g = sym (f refl)
bool_same false true f g = g refl
bool_same false false f g = refl

pub is_utf8-quoted : (text : List ℕ) → is_utf8 text ≡ is_utf8 (quoted text)
is_utf8-quoted text =
    let both = (same text).out [] [] AllRun-nil in
    bool_same (is_utf8 text) (is_utf8 (quoted text))
    (λ e. is_utf8-from_IsUtf8 (quoted text) (both.0 (IsUtf8-from_is_utf8 text e)))
    (λ e. is_utf8-from_IsUtf8 text (both.1 (IsUtf8-from_is_utf8 (quoted text) e)))
