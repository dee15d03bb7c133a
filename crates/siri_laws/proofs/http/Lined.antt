-- A head text that is written line by line, each with CR LF: the scan finds it.
use Rattle.std.proofs.Common.{◌≡◌, ◌≤◌, ◌<◌, ◌+◌, ℕ, false, true, List, [], ◌∷◌, ◌++◌, Some, length, take, refl, sym, ap, ap₂, ◌∙◌, arith, append_assoc, length-append, take_all, lt-ltb}
use Rattle.std.specs.Prelude.{⊤, ◌==◌, nat_lt}
use Rattle.siri_http.specs.Heads.{full_lines, head_text}
use Rattle.siri_http.specs.inner.Reading.{HasHead}
use Rattle.siri_http.specs.inner.Scanning.{after_byte, ends_head, fresh, head_from, line_after}
use Rattle.siri_http.proofs.HeadTexts.{head_at, head_full}
use Rattle.siri_http.proofs.Lines.{Plain, second_byte}

-- lines, and an empty line at the end
abbrev pub lined : List (List ℕ) → List ℕ
lined [] = 13 ∷ 10 ∷ []
lined (first ∷ more) = first ++ 13 ∷ 10 ∷ lined more

-- lines of two bytes at least, of which none is a line feed
abbrev pub AreLines : List (List ℕ) → Type 0
AreLines [] = ⊤
AreLines (first ∷ more) = Plain first × (2 ≤ length first) × AreLines more

-- ---- one byte: the states of the scan are told from the first, since their type is private

first_byte : (n k b : ℕ) (bytes : List ℕ) → (b == 10) ≡ false
    → head_from (record fresh { len = n; full = k }) (b ∷ bytes)
    ≡ head_from (record fresh { len = n + 1; full = k; line = line_after fresh.line b }) bytes
unfolding ends_head after_byte
first_byte n k b bytes p = rw p refl

next_byte : (n k a b : ℕ) (bytes : List ℕ) → (b == 10) ≡ false
    → head_from (record fresh { len = n; full = k; line = line_after fresh.line a }) (b ∷ bytes)
    ≡ head_from (record fresh { len = n + 1; full = k; line = line_after (line_after fresh.line a) b }) bytes
unfolding ends_head after_byte
next_byte n k a b bytes p = rw p refl

-- a line that has begun goes on, whatever its first byte is: `line_after fresh.line 0` is one that has text
later_byte : (n k a b : ℕ) (bytes : List ℕ) → (b == 10) ≡ false
    → head_from (record fresh { len = n; full = k; line = line_after fresh.line a }) (b ∷ bytes)
    ≡ head_from (record fresh { len = n + 1; full = k; line = line_after fresh.line 0 }) bytes
later_byte n k a b bytes p =
    next_byte n k a b bytes p ∙ ap (λ l. head_from (record fresh { len = n + 1; full = k; line = l }) bytes) (second_byte (a == 13) b)

text_feed : (n k : ℕ) (bytes : List ℕ) → head_from (record fresh { len = n; full = k; line = line_after fresh.line 0 }) (10 ∷ bytes)
    ≡ head_from (record fresh { len = n + 1; full = k + 1 }) bytes
unfolding ends_head after_byte
text_feed n k bytes = refl

last_feed : (n k : ℕ) (bytes : List ℕ) → 0 < k
    → head_from (record fresh { len = n; full = k; line = line_after fresh.line 13 }) (10 ∷ bytes) ≡ Some (record { len = n + 1; full = k })
unfolding ends_head after_byte
last_feed n k bytes h =
    let some : nat_lt 0 k ≡ true = lt-ltb 0 k h in
    rw some refl

-- ---- one line

text_bytes : (n k : ℕ) (bytes rest : List ℕ) → Plain bytes
    → head_from (record fresh { len = n; full = k; line = line_after fresh.line 0 }) (bytes ++ rest)
    ≡ head_from (record fresh { len = n + length bytes; full = k; line = line_after fresh.line 0 }) rest
text_bytes n k [] rest p =
    let none : n ≡ n + 0 = omega arith in
    ap (λ m. head_from (record fresh { len = m; full = k; line = line_after fresh.line 0 }) rest) none
text_bytes n k (b ∷ bytes) rest p =
    let count : (n + 1) + length bytes ≡ n + length (b ∷ bytes) = omega arith in
    later_byte n k 0 b (bytes ++ rest) p.0 ∙ text_bytes (n + 1) k bytes rest p.1
    ∙ ap (λ m. head_from (record fresh { len = m; full = k; line = line_after fresh.line 0 }) rest) count

line_goes : (n k : ℕ) (bytes rest : List ℕ) → Plain bytes → 2 ≤ length bytes
    → head_from (record fresh { len = n; full = k }) (bytes ++ 13 ∷ 10 ∷ rest)
    ≡ head_from (record fresh { len = n + (length bytes + 2); full = k + 1 }) rest
line_goes n k [] rest p h = absurd (omega (arith, h))
line_goes n k (a ∷ []) rest p h = absurd (omega (arith, h))
line_goes n k (a ∷ b ∷ bytes) rest p h =
    let m : ℕ = (n + 1) + 1 in
    let count : ((m + length bytes) + 1) + 1 ≡ n + (length (a ∷ b ∷ bytes) + 2) = omega arith in
    first_byte n k a (b ∷ (bytes ++ 13 ∷ 10 ∷ rest)) p.0
    ∙ later_byte (n + 1) k a b (bytes ++ 13 ∷ 10 ∷ rest) p.1.0
    ∙ text_bytes m k bytes (13 ∷ 10 ∷ rest) p.1.1
    ∙ later_byte (m + length bytes) k 0 13 (10 ∷ rest) refl
    ∙ text_feed ((m + length bytes) + 1) k rest
    ∙ ap (λ m. head_from (record fresh { len = m; full = k + 1 }) rest) count

-- ---- all lines

lines_found : (n k : ℕ) (more : List (List ℕ)) (rest : List ℕ) → AreLines more → 0 < k
    → head_from (record fresh { len = n; full = k }) (lined more ++ rest)
    ≡ Some (record { len = n + length (lined more); full = k + length more })
lines_found n k [] rest are h =
    let len : (n + 1) + 1 ≡ n + 2 = omega arith in
    let full : k ≡ k + 0 = omega arith in
    first_byte n k 13 (10 ∷ rest) refl ∙ last_feed (n + 1) k rest h ∙ ap₂ (λ l f. Some (record { len = l; full = f })) len full
lines_found n k (first ∷ more) rest are h =
    let len : (n + (length first + 2)) + length (lined more) ≡ n + length (lined (first ∷ more)) =
    omega (arith, length-append first (13 ∷ 10 ∷ lined more)) in
    let full : (k + 1) + length more ≡ k + length (first ∷ more) = omega arith in
    ap (head_from (record fresh { len = n; full = k })) (append_assoc first (13 ∷ 10 ∷ lined more) rest)
    ∙ line_goes n k first (lined more ++ rest) are.0 are.1
    ∙ lines_found (n + (length first + 2)) (k + 1) more rest are.2 (omega arith)
    ∙ ap₂ (λ l f. Some (record { len = l; full = f })) len full

module _ (first : List ℕ) (more : List (List ℕ)) (are : AreLines (first ∷ more)) where
  abbrev text : List ℕ
  text = lined (first ∷ more)

  head_found : (rest : List ℕ) → head_from fresh (text ++ rest) ≡ Some (record { len = length text; full = length (first ∷ more) })
  head_found rest =
      let len : (0 + (length first + 2)) + length (lined more) ≡ length text =
      omega (arith, length-append first (13 ∷ 10 ∷ lined more)) in
      let full : (0 + 1) + length more ≡ length (first ∷ more) = omega arith in
      ap (head_from fresh) (append_assoc first (13 ∷ 10 ∷ lined more) rest)
      ∙ line_goes 0 0 first (lined more ++ rest) are.0 are.1
      ∙ lines_found (0 + (length first + 2)) (0 + 1) more rest are.2 (omega arith)
      ∙ ap₂ (λ l f. Some (record { len = l; full = f })) len full

  module _ (bound : length text ≤ 16384) where
    has_head : HasHead text (record { len = length text; full = length (first ∷ more) })
    has_head = record { bound = bound; within = omega arith; found = head_found }

    whole : take (length text) text ≡ text
    whole = take_all (length text) text (omega arith)

    -- it is the head text of each input that begins with it
    pub head_text_of_lines : (rest : List ℕ) → head_text (text ++ rest) ≡ Some text
    head_text_of_lines rest = head_at text rest _ has_head ∙ ap Some whole

    -- all but the last of its lines aren't empty
    pub full_lines_of_lines : full_lines text ≡ length (first ∷ more)
    full_lines_of_lines = ap full_lines (sym whole) ∙ head_full text _ has_head
