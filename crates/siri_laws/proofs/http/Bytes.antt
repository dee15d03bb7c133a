-- Bytes that pass tests.
use Rattle.std.proofs.Common.{◌≡◌, ◌≤◌, ◌<◌, ℕ, Bool, true, false, List, [], ◌∷◌, refl, ap, ap₂, sym, ◌∙◌, subst, arith}
use Rattle.std.specs.Prelude.{IsUtf8, ◌&&◌, ◌||◌, ◌==◌, not, nat_le, nat_lt}
use Rattle.std.specs.Char.{is_ascii_graphic}
use Rattle.std.specs.Int.{is_in_range}
use Rattle.std.specs.List.{list_all}
use Rattle.std.proofs.Common.{ne_eqb, le-leb, leb-true, lt-ltb}
use Rattle.std.proofs.lemmas.Bool.{and_parts, false≢true}
use Rattle.std.proofs.lemmas.List.Sums.{AllPass-from_list_all}
use Rattle.std.proofs.lemmas.Str.{IsUtf8-from_ascii}
use Rattle.httparse.specs.Grammar.{AllPass, is_uri_byte, is_value_byte}
use Rattle.siri_http.proofs.Lines.{Plain}
use Rattle.siri_http.proofs.Numbers.{ascii_from, range_low}

pub both_true : (a b : Bool) → a ≡ true → b ≡ true → (a && b) ≡ true
both_true a b p q = ap₂ (λ x y. x && y) p q

either_true : (a b : Bool) → b ≡ true → (a || b) ≡ true
either_true true b q = refl
either_true false b q = q

-- bytes pass a test that is weaker
pub all_weaker : (test other : ℕ → Bool) → ((b : ℕ) → test b ≡ true → other b ≡ true) → (bytes : List ℕ)
    → list_all test bytes ≡ true → list_all other bytes ≡ true
all_weaker test other step [] all = refl
all_weaker test other step (b ∷ bytes) all =
    let parts = and_parts (test b) (list_all test bytes) all in
    both_true (other b) (list_all other bytes) (step b parts.0) (all_weaker test other step bytes parts.1)

-- bytes that pass a test which a line feed doesn't
pub plain_all : (test : ℕ → Bool) → test 10 ≡ false → (bytes : List ℕ) → list_all test bytes ≡ true → Plain bytes
plain_all test fails [] all = tt
plain_all test fails (b ∷ bytes) all =
    let parts = and_parts (test b) (list_all test bytes) all in
    (ne_eqb b 10 (λ e. false≢true (sym fails ∙ subst (λ v. test v ≡ true) e parts.0)), plain_all test fails bytes parts.1)

-- a byte of a value, by where it is
pub value_byte : (b : ℕ) → 32 ≤ b → b < 127 → is_value_byte b ≡ true
value_byte b low high =
    let test : (nat_le 32 b && not (b == 127)) ≡ true =
    both_true (nat_le 32 b) (not (b == 127)) (le-leb 32 b low) (ap not (ne_eqb b 127 (λ e. absurd (omega (arith, e, high))))) in
    either_true (b == 9) _ test

pub range_value : (from to b : ℕ) → 32 ≤ from → to < 127 → is_in_range from to b ≡ true → is_value_byte b ≡ true
range_value from to b low high is =
    let parts = and_parts (nat_le from b) (nat_le b to) is in
    let above : from ≤ b = leb-true from b parts.0 in
    let below : b ≤ to = leb-true b to parts.1 in
    value_byte b (omega (arith, low, above)) (omega (arith, high, below))

-- a byte of a target
graphic_uri : (b : ℕ) → is_ascii_graphic b ≡ true → is_uri_byte b ≡ true
graphic_uri b is =
    let parts = and_parts (nat_le 33 b) (nat_le b 126) is in
    let above : 33 ≤ b = leb-true 33 b parts.0 in
    let below : b ≤ 126 = leb-true b 126 parts.1 in
    both_true (nat_lt 32 b) (not (b == 127)) (lt-ltb 32 b (omega (arith, above)))
    (ap not (ne_eqb b 127 (λ e. absurd (omega (arith, e, below)))))

pub target_bytes : (target : List ℕ) → list_all is_ascii_graphic target ≡ true → AllPass is_uri_byte target
target_bytes target all = AllPass-from_list_all is_uri_byte target (all_weaker is_ascii_graphic is_uri_byte graphic_uri target all)

pub target_plain : (target : List ℕ) → list_all is_ascii_graphic target ≡ true → Plain target
target_plain target all = plain_all is_ascii_graphic refl target all

pub target_text : (target : List ℕ) → list_all is_ascii_graphic target ≡ true → IsUtf8 target
target_text target all =
    IsUtf8-from_ascii target (ascii_from is_ascii_graphic (λ b is. range_low 33 126 b (omega arith) is) target all)
