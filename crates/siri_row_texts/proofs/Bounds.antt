-- How long a compact text can be: each byte of a string takes six at most.
use Rattle.std.proofs.Common.{ℕ, ◌+◌, ◌*◌, ◌≤◌, ◌<◌, Bool, true, false, cond, List, [], ◌∷◌, ◌++◌, length, arith, length-append}
use Rattle.std.proofs.lemmas.Fmt.{length-decimal-le}
use Rattle.std.specs.Prelude.{◌/◌, ◌%◌, ◌^◌, nat_lt}
use Rattle.std.specs.Char.{digit_char}
use Rattle.std.specs.Fmt.{decimal}
use Rattle.json.specs.Print.{escape, escape_byte, escape_letter, quoted}
use Rattle.serde_json.specs.Data.{Data, null, boolean, number, string, array, object, Items, no_items, item, Members, no_members, member}
use Rattle.serde_json.specs.Written.{comma_if, compact_text, items_text, members_text, number_text}

-- ---- strings

both_within : (n : ℕ) (b : Bool) (x y : List ℕ) → length x ≤ n → length y ≤ n → length (cond b x y) ≤ n
both_within n true x y first second = first
both_within n false x y first second = second

byte_within : (x : ℕ) → length (escape_byte x) ≤ 6
unfolding escape_byte
byte_within x =
    let control = 92 ∷ 117 ∷ 48 ∷ 48 ∷ digit_char (x / 16) ∷ digit_char (x % 16) ∷ [] in
    both_within 6 (nat_lt 0 (escape_letter x)) (92 ∷ escape_letter x ∷ []) (cond (nat_lt x 32) control (x ∷ [])) (omega arith)
    (both_within 6 (nat_lt x 32) control (x ∷ []) (omega arith) (omega arith))

escape_within : (s : List ℕ) → length (escape s) ≤ 6 * length s
escape_within [] = omega arith
escape_within (x ∷ s) =
    let first = byte_within x in
    let rest = escape_within s in
    let all = length-append (escape_byte x) (escape s) in
    omega arith

quoted_within : (s : List ℕ) → length (quoted s) ≤ 2 + 6 * length s
quoted_within s =
    let escaped = escape_within s in
    omega (arith, length-append (escape s) (34 ∷ []))

-- ---- numbers

pub decimal_within : (n : ℕ) → n < 10 ^ 18 → length (decimal n) ≤ 18
decimal_within n small = length-decimal-le 18 n (omega arith) small (omega arith)

-- ---- trees

abbrev mutual
  pub weight : Data → ℕ
  weight null = 4
  weight (boolean b) = 5
  weight (number n) = length (number_text n)
  weight (string s) = 2 + 6 * length s
  weight (array ds) = 1 + items_weight ds
  weight (object ms) = 1 + members_weight ms

  pub items_weight : Items → ℕ
  items_weight no_items = 1
  items_weight (item d ds) = 1 + (weight d + items_weight ds)

  pub members_weight : Members → ℕ
  members_weight no_members = 1
  members_weight (member k d ms) = 4 + (6 * length k + (weight d + members_weight ms))

comma_within : (later : Bool) → length (comma_if later) ≤ 1
comma_within true = omega arith
comma_within false = omega arith

mutual
  pub text_within : (d : Data) → length (compact_text d) ≤ weight d
  text_within null = omega arith
  text_within (boolean true) = omega arith
  text_within (boolean false) = omega arith
  text_within (number n) = omega arith
  text_within (string s) = quoted_within s
  text_within (array ds) = let rest = items_within false ds in omega arith
  text_within (object ms) = let rest = members_within false ms in omega arith

  items_within : (later : Bool) (ds : Items) → length (items_text later ds) ≤ items_weight ds
  items_within later no_items = omega arith
  items_within later (item d ds) =
      let comma = comma_within later in
      let first = text_within d in
      let rest = items_within true ds in
      let all = length-append (comma_if later) (compact_text d ++ items_text true ds) in
      let two = length-append (compact_text d) (items_text true ds) in
      omega arith

  members_within : (later : Bool) (ms : Members) → length (members_text later ms) ≤ members_weight ms
  members_within later no_members = omega arith
  members_within later (member k d ms) =
      let comma = comma_within later in
      let name = quoted_within k in
      let first = text_within d in
      let rest = members_within true ms in
      let all = length-append (comma_if later) (quoted k ++ 58 ∷ (compact_text d ++ members_text true ms)) in
      let three = length-append (quoted k) (58 ∷ (compact_text d ++ members_text true ms)) in
      let two = length-append (compact_text d) (members_text true ms) in
      omega arith
