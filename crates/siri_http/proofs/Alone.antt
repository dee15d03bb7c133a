-- The bytes up to a message's end decide it.
use Rattle.std.proofs.Common.{◌≡◌, ◌≤◌, ◌+◌, ℕ, List, [], ◌∷◌, None, Some, Option, Bool, true, false, Result, Ok, Err, length, take, drop}
use Rattle.std.proofs.Common.{refl, sym, ap, ◌∙◌, subst, arith, length-drop, length-take-le}
use Rattle.std.specs.Prelude.{⊤, MatchBool, nat_le, cond}
use Rattle.std.proofs.lemmas.Bool.{le-leb, leb-true}
use Rattle.std.proofs.lemmas.List.{drop-take, length-take, take-take}
use Rattle.siri_outside.specs.Wires.{Connection}
use Rattle.siri_http.specs.declared.errors.HttpError.{HttpError}
use Rattle.siri_http.specs.declared.errors.HttpError.TheVariants as http
use Rattle.siri_http.specs.Connections.{readable, cut_by, cut_of}
use Rattle.siri_http.specs.Heads.{head_text, full_lines}
use Rattle.siri_http.specs.Messages.{Head, IsHead, text_says, told_with, body_in, message, message_by, message_after, Brings, is_cut, IfCut}
use Rattle.siri_http.specs.Messages.{end_by, message_end}
use Rattle.siri_http.proofs.HeadTexts.{head_again, no_head_again}

cut_picked : (t : Bool) → is_cut (cond t http.ReadFault http.Short) ≡ true
cut_picked true = refl
cut_picked false = refl

-- what comes where more is wanted than can be read
pub cut_known : (fails : List ℕ) (count : ℕ) → is_cut (cut_by fails count) ≡ true
cut_known [] count = refl
cut_known (before ∷ later) count = cut_picked (nat_le before count)

-- an answer that the end of what can be read didn't bring
abbrev pub NotCut : {A : Type 0} → Result A HttpError → Type 0
NotCut result = IfCut result ⊥ ⊤

never : {P : Type 0} (e : HttpError) → is_cut e ≡ true → MatchBool (is_cut e) ⊥ ⊤ → P
never e cut p = absurd (subst (λ t. MatchBool t ⊥ ⊤) cut p)

pub message_is : {T : Type 0} (head : Option (Head T)) (cut : HttpError) (input : List ℕ) → message head cut input ≡ message_by (head_text input) head cut input
unfolding message
message_is head cut input = refl

front_same : (n m : ℕ) (xs ys : List ℕ) → take (n + m) xs ≡ take (n + m) ys → take n xs ≡ take n ys
front_same n m xs ys e =
    sym (take-take n (n + m) xs (omega arith)) ∙ ap (take n) e ∙ take-take n (n + m) ys (omega arith)

long_same : (n : ℕ) (xs ys : List ℕ) → take n xs ≡ take n ys → n ≤ length ys → n ≤ length xs
long_same n xs ys e h = omega (arith, h, ap length e, length-take n xs, length-take n ys)

-- both have so many bytes and no head text
too_long_again : (cut cut' : HttpError) → is_cut cut ≡ true → (input other : List ℕ) (t : Bool)
    → nat_le 16384 (length input) ≡ t → MatchBool (is_cut (cond t http.HeadTooLong cut)) ⊥ ⊤
    → take 16384 other ≡ take 16384 input → cond (nat_le 16384 (length other)) http.HeadTooLong cut' ≡ cond t
    http.HeadTooLong cut
too_long_again cut cut' known input other false e p q = never cut known p
too_long_again cut cut' known input other true e p q =
    ap (λ t. cond t http.HeadTooLong cut') (le-leb 16384 (length other)
    (long_same 16384 other input q (leb-true 16384 (length input) e)))

module _ {T : Type 0} (cut cut' : HttpError) (known : is_cut cut ≡ true) (input other : List ℕ) where
  -- both have this body after the head text
  body_again : (len count : ℕ) (told : T) (t : Bool) → nat_le (len + count) (length input) ≡ t
      → NotCut (told_with told (cond t (Ok (take count (drop len input))) (Err cut)))
      → (text : List ℕ) → length text ≡ len → take
      (end_by (Some text) (told_with told (cond t (Ok (take count (drop len input))) (Err cut)))) other ≡ take
      (end_by (Some text) (told_with told (cond t (Ok (take count (drop len input))) (Err cut)))) input
      → (take len other ≡ take len input) × (told_with told (body_in len count cut' other) ≡ told_with told
      (cond t (Ok (take count (drop len input))) (Err cut)))
  body_again len count told false e p text is q = never cut known p
  body_again len count told true e p text is q =
      let long : len + count ≤ length input = leb-true (len + count) (length input) e in
      let end : length text + length (take count (drop len input)) ≡ len + count =
      omega (arith, is, length-take-le count (drop len input) (omega (arith, long, length-drop len input))) in
      let same : take (len + count) other ≡ take (len + count) input = subst (λ n. take n other ≡ take n input) end q in
      let body : take count (drop len other) ≡ take count (drop len input) = sym (drop-take len count other) ∙ ap (drop len) same ∙ drop-take len count input in
      let fits : nat_le (len + count) (length other) ≡ true = le-leb (len + count) (length other) (long_same (len + count) other input same long) in
      (front_same len count other input same, ap (told_with told) (ap (λ t. cond t (Ok (take count (drop len other))) (Err cut')) fits ∙ ap Ok body))

  after_again : (text : List ℕ) (says : Result (T × ℕ) HttpError) → NotCut (message_after (length text) says cut input)
      → take (end_by (Some text) (message_after (length text) says cut input)) other ≡ take
      (end_by (Some text) (message_after (length text) says cut input)) input
      → (take (length text) other ≡ take (length text) input) × (message_after (length text) says cut' other ≡ message_after (length text) says cut input)
  after_again text (Err e) p q = (q, refl)
  after_again text (Ok says) p q = body_again (length text) says.1 says.0 (nat_le (length text + says.1) (length input)) refl p text refl q

  message_again : (head : Option (Head T)) (text : Option (List ℕ)) → head_text input ≡ text
      → NotCut (message_by text head cut input) → take (end_by text (message_by text head cut input)) other ≡ take
      (end_by text (message_by text head cut input)) input
      → (head_text other ≡ text) × (message_by text head cut' other ≡ message_by text head cut input)
  message_again head None e p q = (no_head_again input other e q, ap Err (too_long_again cut cut' known input other (nat_le 16384 (length input)) refl p q))
  message_again head (Some text) e p q =
      let again = after_again text (text_says (full_lines text) head) p q in
      (head_again input other text e again.0, again.1)

-- The bytes up to a message's end bring it by any connection.
pub alone : {T : Type 0} (Says : List ℕ → Option (Head T) → Type 0) (connection : Connection)
    (result : Result (T × List ℕ) HttpError) → Brings Says connection result → NotCut result → (other : Connection)
    → take (message_end result (readable connection)) (readable other) ≡ take (message_end result (readable connection))
    (readable connection) → Brings Says other result
alone Says connection result b p other q =
    let input = readable connection in
    let known : is_cut (cut_of connection) ≡ true = cut_known connection.read_fails (length connection.input) in
    let is : result ≡ message_by (head_text input) b.head (cut_of connection) input = b.message_is ∙ message_is b.head (cut_of connection) input in
    let again = message_again (cut_of connection) (cut_of other) known input (readable other) b.head
    (head_text input) refl (subst NotCut is p)
    (subst (λ r. take (end_by (head_text input) r) (readable other) ≡ take (end_by (head_text input) r) input) is
    q) in
    record {
      head = b.head;
      is_head = subst (λ t. IsHead Says t b.head) (sym again.0) b.is_head;
      message_is = is ∙ sym again.1 ∙ sym (message_is b.head (cut_of other) (readable other)
          ∙ ap (λ t. message_by t b.head (cut_of other) (readable other)) again.0);
    }
