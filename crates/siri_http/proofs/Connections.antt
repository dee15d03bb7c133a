-- Steps over the connection that is there, one after the other.
use Rattle.std.proofs.Common.{◌≡◌, ◌≤◌, ◌+◌, ◌-◌, ℕ, List, [], ◌∷◌, ◌++◌, None, Some, Option, Bool, true, false, Result}
use Rattle.std.proofs.Common.{Err, length, take, drop, refl, sym, ap, ◌∙◌, subst, append-nil, append_assoc, arith, length-append, cond}
use Rattle.std.proofs.lemmas.Bool.{le-leb, lt-leb, leb-true, leb-false}
use Rattle.std.specs.Prelude.{nat_le}
use Rattle.std.proofs.Math.Seq.{take-append-add, take-add}
use Rattle.siri_outside.specs.Failures.{Passes}
use Rattle.siri_outside.specs.MetFailures.{Meets}
use Rattle.siri_outside.specs.OutsideCalls.{WhereTold}
use Rattle.siri_outside.specs.Wires.{Present, WireState, Reads, TakesBytes}
use Rattle.siri_http.specs.declared.errors.HttpError.{HttpError}
use Rattle.siri_http.specs.declared.errors.HttpError.TheVariants as http
use Rattle.siri_http.specs.Connections.{passing, readable, cut_by, cut_of, OnConnection}
use Rattle.siri_http.specs.Messages.{is_read_fault}
use Rattle.siri_http.specs.inner.Reading.{TakesInput, Stops}
use Rattle.siri_outside.proofs.MetFailures.{passes_none, passes_more, passes_failing}

-- ---- what is told

pub told_map : (P Q : Present → Present → Type 0) (x y : Option Present) → ((a b : Present) → P a b → Q a b) → WhereTold x y P → WhereTold x y Q
told_map P Q None y f p = tt
told_map P Q (Some a) None f p = absurd p
told_map P Q (Some a) (Some b) f p = f a b p

told_then : (P Q R : Present → Present → Type 0) (x y z : Option Present) → ((a b c : Present) → P a b → Q b c → R a c)
    → WhereTold x y P → WhereTold y z Q → WhereTold x z R
told_then P Q R None y z f p q = tt
told_then P Q R (Some a) None z f p q = absurd p
told_then P Q R (Some a) (Some b) None f p q = absurd q
told_then P Q R (Some a) (Some b) (Some c) f p q = f a b c p q

-- a step says less
pub on_map : (P Q : Present → Present → Type 0) (x y : Option WireState) → ((a b : Present) → P a b → Q a b) → OnConnection P x y → OnConnection Q x y
on_map P Q None y f p = tt
on_map P Q (Some a) None f p = absurd p
on_map P Q (Some a) (Some b) f p = record { present = told_map P Q a.present b.present f p.present; rest = p.rest }

-- a step after a step
pub on_then : (P Q R : Present → Present → Type 0) (x y z : Option WireState)
    → ((a b c : Present) → P a b → Q b c → R a c) → OnConnection P x y → OnConnection Q y z → OnConnection R x z
on_then P Q R None y z f p q = tt
on_then P Q R (Some a) None z f p q = absurd p
on_then P Q R (Some a) (Some b) None f p q = absurd q
on_then P Q R (Some a) (Some b) (Some c) f p q = record {
  present = told_then P Q R a.present b.present c.present f p.present q.present;
  rest = q.rest ∙ ap (λ (w : WireState). record w { present = c.present }) p.rest;
}

told_same : (P : Present → Present → Type 0) (x : Option Present) → ((a : Present) → P a a) → WhereTold x x P
told_same P None f = tt
told_same P (Some a) f = f a

-- no step
pub on_same : (P : Present → Present → Type 0) (x : Option WireState) → ((a : Present) → P a a) → OnConnection P x x
on_same P None f = tt
on_same P (Some a) f = record { present = told_same P a.present f; rest = refl }

-- ---- failures by bytes

-- bytes pass, and then a read fails or none does
meets_more : (failed : Bool) (f g h : List ℕ) (n m : ℕ) → Passes f g n → Meets failed g h m → Meets failed f h (n + m)
meets_more false f g h n m p q = passes_more f g h n m p q
meets_more true f g h n m p q = passes_failing f g h n m p q

passing_more : (f g bytes rest : List ℕ) → Passes f g (length bytes) → passing f (bytes ++ rest) ≡ bytes ++ passing g rest
passing_more [] g bytes rest p = rw p refl
passing_more (b ∷ l) g bytes rest p =
    let e : b ≡ length bytes + (b - length bytes) = omega (arith, p.0) in
    ap (λ k. take k (bytes ++ rest)) e ∙ take-append-add bytes rest (b - length bytes) ∙ ap (λ g. bytes ++ passing g rest) (sym p.1)

le_shift : (b n m : ℕ) → n ≤ b → nat_le b (n + m) ≡ nat_le (b - n) m
le_shift b n m h = choose (nat_le (b - n) m) refl
  where
    choose : (t : Bool) → nat_le (b - n) m ≡ t → nat_le b (n + m) ≡ nat_le (b - n) m
    choose true e = le-leb b (n + m) (omega (arith, h, leb-true _ _ e)) ∙ sym e
    choose false e = lt-leb b (n + m) (omega (arith, h, leb-false _ _ e)) ∙ sym e

cut_more : (f g bytes rest : List ℕ) → Passes f g (length bytes) → cut_by f (length (bytes ++ rest)) ≡ cut_by g (length rest)
cut_more [] g bytes rest p = rw p refl
cut_more (b ∷ l) g bytes rest p =
    ap (λ t. cond t http.ReadFault http.Short)
    (ap (nat_le b) (length-append bytes rest) ∙ le_shift b (length bytes) (length rest) p.0)
    ∙ ap (λ g. cut_by g (length rest)) (sym p.1)

-- ---- bytes that were taken

pub takes_none : (a : Present) → TakesInput [] a a
takes_none a = record { input = refl; fails = passes_none a.left.read_fails; unwritten = refl; written = refl }

pub takes_more : (bytes more : List ℕ) (a b c : Present) → TakesInput bytes a b → TakesInput more b c → TakesInput (bytes ++ more) a c
takes_more bytes more a b c p q = record {
  input = p.input ∙ ap (λ l. bytes ++ l) q.input ∙ sym (append_assoc bytes more c.left.input);
  fails = subst (Passes a.left.read_fails c.left.read_fails) (sym (length-append bytes more)) (passes_more _ _ _ _ _ p.fails q.fails);
  unwritten = q.unwritten ∙ p.unwritten;
  written = q.written ∙ p.written;
}

-- what can be read of a connection of which some was taken
pub takes_readable : (bytes : List ℕ) (a b : Present) → TakesInput bytes a b → readable a.left ≡ bytes ++ readable b.left
takes_readable bytes a b p = ap (passing a.left.read_fails) p.input ∙ passing_more _ _ bytes b.left.input p.fails

pub takes_cut : (bytes : List ℕ) (a b : Present) → TakesInput bytes a b → cut_of a.left ≡ cut_of b.left
takes_cut bytes a b p = ap (λ l. cut_by a.left.read_fails (length l)) p.input ∙ cut_more _ _ bytes b.left.input p.fails

pub stops_more : (bytes more : List ℕ) (cut : HttpError) (a b c : Present) → TakesInput bytes a b → Stops more cut b c → Stops (bytes ++ more) cut a c
stops_more bytes more cut a b c p q = record {
  input = p.input ∙ ap (λ l. bytes ++ l) q.input ∙ sym (append_assoc bytes more c.left.input);
  fails = subst (Meets (is_read_fault cut) a.left.read_fails c.left.read_fails) (sym (length-append bytes more))
      (meets_more (is_read_fault cut) _ _ _ _ _ p.fails q.fails);
  readable_is = takes_readable bytes a b p ∙ ap (λ l. bytes ++ l) q.readable_is;
  cut_is = takes_cut bytes a b p ∙ q.cut_is;
  known = q.known;
  unwritten = q.unwritten ∙ p.unwritten;
  written = q.written ∙ p.written;
}

-- ---- one read

reads_as : {E : Type 0} (Q : Present → Present → Type 0) (x y : Option WireState) (r : Result ℕ E) (lent : List ℕ)
    → WhereTold x y (λ old new. Reads old new r lent) → ((a b : Present) → TakesBytes a b r lent → Q a b)
    → OnConnection Q x y
reads_as Q None y r lent p f = tt
reads_as Q (Some a) None r lent p f = absurd p
reads_as Q (Some a) (Some b) r lent p f = record { present = told_map _ Q a.present b.present f p.present; rest = p.rest }

fault_came : {E : Type 0} (e : E) (lent : List ℕ) (a b : Present) → TakesBytes a b (Err e) lent → Stops [] http.ReadFault a b
fault_came e lent a b p = record {
  input = sym p.bytes;
  fails = p.fails.0;
  readable_is = ap (λ f. passing f a.left.input) p.fails.0;
  cut_is = ap (λ f. cut_by f (length a.left.input)) p.fails.0 ∙ ap (λ t. cond t http.ReadFault http.Short) (le-leb 0 (length a.left.input) (omega arith));
  known = refl;
  unwritten = p.unwritten;
  written = p.written;
}

-- a read failed
pub read_fails : {E : Type 0} (x y : Option WireState) (e : E) (lent : List ℕ)
    → WhereTold x y (λ old new. Reads old new (Err e) lent) → OnConnection (Stops [] http.ReadFault) x y
read_fails x y e lent p = reads_as _ x y (Err e) lent p (λ a b. fault_came e lent a b)

-- ---- a buffer that is filled

-- the bytes that came before and those of a read
pub taken_on : (f n : ℕ) (old new : List ℕ) → take f new ≡ take f old → take (f + n) new ≡ take f old ++ take n (drop f new)
taken_on f n old new e = take-add f n new ∙ ap (λ l. l ++ take n (drop f new)) e

-- the connection before any read
pub took_none : (buffer : List ℕ) (x : Option WireState) → OnConnection (TakesInput (take 0 buffer)) x x
took_none buffer x = on_same (TakesInput []) x takes_none

-- a read after those before it
pub took_more : (x y z : Option WireState) (f n : ℕ) (old new : List ℕ) → take f new ≡ take f old
    → OnConnection (TakesInput (take f old)) x y → OnConnection (TakesInput (take n (drop f new))) y z
    → OnConnection (TakesInput (take (f + n) new)) x z
took_more x y z f n old new e p q =
    subst (λ l. OnConnection (TakesInput l) x z) (sym (taken_on f n old new e))
    (on_then (TakesInput (take f old)) (TakesInput (take n (drop f new))) (TakesInput (take f old ++ take n (drop f new))) x y z
    (takes_more (take f old) (take n (drop f new))) p q)

-- a read that met the end or failed, after those before it
pub took_stops : (x y z : Option WireState) (bytes : List ℕ) (e : HttpError) → OnConnection (TakesInput bytes) x y
    → OnConnection (Stops [] e) y z → OnConnection (Stops bytes e) x z
took_stops x y z bytes e p q =
    on_then (TakesInput bytes) (Stops [] e) (Stops bytes e) x y z (λ a b c r s. subst (λ l. Stops l e a c) (append-nil bytes) (stops_more bytes [] e a b c r s)) p q
