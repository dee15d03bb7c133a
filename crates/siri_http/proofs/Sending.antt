-- What was written of a text.
use Rattle.std.proofs.Common.{◌≡◌, ◌≤◌, ◌<◌, ◌+◌, ◌-◌, ℕ, zero, suc, List, [], ◌∷◌, ◌++◌, Bool, None, Some, Option, Result, Ok, Err, length, take}
use Rattle.std.proofs.Common.{drop, refl, sym, ap, ◌∙◌, subst, append-nil, append_assoc, take-append-drop, arith, length-append}
use Rattle.std.specs.Prelude.{codes}
use Rattle.std.specs.Fmt.{decimal}
use Rattle.std.proofs.lemmas.List.{length-take-le, take_at}
use Rattle.http.specs.StatusCode.{code_digits}
use Rattle.siri_outside.specs.declared.errors.OutsideError.{OutsideError}
use Rattle.siri_outside.specs.declared.errors.OutsideError.TheVariants as outside
use Rattle.siri_outside.specs.Failures.{Passes}
use Rattle.siri_outside.specs.OutsideCalls.{WhereTold}
use Rattle.siri_outside.specs.Wires.{Present, WireState, Writes, PutsBytes}
use Rattle.siri_http.specs.declared.errors.HttpError.{HttpError}
use Rattle.siri_http.specs.declared.errors.HttpError.TheVariants as http
use Rattle.siri_http.specs.Connections.{OnConnection}
use Rattle.siri_http.specs.Texts.{IsCut, Puts, PutsText, closing, head_end, head_text, request_begin, request_text, phrase_of, type_of}
use Rattle.siri_outside.proofs.MetFailures.{passes_none, passes_more}
use Rattle.siri_http.proofs.Connections.{on_map, on_then, on_same, told_map}

-- the text but for this rest was written
pub record Wrote (text rest : List ℕ) (before after : Present) : Type 0 where
  pub front : List ℕ
  pub parts : text ≡ front ++ rest
  pub fails : Passes before.left.write_fails after.left.write_fails (length front)
  pub written : after.written ≡ before.written ++ front
  pub unread : after.left.input ≡ before.left.input
  pub read_fails : after.left.read_fails ≡ before.left.read_fails

pub wrote_none : (text : List ℕ) (x : Option WireState) → OnConnection (Wrote text text) x x
wrote_none text x = on_same (Wrote text text) x
    (λ a. record {
      front = [];
      parts = refl;
      fails = passes_none a.left.write_fails;
      written = sym (append-nil a.written);
      unread = refl;
      read_fails = refl;
    })

writes_as : (Q : Present → Present → Type 0) (x y : Option WireState) (r : Result ℕ OutsideError) (piece : List ℕ)
    → WhereTold x y (λ old new. Writes old new r piece) → ((a b : Present) → PutsBytes a b r piece → Q a b)
    → OnConnection Q x y
writes_as Q None y r piece p f = tt
writes_as Q (Some a) None r piece p f = absurd p
writes_as Q (Some a) (Some b) r piece p f = record { present = told_map _ Q a.present b.present f p.present; rest = p.rest }

more_wrote : (text rest : List ℕ) (n : ℕ) (a b c : Present) → n ≤ length rest → Wrote text rest a b → PutsBytes b c (Ok n) rest → Wrote text (drop n rest) a c
more_wrote text rest n a b c h w p = record {
  front = w.front ++ take n rest;
  parts = w.parts ∙ ap (λ l. w.front ++ l) (sym (take-append-drop n rest)) ∙ sym (append_assoc w.front (take n rest) (drop n rest));
  fails = subst (Passes a.left.write_fails c.left.write_fails)
      (sym (length-append w.front (take n rest) ∙ ap (λ k. length w.front + k) (length-take-le n rest h)))
      (passes_more _ _ _ _ _ w.fails p.fails.0);
  written = p.bytes ∙ ap (λ l. l ++ take n rest) w.written ∙ append_assoc a.written w.front (take n rest);
  unread = p.unread ∙ w.unread;
  read_fails = p.read_fails ∙ w.read_fails;
}

-- a front of the rest was written
pub wrote_more : (text rest : List ℕ) (n : ℕ) (x y z : Option WireState) → n ≤ length rest
    → OnConnection (Wrote text rest) x y → WhereTold y z (λ old new. Writes old new (Ok n) rest)
    → OnConnection (Wrote text (drop n rest)) x z
wrote_more text rest n x y z h p q =
    on_then (Wrote text rest) (λ b c. PutsBytes b c (Ok n) rest) (Wrote text (drop n rest)) x y z
    (λ a b c w s. more_wrote text rest n a b c h w s) p (writes_as _ y z (Ok n) rest q (λ a b s. s))

all_wrote : (text rest : List ℕ) (a b : Present) → rest ≡ [] → Wrote text rest a b → PutsText text (Ok tt) a b
all_wrote text rest a b none w =
    let whole : text ≡ w.front = w.parts ∙ ap (λ l. w.front ++ l) none ∙ append-nil w.front in
    record {
      puts = (subst (λ l. Passes a.left.write_fails b.left.write_fails (length l)) (sym whole) w.fails, w.written ∙ ap (λ l. a.written ++ l) (sym whole));
      unread = w.unread;
      read_fails = w.read_fails;
    }

-- the whole text was written
pub wrote_all : (text rest : List ℕ) (x y : Option WireState) → rest ≡ [] → OnConnection (Wrote text rest) x y → OnConnection (PutsText text (Ok tt)) x y
wrote_all text rest x y none p = on_map (Wrote text rest) (PutsText text (Ok tt)) x y (λ a b w. all_wrote text rest a b none w) p

abbrev first_of : List ℕ → ℕ
first_of [] = 0
first_of (n ∷ more) = n

abbrev later_of : List ℕ → List ℕ
later_of [] = []
later_of (n ∷ more) = more

cut_here : (text front rest old new later before after : List ℕ) → text ≡ front ++ rest → 0 < length rest
    → Passes old new (length front) → new ≡ 0 ∷ later → after ≡ before ++ front → IsCut text old later before after
cut_here text front rest [] new later before after parts some p due w = absurd (omega (arith, ap length (sym p ∙ due)))
cut_here text front rest (b ∷ l) new later before after parts some p due w =
    let same : (b - length front) ∷ l ≡ 0 ∷ later = sym p.1 ∙ due in
    let none : b - length front ≡ 0 = ap first_of same in
    let here : b ≡ length front = omega (arith, p.0, none) in
    let rest_same : later ≡ l = sym (ap later_of same) in (
      omega (arith, here, some, ap length parts, length-append front rest),
      rest_same,
      w
          ∙ ap (λ k. before ++ k) (sym (ap (take b) parts ∙ take_at front rest b (sym here))),
    )

-- the connection failed within the text
pub wrote_fault : (text rest : List ℕ) (x y z : Option WireState) → 0 < length rest → OnConnection (Wrote text rest) x y
    → WhereTold y z (λ old new. Writes old new (Err outside.Failed) rest)
    → OnConnection (PutsText text (Err http.WriteFault)) x z
wrote_fault text rest x y z some p q =
    on_then (Wrote text rest) (λ b c. PutsBytes b c (Err outside.Failed) rest) (PutsText text (Err http.WriteFault)) x y z (λ a b c w s. record {
      puts = cut_here text w.front rest a.left.write_fails b.left.write_fails c.left.write_fails a.written c.written
          w.parts some w.fails s.fails.0 (s.bytes ∙ w.written);
      unread = s.unread ∙ w.unread;
      read_fails = s.read_fails ∙ w.read_fails;
    }) p (writes_as _ y z (Err outside.Failed) rest q (λ a b s. s))

-- there was no memory for a further piece
pub wrote_front : (text rest : List ℕ) (x y z : Option WireState) → OnConnection (Wrote text rest) x y
    → WhereTold y z (λ old new. Writes old new (Err outside.OutOfMemory) rest)
    → OnConnection (PutsText text (Err http.OutOfMemory)) x z
wrote_front text rest x y z p q =
    on_then (Wrote text rest) (λ b c. PutsBytes b c (Err outside.OutOfMemory) rest) (PutsText text (Err http.OutOfMemory)) x y z (λ a b c w s. record {
      puts = record {
        front = w.front;
        rest = rest;
        parts = w.parts;
        fails = subst (λ f. Passes a.left.write_fails f (length w.front)) (sym s.fails) w.fails;
        written = s.bytes ∙ w.written;
      };
      unread = s.unread ∙ w.unread;
      read_fails = s.read_fails ∙ w.read_fails;
    }) p (writes_as _ y z (Err outside.OutOfMemory) rest q (λ a b s. s))

-- there was no memory for the text
pub wrote_nothing : (text : List ℕ) (x : Option WireState) → OnConnection (PutsText text (Err http.OutOfMemory)) x x
wrote_nothing text x = on_same (PutsText text (Err http.OutOfMemory)) x (λ a. record {
  puts = record { front = []; rest = text; parts = refl; fails = passes_none a.left.write_fails; written = sym (append-nil a.written) };
  unread = refl;
  read_fails = refl;
})

-- ---- a text in two pieces

takes_both : (a b : List ℕ) (count : ℕ) → length a ≤ count → take count (a ++ b) ≡ a ++ take (count - length a) b
takes_both [] b count le = ap (λ n. take n b) (omega arith)
takes_both (x ∷ a) b zero le = absurd (omega (arith, le))
takes_both (x ∷ a) b (suc count) le =
    let same : suc count - suc (length a) ≡ count - length a = omega arith in
    rw same (ap (λ l. x ∷ l) (takes_both a b count (omega (arith, le))))

cut_later : (a b old mid new before between after : List ℕ) → Passes old mid (length a) → between ≡ before ++ a
    → IsCut b mid new between after → IsCut (a ++ b) old new before after
cut_later a b [] [] new before between after p w c = absurd c
cut_later a b [] (y ∷ mid) new before between after p w c = absurd (cc p)
cut_later a b (x ∷ old) [] new before between after p w c = absurd c
cut_later a b (x ∷ old) (y ∷ mid) new before between after p w c =
    let left : y ≡ x - length a = ap first_of p.1 in (
      omega (arith, length-append a b, left, p.0, c.0),
      c.1 ∙ ap later_of p.1,
      c.2
          ∙ ap (λ l. l ++ take y b) w
          ∙ append_assoc before a (take y b)
          ∙ ap (λ n. before ++ (a ++ take n b)) left
          ∙ ap (λ l. before ++ l) (sym (takes_both a b x p.0)),
    )

puts_later : (a b : List ℕ) (r : Result (Unit {0}) HttpError) (old mid new before between after : List ℕ)
    → Puts a (Ok tt) old mid before between → Puts b r mid new between after → Puts (a ++ b) r old new before after
puts_later a b (Ok tt) old mid new before between after p q = (
  subst (Passes old new) (sym (length-append a b)) (passes_more _ _ _ _ _ p.0 q.0),
  q.1 ∙ ap (λ l. l ++ b) p.1 ∙ append_assoc before a b,
)
puts_later a b (Err http.WriteFault) old mid new before between after p q = cut_later a b old mid new before between after p.0 p.1 q
puts_later a b (Err http.OutOfMemory) old mid new before between after p q = record {
  front = a ++ q.front;
  rest = q.rest;
  parts = ap (λ l. a ++ l) q.parts ∙ sym (append_assoc a q.front q.rest);
  fails = subst (Passes old new) (sym (length-append a q.front)) (passes_more _ _ _ _ _ p.0 q.fails);
  written = q.written ∙ ap (λ l. l ++ q.front) p.1 ∙ append_assoc before a q.front;
}
puts_later a b (Err other) old mid new before between after p q = absurd q

-- one piece was written, and then another as far as this says
pub puts_both : (a b : List ℕ) (r : Result (Unit {0}) HttpError) (x y z : Option WireState)
    → OnConnection (PutsText a (Ok tt)) x y → OnConnection (PutsText b r) y z → OnConnection (PutsText (a ++ b) r) x z
puts_both a b r x y z p q = on_then (PutsText a (Ok tt)) (PutsText b r) (PutsText (a ++ b) r) x y z (λ k l m s t. record {
  puts = puts_later a b r _ _ _ _ _ _ s.puts t.puts;
  unread = t.unread ∙ s.unread;
  read_fails = t.read_fails ∙ s.read_fails;
}) p q

takes_first : (a b : List ℕ) (count : ℕ) → count ≤ length a → take count (a ++ b) ≡ take count a
takes_first a b zero le = refl
takes_first [] b (suc count) le = absurd (omega (arith, le))
takes_first (x ∷ a) b (suc count) le = ap (λ l. x ∷ l) (takes_first a b count (omega (arith, le)))

cut_first : (a b old new before after : List ℕ) → IsCut a old new before after → IsCut (a ++ b) old new before after
cut_first a b [] new before after c = absurd c
cut_first a b (x ∷ old) new before after c = (
  omega (arith, length-append a b, c.0),
  c.1,
  c.2 ∙ ap (λ l. before ++ l) (sym (takes_first a b x (omega (arith, c.0)))),
)

puts_part : (a b : List ℕ) (e : HttpError) (old new before after : List ℕ)
    → Puts a (Err e) old new before after → Puts (a ++ b) (Err e) old new before after
puts_part a b http.WriteFault old new before after p = cut_first a b old new before after p
puts_part a b http.OutOfMemory old new before after p = record {
  front = p.front;
  rest = p.rest ++ b;
  parts = ap (λ l. l ++ b) p.parts ∙ append_assoc p.front p.rest b;
  fails = p.fails;
  written = p.written;
}
puts_part a b other old new before after p = absurd p

-- the first piece wasn't written whole, and the other not at all
pub puts_first : (a b : List ℕ) (e : HttpError) (x y : Option WireState)
    → OnConnection (PutsText a (Err e)) x y → OnConnection (PutsText (a ++ b) (Err e)) x y
puts_first a b e x y p = on_map (PutsText a (Err e)) (PutsText (a ++ b) (Err e)) x y (λ k l s. record {
  puts = puts_part a b e _ _ _ _ s.puts;
  unread = s.unread;
  read_fails = s.read_fails;
}) p

-- ---- texts as they are put together

abbrev line_end : List ℕ
line_end = 13 ∷ 10 ∷ []

pub head_ends : (old : List ℕ) (count : ℕ)
    → (((old ++ codes "Content-Length: ") ++ decimal count) ++ line_end) ++ closing ≡ old ++ head_end count
head_ends old count = regroup old (codes "Content-Length: ") (decimal count) line_end closing
  where
    regroup : (old a d e c : List ℕ) → (((old ++ a) ++ d) ++ e) ++ c ≡ old ++ (((a ++ d) ++ e) ++ c)
    regroup old a d e c = simp append_assoc

pub begin_is : (method host target : List ℕ)
    → (((method ++ target) ++ (codes " HTTP/1.1" ++ (line_end ++ codes "Host: "))) ++ host) ++ line_end ≡ request_begin method host target
begin_is method host target = regroup method target (codes " HTTP/1.1") line_end (codes "Host: ") host
  where
    regroup : (m t v e h host : List ℕ) → (((m ++ t) ++ (v ++ (e ++ h))) ++ host) ++ e ≡ ((m ++ (t ++ v)) ++ e) ++ ((h ++ host) ++ e)
    regroup m t v e h host = simp append_assoc

pub request_is : (host path body : List ℕ)
    → ((request_begin (codes "POST ") host path ++ (codes "Content-Type: application/json" ++ line_end))
    ++ head_end (length body)) ++ body ≡ request_text host path body
unfolding request_text
request_is host path body = regroup (request_begin (codes "POST ") host path) (codes "Content-Type: application/json" ++ line_end)
    (head_end (length body)) body
  where
    regroup : (begin c end body : List ℕ) → ((begin ++ c) ++ end) ++ body ≡ begin ++ (c ++ (end ++ body))
    regroup begin c end body = simp append_assoc

pub head_is : (status : ℕ) (plain : Bool) (count : ℕ)
    → ((((((codes "HTTP/1.1 " ++ code_digits status) ++ codes " ") ++ phrase_of status)
    ++ (line_end ++ codes "Content-Type: ")) ++ type_of plain) ++ line_end)
    ++ head_end count ≡ head_text status plain count
unfolding head_text
head_is status plain count = regroup (codes "HTTP/1.1 ") (code_digits status) (codes " ") (phrase_of status) line_end
    (codes "Content-Type: ") (type_of plain) (head_end count)
  where
    regroup : (v d s p e c t rest : List ℕ) → ((((((v ++ d) ++ s) ++ p) ++ (e ++ c)) ++ t) ++ e)
        ++ rest ≡ ((v ++ (d ++ (s ++ p))) ++ e) ++ (((c ++ t) ++ e) ++ rest)
    regroup v d s p e c t rest = simp append_assoc
