-- What was read of a connection is the message that it brings.
use Rattle.std.proofs.Common.{◌≡◌, ◌≤◌, ◌<◌, ◌+◌, ◌-◌, ℕ, List, [], ◌∷◌, ◌++◌, None, Some, Option, Bool, true, false, Result, Ok, Err}
use Rattle.std.proofs.Common.{length, take, drop, refl, sym, ap, ap₂, ◌∙◌, subst, append-nil, append_assoc, arith, length-append}
use Rattle.std.proofs.Common.{length-drop, length-take-le, inl, inr, ◌⊎◌}
use Rattle.std.specs.Prelude.{⊤, min, max, MatchBool, nat_le, nat_lt, cond, slice_range}
use Rattle.std.proofs.lemmas.Bool.{le-leb, lt-leb, cases_lt, false≢true}
use Rattle.std.proofs.lemmas.List.{take_all, take_at, take-append-le, drop-append-le}
use Rattle.siri_outside.specs.Wires.{Connection, Present, WireState}
use Rattle.siri_http.specs.declared.errors.HttpError.{HttpError}
use Rattle.siri_http.specs.declared.errors.HttpError.TheVariants as http
use Rattle.siri_http.specs.declared.scan.HeadText.{HeadText}
use Rattle.siri_http.specs.declared.scan.Scan.{Scan}
use Rattle.siri_http.specs.Heads.{head_text}
use Rattle.siri_http.specs.inner.Scanning.{head_from, fresh}
use Rattle.siri_outside.specs.Failures.{Passes}
use Rattle.siri_outside.specs.MetFailures.{Meets}
use Rattle.siri_http.specs.Connections.{readable, cut_of, OnConnection}
use Rattle.siri_http.specs.Messages.{Head, IsHead, text_says, body_in, told_with, message, message_by, message_after, Brings, ReadsMessage}
use Rattle.siri_http.specs.Messages.{Decides, IfCut, is_memory, is_cut, is_read_fault, end_by, message_end}
use Rattle.siri_http.specs.inner.Faults.{is_fault}
use Rattle.siri_http.specs.inner.Reading.{TakesInput, Stops, HasHead, HasNoHead, SaysSo, LacksBody, HasBody}
use Rattle.siri_outside.proofs.MetFailures.{passes_none}
use Rattle.siri_http.proofs.Lines.{cut_text}
use Rattle.siri_http.proofs.HeadTexts.{head_at, head_full, head_len, no_head_short, no_head_long}
use Rattle.siri_http.proofs.Alone.{cut_known, message_is, alone}
use Rattle.siri_http.proofs.Connections.{on_map, on_then, on_same, takes_none, takes_more, takes_readable, stops_more, took_stops, taken_on}

pub unless : (b : Bool) (P : Type 0) → P → MatchBool b ⊤ P
unless true P p = tt
unless false P p = p

unless_map : (b : Bool) (P Q : Type 0) → (P → Q) → MatchBool b ⊤ P → MatchBool b ⊤ Q
unless_map true P Q f p = tt
unless_map false P Q f p = f p

unless_both : (b : Bool) (P Q R : Type 0) → (P → Q → R) → MatchBool b ⊤ P → MatchBool b ⊤ Q → MatchBool b ⊤ R
unless_both true P Q R f p q = tt
unless_both false P Q R f p q = f p q

-- ---- no head text

stops_cut : (bytes : List ℕ) (e : HttpError) (a b : Present) → Stops bytes e a b → is_cut e ≡ true
stops_cut bytes e a b s = ap is_cut (sym s.cut_is) ∙ cut_known a.left.read_fails (length a.left.input)

-- the connection stopped before a head text came
stops_no_head : (bytes : List ℕ) (e : HttpError) (a b : Present) → Stops bytes e a b → length bytes < 16384 → head_from fresh bytes ≡ None → HasNoHead e a b
stops_no_head bytes e a b s h none = record {
  taken = bytes;
  input = s.input;
  fails = s.fails;
  reach = subst (λ t. MatchBool t (bytes ≡ readable a.left) (length bytes ≤ 16384)) (sym (stops_cut bytes e a b s)) (sym s.readable_is);
  needed = unless (is_memory e) _ (subst (λ t. MatchBool t ⊤ (16384 ≤ length bytes)) (sym (stops_cut bytes e a b s)) tt);
  unwritten = s.unwritten;
  written = s.written;
  none = unless (is_memory e) _ (ap head_text s.readable_is ∙ no_head_short bytes (omega (arith, h)) none);
  reason = unless (is_memory e) _ (sym (ap (λ l. cond (nat_le 16384 (length l)) http.HeadTooLong (cut_of a.left))
      s.readable_is ∙ ap (λ t. cond t http.HeadTooLong (cut_of a.left)) (lt-leb 16384 (length bytes) h) ∙ s.cut_is));
}

pub stops_before_head : (bytes : List ℕ) (e : HttpError) (x y z : Option WireState) → OnConnection (TakesInput bytes) x y
    → OnConnection (Stops [] e) y z → length bytes < 16384 → head_from fresh bytes ≡ None
    → OnConnection (HasNoHead e) x z
stops_before_head bytes e x y z p q h none = on_map (Stops bytes e) (HasNoHead e) x z
    (λ a b s. stops_no_head bytes e a b s h none) (took_stops x y z bytes e p q)

-- so many bytes came, and no head text
too_long : (bytes : List ℕ) (a b : Present) → length bytes ≡ 16384 → head_from fresh bytes ≡ None → TakesInput bytes a b → HasNoHead http.HeadTooLong a b
too_long bytes a b h none t =
    let e = takes_readable bytes a b t in
    let most : 16384 ≤ length (bytes ++ readable b.left) = omega (arith, h, length-append bytes (readable b.left)) in
    record {
      taken = bytes;
      input = t.input;
      fails = t.fails;
      reach = omega (arith, h);
      needed = omega (arith, h);
      unwritten = t.unwritten;
      written = t.written;
      none = ap head_text e ∙ no_head_long bytes (readable b.left) h none;
      reason = sym (ap (λ l. cond (nat_le 16384 (length l)) http.HeadTooLong (cut_of a.left)) e
          ∙ ap (λ t. cond t http.HeadTooLong (cut_of a.left)) (le-leb 16384 _ most));
    }

pub head_too_long : (bytes : List ℕ) (x y : Option WireState) → length bytes ≡ 16384 → head_from fresh bytes ≡ None
    → OnConnection (TakesInput bytes) x y → OnConnection (HasNoHead http.HeadTooLong) x y
head_too_long bytes x y h none p = on_map (TakesInput bytes) (HasNoHead http.HeadTooLong) x y (λ a b. too_long bytes a b h none) p

-- ---- the bytes that a read put behind those that came

piece_is : (f n : ℕ) (new : List ℕ) → slice_range new f (f + n) ≡ take n (drop f new)
piece_is f n new =
    let count : (f + n) - f ≡ n = omega arith in
    ap (λ k. take k (drop f new)) count

piece_len : (f n : ℕ) (new : List ℕ) → f + n ≤ length new → length (slice_range new f (f + n)) ≡ n
piece_len f n new h = ap length (piece_is f n new) ∙ length-take-le n (drop f new) (omega (arith, h, length-drop f new))

pub scan_len : (f n len : ℕ) (new : List ℕ) → len ≡ f + length (slice_range new f (f + n)) → f + n ≤ length new → len ≡ f + n
scan_len f n len new e h = e ∙ ap (λ k. f + k) (piece_len f n new h)

pub scan_took : (x y : Option WireState) (f n len : ℕ) (new : List ℕ) → len ≡ f + length (slice_range new f (f + n))
    → f + n ≤ length new → OnConnection (TakesInput (take (f + n) new)) x y → OnConnection (TakesInput (take len new)) x y
scan_took x y f n len new e h p = subst (λ k. OnConnection (TakesInput (take k new)) x y) (sym (scan_len f n len new e h)) p

came_as : (f n : ℕ) (old new rest : List ℕ) → take f new ≡ take f old → take (f + n) new ++ rest ≡ take f old ++ (slice_range new f (f + n) ++ rest)
came_as f n old new rest k =
    ap (λ l. l ++ rest) (taken_on f n old new k ∙ ap (λ l. take f old ++ l) (sym (piece_is f n new)))
    ∙ append_assoc (take f old) (slice_range new f (f + n)) rest

-- the scan goes on
pub scan_same : (f n len : ℕ) (old new : List ℕ) (before after : Scan) → take f new ≡ take f old → f + n ≤ length new
    → len ≡ f + length (slice_range new f (f + n))
    → ((rest : List ℕ) → head_from fresh (take f old ++ rest) ≡ head_from before rest)
    → ((rest : List ℕ) → head_from before (slice_range new f (f + n) ++ rest) ≡ head_from after rest) → (rest : List ℕ)
    → head_from fresh (take len new ++ rest) ≡ head_from after rest
scan_same f n len old new before after k h e same more rest =
    ap (λ j. head_from fresh (take j new ++ rest)) (scan_len f n len new e h)
    ∙ ap (head_from fresh) (came_as f n old new rest k) ∙ same (slice_range new f (f + n) ++ rest) ∙ more rest

-- the scan found a head text
pub head_found : (f n : ℕ) (old new : List ℕ) (before : Scan) (text : HeadText) → take f new ≡ take f old
    → f + n ≤ length new → length new ≡ 16384
    → ((rest : List ℕ) → head_from fresh (take f old ++ rest) ≡ head_from before rest)
    → text.len ≤ f + length (slice_range new f (f + n))
    → ((rest : List ℕ) → head_from before (slice_range new f (f + n) ++ rest) ≡ Some text)
    → HasHead (take (f + n) new) text
head_found f n old new before text k h room same within found = record {
  bound = omega (arith, length-take-le (f + n) new h, h, room);
  within = omega (arith, length-take-le (f + n) new h, within, piece_len f n new h);
  found = λ rest. ap (head_from fresh) (came_as f n old new rest k) ∙ same (slice_range new f (f + n) ++ rest) ∙ found rest;
}

-- no memory before anything was read
pub head_not_begun : (x : Option WireState) → OnConnection (HasNoHead http.OutOfMemory) x x
head_not_begun x = on_same (HasNoHead http.OutOfMemory) x (λ a. record {
  taken = [];
  input = refl;
  fails = passes_none a.left.read_fails;
  reach = omega arith;
  needed = tt;
  unwritten = refl;
  written = refl;
  none = tt;
  reason = tt;
})

-- ---- a body

-- no memory for a body
pub body_no_memory : (room : ℕ) (x : Option WireState) → OnConnection (LacksBody room http.OutOfMemory) x x
body_no_memory room x = on_same (LacksBody room http.OutOfMemory) x takes_none

lacks : (bytes : List ℕ) (room : ℕ) (e : HttpError) (a b : Present) → length bytes < room → Stops bytes e a b → LacksBody room e a b
lacks bytes room e a b h s = subst (λ t. MatchBool t (TakesInput [] a b) ((bytes : List ℕ) × Stops bytes e a b × (length bytes < room))) (sym s.known) (bytes, s, h)

-- fewer bytes came than the body has
pub body_stops : (bytes : List ℕ) (room : ℕ) (e : HttpError) (x y : Option WireState) → length bytes < room
    → OnConnection (Stops bytes e) x y → OnConnection (LacksBody room e) x y
body_stops bytes room e x y h p = on_map (Stops bytes e) (LacksBody room e) x y (λ a b. lacks bytes room e a b h) p

length_zero : (l : List ℕ) → length l ≡ 0 → l ≡ []
length_zero [] e = refl
length_zero (x ∷ l) e = absurd (omega (arith, e))

body_parts : (came more : List ℕ) (count here : ℕ) → here ≡ min (length came) count → length more ≡ count - here
    → take here came ++ more ≡ take count (came ++ more)
body_parts came more count here h m = choose (cases_lt (length came) count)
  where
    choose : (length came < count) ⊎ (count ≤ length came) → take here came ++ more ≡ take count (came ++ more)
    choose (inl l) =
        let all : here ≡ length came = omega (arith, h, l) in
        ap (λ l. l ++ more) (ap (λ k. take k came) all ∙ take_all (length came) came (omega arith))
        ∙ sym (take_all count (came ++ more) (omega (arith, length-append came more, m, all, l)))
    choose (inr l) =
        let all : here ≡ count = omega (arith, h, l) in
        let none : more ≡ [] = length_zero more (omega (arith, m, all)) in
        ap (λ k. take k came ++ more) all ∙ ap (λ l. take count came ++ l) none ∙ append-nil (take count came) ∙ sym (take-append-le count came more l)

has_body : (came more : List ℕ) (count here : ℕ) (a b : Present) → here ≡ min (length came) count
    → length more ≡ count - here → TakesInput more a b → HasBody came count (take here came ++ more) a b
has_body came more count here a b h m t = record {
  more = more;
  takes = t;
  exact = omega (arith, h, m);
  body_is = body_parts came more count here h m;
}

-- the body is what came of it with the head, and what was read behind that
pub body_came : (came more : List ℕ) (count here : ℕ) (x y : Option WireState) → here ≡ min (length came) count
    → length more ≡ count - here → OnConnection (TakesInput more) x y
    → OnConnection (HasBody came count (take here came ++ more)) x y
body_came came more count here x y h m p = on_map (TakesInput more) (HasBody came count (take here came ++ more)) x y
    (λ a b. has_body came more count here a b h m) p

-- a buffer after its whole was lent and came back
pub lent_whole : (n : ℕ) (lent items : List ℕ) → length lent ≡ length items → n ≡ length items → take n (lent ++ drop (length lent) items) ≡ lent
lent_whole n lent items e h = take_at lent (drop (length lent) items) n (e ∙ sym h)

-- ---- messages

memory_not_cut : (e : HttpError) → is_memory e ≡ true → is_cut e ≡ false
memory_not_cut http.OutOfMemory m = refl
memory_not_cut other m = absurd (false≢true m)

not_cut : (e : HttpError) → is_fault e ≡ false → is_cut e ≡ false
not_cut http.Short f = absurd (false≢true (sym f))
not_cut http.ReadFault f = absurd (false≢true (sym f))
not_cut other f = refl

memory_not_fault : (e : HttpError) → is_memory e ≡ true → is_read_fault e ≡ false
memory_not_fault http.OutOfMemory m = refl
memory_not_fault other m = absurd (false≢true m)

no_read_fault : (e : HttpError) → is_fault e ≡ false → is_read_fault e ≡ false
no_read_fault http.ReadFault f = absurd (false≢true (sym f))
no_read_fault other f = refl

-- bytes passed, and this isn't the answer that a read failed
passed : (failed : Bool) (old new : List ℕ) (count : ℕ) → failed ≡ false → Passes old new count → Meets failed old new count
passed false old new count is p = p
passed true old new count is p = absurd (false≢true (sym is))

-- a refusal that the bytes up to the message's end decide
decided_by : {T : Type 0} (Says : List ℕ → Option (Head T) → Type 0) (c : Connection) (e : HttpError) (taken : ℕ)
    → MatchBool (is_memory e) ⊤ (Brings Says c (Err e)) → MatchBool
    (is_memory e) ⊤ (MatchBool (is_cut e) ⊤ (end_by {T = T} (head_text (readable c)) (Err e) ≤ taken))
    → MatchBool (is_memory e) ⊤ (MatchBool (is_cut e) ⊤ (Decides Says c (Err e)
    (end_by {T = T} (head_text (readable c)) (Err e)) taken))
decided_by {T = T} Says c e taken b n = choose (is_memory e) (is_cut e) refl b n
  where
    choose : (m k : Bool) → is_cut e ≡ k → MatchBool m ⊤ (Brings Says c (Err e))
        → MatchBool m ⊤ (MatchBool k ⊤ (end_by {T = T} (head_text (readable c)) (Err e) ≤ taken))
        → MatchBool m ⊤ (MatchBool k ⊤ (Decides Says c (Err e) (end_by {T = T} (head_text (readable c)) (Err e)) taken))
    choose true k is b n = tt
    choose false true is b n = tt
    choose false false is b n = record { needed = n; alone = alone Says c (Err e) b (subst (λ t. MatchBool t ⊥ ⊤) (sym is) tt) }

cut_or_map : (b : Bool) (P Q R : Type 0) → (Q → R) → MatchBool b P Q → MatchBool b P R
cut_or_map true P Q R f p = p
cut_or_map false P Q R f p = f p

none_brings : {T : Type 0} (Says : List ℕ → Option (Head T) → Type 0) (e : HttpError) (a : Present)
    → head_text (readable a.left) ≡ None → e ≡ cond (nat_le 16384 (length (readable a.left))) http.HeadTooLong
    (cut_of a.left) → Brings Says a.left (Err e)
none_brings Says e a none reason = record {
  head = None;
  is_head = subst (λ t. IsHead Says t None) (sym none) tt;
  message_is = ap Err reason ∙ sym (message_is None (cut_of a.left) (readable a.left) ∙ ap (λ t. message_by t None (cut_of a.left) (readable a.left)) none);
}

pub no_head : {T : Type 0} (Says : List ℕ → Option (Head T) → Type 0) (e : HttpError) (x y : Option WireState)
    → OnConnection (HasNoHead e) x y → OnConnection (ReadsMessage Says (Err e)) x y
no_head {T = T} Says e x y p = on_map (HasNoHead e) (ReadsMessage Says (Err e)) x y none p
  where
    none : (a b : Present) → HasNoHead e a b → ReadsMessage Says (Err e) a b
    none a b n =
        let brings = unless_both (is_memory e) _ _ _ (none_brings Says e a) n.none n.reason in
        record {
          taken = n.taken;
          input = n.input;
          fails = n.fails;
          reach = cut_or_map (is_cut e) _ _ _ (λ few. omega (arith, few)) n.reach;
          unwritten = n.unwritten;
          written = n.written;
          brings = brings;
          decided = decided_by Says a.left e (length n.taken) brings
              (unless_both (is_memory e) _ _ _ (λ no_head needed.
              unless_map (is_cut e) _ _ (λ all. subst (λ t. end_by {T = T} t (Err e) ≤ length n.taken)
              (sym no_head) all) needed) n.none n.needed);
        }

-- the head text of what can be read, and what it says
module _ {T : Type 0} (Says : List ℕ → Option (Head T) → Type 0) (bytes : List ℕ) (text : HeadText) (h : HasHead bytes text) where
  head_is : (head : Option (Head T)) (rest : List ℕ) → MatchBool
      (nat_lt 65 text.full) ⊤ (Says (take text.len bytes) head) → IsHead Says (head_text (bytes ++ rest)) head
  head_is head rest s =
      subst (λ t. IsHead Says t head) (sym (head_at bytes rest text h))
      (subst (λ n. MatchBool (nat_lt 65 n) ⊤ (Says (take text.len bytes) head)) (sym (head_full bytes text h)) s)

  after_is : (head : Option (Head T)) (cut : HttpError) (rest : List ℕ) (says : Result (T × ℕ) HttpError)
      → says ≡ text_says text.full head → message head cut (bytes ++ rest) ≡ message_after text.len says cut
      (bytes ++ rest)
  after_is head cut rest says e =
      message_is head cut (bytes ++ rest) ∙ ap (λ t. message_by t head cut (bytes ++ rest)) (head_at bytes rest text h)
      ∙ ap₂ (λ len full. message_after len (text_says full head) cut (bytes ++ rest)) (head_len bytes text h)
      (head_full bytes text h) ∙ ap (λ s. message_after text.len s cut (bytes ++ rest)) (sym e)

  brings_as : (a : Present) (rest : List ℕ) (head : Option (Head T)) (says : Result (T × ℕ) HttpError)
      (result : Result (T × List ℕ) HttpError) → readable a.left ≡ bytes ++ rest
      → MatchBool (nat_lt 65 text.full) ⊤ (Says (take text.len bytes) head) → says ≡ text_says text.full head
      → result ≡ message_after text.len says (cut_of a.left) (bytes ++ rest) → Brings Says a.left result
  brings_as a rest head says result r s e m = record {
    head = head;
    is_head = subst (λ l. IsHead Says (head_text l) head) (sym r) (head_is head rest s);
    message_is = m ∙ sym (ap (message head (cut_of a.left)) r ∙ after_is head (cut_of a.left) rest says e);
  }

  text_of : (a : Present) (rest : List ℕ) → readable a.left ≡ bytes ++ rest → head_text (readable a.left) ≡ Some (take text.len bytes)
  text_of a rest r = ap head_text r ∙ head_at bytes rest text h

  -- the head is refused
  refused : (e : HttpError) (a b : Present) → is_fault e ≡ false → SaysSo Says (take text.len bytes) text.full (Err e)
      → TakesInput bytes a b → ReadsMessage Says (Err e) a b
  refused e a b f s t =
      let brings = unless_both (is_memory e) _ _ _
      (λ says is. brings_as a (readable b.left) s.head (Err e) (Err e) (takes_readable bytes a b t) says is refl)
      s.says s.result_is in
      let found = text_of a (readable b.left) (takes_readable bytes a b t) in
      record {
        taken = bytes;
        input = t.input;
        fails = passed (is_read_fault e) _ _ _ (no_read_fault e f) t.fails;
        reach = subst (λ t. MatchBool t (bytes ≡ readable a.left)
            (length bytes ≤ max 16384 (end_by {T = T} (head_text (readable a.left)) (Err e)))) (sym (not_cut e f))
            (omega (arith, h.bound));
        unwritten = t.unwritten;
        written = t.written;
        brings = brings;
        decided = decided_by Says a.left e (length bytes) brings
            (unless (is_memory e) _ (unless (is_cut e) _
            (subst (λ t. end_by {T = T} t (Err e) ≤ length bytes) (sym found)
            (omega (arith, head_len bytes text h, h.within)))));
      }

  pub head_refused : (e : HttpError) (x y : Option WireState) → is_fault e ≡ false
      → SaysSo Says (take text.len bytes) text.full (Err e) → OnConnection (TakesInput bytes) x y
      → OnConnection (ReadsMessage Says (Err e)) x y
  head_refused e x y f s p = on_map (TakesInput bytes) (ReadsMessage Says (Err e)) x y (λ a b. refused e a b f s) p

  -- the body isn't whole
  cut_off : (told : T) (count : ℕ) (e : HttpError) (a b c : Present)
      → SaysSo Says (take text.len bytes) text.full (Ok (told, count)) → TakesInput bytes a b
      → LacksBody (count - length (drop text.len bytes)) e b c → ReadsMessage Says (Err e) a c
  cut_off told count e a b c s t l = choose (is_memory e) refl l
    where
      choose : (m : Bool) → is_memory e ≡ m → MatchBool m (TakesInput [] b c)
          ((more : List ℕ) × Stops more e b c × (length more < count - length (drop text.len bytes)))
          → ReadsMessage Says (Err e) a c
      choose true is n = record {
        taken = bytes ++ [];
        input = (takes_more bytes [] a b c t n).input;
        fails = passed (is_read_fault e) _ _ _ (memory_not_fault e is) (takes_more bytes [] a b c t n).fails;
        reach = subst (λ t. MatchBool t (bytes ++ [] ≡ readable a.left)
            (length (bytes ++ []) ≤ max 16384 (end_by {T = T} (head_text (readable a.left)) (Err e))))
            (sym (memory_not_cut e is)) (omega (arith, h.bound, length-append bytes []));
        unwritten = n.unwritten ∙ t.unwritten;
        written = n.written ∙ t.written;
        brings = subst (λ m. MatchBool m ⊤ (Brings Says a.left (Err e))) (sym is) tt;
        decided = subst (λ m. MatchBool m ⊤ (IfCut {A = T × List ℕ}
            (Err e) ⊤ (Decides Says a.left (Err e) (message_end {T = T} (Err e) (readable a.left))
            (length (bytes ++ []))))) (sym is) tt;
      }
      choose false is n =
          let more = n.0 in
          let all = stops_more bytes more e a b c t n.1 in
          let long : length (bytes ++ more) < text.len + count = omega (arith, n.2, h.within, length-append bytes more, length-drop text.len bytes) in
          let body : body_in text.len count (cut_of a.left) (bytes ++ more) ≡ Err e =
          ap (λ t. cond t (Ok (take count (drop text.len (bytes ++ more)))) (Err (cut_of a.left)))
          (lt-leb (text.len + count) (length (bytes ++ more)) long) ∙ ap Err all.cut_is in
          record {
            taken = bytes ++ more;
            input = all.input;
            fails = all.fails;
            reach = subst (λ t. MatchBool t (bytes ++ more ≡ readable a.left)
                (length (bytes ++ more) ≤ max 16384 (end_by {T = T} (head_text (readable a.left)) (Err e))))
                (sym (stops_cut (bytes ++ more) e a c all)) (sym all.readable_is);
            unwritten = all.unwritten;
            written = all.written;
            decided = unless (is_memory e) _ (subst
                (λ t. MatchBool t ⊤ (Decides Says a.left (Err e) (message_end {T = T} (Err e) (readable a.left))
                (length (bytes ++ more)))) (sym (stops_cut (bytes ++ more) e a c all)) tt);
            brings = subst (λ m. MatchBool m ⊤ (Brings Says a.left (Err e))) (sym is)
                (brings_as a more s.head (Ok (told, count)) (Err e) all.readable_is s.says s.result_is
                (sym (ap (told_with told) body)));
          }

  pub body_lacks : (told : T) (count : ℕ) (e : HttpError) (x y z : Option WireState)
      → SaysSo Says (take text.len bytes) text.full (Ok (told, count)) → OnConnection (TakesInput bytes) x y
      → OnConnection (LacksBody (count - length (drop text.len bytes)) e) y z
      → OnConnection (ReadsMessage Says (Err e)) x z
  body_lacks told count e x y z s p q = on_then (TakesInput bytes) (LacksBody (count - length (drop text.len bytes)) e)
      (ReadsMessage Says (Err e)) x y z (λ a b c. cut_off told count e a b c s) p q

  -- the body is whole
  whole : (told : T) (count : ℕ) (body : List ℕ) (a b c : Present)
      → SaysSo Says (take text.len bytes) text.full (Ok (told, count)) → TakesInput bytes a b
      → HasBody (drop text.len bytes) count body b c → ReadsMessage Says (Ok (told, body)) a c
  whole told count body a b c s t n =
      let all = takes_more bytes n.more a b c t n.takes in
      let rest = n.more ++ readable c.left in
      let input : readable a.left ≡ bytes ++ rest = takes_readable (bytes ++ n.more) a c all ∙ append_assoc bytes n.more (readable c.left) in
      let came = drop text.len bytes in
      let fills : count ≤ length (came ++ n.more) = omega (arith, n.exact, length-append came n.more) in
      let fits : text.len + count ≤ length (bytes ++ rest) =
      omega (
        arith,
        n.exact,
        h.within,
        length-append bytes rest,
        length-append n.more (readable c.left),
        length-append (drop text.len bytes) n.more,
        length-drop text.len bytes,
      ) in
      let cut : take count (drop text.len (bytes ++ rest)) ≡ body =
      ap (take count) (drop-append-le text.len bytes rest h.within ∙ sym (append_assoc came n.more (readable c.left)))
      ∙ take-append-le count (came ++ n.more) (readable c.left) fills ∙ sym n.body_is in
      let is : body_in text.len count (cut_of a.left) (bytes ++ rest) ≡ Ok body =
      ap (λ t. cond t (Ok (take count (drop text.len (bytes ++ rest)))) (Err (cut_of a.left)))
      (le-leb (text.len + count) (length (bytes ++ rest)) fits) ∙ ap Ok cut in
      let size : length body ≡ count = ap length n.body_is ∙ length-take-le count (came ++ n.more) fills in
      let end : message_end (Ok (told, body)) (readable a.left) ≡ text.len + count =
      ap (λ t. end_by {T = T} t (Ok (told, body))) (text_of a rest input)
      ∙ ap₂ (λ n m. n + m) (head_len bytes text h) size in
      let taken : length (bytes ++ n.more) ≡ length bytes + length n.more = length-append bytes n.more in
      let left : length came ≡ length bytes - text.len = length-drop text.len bytes in
      let brings = brings_as a rest s.head (Ok (told, count)) (Ok (told, body)) input s.says s.result_is (sym (ap (told_with told) is)) in
      record {
        taken = bytes ++ n.more;
        input = all.input;
        fails = all.fails;
        reach = subst (λ end. length (bytes ++ n.more) ≤ max 16384 end) (sym end) (omega (arith, taken, left, n.exact, h.within, h.bound));
        unwritten = all.unwritten;
        written = all.written;
        brings = brings;
        decided = record {
          needed = subst (λ end. end ≤ length (bytes ++ n.more)) (sym end) (omega (arith, taken, left, n.exact, h.within));
          alone = alone Says a.left (Ok (told, body)) brings tt;
        };
      }

  pub body_whole : (told : T) (count : ℕ) (body : List ℕ) (x y z : Option WireState)
      → SaysSo Says (take text.len bytes) text.full (Ok (told, count)) → OnConnection (TakesInput bytes) x y
      → OnConnection (HasBody (drop text.len bytes) count body) y z
      → OnConnection (ReadsMessage Says (Ok (told, body))) x z
  body_whole told count body x y z s p q = on_then (TakesInput bytes) (HasBody (drop text.len bytes) count body)
      (ReadsMessage Says (Ok (told, body))) x y z (λ a b c. whole told count body a b c s) p q

-- the head text at the front of what came
pub text_found : (bytes cut : List ℕ) (text : HeadText) → HasHead bytes text → cut ≡ take text.len bytes
    → head_from fresh cut ≡ Some (record { len = length cut; full = text.full })
text_found bytes cut text h e =
    let found : head_from fresh bytes ≡ Some text = ap (head_from fresh) (sym (append-nil bytes)) ∙ h.found [] in
    subst (λ l. head_from fresh l ≡ Some (record { len = length l; full = text.full })) (sym e) (cut_text bytes text found)
