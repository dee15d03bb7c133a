-- The scan finds the head text: a state of it stands for the lines that came.
use Rattle.std.proofs.Common.{◌≡◌, ◌≤◌, ◌+◌, ◌-◌, ℕ, List, [], ◌∷◌, ◌++◌, None, Some, Option, Bool, true, false, length, take, drop, map}
use Rattle.std.proofs.Common.{refl, sym, ap, ap₂, ◌∙◌, subst, append-nil, append_assoc, arith, length-append, length-take-le}
use Rattle.std.proofs.Common.{take-append-drop}
use Rattle.std.specs.Prelude.{◌==◌, ◌&&◌, ◌||◌, not, nat_lt, cond, is_some, unwrap_or, option_map, bytes_eq}
use Rattle.std.specs.List.{filter, find, onto_first}
use Rattle.std.proofs.lemmas.Bool.{and_left, and_parts, eqb-true, false≢true}
use Rattle.std.proofs.lemmas.List.{length-take, take_all, take_at, take-append-le, take-take}
use Rattle.std.proofs.lemmas.List.Elements.{filter-append}
use Rattle.std.proofs.Math.Bool.{and-false}
use Rattle.std.proofs.Math.Seq.{take-append-add}
use Rattle.siri_http.specs.declared.scan.Line.{Line}
use Rattle.siri_http.specs.declared.scan.Line.TheVariants as line
use Rattle.siri_http.specs.declared.scan.Scan.{Scan}
use Rattle.siri_http.specs.declared.scan.HeadText.{HeadText}
use Rattle.siri_http.specs.Heads.{lines, is_empty, full_lines, ends_empty, ends_head, fronts, head_text}
use Rattle.siri_http.specs.inner.Scanning as scan
use Rattle.siri_http.specs.inner.Reading.{HasHead}
use Rattle.siri_http.proofs.Lines.{Plain, plain_append, second_byte, text_cut}

-- ---- lines

-- LF ends the line that has begun
line_ended : (begun rest : List ℕ) → Plain begun → lines (begun ++ 10 ∷ rest) ≡ (begun ++ 10 ∷ []) ∷ lines rest
line_ended [] rest p = refl
line_ended (b ∷ begun) rest p =
    let text = begun ++ 10 ∷ rest in
    ap (λ t. cond t ((b ∷ []) ∷ lines text) (onto_first b (lines text))) p.0 ∙ ap (onto_first b) (line_ended begun rest p.1)

-- a line that no LF ends goes up to the end
line_begun : (b : ℕ) (begun : List ℕ) → Plain (b ∷ begun) → lines (b ∷ begun) ≡ (b ∷ begun) ∷ []
line_begun b [] p = ap (λ t. cond t ((b ∷ []) ∷ []) (onto_first b [])) p.0
line_begun b (c ∷ begun) p =
    ap (λ t. cond t ((b ∷ []) ∷ lines (c ∷ begun)) (onto_first b (lines (c ∷ begun)))) p.0 ∙ ap (onto_first b) (line_begun c begun p.1)

line_longer : (begun : List ℕ) (b : ℕ) → Plain (begun ++ b ∷ []) → lines (begun ++ b ∷ []) ≡ (begun ++ b ∷ []) ∷ []
line_longer [] b p = line_begun b [] p
line_longer (a ∷ begun) b p = line_begun a (begun ++ b ∷ []) p

ends_last : (ended : List (List ℕ)) (last : List ℕ) → ends_empty (ended ++ last ∷ []) ≡ is_empty last
ends_last [] last = refl
ends_last (a ∷ []) last = refl
ends_last (a ∷ b ∷ ended) last = ends_last (b ∷ ended) last

-- ---- empty lines

none_passes : (t u v w : Bool) → v ≡ false → ((t && false) || (u && (v && w))) ≡ false
none_passes t u v w e = ap₂ (λ x y. x || (u && y)) (and-false t) (and_left v w e) ∙ and-false u

-- a line without an LF isn't empty
begun_full : (begun : List ℕ) → Plain begun → is_empty begun ≡ false
begun_full [] p = refl
begun_full (a ∷ []) p = ap₂ (λ x y. x || y) (and_left (a == 10) true p.0) (and-false (a == 13))
begun_full (a ∷ b ∷ begun) p = none_passes (a == 10) (a == 13) (b == 10) (bytes_eq begun []) p.1.0

-- what came of a line
abbrev came_of : List ℕ → Line
came_of [] = line.Nothing
came_of (a ∷ []) = cond (a == 13) line.Return line.Text
came_of (a ∷ b ∷ begun) = line.Text

came_more : (begun : List ℕ) (b : ℕ) → scan.line_after (came_of begun) b ≡ came_of (begun ++ b ∷ [])
came_more [] b = refl
came_more (a ∷ []) b = second_byte (a == 13) b
came_more (a ∷ c ∷ begun) b = refl

return_came : (t : Bool) → (t && true) ≡ scan.is_empty (cond t line.Return line.Text)
return_came true = refl
return_came false = refl

-- a line is empty where the scan takes it for empty
came_empty : (begun : List ℕ) → Plain begun → is_empty (begun ++ 10 ∷ []) ≡ scan.is_empty (came_of begun)
came_empty [] p = refl
came_empty (a ∷ []) p = ap (λ t. t || ((a == 13) && true)) (and-false (a == 10)) ∙ return_came (a == 13)
came_empty (a ∷ b ∷ begun) p = none_passes (a == 10) (a == 13) (b == 10) (bytes_eq (begun ++ 10 ∷ []) []) p.1.0

-- ---- lines that aren't empty

abbrev full_in : List (List ℕ) → ℕ
full_in lines = length (filter (λ line. not (is_empty line)) lines)

full_lines_is : (text : List ℕ) → full_lines text ≡ full_in (lines text)
unfolding full_lines
full_lines_is text = refl

one_longer : {A : Type 0} (t : Bool) (xs : List A) (x : A) → length (xs ++ cond (not t) (x ∷ []) []) ≡ cond t (length xs) (length xs + 1)
one_longer true xs x = ap length (append-nil xs)
one_longer false xs x = length-append xs (x ∷ [])

full_more : (ended : List (List ℕ)) (last : List ℕ) → full_in (ended ++ last ∷ []) ≡ cond (is_empty last) (full_in ended) (full_in ended + 1)
full_more ended last =
    ap length (filter-append (λ line. not (is_empty line)) ended (last ∷ [])) ∙ one_longer (is_empty last) (filter (λ line. not (is_empty line)) ended) last

-- ---- a state of the scan

-- it stands for the bytes that came: for the lines that have ended, and one that has begun
record StandsFor (s : Scan) (came : List ℕ) : Type 0 where
  ended : List (List ℕ)
  begun : List ℕ
  plain : Plain begun
  parts : (rest : List ℕ) → lines (came ++ rest) ≡ ended ++ lines (begun ++ rest)
  len : s.len ≡ length came
  full : s.full ≡ full_in ended
  line : s.line ≡ came_of begun

nothing_came : StandsFor scan.fresh []
nothing_came = record { ended = []; begun = []; plain = tt; parts = λ rest. refl; len = refl; full = refl; line = refl }

-- a byte is taken: whether it ends the head text, how many lines of that aren't empty, and what the state stands for then
record TakesByte (s : Scan) (came : List ℕ) (b : ℕ) : Type 0 where
  test : ends_head (came ++ b ∷ []) ≡ scan.ends_head s b
  full : scan.ends_head s b ≡ true → s.full ≡ full_lines (came ++ b ∷ [])
  next : StandsFor (scan.after_byte s b) (came ++ b ∷ [])

after_parts : (came begun more : List ℕ) (ended : List (List ℕ))
    → ((rest : List ℕ) → lines (came ++ rest) ≡ ended ++ lines (begun ++ rest)) → (rest : List ℕ)
    → lines ((came ++ more) ++ rest) ≡ ended ++ lines (begun ++ (more ++ rest))
after_parts came begun more ended parts rest = ap lines (append_assoc came more rest) ∙ parts (more ++ rest)

inner_test : (s : Scan) (b : ℕ) → (b == 10) ≡ false → scan.ends_head s b ≡ false
unfolding scan.ends_head
inner_test s b p = and_left (b == 10) _ p

inner_next : (s : Scan) (b : ℕ) → (b == 10) ≡ false → scan.after_byte s b ≡ record { len = s.len + 1; full = s.full; line = scan.line_after s.line b }
unfolding scan.after_byte
inner_next s b p = rw p refl

module _ (s : Scan) (came : List ℕ) (h : StandsFor s came) where
  -- a byte that ends no line
  module _ (b : ℕ) (p : (b == 10) ≡ false) where
    longer_plain : Plain (h.begun ++ b ∷ [])
    longer_plain = plain_append h.begun (b ∷ []) h.plain (p, tt)

    inner_ends : ends_head (came ++ b ∷ []) ≡ false
    inner_ends =
        let parts : lines (came ++ b ∷ []) ≡ h.ended ++ (h.begun ++ b ∷ []) ∷ [] = h.parts (b ∷ [])
        ∙ ap (λ l. h.ended ++ l) (line_longer h.begun b longer_plain) in
        and_left (ends_empty (lines (came ++ b ∷ []))) _
        (ap ends_empty parts ∙ ends_last h.ended (h.begun ++ b ∷ []) ∙ begun_full (h.begun ++ b ∷ []) longer_plain)

    inner_stands : StandsFor (record { len = s.len + 1; full = s.full; line = scan.line_after s.line b }) (came ++ b ∷ [])
    inner_stands = record {
      ended = h.ended;
      begun = h.begun ++ b ∷ [];
      plain = longer_plain;
      parts = λ rest. after_parts came h.begun (b ∷ []) h.ended h.parts rest ∙ ap (λ l. h.ended ++ lines l) (sym (append_assoc h.begun (b ∷ []) rest));
      len = ap (λ n. n + 1) h.len ∙ sym (length-append came (b ∷ []));
      full = h.full;
      line = ap (λ l. scan.line_after l b) h.line ∙ came_more h.begun b;
    }

    inner_takes : TakesByte s came b
    inner_takes = record {
      test = inner_ends ∙ sym (inner_test s b p);
      full = λ e. absurd (false≢true (sym (inner_test s b p) ∙ e));
      next = subst (λ t. StandsFor t (came ++ b ∷ [])) (sym (inner_next s b p)) inner_stands;
    }

  -- LF
  feed_parts : lines (came ++ 10 ∷ []) ≡ h.ended ++ (h.begun ++ 10 ∷ []) ∷ []
  feed_parts = h.parts (10 ∷ []) ∙ ap (λ l. h.ended ++ l) (line_ended h.begun [] h.plain)

  feed_empty : is_empty (h.begun ++ 10 ∷ []) ≡ scan.is_empty s.line
  feed_empty = came_empty h.begun h.plain ∙ ap scan.is_empty (sym h.line)

  feed_full : full_in (h.ended ++ (h.begun ++ 10 ∷ []) ∷ []) ≡ scan.full_after s
  feed_full = full_more h.ended (h.begun ++ 10 ∷ []) ∙ ap₂ (λ t n. cond t n (n + 1)) feed_empty (sym h.full)

  feed_lines : full_lines (came ++ 10 ∷ []) ≡ scan.full_after s
  feed_lines = full_lines_is (came ++ 10 ∷ []) ∙ ap full_in feed_parts ∙ feed_full

same_test : (t : Bool) (n : ℕ) → (t && nat_lt 0 (cond t n (n + 1))) ≡ (t && nat_lt 0 n)
same_test true n = refl
same_test false n = refl

same_full : (t : Bool) (n : ℕ) → t ≡ true → cond t n (n + 1) ≡ n
same_full t n e = ap (λ t. cond t n (n + 1)) e

feed_takes : (s : Scan) (came : List ℕ) → StandsFor s came → TakesByte s came 10
unfolding scan.ends_head scan.after_byte
feed_takes s came h = record {
  test = ap₂ (λ t n. t && nat_lt 0 n) (ap ends_empty (feed_parts s came h) ∙ ends_last h.ended (h.begun ++ 10 ∷ [])
      ∙ feed_empty s came h) (feed_lines s came h) ∙ same_test (scan.is_empty s.line) s.full;
  full = λ e. sym (feed_lines s came h ∙ same_full (scan.is_empty s.line) s.full (and_parts (scan.is_empty s.line) _ e).0);
  next = record {
    ended = h.ended ++ (h.begun ++ 10 ∷ []) ∷ [];
    begun = [];
    plain = tt;
    parts = λ rest. after_parts came h.begun (10 ∷ []) h.ended h.parts rest
        ∙ ap (λ l. h.ended ++ l) (line_ended h.begun rest h.plain)
        ∙ sym (append_assoc h.ended ((h.begun ++ 10 ∷ []) ∷ []) (lines rest));
    len = ap (λ n. n + 1) h.len ∙ sym (length-append came (10 ∷ []));
    full = sym (feed_full s came h);
    line = refl;
  };
}

takes : (s : Scan) (came : List ℕ) (b : ℕ) → StandsFor s came → TakesByte s came b
takes s came b h = choose (b == 10) refl
  where
    choose : (t : Bool) → (b == 10) ≡ t → TakesByte s came b
    choose true e = subst (λ b. TakesByte s came b) (sym (eqb-true b 10 e)) (feed_takes s came h)
    choose false e = inner_takes s came h b e

-- ---- the first front that ends a head

longer_fronts : (came : List ℕ) (b : ℕ) (more : List (List ℕ))
    → find ends_head (map (λ front. came ++ front) (map (λ front. b ∷ front) more)) ≡ find ends_head
    (map (λ front. (came ++ b ∷ []) ++ front) more)
longer_fronts came b [] = refl
longer_fronts came b (front ∷ more) =
    ap₂ (λ l o. cond (ends_head l) (Some l) o) (sym (append_assoc came (b ∷ []) front)) (longer_fronts came b more)

picked : {A B : Type 0} (t : Bool) (f : A → B) (a : A) (b : B) (x : Option B) (y : Option A) → b ≡ f a
    → x ≡ option_map f y → cond t (Some b) x ≡ option_map f (cond t (Some a) y)
picked true f a b x y e m = ap Some e
picked false f a b x y e m = m

-- what the scan finds in the next bytes is the first of their fronts that ends a head, with those that came
record Finds (s : Scan) (came bytes : List ℕ) : Type 0 where
  text : find ends_head (map (λ front. came ++ front) (fronts bytes)) ≡ option_map (λ (head : HeadText). take head.len (came ++ bytes)) (scan.head_from s bytes)
  full : (head : HeadText) → scan.head_from s bytes ≡ Some head → head.full ≡ full_lines (take head.len (came ++ bytes))

finds : (s : Scan) (came bytes : List ℕ) → StandsFor s came → Finds s came bytes
finds s came [] h = record { text = refl; full = λ head e. absurd (false≢true (ap is_some e)) }
finds s came (b ∷ bytes) h = next (takes s came b h) (λ stands. finds (scan.after_byte s b) (came ++ b ∷ []) bytes stands)
  where
    found : HeadText
    found = record { len = s.len + 1; full = s.full }

    cut : came ++ b ∷ [] ≡ take (s.len + 1) (came ++ b ∷ bytes)
    cut = sym (ap (λ n. take (n + 1) (came ++ b ∷ bytes)) h.len ∙ take-append-add came (b ∷ bytes) 1)

    same : (came ++ b ∷ []) ++ bytes ≡ came ++ b ∷ bytes
    same = append_assoc came (b ∷ []) bytes

    next : TakesByte s came b → (StandsFor (scan.after_byte s b) (came ++ b ∷ []) → Finds (scan.after_byte s b) (came ++ b ∷ []) bytes) → Finds s came (b ∷ bytes)
    next step later = record {
      text = ap (λ t. cond t (Some (came ++ b ∷ [])) (find ends_head (map (λ front. came ++ front) (map (λ front. b ∷ front) (fronts bytes))))) step.test
          ∙ picked (scan.ends_head s b) (λ (head : HeadText). take head.len (came ++ b ∷ bytes)) found
          (came ++ b ∷ []) _ (scan.head_from (scan.after_byte s b) bytes) cut
          (longer_fronts came b (fronts bytes) ∙ more.text ∙ ap
          (λ l. option_map (λ (head : HeadText). take head.len l) (scan.head_from (scan.after_byte s b) bytes))
          same);
      full = λ head e. choose (scan.ends_head s b) refl head e;
    }
      where
        more : Finds (scan.after_byte s b) (came ++ b ∷ []) bytes
        more = later step.next

        choose : (t : Bool) → scan.ends_head s b ≡ t → (head : HeadText) → scan.head_from s (b ∷ bytes) ≡ Some head
            → head.full ≡ full_lines (take head.len (came ++ b ∷ bytes))
        choose true t head e =
            let is : Some found ≡ Some head = sym (ap (λ t. cond t (Some found) (scan.head_from (scan.after_byte s b) bytes)) t) ∙ e in
            subst (λ (head : HeadText). head.full ≡ full_lines (take head.len (came ++ b ∷ bytes)))
            (ap (λ o. unwrap_or o found) is) (step.full t ∙ ap full_lines cut)
        choose false t head e =
            let is : scan.head_from (scan.after_byte s b) bytes ≡ Some head =
            sym (ap (λ t. cond t (Some found) (scan.head_from (scan.after_byte s b) bytes)) t) ∙ e in
            more.full head is ∙ ap (λ l. full_lines (take head.len l)) same

same_fronts : (more : List (List ℕ)) → find ends_head (map (λ front. [] ++ front) more) ≡ find ends_head more
same_fronts [] = refl
same_fronts (front ∷ more) = ap (λ o. cond (ends_head front) (Some front) o) (same_fronts more)

-- The head text of an input is what the scan finds in its first bytes.
pub head_text_is : (input : List ℕ) → head_text input ≡ option_map
    (λ (head : HeadText). take head.len (take 16384 input)) (scan.head_from scan.fresh (take 16384 input))
unfolding head_text
head_text_is input = sym (same_fronts (fronts (take 16384 input))) ∙ (finds scan.fresh [] (take 16384 input) nothing_came).text

-- The scan counts the lines of a head text that aren't empty.
pub full_is : (bytes : List ℕ) (head : HeadText) → scan.head_from scan.fresh bytes ≡ Some head → head.full ≡ full_lines (take head.len bytes)
full_is bytes head e = (finds scan.fresh [] bytes nothing_came).full head e

-- ---- the head text of what can be read

-- what the scan finds in some bytes, as a text
abbrev text_in : List ℕ → Option (List ℕ)
text_in bytes = option_map (λ (text : HeadText). take text.len bytes) (scan.head_from scan.fresh bytes)

pub head_at : (bytes rest : List ℕ) (text : HeadText) → HasHead bytes text → head_text (bytes ++ rest) ≡ Some (take text.len bytes)
head_at bytes rest text h =
    let e : 16384 ≡ length bytes + (16384 - length bytes) = omega (arith, h.bound) in
    let more = take (16384 - length bytes) rest in
    head_text_is (bytes ++ rest) ∙ ap (λ k. text_in (take k (bytes ++ rest))) e
    ∙ ap text_in (take-append-add bytes rest (16384 - length bytes))
    ∙ ap (option_map (λ (text : HeadText). take text.len (bytes ++ more))) (h.found more)
    ∙ ap Some (take-append-le text.len bytes more h.within)

-- how many of its lines aren't empty, and how long it is
pub head_full : (bytes : List ℕ) (text : HeadText) → HasHead bytes text → full_lines (take text.len bytes) ≡ text.full
head_full bytes text h = sym (full_is bytes text (ap (scan.head_from scan.fresh) (sym (append-nil bytes)) ∙ h.found []))

pub head_len : (bytes : List ℕ) (text : HeadText) → HasHead bytes text → length (take text.len bytes) ≡ text.len
head_len bytes text h = length-take-le text.len bytes h.within

pub no_head_short : (bytes : List ℕ) → length bytes ≤ 16384 → scan.head_from scan.fresh bytes ≡ None → head_text bytes ≡ None
no_head_short bytes h e = head_text_is bytes ∙ ap text_in (take_all 16384 bytes h) ∙ ap (option_map (λ (text : HeadText). take text.len bytes)) e

pub no_head_long : (bytes rest : List ℕ) → length bytes ≡ 16384 → scan.head_from scan.fresh bytes ≡ None → head_text (bytes ++ rest) ≡ None
no_head_long bytes rest h e = head_text_is (bytes ++ rest) ∙ ap text_in (take_at bytes rest 16384 h)
    ∙ ap (option_map (λ (text : HeadText). take text.len bytes)) e

-- ---- what decides a head text

kept : {A : Type 0} (t : Bool) (found x y r : Option A) → (x ≡ r → y ≡ r) → cond t found x ≡ r → cond t found y ≡ r
kept true found x y r f e = e
kept false found x y r f e = f e

-- what the scan found stays, whatever follows
stays : (s : Scan) (bytes rest : List ℕ) (head : HeadText) → scan.head_from s bytes ≡ Some head → scan.head_from s (bytes ++ rest) ≡ Some head
stays s [] rest head e = absurd (false≢true (ap is_some e))
stays s (b ∷ bytes) rest head e =
    kept (scan.ends_head s b) (Some (record { len = s.len + 1; full = s.full }))
    (scan.head_from (scan.after_byte s b) bytes) (scan.head_from (scan.after_byte s b) (bytes ++ rest)) (Some head)
    (stays (scan.after_byte s b) bytes rest head) e

-- a head text is a front of the input, and the scan finds it there whatever follows
record IsFound (input text : List ℕ) : Type 0 where
  head : HeadText
  front : text ≡ take (length text) input
  has : HasHead text head
  whole : take head.len text ≡ text

is_found : (input text : List ℕ) → head_text input ≡ Some text → IsFound input text
is_found input text e = choose (scan.head_from scan.fresh (take 16384 input)) refl
  where
    found : (head : HeadText) → scan.head_from scan.fresh (take 16384 input) ≡ Some head → text ≡ take head.len (take 16384 input) → IsFound input text
    found head s is =
        let cut = text_cut scan.fresh (take 16384 input) head s in
        let same : head.len ≡ cut.0 = omega (arith, cut.1) in
        let few : length (take 16384 input) ≤ 16384 = omega (arith, length-take 16384 input) in
        let len : length text ≡ head.len = ap length is ∙ length-take-le head.len (take 16384 input) (omega (arith, same, cut.2)) in
        let short : head.len ≤ 16384 = omega (arith, few, same, cut.2) in
        let all : take head.len text ≡ text = take_all head.len text (omega (arith, len)) in
        let there : scan.head_from scan.fresh text ≡ Some head = ap (scan.head_from scan.fresh) (is ∙ ap (λ n. take n (take 16384 input)) same) ∙ cut.3 in
        record {
          head = head;
          front = is ∙ take-take head.len 16384 input short ∙ ap (λ n. take n input) (sym len);
          has = record {
            bound = omega (arith, len, short);
            within = omega (arith, len);
            found = λ rest. stays scan.fresh text rest head there;
          };
          whole = all;
        }

    choose : (o : Option HeadText) → scan.head_from scan.fresh (take 16384 input) ≡ o → IsFound input text
    choose None s = absurd (false≢true (ap is_some
        (sym (ap (option_map (λ (head : HeadText). take head.len (take 16384 input))) s) ∙ sym (head_text_is input)
        ∙ e)))
    choose (Some head) s =
        let is : Some (take head.len (take 16384 input)) ≡ Some text =
        sym (ap (option_map (λ (head : HeadText). take head.len (take 16384 input))) s) ∙ sym (head_text_is input)
        ∙ e in
        found head s (sym (ap (λ o. unwrap_or o (take head.len (take 16384 input))) is))

-- an input that begins with the same bytes has the same head text
pub head_again : (input other text : List ℕ) → head_text input ≡ Some text → take (length text) other ≡ take (length text) input → head_text other ≡ Some text
head_again input other text e same =
    let it = is_found input text e in
    let parts : other ≡ text ++ drop (length text) other = sym (take-append-drop (length text) other)
    ∙ ap (λ l. l ++ drop (length text) other) (same ∙ sym it.front) in
    ap head_text parts ∙ head_at text (drop (length text) other) it.head it.has ∙ ap Some it.whole

pub no_head_again : (input other : List ℕ) → head_text input ≡ None → take 16384 other ≡ take 16384 input → head_text other ≡ None
no_head_again input other e same = head_text_is other ∙ ap text_in same ∙ sym (head_text_is input) ∙ e
