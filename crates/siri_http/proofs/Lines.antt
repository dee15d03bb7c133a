-- The lines of a head by the grammar: one for its first line, and one for each field.
use Rattle.std.proofs.Common.{◌≡◌, ◌≤◌, ◌<◌, ◌+◌, ℕ, List, [], ◌∷◌, ◌++◌, None, Some, Option, Bool, true, false, length, length-take-le}
use Rattle.std.proofs.Common.{suc, take, refl, sym, ap, ◌∙◌, subst, append_assoc, arith, length-append}
use Rattle.std.specs.Prelude.{⊤, All, ◌==◌, nat_lt, cond, is_some}
use Rattle.std.specs.List.{flat_map}
use Rattle.std.specs.Char.{is_ascii_digit}
use Rattle.std.proofs.lemmas.Bool.{ne_eqb, false≢true, lt-ltb}
use Rattle.httparse.specs.Grammar.{LineEnd, crlf, lf, print_end, print_blank, print_version, print_reason, reason_phrase, Field, IsField}
use Rattle.httparse.specs.Grammar.{print_field, print_section, RequestHead, ReadsRequest, ResponseHead, ReadsResponse, AllPass}
use Rattle.httparse.specs.Grammar.{is_token_byte, is_uri_byte, is_value_byte}
use Rattle.httparse.proofs.GrammarLemmas.{print_request-append, print_response-append, cons-append}
use Rattle.siri_http.specs.declared.scan.Line.{Line}
use Rattle.siri_http.specs.declared.scan.Line.TheVariants as line
use Rattle.siri_http.specs.declared.scan.Scan.{Scan}
use Rattle.siri_http.specs.declared.scan.HeadText.{HeadText}
use Rattle.siri_http.specs.inner.Scanning.{line_after, ends_head, after_byte, head_from, fresh}

-- ---- bytes that end no line

abbrev pub Plain : List ℕ → Type 0
Plain [] = ⊤
Plain (b ∷ bytes) = ((b == 10) ≡ false) × Plain bytes

pub plain_append : (xs ys : List ℕ) → Plain xs → Plain ys → Plain (xs ++ ys)
plain_append [] ys p q = q
plain_append (x ∷ xs) ys p q = (p.0, plain_append xs ys p.1 q)

-- bytes that pass a test which a line feed doesn't
plain_from : (test : ℕ → Bool) → test 10 ≡ false → (bytes : List ℕ) → AllPass test bytes → Plain bytes
plain_from test fails [] h = tt
plain_from test fails (b ∷ bytes) h =
    let passes : test b ≡ true = h 0 0 (omega arith) in
    (ne_eqb b 10 (λ e. false≢true (sym fails ∙ subst (λ v. test v ≡ true) e passes)), plain_from test fails bytes (λ k d l. h (suc k) d (omega (arith, l))))

token_no : is_token_byte 10 ≡ false
unfolding is_token_byte
token_no = refl

-- ---- one step

abbrev scan : ℕ → ℕ → Line → Scan
scan n k l = record { len = n; full = k; line = l }

inner_byte : (n k : ℕ) (l : Line) (b : ℕ) (bytes : List ℕ) → (b == 10) ≡ false
    → head_from (scan n k l) (b ∷ bytes) ≡ head_from (scan (n + 1) k (line_after l b)) bytes
unfolding ends_head after_byte
inner_byte n k l b bytes p = rw p refl

text_feed : (n k : ℕ) (bytes : List ℕ) → head_from (scan n k line.Text) (10 ∷ bytes) ≡ head_from (scan (n + 1) (k + 1) line.Nothing) bytes
unfolding ends_head after_byte
text_feed n k bytes = refl

blank_feed : (n : ℕ) (bytes : List ℕ) → head_from (scan n 0 line.Nothing) (10 ∷ bytes) ≡ head_from (scan (n + 1) 0 line.Nothing) bytes
unfolding ends_head after_byte
blank_feed n bytes = refl

blank_return_feed : (n : ℕ) (bytes : List ℕ) → head_from (scan n 0 line.Return) (10 ∷ bytes) ≡ head_from (scan (n + 1) 0 line.Nothing) bytes
unfolding ends_head after_byte
blank_return_feed n bytes = refl

last_feed : (n k : ℕ) (bytes : List ℕ) → 0 < k → head_from (scan n k line.Nothing) (10 ∷ bytes) ≡ Some (record { len = n + 1; full = k })
unfolding ends_head after_byte
last_feed n k bytes h =
    let some : nat_lt 0 k ≡ true = lt-ltb 0 k h in
    rw some refl

last_return_feed : (n k : ℕ) (bytes : List ℕ) → 0 < k → head_from (scan n k line.Return) (10 ∷ bytes) ≡ Some (record { len = n + 1; full = k })
unfolding ends_head after_byte
last_return_feed n k bytes h =
    let some : nat_lt 0 k ≡ true = lt-ltb 0 k h in
    rw some refl

-- ---- lines

abbrev Goes : ℕ → ℕ → Line → List ℕ → ℕ → Line → List ℕ → Type 0
Goes n k l text j m rest = (p : ℕ) × (head_from (scan n k l) text ≡ head_from (scan p j m) rest)

-- bytes of a line that isn't empty
text_bytes : (n k : ℕ) (bytes rest : List ℕ) → Plain bytes → Goes n k line.Text (bytes ++ rest) k line.Text rest
text_bytes n k [] rest p = (n, refl)
text_bytes n k (b ∷ bytes) rest p =
    let more = text_bytes (n + 1) k bytes rest p.1 in
    (more.0, inner_byte n k line.Text b (bytes ++ rest) p.0 ∙ more.1)

-- its end
text_end : (n k : ℕ) (e : LineEnd) (rest : List ℕ) → Goes n k line.Text (print_end e ++ rest) (k + 1) line.Nothing rest
text_end n k lf rest = (n + 1, text_feed n k rest)
text_end n k crlf rest = (n + 1 + 1, inner_byte n k line.Text 13 (10 ∷ rest) refl ∙ text_feed (n + 1) k rest)

pub second_byte : (t : Bool) (b : ℕ) → line_after (cond t line.Return line.Text) b ≡ line.Text
second_byte true b = refl
second_byte false b = refl

-- a line of two bytes and more
line_goes : (n k : ℕ) (bytes : List ℕ) (e : LineEnd) (rest : List ℕ) → Plain bytes → 2 ≤ length bytes
    → Goes n k line.Nothing (bytes ++ (print_end e ++ rest)) (k + 1) line.Nothing rest
line_goes n k [] e rest p h = absurd (omega (arith, h))
line_goes n k (a ∷ []) e rest p h = absurd (omega (arith, h))
line_goes n k (a ∷ b ∷ bytes) e rest p h =
    let tail = bytes ++ (print_end e ++ rest) in
    let begun = inner_byte n k line.Nothing a (b ∷ tail) p.0
    ∙ inner_byte (n + 1) k (line_after line.Nothing a) b tail p.1.0
    ∙ ap (λ l. head_from (scan (n + 1 + 1) k l) tail) (second_byte (a == 13) b) in
    let more = text_bytes (n + 1 + 1) k bytes (print_end e ++ rest) p.1.1 in
    let end = text_end more.0 k e rest in
    (end.0, begun ∙ more.1 ∙ end.1)

-- empty lines at the start
blank_goes : (n : ℕ) (ends : List LineEnd) (rest : List ℕ) → Goes n 0 line.Nothing (print_blank ends ++ rest) 0 line.Nothing rest
blank_goes n [] rest = (n, refl)
blank_goes n (lf ∷ ends) rest =
    let more = blank_goes (n + 1) ends rest in
    (more.0, blank_feed n (print_blank ends ++ rest) ∙ more.1)
blank_goes n (crlf ∷ ends) rest =
    let more = blank_goes (n + 1 + 1) ends rest in
    (more.0, inner_byte n 0 line.Nothing 13 (10 ∷ (print_blank ends ++ rest)) refl ∙ blank_return_feed (n + 1) (print_blank ends ++ rest) ∙ more.1)

-- ---- the fields

abbrev Ends : ℕ → ℕ → List ℕ → ℕ → Type 0
Ends n k text full = (p : ℕ) × (head_from (scan n k line.Nothing) text ≡ Some (record { len = p; full = full }))

last_ends : (n k : ℕ) (e : LineEnd) (rest : List ℕ) → 0 < k → Ends n k (print_end e ++ rest) k
last_ends n k lf rest h = (n + 1, last_feed n k rest h)
last_ends n k crlf rest h = (n + 1 + 1, inner_byte n k line.Nothing 13 (10 ∷ rest) refl ∙ last_return_feed (n + 1) k rest h)

field_plain : (f : Field) → IsField f → Plain (f.name ++ 58 ∷ f.raw)
field_plain f i = plain_append f.name (58 ∷ f.raw) (plain_from is_token_byte token_no f.name i.name.1) (refl, plain_from is_value_byte refl f.raw i.raw)

field_parts : (name raw end more last rest : List ℕ)
    → ((((name ++ 58 ∷ raw ++ end) ++ more) ++ last) ++ rest) ≡ (name ++ 58 ∷ raw) ++ (end ++ ((more ++ last) ++ rest))
field_parts name raw end more last rest = simp (append_assoc, cons-append)

section_ends : (n k : ℕ) (fields : List Field) (last : LineEnd) (rest : List ℕ) → 0 < k → All IsField fields
    → Ends n k (print_section fields last ++ rest) (k + length fields)
section_ends n k [] last rest h all =
    let ends = last_ends n k last rest h in
    let same : k ≡ k + 0 = omega arith in
    (ends.0, ends.1 ∙ ap (λ j. Some (record { len = ends.0; full = j })) same)
section_ends n k (f ∷ fields) last rest h all =
    let is : IsField f = all 0 f (omega arith) in
    let long : 2 ≤ length (f.name ++ 58 ∷ f.raw) = omega (arith, is.name.0, length-append f.name (58 ∷ f.raw)) in
    let later = print_section fields last ++ rest in
    let goes = line_goes n k (f.name ++ 58 ∷ f.raw) f.end later (field_plain f is) long in
    let more = section_ends goes.0 (k + 1) fields last rest (omega arith) (λ i d l. all (suc i) d (omega (arith, l))) in
    let full : (k + 1) + length fields ≡ k + suc (length fields) = omega arith in (
      more.0,
      ap (head_from (scan n k line.Nothing))
          (field_parts f.name f.raw (print_end f.end) (flat_map print_field fields) (print_end last) rest) ∙ goes.1
          ∙ more.1 ∙ ap (λ k. Some (record { len = more.0; full = k })) full,
    )

-- ---- heads

head_goes : (blank : List LineEnd) (bytes : List ℕ) (e : LineEnd) (fields : List Field) (last : LineEnd) (rest : List ℕ)
    → Plain bytes → 2 ≤ length bytes → All IsField fields
    → Ends 0 0 (print_blank blank ++ (bytes ++ (print_end e ++ (print_section fields last ++ rest))))
    (1 + length fields)
head_goes blank bytes e fields last rest plain long all =
    let first = blank_goes 0 blank (bytes ++ (print_end e ++ (print_section fields last ++ rest))) in
    let second = line_goes first.0 0 bytes e (print_section fields last ++ rest) plain long in
    let third = section_ends second.0 1 fields last rest (omega arith) all in
    (third.0, first.1 ∙ second.1 ∙ third.1)

abbrev full_of : Option HeadText → ℕ
full_of None = 0
full_of (Some head) = head.full

abbrev len_of : Option HeadText → ℕ
len_of None = 0
len_of (Some head) = head.len

full_same : (text : List ℕ) (head : HeadText) (full : ℕ) → head_from fresh text ≡ Some head → Ends 0 0 text full → head.full ≡ full
full_same text head full e s = ap full_of (sym e ∙ s.1)

version_plain : (minor : ℕ) → minor ≤ 1 → Plain (print_version minor)
version_plain minor h = (refl, (refl, (refl, (refl, (refl, (refl, (refl, (ne_eqb (48 + minor) 10 (λ e. absurd (omega (arith, e))), tt))))))))

request_parts : (method target version end section : List ℕ)
    → method ++ 32 ∷ (target ++ 32 ∷ (version ++ (end ++ section))) ≡ (method ++ 32 ∷ (target ++ 32 ∷ version))
    ++ (end ++ section)
request_parts method target version end section = simp (append_assoc, cons-append)

-- a head text that is the head of a request has a line for each field, and one more
pub request_lines : (text : List ℕ) (head : HeadText) (h : RequestHead) → head_from fresh text ≡ Some head
    → ReadsRequest text h [] → head.full ≡ 1 + length h.fields
request_lines text head h e r =
    let first = h.method ++ 32 ∷ (h.target ++ 32 ∷ print_version h.minor) in
    let plain : Plain first = plain_append h.method (32 ∷ (h.target ++ 32 ∷ print_version h.minor))
    (plain_from is_token_byte token_no h.method r.0.method.1) (
      refl,
      plain_append h.target (32 ∷ print_version h.minor) (plain_from is_uri_byte refl h.target r.0.target.1)
          (refl, version_plain h.minor r.0.minor),
    ) in
    let long : 2 ≤ length first = omega (
      arith,
      r.0.method.0,
      length-append h.method (32 ∷ (h.target ++ 32 ∷ print_version h.minor)),
      length-append h.target (32 ∷ print_version h.minor),
    ) in
    let parts : text ≡ print_blank h.blank ++ (first ++ (print_end h.line_end ++ (print_section h.fields h.last ++ []))) =
    r.1 ∙ print_request-append h [] ∙ ap (λ l. print_blank h.blank ++ l)
    (request_parts h.method h.target (print_version h.minor) (print_end h.line_end)
    (print_section h.fields h.last ++ [])) in
    full_same text head (1 + length h.fields) e
    (subst (λ l. Ends 0 0 l (1 + length h.fields)) (sym parts)
    (head_goes h.blank first h.line_end h.fields h.last [] plain long r.0.fields))

reason_plain : (reason : Option (List ℕ)) → AllPass is_value_byte (reason_phrase reason) → Plain (print_reason reason)
reason_plain None h = tt
reason_plain (Some phrase) h = (refl, plain_from is_value_byte refl phrase h)

response_parts : (version digits reason end section : List ℕ)
    → version ++ 32 ∷ (digits ++ (reason ++ (end ++ section))) ≡ (version ++ 32 ∷ (digits ++ reason))
    ++ (end ++ section)
response_parts version digits reason end section = simp append_assoc

-- the same of a response
pub response_lines : (text : List ℕ) (head : HeadText) (h : ResponseHead) → head_from fresh text ≡ Some head
    → ReadsResponse text h [] → head.full ≡ 1 + length h.fields
response_lines text head h e r =
    let first = print_version h.minor ++ 32 ∷ (h.digits ++ print_reason h.reason) in
    let plain : Plain first = plain_append (print_version h.minor) (32 ∷ (h.digits ++ print_reason h.reason))
    (version_plain h.minor r.0.minor) (
      refl,
      plain_append h.digits (print_reason h.reason)
          (plain_from is_ascii_digit refl h.digits r.0.digits.1) (reason_plain h.reason r.0.reason),
    ) in
    let long : 2 ≤ length first = omega (
      arith,
      length-append (print_version h.minor)
          (32 ∷ (h.digits ++ print_reason h.reason)),
      length-append h.digits (print_reason h.reason),
      r.0.digits.0,
    ) in
    let parts : text ≡ print_blank h.blank ++ (first ++ (print_end h.line_end ++ (print_section h.fields h.last ++ []))) =
    r.1 ∙ print_response-append h [] ∙ ap (λ l. print_blank h.blank ++ l)
    (response_parts (print_version h.minor) h.digits (print_reason h.reason) (print_end h.line_end)
    (print_section h.fields h.last ++ [])) in
    full_same text head (1 + length h.fields) e
    (subst (λ l. Ends 0 0 l (1 + length h.fields)) (sym parts)
    (head_goes h.blank first h.line_end h.fields h.last [] plain long r.0.fields))

-- ---- a head text that is cut out of the bytes that came

cond_len : (t : Bool) (x y : Scan) (n : ℕ) → x.len ≡ n → y.len ≡ n → (cond t x y).len ≡ n
cond_len true x y n p q = p
cond_len false x y n p q = q

after_len : (s : Scan) (b : ℕ) → (after_byte s b).len ≡ s.len + 1
unfolding after_byte
after_len s b = cond_len (b == 10) _ _ (s.len + 1) refl refl

-- a head text is found in a front of the bytes that came
pub text_cut : (s : Scan) (bytes : List ℕ) (head : HeadText) → head_from s bytes ≡ Some head
    → (count : ℕ) × (head.len ≡ s.len + count) × (count ≤ length bytes) × (head_from s (take count bytes) ≡ Some head)
text_cut s [] head e = absurd (false≢true (ap is_some e))
text_cut s (b ∷ bytes) head e = choose (ends_head s b) refl (λ next. text_cut (after_byte s b) bytes head next)
  where
    found : HeadText
    found = record { len = s.len + 1; full = s.full }

    choose : (t : Bool) → ends_head s b ≡ t → (head_from (after_byte s b) bytes ≡ Some head
        → ((count : ℕ) × (head.len ≡ (after_byte s b).len + count) × (count ≤ length bytes)
        × (head_from (after_byte s b) (take count bytes) ≡ Some head)))
        → (count : ℕ) × (head.len ≡ s.len + count) × (count ≤ suc (length bytes))
        × (head_from s (take count (b ∷ bytes)) ≡ Some head)
    choose true t later =
        let same : Some found ≡ Some head = sym (ap (λ t. cond t (Some found) (head_from (after_byte s b) bytes)) t) ∙ e in
        let len : s.len + 1 ≡ head.len = ap len_of same in
        (1, sym len, omega arith, ap (λ t. cond t (Some found) None) t ∙ same)
    choose false t later =
        let next : head_from (after_byte s b) bytes ≡ Some head = sym (ap (λ t. cond t (Some found) (head_from (after_byte s b) bytes)) t) ∙ e in
        let more = later next in
        let len : head.len ≡ s.len + suc more.0 = omega (arith, more.1, after_len s b) in
        (suc more.0, len, omega (arith, more.2), ap (λ t. cond t (Some found) (head_from (after_byte s b) (take more.0 bytes))) t ∙ more.3)

-- a head text that stands at the front of some bytes is cut out of them
pub cut_text : (bytes : List ℕ) (head : HeadText) → head_from fresh bytes ≡ Some head
    → head_from fresh (take head.len bytes) ≡ Some (record { len = length (take head.len bytes); full = head.full })
cut_text bytes head e =
    let cut = text_cut fresh bytes head e in
    let same : head.len ≡ cut.0 = omega (arith, cut.1) in
    let found : head_from fresh (take head.len bytes) ≡ Some head = ap (λ k. head_from fresh (take k bytes)) same ∙ cut.3 in
    let len : length (take head.len bytes) ≡ head.len = length-take-le head.len bytes (omega (arith, same, cut.2)) in
    found ∙ ap (λ n. Some (record { len = n; full = head.full })) (sym len)
