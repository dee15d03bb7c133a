-- A request that is written as a first line and fields: it is read as that.
use Rattle.std.proofs.Common.{◌≡◌, ◌≤◌, ◌+◌, ℕ, true, false, cond, List, [], ◌∷◌, ◌++◌, Some, Ok, Err, length, take, drop, map, All, codes, refl, sym, ap, ◌∙◌, subst, arith, append_assoc}
use Rattle.std.proofs.Common.{append-nil, length-append, take_at, drop_at, le-leb, le-ltb}
use Rattle.std.specs.Prelude.{⊤, MatchBool, nat_le, nat_lt}
use Rattle.std.specs.Char.{is_ascii_graphic}
use Rattle.std.specs.List.{flat_map, list_all}
use Rattle.std.proofs.Common.{ltb-true}
use Rattle.std.proofs.lemmas.Bool.{and_parts}
use Rattle.std.proofs.lemmas.List.Elements.{All-cons, All-nil}
use Rattle.std.proofs.lemmas.List.Sums.{AllPass-from_list_all}
use Rattle.httparse.specs.Grammar.{Field, IsField, IsRequestHead, IsToken, ReadsRequest, RequestHead, crlf, is_token, is_token_byte, is_value_byte}
use Rattle.httparse.specs.Grammar.{print_field, print_request, print_section}
use Rattle.httparse.specs.Spans.{name_and_value}
use Rattle.httparse.proofs.GrammarLemmas.{cons-append, print_request-append}
use Rattle.siri_http.specs.declared.errors.HttpError.{HttpError}
use Rattle.siri_http.specs.declared.errors.HttpError.TheVariants as http
use Rattle.siri_http.specs.Bodies.{Named, body_length}
use Rattle.siri_http.specs.Connections.{cut_of}
use Rattle.siri_http.specs.Heads.{full_lines, head_text}
use Rattle.siri_http.specs.Messages.{Brings, Head, IsHead, IsRequest, RequestLine, body_in, head_of_request, head_says, is_post}
use Rattle.siri_http.specs.Messages.{message_after, message_by, text_says, told_with}
use Rattle.siri_http.proofs.Alone.{message_is}
use Rattle.siri_http.proofs.Lines.{Plain, plain_append}
use Rattle.siri_laws.specs.http.Written.{holding}
use Rattle.siri_laws.proofs.http.Bytes.{plain_all, target_bytes, target_plain, target_text}
use Rattle.siri_laws.proofs.http.Lined.{AreLines, full_lines_of_lines, head_text_of_lines, lined}

-- ---- fields

-- a field as it is written: a space stands before its value
abbrev pub field_of : Named → Field
field_of f = record { name = f.0; raw = 32 ∷ f.1; end = crlf }

abbrev pub line_of : Named → List ℕ
line_of f = f.0 ++ 58 ∷ 32 ∷ f.1

-- names are tokens, and values have no control bytes
abbrev pub AreFields : List Named → Type 0
AreFields [] = ⊤
AreFields (f ∷ fields) = (is_token f.0 ≡ true) × (list_all is_value_byte f.1 ≡ true) × AreFields fields

token_no : is_token_byte 10 ≡ false
unfolding is_token_byte
token_no = refl

pub token_is : (name : List ℕ) → is_token name ≡ true → IsToken name
token_is name is =
    let parts = and_parts (nat_lt 0 (length name)) (list_all is_token_byte name) is in
    (ltb-true 0 (length name) parts.0, AllPass-from_list_all is_token_byte name parts.1)

token_plain : (name : List ℕ) → is_token name ≡ true → Plain name
token_plain name is = plain_all is_token_byte token_no name (and_parts (nat_lt 0 (length name)) (list_all is_token_byte name) is).1

fields_are : (fields : List Named) → AreFields fields → All IsField (map field_of fields)
fields_are [] are = All-nil IsField
fields_are (f ∷ fields) are =
    All-cons IsField (field_of f) (map field_of fields)
    (record { name = token_is f.0 are.0; raw = AllPass-from_list_all is_value_byte (32 ∷ f.1) are.1 }) (fields_are fields are.2)

lines_are : (fields : List Named) → AreFields fields → AreLines (map line_of fields)
lines_are [] are = tt
lines_are (f ∷ fields) are = (
  plain_append f.0 (58 ∷ 32 ∷ f.1) (token_plain f.0 are.0) (refl, (refl, plain_all is_value_byte refl f.1 are.1)),
  omega (arith, length-append f.0 (58 ∷ 32 ∷ f.1)),
  lines_are fields are.2,
)

section_lines : (fields : List Named) → print_section (map field_of fields) crlf ≡ lined (map line_of fields)
section_lines [] = refl
section_lines (f ∷ fields) =
    regroup f.0 f.1 (flat_map print_field (map field_of fields)) (13 ∷ 10 ∷ [])
    ∙ ap (λ text. (f.0 ++ 58 ∷ 32 ∷ f.1) ++ 13 ∷ 10 ∷ text) (section_lines fields)
  where
    regroup : (name value more last : List ℕ)
        → ((name ++ 58 ∷ 32 ∷ value ++ 13 ∷ 10 ∷ []) ++ more) ++ last ≡ (name ++ 58 ∷ 32 ∷ value) ++ 13 ∷ 10 ∷ (more ++ last)
    regroup name value more last = simp (append_assoc, cons-append)

-- ---- heads

abbrev pub first_line : (method target : List ℕ) → List ℕ
first_line method target = method ++ 32 ∷ (target ++ codes " HTTP/1.1")

abbrev head_with : (method target : List ℕ) → List Named → RequestHead
head_with method target fields = record {
  blank = [];
  method = method;
  target = target;
  minor = 1;
  line_end = crlf;
  fields = map field_of fields;
  last = crlf;
}

print_head : (method target : List ℕ) (fields : List Named)
    → print_request (head_with method target fields) ≡ lined (first_line method target ∷ map line_of fields)
print_head method target fields =
    let head = head_with method target fields in
    sym (append-nil (print_request head)) ∙ print_request-append head []
    ∙ ap (λ text. method ++ 32 ∷ (target ++ (codes " HTTP/1.1" ++ 13 ∷ 10 ∷ text)))
    (append-nil (print_section (map field_of fields) crlf) ∙ section_lines fields)
    ∙ regroup method target (codes " HTTP/1.1") (13 ∷ 10 ∷ lined (map line_of fields))
  where
    regroup : (m t v x : List ℕ) → m ++ 32 ∷ (t ++ (v ++ x)) ≡ (m ++ 32 ∷ (t ++ v)) ++ x
    regroup m t v x = simp (append_assoc, cons-append)

module _ (method target : List ℕ) (fields : List Named) (is_method : is_token method ≡ true) (some : 1 ≤ length target)
    (graphic : list_all is_ascii_graphic target ≡ true) (are : AreFields fields) where
  is_head : IsRequestHead (head_with method target fields)
  is_head = record {
    method = token_is method is_method;
    target = (omega (arith, some), target_bytes target graphic);
    target_text = target_text target graphic;
    minor = omega arith;
    fields = fields_are fields are;
  }

  head_lines : AreLines (first_line method target ∷ map line_of fields)
  head_lines = (
    plain_append method (32 ∷ (target ++ codes " HTTP/1.1")) (token_plain method is_method)
        (refl, plain_append target (codes " HTTP/1.1") (target_plain target graphic) (plain_all is_value_byte refl (codes " HTTP/1.1") refl)),
    omega (arith, length-append method (32 ∷ (target ++ codes " HTTP/1.1")), length-append target (codes " HTTP/1.1")),
    lines_are fields are,
  )

  abbrev text : List ℕ
  text = lined (first_line method target ∷ map line_of fields)

  reads : ReadsRequest text (head_with method target fields) []
  reads = (is_head, sym (print_head method target fields) ∙ sym (append-nil (print_request (head_with method target fields))))

  -- ---- messages

  module _ (body after write_fails : List ℕ) (bound : length text ≤ 16384) (few : length (map line_of fields) ≤ 64)
      (length_is : body_length (is_post method) (map name_and_value (map field_of fields)) ≡ Ok (length body)) where
    abbrev input : List ℕ
    input = (text ++ body) ++ after

    abbrev head : Head RequestLine
    head = head_of_request (head_with method target fields)

    parts : input ≡ text ++ (body ++ after)
    parts = append_assoc text body after

    begins : head_text input ≡ Some text
    begins = ap head_text parts ∙ head_text_of_lines (first_line method target) (map line_of fields) head_lines bound (body ++ after)

    within : nat_lt 65 (full_lines text) ≡ false
    within =
        let full = full_lines_of_lines (first_line method target) (map line_of fields) head_lines bound in
        le-ltb 65 (full_lines text) (omega (arith, full, few))

    says : text_says (full_lines text) (Some head) ≡ Ok ((method, target), length body)
    says = ap (λ t. cond t (Err http.HeadTooLong) (head_says (Some head))) within ∙ ap (told_with (method, target)) length_is

    long : nat_le (length text + length body) (length input) ≡ true
    long = le-leb (length text + length body) (length input) (omega (arith, length-append (text ++ body) after, length-append text body))

    cut_out : take (length body) (drop (length text) input) ≡ body
    cut_out =
        ap (λ l. take (length body) (drop (length text) l)) parts
        ∙ ap (take (length body)) (drop_at text (body ++ after) (length text) refl) ∙ take_at body after (length body) refl

    body_is : (cut : HttpError) → body_in (length text) (length body) cut input ≡ Ok body
    body_is cut = ap (λ t. cond t (Ok (take (length body) (drop (length text) input))) (Err cut)) long ∙ ap Ok cut_out

    pub brings_as_written : Brings IsRequest (holding (text ++ body) after write_fails) (Ok ((method, target), body))
    brings_as_written =
        let connection = holding (text ++ body) after write_fails in
        let cut = cut_of connection in
        record {
          head = Some head;
          is_head = subst (λ t. IsHead IsRequest t (Some head)) (sym begins)
              (subst (λ t. MatchBool t ⊤ (IsRequest text (Some head))) (sym within) (head_with method target fields, reads, refl));
          message_is = sym (message_is (Some head) cut input ∙ ap (λ t. message_by t (Some head) cut input) begins
              ∙ ap (λ s. message_after (length text) s cut input) says ∙ ap (told_with (method, target)) (body_is cut));
        }
