-- What is written of a POST and of a GET is read as that.
use Rattle.std.proofs.Common.{◌≡◌, ◌≤◌, ◌<◌, ◌+◌, ◌^◌, ℕ, true, false, cond, List, [], ◌∷◌, ◌++◌, Ok, Err, length, map, codes, refl, sym, ap, ◌∙◌, subst, arith, append_assoc, append-nil}
use Rattle.std.proofs.Common.{length-append, le-ltb}
use Rattle.std.specs.Prelude.{nat_lt}
use Rattle.std.specs.Char.{is_ascii_digit}
use Rattle.std.specs.Fmt.{decimal}
use Rattle.std.specs.List.{list_all}
use Rattle.httparse.specs.Grammar.{is_token_byte, is_value_byte}
use Rattle.httparse.specs.Spans.{name_and_value}
use Rattle.httparse.proofs.GrammarLemmas.{cons-append}
use Rattle.siri_http.specs.declared.errors.HttpError.TheVariants as http
use Rattle.siri_http.specs.Bodies.{Named, body_length, by_value, longest_body, values}
use Rattle.siri_http.specs.Messages.{Brings, IsRequest}
use Rattle.siri_http.specs.Texts.{get_text, request_text}
use Rattle.siri_laws.specs.http.Written.{IsGetAsWritten, IsPostAsWritten, holding}
use Rattle.siri_laws.proofs.http.Bytes.{all_weaker}
use Rattle.siri_laws.proofs.http.Heads.{AreFields, brings_as_written, field_of, first_line, line_of}
use Rattle.siri_laws.proofs.http.Hosts.{address_sound, digit_value}
use Rattle.siri_laws.proofs.http.Lined.{lined}
use Rattle.siri_laws.proofs.http.Numbers.{decimal_digits, decimal_read, decimal_short}

-- ---- a POST

abbrev post_fields : (host : List ℕ) → ℕ → List Named
post_fields host count = (codes "Host", host) ∷ (codes "Content-Type", codes "application/json")
    ∷ (codes "Content-Length", decimal count) ∷ (codes "Connection", codes "close") ∷ []

abbrev post_lines : (host path : List ℕ) → ℕ → List (List ℕ)
post_lines host path count = first_line (codes "POST") path ∷ map line_of (post_fields host count)

post_text : (host path body : List ℕ) → request_text host path body ≡ lined (post_lines host path (length body)) ++ body
unfolding request_text
post_text host path body =
    regroup (first_line (codes "POST") path) (codes "Host: " ++ host) (codes "Content-Type: application/json")
    (codes "Content-Length: " ++ decimal (length body)) (codes "Connection: close") body
  where
    regroup : (a b c d e body : List ℕ)
        → ((a ++ 13 ∷ 10 ∷ []) ++ (b ++ 13 ∷ 10 ∷ [])) ++ ((c ++ 13 ∷ 10 ∷ [])
        ++ (((d ++ 13 ∷ 10 ∷ []) ++ ((e ++ 13 ∷ 10 ∷ []) ++ 13 ∷ 10 ∷ [])) ++ body))
        ≡ (a ++ 13 ∷ 10 ∷ (b ++ 13 ∷ 10 ∷ (c ++ 13 ∷ 10 ∷ (d ++ 13 ∷ 10 ∷ (e ++ 13 ∷ 10 ∷ (13 ∷ 10 ∷ [])))))) ++ body
    regroup a b c d e body = simp (append_assoc, cons-append)

-- the one Content-Length says how long its body is
length_said : (host : List ℕ) (count : ℕ) → count ≤ longest_body → count < 10 ^ 7
    → body_length true (map name_and_value (map field_of (post_fields host count))) ≡ Ok count
unfolding body_length values
length_said host count fits small =
    let within : nat_lt longest_body count ≡ false = le-ltb longest_body count fits in
    ap (by_value false) (decimal_read count small) ∙ ap (λ t. cond t (Err http.BodyTooLong) (Ok count)) within

post_are : (host : List ℕ) (count : ℕ) → list_all is_value_byte host ≡ true → count < 10 ^ 7 → AreFields (post_fields host count)
unfolding is_token_byte
post_are host count is small = (
  refl,
  is,
  (
    refl,
    refl,
    (
      refl,
      all_weaker is_ascii_digit is_value_byte digit_value (decimal count) (decimal_digits count small),
      (refl, refl, tt),
    ),
  ),
)

post_token : list_all is_token_byte (codes "POST") ≡ true
unfolding is_token_byte
post_token = refl

post_short : (host path : List ℕ) (count : ℕ) → length host + length path ≤ 259 → length (decimal count) ≤ 7
    → length (lined (post_lines host path count)) ≤ 16384
post_short host path count few digits =
    omega (
      arith,
      few,
      digits,
      length-append path (codes " HTTP/1.1"),
      length-append (first_line (codes "POST") path) (13 ∷ 10 ∷ lined (map line_of (post_fields host count))),
      length-append (codes "Host: " ++ host)
          (13 ∷ 10 ∷ lined (map line_of ((codes "Content-Type", codes "application/json")
          ∷ (codes "Content-Length", decimal count) ∷ (codes "Connection", codes "close") ∷ []))),
      length-append (codes "Content-Length: " ++ decimal count)
          (13 ∷ 10 ∷ lined (map line_of ((codes "Connection", codes "close") ∷ []))),
    )

pub post_as_written : IsPostAsWritten
post_as_written text address body after write_fails of_text fits =
    let s = address_sound text address of_text.0 of_text.1 in
    let small : length body < 10 ^ 7 = omega (arith, fits) in
    subst (λ t. Brings IsRequest (holding t after write_fails) (Ok ((codes "POST", address.1), body)))
    (sym (post_text address.0 address.1 body))
    (brings_as_written (codes "POST") address.1 (post_fields address.0 (length body)) post_token s.some s.path
    (post_are address.0 (length body) s.host small) body after write_fails
    (post_short address.0 address.1 (length body) s.few (decimal_short (length body) small)) (omega arith)
    (length_said address.0 (length body) fits small))

-- ---- a GET

abbrev get_fields : (host : List ℕ) → List Named
get_fields host = (codes "Host", host) ∷ (codes "Connection", codes "close") ∷ []

abbrev get_lines : (host target : List ℕ) → List (List ℕ)
get_lines host target = first_line (codes "GET") target ∷ map line_of (get_fields host)

get_text_is : (host target : List ℕ) → get_text host target ≡ lined (get_lines host target) ++ []
unfolding get_text
get_text_is host target = regroup (first_line (codes "GET") target) (codes "Host: " ++ host) (codes "Connection: close")
  where
    regroup : (a b c : List ℕ)
        → ((a ++ 13 ∷ 10 ∷ []) ++ (b ++ 13 ∷ 10 ∷ [])) ++ ((c ++ 13 ∷ 10 ∷ []) ++ 13 ∷ 10 ∷ [])
        ≡ (a ++ 13 ∷ 10 ∷ (b ++ 13 ∷ 10 ∷ (c ++ 13 ∷ 10 ∷ (13 ∷ 10 ∷ [])))) ++ []
    regroup a b c = simp (append_assoc, cons-append, append-nil)

none_said : (host : List ℕ) → body_length false (map name_and_value (map field_of (get_fields host))) ≡ Ok 0
unfolding body_length values
none_said host = refl

get_are : (host : List ℕ) → list_all is_value_byte host ≡ true → AreFields (get_fields host)
unfolding is_token_byte
get_are host is = (refl, is, (refl, refl, tt))

get_token : list_all is_token_byte (codes "GET") ≡ true
unfolding is_token_byte
get_token = refl

get_short : (host target : List ℕ) → length host + 1 ≤ 259 → length target ≤ 16000
    → length (lined (get_lines host target)) ≤ 16384
get_short host target few long =
    omega (
      arith,
      few,
      long,
      length-append target (codes " HTTP/1.1"),
      length-append (first_line (codes "GET") target) (13 ∷ 10 ∷ lined (map line_of (get_fields host))),
      length-append (codes "Host: " ++ host) (13 ∷ 10 ∷ lined (map line_of ((codes "Connection", codes "close") ∷ []))),
    )

pub get_as_written : IsGetAsWritten
get_as_written text address target after write_fails of_text some long graphic =
    let s = address_sound text address of_text.0 of_text.1 in
    subst (λ t. Brings IsRequest (holding t after write_fails) (Ok ((codes "GET", target), [])))
    (sym (get_text_is address.0 target))
    (brings_as_written (codes "GET") target (get_fields address.0) get_token some graphic (get_are address.0 s.host) [] after write_fails
    (get_short address.0 target (omega (arith, s.few, s.some)) long) (omega arith) (none_said address.0))
