-- What the text of an address says of its host and its path.
use Rattle.std.proofs.Common.{◌≡◌, ◌≤◌, ◌+◌, ◌⊎◌, inl, inr, ℕ, Bool, true, false, cond, List, [], ◌∷◌, Option, Some, None, length, take, drop, refl, sym, ap, ◌∙◌, subst, arith}
use Rattle.std.proofs.Common.{length-append, take-append-drop, length-drop, eqb-true, is_some, unwrap_or}
use Rattle.std.specs.Prelude.{◌&&◌, ◌||◌, ◌==◌, nat_eq, nat_le}
use Rattle.std.specs.Char.{is_ascii_alphanumeric, is_ascii_digit, is_ascii_graphic}
use Rattle.std.specs.Int.{is_in_range}
use Rattle.std.specs.List.{list_all, starts_with}
use Rattle.std.specs.Str.Parse.{digits_value}
use Rattle.std.proofs.lemmas.Bool.{and_parts, or_cases, false≢true}
use Rattle.std.proofs.lemmas.List.Folds.{list_all-append}
use Rattle.httparse.specs.Grammar.{is_value_byte}
use Rattle.siri_base.specs.Numbers.{number_of}
use Rattle.siri_http.specs.Addresses.{address_of, after_scheme, are_parts, before, is_below, is_host, is_host_byte, is_port, parts_of, port_or, scheme, with_path, with_port}
use Rattle.siri_http.proofs.AddressTexts.{address_is, address_none, host_is, parts_none, parts_some, path_few, path_is, path_some, port_few, port_is}
use Rattle.siri_laws.proofs.http.Bytes.{all_weaker, both_true, range_value}

-- ---- bytes

alphanumeric_value : (b : ℕ) → is_ascii_alphanumeric b ≡ true → is_value_byte b ≡ true
alphanumeric_value b is = letters (or_cases _ _ is)
  where
    digits : (is_in_range 48 57 b ≡ true) ⊎ (is_in_range 65 90 b ≡ true) → is_value_byte b ≡ true
    digits (inl d) = range_value 48 57 b (omega arith) (omega arith) d
    digits (inr d) = range_value 65 90 b (omega arith) (omega arith) d

    letters : ((is_in_range 48 57 b || is_in_range 65 90 b) ≡ true) ⊎ (is_in_range 97 122 b ≡ true) → is_value_byte b ≡ true
    letters (inl d) = digits (or_cases _ _ d)
    letters (inr d) = range_value 97 122 b (omega arith) (omega arith) d

host_value : (b : ℕ) → is_host_byte b ≡ true → is_value_byte b ≡ true
host_value b is = first (or_cases _ _ is)
  where
    same : (c : ℕ) → is_value_byte c ≡ true → (b == c) ≡ true → is_value_byte b ≡ true
    same c value e = subst (λ b. is_value_byte b ≡ true) (sym (eqb-true b c e)) value

    second : ((b == 46) ≡ true) ⊎ ((b == 45) ≡ true) → is_value_byte b ≡ true
    second (inl d) = same 46 refl d
    second (inr d) = same 45 refl d

    first : (is_ascii_alphanumeric b ≡ true) ⊎ (((b == 46) || (b == 45)) ≡ true) → is_value_byte b ≡ true
    first (inl d) = alphanumeric_value b d
    first (inr d) = second (or_cases _ _ d)

pub digit_value : (b : ℕ) → is_ascii_digit b ≡ true → is_value_byte b ≡ true
digit_value b is = range_value 48 57 b (omega arith) (omega arith) is

-- ---- a host with its port

number_digits : (digits : List ℕ) (number : Option ℕ) → number_of digits ≡ number → is_below number ≡ true
    → list_all is_ascii_digit digits ≡ true
unfolding number_of
number_digits digits None e below = absurd (false≢true below)
number_digits digits (Some number) e below =
    choose (nat_le 1 (length digits) && (nat_le (length digits) 18 && list_all is_ascii_digit digits)) refl e
  where
    choose : (t : Bool) → (nat_le 1 (length digits) && (nat_le (length digits) 18 && list_all is_ascii_digit digits)) ≡ t
        → cond t (Some (digits_value 10 digits)) None ≡ Some number → list_all is_ascii_digit digits ≡ true
    choose true t e = (and_parts _ _ (and_parts _ _ t).1).1
    choose false t e = absurd (false≢true (ap is_some e))

port_value : (port : List ℕ) → is_port port ≡ true → list_all is_value_byte (port_or port) ≡ true
port_value [] is = refl
port_value (colon ∷ digits) is =
    let parts = and_parts (colon == 58) (nat_le (length digits) 5 && is_below (number_of digits)) is in
    let below = (and_parts (nat_le (length digits) 5) (is_below (number_of digits)) parts.1).1 in
    both_true (is_value_byte colon) (list_all is_value_byte digits)
    (subst (λ b. is_value_byte b ≡ true) (sym (eqb-true colon 58 parts.0)) refl)
    (all_weaker is_ascii_digit is_value_byte digit_value digits (number_digits digits (number_of digits) refl below))

with_port_value : (host port : List ℕ) → is_host host ≡ true → is_port port ≡ true → list_all is_value_byte (with_port host port) ≡ true
with_port_value host port h p =
    let bytes : list_all is_value_byte host ≡ true =
    all_weaker is_host_byte is_value_byte host_value host (and_parts (nat_le 1 (length host)) (list_all is_host_byte host) h).1 in
    list_all-append is_value_byte host (port_or port)
    ∙ both_true (list_all is_value_byte host) (list_all is_value_byte (port_or port)) bytes (port_value port p)

path_graphic : (path : List ℕ) → list_all is_ascii_graphic path ≡ true → list_all is_ascii_graphic (with_path path) ≡ true
path_graphic [] is = refl
path_graphic (slash ∷ path) is = is

-- ---- an address

-- what holds of a host with its port and of a path
pub record Sound (count : ℕ) (address : List ℕ × List ℕ) : Type 0 where
  pub host : list_all is_value_byte address.0 ≡ true
  pub path : list_all is_ascii_graphic address.1 ≡ true
  pub some : 1 ≤ length address.1
  pub few : length address.0 + length address.1 ≤ count + 4

from_parts : (host port path : List ℕ) (address : List ℕ × List ℕ) (is : Bool) → are_parts host port path ≡ is
    → parts_of host port path ≡ Some address → Sound (length host + length port + length path) address
from_parts host port path address false e is = absurd (false≢true (ap is_some (sym (parts_none host port path e) ∙ is)))
from_parts host port path address true e is =
    subst (Sound (length host + length port + length path)) same (record {
      host = with_port_value host port (host_is host port path e) (port_is host port path e);
      path = path_graphic path (path_is host port path e);
      some = path_some path;
      few = omega (arith, length-append host (port_or port), port_few port, path_few path);
    })
  where
    same : (with_port host port, with_path path) ≡ address
    same = ap (λ o. unwrap_or o address) (sym (parts_some host port path e) ∙ is)

cut_length : (n : ℕ) (text : List ℕ) → length (take n text) + length (drop n text) ≡ length text
cut_length n text = sym (length-append (take n text) (drop n text)) ∙ ap length (take-append-drop n text)

from_scheme : (text : List ℕ) (address : List ℕ × List ℕ) → after_scheme text ≡ Some address → Sound (length text) address
from_scheme text address is =
    let front = take (before 47 text) text in
    let path = drop (before 47 text) text in
    let host = take (before 58 front) front in
    let port = drop (before 58 front) front in
    let count : length host + length port + length path ≡ length text =
    omega (arith, cut_length (before 47 text) text, cut_length (before 58 front) front) in
    subst (λ n. Sound n address) count (from_parts host port path address (are_parts host port path) refl is)

pub address_sound : (text : List ℕ) (address : List ℕ × List ℕ) → length text ≤ 255 → address_of text ≡ Some address → Sound 255 address
address_sound text address bound is = choose (starts_with nat_eq text scheme) refl
  where
    wider : Sound (length (drop 7 text)) address → Sound 255 address
    wider s = record { host = s.host; path = s.path; some = s.some; few = omega (arith, s.few, bound, length-drop 7 text) }

    choose : (t : Bool) → starts_with nat_eq text scheme ≡ t → Sound 255 address
    choose true e = wider (from_scheme (drop 7 text) address (sym (address_is text e) ∙ is))
    choose false e = absurd (false≢true (ap is_some (sym (address_none text e) ∙ is)))
