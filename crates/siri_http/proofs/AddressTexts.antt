-- The parts of an address are ASCII.
use Rattle.std.proofs.Common.{◌≡◌, ◌≤◌, ◌<◌, ◌+◌, ◌⊎◌, ℕ, List, [], ◌∷◌, ◌++◌, None, Some, Option, true, false, length, zero, suc, refl, ap, arith, inl, inr}
use Rattle.std.specs.Prelude.{cond, nat_eq, drop, ◌==◌, ◌||◌, nat_le, IsAscii, IsUtf8, codes}
use Rattle.std.specs.List.{list_all, starts_with}
use Rattle.std.specs.Int.{is_in_range}
use Rattle.std.specs.Char.{is_ascii_alphanumeric, is_ascii_graphic}
use Rattle.std.proofs.lemmas.Bool.{and_parts, or_cases, eqb-true, false≢true, leb-true}
use Rattle.std.proofs.lemmas.Str.{IsUtf8-from_ascii}
use Rattle.siri_base.specs.Numbers.{number_of}
use Rattle.siri_http.proofs.Numbers.{IsLow, ascii_from, range_low, digits_ascii}
use Rattle.siri_http.specs.Addresses.{is_host_byte, is_host, is_port, is_below, are_parts, parts_of, port_or, with_port, with_path, scheme}
use Rattle.siri_http.specs.Addresses.{after_scheme, address_of}

ascii_append : (xs ys : List ℕ) → IsAscii xs → IsAscii ys → IsAscii (xs ++ ys)
ascii_append [] ys p q i = q i
ascii_append (x ∷ xs) ys p q zero = p 0
ascii_append (x ∷ xs) ys p q (suc i) = ascii_append xs ys (λ k. p (suc k)) q i

graphic_low : IsLow is_ascii_graphic
graphic_low b e = range_low 33 126 b (omega arith) e

alphanumeric_low : IsLow is_ascii_alphanumeric
alphanumeric_low b e = letters (or_cases _ _ e)
  where
    digits : (is_in_range 48 57 b ≡ true) ⊎ (is_in_range 65 90 b ≡ true) → b < 128
    digits (inl d) = range_low 48 57 b (omega arith) d
    digits (inr d) = range_low 65 90 b (omega arith) d

    letters : ((is_in_range 48 57 b || is_in_range 65 90 b) ≡ true) ⊎ (is_in_range 97 122 b ≡ true) → b < 128
    letters (inl d) = digits (or_cases _ _ d)
    letters (inr d) = range_low 97 122 b (omega arith) d

host_low : IsLow is_host_byte
host_low b e = first (or_cases _ _ e)
  where
    second : ((b == 46) ≡ true) ⊎ ((b == 45) ≡ true) → b < 128
    second (inl d) = omega (arith, eqb-true b 46 d)
    second (inr d) = omega (arith, eqb-true b 45 d)

    first : (is_ascii_alphanumeric b ≡ true) ⊎ (((b == 46) || (b == 45)) ≡ true) → b < 128
    first (inl d) = alphanumeric_low b d
    first (inr d) = second (or_cases _ _ d)

host_ascii : (host : List ℕ) → is_host host ≡ true → IsAscii host
host_ascii host e = ascii_from is_host_byte host_low host (and_parts (nat_le 1 (length host)) _ e).1

below_ascii : (digits : List ℕ) (number : Option ℕ) → number_of digits ≡ number → is_below number ≡ true → IsAscii digits
below_ascii digits None e b = absurd (false≢true b)
below_ascii digits (Some number) e b = digits_ascii digits number e

port_ascii : (port : List ℕ) → is_port port ≡ true → IsAscii port
port_ascii [] e i = omega arith
port_ascii (colon ∷ digits) e zero = omega (arith, eqb-true colon 58 (and_parts _ _ e).0)
port_ascii (colon ∷ digits) e (suc i) = below_ascii digits (number_of digits) refl (and_parts _ _ (and_parts _ _ e).1).1 i

port_or_ascii : (port : List ℕ) → is_port port ≡ true → IsAscii (port_or port)
port_or_ascii [] p = ascii_from is_ascii_graphic graphic_low (codes ":80") refl
port_or_ascii (colon ∷ digits) p = port_ascii (colon ∷ digits) p

-- a host with its port is ASCII
pub with_port_ascii : (host port : List ℕ) → is_host host ≡ true → is_port port ≡ true → IsAscii (with_port host port)
with_port_ascii host port h p = ascii_append host (port_or port) (host_ascii host h) (port_or_ascii port p)

-- a host has a byte
pub host_some : (host : List ℕ) → is_host host ≡ true → 1 ≤ length host
host_some host h = leb-true 1 (length host) (and_parts (nat_le 1 (length host)) _ h).0

-- the port that is put for none has three bytes
pub port_few : (port : List ℕ) → length (port_or port) ≤ length port + 3
port_few [] = omega arith
port_few (colon ∷ digits) = omega arith

-- ASCII is text
pub ascii_text : (bytes : List ℕ) → IsAscii bytes → IsUtf8 bytes
ascii_text bytes a = IsUtf8-from_ascii bytes a

-- a path is ASCII
pub with_path_ascii : (path : List ℕ) → list_all is_ascii_graphic path ≡ true → IsAscii (with_path path)
with_path_ascii [] e = ascii_from is_ascii_graphic graphic_low (codes "/") refl
with_path_ascii (slash ∷ path) e = ascii_from is_ascii_graphic graphic_low (slash ∷ path) e

-- a path has a byte
pub path_some : (path : List ℕ) → 1 ≤ length (with_path path)
path_some [] = omega arith
path_some (slash ∷ path) = omega arith

-- the root has one byte
pub path_few : (path : List ℕ) → length (with_path path) ≤ length path + 1
path_few [] = omega arith
path_few (slash ∷ path) = omega arith

-- the tests of the parts
module _ (host port path : List ℕ) where
  pub host_is : are_parts host port path ≡ true → is_host host ≡ true
  host_is e = (and_parts (is_host host) _ e).0

  pub port_is : are_parts host port path ≡ true → is_port port ≡ true
  port_is e = (and_parts (is_port port) _ (and_parts (is_host host) _ e).1).0

  pub path_is : are_parts host port path ≡ true → list_all is_ascii_graphic path ≡ true
  path_is e = (and_parts (is_port port) _ (and_parts (is_host host) _ e).1).1

  pub parts_some : are_parts host port path ≡ true → parts_of host port path ≡ Some (with_port host port, with_path path)
  parts_some e = ap (λ t. cond t (Some (with_port host port, with_path path)) None) e

  pub parts_none : are_parts host port path ≡ false → parts_of host port path ≡ None
  parts_none e = ap (λ t. cond t (Some (with_port host port, with_path path)) None) e

-- an address begins with its scheme
pub address_is : (text : List ℕ) → starts_with nat_eq text scheme ≡ true → address_of text ≡ after_scheme (drop 7 text)
unfolding address_of
address_is text e = ap (λ t. cond t (after_scheme (drop 7 text)) None) e

-- a text without it is no address
pub address_none : (text : List ℕ) → starts_with nat_eq text scheme ≡ false → address_of text ≡ None
unfolding address_of
address_none text e = ap (λ t. cond t (after_scheme (drop 7 text)) None) e
