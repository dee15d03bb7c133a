-- The forms of the arguments of commands.
use Rattle.std.specs.Prelude.{ℕ, List, ◌∷◌, length, Bool, true, not, ◌==◌, ◌&&◌, nat_le, Option, Some, None, option_map, if◌then◌else◌}
use Rattle.siri_http.specs.Addresses.{address_of, is_host_with_port}
use Rattle.siri_base.specs.Numbers.{number_of}
use Rattle.siri_http.specs.declared.address.Address.{Address}

-- NAME: 1 to 255 bytes
abbrev pub is_name : List ℕ → Bool
is_name word = nat_le 1 (length word) && nat_le (length word) 255

-- LISTEN: `HOST:PORT` of 1 to 247 bytes
abbrev pub is_listen : List ℕ → Bool
is_listen word = nat_le 1 (length word) && (nat_le (length word) 247 && is_host_with_port word)

abbrev pub address : List ℕ × List ℕ → Address
address parts = record { host = parts.0; path = parts.1 }

-- PRODUCER: the address `http://HOST[:PORT][/PATH]`, of 1 to 255 bytes as a NAME
unfoldable pub producer_of : List ℕ → Option Address
producer_of word = if is_name word then option_map address (address_of word) else None

-- no zero comes before other digits
abbrev pub is_plain : List ℕ → Bool
is_plain (first ∷ second ∷ rest) = not (first == 48)
is_plain other = true

abbrev pub between : (least most : ℕ) → Option ℕ → Option ℕ
between least most None = None
between least most (Some number) = if nat_le least number && nat_le number most then Some number else None

-- COUNT: a number from the least to the most, in digits without a leading zero
unfoldable pub count_of : (least most : ℕ) → List ℕ → Option ℕ
count_of least most word = if is_plain word then between least most (number_of word) else None

-- the most events that a load draws
abbrev pub most_events : ℕ
most_events = 20000

-- the most connections that an end serves
abbrev pub most_connections : ℕ
most_connections = 1000000
