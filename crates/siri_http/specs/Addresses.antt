-- The addresses that messages are sent to (RFC 9110, section 4.2.1, as far as this profile takes it).
use Rattle.std.specs.Prelude.{ℕ, Bool, true, false, ◌&&◌, ◌||◌, not, ◌==◌, nat_le, List, [], ◌∷◌, ◌++◌, length, take, drop, codes, nat_eq}
use Rattle.std.specs.Prelude.{Option, None, Some, if◌then◌else◌}
use Rattle.std.specs.List.{list_all, prefix_len, starts_with}
use Rattle.std.specs.Char.{is_ascii_alphanumeric, is_ascii_graphic}
use Rattle.siri_base.specs.Numbers.{number_of}

-- how many bytes stand before the first of this value, or how many there are
abbrev pub before : ℕ → List ℕ → ℕ
before byte text = prefix_len (λ b. not (b == byte)) text

-- what stands after `http://`
abbrev pub scheme : List ℕ
scheme = codes "http://"

-- a byte of a host: a letter, a digit, `.` or `-`
abbrev pub is_host_byte : ℕ → Bool
is_host_byte byte = is_ascii_alphanumeric byte || ((byte == 46) || (byte == 45))

-- a host has one byte at least
abbrev pub is_host : List ℕ → Bool
is_host text = nat_le 1 (length text) && list_all is_host_byte text

-- a number of a port
abbrev pub is_below : Option ℕ → Bool
is_below None = false
is_below (Some number) = nat_le number 65535

-- a port with its colon, or none: 1 to 5 digits of a value up to 65,535
abbrev pub is_port : List ℕ → Bool
is_port [] = true
is_port (colon ∷ digits) = (colon == 58) && (nat_le (length digits) 5 && is_below (number_of digits))

-- a port with its colon, as it is spelled, or 80
abbrev pub port_or : List ℕ → List ℕ
port_or [] = codes ":80"
port_or (colon ∷ digits) = colon ∷ digits

-- a host with its port
abbrev pub with_port : List ℕ → List ℕ → List ℕ
with_port host port = host ++ port_or port

-- a path, or the root
abbrev pub with_path : List ℕ → List ℕ
with_path [] = codes "/"
with_path (slash ∷ path) = slash ∷ path

-- a host, a port with its colon or none, and a path or none; bytes from `!` to `~` stand in a path
abbrev pub are_parts : List ℕ → List ℕ → List ℕ → Bool
are_parts host port path = is_host host && (is_port port && list_all is_ascii_graphic path)

-- the host with its port and the path, where these are of their forms
abbrev pub parts_of : List ℕ → List ℕ → List ℕ → Option (List ℕ × List ℕ)
parts_of host port path = if are_parts host port path then Some (with_port host port, with_path path) else None

-- a host and its port
abbrev pub authority : List ℕ → List ℕ → Option (List ℕ × List ℕ)
authority text path = parts_of (take (before 58 text) text) (drop (before 58 text) text) path

-- what comes after the scheme: up to the first `/` the host and its port, and from there the path
abbrev pub after_scheme : List ℕ → Option (List ℕ × List ℕ)
after_scheme text = authority (take (before 47 text) text) (drop (before 47 text) text)

-- The host with its port, and the path, of the address `http://HOST[:PORT][/PATH]`; `None` where the text is none.
unfoldable pub address_of : List ℕ → Option (List ℕ × List ℕ)
address_of text = if starts_with nat_eq text scheme then after_scheme (drop 7 text) else None

-- `HOST:PORT`, where the port is not left out
unfoldable pub is_host_with_port : List ℕ → Bool
is_host_with_port text =
    is_host (take (before 58 text) text) && (nat_le 1 (length (drop (before 58 text) text)) && is_port (drop (before 58 text) text))
