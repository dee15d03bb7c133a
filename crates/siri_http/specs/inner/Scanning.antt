-- Inner words: how a head text is looked for, byte by byte. That it is the head text of `Heads` is proved in `proofs/HeadTexts.antt`.
use Rattle.std.specs.Prelude.{ℕ, ◌+◌, Bool, true, false, ◌&&◌, nat_lt, ◌==◌, List, [], ◌∷◌, Option, None, Some, if◌then◌else◌}
use Rattle.siri_http.specs.declared.scan.Line.{Line}
use Rattle.siri_http.specs.declared.scan.Line.TheVariants as line
use Rattle.siri_http.specs.declared.scan.Scan.{Scan}
use Rattle.siri_http.specs.declared.scan.HeadText.{HeadText}

-- a line ends with LF, and is empty where nothing or only a CR stands before it
abbrev pub is_empty : Line → Bool
is_empty line.Nothing = true
is_empty line.Return = true
is_empty line.Text = false

-- the line that has begun, with one more byte of it
abbrev pub line_after : Line → ℕ → Line
line_after line.Nothing byte = if byte == 13 then line.Return else line.Text
line_after line.Return byte = line.Text
line_after line.Text byte = line.Text

-- a byte ends the head text where it ends an empty line, and a line that isn't empty came before
unfoldable pub ends_head : Scan → ℕ → Bool
ends_head at byte = (byte == 10) && (is_empty at.line && nat_lt 0 at.full)

-- how many lines that aren't empty have ended, where one more has
abbrev pub full_after : Scan → ℕ
full_after at = if is_empty at.line then at.full else at.full + 1

-- the text with one more byte, which doesn't end the head text
unfoldable pub after_byte : Scan → ℕ → Scan
after_byte at byte =
    if byte == 10
    then record { len = at.len + 1; full = full_after at; line = line.Nothing }
    else record { len = at.len + 1; full = at.full; line = line_after at.line byte }

-- the head text that ends first in these bytes, which follow what came so far
abbrev pub head_from : Scan → List ℕ → Option HeadText
head_from at [] = None
head_from at (byte ∷ bytes) =
    if ends_head at byte then Some (record { len = at.len + 1; full = at.full }) else head_from (after_byte at byte) bytes

-- nothing came yet
abbrev pub fresh : Scan
fresh = record { len = 0; full = 0; line = line.Nothing }
