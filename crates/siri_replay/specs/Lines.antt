-- What a line of a script is that isn't skipped: a word and its argument.
use Rattle.std.specs.Prelude.{ℕ, ◌+◌, List, [], ◌∷◌, not, length, take, drop, codes, if◌then◌else◌, ◌==◌, nat_eq, nat_lt, Option, Some, None, Result, Ok, Err}
use Rattle.std.specs.Cmp.Lexicographic.{pointwise}
use Rattle.std.specs.List.{prefix_len}
use Rattle.std.specs.Map.{lookup}
use Rattle.std.specs.Str.{is_utf8}
use Rattle.siri_base.specs.declared.reason.ScriptReason.{ScriptReason}
use Rattle.siri_base.specs.declared.reason.ScriptReason.TheVariants as reason
use Rattle.siri_replay.specs.declared.script_words.ScriptWord.{ScriptWord}
use Rattle.siri_replay.specs.declared.script_words.ScriptWord.TheVariants as word

-- where the first word ends: at the first space, or with the line
abbrev pub word_end : List ℕ → ℕ
word_end line = prefix_len (λ byte. not (byte == 32)) line

abbrev pub first_word : List ℕ → List ℕ
first_word line = take (word_end line) line

-- what follows the first space, which is an argument or several
abbrev pub argument_of : List ℕ → Option (List ℕ)
argument_of line = if nat_lt (word_end line) (length line) then Some (drop (word_end line + 1) line) else None

-- the ten words of a script
abbrev pub words : List (List ℕ × ScriptWord)
words =
    (codes "start", word.Start)
    ∷ (codes "clock", word.Clock)
    ∷ (codes "feed", word.Feed)
    ∷ (codes "ask", word.Ask)
    ∷ (codes "subscribe", word.Subscribe)
    ∷ (codes "terminate", word.Terminate)
    ∷ (codes "restart", word.Restart)
    ∷ (codes "status", word.Status)
    ∷ (codes "deliver", word.Deliver)
    ∷ (codes "view", word.View)
    ∷ []

-- the word that is spelled so
unfoldable pub word_named : List ℕ → Option ScriptWord
word_named name = lookup (pointwise nat_eq name) words

abbrev pub known_word : Option ScriptWord → Result ScriptWord ScriptReason
known_word None = Err reason.BadWord
known_word (Some word) = Ok word

-- the first word of a line of text, which is one of the ten
abbrev pub word_of : List ℕ → Result ScriptWord ScriptReason
word_of line = if is_utf8 line then known_word (word_named (first_word line)) else Err reason.NotText
