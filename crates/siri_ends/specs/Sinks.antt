-- Where the text of a body goes.
use Rattle.std.specs.Prelude.{◌≡◌, ◌+◌, ◌++◌, ℕ, Bool, true, List, length, Option, Result, Ok, Err, IfSome, ⊤}
use Rattle.siri_outside.specs.Wires.{WireState}
use Rattle.siri_http.specs.declared.errors.HttpError.{HttpError}
use Rattle.siri_http.specs.Connections.{OnConnection}
use Rattle.siri_http.specs.HttpCauses.{HasWriteCause}
use Rattle.siri_http.specs.Texts.{PutsText}
use Rattle.siri_ends.specs.declared.sink.Measured.{Measured}

-- Its bytes are counted, and where it is kept afterwards, all was kept before, and it is gathered behind that. The
-- bytes so far, whether all of them are kept, and what is gathered.
abbrev pub Measures : (old new : ℕ × Bool × List ℕ) → List ℕ → Result (Unit {0}) HttpError → Type 0
Measures old new text (Ok done) = (new.0 ≡ old.0 + length text)
    × (new.1 ≡ true → (old.1 ≡ true) × (new.2 ≡ old.2 ++ text))
Measures old new text (Err error) = ⊤

-- a length is that of a text, and a text that was kept is that one
abbrev pub IsMeasured : List ℕ → Measured → Type 0
IsMeasured text measured = (measured.length ≡ length text) × IfSome measured.text (λ kept. kept.items ≡ text)

-- it is written to the connection that is there, with this result
pub record WritesText (text : List ℕ) (result : Result (Unit {0}) HttpError) (before after : Option WireState)
    (earlier later : ℕ) : Type 0 where
  pub told : OnConnection (PutsText text result) before after
  pub cause : HasWriteCause earlier later result

-- It is gathered behind what was gathered before, and a front of both is written. Where it wasn't gathered or written
-- whole, this is so of all of it.
pub record WritesFront (whole left : List ℕ) (before after : Option WireState) (earlier later : ℕ) : Type 0 where
  pub front : List ℕ
  pub parts : whole ≡ front ++ left
  pub writes : WritesText front (Ok tt) before after earlier later

abbrev pub Gathers : List ℕ → Result (Unit {0}) HttpError → (gathered left : List ℕ) → (before after : Option WireState)
    → (earlier later : ℕ) → Type 0
Gathers text (Ok done) gathered left before after earlier later = WritesFront
    (gathered ++ text) left before after earlier later
Gathers text (Err error) gathered left before after earlier later = WritesText (gathered ++ text)
    (Err error) before after earlier later
