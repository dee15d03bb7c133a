-- What a connection brings, as far as it can be read, and what is done with it.
use Rattle.std.specs.Prelude.{◌≡◌, ℕ, nat_le, List, [], ◌∷◌, length, take, Option, if◌then◌else◌}
use Rattle.siri_outside.specs.OutsideCalls.{WhereTold}
use Rattle.siri_outside.specs.Wires.{Connection, Present, WireState}
use Rattle.siri_http.specs.declared.errors.HttpError.{HttpError}
use Rattle.siri_http.specs.declared.errors.HttpError.TheVariants as http

-- the front of a text that passes before the next failure
abbrev pub passing : List ℕ → List ℕ → List ℕ
passing [] text = text
passing (before ∷ later) text = take before text

-- the bytes that a connection brings before its next failure
abbrev pub readable : Connection → List ℕ
readable connection = passing connection.read_fails connection.input

-- what cuts off a text of so many bytes: a failure that comes within it or right after it, or its end
abbrev pub cut_by : List ℕ → ℕ → HttpError
cut_by [] count = http.Short
cut_by (before ∷ later) count = if nat_le before count then http.ReadFault else http.Short

-- what comes where more is wanted of a connection than can be read
abbrev pub cut_of : Connection → HttpError
cut_of connection = cut_by connection.read_fails (length connection.input)

-- a call deals with the connection that is there, and with nothing else of the wire
pub record OnPresent (Does : Present → Present → Type 0) (old new : WireState) : Type 0 where
  pub present : WhereTold old.present new.present Does
  pub rest : new ≡ record old { present = new.present }

-- the same of a wire that tells what it holds
abbrev pub OnConnection : (Present → Present → Type 0) → Option WireState → Option WireState → Type 0
OnConnection Does old new = WhereTold old new (OnPresent Does)
