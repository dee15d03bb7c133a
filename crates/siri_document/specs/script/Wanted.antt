-- The subscription that a text of a line wants, or why it isn't taken.
use Rattle.std.specs.Prelude.{ℕ, List, Result, Ok, Err}
use Rattle.siri_base.specs.declared.reason.ScriptReason.{ScriptReason}
use Rattle.siri_base.specs.declared.reason.ScriptReason.TheVariants as reason
use Rattle.siri_json.specs.Paths.{path_text}
use Rattle.siri_tables.specs.Refusals.{Refusal}
use Rattle.siri_wire.specs.Wanted.{WantedRefusal, refused_at, several, wanted_of}
use Rattle.siri_wire.specs.declared.wanted.Wanted.{Wanted}

-- the value, and another error
abbrev pub or_refused : {A E : Type 0} → (E → ScriptReason) → Result A E → Result A ScriptReason
or_refused why (Ok value) = Ok value
or_refused why (Err error) = Err (why error)

-- a document is refused with its path and reason
abbrev pub bad_document : Refusal → ScriptReason
bad_document refusal = reason.BadDocument (path_text refusal.path) refusal.reason

-- why a text asks for no subscription: it is refused as a document is, or asks for several
abbrev pub unwanted : WantedRefusal → ScriptReason
unwanted (refused_at refusal) = bad_document refusal
unwanted several = reason.WrongMessage

-- WANTED, the subscription that is asked for in this subscriber's name
abbrev pub wanted_said : List ℕ → List ℕ → Result Wanted ScriptReason
wanted_said subscriber text = or_refused unwanted (wanted_of text subscriber)
