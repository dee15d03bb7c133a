-- MessageIdentifiers that are numbers: they are read as numbers and written as strings (EN 15531-2).
use Rattle.std.specs.Prelude.{ℕ, Option, Some}
use Rattle.std.specs.Fmt.{decimal}
use Rattle.serde_json.specs.Data.{Data, string}
use Rattle.siri_tables.specs.Rules.{number}
use Rattle.siri_tables.specs.Proper.{IsNumber}
use Rattle.siri_tables.specs.Tables.{Kind}

-- a string of its digits
abbrev pub written_identifier : ℕ → Option Data
written_identifier n = Some (string (decimal n))

-- a MessageIdentifier that is a number
abbrev pub an_identifier : Kind ℕ
an_identifier = record { rule = number; writing = written_identifier; Is = IsNumber }
