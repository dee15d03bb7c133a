-- The laws of the kinds of values.
use Rattle.std.proofs.Common.{Bool, Option, Some, None, Result, Ok, Err}
use Rattle.std.specs.Prelude.{IfSome, ⊤}
use Rattle.siri_tables.specs.Refusals.{Refusal}
use Rattle.siri_tables.specs.Rules.{flag}
use Rattle.siri_tables.specs.Tables.{a_name, a_text, a_moment, a_span, a_number, a_decimal, a_flag}
use Rattle.siri_tables.proofs.BackValues.{name_back, text_back, flag_back, number_back, moment_back, span_back, decimal_back}
use Rattle.siri_tables.proofs.CanonicalParts.{text_within, some_flag_within, number_within, moment_within, span_within, decimal_within}
use Rattle.siri_tables.proofs.ProperParts.{OnRead, name_yields, text_yields, moment_yields, span_yields, number_yields, decimal_yields}
use Rattle.siri_tables.proofs.TableLaws.{KindLaws}

pub name_laws : KindLaws 0 a_name
name_laws = record { back = name_back; within = λ t is. text_within 0 t is.utf8; yields = name_yields }

pub text_laws : KindLaws 0 a_text
text_laws = record { back = text_back; within = λ t is. text_within 0 t is.utf8; yields = text_yields }

pub moment_laws : KindLaws 0 a_moment
moment_laws = record { back = moment_back; within = moment_within 0; yields = moment_yields }

pub span_laws : KindLaws 0 a_span
span_laws = record { back = span_back; within = span_within 0; yields = span_yields }

pub number_laws : KindLaws 0 a_number
number_laws = record { back = number_back; within = number_within 0; yields = number_yields }

pub decimal_laws : KindLaws 0 a_decimal
decimal_laws = record { back = decimal_back; within = decimal_within 0; yields = decimal_yields }

some_or_none : (o : Option Bool) → IfSome o (λ b. ⊤)
some_or_none None = tt
some_or_none (Some b) = tt

any_flag : (r : Result (Option Bool) Refusal) → OnRead r (λ o. IfSome o (λ b. ⊤))
any_flag (Ok o) = some_or_none o
any_flag (Err e) = tt

pub flag_laws : KindLaws 0 a_flag
flag_laws = record { back = λ b is. flag_back b; within = λ b is. some_flag_within 0 (Some b); yields = λ d u. any_flag (flag d) }
