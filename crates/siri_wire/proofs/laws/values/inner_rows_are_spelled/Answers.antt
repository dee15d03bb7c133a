use Rattle.siri_wire.proofs.ReadIffSpellsParts.{inside_spelled, inside_read}
use Rattle.siri_wire.proofs.laws.values.inner_rows_are_spelled.Goals as goal

pub returns-clause-of_text : goal.returns-clause-of_text
returns-clause-of_text c = λ rule key d value. (inside_spelled rule key d value, inside_read rule key d value)

pub returns-clause-of_span : goal.returns-clause-of_span
returns-clause-of_span c = λ rule key d value. (inside_spelled rule key d value, inside_read rule key d value)
