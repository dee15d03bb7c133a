use Rattle.siri_wire.proofs.ReadIffSpellsParts.{bounded_list_spelled, bounded_list_read}
use Rattle.siri_wire.proofs.laws.values.lists_are_spelled.Goals as goal

pub returns : goal.returns
returns c = λ _ rule most key d xs. (bounded_list_spelled rule most key d xs, bounded_list_read rule most key d xs)
