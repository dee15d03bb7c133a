use Rattle.siri_tables.proofs.TableLaws.{is_spelled}
use Rattle.siri_wire.specs.Supplies.{mark}
use Rattle.siri_wire.proofs.SupplyTables.{mark_laws}
use Rattle.siri_wire.proofs.ReadIffSpellsParts.{round_position_read, delivery_extensions_read, round_position_spelled, delivery_extensions_spelled}
use Rattle.siri_wire.proofs.laws.deliveries.places_are_spelled.Goals as goal

pub returns-clause-of_mark : goal.returns-clause-of_mark
unfolding mark
returns-clause-of_mark c = λ d m. is_spelled mark_laws d m

pub returns-clause-of_round_position : goal.returns-clause-of_round_position
returns-clause-of_round_position c = λ d s. (round_position_spelled d s, round_position_read d s)

pub returns-clause-of_delivery_extensions : goal.returns-clause-of_delivery_extensions
returns-clause-of_delivery_extensions c = λ removed d e. (delivery_extensions_spelled removed d e, delivery_extensions_read removed d e)
