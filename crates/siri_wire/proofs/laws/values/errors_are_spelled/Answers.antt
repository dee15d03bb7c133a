use Rattle.siri_tables.specs.Rules.{text}
use Rattle.siri_deliveries.specs.declared.names.TheConstants.{ERROR_TEXT}
use Rattle.siri_wire.proofs.ReadIffSpellsParts.{inside_spelled, inside_read, error_condition_spelled, error_condition_read}
use Rattle.siri_wire.proofs.laws.values.errors_are_spelled.Goals as goal

pub returns-clause-of_error_condition : goal.returns-clause-of_error_condition
returns-clause-of_error_condition c = λ d error. (error_condition_spelled d error, error_condition_read d error)

pub returns-clause-of_other_error : goal.returns-clause-of_other_error
returns-clause-of_other_error c = λ d error. (inside_spelled text ERROR_TEXT.now d error, inside_read text ERROR_TEXT.now d error)
