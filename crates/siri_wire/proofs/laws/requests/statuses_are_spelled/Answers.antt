use Rattle.siri_tables.proofs.TableLaws.{is_spelled}
use Rattle.siri_wire.specs.Subscriptions.{response_status}
use Rattle.siri_wire.specs.Terminations.{termination_status}
use Rattle.siri_wire.proofs.RequestTables.{response_status_laws, termination_status_laws}
use Rattle.siri_wire.proofs.laws.requests.statuses_are_spelled.Goals as goal

pub returns-clause-of_begun : goal.returns-clause-of_begun
unfolding response_status
returns-clause-of_begun c = is_spelled response_status_laws

pub returns-clause-of_ended : goal.returns-clause-of_ended
unfolding termination_status
returns-clause-of_ended c = is_spelled termination_status_laws
