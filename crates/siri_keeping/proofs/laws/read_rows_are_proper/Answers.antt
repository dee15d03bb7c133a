use Rattle.siri_keeping.proofs.ReadProper.{key_is_proper, read_item_proper, read_renewal_proper, read_request_proper}
use Rattle.siri_keeping.proofs.laws.read_rows_are_proper.Goals as goal

pub returns-clause-items : goal.returns-clause-items
returns-clause-items c = λ key text i e. (read_item_proper key text i e, key_is_proper i (read_item_proper key text i e))

pub returns-clause-requests : goal.returns-clause-requests
returns-clause-requests c = read_request_proper

pub returns-clause-renewals : goal.returns-clause-renewals
returns-clause-renewals c = read_renewal_proper
