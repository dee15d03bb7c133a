use Rattle.siri_wire.proofs.SubscriptionTables.{subscription_spelled, subscription_read}
use Rattle.siri_wire.proofs.laws.requests.subscriptions_are_spelled.Goals as goal

pub returns : goal.returns
returns c = λ s requestor d x. (subscription_spelled s requestor d x, subscription_read s requestor d x)
