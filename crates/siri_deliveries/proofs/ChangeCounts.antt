-- The entry that leads is one of those that are still to come.
use Rattle.std.proofs.Common.{◌≡◌, ◌+◌, List, Option, Some, None, length, ap, arith}
use Rattle.serde_json.specs.Data.{Data}
use Rattle.siri_deliveries.specs.Pieces.{Leads}

pub one_more : (w : Option Data) (later all : List Data) → Leads w later all → length all ≡ 1 + length later
one_more None later all leads = absurd leads
one_more (Some entry) later all leads = omega (arith, ap length leads)
