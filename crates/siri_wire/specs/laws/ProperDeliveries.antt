-- Proper messages by which rounds are fetched and delivered: each field has a value that its row can give, what has to be there is
-- there, items and removals are of their list's service, and nothing stands in them that isn't carried.
use Rattle.siri_messages.specs.declared.deliveries.ServiceDelivery.{ServiceDelivery}
use Rattle.siri_tables.specs.Tables.{AllProper}
pub use Rattle.siri_deliveries.specs.Deliveries.{IsProperOf, IsProperDelivery}
use Rattle.siri_deliveries.specs.Deliveries.{service_delivery_table}

-- ServiceDelivery
abbrev pub IsProperServiceDelivery : ServiceDelivery → Type 0
IsProperServiceDelivery s = AllProper service_delivery_table s
