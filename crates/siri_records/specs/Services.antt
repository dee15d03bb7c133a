-- The functional service (EN 15531-3, CEN/TS 15531-5) that an item is of.
use Rattle.std.specs.Prelude.{Bool, true, false}
use Rattle.siri_records.specs.declared.item.Item.{Item}
use Rattle.siri_records.specs.declared.item.Item.TheVariants as item
use Rattle.siri_records.specs.declared.item.Service.{Service}
use Rattle.siri_records.specs.declared.item.Service.TheVariants as service

abbrev pub service_of : Item → Service
service_of (item.Visit v) = service.Stop
service_of (item.Journey j) = service.Timetable
service_of (item.Vehicle v) = service.Vehicle
service_of (item.Situation s) = service.Situation

-- an item is of a service
abbrev pub is_of : Service → Item → Bool
is_of service.Stop (item.Visit v) = true
is_of service.Timetable (item.Journey j) = true
is_of service.Vehicle (item.Vehicle v) = true
is_of service.Situation (item.Situation s) = true
is_of s i = false
