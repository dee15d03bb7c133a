-- The functional service (EN 15531-3, CEN/TS 15531-5) that is asked for a topic.
use Rattle.std.specs.Prelude.{Bool}
use Rattle.siri_records.specs.declared.item.Item.{Item}
use Rattle.siri_records.specs.declared.item.Service.{Service}
use Rattle.siri_records.specs.declared.item.Service.TheVariants as service
use Rattle.siri_records.specs.Services.{is_of}
use Rattle.siri_topic.specs.declared.topics.Topic.{Topic}
use Rattle.siri_topic.specs.declared.topics.Topic.TheVariants as topic

abbrev pub service_asked : Topic → Service
service_asked (topic.Stop t) = service.Stop
service_asked (topic.Timetable t) = service.Timetable
service_asked (topic.Vehicle t) = service.Vehicle
service_asked (topic.Situation t) = service.Situation

-- an item is of the service that is asked for a topic
abbrev pub is_served : Topic → Item → Bool
is_served t i = is_of (service_asked t) i
