use Rattle.siri_records.specs.declared.item.Service.TheVariants as service
use Rattle.siri_tables.proofs.TableLaws.{is_spelled}
use Rattle.siri_deliveries.specs.Topics.{line_direction}
use Rattle.siri_wire.proofs.RequestTables.{line_direction_laws, topic_spelled, topic_read}
use Rattle.siri_wire.proofs.laws.requests.topics_are_spelled.Goals as goal

pub returns-clause-of_stop : goal.returns-clause-of_stop
returns-clause-of_stop c = λ d t. (topic_spelled service.Stop d t, topic_read service.Stop d t)

pub returns-clause-of_timetable : goal.returns-clause-of_timetable
returns-clause-of_timetable c = λ d t. (topic_spelled service.Timetable d t, topic_read service.Timetable d t)

pub returns-clause-of_vehicle : goal.returns-clause-of_vehicle
returns-clause-of_vehicle c = λ d t. (topic_spelled service.Vehicle d t, topic_read service.Vehicle d t)

pub returns-clause-of_situation : goal.returns-clause-of_situation
returns-clause-of_situation c = λ d t. (topic_spelled service.Situation d t, topic_read service.Situation d t)

pub returns-clause-of_line : goal.returns-clause-of_line
unfolding line_direction
returns-clause-of_line c = is_spelled line_direction_laws
