use Rattle.siri_change.proofs.Carriage.{each_part, most_of_part}
use Rattle.siri_change.proofs.InParts.{parts_joined, parts_number}
use Rattle.siri_change.proofs.laws.parts_are_the_list.Goals as goal

pub returns-clause-joined : goal.returns-clause-joined
returns-clause-joined g c = parts_joined

pub returns-clause-count : goal.returns-clause-count
returns-clause-count g c = parts_number

pub returns-clause-each : goal.returns-clause-each
returns-clause-each g c = each_part

pub returns-clause-most : goal.returns-clause-most
returns-clause-most g c = most_of_part
