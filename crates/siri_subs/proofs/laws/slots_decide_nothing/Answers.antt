use Rattle.siri_subs.proofs.Mapped.{answer_mapped, accepted_mapped, put_mapped, is_ended_mapped, ended_mapped, without_mapped}
use Rattle.siri_subs.proofs.Mapped.{expired_mapped, renumbered_mapped, renumber_mapped, number_mapped, place_mapped}
use Rattle.siri_subs.proofs.laws.slots_decide_nothing.Goals as goal

pub returns-clause-answer : goal.returns-clause-answer
returns-clause-answer g c = answer_mapped

pub returns-clause-accepted : goal.returns-clause-accepted
returns-clause-accepted g c = accepted_mapped

pub returns-clause-put : goal.returns-clause-put
returns-clause-put g c = put_mapped

pub returns-clause-is_ended_by : goal.returns-clause-is_ended_by
returns-clause-is_ended_by g c = is_ended_mapped

pub returns-clause-ended : goal.returns-clause-ended
returns-clause-ended g c = ended_mapped

pub returns-clause-without : goal.returns-clause-without
returns-clause-without g c = without_mapped

pub returns-clause-expired : goal.returns-clause-expired
returns-clause-expired g c = expired_mapped

pub returns-clause-renumbered : goal.returns-clause-renumbered
returns-clause-renumbered g c = renumbered_mapped

pub returns-clause-renumber_answer : goal.returns-clause-renumber_answer
returns-clause-renumber_answer g c = renumber_mapped

pub returns-clause-number : goal.returns-clause-number
returns-clause-number g c = number_mapped

pub returns-clause-place : goal.returns-clause-place
returns-clause-place g c = place_mapped
