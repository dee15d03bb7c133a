use Rattle.std.proofs.Common.{◌≡◌, map, take}
use Rattle.std.specs.List.{flat_map}
use Rattle.siri_messages.specs.Asked.{asked_with}
use Rattle.siri_subscriptions.specs.Courses.{kept_rows}
use Rattle.siri_subscriptions.specs.Prepared.{candidate_of}
use Rattle.siri_subscriptions.proofs.prepared.prepare_all.Given as goal

-- the lists before are ready
abbrev pub invariant-loop-list : goal.invariant-loop-list
invariant-loop-list l =
    l.candidates.items ≡ map (λ wanted. candidate_of l.now l.request.message_identifier (kept_rows l.table)
    (asked_with l.request wanted)) (flat_map (λ list. list.now) (take l.list-index l.list-items))
