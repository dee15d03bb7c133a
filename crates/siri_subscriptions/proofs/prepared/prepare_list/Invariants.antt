use Rattle.std.proofs.Common.{◌≡◌, ◌++◌, map, take}
use Rattle.siri_messages.specs.Asked.{asked_with}
use Rattle.siri_subscriptions.specs.Courses.{kept_rows}
use Rattle.siri_subscriptions.specs.Prepared.{candidate_of}
use Rattle.siri_subscriptions.proofs.prepared.prepare_list.Given as goal

abbrev pub invariant-loop-wanted : goal.invariant-loop-wanted
invariant-loop-wanted l =
    l.candidates.items ≡ l.fn.candidates.items ++ map
    (λ wanted. candidate_of l.now l.request.message_identifier (kept_rows l.table) (asked_with l.request wanted))
    (take l.wanted-index l.list)
