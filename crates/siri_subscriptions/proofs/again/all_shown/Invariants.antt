use Rattle.std.proofs.Common.{◌≡◌, map, drop}
use Rattle.siri_records.specs.Keyed.{apply}
use Rattle.siri_subscriptions.specs.Again.{shown_again, shown_found}
use Rattle.siri_subscriptions.proofs.again.all_shown.Given as goal

-- the items so far, with those of what was found from here on, are all
abbrev pub invariant-loop-one : goal.invariant-loop-one
invariant-loop-one l =
    apply l.items (map (shown_found l.wanted.topic l.fn.responder.moment) (drop l.one-index l.found))
    ≡ shown_again l.fn.responder l.wanted.topic l.view l.found
