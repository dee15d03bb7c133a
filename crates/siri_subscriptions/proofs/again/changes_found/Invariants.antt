use Rattle.std.proofs.Common.{◌≡◌, ◌++◌, drop}
use Rattle.siri_model.specs.Looks.{changes_found}
use Rattle.siri_subscriptions.proofs.again.changes_found.Given as goal

abbrev pub invariant-loop-one : goal.invariant-loop-one
invariant-loop-one l =
    l.list ++ changes_found l.wanted.slack l.view l.wanted.topic l.now (drop l.one-index l.found)
    ≡ changes_found l.wanted.slack l.view l.wanted.topic l.now l.found
