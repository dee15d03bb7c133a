use Rattle.std.proofs.Common.{◌≡◌}
use Rattle.siri_records.specs.Keyed.{entries_view}
use Rattle.siri_responder.specs.Looking.{with_items}
use Rattle.siri_responder.proofs.looks.put_all.Given as goal

-- those so far, with those to come, are all
abbrev pub invariant-loop-key : goal.invariant-loop-key
invariant-loop-key l =
    with_items (entries_view l.found.entries) (entries_view l.key-iterator.rest.items) ≡ with_items (entries_view l.fn.found.entries) (entries_view l.fn.entries.items)
