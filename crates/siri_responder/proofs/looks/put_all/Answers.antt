use Rattle.std.proofs.Common.{ap, sym, ◌∙◌, List}
use Rattle.siri_records.specs.Keyed.{Items, entries_view}
use Rattle.siri_responder.specs.Looking.{with_items}
use Rattle.siri_responder.proofs.Gathering.{Shared, put_one}
use Rattle.siri_responder.proofs.looks.put_all.Goals as goal

pub loop-key-preserved-in_ok-insert : goal.loop-key-preserved-in_ok-insert
loop-key-preserved-in_ok-insert c =
    let found = c.loop-key.found.entries in
    let rest = entries_view c.next.new.self.rest.items in
    ap (λ (es : List Shared). with_items (entries_view es) rest) c.in_ok-insert.ensures.entries
    ∙ ap (λ (es : Items). with_items es rest) (put_one c.in-Some.key c.in-Some.item found)
    ∙ sym (ap (λ (es : List Shared). with_items (entries_view found) (entries_view es)) c.in-Some.ensures.steps.0)
    ∙ c.loop-key.invariant

pub loop-key-preserved : goal.loop-key-preserved
loop-key-preserved c =
    let found = c.loop-key.found.entries in
    let rest = entries_view c.next.new.self.rest.items in
    ap (λ (es : List Shared). with_items (entries_view es) rest) c.in_ok-insert.ensures.entries
    ∙ ap (λ (es : Items). with_items es rest) (put_one c.in-Some.key c.in-Some.item found)
    ∙ sym (ap (λ (es : List Shared). with_items (entries_view found) (entries_view es)) c.in-Some.ensures.steps.0)
    ∙ c.loop-key.invariant
