use Rattle.std.proofs.Common.{◌≡◌, inl, length, ap, ◌∙◌, arith}
use Rattle.std.proofs.lemmas.Bool.Decides.{nat_tests}
use Rattle.siri_change.specs.Changes.{changes}
use Rattle.siri_relay.specs.Named.{items_at}
use Rattle.siri_relay.proofs.Few.{none_in, round_changes}
use Rattle.siri_relay.proofs.naming.changes_at.Goals as goal

pub returns-then-len-eq0-clause-none : goal.returns-then-len-eq0-clause-none
returns-then-len-eq0-clause-none c =
    λ none. inl (none_in c.args.before.now (grind (arith, nat_tests, c.if-len-eq0.true, c.len.ensures.number)))

pub returns-clause-list : goal.returns-clause-list
returns-clause-list c =
    let keys = c.args.keys.now in
    let before = c.args.before.now in
    let after = c.args.after.now in
    let few : length c.in_ok-new.new ≡ length (items_at keys after) = ap length c.in_ok-new.ensures in
    c.in_ok-changes.ensures
    ∙ ((λ i. changes (c.in_ok-old.ensures i) (c.in_ok-new.ensures i))
    ∙ round_changes keys before after c.len.ensures.ordered c.len-3.ensures.ordered c.requires
    (λ (same : length (items_at keys after) ≡ length after). absurd
    (grind (arith, nat_tests, c.if-len.false, c.len-2.ensures.number, c.len-3.ensures.number, few, same))))
