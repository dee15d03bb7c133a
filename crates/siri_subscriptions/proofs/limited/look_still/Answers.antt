use Rattle.std.proofs.Common.{List, ◌++◌, ap, nat_eq, subst, ◌∙◌}
use Rattle.std.specs.Map.{keys_of}
use Rattle.siri_records.specs.Keyed.{InOrder, KeyChange}
use Rattle.siri_records.specs.KeyLists.{in_order}
use Rattle.siri_subs.specs.Lent.{entry_of}
use Rattle.siri_subscriptions.proofs.Still.{still_found, still_apart_at}
use Rattle.siri_subscriptions.proofs.limited.look_still.Goals as goal

pub returns-clause-found : goal.returns-clause-found
returns-clause-found c =
    still_found c.args.responder.now (entry_of c.args.entry.now) c.args.looked.now c.requires.live c.requires.follows
    c.requires.level (subst InOrder c.acknowledged.ensures c.view_is_in_order.ensures) c.requires.untouched c.requires.uncrossed
    (nat_eq c.len-is_level.result 0) (ap (λ n. nat_eq n 0) c.len-is_level.ensures)

pub returns-clause-apart : goal.returns-clause-apart
returns-clause-apart c =
    still_apart_at c.args.responder.now (entry_of c.args.entry.now) c.args.looked.now c.requires.live c.requires.follows
    c.requires.level (subst InOrder c.acknowledged.ensures c.view_is_in_order.ensures) c.requires.untouched c.requires.uncrossed
    c.in_ok-apart.apart
    (c.in_ok-apart.ensures ∙ ap (λ (changes : List KeyChange). in_order (keys_of changes ++ c.args.looked.now.apart)) c.new.ensures)
