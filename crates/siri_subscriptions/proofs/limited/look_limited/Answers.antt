use Rattle.std.proofs.Common.{length, sym, ◌∙◌}
use Rattle.siri_subscriptions.proofs.LookedWhole.{both_none, none_crossed, none_touched, some_found, whole_bound}
use Rattle.siri_subscriptions.proofs.limited.look_limited.Goals as goal

pub look_still-requires-clause-untouched : goal.look_still-requires-clause-untouched
look_still-requires-clause-untouched c =
    let none = both_none (length c.args.found.now) (length c.args.crossed.now) (sym c.are_none.ensures ∙ c.if-are_none.true) in
    none_touched c.args.responder.now c.args.entry.now.wanted.now.topic c.args.looked.now c.requires.limit
    c.args.found.now c.requires.found c.args.crossed.now c.requires.crossed none.0

pub look_still-requires-clause-uncrossed : goal.look_still-requires-clause-uncrossed
look_still-requires-clause-uncrossed c =
    let none = both_none (length c.args.found.now) (length c.args.crossed.now) (sym c.are_none.ensures ∙ c.if-are_none.true) in
    none_crossed c.args.responder.now c.args.entry.now.wanted.now.topic c.args.looked.now c.requires.limit
    c.args.found.now c.requires.found c.args.crossed.now c.requires.crossed none.1

pub returns-clause-bound : goal.returns-clause-bound
returns-clause-bound c =
    whole_bound c.args.responder.now c.args.entry.now.wanted.now.topic c.args.looked.now c.requires.limit
    c.args.found.now c.requires.found c.args.crossed.now c.requires.crossed
    (some_found (length c.args.found.now) (length c.args.crossed.now) (sym c.are_none.ensures ∙ c.if-are_none.false))
    c.look_whole.new.responder.reads c.look_whole.ensures.first
