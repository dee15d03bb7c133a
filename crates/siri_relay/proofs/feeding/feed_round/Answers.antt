use Rattle.std.proofs.Common.{◌≡◌, ◌∙◌, ap, subst, true, List, Option}
use Rattle.std.specs.Prelude.{IfSome}
use Rattle.siri_records.specs.Keyed.{InOrder, KeyChange, apply}
use Rattle.siri_change.specs.Changes.{changes}
use Rattle.siri_change.proofs.Leads.{changes_lead}
use Rattle.siri_relay.specs.Feeds.{feeds_of}
use Rattle.siri_relay.specs.Goes.{GoesBy, GoesSome}
use Rattle.siri_relay.proofs.Goings.{feeds_changed, on_err, some_none, some_whole}
use Rattle.siri_relay.proofs.feeding.feed_round.Goals as goal

pub returns-in_err-found-clause-err : goal.returns-in_err-found-clause-err
returns-in_err-found-clause-err c =
    on_err c.from_residual.result _ (some_none c.args.producer.now (feeds_of true c.args.fed.now c.args.view.now))

pub returns-in_err-feeds-clause-err : goal.returns-in_err-feeds-clause-err
returns-in_err-feeds-clause-err c =
    on_err c.from_residual-in_err-feeds.result _ (some_none c.args.producer.now (feeds_of true c.args.fed.now c.args.view.now))

pub returns-in_err-feed_both-clause-err : goal.returns-in_err-feed_both-clause-err
returns-in_err-feed_both-clause-err c =
    let fed = c.args.fed.now in
    let view = c.args.view.now in
    let list = subst (λ (o : Option (List KeyChange)). IfSome o (λ list. list ≡ changes fed view)) c.in-Some.is c.in_ok-found.ensures.list in
    let steps = feeds_changed c.in-Some.list fed view _ _ list c.in_ok-feeds.ensures.removals c.in_ok-feeds.ensures.items in
    on_err c.from_residual-in_err-feed_both.result _
    (subst (GoesSome c.args.producer.now c.feed_both.new.producer) steps c.in_err-feed_both.ensures.err)

pub returns-in_err-put_changes-clause-err : goal.returns-in_err-put_changes-clause-err
returns-in_err-put_changes-clause-err c =
    let fed = c.args.fed.now in
    let view = c.args.view.now in
    let list = subst (λ (o : Option (List KeyChange)). IfSome o (λ list. list ≡ changes fed view)) c.in-Some.is c.in_ok-found.ensures.list in
    let steps = feeds_changed c.in-Some.list fed view _ _ list c.in_ok-feeds.ensures.removals c.in_ok-feeds.ensures.items in
    on_err c.from_residual-in_err-put_changes.result _
    (some_whole c.args.producer.now c.feed_both.new.producer (feeds_of true fed view)
    (subst (GoesBy c.args.producer.now c.feed_both.new.producer) steps c.in_ok-feed_both.ensures.ok))

pub returns-clause-ok : goal.returns-clause-ok
returns-clause-ok c =
    let fed = c.args.fed.now in
    let view = c.args.view.now in
    let list = subst (λ (o : Option (List KeyChange)). IfSome o (λ list. list ≡ changes fed view)) c.in-Some.is c.in_ok-found.ensures.list in
    let steps = feeds_changed c.in-Some.list fed view _ _ list c.in_ok-feeds.ensures.removals c.in_ok-feeds.ensures.items in
    subst (GoesBy c.args.producer.now c.feed_both.new.producer) steps c.in_ok-feed_both.ensures.ok

pub returns-clause-fed : goal.returns-clause-fed
returns-clause-fed c =
    let fed = c.args.fed.now in
    let view = c.args.view.now in
    let list = subst (λ (o : Option (List KeyChange)). IfSome o (λ list. list ≡ changes fed view)) c.in-Some.is c.in_ok-found.ensures.list in
    let order = subst (λ (o : Option (List KeyChange)). IfSome o (λ _. InOrder fed × InOrder view)) c.in-Some.is c.in_ok-found.ensures.order in
    c.in_ok-put_changes.ensures.ok ∙ (ap (apply fed) list ∙ changes_lead fed view order.0 order.1)
