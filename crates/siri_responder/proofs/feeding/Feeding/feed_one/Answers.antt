use Rattle.std.proofs.Common.{◌≡◌, ap, map}
use Rattle.std.proofs.lemmas.Result.{on_ok_weaker, on_err_weaker}
use Rattle.siri_model.specs.History.{Observed, Withdrawn}
use Rattle.siri_responder.proofs.Reached.{takes_more, front_some, later_some, on_err}
use Rattle.siri_responder.proofs.feeding.Feeding.feed_one.Goals as goal

pub returns-in_err-observe_all-clause-err : goal.returns-in_err-observe_all-clause-err
returns-in_err-observe_all-clause-err c =
    let items : c.into_entries-items.result.0 ≡ c.args.delivery.items = ap (λ entries. entries.0) c.into_entries-items.ensures in
    on_err _ (front_some _ _ _ _ (rw items at c.in_err-observe_all.ensures.err))

pub returns-clause-ok : goal.returns-clause-ok
returns-clause-ok c =
    let items : c.into_entries-items.result.0 ≡ c.args.delivery.items = ap (λ entries. entries.0) c.into_entries-items.ensures in
    let removals : c.into_entries-items.result.1 ≡ c.args.delivery.removals = ap (λ entries. entries.1) c.into_entries-items.ensures in
    on_ok_weaker c.withdraw_all.result
    (takes_more c.args.self.now c.observe_all.new.self c.withdraw_all.new.self (map Observed c.args.delivery.items)
    (map Withdrawn c.args.delivery.removals) (rw items at c.in_ok-observe_all.ensures.ok))
    (rw (c.slice.ensures, removals) at c.withdraw_all.ensures.ok)

pub returns-clause-err : goal.returns-clause-err
returns-clause-err c =
    let items : c.into_entries-items.result.0 ≡ c.args.delivery.items = ap (λ entries. entries.0) c.into_entries-items.ensures in
    let removals : c.into_entries-items.result.1 ≡ c.args.delivery.removals = ap (λ entries. entries.1) c.into_entries-items.ensures in
    on_err_weaker c.withdraw_all.result
    (later_some c.args.self.now c.observe_all.new.self c.withdraw_all.new.self (map Observed c.args.delivery.items)
    (map Withdrawn c.args.delivery.removals) (rw items at c.in_ok-observe_all.ensures.ok))
    (rw (c.slice.ensures, removals) at c.withdraw_all.ensures.err)
