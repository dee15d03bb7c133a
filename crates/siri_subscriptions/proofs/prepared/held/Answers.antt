use Rattle.std.proofs.Common.{sym, ap, ◌∙◌, option_map}
use Rattle.siri_subs.specs.Lent.{entry_of}
use Rattle.siri_subscriptions.proofs.Kept.{found_by, not_found}
use Rattle.siri_subscriptions.proofs.prepared.held.Goals as goal

pub returns-in_err-place_of : goal.returns-in_err-place_of
returns-in_err-place_of c =
    ap (option_map entry_of) c.from_residual.ensures ∙ sym
    (not_found c.args.subscriber.now c.args.identifier.now c.args.table.now
    (sym c.place_of.ensures.place ∙ c.in_err-place_of.was))

pub returns : goal.returns
returns c =
    c.at.ensures ∙ sym (found_by c.args.subscriber.now c.args.identifier.now c.args.table.now c.in_ok-place_of.field-0
    (sym c.place_of.ensures.place ∙ c.in_ok-place_of.was))
