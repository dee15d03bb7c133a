use Rattle.std.proofs.Common.{sym, ap, ◌∙◌}
use Rattle.std.specs.Prelude.{option_map}
use Rattle.siri_subs.specs.Lent.{entry_of}
use Rattle.siri_producer.proofs.Quiet.{found_nowhere, found_there}
use Rattle.siri_producer.proofs.lending.row_of.Goals as goal

pub returns-in_err-place : goal.returns-in_err-place
returns-in_err-place c =
    ap (option_map entry_of) c.from_residual.ensures
    ∙ sym (found_nowhere c.args.subscriber.now c.args.identifier.now c.args.table.now
    (sym c.place_of.ensures.place ∙ c.in_err-place.was))

pub returns : goal.returns
returns c =
    c.at.ensures
    ∙ sym (found_there c.args.subscriber.now c.args.identifier.now c.args.table.now c.in_ok-place.place
    (sym c.place_of.ensures.place ∙ c.in_ok-place.was))
