use Rattle.std.proofs.Common.{ap, sym, ◌∙◌}
use Rattle.siri_records.specs.Ends.{is_dead}
use Rattle.siri_records.specs.Keyed.{item_of}
use Rattle.siri_model.specs.History.{current, now_of}
use Rattle.siri_subscriptions.proofs.Live.{alive_in}
use Rattle.siri_subscriptions.proofs.again.held_are_live.Goals as goal

pub returns : goal.returns
returns c =
    let stands = c.held.ensures.stands in
    record {
      ordered = c.held.ensures.in_order;
      keyed = c.held.ensures.keyed;
      alive = λ key i is.
          ap (is_dead i) stands.1.moment
          ∙ alive_in (now_of stands.0) (current stands.0) key i
          (ap (λ held. item_of held key) (sym stands.1.held) ∙ is);
    }
