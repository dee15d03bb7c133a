-- What a responder holds: the live current items of a history.
use Rattle.std.proofs.Common.{◌≡◌, ◌≤◌, length, not, ◌∙◌}
use Rattle.siri_records.specs.declared.item.Item.{Item}
use Rattle.siri_records.specs.Ends.{is_dead}
use Rattle.siri_records.specs.Order.{key_cmp}
use Rattle.siri_records.specs.Keyed.{InOrder, most_live}
use Rattle.siri_messages.specs.declared.requests.ServiceRequest.{ServiceRequest}
use Rattle.siri_model.specs.Direct.{response}
use Rattle.siri_model.specs.History.{History, IsKeyed, now_of, current}
use Rattle.siri_model.proofs.Current.{current_keyed, few_live, keyed_passing}
use Rattle.siri_model.proofs.Entries.{sorted_passing}
use Rattle.siri_model.proofs.InOrder.{current_in_order}
use Rattle.siri_responder.proofs.Shown.{response_live}
use Rattle.siri_responder.specs.Known.{Known, StandsFor}

pub held_in_order : (known : Known) → ((h : History) × StandsFor known h) → InOrder known.held
held_in_order known has = rw (has.1.held) (sorted_passing key_cmp (λ (i : Item). not (is_dead i (now_of has.0))) (current has.0) (current_in_order has.0))

pub held_keyed : (known : Known) → ((h : History) × StandsFor known h) → IsKeyed known.held
held_keyed known has = rw (has.1.held) (keyed_passing (λ (i : Item). not (is_dead i (now_of has.0))) (current has.0) (current_keyed has.0))

pub held_few : (known : Known) → ((h : History) × StandsFor known h) → length known.held ≤ most_live
held_few known has = rw (has.1.held) (few_live has.0)

-- ---- what a responder answers

-- a responder answers as the histories that it stands for
pub response_of : (known : Known) (h : History) (request : ServiceRequest) → StandsFor known h
    → response known.name known.moment known.held request ≡ response known.name (now_of h) (current h) request
response_of known h request s =
    (λ i. response known.name (s.moment i) (s.held i) request)
    ∙ response_live known.name (now_of h) (current h) request
