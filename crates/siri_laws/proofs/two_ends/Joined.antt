-- Small runs of two ends that are joined.
use Rattle.std.proofs.Common.{◌≡◌, ℕ, Bool, true, false, List, [], ◌∷◌, refl, sym, subst, take, drop, append-nil}
use Rattle.std.specs.Prelude.{⊤, map}
use Rattle.std.specs.List.{AllByRecursion}
use Rattle.siri_messages.specs.declared.message.Message.{Message}
use Rattle.siri_messages.specs.declared.message.Message.TheVariants as message
use Rattle.siri_messages.specs.declared.statuses.CheckStatusRequest.{CheckStatusRequest}
use Rattle.siri_messages.specs.declared.supplies.DataSupplyRequest.{DataSupplyRequest}
use Rattle.siri_messages.specs.declared.terminations.TerminateSubscriptionRequest.{TerminateSubscriptionRequest}
use Rattle.siri_life.specs.Life.{Terminate}
use Rattle.siri_life.specs.Named.{Name}
use Rattle.siri_life.specs.Serving.{Heard}
use Rattle.siri_model.specs.Lives.{acts_in, supply_of}
use Rattle.siri_topic.specs.Agreement.{same_name}
use Rattle.siri_laws.specs.two_ends.Joined.{AreBehind, Fits, IsIf, IsStrangeAct, IsStrangeToProducer, Order}
use Rattle.siri_laws.specs.two_ends.SmallRuns.{back, back_in_order, back_pairs, exchanged, in_order, lost, lost_in_order, one_pair, request, response}
use Rattle.siri_laws.specs.two_ends.SmallRuns.{too_early, two_pairs}
use Rattle.siri_laws.specs.two_ends.Truth.{BeginsWith}
use Rattle.siri_laws.proofs.two_ends.Logged.{take_drop}

whole : (text : List ℕ) → BeginsWith text text
whole text = record { rest = []; parts = sym (append-nil text) }

front : (count : ℕ) (text : List ℕ) → BeginsWith text (take count text)
front count text = record { rest = drop count text; parts = take_drop count text }

module _ (host path : List ℕ) (m answer : Message) where
  pub exchange_fits : Fits (exchanged host path m answer) one_pair
  exchange_fits = record {
    producers_once = refl;
    consumers_once = refl;
    to_producer = ((request host path m, refl, whole (request host path m)), (tt, (tt, (tt, (tt, tt)))));
    to_consumer = ((response answer, refl, whole (response answer)), (tt, (tt, tt)));
  }

  pub exchange_order : Order (exchanged host path m answer) one_pair (in_order host path m answer)
  exchange_order = record { producer = refl; consumer = refl; behind = (tt, (tt, (tt, (tt, (refl, (tt, (tt, (refl, tt)))))))) }

  pub not_too_early : AreBehind one_pair [] (too_early host path m answer) → ⊥
  not_too_early behind = let no : false ≡ true = behind.1.1.0 in cc

  pub lost_fits : (part acknowledgement : Message) (count : ℕ) → Fits (lost host path m answer part acknowledgement count) two_pairs
  lost_fits part acknowledgement count = record {
    producers_once = refl;
    consumers_once = refl;
    to_producer = (
      (request host path m, refl, whole (request host path m)),
      (
        tt,
        (
          tt,
          (
            tt,
            (
              tt,
              ((response acknowledgement, refl, front count (response acknowledgement)), (tt, tt)),
            ),
          ),
        ),
      ),
    );
    to_consumer = (
      (response answer, refl, whole (response answer)),
      (
        tt,
        (
          tt,
          ((request host path part, refl, whole (request host path part)), (tt, (tt, (tt, tt)))),
        ),
      ),
    );
  }

  pub lost_order : (part acknowledgement : Message) (count : ℕ)
      → Order (lost host path m answer part acknowledgement count) two_pairs (lost_in_order host path m answer part acknowledgement count)
  lost_order part acknowledgement count = record {
    producer = refl;
    consumer = refl;
    behind = (tt, (tt, (tt, (tt, (refl, (tt, (tt, (refl, (tt, (tt, (tt, (tt, (refl, (tt, tt))))))))))))));
  }

  pub back_fits : (again second : Message) → Fits (back host path m answer again second) back_pairs
  back_fits again second = record {
    producers_once = refl;
    consumers_once = refl;
    to_producer = (
      (request host path m, refl, whole (request host path m)),
      (
        tt,
        (
          tt,
          (
            tt,
            (
              tt,
              ((request host path again, refl, whole (request host path again)), (tt, (tt, (tt, (tt, tt))))),
            ),
          ),
        ),
      ),
    );
    to_consumer = (
      (response answer, refl, whole (response answer)),
      (
        tt,
        (
          tt,
          ((response second, refl, whole (response second)), (tt, (tt, tt))),
        ),
      ),
    );
  }

  pub back_order : (again second : Message) → Order (back host path m answer again second) back_pairs (back_in_order host path m answer again second)
  back_order again second = record {
    producer = refl;
    consumer = refl;
    behind = (tt, (tt, (tt, (tt, (refl, (tt, (tt, (refl, (tt, (tt, (tt, (tt, (refl, (tt, (tt, (refl, tt))))))))))))))));
  }

-- ---- what anybody may bring

pub status_is_strange : (name : Name) (r : CheckStatusRequest) → IsStrangeToProducer name (message.CheckStatusRequest r)
unfolding acts_in
status_is_strange name r = tt

whatever : (named : Bool) → IsIf named ⊤
whatever true = tt
whatever false = tt

pub part_is_strange : (name : Name) (r : DataSupplyRequest) → r.all_data ≡ false → IsStrangeToProducer name (message.DataSupplyRequest r)
unfolding acts_in
part_is_strange name r is =
    subst (λ b. AllByRecursion (IsStrangeAct name) (Heard r.consumer_ref r.extensions.subscription (supply_of b r.extensions) ∷ [])) (sym is)
    (whatever (same_name r.consumer_ref name), tt)

pub end_is_not_strange : (name identifier : Name) (r : TerminateSubscriptionRequest) → r.subscription_ref ≡ identifier ∷ []
    → same_name r.subscriber_ref name ≡ true → IsStrangeToProducer name (message.TerminateSubscriptionRequest r) → ⊥
unfolding acts_in
end_is_not_strange name identifier r one mine strange =
    let named : AllByRecursion (IsStrangeAct name) (map (λ i. Heard r.subscriber_ref i (Terminate r.message_identifier)) (identifier ∷ [])) =
    subst (λ l. AllByRecursion (IsStrangeAct name) (map (λ i. Heard r.subscriber_ref i (Terminate r.message_identifier)) l)) one strange in
    subst (λ b. IsIf b ⊥) mine named.0
