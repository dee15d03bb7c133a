-- Whether a request asks for something whose row is too long.
use Rattle.std.proofs.Common.{◌≡◌, List, [], ◌∷◌, ◌++◌, map, Bool, true, false, refl, ap, sym, ◌∙◌}
use Rattle.std.specs.Prelude.{◌||◌}
use Rattle.std.specs.List.{list_any}
use Rattle.std.proofs.lemmas.List.Folds.{list_any-append}
use Rattle.siri_topic.specs.declared.subscription.Subscription.{Subscription}
use Rattle.siri_messages.specs.Asked.{asked_with, subscriptions_in}
use Rattle.siri_messages.specs.declared.message.Message.TheVariants as message
use Rattle.siri_messages.specs.declared.subscriptions.SubscriptionRequest.{SubscriptionRequest}
use Rattle.siri_row_texts.specs.SubscriptionRows.{request_text}
use Rattle.siri_keep.specs.Puts.{has_long_row, is_long}

-- a test of what elements are mapped to
any_of_map : {X Y : Type 0} (test : Y → Bool) (image : X → Y) (list : List X)
    → list_any test (map image list) ≡ list_any (λ x. test (image x)) list
any_of_map test image [] = refl
any_of_map test image (x ∷ list) = ap (λ rest. test (image x) || rest) (any_of_map test image list)

-- one of these subscriptions is
abbrev pub any_long : SubscriptionRequest → List Subscription → Bool
any_long r list = list_any (λ s. is_long (request_text (asked_with r s) r.message_identifier)) list

pub asks_each : (r : SubscriptionRequest) → (((any_long r r.stop_monitoring_subscription_request
    || any_long r r.estimated_timetable_subscription_request) || any_long r r.vehicle_monitoring_subscription_request)
    || any_long r r.situation_exchange_subscription_request) ≡ has_long_row (message.SubscriptionRequest r)
asks_each r =
    let a = r.stop_monitoring_subscription_request in
    let b = r.estimated_timetable_subscription_request in
    let c = r.vehicle_monitoring_subscription_request in
    let d = r.situation_exchange_subscription_request in
    let test = λ (s : Subscription). is_long (request_text (asked_with r s) r.message_identifier) in
    sym (any_of_map (λ asked. is_long (request_text asked r.message_identifier)) (asked_with r) (subscriptions_in r)
    ∙ list_any-append test (a ++ b ++ c) d
    ∙ ap (λ x. x || list_any test d) (list_any-append test (a ++ b) c ∙ ap (λ x. x || list_any test c) (list_any-append test a b)))

-- what is answered where the first is, and where it isn't
pub or_first : (v x y : Bool) → x ≡ true → v ≡ true → v ≡ (x || y)
or_first v x y first is = rw (first, is) refl

pub or_later : (v w x y : Bool) → x ≡ false → v ≡ w → w ≡ y → v ≡ (x || y)
or_later v w x y first is then = rw first (is ∙ then)
