-- What a run asks for at first is no more than its consumer may hold.
use Rattle.std.proofs.Common.{◌≡◌, suc, ◌+◌, ◌≤◌, ◌<◌, Bool, true, false, List, [], ◌∷◌, ◌++◌, length, ap, arith, length-append}
use Rattle.std.specs.Prelude.{if◌then◌else◌, map, fold}
use Rattle.std.specs.List.{list_any}
use Rattle.std.proofs.lemmas.List.{length-map}
use Rattle.std.proofs.lemmas.List.Sums.{length-filter, count_by-le-length}
use Rattle.siri_topic.specs.declared.subscription.Subscription.{Subscription}
use Rattle.siri_view.specs.Consuming.{Consuming, asked_for, count_after, is_new, most_held}
use Rattle.siri_view.specs.Sending.{is_identified, own, with_first}
use Rattle.siri_wire.specs.declared.wanted.Wanted.{Wanted}
use Rattle.siri_runs.specs.consumers.Consumption.{subscriptions}
use Rattle.siri_runs.specs.consumers.inner.Steps.{MayAsk}

one_more : (before : List Subscription) (s : Subscription) → length (with_first before s) ≤ suc (length before)
one_more before s = by (list_any (is_identified s.identifier) before)
  where
    by : (has : Bool) → length (if has then before else before ++ s ∷ []) ≤ suc (length before)
    by true = omega arith
    by false = let l = length-append before (s ∷ []) in omega arith

firsts_within : (before list : List Subscription) → length (fold with_first before list) ≤ length before + length list
firsts_within before [] = omega arith
firsts_within before (s ∷ list) =
    let step = one_more before s in
    let rest = firsts_within (with_first before s) list in
    omega arith

-- it doesn't ask for too many
pub none_too_many : (c : Consuming) (list : List Wanted) → MayAsk c list → most_held < count_after c (subscriptions list) → ⊥
none_too_many c list may more =
    let asked = asked_for c (subscriptions list) in
    let new = length-filter (is_new c.held) asked in
    let at_most = count_by-le-length (is_new c.held) asked in
    let firsts = firsts_within [] (map (own c.name) (subscriptions list)) in
    let owned = length-map (subscriptions list) (own c.name) in
    let wanted = length-map list (λ (w : Wanted). w.subscription) in
    let none : length c.held ≡ 0 = ap length may.holds in
    let few = may.few in
    omega arith
