use Rattle.std.proofs.Common.{◌≡◌, Some, drop}
use Rattle.std.specs.List.{list_any}
use Rattle.siri_keeping.specs.Opening.{are_same, subscription_in}
use Rattle.siri_keep.proofs.kept_requests.are_of.Given as goal

abbrev pub invariant-loop-kept : goal.invariant-loop-kept
invariant-loop-kept l =
    list_any (λ kept. are_same (subscription_in kept.request) (Some l.wanted)) (drop l.kept-index l.requests)
    ≡ list_any (λ kept. are_same (subscription_in kept.request) (Some l.wanted)) l.fn.requests
