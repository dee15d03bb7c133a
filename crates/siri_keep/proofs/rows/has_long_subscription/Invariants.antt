use Rattle.std.proofs.Common.{◌≡◌, drop}
use Rattle.std.specs.List.{list_any}
use Rattle.siri_messages.specs.Asked.{asked_with}
use Rattle.siri_row_texts.specs.SubscriptionRows.{request_text}
use Rattle.siri_keep.specs.Puts.{is_long}
use Rattle.siri_keep.proofs.rows.has_long_subscription.Given as goal

abbrev pub invariant-loop-wanted : goal.invariant-loop-wanted
invariant-loop-wanted l =
    list_any (λ s. is_long (request_text (asked_with l.fn.request s) l.fn.request.message_identifier)) l.fn.list
    ≡ list_any (λ s. is_long (request_text (asked_with l.fn.request s) l.fn.request.message_identifier)) (drop l.wanted-index l.list)
