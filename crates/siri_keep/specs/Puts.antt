-- Which rows a message changes, and whether one would be too long.
use Rattle.std.specs.Prelude.{ℕ, List, length, Bool, true, false, not, nat_lt}
use Rattle.std.specs.List.{list_any}
use Rattle.siri_json.specs.Tree.{longest_document}
use Rattle.siri_messages.specs.Asked.{asked_in}
use Rattle.siri_messages.specs.Rounds.{functional_deliveries, has_round}
use Rattle.siri_messages.specs.declared.message.Message.{Message}
use Rattle.siri_messages.specs.declared.message.Message.TheVariants as message
use Rattle.siri_row_texts.specs.ItemRows.{item_text}
use Rattle.siri_row_texts.specs.SubscriptionRows.{request_text}

-- ---- rows that are too long

-- a row's text isn't read again
abbrev pub is_long : List ℕ → Bool
is_long text = nat_lt longest_document (length text)

-- of a message's items or subscriptions one has a text that is too long
abbrev pub has_long_row : Message → Bool
has_long_row (message.ServiceDelivery d) =
    list_any (λ f. list_any (λ i. is_long (item_text i)) f.items) (functional_deliveries d)
has_long_row (message.SubscriptionRequest r) =
    list_any (λ asked. is_long (request_text asked r.message_identifier)) (asked_in r)
has_long_row other = false

-- ---- messages that change rows

-- a feed, and what is asked about subscriptions but for a part
abbrev pub changes_rows : Message → Bool
changes_rows (message.ServiceDelivery d) = not (has_round d)
changes_rows (message.SubscriptionRequest r) = true
changes_rows (message.TerminateSubscriptionRequest r) = true
changes_rows (message.DataSupplyRequest r) = r.all_data
changes_rows other = false
