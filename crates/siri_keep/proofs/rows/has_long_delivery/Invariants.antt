use Rattle.std.proofs.Common.{◌≡◌, drop}
use Rattle.std.specs.List.{list_any}
use Rattle.siri_row_texts.specs.ItemRows.{item_text}
use Rattle.siri_keep.specs.Puts.{is_long}
use Rattle.siri_keep.proofs.rows.has_long_delivery.Given as goal

abbrev pub invariant-loop-delivery : goal.invariant-loop-delivery
invariant-loop-delivery l =
    list_any (λ f. list_any (λ i. is_long (item_text i)) f.items) l.fn.deliveries
    ≡ list_any (λ f. list_any (λ i. is_long (item_text i)) f.items) (drop l.delivery-index l.deliveries)
