use Rattle.std.proofs.Common.{◌≡◌, drop}
use Rattle.std.specs.List.{list_any}
use Rattle.siri_row_texts.specs.ItemRows.{item_text}
use Rattle.siri_keep.specs.Puts.{is_long}
use Rattle.siri_keep.proofs.rows.has_long_item.Given as goal

abbrev pub invariant-loop-item : goal.invariant-loop-item
invariant-loop-item l =
    list_any (λ i. is_long (item_text i)) l.fn.items ≡ list_any (λ i. is_long (item_text i)) (drop l.item-index l.items)
