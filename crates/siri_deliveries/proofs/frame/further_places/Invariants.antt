use Rattle.std.proofs.Common.{◌≡◌, ◌++◌, List, true, length, drop}
use Rattle.std.specs.List.{list_all}
use Rattle.json.specs.Print.{print_from}
use Rattle.json.specs.Token.{Token}
use Rattle.siri_messages.specs.declared.deliveries.ServiceDelivery.{ServiceDelivery}
use Rattle.siri_tables.specs.Appended.{entries_tokens}
use Rattle.siri_deliveries.specs.Frame.{deliveries_of, filled_text, is_of, trees_of}
use Rattle.siri_deliveries.proofs.frame.further_places.Given as goal

abbrev pub invariant-loop-place : goal.invariant-loop-place
invariant-loop-place l =
    ((d : ServiceDelivery) → length (deliveries_of l.service d) ≡ l.count → (us : List Token)
    → filled_text d l.pieces
    ++ print_from true (entries_tokens (trees_of l.service (drop l.place (deliveries_of l.service d))) ++ us)
    ≡ filled_text d l.initial.pieces
    ++ print_from true (entries_tokens (trees_of l.service (drop 1 (deliveries_of l.service d))) ++ us))
    × ((d : ServiceDelivery) → length (deliveries_of l.service d) ≡ l.count → list_all (is_of d) l.initial.pieces ≡ true
    → list_all (is_of d) l.pieces ≡ true)
