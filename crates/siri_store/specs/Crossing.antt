-- Which held items have an edge in a range, by the first such edge.
use Rattle.std.specs.Prelude.{ℕ, ℤ, List, [], map, filter, fold, Option, Some, ◌&&◌}
use Rattle.std.specs.BTreeMap.{insert_entry}
use Rattle.std.specs.Map.{values_of}
use Rattle.std.specs.Option.{option_map_or}
use Rattle.std.specs.Ordering.{nat_cmp, on, then_cmp}
use Rattle.std.specs.declared.cmp.Ordering.{Ordering}
use Rattle.siri_records.specs.declared.item.Item.{Item}
use Rattle.siri_records.specs.declared.item.Service.{Service}
use Rattle.siri_records.specs.declared.key.Key.{Key}
use Rattle.siri_records.specs.Edges.{edges_of, is_within, has_edge}
use Rattle.siri_records.specs.Ends.{least}
use Rattle.siri_records.specs.Keyed.{Items}
use Rattle.siri_records.specs.Order.{key_cmp}
use Rattle.siri_records.specs.Services.{is_of}

-- the least edge of an item in a range, where it has one
abbrev pub least_edge : ℤ → ℤ → Item → Option ℕ
least_edge from to i = least (map Some (filter (is_within from to) (edges_of i)))

-- an edge and a key, by the edge and then by the key
abbrev pub edge_cmp : ℕ × Key → ℕ × Key → Ordering
edge_cmp = then_cmp (on (λ place. place.0) nat_cmp) (on (λ place. place.1) key_cmp)

-- the least edge of an entry's item in a range, and the entry's key
abbrev pub under_edge : ℤ → ℤ → Key × Item → ℕ × Key
under_edge from to e = (option_map_or (λ edge. edge) (least_edge from to e.1) 0, e.0)

-- the items of a service that have an edge in a range, in order of the least such edge and then of key
abbrev pub in_order_of_edges : Service → ℤ → ℤ → Items → List ((ℕ × Key) × Item)
in_order_of_edges s from to es =
    fold (λ found e. insert_entry edge_cmp found (under_edge from to e) e.1) []
    (filter (λ e. is_of s e.1 && has_edge from to e.1) es)

-- the same as entries, each once
abbrev pub crossed_entries : Service → ℤ → ℤ → Items → Items
crossed_entries s from to es = map (λ found. (found.0.1, found.1)) (in_order_of_edges s from to es)

-- the items alone
abbrev pub crossed_of : Service → ℤ → ℤ → Items → List Item
crossed_of s from to es = values_of (crossed_entries s from to es)
