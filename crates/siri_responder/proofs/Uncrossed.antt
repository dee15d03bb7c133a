-- In a range that ends where it begins, or before, no item has an edge.
use Rattle.std.proofs.Common.{◌≡◌, ℕ, ℤ, ◌≤ℤ◌, List, [], ◌∷◌, filter, map, fold, Bool, true, false, ◌&&◌, refl, ap, arith}
use Rattle.std.specs.BTreeMap.{insert_entry}
use Rattle.std.specs.List.{list_any}
use Rattle.siri_records.specs.declared.item.Item.{Item}
use Rattle.siri_records.specs.declared.item.Service.{Service}
use Rattle.siri_records.specs.declared.key.Key.{Key}
use Rattle.siri_records.specs.Edges.{has_edge, is_within, edges_of}
use Rattle.siri_records.specs.Keyed.{Items}
use Rattle.siri_store.specs.Crossing.{edge_cmp, under_edge, crossed_entries}
use Rattle.siri_records.specs.Services.{is_of}

none_within : (from to : ℤ) (m : ℕ) → to ≤ℤ from → is_within from to m ≡ false
none_within from to m over = grind arith

none_any : (from to : ℤ) (moments : List ℕ) → to ≤ℤ from → list_any (is_within from to) moments ≡ false
none_any from to [] over = refl
none_any from to (m ∷ moments) over = rw (none_within from to m over) (none_any from to moments over)

off : (b c : Bool) → c ≡ false → (b && c) ≡ false
off true c h = h
off false c h = refl

none_kept : (s : Service) (from to : ℤ) (es : Items) → to ≤ℤ from → filter (λ e. is_of s e.1 && has_edge from to e.1) es ≡ []
none_kept s from to [] over = refl
none_kept s from to (e ∷ es) over =
    rw (off (is_of s e.1) (has_edge from to e.1) (none_any from to (edges_of e.1) over)) (none_kept s from to es over)

pub none_crossed : (s : Service) (from to : ℤ) (es : Items) → to ≤ℤ from → crossed_entries s from to es ≡ []
none_crossed s from to es over =
    ap (λ (kept : Items). map (λ (found : (ℕ × Key) × Item). (found.0.1, found.1))
    (fold (λ (found : List ((ℕ × Key) × Item)) (e : Key × Item). insert_entry edge_cmp found (under_edge from to e) e.1) [] kept))
    (none_kept s from to es over)
