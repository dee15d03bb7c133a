-- The pieces of a frame, filled with the texts of functional deliveries, are the text of the whole.
use Rattle.std.proofs.lemmas.Bool.{lt-ltb}
use Rattle.std.proofs.lemmas.List.Folds.{list_all-append}
use Rattle.std.proofs.Common.{◌≡◌, ◌&&◌, ◌<◌, ℕ, zero, suc, true, false, List, [], ◌∷◌, ◌++◌, Option, Some}
use Rattle.std.proofs.Common.{refl, sym, ap, ◌∙◌, append_assoc, append-nil, length, map, filter_map, drop, subst}
use Rattle.std.proofs.Common.{arith}
use Rattle.std.specs.Prelude.{slice_get}
use Rattle.std.specs.List.{list_all}
use Rattle.json.specs.Token.{Token, key, begin_array, end_array}
use Rattle.json.specs.Print.{print, print_from}
use Rattle.json.proofs.Printed.Tokens.{print_from-append, ends_push}
use Rattle.serde_json.proofs.Texts.{print-outline}
use Rattle.serde_json.specs.Data.{Data}
use Rattle.siri_json.specs.Tokens.{tokens_of}
use Rattle.siri_records.specs.declared.item.Service.{Service}
use Rattle.siri_messages.specs.declared.deliveries.FunctionalDelivery.{FunctionalDelivery}
use Rattle.siri_messages.specs.declared.deliveries.ServiceDelivery.{ServiceDelivery}
use Rattle.siri_tables.specs.Appended.{row_tokens, entries_tokens}
use Rattle.siri_tables.specs.Writing.{array_unless_empty, written_list}
use Rattle.siri_records.specs.declared.item.Service.TheVariants as service
use Rattle.siri_deliveries.specs.Deliveries.{written_stop_delivery, written_timetable_delivery}
use Rattle.siri_deliveries.specs.Deliveries.{written_vehicle_delivery, written_situation_delivery}
use Rattle.siri_deliveries.specs.Pieces.{delivery_text, delivery_tree}
use Rattle.siri_deliveries.specs.Frame.{GoesOn, deliveries_of, filled, filled_text, trees_of, is_of, without_entries}
use Rattle.siri_deliveries.specs.Frame.{without_own_entries}
use Rattle.siri_deliveries.specs.declared.frame.FramePiece.{FramePiece}
use Rattle.siri_deliveries.specs.declared.frame.FramePiece.TheVariants as piece
use Rattle.siri_deliveries.proofs.Joined.{cut_behind, cut_later, ends_list}
use Rattle.siri_deliveries.proofs.Layouts.{list_row}

pub filled_push : (d : ServiceDelivery) (ps : List FramePiece) (p : FramePiece)
    → filled_text d (ps ++ p ∷ []) ≡ filled_text d ps ++ filled d p
filled_push d [] p = append-nil (filled d p)
filled_push d (q ∷ ps) p = ap (λ t. filled d q ++ t) (filled_push d ps p)
    ∙ sym (append_assoc (filled d q) (filled_text d ps) (filled d p))

pub there_push : (d : ServiceDelivery) (ps : List FramePiece) (p : FramePiece) → list_all (is_of d) ps ≡ true
    → is_of d p ≡ true
    → list_all (is_of d) (ps ++ p ∷ []) ≡ true
there_push d ps p all is = list_all-append (is_of d) ps (p ∷ []) ∙ (λ i. all i && (is i && true))

pub place_there : (d : ServiceDelivery) (s : Service) (place : ℕ) → place < length (deliveries_of s d)
    → is_of d (piece.Delivery s place) ≡ true
place_there d s place within = lt-ltb place (length (deliveries_of s d)) within

-- the delivery at a place
pub record At (s : Service) (ds : List FunctionalDelivery) (place : ℕ) : Type 0 where
  pub delivery : FunctionalDelivery
  pub found : slice_get ds place ≡ Some delivery
  pub more : drop place ds ≡ delivery ∷ drop (suc place) ds

at_place : (s : Service) (ds : List FunctionalDelivery) (place : ℕ) → place < length ds → At s ds place
at_place s [] place within = absurd (omega arith)
at_place s (x ∷ ds) zero within = record { delivery = x; found = refl; more = refl }
at_place s (x ∷ ds) (suc place) within =
    let a = at_place s ds place (omega arith) in
    record { delivery = a.delivery; found = a.found; more = a.more }

tree_text : (s : Service) (x : FunctionalDelivery) → print (tokens_of (delivery_tree s x)) ≡ delivery_text s x
unfolding delivery_text
tree_text s x = print-outline (delivery_tree s x)

-- ---- a row of deliveries

abbrev pub rest_of : Service → ServiceDelivery → ℕ → List Token → List ℕ
rest_of s d place later = print_from true (entries_tokens (trees_of s (drop place (deliveries_of s d))) ++ later)

regroup_place : (a t x r : List ℕ) → ((a ++ t) ++ x) ++ r ≡ a ++ ((t ++ x) ++ r)
regroup_place a t x r = simp append_assoc

-- a further delivery behind its comma
pub place_further : (d : ServiceDelivery) (s : Service) (ps : List FramePiece) (place : ℕ)
    → place < length (deliveries_of s d) → (later : List Token)
    → filled_text d ((ps ++ piece.Text (44 ∷ []) ∷ []) ++ piece.Delivery s place ∷ [])
    ++ rest_of s d (suc place) later ≡ filled_text d ps ++ rest_of s d place later
place_further d s ps place within later =
    let a = at_place s (deliveries_of s d) place within in
    let x = a.delivery in
    let ds = trees_of s (drop (suc place) (deliveries_of s d)) in
    let there : filled d (piece.Delivery s place) ≡ delivery_text s x = rw a.found refl in
    let text = filled_push d (ps ++ piece.Text (44 ∷ []) ∷ []) (piece.Delivery s place)
    ∙ (λ i. filled_push d ps (piece.Text (44 ∷ [])) i ++ there i) in
    let rest : rest_of s d place later ≡ (44 ∷ delivery_text s x) ++ rest_of s d (suc place) later =
    ap (λ all. print_from true (entries_tokens (trees_of s all) ++ later)) a.more
    ∙ ap (print_from true) (append_assoc (tokens_of (delivery_tree s x)) (entries_tokens ds) later)
    ∙ cut_later (delivery_tree s x) (entries_tokens ds ++ later)
    ∙ ap (λ t. (44 ∷ t) ++ rest_of s d (suc place) later) (tree_text s x) in
    ap (λ t. t ++ rest_of s d (suc place) later) text
    ∙ regroup_place (filled_text d ps) (44 ∷ []) (delivery_text s x) (rest_of s d (suc place) later)
    ∙ ap (λ t. filled_text d ps ++ t) (sym rest)

-- what was written up to the first delivery of a row
abbrev begun : List ℕ → List Token → List Token
begun name out = (out ++ key name ∷ []) ++ begin_array ∷ []

regroup_row : (ts a b later : List Token) (k begin end : Token)
    → (ts ++ k ∷ begin ∷ ((a ++ b) ++ end ∷ [])) ++ later ≡ ts ++ k ∷ begin ∷ (a ++ (b ++ end ∷ later))
regroup_row ts a b later k begin end = simp append_assoc

regroup_out : (out a rest : List Token) (k begin : Token)
    → out ++ k ∷ begin ∷ (a ++ rest) ≡ (((out ++ k ∷ []) ++ begin ∷ []) ++ a) ++ rest
regroup_out out a rest k begin = simp append_assoc

-- a row that has deliveries
pub row_framed : (d : ServiceDelivery) (s : Service) (name : List ℕ) (ps all : List FramePiece) (out ts : List Token)
    → 0 < length (deliveries_of s d) → GoesOn d ps out ts
    → ((later : List Token) → filled_text d all ++ print_from true later
    ≡ filled_text d
    ((ps ++ piece.Text (print ((out ++ key name ∷ []) ++ begin_array ∷ [])) ∷ []) ++ piece.Delivery s 0 ∷ [])
    ++ print_from true (entries_tokens (trees_of s (drop 1 (deliveries_of s d))) ++ later))
    → GoesOn d all ([] ++ end_array ∷ []) (ts ++ row_tokens name (array_unless_empty (trees_of s (deliveries_of s d))))
row_framed d s name ps all out ts some goes more later =
    let a = at_place s (deliveries_of s d) 0 some in
    let x = a.delivery in
    let tree = delivery_tree s x in
    let ds = trees_of s (drop 1 (deliveries_of s d)) in
    let behind = entries_tokens ds ++ end_array ∷ later in
    let there : filled d (piece.Delivery s 0) ≡ delivery_text s x = rw a.found refl in
    let texts = filled_push d (ps ++ piece.Text (print (begun name out)) ∷ []) (piece.Delivery s 0)
    ∙ (λ i. filled_push d ps (piece.Text (print (begun name out))) i ++ there i) in
    let opened : print (begun name out ++ tokens_of tree) ≡ print (begun name out) ++ delivery_text s x =
    print_from-append false (begun name out) (tokens_of tree)
    ∙ ap (λ c. print (begun name out) ++ print_from c (tokens_of tree))
    (ends_push false (out ++ key name ∷ []) begin_array)
    ∙ ap (λ t. print (begun name out) ++ t) (tree_text s x) in
    let written : print (out ++ key name ∷ begin_array ∷ (tokens_of tree ++ behind))
    ≡ (print (begun name out) ++ delivery_text s x) ++ print_from true behind =
    ap print (regroup_out out (tokens_of tree) behind (key name) begin_array)
    ∙ cut_behind false (begun name out) tree behind
    ∙ ap (λ t. t ++ print_from true behind) opened in
    let row : row_tokens name (array_unless_empty (trees_of s (deliveries_of s d)))
    ≡ key name ∷ begin_array ∷ ((tokens_of tree ++ entries_tokens ds) ++ end_array ∷ []) =
    ap (λ all. row_tokens name (array_unless_empty (trees_of s all))) a.more ∙ list_row name (tree ∷ ds) in
    ap (λ t. filled_text d all ++ t) (sym (ends_list true later)) ∙ more (end_array ∷ later)
    ∙ ap (λ t. t ++ print_from true behind) texts
    ∙ regroup_place (filled_text d ps) (print (begun name out)) (delivery_text s x) (print_from true behind)
    ∙ ap (λ t. filled_text d ps ++ t) (sym written)
    ∙ goes (key name ∷ begin_array ∷ (tokens_of tree ++ behind))
    ∙ ap print
    (sym (ap (λ r. (ts ++ r) ++ later) row
    ∙ regroup_row ts (tokens_of tree) (entries_tokens ds) later (key name) begin_array end_array))

empty_from : (ds : List FunctionalDelivery) → length ds ≡ 0 → ds ≡ []
empty_from [] none = refl
empty_from (x ∷ ds) none = absurd (omega arith)

-- one that has none
pub no_row : (d : ServiceDelivery) (s : Service) (name : List ℕ) (ps : List FramePiece) (out ts : List Token)
    → length (deliveries_of s d) ≡ 0 → GoesOn d ps out ts
    → GoesOn d ps out (ts ++ row_tokens name (array_unless_empty (trees_of s (deliveries_of s d))))
no_row d s name ps out ts none goes later = rw (empty_from (deliveries_of s d) none)
    (goes later ∙ ap (λ t. print (t ++ later)) (sym (append-nil ts)))

-- a row of another kind
pub row_goes_on : (d : ServiceDelivery) (ps : List FramePiece) (out ts row : List Token) → GoesOn d ps out ts
    → GoesOn d ps (out ++ row) (ts ++ row)
row_goes_on d ps out ts row goes later =
    ap (λ t. filled_text d ps ++ print t) (append_assoc out row later) ∙ goes (row ++ later)
    ∙ ap print (sym (append_assoc ts row later))

-- the same, where the row is that of the delivery
pub row_on : (d : ServiceDelivery) (ps : List FramePiece) (out new ts row own : List Token) → new ≡ out ++ row
    → row ≡ own
    → GoesOn d ps out ts → GoesOn d ps new (ts ++ own)
row_on d ps out new ts row own is same goes =
    subst (λ (o : List Token). GoesOn d ps o (ts ++ own)) (sym (is ∙ ap (λ r. out ++ r) same))
    (row_goes_on d ps out ts own goes)

all_written_as : (w : FunctionalDelivery → Option Data) (tree : FunctionalDelivery → Data)
    → ((x : FunctionalDelivery) → w x ≡ Some (tree x))
    → (ds : List FunctionalDelivery) → filter_map w ds ≡ map tree ds
all_written_as w tree is [] = refl
all_written_as w tree is (x ∷ ds) = rw (is x, all_written_as w tree is ds)

list_of_trees : (w : FunctionalDelivery → Option Data) (s : Service)
    → ((x : FunctionalDelivery) → w x ≡ Some (delivery_tree s x))
    → (name : List ℕ) (ds : List FunctionalDelivery)
    → row_tokens name (array_unless_empty (trees_of s ds)) ≡ row_tokens name (written_list w ds)
unfolding written_list
list_of_trees w s is name ds = ap (λ xs. row_tokens name (array_unless_empty xs))
    (sym (all_written_as w (delivery_tree s) is ds))

stop_is : (x : FunctionalDelivery) → written_stop_delivery x ≡ Some (delivery_tree service.Stop x)
unfolding written_stop_delivery
stop_is x = refl

timetable_is : (x : FunctionalDelivery) → written_timetable_delivery x ≡ Some (delivery_tree service.Timetable x)
unfolding written_timetable_delivery
timetable_is x = refl

vehicle_is : (x : FunctionalDelivery) → written_vehicle_delivery x ≡ Some (delivery_tree service.Vehicle x)
unfolding written_vehicle_delivery
vehicle_is x = refl

situation_is : (x : FunctionalDelivery) → written_situation_delivery x ≡ Some (delivery_tree service.Situation x)
unfolding written_situation_delivery
situation_is x = refl

pub stop_trees : (name : List ℕ) (ds : List FunctionalDelivery)
    → row_tokens name (array_unless_empty (trees_of service.Stop ds))
    ≡ row_tokens name (written_list written_stop_delivery ds)
stop_trees name ds = list_of_trees written_stop_delivery service.Stop stop_is name ds

pub timetable_trees : (name : List ℕ) (ds : List FunctionalDelivery)
    → row_tokens name (array_unless_empty (trees_of service.Timetable ds))
    ≡ row_tokens name (written_list written_timetable_delivery ds)
timetable_trees name ds = list_of_trees written_timetable_delivery service.Timetable timetable_is name ds

pub vehicle_trees : (name : List ℕ) (ds : List FunctionalDelivery)
    → row_tokens name (array_unless_empty (trees_of service.Vehicle ds))
    ≡ row_tokens name (written_list written_vehicle_delivery ds)
vehicle_trees name ds = list_of_trees written_vehicle_delivery service.Vehicle vehicle_is name ds

pub situation_trees : (name : List ℕ) (ds : List FunctionalDelivery)
    → row_tokens name (array_unless_empty (trees_of service.Situation ds))
    ≡ row_tokens name (written_list written_situation_delivery ds)
situation_trees name ds = list_of_trees written_situation_delivery service.Situation situation_is name ds

-- a row in another form
pub row_as : (d : ServiceDelivery) (ps : List FramePiece) (out ts row own : List Token) → row ≡ own
    → GoesOn d ps out (ts ++ row) → GoesOn d ps out (ts ++ own)
row_as d ps out ts row own is goes = subst (λ (r : List Token). GoesOn d ps out (ts ++ r)) is goes

-- a row that has deliveries, by the steps in which it is written
pub row_in_steps : (d : ServiceDelivery) (s : Service) (name : List ℕ) (ps cut first all : List FramePiece)
    (out named begun fresh ended ts : List Token)
    → named ≡ out ++ key name ∷ [] → begun ≡ named ++ begin_array ∷ [] → cut ≡ ps ++ piece.Text (print begun) ∷ []
    → fresh ≡ []
    → first ≡ cut ++ piece.Delivery s 0 ∷ [] → ended ≡ fresh ++ end_array ∷ [] → 0 < length (deliveries_of s d)
    → ((later : List Token) → filled_text d all ++ print_from true later
    ≡ filled_text d first ++ print_from true (entries_tokens (trees_of s (drop 1 (deliveries_of s d))) ++ later))
    → GoesOn d ps out ts
    → GoesOn d all ended (ts ++ row_tokens name (array_unless_empty (trees_of s (deliveries_of s d))))
row_in_steps d s name ps cut first all out named begun fresh ended ts is_named is_begun is_cut is_fresh is_first
    is_ended some more goes =
    let whole : begun ≡ (out ++ key name ∷ []) ++ begin_array ∷ [] = is_begun
    ∙ ap (λ (o : List Token). o ++ begin_array ∷ []) is_named in
    let pieces : first ≡ (ps ++ piece.Text (print ((out ++ key name ∷ []) ++ begin_array ∷ [])) ∷ [])
    ++ piece.Delivery s 0 ∷ [] =
    is_first ∙ ap (λ (p : List FramePiece). p ++ piece.Delivery s 0 ∷ [])
    (is_cut ∙ ap (λ (o : List Token). ps ++ piece.Text (print o) ∷ []) whole) in
    let end : ended ≡ [] ++ end_array ∷ [] = is_ended ∙ ap (λ (o : List Token). o ++ end_array ∷ []) is_fresh in
    let framed = row_framed d s name ps all out ts some goes (λ later. more later
    ∙ ap (λ (p : List FramePiece). filled_text d p
    ++ print_from true (entries_tokens (trees_of s (drop 1 (deliveries_of s d))) ++ later)) pieces) in
    subst (λ (o : List Token). GoesOn d all o
    (ts ++ row_tokens name (array_unless_empty (trees_of s (deliveries_of s d))))) (sym end) framed

-- ---- a head

bare_again : (ds : List FunctionalDelivery)
    → map without_own_entries (map without_own_entries ds) ≡ map without_own_entries ds
bare_again [] = refl
bare_again (x ∷ ds) = ap (λ rest. without_own_entries x ∷ rest) (bare_again ds)

-- where the head has no entries itself
pub of_bare_head : (d head : ServiceDelivery) → without_entries d ≡ head → without_entries d ≡ without_entries head
of_bare_head d head same = (λ i. record d {
  stop_monitoring_delivery = sym (bare_again d.stop_monitoring_delivery) i;
  estimated_timetable_delivery = sym (bare_again d.estimated_timetable_delivery) i;
  vehicle_monitoring_delivery = sym (bare_again d.vehicle_monitoring_delivery) i;
  situation_exchange_delivery = sym (bare_again d.situation_exchange_delivery) i;
}) ∙ ap without_entries same
