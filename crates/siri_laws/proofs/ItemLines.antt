-- The line of an item determines it: its tree is read from the text again, and the item from the tree.
use Rattle.std.proofs.Common.{◌≡◌, ℕ, true, false, List, [], ◌∷◌, bytes_eq, drop, Some, None, refl, sym, ap, ◌∙◌, subst, arith}
use Rattle.std.proofs.lemmas.Option.{none-some, same_Some}
use Rattle.siri_json.specs.Canonical.{as_texts}
use Rattle.siri_json.specs.Tree.{tree_of}
use Rattle.siri_json.specs.Values.{member_of}
use Rattle.siri_json.proofs.Read.{tree_of-compact_text}
use Rattle.siri_records.specs.declared.item.Item.{Item}
use Rattle.siri_records.specs.declared.item.Item.TheVariants as item
use Rattle.siri_tables.specs.Tables.{Table, Maker, AllProper, all_written, read_all}
use Rattle.siri_tables.specs.Writing.{Row, row_object}
use Rattle.siri_tables.proofs.Back.{member_again}
use Rattle.siri_tables.proofs.BackLists.{only_member}
use Rattle.siri_tables.proofs.CanonicalParts.{are_ascii, IsCanonicalWithin, deeper, row_within, object_within, ◌then◌}
use Rattle.siri_tables.proofs.RowSpells.{ok_is}
use Rattle.siri_tables.proofs.TableLaws.{TableLaws, table_within, written_read}
use Rattle.siri_items.specs.Journeys.{journey_table, written_timed_journey}
use Rattle.siri_items.specs.Proper.{IsProper}
use Rattle.siri_items.specs.Situations.{situation_table, written_situation}
use Rattle.siri_items.specs.Vehicles.{vehicle_table, written_vehicle}
use Rattle.siri_items.specs.Visits.{visit_table, written_visit}
use Rattle.siri_items.proofs.ItemTables.{journey_laws, situation_laws, vehicle_laws, visit_laws}
use Rattle.siri_document.specs.script.Items.{item_line, item_members, item_name, item_object, item_text}
use Rattle.siri_document.proofs.ItemTexts.{members_of_journey}

-- ---- what stands in a line

-- all rows of an item, a journey's RecordedAtTime among them
abbrev rows_of : Item → List Row
rows_of (item.Visit v) = all_written visit_table v
rows_of (item.Journey j) = all_written journey_table j
rows_of (item.Vehicle v) = all_written vehicle_table v
rows_of (item.Situation s) = all_written situation_table s

members_are : (i : Item) → item_members i ≡ row_object (rows_of i)
unfolding written_visit written_timed_journey written_vehicle written_situation
members_are (item.Visit v) = refl
members_are (item.Journey j) = sym (members_of_journey j)
members_are (item.Vehicle v) = refl
members_are (item.Situation s) = refl

-- an object with these rows under one name
abbrev under : List ℕ → List Row → List Row
under name rows = (name, Some (row_object rows)) ∷ []

object_is : (i : Item) → item_object i ≡ row_object (under (item_name i) (rows_of i))
unfolding item_object
object_is i = ap (λ members. row_object ((item_name i, Some members) ∷ [])) (members_are i)

-- ---- its tree is read again

rows_within : (i : Item) → IsProper i → IsCanonicalWithin 7 (row_object (rows_of i))
rows_within (item.Visit v) p = deeper 3 7 (Some (row_object (all_written visit_table v))) (omega arith) (table_within visit_laws v p)
rows_within (item.Journey j) p = deeper 4 7 (Some (row_object (all_written journey_table j))) (omega arith) (table_within journey_laws j p.0)
rows_within (item.Vehicle v) p = deeper 3 7 (Some (row_object (all_written vehicle_table v))) (omega arith) (table_within vehicle_laws v p)
rows_within (item.Situation s) p = table_within situation_laws s p

ascii_name : (i : Item) → are_ascii (item_name i) ≡ true
ascii_name (item.Visit v) = refl
ascii_name (item.Journey j) = refl
ascii_name (item.Vehicle v) = refl
ascii_name (item.Situation s) = refl

object_canonical : (i : Item) → IsProper i → IsCanonicalWithin 8 (item_object i)
object_canonical i p =
    subst (IsCanonicalWithin 8) (sym (object_is i))
    (object_within 7 (under (item_name i) (rows_of i))
    (row_within 7 (item_name i) _ (ascii_name i) (rows_within i p) then tt))

text_read : (i : Item) → IsProper i → tree_of (item_text i) ≡ Some (as_texts (item_object i))
unfolding item_text
text_read i p = let is = object_canonical i p in tree_of-compact_text (item_object i) is.canonical (omega (arith, is.shallow))

-- ---- and the item from the tree

same_rows : {S : Type 0} {most : ℕ} {t : Table S} {make : Maker t} → TableLaws most t make → (a b : S) → AllProper t a
    → AllProper t b → as_texts (row_object (all_written t a)) ≡ as_texts (row_object (all_written t b)) → a ≡ b
same_rows {t = t} {make = make} laws a b p q e = ok_is a b (sym (written_read laws a p) ∙ ap (read_all t make) e ∙ written_read laws b q)

-- objects that hold rows under one name
same_under : (name : List ℕ) (rs qs : List Row) → as_texts (row_object (under name rs)) ≡ as_texts
    (row_object (under name qs)) → as_texts (row_object rs) ≡ as_texts (row_object qs)
same_under name rs qs e = same_Some _ _ (sym (only_member name (Some (row_object rs))) ∙ ap (member_of name) e ∙ only_member name (Some (row_object qs)))

-- and under two
apart : (name other : List ℕ) (rs qs : List Row) → bytes_eq name other ≡ false
    → as_texts (row_object (under name rs)) ≡ as_texts (row_object (under other qs)) → ⊥
apart name other rs qs differ e =
    none-some _ (sym (member_again name (under other qs) None (rw differ refl)) ∙ ap (member_of name) (sym e) ∙ only_member name (Some (row_object rs)))

same_items : (a b : Item) → IsProper a → IsProper b → as_texts (row_object (under (item_name a) (rows_of a))) ≡ as_texts
    (row_object (under (item_name b) (rows_of b))) → a ≡ b
same_items (item.Visit v) (item.Visit w) p q e = ap item.Visit
    (same_rows visit_laws v w p q (same_under (item_name (item.Visit v)) (rows_of (item.Visit v))
    (rows_of (item.Visit w)) e))
same_items (item.Journey j) (item.Journey k) p q e = ap item.Journey
    (same_rows journey_laws j k p.0 q.0 (same_under (item_name (item.Journey j)) (rows_of (item.Journey j))
    (rows_of (item.Journey k)) e))
same_items (item.Vehicle v) (item.Vehicle w) p q e = ap item.Vehicle
    (same_rows vehicle_laws v w p q (same_under (item_name (item.Vehicle v)) (rows_of (item.Vehicle v))
    (rows_of (item.Vehicle w)) e))
same_items (item.Situation s) (item.Situation t) p q e =
    ap item.Situation (same_rows situation_laws s t p q
    (same_under (item_name (item.Situation s)) (rows_of (item.Situation s)) (rows_of (item.Situation t)) e))
same_items (item.Visit v) b p q e = absurd (apart (item_name (item.Visit v)) (item_name b) (rows_of (item.Visit v)) (rows_of b) refl e)
same_items (item.Journey j) b p q e = absurd (apart (item_name (item.Journey j)) (item_name b) (rows_of (item.Journey j)) (rows_of b) refl e)
same_items (item.Vehicle v) b p q e = absurd (apart (item_name (item.Vehicle v)) (item_name b) (rows_of (item.Vehicle v)) (rows_of b) refl e)
same_items (item.Situation s) b p q e = absurd (apart (item_name (item.Situation s)) (item_name b) (rows_of (item.Situation s)) (rows_of b) refl e)

-- two proper items that have the same line are equal
pub same_lines : (a b : Item) → IsProper a → IsProper b → item_line a ≡ item_line b → a ≡ b
same_lines a b p q e =
    let texts : item_text a ≡ item_text b = ap (drop 5) e in
    let trees : as_texts (item_object a) ≡ as_texts (item_object b) = same_Some _ _ (sym (text_read a p) ∙ ap tree_of texts ∙ text_read b q) in
    same_items a b p q (ap as_texts (sym (object_is a)) ∙ trees ∙ ap as_texts (object_is b))
