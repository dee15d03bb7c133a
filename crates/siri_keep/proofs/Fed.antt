-- What a feed leaves of the rows of items.
use Rattle.std.proofs.Common.{◌≡◌, ◌⊎◌, ℕ, List, [], ◌∷◌, ◌++◌, map, flat_map, fold, Bool, true, false, cond, ◌||◌, Option, Some, refl, sym, ◌∙◌, subst, inl, inr}
use Rattle.std.specs.List.{AllByRecursion as All, list_any}
use Rattle.std.proofs.lemmas.Bool.{or_parts}
use Rattle.siri_records.specs.declared.item.Item.{Item}
use Rattle.siri_records.specs.declared.item.Service.{Service}
use Rattle.siri_records.specs.declared.item.Service.TheVariants as service
use Rattle.siri_records.specs.declared.key.Key.{Key}
use Rattle.siri_records.specs.Keyed.{InOrder, Items, item_of}
use Rattle.siri_records.specs.Keys.{key_of}
use Rattle.siri_records.proofs.KeyLists.{one_key}
use Rattle.siri_deliveries.specs.Removals.{IsProperRemoval}
use Rattle.siri_deliveries.specs.Deliveries.{IsProperDelivery, IsProperOf}
use Rattle.siri_messages.specs.Rounds.{functional_deliveries}
use Rattle.siri_messages.specs.declared.deliveries.FunctionalDelivery.{FunctionalDelivery}
use Rattle.siri_messages.specs.declared.deliveries.ServiceDelivery.{ServiceDelivery}
use Rattle.siri_messages.specs.declared.message.Message.TheVariants as message
use Rattle.siri_model.specs.Fed.{refuses}
use Rattle.siri_model.specs.History.{Entry, Observed, Withdrawn, after_entry, entries_in, entries_of}
use Rattle.siri_model.specs.Last.{entry_key, is_of, left_by}
use Rattle.siri_model.proofs.Current.{entry_leaves}
use Rattle.siri_model.proofs.InOrder.{in_order_after}
use Rattle.siri_row_texts.specs.ItemRows.{item_text, key_text}
use Rattle.siri_row_texts.specs.Reading.{item_of_row}
use Rattle.siri_row_texts.proofs.Rows.{item_row_read}
use Rattle.siri_wire.specs.laws.ProperMessages.{IsProper as IsProperMessage}
use Rattle.siri_keeping.specs.Keeping.{IsProperKey}
use Rattle.siri_keeping.proofs.ReadProper.{key_is_proper}
use Rattle.siri_keep.specs.Puts.{has_long_row, is_long}
use Rattle.siri_keep.proofs.Messages.{short_at}

-- an item stands under its own key, which is proper, and its row is read back
pub record ReadsItem (e : Key × Item) : Type 0 where
  pub keyed : e.0 ≡ key_of e.1
  pub proper : IsProperKey e.0
  pub read : item_of_row (key_text e.0) (item_text e.1) ≡ Some e.1

-- ---- lists of entries

pub all_appended : {X : Type 0} (P : X → Type 0) (xs ys : List X) → All P xs → All P ys → All P (xs ++ ys)
all_appended P [] ys left right = right
all_appended P (x ∷ xs) ys left right = (left.0, all_appended P xs ys left.1 right)

all_flat : {X Y : Type 0} (P : Y → Type 0) (f : X → List Y) (xs : List X) → All (λ x. All P (f x)) xs → All P (flat_map f xs)
all_flat P f [] all = tt
all_flat P f (x ∷ xs) all = all_appended P (f x) (flat_map f xs) all.0 (all_flat P f xs all.1)

-- ---- the entries of a proper delivery

-- what an entry brings is read back, and its key is proper
abbrev pub ReadsEntry : Entry → Type 0
ReadsEntry (Observed i) = ReadsItem (key_of i, i)
ReadsEntry (Withdrawn k) = IsProperKey k

reads_items : (s : Service) (items : List Item) → All (IsProperOf s) items → list_any (λ i. is_long (item_text i)) items ≡ false
    → All ReadsEntry (map Observed items)
reads_items s [] proper short = tt
reads_items s (i ∷ items) proper short =
    let both = or_parts (is_long (item_text i)) (list_any (λ i. is_long (item_text i)) items) short in (
      record {
        keyed = refl;
        proper = key_is_proper i proper.0.proper;
        read = item_row_read i proper.0.proper (short_at (item_text i) both.0);
      },
      reads_items s items proper.1 both.1,
    )

reads_removals : (s : Service) (keys : List Key) → All (IsProperRemoval s) keys → All ReadsEntry (map Withdrawn keys)
reads_removals s [] proper = tt
reads_removals s (k ∷ keys) proper = ((s, proper.0), reads_removals s keys proper.1)

abbrev delivers_long : List FunctionalDelivery → Bool
delivers_long fs = list_any (λ f. list_any (λ i. is_long (item_text i)) f.items) fs

reads_all : (s : Service) (fs : List FunctionalDelivery) → All (IsProperDelivery s) fs → delivers_long fs ≡ false
    → All (λ f. All ReadsEntry (entries_in f)) fs
reads_all s [] proper short = tt
reads_all s (f ∷ fs) proper short =
    let both = or_parts (list_any (λ i. is_long (item_text i)) f.items) (delivers_long fs) short in (
      all_appended ReadsEntry (map Observed f.items) (map Withdrawn f.removals)
          (reads_items s f.items proper.0.1.1.0.each both.0) (reads_removals s f.removals proper.0.1.1.1.0.each),
      reads_all s fs proper.1 both.1,
    )

long_two : (xs ys : List FunctionalDelivery) → delivers_long (xs ++ ys) ≡ false → (delivers_long xs ≡ false) × (delivers_long ys ≡ false)
long_two [] ys short = (refl, short)
long_two (f ∷ xs) ys short =
    let here = list_any (λ i. is_long (item_text i)) f.items in
    let both = or_parts here (delivers_long (xs ++ ys)) short in
    let rest = long_two xs ys both.1 in
    (short_two here (delivers_long xs) both.0 rest.0, rest.1)
  where
    short_two : (a b : Bool) → a ≡ false → b ≡ false → (a || b) ≡ false
    short_two a b e f = rw (e, f) refl

pub reads_entries : (d : ServiceDelivery) → IsProperMessage (message.ServiceDelivery d) → has_long_row (message.ServiceDelivery d) ≡ false
    → All ReadsEntry (entries_of d)
reads_entries d proper short =
    let stops = d.stop_monitoring_delivery in
    let timetables = d.estimated_timetable_delivery in
    let vehicles = d.vehicle_monitoring_delivery in
    let situations = d.situation_exchange_delivery in
    let one = long_two (stops ++ timetables ++ vehicles) situations short in
    let two = long_two (stops ++ timetables) vehicles one.0 in
    let three = long_two stops timetables two.0 in
    let lists = proper.1.1.1.1.1.1.1 in
    all_flat ReadsEntry entries_in (functional_deliveries d)
    (all_appended (λ f. All ReadsEntry (entries_in f)) (stops ++ timetables ++ vehicles) situations
    (all_appended (λ f. All ReadsEntry (entries_in f)) (stops ++ timetables) vehicles
    (all_appended (λ f. All ReadsEntry (entries_in f)) stops timetables
    (reads_all service.Stop stops lists.0.each three.0)
    (reads_all service.Timetable timetables lists.1.0.each three.1))
    (reads_all service.Vehicle vehicles lists.1.1.0.each two.1))
    (reads_all service.Situation situations lists.1.1.1.0.each one.1))

-- the keys of the entries
pub named_proper : (entries : List Entry) → All ReadsEntry entries → All IsProperKey (map entry_key entries)
named_proper [] all = tt
named_proper (Observed i ∷ entries) all = (all.0.proper, named_proper entries all.1)
named_proper (Withdrawn k ∷ entries) all = (all.0, named_proper entries all.1)

-- ---- what is current after them

-- what is found of a key after an entry was there, or the entry brought it
brought : (now : ℕ) (items : Items) (k : Key) (i : Item) (o : Option Item) (e : Entry) (b c : Bool) → is_of k e ≡ b → refuses now items e ≡ c
    → ReadsEntry e → cond b (cond c o (left_by e)) o ≡ Some i → (o ≡ Some i) ⊎ ReadsItem (k, i)
brought now items k i o e false c is refused reads at = inl at
brought now items k i o e true true is refused reads at = inl at
brought now items k i o (Observed j) true false is refused reads at =
    let same : j ≡ i = cc in
    inr (subst (λ (x : Key × Item). ReadsItem x) (λ n. (sym (one_key k (key_of j) is) n, same n)) reads)
brought now items k i o (Withdrawn j) true false is refused reads at = cc

-- what is found after all of them was there, or is read back
pub found_after : (now : ℕ) (k : Key) (i : Item) (entries : List Entry) (items : Items) → InOrder items → All ReadsEntry entries
    → item_of (fold (after_entry now) items entries) k ≡ Some i → (item_of items k ≡ Some i) ⊎ ReadsItem (k, i)
found_after now k i [] items s all at = inl at
found_after now k i (e ∷ entries) items s all at = elim (found_after now k i entries (after_entry now items e) (in_order_after now items e s) all.1 at) [
  | inl there ↦ brought now items k i (item_of items k) e (is_of k e) (refuses now items e) refl refl all.0 (sym (entry_leaves now items k e s) ∙ there)
  | inr reads ↦ inr reads
]
