-- What stays of the held items and of the marked keys where a dead item leaves.
use Rattle.std.proofs.Common.{◌≡◌, ℕ, ◌+◌, ◌≤◌, List, [], ◌∷◌, ◌++◌, length, map, filter, not, Bool, true, false, ◌||◌, cond, Option, Some, None, is_some}
use Rattle.std.proofs.Common.{refl, ap, sym, ◌∙◌, arith}
use Rattle.std.specs.BTreeSet.{insert_key}
use Rattle.std.specs.Cmp.{eq_by_cmp_equiv}
use Rattle.std.specs.List.{AllByRecursion, Contains}
use Rattle.std.specs.Map.{keys_of, values_of}
use Rattle.std.proofs.lemmas.List.Elements.{recursion_from_All}
use Rattle.std.proofs.lemmas.Map.Keys.{IsDistinct-from_sorted}
use Rattle.std.proofs.lemmas.Map.Views.{lookup-from_Contains}
use Rattle.siri_records.specs.declared.item.Item.{Item}
use Rattle.siri_records.specs.declared.key.Key.{Key}
use Rattle.siri_records.specs.Ends.{is_dead}
use Rattle.siri_records.specs.Keyed.{Items, InOrder, item_of, without_key, dead_of, living}
use Rattle.siri_records.specs.KeyLists.{KeysInOrder, is_among, with_keys}
use Rattle.siri_records.specs.Order.{key_cmp, key_cmp_total}
use Rattle.siri_records.proofs.ItemsPassing.{kept_if, item_kept}
use Rattle.siri_records.proofs.KeyLists.{tied, one_key, same_with, among_keys, order_in_order}
use Rattle.siri_records.proofs.Order.{key_cmp_exact}
use Rattle.siri_store.specs.Marked.{Marked, is_since, keys_since}
use Rattle.siri_store.proofs.Touching.{marks_touch}
use Rattle.siri_model.proofs.Current.{lookup_removed}
use Rattle.siri_model.proofs.Entries.{passing_removed, sorted_passing, sorted_removed}
use Rattle.siri_store.specs.Held.{Held}
use Rattle.siri_store.specs.Calls.{NoneDead, IsNextToLeave, without}
use Rattle.siri_responder.specs.declared.feeding.Feeding.{Feeding}
use Rattle.siri_responder.specs.Feeding.{AreMarked, HasRoom}

-- ---- an item that passes, and one that doesn't

not_both_case : (p : Item → Bool) (i : Item) (b : Bool) → p i ≡ b → is_some (kept_if p (Some i)) ≡ true → kept_if (λ i. not (p i)) (Some i) ≡ None
not_both_case p i true h some = rw h refl
not_both_case p i false h some = absurd (cc (sym (ap (λ c. is_some (cond c (Some i) None)) h) ∙ some))

not_both : (p : Item → Bool) (held : Option Item) → is_some (kept_if p held) ≡ true → kept_if (λ i. not (p i)) held ≡ None
not_both p None some = refl
not_both p (Some i) some = not_both_case p i (p i) refl some

some_kept : (p : Item → Bool) (held : Option Item) → is_some (kept_if p held) ≡ true → is_some held ≡ true
some_kept p None some = some
some_kept p (Some i) some = refl

-- ---- without a key

absent_case : (k : Key) (e : Key × Item) (es : Items) (t : Bool) → tied k e.0 ≡ t → item_of (e ∷ es) k ≡ None
    → (item_of es k ≡ None → without_key es k ≡ es) → without_key (e ∷ es) k ≡ e ∷ es
absent_case k e es true h none rest = absurd (cc (sym (ap (λ c. is_some (cond c (Some e.1) (item_of es k))) h) ∙ ap is_some none))
absent_case k e es false h none rest =
    let later : item_of es k ≡ None = sym (ap (λ c. cond c (Some e.1) (item_of es k)) h) ∙ none in
    rw h (ap (λ l. e ∷ l) (rest later))

absent : (k : Key) (es : Items) → item_of es k ≡ None → without_key es k ≡ es
absent k [] none = refl
absent k (e ∷ es) none = absent_case k e es (tied k e.0) refl none (absent k es)

fewer_case : (k : Key) (e : Key × Item) (es : Items) (t : Bool) → tied k e.0 ≡ t → is_some (item_of (e ∷ es) k) ≡ true
    → (is_some (item_of es k) ≡ true → length (without_key es k) + 1 ≡ length es) → length (without_key (e ∷ es) k) + 1 ≡ length (e ∷ es)
fewer_case k e es true h some rest = rw h (omega arith)
fewer_case k e es false h some rest =
    let later = rest (sym (ap (λ c. is_some (cond c (Some e.1) (item_of es k))) h) ∙ some) in
    rw h (omega (arith, later))

fewer : (k : Key) (es : Items) → is_some (item_of es k) ≡ true → length (without_key es k) + 1 ≡ length es
fewer k [] some = absurd (cc some)
fewer k (e ∷ es) some = fewer_case k e es (tied k e.0) refl some (fewer k es)

-- ---- where a dead item leaves

module _ (moment : ℕ) (es : Items) (k : Key) (ordered : InOrder es) (dead : is_some (item_of (dead_of moment es) k) ≡ true) where
  -- the same are alive
  pub same_living : living moment (without_key es k) ≡ living moment es
  same_living =
      let gone = not_both (λ i. is_dead i moment) (item_of es k) (sym (ap is_some (item_kept (λ i. is_dead i moment) k es ordered)) ∙ dead) in
      passing_removed key_cmp_total (λ (i : Item). not (is_dead i moment)) k es ordered
      ∙ absent k (living moment es) (item_kept (λ i. not (is_dead i moment)) k es ordered ∙ gone)

  -- the others that are dead are still
  dead_without : dead_of moment (without_key es k) ≡ without_key (dead_of moment es) k
  dead_without = passing_removed key_cmp_total (λ (i : Item). is_dead i moment) k es ordered

  -- there is one less
  pub one_less : length (without_key es k) + 1 ≡ length es
  one_less = fewer k es (some_kept (λ i. is_dead i moment) (item_of es k) (sym (ap is_some (item_kept (λ i. is_dead i moment) k es ordered)) ∙ dead))

  pub still_ordered : InOrder (without_key es k)
  still_ordered = sorted_removed key_cmp_total k es ordered

  among_left_case : (q : Key) (t : Bool) → tied q k ≡ t → (t || is_some (cond t None (item_of (dead_of moment es) q))) ≡ is_some (item_of (dead_of moment es) q)
  among_left_case q true h = sym (ap (λ j. is_some (item_of (dead_of moment es) j)) (one_key q k h) ∙ dead)
  among_left_case q false h = refl

  among_left : (q : Key) → is_among q (k ∷ keys_of (without_key (dead_of moment es) k)) ≡ is_among q (keys_of (dead_of moment es))
  among_left q =
      let sorted = order_dead in
      ap (λ b. tied q k || b) (among_keys q (without_key (dead_of moment es) k)
      ∙ ap is_some (lookup_removed key_cmp_total key_cmp_exact q k (dead_of moment es) sorted))
      ∙ (among_left_case q (tied q k) refl ∙ sym (among_keys q (dead_of moment es)))
    where
      order_dead : InOrder (dead_of moment es)
      order_dead = sorted_passing key_cmp (λ (i : Item). is_dead i moment) es ordered

  -- its key and those of the others that are dead are the keys of all that were
  pub marked_left : (ks : List Key) → KeysInOrder ks
      → with_keys (insert_key key_cmp ks k) (keys_of (dead_of moment (without_key es k))) ≡ with_keys ks (keys_of (dead_of moment es))
  marked_left ks s =
      ap (λ (es : Items). with_keys (insert_key key_cmp ks k) (keys_of es)) dead_without
      ∙ same_with ks (k ∷ keys_of (without_key (dead_of moment es) k)) (keys_of (dead_of moment es)) s among_left

-- ---- all dead items leave, one after the other

dead_found : (moment : ℕ) (es : Items) (k : Key) (i : Item) → InOrder es → Contains (dead_of moment es) (k, i)
    → is_some (item_of (dead_of moment es) k) ≡ true
dead_found moment es k i ordered there =
    let distinct = IsDistinct-from_sorted key_cmp (keys_of (dead_of moment es)) (sorted_passing key_cmp (λ (i : Item). is_dead i moment) es ordered) in
    ap is_some (lookup-from_Contains (eq_by_cmp_equiv key_cmp_total) k i (dead_of moment es) distinct there)

-- some of the items that were dead left, and no other, and their keys were marked
pub record IsLeaving (old now : Feeding) : Type 0 where
  pub ordered : InOrder now.store.entries
  pub moment : now.store.moment ≡ old.store.moment
  pub reads : now.store.reads ≡ old.store.reads
  pub same : living old.store.moment now.store.entries ≡ living old.store.moment old.store.entries
  pub number : now.marks.number ≡ old.marks.number
  pub marked : (n : ℕ) → n ≤ old.marks.number
      → with_keys (keys_since now.marks.log n) (keys_of (dead_of old.store.moment now.store.entries)) ≡ with_keys (keys_since old.marks.log n)
      (keys_of (dead_of old.store.moment old.store.entries))
  pub room : HasRoom now

pub leaving_none : (f : Feeding) → InOrder f.store.entries → HasRoom f → IsLeaving f f
leaving_none f ordered room = record {
  ordered = ordered;
  moment = refl;
  reads = refl;
  same = refl;
  number = refl;
  marked = λ n le. refl;
  room = room;
}

module _ (old a b : Feeding) (k : Key) (so_far : IsLeaving old a) (next : IsNextToLeave a.store (Some k)) where
  dead_here : is_some (item_of (dead_of old.store.moment a.store.entries) k) ≡ true
  dead_here = rw (← so_far.moment) (dead_found a.store.moment a.store.entries k next.0 so_far.ordered next.1.held)

  -- there is an item, which leaves
  pub one_leaves : length (without_key a.store.entries k) + 1 ≡ length a.store.entries
  one_leaves = one_less old.store.moment a.store.entries k so_far.ordered dead_here

  pub leaving_more : b.store ≡ without a.store k → b.marks ≡ record a.marks { log = a.marks.log ++ (a.marks.number, k) ∷ []; room = b.marks.room }
      → a.marks.room ≤ b.marks.room + 1 → IsLeaving old b
  leaving_more store marks room =
      let entries : b.store.entries ≡ without_key a.store.entries k = ap (λ (s : Held). s.entries) store in
      let fewer = ap (λ (es : Items). length es) entries in
      record {
        ordered = rw entries (still_ordered old.store.moment a.store.entries k so_far.ordered dead_here);
        moment = ap (λ (s : Held). s.moment) store ∙ so_far.moment;
        reads = ap (λ (s : Held). s.reads) store ∙ so_far.reads;
        same = ap (living old.store.moment) entries ∙ same_living old.store.moment a.store.entries k so_far.ordered dead_here ∙ so_far.same;
        number = ap (λ (m : Marked). m.number) marks ∙ so_far.number;
        marked = λ n le.
            (λ i. with_keys (keys_since (marks i).log n) (keys_of (dead_of old.store.moment (entries i))))
            ∙ ap (λ ks. with_keys ks (keys_of (dead_of old.store.moment (without_key a.store.entries k))))
            (marks_touch.touched a.marks.log a.marks.number k n (omega (arith, le, so_far.number)))
            ∙ marked_left old.store.moment a.store.entries k so_far.ordered dead_here (keys_since a.marks.log n)
            (order_in_order (map (λ mark. mark.1) (filter (is_since n) a.marks.log)))
            ∙ so_far.marked n le;
        room = record {
          few = omega (arith, fewer, one_leaves, so_far.room.few);
          room = omega (arith, fewer, one_leaves, so_far.room.room, room);
        };
      }

all_alive : (moment : ℕ) (es : Items) → AllByRecursion (λ i. is_dead i moment ≡ false) (values_of es) → living moment es ≡ es
all_alive moment [] alive = refl
all_alive moment (e ∷ es) alive = rw (alive.0) (ap (λ l. e ∷ l) (all_alive moment es alive.1))

none_dead : (moment : ℕ) (es : Items) → AllByRecursion (λ i. is_dead i moment ≡ false) (values_of es) → dead_of moment es ≡ []
none_dead moment [] alive = refl
none_dead moment (e ∷ es) alive = rw (alive.0) (none_dead moment es alive.1)

module _ (old now : Feeding) (so_far : IsLeaving old now) (alive : NoneDead now.store) where
  each_alive : AllByRecursion (λ i. is_dead i old.store.moment ≡ false) (values_of now.store.entries)
  each_alive = rw (← so_far.moment) (recursion_from_All (λ i. is_dead i now.store.moment ≡ false) (values_of now.store.entries) alive)

  pub left_store : now.store ≡ record old.store { entries = living old.store.moment old.store.entries }
  left_store = λ i. record {
    entries = (sym (all_alive old.store.moment now.store.entries each_alive) ∙ so_far.same) i;
    moment = so_far.moment i;
    reads = so_far.reads i;
  }

  pub left_marked : AreMarked old.marks now.marks (keys_of (dead_of old.store.moment old.store.entries))
  left_marked = record {
    number = so_far.number;
    touched = λ n le.
        sym (ap (λ (es : Items). with_keys (keys_since now.marks.log n) (keys_of es)) (none_dead old.store.moment now.store.entries each_alive))
        ∙ so_far.marked n le;
  }
