-- The item that ends first leaves first: no held item is closed.
use Rattle.std.proofs.Common.{◌≡◌, ℕ, suc, Bool, true, false, [], ◌∷◌, ◌||◌, Option, Some, None, cond, refl, ap, sym}
use Rattle.std.proofs.Common.{◌∙◌, arith}
use Rattle.std.specs.Prelude.{IfSome, IfNone, nat_lt, ◌↔◌}
use Rattle.std.specs.List.{All, Contains, AllByRecursion}
use Rattle.std.specs.Cmp.{IsTotalOrder, Equal-is, then_total, on_total, nat_cmp_total}
use Rattle.std.specs.Map.{values_of, remove_entry, keys_of}
use Rattle.std.specs.BTreeMap.{insert_entry, is_at}
use Rattle.std.proofs.lemmas.Map.Views.{All-values-insert_entry, All-map-remove_entry}
use Rattle.std.specs.List.Sorted.{IsStrictlySortedBy}
use Rattle.std.specs.Option.{option_map_or}
use Rattle.std.specs.Ordering.{is_lt, is_gt, is_eq, nat_cmp, ordering_then, ordering_reverse}
use Rattle.std.specs.declared.cmp.Ordering.{Ordering}
use Rattle.std.specs.declared.cmp.Ordering.TheVariants.{Less, Equal, Greater}
use Rattle.std.proofs.lemmas.Cmp.{tied_itself}
use Rattle.std.proofs.lemmas.List.Elements.{All-from_recursion, recursion_from_All}
use Rattle.siri_records.specs.Order.{key_cmp, key_cmp_total}
use Rattle.siri_records.proofs.Order.{key_cmp_exact}
use Rattle.siri_records.specs.declared.key.Key.{Key}
use Rattle.siri_records.specs.declared.item.Item.{Item}
use Rattle.siri_records.specs.Ends.{is_dead, is_closed, end_of}
use Rattle.siri_records.specs.Keyed.{Items, InOrder, item_of, dead_of}
use Rattle.siri_store.specs.Calls.{leaves_at, leaving_cmp, LeavesFirst, NoneDead, IsNextToLeave, after_expiry}
use Rattle.siri_store.specs.Ended.{EndsFirst, NoneHasEnded, NoneClosed}
use Rattle.siri_store.specs.Candidates.{UnderOwnKeys}
use Rattle.siri_store.specs.Held.{Held}
use Rattle.siri_store.proofs.OwnKeys.{own_removed}
use Rattle.siri_store.proofs.LookUps.{by_bool}

-- ---- each entry is the one of its key

abbrev Itself : Items → Key × Item → Type 0
Itself es e = item_of es e.0 ≡ Some e.1

below_apart : (e f : Key × Item) → key_cmp e.0 f.0 ≡ Less → is_eq (key_cmp f.0 e.0) ≡ false
below_apart e f less = ap is_eq (key_cmp_total.antisymm f.0 e.0 ∙ ap ordering_reverse less)

later_itself : (e : Key × Item) (whole fs : Items) → AllByRecursion (λ k. key_cmp e.0 k ≡ Less) (keys_of fs)
    → AllByRecursion (Itself whole) fs
    → AllByRecursion (Itself (e ∷ whole)) fs
later_itself e whole [] above a = tt
later_itself e whole (f ∷ fs) above a = (
  ap (λ b. cond b (Some e.1) (item_of whole f.0)) (below_apart e f above.0)
      ∙ a.0,
  later_itself e whole fs above.1 a.1,
)

each_itself : (es : Items) → InOrder es → AllByRecursion (Itself es) es
unfolding IsStrictlySortedBy
each_itself [] sorted = tt
each_itself (e ∷ es) sorted = (
  ap (λ o. cond (is_eq o) (Some e.1) (item_of es e.0)) (tied_itself key_cmp_total e.0),
  later_itself e es es sorted.0
      (each_itself es sorted.1),
)

-- ---- which are dead

none_left : (P Q : Key × Item → Type 0) (R : Key × Item → Type 0) → ((e : Key × Item) → P e → Q e → R e) → (es : Items)
    → AllByRecursion P es → AllByRecursion Q es → AllByRecursion R es
none_left P Q R both [] p q = tt
none_left P Q R both (e ∷ es) p q = (both e p.0 q.0, none_left P Q R both es p.1 q.1)

on_values : (P : Item → Type 0) (es : Items) → AllByRecursion (λ e. P e.1) es → AllByRecursion P (values_of es)
on_values P [] a = tt
on_values P (e ∷ es) a = (a.0, on_values P es a.1)

from_values : (P : Item → Type 0) (es : Items) → AllByRecursion P (values_of es) → AllByRecursion (λ e. P e.1) es
from_values P [] a = tt
from_values P (e ∷ es) a = (a.0, from_values P es a.1)

each_open : (es : Items) → NoneClosed es → AllByRecursion (λ e. is_closed e.1 ≡ false) es
each_open es unclosed =
    from_values (λ i. is_closed i ≡ false) es (recursion_from_All (λ i. is_closed i ≡ false) (values_of es) unclosed)

-- an open item is dead where its end is before now
dead_open : (i : Item) (now : ℕ) → is_closed i ≡ false
    → is_dead i now ≡ option_map_or (λ end. nat_lt end now) (end_of i) false
dead_open i now unclosed = ap (λ b. b || option_map_or (λ end. nat_lt end now) (end_of i) false) unclosed

alive_case : (now : ℕ) (held : Option ℕ) → ((m : ℕ) → held ≡ Some m → nat_lt m now ≡ false)
    → option_map_or (λ end. nat_lt end now) held false ≡ false
alive_case now None none = refl
alive_case now (Some m) none = none m refl

pub none_dead_yet : (now : ℕ) (es : Items) → InOrder es → NoneClosed es → NoneHasEnded now es
    → All (λ i. is_dead i now ≡ false) (values_of es)
none_dead_yet now es sorted unclosed none =
    All-from_recursion (λ i. is_dead i now ≡ false) (values_of es) (on_values (λ i. is_dead i now ≡ false) es
    (none_left (Itself es) (λ e. is_closed e.1 ≡ false) (λ e. is_dead e.1 now ≡ false)
    (λ e itself unclosed. dead_open e.1 now unclosed ∙ alive_case now (end_of e.1) (λ m is. none e.0 e.1 m itself is))
    es (each_itself es sorted) (each_open es unclosed)))

-- ---- which of them leaves first

contains_later : (es : Items) (e x : Key × Item) → Contains es x → Contains (e ∷ es) x
contains_later es e x c = (suc c.0, omega (arith, c.1), c.2)

some_same : (a b : Item) → Some a ≡ Some b → a ≡ b
some_same a b same = cc

dead_here : (e : Key × Item) (es : Items) (now : ℕ) (k : Key) (i : Item) → e.0 ≡ k → e.1 ≡ i → is_dead i now ≡ true
    → Contains (dead_of now (e ∷ es)) (k, i)
dead_here e es now k i key item dead = rw (ap (λ x. is_dead x now) item ∙ dead) (0, omega arith, λ j. (key j, item j))

dead_later : (e : Key × Item) (es : Items) (now : ℕ) (x : Key × Item) → Contains (dead_of now es) x
    → Contains (dead_of now (e ∷ es)) x
dead_later e es now x c = by_bool (is_dead e.1 now) (λ h. rw h (contains_later (dead_of now es) e x c)) (λ h. rw h c)

pub held_dead : (es : Items) (now : ℕ) (k : Key) (i : Item) → item_of es k ≡ Some i → is_dead i now ≡ true
    → Contains (dead_of now es) (k, i)
held_dead [] now k i held dead = absurd (cc held)
held_dead (e ∷ es) now k i held dead = by_bool (is_eq (key_cmp k e.0))
    (λ h. dead_here e es now k i (sym (key_cmp_exact k e.0 ((Equal-is (key_cmp k e.0)).0 h)))
    (some_same e.1 i (sym (ap (λ b. cond b (Some e.1) (item_of es k)) h) ∙ held)) dead)
    (λ h. dead_later e es now (k, i)
    (held_dead es now k i (sym (ap (λ b. cond b (Some e.1) (item_of es k)) h) ∙ held) dead))

all_dead : (Q : Key × Item → Type 0) (now : ℕ) (es : Items) → AllByRecursion (λ e. is_dead e.1 now ≡ true → Q e) es
    → AllByRecursion Q (dead_of now es)
all_dead Q now [] a = tt
all_dead Q now (e ∷ es) a =
    by_bool (is_dead e.1 now) (λ h. rw h (a.0 h, all_dead Q now es a.1)) (λ h. rw h (all_dead Q now es a.1))

leaving_total : IsTotalOrder leaving_cmp
leaving_total =
    then_total (on_total (λ (entry : Key × Item). leaves_at entry.1) nat_cmp_total)
    (on_total (λ (entry : Key × Item). entry.0) key_cmp_total)

turned : (o : Ordering) → is_lt (ordering_reverse o) ≡ is_gt o
turned Less = refl
turned Equal = refl
turned Greater = refl

not_before : (now : ℕ) (es : Items) (key : Key) (first : EndsFirst now es key) (e : Key × Item) → Itself es e
    → is_closed e.1 ≡ false → (held : Option ℕ)
    → end_of e.1 ≡ held → option_map_or (λ end. nat_lt end now) held false ≡ true
    → is_lt (leaving_cmp e (key, first.item)) ≡ false
not_before now es key first e itself unclosed None is dead = absurd (cc dead)
not_before now es key first e itself unclosed (Some m) is dead =
    ap is_lt (leaving_total.antisymm e (key, first.item)) ∙ (turned (leaving_cmp (key, first.item) e)
    ∙ (ap (λ o. is_gt (ordering_then o (key_cmp key e.0)))
    (λ j. nat_cmp (option_map_or (λ end. end) (first.its_end j) 0) (option_map_or (λ end. end) (is j) 0))
    ∙ first.first e.0 e.1 m itself is))

its_death : (now : ℕ) (es : Items) (key : Key) (first : EndsFirst now es key) → is_closed first.item ≡ false
    → is_dead first.item now ≡ true
its_death now es key first unclosed =
    dead_open first.item now unclosed
    ∙ (ap (λ held. option_map_or (λ end. nat_lt end now) held false) first.its_end ∙ first.ended)

open_held : (es : Items) (k : Key) (i : Item) → AllByRecursion (λ e. is_closed e.1 ≡ false) es → item_of es k ≡ Some i
    → is_closed i ≡ false
open_held [] k i unclosed held = absurd (cc held)
open_held (e ∷ es) k i unclosed held = by_bool (is_eq (key_cmp k e.0))
    (λ h. ap is_closed (sym (some_same e.1 i (sym (ap (λ b. cond b (Some e.1) (item_of es k)) h) ∙ held))) ∙ unclosed.0)
    (λ h. open_held es k i unclosed.1 (sym (ap (λ b. cond b (Some e.1) (item_of es k)) h) ∙ held))

module _ (now : ℕ) (es : Items) (key : Key) (sorted : InOrder es) (unclosed : NoneClosed es)
    (first : EndsFirst now es key) where
  pub dies : is_dead first.item now ≡ true
  dies = its_death now es key first (open_held es key first.item (each_open es unclosed) first.held)

  pub leaves_first : LeavesFirst (dead_of now es) (key, first.item)
  leaves_first = record {
    held = held_dead es now key first.item first.held dies;
    first = All-from_recursion (λ other. is_lt (leaving_cmp other (key, first.item)) ≡ false) (dead_of now es)
        (all_dead (λ other. is_lt (leaving_cmp other (key, first.item)) ≡ false) now es
        (none_left (Itself es) (λ e. is_closed e.1 ≡ false)
        (λ e. is_dead e.1 now ≡ true → is_lt (leaving_cmp e (key, first.item)) ≡ false)
        (λ e itself unclosed dead. not_before now es key first e itself unclosed (end_of e.1) refl
        (sym (dead_open e.1 now unclosed) ∙ dead))
        es (each_itself es sorted) (each_open es unclosed)));
  }

-- ---- so what the store is told of its items is what it promises

values_alive : (now : ℕ) (es : Items) (k : Key) (i : Item) → AllByRecursion (λ i. is_dead i now ≡ false) (values_of es)
    → item_of es k ≡ Some i → is_dead i now ≡ false
values_alive now [] k i alive held = absurd (cc held)
values_alive now (e ∷ es) k i alive held = by_bool (is_eq (key_cmp k e.0))
    (λ h. ap (λ x. is_dead x now) (sym (some_same e.1 i (sym (ap (λ b. cond b (Some e.1) (item_of es k)) h) ∙ held)))
    ∙ alive.0)
    (λ h. values_alive now es k i alive.1 (sym (ap (λ b. cond b (Some e.1) (item_of es k)) h) ∙ held))

module _ (s : Held) (sorted : InOrder s.entries) (unclosed : NoneClosed s.entries) where
  pub next_leaves : (key : Option Key) → IfSome key (EndsFirst s.moment s.entries)
      → IfNone key (NoneHasEnded s.moment s.entries) → IsNextToLeave s key
  next_leaves None some none = none_dead_yet s.moment s.entries sorted unclosed none
  next_leaves (Some key) first none = (first.item, leaves_first s.moment s.entries key sorted unclosed first)

  pub none_leaves : (key : Option Key) → IfSome key (EndsFirst s.moment s.entries)
      → IfNone key (NoneHasEnded s.moment s.entries) → (key ≡ None) ↔ NoneDead s
  none_leaves None some none = ((λ is. none_dead_yet s.moment s.entries sorted unclosed none), (λ alive. refl))
  none_leaves (Some key) first none = (
    (λ is. absurd (cc is)),
    (λ alive. absurd (cc (
      dies s.moment s.entries key sorted unclosed first,
      values_alive s.moment s.entries key first.item
          (recursion_from_All (λ i. is_dead i s.moment ≡ false) (values_of s.entries) alive) first.held,
    ))),
  )

pub unclosed_removed : (es : Items) (k : Key) → NoneClosed es → NoneClosed (remove_entry (is_at (key_cmp k)) es)
unclosed_removed es k unclosed =
    All-map-remove_entry (is_at (key_cmp k)) (λ e. e.1) (λ i. is_closed i ≡ false) es unclosed

-- an item that isn't dead isn't closed
left_false : (a b : Bool) → (a || b) ≡ false → a ≡ false
left_false true b h = h
left_false false b h = refl

pub live_unclosed : (i : Item) (now : ℕ) → is_dead i now ≡ false → is_closed i ≡ false
live_unclosed i now live = left_false (is_closed i) (option_map_or (λ end. nat_lt end now) (end_of i) false) live

pub unclosed_put : (es : Items) (k : Key) (i : Item) → NoneClosed es → is_closed i ≡ false
    → NoneClosed (insert_entry key_cmp es k i)
unclosed_put es k i none_closed unclosed =
    All-values-insert_entry key_cmp k i (λ i. is_closed i ≡ false) es none_closed unclosed

pub expired_own : (es new : Items) (key : Option Key) → UnderOwnKeys es
    → IfSome key (λ k. new ≡ remove_entry (is_at (key_cmp k)) es) → IfNone key (new ≡ es) → UnderOwnKeys new
expired_own es new None own some none = rw none own
expired_own es new (Some k) own some none = rw some (own_removed es k own)

pub expired_unclosed : (es new : Items) (key : Option Key) → NoneClosed es
    → IfSome key (λ k. new ≡ remove_entry (is_at (key_cmp k)) es) → IfNone key (new ≡ es) → NoneClosed new
expired_unclosed es new None unclosed some none = rw none unclosed
expired_unclosed es new (Some k) unclosed some none = rw some (unclosed_removed es k unclosed)

pub expired_rest : (s t : Held) (key : Option Key) → t ≡ record s { entries = t.entries }
    → IfSome key (λ k. t.entries ≡ remove_entry (is_at (key_cmp k)) s.entries) → IfNone key (t.entries ≡ s.entries)
    → t ≡ after_expiry s key
expired_rest s t None same some none = same ∙ ap (λ es. record s { entries = es }) none
expired_rest s t (Some k) same some none = same ∙ ap (λ es. record s { entries = es }) some
