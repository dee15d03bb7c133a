-- The first stamp of an order, and the first of those that are of ends.
use Rattle.std.proofs.Common.{◌≡◌, ℕ, Bool, true, false, cond, ◌&&◌, ◌||◌, List, [], ◌∷◌, Option, Some, None, refl, ap, ◌∙◌, sym, subst, arith}
use Rattle.std.specs.Prelude.{nat_eq, not, filter, pos, int_lt}
use Rattle.std.specs.List.{AllByRecursion}
use Rattle.std.specs.List.Sorted.{IsStrictlySortedBy}
use Rattle.std.specs.Cmp.{IsTotalOrder, Equal-is, tied_itself, upto, then_total, on_total, nat_cmp_total}
use Rattle.std.specs.Option.{option_cmp}
use Rattle.std.specs.Ordering.{nat_cmp, ordering_then, ordering_reverse, is_eq, is_gt}
use Rattle.std.specs.declared.cmp.Ordering.{Ordering}
use Rattle.std.specs.declared.cmp.Ordering.TheVariants.{Less, Equal, Greater}
use Rattle.std.proofs.lemmas.Bool.Decides.{nat_tests}
use Rattle.siri_records.specs.declared.key.Key.{Key}
use Rattle.siri_records.specs.declared.item.Service.TheVariants as service
use Rattle.siri_records.specs.Order.{key_cmp, key_cmp_total}
use Rattle.siri_records.proofs.Order.{key_cmp_exact}
use Rattle.siri_store.specs.Between.{is_since}
use Rattle.siri_store.specs.Stamped.{Stamp, stamp_cmp, has_stamp, by_end, by_edge, is_of_ends, end_cmp, earlier}
use Rattle.siri_store.specs.Stamped.{IsFirstOf, IsFirstOfEnds, IsFirstIn, IsFirstEnding}
use Rattle.siri_store.proofs.Orders.{eq_then, eq_nat, both_are, equal_numbers}

pick : {T : Type 0} (b : Bool) → (b ≡ true → T) → (b ≡ false → T) → T
pick true f g = f refl
pick false f g = g refl

-- ---- stamps that no order tells apart are one

same_keys : (k l : Option Key) → is_eq (option_cmp key_cmp k l) ≡ true → k ≡ l
same_keys None None h = refl
same_keys None (Some l) h = absurd (cc h)
same_keys (Some k) None h = absurd (cc h)
same_keys (Some k) (Some l) h = ap Some (key_cmp_exact k l ((Equal-is (key_cmp k l)).0 h))

pub same_stamps : (a b : Stamp) → is_eq (stamp_cmp a b) ≡ true → a ≡ b
same_stamps a b h =
    let outer = both_are (is_eq (ordering_then (nat_cmp a.0 b.0) (nat_cmp a.1 b.1))) (is_eq (option_cmp key_cmp a.2 b.2))
    (sym (eq_then (ordering_then (nat_cmp a.0 b.0) (nat_cmp a.1 b.1)) (option_cmp key_cmp a.2 b.2)) ∙ h) in
    let inner = both_are (is_eq (nat_cmp a.0 b.0)) (is_eq (nat_cmp a.1 b.1)) (sym (eq_then (nat_cmp a.0 b.0) (nat_cmp a.1 b.1)) ∙ outer.0) in
    let order = equal_numbers a.0 b.0 (sym (eq_nat a.0 b.0) ∙ inner.0) in
    let moment = equal_numbers a.1 b.1 (sym (eq_nat a.1 b.1) ∙ inner.1) in
    let key = same_keys a.2 b.2 outer.1 in
    (λ i. (order i, moment i, key i))

same_itself : (s : Stamp) → is_eq (stamp_cmp s s) ≡ true
same_itself s =
    (λ i. is_eq (ordering_then (ordering_then (tied_itself nat_cmp_total s.0 i) (tied_itself nat_cmp_total s.1 i)) (option_cmp key_cmp s.2 s.2)))
    ∙ own s.2
  where
    own : (k : Option Key) → is_eq (option_cmp key_cmp k k) ≡ true
    own None = refl
    own (Some k) = ap is_eq (tied_itself key_cmp_total k)

-- ---- the first of those that pass a test

less_than : (x : Stamp) (xs : List Stamp) → AllByRecursion (λ y. stamp_cmp x y ≡ Less) xs → (t : Stamp) → has_stamp xs t ≡ true
    → is_gt (stamp_cmp x t) ≡ false
less_than x [] a t held = absurd (cc held)
less_than x (y ∷ ys) a t held = pick (is_eq (stamp_cmp t y))
    (λ h. ap (λ z. is_gt (stamp_cmp x z)) (same_stamps t y h) ∙ ap is_gt a.0)
    (λ h. less_than x ys a.1 t (ap (λ b. b || has_stamp ys t) (sym h) ∙ held))

or_right : (b c : Bool) → c ≡ true → (b || c) ≡ true
or_right true c h = refl
or_right false c h = h

module _ (p : Stamp → Bool) where
  record Leads (stamps : List Stamp) (s : Stamp) : Type 0 where
    held : has_stamp stamps s ≡ true
    passes : p s ≡ true
    least : (t : Stamp) → has_stamp stamps t ≡ true → p t ≡ true → is_gt (stamp_cmp s t) ≡ false

  first_there : (x : Stamp) (xs : List Stamp) → AllByRecursion (λ y. stamp_cmp x y ≡ Less) xs → p x ≡ true → Leads (x ∷ xs) x
  first_there x xs less h = record {
    held = ap (λ b. b || has_stamp xs x) (same_itself x);
    passes = h;
    least = λ t held passes. pick (is_eq (stamp_cmp t x))
        (λ e. ap (λ z. is_gt (stamp_cmp x z)) (same_stamps t x e) ∙ ap is_gt (unequal x))
        (λ e. less_than x xs less t (ap (λ b. b || has_stamp xs t) (sym e) ∙ held));
  }
    where
      unequal : (s : Stamp) → stamp_cmp s s ≡ Equal
      unequal s = (Equal-is (stamp_cmp s s)).0 (same_itself s)

  first_later : (x : Stamp) (xs : List Stamp) (s : Stamp) → p x ≡ false → Leads xs s → Leads (x ∷ xs) s
  first_later x xs s h later = record {
    held = or_right (is_eq (stamp_cmp s x)) (has_stamp xs s) later.held;
    passes = later.passes;
    least = λ t held passes. pick (is_eq (stamp_cmp t x))
        (λ e. absurd (cc (passes, ap p (same_stamps t x e), h)))
        (λ e. later.least t (ap (λ b. b || has_stamp xs t) (sym e) ∙ held) passes);
  }

  leads : (stamps : List Stamp) (s : Stamp) (rest : List Stamp) → IsStrictlySortedBy stamp_cmp stamps
      → filter p stamps ≡ s ∷ rest → Leads stamps s
  unfolding IsStrictlySortedBy
  leads [] s rest sorted is = absurd (cc is)
  leads (x ∷ xs) s rest sorted is = pick (p x)
      (λ h. let same : x ≡ s = cc (rw h at is) in subst (Leads (x ∷ xs)) same (first_there x xs sorted.0 h))
      (λ h. first_later x xs s h (leads xs s rest sorted.1 (rw h at is)))

  none_pass : (stamps : List Stamp) → filter p stamps ≡ [] → (t : Stamp) → has_stamp stamps t ≡ true → p t ≡ true → ⊥
  none_pass [] is t held passes = cc held
  none_pass (x ∷ xs) is t held passes = pick (p x)
      (λ h. cc (rw h at is))
      (λ h. pick (is_eq (stamp_cmp t x))
      (λ e. cc (passes, ap p (same_stamps t x e), h))
      (λ e. none_pass xs (rw h at is) t (ap (λ b. b || has_stamp xs t) (sym e) ∙ held) passes))

-- ---- so of an order

from_zero : (m : ℕ) → not (int_lt (pos m) (pos 0)) ≡ true
from_zero m = grind (arith, nat_tests)

since_zero : (order : ℕ) (t : Stamp) → is_since order (pos 0) t ≡ nat_eq t.0 order
since_zero order t = ap (λ b. nat_eq t.0 order && b) (from_zero t.1) ∙ and_true (nat_eq t.0 order)
  where
    and_true : (b : Bool) → (b && true) ≡ b
    and_true true = refl
    and_true false = refl

number_itself : (n : ℕ) → nat_eq n n ≡ true
number_itself n = grind (arith, nat_tests)

-- within an order stamps go by moment and then by key
within : (a b : Stamp) → b.0 ≡ a.0 → is_gt (stamp_cmp a b) ≡ is_gt (end_cmp a b)
within a b same =
    ap (λ o. is_gt (ordering_then (ordering_then o (nat_cmp a.1 b.1)) (option_cmp key_cmp a.2 b.2)))
    (ap (nat_cmp a.0) same ∙ tied_itself nat_cmp_total a.0)

abbrev with_first : Option Stamp → List Stamp → List Stamp
with_first None rest = []
with_first (Some first) rest = first ∷ rest

pub first_in : (order : ℕ) (stamps : List Stamp) (first : Option Stamp) (rest : List Stamp) → IsStrictlySortedBy stamp_cmp stamps
    → filter (is_since order (pos 0)) stamps ≡ with_first first rest → IsFirstIn order stamps first
first_in order stamps None rest sorted is = λ t held same.
    none_pass (is_since order (pos 0)) stamps is t held
    (since_zero order t ∙ (ap (λ o. nat_eq o order) same ∙ number_itself order))
first_in order stamps (Some s) rest sorted is =
    let one = leads (is_since order (pos 0)) stamps s rest sorted is in
    let own = equal_numbers s.0 order (sym (since_zero order s) ∙ one.passes) in
    record {
      held = one.held;
      in_order = own;
      least = λ t held same. sym (within s t (same ∙ sym own))
          ∙ one.least t held (since_zero order t ∙ (ap (λ o. nat_eq o order) same ∙ number_itself order));
    }

-- ---- so of ends

option_total : IsTotalOrder (option_cmp key_cmp)
option_total = record {
  antisymm = anti;
  trans = chain;
  congr = like;
}
  where
    anti : (x y : Option Key) → option_cmp key_cmp x y ≡ ordering_reverse (option_cmp key_cmp y x)
    anti None None = refl
    anti None (Some l) = refl
    anti (Some k) None = refl
    anti (Some k) (Some l) = key_cmp_total.antisymm k l

    chain : (x y z : Option Key) → option_cmp key_cmp x y ≡ Less → option_cmp key_cmp y z ≡ Less → option_cmp key_cmp x z ≡ Less
    chain None None z p q = absurd (cc p)
    chain None (Some l) None p q = absurd (cc q)
    chain None (Some l) (Some m) p q = refl
    chain (Some k) None z p q = absurd (cc p)
    chain (Some k) (Some l) None p q = absurd (cc q)
    chain (Some k) (Some l) (Some m) p q = key_cmp_total.trans k l m p q

    like : (x y z : Option Key) → option_cmp key_cmp x y ≡ Equal → option_cmp key_cmp x z ≡ option_cmp key_cmp y z
    like None None z p = refl
    like None (Some l) z p = absurd (cc p)
    like (Some k) None z p = absurd (cc p)
    like (Some k) (Some l) None p = refl
    like (Some k) (Some l) (Some m) p = key_cmp_total.congr k l m p

end_total : IsTotalOrder end_cmp
end_total = then_total (on_total (λ (s : Stamp). s.1) nat_cmp_total) (on_total (λ (s : Stamp). s.2) option_total)

reversed_not : (o : Ordering) → is_gt o ≡ true → is_gt (ordering_reverse o) ≡ false
reversed_not Less h = absurd (cc h)
reversed_not Equal h = absurd (cc h)
reversed_not Greater h = refl

module _ (stamps : List Stamp) where
  one_of_two : (t : Stamp) → is_of_ends t.0 ≡ true → {T : Type 0} → (t.0 ≡ by_end → T) → (t.0 ≡ by_edge service.Stop → T) → T
  one_of_two t of_ends {T} f g = pick (nat_eq t.0 by_end)
      (λ h. f (equal_numbers t.0 by_end h))
      (λ h. g (equal_numbers t.0 (by_edge service.Stop) (ap (λ b. b || nat_eq t.0 (by_edge service.Stop)) (sym h) ∙ of_ends)))

  of_end : (s : Stamp) → s.0 ≡ by_end → is_of_ends s.0 ≡ true
  of_end s is = ap is_of_ends is

  of_visit : (s : Stamp) → s.0 ≡ by_edge service.Stop → is_of_ends s.0 ≡ true
  of_visit s is = ap is_of_ends is

  -- the lesser of the first of two orders is the first of both
  earlier_case : (a b : Stamp) → IsFirstOf by_end stamps a → IsFirstOf (by_edge service.Stop) stamps b → (c : Bool)
      → is_gt (end_cmp a b) ≡ c → IsFirstOfEnds stamps (cond c b a)
  earlier_case a b first second true later = record {
    held = second.held;
    of_ends = of_visit b second.in_order;
    least = λ t held of_ends. one_of_two t of_ends
        (λ is. upto end_total b a t (ap is_gt (end_total.antisymm b a) ∙ reversed_not (end_cmp a b) later) (first.least t held is))
        (λ is. second.least t held is);
  }
  earlier_case a b first second false later = record {
    held = first.held;
    of_ends = of_end a first.in_order;
    least = λ t held of_ends. one_of_two t of_ends
        (λ is. first.least t held is)
        (λ is. upto end_total a b t later (second.least t held is));
  }

  pub earlier_first : (a b : Option Stamp) → IsFirstIn by_end stamps a → IsFirstIn (by_edge service.Stop) stamps b
      → IsFirstEnding stamps (earlier a b)
  earlier_first None None first second = λ t held of_ends. one_of_two t of_ends (first t held) (second t held)
  earlier_first None (Some b) none second = record {
    held = second.held;
    of_ends = of_visit b second.in_order;
    least = λ t held of_ends. one_of_two t of_ends (λ is. absurd (none t held is)) (λ is. second.least t held is);
  }
  earlier_first (Some a) None first none = record {
    held = first.held;
    of_ends = of_end a first.in_order;
    least = λ t held of_ends. one_of_two t of_ends (λ is. first.least t held is) (λ is. absurd (none t held is));
  }
  earlier_first (Some a) (Some b) first second = earlier_case a b first second (is_gt (end_cmp a b)) refl
