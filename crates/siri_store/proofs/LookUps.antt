-- What is found of a key after a put and after a removal.
use Rattle.std.proofs.Common.{◌≡◌, Bool, true, false, cond, List, [], ◌∷◌, Option, Some, None, refl, ap, ◌∙◌, sym}
use Rattle.std.proofs.Common.{subst}
use Rattle.std.specs.Map.{lookup, remove_entry, keys_of}
use Rattle.std.specs.BTreeMap.{insert_entry, is_at}
use Rattle.std.specs.Ordering.{is_eq, match_ordering}
use Rattle.std.specs.Cmp.{IsTotalOrder, Equal-is}
use Rattle.std.specs.List.{AllByRecursion}
use Rattle.std.specs.List.Sorted.{IsStrictlySortedBy}
use Rattle.std.specs.declared.cmp.Ordering.{Ordering}
use Rattle.std.specs.declared.cmp.Ordering.TheVariants.{Less, Equal, Greater}
use Rattle.std.proofs.lemmas.Map.{NonePasses, lookup-none}
use Rattle.std.proofs.lemmas.Cmp.{alike_right}

pub by_ordering : {P : Type 0} (o : Ordering) → (o ≡ Less → P) → (o ≡ Equal → P) → (o ≡ Greater → P) → P
by_ordering Less a b c = a refl
by_ordering Equal a b c = b refl
by_ordering Greater a b c = c refl

pub by_bool : {P : Type 0} (b : Bool) → (b ≡ true → P) → (b ≡ false → P) → P
by_bool true a b = a refl
by_bool false a b = b refl

module _ {K X : Type 0} {R : K → K → Ordering} (total : IsTotalOrder R) (k : K) (v : X) (q : K) where
  put_step : (e : K × X) (es : List (K × X)) (r : Ordering) → R k e.0 ≡ r
      → insert_entry R (e ∷ es) k v ≡ match_ordering r ((k, v) ∷ e ∷ es) ((e.0, v) ∷ es) (e ∷ insert_entry R es k v)
  put_step e es r h = ap (λ o. match_ordering o ((k, v) ∷ e ∷ es) ((e.0, v) ∷ es) (e ∷ insert_entry R es k v)) h

  twice : (b : Bool) (x y : Option X) (z : Option X) → cond b x z ≡ cond b x (cond b y z)
  twice true x y z = refl
  twice false x y z = refl

  swapped : (a b : Bool) (x y z : Option X) → (a ≡ true → b ≡ false) → cond b y (cond a x z) ≡ cond a x (cond b y z)
  swapped true true x y z apart = subst (λ c. cond c y x ≡ x) (sym (apart refl)) refl
  swapped true false x y z apart = refl
  swapped false true x y z apart = refl
  swapped false false x y z apart = refl

  -- after a put
  pub lookup-insert_entry : (es : List (K × X))
      → lookup (is_at (R q)) (insert_entry R es k v) ≡ cond (is_eq (R q k)) (Some v) (lookup (is_at (R q)) es)
  lookup-insert_entry [] = refl
  lookup-insert_entry (e ∷ es) = by_ordering (R k e.0)
      (λ h. ap (lookup (is_at (R q))) (put_step e es Less h))
      (λ h. ap (lookup (is_at (R q))) (put_step e es Equal h)
      ∙ (ap (λ o. cond (is_eq o) (Some v) (lookup (is_at (R q)) es)) (sym (alike_right total k e.0 q h))
      ∙ (twice (is_eq (R q k)) (Some v) (Some e.1) (lookup (is_at (R q)) es)
      ∙ ap (λ o. cond (is_eq (R q k)) (Some v) (cond (is_eq o) (Some e.1) (lookup (is_at (R q)) es)))
      (alike_right total k e.0 q h))))
      (λ h. ap (lookup (is_at (R q))) (put_step e es Greater h)
      ∙ (ap (λ l. cond (is_eq (R q e.0)) (Some e.1) l) (lookup-insert_entry es)
      ∙ swapped (is_eq (R q k)) (is_eq (R q e.0)) (Some v) (Some e.1) (lookup (is_at (R q)) es)
      (λ same. ap is_eq (total.congr q k e.0 ((Equal-is (R q k)).0 same) ∙ h))))

module _ {K X : Type 0} {R : K → K → Ordering} (total : IsTotalOrder R) where
  -- keys above one that a query finds aren't found by it
  pub later_apart : (q : K) (e : K × X) (es : List (K × X)) → R q e.0 ≡ Equal
      → AllByRecursion (λ y. R e.0 y ≡ Less) (keys_of es) → NonePasses (is_at (R q)) es
  later_apart q e [] same a = tt
  later_apart q e (f ∷ es) same a = (ap is_eq (total.congr q e.0 f.0 same ∙ a.0), later_apart q e es same a.1)

  -- keys that tie find the same
  pub same_look : (es : List (K × X)) (q k : K) → R q k ≡ Equal → lookup (is_at (R q)) es ≡ lookup (is_at (R k)) es
  same_look [] q k same = refl
  same_look (e ∷ es) q k same = ap (λ o. cond (is_eq o) (Some e.1) (lookup (is_at (R q)) es)) (total.congr q k e.0 same)
      ∙ ap (λ l. cond (is_eq (R k e.0)) (Some e.1) l) (same_look es q k same)

module _ {K X : Type 0} {R : K → K → Ordering} (total : IsTotalOrder R) (k q : K) where
  remove_step : (e : K × X) (es : List (K × X)) (b : Bool) → is_eq (R k e.0) ≡ b
      → remove_entry (is_at (R k)) (e ∷ es) ≡ cond b es (e ∷ remove_entry (is_at (R k)) es)
  remove_step e es b h = ap (λ c. cond c es (e ∷ remove_entry (is_at (R k)) es)) h

  first_gone : (b : Bool) (x : X) (l : Option X) → (b ≡ true → l ≡ None) → l ≡ cond b None (cond b (Some x) l)
  first_gone true x l none = none refl
  first_gone false x l none = refl

  apart_kept : (a b : Bool) (y z : Option X) → (a ≡ true → b ≡ false)
      → cond b y (cond a None z) ≡ cond a None (cond b y z)
  apart_kept true true y z apart = subst (λ c. cond c y None ≡ None) (sym (apart refl)) refl
  apart_kept true false y z apart = refl
  apart_kept false true y z apart = refl
  apart_kept false false y z apart = refl

  -- after a removal, among keys in order
  pub lookup-removed : (es : List (K × X)) → IsStrictlySortedBy R (keys_of es)
      → lookup (is_at (R q)) (remove_entry (is_at (R k)) es) ≡ cond (is_eq (R q k)) None (lookup (is_at (R q)) es)
  unfolding IsStrictlySortedBy
  lookup-removed [] sorted =
      by_bool (is_eq (R q k)) (λ h. ap (λ b. cond b None None) (sym h)) (λ h. ap (λ b. cond b None None) (sym h))
  lookup-removed (e ∷ es) sorted = by_bool (is_eq (R k e.0))
      (λ h. let same = (Equal-is (R k e.0)).0 h in
      ap (lookup (is_at (R q))) (remove_step e es true h)
      ∙ (first_gone (is_eq (R q e.0)) e.1 (lookup (is_at (R q)) es)
      (λ at. lookup-none (is_at (R q)) es (later_apart total q e es ((Equal-is (R q e.0)).0 at) sorted.0))
      ∙ ap (λ o. cond (is_eq o) None (cond (is_eq (R q e.0)) (Some e.1) (lookup (is_at (R q)) es)))
      (sym (alike_right total k e.0 q same))))
      (λ h. ap (lookup (is_at (R q))) (remove_step e es false h)
      ∙ (ap (λ l. cond (is_eq (R q e.0)) (Some e.1) l) (lookup-removed es sorted.1)
      ∙ apart_kept (is_eq (R q k)) (is_eq (R q e.0)) (Some e.1) (lookup (is_at (R q)) es)
      (λ at. ap is_eq (total.congr q k e.0 ((Equal-is (R q k)).0 at)) ∙ h)))
