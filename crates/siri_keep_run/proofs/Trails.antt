-- What a stop may leave, over one call after another.
use Rattle.std.specs.Prelude.{take}
use Rattle.std.proofs.Common.{◌≡◌, ◌⊎◌, ℕ, zero, suc, List, [], ◌∷◌, ◌++◌, Option, None, Some, refl, sym, ap, ◌∙◌, subst, append-nil, append_assoc, inl, inr}
use Rattle.siri_outside.specs.OutsideCalls.{WhereTold}
use Rattle.siri_model.specs.History.{History}
use Rattle.siri_outside.specs.Rows.{Rows}
use Rattle.siri_outside.specs.Shelves.{ShelfState}
use Rattle.siri_keeping.specs.Keeping.{AddsOnly}
use Rattle.siri_keeping.specs.Keeps.{Keeps}
use Rattle.siri_keep.specs.Calls.{KeepsFront}
use Rattle.siri_keep.proofs.Alls.{all_weaker}
use Rattle.siri_keep.proofs.Fed.{all_appended}

-- ---- what is told of a shelf over two calls

pub told_then : {S : Type 0} (P Q R : S → S → Type 0) (x y z : Option S) → ((s t u : S) → P s t → Q t u → R s u)
    → WhereTold x y P → WhereTold y z Q → WhereTold x z R
told_then P Q R None y z f p q = tt
told_then P Q R (Some s) None z f p q = absurd p
told_then P Q R (Some s) (Some t) None f p q = absurd q
told_then P Q R (Some s) (Some t) (Some u) f p q = f s t u p q

pub told_pair : {S : Type 0} (P Q : S → S → Type 0) (x y : Option S) → WhereTold x y P → WhereTold x y Q → WhereTold x y (λ s t. P s t × Q s t)
told_pair P Q None y p q = tt
told_pair P Q (Some s) None p q = p
told_pair P Q (Some s) (Some t) p q = (p, q)

-- ---- fronts of steps

-- a front of some steps is one of these with more after them
front_more : (n : ℕ) (xs ys : History) → (m : ℕ) × (take m (xs ++ ys) ≡ take n xs)
front_more zero xs ys = (0, refl)
front_more (suc n) [] ys = (0, refl)
front_more (suc n) (x ∷ xs) ys = let f = front_more n xs ys in (suc f.0, ap (λ l. x ∷ l) f.1)

-- all of them with a front of more is one of both
front_after : (xs ys : History) (n : ℕ) → (m : ℕ) × (take m (xs ++ ys) ≡ xs ++ take n ys)
front_after [] ys n = (n, refl)
front_after (x ∷ xs) ys n = let f = front_after xs ys n in (suc f.0, ap (λ l. x ∷ l) f.1)

front_of_none : (n : ℕ) (xs : History) → xs ≡ [] → take n xs ≡ []
front_of_none zero xs none = refl
front_of_none (suc n) xs none = rw none refl

module _ (name : List ℕ) (h : History) where
  pub keeps_none : (xs : History) (rows : Rows) → Keeps name rows h → KeepsFront name h xs rows
  keeps_none xs rows k = (0, subst (Keeps name rows) (sym (append-nil h)) k)

  pub front_keeps_more : (xs ys : History) (rows : Rows) → KeepsFront name h xs rows → KeepsFront name h (xs ++ ys) rows
  front_keeps_more xs ys rows k = let f = front_more k.0 xs ys in (f.0, subst (λ l. Keeps name rows (h ++ l)) (sym f.1) k.1)

  pub front_keeps_after : (xs ys : History) (rows : Rows) → KeepsFront name (h ++ xs) ys rows → KeepsFront name h (xs ++ ys) rows
  front_keeps_after xs ys rows k =
      let f = front_after xs ys k.0 in
      (f.0, subst (Keeps name rows) (append_assoc h xs (take k.0 ys) ∙ ap (λ l. h ++ l) (sym f.1)) k.1)

  -- a front of nothing
  pub front_keeps_none : (rows : Rows) → KeepsFront name h [] rows → Keeps name rows h
  front_keeps_none rows k = subst (Keeps name rows) (ap (λ l. h ++ l) (front_of_none k.0 [] refl) ∙ append-nil h) k.1

-- all of the first
pub keeps_after : (name : List ℕ) (h xs ys : History) (rows : Rows) → Keeps name rows (h ++ xs) → KeepsFront name h (xs ++ ys) rows
keeps_after name h xs ys rows k = front_keeps_after name h xs ys rows (keeps_none name (h ++ xs) ys rows k)

-- ---- the rows that a stop may have left

pub adds_nothing : (B A : Rows → Type 0) (s : ShelfState) → B s.rows → AddsOnly B A s s
adds_nothing B A s b = record { added = []; trail = sym (append-nil s.trail); each = tt; present = inl b; named = refl }

pub adds_then : (B A C D E F : Rows → Type 0) → ((r : Rows) → (B r ⊎ A r) → (E r ⊎ F r)) → ((r : Rows) → (C r ⊎ D r) → (E r ⊎ F r))
    → (s t u : ShelfState) → AddsOnly B A s t → AddsOnly C D t u → AddsOnly E F s u
adds_then B A C D E F f g s t u a b = record {
  added = a.added ++ b.added;
  trail = b.trail ∙ ap (λ l. l ++ b.added) a.trail ∙ append_assoc s.trail a.added b.added;
  each = all_appended (λ r. E r ⊎ F r) a.added b.added (all_weaker (λ r. B r ⊎ A r) (λ r. E r ⊎ F r) f a.added a.each)
      (all_weaker (λ r. C r ⊎ D r) (λ r. E r ⊎ F r) g b.added b.each);
  present = g u.rows b.present;
  named = b.named ∙ a.named;
}

pub adds_as : (B A E F : Rows → Type 0) → ((r : Rows) → (B r ⊎ A r) → (E r ⊎ F r)) → (s t : ShelfState) → AddsOnly B A s t → AddsOnly E F s t
adds_as B A E F f s t a = record {
  added = a.added;
  trail = a.trail;
  each = all_weaker (λ r. B r ⊎ A r) (λ r. E r ⊎ F r) f a.added a.each;
  present = f t.rows a.present;
  named = a.named;
}

-- with a front of some steps, and then with a front of further ones
front_joins : (name : List ℕ) (h xs ys : History) (r : Rows) → (Keeps name r (h ++ xs) ⊎ KeepsFront name (h ++ xs) ys r)
    → Keeps name r h ⊎ KeepsFront name h (xs ++ ys) r
front_joins name h xs ys r (inl k) = inr (keeps_after name h xs ys r k)
front_joins name h xs ys r (inr k) = inr (front_keeps_after name h xs ys r k)

front_grows : (name : List ℕ) (h xs ys : History) (r : Rows) → (Keeps name r h ⊎ KeepsFront name h xs r)
    → Keeps name r h ⊎ KeepsFront name h (xs ++ ys) r
front_grows name h xs ys r (inl k) = inl k
front_grows name h xs ys r (inr k) = inr (front_keeps_more name h xs ys r k)

pub adds_front_then : (name : List ℕ) (h xs ys : History) (s t u : ShelfState)
    → AddsOnly (λ r. Keeps name r h) (KeepsFront name h xs) s t
    → AddsOnly (λ r. Keeps name r (h ++ xs)) (KeepsFront name (h ++ xs) ys) t u
    → AddsOnly (λ r. Keeps name r h) (KeepsFront name h (xs ++ ys)) s u
adds_front_then name h xs ys s t u a b =
    adds_then (λ r. Keeps name r h) (KeepsFront name h xs) (λ r. Keeps name r (h ++ xs)) (KeepsFront name (h ++ xs) ys)
    (λ r. Keeps name r h) (KeepsFront name h (xs ++ ys)) (front_grows name h xs ys) (front_joins name h xs ys) s t u a b
