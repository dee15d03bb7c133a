-- What holds of each of some.
use Rattle.std.proofs.Common.{ℕ, List, [], ◌∷◌, map, fold, Bool, true, false, cond, not, Result, Ok, Err}
use Rattle.std.specs.List.{AllByRecursion as All, All as Each, filter}
use Rattle.std.proofs.lemmas.List.Elements.{All-cons, All-head, All-nil, All-tail}
use Rattle.siri_subs.specs.declared.entry.Row.{Row}
use Rattle.siri_subs.specs.declared.errors.Accepted.{Accepted}
use Rattle.siri_subs.specs.declared.errors.Accepted.TheVariants as accepted_as
use Rattle.siri_subs.specs.declared.errors.AcceptError.{AcceptError}
use Rattle.siri_subs.specs.Table.{is_of, accepted, after, answer, ended, is_ended_by, put, without}

pub all_unmapped : {X Y : Type 0} (P : X → Type 0) (f : Y → X) (ys : List Y) → All P (map f ys) → All (λ y. P (f y)) ys
all_unmapped P f [] all = tt
all_unmapped P f (y ∷ ys) all = (all.0, all_unmapped P f ys all.1)

pub all_mapped : {X Y : Type 0} (P : X → Type 0) (f : Y → X) (ys : List Y) → All (λ y. P (f y)) ys → All P (map f ys)
all_mapped P f [] all = tt
all_mapped P f (y ∷ ys) all = (all.0, all_mapped P f ys all.1)

pub all_weaker : {X : Type 0} (P Q : X → Type 0) → ((x : X) → P x → Q x) → (xs : List X) → All P xs → All Q xs
all_weaker P Q f [] all = tt
all_weaker P Q f (x ∷ xs) all = (f x all.0, all_weaker P Q f xs all.1)

filtered_if : {X : Type 0} (P : X → Type 0) (p : X → Bool) (b : Bool) (x : X) (xs : List X) → P x → All P (filter p xs)
    → All P (cond b (x ∷ filter p xs) (filter p xs))
filtered_if P p true x xs one all = (one, all)
filtered_if P p false x xs one all = all

pub all_filtered : {X : Type 0} (P : X → Type 0) (p : X → Bool) (xs : List X) → All P xs → All P (filter p xs)
all_filtered P p [] all = tt
all_filtered P p (x ∷ xs) all = filtered_if P p (p x) x xs all.0 (all_filtered P p xs all.1)

-- the two forms of it
pub all_of_each : {X : Type 0} (P : X → Type 0) (xs : List X) → Each P xs → All P xs
all_of_each P [] each = tt
all_of_each P (x ∷ xs) each = (All-head P x xs each, all_of_each P xs (All-tail P x xs each))

pub each_of_all : {X : Type 0} (P : X → Type 0) (xs : List X) → All P xs → Each P xs
each_of_all P [] all = All-nil P
each_of_all P (x ∷ xs) all = All-cons P x xs all.0 (each_of_all P xs all.1)

-- requests for these subscriptions, one after the other
module _ {E : Type 0} (P : Row E → Type 0) where
  put_if : (b : Bool) (h g : Row E) (rows : List (Row E)) → P h → P g → All P rows → All P (put h rows)
      → All P (cond b (h ∷ rows) (g ∷ put h rows))
  put_if true h g rows new old all later = (new, all)
  put_if false h g rows new old all later = (old, later)

  put_all : (h : Row E) (rows : List (Row E)) → P h → All P rows → All P (put h rows)
  put_all h [] new all = (new, tt)
  put_all h (g ∷ rows) new all =
      put_if (is_of h.wanted.subscriber h.wanted.identifier g) h g rows new all.0 all.1 (put_all h rows new all.1)

  after_all : (r : Result Accepted AcceptError) (h : Row E) (rows : List (Row E)) → P h → All P rows
      → All P (after r h rows)
  after_all (Ok accepted_as.New) h rows new all = put_all h rows new all
  after_all (Ok accepted_as.Renewed) h rows new all = put_all h rows new all
  after_all (Ok accepted_as.Again) h rows new all = all
  after_all (Err refusal) h rows new all = all

  pub accepted_each : {A : Type 0} (now : ℕ) (row : A → Row E) (asked : List A) (rows : List (Row E))
      → All (λ wanted. P (row wanted)) asked → All P rows
      → All P (fold (λ rows wanted. accepted now (row wanted) rows) rows asked)
  accepted_each now row [] rows new all = all
  accepted_each now row (wanted ∷ asked) rows new all =
      accepted_each now row asked (accepted now (row wanted) rows)
      new.1 (after_all (answer now (row wanted) rows) (row wanted) rows new.0 all)

  ended_if : (b : Bool) (subscriber identifier : List ℕ) (rows : List (Row E)) → All P rows
      → All P (cond b (without subscriber identifier rows) rows)
  ended_if true subscriber identifier rows all = all_filtered P (λ h. not (is_of subscriber identifier h)) rows all
  ended_if false subscriber identifier rows all = all

  -- terminations, one after the other
  pub ended_each : (number : ℕ) (subscriber : List ℕ) (identifiers : List (List ℕ)) (rows : List (Row E)) → All P rows
      → All P (fold (λ rows identifier. ended number subscriber identifier rows) rows identifiers)
  ended_each number subscriber [] rows all = all
  ended_each number subscriber (identifier ∷ identifiers) rows all =
      ended_each number subscriber identifiers (ended number subscriber identifier rows)
      (ended_if (is_ended_by number subscriber identifier rows) subscriber identifier rows all)
