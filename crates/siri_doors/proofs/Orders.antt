-- The order of the turns and the connections of each slot are all that there is.
use Rattle.siri_doors.specs.Decisions.{slots}
use Rattle.siri_doors.specs.Gathered.{Asking}
use Rattle.siri_doors.specs.Orders.{asking_in}
use Rattle.std.specs.Prelude.{nat_eq}
use Rattle.std.proofs.Common.{◌≡◌, ℕ, List, [], ◌∷◌, Bool, true, false, refl, sym, ap, ◌∙◌}
use Rattle.std.proofs.lemmas.Bool.{eq-eqb}

tail_of : List Asking → List Asking
tail_of [] = []
tail_of (first ∷ later) = later

-- the first of both is the same
first_same : (x y : Asking) (xs ys : List Asking) → x.slot ≡ y.slot
    → ((slot : ℕ) → asking_in slot (x ∷ xs) ≡ asking_in slot (y ∷ ys)) → x ≡ y
first_same x y xs ys is same =
    let here : nat_eq x.slot x.slot ≡ true = eq-eqb x.slot x.slot refl in
    let there : nat_eq y.slot x.slot ≡ true = ap (λ s. nat_eq s x.slot) (sym is) ∙ here in
    let both : x ∷ asking_in x.slot xs ≡ y ∷ asking_in x.slot ys = rw (here, there) at (same x.slot) in
    cc both

later_by : (b : Bool) (x y : Asking) (xs ys : List Asking) (slot : ℕ) → nat_eq x.slot slot ≡ b → x.slot ≡ y.slot
    → asking_in slot (x ∷ xs) ≡ asking_in slot (y ∷ ys) → asking_in slot xs ≡ asking_in slot ys
later_by true x y xs ys slot here is same =
    let there : nat_eq y.slot slot ≡ true = ap (λ s. nat_eq s slot) (sym is) ∙ here in
    let both : x ∷ asking_in slot xs ≡ y ∷ asking_in slot ys = rw (here, there) at same in
    cc both
later_by false x y xs ys slot here is same =
    let there : nat_eq y.slot slot ≡ false = ap (λ s. nat_eq s slot) (sym is) ∙ here in
    rw (here, there) at same

pub same_list : (xs ys : List Asking) → ((slot : ℕ) → asking_in slot xs ≡ asking_in slot ys) → slots xs ≡ slots ys → xs ≡ ys
same_list [] [] same order = refl
same_list [] (y ∷ ys) same order = absurd (cc order)
same_list (x ∷ xs) [] same order = absurd (cc order)
same_list (x ∷ xs) (y ∷ ys) same order =
    let is : x.slot ≡ y.slot = cc order in
    let more : slots xs ≡ slots ys = cc order in
    let first = first_same x y xs ys is same in
    let later = same_list xs ys (λ slot. later_by (nat_eq x.slot slot) x y xs ys slot refl is (same slot)) more in
    λ i. first i ∷ later i
