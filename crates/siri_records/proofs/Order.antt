-- The derived order of keys is the stated one, which is total, and by which keys that tie are one.
use Rattle.std.proofs.Common.{◌≡◌, None, Some, refl, ap, arith}
use Rattle.std.specs.declared.cmp.Ordering.{Ordering}
use Rattle.std.specs.declared.cmp.Ordering.TheVariants.{Less, Equal, Greater}
use Rattle.std.specs.Ordering.{ordering_then, nat_cmp}
use Rattle.std.specs.Cmp.{tied_itself}
use Rattle.std.specs.Cmp.Lexicographic.{slice_cmp}
use Rattle.std.specs.FinMap.{IsAntisymmetric, nat_cmp-IsAntisymmetric, slice_cmp-IsAntisymmetric}
use Rattle.siri_records.specs.declared.key.Key.{Key}
use Rattle.siri_records.specs.declared.key.Key.TheVariants.{Visit, Journey, Vehicle, Situation}
use Rattle.siri_records.specs.contracts.key.KeyOrd.TheImpl.{cmp-value}
use Rattle.siri_records.specs.Order.{rank, names, name_cmp, key_cmp, key_cmp_total}

-- an order, and then no more
last : (o : Ordering) → o ≡ ordering_then o Equal
last Less = refl
last Equal = refl
last Greater = refl

same_cmp : (a b : Key) → cmp-value.it a b ≡ key_cmp a b
same_cmp (Visit m i) (Visit n j) = ap (ordering_then (slice_cmp nat_cmp m n)) (last (slice_cmp nat_cmp i j))
same_cmp (Journey l d f j) (Journey m e g k) =
    ap (λ o. ordering_then (slice_cmp nat_cmp l m) (ordering_then (name_cmp d e) (ordering_then (name_cmp f g) o))) (last (slice_cmp nat_cmp j k))
same_cmp (Vehicle v) (Vehicle w) = last (slice_cmp nat_cmp v w)
same_cmp (Situation p n) (Situation q m) = ap (ordering_then (name_cmp p q)) (last (slice_cmp nat_cmp n m))
same_cmp (Visit m i) (Journey l d f j) = refl
same_cmp (Visit m i) (Vehicle v) = refl
same_cmp (Visit m i) (Situation p n) = refl
same_cmp (Journey l d f j) (Visit m i) = refl
same_cmp (Journey l d f j) (Vehicle v) = refl
same_cmp (Journey l d f j) (Situation p n) = refl
same_cmp (Vehicle v) (Visit m i) = refl
same_cmp (Vehicle v) (Journey l d f j) = refl
same_cmp (Vehicle v) (Situation p n) = refl
same_cmp (Situation p n) (Visit m i) = refl
same_cmp (Situation p n) (Journey l d f j) = refl
same_cmp (Situation p n) (Vehicle v) = refl

-- what `cmp` of keys answers
pub cmp_is_key_cmp : cmp-value.it ≡ key_cmp
cmp_is_key_cmp = λ i a b. same_cmp a b i

-- names that tie are one
name_cmp_exact : IsAntisymmetric name_cmp
name_cmp_exact None None e = refl
name_cmp_exact (Some a) (Some b) e = ap Some (slice_cmp-IsAntisymmetric nat_cmp-IsAntisymmetric a b e)
name_cmp_exact None (Some b) e = cc
name_cmp_exact (Some a) None e = cc

-- keys with one list of names and of one kind are one
names_exact : (a b : Key) → rank a ≡ rank b → names a ≡ names b → a ≡ b
names_exact (Visit m i) (Visit n j) r e = cc
names_exact (Journey l d f j) (Journey m e' g k) r e = cc
names_exact (Vehicle v) (Vehicle w) r e = cc
names_exact (Situation p n) (Situation q m) r e = cc
names_exact (Visit m i) (Journey l d f j) r e = absurd (omega arith)
names_exact (Visit m i) (Vehicle v) r e = absurd (omega arith)
names_exact (Visit m i) (Situation p n) r e = absurd (omega arith)
names_exact (Journey l d f j) (Visit m i) r e = absurd (omega arith)
names_exact (Journey l d f j) (Vehicle v) r e = absurd (omega arith)
names_exact (Journey l d f j) (Situation p n) r e = absurd (omega arith)
names_exact (Vehicle v) (Visit m i) r e = absurd (omega arith)
names_exact (Vehicle v) (Journey l d f j) r e = absurd (omega arith)
names_exact (Vehicle v) (Situation p n) r e = absurd (omega arith)
names_exact (Situation p n) (Visit m i) r e = absurd (omega arith)
names_exact (Situation p n) (Journey l d f j) r e = absurd (omega arith)
names_exact (Situation p n) (Vehicle v) r e = absurd (omega arith)

-- where two orders one after the other tie, each does
ties : (o p : Ordering) → ordering_then o p ≡ Equal → (o ≡ Equal) × (p ≡ Equal)
ties Equal p e = (refl, e)
ties Less p e = cc
ties Greater p e = cc

-- keys that tie are one
pub key_cmp_exact : IsAntisymmetric key_cmp
key_cmp_exact a b e =
    let t : (nat_cmp (rank a) (rank b) ≡ Equal) × (slice_cmp name_cmp (names a) (names b) ≡ Equal) = ties _ _ e in
    names_exact a b (nat_cmp-IsAntisymmetric _ _ t.0) (slice_cmp-IsAntisymmetric name_cmp_exact _ _ t.1)

-- a key ties with itself
pub key_cmp_same : (a : Key) → key_cmp a a ≡ Equal
key_cmp_same a = tied_itself key_cmp_total a
