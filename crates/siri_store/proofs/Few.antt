-- Of each key the last mark: no more than there are keys.
use Rattle.std.proofs.Common.{◌≡◌, ℕ, ◌+◌, ◌≤◌, suc, List, [], ◌∷◌, length, filter, Bool, true, false, ◌||◌, nat_le}
use Rattle.std.proofs.Common.{refl, ap, sym, ◌∙◌, arith}
use Rattle.std.specs.BTreeSet.{insert_key}
use Rattle.std.specs.declared.cmp.Ordering.{Ordering}
use Rattle.std.specs.declared.cmp.Ordering.TheVariants.{Less, Equal, Greater}
use Rattle.siri_records.specs.declared.key.Key.{Key}
use Rattle.siri_records.specs.KeyLists.{is_among, in_order, with_keys}
use Rattle.siri_records.specs.Order.{key_cmp}
use Rattle.siri_records.proofs.KeyLists.{tied, same_keys, order_in_order, order_inserted, among_in_order}
use Rattle.siri_records.proofs.KeyLists.{among_inserted, length_with}
use Rattle.siri_store.proofs.Lasting.{keys_in, same_since}
use Rattle.siri_store.specs.Marked.{Rises, is_since, keys_since, last_of_each}

abbrev Mark : Type 0
Mark = ℕ × Key

-- ---- a key more

kept_case : (k x : Key) (xs : List Key) (o : Ordering) → key_cmp k x ≡ o
    → length xs ≤ length (insert_key key_cmp xs k) → length (x ∷ xs) ≤ length (insert_key key_cmp (x ∷ xs) k)
kept_case k x xs Less o rest = rw o (omega arith)
kept_case k x xs Equal o rest = rw o (omega arith)
kept_case k x xs Greater o rest = rw o (omega (arith, rest))

none_lost : (k : Key) (xs : List Key) → length xs ≤ length (insert_key key_cmp xs k)
none_lost k [] = omega arith
none_lost k (x ∷ xs) = kept_case k x xs (key_cmp k x) refl (none_lost k xs)

-- more keys are no fewer
pub none_fewer : (xs ks : List Key) → length xs ≤ length (with_keys xs ks)
none_fewer xs [] = omega arith
none_fewer xs (k ∷ ks) = omega (arith, none_lost k xs, none_fewer (insert_key key_cmp xs k) ks)

new_case : (k x : Key) (xs : List Key) (o : Ordering) → key_cmp k x ≡ o → is_among k (x ∷ xs) ≡ false
    → (is_among k xs ≡ false → length xs + 1 ≤ length (insert_key key_cmp xs k))
    → length (x ∷ xs) + 1 ≤ length (insert_key key_cmp (x ∷ xs) k)
new_case k x xs Less o none rest = rw o (omega arith)
new_case k x xs Equal o none rest = let no = rw o at none in absurd (cc no)
new_case k x xs Greater o none rest = let none_behind = rw o at none in rw o (omega (arith, rest none_behind))

one_more : (k : Key) (xs : List Key) → is_among k xs ≡ false → length xs + 1 ≤ length (insert_key key_cmp xs k)
one_more k [] none = omega arith
one_more k (x ∷ xs) none = new_case k x xs (key_cmp k x) refl none (one_more k xs)

-- ---- the keys of marks

with_first : (k : Key) (ks : List Key) → in_order (k ∷ ks) ≡ insert_key key_cmp (in_order ks) k
with_first k ks =
    same_keys (in_order (k ∷ ks)) (insert_key key_cmp (in_order ks) k) (order_in_order (k ∷ ks))
    (order_inserted k (in_order ks) (order_in_order ks))
    (λ q. among_in_order q (k ∷ ks)
    ∙ sym (among_inserted q k (in_order ks) ∙ ap (λ b. tied q k || b) (among_in_order q ks)))

few_case : (m : Mark) (log : List Mark) (b : Bool) → is_among m.1 (keys_in log) ≡ b
    → length (last_of_each log) ≤ length (in_order (keys_in log))
    → length (last_of_each (m ∷ log)) ≤ length (in_order (keys_in (m ∷ log)))
few_case m log true h rest =
    rw h (omega (arith, rest, ap length (with_first m.1 (keys_in log)), none_lost m.1 (in_order (keys_in log))))
few_case m log false h rest =
    let none = among_in_order m.1 (keys_in log) ∙ h in
    rw h (omega (arith, rest, ap length (with_first m.1 (keys_in log)), one_more m.1 (in_order (keys_in log)) none))

last_in_order : (log : List Mark) → length (last_of_each log) ≤ length (in_order (keys_in log))
last_in_order [] = omega arith
last_in_order (m ∷ log) = few_case m log (is_among m.1 (keys_in log)) refl (last_in_order log)

since_none : (log : List Mark) → filter (is_since 0) log ≡ log
since_none [] = refl
since_none (m ∷ log) =
    let since : nat_le 0 m.0 ≡ true = grind arith in
    rw since (ap (λ (l : List Mark). m ∷ l) (since_none log))

-- no more marks stay than keys are marked
pub few_last : (log : List Mark) → length (last_of_each log) ≤ length (keys_since log 0)
few_last log = omega (arith, last_in_order log, ap (λ (l : List Mark). length (in_order (keys_in l))) (since_none log))

shorter_case : (m : Mark) (log : List Mark) (b : Bool) → is_among m.1 (keys_in log) ≡ b
    → length (last_of_each log) ≤ length log → length (last_of_each (m ∷ log)) ≤ length (m ∷ log)
shorter_case m log true h rest = rw h (omega (arith, rest))
shorter_case m log false h rest = rw h (omega (arith, rest))

-- and no more than there were
pub no_more_last : (log : List Mark) → length (last_of_each log) ≤ length log
no_more_last [] = omega arith
no_more_last (m ∷ log) = shorter_case m log (is_among m.1 (keys_in log)) refl (no_more_last log)

-- ---- each key once

-- no key is marked twice
abbrev AreOnce : List Mark → Type 0
AreOnce [] = Unit {0}
AreOnce (m ∷ log) = (is_among m.1 (keys_in log) ≡ false) × AreOnce log

neither : (a b : Bool) → (a || b) ≡ false → (a ≡ false) × (b ≡ false)
neither false b h = (refl, h)
neither true b h = absurd (cc h)

none_here : (a b : Bool) → a ≡ false → b ≡ false → (a || b) ≡ false
none_here a b h none = rw h none

-- a key that isn't marked isn't among those of some of the marks
none_last_case : (q : Key) (m : Mark) (log : List Mark) (b : Bool) → is_among m.1 (keys_in log) ≡ b
    → is_among q (keys_in (m ∷ log)) ≡ false → is_among q (keys_in (last_of_each log)) ≡ false
    → is_among q (keys_in (last_of_each (m ∷ log))) ≡ false
none_last_case q m log true h none rest = rw h rest
none_last_case q m log false h none rest =
    rw h (none_here (tied q m.1) (is_among q (keys_in (last_of_each log))) (neither (tied q m.1) (is_among q (keys_in log)) none).0 rest)

none_last : (q : Key) (log : List Mark) → is_among q (keys_in log) ≡ false → is_among q (keys_in (last_of_each log)) ≡ false
none_last q [] none = refl
none_last q (m ∷ log) none = none_last_case q m log (is_among m.1 (keys_in log)) refl none
    (none_last q log (neither (tied q m.1) (is_among q (keys_in log)) none).1)

none_passing_case : (p : Mark → Bool) (q : Key) (m : Mark) (log : List Mark) (b : Bool) → p m ≡ b
    → is_among q (keys_in (m ∷ log)) ≡ false → is_among q (keys_in (filter p log)) ≡ false
    → is_among q (keys_in (filter p (m ∷ log))) ≡ false
none_passing_case p q m log true h none rest =
    rw h (none_here (tied q m.1) (is_among q (keys_in (filter p log))) (neither (tied q m.1) (is_among q (keys_in log)) none).0 rest)
none_passing_case p q m log false h none rest = rw h rest

none_passing : (p : Mark → Bool) (q : Key) (log : List Mark) → is_among q (keys_in log) ≡ false
    → is_among q (keys_in (filter p log)) ≡ false
none_passing p q [] none = refl
none_passing p q (m ∷ log) none = none_passing_case p q m log (p m) refl none
    (none_passing p q log (neither (tied q m.1) (is_among q (keys_in log)) none).1)

once_last_case : (m : Mark) (log : List Mark) (b : Bool) → is_among m.1 (keys_in log) ≡ b → AreOnce (last_of_each log)
    → AreOnce (last_of_each (m ∷ log))
once_last_case m log true h rest = rw h rest
once_last_case m log false h rest = rw h (none_last m.1 log h, rest)

once_last : (log : List Mark) → AreOnce (last_of_each log)
once_last [] = tt
once_last (m ∷ log) = once_last_case m log (is_among m.1 (keys_in log)) refl (once_last log)

once_passing_case : (p : Mark → Bool) (m : Mark) (log : List Mark) (b : Bool) → p m ≡ b → AreOnce (m ∷ log)
    → AreOnce (filter p log) → AreOnce (filter p (m ∷ log))
once_passing_case p m log true h once rest = rw h (none_passing p m.1 log once.0, rest)
once_passing_case p m log false h once rest = rw h rest

once_passing : (p : Mark → Bool) (log : List Mark) → AreOnce log → AreOnce (filter p log)
once_passing p [] once = tt
once_passing p (m ∷ log) once = once_passing_case p m log (p m) refl once (once_passing p log once.1)

once_few : (log : List Mark) → AreOnce log → length log ≤ length (in_order (keys_in log))
once_few [] once = omega arith
once_few (m ∷ log) once =
    let none = among_in_order m.1 (keys_in log) ∙ once.0 in
    omega (arith, once_few log once.1, ap length (with_first m.1 (keys_in log)), one_more m.1 (in_order (keys_in log)) none)

keys_length : (log : List Mark) → length (keys_in log) ≡ length log
keys_length [] = refl
keys_length (m ∷ log) = ap suc (keys_length log)

-- of each key the last mark: as many from a number on as keys were marked since then
pub one_each : (top : ℕ) (log : List Mark) (n : ℕ) → Rises top log
    → length (filter (is_since n) (last_of_each log)) ≡ length (keys_since log n)
one_each top log n rises =
    let marks = filter (is_since n) (last_of_each log) in
    let few = once_few marks (once_passing (is_since n) (last_of_each log) (once_last log)) in
    let all : length marks ≡ length (in_order (keys_in marks)) =
    omega (arith, few, length_with [] (keys_in marks), keys_length marks) in
    all ∙ ap length (same_since top log n rises)
