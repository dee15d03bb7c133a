-- Of each key the last mark: the same keys are marked from each number on.
use Rattle.std.proofs.Common.{◌≡◌, ℕ, ◌≤◌, List, [], ◌∷◌, map, filter, Bool, true, false, ◌&&◌, ◌||◌, nat_le, not}
use Rattle.std.proofs.Common.{drop, length, get_or, ◌<◌, ◌-◌, ◌+◌}
use Rattle.std.proofs.Common.{refl, ap, sym, ◌∙◌, arith}
use Rattle.std.specs.BTreeSet.{insert_key}
use Rattle.std.specs.List.{AllByRecursion, list_any}
use Rattle.siri_records.specs.declared.key.Key.{Key}
use Rattle.siri_records.specs.KeyLists.{is_among}
use Rattle.siri_records.specs.Order.{key_cmp}
use Rattle.siri_records.proofs.KeyLists.{tied, one_key, among_inserted, same_in_order}
use Rattle.siri_store.proofs.Marking.{drop_here}
use Rattle.siri_store.specs.Marked.{Rises, is_since, keys_since, last_of_each}

abbrev Mark : Type 0
Mark = ℕ × Key

abbrev pub keys_in : List Mark → List Key
keys_in log = map (λ mark. mark.1) log

-- a key was marked under a number or a later one
abbrev is_marked : Key → ℕ → List Mark → Bool
is_marked q n log = list_any (λ m. is_since n m && tied q m.1) log

among_since_case : (q : Key) (n : ℕ) (m : Mark) (log : List Mark) (b : Bool) → is_since n m ≡ b
    → is_among q (keys_in (filter (is_since n) log)) ≡ is_marked q n log
    → is_among q (keys_in (filter (is_since n) (m ∷ log))) ≡ is_marked q n (m ∷ log)
among_since_case q n m log true h rest = rw h (ap (λ b. tied q m.1 || b) rest)
among_since_case q n m log false h rest = rw h rest

among_since : (q : Key) (n : ℕ) (log : List Mark) → is_among q (keys_in (filter (is_since n) log)) ≡ is_marked q n log
among_since q n [] = refl
among_since q n (m ∷ log) = among_since_case q n m log (is_since n m) refl (among_since q n log)

-- ---- a key that is marked again

and_true : (a : Bool) → a ≡ true → (b : Bool) → (a && b) ≡ b
and_true true h b = refl
and_true false h b = absurd (cc h)

-- where a mark comes after one of the same key, it is under that number or a later one
again_case : (q : Key) (n : ℕ) (least : ℕ) (m : Mark) (log : List Mark) (t : Bool) → nat_le n least ≡ true → least ≤ m.0
    → tied q m.1 ≡ t
    → (t || is_among q (keys_in log)) ≡ true → (is_among q (keys_in log) ≡ true → is_marked q n log ≡ true)
    → is_marked q n (m ∷ log) ≡ true
again_case q n least m log true since le h among rest =
    let later : nat_le n m.0 ≡ true = grind (arith, since, le) in
    rw later (rw h refl)
again_case q n least m log false since le h among rest =
    let later : nat_le n m.0 ≡ true = grind (arith, since, le) in
    rw later (rw h (rest among))

again : (q : Key) (n least : ℕ) (log : List Mark) → nat_le n least ≡ true
    → AllByRecursion (λ later. least ≤ later.0) log
    → is_among q (keys_in log) ≡ true → is_marked q n log ≡ true
again q n least [] since all among = absurd (cc among)
again q n least (m ∷ log) since all among =
    again_case q n least m log (tied q m.1) since all.0 refl among (again q n least log since all.1)

-- so the earlier mark may go
spare_case : (q : Key) (n : ℕ) (m : Mark) (log : List Mark) (s t : Bool) → is_since n m ≡ s → tied q m.1 ≡ t
    → AllByRecursion (λ later. m.0 ≤ later.0) log → is_among m.1 (keys_in log) ≡ true
    → is_marked q n log ≡ ((s && t) || is_marked q n log)
spare_case q n m log true true since tie all among =
    again q n m.0 log since all (ap (λ k. is_among k (keys_in log)) (one_key q m.1 tie) ∙ among)
spare_case q n m log true false since tie all among = refl
spare_case q n m log false t since tie all among = refl

spare : (q : Key) (n : ℕ) (m : Mark) (log : List Mark) → AllByRecursion (λ later. m.0 ≤ later.0) log
    → is_among m.1 (keys_in log) ≡ true
    → is_marked q n log ≡ is_marked q n (m ∷ log)
spare q n m log all among = spare_case q n m log (is_since n m) (tied q m.1) refl refl all among

-- ---- of each key the last mark

marked_last_case : (top : ℕ) (q : Key) (n : ℕ) (m : Mark) (log : List Mark) (b : Bool) → is_among m.1 (keys_in log) ≡ b
    → Rises top (m ∷ log)
    → is_marked q n (last_of_each log) ≡ is_marked q n log
    → is_marked q n (last_of_each (m ∷ log)) ≡ is_marked q n (m ∷ log)
marked_last_case top q n m log true h rises rest = rw h (rest ∙ spare q n m log rises.1 h)
marked_last_case top q n m log false h rises rest = rw h (ap (λ b. (is_since n m && tied q m.1) || b) rest)

marked_last : (top : ℕ) (q : Key) (n : ℕ) (log : List Mark) → Rises top log
    → is_marked q n (last_of_each log) ≡ is_marked q n log
marked_last top q n [] rises = refl
marked_last top q n (m ∷ log) rises =
    marked_last_case top q n m log (is_among m.1 (keys_in log)) refl rises (marked_last top q n log rises.2)

-- the same keys are marked from each number on
pub same_since : (top : ℕ) (log : List Mark) (n : ℕ) → Rises top log
    → keys_since (last_of_each log) n ≡ keys_since log n
same_since top log n rises =
    same_in_order (keys_in (filter (is_since n) (last_of_each log))) (keys_in (filter (is_since n) log))
    (λ q. among_since q n (last_of_each log) ∙ (marked_last top q n log rises ∙ sym (among_since q n log)))

all_last_case : (least : ℕ) (m : Mark) (log : List Mark) (b : Bool) → is_among m.1 (keys_in log) ≡ b → least ≤ m.0
    → AllByRecursion (λ later. least ≤ later.0) (last_of_each log)
    → AllByRecursion (λ later. least ≤ later.0) (last_of_each (m ∷ log))
all_last_case least m log true h le rest = rw h rest
all_last_case least m log false h le rest = rw h (le, rest)

all_last : (least : ℕ) (log : List Mark) → AllByRecursion (λ later. least ≤ later.0) log
    → AllByRecursion (λ later. least ≤ later.0) (last_of_each log)
all_last least [] all = tt
all_last least (m ∷ log) all =
    all_last_case least m log (is_among m.1 (keys_in log)) refl all.0 (all_last least log all.1)

rises_last_case : (top : ℕ) (m : Mark) (log : List Mark) (b : Bool) → is_among m.1 (keys_in log) ≡ b
    → Rises top (m ∷ log)
    → Rises top (last_of_each log) → Rises top (last_of_each (m ∷ log))
rises_last_case top m log true h rises rest = rw h rest
rises_last_case top m log false h rises rest = rw h (rises.0, all_last m.0 log rises.1, rest)

-- and numbers never fall
pub rises_last : (top : ℕ) (log : List Mark) → Rises top log → Rises top (last_of_each log)
rises_last top [] rises = tt
rises_last top (m ∷ log) rises =
    rises_last_case top m log (is_among m.1 (keys_in log)) refl rises (rises_last top log rises.2)

-- ---- from the end of the log on

pub drop_before : (log : List Mark) (place : ℕ) (mark : Mark) → 0 < place → place ≤ length log
    → mark ≡ get_or log (place - 1) mark
    → drop (place - 1) log ≡ mark ∷ drop place log
drop_before log place mark some within is =
    let next : place - 1 + 1 ≡ place = omega (arith, some) in
    drop_here log (place - 1) mark (omega (arith, some, within)) is ∙ ap (λ p. mark ∷ drop p log) next

not_true : (b : Bool) → not b ≡ true → b ≡ false
not_true true h = absurd (cc h)
not_true false h = refl

not_false : (b : Bool) → not b ≡ false → b ≡ true
not_false true h = refl
not_false false h = absurd (cc h)

module _ (rest last : List Mark) (m : Mark) (seen : List Key)
    (all : (q : Key) → is_among q seen ≡ is_among q (keys_in rest)) where
  pub seen_more : (q : Key) → is_among q (insert_key key_cmp seen m.1) ≡ is_among q (keys_in (m ∷ rest))
  seen_more q = among_inserted q m.1 seen ∙ ap (λ b. tied q m.1 || b) (all q)

  -- a key that wasn't seen
  pub one_more_last : not (is_among m.1 seen) ≡ true → last ≡ last_of_each rest → m ∷ last ≡ last_of_each (m ∷ rest)
  one_more_last anew is =
      let out : is_among m.1 (keys_in rest) ≡ false = sym (all m.1) ∙ not_true (is_among m.1 seen) anew in
      rw out (ap (λ l. m ∷ l) is)

  -- one that was
  pub no_more_last : not (is_among m.1 seen) ≡ false → last ≡ last_of_each rest → last ≡ last_of_each (m ∷ rest)
  no_more_last again is =
      let among : is_among m.1 (keys_in rest) ≡ true = sym (all m.1) ∙ not_false (is_among m.1 seen) again in
      rw among is
