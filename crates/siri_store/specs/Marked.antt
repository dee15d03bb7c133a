-- Marks in the order in which they were set, each under a number.
use Rattle.std.specs.Prelude.{◌≡◌, ℕ, suc, ◌<◌, ◌≤◌, max, length, List, [], ◌∷◌, ◌++◌, map, filter, nat_le, Bool}
use Rattle.std.specs.Prelude.{if◌then◌else◌}
use Rattle.std.specs.List.{AllByRecursion}
use Rattle.std.specs.BTreeSet.{insert_key}
use Rattle.siri_records.specs.declared.key.Key.{Key}
use Rattle.siri_records.specs.KeyLists.{in_order, is_among, with_keys}
use Rattle.siri_records.specs.Order.{key_cmp}

-- the marks, the number under which keys are marked now, and for how many more marks there is room
pub record Marked : Type 0 where
  pub log : List (ℕ × Key)
  pub number : ℕ
  pub room : ℕ

-- no key is marked, and there is room for none
abbrev pub unmarked : Marked
unmarked = record { log = []; number = 0; room = 0 }

abbrev pub is_since : ℕ → ℕ × Key → Bool
is_since number mark = nat_le number mark.0

-- the keys that were marked under a number or a later one, in order, each once
abbrev pub keys_since : List (ℕ × Key) → ℕ → List Key
keys_since log number = in_order (map (λ mark. mark.1) (filter (is_since number) log))

-- of each key the last mark
abbrev pub last_of_each : List (ℕ × Key) → List (ℕ × Key)
last_of_each [] = []
last_of_each (mark ∷ log) =
    if is_among mark.1 (map (λ later. later.1) log) then last_of_each log else mark ∷ last_of_each log

-- from a number on the same keys are marked
abbrev pub SameFrom : ℕ → Marked → Marked → Type 0
SameFrom number old new = (n : ℕ) → number ≤ n → keys_since new.log n ≡ keys_since old.log n

-- of each key the last mark alone, with room for so many more: from each number on the same keys are marked, each by one mark
pub record IsLast (old : Marked) (more : ℕ) (last : Marked) : Type 0 where
  pub log : last.log ≡ last_of_each old.log
  pub number : last.number ≡ old.number
  pub room : more ≤ last.room
  pub same : SameFrom 0 old last
  pub once : (n : ℕ) → length (filter (is_since n) last.log) ≡ length (keys_since old.log n)

-- where memory was to be taken for so many marks more, no more are kept than that, or than keys are marked
abbrev pub IsFew : ℕ → Marked → Marked → Type 0
IsFew more old new = old.room < more → length new.log ≤ max more (length (keys_since old.log 0))

-- numbers never fall, and none is above one
abbrev pub Rises : ℕ → List (ℕ × Key) → Type 0
Rises top [] = Unit {0}
Rises top (mark ∷ log) = (mark.0 ≤ top) × AllByRecursion (λ later. mark.0 ≤ later.0) log × Rises top log

-- a mark under a number touches its key from each number on that isn't after it, and so do many; a new number has no
-- marks yet
pub record MarksTouch : Type 0 where
  pub touched : (log : List (ℕ × Key)) (m : ℕ) (key : Key) (n : ℕ) → n ≤ m
      → keys_since (log ++ (m, key) ∷ []) n ≡ insert_key key_cmp (keys_since log n) key
  pub touched_all : (log : List (ℕ × Key)) (m : ℕ) (keys : List Key) (n : ℕ) → n ≤ m
      → keys_since (log ++ map (λ key. (m, key)) keys) n ≡ with_keys (keys_since log n) keys
  pub anew : (log : List (ℕ × Key)) (top : ℕ) → Rises top log → keys_since log (suc top) ≡ []
