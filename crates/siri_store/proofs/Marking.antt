-- Numbers of marks never fall.
use Rattle.std.proofs.Common.{◌≡◌, ℕ, suc, zero, add-one, ◌≤◌, ◌<◌, ◌+◌, List, [], ◌∷◌, ◌++◌, length, Bool, true}
use Rattle.std.proofs.Common.{false, cond, refl, ap, sym, ◌∙◌, arith, filter, map, drop, ltb, get_or}
use Rattle.std.specs.List.{AllByRecursion, AllWithin}
use Rattle.std.specs.List.Sorted.{IsNonDecreasingBy}
use Rattle.siri_records.specs.declared.key.Key.{Key}
use Rattle.siri_records.specs.KeyLists.{in_order, is_among}
use Rattle.siri_records.proofs.KeyLists.{first_among, among_in_order}
use Rattle.siri_store.specs.Marked.{Rises, is_since, keys_since}

abbrev pub Mark : Type 0
Mark = ℕ × Key

pub rises_to : (top more : ℕ) (log : List Mark) → top ≤ more → Rises top log → Rises more log
rises_to top more [] le rises = tt
rises_to top more (mark ∷ log) le rises = (omega (arith, le, rises.0), rises.1, rises_to top more log le rises.2)

all_push : (least : ℕ) (log : List Mark) (mark : Mark) → AllByRecursion (λ later. least ≤ later.0) log → least ≤ mark.0
    → AllByRecursion (λ later. least ≤ later.0) (log ++ mark ∷ [])
all_push least [] mark all le = (le, tt)
all_push least (m ∷ log) mark all le = (all.0, all_push least log mark all.1 le)

-- a mark under the greatest number may follow
pub rises_push : (top : ℕ) (log : List Mark) (key : Key) → Rises top log → Rises top (log ++ (top, key) ∷ [])
rises_push top [] key rises = (omega arith, tt, tt)
rises_push top (mark ∷ log) key rises =
    (rises.0, all_push mark.0 log (top, key) rises.1 rises.0, rises_push top log key rises.2)

-- ---- the marks from a number on

-- ---- the place of the first mark from a number on

at_least : (least : ℕ) (log : List Mark) (place : ℕ) (default : Mark) → AllByRecursion (λ later. least ≤ later.0) log
    → place < length log → least ≤ (get_or log place default).0
at_least least [] place default all lt = absurd (omega (arith, lt))
at_least least (m ∷ log) zero default all lt = all.0
at_least least (m ∷ log) (suc place) default all lt = at_least least log place default all.1 (omega (arith, lt))

pub rising : (top : ℕ) (log : List Mark) → Rises top log → IsNonDecreasingBy (λ (mark : Mark). mark.0) log
rising top [] rises i j default le lt = absurd (omega (arith, lt))
rising top (m ∷ log) rises zero zero default le lt = omega arith
rising top (m ∷ log) rises zero (suc j) default le lt = at_least m.0 log j default rises.1 (omega (arith, lt))
rising top (m ∷ log) rises (suc i) zero default le lt = absurd (omega (arith, le))
rising top (m ∷ log) rises (suc i) (suc j) default le lt =
    rising top log rises.2 i j default (omega (arith, le)) (omega (arith, lt))

-- where those before a place are under earlier numbers and the others aren't, the others are those from the number on
pub rest_since : (number : ℕ) (log : List Mark) (place : ℕ) → place ≤ length log
    → AllWithin (λ mark. ltb mark.0 number ≡ true) log 0 place
    → AllWithin (λ mark. ltb mark.0 number ≡ false) log place (length log)
    → drop place log ≡ filter (is_since number) log
rest_since number [] zero within before after = refl
rest_since number [] (suc place) within before after = absurd (omega (arith, within))
rest_since number (m ∷ log) zero within before after =
    let there = after 0 m (omega arith) (omega arith) in
    let since : is_since number m ≡ true = grind (arith, there) in
    rw since (ap (λ l. m ∷ l) (rest_since number log zero (omega arith) (λ k d low high. absurd (omega (arith, high)))
    (λ k d low high. after (suc k) d (omega arith) (omega (arith, high)))))
rest_since number (m ∷ log) (suc place) within before after =
    let there = before 0 m (omega arith) (omega arith) in
    let off : is_since number m ≡ false = grind (arith, there) in
    rw off (rest_since number log place (omega (arith, within))
    (λ k d low high. before (suc k) d (omega arith) (omega (arith, high)))
    (λ k d low high. after (suc k) d (omega (arith, low)) (omega (arith, high))))

pub length_push : (log : List Mark) (mark : Mark) → length (log ++ mark ∷ []) ≡ length log + 1
length_push [] mark = refl
length_push (m ∷ log) mark = omega (arith, length_push log mark)

dropped : (log : List Mark) (i : ℕ) (mark : Mark) → i < length log → mark ≡ get_or log i mark
    → drop i log ≡ mark ∷ drop (suc i) log
dropped [] i mark lt is = absurd (omega (arith, lt))
dropped (m ∷ log) zero mark lt is = ap (λ x. x ∷ log) (sym is)
dropped (m ∷ log) (suc i) mark lt is = dropped log i mark (omega (arith, lt)) is

pub drop_here : (log : List Mark) (i : ℕ) (mark : Mark) → i < length log → mark ≡ get_or log i mark
    → drop i log ≡ mark ∷ drop (i + 1) log
drop_here log i mark lt is = rw add-one (dropped log i mark lt is)

-- ---- without the marks before a number

later_case : (number n : ℕ) (mark : Mark) (log : List Mark) (since : Bool) → is_since number mark ≡ since → number ≤ n
    → filter (is_since n) (filter (is_since number) log) ≡ filter (is_since n) log
    → filter (is_since n) (filter (is_since number) (mark ∷ log)) ≡ filter (is_since n) (mark ∷ log)
later_case number n mark log true since le rest = rw since (ap (λ l. cond (is_since n mark) (mark ∷ l) l) rest)
later_case number n mark log false since le rest =
    let off : is_since n mark ≡ false = grind (arith, le, since) in
    rw (since, off) rest

-- those from a later number on are the same
pub later_stay : (number n : ℕ) (log : List Mark) → number ≤ n
    → filter (is_since n) (filter (is_since number) log) ≡ filter (is_since n) log
later_stay number n [] le = refl
later_stay number n (mark ∷ log) le =
    later_case number n mark log (is_since number mark) refl le (later_stay number n log le)

none_case : (number n : ℕ) (mark : Mark) (log : List Mark) (from there : Bool) → is_since n mark ≡ from
    → is_since number mark ≡ there → filter (is_since n) (mark ∷ log) ≡ []
    → (filter (is_since n) log ≡ [] → filter (is_since n) (filter (is_since number) log) ≡ [])
    → filter (is_since n) (filter (is_since number) (mark ∷ log)) ≡ []
none_case number n mark log true there since kept none rest = let no = rw since at none in absurd (cc no)
none_case number n mark log false true since kept none rest =
    let none_behind = rw since at none in rw (kept, since) (rest none_behind)
none_case number n mark log false false since kept none rest =
    let none_behind = rw since at none in rw kept (rest none_behind)

-- where none was from a number on, none is
pub none_stay : (number n : ℕ) (log : List Mark) → filter (is_since n) log ≡ []
    → filter (is_since n) (filter (is_since number) log) ≡ []
none_stay number n [] none = refl
none_stay number n (mark ∷ log) none =
    none_case number n mark log (is_since n mark) (is_since number mark) refl refl none (none_stay number n log)

-- where no keys were marked, there are no marks
no_marks : (marks : List Mark) → in_order (map (λ (mark : Mark). mark.1) marks) ≡ [] → marks ≡ []
no_marks [] none = refl
no_marks (mark ∷ marks) none =
    let keys = map (λ (m : Mark). m.1) (mark ∷ marks) in
    let among = sym (among_in_order mark.1 keys) ∙ ap (is_among mark.1) none in
    absurd (cc (sym (first_among mark.1 (map (λ (m : Mark). m.1) marks)) ∙ among))

pub no_keys_stay : (number n : ℕ) (log : List Mark) → keys_since log n ≡ []
    → keys_since (filter (is_since number) log) n ≡ []
no_keys_stay number n log none =
    ap (λ (marks : List Mark). in_order (map (λ mark. mark.1) marks))
    (none_stay number n log (no_marks (filter (is_since n) log) none))
