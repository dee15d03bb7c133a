-- What is current: each item under its own key, few of them live, and of each key the last that was taken.
use Rattle.std.proofs.Common.{◌≡◌, ℕ, suc, ◌+◌, ◌≤◌, List, [], ◌∷◌, ◌++◌, length, fold, filter, Option, None, Some, is_some, Bool, true}
use Rattle.std.proofs.Common.{false, ◌&&◌, not, nat_le, cond, max, refl, sym, ap, ◌∙◌, arith, append_assoc, append-nil}
use Rattle.std.specs.Prelude.{if◌then◌else◌, unwrap_or, option_map}
use Rattle.std.specs.Cmp.{IsTotalOrder}
use Rattle.std.specs.List.{sum_by, last_or}
use Rattle.std.specs.List.Sorted.{IsStrictlySortedBy}
use Rattle.std.specs.Map.{keys_of, values_of, lookup, remove_entry}
use Rattle.std.specs.BTreeMap.{insert_entry, is_at}
use Rattle.std.specs.Ordering.{is_eq}
use Rattle.std.specs.declared.cmp.Ordering.{Ordering}
use Rattle.std.specs.declared.cmp.Ordering.TheVariants.{Less, Equal, Greater}
use Rattle.std.proofs.lemmas.Bool.{leb-false}
use Rattle.std.proofs.lemmas.List.Elements.{All-head, All-tail, All-cons, All-nil, filter-append}
use Rattle.std.proofs.lemmas.List.Sums.{sum_by-cons}
use Rattle.std.proofs.lemmas.Map.Entries.{sum_by-insert_entry, length-values_of}
use Rattle.siri_records.specs.declared.item.Item.{Item}
use Rattle.siri_records.specs.declared.key.Key.{Key}
use Rattle.siri_records.specs.Ends.{is_dead}
use Rattle.siri_records.specs.Keys.{key_of}
use Rattle.siri_records.specs.Order.{key_cmp, key_cmp_total}
use Rattle.siri_records.proofs.Order.{key_cmp_exact}
use Rattle.siri_records.specs.Keyed.{Items, living, InOrder, most_live}
use Rattle.siri_model.specs.Fed.{refuses, taken}
use Rattle.siri_model.specs.History.{Entry, Observed, Withdrawn, IsKeyed, Step, Start, Clock, Feed, Take, Settle, History, State, nothing}
use Rattle.siri_model.specs.History.{is_refused, after_entry, after_step, entries_fed, now_of, current, current_at}
use Rattle.siri_model.specs.Last.{is_of, left_by, left_by_last, last_of, after_one, taken_from, taken_in}
use Rattle.siri_model.proofs.Entries.{IsBelow, below_tied, sorted_passing, passing_removed, passing_inserted, passing_inserted_failing}
use Rattle.siri_model.proofs.InOrder.{in_order_after, none_in_order, in_order_all, in_order_step, current_in_order, live_later, more_steps}

-- ---- look-ups after an insertion and a removal

tied_is : (o : Ordering) → is_eq o ≡ true → o ≡ Equal
tied_is Less h = absurd (cc)
tied_is Equal h = refl
tied_is Greater h = absurd (cc)

none_either : {X : Type 0} (b : Bool) → ◌≡◌ {A = Option X} None (cond b None None)
none_either true = refl
none_either false = refl

ones : {Y : Type 0} (ys : List Y) → sum_by (λ y. 1) ys ≡ length ys
ones [] = refl
ones (y ∷ ys) = let rest = ones ys in sum_by-cons (λ y. 1) y ys ∙ omega (arith, rest)

module _ {K X : Type 0} {R : K → K → Ordering} (total : IsTotalOrder R) (exact : (k j : K) → R k j ≡ Equal → k ≡ j) where
  abbrev at : K → List (K × X) → Option X
  at q es = lookup (is_at (R q)) es

  inserted_at : (q k : K) (v : X) (e : K × X) (es : List (K × X)) (o : Ordering) (b : Bool) → R k e.0 ≡ o
      → is_eq (R q k) ≡ b → at q (insert_entry R es k v) ≡ cond b (Some v) (at q es)
      → at q (insert_entry R (e ∷ es) k v) ≡ cond b (Some v) (at q (e ∷ es))
  inserted_at q k v e es Less b h t rest = rw h (rw t refl)
  inserted_at q k v e es Equal true h t rest =
      let tied : R q e.0 ≡ Equal = ap (R q) (sym (exact k e.0 h)) ∙ tied_is (R q k) t in
      rw h (rw tied refl)
  inserted_at q k v e es Equal false h t rest =
      let apart : is_eq (R q e.0) ≡ false = ap (λ j. is_eq (R q j)) (sym (exact k e.0 h)) ∙ t in
      rw h (rw apart refl)
  inserted_at q k v e es Greater true h t rest =
      let apart : R q e.0 ≡ Greater = ap (λ j. R j e.0) (exact q k (tied_is (R q k) t)) ∙ h in
      rw h (rw apart rest)
  inserted_at q k v e es Greater false h t rest = rw h (ap (λ o. cond (is_eq (R q e.0)) (Some e.1) o) rest)

  inserted_from : (q k : K) (v : X) (es : List (K × X)) (b : Bool) → is_eq (R q k) ≡ b → at q (insert_entry R es k v) ≡ cond b (Some v) (at q es)
  inserted_from q k v [] b t = rw t refl
  inserted_from q k v (e ∷ es) b t = inserted_at q k v e es (R k e.0) b refl t (inserted_from q k v es b t)

  pub lookup_inserted : (q k : K) (v : X) (es : List (K × X)) → at q (insert_entry R es k v) ≡ cond (is_eq (R q k)) (Some v) (at q es)
  lookup_inserted q k v es = inserted_from q k v es (is_eq (R q k)) refl

  none_below : (q : K) (es : List (K × X)) → IsBelow R q es → at q es ≡ None
  none_below q [] below = refl
  none_below q (e ∷ es) below = rw (below.0) (none_below q es below.1)

  removed_at : (q k : K) (e : K × X) (es : List (K × X)) (o : Ordering) (b : Bool) → R k e.0 ≡ o → is_eq (R q k) ≡ b
      → IsBelow R e.0 es → at q (remove_entry (is_at (R k)) es) ≡ cond b None (at q es)
      → at q (remove_entry (is_at (R k)) (e ∷ es)) ≡ cond b None (at q (e ∷ es))
  removed_at q k e es Less true h t below rest =
      let apart : R q e.0 ≡ Less = ap (λ j. R j e.0) (exact q k (tied_is (R q k) t)) ∙ h in
      rw h (rw apart rest)
  removed_at q k e es Less false h t below rest = rw h (ap (λ o. cond (is_eq (R q e.0)) (Some e.1) o) rest)
  removed_at q k e es Equal true h t below rest =
      let tied : R q e.0 ≡ Equal = ap (R q) (sym (exact k e.0 h)) ∙ tied_is (R q k) t in
      rw h (none_below q es (below_tied total q e.0 es tied below))
  removed_at q k e es Equal false h t below rest =
      let apart : is_eq (R q e.0) ≡ false = ap (λ j. is_eq (R q j)) (sym (exact k e.0 h)) ∙ t in
      rw h (rw apart refl)
  removed_at q k e es Greater true h t below rest =
      let apart : R q e.0 ≡ Greater = ap (λ j. R j e.0) (exact q k (tied_is (R q k) t)) ∙ h in
      rw h (rw apart rest)
  removed_at q k e es Greater false h t below rest = rw h (ap (λ o. cond (is_eq (R q e.0)) (Some e.1) o) rest)

  pub lookup_removed : (q k : K) (es : List (K × X)) → IsStrictlySortedBy R (keys_of es)
      → at q (remove_entry (is_at (R k)) es) ≡ cond (is_eq (R q k)) None (at q es)
  unfolding IsStrictlySortedBy
  lookup_removed q k [] s = none_either (is_eq (R q k))
  lookup_removed q k (e ∷ es) s = removed_at q k e es (R k e.0) (is_eq (R q k)) refl refl s.0 (lookup_removed q k es s.1)

  -- ---- lengths

  pub length_removed : (k : K) (es : List (K × X)) → length (remove_entry (is_at (R k)) es) ≤ length es
  length_removed k [] = omega arith
  length_removed k (e ∷ es) =
      let rest = length_removed k es in
      elim (is_eq (R k e.0)) as (λ b. length (cond b es (e ∷ remove_entry (is_at (R k)) es)) ≤ suc (length es))
      [ true ↦ omega arith | false ↦ omega (arith, rest) ]

  pub length_inserted : (k : K) (v : X) (es : List (K × X)) → IsStrictlySortedBy R (keys_of es)
      → length (insert_entry R es k v) + unwrap_or (option_map (λ x. 1) (at k es)) 0 ≡ length es + 1
  length_inserted k v es s =
      let more = sum_by-insert_entry (λ x. 1) total es k v s in
      let old = ones (values_of es) ∙ length-values_of es in
      let new = ones (values_of (insert_entry R es k v)) ∙ length-values_of (insert_entry R es k v) in
      omega (arith, more, old, new)

-- ---- each item under its own key

keyed_inserted_at : (item : Item) (e : Key × Item) (es : Items) (o : Ordering) → key_cmp (key_of item) e.0 ≡ o
    → IsKeyed (e ∷ es) → IsKeyed (insert_entry key_cmp es (key_of item) item)
    → IsKeyed (insert_entry key_cmp (e ∷ es) (key_of item) item)
keyed_inserted_at item e es Less h k rest = rw h (All-cons (λ (e : Key × Item). e.0 ≡ key_of e.1) (key_of item, item) (e ∷ es) refl k)
keyed_inserted_at item e es Equal h k rest = rw h
    (All-cons (λ (e : Key × Item). e.0 ≡ key_of e.1) (e.0, item) es (sym (key_cmp_exact (key_of item) e.0 h))
    (All-tail (λ (e : Key × Item). e.0 ≡ key_of e.1) e es k))
keyed_inserted_at item e es Greater h k rest = rw h
    (All-cons (λ (e : Key × Item). e.0 ≡ key_of e.1) e (insert_entry key_cmp es (key_of item) item)
    (All-head (λ (e : Key × Item). e.0 ≡ key_of e.1) e es k) rest)

keyed_inserted : (item : Item) (es : Items) → IsKeyed es → IsKeyed (insert_entry key_cmp es (key_of item) item)
keyed_inserted item [] k = All-cons (λ (e : Key × Item). e.0 ≡ key_of e.1) (key_of item, item) [] refl k
keyed_inserted item (e ∷ es) k = keyed_inserted_at item e es (key_cmp (key_of item) e.0) refl k
    (keyed_inserted item es (All-tail (λ (e : Key × Item). e.0 ≡ key_of e.1) e es k))

keyed_removed : (key : Key) (es : Items) → IsKeyed es → IsKeyed (remove_entry (is_at (key_cmp key)) es)
keyed_removed key [] k = k
keyed_removed key (e ∷ es) k =
    let rest = All-tail (λ (e : Key × Item). e.0 ≡ key_of e.1) e es k in
    elim (is_eq (key_cmp key e.0)) as (λ b. IsKeyed (cond b es (e ∷ remove_entry (is_at (key_cmp key)) es))) [
      | true ↦ rest
      | false ↦ All-cons (λ (e : Key × Item). e.0 ≡ key_of e.1) e (remove_entry (is_at (key_cmp key)) es)
          (All-head (λ (e : Key × Item). e.0 ≡ key_of e.1) e es k) (keyed_removed key es rest)
    ]

keyed_after : (now : ℕ) (items : Items) (e : Entry) → IsKeyed items → IsKeyed (after_entry now items e)
keyed_after now items (Observed item) k =
    elim (is_refused now items item) as (λ b. IsKeyed
    (if b then items else insert_entry key_cmp items (key_of item) item))
    [ true ↦ k | false ↦ keyed_inserted item items k ]
keyed_after now items (Withdrawn key) k = keyed_removed key items k

keyed_all : (now : ℕ) (items : Items) (entries : List Entry) → IsKeyed items → IsKeyed (fold (after_entry now) items entries)
keyed_all now items [] k = k
keyed_all now items (e ∷ entries) k = keyed_all now (after_entry now items e) entries (keyed_after now items e k)

pub none_keyed : IsKeyed []
none_keyed = All-nil (λ (e : Key × Item). e.0 ≡ key_of e.1)

pub keyed_step : (state : State) (step : Step) → IsKeyed state.current → IsKeyed (after_step state step).current
unfolding after_step
keyed_step state (Start n m) k = none_keyed
keyed_step state (Clock m) k = k
keyed_step state (Feed entries) k = keyed_all state.now state.current entries k
keyed_step state (Take message) k = keyed_all state.now state.current (entries_fed message) k
keyed_step state Settle k = k

keyed_from : (state : State) (steps : History) → IsKeyed state.current → IsKeyed (fold after_step state steps).current
keyed_from state [] k = k
keyed_from state (step ∷ steps) k = keyed_from (after_step state step) steps (keyed_step state step k)

pub current_keyed : (h : History) → IsKeyed (current h)
current_keyed h = keyed_from nothing h none_keyed

-- ---- at most 20,000 keys are live

few_where : (new old : ℕ) (held : Option Item) → new + unwrap_or (option_map (λ x. 1) held) 0 ≡ old + 1
    → not (is_some held) && nat_le most_live old ≡ false → old ≤ most_live → new ≤ most_live
few_where new old (Some item) longer room few = omega (arith, longer, few)
few_where new old None longer room few = let below = leb-false most_live old room in omega (arith, longer, below)

few_inserted : (now : ℕ) (items : Items) (item : Item) (held : Option Item) → InOrder items → is_dead item now ≡ false
    → lookup (is_at (key_cmp (key_of item))) (living now items) ≡ held
    → not (is_some held) && nat_le most_live (length (living now items)) ≡ false → length (living now items) ≤ most_live
    → length (living now (insert_entry key_cmp items (key_of item) item)) ≤ most_live
few_inserted now items item held s alive is room few =
    let p : Item → Bool = λ i. not (is_dead i now) in
    let through = passing_inserted key_cmp_total p (key_of item) (key_cmp_exact (key_of item)) item (ap not alive) items s in
    let longer = length_inserted key_cmp_total key_cmp_exact (key_of item) item (living now items) (sorted_passing key_cmp p items s) in
    rw through (few_where (length (insert_entry key_cmp (living now items) (key_of item) item)) (length (living now items)) held (rw is at longer) room few)

few_after_at : (now : ℕ) (items : Items) (item : Item) (refused dead : Bool) → InOrder items
    → is_refused now items item ≡ refused → is_dead item now ≡ dead → length (living now items) ≤ most_live
    → length (living now (if refused then items else insert_entry key_cmp items (key_of item) item)) ≤ most_live
few_after_at now items item true dead s r d few = few
few_after_at now items item false true s r d few =
    let p : Item → Bool = λ i. not (is_dead i now) in
    let through = passing_inserted_failing key_cmp_total p (key_of item) item (ap not d) items s in
    let shorter = length_removed key_cmp_total key_cmp_exact (key_of item) (living now items) in
    rw through (omega (arith, shorter, few))
few_after_at now items item false false s r d few =
    few_inserted now items item (lookup (is_at (key_cmp (key_of item))) (living now items)) s d refl (rw d at r) few

few_after : (now : ℕ) (items : Items) (e : Entry) → InOrder items → length (living now items) ≤ most_live
    → length (living now (after_entry now items e)) ≤ most_live
few_after now items (Observed item) s few = few_after_at now items item (is_refused now items item) (is_dead item now) s refl refl few
few_after now items (Withdrawn key) s few =
    let through = passing_removed key_cmp_total (λ (i : Item). not (is_dead i now)) key items s in
    let shorter = length_removed key_cmp_total key_cmp_exact key (living now items) in
    rw through (omega (arith, shorter, few))

few_all : (now : ℕ) (items : Items) (entries : List Entry) → InOrder items → length (living now items) ≤ most_live
    → length (living now (fold (after_entry now) items entries)) ≤ most_live
few_all now items [] s few = few
few_all now items (e ∷ entries) s few = few_all now (after_entry now items e) entries (in_order_after now items e s) (few_after now items e s few)

shorter_at : {X : Type 0} (p : X → Bool) (x : X) (xs : List X) → length (filter p xs) ≤ length xs → length (filter p (x ∷ xs)) ≤ suc (length xs)
shorter_at p x xs rest = elim (p x) as (λ b. length (cond b (x ∷ filter p xs) (filter p xs)) ≤ suc (length xs))
    [ true ↦ omega (arith, rest) | false ↦ omega (arith, rest) ]

shorter : {X : Type 0} (p : X → Bool) (xs : List X) → length (filter p xs) ≤ length xs
shorter p [] = omega arith
shorter p (x ∷ xs) = shorter_at p x xs (shorter p xs)

few_later : (now later : ℕ) (items : Items) → now ≤ later → length (living now items) ≤ most_live → length (living later items) ≤ most_live
few_later now later items le few =
    let less = shorter (λ (e : Key × Item). not (is_dead e.1 later)) (living now items) in
    rw (sym (live_later now later items le)) (omega (arith, less, few))

few_step : (state : State) (step : Step) → InOrder state.current → length (living state.now state.current) ≤ most_live
    → length (living (after_step state step).now (after_step state step).current) ≤ most_live
unfolding after_step
few_step state (Start n m) s few = omega arith
few_step state (Clock m) s few = few_later state.now (max state.now m) state.current (omega arith) few
few_step state (Feed entries) s few = few_all state.now state.current entries s few
few_step state (Take message) s few = few_all state.now state.current (entries_fed message) s few
few_step state Settle s few = few

few_from : (state : State) (steps : History) → InOrder state.current
    → length (living state.now state.current) ≤ most_live
    → length (living (fold after_step state steps).now (fold after_step state steps).current) ≤ most_live
few_from state [] s few = few
few_from state (step ∷ steps) s few = few_from (after_step state step) steps (in_order_step state step s) (few_step state step s few)

pub few_live : (h : History) → length (living (now_of h) (current h)) ≤ most_live
few_live h = few_from nothing h none_in_order (omega arith)

-- ---- the item of a key after an entry

same_both : {X : Type 0} (b : Bool) (x : X) → x ≡ (if b then x else x)
same_both true x = refl
same_both false x = refl

observed_leaves : (now : ℕ) (items : Items) (item : Item) (key : Key) (refused : Bool)
    → is_refused now items item ≡ refused → lookup (is_at (key_cmp key))
    (if refused then items else insert_entry key_cmp items (key_of item) item) ≡ (if is_of key (Observed item)
    then (if refused then lookup (is_at (key_cmp key)) items else Some item) else lookup (is_at (key_cmp key)) items)
observed_leaves now items item key true r = same_both (is_of key (Observed item)) (lookup (is_at (key_cmp key)) items)
observed_leaves now items item key false r = lookup_inserted key_cmp_total key_cmp_exact key (key_of item) item items

pub entry_leaves : (now : ℕ) (items : Items) (key : Key) (e : Entry) → InOrder items
    → lookup (is_at (key_cmp key)) (after_entry now items e) ≡ after_one now items key
    (lookup (is_at (key_cmp key)) items) e
entry_leaves now items key (Observed item) s = observed_leaves now items item key (is_refused now items item) refl
entry_leaves now items key (Withdrawn other) s = lookup_removed key_cmp_total key_cmp_exact key other items s

-- after a history and a feed of one entry
pub history_leaves : (h : History) (entry : Entry) (key : Key)
    → current_at (h ++ Feed (entry ∷ []) ∷ []) key ≡ after_one (now_of h) (current h) key (current_at h key) entry
unfolding after_step
history_leaves h entry key =
    ap (λ (state : State). lookup (is_at (key_cmp key)) state.current) (more_steps h (Feed (entry ∷ [])))
    ∙ entry_leaves (now_of h) (current h) key entry (current_in_order h)

-- ---- the last that was taken

pub last_appended : {X : Type 0} (o : Option X) (xs : List X) (x : X) → last_or o (xs ++ x ∷ []) ≡ Some x
last_appended o [] x = refl
last_appended o (y ∷ xs) x = last_appended (Some y) xs x

-- after one more entry that was taken
last_more : (key : Key) (entries : List Entry) (e : Entry) (b : Bool) → is_of key e ≡ b
    → left_by_last (last_of key (entries ++ e ∷ [])) ≡ (if b then left_by e else left_by_last (last_of key entries))
last_more key entries e true is =
    let kept : filter (is_of key) (entries ++ e ∷ []) ≡ filter (is_of key) entries ++ e ∷ [] = rw (filter-append (is_of key) entries (e ∷ []), is) refl in
    ap (λ (es : List Entry). left_by_last (last_or None es)) kept
    ∙ ap left_by_last (last_appended None (filter (is_of key) entries) e)
last_more key entries e false is =
    let kept : filter (is_of key) (entries ++ e ∷ []) ≡ filter (is_of key) entries =
    rw (filter-append (is_of key) entries (e ∷ []), is) (append-nil (filter (is_of key) entries)) in
    ap (λ (es : List Entry). left_by_last (last_or None es)) kept

refused_keeps : (now : ℕ) (items : Items) (e : Entry) → refuses now items e ≡ true → after_entry now items e ≡ items
refused_keeps now items (Observed item) is = rw is refl
refused_keeps now items (Withdrawn key) is = absurd (cc)

module _ (now : ℕ) where
  last_taken_one : (items : Items) (before : List Entry) (e : Entry) → InOrder items
      → ((key : Key) → lookup (is_at (key_cmp key)) items ≡ left_by_last (last_of key before))
      → refuses now items e ≡ false → (key : Key) → lookup (is_at (key_cmp key))
      (after_entry now items e) ≡ left_by_last (last_of key (before ++ e ∷ []))
  last_taken_one items before e s last is key =
      entry_leaves now items key e s
      ∙ ap (λ b. if is_of key e then (if b then lookup (is_at (key_cmp key)) items else left_by e) else lookup (is_at (key_cmp key)) items) is
      ∙ ap (λ held. if is_of key e then left_by e else held) (last key)
      ∙ sym (last_more key before e (is_of key e) refl)

  last_at : (items : Items) (before : List Entry) (e : Entry) (entries : List Entry) (refused : Bool) → InOrder items
      → ((key : Key) → lookup (is_at (key_cmp key)) items ≡ left_by_last (last_of key before))
      → refuses now items e ≡ refused
      → ((items : Items) (before : List Entry) → InOrder items
      → ((key : Key) → lookup (is_at (key_cmp key)) items ≡ left_by_last (last_of key before)) → (key : Key)
      → lookup (is_at (key_cmp key)) (fold (after_entry now) items entries) ≡ left_by_last
      (last_of key (before ++ taken now items entries)))
      → (key : Key) → lookup (is_at (key_cmp key))
      (fold (after_entry now) (after_entry now items e) entries) ≡ left_by_last
      (last_of key (before ++ taken now items (e ∷ entries)))
  last_at items before e entries true s last is rest key =
      let same = refused_keeps now items e is in
      rw is (rw same (rest items before s last key))
  last_at items before e entries false s last is rest key =
      let more = rest (after_entry now items e) (before ++ e ∷ []) (in_order_after now items e s) (last_taken_one items before e s last is) key in
      rw is (more ∙ ap (λ (es : List Entry). left_by_last (last_of key es)) (append_assoc before (e ∷ []) (taken now (after_entry now items e) entries)))

  pub last_all : (entries : List Entry) (items : Items) (before : List Entry) → InOrder items
      → ((key : Key) → lookup (is_at (key_cmp key)) items ≡ left_by_last (last_of key before)) → (key : Key)
      → lookup (is_at (key_cmp key)) (fold (after_entry now) items entries) ≡ left_by_last
      (last_of key (before ++ taken now items entries))
  last_all [] items before s last key = last key ∙ ap (λ (es : List Entry). left_by_last (last_of key es)) (sym (append-nil before))
  last_all (e ∷ entries) items before s last key = last_at items before e entries (refuses now items e) s last refl (last_all entries) key

last_kept : (items : Items) (before : List Entry) (key : Key)
    → lookup (is_at (key_cmp key)) items ≡ left_by_last (last_of key before)
    → lookup (is_at (key_cmp key)) items ≡ left_by_last (last_of key (before ++ []))
last_kept items before key last = last ∙ ap (λ (es : List Entry). left_by_last (last_of key es)) (sym (append-nil before))

last_from : (state : State) (entries : List Entry) (steps : History) → InOrder state.current
    → ((key : Key) → lookup (is_at (key_cmp key)) state.current ≡ left_by_last (last_of key entries)) → (key : Key)
    → lookup (is_at (key_cmp key)) (fold after_step state steps).current ≡ left_by_last
    (last_of key (taken_from state entries steps))
unfolding after_step
last_from state entries [] s last = last
last_from state entries (Start n m ∷ steps) s last = last_from (after_step state (Start n m)) [] steps none_in_order (λ key. refl)
last_from state entries (Clock m ∷ steps) s last = last_from (after_step state (Clock m)) (entries ++ []) steps s
    (λ key. last_kept state.current entries key (last key))
last_from state entries (Feed fed ∷ steps) s last =
    last_from (after_step state (Feed fed)) (entries ++ taken state.now state.current fed) steps
    (in_order_all state.now state.current fed s) (last_all state.now fed state.current entries s last)
last_from state entries (Take message ∷ steps) s last =
    last_from (after_step state (Take message)) (entries ++ taken state.now state.current (entries_fed message)) steps
    (in_order_all state.now state.current (entries_fed message) s)
    (last_all state.now (entries_fed message) state.current entries s last)
last_from state entries (Settle ∷ steps) s last = last_from (after_step state Settle) (entries ++ []) steps s
    (λ key. last_kept state.current entries key (last key))

pub last_taken : (h : History) (key : Key) → current_at h key ≡ left_by_last (last_of key (taken_in h))
last_taken h = last_from nothing [] h none_in_order (λ key. refl)

-- ---- those that pass a test

pub keyed_passing : (p : Item → Bool) (es : Items) → IsKeyed es → IsKeyed (filter (λ e. p e.1) es)
keyed_passing p [] k = k
keyed_passing p (e ∷ es) k =
    let rest = keyed_passing p es (All-tail (λ (e : Key × Item). e.0 ≡ key_of e.1) e es k) in
    elim (p e.1) as (λ b. IsKeyed (cond b (e ∷ filter (λ e. p e.1) es) (filter (λ e. p e.1) es))) [
      | true ↦ All-cons (λ (e : Key × Item). e.0 ≡ key_of e.1) e (filter (λ e. p e.1) es) (All-head (λ (e : Key × Item). e.0 ≡ key_of e.1) e es k) rest
      | false ↦ rest
    ]
