-- The rows of a table of lives change as a subscription table does.
use Rattle.std.proofs.Common.{◌≡◌, ℕ, List, [], ◌∷◌, length, Bool, true, false, cond, not, ◌&&◌, Option, None, Some, Ok, Err, refl, sym, ap, ◌∙◌, subst, arith}
use Rattle.std.specs.Prelude.{nat_lt, nat_le, ◌==◌, option_map, find as find_first}
use Rattle.std.specs.Cmp.Lexicographic.{nat_list_eq_equiv}
use Rattle.std.proofs.lemmas.Bool.{leb-true, leb-false, le-ltb, lt-ltb, ltb-true, ltb-false, eqb-true, eqb-false, and_from, and_left, and_right, or_parts}
use Rattle.std.proofs.lemmas.List.{length-map}
use Rattle.siri_life.specs.Life.{is_before, can_accept, new_life}
use Rattle.siri_life.specs.Named.{Name, Of, same_subscription, those, first, find, put, without, keep}
use Rattle.siri_life.specs.Serving.{accepted_if, accepts, ended_if, lives_on, most_subscriptions}
use Rattle.siri_subs.specs.declared.entry.Row.{Row}
use Rattle.siri_subs.specs.declared.errors.Accepted.TheVariants as accepted_as
use Rattle.siri_subs.specs.declared.errors.AcceptError.TheVariants as refused_as
use Rattle.siri_subs.specs.Table as table
use Rattle.siri_subs.specs.Table.{EachOnce, is_of, is_held, is_above}
use Rattle.siri_subs.proofs.Once.{held_like}
use Rattle.siri_model.specs.Lives.{Living, Served}
use Rattle.siri_messages.specs.Asked.{AskedFor}
use Rattle.siri_model.specs.Meaning.{meaning}
use Rattle.siri_model.specs.Rows.{KeptLife, new_row, row_of, rows_of, with_row_of}
use Rattle.siri_model.proofs.Serves.{IsNamed, AreNamed}

-- ---- names

like : (c s : Name) (x : Of Living) → IsNamed x → same_subscription c s x.subscriber x.identifier ≡ is_of c s (row_of x.it)
like c s x n =
    (λ i. same_subscription c s (n.0 i) (n.1 i))
    ∙ (λ i. nat_list_eq_equiv.symm c x.it.wanted.subscription.subscriber i && nat_list_eq_equiv.symm s x.it.wanted.subscription.identifier i)

-- ---- what leaves a table

pub rows_without : (c s : Name) (t : List (Of Living)) → AreNamed t → rows_of (without c s t) ≡ table.without c s (rows_of t)
rows_without c s [] n = refl
rows_without c s (x ∷ xs) n = by (same_subscription c s x.subscriber x.identifier) (is_of c s (row_of x.it)) (like c s x n.0) (rows_without c s xs n.1)
  where
    by : (b b' : Bool) → b ≡ b' → rows_of (without c s xs) ≡ table.without c s (rows_of xs)
        → rows_of (cond b (without c s xs) (x ∷ without c s xs)) ≡ cond (not b')
        (row_of x.it ∷ table.without c s (rows_of xs)) (table.without c s (rows_of xs))
    by true true e r = r
    by false false e r = ap (λ l. row_of x.it ∷ l) r
    by true false e r = absurd (cc)
    by false true e r = absurd (cc)

pub rows_expired : (now : ℕ) (t : List (Of Living)) → rows_of (keep (lives_on meaning now) t) ≡ table.expired now (rows_of t)
rows_expired now [] = refl
rows_expired now (x ∷ xs) = by (not (nat_le x.it.wanted.subscription.termination now)) (rows_expired now xs)
  where
    by : (b : Bool) → rows_of (keep (lives_on meaning now) xs) ≡ table.expired now (rows_of xs)
        → rows_of (cond b (x ∷ keep (lives_on meaning now) xs) (keep (lives_on meaning now) xs)) ≡ cond b
        (row_of x.it ∷ table.expired now (rows_of xs)) (table.expired now (rows_of xs))
    by true r = ap (λ l. row_of x.it ∷ l) r
    by false r = r

-- ---- what is put in it

pub rows_put : (c s : Name) (l : Living) (t : List (Of Living)) → AreNamed t → c ≡ l.wanted.subscription.subscriber
    → s ≡ l.wanted.subscription.identifier → rows_of (put c s l t) ≡ table.put (row_of l) (rows_of t)
rows_put c s l [] n a b = refl
rows_put c s l (x ∷ xs) n a b = by (same_subscription c s x.subscriber x.identifier)
    (is_of l.wanted.subscription.subscriber l.wanted.subscription.identifier (row_of x.it))
    (like c s x n.0 ∙ (λ i. is_of (a i) (b i) (row_of x.it))) (rows_put c s l xs n.1 a b)
  where
    by : (b b' : Bool) → b ≡ b' → rows_of (put c s l xs) ≡ table.put (row_of l) (rows_of xs)
        → rows_of (cond b (record { subscriber = c; identifier = s; it = l } ∷ xs) (x ∷ put c s l xs)) ≡ cond b'
        (row_of l ∷ rows_of xs) (row_of x.it ∷ table.put (row_of l) (rows_of xs))
    by true true e r = refl
    by false false e r = ap (λ rows. row_of x.it ∷ rows) r
    by true false e r = absurd (cc)
    by false true e r = absurd (cc)

-- ---- the number under which a subscription is held

abbrev pub number_in : Option Living → Option ℕ
number_in l = option_map (λ (l : Living). l.number) l

pub rows_number : (c s : Name) (t : List (Of Living)) → AreNamed t → table.number_of c s (rows_of t) ≡ number_in (find c s t)
rows_number c s [] n = refl
rows_number c s (x ∷ xs) n = by (same_subscription c s x.subscriber x.identifier) (is_of c s (row_of x.it)) (like c s x n.0) (rows_number c s xs n.1)
  where
    by : (b b' : Bool) → b ≡ b' → table.number_of c s (rows_of xs) ≡ number_in (find c s xs)
        → option_map (λ (h : Row KeptLife). h.number)
        (cond b' (Some (row_of x.it)) (find_first (is_of c s) (rows_of xs))) ≡ number_in
        (first (cond b (x.it ∷ those c s xs) (those c s xs)))
    by true true e r = refl
    by false false e r = r
    by true false e r = absurd (cc)
    by false true e r = absurd (cc)

-- ---- a request

lt_is : (a b : ℕ) → nat_lt a b ≡ not (nat_le b a)
lt_is a b = by (nat_le b a) refl
  where
    by : (t : Bool) → nat_le b a ≡ t → nat_lt a b ≡ not t
    by true e = le-ltb a b (leb-true b a e)
    by false e = lt-ltb a b (leb-false b a e)

-- a number is greater than another where they are not equal, and it isn't smaller
lt_or : (a b : ℕ) → nat_lt a b ≡ (not (a == b) && not (nat_lt b a))
lt_or a b = by (a == b) (nat_lt b a) refl refl
  where
    by : (e t : Bool) → (a == b) ≡ e → nat_lt b a ≡ t → nat_lt a b ≡ (not e && not t)
    by true t e f = le-ltb a b (let same = eqb-true a b e in omega arith)
    by false true e f = le-ltb a b (let less = ltb-true b a f in omega arith)
    by false false e f = lt-ltb a b (let apart = eqb-false a b e in let le = ltb-false b a f in omega (arith))

module _ (v : Served) (x : AskedFor) (n : ℕ) (named : AreNamed v.table) where
  taken : (b : Bool) → b ≡ true → rows_of (accepted_if meaning b v x.subscription.subscriber x.subscription.identifier n
      x).table ≡ table.put (new_row v.now n x) (rows_of v.table)
  taken true e = rows_put x.subscription.subscriber x.subscription.identifier (new_life meaning v.start v.now n n x) v.table named refl refl
  taken false e = absurd (cc)

  refused : (b : Bool) → b ≡ false → rows_of (accepted_if meaning b v x.subscription.subscriber x.subscription.identifier n x).table ≡ rows_of v.table
  refused true e = absurd (cc)
  refused false e = refl

  by_number : (l : Option Living) (full : Bool) → rows_of
      (accepted_if meaning (can_accept meaning full v.now n x l) v x.subscription.subscriber x.subscription.identifier n
      x).table ≡ table.after (table.answer_of (nat_le x.subscription.termination v.now) full n (number_in l))
      (new_row v.now n x) (rows_of v.table)
  by_number None full = by full (nat_le x.subscription.termination v.now) (nat_lt v.now x.subscription.termination) (lt_is v.now x.subscription.termination)
    where
      by : (full t t' : Bool) → t' ≡ not t → rows_of
          (accepted_if meaning (t' && not full) v x.subscription.subscriber x.subscription.identifier n
          x).table ≡ table.after (table.answer_of t full n None) (new_row v.now n x) (rows_of v.table)
      by full true t' e = refused (t' && not full) (and_left t' (not full) e)
      by true false t' e = refused (t' && false) (and_right t' false refl)
      by false false t' e = taken (t' && true) (and_from t' true e refl)
  by_number (Some l) full = by (l.number == n) (nat_lt n l.number) (nat_le x.subscription.termination v.now)
      (nat_lt l.number n) (nat_lt v.now x.subscription.termination) (lt_or l.number n)
      (lt_is v.now x.subscription.termination)
    where
      by : (same less t more t' : Bool) → more ≡ (not same && not less) → t' ≡ not t
          → rows_of (accepted_if meaning (more && t') v x.subscription.subscriber x.subscription.identifier n
          x).table ≡ table.after (cond same (Ok accepted_as.Again)
          (cond t (Err refused_as.PastTermination)
          (cond less (Err (refused_as.Superseded l.number)) (Ok accepted_as.Renewed)))) (new_row v.now n x)
          (rows_of v.table)
      by true less t more t' e f = refused (more && t') (and_left more t' e)
      by false less true more t' e f = refused (more && t') (and_right more t' f)
      by false true false more t' e f = refused (more && t') (and_left more t' e)
      by false false false more t' e f = taken (more && t') (and_from more t' e f)

  -- a request is accepted, or isn't, as a subscription table does
  pub rows_accepted : rows_of (accepted_if meaning
      (accepts meaning v x.subscription.subscriber x.subscription.identifier n x) v x.subscription.subscriber
      x.subscription.identifier n x).table ≡ table.accepted v.now (new_row v.now n x) (rows_of v.table)
  rows_accepted =
      let count : length v.table ≡ length (rows_of v.table) = sym (length-map v.table (λ (held : Of Living). row_of held.it)) in
      let number = sym (rows_number x.subscription.subscriber x.subscription.identifier v.table named) in
      by_number (find x.subscription.subscriber x.subscription.identifier v.table) (nat_le most_subscriptions (length v.table))
      ∙ (λ i. table.after (table.answer_of (nat_le x.subscription.termination v.now) (nat_le most_subscriptions (count i)) n
      (number i)) (new_row v.now n x) (rows_of v.table))

-- ---- a termination

before_is : (l : Option Living) (n : ℕ) → is_before meaning l n ≡ is_above n (number_in l)
before_is None n = refl
before_is (Some l) n = refl

pub rows_ended : (v : Served) (c s : Name) (n : ℕ) → AreNamed v.table
    → rows_of (ended_if meaning (is_before meaning (find c s v.table) n) v c s).table ≡ table.ended n c s
    (rows_of v.table)
rows_ended v c s n named =
    by (is_before meaning (find c s v.table) n)
    ∙ ap (λ b. cond b (table.without c s (rows_of v.table)) (rows_of v.table))
    (before_is (find c s v.table) n ∙ ap (is_above n) (sym (rows_number c s v.table named)))
  where
    by : (b : Bool) → rows_of (ended_if meaning b v c s).table ≡ cond b (table.without c s (rows_of v.table)) (rows_of v.table)
    by true = rows_without c s v.table named
    by false = refl

-- ---- a life is another

module _ (c s : Name) (change : Row KeptLife → Row KeptLife) where
  unchanged : (rows : List (Row KeptLife)) → is_held c s rows ≡ false → with_row_of c s change rows ≡ rows
  unchanged [] none = refl
  unchanged (h ∷ rows) none =
      let parts = or_parts (is_of c s h) (is_held c s rows) none in
      λ i. cond (parts.0 i) (change h) h ∷ unchanged rows parts.1 i

  pub rows_none : (t : List (Of Living)) → AreNamed t → find c s t ≡ None → with_row_of c s change (rows_of t) ≡ rows_of t
  rows_none [] n none = refl
  rows_none (x ∷ xs) n none = by (same_subscription c s x.subscriber x.identifier) (is_of c s (row_of x.it)) (like c s x n.0) none (rows_none xs n.1)
    where
      by : (b b' : Bool) → b ≡ b' → first (cond b (x.it ∷ those c s xs) (those c s xs)) ≡ None
          → (find c s xs ≡ None → with_row_of c s change (rows_of xs) ≡ rows_of xs)
          → cond b' (change (row_of x.it)) (row_of x.it) ∷ with_row_of c s change
          (rows_of xs) ≡ row_of x.it ∷ rows_of xs
      by true b' e none r = absurd (cc)
      by false false e none r = ap (λ rows. row_of x.it ∷ rows) (r none)
      by false true e none r = absurd (cc)

  pub rows_changed : (l l' : Living) (t : List (Of Living)) → AreNamed t → EachOnce (rows_of t) → find c s t ≡ Some l
      → change (row_of l) ≡ row_of l' → rows_of (put c s l' t) ≡ with_row_of c s change (rows_of t)
  rows_changed l l' [] n once there is = absurd (cc)
  rows_changed l l' (x ∷ xs) n once there is = by (same_subscription c s x.subscriber x.identifier)
      (is_of c s (row_of x.it)) refl (like c s x n.0) there (rows_changed l l' xs n.1 once.1)
    where
      here : (b' : Bool) → is_of c s (row_of x.it) ≡ b' → b' ≡ true → x.it ≡ l
          → row_of l' ∷ rows_of xs ≡ cond b' (change (row_of x.it)) (row_of x.it) ∷ with_row_of c s change (rows_of xs)
      here false e f same = absurd (cc)
      here true e f same =
          let none = held_like c s (row_of x.it) (rows_of xs) e ∙ once.0 in
          λ i. sym (ap (λ (k : Living). change (row_of k)) same ∙ is) i ∷ sym (unchanged (rows_of xs) none) i

      by : (b b' : Bool) → is_of c s (row_of x.it) ≡ b' → b ≡ b' → first (cond b (x.it ∷ those c s xs) (those c s xs)) ≡ Some l
          → (find c s xs ≡ Some l → change (row_of l) ≡ row_of l' → rows_of (put c s l' xs) ≡ with_row_of c s change (rows_of xs))
          → rows_of (cond b (record { subscriber = c; identifier = s; it = l' } ∷ xs) (x ∷ put c s l' xs)) ≡ cond b'
          (change (row_of x.it)) (row_of x.it) ∷ with_row_of c s change (rows_of xs)
      by true b' f e there r = let same : x.it ≡ l = cc in here b' f (sym e) same
      by false false f e there r = ap (λ rows. row_of x.it ∷ rows) (r there is)
      by false true f e there r = absurd (cc)

  -- or isn't
  pub rows_same : (l : Living) (t : List (Of Living)) → AreNamed t → EachOnce (rows_of t) → find c s t ≡ Some l
      → change (row_of l) ≡ row_of l → rows_of t ≡ with_row_of c s change (rows_of t)
  rows_same l [] n once there is = absurd (cc)
  rows_same l (x ∷ xs) n once there is = by (same_subscription c s x.subscriber x.identifier)
      (is_of c s (row_of x.it)) refl (like c s x n.0) there (rows_same l xs n.1 once.1)
    where
      here : (b' : Bool) → is_of c s (row_of x.it) ≡ b' → b' ≡ true → x.it ≡ l
          → row_of x.it ∷ rows_of xs ≡ cond b' (change (row_of x.it)) (row_of x.it) ∷ with_row_of c s change (rows_of xs)
      here false e f same = absurd (cc)
      here true e f same =
          let none = held_like c s (row_of x.it) (rows_of xs) e ∙ once.0 in
          let stays = subst (λ (k : Living). change (row_of k) ≡ row_of k) (sym same) is in
          λ i. sym stays i ∷ sym (unchanged (rows_of xs) none) i

      by : (b b' : Bool) → is_of c s (row_of x.it) ≡ b' → b ≡ b' → first (cond b (x.it ∷ those c s xs) (those c s xs)) ≡ Some l
          → (find c s xs ≡ Some l → change (row_of l) ≡ row_of l → rows_of xs ≡ with_row_of c s change (rows_of xs))
          → row_of x.it ∷ rows_of xs ≡ cond b' (change (row_of x.it)) (row_of x.it) ∷ with_row_of c s change (rows_of xs)
      by true b' f e there r = let same : x.it ≡ l = cc in here b' f (sym e) same
      by false false f e there r = ap (λ rows. row_of x.it ∷ rows) (r there is)
      by false true f e there r = absurd (cc)

-- ---- the row of a subscription

pub row_found : (c s : Name) (t : List (Of Living)) → AreNamed t → find_first (is_of c s) (rows_of t) ≡ option_map row_of (find c s t)
row_found c s [] n = refl
row_found c s (x ∷ xs) n = by (same_subscription c s x.subscriber x.identifier) (is_of c s (row_of x.it)) (like c s x n.0) (row_found c s xs n.1)
  where
    by : (b b' : Bool) → b ≡ b' → find_first (is_of c s) (rows_of xs) ≡ option_map row_of (find c s xs)
        → cond b' (Some (row_of x.it)) (find_first (is_of c s) (rows_of xs)) ≡ option_map row_of (first (cond b (x.it ∷ those c s xs) (those c s xs)))
    by true true e r = refl
    by false false e r = r
    by true false e r = absurd (cc)
    by false true e r = absurd (cc)
