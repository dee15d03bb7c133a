-- The rounds that are kept under a number and a start, through what happens to lives.
use Rattle.std.proofs.Common.{◌≡◌, ℕ, Bool, true, false, cond, ◌&&◌, ◌||◌, List, [], ◌∷◌, ◌++◌, Option, Some, None, refl, sym, ap, ◌∙◌, subst, eqb-true, eq-eqb}
use Rattle.std.specs.Prelude.{slice_get, ◌==◌}
use Rattle.std.proofs.lemmas.Bool.{and_parts, and_from}
use Rattle.siri_life.specs.Meaning.{Meaning}
use Rattle.siri_life.specs.Life.{Round, Life, new_life}
use Rattle.siri_life.specs.Link.{matches, life_rounds, rounds_of, has, retire}
use Rattle.siri_life.proofs.Lists.{Each}

cond_same : {A : Type 0} (b : Bool) (x : A) → cond b x x ≡ x
cond_same true x = refl
cond_same false x = refl

module _ {V P W H E : Type 0} (f : Meaning V P W H E) where
  pub ended_same : (n s : ℕ) (e : Option (Life V P W)) (ls : List (Life V P W)) → rounds_of n s None (ls ++ retire f e) ≡ rounds_of n s e ls
  ended_same n s None [] = refl
  ended_same n s (Some l) [] = refl
  ended_same n s e (l ∷ ls) = ap (λ rs. cond (matches l n s) l.rounds rs) (ended_same n s e ls)

  pub fresh_same : (n s k t m b : ℕ) (w : W) (ls : List (Life V P W))
      → rounds_of n s (Some (new_life f k t m b w)) ls ≡ rounds_of n s None ls
  fresh_same n s k t m b w [] = cond_same (m == n && k == s) []
  fresh_same n s k t m b w (l ∷ ls) = ap (λ rs. cond (matches l n s) l.rounds rs) (fresh_same n s k t m b w ls)

  -- no round is lost, and none changes
  abbrev pub NoneLost : Option (Life V P W) → List (Life V P W) → Option (Life V P W) → List (Life V P W) → Type 0
  NoneLost e ls e' ls' = (n s i : ℕ) (x : Round V P) → slice_get (rounds_of n s e ls) i ≡ Some x → slice_get (rounds_of n s e' ls') i ≡ Some x

  kept_cond : (b : Bool) (rs : List (Round V P)) (xs ys : List (Round V P)) (i : ℕ) (x : Round V P)
      → (slice_get xs i ≡ Some x → slice_get ys i ≡ Some x) → slice_get (cond b rs xs) i ≡ Some x
      → slice_get (cond b rs ys) i ≡ Some x
  kept_cond true rs xs ys i x g h = h
  kept_cond false rs xs ys i x g h = g h

  kept_by : (e e' : Option (Life V P W)) → ((n s i : ℕ) (x : Round V P) → slice_get (life_rounds n s e) i ≡ Some x
      → slice_get (life_rounds n s e') i ≡ Some x) → (ls : List (Life V P W)) → NoneLost e ls e' ls
  kept_by e e' g [] n s i x = g n s i x
  kept_by e e' g (l ∷ ls) n s i x = kept_cond (matches l n s) l.rounds (rounds_of n s e ls) (rounds_of n s e' ls) i x (kept_by e e' g ls n s i x)

  kept_more : (b : Bool) (rs rs' : List (Round V P)) (i : ℕ) (x : Round V P)
      → (slice_get rs i ≡ Some x → slice_get rs' i ≡ Some x) → slice_get (cond b rs []) i ≡ Some x
      → slice_get (cond b rs' []) i ≡ Some x
  kept_more true rs rs' i x g h = g h
  kept_more false rs rs' i x g h = h

  -- the life in the table goes on
  pub kept_life : (l l' : Life V P W) → l.number ≡ l'.number → l.start ≡ l'.start
      → ((i : ℕ) (x : Round V P) → slice_get l.rounds i ≡ Some x → slice_get l'.rounds i ≡ Some x)
      → (ls : List (Life V P W)) → NoneLost (Some l) ls (Some l') ls
  kept_life l l' en es g ls = kept_by (Some l) (Some l')
      (λ n s i x h. subst (λ (q : ℕ × ℕ). slice_get (cond (q.0 == n && q.1 == s) l'.rounds []) i ≡ Some x)
      (λ j. (en j, es j)) (kept_more (l.number == n && l.start == s) l.rounds l'.rounds i x (g i x) h)) ls

  pub kept_same : (e : Option (Life V P W)) (ls : List (Life V P W)) → NoneLost e ls e ls
  kept_same e ls n s i x h = h

  pub kept_ended : (e : Option (Life V P W)) (ls : List (Life V P W)) → NoneLost e ls None (ls ++ retire f e)
  kept_ended e ls n s i x h = subst (λ rs. slice_get rs i ≡ Some x) (sym (ended_same n s e ls)) h

  pub kept_fresh : (e : Option (Life V P W)) (ls : List (Life V P W)) (k t m b : ℕ) (w : W)
      → NoneLost e ls (Some (new_life f k t m b w)) (ls ++ retire f e)
  kept_fresh e ls k t m b w n s i x h = subst (λ rs. slice_get rs i ≡ Some x)
      (sym (fresh_same n s k t m b w (ls ++ retire f e) ∙ ended_same n s e ls)) h

  off_left : (b c : Bool) → (b || c) ≡ false → b ≡ false
  off_left true c h = h
  off_left false c h = refl

  off_right : (b c : Bool) → (b || c) ≡ false → c ≡ false
  off_right true c h = absurd (cc)
  off_right false c h = h

  pub none_before : (n s : ℕ) (e : Option (Life V P W)) (ls : List (Life V P W)) → has n s ls ≡ false → rounds_of n s e ls ≡ life_rounds n s e
  none_before n s e [] h = refl
  none_before n s e (l ∷ ls) h =
      let off = off_left (matches l n s) (has n s ls) h in
      subst (λ b. cond b l.rounds (rounds_of n s e ls) ≡ life_rounds n s e) (sym off) (none_before n s e ls (off_right (matches l n s) (has n s ls) h))

  pub match_true : (l : Life V P W) (n s : ℕ) → l.number ≡ n → l.start ≡ s → matches l n s ≡ true
  match_true l n s en es = and_from _ _ (eq-eqb l.number n en) (eq-eqb l.start s es)

  pub match_number : (l : Life V P W) (n s : ℕ) → matches l n s ≡ true → l.number ≡ n
  match_number l n s h = eqb-true l.number n (and_parts _ _ h).0

  pub match_start : (l : Life V P W) (n s : ℕ) → matches l n s ≡ true → l.start ≡ s
  match_start l n s h = eqb-true l.start s (and_parts _ _ h).1

  -- the life in the table is the first under its number and start
  pub rounds_here : (l : Life V P W) (n s : ℕ) (ls : List (Life V P W)) → l.number ≡ n → l.start ≡ s → has n s ls ≡ false → rounds_of n s (Some l) ls ≡ l.rounds
  rounds_here l n s ls en es h = none_before n s (Some l) ls h ∙ ap (λ b. cond b l.rounds []) (match_true l n s en es)

  -- a life with a round ended, where the one in the table has none under that number and start
  pub some_before : (n s i : ℕ) (x : Round V P) (e : Option (Life V P W)) (ls : List (Life V P W))
      → life_rounds n s e ≡ [] → slice_get (rounds_of n s e ls) i ≡ Some x → has n s ls ≡ true
  some_before n s i x e [] none h = absurd (cc)
  some_before n s i x e (l ∷ ls) none h = by (matches l n s) (some_before n s i x e ls none) h
    where
      by : (b : Bool) → (slice_get (rounds_of n s e ls) i ≡ Some x → has n s ls ≡ true)
          → slice_get (cond b l.rounds (rounds_of n s e ls)) i ≡ Some x → (b || has n s ls) ≡ true
      by true g h = refl
      by false g h = g h

  pub no_match_rounds : (l : Life V P W) (n s : ℕ) → (matches l n s ≡ true → ⊥) → life_rounds n s (Some l) ≡ []
  no_match_rounds l n s h = by (matches l n s) h
    where
      by : (b : Bool) → (b ≡ true → ⊥) → cond b l.rounds [] ≡ []
      by true h = absurd (h refl)
      by false h = refl

  -- a life under this number and start is among them, so what holds of each of them holds of it
  pub has_one : (Q : Life V P W → Type 0) (R : Type 0) (n s : ℕ) (ls : List (Life V P W))
      → ((l : Life V P W) → l.number ≡ n → l.start ≡ s → Q l → R) → Each Q ls → has n s ls ≡ true → R
  has_one Q R n s [] g h e = absurd (cc)
  has_one Q R n s (l ∷ ls) g h e = by (matches l n s) refl (has_one Q R n s ls g h.1) e
    where
      by : (b : Bool) → matches l n s ≡ b → (has n s ls ≡ true → R) → (b || has n s ls) ≡ true → R
      by true q r e = g l (match_number l n s q) (match_start l n s q) h.0
      by false q r e = r e

  pub has_retired : (n s : ℕ) (ls : List (Life V P W)) (e : Option (Life V P W)) → has n s (ls ++ retire f e) ≡ (has n s ls || has n s (retire f e))
  has_retired n s [] e = refl
  has_retired n s (l ∷ ls) e = by (matches l n s) (has_retired n s ls e)
    where
      by : (b : Bool) → has n s (ls ++ retire f e) ≡ (has n s ls || has n s (retire f e))
          → (b || has n s (ls ++ retire f e)) ≡ ((b || has n s ls) || has n s (retire f e))
      by true g = refl
      by false g = g
