-- The goal that is told of a view is that of the network: of all lives those of the start that sent it are looked at alone.
use Rattle.std.proofs.Common.{◌≡◌, ℕ, zero, suc, ◌+◌, ◌<◌, Bool, true, false, cond, ◌&&◌, List, [], ◌∷◌, ◌++◌, fold, Option, Some, None}
use Rattle.std.proofs.Common.{refl, sym, ap, ◌∙◌, subst, arith}
use Rattle.std.specs.Prelude.{◌==◌, slice_get, unwrap_or}
use Rattle.std.proofs.lemmas.Bool.{eqb-true}
use Rattle.siri_records.specs.Keyed.{Items}
use Rattle.siri_change.specs.Parts.{Carried}
use Rattle.siri_life.specs.Life.{Round}
use Rattle.siri_life.specs.Link.{Origin, GoalAt, rounds_of, life_rounds, matches}
use Rattle.siri_life.specs.Named.{Name, Of, those, find}
use Rattle.siri_life.proofs.Book.{ended_same}
use Rattle.siri_life.proofs.Names.{those_append}
use Rattle.siri_life.proofs.Sees.{retire_first}
use Rattle.siri_model.specs.History.{Step, Start, Clock, Feed, Take, Settle, History}
use Rattle.siri_model.specs.Lives.{Living, Served, acts_in, acts_of, none_served, served_after, serving_of}
use Rattle.siri_model.specs.Meaning.{meaning}
use Rattle.siri_world_model.specs.Goals.{rounds_in, target_of, target_at, goal}
use Rattle.siri_world_model.specs.World.{World, start_at}
use Rattle.siri_world_model.specs.laws.Networks.{all_lives, serving_from, serving_in}
use Rattle.siri_world_model.proofs.Well.{AreNumbered}
use Rattle.siri_world_model.proofs.Starts.{AreOf, of_found, IsOwn, own_after, own_opening}

-- ---- each history

own_step : (v : Served) (step : Step) → IsOwn meaning v → IsOwn meaning (served_after v step)
unfolding served_after
own_step v (Start number moment) own = own_opening meaning number moment
own_step v (Clock moment) own = own_after meaning (acts_of (Clock moment)) v own
own_step v (Feed entries) own = own_after meaning (acts_of (Feed entries)) v own
own_step v (Take message) own = own_after meaning (acts_in message) v own
own_step v Settle own = own_after meaning (acts_of Settle) v own

own_from : (v : Served) (steps : History) → IsOwn meaning v → IsOwn meaning (fold served_after v steps)
own_from v [] own = own
own_from v (step ∷ steps) own = own_from (served_after v step) steps (own_step v step own)

-- each life of a history is of its latest start, and no subscription is held twice
pub own_of : (h : History) → IsOwn meaning (serving_of h)
own_of h = own_from none_served h (own_opening meaning 0 0)

-- ---- lives of other starts

-- no life is of this start
abbrev AreNot : ℕ → List Living → Type 0
AreNot s [] = Unit {0}
AreNot s (l ∷ ls) = ((l.start == s) ≡ false) × AreNot s ls

not_append : (s : ℕ) (xs ys : List Living) → AreNot s xs → AreNot s ys → AreNot s (xs ++ ys)
not_append s [] ys a b = b
not_append s (x ∷ xs) ys a b = (a.0, not_append s xs ys a.1 b)

not_those : (k s : ℕ) (c i : Name) (xs : List (Of Living)) → (k == s) ≡ false → AreOf k xs → AreNot s (those c i xs)
not_those k s c i [] apart own = tt
not_those k s c i (x ∷ xs) apart own = by (_) (not_those k s c i xs apart own.1)
  where
    by : (b : Bool) → AreNot s (those c i xs) → AreNot s (cond b (x.it ∷ those c i xs) (those c i xs))
    by true r = (ap (λ z. z == s) own.0 ∙ apart, r)
    by false r = r

other_start : (l : Living) (n s : ℕ) → (l.start == s) ≡ false → matches l n s ≡ false
other_start l n s apart = by (l.number == n)
  where
    by : (b : Bool) → (b && (l.start == s)) ≡ false
    by true = apart
    by false = refl

-- such lives come first
skip_first : (n s : ℕ) (e : Option Living) (xs ys : List Living) → AreNot s xs → rounds_of n s e (xs ++ ys) ≡ rounds_of n s e ys
skip_first n s e [] ys a = refl
skip_first n s e (x ∷ xs) ys a = ap (λ b. cond b x.rounds (rounds_of n s e (xs ++ ys))) (other_start x n s a.0) ∙ skip_first n s e xs ys a.1

no_rounds : (n s : ℕ) (e : Option Living) (ys : List Living) → life_rounds n s e ≡ [] → AreNot s ys → rounds_of n s e ys ≡ []
no_rounds n s e [] none a = none
no_rounds n s e (y ∷ ys) none a = ap (λ b. cond b y.rounds (rounds_of n s e ys)) (other_start y n s a.0) ∙ no_rounds n s e ys none a.1

-- such lives come last
skip_last : (n s : ℕ) (e : Option Living) (xs ys : List Living) → life_rounds n s e ≡ [] → AreNot s ys → rounds_of n s e (xs ++ ys) ≡ rounds_of n s None xs
skip_last n s e [] ys none a = no_rounds n s e ys none a
skip_last n s e (x ∷ xs) ys none a = ap (λ rs. cond (matches x n s) x.rounds rs) (skip_last n s e xs ys none a)

found_none : (k n s : ℕ) (c i : Name) (xs : List (Of Living)) (e : Option Living) → (k == s) ≡ false → AreOf k xs → find c i xs ≡ e → life_rounds n s e ≡ []
found_none k n s c i xs None apart own is = refl
found_none k n s c i xs (Some l) apart own is = ap (λ b. cond b l.rounds []) (other_start l n s (ap (λ z. z == s) (of_found k c i xs l own is) ∙ apart))

-- ---- the lives of all starts

apart_of : (k s : ℕ) → (k ≡ s → ⊥) → (k == s) ≡ false
apart_of k s never = by (k == s) refl
  where
    by : (b : Bool) → (k == s) ≡ b → (k == s) ≡ false
    by true is = absurd (never (eqb-true k s is))
    by false is = is

module _ (c i : Name) (n s : ℕ) where
  -- the rounds of the first acceptance under a number and a start, among the lives of all starts
  abbrev pub rounds_by : Served → List (Round Items Carried)
  rounds_by v = rounds_of n s (find c i v.table) (those c i v.ended)

  those_all : (b : List (Of Living)) (v : Served) → those c i (b ++ all_lives v) ≡ those c i b ++ (those c i v.ended ++ those c i v.table)
  those_all b v = those_append c i b (v.ended ++ v.table) ∙ ap (λ xs. those c i b ++ xs) (those_append c i v.ended v.table)

  -- of starts after this one no life is under it
  later : (b : List (Of Living)) (k : ℕ) (h : History) (more : List History) → AreNumbered k (h ∷ more) → s < k
      → rounds_by (serving_from b (h ∷ more)) ≡ rounds_of n s None (those c i b)
  later b k h [] numbered less =
      let v = serving_of h in
      let own = own_of h in
      let apart : (v.start == s) ≡ false = apart_of v.start s (λ is. let same = numbered.0 in absurd (omega (arith, is))) in
      ap (rounds_of n s (find c i v.table)) (those_append c i b v.ended)
      ∙ skip_last n s (find c i v.table) (those c i b) (those c i v.ended)
      (found_none v.start n s c i v.table (find c i v.table) apart own.table refl)
      (not_those v.start s c i v.ended apart own.ended)
  later b k h (next ∷ more) numbered less =
      let v = serving_of h in
      let own = own_of h in
      let apart : (v.start == s) ≡ false = apart_of v.start s (λ is. let same = numbered.0 in absurd (omega (arith, is))) in
      later (b ++ all_lives v) (suc k) next more numbered.1 (omega (arith, less))
      ∙ ap (rounds_of n s None) (those_all b v)
      ∙ skip_last n s None (those c i b) (those c i v.ended ++ those c i v.table) refl
      (not_append s (those c i v.ended) (those c i v.table) (not_those v.start s c i v.ended apart own.ended)
      (not_those v.start s c i v.table apart own.table))

  -- the lives of a start are those of its history
  here : (b : List (Of Living)) (k : ℕ) (h : History) (more : List History) (j : ℕ) → AreNumbered k (h ∷ more)
      → AreNot s (those c i b) → k + j ≡ s → rounds_by (serving_from b (h ∷ more)) ≡ rounds_in
      (unwrap_or (slice_get (h ∷ more) j) []) c i n s
  here b k h [] zero numbered before is =
      let v = serving_of h in
      ap (rounds_of n s (find c i v.table)) (those_append c i b v.ended)
      ∙ skip_first n s (find c i v.table) (those c i b) (those c i v.ended) before
  here b k h [] (suc j) numbered before is =
      let v = serving_of h in
      let own = own_of h in
      let apart : (v.start == s) ≡ false = apart_of v.start s (λ at. let same = numbered.0 in absurd (omega (arith, at, is))) in
      ap (rounds_of n s (find c i v.table)) (those_append c i b v.ended)
      ∙ skip_first n s (find c i v.table) (those c i b) (those c i v.ended) before
      ∙ no_rounds n s (find c i v.table) (those c i v.ended)
      (found_none v.start n s c i v.table (find c i v.table) apart own.table refl)
      (not_those v.start s c i v.ended apart own.ended)
  here b k h (next ∷ more) zero numbered before is =
      let v = serving_of h in
      later (b ++ all_lives v) (suc k) next more numbered.1 (omega (arith, is))
      ∙ ap (rounds_of n s None) (those_all b v)
      ∙ skip_first n s None (those c i b) (those c i v.ended ++ those c i v.table) before
      ∙ ap (λ ls. rounds_of n s None (those c i v.ended ++ ls)) (retire_first meaning c i (those c i v.table) ((own_of h).once c i))
      ∙ ended_same meaning n s (find c i v.table) (those c i v.ended)
  here b k h (next ∷ more) (suc j) numbered before is =
      let v = serving_of h in
      let own = own_of h in
      let apart : (v.start == s) ≡ false = apart_of v.start s (λ at. let same = numbered.0 in absurd (omega (arith, at, is))) in
      here (b ++ all_lives v) (suc k) next more j numbered.1
      (subst (AreNot s) (sym (those_all b v))
      (not_append s (those c i b) (those c i v.ended ++ those c i v.table) before
      (not_append s (those c i v.ended) (those c i v.table) (not_those v.start s c i v.ended apart own.ended)
      (not_those v.start s c i v.table apart own.table))))
      (omega (arith, is))

-- the rounds that are told of are those of the network
pub rounds_are : (c i : Name) (n s : ℕ) (world : World) → AreNumbered 1 world.starts
    → rounds_by c i n s (serving_in world) ≡ rounds_in (start_at s world) c i n s
rounds_are c i n s world numbered = by s world.starts numbered
  where
    by : (s : ℕ) (starts : List History) → AreNumbered 1 starts
        → rounds_by c i n s (serving_from [] starts) ≡ rounds_in (start_at s (record world { starts = starts })) c i n s
    by zero [] numbered = refl
    by (suc j) [] numbered = refl
    by zero (h ∷ more) numbered = later c i n zero [] 1 h more numbered (omega arith)
    by (suc j) (h ∷ more) numbered = here c i n (suc j) [] 1 h more j numbered tt (omega arith)

-- a view that is the goal of a round is its target
target_is : (rs : List (Round Items Carried)) (r : ℕ) (view : Items) → GoalAt meaning rs r view → view ≡ target_at rs r
target_is rs zero view is = is
target_is rs (suc j) view is = sym is.2 ∙ sym (ap target_of is.1)

pub goal_is : (c i : Name) (origin : Origin) (view : Items) (world : World) → AreNumbered 1 world.starts
    → GoalAt meaning (rounds_by c i origin.number origin.start (serving_in world)) origin.round view
    → view ≡ goal world c i origin
goal_is c i origin view world numbered is =
    target_is (rounds_by c i origin.number origin.start (serving_in world)) origin.round view is
    ∙ ap (λ rs. target_at rs origin.round) (rounds_are c i origin.number origin.start world numbered)
