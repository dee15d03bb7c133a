-- Of each identifier the first subscription: one more that is wanted.
use Rattle.std.proofs.Common.{◌≡◌, ℕ, ◌+◌, ◌<◌, Bool, true, false, ◌||◌, List, [], ◌∷◌, ◌++◌, length, take, get_or, refl, ap, sym, subst, ◌∙◌, arith, length-append}
use Rattle.std.specs.Prelude.{if◌then◌else◌, map, fold, not, Option, None, Some, is_none, option_map}
use Rattle.std.specs.Option.{is_some}
use Rattle.std.specs.List.{filter, list_any}
use Rattle.std.proofs.Math.Bool.{or-false, or_assoc}
use Rattle.std.proofs.lemmas.List.{map_more}
use Rattle.std.proofs.lemmas.List.Elements.{filter-append}
use Rattle.std.proofs.lemmas.List.Folds.{list_any-append}
use Rattle.std.proofs.lemmas.List.Sums.{fold-append}
use Rattle.std.proofs.lemmas.Slice.Eq.{bytes_eq-Decides}
use Rattle.siri_topic.specs.declared.subscription.Subscription.{Subscription}
use Rattle.siri_life.specs.Named.{Name}
use Rattle.siri_view.specs.Consuming.{is_new}
use Rattle.siri_view.specs.Kept.{Holdings}
use Rattle.siri_view.specs.Sending.{first_of_each, is_identified, own, with_first}

-- one that is left out has no identifier that isn't there
same_there : (id : Name) (before : List Subscription) (s : Subscription) → list_any (is_identified s.identifier) before ≡ true
    → is_identified id s ≡ true → list_any (is_identified id) before ≡ true
same_there id before s there is = subst (λ i. list_any (is_identified i) before ≡ true) ((bytes_eq-Decides s.identifier id).0 is) there

any_with_first : (id : Name) (before : List Subscription) (s : Subscription)
    → list_any (is_identified id) (with_first before s) ≡ (list_any (is_identified id) before || is_identified id s)
any_with_first id before s = by (list_any (is_identified s.identifier) before) refl
  where
    p : Subscription → Bool
    p = is_identified id

    left : (c : Bool) → list_any (is_identified s.identifier) before ≡ true → p s ≡ c → list_any p before ≡ (list_any p before || c)
    left true there is = let has = same_there id before s there is in rw has refl
    left false there is = sym (or-false (list_any p before))

    by : (b : Bool) → list_any (is_identified s.identifier) before ≡ b
        → list_any p (if b then before else before ++ s ∷ []) ≡ (list_any p before || p s)
    by true there = left (p s) there refl
    by false there = list_any-append p before (s ∷ []) ∙ ap (λ b. list_any p before || b) (or-false (p s))

any_firsts : (id : Name) (before list : List Subscription)
    → list_any (is_identified id) (fold with_first before list) ≡ (list_any (is_identified id) before || list_any (is_identified id) list)
any_firsts id before [] = sym (or-false (list_any (is_identified id) before))
any_firsts id before (s ∷ list) =
    let has = list_any (is_identified id) in
    any_firsts id (with_first before s) list ∙ ap (λ b. b || has list) (any_with_first id before s)
    ∙ or_assoc (has before) (is_identified id s) (has list)

any_own : (id name : Name) (list : List Subscription) → list_any (is_identified id) (map (own name) list) ≡ list_any (is_identified id) list
any_own id name [] = refl
any_own id name (s ∷ list) = ap (λ b. is_identified id s || b) (any_own id name list)

-- how many more aren't held, where the subscription isn't the first of its identifier, or is, and is held or not
abbrev pub more_new : (there new : Bool) → ℕ
more_new true new = 0
more_new false true = 1
more_new false false = 0

module _ (held : Holdings) where
  abbrev news : List Subscription → ℕ
  news list = length (filter (is_new held) list)

  one_new : (s : Subscription) (new : Bool) → is_new held s ≡ new → news (s ∷ []) ≡ more_new false new
  one_new s true is = rw is refl
  one_new s false is = rw is refl

  with_one : (before : List Subscription) (s : Subscription) (there : Bool) → list_any (is_identified s.identifier) before ≡ there
      → news (with_first before s) ≡ news before + more_new there (is_new held s)
  with_one before s true is = rw is (omega arith)
  with_one before s false is = rw is
      (ap length (filter-append (is_new held) before (s ∷ [])) ∙ length-append (filter (is_new held) before) (filter (is_new held) (s ∷ []))
      ∙ ap (λ n. news before + n) (one_new s (is_new held s) refl))

  -- one more subscription that is wanted
  pub one_more : (name : Name) (wanted : List Subscription) (i : ℕ) (s : Subscription) (there new : Bool) → i < length wanted
      → s ≡ get_or wanted i s → there ≡ list_any (is_identified s.identifier) (take i wanted) → is_new held s ≡ new
      → length (filter (is_new held) (first_of_each (map (own name) (take (i + 1) wanted))))
      ≡ length (filter (is_new held) (first_of_each (map (own name) (take i wanted)))) + more_new there new
  one_more name wanted i s there new within at is fresh =
      let before = map (own name) (take i wanted) in
      let parts = ap (λ l. news (first_of_each l)) (map_more (own name) wanted i s within ∙ ap (λ t. before ++ own name t ∷ []) (sym at))
      ∙ ap news (fold-append with_first [] before (own name s ∷ [])) in
      let has = any_firsts s.identifier [] before ∙ any_own s.identifier name (take i wanted) ∙ sym is in
      parts ∙ with_one (first_of_each before) (own name s) there has ∙ ap (λ b. news (first_of_each before) + more_new there b) fresh

-- none is held where none was found
pub none_found : {T U : Type 0} (f : T → U) (found : Option T) (kept : Option U) (none : Bool) → option_map f found ≡ kept
    → is_some found ≡ not none → is_none kept ≡ none
none_found f None kept true is some = rw (sym is) refl
none_found f None kept false is some = absurd (cc)
none_found f (Some x) kept true is some = absurd (cc)
none_found f (Some x) kept false is some = rw (sym is) refl
