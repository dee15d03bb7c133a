-- The consumers of a world by their names: what is found of each after one of them changes, and after a moment.
use Rattle.std.proofs.Common.{◌≡◌, ℕ, List, [], ◌∷◌, Bool, true, false, cond, Option, None, Some, refl, sym, ap, ◌∙◌, subst}
use Rattle.std.specs.Prelude.{option_map}
use Rattle.std.specs.Option.{option_map_or, option_and_then}
use Rattle.std.specs.List.{All}
use Rattle.std.specs.Cmp.Lexicographic.{nat_list_eq_equiv}
use Rattle.std.proofs.lemmas.List.Elements.{All-head, All-tail, All-cons, All-map}
use Rattle.siri_life.specs.Named.{Name, same_name}
use Rattle.siri_life.proofs.Names.{name_is, name_same}
use Rattle.siri_view.specs.Consuming.{Consuming, clocked}
use Rattle.siri_view.specs.Kept.{kept_of}
use Rattle.siri_world_model.specs.Consumers.{consumer_of, is_named, with_consumer, all_clocked}
use Rattle.siri_world_model.specs.laws.Networks.{next_number_of, kept_by}
use Rattle.siri_world_model.proofs.Well.{IsOrdered}

-- ---- names

pub same_turned : (a b : Name) → same_name a b ≡ same_name b a
same_turned a b = nat_list_eq_equiv.symm a b

-- ---- who is found

-- who is found has the name
pub found_named : (name : Name) (cs : List Consuming) (c : Consuming) → consumer_of name cs ≡ Some c → c.name ≡ name
found_named name [] c e = absurd (cc)
found_named name (x ∷ xs) c e = by (same_name x.name name) refl e (found_named name xs c)
  where
    by : (b : Bool) → same_name x.name name ≡ b → cond b (Some x) (consumer_of name xs) ≡ Some c
        → (consumer_of name xs ≡ Some c → c.name ≡ name) → c.name ≡ name
    by true s e rest = let q : x ≡ c = cc in sym (ap (λ (z : Consuming). z.name) q) ∙ name_is x.name name s
    by false s e rest = rest e

-- and holds what is in order, where all do
pub found_ordered : (name : Name) (cs : List Consuming) (c : Consuming) → All IsOrdered cs → consumer_of name cs ≡ Some c → IsOrdered c
found_ordered name [] c all e = absurd (cc)
found_ordered name (x ∷ xs) c all e = by (same_name x.name name) e (All-head IsOrdered x xs all) (found_ordered name xs c (All-tail IsOrdered x xs all))
  where
    by : (b : Bool) → cond b (Some x) (consumer_of name xs) ≡ Some c → IsOrdered x → (consumer_of name xs ≡ Some c → IsOrdered c) → IsOrdered c
    by true e here rest = let q : x ≡ c = cc in subst IsOrdered q here
    by false e here rest = rest e

module _ (c : Consuming) where
  later : (q r : Bool) (x : Consuming) (new old : Option Consuming) → (q ≡ true → r ≡ true → ⊥)
      → new ≡ cond q (Some c) old → cond r (Some x) new ≡ cond q (Some c) (cond r (Some x) old)
  later true true x new old apart rest = absurd (apart refl refl)
  later true false x new old apart rest = rest
  later false true x new old apart rest = refl
  later false false x new old apart rest = rest

  apart : (name : Name) (x : Consuming) → same_name x.name c.name ≡ false → same_name c.name name ≡ true → same_name x.name name ≡ true → ⊥
  apart name x s q r =
      let same : same_name x.name c.name ≡ true = name_same x.name c.name (name_is x.name name r ∙ sym (name_is c.name name q)) in
      absurd (cc)

  found_after : (name : Name) (cs : List Consuming) → consumer_of name (with_consumer c cs) ≡ cond (same_name c.name name) (Some c) (consumer_of name cs)
  found_after name [] = refl
  found_after name (x ∷ xs) = by (same_name x.name c.name) refl (found_after name xs)
    where
      first : (q r : Bool) (old : Option Consuming) → r ≡ q → cond q (Some c) old ≡ cond q (Some c) (cond r (Some x) old)
      first true r old e = refl
      first false false old e = refl
      first false true old e = absurd (cc)

      by : (p : Bool) → same_name x.name c.name ≡ p → consumer_of name (with_consumer c xs) ≡ cond (same_name c.name name) (Some c) (consumer_of name xs)
          → consumer_of name (cond p (c ∷ xs) (x ∷ with_consumer c xs)) ≡ cond (same_name c.name name) (Some c)
          (cond (same_name x.name name) (Some x) (consumer_of name xs))
      by true s rest = first (same_name c.name name) (same_name x.name name) (consumer_of name xs) (ap (λ n. same_name n name) (name_is x.name c.name s))
      by false s rest = later (same_name c.name name) (same_name x.name name) x (consumer_of name (with_consumer c xs))
          (consumer_of name xs) (apart name x s) rest

  -- after one changes
  pub found_with : (name : Name) (cs : List Consuming) → consumer_of name (with_consumer c cs) ≡ cond (same_name name c.name) (Some c) (consumer_of name cs)
  found_with name cs = found_after name cs ∙ ap (λ b. cond b (Some c) (consumer_of name cs)) (same_turned c.name name)

  pub next_with : (name : Name) (cs : List Consuming) → next_number_of name (with_consumer c cs) ≡ cond
      (same_name name c.name) c.next_number (next_number_of name cs)
  next_with name cs = ap (λ found. option_map_or (λ (d : Consuming). d.next_number) found 1) (found_with name cs) ∙ by (same_name name c.name)
    where
      by : (b : Bool) → option_map_or (λ (d : Consuming). d.next_number)
          (cond b (Some c) (consumer_of name cs)) 1 ≡ cond b c.next_number (next_number_of name cs)
      by true = refl
      by false = refl

  pub kept_with : (name identifier : Name) (cs : List Consuming)
      → kept_by name identifier (with_consumer c cs) ≡ cond (same_name name c.name) (kept_of identifier c.held)
      (kept_by name identifier cs)
  kept_with name identifier cs = ap (λ found. option_and_then (λ (d : Consuming). kept_of identifier d.held) found)
      (found_with name cs) ∙ by (same_name name c.name)
    where
      by : (b : Bool) → option_and_then (λ (d : Consuming). kept_of identifier d.held)
          (cond b (Some c) (consumer_of name cs)) ≡ cond b (kept_of identifier c.held) (kept_by name identifier cs)
      by true = refl
      by false = refl

  pub ordered_with : (cs : List Consuming) → IsOrdered c → All IsOrdered cs → All IsOrdered (with_consumer c cs)
  ordered_with [] own all = All-cons IsOrdered c [] own all
  ordered_with (x ∷ xs) own all = by (is_named c.name x) (All-head IsOrdered x xs all) (All-tail IsOrdered x xs all)
      (ordered_with xs own (All-tail IsOrdered x xs all))
    where
      by : (b : Bool) → IsOrdered x → All IsOrdered xs → All IsOrdered (with_consumer c xs) → All IsOrdered (cond b (c ∷ xs) (x ∷ with_consumer c xs))
      by true here old rest = All-cons IsOrdered c xs own old
      by false here old rest = All-cons IsOrdered x (with_consumer c xs) here rest

-- ---- after a moment

module _ (moment : ℕ) where
  pub found_clocked : (name : Name) (cs : List Consuming) → consumer_of name (all_clocked moment cs) ≡ option_map (λ c. clocked c moment) (consumer_of name cs)
  found_clocked name [] = refl
  found_clocked name (x ∷ xs) = by (same_name x.name name) (found_clocked name xs)
    where
      by : (b : Bool) → consumer_of name (all_clocked moment xs) ≡ option_map (λ c. clocked c moment) (consumer_of name xs)
          → cond b (Some (clocked x moment)) (consumer_of name (all_clocked moment xs)) ≡ option_map
          (λ c. clocked c moment) (cond b (Some x) (consumer_of name xs))
      by true rest = refl
      by false rest = rest

  pub next_clocked : (name : Name) (cs : List Consuming) → next_number_of name (all_clocked moment cs) ≡ next_number_of name cs
  next_clocked name cs = ap (λ found. option_map_or (λ (d : Consuming). d.next_number) found 1) (found_clocked name cs) ∙ by (consumer_of name cs)
    where
      by : (found : Option Consuming) → option_map_or (λ (d : Consuming). d.next_number)
          (option_map (λ c. clocked c moment) found) 1 ≡ option_map_or (λ (d : Consuming). d.next_number) found 1
      by None = refl
      by (Some c) = refl

  pub kept_clocked : (name identifier : Name) (cs : List Consuming) → kept_by name identifier (all_clocked moment cs) ≡ kept_by name identifier cs
  kept_clocked name identifier cs = ap (λ found. option_and_then (λ (d : Consuming). kept_of identifier d.held) found)
      (found_clocked name cs) ∙ by (consumer_of name cs)
    where
      by : (found : Option Consuming) → option_and_then (λ (d : Consuming). kept_of identifier d.held)
          (option_map (λ c. clocked c moment) found) ≡ option_and_then
          (λ (d : Consuming). kept_of identifier d.held) found
      by None = refl
      by (Some c) = refl

  pub ordered_clocked : (cs : List Consuming) → All IsOrdered cs → All IsOrdered (all_clocked moment cs)
  ordered_clocked cs all = All-map IsOrdered (λ c. clocked c moment) cs all
