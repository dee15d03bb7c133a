-- What is kept of a subscription after a wanted part.
use Rattle.std.proofs.Common.{◌≡◌, ◌⊎◌, ℕ, suc, ◌<◌, ◌≤◌, Bool, true, false, cond, not, ◌||◌, List, [], ◌∷◌, ◌++◌, length, refl, sym, ap}
use Rattle.std.proofs.Common.{◌∙◌, subst, ⊎_elim, arith}
use Rattle.std.specs.Prelude.{nat_lt, ◌==◌, flat_map}
use Rattle.std.proofs.lemmas.Bool.{lt-ltb, le-ltb, eqb-true, eqb-false, eq-eqb, ne_eqb}
use Rattle.std.proofs.lemmas.Grind.{flat_map-append, fold-append}
use Rattle.std.proofs.lemmas.List.{append-nil}
use Rattle.siri_records.specs.Keyed.{Items, KeyChange, apply, after_change}
use Rattle.siri_change.specs.Parts.{Carried, changes_in}
use Rattle.siri_life.specs.Meaning.{apply_parts}
use Rattle.siri_life.specs.Life.{Mark}
use Rattle.siri_life.specs.Link as life
use Rattle.siri_life.specs.Link.{taken, taken_as, with_part, with_start_if, base_of}
use Rattle.siri_view.specs.Table.{IsAt, IsTooGreat, IsFirst}
use Rattle.siri_view.proofs.Outcomes.{comes_only}
use Rattle.siri_view.specs.Kept.{meaning, HeldSubscription}

-- parts one after the other are all their changes at once
pub parts_at_once : (view : Items) (parts : List Carried) → apply_parts meaning view parts ≡ apply view (flat_map changes_in parts)
parts_at_once view [] = refl
parts_at_once view (p ∷ ps) = parts_at_once (apply view (changes_in p)) ps ∙ sym (fold-append after_change view (changes_in p) (flat_map changes_in ps))

suc_is_one : (r : ℕ) → (suc r == 1) ≡ (r == 0)
suc_is_one r = at (r == 0) refl
  where
    at : (b : Bool) → (r == 0) ≡ b → (suc r == 1) ≡ b
    at true t = let e = eqb-true r 0 t in eq-eqb (suc r) 1 (omega arith)
    at false t = ne_eqb (suc r) 1 (λ e. eqb-false r 0 t (omega arith))

module _ (h : HeldSubscription) (m : Mark) (x : Carried) (wanted : life.outcome meaning h m ≡ life.Wanted) where
  taken_is : (more : Bool) (b : Bool) → nat_lt h.start m.start ≡ b → taken meaning h m more x ≡ with_part meaning more (with_start_if meaning b h m.start) x
  taken_is more b t = ap (λ o. taken_as meaning o h m more x) wanted ∙ ap (λ c. with_part meaning more (with_start_if meaning c h m.start) x) t

  -- its round is applied, as the first of a greater start, or with the others
  pub applied_anew : h.start < m.start → taken meaning h m false x ≡ record h {
    start = m.start;
    round = 1;
    parts = [];
    view = apply [] (changes_in x);
    origin = record { number = h.number; start = m.start; round = 1 };
  }
  applied_anew less = taken_is false true (lt-ltb _ _ less)

  pub applied_on : m.start ≤ h.start → taken meaning h m false x ≡ record h {
    round = suc h.round;
    parts = [];
    view = apply (base_of meaning h) (flat_map changes_in h.parts ++ changes_in x);
    origin = record { number = h.number; start = h.start; round = suc h.round };
  }
  applied_on le =
      taken_is false false (le-ltb _ _ le)
      ∙ ap (λ view. record h {
        round = suc h.round;
        parts = [];
        view = view;
        origin = record { number = h.number; start = h.start; round = suc h.round };
      })
      (parts_at_once (base_of meaning h) (h.parts ++ x ∷ [])
      ∙ ap (apply (base_of meaning h)) (flat_map-append changes_in h.parts (x ∷ [])
      ∙ ap (λ l. flat_map changes_in h.parts ++ l) last_alone))
    where
      last_alone : flat_map changes_in (x ∷ []) ≡ changes_in x
      last_alone = append-nil (changes_in x)

  abbrev at : ℕ → Bool → Bool → HeldSubscription
  at round is_anew is_greater = record h {
    start = m.start;
    round = round;
    parts = [];
    view = apply (cond is_anew [] h.view) (flat_map changes_in (cond is_greater [] h.parts) ++ changes_in x);
    origin = record { number = h.number; start = m.start; round = round };
  }

  abbrev with_view : (start round : ℕ) → Items → HeldSubscription
  with_view start round view = record h {
    start = start;
    round = round;
    parts = [];
    view = view;
    origin = record { number = h.number; start = start; round = round };
  }

  abbrev at_kept : (start round : ℕ) → Bool → HeldSubscription
  at_kept start round is_anew = with_view start round (apply (cond is_anew [] h.view) (flat_map changes_in h.parts ++ changes_in x))

  base_as : (z i : Bool) → cond z [] (cond i h.view []) ≡ cond (z || not i) [] h.view
  base_as true i = refl
  base_as false true = refl
  base_as false false = refl

  -- by the start and the round of its mark
  pub applied : taken meaning h m false x ≡ record h {
    start = m.start;
    round = m.round;
    parts = [];
    view = apply (cond (m.round == 1 || not h.wanted.subscription.incremental) [] h.view)
        (flat_map changes_in (cond (nat_lt h.start m.start) [] h.parts) ++ changes_in x);
    origin = record { number = h.number; start = m.start; round = m.round };
  }
  applied =
      ⊎_elim
      (λ (a : (h.start < m.start) × IsFirst m). anew a.0 a.1)
      (λ (a : (m.start ≡ h.start) × IsAt h.round (length h.parts) m × (¬ (IsTooGreat m))). on a.0 a.1)
      (comes_only h.number h.start h.round (length h.parts) m life.Wanted wanted).1
    where
      anew : h.start < m.start → IsFirst m → taken meaning h m false x ≡ at m.round
          (m.round == 1 || not h.wanted.subscription.incremental) (nat_lt h.start m.start)
      anew less first =
          let t : nat_lt h.start m.start ≡ true = lt-ltb _ _ less in
          let e : m.round ≡ 1 = first.0 in
          subst (λ b. taken meaning h m false x ≡ at m.round (m.round == 1 || not h.wanted.subscription.incremental) b)
          (sym t) (subst (λ r. taken meaning h m false x ≡ at r
          (r == 1 || not h.wanted.subscription.incremental) true) (sym e) (applied_anew less))

      on : m.start ≡ h.start → IsAt h.round (length h.parts) m
          → taken meaning h m false x ≡ at m.round (m.round == 1 || not h.wanted.subscription.incremental)
          (nat_lt h.start m.start)
      on same place =
          let t : nat_lt h.start m.start ≡ false = le-ltb _ _ (omega arith) in
          let e : m.round ≡ suc h.round = place.0 in
          let one : (h.round == 0 || not h.wanted.subscription.incremental) ≡ (suc h.round == 1
          || not h.wanted.subscription.incremental) = ap (λ z. z || not h.wanted.subscription.incremental)
          (sym (suc_is_one h.round)) in
          let b = base_as (h.round == 0) h.wanted.subscription.incremental in
          let known : taken meaning h m false x ≡ at_kept h.start (suc h.round) (h.round == 0 || not h.wanted.subscription.incremental) =
          applied_on (omega arith) ∙ ap (λ v. with_view h.start (suc h.round) v) (ap (λ v. apply v (flat_map changes_in h.parts ++ changes_in x)) b) in
          subst (λ g. taken meaning h m false x ≡ at m.round (m.round == 1 || not h.wanted.subscription.incremental) g) (sym t)
          (subst (λ r. taken meaning h m false x ≡ at_kept m.start r (r == 1 || not h.wanted.subscription.incremental)) (sym e)
          (subst (λ s. taken meaning h m false x ≡ at_kept s (suc h.round)
          (suc h.round == 1 || not h.wanted.subscription.incremental)) (sym same)
          (subst (λ z. taken meaning h m false x ≡ at_kept h.start (suc h.round) z) one known)))

  -- the same of what is kept by another name, with its changes and its view
  pub applied_to : (g : HeldSubscription) → g ≡ h → (view : Items) (changes : List KeyChange) (is_anew : Bool)
      → changes ≡ flat_map changes_in (cond (nat_lt h.start m.start) [] h.parts) ++ changes_in x
      → is_anew ≡ (m.round == 1 || not h.wanted.subscription.incremental)
      → view ≡ apply (cond is_anew [] g.view) changes
      → record g {
        start = m.start;
        round = m.round;
        parts = [];
        view = view;
        origin = record { number = g.number; start = m.start; round = m.round };
      } ≡ taken meaning h m false x
  applied_to g e view changes is_anew p q r =
      subst (λ k. record k {
        start = m.start;
        round = m.round;
        parts = [];
        view = view;
        origin = record { number = k.number; start = m.start; round = m.round };
      } ≡ taken meaning h m false x) (sym e)
      (ap (λ v. record h {
        start = m.start;
        round = m.round;
        parts = [];
        view = v;
        origin = record { number = h.number; start = m.start; round = m.round };
      }) is_view ∙ sym applied)
    where
      is_view : view ≡ apply (cond (m.round == 1 || not h.wanted.subscription.incremental) [] h.view)
          (flat_map changes_in (cond (nat_lt h.start m.start) [] h.parts) ++ changes_in x)
      is_view =
          r ∙ (ap (λ (k : HeldSubscription). apply (cond is_anew [] k.view) changes) e
          ∙ (ap (λ b. apply (cond b [] h.view) changes) q ∙ ap (apply (cond (m.round == 1 || not h.wanted.subscription.incremental) [] h.view)) p))
