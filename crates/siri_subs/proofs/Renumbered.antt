-- When each answer to an AllData request comes.
use Rattle.std.proofs.Common.{◌≡◌, ℕ, ◌<◌, Bool, true, false, not, cond, Option, Some, None, Ok, Err, Result, refl, ap, sym, ◌∙◌, arith}
use Rattle.std.specs.Prelude.{◌==◌, nat_lt, ◌↔◌}
use Rattle.std.proofs.lemmas.Bool.{eqb-true, eqb-false, ltb-true, ltb-false, lt-ltb}
use Rattle.siri_subs.specs.declared.entry.Row.{Row}
use Rattle.siri_subs.specs.declared.errors.Accepted.{Accepted}
use Rattle.siri_subs.specs.declared.errors.Accepted.TheVariants as accepted_as
use Rattle.siri_subs.specs.declared.errors.RenumberError.{RenumberError}
use Rattle.siri_subs.specs.declared.errors.RenumberError.TheVariants as refused_as
use Rattle.siri_subs.specs.Table.{acceptance_of, is_above, renumber_answer}

-- the answer by its three tests
abbrev by_tests : (based same less : Bool) → ℕ → Result Accepted RenumberError
by_tests based same less held =
    cond (not based) (Err refused_as.UnknownSubscription)
    (cond same (Ok accepted_as.Again) (cond less (Err (refused_as.Superseded held)) (Ok accepted_as.Renewed)))

module _ (n held : ℕ) where
  again_case : (based same less : Bool) → (held == n) ≡ same
      → (by_tests based same less held ≡ Ok accepted_as.Again) ↔ (cond based (Some held) None ≡ Some n)
  again_case false same less is = ((λ e. absurd (cc e)), (λ e. absurd (cc e)))
  again_case true true less is = ((λ e. ap Some (eqb-true held n is)), (λ e. refl))
  again_case true false true is = ((λ e. absurd (cc e)), (λ e. absurd (eqb-false held n is (cc e))))
  again_case true false false is = ((λ e. absurd (cc e)), (λ e. absurd (eqb-false held n is (cc e))))

  unknown_case : (based same less : Bool)
      → (by_tests based same less held ≡ Err refused_as.UnknownSubscription) ↔ (cond based (Some held) None ≡ None)
  unknown_case false same less = ((λ e. refl), (λ e. refl))
  unknown_case true true less = ((λ e. absurd (cc e)), (λ e. absurd (cc e)))
  unknown_case true false true = ((λ e. absurd (cc e)), (λ e. absurd (cc e)))
  unknown_case true false false = ((λ e. absurd (cc e)), (λ e. absurd (cc e)))

  superseded_case : (k : ℕ) (based same less : Bool) → (held == n) ≡ same → nat_lt n held ≡ less
      → (by_tests based same less held ≡ Err (refused_as.Superseded k)) ↔ ((cond based (Some held) None ≡ Some k) × (n < k))
  superseded_case k false same less is lt = ((λ e. absurd (cc e)), (λ e. absurd (cc (e.0))))
  superseded_case k true true less is lt =
      let same = eqb-true held n is in
      ((λ e. absurd (cc e)), (λ e. let held_is : held ≡ k = cc (e.0) in let above = e.1 in absurd (omega arith)))
  superseded_case k true false true is lt =
      let above = ltb-true n held lt in (
        (λ e. let held_is : held ≡ k = cc e in (ap Some held_is, omega arith)),
        (λ e. let held_is : held ≡ k = cc (e.0) in ap (λ m. Err (refused_as.Superseded m)) held_is),
      )
  superseded_case k true false false is lt =
      let below = ltb-false n held lt in
      ((λ e. absurd (cc e)), (λ e. let held_is : held ≡ k = cc (e.0) in let above = e.1 in absurd (omega arith)))

  renewed_case : (based same less : Bool) → (held == n) ≡ same → nat_lt n held ≡ less
      → (by_tests based same less held ≡ Ok accepted_as.Renewed) ↔ (is_above n (cond based (Some held) None) ≡ true)
  renewed_case false same less is lt = ((λ e. absurd (cc e)), (λ e. absurd (cc e)))
  renewed_case true true less is lt =
      let same = eqb-true held n is in
      ((λ e. absurd (cc e)), (λ e. let above = ltb-true held n e in absurd (omega arith)))
  renewed_case true false true is lt =
      let below = ltb-true n held lt in
      ((λ e. absurd (cc e)), (λ e. let above = ltb-true held n e in absurd (omega arith)))
  renewed_case true false false is lt =
      let apart = eqb-false held n is in
      let above = ltb-false n held lt in
      ((λ e. lt-ltb held n (omega arith)), (λ e. refl))

module _ {E : Type 0} (n b : ℕ) where
  pub again_where : (e : Option (Row E)) (r : Result Accepted RenumberError) → r ≡ renumber_answer n b e
      → (r ≡ Ok accepted_as.Again) ↔ (acceptance_of b e ≡ Some n)
  again_where None r is = ((λ e. absurd (cc (sym is ∙ e))), (λ e. absurd (cc e)))
  again_where (Some h) r is =
      let exact = again_case n h.number (h.base == b) (h.number == n) (nat_lt n h.number) refl in
      ((λ e. exact.0 (sym is ∙ e)), (λ e. is ∙ exact.1 e))

  pub unknown_where : (e : Option (Row E)) (r : Result Accepted RenumberError) → r ≡ renumber_answer n b e
      → (r ≡ Err refused_as.UnknownSubscription) ↔ (acceptance_of b e ≡ None)
  unknown_where None r is = ((λ e. refl), (λ e. is))
  unknown_where (Some h) r is =
      let exact = unknown_case n h.number (h.base == b) (h.number == n) (nat_lt n h.number) in
      ((λ e. exact.0 (sym is ∙ e)), (λ e. is ∙ exact.1 e))

  pub superseded_where : (e : Option (Row E)) (r : Result Accepted RenumberError) → r ≡ renumber_answer n b e → (k : ℕ)
      → (r ≡ Err (refused_as.Superseded k)) ↔ ((acceptance_of b e ≡ Some k) × (n < k))
  superseded_where None r is k = ((λ e. absurd (cc (sym is ∙ e))), (λ e. absurd (cc (e.0))))
  superseded_where (Some h) r is k =
      let exact = superseded_case n h.number k (h.base == b) (h.number == n) (nat_lt n h.number) refl refl in
      ((λ e. exact.0 (sym is ∙ e)), (λ e. is ∙ exact.1 e))

  pub renewed_where : (e : Option (Row E)) (r : Result Accepted RenumberError) → r ≡ renumber_answer n b e
      → (r ≡ Ok accepted_as.Renewed) ↔ (is_above n (acceptance_of b e) ≡ true)
  renewed_where None r is = ((λ e. absurd (cc (sym is ∙ e))), (λ e. absurd (cc e)))
  renewed_where (Some h) r is =
      let exact = renewed_case n h.number (h.base == b) (h.number == n) (nat_lt n h.number) refl refl in
      ((λ e. exact.0 (sym is ∙ e)), (λ e. is ∙ exact.1 e))
