-- What a request for all of a subscription changes, and what it is answered.
use Rattle.std.proofs.Common.{◌≡◌, ℕ, List, [], ◌∷◌, Bool, true, false, cond, not, ◌&&◌, ◌||◌, map, Option, Some, None}
use Rattle.std.proofs.Common.{Result, Ok, Err, option_map}
use Rattle.std.proofs.Common.{refl, ap, ◌∙◌, sym}
use Rattle.std.specs.Prelude.{find, ◌==◌, nat_lt}
use Rattle.std.proofs.lemmas.Bool.{or_parts}
use Rattle.siri_messages.specs.declared.deliveries.ServiceDelivery.{ServiceDelivery}
use Rattle.siri_subs.specs.declared.entry.Row.{Row}
use Rattle.siri_subs.specs.declared.errors.Accepted.{Accepted}
use Rattle.siri_subs.specs.declared.errors.Accepted.TheVariants as accepted_as
use Rattle.siri_subs.specs.declared.errors.RenumberError.{RenumberError}
use Rattle.siri_subs.specs.declared.errors.RenumberError.TheVariants as refused_as
use Rattle.siri_subs.specs.Mapped.{mapped_row, with_mapped_slots}
use Rattle.siri_subs.specs.Table.{EachOnce, is_held, is_of, is_renumbered_by, renumber_answer}
use Rattle.siri_subs.specs.Table.{renumbered}
use Rattle.siri_subs.proofs.Mapped.{renumbered_mapped}
use Rattle.siri_subs.proofs.Numbered.{unnumbered}
use Rattle.siri_subs.proofs.Once.{held_like}
use Rattle.siri_subscriptions.specs.replies.Parts.{all_data_response}
use Rattle.siri_subscriptions.specs.replies.Refusals.{not_renewed_as}
use Rattle.siri_model.specs.Rows.{KeptLife, asked_of}
use Rattle.siri_subscriptions.specs.declared.course.Course.{Course}
use Rattle.siri_subscriptions.specs.Courses.{kept, kept_row, kept_rows}
use Rattle.siri_subscriptions.specs.Noted.{noted, noted_anew, noted_renewed, noted_rows}
use Rattle.siri_subscriptions.specs.Renewals.{renew_by}
use Rattle.siri_subscriptions.specs.Renewing.{anew, answer_as}

-- ---- an acceptance is put under another number, with a slot that is made of its row

module _ {E : Type 0} (s i : List ℕ) (n b : ℕ) (slot_of : Row E → E) where
  abbrev renewed : Row E → Row E
  renewed row = cond (is_renumbered_by n b row) (record row { number = n; slot = slot_of row }) row

  abbrev with_renewed : List (Row E) → List (Row E)
  with_renewed table = map (λ row. cond (is_of s i row) (renewed row) row) table

  unrenewed : (table : List (Row E)) → is_held s i table ≡ false → with_renewed table ≡ table
  unrenewed [] none = refl
  unrenewed (h ∷ table) none =
      let parts = or_parts (is_of s i h) (is_held s i table) none in
      λ j. cond (parts.0 j) (renewed h) h ∷ unrenewed table parts.1 j

  one_row : (x y : Bool) (row : Row E) (slot : E) → (x ≡ true → slot ≡ slot_of row)
      → cond (x && y) (record row { number = n; slot = slot }) row
      ≡ cond x (cond y (record row { number = n; slot = slot_of row }) row) row
  one_row true true row slot is = ap (λ slot. record row { number = n; slot = slot }) (is refl)
  one_row true false row slot is = refl
  one_row false y row slot is = refl

  -- the slot is that of the subscription's row
  renewed_each : (table : List (Row E)) (h : Row E) → EachOnce table → find (is_of s i) table ≡ Some h
      → renumbered n b s i (slot_of h) table ≡ with_renewed table
  renewed_each [] h once there = absurd (cc)
  renewed_each (g ∷ table) h once there = by (is_of s i g) refl (renewed_each table h once.1) there
    where
      by : (x : Bool) → is_of s i g ≡ x
          → (find (is_of s i) table ≡ Some h → renumbered n b s i (slot_of h) table ≡ with_renewed table)
          → cond x (Some g) (find (is_of s i) table) ≡ Some h
          → renumbered n b s i (slot_of h) (g ∷ table) ≡ with_renewed (g ∷ table)
      by true is below there =
          let same : h ≡ g = cc in
          let none = held_like s i g table is ∙ once.0 in
          let rest = unnumbered s i n b (slot_of h) table none ∙ sym (unrenewed table none) in
          let row = one_row (is_of s i g) (is_renumbered_by n b g) g (slot_of h) (λ _. ap slot_of same) in
          λ j. row j ∷ rest j
      by false is below there =
          let rest = below there in
          let row = one_row (is_of s i g) (is_renumbered_by n b g) g (slot_of h) (λ e. absurd (cc)) in
          λ j. row j ∷ rest j

-- the same in a table of other slots, each made of the one that was there
module _ {E F : Type 0} (f : E → F) (s i : List ℕ) where
  held_mapped : (s i : List ℕ) (table : List (Row E)) → is_held s i (with_mapped_slots f table) ≡ is_held s i table
  held_mapped s i [] = refl
  held_mapped s i (h ∷ table) = ap (λ b. is_of s i h || b) (held_mapped s i table)

  once_mapped : (table : List (Row E)) → EachOnce table → EachOnce (with_mapped_slots f table)
  once_mapped [] once = tt
  once_mapped (h ∷ table) once =
      (held_mapped h.wanted.subscriber h.wanted.identifier table ∙ once.0, once_mapped table once.1)

  find_case : (x : Bool) (h : Row E) (table : List (Row E))
      → find (is_of s i) (with_mapped_slots f table) ≡ option_map (mapped_row f) (find (is_of s i) table)
      → cond x (Some (mapped_row f h)) (find (is_of s i) (with_mapped_slots f table))
      ≡ option_map (mapped_row f) (cond x (Some h) (find (is_of s i) table))
  find_case true h table rest = refl
  find_case false h table rest = rest

  find_mapped : (table : List (Row E))
      → find (is_of s i) (with_mapped_slots f table) ≡ option_map (mapped_row f) (find (is_of s i) table)
  find_mapped [] = refl
  find_mapped (h ∷ table) = find_case (is_of s i h) h table (find_mapped table)

  renewed_mapped : (n b : ℕ) (slot : E) (slot_of : Row F → F) (table : List (Row E)) (h : Row E) → EachOnce table
      → find (is_of s i) table ≡ Some h → f slot ≡ slot_of (mapped_row f h)
      → with_mapped_slots f (renumbered n b s i slot table) ≡ with_renewed s i n b slot_of (with_mapped_slots f table)
  renewed_mapped n b slot slot_of table h once there is =
      sym (renumbered_mapped f n b s i slot table)
      ∙ (ap (λ slot. renumbered n b s i slot (with_mapped_slots f table)) is
      ∙ renewed_each s i n b slot_of (with_mapped_slots f table) (mapped_row f h) (once_mapped table once)
      (find_mapped table ∙ ap (option_map (mapped_row f)) there))

-- ---- the rows with what belongs to their lives, and with what is noted

module _ (s i : List ℕ) (n b now : ℕ) (table : List (Row Course)) where
  -- a course is that of the row, as it begins anew
  made : (course : Course) (o : Option (Row Course)) → find (is_of s i) table ≡ o
      → Some (kept course) ≡ option_map (anew now) (find (is_of s i) (kept_rows table))
      → Some (kept course) ≡ option_map (anew now) (option_map kept_row o)
  made course o there is =
      is ∙ ap (option_map (anew now)) (find_mapped kept s i table ∙ ap (option_map kept_row) there)

  pub renews_kept : (course : Course) → EachOnce table
      → Some (kept course) ≡ option_map (anew now) (find (is_of s i) (kept_rows table))
      → kept_rows (renumbered n b s i course table) ≡ with_renewed s i n b (anew now) (kept_rows table)
  renews_kept course once is = by (find (is_of s i) table) refl
    where
      by : (o : Option (Row Course)) → find (is_of s i) table ≡ o
          → kept_rows (renumbered n b s i course table) ≡ with_renewed s i n b (anew now) (kept_rows table)
      by None there = let none = made course None there is in absurd (cc)
      by (Some h) there =
          let same : Some (kept course) ≡ Some (anew now (kept_row h)) = made course (Some h) there is in
          renewed_mapped kept s i n b course (anew now) table h once there (cc)

  pub renews_noted : (course : Course) → EachOnce table → course.looked ≡ None
      → Some (kept course) ≡ option_map (anew now) (find (is_of s i) (kept_rows table))
      → noted_rows (renumbered n b s i course table) ≡ noted_renewed now n b s i (noted_rows table)
  renews_noted course once unlooked is = by (find (is_of s i) table) refl
    where
      by : (o : Option (Row Course)) → find (is_of s i) table ≡ o
          → noted_rows (renumbered n b s i course table) ≡ noted_renewed now n b s i (noted_rows table)
      by None there = let none = made course None there is in absurd (cc)
      by (Some h) there =
          let same : Some (kept course) ≡ Some (anew now (kept_row h)) = made course (Some h) there is in
          let life : kept course ≡ anew now (kept_row h) = cc in
          renewed_mapped noted s i n b course (λ row. noted_anew now (asked_of row)) table h once there
          (λ j. record { life = life j; look = unlooked j })

  -- where the subscription isn't held, nothing changes
  none_held : (rows : List (Row KeptLife)) → find (is_of s i) rows ≡ None → is_held s i rows ≡ false
  none_held [] none = refl
  none_held (h ∷ rows) none = by (is_of s i h) refl (none_held rows) none
    where
      by : (x : Bool) → is_of s i h ≡ x → (find (is_of s i) rows ≡ None → is_held s i rows ≡ false)
          → cond x (Some h) (find (is_of s i) rows) ≡ None → is_held s i (h ∷ rows) ≡ false
      by true is below none = absurd (cc)
      by false is below none = ap (λ b. b || is_held s i rows) is ∙ below none

  unmade : None ≡ option_map (anew now) (find (is_of s i) (kept_rows table)) → is_held s i (kept_rows table) ≡ false
  unmade is = none_held (kept_rows table) (by (find (is_of s i) (kept_rows table)) is)
    where
      by : (o : Option (Row KeptLife)) → None ≡ option_map (anew now) o → o ≡ None
      by None is = refl
      by (Some h) is = absurd (cc)

  pub keeps_kept : None ≡ option_map (anew now) (find (is_of s i) (kept_rows table))
      → kept_rows table ≡ with_renewed s i n b (anew now) (kept_rows table)
  keeps_kept is = sym (unrenewed s i n b (anew now) (kept_rows table) (unmade is))

  pub keeps_noted : None ≡ option_map (anew now) (find (is_of s i) (kept_rows table))
      → noted_rows table ≡ noted_renewed now n b s i (noted_rows table)
  keeps_noted is =
      sym (unrenewed s i n b (λ row. noted_anew now (asked_of row)) (noted_rows table)
      (held_mapped noted s i s i table ∙ (sym (held_mapped kept s i s i table) ∙ unmade is)))

  pub keeps_answer : None ≡ option_map (anew now) (find (is_of s i) (kept_rows table))
      → Err refused_as.UnknownSubscription ≡ renumber_answer n b (find (is_of s i) (kept_rows table))
  keeps_answer is = by (find (is_of s i) (kept_rows table)) is
    where
      by : (o : Option (Row KeptLife)) → None ≡ option_map (anew now) o
          → Err refused_as.UnknownSubscription ≡ renumber_answer n b o
      by None is = refl
      by (Some h) is = absurd (cc)

-- ---- the answer

module _ (n b : ℕ) (why : RenumberError) where
  based_case : (based same less : Bool) (held : ℕ) → based ≡ true
      → cond (not based) (Err refused_as.UnknownSubscription)
      (cond same (Ok accepted_as.Again) (cond less (Err (refused_as.Superseded held)) (Ok accepted_as.Renewed)))
      ≡ Err why
      → refused_as.Superseded held ≡ why
  based_case false same less held is e = absurd (cc is)
  based_case true true less held is e = absurd (cc e)
  based_case true false true held is e = cc e
  based_case true false false held is e = absurd (cc e)

  -- of an acceptance that is held
  pub refused_based : (h : Row KeptLife) → (h.base == b) ≡ true → renumber_answer n b (Some h) ≡ Err why
      → refused_as.Superseded h.number ≡ why
  refused_based h is e = based_case (h.base == b) (h.number == n) (nat_lt n h.number) h.number is e

  other_case : (based : Bool) (rest : Result Accepted RenumberError) → based ≡ false
      → cond (not based) (Err refused_as.UnknownSubscription) rest ≡ Err why → refused_as.UnknownSubscription ≡ why
  other_case false rest is e = cc e
  other_case true rest is e = absurd (cc is)

  -- of another one
  pub refused_other : (h : Row KeptLife) → (h.base == b) ≡ false → renumber_answer n b (Some h) ≡ Err why
      → refused_as.UnknownSubscription ≡ why
  refused_other h is e = other_case (h.base == b) _ is e

  -- of one that isn't held
  pub refused_none : renumber_answer {E = KeptLife} n b None ≡ Err why → refused_as.UnknownSubscription ≡ why
  refused_none e = cc e

pub answered : (producer : List ℕ) (now number : ℕ) (outcome : Result Accepted RenumberError)
    (renewed refused : ServiceDelivery) (told : RenumberError)
    → renewed ≡ all_data_response producer now number None
    → refused ≡ all_data_response producer now number (Some (not_renewed_as told))
    → ((why : RenumberError) → outcome ≡ Err why → told ≡ why)
    → answer_as outcome renewed refused ≡ renew_by producer now number outcome
answered producer now number (Ok how) renewed refused told is isnt tells =
    ap (λ delivery. record { outcome = Ok how; delivery = delivery }) is
answered producer now number (Err why) renewed refused told is isnt tells =
    ap (λ delivery. record { outcome = Err why; delivery = delivery })
    (isnt ∙ ap (λ why. all_data_response producer now number (Some (not_renewed_as why))) (tells why refl))
