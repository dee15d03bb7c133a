-- The changes of what was found, key by key.
use Rattle.std.proofs.Common.{◌≡◌, ℕ, ℤ, ◌+◌, ◌<◌, List, [], ◌∷◌, ◌++◌, drop, length, get_or, Bool, true, false, cond}
use Rattle.std.proofs.Common.{Some, None, refl, ap, sym, ◌∙◌, append_assoc}
use Rattle.std.proofs.lemmas.Option.{slice_get_read}
use Rattle.siri_records.specs.Keyed.{Items, KeyChange}
use Rattle.siri_records.proofs.Placed.{drop_at}
use Rattle.siri_topic.specs.declared.topics.Topic.{Topic}
use Rattle.siri_model.specs.Looks.{changes_found, is_unlike, shown_if}
use Rattle.siri_subscriptions.specs.Again.{change_found}

module _ (slack : ℤ) (view : Items) (topic : Topic) (now : ℕ) where
  abbrev all : List KeyChange → List KeyChange
  all found = changes_found slack view topic now found

  changed_case : (x c : KeyChange) (found : List KeyChange) (b : Bool) → is_unlike slack view topic now x ≡ b
      → Some c ≡ change_found slack view topic now x → all (x ∷ found) ≡ c ∷ all found
  changed_case x c found true h is =
      let same : Some c ≡ Some (x.0, shown_if topic now x.1) = is
      ∙ ap (λ t. cond t (Some (x.0, shown_if topic now x.1)) None) h in
      let one : (x.0, shown_if topic now x.1) ≡ c = cc same in
      rw h (ap (λ d. d ∷ all found) one)
  changed_case x c found false h is =
      let same : Some c ≡ None = is ∙ ap (λ t. cond t (Some (x.0, shown_if topic now x.1)) None) h in
      absurd (cc same)

  same_case : (x : KeyChange) (found : List KeyChange) (b : Bool) → is_unlike slack view topic now x ≡ b
      → None ≡ change_found slack view topic now x → all (x ∷ found) ≡ all found
  same_case x found true h is =
      let same : None ≡ Some (x.0, shown_if topic now x.1) = is
      ∙ ap (λ t. cond t (Some (x.0, shown_if topic now x.1)) None) h in
      absurd (cc same)
  same_case x found false h is = rw h refl

  here : (found : List KeyChange) (i : ℕ) (x : KeyChange) → i < length found → x ≡ get_or found i x
      → drop i found ≡ x ∷ drop (i + 1) found
  here found i x lt is = drop_at found i x (slice_get_read found (length found) i x refl lt is)

  module _ (found list : List KeyChange) (i : ℕ) (x : KeyChange) (lt : i < length found) (is : x ≡ get_or found i x)
      (so_far : list ++ all (drop i found) ≡ all found) where
    pub changed : (c : KeyChange) (more : List KeyChange) → Some c ≡ change_found slack view topic now x
        → more ≡ list ++ c ∷ []
        → more ++ all (drop (i + 1) found) ≡ all found
    changed c more one pushed =
        ap (λ l. l ++ all (drop (i + 1) found)) pushed
        ∙ (append_assoc list (c ∷ []) (all (drop (i + 1) found))
        ∙ (ap (λ l. list ++ l) (sym (changed_case x c (drop (i + 1) found) (is_unlike slack view topic now x) refl one))
        ∙ (ap (λ l. list ++ all l) (sym (here found i x lt is)) ∙ so_far)))

    pub same : None ≡ change_found slack view topic now x → list ++ all (drop (i + 1) found) ≡ all found
    same none =
        ap (λ l. list ++ l) (sym (same_case x (drop (i + 1) found) (is_unlike slack view topic now x) refl none))
        ∙ (ap (λ l. list ++ all l) (sym (here found i x lt is)) ∙ so_far)
