-- The stamps of visits all lead to one.
use Rattle.std.proofs.Common.{◌≡◌, ℕ, ◌-◌, ◌≤◌, Bool, true, false, cond, ◌&&◌, ◌||◌, List, [], ◌∷◌, ◌++◌, filter, drop}
use Rattle.std.proofs.Common.{Option, Some, None, refl, ap, ◌∙◌, sym, arith}
use Rattle.std.specs.Prelude.{ℤ, pos, nat_eq, is_some}
use Rattle.std.specs.Cmp.{tied_itself, nat_cmp_total}
use Rattle.std.specs.List.{list_any}
use Rattle.std.specs.Ordering.{is_eq, ordering_then}
use Rattle.std.specs.declared.cmp.Ordering.TheVariants.{Equal}
use Rattle.siri_records.specs.declared.item.Item.{Item}
use Rattle.siri_records.specs.declared.item.Item.TheVariants as item
use Rattle.siri_records.specs.declared.item.Service.TheVariants as service
use Rattle.siri_records.specs.declared.key.Key.{Key}
use Rattle.siri_records.specs.Edges.{edges_of, is_within, listed}
use Rattle.siri_records.specs.Services.{is_of}
use Rattle.siri_records.specs.Ends.{entry_of}
use Rattle.siri_records.specs.Keyed.{Items, item_of}
use Rattle.siri_records.specs.Order.{key_cmp_total}
use Rattle.siri_topic.specs.declared.topics.Topic.{Topic}
use Rattle.siri_store.specs.CrossWalk.{entry_list, led, led_at, led_by}
use Rattle.siri_store.specs.First.{looked_until}
use Rattle.siri_store.specs.Held.{counted}
use Rattle.siri_store.specs.Stamped.{Stamp, stamp_cmp, has_stamp, has, is_stamped, moments_held, Tied}
use Rattle.siri_store.specs.Visits.{all_lead, shown_if}
use Rattle.siri_store.specs.Walk.{shown_at}
use Rattle.siri_store.proofs.Crossed.{Alike, equal_numbers, left_true, right_true, service_moments}
use Rattle.siri_store.proofs.Firsts.{found_dropped, found_looked, not_before, over_dropped, over_looked, over_same}
use Rattle.siri_store.proofs.LookUps.{by_bool}

-- ---- the stamps of visits

or_false : (b : Bool) → (b || false) ≡ b
or_false true = refl
or_false false = refl

or_true : (b : Bool) → (b || true) ≡ true
or_true true = refl
or_true false = refl

both : (a b : Bool) → a ≡ true → b ≡ true → (a && b) ≡ true
both true b a c = c
both false b a c = absurd (cc a)

itself : (s : Stamp) → is_eq (stamp_cmp s s) ≡ true
itself (o, m, None) = λ i. is_eq (ordering_then (ordering_then (tied_itself nat_cmp_total o i) (tied_itself nat_cmp_total m i)) Equal)
itself (o, m, Some k) =
    λ i. is_eq (ordering_then (ordering_then (tied_itself nat_cmp_total o i) (tied_itself nat_cmp_total m i)) (tied_itself key_cmp_total k i))

-- a visit has one edge, its entry, and none before that
at_entry : (from : ℤ) (m : ℕ) (k : Key) (i : Item) (entry : Option ℕ) → has m (listed entry) ≡ true
    → is_some {T = Key × Item} (cond (list_any (is_within from (pos m)) (listed entry)) None (Some (k, i))) ≡ true
at_entry from m k i None there = absurd (cc there)
at_entry from m k i (Some e) there =
    let same : nat_eq m e ≡ true = sym (or_false (nat_eq m e)) ∙ there in
    rw (not_before from m e same) refl

lead_visit : (from : ℤ) (m : ℕ) (k : Key) (i : Item) → has m (cond (is_of service.Stop i) (edges_of i) []) ≡ true
    → is_some (led_at from m k (Some i)) ≡ true
lead_visit from m k (item.Visit v) there = at_entry from m k (item.Visit v) (entry_of (item.Visit v)) there
lead_visit from m k (item.Journey j) there = absurd (cc there)
lead_visit from m k (item.Vehicle v) there = absurd (cc there)
lead_visit from m k (item.Situation s) there = absurd (cc there)

lead_held : (from : ℤ) (m : ℕ) (k : Key) (h : Option Item) → has m (moments_held 1 h) ≡ true
    → is_some (led_at from m k h) ≡ true
lead_held from m k None there = absurd (cc there)
lead_held from m k (Some i) there = lead_visit from m k i (sym (ap (has m) (service_moments service.Stop i)) ∙ there)

lead_one : (from : ℤ) (order : ℕ) (es : Items) (s : Stamp) → Alike order service.Stop es → nat_eq s.0 order ≡ true
    → is_stamped es s ≡ true → is_some (led_by from es s) ≡ true
lead_one from order es (o, m, None) alike one there = absurd (cc there)
lead_one from order es (o, m, Some k) alike one there =
    lead_held from m k (item_of es k)
    (sym (ap (λ n. has m (moments_held n (item_of es k))) (equal_numbers o order one) ∙ ap (has m) (alike k)) ∙ there)

module _ (order : ℕ) (from : ℤ) (es : Items) (stamps : List Stamp) (tied : Tied es stamps) (alike : Alike order service.Stop es)
    (test : ℕ → Bool) where
  lead_in : (some : List Stamp) → ((s : Stamp) → has_stamp some s ≡ true → has_stamp stamps s ≡ true)
      → all_lead from es (filter (λ s. nat_eq s.0 order && test s.1) some) ≡ true
  lead_in [] within = refl
  lead_in (s ∷ some) within =
      let rest = lead_in some (λ x there. within x (ap (λ b. is_eq (stamp_cmp x s) || b) there ∙ or_true (is_eq (stamp_cmp x s)))) in
      let held : is_stamped es s ≡ true = sym (tied s) ∙ within s (ap (λ b. b || has_stamp some s) (itself s)) in
      by_bool (nat_eq s.0 order && test s.1)
      (λ h. rw h (both (is_some (led_by from es s)) (all_lead from es (filter (λ s. nat_eq s.0 order && test s.1) some))
      (lead_one from order es s alike (left_true (nat_eq s.0 order) (test s.1) h) held) rest))
      (λ h. rw h rest)

  pub visits_lead : all_lead from es (filter (λ s. nat_eq s.0 order && test s.1) stamps) ≡ true
  visits_lead = lead_in stamps (λ s there. there)

-- ---- a step over stamps that all lead

some_is : (o : Option (Key × Item)) → is_some o ≡ true → (e : Key × Item) × (o ≡ Some e)
some_is None some = absurd (cc some)
some_is (Some e) some = (e, refl)

shown_is : (b : Bool) (e x : Key × Item) → Some x ≡ cond b (Some e) None → b ≡ true
shown_is true e x found = refl
shown_is false e x found = absurd (cc found)

hidden_is : (b : Bool) (e : Key × Item) → ◌≡◌ {A = Option (Key × Item)} None (cond b (Some e) None) → b ≡ false
hidden_is true e none = absurd (cc none)
hidden_is false e none = refl

module _ (t : Topic) (now : ℕ) (from : ℤ) (es : Items) (all old new : List Stamp) (s : Stamp) (is : old ≡ s ∷ new)
    (leads : all_lead from es old ≡ true) where
  abbrev p : Key × Item → Bool
  p = shown_at t now

  here : (is_some (led_by from es s) && all_lead from es new) ≡ true
  here = sym (ap (all_lead from es) is) ∙ leads

  pub lead_on : all_lead from es new ≡ true
  lead_on = right_true (is_some (led_by from es s)) (all_lead from es new) here

  entry : (e : Key × Item) × (led_by from es s ≡ Some e)
  entry = some_is (led_by from es s) (left_true (is_some (led_by from es s)) (all_lead from es new) here)

  led_is : led from es old ≡ entry.0 ∷ led from es new
  led_is = ap (led from es) is ∙ ap (λ o. entry_list o ++ led from es new) entry.1

  module _ (start before after : ℕ)
      (counter : before ≡ counted start (looked_until p 1 (led from es all) - looked_until p 1 (led from es old)))
      (fewer : looked_until p 1 (led from es old) ≤ looked_until p 1 (led from es all)) (step : after ≡ counted before 1) where
    -- one that is shown
    module _ (x : Key × Item) (found : Some x ≡ shown_if t now (led_by from es s)) where
      passes : p entry.0 ≡ true
      passes = shown_is (p entry.0) entry.0 x (found ∙ ap (shown_if t now) entry.1)

      pub found_last : drop (looked_until p 1 (led from es old)) (led from es old) ≡ drop (looked_until p 1 (led from es all)) (led from es all)
          → led from es new ≡ drop (looked_until p 1 (led from es all)) (led from es all)
      found_last looked = found_dropped p entry.0 (led from es old) (led from es new) (led from es all) led_is passes ∙ looked

      pub found_counted : after ≡ counted start (looked_until p 1 (led from es all))
      found_counted = omega (
        arith,
        counter,
        fewer,
        step,
        found_looked p entry.0 (led from es old) (led from es new) (led from es all) led_is passes,
      )

    -- one that isn't
    module _ (none : None ≡ shown_if t now (led_by from es s)) where
      fails : p entry.0 ≡ false
      fails = hidden_is (p entry.0) entry.0 (none ∙ ap (shown_if t now) entry.1)

      pub passed_same : filter p (led from es new) ≡ filter p (led from es old)
      passed_same = over_same p entry.0 (led from es old) (led from es new) (led from es all) led_is fails

      pub passed_looked : drop (looked_until p 1 (led from es new)) (led from es new) ≡ drop (looked_until p 1 (led from es old)) (led from es old)
      passed_looked = over_dropped p entry.0 (led from es old) (led from es new) (led from es all) led_is fails

      pub passed_counted : after ≡ counted start (looked_until p 1 (led from es all) - looked_until p 1 (led from es new))
      passed_counted = omega (
        arith,
        counter,
        fewer,
        step,
        over_looked p entry.0 (led from es old) (led from es new) (led from es all) led_is fails,
      )

      pub passed_fewer : looked_until p 1 (led from es new) ≤ looked_until p 1 (led from es all)
      passed_fewer = omega (
        arith,
        fewer,
        over_looked p entry.0 (led from es old) (led from es new) (led from es all) led_is fails,
      )
