-- The view of the upstream subscription after a message and after a request.
use Rattle.std.specs.Prelude.{ℤ, ◌==◌, nat_lt}
use Rattle.std.specs.declared.cmp.Ordering.{Ordering}
use Rattle.std.specs.declared.cmp.Ordering.TheVariants.{Less, Equal, Greater}
use Rattle.std.proofs.Common.{◌≡◌, ℕ, Bool, true, false, cond, List, [], ◌∷◌, ◌++◌, Option, Some, None, refl, ap, sym, ◌∙◌, subst}
use Rattle.std.specs.Option.{option_map_or}
use Rattle.std.specs.Ordering.{is_eq}
use Rattle.std.specs.FinMap.{nat_cmp-IsAntisymmetric, slice_cmp-IsAntisymmetric}
use Rattle.std.proofs.lemmas.Cmp.{nat_list_cmp_total}
use Rattle.siri_records.specs.Keyed.{Items, apply}
use Rattle.siri_topic.specs.Agreement.{same_name}
use Rattle.siri_topic.specs.declared.subscription.Subscription.{Subscription}
use Rattle.siri_change.specs.Parts.{Carried, changes_in}
use Rattle.siri_change.proofs.Leads.{order_applied}
use Rattle.siri_change.proofs.Viewed.{keyed_applied, changes_in_keyed}
use Rattle.siri_messages.specs.declared.message.Message.{Message}
use Rattle.siri_life.specs.Life.{Mark}
use Rattle.siri_life.specs.Link as life
use Rattle.siri_life.specs.Link.{taken, taken_as, with_start_if, base_of}
use Rattle.siri_life.specs.Meaning.{apply_parts}
use Rattle.siri_model.proofs.Current.{lookup_inserted}
use Rattle.siri_model.proofs.InOrder.{none_in_order}
use Rattle.siri_view.specs.Consuming.{Consuming, after_delivery, after_heard, after_message, after_subscribe, kept_for, seen_by, seen_in_delivery, seen_of, told_of, told_of_part}
use Rattle.siri_view.specs.Hearing.{Heard, Delivered, Notified, Noted, Foreign, heard}
use Rattle.siri_view.specs.Kept.{meaning, Holdings, HeldSubscription, kept_of, name_cmp, with_kept}
use Rattle.siri_view.specs.declared.outcome.Outcome.{Outcome}
use Rattle.siri_view.specs.declared.outcome.Outcome.TheVariants as outcome
use Rattle.siri_relay.specs.Relaying.{view_held, view_in}
use Rattle.siri_relay.specs.Standing.{IsOwn}

pub own_none : IsOwn []
own_none = record { order = none_in_order; keyed = refl }

-- ---- parts

own_part : (view : Items) (part : Carried) → IsOwn view → IsOwn (apply view (changes_in part))
own_part view part own = record {
  order = order_applied view (changes_in part) own.order;
  keyed = keyed_applied view (changes_in part) (changes_in_keyed part) own.keyed;
}

own_parts : (view : Items) (parts : List Carried) → IsOwn view → IsOwn (apply_parts meaning view parts)
own_parts view [] own = own
own_parts view (part ∷ parts) own = own_parts (apply view (changes_in part)) parts (own_part view part own)

pub own_base : (first incremental : Bool) (view : Items) → IsOwn view → IsOwn (cond first [] (cond incremental view []))
own_base true incremental view own = own_none
own_base false true view own = own
own_base false false view own = own_none

own_start : (b : Bool) (h : HeldSubscription) (start : ℕ) (more : Bool) (part : Carried) → IsOwn h.view
    → IsOwn (life.with_part meaning more (with_start_if meaning b h start) part).view
own_start true h start true part own = own
own_start false h start true part own = own
own_start true h start false part own = own_parts (base_of meaning (with_start_if meaning true h start)) ([] ++ part ∷ []) own_none
own_start false h start false part own =
    own_parts (base_of meaning h) (h.parts ++ part ∷ []) (own_base (h.round == 0) h.wanted.subscription.incremental h.view own)

pub own_taken : (o : life.Outcome) (h : HeldSubscription) (m : Mark) (more : Bool) (part : Carried) → IsOwn h.view
    → IsOwn (taken_as meaning o h m more part).view
own_taken life.Wanted h m more part own = own_start (nat_lt h.start m.start) h m.start more part own
own_taken life.Repeat h m more part own = own
own_taken life.UnknownSubscription h m more part own = own
own_taken life.OldStart h m more part own = own
own_taken life.Gap h m more part own = own
own_taken life.Overlong h m more part own = own

-- ---- what is kept under an identifier

name_exact : (k j : List ℕ) → name_cmp k j ≡ Equal → k ≡ j
name_exact k j e = slice_cmp-IsAntisymmetric nat_cmp-IsAntisymmetric k j e

kept_with : (q k : List ℕ) (x : HeldSubscription) (held : Holdings) → kept_of q (with_kept k x held) ≡ cond (is_eq (name_cmp q k)) (Some x) (kept_of q held)
kept_with q k x held = lookup_inserted nat_list_cmp_total name_exact q k x held

equal_from : (o : Ordering) → is_eq o ≡ true → o ≡ Equal
equal_from Equal e = refl
equal_from Less e = cc
equal_from Greater e = cc

abbrev seen_view : Option HeldSubscription → Items
seen_view kept = option_map_or (λ (h : HeldSubscription). h.view) kept []

-- another under an identifier of which the view has a property that the one before had
put_keeps : (P : Items → Type 0) (q k : List ℕ) (h x : HeldSubscription) (held : Holdings) → kept_of k held ≡ Some h
    → (P h.view → P x.view) → P (seen_view (kept_of q held)) → P (seen_view (kept_of q (with_kept k x held)))
put_keeps P q k h x held there step was =
    subst (λ (o : Option HeldSubscription). P (seen_view o)) (sym (kept_with q k x held)) (by (is_eq (name_cmp q k)) refl)
  where
    by : (b : Bool) → is_eq (name_cmp q k) ≡ b → P (seen_view (cond b (Some x) (kept_of q held)))
    by false e = was
    by true e =
        let one = name_exact q k (equal_from (name_cmp q k) e) in
        step (subst (λ (o : Option HeldSubscription). P (seen_view o)) (ap (λ j. kept_of j held) one ∙ there) was)

pub own_kept : (own : Bool) (found : Option HeldSubscription) (h : HeldSubscription) → cond own found None ≡ Some h → found ≡ Some h
own_kept true found h is = is
own_kept false found h is = absurd (cc is)

-- ---- after a message

pub delivery_keeps : (P : Items → Type 0) (c : Consuming) (q identifier : List ℕ) (found : Option HeldSubscription) (m : Mark) (more : Bool) (part : Carried)
    → ((h : HeldSubscription) → found ≡ Some h → kept_of identifier c.held ≡ Some h)
    → ((h : HeldSubscription) → found ≡ Some h → P h.view → P (taken meaning h m more part).view)
    → P (view_held c q) → P (view_held (after_delivery c identifier found m more part) q)
delivery_keeps P c q identifier None m more part there step was = was
delivery_keeps P c q identifier (Some h) m more part there step was =
    put_keeps P q identifier h (taken meaning h m more part) c.held (there h refl) (step h refl) was

-- the view of an identifier stays one
own_held : (c : Consuming) (q : List ℕ) (it : Heard) → IsOwn (view_held c q) → IsOwn (view_held (after_heard c it) q)
own_held c q (Delivered subscriber identifier m more part) own =
    delivery_keeps IsOwn c q identifier (kept_for c subscriber identifier) m more part
    (own_kept (same_name subscriber c.name) (kept_of identifier c.held))
    (λ h found was. own_taken (life.outcome meaning h m) h m more part was) own
own_held c q (Notified identifier m) own = own
own_held c q Noted own = own
own_held c q Foreign own = own

pub own_after : (upstream : Option (List ℕ)) (c : Consuming) (m : Message) → IsOwn (view_in upstream c) → IsOwn (view_in upstream (after_message c m))
own_after None c m own = own
own_after (Some q) c m own = own_held c q (heard m) own

-- no round was applied
abbrev pub AppliesNothing : Outcome → Type 0
AppliesNothing (outcome.Applied round) = ⊥
AppliesNothing other = Unit {0}

start_stays : (b : Bool) (h : HeldSubscription) (start : ℕ) (part : Carried) → (life.with_part meaning true (with_start_if meaning b h start) part).view ≡ h.view
start_stays true h start part = refl
start_stays false h start part = refl

taken_stays : (o : life.Outcome) (h : HeldSubscription) (m : Mark) (more : Bool) (part : Carried)
    → AppliesNothing (told_of o h (told_of_part more m)) → (taken_as meaning o h m more part).view ≡ h.view
taken_stays life.Wanted h m true part none = start_stays (nat_lt h.start m.start) h m.start part
taken_stays life.Wanted h m false part none = absurd none
taken_stays life.Repeat h m more part none = refl
taken_stays life.UnknownSubscription h m more part none = refl
taken_stays life.OldStart h m more part none = refl
taken_stays life.Gap h m more part none = refl
taken_stays life.Overlong h m more part none = refl

found_stays : (c : Consuming) (identifier : List ℕ) (found : Option HeldSubscription) (m : Mark) (more : Bool) (part : Carried)
    → AppliesNothing (seen_in_delivery c identifier found m more).outcome
    → (h : HeldSubscription) → found ≡ Some h → (taken meaning h m more part).view ≡ h.view
found_stays c identifier None m more part none h is = absurd (cc is)
found_stays c identifier (Some k) m more part none h is =
    let same : k ≡ h = cc is in
    subst (λ (x : HeldSubscription). (taken meaning x m more part).view ≡ x.view) same (taken_stays (life.outcome meaning k m) k m more part none)

held_stays : (c : Consuming) (q : List ℕ) (it : Heard) → AppliesNothing (seen_by c it).outcome → view_held (after_heard c it) q ≡ view_held c q
held_stays c q (Delivered subscriber identifier m more part) none =
    delivery_keeps (λ v. v ≡ view_held c q) c q identifier (kept_for c subscriber identifier) m more part
    (own_kept (same_name subscriber c.name) (kept_of identifier c.held))
    (λ h found was. found_stays c identifier (kept_for c subscriber identifier) m more part none h found ∙ was) refl
held_stays c q (Notified identifier m) none = refl
held_stays c q Noted none = refl
held_stays c q Foreign none = refl

-- where no round was applied the view stays
pub view_stays : (upstream : Option (List ℕ)) (c : Consuming) (m : Message) → AppliesNothing (seen_of c m).outcome
    → view_in upstream (after_message c m) ≡ view_in upstream c
view_stays None c m none = refl
view_stays (Some q) c m none = held_stays c q (heard m) none

-- a consumer that holds nothing holds nothing after a message
none_for : (b : Bool) → ◌≡◌ {A = Option HeldSubscription} (cond b None None) None
none_for true = refl
none_for false = refl

nothing_found : (c : Consuming) (identifier : List ℕ) (found : Option HeldSubscription) (m : Mark) (more : Bool) (part : Carried)
    → found ≡ None → (after_delivery c identifier found m more part).held ≡ c.held
nothing_found c identifier None m more part none = refl
nothing_found c identifier (Some h) m more part none = absurd (cc none)

nothing_heard : (c : Consuming) (it : Heard) → c.held ≡ [] → (after_heard c it).held ≡ []
nothing_heard c (Delivered subscriber identifier m more part) none =
    nothing_found c identifier (kept_for c subscriber identifier) m more part
    (ap (λ held. cond (same_name subscriber c.name) (kept_of identifier held) None) none ∙ none_for (same_name subscriber c.name)) ∙ none
nothing_heard c (Notified identifier m) none = none
nothing_heard c Noted none = none
nothing_heard c Foreign none = none

pub nothing_held : (c : Consuming) (m : Message) → c.held ≡ [] → (after_message c m).held ≡ []
nothing_held c m none = nothing_heard c (heard m) none

-- ---- after a request

-- the first request of a consumer that holds nothing leaves an empty view
pub opened_view : (c : Consuming) (wanted : Subscription) (beat : ℤ) → c.held ≡ []
    → view_held (after_subscribe c (wanted ∷ []) beat) wanted.identifier ≡ []
opened_view c wanted beat none =
    ap (λ held. view_held (after_subscribe (record c { held = held }) (wanted ∷ []) beat) wanted.identifier) none
    ∙ empty (is_eq (name_cmp wanted.identifier wanted.identifier)) refl
  where
    fresh : Consuming
    fresh = record c { held = [] }

    empty : (b : Bool) → is_eq (name_cmp wanted.identifier wanted.identifier) ≡ b → view_held (after_subscribe fresh (wanted ∷ []) beat) wanted.identifier ≡ []
    empty true e = rw e refl
    empty false e = rw e refl
