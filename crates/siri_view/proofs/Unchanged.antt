-- A message that brings no wanted part leaves a consumer as it is.
use Rattle.std.proofs.Common.{◌≡◌, Bool, true, false, cond, List, [], ◌∷◌, Option, Some, None, refl, ap, ◌∙◌}
use Rattle.std.specs.Cmp.{IsTotalOrder}
use Rattle.std.specs.List.Sorted.{IsStrictlySortedBy}
use Rattle.std.specs.Map.{keys_of, lookup}
use Rattle.std.specs.BTreeMap.{insert_entry, is_at}
use Rattle.std.specs.Ordering.{is_eq, match_ordering}
use Rattle.std.specs.declared.cmp.Ordering.{Ordering}
use Rattle.std.specs.declared.cmp.Ordering.TheVariants.{Less, Equal, Greater}
use Rattle.std.proofs.lemmas.Cmp.{nat_list_cmp_total}
use Rattle.std.proofs.lemmas.Map.{lookup-none}
use Rattle.siri_change.specs.Parts.{Carried}
use Rattle.siri_messages.specs.declared.message.Message.{Message}
use Rattle.siri_life.specs.Life.{Mark}
use Rattle.siri_life.specs.Link as life
use Rattle.siri_life.specs.Link.{taken_as}
use Rattle.siri_life.specs.Named.{Name}
use Rattle.siri_topic.specs.Agreement.{same_name}
use Rattle.siri_view.specs.Changing.{IsOrdered, TakesNothing}
use Rattle.siri_view.specs.Consuming.{Consuming, after_delivery, after_heard, after_message, kept_for, seen_by, seen_in_delivery, seen_of}
use Rattle.siri_view.specs.Consuming.{told_of, told_of_part}
use Rattle.siri_view.specs.Hearing.{Heard, Delivered, Notified, Noted, Foreign, heard}
use Rattle.siri_view.specs.Kept.{meaning, HeldSubscription, kept_of, with_kept}
use Rattle.siri_view.proofs.Keyed.{none_here}

-- to put under a key what is found there changes nothing
put_found : {K X : Type 0} {cmp : K → K → Ordering} (total : IsTotalOrder cmp) (k : K) (es : List (K × X)) (x : X)
    → IsStrictlySortedBy cmp (keys_of es) → lookup (is_at (cmp k)) es ≡ Some x → insert_entry cmp es k x ≡ es
unfolding IsStrictlySortedBy
put_found total k [] x ordered found = absurd (cc)
put_found {K} {X} {cmp} total k (e ∷ es) x ordered found = by (cmp k e.0) refl found (put_found total k es x ordered.1)
  where
    by : (o : Ordering) → cmp k e.0 ≡ o → cond (is_eq o) (Some e.1) (lookup (is_at (cmp k)) es) ≡ Some x
        → (lookup (is_at (cmp k)) es ≡ Some x → insert_entry cmp es k x ≡ es)
        → match_ordering o ((k, x) ∷ e ∷ es) ((e.0, x) ∷ es) (e ∷ insert_entry cmp es k x) ≡ e ∷ es
    by Less is there rest = let none = lookup-none (is_at (cmp k)) es (none_here total k e es ordered is) in absurd (cc)
    by Equal is there rest = let same : x ≡ e.1 = cc in ap (λ y. (e.0, y) ∷ es) same
    by Greater is there rest = ap (λ more. e ∷ more) (rest there)

-- what is kept stays where its part isn't taken
kept_same : (o : life.Outcome) (h : HeldSubscription) (m : Mark) (more : Bool) (part : Carried)
    → TakesNothing (told_of o h (told_of_part more m)) → taken_as meaning o h m more part ≡ h
kept_same life.Wanted h m true part nothing = absurd nothing
kept_same life.Wanted h m false part nothing = absurd nothing
kept_same life.Repeat h m more part nothing = refl
kept_same life.UnknownSubscription h m more part nothing = refl
kept_same life.OldStart h m more part nothing = refl
kept_same life.Gap h m more part nothing = refl
kept_same life.Overlong h m more part nothing = refl

delivery_same : (c : Consuming) (identifier : Name) (found : Option HeldSubscription) (m : Mark) (more : Bool) (part : Carried) → IsOrdered c
    → ((h : HeldSubscription) → found ≡ Some h → kept_of identifier c.held ≡ Some h)
    → TakesNothing (seen_in_delivery c identifier found m more).outcome → after_delivery c identifier found m more part ≡ c
delivery_same c identifier None m more part ordered there nothing = refl
delivery_same c identifier (Some h) m more part ordered there nothing =
    ap (λ held. record c { held = held })
    (ap (λ kept. with_kept identifier kept c.held) (kept_same (life.outcome meaning h m) h m more part nothing)
    ∙ put_found nat_list_cmp_total identifier c.held h ordered (there h refl))

own_kept : (own : Bool) (found : Option HeldSubscription) (h : HeldSubscription) → cond own found None ≡ Some h → found ≡ Some h
own_kept true found h is = is
own_kept false found h is = absurd (cc)

heard_same : (c : Consuming) (it : Heard) → IsOrdered c → TakesNothing (seen_by c it).outcome → after_heard c it ≡ c
heard_same c (Delivered subscriber identifier m more part) ordered nothing =
    delivery_same c identifier (kept_for c subscriber identifier) m more part ordered
    (own_kept (same_name subscriber c.name) (kept_of identifier c.held)) nothing
heard_same c (Notified identifier m) ordered nothing = refl
heard_same c Noted ordered nothing = refl
heard_same c Foreign ordered nothing = refl

-- on every outcome but Buffered and Applied nothing changes
pub message_same : (c : Consuming) (message : Message) → IsOrdered c → TakesNothing (seen_of c message).outcome → after_message c message ≡ c
message_same c message ordered nothing = heard_same c (heard message) ordered nothing
