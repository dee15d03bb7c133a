-- A view that is quiet has each item under its own key, in order.
use Rattle.std.proofs.Common.{◌≡◌, ℕ, List, [], ◌∷◌, map, true, Option, Some, None, refl, sym, subst}
use Rattle.std.proofs.lemmas.Bool.{and_parts}
use Rattle.siri_records.specs.Keyed.{Items, InOrder}
use Rattle.siri_records.specs.Keys.{key_of}
use Rattle.siri_change.specs.Views.{is_keyed, is_view}
use Rattle.siri_change.proofs.Leads.{one_key}
use Rattle.siri_change.proofs.Viewed.{view_stated}
use Rattle.siri_life.specs.Named.{Name, find}
use Rattle.siri_life.specs.Network.{opening}
use Rattle.siri_life.proofs.Facts.{TableFact}
use Rattle.siri_life.proofs.Fits.{network_fit, opening_fit}
use Rattle.siri_model.specs.Lives.{Living}
use Rattle.siri_model.specs.Meaning.{meaning}
use Rattle.siri_model.proofs.Lawful.{meaning_lawful}
use Rattle.siri_view.specs.Kept.{HeldSubscription}
use Rattle.siri_world_model.specs.declared.event.Event.{Event}
use Rattle.siri_world_model.specs.laws.QuietViews.{by_key}
use Rattle.siri_world_model.proofs.Views.{IsQuietView}
use Rattle.siri_world_model.proofs.Worlds.{network_of, reach}

HasView : Option Living → Type 0
HasView None = Unit {0}
HasView (Some l) = is_view l.acknowledged ≡ true

view_of_fact : (k now next : ℕ) (e : Option Living) → TableFact meaning k now next e → HasView e
unfolding HasView
view_of_fact k now next None fact = tt
view_of_fact k now next (Some l) fact = fact.acknowledged_is_view

views_held : (es : List Event) (c i : Name) → HasView (find c i (network_of es).serving.table)
unfolding HasView
views_held es c i =
    reach (λ n. HasView (find c i n.serving.table)) tt
    (λ moment happens. view_of_fact _ _ _ _ (network_fit meaning c i meaning_lawful happens (opening meaning 1 moment)
    (opening_fit meaning c i moment)).good.life) es

pub keyed_again : (items : Items) → is_keyed items ≡ true → by_key (map (λ entry. entry.1) items) ≡ items
keyed_again [] keyed = refl
keyed_again (entry ∷ items) keyed =
    let parts = and_parts _ (is_keyed items) keyed in
    λ i. (one_key (key_of entry.1) entry.0 parts.0 i, entry.1) ∷ keyed_again items parts.1 i

-- nor is its order another than that of its keys
pub quiet_viewed : (es : List Event) (c i : Name) (kept : HeldSubscription) → IsQuietView es c i kept → InOrder kept.view × (is_keyed kept.view ≡ true)
unfolding HasView
quiet_viewed es c i kept quiet =
    let viewed = (view_stated quiet.living.acknowledged).0 (subst HasView quiet.there (views_held es c i)) in
    subst (λ view. InOrder view × (is_keyed view ≡ true)) (sym quiet.view) (viewed.0, viewed.1)
