-- After any events a world is well, and its network is the one after what happened; so what holds of networks holds of it.
use Rattle.std.proofs.Common.{◌≡◌, ℕ, List, [], ◌∷◌, ◌++◌, fold, None, refl, sym, ap, ◌∙◌, subst}
use Rattle.std.specs.Prelude.{unwrap_or}
use Rattle.std.specs.List.{last_or}
use Rattle.std.proofs.lemmas.List.{append_assoc}
use Rattle.std.proofs.lemmas.List.Sums.{fold-append}
use Rattle.std.proofs.lemmas.List.Elements.{All-nil}
use Rattle.siri_life.specs.Network.{network_after, opening, step}
use Rattle.siri_model.specs.History.{History}
use Rattle.siri_model.specs.Lives.{Served, serving_of}
use Rattle.siri_model.specs.Meaning.{meaning}
use Rattle.siri_world_model.specs.declared.event.Event.{Event}
use Rattle.siri_world_model.specs.declared.event.Event.TheVariants as event
use Rattle.siri_world_model.specs.Effects.{effect}
use Rattle.siri_world_model.specs.Told.{after, refusal, world_after}
use Rattle.siri_world_model.specs.World.{World, latest, nothing}
use Rattle.siri_world_model.specs.laws.Happenings.{Happens, happened, happened_from, happening, happenings}
use Rattle.siri_world_model.specs.laws.Networks.{WorldNetwork, serving_in, serving_from}
use Rattle.siri_world_model.proofs.Well.{IsMade, IsShort, IsOrdered}
use Rattle.siri_world_model.proofs.Consumers.{Stands}
use Rattle.siri_world_model.proofs.Latest.{ends_of}
use Rattle.siri_world_model.proofs.Steps.{step_stands}

-- ---- all events

abbrev pub opened : WorldNetwork
opened = opening meaning 0 0

abbrev pub after_all : List Happens → WorldNetwork → WorldNetwork
after_all happens network = network_after meaning happens network

after_both : (xs ys : List Happens) (n : WorldNetwork) → after_all (xs ++ ys) n ≡ after_all ys (after_all xs n)
after_both [] ys n = refl
after_both (x ∷ xs) ys n = after_both xs ys (step meaning n x)

pub stands_from : (world : World) (n : WorldNetwork) (es : List Event) → Stands world n → Stands (fold after world es) (after_all (happened_from world es) n)
stands_from world n [] stands = stands
stands_from world n (e ∷ es) stands =
    subst (λ n. Stands (fold after (after world e) es) n) (sym (after_both (happenings world e) (happened_from (after world e) es) n))
    (stands_from (after world e) (after_all (happenings world e) n) es (step_stands world e n stands))

nothing_stands : Stands nothing opened
nothing_stands = (
  record { numbered = tt; short = All-nil IsShort; made = All-nil IsMade; ordered = All-nil IsOrdered },
  record {
    serving = refl;
    numbers = λ name. refl;
    holdings = λ name identifier. refl;
    letters = refl;
  },
)

-- the network after some events
abbrev pub network_of : List Event → WorldNetwork
network_of es = after_all (happened es) opened

pub world_stands : (es : List Event) → Stands (world_after es) (network_of es)
world_stands es = stands_from nothing opened es nothing_stands

-- events after events
pub after_more : (before later : List Event) → world_after (before ++ later) ≡ fold after (world_after before) later
after_more before later = fold-append after nothing before later

-- and what happened
happened_both : (world : World) (before later : List Event)
    → happened_from world (before ++ later) ≡ happened_from world before
    ++ happened_from (fold after world before) later
happened_both world [] later = refl
happened_both world (e ∷ before) later =
    ap (λ xs. happenings world e ++ xs) (happened_both (after world e) before later)
    ∙ sym (append_assoc (happenings world e) (happened_from (after world e) before) (happened_from (fold after (after world e) before) later))

pub network_more : (before later : List Event) → network_of (before ++ later) ≡ after_all (happened_from (world_after before) later) (network_of before)
network_more before later = ap (λ xs. after_all xs opened) (happened_both nothing before later)
    ∙ after_both (happened before) (happened_from (world_after before) later) opened

-- ---- nothing happens before the first start

-- what holds of the network before, and after whatever happens from a first start on, holds of that of a world
pub reach : (P : WorldNetwork → Type 0) → P opened
    → ((moment : ℕ) (happens : List Happens) → P (after_all happens (opening meaning 1 moment))) → (es : List Event)
    → P (network_of es)
unfolding refusal effect happening
reach P none some [] = none
reach P none some (event.Start t ∷ es) = some t (happened_from (after nothing (event.Start t)) es)
reach P none some (other ∷ es) = reach P none some es

-- ---- the latest start

-- what is served now is what the latest start serves
pub table_is : (world : World) → (serving_in world).table ≡ (serving_of (latest world)).table
table_is world = by world.starts
  where
    by : (starts : List History) → (serving_from [] starts).table ≡ (serving_of (unwrap_or (last_or None starts) [])).table
    by [] = refl
    by (h ∷ more) = let e = ends_of 1 None [] h more in
        ap (λ (v : Served). v.table) e.serving ∙ ap (λ found. (serving_of (unwrap_or found [])).table) (sym e.latest)

pub known_is : (world : World) → (serving_in world).known ≡ (serving_of (latest world)).known
known_is world = by world.starts
  where
    by : (starts : List History) → (serving_from [] starts).known ≡ (serving_of (unwrap_or (last_or None starts) [])).known
    by [] = refl
    by (h ∷ more) = let e = ends_of 1 None [] h more in
        ap (λ (v : Served). v.known) e.serving ∙ ap (λ found. (serving_of (unwrap_or found [])).known) (sym e.latest)
