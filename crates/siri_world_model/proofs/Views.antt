-- What a consumer shows: the goal of the round that its view belongs to, and where that is quiet a view that meets the direct
-- response.
use Rattle.std.proofs.Common.{◌≡◌, ℕ, List, Bool, true, false, Option, Some, None, refl, ap, ◌∙◌, subst}
use Rattle.std.specs.Prelude.{if◌then◌else◌}
use Rattle.std.proofs.lemmas.Bool.{eqb-true}
use Rattle.siri_messages.specs.Asked.{AskedFor}
use Rattle.siri_change.specs.Changes.{meets}
use Rattle.siri_life.specs.Life.{is_quiet as is_life_quiet}
use Rattle.siri_life.specs.Link.{GoalAt}
use Rattle.siri_life.specs.Named.{Name, find}
use Rattle.siri_life.specs.Network.{seen_by}
use Rattle.siri_life.specs.laws.Claims.{ViewIsGoal, MeetsWhereQuiet}
use Rattle.siri_life.proofs.Every.{views, meets_where_quiet}
use Rattle.siri_model.specs.Direct.{direct_to}
use Rattle.siri_model.specs.History.{History, State}
use Rattle.siri_model.specs.Lives.{Living, Served, is_settled, life_of, number_if_quiet, quiet_number, serving_of}
use Rattle.siri_model.specs.Meaning.{direct_of, meaning}
use Rattle.siri_model.proofs.Lawful.{meaning_lawful}
use Rattle.siri_model.proofs.Serves.{goes_with}
use Rattle.siri_view.specs.Kept.{HeldSubscription}
use Rattle.siri_world_model.specs.declared.event.Event.{Event}
use Rattle.siri_world_model.specs.Goals.{goal, is_number, is_quiet, ShowsGoals}
use Rattle.siri_world_model.specs.Told.{world_after}
use Rattle.siri_world_model.specs.World.{latest}
use Rattle.siri_world_model.specs.laws.Claims as claims
use Rattle.siri_world_model.specs.laws.Networks.{kept_by}
use Rattle.siri_world_model.proofs.Consumers.{found_own}
use Rattle.siri_world_model.proofs.Goals.{rounds_by, goal_is}
use Rattle.siri_world_model.proofs.Worlds.{known_is, network_of, reach, table_is, world_stands}

-- ---- what is kept

-- what a consumer keeps is what the network has of it
pub held_is : (es : List Event) (name identifier : Name) (kept : HeldSubscription)
    → kept_by name identifier (world_after es).consumers ≡ Some kept
    → (network_of es).holdings name identifier ≡ Some kept
held_is es name identifier kept is = (world_stands es).1.holdings name identifier ∙ is

-- ---- views are goals

views_in : (es : List Event) (c i : Name) → ViewIsGoal meaning (seen_by meaning c i (network_of es)) ((network_of es).holdings c i)
views_in es c i = reach (λ n. ViewIsGoal meaning (seen_by meaning c i n) (n.holdings c i)) tt
    (λ moment happens. views meaning meaning_lawful moment happens c i) es

pub view_shown : (es : List Event) (c i : Name) (kept : HeldSubscription)
    → kept_by c i (world_after es).consumers ≡ Some kept → kept.view ≡ goal (world_after es) c i kept.origin
view_shown es c i kept is =
    let world = world_after es in
    let n = network_of es in
    let stands = world_stands es in
    let there = subst (ViewIsGoal meaning (seen_by meaning c i n)) (held_is es c i kept is) (views_in es c i) in
    goal_is c i kept.origin kept.view world stands.0.numbered
    (subst (λ (v : Served). GoalAt meaning (rounds_by c i kept.origin.number kept.origin.start v) kept.origin.round kept.view) stands.1.serving there)

-- what each consumer shows of each subscription that it holds is the goal of the round that its view belongs to
pub view_is_goal : (es : List Event) → ShowsGoals (world_after es)
view_is_goal es name identifier consumer kept found held =
    view_shown es consumer.name identifier kept ((found_own name (world_after es).consumers consumer (world_stands es).0.ordered found).kept identifier ∙ held)

-- ---- quiet views meet the direct response

-- by what the side knows, and by the history
direct_same : (h : History) (wanted : AskedFor) → direct_of (serving_of h).known wanted ≡ direct_of h wanted
direct_same h wanted = ap (λ (s : State). direct_to s.now s.current wanted.subscription.topic) (goes_with h).known

-- a subscription that is told as quiet has a life that is
pub record HasQuiet (h : History) (c i : Name) (number : ℕ) : Type 0 where
  pub living : Living
  pub there : life_of c i h ≡ Some living
  pub quiet : is_life_quiet meaning living (direct_of h living.wanted) ≡ true
  pub numbered : living.number ≡ number

quiet_has : (h : History) (c i : Name) (number : ℕ) → is_number (quiet_number h c i) number ≡ true → HasQuiet h c i number
quiet_has h c i number is = settled (is_settled h) is
  where
    quiet : (l : Living) (b : Bool) → life_of c i h ≡ Some l → is_life_quiet meaning l (direct_of h l.wanted) ≡ b
        → is_number (if b then Some l.number else None) number ≡ true → HasQuiet h c i number
    quiet l true there b is = record { living = l; there = there; quiet = b; numbered = eqb-true l.number number is }
    quiet l false there b is = absurd (cc)

    found : (e : Option Living) → life_of c i h ≡ e → is_number (number_if_quiet h e) number ≡ true → HasQuiet h c i number
    found None there is = absurd (cc)
    found (Some l) there is = quiet l (is_life_quiet meaning l (direct_of h l.wanted)) there refl is

    settled : (b : Bool) → is_number (if b then number_if_quiet h (life_of c i h) else None) number ≡ true → HasQuiet h c i number
    settled true is = found (life_of c i h) refl is
    settled false is = absurd (cc)

meets_in : (es : List Event) (c i : Name) → MeetsWhereQuiet meaning (seen_by meaning c i (network_of es))
    ((network_of es).holdings c i) (find c i (network_of es).serving.table)
meets_in es c i = reach (λ n. MeetsWhereQuiet meaning (seen_by meaning c i n) (n.holdings c i)
    (find c i n.serving.table)) tt (λ moment happens. meets_where_quiet meaning meaning_lawful moment happens c i) es

-- what is kept of a subscription that is told as quiet, and its life
pub record IsQuietView (es : List Event) (c i : Name) (kept : HeldSubscription) : Type 0 where
  pub living : Living
  pub there : find c i (network_of es).serving.table ≡ Some living
  pub view : kept.view ≡ living.acknowledged
  pub wanted : living.wanted ≡ kept.wanted
  pub meet : meets kept.wanted.subscription.slack kept.view (direct_of (latest (world_after es)) kept.wanted) ≡ true

pub quiet_view : (es : List Event) (c i : Name) (kept : HeldSubscription)
    → kept_by c i (world_after es).consumers ≡ Some kept → is_quiet (world_after es) c i kept.number ≡ true
    → IsQuietView es c i kept
quiet_view es c i kept is quiet =
    let world = world_after es in
    let n = network_of es in
    let h = latest world in
    let stands = world_stands es in
    let one = quiet_has h c i kept.number quiet in
    let l = one.living in
    let life : find c i n.serving.table ≡ Some l = ap (λ (v : Served). find c i v.table) stands.1.serving
    ∙ ap (λ table. find c i table) (table_is world) ∙ one.there in
    let direct : (wanted : AskedFor) → direct_of n.serving.known wanted ≡ direct_of h wanted =
    λ wanted. ap (λ (v : Served). direct_of v.known wanted) stands.1.serving
    ∙ ap (λ known. direct_of known wanted) (known_is world) ∙ direct_same h wanted in
    let claim = subst (λ (z : Option HeldSubscription × Option Living).
    MeetsWhereQuiet meaning (seen_by meaning c i n) z.0 z.1) (λ j. (held_is es c i kept is j, life j))
    (meets_in es c i) in
    let met = claim one.numbered (ap (is_life_quiet meaning l) (direct l.wanted) ∙ one.quiet) in
    record {
      living = l;
      there = life;
      view = met.0;
      wanted = met.1;
      meet = subst (λ items. meets kept.wanted.subscription.slack kept.view items ≡ true) (direct kept.wanted) met.2;
    }

pub quiet_meets : (es : List Event) (c i : Name) (kept : HeldSubscription)
    → kept_by c i (world_after es).consumers ≡ Some kept → is_quiet (world_after es) c i kept.number ≡ true
    → meets kept.wanted.subscription.slack (goal (world_after es) c i kept.origin) (direct_of (latest (world_after es)) kept.wanted) ≡ true
quiet_meets es c i kept is quiet =
    subst (λ items. meets kept.wanted.subscription.slack items (direct_of (latest (world_after es)) kept.wanted) ≡ true)
    (view_shown es c i kept is) (quiet_view es c i kept is quiet).meet

pub views_meet : (es : List Event) → claims.MeetsWhereQuiet (world_after es)
views_meet es name identifier consumer kept found held quiet =
    quiet_meets es consumer.name identifier kept
    ((found_own name (world_after es).consumers consumer (world_stands es).0.ordered found).kept identifier ∙ held)
    quiet
