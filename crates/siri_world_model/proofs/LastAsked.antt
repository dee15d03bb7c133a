-- What a consumer wants of a subscription that it holds is what it asked for last.
use Rattle.std.proofs.Common.{◌≡◌, ℕ, Bool, true, false, cond, List, [], ◌∷◌, fold, Option, Some, None, refl, sym, ap, ◌∙◌}
use Rattle.std.specs.Prelude.{option_map, slice_get}
use Rattle.siri_messages.specs.Asked.{AskedFor}
use Rattle.siri_change.specs.Parts.{Carried}
use Rattle.siri_life.specs.Life.{Mark, Subscribe, Terminate, AllData, Supply, Acknowledge, Notify, Delivery}
use Rattle.siri_life.specs.Link as life
use Rattle.siri_life.specs.Link.{asked, outcome, restarted, taken, taken_as, with_part, with_start}
use Rattle.siri_life.specs.Named.{Name, same_subscription, next_of, with_under}
use Rattle.siri_life.specs.Network as network
use Rattle.siri_life.specs.Network.{Asks, Stops, Restarts, Delivers, step, takes, takes_letter}
use Rattle.siri_life.specs.Serving.{About, Carries, ToProducer, ToConsumer}
use Rattle.siri_life.proofs.Names.{same_parts}
use Rattle.siri_model.specs.Meaning.{meaning}
use Rattle.siri_view.specs.Kept.{HeldSubscription}
use Rattle.siri_world_model.specs.declared.event.Event.{Event}
use Rattle.siri_world_model.specs.laws.Happenings.{Happens, happened}
use Rattle.siri_world_model.specs.laws.Letters.{Letter}
use Rattle.siri_world_model.specs.laws.Networks.{WorldNetwork}
use Rattle.siri_world_model.specs.laws.QuietViews.{asked_after, asked_last}
use Rattle.siri_world_model.proofs.Worlds.{after_all, network_of, opened}

-- ---- what is kept, after a part

abbrev wants : HeldSubscription → AskedFor
wants kept = kept.wanted

start_wants : (b : Bool) (h : HeldSubscription) (s : ℕ) → wants (life.with_start_if meaning b h s) ≡ wants h
start_wants true h s = refl
start_wants false h s = refl

part_wants : (more : Bool) (h : HeldSubscription) (x : Carried) → wants (with_part meaning more h x) ≡ wants h
part_wants true h x = refl
part_wants false h x = refl

taken_wants : (o : life.Outcome) (h : HeldSubscription) (m : Mark) (more : Bool) (x : Carried) → wants (taken_as meaning o h m more x) ≡ wants h
taken_wants life.Wanted h m more x = part_wants more (with_start meaning h m.start) x ∙ start_wants _ h m.start
taken_wants life.Repeat h m more x = refl
taken_wants life.UnknownSubscription h m more x = refl
taken_wants life.OldStart h m more x = refl
taken_wants life.Gap h m more x = refl
taken_wants life.Overlong h m more x = refl

asked_wants : (n : ℕ) (x : AskedFor) (held : Option HeldSubscription) → wants (asked meaning n x held) ≡ x
asked_wants n x None = refl
asked_wants n x (Some h) = refl

module _ (c i : Name) where
  -- what is wanted of a subscription
  abbrev wanted_in : WorldNetwork → Option AskedFor
  wanted_in n = option_map wants (n.holdings c i)

  under : (d t : Name) (held : Option HeldSubscription) (n : WorldNetwork)
      → option_map wants (with_under d t held n.holdings c i) ≡ cond (same_subscription c i d t) (option_map wants held)
      (wanted_in n)
  under d t held n = by (same_subscription c i d t)
    where
      by : (b : Bool) → option_map wants (cond b held (n.holdings c i)) ≡ cond b (option_map wants held) (wanted_in n)
      by true = refl
      by false = refl

  -- what is kept of one is what was kept of it
  same_under : (d t : Name) (held : Option HeldSubscription) (n : WorldNetwork) → n.holdings d t ≡ held
      → cond (same_subscription c i d t) (option_map wants held) (wanted_in n) ≡ wanted_in n
  same_under d t held n is = by (same_subscription c i d t) refl
    where
      by : (b : Bool) → same_subscription c i d t ≡ b → cond b (option_map wants held) (wanted_in n) ≡ wanted_in n
      by true same =
          let names = same_parts c i d t same in
          ap (option_map wants) (sym is) ∙ (λ j. option_map wants (n.holdings (sym names.0 j) (sym names.1 j)))
      by false same = refl

  delivered_wants : (n : WorldNetwork) (d t : Name) (m : Mark) (more : Bool) (x : Carried)
      (held : Option HeldSubscription) → n.holdings d t ≡ held
      → wanted_in (network.delivered meaning n d t m more x held) ≡ wanted_in n
  delivered_wants n d t m more x None is = refl
  delivered_wants n d t m more x (Some h) is =
      under d t (Some (taken meaning h m more x)) n
      ∙ ap (λ wanted. cond (same_subscription c i d t) (Some wanted) (wanted_in n)) (taken_wants (outcome meaning h m) h m more x)
      ∙ same_under d t (Some h) n is

  readied_wants : (n : WorldNetwork) (d : Name) (o : life.Outcome) → (network.readied meaning n d o).holdings ≡ n.holdings
  readied_wants n d life.Wanted = refl
  readied_wants n d life.UnknownSubscription = refl
  readied_wants n d life.OldStart = refl
  readied_wants n d life.Gap = refl
  readied_wants n d life.Repeat = refl
  readied_wants n d life.Overlong = refl

  notified_wants : (n : WorldNetwork) (d t : Name) (m : Mark) (held : Option HeldSubscription) → n.holdings d t ≡ held
      → wanted_in (network.notified meaning n d t m held) ≡ wanted_in n
  notified_wants n d t m None is = refl
  notified_wants n d t m (Some h) is =
      ap (λ (holdings : Name → Name → Option HeldSubscription). option_map wants (with_under d t (Some h) holdings c i))
      (readied_wants n d (outcome meaning h m))
      ∙ under d t (Some h) n
      ∙ same_under d t (Some h) n is

  takes_wants : (n : WorldNetwork) (d t : Name) (it : About Carried AskedFor) → wanted_in (takes meaning n d t it) ≡ wanted_in n
  takes_wants n d t (ToProducer true) = refl
  takes_wants n d t (ToProducer false) = refl
  takes_wants n d t ToConsumer = refl
  takes_wants n d t (Carries (Subscribe number x)) = refl
  takes_wants n d t (Carries (Terminate number)) = refl
  takes_wants n d t (Carries (AllData number base)) = refl
  takes_wants n d t (Carries (Supply m)) = refl
  takes_wants n d t (Carries (Acknowledge m)) = refl
  takes_wants n d t (Carries (Notify m moment)) = notified_wants n d t m (n.holdings d t) refl
  takes_wants n d t (Carries (Delivery m moment more x)) = delivered_wants n d t m more x (n.holdings d t) refl

  letter_wants : (n : WorldNetwork) (found : Option Letter) → wanted_in (takes_letter meaning n found) ≡ wanted_in n
  letter_wants n None = refl
  letter_wants n (Some letter) = takes_wants n letter.subscriber letter.identifier letter.it

  stopped_wants : (n : WorldNetwork) (d t : Name) (held : Option HeldSubscription) → n.holdings d t ≡ held
      → wanted_in (network.stopped meaning n d t held) ≡ asked_after c i (wanted_in n) (Stops d t)
  stopped_wants n d t None is = sym (same_under d t None n is)
  stopped_wants n d t (Some h) is = under d t None n

  restarted_wants : (n : WorldNetwork) (d t : Name) (held : Option HeldSubscription) → n.holdings d t ≡ held
      → wanted_in (network.restarted_one meaning n d t held) ≡ wanted_in n
  restarted_wants n d t None is = refl
  restarted_wants n d t (Some h) is = under d t (Some (restarted meaning (next_of (n.numbers d)) h)) n
      ∙ same_under d t (Some h) n is

  step_wants : (n : WorldNetwork) (e : Happens) → wanted_in (step meaning n e) ≡ asked_after c i (wanted_in n) e
  step_wants n (Asks d t x) =
      under d t (Some (asked meaning _ x (n.holdings d t))) n
      ∙ ap (λ wanted. cond (same_subscription c i d t) (Some wanted) (wanted_in n)) (asked_wants _ x (n.holdings d t))
  step_wants n (Stops d t) = stopped_wants n d t (n.holdings d t) refl
  step_wants n (Restarts d t) = restarted_wants n d t (n.holdings d t) refl
  step_wants n (Delivers k) = letter_wants n (slice_get n.letters k)
  step_wants n other = refl

  all_want : (happens : List Happens) (n : WorldNetwork) → wanted_in (after_all happens n) ≡ fold (asked_after c i) (wanted_in n) happens
  all_want [] n = refl
  all_want (e ∷ happens) n = all_want happens (step meaning n e) ∙ ap (λ wanted. fold (asked_after c i) wanted happens) (step_wants n e)

-- what is kept of a subscription wants what was asked for last
pub wants_last : (es : List Event) (c i : Name) (kept : HeldSubscription) → (network_of es).holdings c i ≡ Some kept → asked_last es c i ≡ Some kept.wanted
wants_last es c i kept is = sym (all_want c i (happened es) opened) ∙ ap (option_map wants) is

-- of one that isn't held it asked for none
pub wants_none : (es : List Event) (c i : Name) → (network_of es).holdings c i ≡ None → asked_last es c i ≡ None
wants_none es c i is = sym (all_want c i (happened es) opened) ∙ ap (option_map wants) is
