-- A later look at a subscription whose topic has MaximumStopVisits, where nothing changed.
use Rattle.std.proofs.Common.{◌≡◌, ℕ, ◌≤◌, List, [], ◌∷◌, filter, length, nat_eq, nat_lt, Bool, true, false, not, ◌&&◌, ◌||◌}
use Rattle.std.proofs.Common.{Some, None, inl, inr, refl, ap, sym, ◌∙◌, arith}
use Rattle.std.specs.Prelude.{◌==◌, ◌⊎◌}
use Rattle.std.specs.Map.{keys_of}
use Rattle.std.specs.Option.{option_eq}
use Rattle.std.proofs.lemmas.Bool.{le-ltb}
use Rattle.siri_records.specs.declared.key.Key.{Key}
use Rattle.siri_records.specs.Near.{is_near}
use Rattle.siri_records.specs.Keyed.{Items, InOrder, item_of}
use Rattle.siri_records.specs.KeyLists.{is_among, in_order}
use Rattle.siri_change.specs.Changes.{agree_on, meets}
use Rattle.siri_life.specs.Life.{greatest_round}
use Rattle.siri_subs.specs.declared.entry.Row.{Row}
use Rattle.siri_model.specs.Direct.{direct_to}
use Rattle.siri_model.specs.Followed.{goal_of, keys_apart}
use Rattle.siri_model.specs.Rows.{asked_of}
use Rattle.siri_model.proofs.Apart.{looks_tell_apart}
use Rattle.siri_model.proofs.Facts.{direct_stays}
use Rattle.siri_model.specs.laws.Apart.{AgreeElsewhere, TellApart}
use Rattle.siri_responder.specs.Known.{Known}
use Rattle.siri_subscriptions.specs.declared.course.Course.{Course}
use Rattle.siri_subscriptions.specs.declared.course.Looked.{Looked}
use Rattle.siri_subscriptions.specs.Again.{AreLive, crossed_since, touched_keys}
use Rattle.siri_subscriptions.specs.Courses.{kept, kept_row}
use Rattle.siri_subscriptions.specs.Due.{IsFound, apart_at}
use Rattle.siri_subscriptions.specs.Looked.{FollowsLook, look_of}
use Rattle.siri_subscriptions.proofs.Apart.{apart_kept}
use Rattle.siri_subscriptions.proofs.ByKeys.{as_then}
use Rattle.siri_subscriptions.proofs.Found.{due, stays}

all_stay : (keys : List Key) → filter (λ key. not (is_among key [])) keys ≡ keys
all_stay [] = refl
all_stay (k ∷ keys) = ap (λ l. k ∷ l) (all_stay keys)

-- no round is due where one was opened, and the view is level or the numbers are used up
none_due : (n : ℕ) (met : Bool) → 1 ≤ n → (met ≡ true) ⊎ (greatest_round ≤ n) → (nat_lt n greatest_round && (n == 0 || not met)) ≡ false
none_due n met some (inl is) = grind (arith, some, is)
none_due n met some (inr over) = ap (λ b. b && (n == 0 || not met)) (le-ltb n greatest_round over)

module _ (known : Known) (row : Row Course) (looked : Looked) (live : AreLive known)
    (follows : FollowsLook known row looked) (level : row.slot.rounds.outstanding ≡ None)
    (s : InOrder row.slot.rounds.acknowledged)
    (untouched : touched_keys known row.wanted.topic looked ≡ [])
    (uncrossed : crossed_since known row.wanted.topic looked ≡ []) where
  abbrev view : Items
  view = row.slot.rounds.acknowledged

  abbrev direct : Items
  direct = direct_to known.moment known.held row.wanted.topic

  same : direct ≡ direct_to looked.moment follows.facts.then row.wanted.topic
  same = direct_stays row.wanted.slack row.wanted.topic known.moment known.held (goal_of (kept row.slot).rounds)
      (look_of known.marks looked) live.ordered live.keyed follows.facts
      (λ key may. as_then known row.wanted.topic looked live key (ap (is_among key) untouched)
      (ap (λ (items : Items). is_among key (keys_of items)) uncrossed) may)

  -- nothing is outstanding: the view that the consumer is led to is the acknowledged one
  goal_is : goal_of (kept row.slot).rounds ≡ view
  goal_is = rw level refl

  agree_then : (key : Key) → agree_on (is_near row.wanted.slack) view direct key
      ≡ agree_on (is_near row.wanted.slack) (goal_of (kept row.slot).rounds) (direct_to looked.moment follows.facts.then row.wanted.topic) key
  agree_then key = λ i. option_eq (is_near row.wanted.slack) (item_of (sym goal_is i) key) (item_of (same i) key)

  elsewhere : AgreeElsewhere row.wanted.slack view direct [] looked.apart
  elsewhere key out = by (is_among key looked.apart) refl
    where
      by : (b : Bool) → is_among key looked.apart ≡ b → agree_on (is_near row.wanted.slack) view direct key ≡ not b
      by true on = agree_then key ∙ follows.facts.differs key on
      by false off = agree_then key ∙ follows.facts.agrees key off

  told : TellApart row.wanted.slack view direct [] looked.apart
  told = looks_tell_apart row.wanted.slack view direct [] looked.apart s elsewhere

  pub still_is : in_order looked.apart ≡ keys_apart row.wanted.slack view direct
  still_is = ap in_order (sym (all_stay looked.apart)) ∙ told.apart_again

  pub level_is : nat_eq (length looked.apart) 0 ≡ meets row.wanted.slack view direct
  level_is = ap (λ (keys : List Key). nat_eq (length keys) 0) (sym (all_stay looked.apart)) ∙ sym told.level

  level_or_over : (looked.apart ≡ []) ⊎ (greatest_round ≤ row.slot.rounds.rounds_opened)
      → (meets row.wanted.slack view direct ≡ true) ⊎ (greatest_round ≤ row.slot.rounds.rounds_opened)
  level_or_over (inl none) = inl (sym level_is ∙ ap (λ (keys : List Key). nat_eq (length keys) 0) none)
  level_or_over (inr over) = inr over

  not_due : due row.wanted direct row.slot.rounds ≡ false
  not_due = none_due row.slot.rounds.rounds_opened (meets row.wanted.slack view direct) follows.some_opened (level_or_over follows.used_up)

  pub still_found : (is_level : Bool) → is_level ≡ nat_eq (length looked.apart) 0
      → IsFound known.moment known.held row (record { opening = None; is_level = is_level })
  still_found is_level is = record {
    opening = stays row.wanted direct row.slot.rounds level not_due (asked_of (kept_row row)) refl known.moment;
    can_open = tt;
    level = rw level (is ∙ level_is);
  }

  pub still_apart_at : (keys : List Key) → keys ≡ in_order looked.apart → Some keys ≡ apart_at known.moment known.held row
  still_apart_at keys is = ap Some (is ∙ still_is) ∙ apart_kept known.moment known.held row level not_due
