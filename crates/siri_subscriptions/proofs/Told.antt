-- What a look tells by what was found of the keys that may have changed.
use Rattle.std.proofs.Common.{◌≡◌, ℕ, ◌+◌, ◌≤◌, ◌<◌, List, [], ◌++◌, filter, length, nat_eq, nat_lt, Bool, true, false}
use Rattle.std.proofs.Common.{cond, not, ◌&&◌, ◌||◌, Some, None}
use Rattle.std.proofs.Common.{inl, inr, refl, ap, sym, ◌∙◌, subst, arith}
use Rattle.std.specs.Prelude.{◌==◌, ◌⊎◌}
use Rattle.std.specs.Map.{keys_of}
use Rattle.siri_records.specs.declared.key.Key.{Key}
use Rattle.siri_records.specs.Keyed.{Items, InOrder, KeyChange}
use Rattle.siri_records.specs.KeyLists.{in_order}
use Rattle.siri_change.specs.Changes as change
use Rattle.siri_change.specs.Looks.{AgreeOutside}
use Rattle.siri_change.specs.Parts as part
use Rattle.siri_life.specs.Life.{greatest_round}
use Rattle.siri_subs.specs.declared.entry.Row.{Row}
use Rattle.siri_model.specs.Direct.{direct_to, most_of}
use Rattle.siri_model.specs.Followed.{complete_set, opens}
use Rattle.siri_model.specs.Looks.{changes_found, found_of}
use Rattle.siri_model.specs.Rows.{asked_of}
use Rattle.siri_responder.specs.Known.{Known}
use Rattle.siri_subscriptions.specs.declared.course.Course.{Course}
use Rattle.siri_subscriptions.specs.declared.course.Looked.{Looked}
use Rattle.siri_subscriptions.specs.declared.looks.Opening.{Opening}
use Rattle.siri_subscriptions.specs.Again.{AreLive, is_other, keys_looked_at}
use Rattle.siri_subscriptions.specs.Courses.{kept_row}
use Rattle.siri_subscriptions.specs.Due.{IsFound, apart_at}
use Rattle.siri_subscriptions.specs.Looked.{FollowsLook}
use Rattle.siri_subscriptions.proofs.Apart.{opens_due, apart_opened, apart_kept}
use Rattle.siri_subscriptions.proofs.ByKeys.{outside, apart_is, level_is, keys_are}
use Rattle.siri_subscriptions.proofs.Found.{due, opens as opens_found, stays}

bound_case : (incremental opened : Bool) (most reads new : ℕ) → opened ≡ true
    → new ≤ reads + cond (not incremental) most 0
    → new ≤ reads + cond (not incremental && opened) most 0
bound_case true opened most reads new is le = le
bound_case false opened most reads new is le = rw is le

module _ (known : Known) (row : Row Course) (looked : Looked) (live : AreLive known)
    (follows : FollowsLook known row looked)
    (level : row.slot.rounds.outstanding ≡ None) (limitless : most_of row.wanted.topic ≡ None) (s : InOrder row.slot.rounds.acknowledged)
    (found : List KeyChange) (is : found ≡ found_of known.held (keys_looked_at known row.wanted.topic looked))
    (view : Items) (view_is : view ≡ row.slot.rounds.acknowledged) (now : ℕ) (now_is : now ≡ known.moment)
    (changes : List KeyChange) (changes_is : changes ≡ changes_found row.wanted.slack view row.wanted.topic now found)
    (left : List Key) (left_is : left ≡ filter (is_other found) looked.apart)
    (is_level : Bool) (level_by : is_level ≡ (nat_eq (length changes) 0 && nat_eq (length left) 0))
    (last : ℕ) (last_is : last ≡ row.slot.rounds.rounds_opened)
    (is_due : Bool) (due_by : is_due ≡ (nat_lt last greatest_round && (last == 0 || not is_level)))
    (room : is_due ≡ true → last < greatest_round) where
  abbrev direct : Items
  direct = direct_to known.moment known.held row.wanted.topic

  abbrev acknowledged : Items
  acknowledged = row.slot.rounds.acknowledged

  same_changes : changes ≡ changes_found row.wanted.slack acknowledged row.wanted.topic known.moment
      (found_of known.held (keys_looked_at known row.wanted.topic looked))
  same_changes = changes_is ∙ (λ i. changes_found row.wanted.slack (view_is i) row.wanted.topic (now_is i) (is i))

  same_left : left ≡ filter (is_other (found_of known.held (keys_looked_at known row.wanted.topic looked))) looked.apart
  same_left = left_is ∙ ap (λ f. filter (is_other f) looked.apart) is

  level_told : is_level ≡ change.meets row.wanted.slack acknowledged direct
  level_told =
      level_by ∙ ((λ i. nat_eq (length (same_changes i)) 0 && nat_eq (length (same_left i)) 0)
      ∙ level_is known row looked live follows level limitless s)

  due_told : is_due ≡ due row.wanted direct row.slot.rounds
  due_told = due_by ∙ (λ i. nat_lt (last_is i) greatest_round && (last_is i == 0 || not (level_told i)))

  -- ---- where none is due

  pub found_none : is_due ≡ false → IsFound known.moment known.held row (record { opening = None; is_level = is_level })
  found_none off = record {
    opening = stays row.wanted direct row.slot.rounds level (sym due_told ∙ off)
        (asked_of (kept_row row)) refl known.moment;
    can_open = tt;
    level = rw level level_told;
  }

  pub apart_told : (keys : List Key) → keys ≡ in_order (keys_of changes ++ left) → is_due ≡ false
      → Some keys ≡ apart_at known.moment known.held row
  apart_told keys keys_is off =
      ap Some (keys_is ∙ ((λ i. in_order (keys_of (same_changes i) ++ same_left i))
      ∙ apart_is known row looked live follows level limitless s))
      ∙ apart_kept known.moment known.held row level (sym due_told ∙ off)

  -- ---- where one is

  module _ (on : is_due ≡ true) where
    none_apart : (looked.apart ≡ []) ⊎ (greatest_round ≤ row.slot.rounds.rounds_opened) → looked.apart ≡ []
    none_apart (inl none) = none
    none_apart (inr over) = absurd (omega (arith, over, room on, last_is))

    pub outside_told : AgreeOutside row.wanted.slack view direct (keys_of found)
    outside_told =
        let here = outside known row looked live follows level limitless (none_apart follows.used_up) in
        subst (λ (v : Items). AgreeOutside row.wanted.slack v direct (keys_of found)) (sym view_is)
        (subst (λ (ks : List Key). AgreeOutside row.wanted.slack acknowledged direct ks)
        (sym (keys_are known row looked live follows level limitless found is)) here)

    pub apart_none : Some [] ≡ apart_at known.moment known.held row
    apart_none = apart_opened known.moment known.held row level (sym due_told ∙ on)

    abbrev goal : Items → Items
    goal v = change.target row.wanted.slack row.wanted.incremental v direct

    pub found_some : (opening : Opening) → part.led_to view opening.incremental opening.changes ≡ goal view
        → opening.changes ≡ part.load view (goal view) row.wanted.incremental
        → length (part.base_view view opening.incremental) + length opening.changes ≤ opening.room
        → IsFound known.moment known.held row (record { opening = Some opening; is_level = is_level })
    found_some opening leads carries fits = record {
      opening =
          opens_found row.wanted direct row.slot.rounds opening level (sym due_told ∙ on)
          (ap (λ v. part.led_to v opening.incremental opening.changes) (sym view_is) ∙ (leads ∙ ap goal view_is))
          (carries ∙ ap (λ v. part.load v (goal v) row.wanted.incremental) view_is)
          (asked_of (kept_row row)) refl known.moment;
      can_open = record {
        level = level;
        room = subst (λ n. n < greatest_round) last_is (room on);
        fits = subst (λ (v : Items). length (part.base_view v opening.incremental) + length opening.changes ≤ opening.room) view_is fits;
      };
      level = rw level level_told;
    }

    pub bound_told : (reads new : ℕ) → new ≤ reads + cond (not row.wanted.incremental) (length direct) 0
        → new ≤ reads + complete_set (kept_row row) direct
    bound_told reads new le =
        bound_case row.wanted.incremental (opens direct (kept_row row)) (length direct) reads new
        (opens_due known.moment known.held row level ∙ (sym due_told ∙ on)) le
