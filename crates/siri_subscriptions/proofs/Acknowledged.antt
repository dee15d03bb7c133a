-- Which acknowledgements count, and what they change.
use Rattle.std.proofs.Common.{◌≡◌, ℕ, suc, List, Bool, true, false, Option, Some, None, option_map, refl, ap, ◌∙◌, sym}
use Rattle.std.specs.Prelude.{nat_eq, ◌&&◌, ◌↔◌}
use Rattle.std.specs.Option.{option_map_or}
use Rattle.std.proofs.lemmas.Bool.{and_parts, eqb-true, eq-eqb}
use Rattle.siri_base.specs.declared.place.Place.{Place}
use Rattle.siri_records.specs.Keyed.{Items, KeyChange}
use Rattle.siri_life.specs.Life.{Outstanding}
use Rattle.siri_life.specs.Slot.{wants, wants_of, with_acknowledgement}
use Rattle.siri_messages.specs.declared.supplies.Mark.{Mark}
use Rattle.siri_subs.specs.declared.entry.Row.{Row}
use Rattle.siri_subs.specs.Table.{is_of, place_of}
use Rattle.siri_subs.specs.Loans.{with_slot}
use Rattle.siri_subs.proofs.Placed.{find_none, none_found}
use Rattle.siri_model.specs.Lives.{mark_of}
use Rattle.siri_model.specs.Rows.{is_numbered, rows_acknowledged}
use Rattle.siri_subs.specs.declared.rounds.answers.Taken.{Taken}
use Rattle.siri_subs.specs.declared.rounds.answers.Taken.TheVariants as answered_as
use Rattle.siri_subs.specs.rounds.Wanted.{KeptRounds, RoundsOfChanges, rounds_carried, place_in, wanted_place}
use Rattle.siri_subs.proofs.Carriage.{acknowledgement_carried, wants_carried}
use Rattle.siri_subscriptions.specs.declared.course.Course.{Course}
use Rattle.siri_subscriptions.specs.Courses.{kept_row, kept_rows}
use Rattle.siri_subscriptions.specs.Acknowledgements.{names_wanted, counts_by}
use Rattle.siri_subscriptions.proofs.Kept.{found_kept, found_at}
use Rattle.siri_subscriptions.proofs.Marked.{IsHere, none_moves, other_moves, own_moves}

wanted_case : (opened : ℕ) (o : Option (Outstanding Items (List KeyChange))) (place : Place)
    → (option_map (place_in opened) o ≡ Some place) ↔ (wants_of opened o place.round place.part ≡ true)
wanted_case opened None place = ((λ e. absurd (cc e)), (λ e. absurd (cc e)))
wanted_case opened (Some o) place = (
  (λ e.
      let same : place_in opened o ≡ place = cc e in
      let round : place.round ≡ opened = sym (ap (λ (p : Place). p.round) same) in
      let part : place.part ≡ suc o.acknowledged_parts = sym (ap (λ (p : Place). p.part) same) in
      rw (eq-eqb place.round opened round, eq-eqb place.part (suc o.acknowledged_parts) part) refl),
  (λ e.
      let parts = and_parts (nat_eq place.round opened) (nat_eq place.part (suc o.acknowledged_parts)) e in
      let round = eqb-true place.round opened parts.0 in
      let part = eqb-true place.part (suc o.acknowledged_parts) parts.1 in
      sym (λ j. Some (record { round = round j; part = part j }))),
)

-- a place is the wanted one exactly where its round and part are wanted
pub wanted_there : (rounds : RoundsOfChanges) (place : Place) → (wanted_place rounds ≡ Some place) ↔ (wants rounds place.round place.part ≡ true)
wanted_there rounds place = wanted_case rounds.rounds_opened rounds.outstanding place

-- ---- the row of the subscription that a mark names

module _ (start now : ℕ) (s : List ℕ) (m : Mark) (table : List (Row Course)) where
  abbrev move : KeptRounds → KeptRounds
  move rounds = with_acknowledgement rounds m.round m.part now

  -- it isn't held
  pub none_counts : place_of s m.subscription table ≡ None → counts_by start true (Some s) (Some m) (kept_rows table) ≡ false
  none_counts none =
      ap (λ h. option_map_or (names_wanted start m) h false)
      (found_kept s m.subscription table ∙ ap (option_map kept_row)
      (find_none (is_of s m.subscription) table (none_found (is_of s m.subscription) table none)))

  pub none_changes : place_of s m.subscription table ≡ None → kept_rows table ≡ rows_acknowledged start now true (Some s) (Some m) (kept_rows table)
  none_changes none = none_moves start s m move table none

  module _ (k : ℕ) (h : Row Course) (here : IsHere s m.subscription table k h) where
    -- it counts by the row
    row_counts : counts_by start true (Some s) (Some m) (kept_rows table) ≡ names_wanted start m (kept_row h)
    row_counts =
        ap (λ g. option_map_or (names_wanted start m) g false)
        (found_kept s m.subscription table ∙ ap (option_map kept_row)
        (found_at s m.subscription table k here.first ∙ here.row))

    -- it is held under another number, or the mark is of another start
    pub other_counts : is_numbered (mark_of m) h.number start ≡ false → counts_by start true (Some s) (Some m) (kept_rows table) ≡ false
    other_counts other = row_counts ∙ ap (λ b. b && wants (rounds_carried h.slot.rounds) m.round m.part) other

    pub other_changes : is_numbered (mark_of m) h.number start ≡ false → kept_rows table ≡ rows_acknowledged start now true (Some s) (Some m) (kept_rows table)
    other_changes other = other_moves start s m move table k h here other

    -- it is held under that number, and the mark is of this start
    pub own_counts : is_numbered (mark_of m) h.number start ≡ true
        → counts_by start true (Some s) (Some m) (kept_rows table) ≡ wants h.slot.rounds m.round m.part
    own_counts own = row_counts ∙ ap (λ b. b && wants (rounds_carried h.slot.rounds) m.round m.part) own ∙ wants_carried h.slot.rounds m.round m.part

    pub own_changes : is_numbered (mark_of m) h.number start ≡ true → (was : Course) → was ≡ h.slot
        → (rounds : RoundsOfChanges) → rounds ≡ with_acknowledgement was.rounds m.round m.part now
        → kept_rows (with_slot table k (record was { rounds = rounds })) ≡ rows_acknowledged start now true (Some s) (Some m) (kept_rows table)
    own_changes own was same rounds new = own_moves start s m move table k h here own was same rounds
        (ap rounds_carried new ∙ acknowledgement_carried was.rounds m.round m.part now)

-- ---- what is answered

pub isnt_taken : (counts : Bool) → counts ≡ false → (answered_as.NotThis ≡ answered_as.Taken) ↔ (counts ≡ true)
isnt_taken counts is = ((λ e. absurd (cc e)), (λ e. absurd (cc (sym is ∙ e))))

pub taken_by : (answer : Taken) (counts : Bool) (rounds : RoundsOfChanges) (place : Place)
    → (answer ≡ answered_as.Taken) ↔ (wanted_place rounds ≡ Some place) → counts ≡ wants rounds place.round place.part
    → (answer ≡ answered_as.Taken) ↔ (counts ≡ true)
taken_by answer counts rounds place taken is =
    let wanted = wanted_there rounds place in
    ((λ e. is ∙ wanted.0 (taken.0 e)), (λ e. taken.1 (wanted.1 (sym is ∙ e))))
