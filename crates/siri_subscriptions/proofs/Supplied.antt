-- What a request for a part changes.
use Rattle.std.proofs.Common.{◌≡◌, ℕ, List, Bool, true, false, ◌&&◌, Option, Some, None, option_map, refl, ap, ◌∙◌}
use Rattle.std.specs.Prelude.{find, if◌then◌else◌}
use Rattle.std.proofs.lemmas.Bool.{and_parts}
use Rattle.siri_messages.specs.declared.supplies.Mark.{Mark}
use Rattle.siri_records.specs.Keyed.{Items}
use Rattle.siri_change.specs.Parts.{Carried}
use Rattle.siri_life.specs.Life.{Outstanding}
use Rattle.siri_life.specs.Slot.{wants, wants_of, with_supply, supply_of}
use Rattle.siri_subs.specs.declared.entry.Row.{Row}
use Rattle.siri_subs.specs.Loans.{with_slot}
use Rattle.siri_subs.specs.Table.{is_of, place_of}
use Rattle.siri_model.specs.Lives.{mark_of}
use Rattle.siri_model.specs.Rows.{KeptLife, is_numbered, supplied_row, with_rounds}
use Rattle.siri_subs.specs.rounds.Wanted.{KeptRounds}
use Rattle.siri_subs.proofs.Carriage.{supply_carried}
use Rattle.siri_subscriptions.specs.declared.course.Course.{Course}
use Rattle.siri_subscriptions.specs.Courses.{kept_row, kept_rows}
use Rattle.siri_subscriptions.specs.Acknowledgements.{names_wanted}
use Rattle.siri_subscriptions.specs.Supplies.{rows_supplied}
use Rattle.siri_subscriptions.specs.Supplying.{is_supplied}
use Rattle.siri_subscriptions.proofs.Kept.{found_kept, found_by, not_found}
use Rattle.siri_subscriptions.proofs.Marked.{IsHere, none_moves, same_moves, own_moves}

-- what is kept stays, where none is
unsupplied : (s : KeptRounds) (round part now : ℕ) → (s.fetched && wants s round part) ≡ false → with_supply s round part now ≡ s
unsupplied s round part now isnt = of s.outstanding isnt
  where
    of : (o : Option (Outstanding Items Carried)) → (s.fetched && wants_of s.rounds_opened o round part) ≡ false → supply_of s o round part now ≡ s
    of None isnt = refl
    of (Some o) isnt = rw isnt refl

row_unsupplied : (start now : ℕ) (m : Mark) (row : Row KeptLife) → is_supplied start m row ≡ false → supplied_row start now (mark_of m) row ≡ row
row_unsupplied start now m row isnt = by (is_numbered (mark_of m) row.number start) isnt
  where
    rounds : KeptRounds
    rounds = row.slot.rounds

    by : (b : Bool) → (rounds.fetched && (b && wants rounds m.round m.part)) ≡ false
        → (if b then with_rounds row (with_supply rounds m.round m.part now) else row) ≡ row
    by true isnt = ap (with_rounds row) (unsupplied rounds m.round m.part now isnt)
    by false isnt = refl

-- where one is, the row has the mark's number, in its start
numbered : (start : ℕ) (m : Mark) (row : Row KeptLife) → is_supplied start m row ≡ true → is_numbered (mark_of m) row.number start ≡ true
numbered start m row does =
    let named = and_parts row.slot.rounds.fetched (names_wanted start m row) does in
    let parts = and_parts (is_numbered (mark_of m) row.number start) (wants row.slot.rounds m.round m.part) named.1 in
    parts.0

module _ (start now : ℕ) (s : List ℕ) (m : Mark) (table : List (Row Course)) where
  abbrev move : KeptRounds → KeptRounds
  move rounds = with_supply rounds m.round m.part now

  -- the subscription isn't held
  pub finds_none : place_of s m.subscription table ≡ None → find (is_of s m.subscription) (kept_rows table) ≡ None
  finds_none none = found_kept s m.subscription table ∙ ap (option_map kept_row) (not_found s m.subscription table none)

  pub none_supplied : place_of s m.subscription table ≡ None → kept_rows table ≡ rows_supplied start now s m (kept_rows table)
  none_supplied none = none_moves start s m move table none

  module _ (k : ℕ) (h : Row Course) (here : IsHere s m.subscription table k h) where
    -- its row is found
    pub finds_row : place_of s m.subscription table ≡ Some k → find (is_of s m.subscription) (kept_rows table) ≡ Some (kept_row h)
    finds_row place =
        found_kept s m.subscription table ∙ ap (option_map kept_row) (found_by s m.subscription table k place ∙ here.row)

    -- no part is supplied
    pub same_supplied : is_supplied start m (kept_row h) ≡ false → kept_rows table ≡ rows_supplied start now s m (kept_rows table)
    same_supplied isnt = same_moves start s m move table k h here (row_unsupplied start now m (kept_row h) isnt)

    -- a part is
    pub own_supplied : is_supplied start m (kept_row h) ≡ true
        → kept_rows (with_slot table k (record h.slot { rounds = with_supply h.slot.rounds m.round m.part now })) ≡ rows_supplied start now s m (kept_rows table)
    own_supplied does =
        own_moves start s m move table k h here (numbered start m (kept_row h) does) h.slot refl
        (with_supply h.slot.rounds m.round m.part now) (supply_carried h.slot.rounds m.round m.part now)
