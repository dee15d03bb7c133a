-- What a message does that names a part by a mark.
use Rattle.std.proofs.Common.{◌≡◌, ℕ, suc, zero, ◌≢◌, List, [], ◌∷◌, Bool, true, false, Some, None, slice_get, option_map, refl, ap, ◌∙◌, sym}
use Rattle.std.specs.Prelude.{nat_eq, ◌&&◌, if◌then◌else◌}
use Rattle.std.proofs.lemmas.Bool.{eq-eqb, ne_eqb}
use Rattle.siri_messages.specs.declared.supplies.Mark.{Mark}
use Rattle.siri_subs.specs.declared.entry.Row.{Row}
use Rattle.siri_subs.specs.Table.{is_of, place_of, EachOnce}
use Rattle.siri_subs.specs.Loans.{with_slot}
use Rattle.siri_subs.proofs.Placed.{IsFirst, found, none_found}
use Rattle.siri_model.specs.Lives.{mark_of}
use Rattle.siri_model.specs.Rows.{KeptLife, is_numbered, with_rounds, with_row_of}
use Rattle.siri_subs.specs.rounds.Wanted.{KeptRounds, RoundsOfChanges, rounds_carried}
use Rattle.siri_subscriptions.specs.declared.course.Course.{Course}
use Rattle.siri_subscriptions.specs.Courses.{kept, kept_row, kept_rows}
use Rattle.siri_subscriptions.specs.Noted.{looked_in}
use Rattle.siri_subscriptions.proofs.Kept.{unchanged, same_there, changed_there}

-- ---- the row of the subscription that a mark names

-- a row stands at a place, and is the only one of its subscription
pub record IsHere (s i : List ℕ) (table : List (Row Course)) (k : ℕ) (h : Row Course) : Type 0 where
  pub once : EachOnce table
  pub first : IsFirst (is_of s i) table k
  pub row : slice_get table k ≡ Some h

there : (p : Row Course → Bool) (table : List (Row Course)) (k : ℕ) → IsFirst p table k → None ≡ slice_get table k → ⊥
there p [] k first none = absurd first
there p (g ∷ table) zero first none = absurd (cc none)
there p (g ∷ table) (suc k) first none = there p table k first.1 none

-- a row stands at its place
pub row_there : (s i : List ℕ) (table : List (Row Course)) (k : ℕ) → place_of s i table ≡ Some k → None ≡ slice_get table k → ⊥
row_there s i table k place none = there (is_of s i) table k (found (is_of s i) table k place) none

pub here_at : (s i : List ℕ) (table : List (Row Course)) (k : ℕ) (h : Row Course) → EachOnce table
    → place_of s i table ≡ Some k → Some h ≡ slice_get table k → IsHere s i table k h
here_at s i table k h once place row = record { once = once; first = found (is_of s i) table k place; row = sym row }

-- its slot is the one that is lent
pub slot_here : (s i : List ℕ) (table : List (Row Course)) (k : ℕ) (h : Row Course) (slot : Course)
    → IsHere s i table k h → Some slot ≡ option_map (λ (g : Row Course). g.slot) (slice_get table k) → slot ≡ h.slot
slot_here s i table k h slot here lent =
    let both : Some slot ≡ Some h.slot = lent ∙ ap (option_map (λ (g : Row Course). g.slot)) here.row in cc both

looked_with : (table : List (Row Course)) (k : ℕ) (h : Row Course) (slot : Course) → slice_get table k ≡ Some h
    → slot.looked ≡ h.slot.looked → looked_in (with_slot table k slot) ≡ looked_in table
looked_with [] k h slot row same = refl
looked_with (g ∷ table) zero h slot row same =
    let first : g ≡ h = cc row in
    ap (λ looked. looked ∷ looked_in table) (same ∙ sym (ap (λ (r : Row Course). r.slot.looked) first))
looked_with (g ∷ table) (suc k) h slot row same = ap (λ looked. g.slot.looked ∷ looked) (looked_with table k h slot row same)

-- other rounds leave its last look
pub looked_here : (s i : List ℕ) (table : List (Row Course)) (k : ℕ) (h : Row Course) → IsHere s i table k h
    → (was : Course) → was ≡ h.slot → (rounds : RoundsOfChanges) → looked_in (with_slot table k (record was { rounds = rounds })) ≡ looked_in table
looked_here s i table k h here was same rounds =
    looked_with table k h (record was { rounds = rounds }) here.row (ap (λ (course : Course). course.looked) same)

module _ (start : ℕ) (s : List ℕ) (m : Mark) (move : KeptRounds → KeptRounds) where
  -- a row of the mark's number moves, in its start
  abbrev pub moved_row : Row KeptLife → Row KeptLife
  moved_row row = if is_numbered (mark_of m) row.number start then with_rounds row (move row.slot.rounds) else row

  abbrev pub rows_moved : List (Row KeptLife) → List (Row KeptLife)
  rows_moved rows = with_row_of s m.subscription moved_row rows

  module _ (table : List (Row Course)) where
    -- it isn't held
    pub none_moves : place_of s m.subscription table ≡ None → kept_rows table ≡ rows_moved (kept_rows table)
    none_moves none = sym (unchanged s m.subscription moved_row table (none_found (is_of s m.subscription) table none))

    module _ (k : ℕ) (h : Row Course) (here : IsHere s m.subscription table k h) where
      -- it stays the same
      pub same_moves : moved_row (kept_row h) ≡ kept_row h → kept_rows table ≡ rows_moved (kept_rows table)
      same_moves same = sym (same_there s m.subscription moved_row table k h here.once here.first here.row same)

      -- it is held under another number, or the mark is of another start
      pub other_moves : is_numbered (mark_of m) h.number start ≡ false → kept_rows table ≡ rows_moved (kept_rows table)
      other_moves other = same_moves (rw other refl)

      -- it is held under that number, and the mark is of this start
      pub own_moves : is_numbered (mark_of m) h.number start ≡ true → (was : Course) → was ≡ h.slot
          → (rounds : RoundsOfChanges) → rounds_carried rounds ≡ move (rounds_carried was.rounds)
          → kept_rows (with_slot table k (record was { rounds = rounds })) ≡ rows_moved (kept_rows table)
      own_moves own was same rounds new =
          let by_rounds : KeptRounds → KeptLife = λ r. record { rounds = r; last_heartbeat = was.last_heartbeat } in
          let by_course : Course → KeptLife = λ c. record { rounds = move (rounds_carried c.rounds); last_heartbeat = c.last_heartbeat } in
          let slot : kept (record was { rounds = rounds }) ≡ by_course h.slot = ap by_rounds new ∙ ap by_course same in
          changed_there s m.subscription moved_row (record was { rounds = rounds }) table k h here.once here.first here.row
          (rw own (λ j. record (kept_row h) { slot = slot j }))

-- ---- what the tests of a mark say

pub is_own : (m : Mark) (number start : ℕ) → m.number ≡ number → m.start ≡ start → is_numbered (mark_of m) number start ≡ true
is_own m number start same_number same_start = rw (eq-eqb m.number number same_number, eq-eqb m.start start same_start) refl

pub other_number : (m : Mark) (number start : ℕ) → m.number ≢ number → is_numbered (mark_of m) number start ≡ false
other_number m number start other = rw (ne_eqb m.number number other) refl

pub other_start : (m : Mark) (number start : ℕ) → m.start ≢ start → is_numbered (mark_of m) number start ≡ false
other_start m number start other = by (nat_eq m.number number)
  where
    by : (b : Bool) → (b && nat_eq m.start start) ≡ false
    by true = ne_eqb m.start start other
    by false = refl
