-- What a later moment changes of what is kept.
use Rattle.std.proofs.Common.{◌≡◌, ◌≤◌, ℕ, max, List, [], ◌∷◌, ◌++◌, length, map, Bool, true, false, not, refl, sym, ap, ◌∙◌, subst, arith}
use Rattle.std.specs.List.{AllByRecursion as All, filter}
use Rattle.siri_records.specs.Keyed.{living}
use Rattle.siri_subs.specs.declared.entry.Row.{Row}
use Rattle.siri_subs.specs.Table.{expired, is_terminated}
use Rattle.siri_model.specs.Held.{Held, held_of}
use Rattle.siri_model.specs.History.{Clock, History, State, after_step, current, now_of, state_of}
use Rattle.siri_model.specs.Rows.{KeptLife, rows_after}
use Rattle.siri_model.proofs.InOrder.{live_later}
use Rattle.siri_producer.specs.Known.{Known, StandsFor}
use Rattle.siri_keep.proofs.Alls.{all_filtered, all_mapped, all_unmapped}
use Rattle.siri_keep.proofs.Steps.{held_is, moment_is, start_is, table_is}

filter_at : {X : Type 0} (p : X → Bool) (x : X) (xs : List X) (b : Bool) → p x ≡ b
    → (length (filter p xs) ≤ length xs) × (length xs ≤ length (filter p xs) → filter p xs ≡ xs)
    → (length (filter p (x ∷ xs)) ≤ length (x ∷ xs)) × (length (x ∷ xs) ≤ length (filter p (x ∷ xs)) → filter p (x ∷ xs) ≡ x ∷ xs)
filter_at p x xs true h rest = rw h (omega (arith, rest.0), λ le. ap (λ ys. x ∷ ys) (rest.1 (omega (arith, le))))
filter_at p x xs false h rest = rw h (omega (arith, rest.0), λ le. absurd (omega (arith, le, rest.0)))

filter_within : {X : Type 0} (p : X → Bool) (xs : List X)
    → (length (filter p xs) ≤ length xs) × (length xs ≤ length (filter p xs) → filter p xs ≡ xs)
filter_within p [] = (omega arith, λ le. refl)
filter_within p (x ∷ xs) = filter_at p x xs (p x) refl (filter_within p xs)

-- where none leaves, none changes
pub none_left : (now : ℕ) (rows : List (Row KeptLife)) → length rows ≤ length (expired now rows) → expired now rows ≡ rows
none_left now rows le = (filter_within (λ h. not (is_terminated now h)) rows).1 le

clocked : (state : State) (now : ℕ) → after_step state (Clock now) ≡ record state { now = max state.now now }
unfolding after_step
clocked state now = refl

rows_clocked : (state : State) (now : ℕ) (rows : List (Row KeptLife)) → rows_after state (Clock now) rows ≡ expired (max state.now now) rows
unfolding rows_after
rows_clocked state now rows = refl

later_than : (m n : ℕ) → m ≤ max m n
later_than m n = omega arith

module _ (old new : Known) (h : History) (now : ℕ) (s : StandsFor old h) (t : StandsFor new (h ++ Clock now ∷ [])) where
  abbrev pub later : ℕ
  later = max (state_of h).now now

  pub later_moment : new.responder.moment ≡ later
  later_moment = moment_is old new h (Clock now) s t ∙ ap (λ (x : State). x.now) (clocked (state_of h) now)

  pub start_stays : new.responder.start ≡ old.responder.start
  start_stays = start_is old new h (Clock now) s t ∙ ap (λ (x : State). x.start) (clocked (state_of h) now) ∙ sym s.responder.start

  pub is_later : old.responder.moment ≤ new.responder.moment
  is_later = rw (s.responder.moment, later_moment) (later_than (now_of h) now)

  pub later_held : new.responder.held ≡ living new.responder.moment old.responder.held
  later_held =
      held_is old new h (Clock now) s t
      ∙ ap (λ (x : State). living x.now x.current) (clocked (state_of h) now)
      ∙ sym (live_later (now_of h) later (current h) (later_than (now_of h) now))
      ∙ ap (living later) (sym s.responder.held)
      ∙ ap (λ m. living m old.responder.held) (sym later_moment)

  pub later_rows : new.table ≡ expired later old.table
  later_rows = table_is old new h (Clock now) s t ∙ rows_clocked (state_of h) now old.table

  -- where no fewer are held
  pub same_rows : length old.table ≤ length new.table → new.table ≡ old.table
  same_rows le = later_rows ∙ none_left later old.table (subst (λ rows. length old.table ≤ length rows) later_rows le)

  -- what holds of all that are held holds of those that stay
  pub all_stay : (P : Held → Type 0) → All P (map held_of old.table) → All P (map held_of new.table)
  all_stay P all = subst (λ rows. All P (map held_of rows)) (sym later_rows)
      (all_mapped P held_of (expired later old.table)
      (all_filtered (λ row. P (held_of row)) (λ h. not (is_terminated later h)) old.table (all_unmapped P held_of old.table all)))
