-- A table whose slots are mapped answers and changes as the table does.
use Rattle.std.proofs.Common.{◌≡◌, ℕ, suc, ◌+◌, List, [], ◌∷◌, length, Bool, true, false, not, cond, ◌&&◌, Some, None, Ok, Err, Result, refl, ap, ◌∙◌}
use Rattle.std.specs.Prelude.{nat_lt, nat_le}
use Rattle.std.specs.List.{filter, find, position_or_len}
use Rattle.siri_subs.specs.declared.entry.Row.{Row}
use Rattle.siri_subs.specs.declared.errors.Accepted.{Accepted}
use Rattle.siri_subs.specs.declared.errors.Accepted.TheVariants as accepted_as
use Rattle.siri_subs.specs.declared.errors.AcceptError.{AcceptError}
use Rattle.siri_subs.specs.Mapped.{mapped_row, with_mapped_slots}
use Rattle.siri_subs.specs.Table.{most_subscriptions, answer_of, is_above, is_of, number_of, place_of, is_terminated, answer, put, after, accepted}
use Rattle.siri_subs.specs.Table.{without, is_ended_by, ended, expired, renumbered, is_renumbered_by, renumber_answer}

module _ {E F : Type 0} (slot_of : E → F) where
  pub length_mapped : (table : List (Row E)) → length (with_mapped_slots slot_of table) ≡ length table
  length_mapped [] = refl
  length_mapped (h ∷ table) = ap suc (length_mapped table)

  -- rows are kept by a test that doesn't look into slots
  filter_case : (p : Row E → Bool) (q : Row F → Bool) (h : Row E) (table : List (Row E)) (b : Bool) → q (mapped_row slot_of h) ≡ p h → p h ≡ b
      → filter q (with_mapped_slots slot_of table) ≡ with_mapped_slots slot_of (filter p table)
      → filter q (with_mapped_slots slot_of (h ∷ table)) ≡ with_mapped_slots slot_of (filter p (h ∷ table))
  filter_case p q h table true same is rest = rw (same, is) (ap (λ l. mapped_row slot_of h ∷ l) rest)
  filter_case p q h table false same is rest = rw (same, is) rest

  filter_mapped : (p : Row E → Bool) (q : Row F → Bool) → ((h : Row E) → q (mapped_row slot_of h) ≡ p h)
      → (table : List (Row E)) → filter q (with_mapped_slots slot_of table) ≡ with_mapped_slots slot_of (filter p table)
  filter_mapped p q same [] = refl
  filter_mapped p q same (h ∷ table) = filter_case p q h table (p h) (same h) refl (filter_mapped p q same table)

  pub without_mapped : (s i : List ℕ) (table : List (Row E)) → without s i (with_mapped_slots slot_of table) ≡ with_mapped_slots slot_of (without s i table)
  without_mapped s i table = filter_mapped (λ h. not (is_of s i h)) (λ h. not (is_of s i h)) (λ h. refl) table

  pub expired_mapped : (now : ℕ) (table : List (Row E)) → expired now (with_mapped_slots slot_of table) ≡ with_mapped_slots slot_of (expired now table)
  expired_mapped now table = filter_mapped (λ h. not (is_terminated now h)) (λ h. not (is_terminated now h)) (λ h. refl) table

  number_case : (s i : List ℕ) (h : Row E) (table : List (Row E)) (b : Bool) → is_of s i h ≡ b
      → number_of s i (with_mapped_slots slot_of table) ≡ number_of s i table
      → number_of s i (with_mapped_slots slot_of (h ∷ table)) ≡ number_of s i (h ∷ table)
  number_case s i h table true is rest = rw is refl
  number_case s i h table false is rest = rw is rest

  pub number_mapped : (s i : List ℕ) (table : List (Row E)) → number_of s i (with_mapped_slots slot_of table) ≡ number_of s i table
  number_mapped s i [] = refl
  number_mapped s i (h ∷ table) = number_case s i h table (is_of s i h) refl (number_mapped s i table)

  before_mapped : (s i : List ℕ) (table : List (Row E)) → position_or_len (is_of s i) (with_mapped_slots slot_of table) ≡ position_or_len (is_of s i) table
  before_mapped s i [] = refl
  before_mapped s i (h ∷ table) = ap (λ n. cond (not (is_of s i h)) (1 + n) 0) (before_mapped s i table)

  pub place_mapped : (s i : List ℕ) (table : List (Row E)) → place_of s i (with_mapped_slots slot_of table) ≡ place_of s i table
  place_mapped s i table = λ j. cond (nat_lt (before_mapped s i table j) (length_mapped table j)) (Some (before_mapped s i table j)) None

  put_case : (h g : Row E) (table : List (Row E)) (b : Bool) → is_of h.wanted.subscriber h.wanted.identifier g ≡ b
      → put (mapped_row slot_of h) (with_mapped_slots slot_of table) ≡ with_mapped_slots slot_of (put h table)
      → put (mapped_row slot_of h) (with_mapped_slots slot_of (g ∷ table)) ≡ with_mapped_slots slot_of (put h (g ∷ table))
  put_case h g table true is rest = rw is refl
  put_case h g table false is rest = rw is (ap (λ l. mapped_row slot_of g ∷ l) rest)

  pub put_mapped : (h : Row E) (table : List (Row E)) → put (mapped_row slot_of h) (with_mapped_slots slot_of table) ≡ with_mapped_slots slot_of (put h table)
  put_mapped h [] = refl
  put_mapped h (g ∷ table) = put_case h g table (is_of h.wanted.subscriber h.wanted.identifier g) refl (put_mapped h table)

  pub answer_mapped : (now : ℕ) (h : Row E) (table : List (Row E)) → answer now (mapped_row slot_of h) (with_mapped_slots slot_of table) ≡ answer now h table
  answer_mapped now h table =
      λ j. answer_of (is_terminated now h) (nat_le most_subscriptions (length_mapped table j)) h.number (number_mapped h.wanted.subscriber h.wanted.identifier table j)

  after_mapped : (r : Result Accepted AcceptError) (h : Row E) (table : List (Row E))
      → after r (mapped_row slot_of h) (with_mapped_slots slot_of table) ≡ with_mapped_slots slot_of (after r h table)
  after_mapped (Ok accepted_as.New) h table = put_mapped h table
  after_mapped (Ok accepted_as.Renewed) h table = put_mapped h table
  after_mapped (Ok accepted_as.Again) h table = refl
  after_mapped (Err refusal) h table = refl

  pub accepted_mapped : (now : ℕ) (h : Row E) (table : List (Row E))
      → accepted now (mapped_row slot_of h) (with_mapped_slots slot_of table) ≡ with_mapped_slots slot_of
      (accepted now h table)
  accepted_mapped now h table =
      ap (λ r. after r (mapped_row slot_of h) (with_mapped_slots slot_of table)) (answer_mapped now h table) ∙ after_mapped (answer now h table) h table

  pub is_ended_mapped : (number : ℕ) (s i : List ℕ) (table : List (Row E))
      → is_ended_by number s i (with_mapped_slots slot_of table) ≡ is_ended_by number s i table
  is_ended_mapped number s i table = ap (is_above number) (number_mapped s i table)

  ended_case : (b : Bool) (s i : List ℕ) (table : List (Row E))
      → cond b (without s i (with_mapped_slots slot_of table))
      (with_mapped_slots slot_of table) ≡ with_mapped_slots slot_of (cond b (without s i table) table)
  ended_case true s i table = without_mapped s i table
  ended_case false s i table = refl

  pub ended_mapped : (number : ℕ) (s i : List ℕ) (table : List (Row E))
      → ended number s i (with_mapped_slots slot_of table) ≡ with_mapped_slots slot_of (ended number s i table)
  ended_mapped number s i table =
      ap (λ b. cond b (without s i (with_mapped_slots slot_of table)) (with_mapped_slots slot_of table))
      (is_ended_mapped number s i table) ∙ ended_case (is_ended_by number s i table) s i table

  pub renumbered_mapped : (n b : ℕ) (s i : List ℕ) (slot : E) (table : List (Row E)) → renumbered n b s i (slot_of slot) (with_mapped_slots slot_of table)
      ≡ with_mapped_slots slot_of (renumbered n b s i slot table)
  renumbered_mapped n b s i slot [] = refl
  renumbered_mapped n b s i slot (h ∷ table) = λ j. renumbered_case (is_of s i h && is_renumbered_by n b h) h j ∷ renumbered_mapped n b s i slot table j
    where
      renumbered_case : (c : Bool) (h : Row E) → cond c (record (mapped_row slot_of h) { number = n; slot = slot_of slot }) (mapped_row slot_of h)
          ≡ mapped_row slot_of (cond c (record h { number = n; slot = slot }) h)
      renumbered_case true h = refl
      renumbered_case false h = refl

  renumber_case : (n b : ℕ) (s i : List ℕ) (h : Row E) (table : List (Row E)) (c : Bool) → is_of s i h ≡ c
      → renumber_answer n b (find (is_of s i) (with_mapped_slots slot_of table)) ≡ renumber_answer n b (find (is_of s i) table)
      → renumber_answer n b (find (is_of s i) (with_mapped_slots slot_of (h ∷ table))) ≡ renumber_answer n b (find (is_of s i) (h ∷ table))
  renumber_case n b s i h table true is rest = rw is refl
  renumber_case n b s i h table false is rest = rw is rest

  pub renumber_mapped : (n b : ℕ) (s i : List ℕ) (table : List (Row E)) → renumber_answer n b (find (is_of s i) (with_mapped_slots slot_of table)) ≡ renumber_answer n b (find (is_of s i) table)
  renumber_mapped n b s i [] = refl
  renumber_mapped n b s i (h ∷ table) = renumber_case n b s i h table (is_of s i h) refl (renumber_mapped n b s i table)
