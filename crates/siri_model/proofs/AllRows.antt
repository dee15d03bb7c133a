-- What holds of all rows of a table holds of them after its changes.
use Rattle.std.proofs.Common.{ℕ, List, [], ◌∷◌, fold, Bool, true, false, cond, not, Result, Ok, Err}
use Rattle.std.specs.List.{All}
use Rattle.std.proofs.lemmas.List.Elements.{All-cons, All-head, All-tail, All-filter, All-map, All-weaker}
use Rattle.siri_messages.specs.Asked.{AskedFor}
use Rattle.siri_life.specs.Named.{Name}
use Rattle.siri_subs.specs.declared.entry.Row.{Row}
use Rattle.siri_subs.specs.declared.errors.Accepted.{Accepted}
use Rattle.siri_subs.specs.declared.errors.Accepted.TheVariants as accepted_as
use Rattle.siri_subs.specs.declared.errors.AcceptError.{AcceptError}
use Rattle.siri_subs.specs.Table.{is_of, is_ended_by, is_renumbered_by, is_terminated, accepted, after, answer, ended, expired, put, without}
use Rattle.siri_model.specs.Steps.{asked_of, renewed_row, with_row_of}

module _ {E : Type 0} (P : Row E → Type 0) where
  put_if : (b : Bool) (h g : Row E) (rows : List (Row E)) → P h → P g → All P rows → All P (put h rows)
      → All P (cond b (h ∷ rows) (g ∷ put h rows))
  put_if true h g rows new old all later = All-cons P h rows new all
  put_if false h g rows new old all later = All-cons P g (put h rows) old later

  put_all : (h : Row E) (rows : List (Row E)) → P h → All P rows → All P (put h rows)
  put_all h [] new all = All-cons P h [] new all
  put_all h (g ∷ rows) new all =
      let rest = All-tail P g rows all in
      put_if (is_of h.wanted.subscriber h.wanted.identifier g) h g rows new (All-head P g rows all) rest
      (put_all h rows new rest)

  after_all : (r : Result Accepted AcceptError) (h : Row E) (rows : List (Row E)) → P h → All P rows
      → All P (after r h rows)
  after_all (Ok accepted_as.New) h rows new all = put_all h rows new all
  after_all (Ok accepted_as.Renewed) h rows new all = put_all h rows new all
  after_all (Ok accepted_as.Again) h rows new all = all
  after_all (Err refusal) h rows new all = all

  -- requests for subscriptions, one after the other
  pub accepted_all : {A : Type 0} (now : ℕ) (row : A → Row E) → ((asked : A) → P (row asked))
      → (asked : List A) (rows : List (Row E)) → All P rows
      → All P (fold (λ rows wanted. accepted now (row wanted) rows) rows asked)
  accepted_all now row new [] rows all = all
  accepted_all now row new (wanted ∷ asked) rows all =
      accepted_all now row new asked (accepted now (row wanted) rows)
      (after_all (answer now (row wanted) rows) (row wanted) rows (new wanted) all)

  ended_if : (b : Bool) (subscriber identifier : Name) (rows : List (Row E)) → All P rows
      → All P (cond b (without subscriber identifier rows) rows)
  ended_if true subscriber identifier rows all = All-filter (λ h. not (is_of subscriber identifier h)) P rows all
  ended_if false subscriber identifier rows all = all

  -- terminations, one after the other
  pub ended_all : (number : ℕ) (subscriber : Name) (identifiers : List Name) (rows : List (Row E)) → All P rows
      → All P (fold (λ rows identifier. ended number subscriber identifier rows) rows identifiers)
  ended_all number subscriber [] rows all = all
  ended_all number subscriber (identifier ∷ identifiers) rows all =
      ended_all number subscriber identifiers (ended number subscriber identifier rows)
      (ended_if (is_ended_by number subscriber identifier rows) subscriber identifier rows all)

  -- the row of a subscription is changed
  one_if : (change : Row E → Row E) → ((row : Row E) → P row → P (change row)) → (b : Bool) (row : Row E) → P row
      → P (cond b (change row) row)
  one_if change keeps true row holds = keeps row holds
  one_if change keeps false row holds = holds

  pub one_all : (change : Row E → Row E) → ((row : Row E) → P row → P (change row)) → (subscriber identifier : Name)
      → (rows : List (Row E)) → All P rows → All P (with_row_of subscriber identifier change rows)
  one_all change keeps subscriber identifier rows all =
      All-map P (λ row. cond (is_of subscriber identifier row) (change row) row) rows
      (All-weaker P (λ row. P (cond (is_of subscriber identifier row) (change row) row))
      (λ row holds. one_if change keeps (is_of subscriber identifier row) row holds) rows all)

  -- it begins anew
  pub renewed_all : (begun : ℕ → AskedFor → E) (now number base : ℕ)
      → ((row : Row E) → P (record row { number = number; slot = begun now (asked_of row) }))
      → (row : Row E) → P row → P (renewed_row begun now number base row)
  renewed_all begun now number base new row holds =
      one_if (λ row. record row { number = number; slot = begun now (asked_of row) }) (λ row holds. new row)
      (is_renumbered_by number base row) row holds

  -- a later moment
  pub expired_all : (now : ℕ) (rows : List (Row E)) → All P rows → All P (expired now rows)
  expired_all now rows all = All-filter (λ h. not (is_terminated now h)) P rows all
