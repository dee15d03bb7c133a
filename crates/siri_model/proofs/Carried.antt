-- Where what is kept of each subscription is made of what is kept of it elsewhere, step by step it stays so.
use Rattle.std.proofs.Common.{◌≡◌, ℕ, max, List, [], ◌∷◌, map, Bool, true, false, cond, Option, Some, None, refl, ap, sym, ◌∙◌}
use Rattle.siri_records.specs.declared.key.Key.{Key}
use Rattle.siri_records.specs.Keyed.{Items}
use Rattle.siri_messages.specs.Asked.{AskedFor, asked_in}
use Rattle.siri_messages.specs.declared.message.Message.{Message}
use Rattle.siri_messages.specs.declared.message.Message.TheVariants as message
use Rattle.siri_messages.specs.declared.supplies.Mark.{Mark as MarkOf}
use Rattle.siri_life.specs.Life.{Mark}
use Rattle.siri_life.specs.Named.{Name}
use Rattle.siri_subs.specs.declared.entry.Row.{Row}
use Rattle.siri_subs.specs.Mapped.{mapped_row, with_mapped_slots}
use Rattle.siri_subs.specs.Table.{is_of, accepted, ended, expired, is_renumbered_by}
use Rattle.siri_subs.proofs.Mapped.{expired_mapped, accepted_mapped, ended_mapped}
use Rattle.siri_model.specs.History.{State, Step, Start, Clock, Feed, Take, Settle, History, after_step, entries_fed}
use Rattle.siri_model.specs.Last.{entry_key}
use Rattle.siri_model.specs.Lives.{mark_of}
use Rattle.siri_model.specs.Steps.{Keeps, asked_of, keys_dying, new_row, renewed_row, rows_acknowledged, rows_after, rows_asked, rows_ended}
use Rattle.siri_model.specs.Steps.{rows_from, rows_supplied, rows_taken, with_row_of}

-- ---- requests about subscriptions, where what begins is made of what begins

module _ {E F : Type 0} (f : E → F) where
  -- a change of a row, and what it is to the row that is made of it
  abbrev pub CarriesChange : (Row E → Row E) → (Row F → Row F) → Type 0
  CarriesChange from to = (row : Row E) → mapped_row f (from row) ≡ to (mapped_row f row)

  one_case : (from : Row E → Row E) (to : Row F → Row F) → CarriesChange from to → (b : Bool) (row : Row E)
      → mapped_row f (cond b (from row) row) ≡ cond b (to (mapped_row f row)) (mapped_row f row)
  one_case from to carries true row = carries row
  one_case from to carries false row = refl

  pub one_carried : (from : Row E → Row E) (to : Row F → Row F) → CarriesChange from to → (subscriber identifier : Name)
      → (rows : List (Row E))
      → with_mapped_slots f (with_row_of subscriber identifier from rows)
      ≡ with_row_of subscriber identifier to (with_mapped_slots f rows)
  one_carried from to carries subscriber identifier [] = refl
  one_carried from to carries subscriber identifier (row ∷ rows) = λ i.
      one_case from to carries (is_of subscriber identifier row) row i
      ∷ one_carried from to carries subscriber identifier rows i

  pub each_carried : (from : Row E → Row E) (to : Row F → Row F) → CarriesChange from to → (rows : List (Row E))
      → with_mapped_slots f (map from rows) ≡ map to (with_mapped_slots f rows)
  each_carried from to carries [] = refl
  each_carried from to carries (row ∷ rows) = λ i. carries row i ∷ each_carried from to carries rows i

  pub ended_carried : (number : ℕ) (subscriber : Name) (identifiers : List Name) (rows : List (Row E))
      → with_mapped_slots f (rows_ended number subscriber identifiers rows)
      ≡ rows_ended number subscriber identifiers (with_mapped_slots f rows)
  ended_carried number subscriber [] rows = refl
  ended_carried number subscriber (identifier ∷ identifiers) rows =
      ended_carried number subscriber identifiers (ended number subscriber identifier rows)
      ∙ ap (rows_ended number subscriber identifiers) (sym (ended_mapped f number subscriber identifier rows))

  module _ (from : ℕ → AskedFor → E) (to : ℕ → AskedFor → F)
      (carries : (now : ℕ) (asked : AskedFor) → f (from now asked) ≡ to now asked) where
    new_carried : (now number : ℕ) (wanted : AskedFor)
        → mapped_row f (new_row from now number wanted) ≡ new_row to now number wanted
    new_carried now number wanted = λ i. record (new_row to now number wanted) { slot = carries now wanted i }

    pub asked_carried : (now number : ℕ) (asked : List AskedFor) (rows : List (Row E))
        → with_mapped_slots f (rows_asked from now number asked rows)
        ≡ rows_asked to now number asked (with_mapped_slots f rows)
    asked_carried now number [] rows = refl
    asked_carried now number (wanted ∷ asked) rows =
        asked_carried now number asked (accepted now (new_row from now number wanted) rows)
        ∙ ap (rows_asked to now number asked) (sym (accepted_mapped f now (new_row from now number wanted) rows)
        ∙ ap (λ row. accepted now row (with_mapped_slots f rows)) (new_carried now number wanted))

    renewed_case : (b : Bool) (now number : ℕ) (row : Row E)
        → mapped_row f (cond b (record row { number = number; slot = from now (asked_of row) }) row)
        ≡ cond b (record (mapped_row f row) { number = number; slot = to now (asked_of row) }) (mapped_row f row)
    renewed_case true now number row = λ i. record (mapped_row f row) { number = number; slot = carries now (asked_of row) i }
    renewed_case false now number row = refl

    pub renewed_carried : (now number base : ℕ) → CarriesChange (renewed_row from now number base) (renewed_row to now number base)
    renewed_carried now number base row = renewed_case (is_renumbered_by number base row) now number row

-- ---- all steps

-- each move of what is kept is that of what it is made of
pub record Carries {E F : Type 0} (f : E → F) (from : Keeps E) (to : Keeps F) : Type 0 where
  pub begun : (now : ℕ) (asked : AskedFor) → f (from.begun now asked) ≡ to.begun now asked
  pub acknowledged : (start now : ℕ) (m : Mark) → CarriesChange f (from.acknowledged start now m) (to.acknowledged start now m)
  pub supplied : (start now : ℕ) (m : Mark) → CarriesChange f (from.supplied start now m) (to.supplied start now m)
  pub settled : (now : ℕ) (items : Items) → CarriesChange f (from.settled now items) (to.settled now items)
  pub touched : (keys : List Key) (rows : List (Row E))
      → with_mapped_slots f (from.touched keys rows) ≡ to.touched keys (with_mapped_slots f rows)

module _ {E F : Type 0} (f : E → F) (from : Keeps E) (to : Keeps F) (carries : Carries f from to) where
  acknowledged_carried : (start now : ℕ) (status : Bool) (consumer : Option Name) (mark : Option MarkOf)
      (rows : List (Row E))
      → with_mapped_slots f (rows_acknowledged from start now status consumer mark rows)
      ≡ rows_acknowledged to start now status consumer mark (with_mapped_slots f rows)
  acknowledged_carried start now true (Some consumer) (Some mark) rows =
      one_carried f (from.acknowledged start now (mark_of mark)) (to.acknowledged start now (mark_of mark))
      (carries.acknowledged start now (mark_of mark)) consumer mark.subscription rows
  acknowledged_carried start now true (Some consumer) None rows = refl
  acknowledged_carried start now true None mark rows = refl
  acknowledged_carried start now false consumer mark rows = refl

  supplied_carried : (start now : ℕ) (all : Bool) (consumer : Name) (mark : MarkOf) (rows : List (Row E))
      → with_mapped_slots f (rows_supplied from start now all consumer mark rows)
      ≡ rows_supplied to start now all consumer mark (with_mapped_slots f rows)
  supplied_carried start now true consumer mark rows =
      one_carried f (renewed_row from.begun now mark.number mark.round) (renewed_row to.begun now mark.number mark.round)
      (renewed_carried f from.begun to.begun carries.begun now mark.number mark.round) consumer mark.subscription rows
  supplied_carried start now false consumer mark rows =
      one_carried f (from.supplied start now (mark_of mark)) (to.supplied start now (mark_of mark))
      (carries.supplied start now (mark_of mark)) consumer mark.subscription rows

  pub taken_carried : (start now : ℕ) (m : Message) (rows : List (Row E))
      → with_mapped_slots f (rows_taken from start now m rows) ≡ rows_taken to start now m (with_mapped_slots f rows)
  unfolding rows_taken
  taken_carried start now (message.SubscriptionRequest r) rows =
      asked_carried f from.begun to.begun carries.begun now r.message_identifier (asked_in r) rows
  taken_carried start now (message.TerminateSubscriptionRequest r) rows =
      ended_carried f r.message_identifier r.subscriber_ref r.subscription_ref rows
  taken_carried start now (message.DataReceivedAcknowledgement a) rows =
      acknowledged_carried start now a.status a.consumer_ref a.extensions rows
  taken_carried start now (message.DataSupplyRequest r) rows =
      supplied_carried start now r.all_data r.consumer_ref r.extensions rows
  taken_carried start now other rows = refl

  pub step_carried : (state : State) (step : Step) (rows : List (Row E))
      → with_mapped_slots f (rows_after from state step rows) ≡ rows_after to state step (with_mapped_slots f rows)
  unfolding rows_after
  step_carried state (Start number moment) rows = refl
  step_carried state (Clock moment) rows =
      let later = max state.now moment in
      carries.touched (keys_dying state moment) (expired later rows)
      ∙ ap (to.touched (keys_dying state moment)) (sym (expired_mapped f later rows))
  step_carried state (Feed entries) rows = carries.touched (map entry_key entries) rows
  step_carried state (Take m) rows =
      let keys = map entry_key (entries_fed m) in
      carries.touched keys (rows_taken from state.start state.now m rows)
      ∙ ap (to.touched keys) (taken_carried state.start state.now m rows)
  step_carried state Settle rows =
      each_carried f (from.settled state.now state.current) (to.settled state.now state.current)
      (carries.settled state.now state.current) rows

  pub carried_from : (state : State) (rows : List (Row E)) (steps : History)
      → with_mapped_slots f (rows_from from state rows steps) ≡ rows_from to state (with_mapped_slots f rows) steps
  carried_from state rows [] = refl
  carried_from state rows (step ∷ steps) =
      carried_from (after_step state step) (rows_after from state step rows) steps
      ∙ ap (λ rows. rows_from to (after_step state step) rows steps) (step_carried state step rows)
