-- What the steps of a history do to the rows of a producer's table, whatever is kept of a subscription in its row.
use Rattle.std.specs.Prelude.{ℕ, max, List, [], ◌∷◌, map, fold, Bool, true, false, Option, Some, if◌then◌else◌}
use Rattle.std.specs.Map.{keys_of}
use Rattle.siri_records.specs.declared.key.Key.{Key}
use Rattle.siri_records.specs.Keyed.{Items, dead_of, living}
use Rattle.siri_messages.specs.Asked.{AskedFor, asked_in}
use Rattle.siri_messages.specs.declared.message.Message.{Message}
use Rattle.siri_messages.specs.declared.message.Message.TheVariants as message
use Rattle.siri_messages.specs.declared.supplies.Mark.{Mark as MarkOf}
use Rattle.siri_life.specs.Life.{Mark}
use Rattle.siri_life.specs.Named.{Name}
use Rattle.siri_subs.specs.declared.entry.Row.{Row}
use Rattle.siri_subs.specs.Table.{is_of, accepted, ended, expired, is_renumbered_by}
use Rattle.siri_model.specs.History.{State, Step, Start, Clock, Feed, Take, Settle, History, after_step, entries_fed}
use Rattle.siri_model.specs.Last.{entry_key}
use Rattle.siri_model.specs.Lives.{mark_of}

-- ---- a row

module _ {E : Type 0} where
  -- the row of what was asked for under a number, by the SubscriptionRequest whose number is the base
  abbrev pub row_with : (number base : ℕ) → AskedFor → E → Row E
  row_with number base asked kept = record {
    wanted = asked.subscription;
    number = number;
    base = base;
    address = asked.address;
    beat = asked.beat;
    slot = kept;
  }

  -- what a row's request asked for
  abbrev pub asked_of : Row E → AskedFor
  asked_of row = record { subscription = row.wanted; address = row.address; beat = row.beat }

  -- the rows with the one of a subscription changed
  abbrev pub with_row_of : Name → Name → (Row E → Row E) → List (Row E) → List (Row E)
  with_row_of subscriber identifier change rows = map (λ row. if is_of subscriber identifier row then change row else row) rows

-- ---- requests about subscriptions, by what is kept where a subscription begins: at a moment, of what is asked for

module _ {E : Type 0} (begun : ℕ → AskedFor → E) where
  -- the row of a subscription that is accepted
  abbrev pub new_row : (now number : ℕ) → AskedFor → Row E
  new_row now number asked = row_with number number asked (begun now asked)

  -- after requests for subscriptions under a number, one after the other
  abbrev pub rows_asked : (now number : ℕ) → List AskedFor → List (Row E) → List (Row E)
  rows_asked now number asked rows = fold (λ rows wanted. accepted now (new_row now number wanted) rows) rows asked

  -- after a request for all of the acceptance with a base, under a number: where that renews it, it begins anew
  abbrev pub renewed_row : (now number base : ℕ) → Row E → Row E
  renewed_row now number base row =
      if is_renumbered_by number base row then record row { number = number; slot = begun now (asked_of row) } else row

-- after terminations under a number, one after the other
abbrev pub rows_ended : {E : Type 0} → ℕ → Name → List Name → List (Row E) → List (Row E)
rows_ended number subscriber identifiers rows = fold (λ rows identifier. ended number subscriber identifier rows) rows identifiers

-- ---- all steps

-- what is kept of a subscription where it begins; what an acknowledgement of a part and a request to supply it do to a row, in
-- a start at a moment; what a settle does to it, by the current items at a moment; and what it is to the rows that keys are
-- touched: that an entry names them, or that their current items become dead
pub record Keeps (E : Type 0) : Type 0 where
  pub begun : ℕ → AskedFor → E
  pub acknowledged : (start now : ℕ) → Mark → Row E → Row E
  pub supplied : (start now : ℕ) → Mark → Row E → Row E
  pub settled : (now : ℕ) → Items → Row E → Row E
  pub touched : List Key → List (Row E) → List (Row E)

-- the keys whose item is dead at a later moment, and wasn't before
abbrev pub keys_dying : State → ℕ → List Key
keys_dying state moment = keys_of (dead_of (max state.now moment) (living state.now state.current))

module _ {E : Type 0} (keeps : Keeps E) where
  -- after a DataReceivedAcknowledgement
  abbrev pub rows_acknowledged : (start now : ℕ) → Bool → Option Name → Option MarkOf → List (Row E) → List (Row E)
  rows_acknowledged start now true (Some consumer) (Some mark) rows =
      with_row_of consumer mark.subscription (keeps.acknowledged start now (mark_of mark)) rows
  rows_acknowledged start now status consumer mark rows = rows

  -- after a DataSupplyRequest, with AllData or without
  abbrev pub rows_supplied : (start now : ℕ) → (all_data : Bool) → Name → MarkOf → List (Row E) → List (Row E)
  rows_supplied start now true consumer mark rows =
      with_row_of consumer mark.subscription (renewed_row keeps.begun now mark.number mark.round) rows
  rows_supplied start now false consumer mark rows =
      with_row_of consumer mark.subscription (keeps.supplied start now (mark_of mark)) rows

  -- after a message that is taken, in a start at a moment
  unfoldable pub rows_taken : (start now : ℕ) → Message → List (Row E) → List (Row E)
  rows_taken start now (message.SubscriptionRequest r) rows = rows_asked keeps.begun now r.message_identifier (asked_in r) rows
  rows_taken start now (message.TerminateSubscriptionRequest r) rows = rows_ended r.message_identifier r.subscriber_ref r.subscription_ref rows
  rows_taken start now (message.DataReceivedAcknowledgement a) rows = rows_acknowledged start now a.status a.consumer_ref a.extensions rows
  rows_taken start now (message.DataSupplyRequest r) rows = rows_supplied start now r.all_data r.consumer_ref r.extensions rows
  rows_taken start now other rows = rows

  -- after a step, by what was known before it
  unfoldable pub rows_after : State → Step → List (Row E) → List (Row E)
  rows_after state (Start number moment) rows = []
  rows_after state (Clock moment) rows = keeps.touched (keys_dying state moment) (expired (max state.now moment) rows)
  rows_after state (Feed entries) rows = keeps.touched (map entry_key entries) rows
  rows_after state (Take m) rows = keeps.touched (map entry_key (entries_fed m)) (rows_taken state.start state.now m rows)
  rows_after state Settle rows = map (keeps.settled state.now state.current) rows

  -- after the steps of a history, one after the other
  abbrev pub rows_from : State → List (Row E) → History → List (Row E)
  rows_from state rows [] = rows
  rows_from state rows (step ∷ steps) = rows_from (after_step state step) (rows_after state step rows) steps
