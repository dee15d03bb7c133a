-- A producer holds at most 200 subscriptions, whatever its history.
use Rattle.std.proofs.Common.{◌≡◌, ◌≤◌, ℕ, suc, ◌+◌, max, List, [], ◌∷◌, ◌++◌, length, map, Bool, true, false, not, cond, nat_le, Option, Some, None, Ok, Err, refl, sym, ap, subst, arith}
use Rattle.std.proofs.Common.{append_assoc, append-nil}
use Rattle.std.specs.Prelude.{◌==◌, nat_lt, option_map, find}
use Rattle.std.proofs.lemmas.Bool.{leb-false}
use Rattle.std.proofs.lemmas.List.{length-map}
use Rattle.siri_messages.specs.Asked.{AskedFor, asked_in}
use Rattle.siri_messages.specs.declared.message.Message.{Message}
use Rattle.siri_messages.specs.declared.message.Message.TheVariants as message
use Rattle.siri_messages.specs.declared.supplies.Mark.{Mark as MarkOf}
use Rattle.siri_life.specs.Named.{Name}
use Rattle.siri_subs.specs.declared.entry.Row.{Row}
use Rattle.siri_subs.specs.declared.errors.Accepted.TheVariants as accepted_as
use Rattle.siri_subs.specs.declared.errors.AcceptError.TheVariants as refused_as
use Rattle.siri_subs.specs.Table.{accepted, after, answer_of, ended, is_ended_by, is_of, is_terminated, most_subscriptions, number_of, put, without}
use Rattle.siri_model.specs.History.{History, State, Step, Start, Clock, Feed, Take, Settle, state_of}
use Rattle.siri_model.specs.Lives.{mark_of, table_of}
use Rattle.siri_model.specs.Rows.{KeptLife, acknowledged_row, new_row, renewed_row, rows_acknowledged, rows_after, rows_asked, rows_ended, rows_of, rows_supplied, rows_taken, settled_row}
use Rattle.siri_model.specs.Rows.{supplied_row, with_row_of}
use Rattle.siri_model.proofs.Histories.{rows_go_on}
use Rattle.siri_keeping.proofs.Feeding.{few_passing}

abbrev Rows : Type 0
Rows = List (Row KeptLife)

abbrev AreFew : Rows → Type 0
AreFew rows = length rows ≤ most_subscriptions

-- ---- a request

abbrev names : Row KeptLife → Row KeptLife → Bool
names row other = is_of row.wanted.subscriber row.wanted.identifier other

-- a row takes the place of its subscription's, or is one more
longer_by : (row other : Row KeptLife) (rows : Rows) (b : Bool) → length (put row rows) ≤ length rows + 1
    → length (cond b (row ∷ rows) (other ∷ put row rows)) ≤ suc (length rows) + 1
longer_by row other rows true rest = omega arith
longer_by row other rows false rest = omega (arith, rest)

longer : (row : Row KeptLife) (rows : Rows) → length (put row rows) ≤ length rows + 1
longer row [] = omega arith
longer row (other ∷ rows) = longer_by row other rows (names row other) (longer row rows)

same_long : (row : Row KeptLife) (rows : Rows) (held : ℕ) → number_of row.wanted.subscriber row.wanted.identifier rows ≡ Some held
    → length (put row rows) ≡ length rows
same_long row [] held is = cc is
same_long row (other ∷ rows) held is = by (names row other) (same_long row rows held) is
  where
    by : (b : Bool) → (number_of row.wanted.subscriber row.wanted.identifier rows ≡ Some held → length (put row rows) ≡ length rows)
        → option_map (λ (r : Row KeptLife). r.number) (cond b (Some other) (find (names row) rows)) ≡ Some held
        → length (cond b (row ∷ rows) (other ∷ put row rows)) ≡ suc (length rows)
    by true rest e = refl
    by false rest e = ap suc (rest e)

module _ (row : Row KeptLife) (rows : Rows) (few : AreFew rows) where
  abbrev held : Option ℕ
  held = number_of row.wanted.subscriber row.wanted.identifier rows

  few_held : (over full : Bool) (n : ℕ) → held ≡ Some n → AreFew (after (answer_of over full row.number (Some n)) row rows)
  few_held over full n is = by over (n == row.number) (nat_lt row.number n)
    where
      put_few : AreFew (put row rows)
      put_few = omega (arith, same_long row rows n is, few)

      by : (over same less : Bool) → AreFew (after (cond same (Ok accepted_as.Again) (cond over (Err refused_as.PastTermination)
          (cond less (Err (refused_as.Superseded n)) (Ok accepted_as.Renewed)))) row rows)
      by over true less = few
      by true false less = few
      by false false true = few
      by false false false = put_few

  few_new : (over full : Bool) → nat_le most_subscriptions (length rows) ≡ full → AreFew (after (answer_of over full row.number None) row rows)
  few_new true full is = few
  few_new false true is = few
  few_new false false is =
      let room = leb-false most_subscriptions (length rows) is in
      omega (arith, longer row rows, room)

  few_by : (over : Bool) (o : Option ℕ) → held ≡ o → AreFew (after (answer_of over (nat_le most_subscriptions (length rows)) row.number o) row rows)
  few_by over (Some n) is = few_held over (nat_le most_subscriptions (length rows)) n is
  few_by over None is = few_new over (nat_le most_subscriptions (length rows)) refl

few_accepted : (now : ℕ) (row : Row KeptLife) (rows : Rows) → AreFew rows → AreFew (accepted now row rows)
few_accepted now row rows few = few_by row rows few (is_terminated now row) (number_of row.wanted.subscriber row.wanted.identifier rows) refl

few_asked : (now number : ℕ) (asked : List AskedFor) (rows : Rows) → AreFew rows → AreFew (rows_asked now number asked rows)
few_asked now number [] rows few = few
few_asked now number (a ∷ asked) rows few =
    few_asked now number asked (accepted now (new_row now number a) rows) (few_accepted now (new_row now number a) rows few)

-- ---- the other messages

few_ended_by : (subscriber identifier : Name) (rows : Rows) (b : Bool) → AreFew rows → AreFew (cond b (without subscriber identifier rows) rows)
few_ended_by subscriber identifier rows true few = omega (arith, few_passing (λ (row : Row KeptLife). not (is_of subscriber identifier row)) rows, few)
few_ended_by subscriber identifier rows false few = few

few_ended : (number : ℕ) (subscriber : Name) (identifiers : List Name) (rows : Rows) → AreFew rows → AreFew (rows_ended number subscriber identifiers rows)
few_ended number subscriber [] rows few = few
few_ended number subscriber (identifier ∷ identifiers) rows few =
    few_ended number subscriber identifiers (ended number subscriber identifier rows)
    (few_ended_by subscriber identifier rows (is_ended_by number subscriber identifier rows) few)

few_mapped : (change : Row KeptLife → Row KeptLife) (rows : Rows) → AreFew rows → AreFew (map change rows)
few_mapped change rows few = subst (λ n. n ≤ most_subscriptions) (sym (length-map rows change)) few

few_with : (subscriber identifier : Name) (change : Row KeptLife → Row KeptLife) (rows : Rows) → AreFew rows → AreFew (with_row_of subscriber identifier change rows)
few_with subscriber identifier change rows few = few_mapped (λ row. cond (is_of subscriber identifier row) (change row) row) rows few

few_acknowledged : (start now : ℕ) (status : Bool) (consumer : Option Name) (mark : Option MarkOf) (rows : Rows) → AreFew rows
    → AreFew (rows_acknowledged start now status consumer mark rows)
few_acknowledged start now true (Some consumer) (Some mark) rows few = few_with consumer mark.subscription (acknowledged_row start now (mark_of mark)) rows few
few_acknowledged start now true (Some consumer) None rows few = few
few_acknowledged start now true None mark rows few = few
few_acknowledged start now false consumer mark rows few = few

few_supplied : (start now : ℕ) (all_data : Bool) (consumer : Name) (mark : MarkOf) (rows : Rows) → AreFew rows
    → AreFew (rows_supplied start now all_data consumer mark rows)
few_supplied start now true consumer mark rows few = few_with consumer mark.subscription (renewed_row now mark.number mark.round) rows few
few_supplied start now false consumer mark rows few = few_with consumer mark.subscription (supplied_row start now (mark_of mark)) rows few

few_taken : (start now : ℕ) (m : Message) (rows : Rows) → AreFew rows → AreFew (rows_taken start now m rows)
unfolding rows_taken
few_taken start now (message.SubscriptionRequest r) rows few = few_asked now r.message_identifier (asked_in r) rows few
few_taken start now (message.TerminateSubscriptionRequest r) rows few = few_ended r.message_identifier r.subscriber_ref r.subscription_ref rows few
few_taken start now (message.DataReceivedAcknowledgement a) rows few = few_acknowledged start now a.status a.consumer_ref a.extensions rows few
few_taken start now (message.DataSupplyRequest r) rows few = few_supplied start now r.all_data r.consumer_ref r.extensions rows few
few_taken start now other rows few = few

-- ---- a step, and a history

few_after : (state : State) (step : Step) (rows : Rows) → AreFew rows → AreFew (rows_after state step rows)
unfolding rows_after
few_after state (Start number moment) rows few = omega arith
few_after state (Clock moment) rows few = omega (arith, few_passing (λ (row : Row KeptLife). not (is_terminated (max state.now moment) row)) rows, few)
few_after state (Feed entries) rows few = few
few_after state (Take m) rows few = few_taken state.start state.now m rows few
few_after state Settle rows few = few_mapped (settled_row state.now state.current) rows few

few_from : (h steps : History) → AreFew (rows_of (table_of h)) → AreFew (rows_of (table_of (h ++ steps)))
few_from h [] few = subst (λ g. AreFew (rows_of (table_of g))) (sym (append-nil h)) few
few_from h (step ∷ steps) few =
    subst (λ g. AreFew (rows_of (table_of g))) (append_assoc h (step ∷ []) steps)
    (few_from (h ++ step ∷ []) steps (subst AreFew (sym (rows_go_on h step)) (few_after (state_of h) step (rows_of (table_of h)) few)))

pub few_rows : (h : History) → length (rows_of (table_of h)) ≤ most_subscriptions
few_rows h = few_from [] h (omega arith)
