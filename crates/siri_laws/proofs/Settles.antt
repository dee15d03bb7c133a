-- Right after a settle nothing is due.
use Rattle.std.proofs.Common.{◌≡◌, ℕ, suc, zero, ◌+◌, ℤ, pos, negsuc, List, [], ◌∷◌, ◌++◌, map, fold, Bool, true, false, cond, Option, Some}
use Rattle.std.proofs.Common.{None, refl, ap, ◌∙◌, arith}
use Rattle.std.specs.Prelude.{◌&&◌, int_lt}
use Rattle.std.proofs.lemmas.Bool.{lt-leb, lt-ltb}
use Rattle.siri_records.specs.Keyed.{Items}
use Rattle.siri_change.specs.Parts.{Carried}
use Rattle.siri_messages.specs.Asked.{AskedFor}
use Rattle.siri_subs.specs.Beats as status
use Rattle.siri_life.specs.Life.{Outstanding, is_due, resend_interval}
use Rattle.siri_life.specs.Slot.{Slot, is_message_due, opens_round}
use Rattle.siri_subs.specs.declared.entry.Row.{Row}
use Rattle.siri_model.specs.Direct.{direct_to}
use Rattle.siri_model.specs.History.{History, State, Settle, nothing, after_step, state_of, current}
use Rattle.siri_model.specs.Lives.{table_of}
use Rattle.siri_model.specs.Meaning.{meaning}
use Rattle.siri_model.specs.Rows.{KeptLife, asked_of, looked, sent_if_due, is_heartbeat_due, settled_row, rows_of, rows_after}
use Rattle.siri_model.proofs.Histories.{rows_go_on}
use Rattle.siri_subscriptions.specs.Sends.{At, row_sends, table_sends}
use Rattle.siri_producer.specs.Sends.{sends}

-- ---- the message of the wanted part

sent_is_not_due : (now : ℕ) → is_due (Some now) now ≡ false
sent_is_not_due now = lt-leb (now + resend_interval) now (omega arith)

module _ (asked : AskedFor) (direct : Items) (now : ℕ) where
  -- none is outstanding, and a round opens or none does
  level_is_quiet : (s : Slot Items Carried) (opens : Bool) → opens_round meaning None s asked direct ≡ opens
      → is_message_due (looked asked direct now (sent_if_due now (looked asked direct now (record s { outstanding = None })))) now ≡ false
  level_is_quiet s true is = rw is (sent_is_not_due now)
  level_is_quiet s false is = rw (is, is) refl

  -- one is outstanding, and a message of it is due or none is
  outstanding_is_quiet : (s : Slot Items Carried) (o : Outstanding Items Carried) (due : Bool) → is_due o.last_sent now ≡ due
      → is_message_due (looked asked direct now (sent_if_due now (looked asked direct now (record s { outstanding = Some o })))) now ≡ false
  outstanding_is_quiet s o true is = rw is (sent_is_not_due now)
  outstanding_is_quiet s o false is = rw (is, is) refl

  by_outstanding : (s : Slot Items Carried) (o : Option (Outstanding Items Carried))
      → is_message_due (looked asked direct now (sent_if_due now (looked asked direct now (record s { outstanding = o })))) now ≡ false
  by_outstanding s None = level_is_quiet s (opens_round meaning None s asked direct) refl
  by_outstanding s (Some o) = outstanding_is_quiet s o (is_due o.last_sent now) refl

  -- after a look and what was sent then, another look finds nothing to send
  settled_is_quiet : (s : Slot Items Carried) → is_message_due (looked asked direct now (sent_if_due now (looked asked direct now s))) now ≡ false
  settled_is_quiet s = by_outstanding s s.outstanding

-- ---- the heartbeat

and-false : (b : Bool) → (b && false) ≡ false
and-false true = refl
and-false false = refl

-- right after one none is due
beat_is_not_due : (every : ℤ) (now : ℕ) → status.is_due (record { every = every; last = now }) now ≡ false
beat_is_not_due (pos zero) now = refl
beat_is_not_due (pos (suc n)) now = rw (lt-ltb now (now + suc n) (omega arith)) (and-false (int_lt (pos 0) (pos (suc n))))
beat_is_not_due (negsuc n) now = refl

settled_beat : (every : ℤ) (last now : ℕ) (due : Bool) → status.is_due (record { every = every; last = last }) now ≡ due
    → status.is_due (record { every = every; last = cond due now last }) now ≡ false
settled_beat every last now true is = beat_is_not_due every now
settled_beat every last now false is = is

-- ---- rows

row_is_quiet : (at : At) (items : Items) (row : Row KeptLife) → row_sends at items (settled_row at.now items row) ≡ []
row_is_quiet at items row =
    let part = settled_is_quiet (asked_of row) (direct_to at.now items row.wanted.topic) at.now row.slot.rounds in
    let beat = settled_beat row.beat row.slot.last_heartbeat at.now (is_heartbeat_due at.now row) refl in
    rw (part, beat) refl

rows_are_quiet : (at : At) (items : Items) (rows : List (Row KeptLife)) → table_sends at items (map (settled_row at.now items) rows) ≡ []
rows_are_quiet at items [] = refl
rows_are_quiet at items (row ∷ rows) = rw (row_is_quiet at items row) (rows_are_quiet at items rows)

-- ---- histories

state_more : (state : State) (h : History) → fold after_step state (h ++ Settle ∷ []) ≡ fold after_step state h
unfolding after_step
state_more state [] = refl
state_more state (step ∷ h) = state_more (after_step state step) h

-- right after a settle nothing is sent
pub second_settle : (name : List ℕ) (h : History) → sends name (h ++ Settle ∷ []) ≡ []
unfolding sends rows_after
second_settle name h =
    let state : state_of (h ++ Settle ∷ []) ≡ state_of h = state_more nothing h in
    let at : State → At = λ s. record { producer = name; start = s.start; started = s.started; now = s.now } in
    ap (λ (s : State). table_sends (at s) s.current (rows_of (table_of (h ++ Settle ∷ [])))) state
    ∙ (ap (table_sends (at (state_of h)) (current h)) (rows_go_on h Settle)
    ∙ rows_are_quiet (at (state_of h)) (current h) (rows_of (table_of h)))
