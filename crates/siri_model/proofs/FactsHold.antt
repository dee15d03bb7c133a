-- The two facts hold of each subscription of a history that was looked at.
use Rattle.std.proofs.Common.{◌≡◌, ◌⊎◌, ℕ, ℤ, zero, suc, ◌≤◌, ◌==◌, nat_lt, max, List, [], ◌∷◌, length, map, filter, fold, Bool, true, false, cond, not, ◌&&◌, ◌||◌, Option, Some, None, inl}
use Rattle.std.proofs.Common.{inr, refl, sym, ap, ◌∙◌, subst, arith}
use Rattle.std.specs.Prelude.{option_map}
use Rattle.std.specs.List.{list_all}
use Rattle.std.proofs.lemmas.Bool.{ltb-false}
use Rattle.std.proofs.lemmas.List.Elements.{All-nil, All-map, All-weaker}
use Rattle.siri_records.specs.declared.item.Item.{Item}
use Rattle.siri_records.specs.declared.key.Key.{Key}
use Rattle.siri_records.specs.Ends.{is_dead}
use Rattle.siri_records.specs.Near.{is_near}
use Rattle.siri_records.specs.Order.{key_cmp}
use Rattle.siri_records.specs.Keyed.{Items, InOrder, living}
use Rattle.siri_topic.specs.declared.topics.Topic.{Topic}
use Rattle.siri_topic.specs.declared.subscription.Subscription.{Subscription}
use Rattle.siri_messages.specs.Asked.{AskedFor, asked_in}
use Rattle.siri_messages.specs.declared.message.Message.{Message}
use Rattle.siri_messages.specs.declared.message.Message.TheVariants as message
use Rattle.siri_messages.specs.declared.supplies.Mark.{Mark as MarkOf}
use Rattle.siri_change.specs.Changes.{agree_on, keys_of_both, meets}
use Rattle.siri_change.specs.Parts.{Carried}
use Rattle.siri_life.specs.Life.{Mark, Outstanding, greatest_round}
use Rattle.siri_life.specs.Named.{Name}
use Rattle.siri_life.specs.Slot.{Slot, acknowledgement_if, acknowledgement_of, begun, is_message_due, next_if, opens_round, sent_of, supply_if, supply_of}
use Rattle.siri_subs.specs.declared.entry.Row.{Row}
use Rattle.siri_subs.specs.Table.{expired}
use Rattle.siri_model.specs.Facts.{Follows}
use Rattle.siri_model.specs.Followed.{Followed, Look, followed_after, followed_settled, goal_by, goal_of, life_row, lifted}
use Rattle.siri_model.specs.Followed.{keeps_looks, keys_apart, keys_dying, look_at, look_by, opens, rows_taken, touch, touched_look}
use Rattle.siri_model.specs.Steps.{new_row, renewed_row, rows_acknowledged, rows_from, rows_supplied}
use Rattle.siri_model.specs.History.{Entry, IsKeyed, State, Step, Start, Clock, Feed, Take, Settle, History, after_step, entries_fed, nothing}
use Rattle.siri_model.specs.Last.{entry_key}
use Rattle.siri_model.specs.Lives.{mark_of}
use Rattle.siri_model.specs.Rows.{KeptLife, acknowledged_row, asked_of, is_numbered, looked, next_round, sent_if_due, settled_row, supplied_row}
use Rattle.siri_model.specs.Direct.{direct_to}
use Rattle.siri_model.specs.Meaning.{meaning}
use Rattle.siri_model.specs.laws.Followed.{HoldsBy, RowHolds, AllHold, FactsHold}
use Rattle.siri_model.proofs.AllRows.{accepted_all, ended_all, expired_all, one_all, renewed_all}
use Rattle.siri_model.proofs.Current.{keyed_passing, keyed_step, none_keyed}
use Rattle.siri_model.proofs.Entries.{sorted_passing}
use Rattle.siri_model.proofs.Facts.{goal_stays, look_follows}
use Rattle.siri_model.proofs.InOrder.{in_order_step, none_in_order}
use Rattle.siri_model.proofs.Lawful.{direct_live}
use Rattle.siri_model.proofs.Touched.{clock_follows, feed_follows}

-- ---- keys are touched

module _ (now later : ℕ) (held after : Items) (keys : List Key) where
  -- a look of which the facts hold goes on
  abbrev Moves : Type 0
  Moves = (slack : ℤ) (topic : Topic) (goal : Items) (look : Look) → Follows slack topic now held goal look
      → Follows slack topic later after goal (touched_look keys look)

  touched_row : Moves → (row : Row Followed) → RowHolds now held row → RowHolds later after (touch keys row)
  touched_row moves row holds = by row.slot.look holds
    where
      by : (o : Option Look) → HoldsBy now held row.wanted row.slot.life.rounds o
          → HoldsBy later after row.wanted row.slot.life.rounds (option_map (touched_look keys) o)
      by None none = none
      by (Some look) holds = record {
        facts = moves row.wanted.slack row.wanted.topic (goal_of row.slot.life.rounds) look holds.facts;
        used_up = holds.used_up;
        some_opened = holds.some_opened;
      }

  touched_rows : Moves → (rows : List (Row Followed)) → AllHold now held rows
      → AllHold later after (map (touch keys) rows)
  touched_rows moves rows all = All-map (RowHolds later after) (touch keys) rows
      (All-weaker (RowHolds now held) (λ row. RowHolds later after (touch keys row)) (touched_row moves) rows all)

-- ---- a message about subscriptions

-- rounds that lead to the same view, and as many of them
pub record IsAlike (new old : Slot Items Carried) : Type 0 where
  pub goal : goal_of new ≡ goal_of old
  pub opened : new.rounds_opened ≡ old.rounds_opened

-- what changes rounds leaves them so
abbrev KeepsRounds : (Row KeptLife → Row KeptLife) → Type 0
KeepsRounds change = (row : Row KeptLife) → IsAlike (change row).slot.rounds row.slot.rounds

next_opened : (last : Bool) (s : Slot Items Carried) (o : Outstanding Items Carried) (now : ℕ)
    → (next_if last s o now).rounds_opened ≡ s.rounds_opened
next_opened true s o now = refl
next_opened false s o now = refl

acknowledged_if : (wanted : Bool) (s : Slot Items Carried) (o : Outstanding Items Carried) (now : ℕ)
    → (acknowledgement_if wanted s o now).rounds_opened ≡ s.rounds_opened
acknowledged_if true s o now = next_opened (nat_lt (suc o.acknowledged_parts) (length o.round.parts)) s o now
acknowledged_if false s o now = refl

acknowledged_opened : (s : Slot Items Carried) (o : Option (Outstanding Items Carried)) (round part now : ℕ)
    → (acknowledgement_of s o round part now).rounds_opened ≡ s.rounds_opened
acknowledged_opened s None round part now = refl
acknowledged_opened s (Some o) round part now =
    acknowledged_if (round == s.rounds_opened && part == suc o.acknowledged_parts) s o now

supplied_if : (wanted : Bool) (s : Slot Items Carried) (o : Outstanding Items Carried) (now : ℕ)
    → (supply_if wanted s o now).rounds_opened ≡ s.rounds_opened
supplied_if true s o now = refl
supplied_if false s o now = refl

supplied_opened : (s : Slot Items Carried) (o : Option (Outstanding Items Carried)) (round part now : ℕ)
    → (supply_of s o round part now).rounds_opened ≡ s.rounds_opened
supplied_opened s None round part now = refl
supplied_opened s (Some o) round part now =
    supplied_if (s.fetched && (round == s.rounds_opened && part == suc o.acknowledged_parts)) s o now

acknowledged_keeps : (start now : ℕ) (m : Mark) → KeepsRounds (acknowledged_row start now m)
acknowledged_keeps start now m row = by (is_numbered m row.number start) refl
  where
    by : (b : Bool) → is_numbered m row.number start ≡ b
        → IsAlike (acknowledged_row start now m row).slot.rounds row.slot.rounds
    by true e = rw e (record {
      goal = (goal_stays row.slot.rounds m.round m.part now).0;
      opened = acknowledged_opened row.slot.rounds row.slot.rounds.outstanding m.round m.part now;
    })
    by false e = rw e (record { goal = refl; opened = refl })

supplied_keeps : (start now : ℕ) (m : Mark) → KeepsRounds (supplied_row start now m)
supplied_keeps start now m row = by (is_numbered m row.number start) refl
  where
    by : (b : Bool) → is_numbered m row.number start ≡ b
        → IsAlike (supplied_row start now m row).slot.rounds row.slot.rounds
    by true e = rw e (record {
      goal = (goal_stays row.slot.rounds m.round m.part now).1;
      opened = supplied_opened row.slot.rounds row.slot.rounds.outstanding m.round m.part now;
    })
    by false e = rw e (record { goal = refl; opened = refl })

module _ (now : ℕ) (held : Items) where
  -- what leaves the rounds alike leaves what holds
  alike_row : (wanted : Subscription) (rounds new : Slot Items Carried) (o : Option Look) → IsAlike new rounds
      → HoldsBy now held wanted rounds o
      → HoldsBy now held wanted new o
  alike_row wanted rounds new None alike none = alike.opened ∙ none
  alike_row wanted rounds new (Some look) alike holds = record {
    facts = subst (λ (goal : Items). Follows wanted.slack wanted.topic now held goal look) (sym alike.goal) holds.facts;
    used_up = subst (λ n. (look.apart ≡ []) ⊎ (greatest_round ≤ n)) (sym alike.opened) holds.used_up;
    some_opened = subst (λ n. 1 ≤ n) (sym alike.opened) holds.some_opened;
  }

  lifted_row : (change : Row KeptLife → Row KeptLife) → KeepsRounds change → (row : Row Followed)
      → RowHolds now held row → RowHolds now held (lifted change row)
  lifted_row change keeps row holds =
      alike_row row.wanted row.slot.life.rounds (change (life_row row)).slot.rounds row.slot.look
      (keeps (life_row row)) holds

  acknowledged_rows : (start moment : ℕ) (status : Bool) (consumer : Option Name) (mark : Option MarkOf)
      (rows : List (Row Followed))
      → AllHold now held rows → AllHold now held (rows_acknowledged keeps_looks start moment status consumer mark rows)
  acknowledged_rows start moment true (Some consumer) (Some mark) rows all =
      one_all (RowHolds now held) (lifted (acknowledged_row start moment (mark_of mark)))
      (lifted_row (acknowledged_row start moment (mark_of mark)) (acknowledged_keeps start moment (mark_of mark)))
      consumer mark.subscription rows all
  acknowledged_rows start moment true (Some consumer) None rows all = all
  acknowledged_rows start moment true None mark rows all = all
  acknowledged_rows start moment false consumer mark rows all = all

  supplied_rows : (start moment : ℕ) (all : Bool) (consumer : Name) (mark : MarkOf) (rows : List (Row Followed))
      → AllHold now held rows → AllHold now held (rows_supplied keeps_looks start moment all consumer mark rows)
  supplied_rows start moment true consumer mark rows all =
      one_all (RowHolds now held) (renewed_row keeps_looks.begun moment mark.number mark.round)
      (renewed_all (RowHolds now held) keeps_looks.begun moment mark.number mark.round (λ row. refl))
      consumer mark.subscription rows all
  supplied_rows start moment false consumer mark rows all =
      one_all (RowHolds now held) (lifted (supplied_row start moment (mark_of mark)))
      (lifted_row (supplied_row start moment (mark_of mark)) (supplied_keeps start moment (mark_of mark)))
      consumer mark.subscription rows all

  taken_rows : (start moment : ℕ) (m : Message) (rows : List (Row Followed)) → AllHold now held rows
      → AllHold now held (rows_taken start moment m rows)
  unfolding rows_taken
  taken_rows start moment (message.SubscriptionRequest r) rows all =
      accepted_all (RowHolds now held) moment (new_row keeps_looks.begun moment r.message_identifier) (λ wanted. refl)
      (asked_in r) rows all
  taken_rows start moment (message.TerminateSubscriptionRequest r) rows all =
      ended_all (RowHolds now held) r.message_identifier r.subscriber_ref r.subscription_ref rows all
  taken_rows start moment (message.DataReceivedAcknowledgement a) rows all =
      acknowledged_rows start moment a.status a.consumer_ref a.extensions rows all
  taken_rows start moment (message.DataSupplyRequest r) rows all =
      supplied_rows start moment r.all_data r.consumer_ref r.extensions rows all
  taken_rows start moment other rows all = all

-- ---- a settle

living_in_order : (now : ℕ) (items : Items) → InOrder items → InOrder (living now items)
living_in_order now items s = sorted_passing key_cmp (λ (item : Item). not (is_dead item now)) items s

-- a message that is sent leaves the rounds alike
sent_alike : (b : Bool) (s : Slot Items Carried) (o : Option (Outstanding Items Carried)) (now : ℕ) → s.outstanding ≡ o
    → IsAlike (cond b (sent_of s o now) s) s
sent_alike true s None now is = record { goal = refl; opened = refl }
sent_alike true s (Some o) now is = record { goal = ap (goal_by s.acknowledged) (sym is); opened = refl }
sent_alike false s o now is = record { goal = refl; opened = refl }

due_alike : (s : Slot Items Carried) (now : ℕ) → IsAlike (sent_if_due now s) s
due_alike s now = sent_alike (is_message_due s now) s s.outstanding now refl

-- while a round is outstanding no other opens
looked_stays : (asked : AskedFor) (direct : Items) (now : ℕ) (s : Slot Items Carried) (o : Outstanding Items Carried)
    → s.outstanding ≡ Some o
    → looked asked direct now s ≡ s
looked_stays asked direct now s o is =
    ap (λ u. cond (opens_round meaning u s asked direct) (begun s (next_round asked direct now s)) s) is

outstanding_alike : (now : ℕ) (items : Items) (row : Row KeptLife) (o : Outstanding Items Carried)
    → row.slot.rounds.outstanding ≡ Some o
    → IsAlike (settled_row now items row).slot.rounds row.slot.rounds
outstanding_alike now items row o is =
    let rounds = row.slot.rounds in
    let stays = looked_stays (asked_of row) (direct_to now items row.wanted.topic) now rounds o is in
    subst (λ (s : Slot Items Carried). IsAlike (sent_if_due now s) rounds) (sym stays) (due_alike rounds now)

-- where a view meets a direct response no key is apart
none_apart : (p : Key → Bool) (keys : List Key) → list_all p keys ≡ true → filter (λ key. not (p key)) keys ≡ []
none_apart p [] all = refl
none_apart p (key ∷ keys) all = by (p key) refl all (none_apart p keys)
  where
    by : (b : Bool) → p key ≡ b → (b && list_all p keys) ≡ true
        → (list_all p keys ≡ true → filter (λ key. not (p key)) keys ≡ [])
        → filter (λ key. not (p key)) (key ∷ keys) ≡ []
    by true is all rest = rw is (rest all)
    by false is all rest = absurd (cc)

-- where no round opens, the numbers of rounds are used up, or the view meets the direct response
not_opened : (less none meets : Bool) → (less && (none || not meets)) ≡ false → (less ≡ false) ⊎ (meets ≡ true)
not_opened false none meets closed = inl refl
not_opened true none true closed = inr refl
not_opened true true false closed = absurd (cc)
not_opened true false false closed = absurd (cc)

-- where no round opens, it isn't the first
not_first : (n : ℕ) (meets : Bool) → (nat_lt n greatest_round && (n == 0 || not meets)) ≡ false → 1 ≤ n
not_first zero meets closed = absurd (cc closed)
not_first (suc n) meets closed = omega arith

module _ (now : ℕ) (items : Items) (row : Row KeptLife) (level : row.slot.rounds.outstanding ≡ None) where
  abbrev direct : Items
  direct = direct_to now items row.wanted.topic

  abbrev rounds : Slot Items Carried
  rounds = row.slot.rounds

  -- what is kept apart, and how many rounds were opened, by whether one opens
  used_closed : opens direct row ≡ false
      → (keys_apart row.wanted.slack rounds.acknowledged direct ≡ []) ⊎ (greatest_round ≤ rounds.rounds_opened)
  used_closed closed = by (not_opened (nat_lt rounds.rounds_opened greatest_round) (rounds.rounds_opened == 0)
      (meets row.wanted.slack rounds.acknowledged direct)
      (sym (ap (λ u. opens_round meaning u rounds (asked_of row) direct) level) ∙ closed))
    where
      by : (nat_lt rounds.rounds_opened greatest_round ≡ false)
          ⊎ (meets row.wanted.slack rounds.acknowledged direct ≡ true)
          → (keys_apart row.wanted.slack rounds.acknowledged direct ≡ []) ⊎ (greatest_round ≤ rounds.rounds_opened)
      by (inl over) = inr (ltb-false rounds.rounds_opened greatest_round over)
      by (inr all) =
          inl (none_apart (agree_on (is_near row.wanted.slack) rounds.acknowledged direct)
          (keys_of_both rounds.acknowledged direct) all)

  used_up : (b : Bool) → opens direct row ≡ b
      → ((look_at now items row).apart ≡ []) ⊎ (greatest_round ≤ (settled_row now items row).slot.rounds.rounds_opened)
  used_up true e = inl (rw e refl)
  used_up false e = by (used_closed e)
    where
      same : (settled_row now items row).slot.rounds.rounds_opened ≡ rounds.rounds_opened
      same = (due_alike (looked (asked_of row) direct now rounds) now).opened
          ∙ ap (λ b. (cond b (begun rounds (next_round (asked_of row) direct now rounds)) rounds).rounds_opened) e

      by : (keys_apart row.wanted.slack rounds.acknowledged direct ≡ []) ⊎ (greatest_round ≤ rounds.rounds_opened)
          → ((look_at now items row).apart ≡ [])
          ⊎ (greatest_round ≤ (settled_row now items row).slot.rounds.rounds_opened)
      by (inl none) = inl (rw e none)
      by (inr over) = inr (subst (λ n. greatest_round ≤ n) (sym same) over)

  -- a round was opened, at this look or at an earlier one
  some_opened : (b : Bool) → opens direct row ≡ b → 1 ≤ (settled_row now items row).slot.rounds.rounds_opened
  some_opened b e = subst (λ n. 1 ≤ n) (sym same) (by b e)
    where
      same : (settled_row now items row).slot.rounds.rounds_opened
          ≡ (cond b (begun rounds (next_round (asked_of row) direct now rounds)) rounds).rounds_opened
      same = (due_alike (looked (asked_of row) direct now rounds) now).opened
          ∙ ap (λ b. (cond b (begun rounds (next_round (asked_of row) direct now rounds)) rounds).rounds_opened) e

      by : (b : Bool) → opens direct row ≡ b
          → 1 ≤ (cond b (begun rounds (next_round (asked_of row) direct now rounds)) rounds).rounds_opened
      by true e = omega arith
      by false e = not_first rounds.rounds_opened (meets row.wanted.slack rounds.acknowledged direct)
          (sym (ap (λ u. opens_round meaning u rounds (asked_of row) direct) level) ∙ e)

module _ (now : ℕ) (items : Items) where
  -- a look by the current items is one by the live ones
  looks_live : (row : Row KeptLife) → InOrder items → IsKeyed items → row.slot.rounds.outstanding ≡ None
      → Follows row.wanted.slack row.wanted.topic now (living now items)
      (goal_of (settled_row now items row).slot.rounds) (look_at now items row)
  looks_live row s own none =
      rw (← direct_live now items row.wanted.topic)
      (look_follows now (living now items) row (living_in_order now items s)
      (keyed_passing (λ (item : Item). not (is_dead item now)) items own) none)

  settled_one : InOrder items → IsKeyed items → (row : Row Followed) → RowHolds now (living now items) row
      → RowHolds now (living now items) (followed_settled now items row)
  settled_one s own row holds = by row.slot.life.rounds.outstanding refl
    where
      by : (o : Option (Outstanding Items Carried)) → row.slot.life.rounds.outstanding ≡ o
          → HoldsBy now (living now items) row.wanted (settled_row now items (life_row row)).slot.rounds
          (look_by o row.slot.look (look_at now items (life_row row)))
      by None e = record {
        facts = looks_live (life_row row) s own e;
        used_up = used_up now items (life_row row) e (opens (direct_to now items row.wanted.topic) (life_row row)) refl;
        some_opened = some_opened now items (life_row row) e (opens (direct_to now items row.wanted.topic) (life_row row)) refl;
      }
      by (Some o) e = alike_row now (living now items) row.wanted row.slot.life.rounds
          (settled_row now items (life_row row)).slot.rounds row.slot.look
          (outstanding_alike now items (life_row row) o e) holds

  settled_rows : InOrder items → IsKeyed items → (rows : List (Row Followed)) → AllHold now (living now items) rows
      → AllHold now (living now items) (map (followed_settled now items) rows)
  settled_rows s own rows all = All-map (RowHolds now (living now items)) (followed_settled now items) rows
      (All-weaker (RowHolds now (living now items))
      (λ row. RowHolds now (living now items) (followed_settled now items row)) (settled_one s own) rows all)

-- ---- a step

abbrev AllHoldIn : State → List (Row Followed) → Type 0
AllHoldIn state rows = AllHold state.now (living state.now state.current) rows

fed_rows : (state : State) (entries : List Entry) (rows : List (Row Followed)) → InOrder state.current
    → AllHoldIn state rows
    → AllHoldIn (after_step state (Feed entries)) (map (touch (map entry_key entries)) rows)
unfolding after_step
fed_rows state entries rows s all =
    touched_rows state.now state.now (living state.now state.current)
    (living state.now (after_step state (Feed entries)).current) (map entry_key entries)
    (λ slack topic goal look f. feed_follows slack topic state.now state.current goal look entries s f) rows all

hold_after : (state : State) (step : Step) (rows : List (Row Followed)) → InOrder state.current → IsKeyed state.current
    → AllHoldIn state rows → AllHoldIn (after_step state step) (followed_after state step rows)
unfolding after_step followed_after
hold_after state (Start number moment) rows s own all = All-nil (RowHolds moment [])
hold_after state (Clock moment) rows s own all =
    let later = max state.now moment in
    touched_rows state.now later (living state.now state.current) (living later state.current) (keys_dying state moment)
    (λ slack topic goal look f. clock_follows slack topic state.now later state.current goal look (omega arith) s f)
    (expired later rows)
    (expired_all (RowHolds state.now (living state.now state.current)) later rows all)
hold_after state (Feed entries) rows s own all = fed_rows state entries rows s all
hold_after state (Take m) rows s own all =
    fed_rows state (entries_fed m) (rows_taken state.start state.now m rows) s
    (taken_rows state.now (living state.now state.current) state.start state.now m rows all)
hold_after state Settle rows s own all = settled_rows state.now state.current s own rows all

-- ---- histories

hold_from : (state : State) (rows : List (Row Followed)) (steps : History) → InOrder state.current → IsKeyed state.current
    → AllHoldIn state rows
    → AllHoldIn (fold after_step state steps) (rows_from keeps_looks state rows steps)
unfolding followed_after
hold_from state rows [] s own all = all
hold_from state rows (step ∷ steps) s own all =
    hold_from (after_step state step) (followed_after state step rows) steps (in_order_step state step s) (keyed_step state step own)
    (hold_after state step rows s own all)

pub facts_hold : FactsHold
facts_hold h = hold_from nothing [] h none_in_order none_keyed (All-nil (RowHolds 0 []))
