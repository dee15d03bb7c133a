-- What is held of subscriptions beside their rounds, step by step.
use Rattle.std.proofs.Common.{◌≡◌, ℕ, max, List, [], ◌∷◌, ◌++◌, map, Bool, true, false, not, cond, Option, Some, None, refl, sym, ap, ◌∙◌}
use Rattle.std.specs.Prelude.{nat_le}
use Rattle.std.proofs.lemmas.List.Sums.{fold-append}
use Rattle.siri_records.specs.Keyed.{Items}
use Rattle.siri_messages.specs.declared.message.Message.{Message}
use Rattle.siri_messages.specs.declared.message.Message.TheVariants as message
use Rattle.siri_messages.specs.declared.supplies.Mark.{Mark as MarkOf}
use Rattle.siri_life.specs.Life.{Mark}
use Rattle.siri_life.specs.Named.{Name}
use Rattle.siri_subs.specs.declared.entry.Row.{Row}
use Rattle.siri_subs.specs.Table.{expired, is_of}
use Rattle.siri_model.specs.Held.{Held, held_of, helds_of}
use Rattle.siri_model.specs.History.{History, State, Step, Start, Clock, Feed, Take, Settle, after_step, nothing, now_of, state_of}
use Rattle.siri_model.specs.Lives.{mark_of, table_of}
use Rattle.siri_model.specs.Rows.{KeptLife, acknowledged_row, is_numbered, rows_acknowledged, rows_after, rows_of, rows_supplied, rows_taken, settled_row, supplied_row, with_row_of}
use Rattle.siri_model.proofs.Histories.{rows_go_on}
use Rattle.siri_keeping.specs.Subscribed.{is_about_rounds, leaves_held, unexpired}

-- ---- a change of one row that leaves what is held

changed_at : (b : Bool) (change : Row KeptLife → Row KeptLife) (row : Row KeptLife) → held_of (change row) ≡ held_of row
    → held_of (cond b (change row) row) ≡ held_of row
changed_at true change row stays = stays
changed_at false change row stays = refl

with_row_stays : (subscriber identifier : Name) (change : Row KeptLife → Row KeptLife)
    → ((row : Row KeptLife) → held_of (change row) ≡ held_of row)
    → (rows : List (Row KeptLife)) → map held_of (with_row_of subscriber identifier change rows) ≡ map held_of rows
with_row_stays subscriber identifier change stays [] = refl
with_row_stays subscriber identifier change stays (row ∷ rows) = λ i.
    changed_at (is_of subscriber identifier row) change row (stays row) i ∷ with_row_stays subscriber identifier change stays rows i

numbered_at : (b : Bool) (row other : Row KeptLife) → held_of other ≡ held_of row → held_of (cond b other row) ≡ held_of row
numbered_at true row other stays = stays
numbered_at false row other stays = refl

acknowledged_stays : (start now : ℕ) (m : Mark) (row : Row KeptLife) → held_of (acknowledged_row start now m row) ≡ held_of row
acknowledged_stays start now m row = numbered_at (is_numbered m row.number start) row _ refl

supplied_stays : (start now : ℕ) (m : Mark) (row : Row KeptLife) → held_of (supplied_row start now m row) ≡ held_of row
supplied_stays start now m row = numbered_at (is_numbered m row.number start) row _ refl

acknowledgement_stays : (start now : ℕ) (status : Bool) (consumer : Option Name) (mark : Option MarkOf) (rows : List (Row KeptLife))
    → map held_of (rows_acknowledged start now status consumer mark rows) ≡ map held_of rows
acknowledgement_stays start now true (Some consumer) (Some mark) rows =
    with_row_stays consumer mark.subscription (acknowledged_row start now (mark_of mark)) (acknowledged_stays start now (mark_of mark)) rows
acknowledgement_stays start now true (Some consumer) None rows = refl
acknowledgement_stays start now true None mark rows = refl
acknowledgement_stays start now false consumer mark rows = refl

supply_stays : (start now : ℕ) (all_data : Bool) (consumer : Name) (mark : MarkOf) (rows : List (Row KeptLife)) → not all_data ≡ true
    → map held_of (rows_supplied start now all_data consumer mark rows) ≡ map held_of rows
supply_stays start now true consumer mark rows part = cc part
supply_stays start now false consumer mark rows part =
    with_row_stays consumer mark.subscription (supplied_row start now (mark_of mark)) (supplied_stays start now (mark_of mark)) rows

-- ---- a message, and a step

taken_stays : (start now : ℕ) (m : Message) (rows : List (Row KeptLife)) → is_about_rounds m ≡ true
    → map held_of (rows_taken start now m rows) ≡ map held_of rows
unfolding rows_taken
taken_stays start now (message.SubscriptionRequest r) rows about = cc about
taken_stays start now (message.TerminateSubscriptionRequest r) rows about = cc about
taken_stays start now (message.DataReceivedAcknowledgement a) rows about =
    acknowledgement_stays start now a.status a.consumer_ref a.extensions rows
taken_stays start now (message.DataSupplyRequest r) rows about =
    supply_stays start now r.all_data r.consumer_ref r.extensions rows about
taken_stays start now other rows about = refl

settled_stays : (now : ℕ) (items : Items) (rows : List (Row KeptLife)) → map held_of (map (settled_row now items) rows) ≡ map held_of rows
settled_stays now items [] = refl
settled_stays now items (row ∷ rows) = λ i. held_of row ∷ settled_stays now items rows i

after_stays : (state : State) (step : Step) (rows : List (Row KeptLife)) → leaves_held step ≡ true
    → map held_of (rows_after state step rows) ≡ map held_of rows
unfolding rows_after
after_stays state (Start number moment) rows leaves = cc leaves
after_stays state (Clock moment) rows leaves = cc leaves
after_stays state (Feed entries) rows leaves = refl
after_stays state (Take m) rows leaves = taken_stays state.start state.now m rows leaves
after_stays state Settle rows leaves = settled_stays state.now state.current rows

pub helds_stay : (h : History) (step : Step) → leaves_held step ≡ true → helds_of (table_of (h ++ step ∷ [])) ≡ helds_of (table_of h)
helds_stay h step leaves = ap (map held_of) (rows_go_on h step) ∙ after_stays (state_of h) step (rows_of (table_of h)) leaves

-- ---- a moment

unexpired_at : (b : Bool) (row : Row KeptLife) (xs : List (Row KeptLife)) (ys : List Held) → map held_of xs ≡ ys
    → map held_of (cond b (row ∷ xs) xs) ≡ cond b (held_of row ∷ ys) ys
unexpired_at true row xs ys rest = ap (λ l. held_of row ∷ l) rest
unexpired_at false row xs ys rest = rest

unexpired_rows : (now : ℕ) (rows : List (Row KeptLife)) → map held_of (expired now rows) ≡ unexpired now (map held_of rows)
unexpired_rows now [] = refl
unexpired_rows now (row ∷ rows) =
    unexpired_at (not (nat_le row.wanted.termination now)) row (expired now rows) (unexpired now (map held_of rows)) (unexpired_rows now rows)

clock_after : (state : State) (moment : ℕ) (rows : List (Row KeptLife))
    → map held_of (rows_after state (Clock moment) rows) ≡ unexpired (max state.now moment) (map held_of rows)
unfolding rows_after
clock_after state moment rows = unexpired_rows (max state.now moment) rows

pub state_more : (h : History) (step : Step) → state_of (h ++ step ∷ []) ≡ after_step (state_of h) step
state_more h step = fold-append after_step nothing h (step ∷ [])

clocked_now : (state : State) (moment : ℕ) → (after_step state (Clock moment)).now ≡ max state.now moment
unfolding after_step
clocked_now state moment = refl

pub helds_expire : (h : History) (moment : ℕ)
    → helds_of (table_of (h ++ Clock moment ∷ [])) ≡ unexpired (now_of (h ++ Clock moment ∷ [])) (helds_of (table_of h))
helds_expire h moment =
    let now : now_of (h ++ Clock moment ∷ []) ≡ max (now_of h) moment =
    ap (λ (s : State). s.now) (state_more h (Clock moment)) ∙ clocked_now (state_of h) moment in
    ap (map held_of) (rows_go_on h (Clock moment))
    ∙ clock_after (state_of h) moment (rows_of (table_of h))
    ∙ ap (λ n. unexpired n (helds_of (table_of h))) (sym now)
