-- What an answer that is lent rests on: a request is forgotten by what follows it, a settle changes no item, and it
-- leaves the part that was just supplied.
use Rattle.std.proofs.Common.{◌≡◌, ℕ, suc, zero, List, [], ◌∷◌, ◌++◌, map, Bool, true, false, cond, not, ◌&&◌, Option}
use Rattle.std.proofs.Common.{None, Some, Result, Ok, Err, slice_get, refl, sym, ap, ◌∙◌, append_assoc}
use Rattle.std.specs.Prelude.{if◌then◌else◌, ◌==◌, find, is_some, option_map, option_and_then}
use Rattle.std.specs.List.{list_all}
use Rattle.std.proofs.lemmas.Bool.{and_parts}
use Rattle.siri_records.specs.declared.item.Service.{Service}
use Rattle.siri_records.specs.declared.item.Service.TheVariants as service
use Rattle.siri_records.specs.Keyed.{Items}
use Rattle.siri_topic.specs.Agreement.{same_name}
use Rattle.siri_topic.specs.declared.topics.Topic.{Topic}
use Rattle.siri_messages.specs.declared.message.Message.{Message}
use Rattle.siri_messages.specs.declared.message.Message.TheVariants as message
use Rattle.siri_messages.specs.declared.requests.ServiceRequest.{ServiceRequest}
use Rattle.siri_messages.specs.declared.supplies.DataSupplyRequest.{DataSupplyRequest}
use Rattle.siri_change.specs.Parts.{Carried}
use Rattle.siri_life.specs.Life.{Mark, Outstanding, sent_at}
use Rattle.siri_life.specs.Named.{Name}
use Rattle.siri_life.specs.Slot.{is_message_due, opens_round, sent, sent_of, supply_if, supply_of, with_supply, begun}
use Rattle.siri_subs.specs.rounds.Wanted.{KeptRounds, WantedPart, wanted_part, wanted_part_of}
use Rattle.siri_subs.specs.declared.rounds.answers.SupplyError.{SupplyError}
use Rattle.siri_subs.specs.declared.rounds.answers.SupplyError.TheVariants as refused_as
use Rattle.siri_subs.specs.declared.entry.Row.{Row}
use Rattle.siri_subs.specs.declared.errors.Accepted.{Accepted}
use Rattle.siri_subs.specs.declared.errors.RenumberError.{RenumberError}
use Rattle.siri_subs.specs.Table.{is_of}
use Rattle.siri_model.specs.Direct.{answer, answering, at_most, direct_to, most_of, response, shown}
use Rattle.siri_model.specs.History.{History, Step, Take, Settle, after_step, current, now_of, start_of}
use Rattle.siri_model.specs.History.{state_of}
use Rattle.siri_model.specs.Lives.{is_settle, is_settled, mark_of, table_of}
use Rattle.siri_model.specs.Meaning.{meaning}
use Rattle.siri_model.specs.Rows.{KeptLife, asked_of, is_numbered, looked, next_round, rows_after, rows_of}
use Rattle.siri_model.specs.Rows.{rows_supplied, rows_taken, sent_if_due, settled_row, supplied_row, with_rounds}
use Rattle.siri_model.specs.Rows.{with_row_of}
use Rattle.siri_model.proofs.Current.{last_appended}
use Rattle.siri_model.proofs.Histories.{rows_go_on}
use Rattle.siri_model.proofs.InOrder.{more_steps}
use Rattle.siri_subscriptions.specs.replies.Parts.{part_delivery, refused_supply}
use Rattle.siri_responder.proofs.Stands.{stands_alike}
use Rattle.siri_subscriptions.specs.Acknowledgements.{names_wanted}
use Rattle.siri_subscriptions.specs.Sends.{table_sends}
use Rattle.siri_subscriptions.specs.Renewals.{renew_answer}
use Rattle.siri_subscriptions.specs.declared.supplies.SupplyAnswer.{SupplyAnswer}
use Rattle.siri_subscriptions.specs.Supplies.{not_supplied, supplied, supply_answer, supply_by, supply_in}
use Rattle.siri_producer.specs.Answers.{answer_to, renew_note, supply_answer_to, supply_note}
use Rattle.siri_producer.specs.declared.answers.Answer.{Answer}
use Rattle.siri_producer.specs.Known.{Known, StandsFor}
use Rattle.siri_producer.specs.Lent.{OwnPart, has_all, head_of, if_it_has_all, is_lent, lent_topic, own_part, part_in}
use Rattle.siri_producer.specs.Lent.{supplied_by, topics_of}
use Rattle.siri_producer.specs.Sends.{sends}
use Rattle.siri_producer.specs.declared.lending.Supplied.{Supplied}
use Rattle.siri_producer.specs.declared.lending.Supplied.TheVariants as told

-- ---- a step of which nothing is known after it

-- two steps one after the other
two_steps : (h : History) (a b : Step) → (h ++ a ∷ []) ++ b ∷ [] ≡ h ++ a ∷ b ∷ []
two_steps h a b = append_assoc h (a ∷ []) (b ∷ [])

state_settled : (h : History) → state_of (h ++ Settle ∷ []) ≡ state_of h
unfolding after_step
state_settled h = more_steps h Settle

state_asked : (h : History) (r : ServiceRequest) → state_of (h ++ Take (message.ServiceRequest r) ∷ []) ≡ state_of h
unfolding after_step
state_asked h r = more_steps h (Take (message.ServiceRequest r))

rows_asked : (h : History) (r : ServiceRequest)
    → rows_of (table_of (h ++ Take (message.ServiceRequest r) ∷ [])) ≡ rows_of (table_of h)
unfolding rows_after rows_taken
rows_asked h r = rows_go_on h (Take (message.ServiceRequest r))

-- ---- a request is forgotten

-- what is sent at a settle is the same
pub sends_asked : (name : List ℕ) (h : History) (r : ServiceRequest)
    → sends name h ≡ sends name (h ++ Take (message.ServiceRequest r) ∷ [])
unfolding sends
sends_asked name h r =
    let state = sym (state_asked h r) in
    let rows = sym (rows_asked h r) in
    λ i. table_sends (record {
      producer = name;
      start = (state i).start;
      started = (state i).started;
      now = (state i).now;
    }) (state i).current (rows i)

module _ (h : History) (r : ServiceRequest) where
  abbrev pub with_request : History
  with_request = h ++ Take (message.ServiceRequest r) ∷ Settle ∷ []

  -- the last of these two steps is the settle
  settle_last : (h ++ Take (message.ServiceRequest r) ∷ []) ++ Settle ∷ [] ≡ with_request
  settle_last = two_steps h (Take (message.ServiceRequest r)) Settle

  pub state_forgets : state_of with_request ≡ state_of h
  state_forgets =
      ap state_of (sym settle_last)
      ∙ state_settled (h ++ Take (message.ServiceRequest r) ∷ [])
      ∙ state_asked h r

  rows_forget : rows_of (table_of (h ++ Settle ∷ [])) ≡ rows_of (table_of with_request)
  rows_forget =
      rows_go_on h Settle
      ∙ (λ i. rows_after (sym (state_asked h r) i) Settle (sym (rows_asked h r) i))
      ∙ sym (rows_go_on (h ++ Take (message.ServiceRequest r) ∷ []) Settle)
      ∙ ap (λ (h : History). rows_of (table_of h)) settle_last

  settled_forgets : is_settled (h ++ Settle ∷ []) ≡ is_settled with_request
  settled_forgets =
      ap is_settle (last_appended None h Settle)
      ∙ sym (ap is_settle (last_appended None (h ++ Take (message.ServiceRequest r) ∷ []) Settle))
      ∙ ap is_settled settle_last

  -- after the settle a producer that wasn't told of the request stands for the history that has it
  pub request_forgotten : (known : Known) → StandsFor known (h ++ Settle ∷ []) → StandsFor known with_request
  request_forgotten known s = record {
    responder = stands_alike known.responder (h ++ Settle ∷ []) with_request (state_forgets ∙ sym (state_settled h))
        s.responder;
    table = s.table ∙ rows_forget;
    settled = s.settled ∙ settled_forgets;
  }

-- ---- a settle changes no item

-- with the request of which the producer isn't told, too
pub response_forgets : (h : History) (name : List ℕ) (r : ServiceRequest)
    → response name (now_of (with_request h r)) (current (with_request h r)) r
    ≡ response name (now_of h) (current h) r
response_forgets h name r = λ i. response name (state_forgets h r i).now (state_forgets h r i).current r

-- ---- what is lent of a response

-- the functional delivery that answers a topic that is lent has all items that are shown to it
pub answer_lent : (now : ℕ) (items : Items) (topic : Topic) → has_all topic ≡ true
    → answer now items topic ≡ record (head_of now) { items = map (λ entry. entry.1) (shown now items topic) }
unfolding answer answering
answer_lent now items topic all = by (most_of topic) refl all
  where
    by : (most : Option ℕ) → most_of topic ≡ most → not (is_some most) ≡ true
        → answer now items topic ≡ record (head_of now) { items = map (λ entry. entry.1) (shown now items topic) }
    by None is all = ap (λ most. record (head_of now) {
      items = map (λ entry. entry.1) (at_most most (shown now items topic));
    }) is
    by (Some most) is all = absurd (cc)

all_at : (topics : List Topic) (place : ℕ) → list_all has_all topics ≡ true
    → option_and_then if_it_has_all (slice_get topics place) ≡ slice_get topics place
all_at [] place all = refl
all_at (topic ∷ topics) zero all =
    let parts = and_parts (has_all topic) (list_all has_all topics) all in rw (parts.0) refl
all_at (topic ∷ topics) (suc place) all =
    all_at topics place (and_parts (has_all topic) (list_all has_all topics) all).1

-- where no topic has MaximumStopVisits, each place of a list is lent
pub all_lent : (r : ServiceRequest) (s : Service) (place : ℕ) → is_lent r ≡ true
    → lent_topic r s place ≡ slice_get (topics_of r s) place
all_lent r s place all =
    by s (and_parts (list_all has_all r.stop_monitoring_request)
    (list_all has_all r.estimated_timetable_request
    && (list_all has_all r.vehicle_monitoring_request && list_all has_all r.situation_exchange_request)) all)
  where
    -- of the last three lists
    later : (list_all has_all r.estimated_timetable_request
        && (list_all has_all r.vehicle_monitoring_request && list_all has_all r.situation_exchange_request)) ≡ true
        → (list_all has_all r.estimated_timetable_request ≡ true)
        × ((list_all has_all r.vehicle_monitoring_request ≡ true)
        × (list_all has_all r.situation_exchange_request ≡ true))
    later all =
        let first = and_parts (list_all has_all r.estimated_timetable_request)
        (list_all has_all r.vehicle_monitoring_request && list_all has_all r.situation_exchange_request) all in (
          first.0,
          and_parts (list_all has_all r.vehicle_monitoring_request)
              (list_all has_all r.situation_exchange_request) first.1,
        )

    by : (s : Service) → (list_all has_all r.stop_monitoring_request ≡ true)
        × ((list_all has_all r.estimated_timetable_request
        && (list_all has_all r.vehicle_monitoring_request && list_all has_all r.situation_exchange_request)) ≡ true)
        → lent_topic r s place ≡ slice_get (topics_of r s) place
    by service.Stop parts = all_at r.stop_monitoring_request place parts.0
    by service.Timetable parts = all_at r.estimated_timetable_request place (later parts.1).0
    by service.Vehicle parts = all_at r.vehicle_monitoring_request place (later parts.1).1.0
    by service.Situation parts = all_at r.situation_exchange_request place (later parts.1).1.1

-- ---- a settle leaves the wanted part

-- a message of it was sent
sent_wanted : (s : KeptRounds) (now : ℕ) (o : Option (Outstanding Items Carried)) → s.outstanding ≡ o
    → wanted_part (sent_of s o now) ≡ wanted_part s
sent_wanted s now None is = refl
sent_wanted s now (Some o) is = ap (wanted_part_of s.rounds_opened) (sym is)

sent_if_due_wanted : (now : ℕ) (s : KeptRounds) → wanted_part (sent_if_due now s) ≡ wanted_part s
sent_if_due_wanted now s = by (is_message_due s now)
  where
    by : (b : Bool) → wanted_part (cond b (sent s now) s) ≡ wanted_part s
    by true = sent_wanted s now s.outstanding refl
    by false = refl

-- no round opens where one is outstanding
looked_outstanding : (row : Row KeptLife) (direct : Items) (now : ℕ) (o : Outstanding Items Carried)
    → row.slot.rounds.outstanding ≡ Some o → looked (asked_of row) direct now row.slot.rounds ≡ row.slot.rounds
looked_outstanding row direct now o is =
    let rounds = row.slot.rounds in
    ap (λ (other : Option (Outstanding Items Carried)).
    cond (opens_round meaning other rounds (asked_of row) direct)
    (begun rounds (next_round (asked_of row) direct now rounds)) rounds) is

part_settled : (now : ℕ) (items : Items) (row : Row KeptLife) (o : Outstanding Items Carried)
    → row.slot.rounds.outstanding ≡ Some o → own_part (settled_row now items row) ≡ own_part row
part_settled now items row o is =
    let direct = direct_to now items row.wanted.topic in
    ap (option_map (λ (part : WantedPart). record { number = row.number; wanted = row.wanted; part = part }))
    (sent_if_due_wanted now (looked (asked_of row) direct now row.slot.rounds)
    ∙ ap wanted_part (looked_outstanding row direct now o is))

-- ---- a request for a part leaves it, too

abbrev pub IsOutstanding : Row KeptLife → Type 0
IsOutstanding row = (o : Outstanding Items Carried) × (row.slot.rounds.outstanding ≡ Some o)

pub record Stays (old new : Row KeptLife) : Type 0 where
  pub wanted : new.wanted ≡ old.wanted
  pub part : own_part new ≡ own_part old
  pub outstanding : IsOutstanding old → IsOutstanding new

stays_supplied : (start now : ℕ) (m : Mark) (row : Row KeptLife) → Stays row (supplied_row start now m row)
stays_supplied start now m row = by (is_numbered m row.number start)
  where
    rounds : KeptRounds
    rounds = row.slot.rounds

    of_one : (o : Outstanding Items Carried) → rounds.outstanding ≡ Some o → (b : Bool)
        → Stays row (with_rounds row (supply_if b rounds o now))
    of_one o is true = record {
      wanted = refl;
      part = ap (λ (other : Option (Outstanding Items Carried)).
          option_map (λ (part : WantedPart). record { number = row.number; wanted = row.wanted; part = part })
          (wanted_part_of rounds.rounds_opened other)) (sym is);
      outstanding = λ has. (sent_at o (Some now), refl);
    }
    of_one o is false = record { wanted = refl; part = refl; outstanding = λ has. has }

    of : (o : Option (Outstanding Items Carried)) → rounds.outstanding ≡ o
        → Stays row (with_rounds row (supply_of rounds o m.round m.part now))
    of None is = record { wanted = refl; part = refl; outstanding = λ has. has }
    of (Some o) is = of_one o is
        (rounds.fetched && (m.round == rounds.rounds_opened && m.part == suc o.acknowledged_parts))

    by : (b : Bool) → Stays row (if b then with_rounds row (with_supply rounds m.round m.part now) else row)
    by true = of rounds.outstanding refl
    by false = record { wanted = refl; part = refl; outstanding = λ has. has }

-- ---- the row of a subscription is found again

found_changed : (c s : Name) (change : Row KeptLife → Row KeptLife)
    → ((row : Row KeptLife) → (change row).wanted ≡ row.wanted)
    → (rows : List (Row KeptLife)) → find (is_of c s) (map change rows) ≡ option_map change (find (is_of c s) rows)
found_changed c s change same [] = refl
found_changed c s change same (row ∷ rows) =
    by (is_of c s (change row)) (is_of c s row)
    (λ i. same_name (same row i).subscriber c && same_name (same row i).identifier s)
    (found_changed c s change same rows)
  where
    by : (b b' : Bool) → b ≡ b' → find (is_of c s) (map change rows) ≡ option_map change (find (is_of c s) rows)
        → cond b (Some (change row)) (find (is_of c s) (map change rows))
        ≡ option_map change (cond b' (Some row) (find (is_of c s) rows))
    by true true e rest = refl
    by false false e rest = rest
    by true false e rest = absurd (cc)
    by false true e rest = absurd (cc)

-- its own row is found, changed
found_with_row : (c s : Name) (change : Row KeptLife → Row KeptLife)
    → ((row : Row KeptLife) → (change row).wanted ≡ row.wanted) → (rows : List (Row KeptLife))
    → find (is_of c s) (with_row_of c s change rows) ≡ option_map change (find (is_of c s) rows)
found_with_row c s change same [] = refl
found_with_row c s change same (row ∷ rows) = by (is_of c s row) refl (found_with_row c s change same rows)
  where
    here : (b : Bool) → is_of c s (change row) ≡ b → b ≡ true
        → cond (is_of c s (change row)) (Some (change row)) (find (is_of c s) (with_row_of c s change rows))
        ≡ Some (change row)
    here b is true_b = rw (is ∙ true_b) refl

    by : (b : Bool) → is_of c s row ≡ b
        → find (is_of c s) (with_row_of c s change rows) ≡ option_map change (find (is_of c s) rows)
        → cond (is_of c s (cond b (change row) row)) (Some (cond b (change row) row))
        (find (is_of c s) (with_row_of c s change rows))
        ≡ option_map change (cond b (Some row) (find (is_of c s) rows))
    by true is rest = here (is_of c s row)
        (λ i. same_name (same row i).subscriber c && same_name (same row i).identifier s) is
    by false is rest = rw is rest

-- ---- what a request for a part is told

module _ (h : History) (r : DataSupplyRequest) where
  abbrev pub consumer : Name
  consumer = r.consumer_ref

  abbrev pub subscription : Name
  subscription = r.extensions.subscription

  abbrev pub taken : Message
  taken = message.DataSupplyRequest r

  abbrev pub after_both : History
  after_both = h ++ Take taken ∷ Settle ∷ []

  state_supplied : state_of (h ++ Take taken ∷ []) ≡ state_of h
  unfolding after_step
  state_supplied = more_steps h (Take taken)

  -- of the state nothing changes
  pub state_after_both : state_of after_both ≡ state_of h
  state_after_both =
      ap state_of (sym (two_steps h (Take taken) Settle)) ∙ state_settled (h ++ Take taken ∷ []) ∙ state_supplied

  abbrev supplies : Row KeptLife → Row KeptLife
  supplies = supplied_row (start_of h) (now_of h) (mark_of r.extensions)

  abbrev settles : Row KeptLife → Row KeptLife
  settles = settled_row (now_of h) (current h)

  rows_after_both : r.all_data ≡ false → rows_of (table_of after_both)
      ≡ map settles (with_row_of consumer subscription supplies (rows_of (table_of h)))
  unfolding rows_after rows_taken
  rows_after_both of_part =
      ap (λ (h : History). rows_of (table_of h)) (sym (two_steps h (Take taken) Settle))
      ∙ rows_go_on (h ++ Take taken ∷ []) Settle
      ∙ (λ i. map (settled_row (state_supplied i).now (state_supplied i).current) (rows_go_on h (Take taken) i))
      ∙ ap (λ all. map settles (rows_supplied (start_of h) (now_of h) all consumer r.extensions (rows_of (table_of h))))
      of_part

  found_after : r.all_data ≡ false → find (is_of consumer subscription) (rows_of (table_of after_both))
      ≡ option_map settles (option_map supplies (find (is_of consumer subscription) (rows_of (table_of h))))
  found_after of_part =
      ap (find (is_of consumer subscription)) (rows_after_both of_part)
      ∙ found_changed consumer subscription settles (λ row. refl)
      (with_row_of consumer subscription supplies (rows_of (table_of h)))
      ∙ ap (option_map settles) (found_with_row consumer subscription supplies
      (λ row. (stays_supplied (start_of h) (now_of h) (mark_of r.extensions) row).wanted) (rows_of (table_of h)))

  -- the wanted part of a row that has one stays
  part_after : r.all_data ≡ false → (row : Row KeptLife)
      → find (is_of consumer subscription) (rows_of (table_of h)) ≡ Some row
      → IsOutstanding row → part_in consumer subscription (rows_of (table_of after_both)) ≡ own_part row
  part_after of_part row found has =
      let stays = stays_supplied (start_of h) (now_of h) (mark_of r.extensions) row in
      let still = stays.outstanding has in
      ap (option_and_then own_part)
      (found_after of_part ∙ ap (λ row. option_map settles (option_map supplies row)) found)
      ∙ part_settled (now_of h) (current h) (supplies row) still.0 still.1
      ∙ stays.part

-- a round is outstanding where a part is wanted
outstanding_wanted : (s : KeptRounds) (part : WantedPart) (o : Option (Outstanding Items Carried)) → s.outstanding ≡ o
    → wanted_part s ≡ Some part → (o : Outstanding Items Carried) × (s.outstanding ≡ Some o)
outstanding_wanted s part None is wanted =
    let none : None ≡ Some part = sym (ap (wanted_part_of s.rounds_opened) is) ∙ wanted in absurd (cc none)
outstanding_wanted s part (Some o) is wanted = (o, is)

-- the part that was supplied is the wanted one after the settle, and the reply is its delivery
pub record StaysSupplied (name : List ℕ) (h : History) (r : DataSupplyRequest) : Type 0 where
  pub part : OwnPart
  pub stays : part_in r.consumer_ref r.extensions.subscription (rows_of (table_of (after_both h r))) ≡ Some part
  pub reply : (answer_to name h (message.DataSupplyRequest r)).reply
      ≡ Some (message.ServiceDelivery (part_delivery name part.wanted part.number (start_of h) part.part))

-- a request for a part is never told that it has AllData
pub never_all : (outcome : Result (Unit {0}) SupplyError) → supplied_by (supply_note outcome) ≡ told.AllData → ⊥
never_all (Ok done) is = absurd (cc is)
never_all (Err refused_as.NothingReady) is = absurd (cc is)
never_all (Err (refused_as.WrongPart wanted)) is = absurd (cc is)

-- what is told of an answer
abbrev told_by : SupplyAnswer → Supplied
told_by answer = supplied_by (supply_note answer.outcome)

module _ (name : List ℕ) (h : History) (r : DataSupplyRequest) where
  -- the answer by the row that is found
  abbrev by_row : Option (Row KeptLife) → SupplyAnswer
  by_row row = supply_in name (start_of h) (now_of h) r.extensions row

  abbrev found_row : Option (Row KeptLife)
  found_row = find (is_of r.consumer_ref r.extensions.subscription) (rows_of (table_of h))

  -- the answer by whether it has AllData
  abbrev answer_at : Bool → Answer
  answer_at all = supply_answer_to name (start_of h) (now_of h) all r (rows_of (table_of h))

  answer_is_at : (all : Bool) → r.all_data ≡ all → answer_to name h (message.DataSupplyRequest r) ≡ answer_at all
  unfolding answer_to
  answer_is_at all is = ap answer_at is

  all_told : (outcome : Result Accepted RenumberError) → supplied_by (renew_note outcome) ≡ told.AllData
  all_told (Ok how) = refl
  all_told (Err why) = refl

  -- of one that has it nothing else is told
  pub told_of_all : r.all_data ≡ true
      → supplied_by (answer_to name h (message.DataSupplyRequest r)).note ≡ told.AllData
  told_of_all has =
      ap (λ (answer : Answer). supplied_by answer.note) (answer_is_at true has)
      ∙ all_told (renew_answer name (now_of h) r (rows_of (table_of h))).outcome

  -- what is told of it shows that it is of a part
  is_of_part : (outcome : Supplied) → (told.AllData ≡ outcome → ⊥)
      → supplied_by (answer_to name h (message.DataSupplyRequest r)).note ≡ outcome → r.all_data ≡ false
  is_of_part outcome apart is = by r.all_data refl
    where
      by : (all : Bool) → r.all_data ≡ all → r.all_data ≡ false
      by false has = has
      by true has = absurd (apart (sym (told_of_all has) ∙ is))

  told_is : r.all_data ≡ false
      → supplied_by (answer_to name h (message.DataSupplyRequest r)).note ≡ told_by (by_row found_row)
  unfolding supply_answer
  told_is of_part = ap (λ (answer : Answer). supplied_by answer.note) (answer_is_at false of_part)

  reply_is : r.all_data ≡ false → (answer : SupplyAnswer) → by_row found_row ≡ answer
      → (answer_to name h (message.DataSupplyRequest r)).reply ≡ Some (message.ServiceDelivery answer.delivery)
  unfolding supply_answer
  reply_is of_part answer is =
      ap (λ (answer : Answer). answer.reply) (answer_is_at false of_part)
      ∙ ap (λ (a : SupplyAnswer). Some (message.ServiceDelivery a.delivery)) is

  stays_of : r.all_data ≡ false → supplied_by (answer_to name h (message.DataSupplyRequest r)).note ≡ told.Part
      → StaysSupplied name h r
  stays_of of_part is = of found_row refl (sym (told_is of_part) ∙ is)
    where
      of_row : (row : Row KeptLife) → found_row ≡ Some row → (fetched : Bool) → row.slot.rounds.fetched ≡ fetched
          → (part : Option WantedPart) → wanted_part row.slot.rounds ≡ part
          → (named : Bool) → names_wanted (start_of h) r.extensions row ≡ named
          → told_by (supply_by name (start_of h) (now_of h) row fetched part named) ≡ told.Part
          → StaysSupplied name h r
      of_row row found true f (Some part) p true n is = record {
        part = record { number = row.number; wanted = row.wanted; part = part };
        stays = part_after h r of_part row found
            (outstanding_wanted row.slot.rounds part row.slot.rounds.outstanding refl p)
            ∙ ap (option_map (λ (part : WantedPart).
            record { number = row.number; wanted = row.wanted; part = part })) p;
        reply = reply_is of_part (supplied name (start_of h) row part)
            (ap by_row found ∙ (λ i. supply_by name (start_of h) (now_of h) row (f i) (p i) (n i)));
      }
      of_row row found true f (Some part) p false n is = absurd (cc is)
      of_row row found true f None p named n is = absurd (cc is)
      of_row row found false f part p named n is = absurd (cc is)

      of : (row : Option (Row KeptLife)) → found_row ≡ row → told_by (by_row row) ≡ told.Part → StaysSupplied name h r
      of None found is = absurd (cc is)
      of (Some row) found is = of_row row found row.slot.rounds.fetched refl (wanted_part row.slot.rounds) refl
          (names_wanted (start_of h) r.extensions row) refl is

  pub supplied_stays : supplied_by (answer_to name h (message.DataSupplyRequest r)).note ≡ told.Part
      → StaysSupplied name h r
  supplied_stays is = stays_of (is_of_part told.Part (λ e. cc e) is) is

  refused_of : (why : SupplyError) → r.all_data ≡ false
      → supplied_by (answer_to name h (message.DataSupplyRequest r)).note ≡ supplied_by (supply_note (Err why))
      → (answer_to name h (message.DataSupplyRequest r)).reply
      ≡ Some (message.ServiceDelivery (refused_supply name (now_of h) why))
  refused_of why of_part is = of found_row refl (sym (told_is of_part) ∙ is)
    where
      same : (a b : SupplyError) → supplied_by (supply_note (Err a)) ≡ supplied_by (supply_note (Err b)) → a ≡ b
      same refused_as.NothingReady refused_as.NothingReady is = refl
      same refused_as.NothingReady (refused_as.WrongPart b) is = absurd (cc is)
      same (refused_as.WrongPart a) refused_as.NothingReady is = absurd (cc is)
      same (refused_as.WrongPart a) (refused_as.WrongPart b) is =
          let places : a ≡ b = cc is in ap refused_as.WrongPart places

      ok_told : (why : SupplyError) → told.Part ≡ supplied_by (supply_note (Err why)) → ⊥
      ok_told refused_as.NothingReady is = absurd (cc is)
      ok_told (refused_as.WrongPart wanted) is = absurd (cc is)

      of_other : (other : SupplyError) → by_row found_row ≡ not_supplied name (now_of h) other
          → supplied_by (supply_note (Err other)) ≡ supplied_by (supply_note (Err why))
          → (answer_to name h (message.DataSupplyRequest r)).reply
          ≡ Some (message.ServiceDelivery (refused_supply name (now_of h) why))
      of_other other answer is =
          reply_is of_part (not_supplied name (now_of h) why)
          (answer ∙ ap (not_supplied name (now_of h)) (same other why is))

      of_row : (row : Row KeptLife) → found_row ≡ Some row → (fetched : Bool) → row.slot.rounds.fetched ≡ fetched
          → (part : Option WantedPart) → wanted_part row.slot.rounds ≡ part
          → (named : Bool) → names_wanted (start_of h) r.extensions row ≡ named
          → told_by (supply_by name (start_of h) (now_of h) row fetched part named)
          ≡ supplied_by (supply_note (Err why))
          → (answer_to name h (message.DataSupplyRequest r)).reply
          ≡ Some (message.ServiceDelivery (refused_supply name (now_of h) why))
      of_row row found true f (Some part) p true n is = absurd (ok_told why is)
      of_row row found true f (Some part) p false n is = of_other (refused_as.WrongPart part.place)
          (ap by_row found ∙ (λ i. supply_by name (start_of h) (now_of h) row (f i) (p i) (n i))) is
      of_row row found true f None p named n is = of_other refused_as.NothingReady
          (ap by_row found ∙ (λ i. supply_by name (start_of h) (now_of h) row (f i) (p i) (n i))) is
      of_row row found false f part p named n is = of_other refused_as.NothingReady
          (ap by_row found ∙ (λ i. supply_by name (start_of h) (now_of h) row (f i) (p i) (n i))) is

      of : (row : Option (Row KeptLife)) → found_row ≡ row → told_by (by_row row) ≡ supplied_by (supply_note (Err why))
          → (answer_to name h (message.DataSupplyRequest r)).reply
          ≡ Some (message.ServiceDelivery (refused_supply name (now_of h) why))
      of None found is = of_other refused_as.NothingReady (ap by_row found) is
      of (Some row) found is = of_row row found row.slot.rounds.fetched refl (wanted_part row.slot.rounds) refl
          (names_wanted (start_of h) r.extensions row) refl is

  -- where no part is supplied, the reply says why
  pub refused_reply : (why : SupplyError)
      → supplied_by (answer_to name h (message.DataSupplyRequest r)).note ≡ supplied_by (supply_note (Err why))
      → (answer_to name h (message.DataSupplyRequest r)).reply
      ≡ Some (message.ServiceDelivery (refused_supply name (now_of h) why))
  refused_reply why is = refused_of why (is_of_part (supplied_by (supply_note (Err why))) (apart why) is) is
    where
      apart : (why : SupplyError) → told.AllData ≡ supplied_by (supply_note (Err why)) → ⊥
      apart refused_as.NothingReady is = absurd (cc is)
      apart (refused_as.WrongPart wanted) is = absurd (cc is)
