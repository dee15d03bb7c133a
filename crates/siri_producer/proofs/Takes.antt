-- What a message makes of a producer, and what it answers.
use Rattle.std.proofs.Common.{◌≡◌, ℕ, List, [], ◌∷◌, ◌++◌, length, map, Bool, true, false, not, None, Result, Ok, Err, IfOk, refl, sym, ap, ◌∙◌, subst}
use Rattle.std.proofs.Math.Seq.{take-length}
use Rattle.siri_base.specs.declared.errors.OutOfMemory.{OutOfMemory}
use Rattle.siri_messages.specs.Asked.{asked_in}
use Rattle.siri_messages.specs.Rounds.{has_round}
use Rattle.siri_messages.specs.declared.deliveries.ServiceDelivery.{ServiceDelivery}
use Rattle.siri_messages.specs.declared.message.Message.{Message}
use Rattle.siri_messages.specs.declared.message.Message.TheVariants as message
use Rattle.siri_messages.specs.declared.requests.ServiceRequest.{ServiceRequest}
use Rattle.siri_messages.specs.declared.statuses.CheckStatusRequest.{CheckStatusRequest}
use Rattle.siri_messages.specs.declared.statuses.CheckStatusResponse.{CheckStatusResponse}
use Rattle.siri_messages.specs.declared.subscriptions.SubscriptionRequest.{SubscriptionRequest}
use Rattle.siri_messages.specs.declared.subscriptions.SubscriptionResponse.{SubscriptionResponse}
use Rattle.siri_messages.specs.declared.supplies.DataReceivedAcknowledgement.{DataReceivedAcknowledgement}
use Rattle.siri_messages.specs.declared.supplies.DataSupplyRequest.{DataSupplyRequest}
use Rattle.siri_messages.specs.declared.terminations.TerminateSubscriptionRequest.{TerminateSubscriptionRequest}
use Rattle.siri_messages.specs.declared.terminations.TerminateSubscriptionResponse.{TerminateSubscriptionResponse}
use Rattle.siri_subs.specs.declared.entry.Row.{Row}
use Rattle.siri_model.specs.Fed.{counts_of}
use Rattle.siri_model.specs.Followed as followed
use Rattle.siri_model.specs.Followed.{Followed, followed_after}
use Rattle.siri_model.specs.Last.{entry_key}
use Rattle.siri_model.specs.History.{Entry, Feed, Take, History, State, after_step, entries_fed, entries_of, state_of, start_of, now_of, current}
use Rattle.siri_model.specs.Lives.{is_settle, table_of}
use Rattle.siri_model.specs.Rows as taken
use Rattle.siri_model.specs.Rows.{KeptLife, rows_of, rows_after, rows_acknowledged, rows_asked, rows_ended, rows_taken}
use Rattle.siri_model.proofs.Current.{last_appended}
use Rattle.siri_model.proofs.FollowedRows.{go_on}
use Rattle.siri_model.proofs.Histories.{rows_go_on}
use Rattle.siri_model.proofs.InOrder.{more_steps}
use Rattle.siri_subscriptions.specs.replies.Statuses.{status_response}
use Rattle.siri_responder.specs.declared.feeding.Fed.{Fed}
use Rattle.siri_responder.specs.FedCounts.{fed_counts}
use Rattle.siri_responder.specs.Known as responder
use Rattle.siri_subscriptions.specs.declared.course.Course.{Course}
use Rattle.siri_subscriptions.specs.Courses.{kept_rows}
use Rattle.siri_subscriptions.specs.Looked.{followed_rows}
use Rattle.siri_subscriptions.specs.Noted.{looked_in, noted_asked, noted_ended, noted_renewed, noted_rows}
use Rattle.siri_subscriptions.specs.declared.supplies.SupplyAnswer.{SupplyAnswer}
use Rattle.siri_subscriptions.specs.Supplies.{rows_supplied, supply_answer}
use Rattle.siri_subscriptions.specs.declared.renewals.RenewAnswer.{RenewAnswer}
use Rattle.siri_subscriptions.specs.Renewals.{renew_answer, rows_renewed}
use Rattle.siri_subscriptions.specs.Acknowledgements.{counts}
use Rattle.siri_subscriptions.specs.Requests.{subscription_answer}
use Rattle.siri_subscriptions.specs.Terminations.{termination_answer}
use Rattle.siri_producer.specs.declared.answers.Answer.{Answer}
use Rattle.siri_producer.specs.declared.answers.Note.TheVariants as note
use Rattle.siri_producer.specs.Answers.{acknowledged_note, answer_to, fed_reply, is_ignored, noted, renew_reply}
use Rattle.siri_producer.specs.Answers.{replied, supply_answer_to, supply_reply}
use Rattle.siri_model.specs.Remembered.{AreRemembered}
use Rattle.siri_producer.specs.Known.{Known, StandsFor, Follows, GoesOn, TookSome, CountsFor, AnswerFor, RefusedAt, RefusedIf, TakesMessage, looks_of}
use Rattle.siri_producer.specs.Standing.{AreNumbered, IsProducer, known_of}
use Rattle.siri_producer.proofs.Follows.{goes, untouched}
use Rattle.siri_producer.proofs.Noted.{acknowledged_followed, asked_followed, ended_followed, renewed_followed}
use Rattle.siri_producer.proofs.Noted.{supplied_followed}
use Rattle.siri_producer.proofs.Stands.{fed_all, goes_fed, goes_on, is_producer, knows_fed, knows_taken, stands_counted, went}
use Rattle.siri_responder.proofs.Stands.{stands_alike}

-- ---- a message that feeds nothing touches no key

rows_of_message : (state : State) (m : Message) (rows : List (Row Followed)) → entries_fed m ≡ []
    → followed.rows_taken state.start state.now m rows ≡ followed_after state (Take m) rows
unfolding followed_after
rows_of_message state m rows none = sym (
    ap (λ (entries : List Entry). map (followed.touch (map entry_key entries))
    (followed.rows_taken state.start state.now m rows)) none
    ∙ untouched (followed.rows_taken state.start state.now m rows))

module _ (known : responder.Known) (rows : List (Row Course)) (settled : Bool) where
  -- the followed rows after a message about subscriptions
  abbrev FollowTaken : Message → List (Row Course) → Type 0
  FollowTaken m after =
      followed_rows known.marks after ≡ followed.rows_taken known.start known.moment m (followed_rows known.marks rows)

  followed_taken : (m : Message) (after : List (Row Course)) → entries_fed m ≡ [] → FollowTaken m after
      → (h : History) → StandsFor (known_of known rows settled) h
      → followed_rows known.marks after ≡ followed_after (state_of h) (Take m) (followed_rows known.marks rows)
  followed_taken m after none is h s =
      is
      ∙ (λ i. followed.rows_taken (s.responder.start i) (s.responder.moment i) m (followed_rows known.marks rows))
      ∙ rows_of_message (state_of h) m (followed_rows known.marks rows) none

  -- a producer goes on with it
  goes_taken : (m : Message) (after : List (Row Course)) → entries_fed m ≡ [] → FollowTaken m after
      → ((h : History) → StandsFor (known_of known rows settled) h
      → StandsFor (known_of known after false) (h ++ Take m ∷ []))
      → GoesOn (known_of known rows settled) (known_of known after false) (Take m)
  goes_taken m after none is stands =
      goes known known rows after settled false (Take m) stands (followed_taken m after none is)

  -- and is one again
  pub is_taken : (m : Message) (after : List (Row Course)) → ((h : History) × Follows (known_of known rows settled) h)
      → GoesOn (known_of known rows settled) (known_of known after false) (Take m)
      → AreNumbered known.marks.number after
      → IsProducer known after false
  is_taken m after has on numbered = is_producer known after
      (went (known_of known rows settled) (known_of known after false) (Take m) has on) numbered

  -- ---- ServiceRequest
  pub goes_asked : (new : responder.Known) (r : ServiceRequest) → new ≡ record known { reads = new.reads }
      → GoesOn (known_of known rows settled) (known_of new rows false) (Take (message.ServiceRequest r))
  unfolding rows_after rows_taken followed.rows_taken
  goes_asked new r rest =
      let m = message.ServiceRequest r in
      goes known new rows rows settled false (Take m)
      (λ h s. goes_on (known_of known rows settled) (known_of new rows false) h (Take m) s
      (stands_counted known new (h ++ Take m ∷ []) rest (knows_taken known h m refl s.responder)) refl refl)
      (λ h s. ap (λ (k : responder.Known). followed_rows k.marks rows) rest ∙ followed_taken m rows refl refl h s)

  pub is_asked : (new : responder.Known) (r : ServiceRequest) → new ≡ record known { reads = new.reads }
      → IsProducer known rows settled → IsProducer new rows false
  is_asked new r rest is =
      is_producer new rows
      (went (known_of known rows settled) (known_of new rows false) (Take (message.ServiceRequest r)) is.follows
      (goes_asked new r rest))
      (subst (λ (k : responder.Known). AreNumbered k.marks.number rows) (sym rest) is.numbered)

  pub answer_asked : (r : ServiceRequest) (d : ServiceDelivery) → responder.ResponseFor known r d
      → AnswerFor (known_of known rows settled) (message.ServiceRequest r)
      (replied note.Asked (message.ServiceDelivery d))
  unfolding answer_to
  answer_asked r d is = λ h s. ap (λ d. replied note.Asked (message.ServiceDelivery d)) (is h s.responder)

  -- ---- SubscriptionRequest
  pub goes_subscribed : (after : List (Row Course)) (now : ℕ) (r : SubscriptionRequest) → now ≡ known.moment
      → kept_rows after ≡ rows_asked now r.message_identifier (asked_in r) (kept_rows rows)
      → noted_rows after ≡ noted_asked now r.message_identifier (asked_in r) (noted_rows rows)
      → GoesOn (known_of known rows settled) (known_of known after false) (Take (message.SubscriptionRequest r))
  unfolding rows_after rows_taken
  goes_subscribed after now r n is noted =
      let m = message.SubscriptionRequest r in
      let looks = asked_followed known.marks known.start known.moment rows after r
      (noted ∙ ap (λ n. noted_asked n r.message_identifier (asked_in r) (noted_rows rows)) n) in
      goes_taken m after refl looks (λ h s.
      goes_on (known_of known rows settled) (known_of known after false) h (Take m) s
      (knows_taken known h m refl s.responder)
      (is ∙ ap (λ n. rows_asked n r.message_identifier (asked_in r) (kept_rows rows)) (n ∙ s.responder.moment)) refl)

  pub answer_subscribed : (now : ℕ) (r : SubscriptionRequest) (a : SubscriptionResponse) → now ≡ known.moment
      → a ≡ subscription_answer now r (kept_rows rows) → AnswerFor (known_of known rows settled)
      (message.SubscriptionRequest r) (replied note.Subscribed (message.SubscriptionResponse a))
  unfolding answer_to
  answer_subscribed now r a n is = λ h s.
      ap (λ a. replied note.Subscribed (message.SubscriptionResponse a))
      (is ∙ (λ i. subscription_answer ((n ∙ s.responder.moment) i) r (s.table i)))

  -- ---- TerminateSubscriptionRequest
  pub goes_ended : (after : List (Row Course)) (r : TerminateSubscriptionRequest)
      → kept_rows after ≡ rows_ended r.message_identifier r.subscriber_ref r.subscription_ref (kept_rows rows)
      → noted_rows after ≡ noted_ended r.message_identifier r.subscriber_ref r.subscription_ref (noted_rows rows)
      → GoesOn (known_of known rows settled) (known_of known after false)
      (Take (message.TerminateSubscriptionRequest r))
  unfolding rows_after rows_taken
  goes_ended after r is noted =
      let m = message.TerminateSubscriptionRequest r in
      let looks = ended_followed known.marks known.start known.moment rows after r noted in
      goes_taken m after refl looks (λ h s.
      goes_on (known_of known rows settled) (known_of known after false) h (Take m) s
      (knows_taken known h m refl s.responder) is refl)

  pub answer_ended : (now : ℕ) (r : TerminateSubscriptionRequest) (a : TerminateSubscriptionResponse)
      → now ≡ known.moment → a ≡ termination_answer now r (kept_rows rows)
      → AnswerFor (known_of known rows settled) (message.TerminateSubscriptionRequest r)
      (replied note.Ended (message.TerminateSubscriptionResponse a))
  unfolding answer_to
  answer_ended now r a n is = λ h s.
      ap (λ a. replied note.Ended (message.TerminateSubscriptionResponse a))
      (is ∙ (λ i. termination_answer ((n ∙ s.responder.moment) i) r (s.table i)))

  -- ---- DataSupplyRequest
  pub goes_supplied : (after : List (Row Course)) (start now : ℕ) (r : DataSupplyRequest) → r.all_data ≡ false
      → start ≡ known.start → now ≡ known.moment
      → kept_rows after ≡ rows_supplied start now r.consumer_ref r.extensions (kept_rows rows)
      → looked_in after ≡ looked_in rows
      → GoesOn (known_of known rows settled) (known_of known after false) (Take (message.DataSupplyRequest r))
  unfolding rows_after rows_taken
  goes_supplied after start now r part k n is same =
      let m = message.DataSupplyRequest r in
      let looks = supplied_followed known.marks known.start known.moment rows after same r part
      (is ∙ (λ i. rows_supplied (k i) (n i) r.consumer_ref r.extensions (kept_rows rows))) in
      goes_taken m after refl looks (λ h s.
      goes_on (known_of known rows settled) (known_of known after false) h (Take m) s
      (knows_taken known h m refl s.responder)
      (is ∙ (λ i. rows_supplied ((k ∙ s.responder.start) i) ((n ∙ s.responder.moment) i) r.consumer_ref r.extensions
      (kept_rows rows))
      ∙ ap (λ all. taken.rows_supplied (start_of h) (now_of h) all r.consumer_ref r.extensions (kept_rows rows))
      (sym part))
      refl)

  pub answer_supplied : (name : List ℕ) (start now : ℕ) (r : DataSupplyRequest) (a : SupplyAnswer)
      → r.all_data ≡ false → name ≡ known.name
      → start ≡ known.start → now ≡ known.moment → a ≡ supply_answer name start now r (kept_rows rows)
      → AnswerFor (known_of known rows settled) (message.DataSupplyRequest r) (supply_reply a)
  unfolding answer_to
  answer_supplied name start now r a part p k n is = λ h s.
      ap supply_reply (is
      ∙ (λ i. supply_answer (p i) ((k ∙ s.responder.start) i) ((n ∙ s.responder.moment) i) r (s.table i)))
      ∙ ap (λ all. supply_answer_to known.name (start_of h) (now_of h) all r (rows_of (table_of h))) (sym part)

  -- ---- DataSupplyRequest with AllData
  pub goes_renewed : (after : List (Row Course)) (now : ℕ) (r : DataSupplyRequest) → r.all_data ≡ true
      → now ≡ known.moment → kept_rows after ≡ rows_renewed now r.consumer_ref r.extensions (kept_rows rows)
      → noted_rows after ≡ noted_renewed now r.extensions.number r.extensions.round r.consumer_ref
      r.extensions.subscription (noted_rows rows)
      → GoesOn (known_of known rows settled) (known_of known after false) (Take (message.DataSupplyRequest r))
  unfolding rows_after rows_taken
  goes_renewed after now r all n is noted =
      let m = message.DataSupplyRequest r in
      let looks = renewed_followed known.marks known.start known.moment rows after r all
      (noted ∙ ap (λ n. noted_renewed n r.extensions.number r.extensions.round r.consumer_ref r.extensions.subscription
      (noted_rows rows)) n) in
      goes_taken m after refl looks (λ h s.
      goes_on (known_of known rows settled) (known_of known after false) h (Take m) s
      (knows_taken known h m refl s.responder)
      (is ∙ ap (λ n. rows_renewed n r.consumer_ref r.extensions (kept_rows rows)) (n ∙ s.responder.moment)
      ∙ ap (λ all. taken.rows_supplied (start_of h) (now_of h) all r.consumer_ref r.extensions (kept_rows rows))
      (sym all))
      refl)

  pub answer_renewed : (name : List ℕ) (now : ℕ) (r : DataSupplyRequest) (a : RenewAnswer) → r.all_data ≡ true
      → name ≡ known.name → now ≡ known.moment → a ≡ renew_answer name now r (kept_rows rows)
      → AnswerFor (known_of known rows settled) (message.DataSupplyRequest r) (renew_reply a)
  unfolding answer_to
  answer_renewed name now r a all p n is = λ h s.
      ap renew_reply (is ∙ (λ i. renew_answer (p i) ((n ∙ s.responder.moment) i) r (s.table i)))
      ∙ ap (λ all. supply_answer_to known.name (start_of h) (now_of h) all r (rows_of (table_of h))) (sym all)

  -- ---- CheckStatusRequest
  pub goes_checked : (r : CheckStatusRequest)
      → GoesOn (known_of known rows settled) (known_of known rows false) (Take (message.CheckStatusRequest r))
  unfolding rows_after rows_taken followed.rows_taken
  goes_checked r =
      let m = message.CheckStatusRequest r in
      goes_taken m rows refl refl (λ h s.
      goes_on (known_of known rows settled) (known_of known rows false) h (Take m) s
      (knows_taken known h m refl s.responder) refl refl)

  pub answer_checked : (name : List ℕ) (now started : ℕ) (r : CheckStatusRequest) (a : CheckStatusResponse)
      → name ≡ known.name → now ≡ known.moment → started ≡ known.started → a ≡ status_response name now started r
      → AnswerFor (known_of known rows settled) (message.CheckStatusRequest r)
      (replied note.Checked (message.CheckStatusResponse a))
  unfolding answer_to
  answer_checked name now started r a p n k is = λ h s.
      ap (λ a. replied note.Checked (message.CheckStatusResponse a))
      (is ∙ (λ i. status_response (p i) ((n ∙ s.responder.moment) i) ((k ∙ s.responder.started) i) r))

  -- ---- DataReceivedAcknowledgement
  pub goes_acknowledged : (after : List (Row Course)) (start now : ℕ) (a : DataReceivedAcknowledgement)
      → start ≡ known.start → now ≡ known.moment → kept_rows after ≡ rows_acknowledged start now a.status a.consumer_ref
      a.extensions (kept_rows rows) → looked_in after ≡ looked_in rows
      → GoesOn (known_of known rows settled) (known_of known after false) (Take (message.DataReceivedAcknowledgement a))
  unfolding rows_after rows_taken
  goes_acknowledged after start now a k n is same =
      let m = message.DataReceivedAcknowledgement a in
      let looks = acknowledged_followed known.marks known.start known.moment rows after same a
      (is ∙ (λ i. rows_acknowledged (k i) (n i) a.status a.consumer_ref a.extensions (kept_rows rows))) in
      goes_taken m after refl looks (λ h s.
      goes_on (known_of known rows settled) (known_of known after false) h (Take m) s
      (knows_taken known h m refl s.responder)
      (is ∙ (λ i. rows_acknowledged ((k ∙ s.responder.start) i) ((n ∙ s.responder.moment) i) a.status a.consumer_ref
      a.extensions (kept_rows rows))) refl)

  pub answer_acknowledged : (start : ℕ) (a : DataReceivedAcknowledgement) (b : Bool) → start ≡ known.start
      → counts start a (kept_rows rows) ≡ b → AnswerFor (known_of known rows settled)
      (message.DataReceivedAcknowledgement a) (noted (acknowledged_note b))
  unfolding answer_to
  answer_acknowledged start a b k is = λ h s.
      ap (λ b. noted (acknowledged_note b)) (sym is ∙ (λ i. counts ((k ∙ s.responder.start) i) a (s.table i)))

-- ---- memory was wanting

pub refused : (old new : Known) (m : Message) (result : Result Answer OutOfMemory) (error : OutOfMemory)
    → result ≡ Err error
    → RefusedAt old new m → new.responder.name ≡ old.responder.name → TakesMessage old new m result
refused old new m result error is refusal name =
    let at_error : TakesMessage old new m (Err error) = record { ok = tt; answer = tt; err = refusal; name = name } in
    subst (TakesMessage old new m) (sym is) at_error

-- ---- a ServiceDelivery of no round

-- as a feed
stands_taken : (known : Known) (h : History) (d : ServiceDelivery) → has_round d ≡ false
    → StandsFor known (h ++ Feed (entries_of d) ∷ []) → StandsFor known (h ++ Take (message.ServiceDelivery d) ∷ [])
unfolding rows_after rows_taken
stands_taken known h d none s =
    let m = message.ServiceDelivery d in
    let fed = Feed (entries_of d) in
    record {
      responder = knows_fed known.responder h m (rw none s.responder);
      table = s.table ∙ rows_go_on h fed ∙ sym (rows_go_on h (Take m));
      settled = s.settled ∙ ap is_settle (last_appended None h fed)
          ∙ sym (ap is_settle (last_appended None h (Take m)));
    }

followed_taken_fed : (state : State) (d : ServiceDelivery) (rows : List (Row Followed)) → has_round d ≡ false
    → followed_after state (Feed (entries_of d)) rows ≡ followed_after state (Take (message.ServiceDelivery d)) rows
unfolding followed_after followed.rows_taken
followed_taken_fed state d rows none =
    ap (λ (entries : List Entry). map (followed.touch (map entry_key entries)) rows) (sym (fed_all d none))

looks_taken : (h : History) (d : ServiceDelivery) → has_round d ≡ false
    → looks_of (h ++ Feed (entries_of d) ∷ []) ≡ looks_of (h ++ Take (message.ServiceDelivery d) ∷ [])
looks_taken h d none = ap (map (λ row. row.slot.look))
    (go_on h (Feed (entries_of d)) ∙ followed_taken_fed (state_of h) d (followed.followed_of h) none
    ∙ sym (go_on h (Take (message.ServiceDelivery d))))

goes_as_fed : (old new : Known) (d : ServiceDelivery) → has_round d ≡ false → GoesOn old new (Feed (entries_of d))
    → GoesOn old new (Take (message.ServiceDelivery d))
goes_as_fed old new d none on = record {
  stands = λ h s. stands_taken new h d none (on.stands h s);
  follows = λ h f.
      let fed = on.follows h f in
      record {
        stands = stands_taken new h d none fed.stands;
        looks = subst (AreRemembered new.looks) (looks_taken h d none) fed.looks;
      };
}

-- all of it was taken, but the reply wasn't made
pub refused_reply : (old new : Known) (d : ServiceDelivery) → has_round d ≡ false → GoesOn old new (Feed (entries_of d))
    → RefusedAt old new (message.ServiceDelivery d)
refused_reply old new d none on =
    let entries = entries_fed (message.ServiceDelivery d) in
    let all : GoesOn old new (Feed entries) = subst (λ es. GoesOn old new (Feed es)) (sym (fed_all d none)) on in
    let some : TookSome old new entries =
    (length entries, subst (λ es. GoesOn old new (Feed es)) (sym (take-length entries)) all) in
    subst (λ b. RefusedIf (not b) old new (message.ServiceDelivery d)) (sym none) some

now_fed : (h : History) (d : ServiceDelivery) → now_of (h ++ Feed (entries_of d) ∷ []) ≡ now_of h
unfolding after_step
now_fed h d = ap (λ (s : State). s.now) (more_steps h (Feed (entries_of d)))

answer_fed : (old new : Known) (d : ServiceDelivery) (h : History) (fed : Fed) → has_round d ≡ false → StandsFor old h
    → GoesOn old new (Feed (entries_of d)) → fed ≡ fed_counts (counts_of (now_of h) (current h) (entries_of d))
    → new.responder.name ≡ old.responder.name
    → fed_reply new.responder.name new.responder.moment d.response_message_identifier fed
    ≡ answer_to old.responder.name h (message.ServiceDelivery d)
unfolding answer_to
answer_fed old new d h fed none s on counts name =
    let moment : new.responder.moment ≡ now_of h = (on.stands h s).responder.moment ∙ now_fed h d in
    (λ i. fed_reply (name i) (moment i) d.response_message_identifier (counts i)) ∙ rw none refl

-- it is taken where it was fed, and its reply made or not
pub takes_fed : (old new : Known) (d : ServiceDelivery) (fed : Fed) (result : Result Answer OutOfMemory)
    → has_round d ≡ false → GoesOn old new (Feed (entries_of d)) → CountsFor old (entries_of d) fed
    → new.responder.name ≡ old.responder.name
    → IfOk result (λ answer. answer ≡ fed_reply new.responder.name new.responder.moment d.response_message_identifier
    fed)
    → TakesMessage old new (message.ServiceDelivery d) result
takes_fed old new d fed (Ok answer) none on counts name is = record {
  ok = goes_as_fed old new d none on;
  answer = λ h s. is ∙ answer_fed old new d h fed none s on (counts h s) name;
  err = tt;
  name = name;
}
takes_fed old new d fed (Err error) none on counts name is =
    record { ok = tt; answer = tt; err = refused_reply old new d none on; name = name }

-- ---- any other message

takes_none : (m : Message) → is_ignored m ≡ true → entries_fed m ≡ []
takes_none (message.ServiceRequest r) other = absurd (cc)
takes_none (message.SubscriptionRequest r) other = absurd (cc)
takes_none (message.TerminateSubscriptionRequest r) other = absurd (cc)
takes_none (message.DataReceivedAcknowledgement a) other = absurd (cc)
takes_none (message.ServiceDelivery d) other = rw other refl
takes_none (message.SubscriptionResponse m) other = refl
takes_none (message.TerminateSubscriptionResponse m) other = refl
takes_none (message.DataReadyNotification m) other = refl
takes_none (message.DataReadyAcknowledgement m) other = refl
takes_none (message.DataSupplyRequest r) other = absurd (cc)
takes_none (message.CheckStatusRequest r) other = absurd (cc)
takes_none (message.CheckStatusResponse m) other = refl
takes_none (message.HeartbeatNotification m) other = refl

rows_ignored : (start now : ℕ) (m : Message) (rows : List (Row KeptLife)) → is_ignored m ≡ true
    → rows ≡ rows_taken start now m rows
unfolding rows_taken
rows_ignored start now (message.ServiceRequest r) rows other = absurd (cc)
rows_ignored start now (message.SubscriptionRequest r) rows other = absurd (cc)
rows_ignored start now (message.TerminateSubscriptionRequest r) rows other = absurd (cc)
rows_ignored start now (message.DataReceivedAcknowledgement a) rows other = absurd (cc)
rows_ignored start now (message.ServiceDelivery d) rows other = refl
rows_ignored start now (message.SubscriptionResponse m) rows other = refl
rows_ignored start now (message.TerminateSubscriptionResponse m) rows other = refl
rows_ignored start now (message.DataReadyNotification m) rows other = refl
rows_ignored start now (message.DataReadyAcknowledgement m) rows other = refl
rows_ignored start now (message.DataSupplyRequest r) rows other = absurd (cc)
rows_ignored start now (message.CheckStatusRequest r) rows other = absurd (cc)
rows_ignored start now (message.CheckStatusResponse m) rows other = refl
rows_ignored start now (message.HeartbeatNotification m) rows other = refl

answer_other : (name : List ℕ) (h : History) (m : Message) → is_ignored m ≡ true
    → noted note.Ignored ≡ answer_to name h m
unfolding answer_to
answer_other name h (message.ServiceRequest r) other = absurd (cc)
answer_other name h (message.SubscriptionRequest r) other = absurd (cc)
answer_other name h (message.TerminateSubscriptionRequest r) other = absurd (cc)
answer_other name h (message.DataReceivedAcknowledgement a) other = absurd (cc)
answer_other name h (message.ServiceDelivery d) other = rw other refl
answer_other name h (message.SubscriptionResponse m) other = refl
answer_other name h (message.TerminateSubscriptionResponse m) other = refl
answer_other name h (message.DataReadyNotification m) other = refl
answer_other name h (message.DataReadyAcknowledgement m) other = refl
answer_other name h (message.DataSupplyRequest r) other = absurd (cc)
answer_other name h (message.CheckStatusRequest r) other = absurd (cc)
answer_other name h (message.CheckStatusResponse m) other = refl
answer_other name h (message.HeartbeatNotification m) other = refl

looks_ignored : (start now : ℕ) (m : Message) (rows : List (Row Followed)) → is_ignored m ≡ true
    → rows ≡ followed.rows_taken start now m rows
unfolding followed.rows_taken
looks_ignored start now (message.ServiceRequest r) rows other = absurd (cc)
looks_ignored start now (message.SubscriptionRequest r) rows other = absurd (cc)
looks_ignored start now (message.TerminateSubscriptionRequest r) rows other = absurd (cc)
looks_ignored start now (message.DataReceivedAcknowledgement a) rows other = absurd (cc)
looks_ignored start now (message.ServiceDelivery d) rows other = refl
looks_ignored start now (message.SubscriptionResponse m) rows other = refl
looks_ignored start now (message.TerminateSubscriptionResponse m) rows other = refl
looks_ignored start now (message.DataReadyNotification m) rows other = refl
looks_ignored start now (message.DataReadyAcknowledgement m) rows other = refl
looks_ignored start now (message.DataSupplyRequest r) rows other = absurd (cc)
looks_ignored start now (message.CheckStatusRequest r) rows other = absurd (cc)
looks_ignored start now (message.CheckStatusResponse m) rows other = refl
looks_ignored start now (message.HeartbeatNotification m) rows other = refl

pub goes_ignored : (known : responder.Known) (rows : List (Row Course)) (settled : Bool) (m : Message)
    → is_ignored m ≡ true → GoesOn (known_of known rows settled) (known_of known rows false) (Take m)
unfolding rows_after
goes_ignored known rows settled m other =
    goes_taken known rows settled m rows (takes_none m other)
    (looks_ignored known.start known.moment m (followed_rows known.marks rows) other) (λ h s.
    goes_on (known_of known rows settled) (known_of known rows false) h (Take m) s
    (knows_taken known h m (takes_none m other) s.responder)
    (rows_ignored (start_of h) (now_of h) m (kept_rows rows) other) refl)

pub answer_ignored : (known : Known) (m : Message) → is_ignored m ≡ true → AnswerFor known m (noted note.Ignored)
answer_ignored known m other = λ h s. answer_other known.responder.name h m other

-- a feed of nothing is a step after which nothing else is known, but that the last step isn't a settle
still : (known : responder.Known) (h : History) → responder.StandsFor known h
    → responder.StandsFor known (h ++ Feed [] ∷ [])
unfolding after_step
still known h s = stands_alike known h (h ++ Feed [] ∷ []) (more_steps h (Feed [])) s

touches_none : (known : responder.Known) → responder.Touches known known []
touches_none known = record { number = refl; touched = λ n le. refl }

-- none of some entries was taken
pub took_none : (known : responder.Known) (entries : List Entry) → responder.TookSome known known entries
took_none known entries = record { n = 0; goes_on = still known; touched = touches_none known }

-- memory was wanting before anything of a feed was taken
pub refused_whole : (known : responder.Known) (rows : List (Row Course)) (settled : Bool)
    → AreNumbered known.marks.number rows → (d : ServiceDelivery) → has_round d ≡ false
    → RefusedAt (known_of known rows settled) (known_of known rows false) (message.ServiceDelivery d)
refused_whole known rows settled numbered d none =
    let m = message.ServiceDelivery d in
    let old = known_of known rows settled in
    let new = known_of known rows false in
    let some : TookSome old new (entries_fed m) =
    (0, goes_fed known known rows settled numbered [] (still known) (touches_none known)) in
    subst (λ b. RefusedIf (not b) old new m) (sym none) some

pub some_ignored : (known : responder.Known) (rows : List (Row Course)) (settled : Bool) → IsProducer known rows settled
    → IsProducer known rows false
some_ignored known rows settled is =
    let goes = goes_fed known known rows settled is.numbered [] (still known) (touches_none known) in
    is_producer known rows
    (went (known_of known rows settled) (known_of known rows false) (Feed []) is.follows goes) is.numbered
