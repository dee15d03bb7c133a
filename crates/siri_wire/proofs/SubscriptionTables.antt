-- The laws of the tables of requests for subscriptions and of requests to end them.
use Rattle.std.proofs.Common.{◌≡◌, ℕ, ℤ, pos, List, [], ◌∷◌, Bool, true, false, Option, Some, None, Ok, inl, inr, refl, sym, ap, ◌∙◌, subst, arith}
use Rattle.std.specs.Prelude.{IfSome, codes, option_and_then}
use Rattle.serde_json.specs.Data.{Data}
use Rattle.siri_json.specs.Canonical.{as_texts}
use Rattle.siri_json.specs.TextsOfTrees.{TextsAreUtf8}
use Rattle.siri_json.specs.Values.{member_of, text_in}
use Rattle.siri_records.specs.declared.item.Service.{Service}
use Rattle.siri_records.specs.declared.item.Service.TheVariants as service
use Rattle.siri_topic.specs.declared.subscription.Subscription.{Subscription}
use Rattle.siri_topic.specs.declared.topics.Topic.{Topic}
use Rattle.siri_messages.specs.declared.subscriptions.SubscriptionRequest.{SubscriptionRequest}
use Rattle.siri_tables.specs.Refusals.{◌>>=◌}
use Rattle.siri_tables.specs.Rules.{name, text, moment, non_negative_span, number, read_from_text, table, row, required_row, inside, list}
use Rattle.siri_tables.specs.Proper.{IsName, IsNumber}
use Rattle.siri_tables.specs.Spelling.{Spells}
use Rattle.siri_tables.specs.Tables.{Row, all_written}
use Rattle.siri_tables.specs.Writing.{written_text}
use Rattle.siri_tables.proofs.Back.{found_again}
use Rattle.siri_tables.proofs.BackValues.{name_back, some_name_back}
use Rattle.siri_tables.proofs.CanonicalParts.{are_ascii, IsCanonicalWithin, MayBeWithin, text_within, some_text_within, row_within, ◌then◌, object_within}
use Rattle.siri_tables.proofs.ProperParts.{name_yields, number_yields, row_is}
use Rattle.siri_tables.proofs.RowSpells.{bind_ok, done, ok_is, row_spelled, required_row_spelled, row_ok, required_row_ok}
use Rattle.siri_tables.proofs.TableLaws.{EntryLaws, RowLaws, at_key, at_depth, optional_laws, mandatory_laws, some_entries_laws, AllLaws}
use Rattle.siri_tables.proofs.TableLaws.{are_distinct, TableLaws, read_spelled, spelled_read, written_read, spelled_proper, table_within}
use Rattle.siri_tables.proofs.TableLaws.{table_entries}
use Rattle.siri_tables.proofs.ValueLaws.{name_laws, moment_laws, flag_laws}
use Rattle.siri_deliveries.specs.declared.names.TheConstants.{CHANGE_BEFORE_UPDATES, CONSUMER_ADDRESS, DELIVERY_METHOD}
use Rattle.siri_deliveries.specs.declared.names.TheConstants.{ESTIMATED_TIMETABLE_SUBSCRIPTION_REQUEST, EXTENSIONS, HEARTBEAT_INTERVAL}
use Rattle.siri_deliveries.specs.declared.names.TheConstants.{MESSAGE_IDENTIFIER, REQUESTOR_REF, REQUEST_TIMESTAMP}
use Rattle.siri_deliveries.specs.declared.names.TheConstants.{SITUATION_EXCHANGE_SUBSCRIPTION_REQUEST, STOP_MONITORING_SUBSCRIPTION_REQUEST}
use Rattle.siri_deliveries.specs.declared.names.TheConstants.{SUBSCRIBER_REF, SUBSCRIPTION_CONTEXT, VEHICLE_MONITORING_SUBSCRIPTION_REQUEST}
use Rattle.siri_deliveries.specs.Rows.{a_whole_span}
use Rattle.siri_deliveries.specs.Topics.{a_topic}
use Rattle.siri_wire.specs.Subscribers.{named_or, subscriber_or, SpellsSubscriber, the_subscriber}
use Rattle.siri_wire.specs.Subscriptions.{request_of, topic_of, the_topic, slack_of, the_slack, is_fetched, SpellsMethod, written_method}
use Rattle.siri_wire.specs.Subscriptions.{the_method, element_table, subscription_table, make_subscription, subscription}
use Rattle.siri_wire.specs.Subscriptions.{written_subscription, a_subscription, heartbeat_interval, read_requested_rows, requests_nothing}
use Rattle.siri_wire.specs.Subscriptions.{requested, subscription_request, subscription_request_table, make_subscription_request}
use Rattle.siri_wire.specs.Subscriptions.{written_subscription_request}
use Rattle.siri_wire.specs.declared.read_subscriptions.RequestedSubscriptions.{RequestedSubscriptions}
use Rattle.siri_wire.specs.Identifiers.{written_identifier}
use Rattle.siri_wire.specs.Limits.{most_subscriptions}
use Rattle.siri_wire.specs.Terminations.{Asking, asking, the_asking, termination_table, make_termination}
use Rattle.siri_wire.specs.laws.ProperRequests.{IsProperSubscriptionRequest}
use Rattle.siri_wire.specs.laws.SpellingRequests.{SpellsSubscription, SpellsSubscriptionRequest}
use Rattle.siri_wire.proofs.MessageValues.{inside_again, identifier_back, identifier_within}
use Rattle.siri_wire.proofs.RowLaws.{whole_span_laws, identifier_laws, with_default_laws, name_entries, entries_laws, optional_inside_laws}
use Rattle.siri_wire.proofs.RequestTables.{topic_kind, unless_is}

-- ---- the subscriber

subscriber_ok : (requestor : Option (List ℕ)) (d : Data) (subscriber : List ℕ) → SpellsSubscriber requestor d subscriber
    → subscriber_or requestor d ≡ Ok subscriber
unfolding subscriber_or
subscriber_ok requestor d subscriber (inl named) = rw (row_ok name SUBSCRIBER_REF.now d (Some subscriber) named) refl
subscriber_ok requestor d subscriber (inr is) = rw (row_ok name SUBSCRIBER_REF.now d None is.0, is.1) refl

named_is : (requestor : Option (List ℕ)) (d : Data) (named : Option (List ℕ)) (subscriber : List ℕ)
    → Spells name SUBSCRIBER_REF.now d named → named_or requestor named ≡ Ok subscriber
    → SpellsSubscriber requestor d subscriber
named_is requestor d (Some x) subscriber spells e = inl (subst (λ (y : List ℕ). Spells name SUBSCRIBER_REF.now d (Some y)) (ok_is x subscriber e) spells)
named_is (Some x) d None subscriber spells e = inr (spells, ap Some (ok_is x subscriber e))
named_is None d None subscriber spells e = absurd cc

subscriber_spelled : (requestor : Option (List ℕ)) (d : Data) (subscriber : List ℕ)
    → subscriber_or requestor d ≡ Ok subscriber → SpellsSubscriber requestor d subscriber
unfolding subscriber_or
subscriber_spelled requestor d subscriber e =
    let r = bind_ok (row name SUBSCRIBER_REF.now d) _ subscriber e in
    named_is requestor d r.0 subscriber (row_spelled name SUBSCRIBER_REF.now d r.0 r.1) r.2

subscriber_is : (requestor : Option (List ℕ)) (d : Data) (subscriber : List ℕ) → IfSome requestor IsName
    → TextsAreUtf8 d → SpellsSubscriber requestor d subscriber → IsName subscriber
subscriber_is requestor d subscriber r u (inl s_) = row_is name IsName name_yields SUBSCRIBER_REF.now d (Some subscriber) u s_
subscriber_is requestor d subscriber r u (inr s_) = subst (λ (o : Option (List ℕ)). IfSome o IsName) s_.1 r

subscriber_laws : {S : Type 0} {of : S → List ℕ} (requestor : Option (List ℕ)) → IfSome requestor IsName → RowLaws 4 (the_subscriber requestor of)
subscriber_laws requestor named = record {
  spelled = subscriber_spelled requestor;
  reads = subscriber_ok requestor;
  back = λ d v is there. inl (at_key name SUBSCRIBER_REF.now d (written_text v) (Some v) there.0 (name_back v is));
  within = λ v is. (at_depth 0 4 SUBSCRIBER_REF.now _ refl refl (text_within 0 v is.utf8), tt);
  proper = λ d v u s_. subscriber_is requestor d v named u s_;
}

-- ---- the other rows of the element of a subscription

ascii_request : (s : Service) → are_ascii (request_of s) ≡ true
ascii_request service.Stop = refl
ascii_request s = refl

topic_laws : {S : Type 0} {of : S → Topic} (s : Service) → RowLaws 4 (the_topic s of)
unfolding topic_of
topic_laws s = mandatory_laws {kind = a_topic s} (topic_kind s) (ascii_request s) refl

slack_laws : {S : Type 0} {of : S → ℤ} (s : Service) → RowLaws 4 (the_slack s of)
unfolding slack_of
slack_laws service.Situation = record {
  spelled = λ d v e. sym (ok_is (pos 0) v e);
  reads = λ d v is. ap (λ (x : ℤ). done x) (sym is);
  back = λ d v is there. is;
  within = λ v is. (at_depth 0 4 CHANGE_BEFORE_UPDATES.now None refl refl tt, tt);
  proper = λ d v u is. is;
}
slack_laws s = with_default_laws {kind = a_whole_span} whole_span_laws (omega arith) refl refl

method_back : (d : Data) (fetched : Bool) → member_of EXTENSIONS.now d ≡ found_again (written_method fetched) → SpellsMethod d fetched
unfolding written_method read_from_text text_in
method_back d true there =
    let inner = inside_again text DELIVERY_METHOD.now (written_text (codes "fetched")) (Some (codes "fetched")) refl in
    record {
      method = Some (codes "fetched");
      spelled = at_key (inside text DELIVERY_METHOD.now) EXTENSIONS.now d
          (written_method true) (Some (codes "fetched")) there inner;
      is = refl;
    }
method_back d false there = record {
  method = None;
  spelled =
      at_key (inside text DELIVERY_METHOD.now) EXTENSIONS.now d (written_method false) None there refl;
  is = refl;
}

method_within : (fetched : Bool) → MayBeWithin 1 (written_method fetched)
unfolding written_method
method_within true =
    let ascii = row_within 0 (codes "fetched") None refl tt in
    object_within 0 ((DELIVERY_METHOD.now, written_text (codes "fetched")) ∷ [])
    (row_within 0 DELIVERY_METHOD.now _ refl (text_within 0 (codes "fetched") ascii.name) then tt)
method_within false = tt

method_spelled : (d : Data) (fetched : Bool)
    → (row (inside text DELIVERY_METHOD.now) EXTENSIONS.now d >>= λ o. done (is_fetched o)) ≡ Ok fetched
    → SpellsMethod d fetched
method_spelled d fetched e =
    let r = bind_ok (row (inside text DELIVERY_METHOD.now) EXTENSIONS.now d) (λ o. done (is_fetched o)) fetched e in
    record { method = r.0; spelled = row_spelled (inside text DELIVERY_METHOD.now) EXTENSIONS.now d r.0 r.1; is = sym (ok_is (is_fetched r.0) fetched r.2) }

method_laws : {S : Type 0} {of : S → Bool} → RowLaws 4 (the_method of)
method_laws = record {
  spelled = method_spelled;
  reads = λ d v s_. rw (row_ok (inside text DELIVERY_METHOD.now) EXTENSIONS.now d s_.method s_.spelled) (ap (λ (b : Bool). done b) (sym s_.is));
  back = λ d v is there. method_back d v there.0;
  within = λ v is. (at_depth 1 4 EXTENSIONS.now _ refl refl (method_within v), tt);
  proper = λ d v u s_. tt;
}

-- ---- the element of a subscription

element_rows : (s : Service) → AllLaws 4 (element_table s)
element_rows s = (
  mandatory_laws name_laws refl refl,
  (
    mandatory_laws moment_laws refl refl,
    (
      topic_laws s,
      (with_default_laws flag_laws tt refl refl, (slack_laws s, (method_laws, tt))),
    ),
  ),
)

distinct_element : (s : Service) (x : Subscription) → are_distinct (all_written (element_table s) x) ≡ true
distinct_element service.Stop x = refl
distinct_element s x = refl

distinct_subscription : (s : Service) (requestor : Option (List ℕ)) (x : Subscription) → are_distinct (all_written (subscription_table s requestor) x) ≡ true
distinct_subscription service.Stop requestor x = refl
distinct_subscription s requestor x = refl

-- where the requestor is proper
subscription_laws : (s : Service) (requestor : Option (List ℕ)) → IfSome requestor IsName
    → TableLaws 4 (subscription_table s requestor) (make_subscription s requestor)
subscription_laws s requestor named = record {
  rows = (subscriber_laws requestor named, element_rows s);
  whole = λ x. refl;
  holds = λ a b c d e f g. search;
  distinct = distinct_subscription s requestor;
}

subscription_entries : (s : Service) (requestor : Option (List ℕ)) → IfSome requestor IsName → EntryLaws 5 (a_subscription s requestor)
unfolding subscription written_subscription
subscription_entries s requestor named = table_entries (subscription_laws s requestor named)

-- of any requestor: the subscriber was read before, and stands in what is made
abbrev given : {S : Type 0} → List ℕ → (S → List ℕ) → Row S
given subscriber of = record {
  Of = List ℕ;
  of = of;
  read = λ d. Ok subscriber;
  Spelled = λ d v. subscriber ≡ v;
  write = λ v. [];
  Is = λ v. subscriber ≡ v;
  blank = λ v. false;
}

given_laws : {S : Type 0} {of : S → List ℕ} (subscriber : List ℕ) → RowLaws 4 (given subscriber of)
given_laws subscriber = record {
  spelled = λ d v e. ok_is subscriber v e;
  reads = λ d v is. ap (λ (x : List ℕ). done x) is;
  back = λ d v is there. is;
  within = λ v is. tt;
  proper = λ d v u is. is;
}

element_laws : (s : Service) (subscriber : List ℕ) → TableLaws 4
    (given subscriber (λ (x : Subscription). x.subscriber) ∷ element_table s) (make_subscription s None)
element_laws s subscriber = record {
  rows = (given_laws subscriber, element_rows s);
  whole = λ x. refl;
  holds = λ a b c d e f g. search;
  distinct = distinct_element s;
}

pub subscription_spelled : (s : Service) (requestor : Option (List ℕ)) (d : Data) (x : Subscription)
    → subscription s requestor d ≡ Ok x → SpellsSubscription s requestor d x
unfolding subscription
subscription_spelled s requestor d x e =
    let r = bind_ok (subscriber_or requestor d) _ x e in
    let all = read_spelled (element_laws s r.0) d x r.2 in
    (subst (λ (y : List ℕ). SpellsSubscriber requestor d y) all.0 (subscriber_spelled requestor d r.0 r.1), all.1)

pub subscription_read : (s : Service) (requestor : Option (List ℕ)) (d : Data) (x : Subscription)
    → SpellsSubscription s requestor d x → subscription s requestor d ≡ Ok x
unfolding subscription
subscription_read s requestor d x s_ = rw (subscriber_ok requestor d x.subscriber s_.0) (spelled_read (element_laws s x.subscriber) d x (refl, s_.1))

-- ---- requests for subscriptions

-- where the requestor is proper
request_laws : (requestor : Option (List ℕ)) → IfSome requestor IsName
    → TableLaws 6 (subscription_request_table requestor) (make_subscription_request requestor)
request_laws requestor named = record {
  rows = (
    optional_laws moment_laws refl refl,
    (
      optional_laws name_laws refl refl,
      (
        mandatory_laws identifier_laws refl refl,
        (
          optional_laws name_laws refl refl,
          (
            optional_inside_laws HEARTBEAT_INTERVAL.now whole_span_laws refl refl refl,
            (
              entries_laws (subscription_entries service.Stop requestor named) refl refl,
              (
                entries_laws (subscription_entries service.Timetable requestor named) refl refl,
                (
                  entries_laws (subscription_entries service.Vehicle requestor named) refl refl,
                  (
                    entries_laws (subscription_entries service.Situation requestor named) refl refl,
                    tt,
                  ),
                ),
              ),
            ),
          ),
        ),
      ),
    ),
  );
  whole = λ m. refl;
  holds = λ a b c d e f g h i. search;
  distinct = λ m. refl;
}

pub subscription_request_read : (d : Data) (m : SubscriptionRequest) → SpellsSubscriptionRequest d m → subscription_request d ≡ Ok m
unfolding subscription_request requested read_requested_rows heartbeat_interval
subscription_request_read d m s_ =
    let inner = s_.0.1.1.1.1 in
    rw (
      row_ok moment REQUEST_TIMESTAMP.now d m.request_timestamp s_.0.0,
      row_ok name REQUESTOR_REF.now d m.requestor_ref s_.0.1.0,
      required_row_ok number MESSAGE_IDENTIFIER.now d m.message_identifier s_.0.1.1.0,
      row_ok name CONSUMER_ADDRESS.now d m.consumer_address s_.0.1.1.1.0,
      row_ok (inside non_negative_span HEARTBEAT_INTERVAL.now) SUBSCRIPTION_CONTEXT.now d m.heartbeat_interval inner.0,
      inner.1.0,
      inner.1.1.0,
      inner.1.1.1.0,
      inner.1.1.1.1.0,
      s_.1,
    ) refl

pub subscription_request_spelled : (d : Data) (m : SubscriptionRequest) → subscription_request d ≡ Ok m → SpellsSubscriptionRequest d m
unfolding subscription_request requested read_requested_rows heartbeat_interval
subscription_request_spelled d m e =
    let r1 = bind_ok (row moment REQUEST_TIMESTAMP.now d) _ m e in
    let r2 = bind_ok (row name REQUESTOR_REF.now d) _ m r1.2 in
    let r3 = bind_ok (required_row number MESSAGE_IDENTIFIER.now d) _ m r2.2 in
    let r4 = bind_ok (row name CONSUMER_ADDRESS.now d) _ m r3.2 in
    let r5 = bind_ok (requested r2.0 d) _ m r4.2 in
    let all = bind_ok (read_requested_rows r2.0 d) _ r5.0 r5.1 in
    let wants = unless_is all.0 r5.0 (requests_nothing all.0) all.2 in
    let w1 = bind_ok (row (inside non_negative_span HEARTBEAT_INTERVAL.now) SUBSCRIPTION_CONTEXT.now d) _ all.0 all.1 in
    let w2 = bind_ok (list (table (subscription service.Stop r2.0)) most_subscriptions STOP_MONITORING_SUBSCRIPTION_REQUEST.now d) _ all.0 w1.2 in
    let w3 = bind_ok (list (table (subscription service.Timetable r2.0)) most_subscriptions ESTIMATED_TIMETABLE_SUBSCRIPTION_REQUEST.now d) _ all.0 w2.2 in
    let w4 = bind_ok (list (table (subscription service.Vehicle r2.0)) most_subscriptions VEHICLE_MONITORING_SUBSCRIPTION_REQUEST.now d) _ all.0 w3.2 in
    let w5 = bind_ok (list (table (subscription service.Situation r2.0)) most_subscriptions SITUATION_EXCHANGE_SUBSCRIPTION_REQUEST.now d) _ all.0 w4.2 in
    let made : RequestedSubscriptions → SubscriptionRequest =
    λ w. make_subscription_request r2.0 r1.0 r2.0 r3.0 r4.0 w.heartbeat_interval w.stops w.timetables w.vehicles
    w.situations in
    subst (λ (x : SubscriptionRequest). SpellsSubscriptionRequest d x) (ok_is _ m r5.2)
    (subst (λ (w : RequestedSubscriptions). SpellsSubscriptionRequest d (made w)) (ok_is _ all.0 w5.2 ∙ wants.1) (
      (
        row_spelled moment REQUEST_TIMESTAMP.now d r1.0 r1.1,
        (
          row_spelled name REQUESTOR_REF.now d r2.0 r2.1,
          (
            required_row_spelled number MESSAGE_IDENTIFIER.now d r3.0 r3.1,
            (
              row_spelled name CONSUMER_ADDRESS.now d r4.0 r4.1,
              (row_spelled (inside non_negative_span HEARTBEAT_INTERVAL.now) SUBSCRIPTION_CONTEXT.now d w1.0 w1.1, (w2.1, (w3.1, (w4.1, (w5.1, tt))))),
            ),
          ),
        ),
      ),
      ap requests_nothing (ok_is _ all.0 w5.2) ∙ wants.0,
    ))

pub subscription_request_back : (m : SubscriptionRequest) → IsProperSubscriptionRequest m
    → subscription_request (as_texts (written_subscription_request m)) ≡ Ok m
unfolding written_subscription_request
subscription_request_back m p = let laws = request_laws m.requestor_ref p.0.1.0 in
    subscription_request_read _ m (read_spelled laws _ m (written_read laws m p.0), p.1)

pub subscription_request_within : (m : SubscriptionRequest) → IsProperSubscriptionRequest m → IsCanonicalWithin 7 (written_subscription_request m)
unfolding written_subscription_request
subscription_request_within m p = table_within (request_laws m.requestor_ref p.0.1.0) m p.0

pub subscription_request_proper : (d : Data) (m : SubscriptionRequest) → TextsAreUtf8 d → SpellsSubscriptionRequest d m → IsProperSubscriptionRequest m
subscription_request_proper d m u s_ =
    let named : IfSome m.requestor_ref IsName = row_is name IsName name_yields REQUESTOR_REF.now d m.requestor_ref u s_.0.1.0 in
    (spelled_proper (request_laws m.requestor_ref named) d m u s_.0, s_.1)

-- ---- requests to end subscriptions

asking_spelled : (d : Data) (a : Asking) → asking d ≡ Ok a
    → Spells name REQUESTOR_REF.now d a.0 × Spells number MESSAGE_IDENTIFIER.now d (Some a.1)
    × SpellsSubscriber a.0 d a.2
asking_spelled d a e =
    let r1 = bind_ok (row name REQUESTOR_REF.now d) _ a e in
    let r2 = bind_ok (required_row number MESSAGE_IDENTIFIER.now d) _ a r1.2 in
    let r3 = bind_ok (subscriber_or r1.0 d) _ a r2.2 in
    subst (λ (x : Asking). Spells name REQUESTOR_REF.now d x.0 × Spells number MESSAGE_IDENTIFIER.now d (Some x.1)
    × SpellsSubscriber x.0 d x.2) (ok_is _ a r3.2)
    (row_spelled name REQUESTOR_REF.now d r1.0 r1.1, required_row_spelled number MESSAGE_IDENTIFIER.now d r2.0 r2.1, subscriber_spelled r1.0 d r3.0 r3.1)

asking_reads : (d : Data) (a : Asking) → Spells name REQUESTOR_REF.now d a.0
    × Spells number MESSAGE_IDENTIFIER.now d (Some a.1) × SpellsSubscriber a.0 d a.2 → asking d ≡ Ok a
asking_reads d a s_ = rw (row_ok name REQUESTOR_REF.now d a.0 s_.0, required_row_ok number MESSAGE_IDENTIFIER.now d a.1 s_.1, subscriber_ok a.0 d a.2 s_.2) refl

asking_laws : {S : Type 0} {of : S → Asking} → RowLaws 1 (the_asking of)
asking_laws = record {
  spelled = asking_spelled;
  reads = asking_reads;
  back = λ d a is there. (
    at_key name REQUESTOR_REF.now d (option_and_then written_text a.0) a.0 there.0 (some_name_back a.0 is.0),
    at_key number MESSAGE_IDENTIFIER.now d (written_identifier a.1) (Some a.1) there.1.0 (identifier_back a.1 is.1),
    inl (at_key name SUBSCRIBER_REF.now d (written_text a.2) (Some a.2) there.1.1.0 (name_back a.2 is.2)),
  );
  within = λ a is.
      row_within 1 REQUESTOR_REF.now _ refl (some_text_within 1 _ a.0 is.0) then
      row_within 1 MESSAGE_IDENTIFIER.now _ refl (identifier_within 1 a.1 is.1) then
      row_within 1 SUBSCRIBER_REF.now _ refl (text_within 1 a.2 is.2.utf8) then
      tt;
  proper = λ d a u s_.
      let named : IfSome a.0 IsName = row_is name IsName name_yields REQUESTOR_REF.now d a.0 u s_.0 in
      (named, row_is number IsNumber number_yields MESSAGE_IDENTIFIER.now d (Some a.1) u s_.1, subscriber_is a.0 d a.2 named u s_.2);
}

pub termination_laws : TableLaws 1 termination_table make_termination
termination_laws = record {
  rows = (optional_laws moment_laws refl refl, (asking_laws, (some_entries_laws name_entries refl refl, tt)));
  whole = λ m. refl;
  holds = λ a b c. search;
  distinct = λ m. refl;
}
