-- The requests of tables 2 and 3, and what taking them again leaves.
use Rattle.std.proofs.Common.{◌≡◌, ◌≤◌, ◌<◌, ℕ, ◌+◌, ℤ, max, List, [], ◌∷◌, ◌++◌, length, map, fold, take, get_or, Bool, true, false, ◌||◌, Option, None, Some, Result, Ok, Err, refl, sym}
use Rattle.std.proofs.Common.{ap, ◌∙◌, subst, append_assoc, append-nil}
use Rattle.std.specs.Prelude.{if◌then◌else◌, nat_lt, slice_get}
use Rattle.std.specs.List.{AllByRecursion as All, Contains, filter_map, list_any}
use Rattle.std.specs.Option.{option_and_then}
use Rattle.std.specs.Result.{result_ok}
use Rattle.std.proofs.lemmas.Bool.{le-ltb, ltb-false}
use Rattle.std.proofs.lemmas.List.{map_more, take_all}
use Rattle.std.proofs.lemmas.List.Elements.{All-contains}
use Rattle.std.proofs.lemmas.Option.{cond_some, none-some, option_and_then_some, same_Some}
use Rattle.std.proofs.lemmas.Slice.Eq.{bytes_eq-Decides}
use Rattle.siri_base.specs.declared.reason.Reason.TheVariants.{TooLong}
use Rattle.siri_json.specs.Tree.{longest_document, tree_of}
use Rattle.siri_topic.specs.declared.subscription.Subscription.{Subscription}
use Rattle.siri_topic.specs.declared.topics.Topic.{Topic}
use Rattle.siri_topic.specs.declared.topics.Topic.TheVariants as topic
use Rattle.siri_messages.specs.Asked.{AskedFor, asked_in, asked_with, subscriptions_in}
use Rattle.siri_messages.specs.Blank.{blank_subscription_request}
use Rattle.siri_messages.specs.declared.message.Message.{Message}
use Rattle.siri_messages.specs.declared.message.Message.TheVariants as message
use Rattle.siri_messages.specs.declared.subscriptions.SubscriptionRequest.{SubscriptionRequest}
use Rattle.siri_tables.specs.Refusals.{Refusal, refused}
use Rattle.siri_wire.specs.Documents.{message_in, message_of}
use Rattle.siri_wire.specs.laws.ProperMessages.{IsProper}
use Rattle.siri_wire.proofs.BackDocuments.{canonical_read}
use Rattle.siri_model.specs.History.{Clock, Feed, History, Start, State, Step, Take, after_entry, after_step, entries_fed, state_of}
use Rattle.siri_model.specs.History.{Entry}
use Rattle.siri_model.specs.Lives.{table_of}
use Rattle.siri_model.specs.Rows.{rows_after, rows_of}
use Rattle.siri_model.proofs.Histories.{rows_go_on}
use Rattle.siri_producer.specs.Known.{GoesOn, Known, StandsFor}
use Rattle.siri_outside.specs.Rows.{Rows, of_table, text_at}
use Rattle.siri_row_texts.specs.Reading.{first_asked, first_of_four, if_holds, is_asked, is_renewal, is_request, renewal_of_row, request_of_row}
use Rattle.siri_row_texts.specs.SubscriptionRows.{asks_for, interval_of, request_of, request_text}
use Rattle.siri_row_texts.proofs.Asked.{each_alone}
use Rattle.siri_keeping.specs.Opening.{renewal_in, renewal_of_request, request_in}
use Rattle.siri_keeping.proofs.ReadProper.{read_renewal_proper, read_request_proper}
use Rattle.siri_keeping.proofs.Written.{here}
use Rattle.siri_keep.specs.Planning.{GoesOnBy}
use Rattle.siri_keep.specs.Puts.{has_long_row, is_long}
use Rattle.siri_keep.proofs.Alls.{each_of_all}
use Rattle.siri_keep.proofs.Making.{rows_of_message, taken_nothing}
use Rattle.siri_keep.proofs.Messages.{ReadsRow, reads_taken}
use Rattle.siri_keep.proofs.SaidItems.{all_given}
use Rattle.siri_keep.proofs.SaidRows.{among_mapped}

-- a message that can be taken: it is proper, its rows can be written, and it feeds nothing
pub record CanBeTaken (m : Message) : Type 0 where
  pub proper : IsProper m
  pub short : has_long_row m ≡ false
  pub none : entries_fed m ≡ []

-- ---- a request of table 2

read_of : (r : Result Message Refusal) (m : Message) → result_ok r ≡ Some m → r ≡ Ok m
read_of (Ok n) m e = ap (λ x. Ok x) (same_Some n m e)
read_of (Err refusal) m e = absurd (none-some m e)

short_by : (text : List ℕ) (m : Message) (long : Bool) → nat_lt longest_document (length text) ≡ long
    → (if long then refused TooLong else message_in (tree_of text)) ≡ Ok m → length text ≤ longest_document
short_by text m true is e = absurd cc
short_by text m false is e = ltb-false longest_document (length text) is

-- a text that is read has at most as many bytes as a document
read_short : (text : List ℕ) (m : Message) → message_of text ≡ Ok m → length text ≤ longest_document
unfolding message_of
read_short text m e = short_by text m (nat_lt longest_document (length text)) refl e

first_listed : (a b c d : List Subscription) (s : Subscription)
    → first_of_four (slice_get a 0) (slice_get b 0) (slice_get c 0) (slice_get d 0) ≡ Some s → Contains (a ++ b ++ c ++ d) s
first_listed (x ∷ a) b c d s e = subst (Contains (x ∷ (a ++ b ++ c ++ d))) (same_Some x s e) (here x (a ++ b ++ c ++ d))
first_listed [] (x ∷ b) c d s e = subst (Contains (x ∷ (b ++ c ++ d))) (same_Some x s e) (here x (b ++ c ++ d))
first_listed [] [] (x ∷ c) d s e = subst (Contains (x ∷ (c ++ d))) (same_Some x s e) (here x (c ++ d))
first_listed [] [] [] (x ∷ d) s e = subst (Contains (x ∷ d)) (same_Some x s e) (here x d)
first_listed [] [] [] [] s e = absurd (none-some s e)

-- the request of one subscription asks for it alone
alone_in : (t : Topic) (s : Subscription) (base : ℕ) (address : Option (List ℕ)) (beat : Option ℤ)
    → subscriptions_in (asks_for t s (record (blank_subscription_request base) {
      consumer_address = address;
      heartbeat_interval = beat;
    })) ≡ s ∷ []
alone_in (topic.Stop t) s base address beat = refl
alone_in (topic.Timetable t) s base address beat = refl
alone_in (topic.Vehicle t) s base address beat = refl
alone_in (topic.Situation t) s base address beat = refl

abbrev request_or : SubscriptionRequest → Result Message Refusal → SubscriptionRequest
request_or otherwise (Ok (message.SubscriptionRequest r)) = r
request_or otherwise (Ok other) = otherwise
request_or otherwise (Err refusal) = otherwise

short_alone : (text written : List ℕ) → written ≡ text → length text ≤ longest_document → (is_long written || false) ≡ false
short_alone text written is short =
    let small : is_long text ≡ false = le-ltb longest_document (length text) short in
    ap (λ (t : List ℕ). is_long t || false) is ∙ ap (λ b. b || false) small

asked_at : (text : List ℕ) (r : SubscriptionRequest) → message_of text ≡ Ok (message.SubscriptionRequest r)
    → IsProper (message.SubscriptionRequest r) → (o : Option Subscription) → first_asked r ≡ o → is_asked text r o ≡ true
    → has_long_row (message.SubscriptionRequest r) ≡ false
asked_at text r read proper None first is = absurd (cc is)
asked_at text r read proper (Some s) first is =
    let a = asked_with r s in
    let base = r.message_identifier in
    let written : request_text a base ≡ text = (bytes_eq-Decides (request_text a base) text).0 is in
    let short = read_short text (message.SubscriptionRequest r) read in
    let IsAlone : AskedFor → Type 0 = λ asked. IsProper (message.SubscriptionRequest (request_of asked base)) in
    let listed = among_mapped (asked_with r) (subscriptions_in r) s
    (first_listed r.stop_monitoring_subscription_request r.estimated_timetable_subscription_request
    r.vehicle_monitoring_subscription_request r.situation_exchange_subscription_request s first) in
    let alone = All-contains IsAlone (asked_in r) a (each_of_all IsAlone (asked_in r) (each_alone r proper)) listed in
    let back : message_of (request_text a base) ≡ Ok (message.SubscriptionRequest (request_of a base)) =
    canonical_read (message.SubscriptionRequest (request_of a base)) alone
    (subst (λ (t : List ℕ). length t ≤ longest_document) (sym written) short) in
    let same : r ≡ request_of a base = ap (request_or r) (sym read ∙ ap message_of (sym written) ∙ back) in
    let only : subscriptions_in r ≡ s ∷ [] = ap subscriptions_in same ∙ alone_in s.topic s base a.address (interval_of a.beat) in
    ap (λ (list : List Subscription). list_any (λ asked. is_long (request_text asked base)) (map (asked_with r) list)) only
    ∙ short_alone text (request_text a base) written short

asks_by : (text : List ℕ) (m : Message) → message_of text ≡ Ok m → IsProper m → is_request text m ≡ true → CanBeTaken m
asks_by text (message.SubscriptionRequest r) read proper is = record {
  proper = proper;
  short = asked_at text r read proper (first_asked r) refl is;
  none = refl;
}
asks_by text other read proper is = absurd (cc is)

pub request_asks : (text : List ℕ) (m : Message) → request_of_row text ≡ Some m → CanBeTaken m
unfolding request_of_row
request_asks text m e =
    option_and_then_some (if_holds (is_request text)) (result_ok (message_of text)) m e (λ n at holds.
    let found = cond_some (is_request text n) n m holds in
    let read = read_of (message_of text) m (subst (λ (x : Message). result_ok (message_of text) ≡ Some x) found.1 at) in
    asks_by text m read (read_request_proper text m e) (subst (λ (x : Message). is_request text x ≡ true) found.1 found.0))

-- ---- a request of table 3

renews_by : (s : Subscription) (base : ℕ) (text : List ℕ) (m : Message) → is_renewal s base text m ≡ true → IsProper m → CanBeTaken m
renews_by s base text (message.DataSupplyRequest r) is proper = record { proper = proper; short = refl; none = refl }
renews_by s base text other is proper = absurd (cc is)

renewal_asks : (s : Subscription) (base : ℕ) (text : List ℕ) (m : Message) → renewal_of_row s base text ≡ Some m → CanBeTaken m
unfolding renewal_of_row
renewal_asks s base text m e =
    option_and_then_some (if_holds (is_renewal s base text)) (result_ok (message_of text)) m e (λ n at holds.
    let found = cond_some (is_renewal s base text n) n m holds in
    renews_by s base text m (subst (λ (x : Message). is_renewal s base text x ≡ true) found.1 found.0)
    (read_renewal_proper s base text m e))

renewed_asks : (text : List ℕ) (of : Message) (m : Message) → renewal_of_request text of ≡ Some m → CanBeTaken m
renewed_asks text (message.SubscriptionRequest r) m e =
    option_and_then_some (λ s. renewal_of_row s r.message_identifier text) (first_asked r) m e
    (λ s first renewed. renewal_asks s r.message_identifier text m renewed)
renewed_asks text other m e = absurd (none-some m e)

pub requests_ask : (rows : Rows) → All CanBeTaken (filter_map request_in (of_table 2 rows))
requests_ask rows = all_given CanBeTaken request_in (λ row m at. request_asks row.text m at) (of_table 2 rows)

pub renewals_ask : (rows : Rows) → All CanBeTaken (filter_map (renewal_in rows) (of_table 3 rows))
renewals_ask rows = all_given CanBeTaken (renewal_in rows)
    (λ row m at. option_and_then_some (renewal_of_request row.text) (option_and_then request_of_row (text_at rows 2 row.key)) m at
    (λ of there renewed. renewed_asks row.text of m renewed)) (of_table 3 rows)

-- ---- the history

-- messages that feed nothing leave what is known
taken_all : (ms : List Message) (state : State) → All CanBeTaken ms → fold after_step state (map Take ms) ≡ state
taken_all [] state asks = refl
taken_all (m ∷ ms) state asks =
    ap (λ (x : State). fold after_step x (map Take ms)) (taken_nothing state m asks.0.none) ∙ taken_all ms state asks.1

pub opened_state : (start now moment : ℕ) (entries : List Entry) (ms : List Message) → All CanBeTaken ms
    → state_of (Start start now ∷ Clock moment ∷ Feed entries ∷ map Take ms) ≡ record {
      start = start;
      started = now;
      now = max now moment;
      current = fold (after_entry (max now moment)) [] entries;
    }
unfolding after_step
opened_state start now moment entries ms asks =
    taken_all ms (record {
      start = start;
      started = now;
      now = max now moment;
      current = fold (after_entry (max now moment)) [] entries;
    }) asks

opening_rows : (start now moment : ℕ) (entries : List Entry)
    → rows_of (table_of (Start start now ∷ Clock moment ∷ Feed entries ∷ [])) ≡ []
unfolding rows_after
opening_rows start now moment entries =
    rows_go_on (Start start now ∷ Clock moment ∷ []) (Feed entries)
    ∙ rows_go_on (Start start now ∷ []) (Clock moment)
    ∙ ap (rows_after (state_of (Start start now ∷ [])) (Clock moment)) (rows_go_on [] (Start start now))

-- the rows of all that are held after such messages are read back
reads_all : (ms : List Message) (h : History) → All CanBeTaken ms → All ReadsRow (rows_of (table_of h))
    → All ReadsRow (rows_of (table_of (h ++ map Take ms)))
reads_all [] h asks reads = subst (λ (x : History). All ReadsRow (rows_of (table_of x))) (sym (append-nil h)) reads
reads_all (m ∷ ms) h asks reads =
    let one = rows_go_on h (Take m) ∙ rows_of_message (state_of h) m (rows_of (table_of h)) in
    let after = reads_taken (state_of h).start (state_of h).now m (rows_of (table_of h)) asks.0.proper asks.0.short asks.0.none reads in
    subst (λ (x : History). All ReadsRow (rows_of (table_of x))) (append_assoc h (Take m ∷ []) (map Take ms))
    (reads_all ms (h ++ Take m ∷ []) asks.1 (subst (All ReadsRow) (sym one) after))

pub opened_reads : (start now moment : ℕ) (entries : List Entry) (ms : List Message) → All CanBeTaken ms
    → All ReadsRow (rows_of (table_of (Start start now ∷ Clock moment ∷ Feed entries ∷ map Take ms)))
opened_reads start now moment entries ms asks =
    reads_all ms (Start start now ∷ Clock moment ∷ Feed entries ∷ []) asks
    (subst (All ReadsRow) (sym (opening_rows start now moment entries)) tt)

-- ---- one step after the other

pub goes_none : (known : Known) → GoesOnBy known known []
goes_none known = λ h stands. subst (StandsFor known) (sym (append-nil h)) stands

pub goes_more : (old mid new : Known) (steps all : History) (step : Step) → all ≡ steps ++ step ∷ [] → GoesOnBy old mid steps
    → GoesOn mid new step → GoesOnBy old new all
goes_more old mid new steps all step is before one = λ h stands.
    subst (λ (x : History). StandsFor new (h ++ x)) (sym is)
    (subst (StandsFor new) (append_assoc h steps (step ∷ [])) (one.stands (h ++ steps) (before h stands)))

pub step_more : {X : Type 0} (f : X → Step) (xs : List X) (i : ℕ) (x : X) → i < length xs → x ≡ get_or xs i x
    → map f (take (i + 1) xs) ≡ map f (take i xs) ++ f x ∷ []
step_more f xs i x less is = map_more f xs i x less ∙ ap (λ y. map f (take i xs) ++ f y ∷ []) (sym is)

pub goes_all : {X : Type 0} (f : X → Step) (xs : List X) (i : ℕ) (old new : Known) → length xs ≤ i
    → GoesOnBy old new (map f (take i xs)) → GoesOnBy old new (map f xs)
goes_all f xs i old new all goes = subst (λ ys. GoesOnBy old new (map f ys)) (take_all i xs all) goes

-- the whole of it
pub stands_again : (a b c d e : Known) (start now moment : ℕ) (entries : List Entry) (requests renewals : History)
    → StandsFor a (Start start now ∷ []) → GoesOn a b (Clock moment) → GoesOn b c (Feed entries) → GoesOnBy c d requests
    → GoesOnBy d e renewals → StandsFor e (Start start now ∷ Clock moment ∷ Feed entries ∷ (requests ++ renewals))
stands_again a b c d e start now moment entries requests renewals first clocked fed asked renewed =
    let h : History = Start start now ∷ Clock moment ∷ Feed entries ∷ [] in
    subst (StandsFor e) (append_assoc h requests renewals)
    (renewed (h ++ requests) (asked h (fed.stands (Start start now ∷ Clock moment ∷ [])
    (clocked.stands (Start start now ∷ []) first))))
