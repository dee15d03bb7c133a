-- The response to a proper request over proper items is proper.
use Rattle.std.proofs.Common.{◌≡◌, ℕ, suc, ◌≤◌, Bool, true, false, ◌&&◌, not, List, [], ◌∷◌, length, map, filter, Option, Some, None, Ok}
use Rattle.std.proofs.Common.{refl, ap, subst, arith, if◌then◌else◌}
use Rattle.std.specs.List.{AllByRecursion}
use Rattle.siri_records.specs.declared.item.Item.{Item}
use Rattle.siri_records.specs.declared.item.Item.TheVariants as item
use Rattle.siri_records.specs.declared.item.Service.{Service}
use Rattle.siri_records.specs.declared.item.Service.TheVariants as service
use Rattle.siri_records.specs.declared.key.Key.{Key}
use Rattle.siri_records.specs.Ends.{is_dead, is_closed}
use Rattle.siri_topic.specs.declared.topics.Topic.{Topic}
use Rattle.siri_topic.specs.declared.topics.Topic.TheVariants as topic
use Rattle.siri_topic.specs.Agreement.{agrees}
use Rattle.siri_topic.specs.Shown.{is_in, window_of, is_shown}
use Rattle.siri_messages.specs.declared.deliveries.ServiceDelivery.{ServiceDelivery}
use Rattle.siri_messages.specs.declared.message.Message.TheVariants as message
use Rattle.siri_messages.specs.declared.requests.ServiceRequest.{ServiceRequest}
use Rattle.siri_model.specs.Direct.{shown, at_most, most_of, answering, answer, response}
use Rattle.siri_model.specs.History.{History, entries_of, now_of, current}
use Rattle.siri_model.proofs.Current.{few_live}
use Rattle.siri_responder.proofs.Shown.{response_live}
use Rattle.siri_tables.specs.Proper.{IsName, IsMoment, IsListWithin}
use Rattle.siri_items.specs.Proper.{IsProper as IsProperItem}
use Rattle.siri_wire.specs.Canonical.{canonical}
use Rattle.siri_wire.specs.Documents.{message_of}
use Rattle.siri_wire.specs.laws.ProperDeliveries.{IsProperOf, IsProperDelivery, IsProperServiceDelivery}
use Rattle.siri_wire.specs.laws.ProperMessages.{IsProper}
use Rattle.siri_wire.specs.laws.ProperRequests.{IsProperTopic, IsProperServiceRequest}
use Rattle.siri_wire.proofs.BackDocuments.{canonical_read}
use Rattle.siri_wire.proofs.ProperReadMessages.{document_proper}
use Rattle.siri_laws.specs.ProperHistories.{IsProperEntry, IsProperHistory}
use Rattle.siri_laws.proofs.Current.{AreProper, entries_proper, moment_proper, current_proper}
use Rattle.siri_deliveries.specs.Limits.{most_entries}
use Rattle.siri_records.specs.Keyed.{most_live}
use Rattle.siri_json.specs.Tree.{longest_document}
use Rattle.siri_records.specs.Services.{service_of}

-- ---- what is shown to a topic is of its service

both_hold : (a b : Bool) → a && b ≡ true → a ≡ true
both_hold true b e = refl
both_hold false b e = absurd cc

agrees_of : (s : Service) (t : Topic) (i : Item) → IsProperTopic s t → agrees t i ≡ true → service_of i ≡ s
agrees_of service.Stop (topic.Stop t) (item.Visit v) p e = refl
agrees_of service.Stop (topic.Stop t) (item.Journey j) p e = absurd cc
agrees_of service.Stop (topic.Stop t) (item.Vehicle v) p e = absurd cc
agrees_of service.Stop (topic.Stop t) (item.Situation s) p e = absurd cc
agrees_of service.Timetable (topic.Timetable t) (item.Visit v) p e = absurd cc
agrees_of service.Timetable (topic.Timetable t) (item.Journey j) p e = refl
agrees_of service.Timetable (topic.Timetable t) (item.Vehicle v) p e = absurd cc
agrees_of service.Timetable (topic.Timetable t) (item.Situation s) p e = absurd cc
agrees_of service.Vehicle (topic.Vehicle t) (item.Visit v) p e = absurd cc
agrees_of service.Vehicle (topic.Vehicle t) (item.Journey j) p e = absurd cc
agrees_of service.Vehicle (topic.Vehicle t) (item.Vehicle v) p e = refl
agrees_of service.Vehicle (topic.Vehicle t) (item.Situation s) p e = absurd cc
agrees_of service.Situation (topic.Situation t) (item.Visit v) p e = absurd cc
agrees_of service.Situation (topic.Situation t) (item.Journey j) p e = absurd cc
agrees_of service.Situation (topic.Situation t) (item.Vehicle v) p e = absurd cc
agrees_of service.Situation (topic.Situation t) (item.Situation s) p e = refl
agrees_of service.Stop (topic.Timetable t) i p e = absurd p
agrees_of service.Stop (topic.Vehicle t) i p e = absurd p
agrees_of service.Stop (topic.Situation t) i p e = absurd p
agrees_of service.Timetable (topic.Stop t) i p e = absurd p
agrees_of service.Timetable (topic.Vehicle t) i p e = absurd p
agrees_of service.Timetable (topic.Situation t) i p e = absurd p
agrees_of service.Vehicle (topic.Stop t) i p e = absurd p
agrees_of service.Vehicle (topic.Timetable t) i p e = absurd p
agrees_of service.Vehicle (topic.Situation t) i p e = absurd p
agrees_of service.Situation (topic.Stop t) i p e = absurd p
agrees_of service.Situation (topic.Timetable t) i p e = absurd p
agrees_of service.Situation (topic.Vehicle t) i p e = absurd p

shown_of : (s : Service) (t : Topic) (i : Item) (now : ℕ) → IsProperTopic s t → is_shown t i now ≡ true → service_of i ≡ s
shown_of s t i now p e = agrees_of s t i p
    (both_hold (agrees t i) (not (is_closed i))
    (both_hold (agrees t i && not (is_closed i)) (is_in (window_of t now) now i) e))

-- ---- lists

keeps_at : {X : Type 0} (P Q : X → Type 0) (b : Bool) (x : X) (rest : List X) → (b ≡ true → Q x) → AllByRecursion Q rest
    → AllByRecursion Q (if b then x ∷ rest else rest)
keeps_at P Q true x rest h all = (h refl, all)
keeps_at P Q false x rest h all = all

-- of those that pass a test that gives Q of what P holds of
keeps : {X : Type 0} (P Q : X → Type 0) (test : X → Bool) → ((x : X) → P x → test x ≡ true → Q x) → (xs : List X)
    → AllByRecursion P xs → AllByRecursion Q (filter test xs)
keeps P Q test h [] all = tt
keeps P Q test h (x ∷ xs) all = keeps_at P Q (test x) x (filter test xs) (λ e. h x all.0 e) (keeps P Q test h xs all.1)

fewer_at : {X : Type 0} (b : Bool) (x : X) (rest : List X) (n : ℕ) → length rest ≤ n → length (if b then x ∷ rest else rest) ≤ suc n
fewer_at true x rest n le = omega (arith, le)
fewer_at false x rest n le = omega (arith, le)

fewer : {X : Type 0} (test : X → Bool) (xs : List X) → length (filter test xs) ≤ length xs
fewer test [] = omega arith
fewer test (x ∷ xs) = fewer_at (test x) x (filter test xs) (length xs) (fewer test xs)

mapped : {X Y : Type 0} (f : X → Y) (P : X → Type 0) (Q : Y → Type 0) → ((x : X) → P x → Q (f x)) → (xs : List X)
    → AllByRecursion P xs → AllByRecursion Q (map f xs)
mapped f P Q h [] all = tt
mapped f P Q h (x ∷ xs) all = (h x all.0, mapped f P Q h xs all.1)

as_many : {X Y : Type 0} (f : X → Y) (xs : List X) → length (map f xs) ≡ length xs
as_many f [] = refl
as_many f (x ∷ xs) = ap suc (as_many f xs)

-- ---- an answer

-- a delivery has room for all that is live
live_fit : most_live ≤ most_entries
live_fit = omega arith

-- an entry of the items, of a service
abbrev IsOf : Service → Key × Item → Type 0
IsOf s e = IsProperOf s e.1

shown_proper : (s : Service) (t : Topic) (now : ℕ) (items : List (Key × Item)) → IsProperTopic s t → AreProper items
    → AllByRecursion (IsOf s) (shown now items t)
shown_proper s t now items p all = keeps (λ e. IsProperItem e.1) (IsOf s) (λ e. is_shown t e.1 now)
    (λ e is shows. record { proper = is; of_service = shown_of s t e.1 now p shows }) items all

cut_proper : (s : Service) (most : Option ℕ) (items : List (Key × Item)) → AllByRecursion (IsOf s) items → AllByRecursion (IsOf s) (at_most most items)
cut_proper s None items all = all
cut_proper s (Some most) items all = keeps (IsOf s) (IsOf s) _ (λ e is shows. is) items all

cut_few : (most : Option ℕ) (items : List (Key × Item)) → length (at_most most items) ≤ length items
cut_few None items = omega arith
cut_few (Some most) items = fewer _ items

answering_proper : (s : Service) (t : Topic) (now : ℕ) (items : List (Key × Item)) → IsProperTopic s t → AreProper items
    → length items ≤ most_live → IsListWithin most_entries (IsProperOf s) (answering now items t)
unfolding answering
answering_proper s t now items p all few =
    let cut = at_most (most_of t) (shown now items t) in
    let same = as_many (λ (e : Key × Item). e.1) cut in
    let less = cut_few (most_of t) (shown now items t) in
    let fewer_shown = fewer (λ (e : Key × Item). is_shown t e.1 now) items in
    record {
      bound = omega (arith, same, less, fewer_shown, few, live_fit);
      each = mapped (λ (e : Key × Item). e.1) (IsOf s) (IsProperOf s) (λ e is. is) cut
          (cut_proper s (most_of t) (shown now items t) (shown_proper s t now items p all));
    }

answer_proper : (s : Service) (now : ℕ) (items : List (Key × Item)) → IsMoment now → AreProper items
    → length items ≤ most_live → (t : Topic) → IsProperTopic s t → IsProperDelivery s (answer now items t)
unfolding answer
answer_proper s now items moment all few t p = (
  (moment, (tt, (tt, (tt, (tt, tt))))),
  (
    record { start = tt; round = tt; part = tt; start_stands = refl; part_stands = refl },
    (
      answering_proper s t now items p all few,
      (
        record { bound = omega arith; each = tt },
        tt,
      ),
    ),
  ),
)

answers_proper : (s : Service) (now : ℕ) (items : List (Key × Item)) (topics : List Topic) → IsMoment now
    → AreProper items → length items ≤ most_live → IsListWithin 100 (IsProperTopic s) topics
    → IsListWithin 100 (IsProperDelivery s) (map (answer now items) topics)
answers_proper s now items topics moment all few p =
    let same = as_many (answer now items) topics in
    record {
      bound = omega (arith, same, p.bound);
      each = mapped (answer now items) (IsProperTopic s) (IsProperDelivery s) (answer_proper s now items moment all few) topics p.each;
    }

-- ---- a response

pub of_items : (name : List ℕ) (now : ℕ) (items : List (Key × Item)) (request : ServiceRequest) → IsName name
    → IsMoment now → AreProper items → length items ≤ most_live → IsProperServiceRequest request
    → IsProperServiceDelivery (response name now items request)
unfolding response
of_items name now items request named moment all few p = (
  moment,
  (
    named,
    (
      tt,
      (
        p.0.1.1.0,
        (
          tt,
          (
            tt,
            (
              tt,
              (
                answers_proper service.Stop now items request.stop_monitoring_request moment all few p.0.1.1.1.0,
                (
                  answers_proper service.Timetable now items request.estimated_timetable_request moment all few p.0.1.1.1.1.0,
                  (
                    answers_proper service.Vehicle now items request.vehicle_monitoring_request moment all few p.0.1.1.1.1.1.0,
                    (
                      answers_proper service.Situation now items request.situation_exchange_request moment all few p.0.1.1.1.1.1.1.0,
                      tt,
                    ),
                  ),
                ),
              ),
            ),
          ),
        ),
      ),
    ),
  ),
)

-- those of the items that aren't dead
abbrev alive : ℕ → List (Key × Item) → List (Key × Item)
alive now items = filter (λ e. not (is_dead e.1 now)) items

pub of_history : (name : List ℕ) (h : History) (request : ServiceRequest) → IsName name → IsProperHistory h → IsProperServiceRequest request
    → IsProper (message.ServiceDelivery (response name (now_of h) (current h) request))
of_history name h request named p asked =
    let all : AreProper (alive (now_of h) (current h)) =
    keeps (λ e. IsProperItem e.1) (λ e. IsProperItem e.1) _ (λ e is shows. is) (current h) (current_proper h p) in
    subst (λ (r : ServiceDelivery). IsProperServiceDelivery r) (response_live name (now_of h) (current h) request)
    (of_items name (now_of h) (alive (now_of h) (current h)) request named (moment_proper h p) all (few_live h) asked)

pub read_again : (name : List ℕ) (h : History) (request : ServiceRequest) → IsName name → IsProperHistory h → IsProperServiceRequest request
    → length (canonical (message.ServiceDelivery (response name (now_of h) (current h) request))) ≤ longest_document
    → message_of (canonical (message.ServiceDelivery (response name (now_of h) (current h) request))) ≡ Ok
    (message.ServiceDelivery (response name (now_of h) (current h) request))
read_again name h request named p asked few = canonical_read
    (message.ServiceDelivery (response name (now_of h) (current h) request))
    (of_history name h request named p asked) few

pub feed_proper : (document : List ℕ) (d : ServiceDelivery) → message_of document ≡ Ok (message.ServiceDelivery d) → AllByRecursion IsProperEntry (entries_of d)
feed_proper document d read = entries_proper d (document_proper document (message.ServiceDelivery d) read)
