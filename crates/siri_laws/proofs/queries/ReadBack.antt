-- The document of a request's target is read as the request.
use Rattle.std.proofs.Common.{◌≡◌, ℕ, ◌+◌, ◌≤◌, Bool, true, false, List, [], ◌∷◌, ◌++◌, length, nat_lt, Option, Some, None, Ok, refl, sym, ap, ◌∙◌, subst, arith, length-drop}
use Rattle.std.specs.Prelude.{option_and_then, option_map, if◌then◌else◌, ◌==◌}
use Rattle.std.specs.List.{position_or_len}
use Rattle.std.proofs.lemmas.Bool.{le-ltb, ltb-false}
use Rattle.serde_json.specs.Data.{Data, null, boolean, number, string, array, object, Items, no_items, item, Members, no_members}
use Rattle.serde_json.specs.Data.{member as one_member, depth}
use Rattle.serde_json.specs.Read.{max_depth}
use Rattle.serde_json.specs.Written.{compact_text}
use Rattle.siri_json.specs.Canonical.{as_texts, items_as_texts, members_as_texts}
use Rattle.siri_json.specs.Tree.{tree_of, longest_document}
use Rattle.siri_json.proofs.AsTexts.{canonical_as_texts, depth-as_texts}
use Rattle.siri_json.proofs.Read.{tree_of-compact_text}
use Rattle.siri_records.specs.declared.item.Service.{Service}
use Rattle.siri_records.specs.declared.item.Service.TheVariants as service
use Rattle.siri_topic.specs.declared.topics.Topic.{Topic}
use Rattle.siri_messages.specs.declared.message.Message.{Message}
use Rattle.siri_messages.specs.declared.message.Message.TheVariants as message
use Rattle.siri_messages.specs.declared.requests.ServiceRequest.{ServiceRequest}
use Rattle.siri_tables.specs.Writing.{row_object}
use Rattle.siri_tables.proofs.RowSpells.{some_is}
use Rattle.siri_deliveries.specs.declared.names.TheConstants.{SIRI, SERVICE_REQUEST}
use Rattle.siri_wire.specs.Canonical.{written_body, written_message}
use Rattle.siri_wire.specs.Documents.{message_of}
use Rattle.siri_wire.specs.laws.ProperMessages.{IsProper}
use Rattle.siri_wire.specs.laws.ProperRequests.{IsProperServiceRequest}
use Rattle.siri_wire.proofs.BackDocuments.{message_back, message_within}
use Rattle.siri_queries.specs.Documents.{list_of_one, request_name, document_tree, document_of}
use Rattle.siri_queries.specs.Pairs.{path_in, query_in}
use Rattle.siri_queries.specs.Paths.{path_of, service_at}
use Rattle.siri_queries.specs.Targets.{behind_path, form_of, query_topic, target_of, topic_target, unless_too_long}
use Rattle.siri_queries.proofs.Bounds.{document_within}
use Rattle.siri_laws.specs.queries.Queried.{queried}
use Rattle.siri_laws.proofs.queries.AskedTopics.{asked_is}
use Rattle.siri_laws.proofs.queries.OnlyTopics.{IsAsked, topic_asked}
use Rattle.siri_topic.specs.Services.{service_asked}

-- ---- the target

-- the path and the query of a target
record IsTargetOf (s : Service) (form target : List ℕ) : Type 0 where
  service : service_at (path_in target) ≡ Some s
  query : query_in target ≡ form

parts_are : (s : Service) (form : List ℕ) → IsTargetOf s form (path_of s ++ behind_path form)
parts_are service.Stop [] = record { service = refl; query = refl }
parts_are service.Stop (b ∷ bs) = record { service = refl; query = refl }
parts_are service.Timetable [] = record { service = refl; query = refl }
parts_are service.Timetable (b ∷ bs) = record { service = refl; query = refl }
parts_are service.Vehicle [] = record { service = refl; query = refl }
parts_are service.Vehicle (b ∷ bs) = record { service = refl; query = refl }
parts_are service.Situation [] = record { service = refl; query = refl }
parts_are service.Situation (b ∷ bs) = record { service = refl; query = refl }

-- a target that isn't too long
record FitsIn (whole target : List ℕ) : Type 0 where
  same : whole ≡ target
  short : length target ≤ 16384

fits : (whole target : List ℕ) (long : Bool) → nat_lt 16384 (length whole) ≡ long
    → (if long then None else Some whole) ≡ Some target → FitsIn whole target
fits whole target true is e = absurd (cc e)
fits whole target false is e =
    let same = some_is whole target e in
    record { same = same; short = subst (λ (t : List ℕ). length t ≤ 16384) same (ltb-false 16384 (length whole) is) }

-- the target of a request is that of its one topic
record IsTarget (r : ServiceRequest) (target : List ℕ) : Type 0 where
  topic : Topic
  found : query_topic r ≡ Some topic
  fitting : FitsIn (topic_target topic) target

target_topic : (r : ServiceRequest) (target : List ℕ) (o : Option Topic) → query_topic r ≡ o
    → option_and_then (λ t. unless_too_long (topic_target t)) o ≡ Some target → IsTarget r target
target_topic r target None is e = absurd (cc e)
target_topic r target (Some t) is e = record {
  topic = t;
  found = is;
  fitting = fits (topic_target t) target (nat_lt 16384 (length (topic_target t))) refl e;
}

-- ---- the document

-- the document of a topic's query is the request as it is written, with texts for its numbers
tree_is : (r : ServiceRequest) (t : Topic) → IsAsked r t
    → document_tree (service_asked t) (form_of t) ≡ as_texts (written_message (message.ServiceRequest (queried r)))
unfolding written_message written_body
tree_is r t asked =
    ap (λ (d : Data). row_object ((SIRI.now, Some (row_object ((SERVICE_REQUEST.now, Some d) ∷ []))) ∷ []))
    (ap (list_of_one (request_name (service_asked t))) (asked_is t asked.proper asked.one_line) ∙ sym asked.written)

queried_proper : (r : ServiceRequest) → IsProperServiceRequest r → IsProper (message.ServiceRequest (queried r))
queried_proper r p = ((tt, (tt, (tt, p.0.1.1.1))), p.1)

-- texts for numbers, once and twice
mutual
  texts_again : (d : Data) → as_texts (as_texts d) ≡ as_texts d
  texts_again null = refl
  texts_again (boolean b) = refl
  texts_again (number n) = refl
  texts_again (string s) = refl
  texts_again (array ds) = rw (items_again ds) refl
  texts_again (object ms) = rw (members_again ms) refl

  items_again : (ds : Items) → items_as_texts (items_as_texts ds) ≡ items_as_texts ds
  items_again no_items = refl
  items_again (item d ds) = rw (texts_again d, items_again ds) refl

  members_again : (ms : Members) → members_as_texts (members_as_texts ms) ≡ members_as_texts ms
  members_again no_members = refl
  members_again (one_member k d ms) = rw (texts_again d, members_again ms) refl

-- what is read of a message that is written with texts for its numbers
texts_read : (m : Message) → IsProper m → tree_of (compact_text (as_texts (written_message m))) ≡ Some (as_texts (written_message m))
texts_read m p =
    let within = message_within m p in
    let shallow : depth (as_texts (written_message m)) ≤ max_depth = rw (depth-as_texts (written_message m)) (omega (arith, within.shallow)) in
    tree_of-compact_text (as_texts (written_message m)) (canonical_as_texts (written_message m) within.canonical) shallow
    ∙ ap Some (texts_again (written_message m))

document_read : (m : Message) (document : List ℕ) → IsProper m → document ≡ compact_text (as_texts (written_message m))
    → length document ≤ longest_document → message_of document ≡ Ok m
unfolding message_of
document_read m document p is le =
    let short : nat_lt longest_document (length document) ≡ false = le-ltb _ _ le in
    let tree : tree_of document ≡ Some (as_texts (written_message m)) = ap tree_of is ∙ texts_read m p in
    rw (short, tree) (message_back m p)

-- ---- a request's query

query_short : (target : List ℕ) → length target ≤ 16384 → length (query_in target) ≤ 16384
query_short target short = omega (arith, short, length-drop (position_or_len (λ (b : ℕ). b == 63) target + 1) target)

pub read_back : (r : ServiceRequest) (target : List ℕ) → IsProperServiceRequest r → target_of r ≡ Some target
    → (document : List ℕ) × (document_of target ≡ Some document) × (message_of document ≡ Ok (message.ServiceRequest (queried r)))
read_back r target p e =
    let is = target_topic r target (query_topic r) refl e in
    let lists = p.0.1.1.1 in
    let asked = topic_asked r is.topic lists.0.each lists.1.0.each lists.1.1.0.each lists.1.1.1.0.each is.found in
    let s = service_asked is.topic in
    let parts = subst (IsTargetOf s (form_of is.topic)) is.fitting.same (parts_are s (form_of is.topic)) in
    let document = compact_text (document_tree s (query_in target)) in
    let written : document ≡ compact_text (as_texts (written_message (message.ServiceRequest (queried r)))) =
    ap (λ (query : List ℕ). compact_text (document_tree s query)) parts.query ∙ ap compact_text (tree_is r is.topic asked) in (
      document,
      ap (option_map (λ s. compact_text (document_tree s (query_in target)))) parts.service,
      document_read (message.ServiceRequest (queried r)) document (queried_proper r p) written
          (document_within s (query_in target) (query_short target is.fitting.short)),
    )
