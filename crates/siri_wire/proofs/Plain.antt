-- Documents that hold a ServiceDelivery in Siri, and nothing else.
use Rattle.std.proofs.Common.{◌≡◌, ◌-◌, ◌<◌, ◌≤◌, ℕ, List, [], ◌∷◌, length, false, nat_lt, Some, Result, Ok, Err, refl, ap, ◌∙◌, arith}
use Rattle.std.specs.Prelude.{IsUtf8, IfOk}
use Rattle.std.proofs.lemmas.Bool.{le-ltb}
use Rattle.json.specs.Json.{Json, Members, no_members, member, object, value, parse_map}
use Rattle.json.specs.Lex.{tokens}
use Rattle.json.specs.Token.{Token, begin_object, end_object, key}
use Rattle.json.proofs.Grammar.{members_end, members_more, value-begin_object}
use Rattle.serde_json.specs.Read.{max_depth}
use Rattle.siri_json.specs.Shown.{data_of, whole}
use Rattle.siri_json.specs.Tree.{longest_document}
use Rattle.siri_json.specs.Values.{member_of, object_in}
use Rattle.siri_json.proofs.Direct.{tree_is}
use Rattle.siri_json.proofs.Texts.{said_is}
use Rattle.siri_messages.specs.declared.deliveries.ServiceDelivery.{ServiceDelivery}
use Rattle.siri_messages.specs.declared.message.Message.TheVariants as message
use Rattle.siri_tables.specs.Rules.{table, row, required_row}
use Rattle.siri_deliveries.specs.Deliveries.{service_delivery}
use Rattle.siri_deliveries.specs.declared.names.TheConstants.{SIRI, SERVICE_DELIVERY}
use Rattle.siri_deliveries.proofs.AsItComes.{shorter}
use Rattle.siri_wire.specs.Documents.{root, siri, holds, only_held, message_of}

-- an object of one member
one_member : (depth : ℕ) (k : List ℕ) (ts r : List Token) (j : Json) → 0 < depth → value (depth - 1) ts ≡ Some (j, end_object ∷ r)
    → value depth (begin_object ∷ key k ∷ ts) ≡ Some (object (member k j no_members), r)
one_member depth k ts r j deep came =
    let p = value (depth - 1) in
    let less = shorter (depth - 1) ts (end_object ∷ r) j came in
    let all = length (key k ∷ ts) in
    value-begin_object depth (key k ∷ ts) deep
    ∙ ap (parse_map object) (members_more p all k (key k ∷ ts) ts (end_object ∷ r) j (omega arith) refl came
    ∙ ap (parse_map (member k j)) (members_end p (all - 1) (end_object ∷ r) r (omega (arith, less)) refl))

-- what holds the object in Siri
abbrev pub document_with : Members → Json
document_with ms = object (member SIRI.now (object (member SERVICE_DELIVERY.now (object ms) no_members)) no_members)

pub says : (all first second after : List Token) (ms : Members) → all ≡ begin_object ∷ key SIRI.now ∷ first
    → first ≡ begin_object ∷ key SERVICE_DELIVERY.now ∷ second → value 125 second ≡ Some (object ms, after)
    → after ≡ end_object ∷ end_object ∷ [] → whole (value max_depth all) ≡ Some (document_with ms)
says all first second after ms a b came c =
    let inner = one_member 126 SERVICE_DELIVERY.now second (end_object ∷ []) (object ms) (omega arith) (came ∙ ap (λ (ts : List Token). Some (object ms, ts)) c) in
    let outer = one_member 127 SIRI.now first [] (object (member SERVICE_DELIVERY.now (object ms) no_members)) (omega arith) (ap (value 126) b ∙ inner) in
    ap whole (ap (value 127) a ∙ outer)

pub root_is : (ms : Members) (d : ServiceDelivery) → service_delivery (data_of (object ms)) ≡ Ok d
    → root (data_of (document_with ms)) ≡ Ok (message.ServiceDelivery d)
unfolding root required_row row table siri only_held holds member_of object_in
root_is ms d e = rw e refl

pub message_is : (document : List ℕ) (j : Json) (d : ServiceDelivery) → IsUtf8 document → length document ≤ longest_document
    → whole (value max_depth (tokens document)) ≡ Some j → root (data_of j) ≡ Ok (message.ServiceDelivery d)
    → message_of document ≡ Ok (message.ServiceDelivery d)
unfolding message_of
message_is document j d utf8 short says is =
    let fits : nat_lt longest_document (length document) ≡ false = le-ltb _ _ short in
    rw (fits, tree_is document j (said_is document j utf8 says)) is

pub where_ok : {A E : Type 0} (r : Result A E) (P Q : A → Type 0) → ((x : A) → P x → Q x) → IfOk r P → IfOk r Q
where_ok (Ok x) P Q h p = h x p
where_ok (Err e) P Q h p = tt
