-- There are connections in the places of others.
use Rattle.std.proofs.Common.{◌≡◌, ◌≤◌, ◌+◌, inl, inr, ℕ, Bool, true, false, cond, List, [], ◌∷◌, ◌++◌, Option, None, Some, Ok, Err, Result, option_map, take, length, codes, refl, sym, ap}
use Rattle.std.proofs.Common.{◌∙◌, subst, arith, length-append, length-take, length-drop, is_some}
use Rattle.std.specs.Prelude.{⊤, MatchBool, ◌==◌, bytes_eq, nat_lt, unwrap_or}
use Rattle.std.specs.List.{position_or_len}
use Rattle.std.proofs.lemmas.Bool.{false≢true}
use Rattle.std.proofs.lemmas.Slice.Eq.{bytes_eq-Decides}
use Rattle.httparse.specs.Grammar.{RequestHead, ReadsRequest, print_blank, print_end, print_section, print_version}
use Rattle.httparse.proofs.GrammarLemmas.{print_request-append}
use Rattle.serde_json.specs.Written.{compact_text}
use Rattle.siri_outside.specs.Wires.{Connection}
use Rattle.siri_records.specs.declared.item.Service.{Service}
use Rattle.siri_http.specs.declared.errors.HttpError.{HttpError}
use Rattle.siri_http.specs.declared.errors.HttpError.TheVariants as http
use Rattle.siri_http.specs.Addresses.{address_of}
use Rattle.siri_http.specs.Bodies.{body_length, longest_body}
use Rattle.siri_http.specs.Connections.{cut_of, readable}
use Rattle.siri_http.specs.Heads.{full_lines, head_text}
use Rattle.siri_http.specs.Messages.{Brings, Head, IsHead, IsRequest, RequestLine, body_in, head_says, message_after, message_by, told_with}
use Rattle.siri_http.specs.Requests.{WholeRequest}
use Rattle.siri_http.specs.Texts.{request_text}
use Rattle.siri_http.proofs.Alone.{message_is}
use Rattle.siri_http.proofs.HeadTexts.{head_text_is}
use Rattle.siri_laws.specs.http.Written.{holding}
use Rattle.siri_laws.proofs.http.OneRequest.{brings_one}
use Rattle.siri_laws.proofs.http.ReadBack.{post_as_written}
use Rattle.siri_queries.specs.Documents.{document_of, document_tree}
use Rattle.siri_queries.specs.Pairs.{path_in, query_in}
use Rattle.siri_queries.specs.Paths.{service_at}
use Rattle.siri_queries.proofs.Bounds.{document_within}
use Rattle.siri_laws.specs.lite.Places.{BringsGet, BringsNoQuery, HasOneInItsPlace, HasPost, HoldsItsPost, IsInPlace}

pub has_post : HasPost
has_post text address document after write_fails of_text fits = record {
  brings = post_as_written text address document after write_fails of_text fits;
  unfailing = refl;
}

-- ---- how long a target is that was brought

mapped_short : {A : Type 0} (f : A → List ℕ) (most : ℕ) → ((a : A) → length (f a) ≤ most) → (o : Option A) (text : List ℕ)
    → option_map f o ≡ Some text → length text ≤ most
mapped_short f most short None text is = absurd (false≢true (ap is_some is))
mapped_short f most short (Some a) text is =
    let same : f a ≡ text = ap (λ o. unwrap_or o text) is in
    subst (λ t. length t ≤ most) same (short a)

head_short : (input text : List ℕ) → head_text input ≡ Some text → length text ≤ 16384
head_short input text is =
    mapped_short _ 16384 (λ head. omega (arith, length-take head.len (take 16384 input), length-take 16384 input)) _ text
    (sym (head_text_is input) ∙ is)

request_short : (text : List ℕ) (h : RequestHead) → ReadsRequest text h [] → length h.target ≤ length text
request_short text h reads =
    let end = print_version h.minor ++ (print_end h.line_end ++ (print_section h.fields h.last ++ [])) in
    omega (
      arith,
      ap length (reads.1 ∙ print_request-append h []),
      length-append (print_blank h.blank) (h.method ++ 32 ∷ (h.target ++ 32 ∷ end)),
      length-append h.method (32 ∷ (h.target ++ 32 ∷ end)),
      length-append h.target (32 ∷ end),
    )

abbrev told_of : Result (RequestLine × ℕ) HttpError → RequestLine → RequestLine
told_of (Ok says) other = says.0
told_of (Err e) other = other

abbrev line_of : Result WholeRequest HttpError → RequestLine → RequestLine
line_of (Ok request) other = request.0
line_of (Err e) other = other

module _ (cut : HttpError) (input : List ℕ) (request : WholeRequest) where
  -- what the head text says is what the message says
  body_line : (told : RequestLine) (body : Result (List ℕ) HttpError) → told_with told body ≡ Ok request → told ≡ request.0
  body_line told (Ok body) is = ap (λ r. line_of r told) is
  body_line told (Err e) is = absurd (cc is)

  after_line : (len : ℕ) (says : Result (RequestLine × ℕ) HttpError) → message_after len says cut input ≡ Ok request
      → (count : ℕ) × (says ≡ Ok (request.0, count))
  after_line len (Err e) is = absurd (cc is)
  after_line len (Ok says) is = (says.1, ap (λ line. Ok (line, says.1)) (body_line says.0 (body_in len says.1 cut input) is))

  head_line : (text : List ℕ) (head : Option (Head RequestLine)) (count : ℕ) → IsRequest text head
      → head_says head ≡ Ok (request.0, count) → length request.0.1 ≤ length text
  head_line text None count none is = absurd (cc is)
  head_line text (Some head) count some is =
      let h = some.0 in
      let line : (h.method, h.target) ≡ request.0 = ap (λ (head : Head RequestLine). head.told) (sym some.2)
      ∙ body_line_of head.told (body_length head.wanted head.fields) is in
      let short = request_short text h some.1 in
      subst (λ (line : RequestLine). length line.1 ≤ length text) line short
    where
      body_line_of : (told : RequestLine) (body : Result ℕ HttpError) → told_with told body ≡ Ok (request.0, count) → told ≡ request.0
      body_line_of told (Ok body) is = ap (λ r. told_of r told) is
      body_line_of told (Err e) is = absurd (cc is)

  text_line : (text : List ℕ) (long : Bool) (head : Option (Head RequestLine)) (count : ℕ)
      → MatchBool long ⊤ (IsRequest text head) → cond long (Err http.HeadTooLong) (head_says head) ≡ Ok (request.0, count)
      → length request.0.1 ≤ length text
  text_line text true head count is_head is = absurd (cc is)
  text_line text false head count is_head is = head_line text head count is_head is

  by_line : (text : Option (List ℕ)) (head : Option (Head RequestLine)) → head_text input ≡ text → IsHead IsRequest text head
      → message_by text head cut input ≡ Ok request → length request.0.1 ≤ 16384
  by_line None head e is_head is = absurd (cc is)
  by_line (Some text) head e is_head is =
      let says = after_line (length text) (cond (nat_lt 65 (full_lines text)) (Err http.HeadTooLong) (head_says head)) is in
      let within = text_line text (nat_lt 65 (full_lines text)) head says.0 is_head says.1 in
      omega (arith, within, head_short input text e)

target_short : (connection : Connection) (request : WholeRequest) → Brings IsRequest connection (Ok request) → length request.0.1 ≤ 16384
target_short connection request b =
    let input = readable connection in
    by_line (cut_of connection) input request (head_text input) b.head refl b.is_head
    (sym (b.message_is ∙ message_is b.head (cut_of connection) input))

-- ---- so its document is no longer than a body may be

query_short : (target : List ℕ) → length target ≤ 16384 → length (query_in target) ≤ 16384
query_short target short = omega (arith, short, length-drop (position_or_len (λ (b : ℕ). b == 63) target + 1) target)

document_short : (target document : List ℕ) (s : Option Service) → service_at (path_in target) ≡ s → length target ≤ 16384
    → option_map (λ s. compact_text (document_tree s (query_in target))) s ≡ Some document → length document ≤ longest_body
document_short target document None e short is = absurd (false≢true (ap is_some is))
document_short target document (Some s) e short is =
    let same : compact_text (document_tree s (query_in target)) ≡ document = ap (λ o. unwrap_or o document) is in
    subst (λ d. length d ≤ longest_body) same (document_within s (query_in target) (query_short target short))

-- ---- the connection in its place

-- an address, of whatever host
abbrev anywhere : List ℕ
anywhere = codes "http://localhost"

abbrev localhost : List ℕ × List ℕ
localhost = (codes "localhost:80", codes "/")

anywhere_is : address_of anywhere ≡ Some localhost
unfolding address_of
anywhere_is = refl

post_of : (connection : Connection) (target body document : List ℕ) → BringsGet target body connection
    → document_of target ≡ Some document → (other : Connection) × HoldsItsPost connection other
post_of connection target body document brings is =
    let short = document_short target document (service_at (path_in target)) refl
    (target_short connection ((codes "GET", target), body) brings) is in (
      holding (request_text localhost.0 localhost.1 document) [] connection.write_fails,
      record {
        target = target;
        body = body;
        document = document;
        brings = brings;
        document_is = is;
        path = localhost.1;
        holds = has_post anywhere localhost document [] connection.write_fails (omega arith, anywhere_is) short;
        write_fails = refl;
      },
    )

module _ (connection : Connection) where
  itself : BringsNoQuery connection → (other : Connection) × IsInPlace connection other
  itself none = (connection, inr (none, refl))

  refused_one : (e : HttpError) → Brings IsRequest connection (Err e) → BringsNoQuery connection
  refused_one e brings target body document get is =
      absurd (cc (brings_one connection (Err e) (Ok ((codes "GET", target), body)) brings get))

  module _ (request : WholeRequest) (brings : Brings IsRequest connection (Ok request)) where
    -- what another request tells that the connection brings
    same_line : (target body : List ℕ) → BringsGet target body connection → request.0 ≡ (codes "GET", target)
    same_line target body get =
        ap (λ r. line_of r request.0) (brings_one connection (Ok request) (Ok ((codes "GET", target), body)) brings get)

    by_document : (document : Option (List ℕ)) → document_of request.0.1 ≡ document → request.0.0 ≡ codes "GET"
        → (other : Connection) × IsInPlace connection other
    by_document None e get = itself (λ target body document brings_get is.
        false≢true (ap is_some (sym e ∙ ap (λ (line : RequestLine). document_of line.1) (same_line target body brings_get) ∙ is)))
    by_document (Some document) e get =
        let post = post_of connection request.0.1 request.1 document
        (subst (λ m. Brings IsRequest connection (Ok ((m, request.0.1), request.1))) get brings) e in
        (post.0, inl post.1)

    by_method : (get : Bool) → bytes_eq request.0.0 (codes "GET") ≡ get → (other : Connection) × IsInPlace connection other
    by_method true e = by_document (document_of request.0.1) refl ((bytes_eq-Decides request.0.0 (codes "GET")).0 e)
    by_method false e = itself (λ target body document brings_get is.
        false≢true (sym e ∙ ap (λ (line : RequestLine). bytes_eq line.0 (codes "GET")) (same_line target body brings_get)))

pub has_one : HasOneInItsPlace
has_one connection (Err e) brings = itself connection (refused_one connection e brings)
has_one connection (Ok request) brings = by_method connection request brings (bytes_eq request.0.0 (codes "GET")) refl
