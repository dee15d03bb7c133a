-- What a connection asks is asked of the one in its place.
use Rattle.std.proofs.Common.{◌≡◌, inl, inr, ℕ, Bool, true, false, cond, List, Option, None, Some, Ok, Err, codes, refl, sym, ap, ◌∙◌, subst, is_some}
use Rattle.std.specs.Prelude.{⊤, MatchBool, bytes_eq, nat_eq}
use Rattle.std.specs.List.{starts_with}
use Rattle.std.proofs.lemmas.Bool.{and_parts, false≢true}
use Rattle.std.proofs.lemmas.Slice.Eq.{bytes_eq-Decides}
use Rattle.siri_outside.specs.Wires.{Connection, Present}
use Rattle.siri_http.specs.declared.errors.HttpError.{HttpError}
use Rattle.siri_http.specs.declared.errors.HttpError.TheVariants as http
use Rattle.siri_http.specs.declared.asked.Asked.{Asked}
use Rattle.siri_http.specs.declared.asked.Asked.TheVariants as asking
use Rattle.siri_http.specs.declared.asked.BadRequest.TheVariants as bad
use Rattle.siri_http.specs.Messages.{Brings, IsRequest, UnlessMemory, is_memory}
use Rattle.siri_http.specs.Requests.{Asks, Meaning, Request, WholeRequest, asked_of, post_alone, unasked_of}
use Rattle.siri_laws.proofs.http.OneRequest.{brings_one}
use Rattle.siri_queries.specs.Documents.{document_of}
use Rattle.siri_ends.specs.lite.Asking.{is_query, post_or_query, query_asked}
use Rattle.siri_ends.specs.lite.Replacing.{InPlaceOf}
use Rattle.siri_ends.proofs.Paths.{asks_its_document}
use Rattle.siri_ends.proofs.Posts.{post_is_read, read}
use Rattle.siri_laws.specs.lite.Places.{BringsGet, BringsNoQuery, HoldsItsPost, IsInPlace, IsInPlaceOfKnown, KnowsItsPath}
use Rattle.siri_laws.specs.lite.Served.{post_or_no_path}
use Rattle.siri_laws.proofs.lite.Told.{fresh}

-- what is asked of the connection in the place of another, after which it is in its place, too
pub record AsksSame (asks : Meaning) (asked : Asked) (second : Connection) (after : Present) : Type 0 where
  pub read : Present
  pub reads : Asks asks (Some asked) (fresh second) read
  pub same : InPlaceOf after read

-- what a connection asks by one meaning is asked by another of the one in its place
abbrev pub Swaps : (asks other_asks : Meaning) → (InPlace : Connection → Connection → Type 0) → Type 0
Swaps asks other_asks InPlace = (first second : Connection) (asked : Asked) (after : Present) → InPlace first second
    → Asks asks (Some asked) (fresh first) after → AsksSame other_asks asked second after

-- ---- what was brought

unless_memory : {P : Type 0} (e : HttpError) (asked : Asked) → Some asked ≡ unasked_of e → MatchBool (is_memory e) ⊤ P → P
unless_memory http.OutOfMemory asked is p = absurd (false≢true (ap is_some (sym is)))
unless_memory other asked is p = p

brought : (asks : Meaning) (request : Request) (asked : Asked) (connection : Connection) → Some asked ≡ asked_of asks request
    → UnlessMemory request (Brings IsRequest connection request) → Brings IsRequest connection request
brought asks (Ok request) asked connection is brings = brings
brought asks (Err e) asked connection is brings = unless_memory e asked is brings

-- ---- a query

module _ (first second : Connection) (asked : Asked) (after : Present) (h : HoldsItsPost first second)
    (a : Asks post_or_query (Some asked) (fresh first) after) where
  request_is : a.request ≡ Ok ((codes "GET", h.target), h.body)
  request_is = brings_one first a.request (Ok ((codes "GET", h.target), h.body))
      (brought post_or_query a.request asked first a.asked_is a.reads.brings) h.brings

  asked_is : Some asked ≡ Some (asking.Posted h.document)
  asked_is = a.asked_is ∙ ap (asked_of post_or_query) request_is ∙ ap Some (asks_its_document h.target h.document h.body h.document_is)

  -- its POST asks the same, by whatever meaning takes a POST
  post_asks : (asks : Meaning) → asks ((codes "POST", h.path), h.document) ≡ asking.Posted h.document
      → AsksSame asks asked second after
  post_asks asks posts = record {
    read = read h.path h.document (fresh second) h.holds;
    reads = record {
      request = Ok ((codes "POST", h.path), h.document);
      reads = post_is_read h.path h.document (fresh second) h.holds;
      asked_is = asked_is ∙ ap Some (sym posts);
    };
    same = record {
      written = sym a.reads.written;
      write_fails = h.write_fails ∙ sym a.reads.unwritten;
    };
  }

-- ---- any other connection

module _ (first : Connection) (none : BringsNoQuery first) where
  -- a request that it brings is no query of a known path
  module _ (request : WholeRequest) (brings : Brings IsRequest first (Ok request)) where
    is_get : is_query request.0.0 request.0.1 ≡ true → BringsGet request.0.1 request.1 first
    is_get query =
        let get : request.0.0 ≡ codes "GET" =
        (bytes_eq-Decides request.0.0 (codes "GET")).0
        (and_parts (bytes_eq request.0.0 (codes "GET")) (starts_with nat_eq request.0.1 (codes "/siri-lite/")) query).0 in
        subst (λ m. Brings IsRequest first (Ok ((m, request.0.1), request.1))) get brings

    refused : (document : Option (List ℕ)) → document_of request.0.1 ≡ document → is_query request.0.0 request.0.1 ≡ true
        → query_asked document ≡ asking.Refused bad.NoPath
    refused None e query = refl
    refused (Some document) e query = absurd (none request.0.1 request.1 document (is_get query) e)

    no_path_same : (query : Bool) → is_query request.0.0 request.0.1 ≡ query
        → cond query (query_asked (document_of request.0.1)) (post_alone request) ≡ cond query (asking.Refused bad.NoPath) (post_alone request)
    no_path_same true e = refused (document_of request.0.1) refl e
    no_path_same false e = refl

    module _ (known : KnowsItsPath first) where
      known_path : (document : Option (List ℕ)) → document_of request.0.1 ≡ document → is_query request.0.0 request.0.1 ≡ true → ⊥
      known_path None e query = known request.0.1 request.1 (is_get query)
          (subst (λ m. is_query m request.0.1 ≡ true)
          ((bytes_eq-Decides request.0.0 (codes "GET")).0
          (and_parts (bytes_eq request.0.0 (codes "GET")) (starts_with nat_eq request.0.1 (codes "/siri-lite/")) query).0) query) e
      known_path (Some document) e query = none request.0.1 request.1 document (is_get query) e

      alone_same : (query : Bool) → is_query request.0.0 request.0.1 ≡ query
          → cond query (query_asked (document_of request.0.1)) (post_alone request) ≡ post_alone request
      alone_same true e = absurd (known_path (document_of request.0.1) refl e)
      alone_same false e = refl

-- it asks the same by a meaning that takes its requests alike
stays : (asks : Meaning) (first second : Connection) (asked : Asked) (after : Present) → second ≡ first
    → ((request : WholeRequest) → Brings IsRequest first (Ok request) → post_or_query request ≡ asks request)
    → Asks post_or_query (Some asked) (fresh first) after → AsksSame asks asked second after
stays asks first second asked after same alike a =
    subst (λ c. AsksSame asks asked c after) (sym same) (record {
      read = after;
      reads = record {
        request = a.request;
        reads = a.reads;
        asked_is = a.asked_is ∙ by_request a.request (brought post_or_query a.request asked first a.asked_is a.reads.brings);
      };
      same = record { written = refl; write_fails = refl };
    })
  where
    by_request : (request : Request) → Brings IsRequest first request → asked_of post_or_query request ≡ asked_of asks request
    by_request (Ok request) brings = ap Some (alike request brings)
    by_request (Err e) brings = refl

-- ---- both

pub swaps_posts : Swaps post_or_query post_or_no_path IsInPlace
swaps_posts first second asked after (inl holds) a = post_asks first second asked after holds a post_or_no_path refl
swaps_posts first second asked after (inr other) a =
    stays post_or_no_path first second asked after other.1
    (λ request brings. no_path_same first other.0 request brings (is_query request.0.0 request.0.1) refl) a

swap_known : (first second : Connection) (asked : Asked) (after : Present) → IsInPlace first second → KnowsItsPath first
    → Asks post_or_query (Some asked) (fresh first) after → AsksSame post_alone asked second after
swap_known first second asked after (inl holds) known a = post_asks first second asked after holds a post_alone refl
swap_known first second asked after (inr other) known a =
    stays post_alone first second asked after other.1
    (λ request brings. alone_same first other.0 request brings known (is_query request.0.0 request.0.1) refl) a

pub swaps_known : Swaps post_or_query post_alone IsInPlaceOfKnown
swaps_known first second asked after place a = swap_known first second asked after place.0 place.1 a
