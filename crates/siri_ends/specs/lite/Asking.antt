-- What a request asks where queries by GET are answered. The paths are this profile's own.
use Rattle.std.specs.Prelude.{◌≡◌, ℕ, Bool, true, false, ◌&&◌, List, codes, bytes_eq, nat_eq, Option, None, Some, if◌then◌else◌}
use Rattle.std.specs.List.{starts_with}
use Rattle.siri_http.specs.Requests.{Meaning, NeverFails, WholeRequest, post_alone, post_alone_never_fails}
use Rattle.siri_http.specs.declared.asked.Asked.{Asked}
use Rattle.siri_http.specs.declared.asked.Asked.TheVariants as asked
use Rattle.siri_http.specs.declared.asked.BadRequest.TheVariants as bad
use Rattle.siri_queries.specs.Documents.{document_of}

-- a GET of a target below `/siri-lite/`
abbrev pub is_query : (method target : List ℕ) → Bool
is_query method target = bytes_eq method (codes "GET") && starts_with nat_eq target (codes "/siri-lite/")

-- what a query asks: its document, as a POST of it does; without one it is refused
abbrev pub query_asked : Option (List ℕ) → Asked
query_asked (Some document) = asked.Posted document
query_asked None = asked.Refused bad.NoPath

-- a query asks its document; every other request asks what it asks where a POST alone does
abbrev pub post_or_query : Meaning
post_or_query request =
    if is_query request.0.0 request.0.1 then query_asked (document_of request.0.1) else post_alone request

-- a query is read to know its document, which takes memory
abbrev pub IsQuery : WholeRequest → Type 0
IsQuery request = is_query request.0.0 request.0.1 ≡ true

-- no such request is one of which a read failed
query_never_fails : (document : Option (List ℕ)) → query_asked document ≡ asked.Failed → ⊥
query_never_fails (Some document) e = cc e
query_never_fails None e = cc e

either_never_fails : (query : Bool) (request : WholeRequest)
    → (if query then query_asked (document_of request.0.1) else post_alone request) ≡ asked.Failed → ⊥
either_never_fails true request e = query_never_fails (document_of request.0.1) e
either_never_fails false request e = post_alone_never_fails request e

pub post_or_query_never_fails : NeverFails post_or_query
post_or_query_never_fails request e = either_never_fails (is_query request.0.0 request.0.1) request e
