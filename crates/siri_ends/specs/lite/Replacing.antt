-- What a query is for a run: the POST of its document, by a connection in the place of its own.
use Rattle.std.specs.Prelude.{◌≡◌, ℕ, Bool, List, [], codes, Some, Ok}
use Rattle.siri_outside.specs.Wires.{Connection, Present, WireState, hung_up}
use Rattle.siri_http.specs.Messages.{Brings, IsRequest, ReadsMessage}
use Rattle.siri_http.specs.Requests.{Asks, post_alone}
use Rattle.siri_http.specs.Responses.{Responds}
use Rattle.siri_http.specs.declared.asked.Asked.{Asked}
use Rattle.siri_http.specs.declared.asked.Asked.TheVariants as asked
use Rattle.siri_queries.specs.Documents.{document_of}
use Rattle.siri_ends.specs.lite.Asking.{post_or_query}

-- a connection holds a POST of this target and this document whole, and no failure of reading is named for it
pub record HoldsPost (target document : List ℕ) (connection : Connection) : Type 0 where
  pub brings : Brings IsRequest connection (Ok ((codes "POST", target), document))
  pub unfailing : connection.read_fails ≡ []

-- in the place of a connection that is there another is: the same was written to it, and the same failures of writing are named
pub record InPlaceOf (there other : Present) : Type 0 where
  pub written : other.written ≡ there.written
  pub write_fails : other.left.write_fails ≡ there.left.write_fails

-- the connection that is there was read as a GET of this target
abbrev pub ReadsGet : (target body : List ℕ) → (before after : Present) → Type 0
ReadsGet target body before after = ReadsMessage IsRequest (Ok ((codes "GET", target), body)) before after

-- a POST in the place of a query asks the same where a POST alone asks something, and is in its place after it, too
pub record AsksAlike (asked : Asked) (after post : Present) : Type 0 where
  pub read : Present
  pub asks : Asks post_alone (Some asked) post read
  pub same : InPlaceOf after read

-- A connection that is read as a GET of a target with a document is one in its place that holds a POST of that document whole.
abbrev pub IsReadAsItsPost : Type 0
IsReadAsItsPost = (target document body other : List ℕ) (before after post : Present)
    → document_of target ≡ Some document → ReadsGet target body before after
    → HoldsPost other document post.left → InPlaceOf before post
    → Asks post_or_query (Some (asked.Posted document)) before after × AsksAlike (asked.Posted document) after post

-- What is answered to a connection, and that it is hung up, does the same where another is in its place.
abbrev pub IsAnsweredAlike : Type 0
IsAnsweredAlike = (wire : WireState) (there other : Present) → InPlaceOf there other
    → ((text : List ℕ) (whole : Bool) (next : WireState) → Responds text (Some whole) (record wire { present = Some there }) next
    → Responds text (Some whole) (record wire { present = Some other }) next)
    × (hung_up (record wire { present = Some other }) ≡ hung_up (record wire { present = Some there }))
