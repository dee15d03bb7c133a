-- What an accepted connection asks (RFC 9112).
use Rattle.std.specs.Prelude.{◌≡◌, ◌⊎◌, ℕ, Bool, true, false, List, codes, Option, None, Some, Result, Ok, Err}
use Rattle.siri_outside.specs.Wires.{Present, WireState}
use Rattle.siri_http.specs.Connections.{OnConnection}
use Rattle.siri_http.specs.declared.errors.HttpError.{HttpError}
use Rattle.siri_http.specs.declared.errors.HttpError.TheVariants as http
use Rattle.siri_http.specs.Messages.{IsRequest, ReadsMessage, RequestLine, is_post}
use Rattle.siri_http.specs.declared.asked.Asked.{Asked}
use Rattle.siri_http.specs.declared.asked.Asked.TheVariants as asked
use Rattle.siri_http.specs.declared.asked.BadRequest.{BadRequest}
use Rattle.siri_http.specs.declared.asked.BadRequest.TheVariants as bad

-- the status that a refused request is answered with (RFC 9110, section 15)
abbrev pub status_of : BadRequest → ℕ
status_of bad.BadHead = 400
status_of bad.HeadTooLong = 431
status_of bad.NoLength = 411
status_of bad.TransferCoding = 501
status_of bad.BodyTooLong = 413
status_of bad.NotPost = 405
status_of bad.NoPath = 404

abbrev pub name_of : BadRequest → List ℕ
name_of bad.BadHead = codes "BadHead"
name_of bad.HeadTooLong = codes "HeadTooLong"
name_of bad.NoLength = codes "NoLength"
name_of bad.TransferCoding = codes "TransferCoding"
name_of bad.BodyTooLong = codes "BodyTooLong"
name_of bad.NotPost = codes "NotPost"
name_of bad.NoPath = codes "NoPath"

-- a request that was read whole: its method and target, and its body
abbrev pub WholeRequest : Type 0
WholeRequest = RequestLine × List ℕ

-- a request, as it was read; or why there is none
abbrev pub Request : Type 0
Request = Result WholeRequest HttpError

-- a request of this body, where its method is POST, or isn't
abbrev pub by_method : Bool → List ℕ → Asked
by_method true body = asked.Posted body
by_method false body = asked.Refused bad.NotPost

-- what requests ask that are read whole
abbrev pub Meaning : Type 0
Meaning = WholeRequest → Asked

-- where a POST alone asks something, it asks that its body is taken, whatever its target
abbrev pub post_alone : Meaning
post_alone request = by_method (is_post request.0.0) request.1

-- what is asked where no request was read; nothing is said where there was no memory
abbrev pub unasked_of : HttpError → Option Asked
unasked_of http.BadHead = Some (asked.Refused bad.BadHead)
unasked_of http.HeadTooLong = Some (asked.Refused bad.HeadTooLong)
unasked_of http.NoLength = Some (asked.Refused bad.NoLength)
unasked_of http.TransferCoding = Some (asked.Refused bad.TransferCoding)
unasked_of http.BodyTooLong = Some (asked.Refused bad.BodyTooLong)
unasked_of http.Short = Some asked.Short
unasked_of http.ReadFault = Some asked.Failed
unasked_of http.WriteFault = Some asked.Failed
unasked_of http.OutOfMemory = None

-- what a request asks, where one that is whole asks so
abbrev pub asked_of : (asks : Meaning) → Request → Option Asked
asked_of asks (Ok request) = Some (asks request)
asked_of asks (Err error) = unasked_of error

-- the connection brings a request that asks this; want of memory says nothing of what it brings
pub record Asks (asks : Meaning) (outcome : Option Asked) (before after : Present) : Type 0 where
  pub request : Request
  pub reads : ReadsMessage IsRequest request before after
  pub asked_is : outcome ≡ asked_of asks request

-- where memory was wanting, some of its request was read; or all of it, where what it asks may take memory
abbrev pub StopsAsking : (asks : Meaning) → (takes_memory : WholeRequest → Type 0)
    → (before after : Option WireState) → Type 0
StopsAsking asks takes_memory before after =
    OnConnection (Asks asks None) before after
    ⊎ ((request : WholeRequest) × takes_memory request × OnConnection (Asks asks (Some (asks request))) before after)

-- none asks what a request asks of which a read failed
abbrev pub NeverFails : Meaning → Type 0
NeverFails asks = (request : WholeRequest) → asks request ≡ asked.Failed → ⊥

by_method_never_fails : (is : Bool) (body : List ℕ) → by_method is body ≡ asked.Failed → ⊥
by_method_never_fails true body e = cc e
by_method_never_fails false body e = cc e

pub post_alone_never_fails : NeverFails post_alone
post_alone_never_fails request e = by_method_never_fails (is_post request.0.0) request.1 e
