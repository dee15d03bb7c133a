-- The parts of requests and responses.
use Rattle.std.specs.Prelude.{ℕ, List, Result, Ok, Err}
use Rattle.siri_http.specs.declared.errors.HttpError.{HttpError}
use Rattle.siri_http.specs.declared.request.HttpRequest.{HttpRequest}
use Rattle.siri_http.specs.declared.response.HttpResponse.{HttpResponse}
use Rattle.siri_http.specs.Messages.{RequestLine}

-- what the first line of a request told, and its body
abbrev pub request_parts : Result HttpRequest HttpError → Result (RequestLine × List ℕ) HttpError
request_parts (Ok request) = Ok ((request.method, request.target), request.body)
request_parts (Err e) = Err e

-- what the first line of a response told, and its body
abbrev pub response_parts : Result HttpResponse HttpError → Result (ℕ × List ℕ) HttpError
response_parts (Ok response) = Ok (response.status, response.body)
response_parts (Err e) = Err e
