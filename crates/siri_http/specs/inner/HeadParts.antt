-- Inner words: what heads say.
use Rattle.std.specs.Prelude.{ℕ, Result, Ok, Err}
use Rattle.siri_http.specs.declared.errors.HttpError.{HttpError}
use Rattle.siri_http.specs.declared.request.HeadOfRequest.{HeadOfRequest}
use Rattle.siri_http.specs.declared.response.HeadOfResponse.{HeadOfResponse}
use Rattle.siri_http.specs.Messages.{RequestLine}

-- what the first line of a request told, and the length of its body
abbrev pub request_head_parts : Result HeadOfRequest HttpError → Result (RequestLine × ℕ) HttpError
request_head_parts (Ok asked) = Ok ((asked.method, asked.target), asked.length)
request_head_parts (Err e) = Err e

-- what the first line of a response told, and the length of its body
abbrev pub response_head_parts : Result HeadOfResponse HttpError → Result (ℕ × ℕ) HttpError
response_head_parts (Ok answered) = Ok (answered.status, answered.length)
response_head_parts (Err e) = Err e
