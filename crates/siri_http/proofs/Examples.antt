-- A small request that computes, so that the definitions are tried.
use Rattle.std.proofs.Common.{◌≡◌, ℕ, true, List, [], ◌∷◌, ◌++◌, Option, Some, refl}
use Rattle.std.specs.Prelude.{codes}
use Rattle.siri_http.specs.declared.errors.HttpError.TheVariants as http
use Rattle.siri_base.specs.Numbers.{number_of}
use Rattle.siri_http.specs.Bodies.{body_length, values}
use Rattle.siri_http.specs.Heads.{full_lines, head_text}
use Rattle.siri_http.specs.Messages.{Head, RequestLine, message}
use Rattle.siri_http.specs.Texts.{ended}
use Rattle.siri_http.specs.Requests.{asked_of, post_alone}
use Rattle.siri_http.specs.declared.asked.Asked.TheVariants as asked

-- the head of a POST with 34 bytes of body
abbrev post : Option (Head RequestLine)
post = Some (record { told = (codes "POST", codes "/"); wanted = true; fields = (codes "Content-Length", codes "34") ∷ [] })

-- that head and ten bytes of the body
abbrev cut_bytes : List ℕ
cut_bytes = ended (codes "POST / HTTP/1.1") ++ (ended (codes "Content-Length: 34") ++ (ended [] ++ codes "0123456789"))

-- a body that is cut is Short
cut_body_is_short : asked_of post_alone (message post http.Short cut_bytes) ≡ Some asked.Short
unfolding message head_text full_lines body_length values number_of
cut_body_is_short = refl
