-- A connection brings one request.
use Rattle.std.proofs.Common.{◌≡◌, ℕ, Bool, true, false, cond, List, [], Option, None, Some, Err, length, refl, sym, ap, ◌∙◌}
use Rattle.std.specs.Prelude.{⊤, MatchBool, nat_lt}
use Rattle.httparse.proofs.GrammarLemmas.{request_unique}
use Rattle.siri_http.specs.declared.errors.HttpError.{HttpError}
use Rattle.siri_http.specs.declared.errors.HttpError.TheVariants as http
use Rattle.siri_http.specs.Connections.{cut_of, readable}
use Rattle.siri_http.specs.Heads.{full_lines, head_text}
use Rattle.siri_http.specs.Messages.{Head, IsHead, IsRequest, RequestLine, head_of_request, head_says, message_after, message_by}
use Rattle.siri_http.proofs.Alone.{message_is}
use Rattle.siri_laws.specs.http.Written.{BringsOneRequest}

-- a text is one head, or none
heads_same : (text : List ℕ) (one other : Option (Head RequestLine)) → IsRequest text one → IsRequest text other → one ≡ other
heads_same text None None p q = refl
heads_same text None (Some b) p q = absurd (p q.0 q.1)
heads_same text (Some a) None p q = absurd (q p.0 p.1)
heads_same text (Some a) (Some b) p q =
    ap Some (p.2 ∙ ap head_of_request (request_unique text p.0 q.0 [] [] p.1 q.1).0 ∙ sym q.2)

-- so it says one thing, also where it has too many lines
says_same : (text : List ℕ) (long : Bool) (one other : Option (Head RequestLine))
    → MatchBool long ⊤ (IsRequest text one) → MatchBool long ⊤ (IsRequest text other)
    → cond long (Err http.HeadTooLong) (head_says one) ≡ cond long (Err http.HeadTooLong) (head_says other)
says_same text true one other p q = refl
says_same text false one other p q = ap head_says (heads_same text one other p q)

messages_same : (cut : HttpError) (input : List ℕ) (text : Option (List ℕ)) (one other : Option (Head RequestLine))
    → IsHead IsRequest text one → IsHead IsRequest text other → message_by text one cut input ≡ message_by text other cut input
messages_same cut input None one other p q = refl
messages_same cut input (Some text) one other p q =
    ap (λ says. message_after (length text) says cut input) (says_same text (nat_lt 65 (full_lines text)) one other p q)

pub brings_one : BringsOneRequest
brings_one connection one other p q =
    let input = readable connection in
    let cut = cut_of connection in
    p.message_is ∙ message_is p.head cut input ∙ messages_same cut input (head_text input) p.head q.head p.is_head q.is_head
    ∙ sym (message_is q.head cut input) ∙ sym q.message_is
