-- What the parser answers to a head text is what the head text says.
use Rattle.std.proofs.Common.{◌≡◌, ◌≤◌, ◌<◌, ◌+◌, ℕ, List, [], ◌∷◌, ◌++◌, None, Some, Option, true, false, Result, Ok, Err, length, drop}
use Rattle.std.proofs.Common.{map, refl, sym, ap, ap₂, ◌∙◌, subst, append-nil, arith, length-append, length-drop}
use Rattle.std.specs.Prelude.{⊤, MatchBool, nat_lt, cond, option_copied}
use Rattle.std.specs.Borrow.{Bor}
use Rattle.std.proofs.lemmas.Bool.{le-ltb}
use Rattle.std.proofs.lemmas.List.{drop_all}
use Rattle.httparse.specs.declared.borrowed.Request.{Request}
use Rattle.httparse.specs.declared.borrowed.Response.{Response}
use Rattle.httparse.specs.Grammar.{print_version, print_end, print_section, print_blank, RequestHead, ReadsRequest, HasNoRequest}
use Rattle.httparse.specs.Grammar.{ResponseHead, ReadsResponse, HasNoResponse, status_code}
use Rattle.httparse.specs.Spans.{RequestOverflows, ResponseOverflows}
use Rattle.httparse.specs.Borrowed.{HoldsRequest, HoldsResponse, HoldsSomeRequest, HoldsSomeResponse, header_parts}
use Rattle.httparse.proofs.GrammarLemmas.{print_request-append, request_unique, response_unique}
use Rattle.siri_http.specs.declared.errors.HttpError.{HttpError}
use Rattle.siri_http.specs.declared.errors.HttpError.TheVariants as http
use Rattle.siri_http.specs.inner.Scanning.{head_from, fresh}
use Rattle.siri_http.specs.Bodies.{body_length}
use Rattle.siri_http.specs.Messages.{Head, RequestLine, head_of_request, head_of_response, IsRequest, IsResponse, is_post, told_with}
use Rattle.siri_http.specs.Messages.{head_says, UnlessMemory, is_memory}
use Rattle.siri_http.specs.declared.request.HeadOfRequest.{HeadOfRequest}
use Rattle.siri_http.specs.inner.HeadParts.{request_head_parts}
use Rattle.siri_http.specs.inner.Reading.{SaysSo}
use Rattle.siri_http.proofs.Lines.{request_lines, response_lines}
use Rattle.siri_http.proofs.Fronts.{unless}

-- a head text with so many lines
abbrev pub IsText : List ℕ → ℕ → Type 0
IsText text full = head_from fresh text ≡ Some (record { len = length text; full = full })

-- a text that is no head
pub no_head_text : {T : Type 0} (Says : List ℕ → Option (Head T) → Type 0) (text : List ℕ) (full : ℕ) → full ≤ 65
    → Says text None → SaysSo Says text full (Err http.BadHead)
no_head_text {T = T} Says text full h none =
    let within : nat_lt 65 full ≡ false = le-ltb 65 full h in
    record {
      head = None;
      says = subst (λ t. MatchBool t ⊤ (Says text None)) (sym within) none;
      result_is = sym (ap (λ t. cond t (Err http.HeadTooLong) (head_says {T = T} None)) within);
    }

-- a text that is this head
pub head_text_says : {T : Type 0} (Says : List ℕ → Option (Head T) → Type 0) (text : List ℕ) (full : ℕ) (head : Head T)
    (result : Result (T × ℕ) HttpError) → full ≤ 65 → Says text (Some head)
    → UnlessMemory result (result ≡ head_says (Some head)) → SaysSo Says text full result
head_text_says {T = T} Says text full head result h says is =
    let within : nat_lt 65 full ≡ false = le-ltb 65 full h in
    record {
      head = Some head;
      says = says_unless result (subst (λ t. MatchBool t ⊤ (Says text (Some head))) (sym within) says);
      result_is = subst (λ r. UnlessMemory result (result ≡ r)) (sym (ap (λ t. cond t (Err http.HeadTooLong) (head_says (Some head))) within)) is;
    }
  where
    says_unless : (result : Result (T × ℕ) HttpError) {P : Type 0} → P → UnlessMemory result P
    says_unless (Ok x) p = p
    says_unless (Err e) p = unless _ _ p

abbrev text_in : Option (List ℕ) → List ℕ
text_in None = []
text_in (Some text) = text

abbrev number_in : Option ℕ → ℕ
number_in None = 0
number_in (Some number) = number

-- ---- requests

-- the parser doesn't know it for whole
pub request_partial : (text : List ℕ) (full : ℕ) → full ≤ 65 → HasNoRequest text → SaysSo IsRequest text full (Err http.BadHead)
request_partial text full few p = no_head_text IsRequest text full few (λ k x. p k [] x)

request_none : (text : List ℕ) (full room : ℕ) → full ≤ 65 → IsText text full → RequestOverflows room text → room ≡ 64 → IsRequest text None
request_none text full room few t o all k x =
    let over : room < length k.fields = o [] k [] (subst (λ l. ReadsRequest l k []) (sym (append-nil text)) x) in
    let lines : full ≡ 1 + length k.fields = request_lines text _ k t x in
    absurd (omega (arith, few, over, lines, all))

-- the parser knows no head, and room is for more fields than there are lines
pub request_overflows : (text : List ℕ) (full room : ℕ) → full ≤ 65 → IsText text full → RequestOverflows room text
    → room ≡ 64 → SaysSo IsRequest text full (Err http.BadHead)
request_overflows text full room few t o all = no_head_text IsRequest text full few (request_none text full room few t o all)

shorter : (text : List ℕ) (len : ℕ) → len < length text → drop len text ≡ [] → ⊥
shorter text len h e = absurd (omega (arith, h, ap length e, length-drop len text))

-- the parser knows a shorter head
pub request_shorter : (text : List ℕ) (len : ℕ) (r : Request) (h : RequestHead) → HoldsRequest text len r h → len < length text → IsRequest text None
request_shorter text len r h holds short k x = shorter text len short (request_unique text h k (drop len text) [] holds.reads x).1

reads_whole : (text : List ℕ) (len : ℕ) (h : RequestHead) → length text ≤ len → ReadsRequest text h (drop len text) → ReadsRequest text h []
reads_whole text len h l x = subst (ReadsRequest text h) (drop_all len text l) x

pub request_short : (text : List ℕ) (full len : ℕ) (r : Request) → full ≤ 65 → HoldsSomeRequest text r len
    → len < length text → SaysSo IsRequest text full (Err http.BadHead)
request_short text full len r few h short = no_head_text IsRequest text full few (request_shorter text len r h.0 h.1 short)

-- the parser knows the whole head
request_says : (text : List ℕ) (full len : ℕ) (r : Request) (h : RequestHead) (method target : Bor (List ℕ))
    (result : Result (RequestLine × ℕ) HttpError) → HoldsRequest text len r h → length text ≤ len → full ≤ 65
    → r.method ≡ Some method → r.path ≡ Some target → UnlessMemory result
    (result ≡ told_with (method.now, target.now) (body_length (is_post method.now) (map header_parts r.headers.now)))
    → SaysSo IsRequest text full result
request_says text full len r h method target result holds whole few m t is =
    let same_method : method.now ≡ h.method = ap text_in (sym (ap option_copied m) ∙ holds.method) in
    let same_target : target.now ≡ h.target = ap text_in (sym (ap option_copied t) ∙ holds.path) in
    let same : told_with (method.now, target.now) (body_length (is_post method.now) (map header_parts r.headers.now)) ≡ head_says (Some (head_of_request h)) =
    ap₂ (λ a b. told_with (a, b) (body_length (is_post a) (map header_parts r.headers.now))) same_method same_target
    ∙ ap (λ f. told_with (h.method, h.target) (body_length (is_post h.method) f)) holds.fields in
    head_text_says IsRequest text full (head_of_request h) result few
    (h, reads_whole text len h whole holds.reads, refl) (subst (λ x. UnlessMemory result (result ≡ x)) same is)

unless_asked : (result : Result HeadOfRequest HttpError) (P : Type 0) → UnlessMemory result P → UnlessMemory (request_head_parts result) P
unless_asked (Ok x) P p = p
unless_asked (Err e) P p = p

pub request_said : (text : List ℕ) (full len : ℕ) (r : Request) (method target : Bor (List ℕ))
    (result : Result HeadOfRequest HttpError) → HoldsSomeRequest text r len → length text ≤ len → full ≤ 65
    → r.method ≡ Some method → r.path ≡ Some target → UnlessMemory result
    (request_head_parts result ≡ told_with (method.now, target.now)
    (body_length (is_post method.now) (map header_parts r.headers.now)))
    → SaysSo IsRequest text full (request_head_parts result)
request_said text full len r method target result h whole few m t is =
    request_says text full len r h.0 method target (request_head_parts result) h.1 whole few m t (unless_asked result _ is)

parts_fit : (text : List ℕ) (h : RequestHead) (rest : List ℕ) → ReadsRequest text h rest → length text ≤ 16384
    → (length h.method ≤ 16384) × (length h.target ≤ 16384)
parts_fit text h rest x most =
    let tail = print_version h.minor ++ (print_end h.line_end ++ (print_section h.fields h.last ++ rest)) in
    let after = h.target ++ 32 ∷ tail in
    let all : length text ≡ length (print_blank h.blank ++ (h.method ++ 32 ∷ after)) = ap length (x.1 ∙ print_request-append h rest) in
    let one = length-append (print_blank h.blank) (h.method ++ 32 ∷ after) in
    let two = length-append h.method (32 ∷ after) in
    let three = length-append h.target (32 ∷ tail) in
    (omega (arith, most, all, one, two), omega (arith, most, all, one, two, three))

pub method_fits : (text : List ℕ) (len : ℕ) (r : Request) (method : Bor (List ℕ)) → HoldsSomeRequest text r len
    → r.method ≡ Some method → length text ≤ 16384 → length method.now ≤ 16384
method_fits text len r method h m most =
    let same : method.now ≡ h.0.method = ap text_in (sym (ap option_copied m) ∙ h.1.method) in
    let fits : length h.0.method ≤ 16384 = (parts_fit text h.0 (drop len text) h.1.reads most).0 in
    omega (arith, fits, ap length same)

pub target_fits : (text : List ℕ) (len : ℕ) (r : Request) (target : Bor (List ℕ)) → HoldsSomeRequest text r len
    → r.path ≡ Some target → length text ≤ 16384 → length target.now ≤ 16384
target_fits text len r target h t most =
    let same : target.now ≡ h.0.target = ap text_in (sym (ap option_copied t) ∙ h.1.path) in
    let fits : length h.0.target ≤ 16384 = (parts_fit text h.0 (drop len text) h.1.reads most).1 in
    omega (arith, fits, ap length same)

-- ---- responses

pub response_partial : (text : List ℕ) (full : ℕ) → full ≤ 65 → HasNoResponse text → SaysSo IsResponse text full (Err http.BadHead)
response_partial text full few p = no_head_text IsResponse text full few (λ k x. p k [] x)

response_none : (text : List ℕ) (full room : ℕ) → full ≤ 65 → IsText text full → ResponseOverflows room text → room ≡ 64 → IsResponse text None
response_none text full room few t o all k x =
    let over : room < length k.fields = o [] k [] (subst (λ l. ReadsResponse l k []) (sym (append-nil text)) x) in
    let lines : full ≡ 1 + length k.fields = response_lines text _ k t x in
    absurd (omega (arith, few, over, lines, all))

-- the parser knows no head, and room is for more fields than there are lines
pub response_overflows : (text : List ℕ) (full room : ℕ) → full ≤ 65 → IsText text full → ResponseOverflows room text
    → room ≡ 64 → SaysSo IsResponse text full (Err http.BadHead)
response_overflows text full room few t o all = no_head_text IsResponse text full few (response_none text full room few t o all)

pub response_shorter : (text : List ℕ) (len : ℕ) (r : Response) (h : ResponseHead) → HoldsResponse text len r h → len < length text → IsResponse text None
response_shorter text len r h holds short k x = shorter text len short (response_unique text h k (drop len text) [] holds.reads x).1

response_whole : (text : List ℕ) (len : ℕ) (h : ResponseHead) → length text ≤ len → ReadsResponse text h (drop len text) → ReadsResponse text h []
response_whole text len h l x = subst (ReadsResponse text h) (drop_all len text l) x

response_says : (text : List ℕ) (full len : ℕ) (r : Response) (h : ResponseHead) (status : ℕ)
    (result : Result (ℕ × ℕ) HttpError) → HoldsResponse text len r h → length text ≤ len → full ≤ 65
    → r.code ≡ Some status → UnlessMemory result
    (result ≡ told_with status (body_length true (map header_parts r.headers.now))) → SaysSo IsResponse text full result
response_says text full len r h status result holds whole few m is =
    let same_status : status ≡ status_code h = ap number_in (sym m ∙ holds.code) in
    let same : told_with status (body_length true (map header_parts r.headers.now)) ≡ head_says (Some (head_of_response h)) =
    ap₂ (λ a f. told_with a (body_length true f)) same_status holds.fields in
    head_text_says IsResponse text full (head_of_response h) result few
    (h, response_whole text len h whole holds.reads, refl) (subst (λ x. UnlessMemory result (result ≡ x)) same is)

pub response_short : (text : List ℕ) (full len : ℕ) (r : Response) → full ≤ 65 → HoldsSomeResponse text r len
    → len < length text → SaysSo IsResponse text full (Err http.BadHead)
response_short text full len r few h short = no_head_text IsResponse text full few (response_shorter text len r h.0 h.1 short)

pub response_failed : (text : List ℕ) (full len : ℕ) (r : Response) (status : ℕ) (e : HttpError)
    → HoldsSomeResponse text r len → length text ≤ len → full ≤ 65 → r.code ≡ Some status
    → Err e ≡ body_length true (map header_parts r.headers.now) → SaysSo IsResponse text full (Err e)
response_failed text full len r status e h whole few m is =
    response_says text full len r h.0 status (Err e) h.1 whole few m (unless (is_memory e) _ (ap (told_with status) is))

pub response_said : (text : List ℕ) (full len : ℕ) (r : Response) (status count : ℕ) → HoldsSomeResponse text r len
    → length text ≤ len → full ≤ 65 → r.code ≡ Some status
    → Ok count ≡ body_length true (map header_parts r.headers.now) → SaysSo IsResponse text full (Ok (status, count))
response_said text full len r status count h whole few m is =
    response_says text full len r h.0 status (Ok (status, count)) h.1 whole few m (ap (told_with status) is)
