-- Requests and responses, as a connection brings them (RFC 9112).
use Rattle.std.specs.Prelude.{◌≡◌, ⊤, ℕ, ◌+◌, ◌≤◌, max, Bool, true, false, MatchBool, nat_le, nat_lt, List, [], ◌++◌, length, take, drop}
use Rattle.std.specs.Prelude.{map, bytes_eq, codes, Option, None, Some, Result, Ok, Err, if◌then◌else◌}
use Rattle.httparse.specs.Grammar.{RequestHead, ReadsRequest, ResponseHead, ReadsResponse, status_code}
use Rattle.httparse.specs.Spans.{name_and_value}
use Rattle.siri_outside.specs.MetFailures.{Meets}
use Rattle.siri_outside.specs.Wires.{Connection, Present}
use Rattle.siri_http.specs.declared.errors.HttpError.{HttpError}
use Rattle.siri_http.specs.declared.errors.HttpError.TheVariants as http
use Rattle.siri_http.specs.Heads.{head_text, full_lines}
use Rattle.siri_http.specs.Bodies.{Named, body_length}
use Rattle.siri_http.specs.Connections.{readable, cut_of}

-- a head: what its first line tells, whether the message must give its length, and its fields
pub record Head (T : Type 0) : Type 0 where
  pub told : T
  pub wanted : Bool
  pub fields : List Named

-- what the first line of a request tells: the method and the target
abbrev pub RequestLine : Type 0
RequestLine = List ℕ × List ℕ

-- a method is POST; the case of letters makes a difference
abbrev pub is_post : List ℕ → Bool
is_post method = bytes_eq method (codes "POST")

-- a POST must give its length
abbrev pub head_of_request : RequestHead → Head RequestLine
head_of_request h = record {
  told = (h.method, h.target);
  wanted = is_post h.method;
  fields = map name_and_value h.fields;
}

-- a response tells its status, and must give its length
abbrev pub head_of_response : ResponseHead → Head ℕ
head_of_response h = record { told = status_code h; wanted = true; fields = map name_and_value h.fields }

-- a text as a whole is this head of a request by the grammar of `httparse`, or is none
abbrev pub IsRequest : List ℕ → Option (Head RequestLine) → Type 0
IsRequest text None = (h : RequestHead) → ¬ (ReadsRequest text h [])
IsRequest text (Some head) = (h : RequestHead) × ReadsRequest text h [] × (head ≡ head_of_request h)

-- the same of a response
abbrev pub IsResponse : List ℕ → Option (Head ℕ) → Type 0
IsResponse text None = (h : ResponseHead) → ¬ (ReadsResponse text h [])
IsResponse text (Some head) = (h : ResponseHead) × ReadsResponse text h [] × (head ≡ head_of_response h)

-- what the first line tells, with the length of the body
abbrev pub told_with : {T A : Type 0} → T → Result A HttpError → Result (T × A) HttpError
told_with told (Ok a) = Ok (told, a)
told_with told (Err e) = Err e

-- what a text says that is this head, or is none
abbrev pub head_says : {T : Type 0} → Option (Head T) → Result (T × ℕ) HttpError
head_says None = Err http.BadHead
head_says (Some head) = told_with head.told (body_length head.wanted head.fields)

-- what a head text says: it may have 65 lines that aren't empty, the first line and 64 fields
abbrev pub text_says : {T : Type 0} → ℕ → Option (Head T) → Result (T × ℕ) HttpError
text_says full head = if nat_lt 65 full then Err http.HeadTooLong else head_says head

-- the body: so many bytes after a head text of so many; bytes after it aren't looked at
abbrev pub body_in : ℕ → ℕ → HttpError → List ℕ → Result (List ℕ) HttpError
body_in len count cut input = if nat_le (len + count) (length input) then Ok (take count (drop len input)) else Err cut

-- the message after what its head text says
abbrev pub message_after : {T : Type 0} → ℕ → Result (T × ℕ) HttpError → HttpError → List ℕ → Result (T × List ℕ) HttpError
message_after len (Err e) cut input = Err e
message_after len (Ok says) cut input = told_with says.0 (body_in len says.1 cut input)

-- the message by its head text, where there is one
abbrev pub message_by : {T : Type 0} → Option (List ℕ) → Option (Head T) → HttpError → List ℕ → Result (T × List ℕ) HttpError
message_by None head cut input = Err (if nat_le 16384 (length input) then http.HeadTooLong else cut)
message_by (Some text) head cut input = message_after (length text) (text_says (full_lines text) head) cut input

-- The message that an input brings whose head text is this head, or why it is refused. `cut` is what comes where more is wanted than
-- the input has.
unfoldable pub message : {T : Type 0} → Option (Head T) → HttpError → List ℕ → Result (T × List ℕ) HttpError
message head cut input = message_by (head_text input) head cut input

-- the head text is this head, where it has no more lines than a head may have
abbrev pub IsHead : {T : Type 0} → (List ℕ → Option (Head T) → Type 0) → Option (List ℕ) → Option (Head T) → Type 0
IsHead Says None head = ⊤
IsHead Says (Some text) head = MatchBool (nat_lt 65 (full_lines text)) ⊤ (Says text head)

-- a connection brings this message
pub record Brings {T : Type 0} (Says : List ℕ → Option (Head T) → Type 0) (connection : Connection) (result : Result (T × List ℕ) HttpError) : Type 0 where
  pub head : Option (Head T)
  pub is_head : IsHead Says (head_text (readable connection)) head
  pub message_is : result ≡ message head (cut_of connection) (readable connection)

abbrev pub is_memory : HttpError → Bool
is_memory http.OutOfMemory = true
is_memory other = false

-- nothing is said where there was no memory
abbrev pub UnlessMemory : {A : Type 0} → Result A HttpError → Type 0 → Type 0
UnlessMemory (Ok a) P = P
UnlessMemory (Err e) P = MatchBool (is_memory e) ⊤ P

-- the input ended too early, or could not be read on
abbrev pub is_cut : HttpError → Bool
is_cut http.Short = true
is_cut http.ReadFault = true
is_cut other = false

-- a read failed
abbrev pub is_read_fault : HttpError → Bool
is_read_fault http.ReadFault = true
is_read_fault other = false

-- the answer is that a read failed
abbrev pub has_read_fault : {A : Type 0} → Result A HttpError → Bool
has_read_fault (Ok a) = false
has_read_fault (Err e) = is_read_fault e

-- one thing holds where the input was cut off, and the other elsewhere
abbrev pub IfCut : {A : Type 0} → Result A HttpError → Type 0 → Type 0 → Type 0
IfCut (Ok a) P Q = Q
IfCut (Err e) P Q = MatchBool (is_cut e) P Q

-- where the bytes end by which an input with this head text is answered so
abbrev pub end_by : {T : Type 0} → Option (List ℕ) → Result (T × List ℕ) HttpError → ℕ
end_by None result = 16384
end_by (Some text) (Err e) = length text
end_by (Some text) (Ok message) = length text + length message.1

-- Where the bytes end by which an input is answered so: with the body, with the head text where that is refused, and with the first
-- 16,384 bytes where they hold none.
abbrev pub message_end : {T : Type 0} → Result (T × List ℕ) HttpError → List ℕ → ℕ
message_end result input = end_by (head_text input) result

-- the first bytes of a connection are taken and decide the answer, whatever comes after them and wherever that is cut off
pub record Decides {T : Type 0} (Says : List ℕ → Option (Head T) → Type 0) (connection : Connection)
    (result : Result (T × List ℕ) HttpError) (count taken : ℕ) : Type 0 where
  pub needed : count ≤ taken
  pub alone : (other : Connection) → take count (readable other) ≡ take count (readable connection) → Brings Says other result

-- A message was read of a connection, and what is to be written to it stays. All that can be read was taken where that was cut off.
-- Else the message was taken, and bytes beyond it only as far as the first 16,384 of the input go: a longer message is taken by its
-- exact length. A failure of reading was met only where that is answered. So nothing is read behind bytes that decide the answer:
-- a read that begins there fails wherever a failure is named there. Of bytes beyond the message only those are taken that the read
-- of its last byte brought with it.
pub record ReadsMessage {T : Type 0} (Says : List ℕ → Option (Head T) → Type 0) (result : Result (T × List ℕ) HttpError) (before after : Present) : Type 0 where
  pub taken : List ℕ
  pub input : before.left.input ≡ taken ++ after.left.input
  pub reach : IfCut result (taken ≡ readable before.left) (length taken ≤ max 16384 (message_end result (readable before.left)))
  pub fails : Meets (has_read_fault result) before.left.read_fails after.left.read_fails (length taken)
  pub unwritten : after.left.write_fails ≡ before.left.write_fails
  pub written : after.written ≡ before.written
  pub brings : UnlessMemory result (Brings Says before.left result)
  pub decided : UnlessMemory result (IfCut result ⊤ (Decides Says before.left result (message_end result (readable before.left)) (length taken)))
