-- What the arguments of a word are, or why they are refused.
use Rattle.std.specs.Prelude.{ℕ, List, codes, length, Bool, not, ◌&&◌, ◌||◌, ◌==◌, nat_eq, nat_le, if◌then◌else◌, Option, Some, None, Result, Ok, Err}
use Rattle.std.specs.Char.{is_ascii_alphanumeric}
use Rattle.std.specs.Cmp.Lexicographic.{pointwise}
use Rattle.std.specs.List.{list_all}
use Rattle.std.specs.Str.{is_utf8}
use Rattle.siri_base.specs.declared.reason.ScriptReason.{ScriptReason}
use Rattle.siri_base.specs.declared.reason.ScriptReason.TheVariants as reason
use Rattle.siri_time.specs.Moment.{moment_of}
use Rattle.siri_base.specs.Numbers.{number_of}
use Rattle.siri_messages.specs.declared.message.Message.{Message}
use Rattle.siri_messages.specs.declared.message.Message.TheVariants as message
use Rattle.siri_messages.specs.declared.deliveries.ServiceDelivery.{ServiceDelivery}
use Rattle.siri_messages.specs.declared.requests.ServiceRequest.{ServiceRequest}
use Rattle.siri_messages.specs.Rounds.{has_round}
use Rattle.siri_wire.specs.Documents.{message_of}
use Rattle.siri_wire.specs.Wanted.{wanted_of}
use Rattle.siri_wire.specs.declared.wanted.Wanted.{Wanted}
use Rattle.siri_document.specs.script.Wanted.{bad_document, or_refused, unwanted}

-- what is made of the value
abbrev pub and_then : {A B : Type 0} → Result A ScriptReason → (A → Result B ScriptReason) → Result B ScriptReason
and_then (Ok value) next = next value
and_then (Err why) next = Err why

-- the value, or the argument is bad
abbrev pub or_bad : {A : Type 0} → Option A → Result A ScriptReason
or_bad None = Err reason.BadArgument
or_bad (Some value) = Ok value

-- ---- moments, names, numbers

-- MOMENT (xsd:dateTime)
abbrev pub moment_in : Option (List ℕ) → Result ℕ ScriptReason
moment_in None = Err reason.BadArgument
moment_in (Some text) = or_refused (λ error. reason.BadArgument) (moment_of text)

-- a name is a text of 1 to 255 bytes
abbrev pub name_of : List ℕ → Result (List ℕ) ScriptReason
name_of text = if is_utf8 text && (nat_le 1 (length text) && nat_le (length text) 255) then Ok text else Err reason.BadArgument

-- a letter, a digit, `_` or `-`
abbrev pub is_consumer_byte : ℕ → Bool
is_consumer_byte byte = is_ascii_alphanumeric byte || (byte == 95 || byte == 45)

-- at most 64 of these
abbrev pub is_consumer_word : List ℕ → Bool
is_consumer_word text = nat_le (length text) 64 && list_all is_consumer_byte text

-- the producer's name is no consumer's
abbrev pub is_consumer : List ℕ → Bool
is_consumer text = is_consumer_word text && not (pointwise nat_eq text (codes "producer"))

-- CONSUMER
abbrev pub consumer_in : Option (List ℕ) → Result (List ℕ) ScriptReason
consumer_in None = Err reason.BadArgument
consumer_in (Some text) = if is_consumer text then name_of text else Err reason.BadArgument

-- ID
abbrev pub identifier_in : Option (List ℕ) → Result (List ℕ) ScriptReason
identifier_in None = Err reason.BadArgument
identifier_in (Some text) = name_of text

-- N, of 1 to 18 digits
abbrev pub number_in : Option (List ℕ) → Result ℕ ScriptReason
number_in None = Err reason.BadArgument
number_in (Some text) = if is_utf8 text then or_bad (number_of text) else Err reason.BadArgument

-- ---- documents

-- DOC
abbrev pub document_in : Option (List ℕ) → Result Message ScriptReason
document_in None = Err reason.BadArgument
document_in (Some text) = or_refused bad_document (message_of text)

-- a ServiceDelivery that belongs to no round
abbrev pub fed_delivery : Message → Result ServiceDelivery ScriptReason
fed_delivery (message.ServiceDelivery delivery) = if has_round delivery then Err reason.WrongMessage else Ok delivery
fed_delivery other = Err reason.WrongMessage

-- a ServiceRequest
abbrev pub asked_request : Message → Result ServiceRequest ScriptReason
asked_request (message.ServiceRequest request) = Ok request
asked_request other = Err reason.WrongMessage

-- the DOC of `feed`
abbrev pub delivery_in : Option (List ℕ) → Result ServiceDelivery ScriptReason
delivery_in argument = and_then (document_in argument) fed_delivery

-- the DOC of `ask`
abbrev pub request_in : Option (List ℕ) → Result ServiceRequest ScriptReason
request_in argument = and_then (document_in argument) asked_request

-- WANTED, the subscription that a consumer asks for
abbrev pub wanted_in : List ℕ → Option (List ℕ) → Result Wanted ScriptReason
wanted_in consumer None = Err reason.BadArgument
wanted_in consumer (Some text) = or_refused unwanted (wanted_of text consumer)
