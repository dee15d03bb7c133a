-- Small scripts of one stop and its visits, run: the lines of their reports. Of an answer, a packet and an item the document
-- is left out, but for the name of the message and the departure of the visit.
use Rattle.std.specs.Prelude.{ℕ, ◌+◌, pos, Bool, true, false, List, [], ◌∷◌, ◌++◌, map, codes, Option, Some, None, Result, Ok, Err}
use Rattle.std.specs.Fmt.{decimal}
use Rattle.siri_base.specs.declared.place.Place.{Place}
use Rattle.siri_messages.specs.Blank.{blank_functional_delivery, blank_service_delivery, blank_subscription_request}
use Rattle.siri_messages.specs.Kinds.{kind_of}
use Rattle.siri_messages.specs.declared.message.Message.{Message}
use Rattle.siri_messages.specs.declared.message.Message.TheVariants as message
use Rattle.siri_responder.specs.declared.feeding.Fed.{Fed}
use Rattle.siri_model.specs.laws.Histories.{c1, at, visit, departure, subscription}
use Rattle.siri_producer.specs.declared.answers.Note.{Note}
use Rattle.siri_producer.specs.declared.answers.Note.TheVariants as note
use Rattle.siri_view.specs.declared.outcome.Outcome.{Outcome}
use Rattle.siri_view.specs.declared.outcome.Outcome.TheVariants as outcome
use Rattle.siri_view.specs.declared.outcome.Held.{Held}
use Rattle.siri_view.specs.declared.outcome.AskError.{AskError}
use Rattle.siri_view.specs.declared.outcome.AskError.TheVariants as ask_error
use Rattle.siri_world_model.specs.declared.event.Event.{Event}
use Rattle.siri_world_model.specs.declared.event.Event.TheVariants as event
use Rattle.siri_world_model.specs.declared.step_error.StepError.{StepError}
use Rattle.siri_world_model.specs.declared.step_error.StepError.TheVariants as error
use Rattle.siri_world_model.specs.declared.word.Word.{Word}
use Rattle.siri_world_model.specs.declared.word.Word.TheVariants as word
use Rattle.siri_world_model.specs.Lines as line
use Rattle.siri_world_model.specs.Lines.{ToldLine}
use Rattle.siri_world_model.specs.World.{World, nothing}
use Rattle.siri_world_model.specs.Told.{told, after, world_after}
use Rattle.siri_world_model.specs.laws.Views.{direct_response}

abbrev pub Text : Type 0
Text = List ℕ

-- words of a line, with a space between each two
abbrev pub spaced : List Text → Text
spaced [] = []
spaced (word ∷ []) = word
spaced (word ∷ next ∷ more) = word ++ (32 ∷ spaced (next ∷ more))

-- ---- lines

abbrev pub place_text : Place → Text
place_text place = spaced (decimal place.round ∷ decimal place.part ∷ [])

abbrev pub fed_text : Fed → Text
fed_text fed = spaced (decimal fed.observed ∷ decimal fed.withdrawn ∷ decimal fed.full ∷ [])

abbrev pub note_text : Note → Text
note_text note.Asked = codes "Asked"
note_text note.Subscribed = codes "Subscribed"
note_text note.Ended = codes "Ended"
note_text note.Supplied = codes "Supplied"
note_text note.NothingReady = codes "NothingReady"
note_text (note.WrongPart wanted) = spaced (codes "WrongPart" ∷ place_text wanted ∷ [])
note_text note.Renewed = codes "Renewed"
note_text note.NotRenewed = codes "NotRenewed"
note_text note.Acknowledged = codes "Acknowledged"
note_text note.NotThis = codes "NotThis"
note_text note.Checked = codes "Checked"
note_text (note.Fed fed) = spaced (codes "Fed" ∷ fed_text fed ∷ [])
note_text note.Ignored = codes "Ignored"

abbrev pub outcome_text : Outcome → Text
outcome_text outcome.UnknownSubscription = codes "UnknownSubscription"
outcome_text outcome.OldStart = codes "OldStart"
outcome_text (outcome.Gap wanted) = spaced (codes "Gap" ∷ place_text wanted ∷ [])
outcome_text outcome.Repeat = codes "Repeat"
outcome_text outcome.Overlong = codes "Overlong"
outcome_text outcome.Ready = codes "Ready"
outcome_text (outcome.Buffered place) = spaced (codes "Buffered" ∷ place_text place ∷ [])
outcome_text (outcome.Applied round) = spaced (codes "Applied" ∷ decimal round ∷ [])
outcome_text outcome.Noted = codes "Noted"
outcome_text outcome.NotForMe = codes "NotForMe"

abbrev pub word_text : Word → Text
word_text (word.Producer note) = note_text note
word_text (word.Consumer outcome) = outcome_text outcome

abbrev pub ask_error_text : AskError → Text
ask_error_text ask_error.Spent = codes "Spent"
ask_error_text ask_error.TooMany = codes "TooMany"
ask_error_text ask_error.NotHeld = codes "NotHeld"
ask_error_text ask_error.OutOfMemory = codes "OutOfMemory"

abbrev pub state_text : Bool → Text
state_text true = codes "quiet"
state_text false = codes "moving"

abbrev pub held_text : Held → Text
held_text held = spaced (codes "number" ∷ decimal held.number ∷ codes "start" ∷ decimal held.start ∷ codes "round" ∷ decimal held.round ∷ [])

abbrev pub unknown_text : Text → Option Text → Text
unknown_text consumer None = consumer
unknown_text consumer (Some identifier) = spaced (consumer ∷ identifier ∷ [])

abbrev pub line_text : ToldLine → Text
line_text (line.Started number) = spaced (codes "started" ∷ decimal number ∷ [])
line_text (line.Fed fed) = spaced (codes "fed" ∷ fed_text fed ∷ [])
line_text (line.Answer message) = spaced (codes "answer" ∷ kind_of message ∷ [])
line_text (line.Packet number to message) = spaced (codes "packet" ∷ decimal number ∷ codes "to" ∷ to ∷ kind_of message ∷ [])
line_text (line.Refused consumer why) = spaced (codes "refused" ∷ consumer ∷ ask_error_text why ∷ [])
line_text (line.Unknown consumer identifier) = spaced (codes "unknown" ∷ unknown_text consumer identifier ∷ [])
line_text (line.Took receiver word) = spaced (codes "took" ∷ receiver ∷ word_text word ∷ [])
line_text (line.NoPacket number) = spaced (codes "no packet" ∷ decimal number ∷ [])
line_text (line.View consumer identifier held items quiet) =
    spaced (codes "view" ∷ consumer ∷ identifier ∷ held_text held ∷ codes "items" ∷ decimal items ∷ state_text quiet ∷ [])
line_text (line.Item item) = spaced (codes "item" ∷ decimal (departure item) ∷ [])

-- ---- reports

abbrev pub error_text : StepError → Text
error_text error.NotStarted = codes "NotStarted"
error_text error.PacketLimit = codes "PacketLimit"
error_text error.ConsumerLimit = codes "ConsumerLimit"
error_text error.StartLimit = codes "StartLimit"
error_text error.OutOfMemory = codes "OutOfMemory"

abbrev pub told_text : Result (List ToldLine) StepError → List Text
told_text (Ok lines) = map line_text lines
told_text (Err why) = error_text why ∷ []

-- the lines of some events from a world on, each told or refused
abbrev pub report_from : World → List Event → List Text
report_from world [] = []
report_from world (event ∷ events) = told_text (told world event) ++ report_from (after world event) events

abbrev pub report : List Event → List Text
report events = report_from nothing events

-- the lines of the last of some events
abbrev pub last_lines : List Event → Event → List Text
last_lines events event = told_text (told (world_after events) event)

-- ---- events

-- a feed of one visit, by its identifier and its departure in seconds
abbrev pub feed : ℕ → ℕ → Event
feed identifier seconds = event.Feed (record blank_service_delivery {
  stop_monitoring_delivery = record blank_functional_delivery { items = visit identifier (at seconds) ∷ [] } ∷ [];
})

-- a consumer subscribes to the visits at the stop for a day, with a slack in seconds
abbrev pub subscribe : Text → ℕ → Event
subscribe consumer slack = event.Subscribe consumer (subscription 86400 slack true) (pos 0)

abbrev pub view : Event
view = event.View c1 (codes "S")

-- ---- scripts

-- a start, a visit in ten minutes, and a subscription with a slack of a minute that reaches the producer: packet 2 is the
-- response, packet 3 the first round
abbrev pub subscribed : List Event
subscribed = event.Start 0 ∷ feed 97 600 ∷ subscribe c1 60 ∷ event.Deliver 1 ∷ []

-- the first round is taken, and its acknowledgement is: packet 4
abbrev pub acknowledged : List Event
acknowledged = subscribed ++ event.Deliver 3 ∷ event.Deliver 4 ∷ []

-- the name of a consumer by a number of two digits
abbrev pub numbered : (tens ones : ℕ) → Text
numbered tens ones = 99 ∷ (48 + tens) ∷ (48 + ones) ∷ []

-- the consumers of the numbers 1 to 16, each of which subscribes once
abbrev pub sixteen : List Event
sixteen = map (λ ones. subscribe (numbered 0 ones) 0) (1 ∷ 2 ∷ 3 ∷ 4 ∷ 5 ∷ 6 ∷ 7 ∷ 8 ∷ 9 ∷ [])
    ++ map (λ ones. subscribe (numbered 1 ones) 0) (0 ∷ 1 ∷ 2 ∷ 3 ∷ 4 ∷ 5 ∷ 6 ∷ [])

-- two consumers subscribe, and the request of the second is accepted first: packets 1 and 2 are the requests, 3 and 4 go to
-- the second, 5 and 6 to the first; the rounds 4 and 6 are taken, and their acknowledgements 7 and 8 are
abbrev pub two : List Event
two =
    event.Start 0 ∷ feed 97 600 ∷ subscribe (numbered 0 1) 60 ∷ subscribe (numbered 0 2) 60 ∷ event.Deliver 2 ∷ event.Deliver 1
    ∷ event.Deliver 4 ∷ event.Deliver 6 ∷ event.Deliver 7 ∷ event.Deliver 8 ∷ []

-- the request of a consumer's first subscription, under number 1 at a moment
abbrev pub first_request : (moment : ℕ) → Text → Message
first_request moment consumer = message.SubscriptionRequest (record (blank_subscription_request 1) {
  request_timestamp = Some moment;
  requestor_ref = Some consumer;
  stop_monitoring_subscription_request = record (subscription 86400 0 true) { subscriber = consumer } ∷ [];
})

-- the consumer restarts, and asks for all: packet 5 is its request, 6 the answer, 7 the first round under the new
-- number, and 8 its acknowledgement
abbrev pub renewed : List Event
renewed = acknowledged ++ event.Restart c1 ∷ event.Deliver 5 ∷ event.Deliver 7 ∷ event.Deliver 8 ∷ []

-- two requests for one subscription, of which the second, for half an hour, is accepted; the consumer restarts and asks
-- for all of it, packet 5. It ends, and then the first request is accepted
abbrev pub base_is_gone : List Event
base_is_gone =
    event.Start 0 ∷ subscribe c1 0 ∷ event.Subscribe c1 (subscription 1800 0 true) (pos 0) ∷ event.Deliver 2 ∷
    event.Restart c1 ∷ event.Clock 1800000 ∷ event.Deliver 1 ∷ []

-- ---- quiet views

-- after the first round the visit drifts, by less than the slack
abbrev pub drifted : List Event
drifted = acknowledged ++ feed 97 620 ∷ feed 97 640 ∷ []

-- the producer starts anew, the request reaches it again, and its first round is taken and acknowledged
abbrev pub restarted : List Event
restarted = acknowledged ++ event.Start 300000 ∷ event.Deliver 1 ∷ event.Deliver 6 ∷ event.Deliver 7 ∷ []

-- when the visits of a direct response to the subscription's topic leave
abbrev pub departures : List Event → List ℕ
departures events = map (λ entry. departure entry.1) (direct_response events (subscription 86400 60 true).topic)
