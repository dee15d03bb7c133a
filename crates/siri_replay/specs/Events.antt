-- The event that a line of a script says.
use Rattle.std.specs.Prelude.{ℕ, List, Bool, true, false, if◌then◌else◌, Option, Some, None, Result, Ok, Err, option_and_then}
use Rattle.siri_base.specs.declared.reason.ScriptReason.{ScriptReason}
use Rattle.siri_base.specs.declared.reason.ScriptReason.TheVariants as reason
use Rattle.siri_world_model.specs.declared.event.Event.{Event}
use Rattle.siri_world_model.specs.declared.event.Event.TheVariants as event
use Rattle.siri_replay.specs.declared.script_words.ScriptWord.{ScriptWord}
use Rattle.siri_replay.specs.declared.script_words.ScriptWord.TheVariants as word
use Rattle.siri_replay.specs.Lines.{first_word, argument_of, word_of}
use Rattle.siri_document.specs.script.Lines.{is_skipped}
use Rattle.siri_replay.specs.Arguments.{and_then, moment_in, consumer_in, identifier_in, number_in, delivery_in, request_in, wanted_in}

-- the event that is made of an argument
abbrev pub with_argument : {A : Type 0} → Result A ScriptReason → (A → Event) → Result Event ScriptReason
with_argument argument event = and_then argument (λ value. Ok (event value))

-- the first of two arguments
abbrev pub first_of : Option (List ℕ) → Option (List ℕ)
first_of None = None
first_of (Some arguments) = Some (first_word arguments)

-- what follows it
abbrev pub rest_of : Option (List ℕ) → Option (List ℕ)
rest_of arguments = option_and_then argument_of arguments

-- `subscribe CONSUMER WANTED`
abbrev pub subscription_said : Option (List ℕ) → Result Event ScriptReason
subscription_said arguments = and_then (consumer_in (first_of arguments)) (λ consumer.
    with_argument (wanted_in consumer (rest_of arguments)) (λ wanted. event.Subscribe consumer wanted.subscription wanted.beat))

-- `terminate CONSUMER ID`
abbrev pub termination_said : Option (List ℕ) → Result Event ScriptReason
termination_said arguments = and_then (consumer_in (first_of arguments)) (λ consumer.
    with_argument (identifier_in (rest_of arguments)) (λ identifier. event.Terminate consumer identifier))

-- `view CONSUMER ID`
abbrev pub view_said : Option (List ℕ) → Result Event ScriptReason
view_said arguments = and_then (consumer_in (first_of arguments)) (λ consumer.
    with_argument (identifier_in (rest_of arguments)) (λ identifier. event.View consumer identifier))

-- what a word says with its arguments
abbrev pub word_says : ScriptWord → Option (List ℕ) → Result Event ScriptReason
word_says word.Start arguments = with_argument (moment_in arguments) event.Start
word_says word.Clock arguments = with_argument (moment_in arguments) event.Clock
word_says word.Feed arguments = with_argument (delivery_in arguments) event.Feed
word_says word.Ask arguments = with_argument (request_in arguments) event.Ask
word_says word.Subscribe arguments = subscription_said arguments
word_says word.Terminate arguments = termination_said arguments
word_says word.Restart arguments = with_argument (consumer_in arguments) event.Restart
word_says word.Status arguments = with_argument (consumer_in arguments) event.Status
word_says word.Deliver arguments = with_argument (number_in arguments) event.Deliver
word_says word.View arguments = view_said arguments

-- before a start was taken only a `start` is
abbrev pub is_early : Bool → ScriptWord → Bool
is_early started word.Start = false
is_early true other = false
is_early false other = true

abbrev pub event_said : Bool → ScriptWord → Option (List ℕ) → Result Event ScriptReason
event_said started word arguments = if is_early started word then Err reason.NotStarted else word_says word arguments

abbrev pub as_said : Result Event ScriptReason → Result (Option Event) ScriptReason
as_said said = and_then said (λ event. Ok (Some event))

-- what a line says: a skipped line says nothing
unfoldable pub line_said : Bool → List ℕ → Result (Option Event) ScriptReason
line_said started line =
    if is_skipped line then Ok None
    else as_said (and_then (word_of line) (λ word. event_said started word (argument_of line)))
