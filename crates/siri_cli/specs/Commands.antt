-- The words of the command line, and the commands that they ask for.
use Rattle.std.specs.Prelude.{ℕ, List, [], ◌∷◌, codes, Bool, false, ◌==◌, ◌&&◌, Option, Some, None, option_map, if◌then◌else◌, nat_eq}
use Rattle.std.specs.List.{list_any}
use Rattle.std.specs.Cmp.Lexicographic.{pointwise}
use Rattle.siri_base.specs.Numbers.{number_of}
use Rattle.siri_http.specs.declared.address.Address.{Address}
use Rattle.siri_cli.specs.Arguments.{is_name, is_listen, producer_of, count_of, most_events, most_connections}
use Rattle.siri_cli.specs.declared.command.Command.{Command}
use Rattle.siri_cli.specs.declared.command.Command.TheVariants.{Replay, Check, Convert, Load, Get, Serve, Lite, Consume, Relay}
use Rattle.siri_cli.specs.declared.consume.Consuming.{Consuming}
use Rattle.siri_cli.specs.declared.consume.Consuming.TheVariants as consuming
use Rattle.siri_cli.specs.declared.serve.Producing.{Producing}
use Rattle.siri_cli.specs.declared.serve.Producing.TheVariants as producing

-- the word is that text
abbrev pub is_word : (word text : List ℕ) → Bool
is_word word text = pointwise nat_eq word text

-- ---- `replay`, `check`, `convert`

abbrev pub command_named : List ℕ → Option Command
command_named word =
    if is_word word (codes "replay") then Some Replay
    else if is_word word (codes "check") then Some Check
    else if is_word word (codes "convert") then Some Convert
    else None

-- a command without arguments
abbrev pub plain_of : List ℕ → List (List ℕ) → Option Command
plain_of word [] = command_named word
plain_of word (first ∷ rest) = None

-- ---- `load SEED COUNT`

abbrev pub load_with : (seed count : Option ℕ) → Option Command
load_with (Some seed) (Some count) = Some (Load seed count)
load_with seed count = None

-- SEED has 1 to 18 digits, COUNT is 0 to 20,000
unfoldable pub load_by : (seed count : List ℕ) → Option Command
load_by seed count = load_with (number_of seed) (count_of 0 most_events count)

abbrev pub load_of : List (List ℕ) → Option Command
load_of (seed ∷ count ∷ []) = load_by seed count
load_of arguments = None

-- ---- `get PRODUCER`

unfoldable pub get_by : (producer : List ℕ) → Option Command
get_by producer = option_map Get (producer_of producer)

abbrev pub get_of : List (List ℕ) → Option Command
get_of (producer ∷ []) = get_by producer
get_of arguments = None

-- ---- `serve NAME LISTEN COUNT`, `lite NAME LISTEN COUNT`

-- the command of a producer, by its word
abbrev pub producer_command : Producing → (name listen : List ℕ) → ℕ → Command
producer_command producing.Serve name listen count = Serve name listen count
producer_command producing.Lite name listen count = Lite name listen count

-- COUNT is 1 to 1,000,000
unfoldable pub serve_by : Producing → (name listen count : List ℕ) → Option Command
serve_by word name listen count =
    if is_name name && is_listen listen then option_map (producer_command word name listen) (count_of 1 most_connections count) else None

abbrev pub serve_of : Producing → List (List ℕ) → Option Command
serve_of word (name ∷ listen ∷ count ∷ []) = serve_by word name listen count
serve_of word arguments = None

-- ---- `consume NAME LISTEN PRODUCER COUNT`, `relay NAME LISTEN UPSTREAM COUNT`

-- the command of a consumer, by its word
abbrev pub consumer_command : Consuming → (name listen : List ℕ) → Address → ℕ → Command
consumer_command consuming.Consume name listen producer count = Consume name listen producer count
consumer_command consuming.Relay name listen upstream count = Relay name listen upstream count

abbrev pub consume_with : Consuming → (name listen : List ℕ) → Option Address → Option ℕ → Option Command
consume_with word name listen (Some producer) (Some count) = Some (consumer_command word name listen producer count)
consume_with word name listen producer count = None

-- COUNT is 1 to 1,000,000
unfoldable pub consume_by : Consuming → (name listen producer count : List ℕ) → Option Command
consume_by word name listen producer count =
    if is_name name && is_listen listen then consume_with word name listen (producer_of producer) (count_of 1 most_connections count) else None

abbrev pub consume_of : Consuming → List (List ℕ) → Option Command
consume_of word (name ∷ listen ∷ producer ∷ count ∷ []) = consume_by word name listen producer count
consume_of word arguments = None

-- ---- all words

-- what a word asks for with its arguments
unfoldable pub command_with : List ℕ → List (List ℕ) → Option Command
command_with word arguments =
    if is_word word (codes "load") then load_of arguments
    else if is_word word (codes "get") then get_of arguments
    else if is_word word (codes "serve") then serve_of producing.Serve arguments
    else if is_word word (codes "lite") then serve_of producing.Lite arguments
    else if is_word word (codes "consume") then consume_of consuming.Consume arguments
    else if is_word word (codes "relay") then consume_of consuming.Relay arguments
    else plain_of word arguments

abbrev pub command_by : List (List ℕ) → Option Command
command_by [] = None
command_by (word ∷ arguments) = command_with word arguments

abbrev pub begins_with_minus : List ℕ → Bool
begins_with_minus [] = false
begins_with_minus (first ∷ rest) = first == 45

-- what the words ask for, or nothing where they are no plain spelling; no word begins with `-`
unfoldable pub command_of : List (List ℕ) → Option Command
command_of words = if list_any begins_with_minus words then None else command_by words

-- it is a command with arguments
abbrev pub HasArguments : Option Command → Type 0
HasArguments (Some (Load seed count)) = Unit {0}
HasArguments (Some (Get producer)) = Unit {0}
HasArguments (Some (Serve name listen count)) = Unit {0}
HasArguments (Some (Lite name listen count)) = Unit {0}
HasArguments (Some (Consume name listen producer count)) = Unit {0}
HasArguments (Some (Relay name listen upstream count)) = Unit {0}
HasArguments other = ⊥
