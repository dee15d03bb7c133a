-- The values that clap reads of the words of a command.
use Rattle.std.specs.Prelude.{◌≡◌, List, [], ◌∷◌, codes, true, Option}
use Rattle.clap.specs.Words.{App, Text, app_of, first_of, first_value, found_of, matches_of, new_app, new_rule, takes, with_rule}
use Rattle.clap.specs.Simple.{on_top}
use Rattle.clap.specs.declared.builder.command.Command.{Command}
use Rattle.clap.specs.declared.parser.matches.ArgMatches.{ArgMatches}

-- the command has these arguments and settings
unfoldable pub IsOf : App → Command → Type 0
IsOf app command = app_of command ≡ app

-- the command takes the words
unfoldable pub TakesWords : App → List Text → Type 0
TakesWords app words = takes app words ≡ true

-- the value of an argument, of words
unfoldable pub value_of : App → List Text → Text → Option Text
value_of app words id = first_of id (matches_of app words)

-- the value of an argument that was read
unfoldable pub value_in : ArgMatches → Text → Option Text
value_in matches id = first_value (found_of matches) id

-- each argument has the value that it has of the words
abbrev pub HasValuesOf : App → List Text → ArgMatches → Type 0
HasValuesOf app words matches = (id : Text) → value_in matches id ≡ value_of app words id

-- a command without options, help among them
abbrev pub without_help : App → App
without_help app = on_top (λ shape. record shape { disable_help_flag = true }) app

-- ---- the arguments of each command, and its words

unfoldable pub load_app : App
load_app = with_rule (with_rule (without_help (new_app (codes "load"))) (new_rule (codes "SEED"))) (new_rule (codes "COUNT"))

abbrev pub load_words : (seed count : Text) → List Text
load_words seed count = codes "load" ∷ codes "--" ∷ seed ∷ count ∷ []

unfoldable pub get_app : App
get_app = with_rule (without_help (new_app (codes "get"))) (new_rule (codes "PRODUCER"))

abbrev pub get_words : (producer : Text) → List Text
get_words producer = codes "get" ∷ codes "--" ∷ producer ∷ []

unfoldable pub serve_app : App
serve_app = with_rule (with_rule (with_rule (without_help (new_app (codes "serve"))) (new_rule (codes "NAME")))
    (new_rule (codes "LISTEN"))) (new_rule (codes "COUNT"))

abbrev pub serve_words : (name listen count : Text) → List Text
serve_words name listen count = codes "serve" ∷ codes "--" ∷ name ∷ listen ∷ count ∷ []

unfoldable pub consume_app : App
consume_app =
    with_rule
    (with_rule (with_rule (with_rule (without_help (new_app (codes "consume"))) (new_rule (codes "NAME")))
    (new_rule (codes "LISTEN"))) (new_rule (codes "PRODUCER")))
    (new_rule (codes "COUNT"))

abbrev pub consume_words : (name listen producer count : Text) → List Text
consume_words name listen producer count = codes "consume" ∷ codes "--" ∷ name ∷ listen ∷ producer ∷ count ∷ []
