-- Only a command with arguments takes memory.
use Rattle.std.proofs.Common.{◌≡◌, ℕ, List, Bool, true, false, Option, Some, None}
use Rattle.std.specs.Prelude.{is_some, option_map, if◌then◌else◌, ◌&&◌}
use Rattle.siri_base.specs.Numbers.{number_of}
use Rattle.siri_http.specs.declared.address.Address.{Address}
use Rattle.siri_cli.specs.Arguments.{count_of, is_listen, is_name, producer_of, most_events, most_connections}
use Rattle.siri_cli.specs.Commands.{HasArguments, consume_by, consume_with, get_by, load_by, load_with, producer_command, serve_by}
use Rattle.siri_cli.specs.declared.command.Command.TheVariants.{Get}
use Rattle.siri_cli.specs.declared.consume.Consuming.{Consuming}
use Rattle.siri_cli.specs.declared.consume.Consuming.TheVariants as consuming
use Rattle.siri_cli.specs.declared.serve.Producing.{Producing}
use Rattle.siri_cli.specs.declared.serve.Producing.TheVariants as producing

load_some : (seed count : Option ℕ) → is_some (load_with seed count) ≡ true → HasArguments (load_with seed count)
load_some (Some seed) (Some count) is = tt
load_some (Some seed) None is = cc
load_some None count is = cc

pub some_load : (seed count : List ℕ) → is_some (load_by seed count) ≡ true → HasArguments (load_by seed count)
unfolding load_by
some_load seed count is = load_some (number_of seed) (count_of 0 most_events count) is

get_some : (producer : Option Address) → is_some (option_map Get producer) ≡ true → HasArguments (option_map Get producer)
get_some (Some producer) is = tt
get_some None is = cc

pub some_get : (producer : List ℕ) → is_some (get_by producer) ≡ true → HasArguments (get_by producer)
unfolding get_by
some_get producer is = get_some (producer_of producer) is

serve_some : (word : Producing) (name listen : List ℕ) (count : Option ℕ)
    → is_some (option_map (producer_command word name listen) count) ≡ true
    → HasArguments (option_map (producer_command word name listen) count)
serve_some producing.Serve name listen (Some count) is = tt
serve_some producing.Lite name listen (Some count) is = tt
serve_some word name listen None is = cc

serve_if : (good : Bool) (word : Producing) (name listen : List ℕ) (count : Option ℕ)
    → is_some (if good then option_map (producer_command word name listen) count else None) ≡ true
    → HasArguments (if good then option_map (producer_command word name listen) count else None)
serve_if true word name listen count is = serve_some word name listen count is
serve_if false word name listen count is = cc

pub some_serve : (word : Producing) (name listen count : List ℕ) → is_some (serve_by word name listen count) ≡ true
    → HasArguments (serve_by word name listen count)
unfolding serve_by
some_serve word name listen count is = serve_if (is_name name && is_listen listen) word name listen
    (count_of 1 most_connections count) is

consume_some : (word : Consuming) (name listen : List ℕ) (producer : Option Address) (count : Option ℕ)
    → is_some (consume_with word name listen producer count) ≡ true → HasArguments (consume_with word name listen producer count)
consume_some consuming.Consume name listen (Some producer) (Some count) is = tt
consume_some consuming.Relay name listen (Some producer) (Some count) is = tt
consume_some word name listen (Some producer) None is = cc
consume_some word name listen None count is = cc

consume_if : (good : Bool) (word : Consuming) (name listen : List ℕ) (producer : Option Address) (count : Option ℕ)
    → is_some (if good then consume_with word name listen producer count else None) ≡ true
    → HasArguments (if good then consume_with word name listen producer count else None)
consume_if true word name listen producer count is = consume_some word name listen producer count is
consume_if false word name listen producer count is = cc

pub some_consume : (word : Consuming) (name listen producer count : List ℕ)
    → is_some (consume_by word name listen producer count) ≡ true → HasArguments (consume_by word name listen producer count)
unfolding consume_by
some_consume word name listen producer count is = consume_if (is_name name && is_listen listen) word name listen
    (producer_of producer) (count_of 1 most_connections count) is
