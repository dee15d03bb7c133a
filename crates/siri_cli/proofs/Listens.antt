-- A LISTEN is of at most 247 bytes.
use Rattle.std.proofs.Common.{◌≡◌, ◌≤◌, ℕ, List, [], ◌∷◌, Bool, true, false, Option, None, Some, length, codes, refl, sym, subst}
use Rattle.std.specs.Prelude.{◌&&◌, if◌then◌else◌, option_map, nat_le}
use Rattle.std.specs.List.{list_any}
use Rattle.std.proofs.lemmas.Bool.{and_parts, leb-true}
use Rattle.siri_http.specs.Addresses.{is_host_with_port}
use Rattle.siri_base.specs.Numbers.{number_of}
use Rattle.siri_http.specs.declared.address.Address.{Address as Producer}
use Rattle.siri_cli.specs.Arguments.{count_of, is_listen, is_name, producer_of, most_events, most_connections}
use Rattle.siri_cli.specs.Commands.{begins_with_minus, command_by, command_named, command_of, command_with, consume_by, consume_of}
use Rattle.siri_cli.specs.Commands.{consume_with, get_by, get_of, is_word, load_by, load_of, load_with, plain_of, producer_command, serve_by}
use Rattle.siri_cli.specs.Commands.{serve_of}
use Rattle.siri_cli.specs.declared.command.Command.{Command}
use Rattle.siri_cli.specs.declared.command.Command.TheVariants.{Replay, Check, Convert, Get, Consume, Relay}
use Rattle.siri_cli.specs.declared.consume.Consuming.{Consuming}
use Rattle.siri_cli.specs.declared.consume.Consuming.TheVariants as consuming
use Rattle.siri_cli.specs.declared.serve.Producing.{Producing}
use Rattle.siri_cli.specs.declared.serve.Producing.TheVariants as producing

abbrev Bounded : Option Command → Type 0
Bounded (Some (Consume name listen producer count)) = nat_le (length listen) 247 ≡ true
Bounded (Some (Relay name listen upstream count)) = nat_le (length listen) 247 ≡ true
Bounded other = Unit {0}

bounded_where : (good : Bool) (command : Option Command) → (good ≡ true → Bounded command) → Bounded (if good then command else None)
bounded_where true command bounded = bounded refl
bounded_where false command bounded = tt

bounded_load : (seed count : Option ℕ) → Bounded (load_with seed count)
bounded_load (Some seed) (Some count) = tt
bounded_load (Some seed) None = tt
bounded_load None count = tt

bounded_loads : (arguments : List (List ℕ)) → Bounded (load_of arguments)
unfolding load_by
bounded_loads [] = tt
bounded_loads (seed ∷ []) = tt
bounded_loads (seed ∷ count ∷ []) = bounded_load (number_of seed) (count_of 0 most_events count)
bounded_loads (seed ∷ count ∷ more ∷ rest) = tt

bounded_get : (producer : Option Producer) → Bounded (option_map Get producer)
bounded_get (Some producer) = tt
bounded_get None = tt

bounded_gets : (arguments : List (List ℕ)) → Bounded (get_of arguments)
unfolding get_by
bounded_gets [] = tt
bounded_gets (producer ∷ []) = bounded_get (producer_of producer)
bounded_gets (producer ∷ more ∷ rest) = tt

bounded_serve : (word : Producing) (name listen : List ℕ) (count : Option ℕ) → Bounded (option_map (producer_command word name listen) count)
bounded_serve producing.Serve name listen (Some count) = tt
bounded_serve producing.Lite name listen (Some count) = tt
bounded_serve word name listen None = tt

bounded_serves : (word : Producing) (arguments : List (List ℕ)) → Bounded (serve_of word arguments)
unfolding serve_by
bounded_serves word [] = tt
bounded_serves word (name ∷ []) = tt
bounded_serves word (name ∷ listen ∷ []) = tt
bounded_serves word (name ∷ listen ∷ count ∷ []) = bounded_where (is_name name && is_listen listen)
    (option_map (producer_command word name listen) (count_of 1 most_connections count))
    (λ good. bounded_serve word name listen (count_of 1 most_connections count))
bounded_serves word (name ∷ listen ∷ count ∷ more ∷ rest) = tt

bounded_consume : (word : Consuming) (name listen : List ℕ) (producer : Option Producer) (count : Option ℕ)
    → nat_le (length listen) 247 ≡ true → Bounded (consume_with word name listen producer count)
bounded_consume consuming.Consume name listen (Some producer) (Some count) short = short
bounded_consume consuming.Relay name listen (Some producer) (Some count) short = short
bounded_consume word name listen (Some producer) None short = tt
bounded_consume word name listen None count short = tt

short_listen : (name listen : List ℕ) → is_name name && is_listen listen ≡ true → nat_le (length listen) 247 ≡ true
short_listen name listen good =
    (and_parts (nat_le (length listen) 247) (is_host_with_port listen)
    (and_parts (nat_le 1 (length listen)) (nat_le (length listen) 247 && is_host_with_port listen) (and_parts (is_name name) (is_listen listen) good).1).1).0

bounded_consumes : (word : Consuming) (arguments : List (List ℕ)) → Bounded (consume_of word arguments)
unfolding consume_by
bounded_consumes word [] = tt
bounded_consumes word (name ∷ []) = tt
bounded_consumes word (name ∷ listen ∷ []) = tt
bounded_consumes word (name ∷ listen ∷ producer ∷ []) = tt
bounded_consumes word (name ∷ listen ∷ producer ∷ count ∷ []) =
    bounded_where (is_name name && is_listen listen) (consume_with word name listen (producer_of producer) (count_of 1 most_connections count))
    (λ good. bounded_consume word name listen (producer_of producer) (count_of 1 most_connections count) (short_listen name listen good))
bounded_consumes word (name ∷ listen ∷ producer ∷ count ∷ more ∷ rest) = tt

bounded_either : (test : Bool) (one other : Option Command) → Bounded one → Bounded other → Bounded (if test then one else other)
bounded_either true one other is is' = is
bounded_either false one other is is' = is'

bounded_named : (word : List ℕ) → Bounded (command_named word)
bounded_named word =
    bounded_either (is_word word (codes "replay")) (Some Replay) _ tt
    (bounded_either (is_word word (codes "check")) (Some Check) _ tt
    (bounded_either (is_word word (codes "convert")) (Some Convert) None tt tt))

bounded_plain : (word : List ℕ) (arguments : List (List ℕ)) → Bounded (plain_of word arguments)
bounded_plain word [] = bounded_named word
bounded_plain word (first ∷ rest) = tt

bounded_with : (word : List ℕ) (arguments : List (List ℕ)) → Bounded (command_with word arguments)
unfolding command_with
bounded_with word arguments =
    bounded_either (is_word word (codes "load")) (load_of arguments) _ (bounded_loads arguments)
    (bounded_either (is_word word (codes "get")) (get_of arguments) _ (bounded_gets arguments)
    (bounded_either (is_word word (codes "serve")) (serve_of producing.Serve arguments) _ (bounded_serves producing.Serve arguments)
    (bounded_either (is_word word (codes "lite")) (serve_of producing.Lite arguments) _ (bounded_serves producing.Lite arguments)
    (bounded_either (is_word word (codes "consume")) (consume_of consuming.Consume arguments) _ (bounded_consumes consuming.Consume arguments)
    (bounded_either (is_word word (codes "relay")) (consume_of consuming.Relay arguments) (plain_of word arguments)
    (bounded_consumes consuming.Relay arguments) (bounded_plain word arguments))))))

bounded_by : (words : List (List ℕ)) → Bounded (command_by words)
bounded_by [] = tt
bounded_by (word ∷ arguments) = bounded_with word arguments

bounded : (words : List (List ℕ)) → Bounded (command_of words)
unfolding command_of
bounded words = bounded_either (list_any begins_with_minus words) None (command_by words) tt (bounded_by words)

pub listen_bound : (words : List (List ℕ)) (name listen : List ℕ) (producer : Producer) (count : ℕ)
    → Some (Consume name listen producer count) ≡ command_of words → length listen ≤ 247
listen_bound words name listen producer count is = leb-true (length listen) 247 (subst Bounded (sym is) (bounded words))

pub relay_bound : (words : List (List ℕ)) (name listen : List ℕ) (upstream : Producer) (count : ℕ)
    → Some (Relay name listen upstream count) ≡ command_of words → length listen ≤ 247
relay_bound words name listen upstream count is = leb-true (length listen) 247 (subst Bounded (sym is) (bounded words))
