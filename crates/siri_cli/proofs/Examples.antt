-- Words, and what they ask for.
use Rattle.std.proofs.Common.{◌≡◌, [], ◌∷◌, codes, refl, true, false, Some, None}
use Rattle.siri_http.specs.Addresses.{address_of, is_host_with_port}
use Rattle.siri_base.specs.Numbers.{number_of}
use Rattle.siri_cli.specs.Arguments.{is_listen, producer_of, count_of}
use Rattle.siri_cli.specs.Commands.{load_by, get_by, serve_by, consume_by, command_with, command_of}
use Rattle.siri_cli.specs.declared.command.Command.TheVariants.{Replay, Check, Convert, Load, Get, Serve, Lite, Consume, Relay}
use Rattle.siri_cli.specs.declared.consume.Consuming.TheVariants as consuming
use Rattle.siri_cli.specs.declared.serve.Producing.TheVariants as producing

-- ---- words of one command

replay_alone : command_of (codes "replay" ∷ []) ≡ Some Replay
unfolding command_of command_with
replay_alone = refl

check_alone : command_of (codes "check" ∷ []) ≡ Some Check
unfolding command_of command_with
check_alone = refl

convert_alone : command_of (codes "convert" ∷ []) ≡ Some Convert
unfolding command_of command_with
convert_alone = refl

nothing : command_of [] ≡ None
unfolding command_of command_with
nothing = refl

another_word : command_of (codes "Replay" ∷ []) ≡ None
unfolding command_of command_with
another_word = refl

a_word_too_many : command_of (codes "check" ∷ codes "check" ∷ []) ≡ None
unfolding command_of command_with
a_word_too_many = refl

help : command_of (codes "--help" ∷ []) ≡ None
unfolding command_of command_with
help = refl

-- ---- `load`

a_load : load_by (codes "0007") (codes "20000") ≡ Some (Load 7 20000)
unfolding load_by count_of number_of
a_load = refl

a_load_by_none : command_of (codes "load" ∷ codes "7" ∷ codes "0" ∷ []) ≡ Some (Load 7 0)
unfolding command_of command_with load_by count_of number_of
a_load_by_none = refl

a_load_by_too_many : load_by (codes "7") (codes "20001") ≡ None
unfolding load_by count_of number_of
a_load_by_too_many = refl

a_zero_before : load_by (codes "7") (codes "007") ≡ None
unfolding load_by count_of number_of
a_zero_before = refl

a_seed_of_19_digits : load_by (codes "1234567890123456789") (codes "1") ≡ None
unfolding load_by count_of number_of
a_seed_of_19_digits = refl

a_seed_below_zero : command_of (codes "load" ∷ codes "-7" ∷ codes "1" ∷ []) ≡ None
unfolding command_of command_with
a_seed_below_zero = refl

-- ---- `get`

a_get : command_of (codes "get" ∷ codes "http://127.0.0.1:7001/z" ∷ [])
    ≡ Some (Get (record { host = codes "127.0.0.1:7001"; path = codes "/z" }))
unfolding command_of command_with get_by producer_of address_of number_of
a_get = refl

a_get_without_scheme : get_by (codes "127.0.0.1:7001") ≡ None
unfolding get_by producer_of address_of number_of
a_get_without_scheme = refl

a_get_of_none : command_of (codes "get" ∷ []) ≡ None
unfolding command_of command_with
a_get_of_none = refl

-- ---- `serve`

a_serve : serve_by producing.Serve (codes "AGENCY") (codes "localhost:8080") (codes "1000000") ≡ Some (Serve (codes "AGENCY") (codes "localhost:8080") 1000000)
unfolding serve_by count_of is_host_with_port number_of
a_serve = refl

a_whole_serve : command_of (codes "serve" ∷ codes "AGENCY" ∷ codes "0.0.0.0:080" ∷ codes "1" ∷ []) ≡ Some (Serve (codes "AGENCY") (codes "0.0.0.0:080") 1)
unfolding command_of command_with serve_by count_of is_host_with_port number_of
a_whole_serve = refl

a_whole_lite : command_of (codes "lite" ∷ codes "AGENCY" ∷ codes "0.0.0.0:080" ∷ codes "1" ∷ []) ≡ Some (Lite (codes "AGENCY") (codes "0.0.0.0:080") 1)
unfolding command_of command_with serve_by count_of is_host_with_port number_of
a_whole_lite = refl

no_connection : serve_by producing.Serve (codes "AGENCY") (codes "localhost:8080") (codes "0") ≡ None
unfolding serve_by count_of is_host_with_port number_of
no_connection = refl

too_many_connections : serve_by producing.Serve (codes "AGENCY") (codes "localhost:8080") (codes "1000001") ≡ None
unfolding serve_by count_of is_host_with_port number_of
too_many_connections = refl

no_port : serve_by producing.Serve (codes "AGENCY") (codes "localhost") (codes "1") ≡ None
unfolding serve_by count_of is_host_with_port number_of
no_port = refl

an_empty_port : is_listen (codes "localhost:") ≡ false
unfolding is_host_with_port number_of
an_empty_port = refl

no_host : is_listen (codes ":8080") ≡ false
unfolding is_host_with_port number_of
no_host = refl

the_last_port : is_listen (codes "a:65535") ≡ true
unfolding is_host_with_port number_of
the_last_port = refl

past_the_last_port : is_listen (codes "a:65536") ≡ false
unfolding is_host_with_port number_of
past_the_last_port = refl

an_address_as_listen : is_listen (codes "http://localhost:8080") ≡ false
unfolding is_host_with_port number_of
an_address_as_listen = refl

an_empty_name : serve_by producing.Serve [] (codes "localhost:8080") (codes "1") ≡ None
unfolding serve_by count_of is_host_with_port number_of
an_empty_name = refl

name_and_listen_exchanged : command_of (codes "serve" ∷ codes "localhost:8080" ∷ codes "AGENCY" ∷ codes "1" ∷ []) ≡ None
unfolding command_of command_with serve_by count_of is_host_with_port number_of
name_and_listen_exchanged = refl

a_name_with_minus : command_of (codes "serve" ∷ codes "-n" ∷ codes "localhost:8080" ∷ codes "1" ∷ []) ≡ None
unfolding command_of command_with
a_name_with_minus = refl

-- ---- `consume`

a_consume : command_of (codes "consume" ∷ codes "board" ∷ codes "localhost:8081" ∷ codes "http://localhost:8080/siri" ∷ codes "12" ∷ [])
    ≡ Some (Consume (codes "board") (codes "localhost:8081") (record { host = codes "localhost:8080"; path = codes "/siri" }) 12)
unfolding command_of command_with consume_by producer_of address_of count_of is_host_with_port number_of
a_consume = refl

a_relay : command_of (codes "relay" ∷ codes "hub" ∷ codes "localhost:8081" ∷ codes "http://localhost:8080/siri" ∷ codes "12" ∷ [])
    ≡ Some (Relay (codes "hub") (codes "localhost:8081") (record { host = codes "localhost:8080"; path = codes "/siri" }) 12)
unfolding command_of command_with consume_by producer_of address_of count_of is_host_with_port number_of
a_relay = refl

a_relay_without_source : command_of (codes "relay" ∷ codes "hub" ∷ codes "localhost:8081" ∷ codes "12" ∷ []) ≡ None
unfolding command_of command_with
a_relay_without_source = refl

the_port_left_out : consume_by consuming.Consume (codes "board") (codes "localhost:8081") (codes "http://producer.example") (codes "12")
    ≡ Some (Consume (codes "board") (codes "localhost:8081") (record { host = codes "producer.example:80"; path = codes "/" }) 12)
unfolding consume_by producer_of address_of count_of is_host_with_port number_of
the_port_left_out = refl

a_producer_without_scheme : consume_by consuming.Consume (codes "board") (codes "localhost:8081") (codes "localhost:8080") (codes "12") ≡ None
unfolding consume_by producer_of address_of count_of is_host_with_port number_of
a_producer_without_scheme = refl

a_consume_by_none : consume_by consuming.Consume (codes "board") (codes "localhost:8081") (codes "http://localhost:8080") (codes "0") ≡ None
unfolding consume_by producer_of address_of count_of is_host_with_port number_of
a_consume_by_none = refl

no_count : command_of (codes "consume" ∷ codes "board" ∷ codes "localhost:8081" ∷ codes "http://localhost:8080" ∷ []) ≡ None
unfolding command_of command_with
no_count = refl
