use Rattle.std.proofs.Common.{◌≡◌, ◌∙◌, ap, codes, is_some}
use Rattle.siri_cli.specs.inner.Values.{serve_app, value_in}
use Rattle.siri_cli.proofs.Places.{is_given, serve_takes, serve_name, serve_listen, serve_count}
use Rattle.siri_cli.proofs.serve.read_serve.Goals as goal

pub matches_of-requires : goal.matches_of-requires
matches_of-requires c = (serve_app, c.in_ok-serve_command.ensures, serve_takes c.args.name.now c.args.listen.now c.args.count.now)

pub value-requires : goal.value-requires
value-requires c = ap is_some (c.in_ok-matches.ensures serve_app c.in_ok-serve_command.ensures (codes "NAME")
    ∙ serve_name c.args.name.now c.args.listen.now c.args.count.now)

pub value-requires-2 : goal.value-requires-2
value-requires-2 c = ap is_some (c.in_ok-matches.ensures serve_app c.in_ok-serve_command.ensures (codes "LISTEN")
    ∙ serve_listen c.args.name.now c.args.listen.now c.args.count.now)

pub value-requires-3 : goal.value-requires-3
value-requires-3 c = ap is_some (c.in_ok-matches.ensures serve_app c.in_ok-serve_command.ensures (codes "COUNT")
    ∙ serve_count c.args.name.now c.args.listen.now c.args.count.now)

pub serve_with-requires : goal.serve_with-requires
serve_with-requires c =
    let name : c.value.result.now ≡ c.args.name.now = is_given
    (value_in c.in_ok-matches.matches (codes "NAME")) c.value.result.now c.args.name.now c.value.ensures
    (c.in_ok-matches.ensures serve_app c.in_ok-serve_command.ensures (codes "NAME")
    ∙ serve_name c.args.name.now c.args.listen.now c.args.count.now) in
    let listen : c.value-2.result.now ≡ c.args.listen.now =
    is_given (value_in c.in_ok-matches.matches (codes "LISTEN")) c.value-2.result.now c.args.listen.now
    c.value-2.ensures (c.in_ok-matches.ensures serve_app c.in_ok-serve_command.ensures (codes "LISTEN")
    ∙ serve_listen c.args.name.now c.args.listen.now c.args.count.now) in
    let count : c.value-3.result.now ≡ c.args.count.now =
    is_given (value_in c.in_ok-matches.matches (codes "COUNT")) c.value-3.result.now c.args.count.now
    c.value-3.ensures (c.in_ok-matches.ensures serve_app c.in_ok-serve_command.ensures (codes "COUNT")
    ∙ serve_count c.args.name.now c.args.listen.now c.args.count.now) in
    rw (name, listen, count) c.requires

pub returns : goal.returns
returns c =
    let name : c.value.result.now ≡ c.args.name.now = is_given
    (value_in c.in_ok-matches.matches (codes "NAME")) c.value.result.now c.args.name.now c.value.ensures
    (c.in_ok-matches.ensures serve_app c.in_ok-serve_command.ensures (codes "NAME")
    ∙ serve_name c.args.name.now c.args.listen.now c.args.count.now) in
    let listen : c.value-2.result.now ≡ c.args.listen.now =
    is_given (value_in c.in_ok-matches.matches (codes "LISTEN")) c.value-2.result.now c.args.listen.now
    c.value-2.ensures (c.in_ok-matches.ensures serve_app c.in_ok-serve_command.ensures (codes "LISTEN")
    ∙ serve_listen c.args.name.now c.args.listen.now c.args.count.now) in
    let count : c.value-3.result.now ≡ c.args.count.now =
    is_given (value_in c.in_ok-matches.matches (codes "COUNT")) c.value-3.result.now c.args.count.now
    c.value-3.ensures (c.in_ok-matches.ensures serve_app c.in_ok-serve_command.ensures (codes "COUNT")
    ∙ serve_count c.args.name.now c.args.listen.now c.args.count.now) in
    rw (← name, ← listen, ← count) c.serve_with.ensures
