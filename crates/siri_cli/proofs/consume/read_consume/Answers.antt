use Rattle.std.proofs.Common.{◌≡◌, ◌∙◌, ap, codes, is_some}
use Rattle.siri_cli.specs.inner.Values.{consume_app, value_in}
use Rattle.siri_cli.proofs.Places.{is_given, consume_takes, consume_name, consume_listen, consume_producer, consume_count}
use Rattle.siri_cli.proofs.consume.read_consume.Goals as goal

pub matches_of-requires : goal.matches_of-requires
matches_of-requires c = (consume_app, c.in_ok-consume_command.ensures, consume_takes c.args.name.now c.args.listen.now c.args.producer.now c.args.count.now)

pub value-requires : goal.value-requires
value-requires c = ap is_some (c.in_ok-matches.ensures consume_app c.in_ok-consume_command.ensures (codes "NAME")
    ∙ consume_name c.args.name.now c.args.listen.now c.args.producer.now c.args.count.now)

pub value-requires-2 : goal.value-requires-2
value-requires-2 c = ap is_some (c.in_ok-matches.ensures consume_app c.in_ok-consume_command.ensures (codes "LISTEN")
    ∙ consume_listen c.args.name.now c.args.listen.now c.args.producer.now c.args.count.now)

pub value-requires-3 : goal.value-requires-3
value-requires-3 c = ap is_some (c.in_ok-matches.ensures consume_app c.in_ok-consume_command.ensures (codes "PRODUCER")
    ∙ consume_producer c.args.name.now c.args.listen.now c.args.producer.now c.args.count.now)

pub value-requires-4 : goal.value-requires-4
value-requires-4 c = ap is_some (c.in_ok-matches.ensures consume_app c.in_ok-consume_command.ensures (codes "COUNT")
    ∙ consume_count c.args.name.now c.args.listen.now c.args.producer.now c.args.count.now)

pub consume_with-requires : goal.consume_with-requires
consume_with-requires c =
    let name : c.value.result.now ≡ c.args.name.now = is_given
    (value_in c.in_ok-matches.matches (codes "NAME")) c.value.result.now c.args.name.now c.value.ensures
    (c.in_ok-matches.ensures consume_app c.in_ok-consume_command.ensures (codes "NAME")
    ∙ consume_name c.args.name.now c.args.listen.now c.args.producer.now c.args.count.now) in
    let listen : c.value-2.result.now ≡ c.args.listen.now =
    is_given (value_in c.in_ok-matches.matches (codes "LISTEN")) c.value-2.result.now c.args.listen.now
    c.value-2.ensures (c.in_ok-matches.ensures consume_app c.in_ok-consume_command.ensures (codes "LISTEN")
    ∙ consume_listen c.args.name.now c.args.listen.now c.args.producer.now c.args.count.now) in
    let producer : c.value-3.result.now ≡ c.args.producer.now =
    is_given (value_in c.in_ok-matches.matches (codes "PRODUCER")) c.value-3.result.now c.args.producer.now
    c.value-3.ensures (c.in_ok-matches.ensures consume_app c.in_ok-consume_command.ensures (codes "PRODUCER")
    ∙ consume_producer c.args.name.now c.args.listen.now c.args.producer.now c.args.count.now) in
    let count : c.value-4.result.now ≡ c.args.count.now =
    is_given (value_in c.in_ok-matches.matches (codes "COUNT")) c.value-4.result.now c.args.count.now
    c.value-4.ensures (c.in_ok-matches.ensures consume_app c.in_ok-consume_command.ensures (codes "COUNT")
    ∙ consume_count c.args.name.now c.args.listen.now c.args.producer.now c.args.count.now) in
    rw (name, listen, producer, count) c.requires

pub returns : goal.returns
returns c =
    let name : c.value.result.now ≡ c.args.name.now = is_given
    (value_in c.in_ok-matches.matches (codes "NAME")) c.value.result.now c.args.name.now c.value.ensures
    (c.in_ok-matches.ensures consume_app c.in_ok-consume_command.ensures (codes "NAME")
    ∙ consume_name c.args.name.now c.args.listen.now c.args.producer.now c.args.count.now) in
    let listen : c.value-2.result.now ≡ c.args.listen.now =
    is_given (value_in c.in_ok-matches.matches (codes "LISTEN")) c.value-2.result.now c.args.listen.now
    c.value-2.ensures (c.in_ok-matches.ensures consume_app c.in_ok-consume_command.ensures (codes "LISTEN")
    ∙ consume_listen c.args.name.now c.args.listen.now c.args.producer.now c.args.count.now) in
    let producer : c.value-3.result.now ≡ c.args.producer.now =
    is_given (value_in c.in_ok-matches.matches (codes "PRODUCER")) c.value-3.result.now c.args.producer.now
    c.value-3.ensures (c.in_ok-matches.ensures consume_app c.in_ok-consume_command.ensures (codes "PRODUCER")
    ∙ consume_producer c.args.name.now c.args.listen.now c.args.producer.now c.args.count.now) in
    let count : c.value-4.result.now ≡ c.args.count.now =
    is_given (value_in c.in_ok-matches.matches (codes "COUNT")) c.value-4.result.now c.args.count.now
    c.value-4.ensures (c.in_ok-matches.ensures consume_app c.in_ok-consume_command.ensures (codes "COUNT")
    ∙ consume_count c.args.name.now c.args.listen.now c.args.producer.now c.args.count.now) in
    rw (← name, ← listen, ← producer, ← count) c.consume_with.ensures
