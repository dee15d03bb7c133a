use Rattle.std.proofs.Common.{◌≡◌, ◌∙◌, ap, codes, is_some}
use Rattle.siri_cli.specs.inner.Values.{get_app, value_in}
use Rattle.siri_cli.proofs.Places.{is_given, get_takes, get_producer}
use Rattle.siri_cli.proofs.get.read_get.Goals as goal

pub matches_of-requires : goal.matches_of-requires
matches_of-requires c = (get_app, c.in_ok-get_command.ensures, get_takes c.args.producer.now)

pub value-requires : goal.value-requires
value-requires c = ap is_some (c.in_ok-matches.ensures get_app c.in_ok-get_command.ensures (codes "PRODUCER") ∙ get_producer c.args.producer.now)

pub get_with-requires : goal.get_with-requires
get_with-requires c =
    let producer : c.value.result.now ≡ c.args.producer.now = is_given
    (value_in c.in_ok-matches.matches (codes "PRODUCER")) c.value.result.now c.args.producer.now c.value.ensures
    (c.in_ok-matches.ensures get_app c.in_ok-get_command.ensures (codes "PRODUCER")
    ∙ get_producer c.args.producer.now) in
    rw producer c.requires

pub returns : goal.returns
returns c =
    let producer : c.value.result.now ≡ c.args.producer.now = is_given
    (value_in c.in_ok-matches.matches (codes "PRODUCER")) c.value.result.now c.args.producer.now c.value.ensures
    (c.in_ok-matches.ensures get_app c.in_ok-get_command.ensures (codes "PRODUCER")
    ∙ get_producer c.args.producer.now) in
    rw (← producer) c.get_with.ensures
