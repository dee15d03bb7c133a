use Rattle.std.proofs.Common.{◌≡◌, ◌∙◌, ap, codes, is_some}
use Rattle.siri_cli.specs.inner.Values.{load_app, value_in}
use Rattle.siri_cli.proofs.Places.{is_given, load_takes, load_seed, load_count}
use Rattle.siri_cli.proofs.load.read_load.Goals as goal

pub matches_of-requires : goal.matches_of-requires
matches_of-requires c = (load_app, c.in_ok-load_command.ensures, load_takes c.args.seed.now c.args.count.now)

pub value-requires : goal.value-requires
value-requires c = ap is_some (c.in_ok-matches.ensures load_app c.in_ok-load_command.ensures (codes "SEED") ∙ load_seed c.args.seed.now c.args.count.now)

pub value-requires-2 : goal.value-requires-2
value-requires-2 c = ap is_some (c.in_ok-matches.ensures load_app c.in_ok-load_command.ensures (codes "COUNT") ∙ load_count c.args.seed.now c.args.count.now)

pub load_with-requires : goal.load_with-requires
load_with-requires c =
    let seed : c.value.result.now ≡ c.args.seed.now = is_given
    (value_in c.in_ok-matches.matches (codes "SEED")) c.value.result.now c.args.seed.now c.value.ensures
    (c.in_ok-matches.ensures load_app c.in_ok-load_command.ensures (codes "SEED")
    ∙ load_seed c.args.seed.now c.args.count.now) in
    let count : c.value-2.result.now ≡ c.args.count.now =
    is_given (value_in c.in_ok-matches.matches (codes "COUNT")) c.value-2.result.now c.args.count.now
    c.value-2.ensures (c.in_ok-matches.ensures load_app c.in_ok-load_command.ensures (codes "COUNT")
    ∙ load_count c.args.seed.now c.args.count.now) in
    rw (seed, count) c.requires

pub returns : goal.returns
returns c =
    let seed : c.value.result.now ≡ c.args.seed.now = is_given
    (value_in c.in_ok-matches.matches (codes "SEED")) c.value.result.now c.args.seed.now c.value.ensures
    (c.in_ok-matches.ensures load_app c.in_ok-load_command.ensures (codes "SEED")
    ∙ load_seed c.args.seed.now c.args.count.now) in
    let count : c.value-2.result.now ≡ c.args.count.now =
    is_given (value_in c.in_ok-matches.matches (codes "COUNT")) c.value-2.result.now c.args.count.now
    c.value-2.ensures (c.in_ok-matches.ensures load_app c.in_ok-load_command.ensures (codes "COUNT")
    ∙ load_count c.args.seed.now c.args.count.now) in
    rw (← seed, ← count) c.load_with.ensures
