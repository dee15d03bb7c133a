use Rattle.std.proofs.Common.{rules, ap, ap₂, codes, ◌≡◌, ◌∙◌}
use Rattle.std.proofs.lemmas.Result.{IfOk-weaker}
use Rattle.clap.specs.Words.{new_rule, rule_of, with_rule}
use Rattle.siri_cli.specs.inner.Values.{IsOf, load_app, without_help}
use Rattle.clap.specs.Simple.{app_of_fields}
use Rattle.siri_cli.proofs.load.load_command.Goals as goal

pub returns : goal.returns
unfolding IsOf load_app
returns c =
    let seed : rule_of c.new-2.result ≡ new_rule (codes "SEED") = search rules in
    let count : rule_of c.new-3.result ≡ new_rule (codes "COUNT") = search rules in
    IfOk-weaker c.arg-2.result _ _ (λ r h. h.shape (search rules)
    ∙ ap₂ with_rule (c.in_ok-arg.ensures.shape (search rules)
    ∙ ap₂ with_rule (ap app_of_fields c.disable_help_flag.ensures ∙ ap without_help c.new.ensures.app) seed) count) c.arg-2.ensures
