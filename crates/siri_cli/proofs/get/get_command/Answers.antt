use Rattle.std.proofs.Common.{rules, ap, ap₂, codes, ◌≡◌, ◌∙◌}
use Rattle.std.proofs.lemmas.Result.{IfOk-weaker}
use Rattle.clap.specs.Words.{new_rule, rule_of, with_rule}
use Rattle.clap.specs.Simple.{app_of_fields}
use Rattle.siri_cli.specs.inner.Values.{IsOf, get_app, without_help}
use Rattle.siri_cli.proofs.get.get_command.Goals as goal

pub returns : goal.returns
unfolding IsOf get_app
returns c =
    let producer : rule_of c.new-2.result ≡ new_rule (codes "PRODUCER") = search rules in
    IfOk-weaker c.arg.result _ _ (λ r h. h.shape (search rules)
    ∙ ap₂ with_rule (ap app_of_fields c.disable_help_flag.ensures ∙ ap without_help c.new.ensures.app) producer) c.arg.ensures
