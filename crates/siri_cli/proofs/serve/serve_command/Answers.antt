use Rattle.std.proofs.Common.{rules, ap, ap₂, codes, ◌≡◌, ◌∙◌}
use Rattle.std.proofs.lemmas.Result.{IfOk-weaker}
use Rattle.clap.specs.Words.{new_rule, rule_of, with_rule}
use Rattle.siri_cli.specs.inner.Values.{IsOf, serve_app, without_help}
use Rattle.clap.specs.Simple.{app_of_fields}
use Rattle.siri_cli.proofs.serve.serve_command.Goals as goal

pub returns : goal.returns
unfolding IsOf serve_app
returns c =
    let name : rule_of c.new-2.result ≡ new_rule (codes "NAME") = search rules in
    let listen : rule_of c.new-3.result ≡ new_rule (codes "LISTEN") = search rules in
    let count : rule_of c.new-4.result ≡ new_rule (codes "COUNT") = search rules in
    IfOk-weaker c.arg-3.result _ _ (λ r h. h.shape (search rules)
    ∙ ap₂ with_rule (c.in_ok-arg-2.ensures.shape (search rules)
    ∙ ap₂ with_rule (c.in_ok-arg.ensures.shape (search rules)
    ∙ ap₂ with_rule (ap app_of_fields c.disable_help_flag.ensures ∙ ap without_help c.new.ensures.app) name) listen) count) c.arg-3.ensures
