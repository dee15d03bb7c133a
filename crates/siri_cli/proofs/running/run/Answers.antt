use Rattle.std.proofs.Common.{Some, sym, ap, ◌∙◌}
use Rattle.siri_cli.proofs.Listens.{listen_bound, relay_bound}
use Rattle.siri_cli.proofs.running.run.Goals as goal

-- src/command.rt:114:14
pub consume-requires : goal.consume-requires
consume-requires g c = listen_bound _ _ _ _ _ (sym (ap Some c.in-Consume.is) ∙ sym c.in-Ok-Some.field-0-is ∙ c.in-Ok-Some.ensures.value)

pub relay-requires : goal.relay-requires
relay-requires g c = relay_bound _ _ _ _ _ (sym (ap Some c.in-Relay.is) ∙ sym c.in-Ok-Some.field-0-is ∙ c.in-Ok-Some.ensures.value)
