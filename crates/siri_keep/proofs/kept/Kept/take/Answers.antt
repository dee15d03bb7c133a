use Rattle.std.proofs.Common.{◌≡◌, Option, subst}
use Rattle.std.specs.Prelude.{IfSome}
use Rattle.siri_messages.specs.declared.message.Message.{Message}
use Rattle.siri_keep.proofs.kept.Kept.take.Goals as goal

pub returns-in-Ok-Some-clause-ok : goal.returns-in-Ok-Some-clause-ok
returns-in-Ok-Some-clause-ok g c =
    let same : c.in-Ok-Some.message ≡ c.args.message.now =
    subst (λ (o : Option Message). IfSome o (λ m. m ≡ c.args.message.now)) c.in-Ok-Some.field-0-is c.in-Ok-Some.ensures.copy in
    rw same at c.take_short.ensures.ok
