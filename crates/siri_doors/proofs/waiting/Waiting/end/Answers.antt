use Rattle.std.proofs.Common.{ap, ◌∙◌, get_or}
use Rattle.std.specs.List.{remove}
use Rattle.siri_doors.proofs.Places.{ends_at}
use Rattle.siri_doors.proofs.waiting.Waiting.end.Goals as goal

pub returns-in-Some : goal.returns-in-Some
returns-in-Some c =
    ends_at c.args.slot c.args.self.now c.remove.new.self.items c.in-Some.place c.remove.result c.in-Some.ensures
    (c.remove.ensures.value ∙ ap (λ l. get_or l c.in-Some.place c.remove.result) c.self.view_is)
    (c.remove.ensures.items ∙ ap (λ l. remove l c.in-Some.place) c.self.view_is)
