use Rattle.std.proofs.Common.{◌-◌, length, ap, sym, ◌∙◌}
use Rattle.std.proofs.lemmas.List.{length-drop}
use Rattle.siri_store.proofs.marks.Marks.len_since.Goals as goal

pub returns : goal.returns
returns c =
    let first = c.first_since-first.result in
    rw (← c.self.view_is)
    (ap (λ n. n - first) (c.len.ensures ∙ c.self.inside.log.ok.0)
    ∙ (sym (length-drop first c.self.inside.log.items) ∙ ap length c.first_since-first.ensures.marks))
