use Rattle.std.proofs.Common.{sym, ap, ◌∙◌, option_map, arith}
use Rattle.siri_subs.specs.Lent.{entry_of}
use Rattle.siri_producer.specs.Oldest.{older}
use Rattle.siri_producer.proofs.Settles.{none_there, oldest_next}
use Rattle.siri_producer.proofs.leaving.oldest_look.Goals as goal
use Rattle.siri_producer.proofs.leaving.oldest_look.Goals.{in-Some-looked, in_default-looked}

pub loop-place-preserved : goal.loop-place-preserved
loop-place-preserved c =
    oldest_next c.args.most c.loop-place.place c.loop-place.oldest c.match-row.oldest c.args.table.now
    (entry_of c.in-Some.row)
    (sym c.at.ensures ∙ ap (option_map entry_of) c.in-Some.is) c.loop-place.invariant (elim c.match-row.branch [
      | in-Some-looked w ↦ w.oldest-is ∙ w.min-oldest.ensures ∙ ap (older c.loop-place.oldest) (sym w.in-Some-looked.is)
      | in_default-looked w ↦ w.oldest-is ∙ ap (older c.loop-place.oldest) (sym w.in_default-looked.is)
    ])

pub returns-in_default : goal.returns-in_default
returns-in_default c = absurd (none_there c.args.table.now c.loop-place.place (omega arith)
    (sym (ap (option_map entry_of) c.in_default.is) ∙ c.at.ensures))
