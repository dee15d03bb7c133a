use Rattle.std.proofs.Common.{ap, arith, ◌∙◌, ◌-◌, length}
use Rattle.siri_records.specs.Order.{key_cmp, key_cmp_total}
use Rattle.siri_records.proofs.Found.{above_last}
use Rattle.siri_records.proofs.entries.is_above_all.Goals as goal

pub returns-in-Some : goal.returns-in-Some
returns-in-Some c =
    let item = c.in-Some.ensures.item in
    let within = item.3.0 in
    let es = c.args.entries.now.items in
    rw c.is_lt.ensures (above_last key_cmp_total c.args.key.now es c.requires (length es - 1) c.in-Some.last.now
    (rw (← c.deref.ensures.value) (omega (arith, within))) (rw (← c.deref.ensures.value) item.1) c.compare.result
    (c.compare.ensures ∙ ap (λ key. key_cmp key c.args.key.now) c.key.ensures))
