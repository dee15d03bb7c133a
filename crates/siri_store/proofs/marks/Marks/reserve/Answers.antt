use Rattle.std.proofs.Common.{length, arith, ap, List, ℕ}
use Rattle.siri_records.specs.declared.key.Key.{Key}
use Rattle.siri_store.specs.Marked.{Marked}
use Rattle.siri_store.proofs.Few.{few_last, no_more_last}
use Rattle.siri_store.proofs.marks.Marks.reserve.Goals as goal

pub returns-clause-few : goal.returns-clause-few
returns-clause-few c = λ short.
    let new = ap (λ (m : Marked). length m.log) c.put.ensures in
    let log = ap (λ (l : List (ℕ × Key)). length l) c.in_ok-last.ensures.log in
    omega (arith, new, log, few_last c.args.self.now.log)

pub returns-clause-no_more : goal.returns-clause-no_more
returns-clause-no_more c =
    let new = ap (λ (m : Marked). length m.log) c.put.ensures in
    let log = ap (λ (l : List (ℕ × Key)). length l) c.in_ok-last.ensures.log in
    omega (arith, new, log, no_more_last c.args.self.now.log)
