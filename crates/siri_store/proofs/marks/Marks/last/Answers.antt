use Rattle.std.proofs.Common.{length, filter, ap, sym, ◌∙◌, subst, arith, List, ℕ}
use Rattle.siri_records.specs.declared.key.Key.{Key}
use Rattle.siri_store.specs.Marked.{Marked, Rises, is_since, keys_since, last_of_each}
use Rattle.siri_store.proofs.Few.{one_each}
use Rattle.siri_store.proofs.Lasting.{same_since, rises_last}
use Rattle.siri_store.proofs.marks.Marks.last.Goals as goal

pub invariant_of-result : goal.invariant_of-result
invariant_of-result c =
    let log = c.in_ok-reserve.ensures.items ∙ c.in_ok-log.ensures in
    subst (λ (log : List (ℕ × Key)). Rises c.self.inside.number log) (sym log)
    (rises_last c.self.inside.number c.self.inside.log.items c.self.invariant)

pub returns : goal.returns
returns c =
    let number = c.self.inside.number in
    let items = c.self.inside.log.items in
    let log = c.in_ok-reserve.ensures.items ∙ c.in_ok-log.ensures in
    record {
      log = log ∙ ap (λ (m : Marked). last_of_each m.log) c.self.view_is;
      number = ap (λ (m : Marked). m.number) c.self.view_is;
      room = omega (arith, c.in_ok-reserve.ensures.ok);
      same = λ n le. ap (λ (log : List (ℕ × Key)). keys_since log n) log
          ∙ (same_since number items n c.self.invariant ∙ ap (λ (m : Marked). keys_since m.log n) c.self.view_is);
      once = λ n. ap (λ (log : List (ℕ × Key)). length (filter (is_since n) log)) log
          ∙ (one_each number items n c.self.invariant ∙ ap (λ (m : Marked). length (keys_since m.log n)) c.self.view_is);
    }
