use Rattle.std.proofs.Common.{◌≡◌, ◌∙◌, List, map, filter, drop, ap, arith}
use Rattle.siri_records.specs.KeyLists.{in_order}
use Rattle.siri_store.specs.Marked.{is_since}
use Rattle.siri_store.proofs.Marking.{Mark, later_stay, no_keys_stay}
use Rattle.siri_store.proofs.marks.Marks.forget.Goals as goal
use Rattle.siri_store.proofs.marks.Marks.forget.Goals.{After-loop}

-- the marks from the number on are left
left : (c : After-loop) → c.loop.self-inside.log.items ≡ filter (is_since c.args.number) c.self.inside.log.items
left c =
    let all : c.loop.counter ≡ c.first_since-end.result = omega (arith, c.loop-test.false, c.loop.auto.counter-end) in
    c.loop.invariant.log ∙ ap (λ n. drop n c.self.inside.log.items) all ∙ c.first_since-end.ensures.marks

pub returns-clause-same : goal.returns-clause-same
returns-clause-same c = λ n le.
    rw (← c.self.view_is, left c)
    (ap (λ (log : List Mark). in_order (map (λ mark. mark.1) log)) (later_stay c.args.number n c.self.inside.log.items le))

pub returns-clause-fresh : goal.returns-clause-fresh
returns-clause-fresh c = λ n none.
    let none_there = rw (← c.self.view_is) at none in
    rw (left c) (no_keys_stay c.args.number n c.self.inside.log.items none_there)
