use Rattle.std.proofs.Common.{◌≡◌, [], ◌∷◌, Some, None, sym, ◌∙◌, rules}
use Rattle.siri_store.proofs.FirstStamps.{first_in}
use Rattle.siri_store.proofs.stamps.Stamps.first_of.Goals as goal

pub returns-in_err-first : goal.returns-in_err-first
returns-in_err-first c =
    let none : c.since-stamps.result ≡ [] = search (rules, c.in_err-first.ensures) in
    rw c.from_residual.ensures (first_in c.args.order c.args.self.now None [] c.since-stamps.ensures.ordered
    (sym c.since-stamps.ensures.stamps ∙ none))

pub returns : goal.returns
returns c =
    let next : c.since-stamps.result ≡ c.in_ok-first.first.now ∷ c.next.new.self = search (rules, c.in_ok-first.ensures) in
    first_in c.args.order c.args.self.now (Some c.in_ok-first.first.now) c.next.new.self c.since-stamps.ensures.ordered
    (sym c.since-stamps.ensures.stamps ∙ next)
