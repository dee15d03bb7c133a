use Rattle.std.proofs.Common.{Option, subst, sym, ◌∙◌}
use Rattle.std.specs.Prelude.{option_map}
use Rattle.std.specs.Borrow.{Bor}
use Rattle.siri_store.specs.Stamped.{Stamp, IsFirstEnding, IsFirstIn, IsFirstOfEnds}
use Rattle.siri_store.proofs.FirstEnd.{first_has_key, first_key, none_before}
use Rattle.siri_store.proofs.FirstStamps.{earlier_first}
use Rattle.siri_store.proofs.stamps.Stamps.first_ended.Goals as goal

pub returns-then-is_before-clause-first : goal.returns-then-is_before-clause-first
returns-then-is_before-clause-first c =
    let stamps = c.args.self.now in
    let now_of : Option (Bor Stamp) → Option Stamp = option_map (λ stamp. stamp.now) in
    let visit = subst (λ order. IsFirstIn order stamps (now_of c.first_of-visit.result)) c.by_edge.ensures.order c.first_of-visit.ensures in
    let first = earlier_first stamps (now_of c.first_of-end.result) (now_of c.first_of-visit.result) c.first_of-end.ensures visit in
    let leads : IsFirstOfEnds stamps c.in_ok-first.first.now = subst (IsFirstEnding stamps) (sym c.in_ok-first.ensures) first in
    first_key c.args.now stamps c.in_ok-first.first.now leads c.as_ref.result c.as_ref.ensures.value
    (sym c.is_before.ensures ∙ c.if-is_before.true)

pub returns-then-is_before-clause-none : goal.returns-then-is_before-clause-none
returns-then-is_before-clause-none c =
    let stamps = c.args.self.now in
    let now_of : Option (Bor Stamp) → Option Stamp = option_map (λ stamp. stamp.now) in
    let visit = subst (λ order. IsFirstIn order stamps (now_of c.first_of-visit.result)) c.by_edge.ensures.order c.first_of-visit.ensures in
    let first = earlier_first stamps (now_of c.first_of-end.result) (now_of c.first_of-visit.result) c.first_of-end.ensures visit in
    let leads : IsFirstOfEnds stamps c.in_ok-first.first.now = subst (IsFirstEnding stamps) (sym c.in_ok-first.ensures) first in
    first_has_key c.args.now stamps c.in_ok-first.first.now leads c.requires c.as_ref.result c.as_ref.ensures.value

pub returns-else-is_before-clause-none : goal.returns-else-is_before-clause-none
returns-else-is_before-clause-none c =
    let stamps = c.args.self.now in
    let now_of : Option (Bor Stamp) → Option Stamp = option_map (λ stamp. stamp.now) in
    let visit = subst (λ order. IsFirstIn order stamps (now_of c.first_of-visit.result)) c.by_edge.ensures.order c.first_of-visit.ensures in
    let first = earlier_first stamps (now_of c.first_of-end.result) (now_of c.first_of-visit.result) c.first_of-end.ensures visit in
    let leads : IsFirstOfEnds stamps c.in_ok-first.first.now = subst (IsFirstEnding stamps) (sym c.in_ok-first.ensures) first in
    none_before c.args.now stamps c.in_ok-first.first.now leads (sym c.is_before.ensures ∙ c.if-is_before.false)
