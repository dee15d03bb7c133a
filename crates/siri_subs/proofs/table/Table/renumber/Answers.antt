use Rattle.std.proofs.Common.{◌≡◌, sym, ap, ◌∙◌}
use Rattle.siri_subs.specs.Table.{is_of, renumber_answer, renumbered}
use Rattle.siri_subs.specs.Numbered.{with_numbered}
use Rattle.siri_subs.proofs.Placed.{found, none_found, find_none}
use Rattle.siri_subs.proofs.Numbered.{unnumbered, unnumbered_there, numbered_there, answer_there}
use Rattle.siri_subs.proofs.Renumbered.{again_where, unknown_where, superseded_where, renewed_where}
use Rattle.siri_subs.proofs.table.Table.renumber.Goals as goal

pub returns-in_default-clause-answer : goal.returns-in_default-clause-answer
returns-in_default-clause-answer g c =
    let none = none_found (is_of c.args.subscriber.now c.args.identifier.now) c.args.self.now (sym c.place_of.ensures.place ∙ c.in_default.is) in
    sym (ap (renumber_answer c.args.number c.args.base) (find_none (is_of c.args.subscriber.now c.args.identifier.now) c.args.self.now none))

pub returns-in_default-clause-table : goal.returns-in_default-clause-table
returns-in_default-clause-table g c =
    let none = none_found (is_of c.args.subscriber.now c.args.identifier.now) c.args.self.now (sym c.place_of.ensures.place ∙ c.in_default.is) in
    sym (unnumbered c.args.subscriber.now c.args.identifier.now c.args.number c.args.base c.args.slot c.args.self.now none)

pub returns-then-renews-clause-answer : goal.returns-then-renews-clause-answer
returns-then-renews-clause-answer g c =
    let s = c.args.subscriber.now in
    let i = c.args.identifier.now in
    let items = c.self.inside.entries.items in
    let first = found (is_of s i) items c.in-Some.place (rw c.self.view_is (sym c.place_of.ensures.place ∙ c.in-Some.is)) in
    rw (← c.self.view_is) (c.renumber_answer-answer.ensures ∙ answer_there s i c.args.number c.args.base c.args.slot items c.in-Some.place c.index-entry.result.now first c.index-entry.ensures)

pub returns-then-renews-clause-table : goal.returns-then-renews-clause-table
returns-then-renews-clause-table g c =
    let s = c.args.subscriber.now in
    let i = c.args.identifier.now in
    let items = c.self.inside.entries.items in
    let first = found (is_of s i) items c.in-Some.place (rw c.self.view_is (sym c.place_of.ensures.place ∙ c.in-Some.is)) in
    let there : with_numbered c.args.self.now c.in-Some.place c.args.number c.args.slot ≡ renumbered c.args.number c.args.base c.args.subscriber.now c.args.identifier.now c.args.slot c.args.self.now =
    rw (← c.self.view_is) (numbered_there s i c.args.number c.args.base c.args.slot items c.in-Some.place c.index-entry.result.now c.self.invariant.once first c.index-entry.ensures
    (sym c.is_renumbered_by-renews.ensures ∙ c.if-renews.true)) in
    c.write_at.ensures.table ∙ there

pub returns-else-renews-clause-answer : goal.returns-else-renews-clause-answer
returns-else-renews-clause-answer g c =
    let s = c.args.subscriber.now in
    let i = c.args.identifier.now in
    let items = c.self.inside.entries.items in
    let first = found (is_of s i) items c.in-Some.place (rw c.self.view_is (sym c.place_of.ensures.place ∙ c.in-Some.is)) in
    rw (← c.self.view_is) (c.renumber_answer-answer.ensures ∙ answer_there s i c.args.number c.args.base c.args.slot items c.in-Some.place c.index-entry.result.now first c.index-entry.ensures)

pub returns-else-renews-clause-table : goal.returns-else-renews-clause-table
returns-else-renews-clause-table g c =
    let s = c.args.subscriber.now in
    let i = c.args.identifier.now in
    let items = c.self.inside.entries.items in
    let first = found (is_of s i) items c.in-Some.place (rw c.self.view_is (sym c.place_of.ensures.place ∙ c.in-Some.is)) in
    rw (← c.self.view_is) (unnumbered_there s i c.args.number c.args.base c.args.slot items c.in-Some.place c.index-entry.result.now c.self.invariant.once first c.index-entry.ensures
    (sym c.is_renumbered_by-renews.ensures ∙ c.if-renews.false))

pub returns-in_default-clause-renewed : goal.returns-in_default-clause-renewed
returns-in_default-clause-renewed g c = renewed_where c.args.number c.args.base _ _ (returns-in_default-clause-answer g c)

pub returns-in_default-clause-again : goal.returns-in_default-clause-again
returns-in_default-clause-again g c = again_where c.args.number c.args.base _ _ (returns-in_default-clause-answer g c)

pub returns-in_default-clause-unknown : goal.returns-in_default-clause-unknown
returns-in_default-clause-unknown g c = unknown_where c.args.number c.args.base _ _ (returns-in_default-clause-answer g c)

pub returns-in_default-clause-superseded : goal.returns-in_default-clause-superseded
returns-in_default-clause-superseded g c = superseded_where c.args.number c.args.base _ _ (returns-in_default-clause-answer g c)

pub returns-then-renews-clause-renewed : goal.returns-then-renews-clause-renewed
returns-then-renews-clause-renewed g c = renewed_where c.args.number c.args.base _ _ (returns-then-renews-clause-answer g c)

pub returns-then-renews-clause-again : goal.returns-then-renews-clause-again
returns-then-renews-clause-again g c = again_where c.args.number c.args.base _ _ (returns-then-renews-clause-answer g c)

pub returns-then-renews-clause-unknown : goal.returns-then-renews-clause-unknown
returns-then-renews-clause-unknown g c = unknown_where c.args.number c.args.base _ _ (returns-then-renews-clause-answer g c)

pub returns-then-renews-clause-superseded : goal.returns-then-renews-clause-superseded
returns-then-renews-clause-superseded g c = superseded_where c.args.number c.args.base _ _ (returns-then-renews-clause-answer g c)

pub returns-else-renews-clause-renewed : goal.returns-else-renews-clause-renewed
returns-else-renews-clause-renewed g c = renewed_where c.args.number c.args.base _ _ (returns-else-renews-clause-answer g c)

pub returns-else-renews-clause-again : goal.returns-else-renews-clause-again
returns-else-renews-clause-again g c = again_where c.args.number c.args.base _ _ (returns-else-renews-clause-answer g c)

pub returns-else-renews-clause-unknown : goal.returns-else-renews-clause-unknown
returns-else-renews-clause-unknown g c = unknown_where c.args.number c.args.base _ _ (returns-else-renews-clause-answer g c)

pub returns-else-renews-clause-superseded : goal.returns-else-renews-clause-superseded
returns-else-renews-clause-superseded g c = superseded_where c.args.number c.args.base _ _ (returns-else-renews-clause-answer g c)
