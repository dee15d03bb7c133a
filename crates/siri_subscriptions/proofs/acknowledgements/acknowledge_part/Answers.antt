use Rattle.std.proofs.Common.{sym, ap, ◌∙◌, option_map}
use Rattle.siri_life.specs.Slot.{wants}
use Rattle.siri_subs.specs.Lent.{entry_of}
use Rattle.siri_subscriptions.specs.declared.course.Course.{Course}
use Rattle.siri_subscriptions.proofs.Marked.{row_there, here_at, slot_here, looked_here, is_own, other_number, other_start}
use Rattle.siri_subscriptions.proofs.Acknowledged.{none_counts, none_changes, other_counts, other_changes, own_counts, own_changes, isnt_taken, taken_by}
use Rattle.siri_subscriptions.proofs.acknowledgements.acknowledge_part.Goals as goal

pub returns-in_default-clause-taken : goal.returns-in_default-clause-taken
returns-in_default-clause-taken c =
    isnt_taken _ (none_counts c.args.start c.args.now c.args.consumer.now c.args.mark.now c.args.table.now (sym c.place_of.ensures.place ∙ c.in_default.is))

pub returns-in_default-clause-rows : goal.returns-in_default-clause-rows
returns-in_default-clause-rows c = none_changes c.args.start c.args.now c.args.consumer.now c.args.mark.now
    c.args.table.now (sym c.place_of.ensures.place ∙ c.in_default.is)

pub returns-in_default-at-clause-rows : goal.returns-in_default-at-clause-rows
returns-in_default-at-clause-rows c =
    let m = c.args.mark.now in
    let h = entry_of c.in-Some-at.row in
    let here = here_at c.args.consumer.now m.subscription c.args.table.now c.in-Some.place h c.place_of.ensures.once
    (sym c.place_of.ensures.place ∙ c.in-Some.is) (sym (ap (option_map entry_of) c.in-Some-at.is) ∙ c.at.ensures) in
    other_changes c.args.start c.args.now c.args.consumer.now m c.args.table.now c.in-Some.place h here
    (other_start m h.number c.args.start c.if-mark-start.false)

pub returns-in_default-at-2-clause-taken : goal.returns-in_default-at-2-clause-taken
returns-in_default-at-2-clause-taken c =
    let m = c.args.mark.now in
    let h = entry_of c.in-Some-at.row in
    let here = here_at c.args.consumer.now m.subscription c.args.table.now c.in-Some.place h c.place_of.ensures.once
    (sym c.place_of.ensures.place ∙ c.in-Some.is) (sym (ap (option_map entry_of) c.in-Some-at.is) ∙ c.at.ensures) in
    isnt_taken _ (other_counts c.args.start c.args.now c.args.consumer.now m c.args.table.now c.in-Some.place h here
    (other_number m h.number c.args.start c.if-mark-at.false))

pub returns-in_default-at-2-clause-rows : goal.returns-in_default-at-2-clause-rows
returns-in_default-at-2-clause-rows c =
    let m = c.args.mark.now in
    let h = entry_of c.in-Some-at.row in
    let here = here_at c.args.consumer.now m.subscription c.args.table.now c.in-Some.place h c.place_of.ensures.once
    (sym c.place_of.ensures.place ∙ c.in-Some.is) (sym (ap (option_map entry_of) c.in-Some-at.is) ∙ c.at.ensures) in
    other_changes c.args.start c.args.now c.args.consumer.now m c.args.table.now c.in-Some.place h here
    (other_number m h.number c.args.start c.if-mark-at.false)

pub returns-in_default-at-3-clause-taken : goal.returns-in_default-at-3-clause-taken
returns-in_default-at-3-clause-taken c =
    absurd (row_there c.args.consumer.now c.args.mark.now.subscription c.args.table.now c.in-Some.place
    (sym c.place_of.ensures.place ∙ c.in-Some.is)
    (sym (ap (option_map entry_of) c.in_default-at.is) ∙ c.at.ensures))

pub returns-in_default-at-3-clause-rows : goal.returns-in_default-at-3-clause-rows
returns-in_default-at-3-clause-rows c =
    absurd (row_there c.args.consumer.now c.args.mark.now.subscription c.args.table.now c.in-Some.place
    (sym c.place_of.ensures.place ∙ c.in-Some.is)
    (sym (ap (option_map entry_of) c.in_default-at.is) ∙ c.at.ensures))

pub returns-in-Some-at_mut-clause-taken : goal.returns-in-Some-at_mut-clause-taken
returns-in-Some-at_mut-clause-taken c =
    let m = c.args.mark.now in
    let h = entry_of c.in-Some-at.row in
    let here = here_at c.args.consumer.now m.subscription c.args.table.now c.in-Some.place h c.place_of.ensures.once
    (sym c.place_of.ensures.place ∙ c.in-Some.is) (sym (ap (option_map entry_of) c.in-Some-at.is) ∙ c.at.ensures) in
    let same = slot_here c.args.consumer.now m.subscription c.args.table.now c.in-Some.place h
    c.in-Some-at_mut.course.now here c.in-Some-at_mut.ensures.value in
    let own = own_counts c.args.start c.args.now c.args.consumer.now m c.args.table.now c.in-Some.place h here
    (is_own m h.number c.args.start c.if-mark-at.true c.if-mark-start.true) in
    taken_by c.acknowledge.result _ c.in-Some-at_mut.course.now.rounds
    (record { round = m.round; part = m.part }) c.acknowledge.ensures.taken
    (own ∙ ap (λ (slot : Course). wants slot.rounds m.round m.part) (sym same))

pub returns-in-Some-at_mut-clause-rows : goal.returns-in-Some-at_mut-clause-rows
returns-in-Some-at_mut-clause-rows c =
    let m = c.args.mark.now in
    let h = entry_of c.in-Some-at.row in
    let here = here_at c.args.consumer.now m.subscription c.args.table.now c.in-Some.place h c.place_of.ensures.once
    (sym c.place_of.ensures.place ∙ c.in-Some.is) (sym (ap (option_map entry_of) c.in-Some-at.is) ∙ c.at.ensures) in
    let same = slot_here c.args.consumer.now m.subscription c.args.table.now c.in-Some.place h
    c.in-Some-at_mut.course.now here c.in-Some-at_mut.ensures.value in
    own_changes c.args.start c.args.now c.args.consumer.now m c.args.table.now c.in-Some.place h here
    (is_own m h.number c.args.start c.if-mark-at.true c.if-mark-start.true) c.in-Some-at_mut.course.now same
    c.acknowledge.new.self c.acknowledge.ensures.rounds

pub returns-in-Some-at_mut-clause-looked : goal.returns-in-Some-at_mut-clause-looked
returns-in-Some-at_mut-clause-looked c =
    let m = c.args.mark.now in
    let h = entry_of c.in-Some-at.row in
    let here = here_at c.args.consumer.now m.subscription c.args.table.now c.in-Some.place h c.place_of.ensures.once
    (sym c.place_of.ensures.place ∙ c.in-Some.is) (sym (ap (option_map entry_of) c.in-Some-at.is) ∙ c.at.ensures) in
    let same = slot_here c.args.consumer.now m.subscription c.args.table.now c.in-Some.place h
    c.in-Some-at_mut.course.now here c.in-Some-at_mut.ensures.value in
    looked_here c.args.consumer.now m.subscription c.args.table.now c.in-Some.place h here
    c.in-Some-at_mut.course.now same c.acknowledge.new.self
