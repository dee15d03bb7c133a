use Rattle.std.proofs.lemmas.Result.{IfOk-weaker}
use Rattle.std.proofs.Common.{◌≡◌, ◌∙◌}
use Rattle.siri_records.specs.Keyed.{entries_view}
use Rattle.siri_responder.proofs.FirstVisits.{first_are, first_asked, first_held, first_within}
use Rattle.siri_responder.specs.Looking.{with_items}
use Rattle.siri_responder.proofs.directs.first_to.Goals as goal

pub returns-in_err-first-clause-reads : goal.returns-in_err-first-clause-reads
returns-in_err-first-clause-reads c =
    first_held c.args.store.now.moment c.args.store.now.entries c.args.topic.now c.args.most c.args.store.now.reads
    c.first_shown.new.self.reads c.held.ensures.ordered c.requires c.first_shown.ensures.at_most

pub returns-in_err-first-clause-asked : goal.returns-in_err-first-clause-asked
returns-in_err-first-clause-asked c =
    first_asked c.args.store.now.moment c.args.store.now.entries c.args.topic.now c.args.most c.args.store.now.reads
    c.first_shown.new.self.reads c.held.ensures.ordered c.requires c.first_shown.ensures.at_most

pub returns-in_err-first-clause-first : goal.returns-in_err-first-clause-first
returns-in_err-first-clause-first c = first_within c.args.store.now.moment c.args.store.now.entries c.args.topic.now c.args.most c.args.store.now.reads
    c.first_shown.new.self.reads c.held.ensures.ordered c.requires c.first_shown.ensures.at_most

pub returns-in_err-put_all-clause-reads : goal.returns-in_err-put_all-clause-reads
returns-in_err-put_all-clause-reads c =
    first_held c.args.store.now.moment c.args.store.now.entries c.args.topic.now c.args.most c.args.store.now.reads
    c.first_shown.new.self.reads c.held.ensures.ordered c.requires c.first_shown.ensures.at_most

pub returns-in_err-put_all-clause-asked : goal.returns-in_err-put_all-clause-asked
returns-in_err-put_all-clause-asked c =
    first_asked c.args.store.now.moment c.args.store.now.entries c.args.topic.now c.args.most c.args.store.now.reads
    c.first_shown.new.self.reads c.held.ensures.ordered c.requires c.first_shown.ensures.at_most

pub returns-in_err-put_all-clause-first : goal.returns-in_err-put_all-clause-first
returns-in_err-put_all-clause-first c = first_within c.args.store.now.moment c.args.store.now.entries c.args.topic.now c.args.most c.args.store.now.reads
    c.first_shown.new.self.reads c.held.ensures.ordered c.requires c.first_shown.ensures.at_most

pub returns-clause-reads : goal.returns-clause-reads
returns-clause-reads c =
    first_held c.args.store.now.moment c.args.store.now.entries c.args.topic.now c.args.most c.args.store.now.reads
    c.first_shown.new.self.reads c.held.ensures.ordered c.requires c.first_shown.ensures.at_most

pub returns-clause-asked : goal.returns-clause-asked
returns-clause-asked c =
    first_asked c.args.store.now.moment c.args.store.now.entries c.args.topic.now c.args.most c.args.store.now.reads
    c.first_shown.new.self.reads c.held.ensures.ordered c.requires c.first_shown.ensures.at_most

pub returns-clause-first : goal.returns-clause-first
returns-clause-first c = first_within c.args.store.now.moment c.args.store.now.entries c.args.topic.now c.args.most c.args.store.now.reads
    c.first_shown.new.self.reads c.held.ensures.ordered c.requires c.first_shown.ensures.at_most

pub returns-clause-ok : goal.returns-clause-ok
returns-clause-ok c =
    let now = c.args.store.now.moment in
    let es = c.args.store.now.entries in
    IfOk-weaker c.in_order.result (λ items. items ≡ entries_view c.put_all.new.found.entries) _
    (λ items is. is
    ∙ (c.in_ok-put_all.ensures
    ∙ ((λ i. with_items (entries_view (c.new-found.ensures.empty i)) (c.in_ok-first.ensures.ok i))
    ∙ first_are now es c.args.topic.now c.args.most c.held.ensures.ordered c.requires))) c.in_order.ensures
