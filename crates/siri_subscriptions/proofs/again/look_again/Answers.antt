use Rattle.std.proofs.Common.{◌≡◌, filter, length, ap, sym, ◌∙◌, arith}
use Rattle.std.proofs.lemmas.Bool.Decides.{nat_tests}
use Rattle.siri_records.specs.Keyed.{KeyChange}
use Rattle.siri_store.specs.Candidates.{may_be_shown}
use Rattle.siri_store.specs.Marked.{keys_since}
use Rattle.siri_responder.specs.Known.{Known}
use Rattle.siri_subscriptions.specs.Again.{crossed_since}
use Rattle.siri_subscriptions.proofs.Live.{live_still}
use Rattle.siri_model.specs.Direct.{most_of}
use Rattle.siri_subscriptions.proofs.LookAt.{both, complete_within, crossed_still, found_asked, found_in_order, no_limit, none_merged, passed_within, touched_still, visits_within}
use Rattle.siri_subscriptions.specs.Courses.{kept_row}
use Rattle.siri_subs.specs.Lent.{entry_of}
use Rattle.siri_subscriptions.proofs.again.look_again.Goals as goal

pub look_by-requires-clause-live : goal.look_by-requires-clause-live
look_by-requires-clause-live c =
    let same = c.in_ok-crossed.ensures.rest
    ∙ ap (λ (k : Known). record k { reads = c.crossed.new.self.reads }) c.in_ok-find.ensures.rest in
    live_still c.args.responder.now c.crossed.new.self same c.held_are_live.ensures

pub look_by-requires-2-clause-live : goal.look_by-requires-2-clause-live
look_by-requires-2-clause-live c =
    let same = c.in_ok-crossed.ensures.rest
    ∙ ap (λ (k : Known). record k { reads = c.crossed.new.self.reads }) c.in_ok-find.ensures.rest in
    live_still c.args.responder.now c.crossed.new.self same c.held_are_live.ensures

-- of what was touched, what may be shown to the topic
pub asked-found-requires : goal.asked-found-requires
asked-found-requires c =
    found_in_order c.args.responder.now c.args.looked.now.number c.find.new.self.found c.in_ok-find.ensures.ok

pub look_by-requires-clause-found : goal.look_by-requires-clause-found
look_by-requires-clause-found c =
    let same = c.in_ok-crossed.ensures.rest
    ∙ ap (λ (k : Known). record k { reads = c.crossed.new.self.reads }) c.in_ok-find.ensures.rest in
    let topic = c.args.entry.now.wanted.now.topic in
    let looked = c.args.looked.now in
    let is = c.asked-found.ensures ∙ (ap (filter (λ (change : KeyChange). may_be_shown topic change.0)) c.in_ok-find.ensures.ok
    ∙ found_asked topic c.args.responder.now.held (keys_since c.args.responder.now.marks.log looked.number)) in
    let are = c.in_ok-crossed.ensures.ok
    ∙ ap (λ (k : Known). crossed_since k topic looked) c.in_ok-find.ensures.rest in
    let none : length c.in_ok-crossed.crossed ≡ 0 = grind (arith, nat_tests, c.if-len-eq0.true, c.len.ensures.number) in
    none_merged c.args.responder.now c.crossed.new.self same topic looked c.asked-found.result.now is
    c.in_ok-crossed.crossed are none

pub look_by-requires-2-clause-found : goal.look_by-requires-2-clause-found
look_by-requires-2-clause-found c =
    let same = c.in_ok-crossed.ensures.rest
    ∙ ap (λ (k : Known). record k { reads = c.crossed.new.self.reads }) c.in_ok-find.ensures.rest in
    let topic = c.args.entry.now.wanted.now.topic in
    let looked = c.args.looked.now in
    let is = c.asked-found.ensures ∙ (ap (filter (λ (change : KeyChange). may_be_shown topic change.0)) c.in_ok-find.ensures.ok
    ∙ found_asked topic c.args.responder.now.held (keys_since c.args.responder.now.marks.log looked.number)) in
    let are = c.in_ok-crossed.ensures.ok
    ∙ ap (λ (k : Known). crossed_since k topic looked) c.in_ok-find.ensures.rest in
    c.slice.ensures ∙ both c.args.responder.now c.crossed.new.self same topic looked c.asked-found.result.now is
    c.in_ok-crossed.crossed are c.held_are_live.ensures.ordered c.in_ok-found.found c.in_ok-found.ensures

pub look_limited-requires-clause-limit : goal.look_limited-requires-clause-limit
look_limited-requires-clause-limit c = sym c.has_limit.ensures ∙ c.if-has_limit.true

pub look_limited-requires-clause-live : goal.look_limited-requires-clause-live
look_limited-requires-clause-live c =
    let same = c.in_ok-crossed.ensures.rest
    ∙ ap (λ (k : Known). record k { reads = c.crossed.new.self.reads }) c.in_ok-find.ensures.rest in
    live_still c.args.responder.now c.crossed.new.self same c.held_are_live.ensures

pub look_limited-requires-clause-found : goal.look_limited-requires-clause-found
look_limited-requires-clause-found c =
    let same = c.in_ok-crossed.ensures.rest
    ∙ ap (λ (k : Known). record k { reads = c.crossed.new.self.reads }) c.in_ok-find.ensures.rest in
    let topic = c.args.entry.now.wanted.now.topic in
    let looked = c.args.looked.now in
    touched_still c.args.responder.now c.crossed.new.self same topic looked c.asked-found.result.now
    (c.asked-found.ensures ∙ (ap (filter (λ (change : KeyChange). may_be_shown topic change.0)) c.in_ok-find.ensures.ok
    ∙ found_asked topic c.args.responder.now.held (keys_since c.args.responder.now.marks.log looked.number)))

pub look_limited-requires-clause-crossed : goal.look_limited-requires-clause-crossed
look_limited-requires-clause-crossed c =
    let same = c.in_ok-crossed.ensures.rest
    ∙ ap (λ (k : Known). record k { reads = c.crossed.new.self.reads }) c.in_ok-find.ensures.rest in
    let topic = c.args.entry.now.wanted.now.topic in
    let looked = c.args.looked.now in
    crossed_still c.args.responder.now c.crossed.new.self same topic looked c.in_ok-crossed.crossed
    (c.in_ok-crossed.ensures.ok ∙ ap (λ (k : Known). crossed_since k topic looked) c.in_ok-find.ensures.rest)

pub look_by-requires-clause-limitless : goal.look_by-requires-clause-limitless
look_by-requires-clause-limitless c =
    no_limit (most_of c.args.entry.now.wanted.now.topic) (sym c.has_limit.ensures ∙ c.if-has_limit.false)

pub look_by-requires-2-clause-limitless : goal.look_by-requires-2-clause-limitless
look_by-requires-2-clause-limitless c =
    no_limit (most_of c.args.entry.now.wanted.now.topic) (sym c.has_limit.ensures ∙ c.if-has_limit.false)

pub returns-then-has_limit-clause-bound : goal.returns-then-has_limit-clause-bound
returns-then-has_limit-clause-bound c =
    let same = c.in_ok-crossed.ensures.rest
    ∙ ap (λ (k : Known). record k { reads = c.crossed.new.self.reads }) c.in_ok-find.ensures.rest in
    visits_within c.args.responder.now c.find.new.responder c.crossed.new.self c.in_ok-find.ensures.rest same
    (kept_row (entry_of c.args.entry.now)) c.args.looked.now c.in_ok-find.ensures.reads c.in_ok-crossed.ensures.reads
    c.look_limited.new.responder.reads c.look_limited.ensures.bound

pub returns-in_err-found-clause-bound : goal.returns-in_err-found-clause-bound
returns-in_err-found-clause-bound c =
    let same = c.in_ok-crossed.ensures.rest
    ∙ ap (λ (k : Known). record k { reads = c.crossed.new.self.reads }) c.in_ok-find.ensures.rest in
    passed_within c.args.responder.now c.find.new.responder c.crossed.new.self c.in_ok-find.ensures.rest same
    (kept_row (entry_of c.args.entry.now)) c.args.looked.now c.in_ok-find.ensures.reads c.in_ok-crossed.ensures.reads

pub returns-in_err-crossed-clause-bound : goal.returns-in_err-crossed-clause-bound
returns-in_err-crossed-clause-bound c =
    let same = c.in_err-crossed.ensures.rest
    ∙ ap (λ (k : Known). record k { reads = c.crossed.new.self.reads }) c.in_ok-find.ensures.rest in
    passed_within c.args.responder.now c.find.new.responder c.crossed.new.self c.in_ok-find.ensures.rest same
    (kept_row (entry_of c.args.entry.now)) c.args.looked.now c.in_ok-find.ensures.reads c.in_err-crossed.ensures.reads

pub returns-then-len-eq0-clause-bound : goal.returns-then-len-eq0-clause-bound
returns-then-len-eq0-clause-bound c =
    let same = c.in_ok-crossed.ensures.rest
    ∙ ap (λ (k : Known). record k { reads = c.crossed.new.self.reads }) c.in_ok-find.ensures.rest in
    complete_within c.args.responder.now c.find.new.responder c.crossed.new.self c.in_ok-find.ensures.rest same
    (kept_row (entry_of c.args.entry.now)) c.args.looked.now c.in_ok-find.ensures.reads c.in_ok-crossed.ensures.reads
    c.look_by.new.responder.reads c.look_by.ensures.bound

pub returns-clause-bound : goal.returns-clause-bound
returns-clause-bound c =
    let same = c.in_ok-crossed.ensures.rest
    ∙ ap (λ (k : Known). record k { reads = c.crossed.new.self.reads }) c.in_ok-find.ensures.rest in
    complete_within c.args.responder.now c.find.new.responder c.crossed.new.self c.in_ok-find.ensures.rest same
    (kept_row (entry_of c.args.entry.now)) c.args.looked.now c.in_ok-find.ensures.reads c.in_ok-crossed.ensures.reads
    c.look_by-2.new.responder.reads c.look_by-2.ensures.bound
