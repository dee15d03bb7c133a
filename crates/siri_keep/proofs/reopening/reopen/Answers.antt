use Rattle.std.proofs.Common.{◌∙◌, map}
use Rattle.std.proofs.lemmas.Result.{IfOk-weaker}
use Rattle.siri_keep.specs.declared.opening.KeptRequest.{KeptRequest}
use Rattle.siri_keep.specs.Calls.{IsBegun}
use Rattle.siri_keep.specs.Planning.{Begins, OpensRead}
use Rattle.siri_keep.proofs.Opened.{begun_over}
use Rattle.siri_keep.proofs.Reopened.{opens_read, stands_some}
use Rattle.siri_keep.proofs.reopening.reopen.Goals as goal

pub returns-clause-opens : goal.returns-clause-opens
returns-clause-opens c =
    let asked = rw c.slice.ensures at c.in_ok-take_requests.ensures.ok in
    let renewed = rw c.slice-2.ensures at c.in_ok-take_renewals.ensures.ok in
    let begins = rw (c.in_ok-places.ensures, c.slice-3.ensures) at c.plan_rows.ensures in
    IfOk-weaker c.plan_rows.result
    (Begins c.take_renewals.new.producer c.args.read.items.all (map (λ (r : KeptRequest). r.place) c.args.read.requests))
    (OpensRead c.args.name c.args.start c.args.now c.args.read) (λ opened is. opens_read c.in_ok-producer.producer c.clock.new.self c.feed_owned.new.self
    c.take_requests.new.producer c.take_renewals.new.producer opened c.args.name c.args.start c.args.now c.args.read
    c.in_ok-producer.ensures.stands c.clock.ensures.stands c.in_ok-feed_owned.ensures.ok asked renewed is
    (c.take_renewals.ensures.name ∙ c.take_requests.ensures.name ∙ c.feed_owned.ensures.name ∙ c.clock.ensures.name
    ∙ c.in_ok-producer.ensures.name) c.requires.from_one c.requires.to_eighteen_digits) begins

pub returns-clause-begun : goal.returns-clause-begun
returns-clause-begun c =
    let asked = rw c.slice.ensures at c.in_ok-take_requests.ensures.ok in
    let renewed = rw c.slice-2.ensures at c.in_ok-take_renewals.ensures.ok in
    IfOk-weaker c.plan_rows.result (Begins c.take_renewals.new.producer c.args.read.items.all c.in_ok-places.places)
    (λ opened. IsBegun c.args.name opened.kept) (λ opened is. begun_over c.take_renewals.new.producer c.args.read.items.all c.in_ok-places.places opened
    c.args.name is
    (stands_some c.in_ok-producer.producer c.clock.new.self c.feed_owned.new.self c.take_requests.new.producer
    c.take_renewals.new.producer opened c.args.name c.args.start c.args.now c.args.read c.in_ok-producer.ensures.stands
    c.clock.ensures.stands c.in_ok-feed_owned.ensures.ok asked renewed)
    (c.take_renewals.ensures.name ∙ c.take_requests.ensures.name ∙ c.feed_owned.ensures.name ∙ c.clock.ensures.name
    ∙ c.in_ok-producer.ensures.name)) c.plan_rows.ensures
