use Rattle.std.proofs.Common.{ap, sym, ◌∙◌, arith, [], ◌∷◌, map, filter}
use Rattle.std.specs.Map.{keys_of}
use Rattle.siri_records.specs.Keyed.{apply, deref_entry}
use Rattle.siri_records.proofs.Placed.{below_length}
use Rattle.siri_responder.specs.Known.{Known}
use Rattle.siri_subscriptions.specs.Again.{is_other, shown_of}
use Rattle.siri_subscriptions.proofs.Others.{put_next, count_next, none_next}
use Rattle.siri_subscriptions.proofs.again.shown_others.Goals as goal

pub returns-in-None-clause-shown : goal.returns-in-None-clause-shown
returns-in-None-clause-shown c =
    let known = c.args.responder.now in
    let topic = c.args.wanted.now.topic in
    let none = none_next known topic c.args.found.now c.args.view.now c.loop-items.place
    (sym c.in-None.ensures.entry) in
    sym (ap (λ ks. apply c.loop-items.items (map (shown_of known topic) ks)) none) ∙ c.loop-items.invariant.shown

pub returns-in_err-put_other-in-Some-clause-reads : goal.returns-in_err-put_other-in-Some-clause-reads
returns-in_err-put_other-in-Some-clause-reads c =
    let next = count_next c.args.responder.now c.args.wanted.now.topic c.args.found.now c.args.view.now c.loop-items.place
    (deref_entry c.in-Some.entry) (sym c.in-Some.ensures.entry) in
    omega (arith, next, c.in_err-put_other-in-Some.ensures.reads, c.loop-items.invariant.reads)

pub loop-items-smaller : goal.loop-items-smaller
loop-items-smaller c =
    let lt = below_length c.args.view.now c.loop-items.place (deref_entry c.in-Some.entry)
    (sym c.in-Some.ensures.entry) in
    omega (arith, lt)

pub loop-items-preserved : goal.loop-items-preserved
loop-items-preserved c =
    let known = c.args.responder.now in
    let topic = c.args.wanted.now.topic in
    let found = c.args.found.now in
    let view = c.args.view.now in
    let e = deref_entry c.in-Some.entry in
    let at = sym c.in-Some.ensures.entry in
    let put = c.in_ok-put_other-in-Some.ensures in
    let so_far = c.loop-items.invariant in
    let next = count_next known topic found view c.loop-items.place e at in
    record {
      shown =
          put_next known topic found view c.loop-items.place e at c.loop-items.items c.put_other.new.items
          (apply [] (map (shown_of known topic) (filter (is_other found) (keys_of view))))
          (put.ok ∙ ap (λ (k : Known). apply c.loop-items.items
          (map (shown_of k topic) (filter (is_other found) (e.0 ∷ [])))) so_far.rest)
          so_far.shown;
      rest = put.rest ∙ ap (λ (k : Known). record k { reads = c.put_other.new.responder.reads }) so_far.rest;
      risen = omega (arith, put.risen, so_far.risen);
      reads = omega (arith, next, put.reads, so_far.reads);
    }
