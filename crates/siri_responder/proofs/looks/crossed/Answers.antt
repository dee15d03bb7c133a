use Rattle.std.proofs.Common.{◌≡◌, List, length, ap, ◌∙◌, arith}
use Rattle.std.proofs.lemmas.Result.{IfOk-weaker}
use Rattle.siri_records.specs.Keyed.{Items, entries_view}
use Rattle.siri_topic.specs.Shown.{window_of}
use Rattle.siri_records.specs.declared.item.Item.{Item}
use Rattle.siri_records.specs.declared.key.Key.{Key}
use Rattle.siri_records.specs.Order.{key_cmp}
use Rattle.siri_records.proofs.Kept.{sorted_kept}
use Rattle.siri_topic.specs.Crossed.{is_crossed}
use Rattle.siri_store.specs.Candidates.{candidates, may_be_shown}
use Rattle.siri_store.proofs.AskedFor.{filters_turned}
use Rattle.siri_store.specs.Held.{Held}
use Rattle.siri_responder.specs.Looking.{with_items, near_entries, far_entries}
use Rattle.siri_responder.proofs.Crossing.{few_found, crossed_found}
use Rattle.siri_responder.proofs.Gathering.{Shared}
use Rattle.siri_responder.proofs.looks.crossed.Goals as goal

pub returns-in_err-put_near-clause-reads : goal.returns-in_err-put_near-clause-reads
returns-in_err-put_near-clause-reads c =
    let topic = c.args.topic.now in
    let store = c.args.store.now in
    let later = c.window-later.ensures ∙ ap (window_of topic) c.now.ensures in
    let few = few_found topic c.args.before store.moment (candidates topic store.entries) c.window-earlier.result c.window-later.result c.window-earlier.ensures later in
    omega (arith, c.in_err-put_near.ensures.reads, few)

pub returns-in_err-put_far-clause-reads : goal.returns-in_err-put_far-clause-reads
returns-in_err-put_far-clause-reads c =
    let topic = c.args.topic.now in
    let store = c.args.store.now in
    let later = c.window-later.ensures ∙ ap (window_of topic) c.now.ensures in
    let few = few_found topic c.args.before store.moment (candidates topic store.entries) c.window-earlier.result c.window-later.result c.window-earlier.ensures later in
    let far = ap (λ (s : Held). length (far_entries topic c.window-earlier.result c.window-later.result (candidates topic s.entries))) c.in_ok-put_near.ensures.rest in
    omega (arith, c.in_ok-put_near.ensures.reads, c.in_err-put_far.ensures.reads, far, few)

pub returns-clause-reads : goal.returns-clause-reads
returns-clause-reads c =
    let topic = c.args.topic.now in
    let store = c.args.store.now in
    let later = c.window-later.ensures ∙ ap (window_of topic) c.now.ensures in
    let few = few_found topic c.args.before store.moment (candidates topic store.entries) c.window-earlier.result c.window-later.result c.window-earlier.ensures later in
    let far = ap (λ (s : Held). length (far_entries topic c.window-earlier.result c.window-later.result (candidates topic s.entries))) c.in_ok-put_near.ensures.rest in
    omega (arith, c.in_ok-put_near.ensures.reads, c.in_ok-put_far.ensures.reads, far, few)

pub returns-clause-ok : goal.returns-clause-ok
returns-clause-ok c =
    let topic = c.args.topic.now in
    let store = c.args.store.now in
    let earlier = c.window-earlier.result in
    let now = c.window-later.result in
    let later = c.window-later.ensures ∙ ap (window_of topic) c.now.ensures in
    let those = candidates topic store.entries in
    let ordered = sorted_kept (λ (e : Key × Item). may_be_shown topic e.0) key_cmp store.entries c.requires.ordered in
    let is = c.in_ok-put_far.ensures.ok
    ∙ ap (λ (s : Held). with_items (entries_view c.put_near.new.found.entries) (far_entries topic earlier now (candidates topic s.entries))) c.in_ok-put_near.ensures.rest
    ∙ ap (λ (es : Items). with_items es (far_entries topic earlier now those))
    (c.in_ok-put_near.ensures.ok ∙ ap (λ (es : List Shared). with_items (entries_view es) (near_entries topic earlier now those)) c.new-found.ensures.empty)
    ∙ (crossed_found topic c.args.before store.moment those earlier now c.window-earlier.ensures later ordered
    ∙ filters_turned (λ (e : Key × Item). is_crossed topic c.args.before store.moment e.1) (λ (e : Key × Item). may_be_shown topic e.0) store.entries) in
    IfOk-weaker c.in_order.result (λ (items : Items). items ≡ entries_view c.put_far.new.found.entries) _ (λ items made. made ∙ is) c.in_order.ensures
