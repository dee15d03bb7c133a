use Rattle.std.proofs.Common.{◌≡◌, ◌&&◌, ◌||◌, ap, ◌∙◌}
use Rattle.std.proofs.lemmas.Result.{on_ok_weaker}
use Rattle.siri_records.specs.Services.{service_of}
use Rattle.siri_store.specs.Stamped.{Stamp, has_stamp, is_one_at, is_one_named, by_end, by_edge}
use Rattle.siri_store.proofs.Orders.{added, some_edge, some_end, some_name}
use Rattle.siri_store.proofs.stamps.Stamps.add.Goals as goal

pub returns-in_err-put_all-clause-some : goal.returns-in_err-put_all-clause-some
returns-in_err-put_all-clause-some c =
    let key = c.args.key.now in
    let old = c.args.self.now in
    let mid = c.put_all.new.self in
    some_end key c.args.item.now old mid mid
    (λ s. c.put_all.ensures.some s
    ∙ ap (λ moments. has_stamp old s || (is_one_at by_end key moments s && has_stamp mid s)) c.own_ends_of.ensures)

pub returns-in_err-put_all-2-clause-some : goal.returns-in_err-put_all-2-clause-some
returns-in_err-put_all-2-clause-some c =
    let key = c.args.key.now in
    let item = c.args.item.now in
    let old = c.args.self.now in
    let mid = c.put_all.new.self in
    let more = c.put_all-2.new.self in
    let order : c.by_edge.result ≡ by_edge (service_of item) = c.by_edge.ensures.order ∙ ap by_edge c.service.ensures in
    some_edge key item old mid more
    (some_end key item old mid mid
    (λ s. c.put_all.ensures.some s
    ∙ ap (λ moments. has_stamp old s || (is_one_at by_end key moments s && has_stamp mid s)) c.own_ends_of.ensures))
    (λ s. c.put_all-2.ensures.some s
    ∙ (λ j. has_stamp mid s || (is_one_at (order j) key (c.edges_of.ensures j) s && has_stamp more s)))

pub returns-clause-some : goal.returns-clause-some
returns-clause-some c =
    let key = c.args.key.now in
    let item = c.args.item.now in
    let old = c.args.self.now in
    let mid = c.put_all.new.self in
    let more = c.put_all-2.new.self in
    let new = c.put_named.new.self in
    let order : c.by_edge.result ≡ by_edge (service_of item) = c.by_edge.ensures.order ∙ ap by_edge c.service.ensures in
    some_name key item old more new
    (some_edge key item old mid more
    (some_end key item old mid mid
    (λ s. c.put_all.ensures.some s
    ∙ ap (λ moments. has_stamp old s || (is_one_at by_end key moments s && has_stamp mid s)) c.own_ends_of.ensures))
    (λ s. c.put_all-2.ensures.some s
    ∙ (λ j. has_stamp mid s || (is_one_at (order j) key (c.edges_of.ensures j) s && has_stamp more s))))
    (λ s. c.put_named.ensures.some s
    ∙ (λ j. has_stamp more s || (is_one_named (c.order_of_name.ensures j) key (c.edges_of-2.ensures j) s && has_stamp new s)))

pub returns-clause-ok : goal.returns-clause-ok
returns-clause-ok c =
    let key = c.args.key.now in
    let item = c.args.item.now in
    let old = c.args.self.now in
    let mid = c.put_all.new.self in
    let more = c.put_all-2.new.self in
    let new = c.put_named.new.self in
    let order : c.by_edge.result ≡ by_edge (service_of item) = c.by_edge.ensures.order ∙ ap by_edge c.service.ensures in
    on_ok_weaker c.put_named.result
    (λ (named : (s : Stamp) → has_stamp new s ≡ (is_one_named c.order_of_name.result key c.edges_of-2.result s || has_stamp more s)).
    added key item old mid more new
    (λ s. c.in_ok-put_all.ensures.ok s
    ∙ ap (λ moments. is_one_at by_end key moments s || has_stamp old s) c.own_ends_of.ensures)
    (λ s. c.in_ok-put_all-2.ensures.ok s
    ∙ (λ j. is_one_at (order j) key (c.edges_of.ensures j) s || has_stamp mid s))
    (λ s. named s ∙ (λ j. is_one_named (c.order_of_name.ensures j) key (c.edges_of-2.ensures j) s || has_stamp more s)))
    c.put_named.ensures.ok
