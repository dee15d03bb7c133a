use Rattle.std.proofs.Common.{◌≡◌, ◌&&◌, Option, sym, ap, ◌∙◌}
use Rattle.std.specs.Prelude.{not, option_map}
use Rattle.std.specs.Borrow.{Bor}
use Rattle.siri_records.specs.declared.item.Item.{Item}
use Rattle.siri_store.specs.Stamped.{has_stamp, is_one_at, is_one_named, is_one_of, by_end, by_edge}
use Rattle.siri_store.proofs.Orders.{taken_out}
use Rattle.siri_store.proofs.stamps.Stamps.take_out.Goals as goal
use Rattle.siri_records.specs.Services.{service_of}

pub returns-in-Some-clause-rest : goal.returns-in-Some-clause-rest
returns-in-Some-clause-rest c =
    let kept = option_map (λ (item : Bor Item). item.now) c.args.kept in
    let order : c.by_edge.result ≡ by_edge (service_of c.in-Some.item.now) =
    c.by_edge.ensures.order ∙ ap by_edge c.service.ensures in
    let old = c.args.self.now in
    let mid = c.remove_all-key.new.self in
    let more = c.remove_all-key-in-Some.new.self in
    let own : c.remove_all-key.result ≡ c.args.key = c.remove_all-key.ensures.key in
    let same : c.remove_all-key-in-Some.result ≡ c.args.key = c.remove_all-key-in-Some.ensures.key ∙ own in
    λ s. taken_out c.args.key c.in-Some.item.now kept old mid more c.remove_named.new.self
    (λ s. c.remove_all-key.ensures.rest s
    ∙ ap (λ moments. has_stamp old s && not
    (is_one_at by_end c.args.key moments s && not (is_one_of c.args.key kept s))) c.own_ends_of.ensures)
    (λ s. c.remove_all-key-in-Some.ensures.rest s
    ∙ (λ j. has_stamp mid s && not
    (is_one_at (order j) (own j) (c.edges_of.ensures j) s && not (is_one_of (own j) kept s))))
    (λ s. c.remove_named.ensures.rest s
    ∙ (λ j. has_stamp more s && not
    (is_one_named (c.order_of_name.ensures j) (same j) (c.edges_of-in-Some.ensures j) s && not (is_one_of (same j) kept s))))
    s
    ∙ ap (λ (item : Option (Bor Item)). has_stamp old s && not
    (is_one_of c.args.key (option_map (λ i. i.now) item) s && not (is_one_of c.args.key kept s))) (sym c.in-Some.is)
