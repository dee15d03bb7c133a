use Rattle.std.proofs.Common.{◌≡◌, ◌-◌, [], ◌∷◌, ◌++◌, length, Some, None, refl, ap, ◌∙◌, arith}
use Rattle.json.specs.Token.{Token}
use Rattle.json.specs.Json.{Items, no_items, item, object, array, items, value, parse_map, after_end_array}
use Rattle.json.proofs.Grammar.{items_end, items_more, value-begin_array}
use Rattle.json.proofs.Trees.{none_before}
use Rattle.siri_deliveries.proofs.AsItComes.{items_before, one_more_item, no_more_items, one_more_read, entries_are, shorter}
use Rattle.siri_deliveries.proofs.incoming.list_next.Goals as goal

pub loop-alloc-init : goal.loop-alloc-init
loop-alloc-init g c =
    let none : c.new-found.result.items ≡ [] = c.new-found.ensures.items in (
      length c.next.new.self,
      no_items,
      omega arith,
      none_before (items (value (c.args.depth - 1)) (length c.next.new.self) c.next.new.self),
      rw none tt,
      rw none (omega arith),
      omega arith,
    )

pub loop-alloc-smaller : goal.loop-alloc-smaller
loop-alloc-smaller g c =
    let came = c.in-Ok.ensures in
    let going : c.take_end_array.new.self ≡ c.loop-alloc.reader = grind arith in
    rw (going) at (shorter (c.args.depth - 1) c.take_end_array.new.self c.read_next.new.reader (object came.0) came.1)

pub loop-alloc-preserved : goal.loop-alloc-preserved
loop-alloc-preserved g c =
    let p = value (c.args.depth - 1) in
    let l = c.loop-alloc in
    let n = l.invariant.0 in
    let before = l.invariant.1 in
    let r = c.read_next.new.reader in
    let going : (after_end_array l.reader ≡ None) × (c.take_end_array.new.self ≡ l.reader) = grind arith in
    let came = c.in-Ok.ensures in
    let read : p l.reader ≡ Some (object came.0, r) = rw (← going.1) came.1 in
    let less = shorter (c.args.depth - 1) l.reader r (object came.0) read in
    let pushed : c.push_reserved.new.self.items ≡ l.found.items ++ c.in-Ok.entry ∷ [] = grind (arith, c.push_reserved.ensures.items, c.in_ok-reserve.ensures.items) in
    let turn = items_more p n l.reader r (object came.0) (omega (arith, l.invariant.2, less)) going.0 read in (
      n - 1,
      items_before before (item (object came.0) no_items),
      omega (arith, l.invariant.2, less),
      l.invariant.3 ∙ ap (parse_map (items_before before)) turn ∙ one_more_item before (object came.0) _,
      rw pushed (one_more_read g.T.Table.rows before came.0 l.found.items c.in-Ok.entry l.invariant.4 came.2),
      omega (arith, c.if-len-most.false, c.len.ensures),
      omega (arith, l.invariant.6, less),
    )

pub returns : goal.returns
returns g c =
    let p = value (c.args.depth - 1) in
    let l = c.loop-alloc in
    let n = l.invariant.0 in
    let before = l.invariant.1 in
    let next = c.next.new.self in
    let r = c.take_end_array.new.self in
    let first : c.args.reader.now ≡ Token.begin_array ∷ next = grind arith in
    let ended = l.invariant.3 ∙ ap (parse_map (items_before before)) (items_end p n l.reader r l.invariant.2 (grind arith)) ∙ ap (λ (js : Items). Some (js, r)) (no_more_items before) in
    let opened = ap (value c.args.depth) first ∙ value-begin_array c.args.depth next (omega (arith, c.if-depth-eq0.false)) in (
      array before,
      opened ∙ ap (parse_map array) ended,
      refl,
      rw (c.of.ensures) (entries_are g.T.Table.rows c.args.most before l.found.items l.invariant.4 l.invariant.5),
    )
