use Rattle.std.proofs.Common.{◌<◌, ◌+◌, ◌∙◌, ℕ, List, length, drop, map, fold, ap, sym, refl, arith}
use Rattle.std.specs.BTreeSet.{insert_key}
use Rattle.siri_records.specs.declared.key.Key.{Key}
use Rattle.siri_records.specs.Order.{key_cmp}
use Rattle.siri_store.proofs.Marking.{drop_here}
use Rattle.siri_store.proofs.marks.keys_from.Goals as goal

pub loop-place-preserved : goal.loop-place-preserved
loop-place-preserved c =
    let marks = c.args.log.now.items in
    let i = c.loop-place.place in
    let lt : i < length marks = omega (arith, c.loop-place-test.true, c.len.ensures) in
    let next = drop_here marks i c.index.result.now lt c.index.ensures in
    record {
      keys =
          ap (λ (ks : List Key). fold (insert_key key_cmp) ks (map (λ m. m.1) (drop (i + 1) marks)))
          (c.in_ok-insert.ensures.keys ∙ ap (insert_key key_cmp c.loop-place.keys.keys) c.in_ok-key.ensures)
          ∙ (sym (ap (λ (l : List (ℕ × Key)). fold (insert_key key_cmp) c.loop-place.keys.keys (map (λ m. m.1) l)) next)
          ∙ c.loop-place.invariant.keys);
      log = refl;
      within = omega (arith, lt);
    }
