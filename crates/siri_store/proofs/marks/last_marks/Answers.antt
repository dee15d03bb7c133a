use Rattle.std.proofs.Common.{◌∙◌, ℕ, List, ◌∷◌, drop, not, refl, ap, sym, arith}
use Rattle.std.specs.BTreeSet.{insert_key}
use Rattle.siri_records.specs.declared.key.Key.{Key}
use Rattle.siri_records.specs.KeyLists.{is_among}
use Rattle.siri_records.specs.Order.{key_cmp}
use Rattle.siri_store.specs.Marked.{last_of_each}
use Rattle.siri_store.proofs.Lasting.{keys_in, drop_before, seen_more, one_more_last, no_more_last}
use Rattle.siri_store.proofs.marks.last_marks.Goals as goal

pub loop-place-preserved-in_ok-push_front : goal.loop-place-preserved-in_ok-push_front
loop-place-preserved-in_ok-push_front c =
    let so_far = c.loop-place.invariant in
    let mark = c.index-mark.result.now in
    let log = c.args.log.now.items in
    let rest = drop c.loop-place.place log in
    let next = drop_before log c.loop-place.place mark c.loop-place-test.true so_far.within c.index-mark.ensures in
    let seen = c.loop-place.seen.keys in
    let last = c.loop-place.last.items in
    let anew =
    ap (λ k. not (is_among k seen)) (sym c.in_ok-copy_key.ensures) ∙ sym c.in_ok-insert.ensures.added
    ∙ c.if-branch.true in
    record {
      log = refl;
      within = omega (arith, so_far.within);
      last = c.in_ok-push_front.ensures.items
          ∙ ap (λ (k : Key). (mark.0, k) ∷ last) c.in_ok-key.ensures
          ∙ one_more_last rest last mark seen so_far.seen anew so_far.last
          ∙ ap last_of_each (sym next);
      seen = λ q.
          ap (λ ks. is_among q ks) c.in_ok-insert.ensures.keys
          ∙ ap (λ k. is_among q (insert_key key_cmp seen k)) c.in_ok-copy_key.ensures
          ∙ seen_more rest last mark seen so_far.seen q
          ∙ ap (λ (l : List (ℕ × Key)). is_among q (keys_in l)) (sym next);
    }

pub loop-place-preserved : goal.loop-place-preserved
loop-place-preserved c =
    let so_far = c.loop-place.invariant in
    let mark = c.index-mark.result.now in
    let log = c.args.log.now.items in
    let rest = drop c.loop-place.place log in
    let next = drop_before log c.loop-place.place mark c.loop-place-test.true so_far.within c.index-mark.ensures in
    let seen = c.loop-place.seen.keys in
    let last = c.loop-place.last.items in
    let again =
    ap (λ k. not (is_among k seen)) (sym c.in_ok-copy_key.ensures) ∙ sym c.in_ok-insert.ensures.added
    ∙ c.if-branch.false in
    record {
      log = refl;
      within = omega (arith, so_far.within);
      last = no_more_last rest last mark seen so_far.seen again so_far.last ∙ ap last_of_each (sym next);
      seen = λ q.
          ap (λ ks. is_among q ks) c.in_ok-insert.ensures.keys
          ∙ ap (λ k. is_among q (insert_key key_cmp seen k)) c.in_ok-copy_key.ensures
          ∙ seen_more rest last mark seen so_far.seen q
          ∙ ap (λ (l : List (ℕ × Key)). is_among q (keys_in l)) (sym next);
    }
