use Rattle.siri_store.proofs.Earliest.{unclosed_put}
use Rattle.siri_store.proofs.OwnKeys.{own_put}
use Rattle.siri_store.proofs.counted.CountedItems.put.Goals as goal

pub invariant_of-self-2 : goal.invariant_of-self-2
invariant_of-self-2 c =
    let es = c.self.inside.items in
    let key = c.args.key in
    let item = c.args.item.value in
    record {
      own = rw c.in_ok-put.ensures.ok (own_put es key item c.requires.own c.self.invariant.own);
      none_closed =
          rw c.in_ok-put.ensures.ok (unclosed_put es key item c.self.invariant.none_closed c.requires.unclosed);
    }
