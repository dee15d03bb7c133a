use Rattle.std.proofs.Common.{rules}
use Rattle.std.proofs.lemmas.Fn.{always_returns_same}
use Rattle.siri_records.specs.Order.{key_cmp, key_cmp_total}
use Rattle.siri_records.proofs.Found.{found}
use Rattle.siri_records.proofs.entries.search.Goals as goal

pub returns : goal.returns
returns c =
    let facts = c.binary_search_by.ensures in
    let by_key = facts.position (λ e. key_cmp e.0 c.args.key.now) (always_returns_same _ _ _ (λ a r q called. search rules)) in
    rw (← c.deref.ensures.value) (found key_cmp_total c.args.key.now _ (rw c.deref.ensures.value c.requires) _ facts.bound by_key)
