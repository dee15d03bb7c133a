use Rattle.std.proofs.Common.{◌∙◌, rules}
use Rattle.std.proofs.lemmas.Fn.{always_returns_same}
use Rattle.siri_records.specs.Order.{key_cmp, key_cmp_total}
use Rattle.siri_records.proofs.Found.{found}
use Rattle.siri_subscriptions.proofs.Sought.{sought}
use Rattle.siri_subscriptions.proofs.touched.is_found.Goals as goal

pub returns : goal.returns
returns c =
    let facts = c.binary_search_by.ensures in
    let by_key = facts.position (λ e. key_cmp e.0 c.args.key.now)
    (always_returns_same _ _ _ (λ a r q called. search rules)) in
    let finds = found key_cmp_total c.args.key.now _ c.requires _ facts.bound by_key in
    c.is_ok.ensures.value ∙ sought c.args.key.now c.args.found.now _ c.requires finds
