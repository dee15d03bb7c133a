use Rattle.std.proofs.Common.{rules}
use Rattle.std.proofs.lemmas.Fn.{always_returns_same}
use Rattle.std.proofs.lemmas.Cmp.{nat_list_cmp_total}
use Rattle.siri_records.proofs.Found.{found}
use Rattle.siri_view.specs.Kept.{name_cmp}
use Rattle.siri_view.proofs.holdings.find.Goals as goal

pub returns : goal.returns
returns c =
    let facts = c.binary_search_by.ensures in
    let by_key = facts.position (λ e. name_cmp e.0 c.args.identifier.now) (always_returns_same _ _ _ (λ a r q called. search rules)) in
    rw (← c.deref.ensures.value) (found nat_list_cmp_total c.args.identifier.now _ (rw c.deref.ensures.value c.requires) _ facts.bound by_key)
