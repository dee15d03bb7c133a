-- What is kept under identifiers, after a change under one of them.
use Rattle.std.proofs.Common.{◌≡◌, cond, None, Some, ap, ◌∙◌}
use Rattle.std.specs.Cmp.{IsTotalOrder}
use Rattle.std.specs.Cmp.Lexicographic.{nat_list_cmp_total}
use Rattle.std.specs.FinMap.{IsAntisymmetric, nat_cmp-IsAntisymmetric, slice_cmp-IsAntisymmetric}
use Rattle.std.specs.List.Sorted.{IsStrictlySortedBy}
use Rattle.std.specs.Map.{keys_of}
use Rattle.std.proofs.lemmas.Map.Text.{is_eq-slice_cmp}
use Rattle.siri_life.specs.Named.{Name, same_name}
use Rattle.siri_model.proofs.Current.{lookup_inserted, lookup_removed}
use Rattle.siri_model.proofs.Entries.{sorted_inserted, sorted_removed}
use Rattle.siri_view.specs.Kept.{HeldSubscription, Holdings, name_cmp, kept_of, with_kept, without_kept}

-- identifiers are in a total order, by which those that tie are one
name_total : IsTotalOrder name_cmp
name_total = nat_list_cmp_total

name_exact : IsAntisymmetric name_cmp
name_exact = slice_cmp-IsAntisymmetric nat_cmp-IsAntisymmetric

pub kept_put : (q identifier : Name) (h : HeldSubscription) (held : Holdings)
    → kept_of q (with_kept identifier h held) ≡ cond (same_name q identifier) (Some h) (kept_of q held)
kept_put q identifier h held = lookup_inserted name_total name_exact q identifier h held
    ∙ ap (λ b. cond b (Some h) (kept_of q held)) (is_eq-slice_cmp q identifier)

pub kept_gone : (q identifier : Name) (held : Holdings) → IsStrictlySortedBy name_cmp (keys_of held)
    → kept_of q (without_kept identifier held) ≡ cond (same_name q identifier) None (kept_of q held)
kept_gone q identifier held s = lookup_removed name_total name_exact q identifier held s ∙ ap (λ b. cond b None (kept_of q held)) (is_eq-slice_cmp q identifier)

pub ordered_put : (identifier : Name) (h : HeldSubscription) (held : Holdings)
    → IsStrictlySortedBy name_cmp (keys_of held) → IsStrictlySortedBy name_cmp (keys_of (with_kept identifier h held))
ordered_put identifier h held s = sorted_inserted name_total identifier h held s

pub ordered_gone : (identifier : Name) (held : Holdings) → IsStrictlySortedBy name_cmp (keys_of held)
    → IsStrictlySortedBy name_cmp (keys_of (without_kept identifier held))
ordered_gone identifier held s = sorted_removed name_total identifier held s
