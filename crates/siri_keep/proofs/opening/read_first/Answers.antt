use Rattle.std.proofs.Common.{sym, ◌∙◌}
use Rattle.siri_keep.proofs.ReadOn.{moment_missing, moment_read, moment_unread, nothing_there}
use Rattle.siri_keep.proofs.opening.read_first.Goals as goal

pub returns-then-branch-clause-told : goal.returns-then-branch-clause-told
returns-then-branch-clause-told g c =
    moment_missing c.in_ok-row.field-0 _ _ c.in_ok-row.ensures.told _ c.in_ok-has_more.field-0 c.missing.result c.in_default.is
    c.if-branch.true c.missing.ensures c.in_ok-has_more.ensures.told

pub returns-in_default-clause-told : goal.returns-in_default-clause-told
returns-in_default-clause-told g c =
    nothing_there c.in_ok-row.field-0 _ _ c.in_ok-row.ensures.told _ c.in_ok-has_more.field-0 c.in_default.is c.if-branch.false
    c.in_ok-has_more.ensures.told

pub returns-in_default-2-clause-told : goal.returns-in_default-2-clause-told
returns-in_default-2-clause-told g c =
    moment_unread c.in_ok-row.field-0 _ _ c.in_ok-row.ensures.told c.in-Some.row c.missing-in_default-2.result c.in-Some.is
    (sym c.in_default-2.is ∙ c.in_ok-began.ensures) c.missing-in_default-2.ensures

pub returns-clause-told : goal.returns-clause-told
returns-clause-told g c =
    moment_read c.in_ok-row.field-0 _ _ c.in_ok-row.ensures.told c.in-Some.row c.in-Some-2.began c.args.alloc c.new.result c.in-Some.is
    (sym c.in-Some-2.is ∙ c.in_ok-began.ensures) c.new.ensures
