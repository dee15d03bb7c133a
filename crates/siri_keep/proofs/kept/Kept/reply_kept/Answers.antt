use Rattle.std.proofs.Common.{◌∙◌, refl, sym}
use Rattle.siri_keep.specs.declared.kept.Kept.{Kept}
use Rattle.siri_keep.proofs.KeptTurns.{told_leaves}
use Rattle.siri_keep.proofs.Looks.{alike_long, alike_short}
use Rattle.siri_keep.proofs.kept.Kept.reply_kept.Goals as goal

pub returns-clause-ok : goal.returns-clause-ok
returns-clause-ok g c =
    let old : Kept = c.args.self.now in
    told_leaves old (record old { producer = c.reply_to.new.producer }) c.args.message c.in_ok-reply.reply _
    (sym c.in_ok-has_long_row.ensures ∙ c.if-branch.false) c.in_ok-reply.ensures.prepares
    (sym c.changes_rows.ensures ∙ c.if-changes_rows.false) c.requires.proper c.reply_to.ensures.name refl

-- ---- what is followed then

pub returns-then-branch-clause-follows : goal.returns-then-branch-clause-follows
returns-then-branch-clause-follows g c =
    alike_long c.args.self.now.producer c.args.message (sym c.in_ok-has_long_row.ensures ∙ c.if-branch.true)

pub returns-then-changes_rows-clause-follows : goal.returns-then-changes_rows-clause-follows
returns-then-changes_rows-clause-follows g c =
    alike_short c.args.self.now.producer c.answer_kept.new.self.producer c.args.message
    (sym c.in_ok-has_long_row.ensures ∙ c.if-branch.false) c.in_ok-response.ensures.follows

pub returns-clause-follows : goal.returns-clause-follows
returns-clause-follows g c =
    alike_short c.args.self.now.producer c.reply_to.new.producer c.args.message
    (sym c.in_ok-has_long_row.ensures ∙ c.if-branch.false) c.in_ok-reply.ensures.follows
