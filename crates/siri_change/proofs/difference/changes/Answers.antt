use Rattle.std.proofs.Common.{◌≡◌, ◌∙◌, ap, sym, arith, ◌++◌, append-nil}
use Rattle.siri_records.specs.Keyed.{deref_entry}
use Rattle.siri_records.proofs.Placed.{below_length}
use Rattle.siri_change.proofs.Walks.{reversed, above_from, above_past, removed_at, added_at, kept_at, replaced_at, none_left, written}
use Rattle.std.specs.declared.cmp.Ordering.TheVariants.{Greater}
use Rattle.siri_change.specs.Same.{is_same}
use Rattle.siri_change.proofs.difference.changes.Goals as goal
use Rattle.siri_change.proofs.difference.changes.Goals.{then-not-same+in_ok-addition-in-Equal+in_ok-push-in-Equal, else-not-same}

pub returns-in-None-None : goal.returns-in-None-None
returns-in-None-None c =
    let left = none_left c.args.before.now c.args.after.now c.loop-list.old_place c.loop-list.new_place
    c.in-None-None.ensures.entry c.in-None-None.ensures'.entry in
    sym (append-nil _) ∙ (ap (λ l. c.loop-list.list ++ l) (sym left) ∙ c.loop-list.invariant)

pub loop-list-smaller-in-None-Some : goal.loop-list-smaller-in-None-Some
loop-list-smaller-in-None-Some c =
    let lt = below_length c.args.after.now c.loop-list.new_place (deref_entry c.in-None-Some.new) (sym c.in-None-Some.ensures'.entry) in
    omega (arith, lt)

pub loop-list-preserved-in-None-Some : goal.loop-list-preserved-in-None-Some
loop-list-preserved-in-None-Some c =
    let f = deref_entry c.in-None-Some.new in
    let above = above_past f.0 c.args.before.now c.loop-list.old_place c.in-None-Some.ensures.entry in
    written _ _ _ _ _ _ _ c.in_ok-push-in-None-Some.ensures.ok c.in_ok-addition-in-None-Some.ensures
    (added_at c.args.before.now c.args.after.now c.loop-list.old_place c.loop-list.new_place f
    c.in-None-Some.ensures'.ordered c.in-None-Some.ensures'.entry above)
    c.loop-list.invariant

pub loop-list-smaller-in-Some-None : goal.loop-list-smaller-in-Some-None
loop-list-smaller-in-Some-None c =
    let lt = below_length c.args.before.now c.loop-list.old_place (deref_entry c.in-Some-None.old) (sym c.in-Some-None.ensures.entry) in
    omega (arith, lt)

pub loop-list-preserved-in-Some-None : goal.loop-list-preserved-in-Some-None
loop-list-preserved-in-Some-None c =
    let e = deref_entry c.in-Some-None.old in
    let above = above_past e.0 c.args.after.now c.loop-list.new_place c.in-Some-None.ensures'.entry in
    written _ _ _ _ _ _ _ c.in_ok-push-in-Some-None.ensures.ok c.in_ok-removal-in-Some-None.ensures
    (removed_at c.args.before.now c.args.after.now c.loop-list.old_place c.loop-list.new_place e
    c.in-Some-None.ensures.ordered c.in-Some-None.ensures.entry above)
    c.loop-list.invariant

pub loop-list-smaller-in-Less : goal.loop-list-smaller-in-Less
loop-list-smaller-in-Less c =
    let lt = below_length c.args.before.now c.loop-list.old_place (deref_entry c.in-Some-Some.old) (sym c.in-Some-Some.ensures.entry) in
    omega (arith, lt)

pub loop-list-preserved-in-Less : goal.loop-list-preserved-in-Less
loop-list-preserved-in-Less c =
    let e = deref_entry c.in-Some-Some.old in
    let above = above_from e.0 c.args.after.now c.loop-list.new_place
    (deref_entry c.in-Some-Some.new) c.in-Some-Some.ensures'.ordered c.in-Some-Some.ensures'.entry
    (sym c.in-Less.ensures) in
    written _ _ _ _ _ _ _ c.in_ok-push-in-Less.ensures.ok c.in_ok-removal-in-Less.ensures
    (removed_at c.args.before.now c.args.after.now c.loop-list.old_place c.loop-list.new_place e
    c.in-Some-Some.ensures.ordered c.in-Some-Some.ensures.entry above)
    c.loop-list.invariant

pub loop-list-smaller-in-Greater : goal.loop-list-smaller-in-Greater
loop-list-smaller-in-Greater c =
    let lt = below_length c.args.after.now c.loop-list.new_place (deref_entry c.in-Some-Some.new) (sym c.in-Some-Some.ensures'.entry) in
    omega (arith, lt)

pub loop-list-preserved-in-Greater : goal.loop-list-preserved-in-Greater
loop-list-preserved-in-Greater c =
    let f = deref_entry c.in-Some-Some.new in
    let e = deref_entry c.in-Some-Some.old in
    let above = above_from f.0 c.args.before.now c.loop-list.old_place e c.in-Some-Some.ensures.ordered
    c.in-Some-Some.ensures.entry (reversed f.0 e.0 Greater (sym c.in-Greater.ensures)) in
    written _ _ _ _ _ _ _ c.in_ok-push-in-Greater.ensures.ok c.in_ok-addition-in-Greater.ensures
    (added_at c.args.before.now c.args.after.now c.loop-list.old_place c.loop-list.new_place f
    c.in-Some-Some.ensures'.ordered c.in-Some-Some.ensures'.entry above)
    c.loop-list.invariant

pub loop-list-smaller : goal.loop-list-smaller
loop-list-smaller c =
    let lt = below_length c.args.before.now c.loop-list.old_place (deref_entry c.in-Some-Some.old) (sym c.in-Some-Some.ensures.entry) in
    omega (arith, lt)

pub loop-list-preserved : goal.loop-list-preserved
loop-list-preserved c =
    let e = deref_entry c.in-Some-Some.old in
    let f = deref_entry c.in-Some-Some.new in
    let a = c.args.before.now in
    let b = c.args.after.now in
    let i = c.loop-list.old_place in
    let j = c.loop-list.new_place in
    let old = c.in-Some-Some.ensures in
    let new = c.in-Some-Some.ensures' in
    let told : is_same e.1 f.1 ≡ c.same.result = sym (c.same.ensures.test ∙ (λ t. is_same (c.deref.ensures t) (c.deref-in-Equal.ensures t))) in
    elim c.if-not-same.branch [
      | then-not-same+in_ok-addition-in-Equal+in_ok-push-in-Equal w ↦
          let replaced = replaced_at a b i j e f old.ordered new.ordered old.entry new.entry (sym c.in-Equal.ensures) (told ∙ w.if-not-same.true) in
          rw w.list-is (written _ _ _ _ _ _ _ w.in_ok-push-in-Equal.ensures.ok w.in_ok-addition-in-Equal.ensures replaced c.loop-list.invariant)
      | else-not-same w ↦
          let kept = kept_at a b i j e f old.ordered new.ordered old.entry new.entry (sym c.in-Equal.ensures) (told ∙ w.if-not-same.false) in
          rw w.list-is (ap (λ l. c.loop-list.list ++ l) (sym kept) ∙ c.loop-list.invariant)
    ]
