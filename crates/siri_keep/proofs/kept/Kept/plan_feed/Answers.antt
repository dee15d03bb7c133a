use Rattle.std.proofs.Common.{◌≡◌, map, arith, sym, subst, IfOk, List}
use Rattle.siri_records.specs.Keyed.{apply}
use Rattle.siri_records.specs.declared.key.Key.{Key}
use Rattle.siri_model.specs.History.{entries_of}
use Rattle.siri_model.specs.Last.{entry_key}
use Rattle.siri_keeping.specs.Keeping.{changes_to}
use Rattle.siri_keep.specs.declared.kept.Kept.{Kept}
use Rattle.siri_keep.proofs.Making.{fed_plans, fed_plans_dead}
use Rattle.siri_keep.proofs.kept.Kept.plan_feed.Goals as goal
use Rattle.siri_keep.proofs.kept.Kept.plan_feed.Goals.{then-len-gt-MOST_ROWS+in_ok-put_dead, else-len-gt-MOST_ROWS}

pub returns-clause-ok : goal.returns-clause-ok
returns-clause-ok c =
    let old : Kept = c.args.self.now in
    let one : Kept = c.put_keys.new.self in
    let d = c.args.delivery in
    let put = c.in_ok-put_keys.ensures.ok in
    let keys : c.in_ok-keys.keys ≡ map entry_key (entries_of d) =
    subst (λ r. IfOk r (λ (keys : List Key). keys ≡ map entry_key (entries_of d))) c.in_ok-keys.ensures.made c.named_keys-keys.ensures in
    let taken = rw (sym c.in_ok-keys.ensures.value) at c.in_ok-answer.ensures.ok in
    let fed : one.mirror ≡ apply old.mirror (changes_to c.take_owned.new.self.responder.held (map entry_key (entries_of d))) =
    rw (c.slice.ensures, keys) at put.mirror in
    elim c.if-len-gt-MOST_ROWS.branch [
      | then-len-gt-MOST_ROWS+in_ok-put_dead w ↦
          let dead = w.in_ok-put_dead.ensures.ok in
          rw (w.self-is, w.puts-is, dead.puts, put.puts, c.new-puts.ensures, c.slice.ensures, keys)
          (fed_plans_dead old c.take_owned.new.self d one w.put_dead.new.self c.requires.fed c.requires.proper c.requires.short
          c.take_owned.ensures.name taken put.producer w.in_ok-put_dead.ensures.producer fed dead.mirror put.places dead.places)
      | else-len-gt-MOST_ROWS w ↦
          rw (w.self-is, w.puts-is, put.puts, c.new-puts.ensures, c.slice.ensures, keys)
          (fed_plans old c.take_owned.new.self d one c.requires.fed c.requires.proper c.requires.short c.take_owned.ensures.name
          taken put.producer fed put.places (omega (arith, w.if-len-gt-MOST_ROWS.false, c.len.ensures)))
    ]
