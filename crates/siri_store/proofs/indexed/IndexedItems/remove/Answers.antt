use Rattle.std.proofs.Common.{◌≡◌, ◌&&◌, Some, None, sym, ap, ◌∙◌}
use Rattle.std.specs.Prelude.{not}
use Rattle.siri_records.specs.Keyed.{item_of}
use Rattle.siri_store.specs.Stamped.{has_stamp, is_one_of}
use Rattle.siri_store.proofs.Tied.{tied_taken, tied_not_held}
use Rattle.siri_store.proofs.indexed.IndexedItems.remove.Goals as goal

pub invariant_of-self : goal.invariant_of-self
invariant_of-self c =
    let es = c.self.inside.entries in
    let own : c.in-Some.own ≡ c.args.key.now = c.in-Some.ensures.key in
    let item : Some c.deref.result.now ≡ item_of es c.args.key.now = ap Some c.deref.ensures ∙ c.in-Some.ensures.item in
    record {
      ordered = c.take.ensures.ordered;
      tied =
          rw c.take.ensures.rest
          (tied_taken es c.args.key.now c.self.inside.stamps c.take_out.new.self c.self.invariant.ordered
          c.self.invariant.tied
          (λ s. c.take_out.ensures.rest s
          ∙ (λ j. has_stamp c.self.inside.stamps s && not
          (is_one_of (own j) (item j) s && not (is_one_of (own j) None s)))));
    }

pub invariant_of-self-in-None : goal.invariant_of-self-in-None
invariant_of-self-in-None c = record {
  ordered = c.take.ensures.ordered;
  tied =
      rw c.take.ensures.rest
      (tied_not_held c.self.inside.entries c.args.key.now c.self.inside.stamps c.self.invariant.ordered
      c.self.invariant.tied
      (sym c.in-None.ensures.item));
}
