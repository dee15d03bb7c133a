use Rattle.std.proofs.Common.{◌≡◌, ◌&&◌, Some, None, ap, ◌∙◌}
use Rattle.std.specs.Prelude.{not}
use Rattle.siri_records.specs.Keyed.{item_of}
use Rattle.siri_store.specs.Stamped.{has_stamp, is_one_of}
use Rattle.siri_store.proofs.Tied.{tied_taken}
use Rattle.siri_store.proofs.FirstEnd.{none_ended, ends_first}
use Rattle.siri_store.proofs.indexed.IndexedItems.remove_first_ended.Goals as goal

pub returns-in_err-key-clause-none : goal.returns-in_err-key-clause-none
returns-in_err-key-clause-none c = rw c.from_residual.ensures (rw (← c.self.view_is)
    (none_ended c.args.now c.self.inside.entries c.self.inside.stamps c.self.invariant.tied c.in_err-key.ensures.none))

pub invariant_of-self-2 : goal.invariant_of-self-2
invariant_of-self-2 c =
    let es = c.self.inside.entries in
    let own : c.in_ok-own.own ≡ c.key.result.now = c.in_ok-own.ensures.key in
    let item : Some c.deref.result.now ≡ item_of es c.key.result.now =
    ap Some c.deref.ensures ∙ c.in_ok-own.ensures.item in
    record {
      ordered = c.take.ensures.ordered;
      tied =
          rw c.take.ensures.rest
          (tied_taken es c.key.result.now c.self.inside.stamps c.take_out.new.self c.self.invariant.ordered
          c.self.invariant.tied
          (λ s. c.take_out.ensures.rest s
          ∙ (λ j. has_stamp c.self.inside.stamps s && not
          (is_one_of (own j) (item j) s && not (is_one_of (own j) None s)))));
    }

pub returns-clause-first : goal.returns-clause-first
returns-clause-first c =
    let own : c.take_out.result ≡ c.in_ok-key.key.now =
    c.take_out.ensures.key ∙ (c.in_ok-own.ensures.key ∙ c.key.ensures) in
    rw own (rw (← c.self.view_is)
    (ends_first c.args.now c.self.inside.entries c.self.inside.stamps c.in_ok-key.key.now c.self.invariant.tied
    c.in_ok-key.ensures.first))
