use Rattle.std.proofs.Common.{◌≡◌, ◌&&◌, ◌||◌, true, false, Some, sym, ap, ◌∙◌}
use Rattle.std.specs.Prelude.{not, option_map, Result, Ok, Err, OnOk, OnErr}
use Rattle.std.specs.Result.{is_err}
use Rattle.std.specs.Borrow.{Bor}
use Rattle.std.specs.BTreeMap.{insert_entry}
use Rattle.siri_records.specs.declared.item.Item.{Item}
use Rattle.siri_records.specs.Keyed.{item_of}
use Rattle.siri_records.specs.Order.{key_cmp}
use Rattle.siri_store.specs.Stamped.{has_stamp, is_one_of}
use Rattle.siri_store.proofs.Tied.{tied_put, tied_back_again}
use Rattle.siri_store.proofs.indexed.IndexedItems.put.Goals as goal

on_err : {A B : Type 0} (r : Result A B) (P : Type 0) → is_err r ≡ true → OnErr r P → P
on_err (Ok x) P is on = absurd (cc is)
on_err (Err e) P is on = on

on_ok : {A B : Type 0} (r : Result A B) (P : Type 0) → is_err r ≡ false → OnOk r P → P
on_ok (Ok x) P is on = on
on_ok (Err e) P is on = absurd (cc is)

pub invariant_of-self : goal.invariant_of-self
invariant_of-self c =
    let es = c.self.inside.entries in
    let before = c.self.inside.stamps in
    let added = c.add.new.self in
    let own : c.in_ok-own.own ≡ c.args.key = c.in_ok-own.ensures.0 in
    let old : option_map (λ (item : Bor Item). item.now) c.inner.result ≡ item_of es c.args.key =
    c.inner.ensures ∙ (c.in_ok-own.ensures.1 ∙ ap (λ e. item_of e c.args.key) (sym c.self.view_is)) in
    let new : c.deref.result.now ≡ c.args.item.value = c.deref.ensures ∙ c.in_ok-new.ensures.cases in
    let gone : c.deref-then-is_err.result.now ≡ c.args.item.value =
    c.deref-then-is_err.ensures ∙ c.in_ok-new.ensures.cases in
    record {
      ordered = c.self.invariant.ordered;
      tied = tied_back_again es c.args.key c.args.item.value before added c.take_out.new.self c.self.invariant.tied
          (λ s. c.add.ensures.some s
          ∙ (λ j. has_stamp before s || (is_one_of (own j) (Some (new j)) s && has_stamp added s)))
          (λ s. c.take_out.ensures.rest s
          ∙ (λ j. has_stamp added s && not (is_one_of (own j) (Some (gone j)) s && not (is_one_of (own j) (old j) s))));
    }

pub invariant_of-self-then-is_err-2 : goal.invariant_of-self-then-is_err-2
invariant_of-self-then-is_err-2 c =
    let es = c.self.inside.entries in
    let before = c.self.inside.stamps in
    let added = c.add.new.self in
    let same : c.put.new.self ≡ es =
    on_err c.put.result _ (sym c.is_err-2.ensures.value ∙ c.if-is_err-2.true) c.put.ensures.err in
    let own : c.in_ok-own.own ≡ c.args.key = c.in_ok-own.ensures.0 in
    let old : option_map (λ (item : Bor Item). item.now) c.inner-then-is_err-2.result ≡ item_of es c.args.key =
    c.inner-then-is_err-2.ensures ∙ (c.in_ok-own.ensures.1 ∙ ap (λ e. item_of e c.args.key) (sym c.self.view_is)) in
    let new : c.deref.result.now ≡ c.args.item.value = c.deref.ensures ∙ c.in_ok-new.ensures.cases in
    let gone : c.deref-then-is_err-2.result.now ≡ c.args.item.value =
    c.deref-then-is_err-2.ensures ∙ c.in_ok-new.ensures.cases in
    record {
      ordered = c.put.ensures.ordered;
      tied =
          rw same (tied_back_again es c.args.key c.args.item.value before added c.take_out-then-is_err-2.new.self
          c.self.invariant.tied
          (λ s. c.add.ensures.some s
          ∙ (λ j. has_stamp before s || (is_one_of (own j) (Some (new j)) s && has_stamp added s)))
          (λ s. c.take_out-then-is_err-2.ensures.rest s
          ∙ (λ j. has_stamp added s && not
          (is_one_of (own j) (Some (gone j)) s && not (is_one_of (own j) (old j) s)))));
    }

pub invariant_of-self-2 : goal.invariant_of-self-2
invariant_of-self-2 c =
    let es = c.self.inside.entries in
    let before = c.self.inside.stamps in
    let added = c.add.new.self in
    let done : c.put.new.self ≡ insert_entry key_cmp es c.args.key c.args.item.value =
    on_ok c.put.result _ (sym c.is_err-2.ensures.value ∙ c.if-is_err-2.false) c.put.ensures.ok in
    let own : c.in_ok-own.own ≡ c.args.key = c.in_ok-own.ensures.0 in
    let old : option_map (λ (item : Bor Item). item.now) c.inner-2.result ≡ item_of es c.args.key =
    c.inner-2.ensures ∙ (c.in_ok-own.ensures.1 ∙ ap (λ e. item_of e c.args.key) (sym c.self.view_is)) in
    let new : c.deref.result.now ≡ c.args.item.value = c.deref.ensures ∙ c.in_ok-new.ensures.cases in
    let kept : c.deref-2.result.now ≡ c.args.item.value = c.deref-2.ensures ∙ c.in_ok-new.ensures.cases in
    let more = on_ok c.add.result _ (sym c.is_err.ensures.value ∙ c.if-is_err.false) c.add.ensures.ok in
    record {
      ordered = c.put.ensures.ordered;
      tied = rw done (tied_put es c.args.key c.args.item.value before added c.take_out-2.new.self c.self.invariant.tied
          (λ s. more s ∙ (λ j. is_one_of (own j) (Some (new j)) s || has_stamp before s))
          (λ s. c.take_out-2.ensures.rest s
          ∙ (λ j. has_stamp added s && not
          (is_one_of (own j) (old j) s && not (is_one_of (own j) (Some (kept j)) s)))));
    }
