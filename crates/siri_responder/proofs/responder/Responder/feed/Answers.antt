use Rattle.std.proofs.Common.{refl, ap, ◌∙◌, map}
use Rattle.siri_model.specs.History.{entries_of}
use Rattle.siri_model.specs.Last.{entry_key}
use Rattle.siri_responder.specs.declared.feeding.Feeding.{Feeding}
use Rattle.siri_responder.specs.Feeding.{filling}
use Rattle.siri_responder.specs.Known.{Known}
use Rattle.siri_responder.proofs.Reached.{kept_all, kept_some, on_err}
use Rattle.siri_responder.proofs.Stands.{store_of, goes_on, tells, touches, took_some, history_fed, history_some}
use Rattle.siri_responder.proofs.responder.Responder.feed.Goals as goal

pub invariant_of-self : goal.invariant_of-self
invariant_of-self c = record {
  alive = c.in_err-feed.ensures.alive;
  room = c.in_err-feed.ensures.room;
  stands = history_some c.self.inside.start c.self.inside.started c.self.inside.feeding c.begin.new.self c.feed.new.self
      (entries_of c.args.delivery) c.self.invariant.stands c.begin.ensures c.in_err-feed.ensures.err;
}

pub returns-in_err-feed-clause-reads : goal.returns-in_err-feed-clause-reads
returns-in_err-feed-clause-reads c =
    kept_some _ _ _ c.in_err-feed.ensures.err
    ∙ ap (λ (f : Feeding). f.store.reads) c.begin.ensures
    ∙ ap (λ (k : Known). k.reads) c.self.view_is

pub returns-in_err-feed-clause-err : goal.returns-in_err-feed-clause-err
returns-in_err-feed-clause-err c = on_err _ (took_some c.args.self.now _ c.begin.new.self c.feed.new.self (entries_of c.args.delivery)
    (record {
      start = ap (λ (k : Known). k.start) c.self.view_is;
      started = ap (λ (k : Known). k.started) c.self.view_is;
      before_is = ap filling c.begin.ensures ∙ ap store_of c.self.view_is;
      marks_are = ap (λ (f : Feeding). f.marks) c.begin.ensures ∙ ap (λ (k : Known). k.marks) c.self.view_is;
      store_is = refl;
      marked_is = refl;
    }) c.in_err-feed.ensures.err)

pub invariant_of-self-2 : goal.invariant_of-self-2
invariant_of-self-2 c = record {
  alive = c.in_ok-feed.ensures.alive;
  room = c.in_ok-feed.ensures.room;
  stands = history_fed c.self.inside.start c.self.inside.started c.self.inside.feeding c.begin.new.self c.feed.new.self
      (entries_of c.args.delivery) c.self.invariant.stands c.begin.ensures c.in_ok-feed.ensures.ok;
}

pub returns-clause-reads : goal.returns-clause-reads
returns-clause-reads c =
    kept_all _ _ _ c.in_ok-feed.ensures.ok
    ∙ ap (λ (f : Feeding). f.store.reads) c.begin.ensures
    ∙ ap (λ (k : Known). k.reads) c.self.view_is

pub returns-clause-ok : goal.returns-clause-ok
returns-clause-ok c = goes_on c.args.self.now _ c.begin.new.self c.feed.new.self (entries_of c.args.delivery)
    (record {
      start = ap (λ (k : Known). k.start) c.self.view_is;
      started = ap (λ (k : Known). k.started) c.self.view_is;
      before_is = ap filling c.begin.ensures ∙ ap store_of c.self.view_is;
      marks_are = ap (λ (f : Feeding). f.marks) c.begin.ensures ∙ ap (λ (k : Known). k.marks) c.self.view_is;
      store_is = refl;
      marked_is = refl;
    }) c.in_ok-feed.ensures.ok

pub returns-clause-touched : goal.returns-clause-touched
returns-clause-touched c = touches c.args.self.now _ c.begin.new.self.marks c.feed.new.self.marks (map entry_key (entries_of c.args.delivery))
    (ap (λ (f : Feeding). f.marks) c.begin.ensures ∙ ap (λ (k : Known). k.marks) c.self.view_is) refl c.in_ok-feed.ensures.ok.marked

pub returns-clause-counts : goal.returns-clause-counts
returns-clause-counts c = tells c.args.self.now c.begin.new.self c.feed.new.self (entries_of c.args.delivery)
    (ap filling c.begin.ensures ∙ ap store_of c.self.view_is) c.in_ok-feed.ensures.ok
