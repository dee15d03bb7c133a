use Rattle.std.proofs.Common.{◌≡◌, rules, ap, ◌∙◌, subst, sym, arith}
use Rattle.std.specs.Prelude.{pos, []}
use Rattle.siri_records.specs.Keyed.{Items}
use Rattle.siri_topic.specs.declared.topics.Topic.TheVariants as a_topic
use Rattle.siri_topic.specs.Shown.{window_of}
use Rattle.siri_store.specs.Asked.{asked_stamps}
use Rattle.siri_store.specs.Between.{between, inside, is_inside}
use Rattle.siri_store.specs.Candidates.{UnderOwnKeys, candidates}
use Rattle.siri_store.specs.CrossWalk.{led}
use Rattle.siri_store.specs.First.{first_entries, visits_for}
use Rattle.siri_store.specs.Stamped.{order_asked}
use Rattle.siri_store.specs.Visits.{all_lead}
use Rattle.siri_store.specs.Walk.{shown_entries}
use Rattle.siri_store.proofs.AskedFor.{all_pass, asked_lead, asked_shown, asked_visits, none_of}
use Rattle.siri_store.proofs.Firsts.{none_between}
use Rattle.siri_store.proofs.indexed.IndexedItems.visits_asked.Goals as goal

pub returns-in-Stop : goal.returns-in-Stop
returns-in-Stop c =
    let es = c.self.inside.entries in
    let stamps = c.self.inside.stamps in
    let window = c.args.window.now in
    let topic = c.args.topic.now in
    let moment = c.args.moment in
    let t = c.in-Stop.field-0 in
    let own = subst (λ (items : Items). UnderOwnKeys items) (sym c.self.view_is) c.requires.own in
    let there : c.inside.result ≡ inside (order_asked topic) window stamps =
    c.inside.ensures.stamps ∙ ap (λ order. inside order window stamps) c.order_asked.ensures.order in
    let stop = c.requires.window ∙ ap (λ t. window_of t moment) c.in-Stop.is in
    let its : asked_stamps topic c.inside.result ≡ asked_stamps (a_topic.Stop t) (inside (order_asked (a_topic.Stop t)) window stamps) =
    ap (asked_stamps topic) there ∙ ap (λ t. asked_stamps t (inside (order_asked t) window stamps)) c.in-Stop.is in
    record {
      visits = rw (← c.self.view_is) (ap (led window.from es) its
          ∙ (asked_visits t moment window stop es stamps own c.self.invariant.tied c.self.invariant.ordered c.inside.ensures.ordered
          ∙ ap (λ t. visits_for t moment (candidates t es)) (sym c.in-Stop.is)));
      walked = rw there (all_pass (is_inside (order_asked topic) window) stamps);
      leads = rw (← c.self.view_is) (ap (all_lead window.from es) its
          ∙ asked_lead t moment window stop es stamps own c.self.invariant.tied c.self.invariant.ordered c.inside.ensures.ordered);
      shown = rw (← c.self.view_is) ((λ i. shown_entries (c.in-Stop.is i) moment (led window.from es (its i)))
          ∙ (asked_shown t moment window stop es stamps own c.self.invariant.tied c.self.invariant.ordered c.inside.ensures.ordered
          ∙ ap (λ t. first_entries t moment es) (sym c.in-Stop.is)));
    }

pub returns-in_default : goal.returns-in_default
returns-in_default c =
    let topic = c.args.topic.now in
    let moment = c.args.moment in
    let from = c.args.window.now.from in
    let es = c.args.self.now in
    let there : c.between.result ≡ between 1 (pos 0) (pos 0) c.self.inside.stamps = search rules in
    let none : asked_stamps topic c.between.result ≡ [] = ap (asked_stamps topic) (there ∙ none_between 1 c.self.inside.stamps) in
    let nothing = none_of from moment es (asked_stamps topic c.between.result) none topic c.in_default.not-Stop in
    record {
      visits = nothing.visits;
      walked = rw (there ∙ none_between 1 c.self.inside.stamps) (λ k d lt. absurd (omega (arith, lt)));
      leads = ap (all_lead from es) none;
      shown = nothing.shown;
    }
