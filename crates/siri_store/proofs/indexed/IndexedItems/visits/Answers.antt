use Rattle.std.proofs.Common.{◌≡◌, rules, ap, refl, ◌∙◌, subst, Some}
use Rattle.std.specs.Prelude.{pos, ◌&&◌}
use Rattle.siri_records.specs.Edges.{is_within}
use Rattle.siri_records.specs.Keyed.{Items}
use Rattle.siri_topic.specs.declared.topics.Topic.TheVariants as a_topic
use Rattle.siri_topic.specs.Shown.{is_before, is_from, window_of}
use Rattle.siri_store.specs.Between.{between, inside}
use Rattle.siri_store.specs.CrossWalk.{led}
use Rattle.siri_store.specs.First.{enters, visits_by_entry}
use Rattle.siri_store.specs.Stamped.{Tied}
use Rattle.siri_store.specs.Visits.{all_lead}
use Rattle.siri_store.specs.Walk.{shown_entries}
use Rattle.siri_store.proofs.Firsts.{all_visits, are_visits, none_between, nothing_of, shown_visits}
use Rattle.siri_store.proofs.Leads.{visits_lead}
use Rattle.siri_store.proofs.indexed.IndexedItems.visits.Goals as goal

pub returns-in-Stop : goal.returns-in-Stop
returns-in-Stop c =
    let es = c.self.inside.entries in
    let stamps = c.self.inside.stamps in
    let window = c.args.window.now in
    let topic = c.args.topic.now in
    let moment = c.args.moment in
    let there : c.inside.result ≡ inside 1 window stamps = c.inside.ensures.stamps ∙ ap (λ order. inside order window stamps) c.by_edge.ensures.order in
    let visits = are_visits 1 window es stamps c.self.invariant.tied c.self.invariant.ordered c.inside.ensures.ordered (λ k. refl) in
    let stop = c.requires ∙ ap (λ t. window_of t moment) c.in-Stop.is in
    record {
      visits = rw (← c.self.view_is) (rw c.in-Stop.is (ap (led window.from es) there
          ∙ (all_visits window es (inside 1 window stamps) visits ∙ ap (λ w. visits_by_entry (enters w) es) stop)));
      leads = rw (← c.self.view_is) (ap (all_lead window.from es) there
          ∙ visits_lead 1 window.from es stamps c.self.invariant.tied (λ k. refl)
          (λ m. is_from window.from (Some m) && is_before window.to (Some m)));
      shown = rw (← c.self.view_is) (rw c.in-Stop.is (ap (λ s. shown_entries (a_topic.Stop c.in-Stop.field-0) moment (led window.from es s)) there
          ∙ shown_visits window es (inside 1 window stamps) visits c.in-Stop.field-0 moment stop));
    }

pub returns-in_default : goal.returns-in_default
returns-in_default c =
    let there : c.between.result ≡ between 1 (pos 0) (pos 0) c.self.inside.stamps = search rules in
    let nothing = nothing_of c.args.window.now.from c.args.moment c.args.self.now c.between.result
    (there ∙ none_between 1 c.self.inside.stamps) c.args.topic.now c.in_default.not-Stop in
    let leads = visits_lead 1 c.args.window.now.from c.args.self.now c.self.inside.stamps
    (subst (λ (es : Items). Tied es c.self.inside.stamps) c.self.view_is c.self.invariant.tied) (λ k. refl) (is_within (pos 0) (pos 0)) in
    record {
      visits = nothing.visits;
      leads = ap (all_lead c.args.window.now.from c.args.self.now) there ∙ leads;
      shown = nothing.shown;
    }
