use Rattle.std.proofs.Common.{◌≡◌, Bool, true, false, refl, ap, ◌∙◌, subst}
use Rattle.siri_messages.specs.declared.message.Message.TheVariants as message
use Rattle.siri_model.specs.History.{Take}
use Rattle.siri_subscriptions.specs.Courses.{kept_rows}
use Rattle.siri_subscriptions.specs.Acknowledgements.{counts}
use Rattle.siri_producer.specs.Answers.{acknowledged_note, noted}
use Rattle.siri_producer.specs.Known.{Known, GoesOn, AnswerFor}
use Rattle.siri_producer.specs.Standing.{known_of}
use Rattle.siri_producer.proofs.Noted.{looked_numbered}
use Rattle.siri_producer.proofs.Takes.{answer_acknowledged, goes_acknowledged, is_taken}
use Rattle.siri_producer.proofs.producer.Producer.take_acknowledgement.Goals as goal
use Rattle.siri_producer.proofs.producer.Producer.take_acknowledgement.Goals.{in-Taken, in-NotThis}

pub invariant_of-self : goal.invariant_of-self
invariant_of-self c =
    let inside = c.self.inside in
    let a = c.args.acknowledgement.now in
    let after = c.acknowledge-taken.new.table in
    let same = c.acknowledge-taken.ensures.looked in
    let numbered = looked_numbered inside.responder.marks.number inside.table after c.self.invariant.numbered same in
    is_taken inside.responder inside.table inside.is_settled
    (message.DataReceivedAcknowledgement a) after c.self.invariant.follows
    (goes_acknowledged inside.responder inside.table inside.is_settled after c.start-start.result c.now.result a
    c.start-start.ensures c.now.ensures c.acknowledge-taken.ensures.rows same) numbered

false_of : (b : Bool) → (b ≡ true → ⊥) → b ≡ false
false_of true never = absurd (never refl)
false_of false never = refl

pub returns-clause-takes : goal.returns-clause-takes
returns-clause-takes c =
    let inside = c.self.inside in
    let a = c.args.acknowledgement.now in
    let start = c.start-start.result in
    let after = c.acknowledge-taken.new.table in
    let same = c.acknowledge-taken.ensures.looked in
    let answers : (b : Bool) → counts start a (kept_rows inside.table) ≡ b
    → AnswerFor c.args.self.now (message.DataReceivedAcknowledgement a) (noted (acknowledged_note b)) = λ b is.
    subst (λ (k : Known). AnswerFor k (message.DataReceivedAcknowledgement a) (noted (acknowledged_note b)))
    c.self.view_is (answer_acknowledged inside.responder inside.table inside.is_settled start a b
    c.start-start.ensures is) in
    record {
      ok = subst (λ (k : Known). GoesOn k (known_of inside.responder after false)
          (Take (message.DataReceivedAcknowledgement a))) c.self.view_is
          (goes_acknowledged inside.responder inside.table inside.is_settled after start c.now.result a
          c.start-start.ensures c.now.ensures c.acknowledge-taken.ensures.rows same);
      answer = λ h s. elim c.match-taken.branch [
        | in-Taken w ↦ w.result-is ∙ w.noted.ensures
            ∙ answers true (c.acknowledge-taken.ensures.taken.0 w.in-Taken.is) h s
        | in-NotThis w ↦ w.result-is ∙ w.noted-in-NotThis.ensures
            ∙ answers false (false_of (counts start a (kept_rows inside.table)) (λ e.
            let taken = c.acknowledge-taken.ensures.taken.1 e in
            let other = w.in-NotThis.is in
            absurd (cc))) h s
      ];
      err = tt;
      name = ap (λ (k : Known). k.responder.name) c.self.view_is;
    }
