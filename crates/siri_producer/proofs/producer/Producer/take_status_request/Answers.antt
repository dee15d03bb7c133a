use Rattle.std.proofs.Common.{false, ap, ◌∙◌, subst}
use Rattle.siri_messages.specs.declared.message.Message.TheVariants as message
use Rattle.siri_model.specs.History.{Take}
use Rattle.siri_producer.specs.declared.answers.Note.TheVariants as note
use Rattle.siri_producer.specs.Answers.{replied}
use Rattle.siri_producer.specs.Known.{Known, GoesOn, AnswerFor}
use Rattle.siri_producer.specs.Standing.{known_of}
use Rattle.siri_producer.proofs.Takes.{answer_checked, goes_checked, is_taken}
use Rattle.siri_producer.proofs.producer.Producer.take_status_request.Goals as goal

pub invariant_of-self : goal.invariant_of-self
invariant_of-self c =
    let inside = c.self.inside in
    let request = c.args.request.now in
    is_taken inside.responder inside.table inside.is_settled (message.CheckStatusRequest request) inside.table
    c.self.invariant.follows
    (goes_checked inside.responder inside.table inside.is_settled request) c.self.invariant.numbered

pub returns-clause-takes : goal.returns-clause-takes
returns-clause-takes c =
    let inside = c.self.inside in
    let request = c.args.request.now in
    let response = c.in_ok-response.response in
    record {
      ok = subst (λ (k : Known). GoesOn k (known_of inside.responder inside.table false)
          (Take (message.CheckStatusRequest request))) c.self.view_is
          (goes_checked inside.responder inside.table inside.is_settled request);
      answer = λ h s. c.replied.ensures ∙ subst (λ (k : Known). AnswerFor k (message.CheckStatusRequest request)
          (replied note.Checked (message.CheckStatusResponse response))) c.self.view_is
          (answer_checked inside.responder inside.table inside.is_settled c.name.result.now c.now-now.result
          c.started-started.result request response c.name.ensures c.now-now.ensures c.started-started.ensures
          c.in_ok-response.ensures) h s;
      err = tt;
      name = ap (λ (k : Known). k.responder.name) c.self.view_is;
    }
