-- Small turns that compute, so that the definitions are tried.
use Rattle.std.proofs.Common.{◌≡◌, ℕ, true, List, [], ◌∷◌, None, Some, Ok, refl}
use Rattle.siri_http.specs.declared.asked.Asked.TheVariants as asked
use Rattle.siri_messages.specs.declared.message.Message.TheVariants as siri
use Rattle.siri_model.specs.History.{Clock, History, Start, after_step}
use Rattle.siri_producer.specs.Answers.{answer_to}
use Rattle.siri_subscriptions.specs.replies.Statuses.{status_response}
use Rattle.siri_ends.specs.Responses.{document_response, replying, responding, response_to}

-- a request that didn't come whole isn't answered
short_is_not_answered : (name : List ℕ) (h : History) → response_to name h asked.Short ≡ None
unfolding responding
short_is_not_answered name h = refl

-- a producer that started at 7 and stands at 8 answers a CheckStatusRequest with its name and both moments
status_is_told : (name : List ℕ) → document_response name (Start 1 7 ∷ Clock 8 ∷ [])
    (Ok (siri.CheckStatusRequest (record {
      request_timestamp = None;
      requestor_ref = None;
      message_identifier = None;
    })))
    ≡ replying (Some (siri.CheckStatusResponse
    (record {
      response_timestamp = Some 8;
      producer_ref = Some name;
      request_message_ref = None;
      status = true;
      service_started_time = Some 7;
    })))
unfolding answer_to after_step status_response
status_is_told name = refl
