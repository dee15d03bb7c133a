-- The definitions that a script's run computes with, to be opened together.
use Rattle.std.specs.Prelude.{⊤}
use Rattle.std.specs.Fmt.{digits}
use Rattle.siri_records.specs.Ends.{call_moment}
use Rattle.siri_records.specs.Near.{is_near_call, is_near_visit_journey, is_near_visit}
use Rattle.siri_topic.specs.Agreement.{has_visit}
use Rattle.siri_model.specs.Direct.{answering, answer, response}
use Rattle.siri_model.specs.History.{after_step}
use Rattle.siri_model.specs.Lives.{acts_in, served_after}
use Rattle.siri_subscriptions.specs.replies.Parts.{part_functional, part_delivery, all_data_response}
use Rattle.siri_subscriptions.specs.replies.Responses.{accepted_status, refused_status, subscription_response, ended_status, unknown_status, termination_response}
use Rattle.siri_subscriptions.specs.replies.Statuses.{feed_acknowledgement}
use Rattle.siri_subscriptions.specs.Renewals.{renew_answer}
use Rattle.siri_subscriptions.specs.Requests.{subscription_answer}
use Rattle.siri_subscriptions.specs.Terminations.{termination_answer}
use Rattle.siri_producer.specs.Answers.{answer_to}
use Rattle.siri_producer.specs.Sends.{sends}
use Rattle.siri_base.specs.Numbers.{number_of}
use Rattle.siri_world_model.specs.Effects.{effect}
use Rattle.siri_world_model.specs.Told.{refusal}

unfoldable pub opened : ⊤
unfolding digits call_moment is_near_call is_near_visit_journey is_near_visit has_visit answering answer response
    after_step acts_in served_after part_functional part_delivery all_data_response renew_answer accepted_status
    refused_status subscription_response
    ended_status unknown_status termination_response feed_acknowledgement subscription_answer termination_answer
    answer_to sends number_of effect refusal
opened = tt
