use Rattle.siri_http.specs.Requests.{post_alone}
use Rattle.siri_http.specs.Texts.{request_text}
use Rattle.siri_wire.specs.Canonical.{canonical}
use Rattle.siri_ends.specs.Consuming.{PostsUp, consuming}
use Rattle.siri_ends.proofs.HangingUp.{post_to_each, turn_hangs_up}
use Rattle.siri_ends.proofs.hanging_up.a_consumer_hangs_up_before_it_dials.Goals as goal

pub returns : goal.returns
returns c = λ host path. turn_hangs_up (PostsUp host path) consuming
    (λ message outcome old now. post_to_each host (request_text host path (canonical message)) outcome old now) post_alone
