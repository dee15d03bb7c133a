use Rattle.siri_ends.specs.Serving.{PostsOut, serving, target_of}
use Rattle.siri_wire.specs.Canonical.{canonical}
use Rattle.siri_ends.proofs.HangingUp.{post_each, turn_hangs_up}
use Rattle.siri_ends.proofs.hanging_up.a_producer_hangs_up_before_it_dials.Goals as goal

pub returns : goal.returns
returns c = λ asks name. turn_hangs_up PostsOut (serving name)
    (λ out outcome old now. post_each (target_of out.address) (canonical out.message) outcome old now) asks
