-- How many held items a producer may look at in a turn: how far the counter of its steps rises where it takes what a connection
-- brings, or hears what is answered to it, and settles.
use Rattle.std.specs.Prelude.{◌≡◌, ◌≤◌, ◌+◌, ◌*◌, ◌++◌, ℕ, length, Option, None, Some, if◌then◌else◌}
use Rattle.siri_records.specs.Keyed.{living}
use Rattle.siri_messages.specs.declared.message.Message.{Message}
use Rattle.siri_messages.specs.declared.message.Message.TheVariants as message
use Rattle.siri_model.specs.Followed.{followed_of, look_bounds}
use Rattle.siri_model.specs.History.{History, current, now_of}
use Rattle.siri_responder.specs.Topics.{topics_in}
use Rattle.siri_producer.specs.Known.{Follows, Known}
use Rattle.siri_producer.specs.Lent.{is_lent}
use Rattle.siri_ends.specs.Responses.{taking}

-- what a settle after a history may look at: the sum of what each subscription may
abbrev pub settle_looks : History → ℕ
settle_looks h = look_bounds (now_of h) (living (now_of h) (current h)) (followed_of h)

-- What making the reply to a message may look at, where so many items are held: of a request for items each of them, for each of its
-- topics. Where its answer is lent nothing is made: that is written after the settle.
abbrev pub reply_looks : (held : ℕ) → Message → ℕ
reply_looks held (message.ServiceRequest request) = if is_lent request then 0 else held * topics_in request
reply_looks held other = 0

-- the same where there may be no message
abbrev pub reply_looks_of : (held : ℕ) → Option Message → ℕ
reply_looks_of held None = 0
reply_looks_of held (Some message) = reply_looks held message

-- A message is taken, where there is one, and then the producer settles, once; or memory was wanting for it. The counter never falls,
-- and whatever history the producer followed, it rises by at most what the reply and a settle after the message may look at.
pub record LooksOnce (old new : Known) (message : Option Message) : Type 0 where
  pub risen : old.responder.reads ≤ new.responder.reads
  pub bound : (h : History) → Follows old h
      → new.responder.reads
      ≤ old.responder.reads + reply_looks_of (length old.responder.held) message + settle_looks (h ++ taking message)

-- so it is where a message is heard that is taken; where none is, the counter stays
abbrev pub LooksHearing : Known → Known → Option Message → Type 0
LooksHearing old new None = new.responder.reads ≡ old.responder.reads
LooksHearing old new (Some message) = LooksOnce old new (Some message)

-- ---- inner words, cited by private functions alone

-- before the settle: the counter has risen by at most what the reply may look at
pub record LooksToReply (old taken : Known) (message : Option Message) : Type 0 where
  pub risen : old.responder.reads ≤ taken.responder.reads
  pub few : taken.responder.reads ≤ old.responder.reads + reply_looks_of (length old.responder.held) message

-- Whatever history the producer followed, it follows one now after which a settle may look at as much as after that one with the
-- message. (A request that is answered directly wasn't taken.)
abbrev pub FollowsAlike : Known → Known → Option Message → Type 0
FollowsAlike old taken message =
    (h : History) → Follows old h
    → (after : History) × Follows taken after × (settle_looks after ≡ settle_looks (h ++ taking message))
