-- What the calls of an end do in a turn, whatever state it stands for.
use Rattle.std.specs.Prelude.{◌≡◌, ◌⊎◌, List, Option, None, Some}
use Rattle.siri_outside.specs.Wires.{WireState}
use Rattle.siri_messages.specs.declared.message.Message.{Message}
use Rattle.siri_http.specs.ExchangeCauses.{HasSentCause}
use Rattle.siri_http.specs.declared.asked.Asked.{Asked}
use Rattle.siri_http.specs.declared.posting.Sent.{Sent}
use Rattle.siri_ends.specs.declared.response.Response.{Response}
use Rattle.siri_ends.specs.Answering.{AnswersWith, StopsWriting}
use Rattle.siri_ends.specs.At.{At, around}
use Rattle.siri_ends.specs.InTurn.{tally_after}
use Rattle.siri_ends.specs.Manners.{Manner, Posting, after_hearing, brings_of, message_answered}

-- An end went through the turn of a connection that asks this: these messages are to be sent, and the reply is what the
-- connection is answered.
pub record Turned {Own Identity State M R : Type 0} (identity : Own → Identity) (stands : Own → State → Type 0)
    (manner : Identity → Manner State M) (IsReply : Identity → R → State → Option Response → Type 0) (asked : Asked)
    (messages : List M) (reply : R) (first last : Own) : Type 0 where
  pub keeps : identity last ≡ identity first
  pub stands_for : (s : State) → stands first s → stands last ((manner (identity first)).after s asked)
  pub messages_are : (s : State) → stands first s → messages ≡ (manner (identity first)).sends s asked
  pub reply_is : (s : State) → stands first s
      → IsReply (identity first) reply ((manner (identity first)).after s asked) ((manner (identity first)).responds s asked)

-- An end heard a message that was answered to this one, where there is one, and these are more to be sent. Whatever stands
-- beside it is as the end left it, where it was so before.
pub record Hears {Own Beside Identity State M : Type 0} (identity : Own → Identity) (stands : Own → State → Type 0)
    (holds : Own → Beside → State → Type 0) (manner : Identity → Manner State M) (sent : M) (message : Option Message)
    (more : List M) (old new : Own) : Type 0 where
  pub keeps : identity new ≡ identity old
  pub stands_for : (s : State) → stands old s → stands new (after_hearing (manner (identity old)) sent message s)
  pub holds_for : (beside : Beside) (s : State) → stands old s → holds old beside s
      → holds new beside (after_hearing (manner (identity old)) sent message s)
  pub more_are : (s : State) → stands old s → more ≡ brings_of (manner (identity old)) sent message s

-- a message is sent, what is answered is heard, and these are more to be sent
pub record SendsNext {Own Beside Identity State M : Type 0} (identity : Own → Identity) (stands : Own → State → Type 0)
    (holds : Own → Beside → State → Type 0) (Posts : Posting M) (manner : Identity → Manner State M) (message : M) (more : List M)
    (old new : At Own) : Type 0 where
  pub outcome : Sent
  pub told : Posts message (Some outcome) old.wire new.wire
  pub cause : HasSentCause old.faults new.faults (Some outcome)
  pub tally : new.tally ≡ tally_after outcome old.tally
  pub hears : Hears identity stands holds manner message (message_answered outcome) more old.state new.state

-- an end answered a connection that asks this, and these messages are to be sent
pub record AnswersAsked {Own Identity State M : Type 0} (identity : Own → Identity) (stands : Own → State → Type 0)
    (manner : Identity → Manner State M) (asked : Asked) (list : List M) (old new : At Own) : Type 0 where
  pub keeps : identity new.state ≡ identity old.state
  pub stands_for : (s : State) → stands old.state s → stands new.state ((manner (identity old.state)).after s asked)
  pub list_is : (s : State) → stands old.state s → list ≡ (manner (identity old.state)).sends s asked
  pub answers : (s : State) → stands old.state s
      → AnswersWith ((manner (identity old.state)).responds s asked) (around old) (around new)

-- ---- where memory was wanting

-- nothing was written of a response, or a front of it
abbrev pub StopsAsked : Option Response → (before after : Option WireState) → Type 0
StopsAsked response before after = (after ≡ before) ⊎ StopsWriting response before after

-- an exchange was made whole, or its first steps
abbrev pub StopsAt : (Posts : Option Sent → (before after : Option WireState) → Type 0)
    → (before after : Option WireState) → Type 0
StopsAt Posts before after = Posts None before after ⊎ ((outcome : Sent) × Posts (Some outcome) before after)
