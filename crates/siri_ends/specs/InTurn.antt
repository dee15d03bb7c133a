-- Messages that are sent one after the other, where what is answered to one may bring further ones (EN 15531-2).
use Rattle.std.specs.Prelude.{◌≡◌, ◌⊎◌, ℕ, zero, suc, List, [], ◌∷◌, ◌++◌, length, Option, None, Some}
use Rattle.siri_outside.specs.Wires.{WireState}
use Rattle.siri_http.specs.ExchangeCauses.{HasSentCause}
use Rattle.siri_http.specs.Tallies.{with_unsent}
use Rattle.siri_http.specs.declared.posting.Sent.{Sent}
use Rattle.siri_http.specs.declared.posting.Sent.TheVariants as sent
use Rattle.siri_http.specs.declared.tally.Tally.{Tally}
use Rattle.siri_ends.specs.At.{At}
use Rattle.siri_ends.specs.Manners.{Manner, Posting, after_hearing, brings_of, message_answered}

-- a message that wasn't answered with status 200 is unsent
abbrev pub tally_after : Sent → Tally → Tally
tally_after (sent.Accepted body) tally = tally
tally_after other tally = with_unsent 1 tally

-- one message is sent: this became of it, and the message that was answered is heard
pub record SendsOne {State M : Type 0} (Posts : Posting M) (manner : Manner State M) (message : M) (outcome : Sent) (at next : At State)
    : Type 0 where
  pub told : Posts message (Some outcome) at.wire next.wire
  pub cause : HasSentCause at.faults next.faults (Some outcome)
  pub state : next.state ≡ after_hearing manner message (message_answered outcome) at.state
  pub tally : next.tally ≡ tally_after outcome at.tally

-- They are sent in their order, and what an answer brings joins the end. Of more than so many the rest are unsent.
unfoldable pub InTurn : {State M : Type 0} → Posting M → Manner State M → (limit : ℕ) → List M → At State → At State → Type 0
InTurn Posts manner zero list at end = end ≡ record at { tally = with_unsent (length list) at.tally }
InTurn Posts manner (suc limit) [] at end = end ≡ at
InTurn Posts manner (suc limit) (first ∷ rest) at end =
    (outcome : Sent) × (next : At _) × SendsOne Posts manner first outcome at next
    × InTurn Posts manner limit (rest ++ brings_of manner first (message_answered outcome) at.state) next end

-- Where memory was wanting, the first of them were sent, and of the next one the first steps were made.
unfoldable pub FirstInTurn : {State M : Type 0} → Posting M → Manner State M → (limit : ℕ) → List M → State
    → (before now : Option WireState) → Type 0
FirstInTurn Posts manner zero list state before now = now ≡ before
FirstInTurn Posts manner (suc limit) [] state before now = now ≡ before
FirstInTurn Posts manner (suc limit) (first ∷ rest) state before now =
    Posts first None before now
    ⊎ ((outcome : Sent) × (next : Option WireState) × Posts first (Some outcome) before next
    × FirstInTurn Posts manner limit (rest ++ brings_of manner first (message_answered outcome) state)
    (after_hearing manner first (message_answered outcome) state) next now)

-- the most messages that one turn sends
abbrev pub most_sends : ℕ
most_sends = 100000

-- the messages of one turn
abbrev pub SendsAll : {State M : Type 0} → Posting M → Manner State M → List M → (at end : At State) → Type 0
SendsAll Posts manner list at end = InTurn Posts manner most_sends list at end

abbrev pub FirstSends : {State M : Type 0} → Posting M → Manner State M → List M → State → (before now : Option WireState) → Type 0
FirstSends Posts manner list state before now = FirstInTurn Posts manner most_sends list state before now
