-- One subscription of a producer's history among others.
use Rattle.std.specs.Prelude.{◌≡◌, ℕ, Bool, ◌&&◌, List, [], ◌∷◌, ◌++◌, filter, flat_map, Option, Some, None, if◌then◌else◌}
use Rattle.std.specs.List.{list_any}
use Rattle.siri_records.specs.Keyed.{Items}
use Rattle.siri_messages.specs.Asked.{AskedFor}
use Rattle.siri_change.specs.Parts.{Carried}
use Rattle.siri_life.specs.Life.{Packet}
use Rattle.siri_life.specs.Named.{Name, first, those}
use Rattle.siri_life.specs.Network.{HaveRoom, is_own, opening, packets_of}
use Rattle.siri_life.specs.Serving.{Act, opening_serving, serving_letters}
use Rattle.siri_model.specs.History.{Entry, Step, Start, History, current}
use Rattle.siri_model.specs.Lives.{Living, acts_of, is_settle, life_of}
use Rattle.siri_model.specs.Meaning.{direct_of, meaning}
use Rattle.siri_model.specs.Rows.{row_of}
use Rattle.siri_subscriptions.specs.declared.outs.Out.{Out}
use Rattle.siri_subscriptions.specs.Sends.{At, row_sends}
use Rattle.siri_producer.specs.Sends.{at_of}

-- steps after a start, as each subscription hears them
abbrev pub acts_along : History → List (Act Carried AskedFor Entry)
acts_along steps = flat_map acts_of steps

-- a step is a moment, a feed or a settle, or a message that names this subscription
abbrev pub is_about : (subscriber identifier : Name) → Step → Bool
is_about subscriber identifier step = list_any (is_own meaning subscriber identifier) (acts_of step)

-- the steps without those that name only other subscriptions, and bring no entries
abbrev pub own_steps : (subscriber identifier : Name) → History → History
own_steps subscriber identifier steps = filter (is_about subscriber identifier) steps

-- of settles that stand right after each other one is left
abbrev pub once_settled : History → History
once_settled [] = []
once_settled (step ∷ steps) = if is_settle (Some step) && is_settle (first steps) then once_settled steps else step ∷ once_settled steps

-- the steps without those that name only other subscriptions, and bring no entries, and without the settle right after such
-- a step where one stands right before it
abbrev pub steps_left : (subscriber identifier : Name) → History → History
steps_left subscriber identifier steps = once_settled (own_steps subscriber identifier steps)

-- there is no further start
abbrev pub HasNoStart : History → Type 0
HasNoStart [] = Unit {0}
HasNoStart (Start number moment ∷ steps) = ⊥
HasNoStart (step ∷ steps) = HasNoStart steps

-- along these steps after a start a full table turns away no request for a subscription
abbrev pub HasRoomFor : (subscriber identifier : Name) → (number moment : ℕ) → History → Type 0
HasRoomFor subscriber identifier number moment steps = HaveRoom meaning subscriber identifier (acts_along steps) (opening meaning number moment)

-- what is sent of a subscription along these steps after a start, in order
abbrev pub packets_along : (subscriber identifier : Name) → (number moment : ℕ) → History → List (Packet Carried AskedFor)
packets_along subscriber identifier number moment steps =
    packets_of meaning (those subscriber identifier (serving_letters meaning (acts_along steps) (opening_serving meaning number moment)))

-- what a producer sends of a life at a settle, if there is one
abbrev pub life_sends : At → Items → Option Living → List Out
life_sends at items None = []
life_sends at items (Some life) = row_sends at items (row_of life)

-- what a producer of a name sends of a subscription at a settle after a history: the message of the wanted part, where one is
-- due after a look, and then a heartbeat, where one is due
abbrev pub sends_of : (name subscriber identifier : Name) → History → List Out
sends_of name subscriber identifier history = life_sends (at_of name history) (current history) (life_of subscriber identifier history)

-- and at each settle of some steps after a history, in order
abbrev pub sends_along : (name subscriber identifier : Name) → (history steps : History) → List Out
sends_along name subscriber identifier history [] = []
sends_along name subscriber identifier history (step ∷ steps) =
    (if is_settle (Some step) then sends_of name subscriber identifier history else [])
    ++ sends_along name subscriber identifier (history ++ step ∷ []) steps

-- to a subscription some steps after a start are as good as others: its life is the same, with each of its rounds and when
-- it opened, the same packets are sent of it, at the settles the same messages with its heartbeats among them, and each
-- direct response is the same
pub record IsAlike (subscriber identifier : Name) (number moment : ℕ) (one other : History) : Type 0 where
  pub life : life_of subscriber identifier (Start number moment ∷ one) ≡ life_of subscriber identifier (Start number moment ∷ other)
  pub sent : packets_along subscriber identifier number moment one ≡ packets_along subscriber identifier number moment other
  pub sends : (name : Name) → sends_along name subscriber identifier
      (Start number moment ∷ []) one ≡ sends_along name subscriber identifier (Start number moment ∷ []) other
  pub direct : (wanted : AskedFor) → direct_of (Start number moment ∷ one) wanted ≡ direct_of (Start number moment ∷ other) wanted
