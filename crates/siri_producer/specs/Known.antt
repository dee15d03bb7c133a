-- What a producer knows, and the histories that it stands for.
use Rattle.std.specs.Prelude.{◌≡◌, ℕ, List, ◌∷◌, [], ◌++◌, map, take, Bool, true, false, Option, Result, IfOk, OnOk, OnErr}
use Rattle.siri_base.specs.declared.errors.OutOfMemory.{OutOfMemory}
use Rattle.siri_messages.specs.declared.deliveries.ServiceDelivery.{ServiceDelivery}
use Rattle.siri_messages.specs.declared.message.Message.{Message}
use Rattle.siri_messages.specs.declared.requests.ServiceRequest.{ServiceRequest}
use Rattle.siri_subs.specs.declared.entry.Row.{Row}
use Rattle.siri_model.specs.Direct.{response}
use Rattle.siri_model.specs.Fed.{counts_of}
use Rattle.siri_model.specs.Followed.{Look, followed_of}
use Rattle.siri_model.specs.Remembered.{AreRemembered}
use Rattle.siri_model.specs.History.{Entry, Feed, Take, History, Step, entries_fed, now_of, current}
use Rattle.siri_model.specs.Lives.{table_of, is_settled}
use Rattle.siri_model.specs.Rows.{KeptLife, rows_of}
use Rattle.siri_responder.specs.declared.feeding.Fed.{Fed}
use Rattle.siri_responder.specs.FedCounts.{fed_counts}
use Rattle.siri_responder.specs.Known as responder
use Rattle.siri_subscriptions.specs.declared.outs.Out.{Out}
use Rattle.siri_producer.specs.declared.answers.Answer.{Answer}
use Rattle.siri_producer.specs.Answers.{answer_to, is_feed}
use Rattle.siri_producer.specs.Sends.{sends}

-- what its responder knows, the rows of its subscriptions in order of first acceptance, in the same order the last look at
-- each of them and the number under which keys were marked from then on, and whether it settled last
pub record Known : Type 0 where
  pub responder : responder.Known
  pub table : List (Row KeptLife)
  pub looks : List (Option Look)
  pub numbers : List (Option ℕ)
  pub is_settled : Bool

-- a producer stands for a history where its responder does, its rows are those of the history's lives, and it knows whether
-- the last step is a settle
pub record StandsFor (known : Known) (history : History) : Type 0 where
  pub responder : responder.StandsFor known.responder history
  pub table : known.table ≡ rows_of (table_of history)
  pub settled : known.is_settled ≡ is_settled history

-- the last look at each subscription of a history, none before the first
abbrev pub looks_of : History → List (Option Look)
looks_of history = map (λ row. row.slot.look) (followed_of history)

-- a producer follows a history that it stands for where it also remembers the last look at each subscription: its moment, the
-- keys that were touched since then, and those that are kept apart; or where it let it go, as it may once so many were touched
pub record Follows (known : Known) (history : History) : Type 0 where
  pub stands : StandsFor known history
  pub looks : AreRemembered known.looks (looks_of history)

-- whatever history a producer stood for before a call, it stands for that history and one more step after it, and so it
-- follows that one where it followed it before
pub record GoesOn (old new : Known) (step : Step) : Type 0 where
  pub stands : (h : History) → StandsFor old h → StandsFor new (h ++ step ∷ [])
  pub follows : (h : History) → Follows old h → Follows new (h ++ step ∷ [])

-- some first entries of a feed were taken, and no other
abbrev pub TookSome : Known → Known → List Entry → Type 0
TookSome old new entries = (n : ℕ) × GoesOn old new (Feed (take n entries))

-- nothing changed but the counter of steps
abbrev pub SameButReads : Known → Known → Type 0
SameButReads old new = new ≡ record old { responder = record old.responder { reads = new.responder.reads } }

-- memory was wanting for a message: of a feed some first entries were taken, of any other message nothing changed but the
-- counter of steps
abbrev pub RefusedIf : (feeds : Bool) → Known → Known → Message → Type 0
RefusedIf true old new message = TookSome old new (entries_fed message)
RefusedIf false old new message = SameButReads old new

abbrev pub RefusedAt : Known → Known → Message → Type 0
RefusedAt old new message = RefusedIf (is_feed message) old new message

-- ---- what is answered, by every history that a producer stands for

-- what is told of a feed are the counts
abbrev pub CountsFor : Known → List Entry → Fed → Type 0
CountsFor old entries fed = (h : History) → StandsFor old h → fed ≡ fed_counts (counts_of (now_of h) (current h) entries)

-- a delivery is the response, under its name
abbrev pub ResponseFor : Known → ServiceRequest → ServiceDelivery → Type 0
ResponseFor known request delivery = (h : History) → StandsFor known h → delivery ≡ response known.responder.name (now_of h) (current h) request

-- a message that is taken gets its answer
abbrev pub AnswerFor : Known → Message → Answer → Type 0
AnswerFor known message answer = (h : History) → StandsFor known h → answer ≡ answer_to known.responder.name h message

-- what is sent at a settle
abbrev pub SendsFor : Known → List Out → Type 0
SendsFor known outs = (h : History) → StandsFor known h → outs ≡ sends known.responder.name h

-- ---- what a message does

-- a producer takes a message with this result: where it answers, it stands for whatever it stood for and the message after it,
-- and the answer is the one by that history; where memory was wanting, it refuses the message; its name stays
pub record TakesMessage (old new : Known) (message : Message) (result : Result Answer OutOfMemory) : Type 0 where
  pub ok : OnOk result (GoesOn old new (Take message))
  pub answer : IfOk result (AnswerFor old message)
  pub err : OnErr result (RefusedAt old new message)
  pub name : new.responder.name ≡ old.responder.name
