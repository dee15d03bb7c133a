-- What a relay does with a message, by whatever it stands for.
use Rattle.std.proofs.Common.{◌≡◌, ℕ, Bool, false, List, [], ◌∷◌, ◌++◌, Option, None, Some, Result, Ok, Err, OnOk, refl, sym, ap, ◌∙◌, subst}
use Rattle.std.specs.Prelude.{if◌then◌else◌}
use Rattle.siri_outside.specs.Wires.{WireState}
use Rattle.siri_http.specs.declared.tally.Tally.{Tally}
use Rattle.siri_http.specs.declared.asked.Asked.{Asked}
use Rattle.siri_messages.specs.declared.message.Message.{Message}
use Rattle.siri_model.specs.History.{History, Settle}
use Rattle.siri_producer.specs.Answers.{answer_to}
use Rattle.siri_producer.specs.Known.{StandsFor}
use Rattle.siri_producer.specs.Sends.{sends}
use Rattle.siri_producer.specs.declared.answers.Answer.{Answer}
use Rattle.siri_view.specs.Consuming.{seen_of}
use Rattle.siri_view.specs.declared.outcome.Seen.{Seen}
use Rattle.siri_relay.specs.declared.answers.RelayAnswer.TheVariants as answer
use Rattle.siri_relay.specs.Feeds.{has_room}
use Rattle.siri_relay.specs.Goes.{GoesBy}
use Rattle.siri_relay.specs.Relaying.{KnownRelay, UpperSide, consumer_after, is_up, message_steps, missing_steps, take_steps, upper_after, upper_of, view_in, view_of}
use Rattle.siri_relay.specs.Taken.{AnswersFor}
use Rattle.siri_ends.specs.At.{Goes, HoldingAny, at_of}
use Rattle.siri_ends.specs.Consuming.{first_of, further_of}
use Rattle.siri_ends.specs.EndCalls.{Turned}
use Rattle.siri_ends.specs.EndCalls as end
use Rattle.siri_ends.specs.Responses.{message_asked, replying, responding}
use Rattle.siri_ends.specs.declared.response.Response.{Response}
use Rattle.siri_relay_run.specs.declared.going.Going.{Going}
use Rattle.siri_relay_run.specs.declared.taking.RelayTaker.{RelayTaker}
use Rattle.siri_relay_run.specs.Relays.{Relaying, after_taking, all_up, consumer_replies, further_up, goings, heard_of, producer_answer, relay_reply, relaying, SendsGoings, settled}
use Rattle.siri_relay_run.specs.Steps.{Hears, Stands, RelayTakes, name_of}

-- ---- a message was taken

-- what it has beside its producer then
upper_is : (old new : KnownRelay) (m : Message) → new.consumer ≡ consumer_after old.consumer m → new.level ≡ has_room (view_of new)
    → new.fed ≡ view_of new → new.upstream ≡ old.upstream → upper_of new ≡ upper_after (upper_of old) m
upper_is old new m consumer level fed upstream =
    let view : view_of new ≡ view_in old.upstream (consumer_after old.consumer m) = λ i. view_in (upstream i) (consumer i) in
    λ i. record { consumer = consumer i; upstream = upstream i; fed = (fed ∙ view) i; level = (level ∙ ap has_room view) i }

pub takes : (old new : KnownRelay) (m : Message) → GoesBy old.producer new.producer (take_steps old m)
    → new.consumer ≡ consumer_after old.consumer m → new.level ≡ has_room (view_of new) → new.fed ≡ view_of new
    → new.upstream ≡ old.upstream → RelayTakes old new (Some m)
takes old new m goes consumer level fed upstream = record {
  name = goes.name;
  stands = λ s so. record {
    history = subst (λ (u : UpperSide). StandsFor new.producer (s.history ++ message_steps u m)) (sym so.upper) (goes.stands s.history so.history);
    upper = ap (λ (u : UpperSide). upper_after u m) so.upper ∙ sym (upper_is old new m consumer level fed upstream);
  };
}

takes_nothing : (relay : KnownRelay) → RelayTakes relay relay None
takes_nothing relay = record { name = refl; stands = λ s so. so }

-- ---- what is answered

-- by its consumer
up_replies : (old : KnownRelay) (m : Message) (seen : Seen) (s : Relaying) → AnswersFor old m (answer.Up seen) → Stands old s
    → seen.replies ≡ consumer_replies s m
up_replies old m seen s is so =
    ap (λ (x : Seen). x.replies) is.1 ∙ ap (λ (u : UpperSide). (seen_of u.consumer m).replies) (sym so.upper)

pub up_response : (old : KnownRelay) (m : Message) (seen : Seen) (response : Option Response) → AnswersFor old m (answer.Up seen)
    → response ≡ Some (replying (first_of seen.replies))
    → (s : Relaying) → Stands old s → response ≡ Some (replying (relay_reply (name_of old) s m))
up_response old m seen response is made s so =
    made
    ∙ ap (λ (replies : List Message). Some (replying (first_of replies))) (up_replies old m seen s is so)
    ∙ ap (λ (up : Bool). Some (replying (if up then first_of (consumer_replies s m) else producer_answer (name_of old) s m))) (sym is.0)

pub up_further : (old : KnownRelay) (m : Message) (seen : Seen) (further : List Message) → AnswersFor old m (answer.Up seen)
    → further ≡ further_of seen.replies → (s : Relaying) → Stands old s → further ≡ further_up s (Some m)
up_further old m seen further is left s so =
    left
    ∙ ap further_of (up_replies old m seen s is so)
    ∙ ap (λ (up : Bool). if up then further_of (consumer_replies s m) else []) (sym is.0)

pub up_all : (old : KnownRelay) (m : Message) (seen : Seen) → AnswersFor old m (answer.Up seen) → (s : Relaying) → Stands old s
    → seen.replies ≡ all_up s m
up_all old m seen is s so =
    up_replies old m seen s is so ∙ ap (λ (up : Bool). if up then consumer_replies s m else []) (sym is.0)

-- by its producer
pub down_response : (old : KnownRelay) (m : Message) (given : Answer) (response : Option Response) → AnswersFor old m (answer.Down given)
    → response ≡ Some (replying given.reply)
    → (s : Relaying) → Stands old s → response ≡ Some (replying (relay_reply (name_of old) s m))
down_response old m given response is made s so =
    made
    ∙ ap (λ (a : Answer). Some (replying a.reply)) (is.1 s.history so.history)
    ∙ ap (λ (u : UpperSide). Some (replying (answer_to (name_of old) (s.history ++ missing_steps u) m).reply)) (sym so.upper)
    ∙ ap (λ (up : Bool). Some (replying (if up then first_of (consumer_replies s m) else producer_answer (name_of old) s m))) (sym is.0)

none_up : (m : Message) (one : List Message) → is_up m ≡ false → [] ≡ (if is_up m then one else [])
none_up m one down = ap (λ (up : Bool). if up then one else []) (sym down)

pub down_further : (old : KnownRelay) (m : Message) (given : Answer) (further : List Message) → AnswersFor old m (answer.Down given)
    → further ≡ [] → (s : Relaying) → Stands old s → further ≡ further_up s (Some m)
down_further old m given further is none s so = none ∙ none_up m (further_of (consumer_replies s m)) is.0

pub down_all : (old : KnownRelay) (m : Message) (given : Answer) (up : List Message) → AnswersFor old m (answer.Down given)
    → up ≡ [] → (s : Relaying) → Stands old s → up ≡ all_up s m
down_all old m given up is none s so = none ∙ none_up m (consumer_replies s m) is.0

-- ---- and settled

settles : (taken last : KnownRelay) → GoesBy taken.producer last.producer (Settle ∷ []) → last ≡ record taken { producer = last.producer }
    → (s : Relaying) → Stands taken s → Stands last (settled s)
settles taken last goes rest s so = record {
  history = goes.stands s.history so.history;
  upper = so.upper ∙ sym (ap upper_of rest);
}

-- what a settle after a message sends, behind what goes up
sent : (first taken : KnownRelay) (message : Option Message) (up : List Message) (list : List Going)
    → RelayTakes first taken message
    → ((h : History) → StandsFor taken.producer h → list ≡ goings up (sends (name_of taken) h))
    → (s : Relaying) → Stands first s → list ≡ goings up (sends (name_of first) (after_taking s message).history)
sent first taken message up list takes is s so =
    is (after_taking s message).history (takes.stands s so).history
    ∙ ap (λ name. goings up (sends name (after_taking s message).history)) takes.name

same_name : (taken last : KnownRelay) → GoesBy taken.producer last.producer (Settle ∷ []) → name_of last ≡ name_of taken
same_name taken last goes = goes.name

-- ---- what is heard

pub hears : (first taken last : KnownRelay) (m : Message) (up : List Message) (list : List Going) → RelayTakes first taken (Some m)
    → ((s : Relaying) → Stands first s → up ≡ all_up s m)
    → GoesBy taken.producer last.producer (Settle ∷ []) → last ≡ record taken { producer = last.producer }
    → ((h : History) → StandsFor taken.producer h → list ≡ goings up (sends (name_of taken) h))
    → Hears first last (Some m) list
hears first taken last m up list takes all goes rest is = record {
  name = same_name taken last goes ∙ takes.name;
  stands = λ s so. settles taken last goes rest (after_taking s (Some m)) (takes.stands s so);
  list_is = λ s so.
      sent first taken (Some m) up list takes is s so
      ∙ ap (λ (l : List Message). goings l (sends (name_of first) (after_taking s (Some m)).history)) (all s so);
}

pub hears_nothing : (relay : KnownRelay) → Hears relay relay None []
hears_nothing relay = record { name = refl; stands = λ s so. so; list_is = λ s so. refl }

-- ---- as an end

abbrev kept : RelayTaker → List ℕ
kept taker = name_of taker.relay

abbrev stands : RelayTaker → Relaying → Type 0
stands taker state = Stands taker.relay state

-- nothing stands beside it
abbrev pub holds : RelayTaker → Unit {0} → Relaying → Type 0
holds taker beside state = Unit {0}

abbrev IsReply : List ℕ → Option Response → Relaying → Option Response → Type 0
IsReply name reply state response = response ≡ reply

-- it went through the turn of a connection
pub turned : (asked : Asked) (first last : RelayTaker) (taken : KnownRelay) (response : Option Response) (further : List Message)
    (list : List Going) → RelayTakes first.relay taken (message_asked asked)
    → ((s : Relaying) → Stands first.relay s → response ≡ responding (relay_reply (name_of first.relay) s) asked)
    → ((s : Relaying) → Stands first.relay s → further ≡ further_up s (message_asked asked))
    → GoesBy taken.producer last.relay.producer (Settle ∷ []) → last.relay ≡ record taken { producer = last.relay.producer }
    → ((h : History) → StandsFor taken.producer h → list ≡ goings further (sends (name_of taken) h))
    → Turned kept stands relaying IsReply asked list response first last
turned asked first last taken response further list takes made left goes rest is = record {
  keeps = same_name taken last.relay goes ∙ takes.name;
  stands_for = λ s so. settles taken last.relay goes rest (after_taking s (message_asked asked)) (takes.stands s so);
  messages_are = λ s so.
      sent first.relay taken (message_asked asked) further list takes is s so
      ∙ ap (λ (l : List Message). goings l (sends (name_of first.relay) (after_taking s (message_asked asked)).history)) (left s so);
  reply_is = λ s so. sym (made s so);
}

-- it heard a message that was answered to one that it sent
pub heard : (first last : RelayTaker) (going : Going) (m : Message) (list : List Going)
    → Hears first.relay last.relay (heard_of going m) list → end.Hears kept stands holds relaying going (Some m) list first last
heard first last going m list hears = record {
  keeps = hears.name;
  stands_for = hears.stands;
  holds_for = λ beside s so holding. tt;
  more_are = hears.list_is;
}

-- and messages that it sends at first
pub sends_first : {T E : Type 0} (result : Result T E) (host path : List ℕ) (list : List Going) (old new : RelayTaker)
    (was is : Tally) (before after : Option WireState) (f g : ℕ)
    → OnOk result (Goes kept stands (λ name. HoldingAny holds (SendsGoings host path name list) old new) (at_of old was before f)
    (at_of new is after g))
    → OnOk result (Goes name_of Stands (λ name. SendsGoings host path name list) (at_of old.relay was before f)
    (at_of new.relay is after g))
sends_first (Ok value) host path list old new was is before after f g goes = record {
  keeps = goes.keeps;
  goes = λ s so. let one = goes.goes s so in (one.0, one.1, one.2.0);
}
sends_first (Err error) host path list old new was is before after f g goes = tt
