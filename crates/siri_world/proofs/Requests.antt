-- What the consumers did, as the effect of an event.
use Rattle.std.proofs.Common.{◌≡◌, ℕ, ℤ, List, [], ◌∷◌, Bool, true, false, Option, None, Some, Result, Ok, Err, refl, ap, ◌∙◌, sym, subst}
use Rattle.std.specs.Prelude.{nat_lt}
use Rattle.siri_topic.specs.declared.subscription.Subscription.{Subscription}
use Rattle.siri_messages.specs.declared.message.Message.{Message}
use Rattle.siri_change.specs.Parts.{Carried}
use Rattle.siri_life.specs.Life.{Mark}
use Rattle.siri_life.specs.Named.{Name}
use Rattle.siri_base.specs.Numbers.{greatest_number}
use Rattle.siri_view.specs.Consuming.{Consuming, kept_for, after_delivery, after_heard, after_message, after_restart}
use Rattle.siri_view.specs.Consuming.{after_subscribe, after_terminate}
use Rattle.siri_view.specs.Consuming.{request_for, restart_requests, seen_of, termination_of}
use Rattle.siri_view.specs.Hearing.{Heard, Delivered, Notified, Noted, Foreign, heard}
use Rattle.siri_view.specs.Kept.{HeldSubscription, kept_of}
use Rattle.siri_view.specs.Sending.{check_request}
use Rattle.siri_view.specs.declared.outcome.Seen.{Seen}
use Rattle.siri_view.specs.declared.outcome.AskError.{AskError}
use Rattle.siri_view.specs.declared.outcome.AskError.TheVariants as ask_error
use Rattle.siri_world_model.specs.declared.word.Word.TheVariants as word
use Rattle.siri_world_model.specs.Consumers.{consumer_of, consumer_or_new, with_consumer}
use Rattle.siri_world_model.specs.Lines as line
use Rattle.siri_world_model.specs.Lines.{ToldLine, told_lines}
use Rattle.siri_world_model.specs.Packets.{SentPacket, ToConsumer, packet_at, packets_from}
use Rattle.siri_world_model.specs.World.{World}
use Rattle.siri_world_model.specs.Effects.{lacks_numbers, restarted, restarted_if}
use Rattle.siri_world_model.specs.Effects.{tells, sent_by, ask_refusal, subscribed_if, subscribed, terminated_if, terminated, checked, delivered, taken_if}
use Rattle.siri_world.specs.declared.happened.Happened.{Happened}
use Rattle.siri_world.specs.Asking.{AreTold, MakesRequest, IsEnded, IsTold, Restarts, ConsumerTakes, ending_refusal}
use Rattle.siri_world.specs.Asking.{termination_refusal}
use Rattle.siri_world.specs.Doing.{Does}
use Rattle.siri_world.specs.Kept.{sent_packets}
use Rattle.siri_world.specs.Known.{Known, Knows}
use Rattle.siri_world.specs.Places.{IsAt}
use Rattle.siri_world.proofs.Found.{at_consumer, at_name, found_name, with_found, with_twice}

-- ---- nothing or one consumer changed

-- the consumers are these now
knows_with : (old new : Known) (w : World) (cs : List Consuming) → Knows old w → new ≡ record old { consumers = cs }
    → (all : List Consuming) → cs ≡ all → Knows new (record w { consumers = all })
knows_with old new w cs k is all same = subst (λ (known_new : Known). Knows known_new (record w { consumers = all })) (sym is) (record {
  moment = k.moment;
  starts = k.starts;
  producer = k.producer;
  consumers = same;
  packets = k.packets;
})

sent_does : (old new : Known) (w : World) (c : Consuming) (lines : List ToldLine) (messages : List Message)
    (cs : List Consuming) (happened : Happened) → Knows old w → new ≡ record old { consumers = cs }
    → cs ≡ with_consumer c w.consumers → told_lines happened.lines ≡ lines
    → sent_packets happened.packets ≡ packets_from c.name messages → Does (sent_by w c lines messages) happened new
sent_does old new w c lines messages cs happened k is same told sent = record {
  lines = told;
  packets = sent;
  world = knows_with old new w cs k is (with_consumer c w.consumers) same;
}

-- ---- a subscription is asked for

refused_does : (old new : Known) (w : World) (c : Consuming) (why : AskError) (wanted : Subscription) (beat : ℤ)
    (cs : List Consuming) (happened : Happened) → Knows old w → new ≡ record old { consumers = cs }
    → cs ≡ with_consumer c w.consumers → ask_refusal c wanted ≡ Some why
    → (told_lines happened.lines ≡ line.Refused c.name why ∷ []) × (happened.packets ≡ []) → Does (subscribed w c wanted beat) happened new
refused_does old new w c why wanted beat cs happened k is same refusal told =
    subst (λ r. Does (subscribed_if r w c wanted beat) happened new) (sym refusal)
    (sent_does old new w c (line.Refused c.name why ∷ []) [] cs happened k is same told.0 (ap sent_packets told.1))

-- where the consumer of the name, or a new one, was put before
asked_does : (old new : Known) (w : World) (c : Consuming) (wanted : Subscription) (beat : ℤ) (cs : List Consuming)
    (result : Result Message AskError) (happened : Happened) → Knows old w → new ≡ record old { consumers = cs }
    → MakesRequest (ask_refusal c wanted) (request_for c (wanted ∷ []) beat) (after_subscribe c (wanted ∷ []) beat)
    (with_consumer c w.consumers) result cs → IsTold c.name result happened
    → Does (subscribed w c wanted beat) happened new
asked_does old new w c wanted beat cs (Ok made) happened k is asks told =
    subst (λ r. Does (subscribed_if r w c wanted beat) happened new) (sym asks.0)
    (sent_does old new w (after_subscribe c (wanted ∷ []) beat) [] (request_for c (wanted ∷ []) beat ∷ []) cs happened k is
    (asks.2 ∙ with_twice (after_subscribe c (wanted ∷ []) beat) c w.consumers refl)
    (ap told_lines told.0)
    (told.1 ∙ ap (λ m. packets_from c.name (m ∷ [])) asks.1))
asked_does old new w c wanted beat cs (Err ask_error.Spent) happened k is asks told =
    refused_does old new w c ask_error.Spent wanted beat cs happened k is asks.1 asks.0 told
asked_does old new w c wanted beat cs (Err ask_error.TooMany) happened k is asks told =
    refused_does old new w c ask_error.TooMany wanted beat cs happened k is asks.1 asks.0 told
asked_does old new w c wanted beat cs (Err ask_error.NotHeld) happened k is asks told =
    refused_does old new w c ask_error.NotHeld wanted beat cs happened k is asks.1 asks.0 told
asked_does old new w c wanted beat cs (Err ask_error.OutOfMemory) happened k is asks told = absurd told

pub subscribed_does : (old new : Known) (w : World) (name : Name) (place : ℕ) (wanted : Subscription) (beat : ℤ)
    (mid cs : List Consuming) (result : Result Message AskError) (happened : Happened) → Knows old w
    → new ≡ record old { consumers = cs }
    → mid ≡ with_consumer (consumer_or_new old.moment name (consumer_of name old.consumers)) old.consumers
    → IsAt name mid place (consumer_or_new old.moment name (consumer_of name old.consumers))
    → ((n : Name) (c : Consuming) → IsAt n mid place c → MakesRequest (ask_refusal c wanted) (request_for c (wanted ∷ []) beat)
    (after_subscribe c (wanted ∷ []) beat) mid result cs) → IsTold name result happened
    → Does (subscribed w (consumer_or_new w.moment name (consumer_of name w.consumers)) wanted beat) happened new
subscribed_does old new w name place wanted beat mid cs result happened k is made here asks told =
    let c : Consuming = consumer_or_new old.moment name (consumer_of name old.consumers) in
    let its : c.name ≡ name = at_name name mid place c here in
    let there : mid ≡ with_consumer c w.consumers = made ∙ ap (with_consumer c) k.consumers in
    let asked : MakesRequest (ask_refusal c wanted) (request_for c (wanted ∷ []) beat) (after_subscribe c (wanted ∷ []) beat) (with_consumer c w.consumers) result cs =
    subst (λ m. MakesRequest (ask_refusal c wanted) (request_for c (wanted ∷ []) beat) (after_subscribe c (wanted ∷ []) beat) m result cs) there (asks name c here) in
    let same : c ≡ consumer_or_new w.moment name (consumer_of name w.consumers) = λ i. consumer_or_new (k.moment i) name (consumer_of name (k.consumers i)) in
    subst (λ (d : Consuming). Does (subscribed w d wanted beat) happened new) same
    (asked_does old new w c wanted beat cs result happened k is asked (subst (λ n. IsTold n result happened) (sym its) told))

-- ---- a subscription is ended

-- by what is kept of it
ended_does : (old new : Known) (w : World) (c : Consuming) (identifier : Name) (kept : Option HeldSubscription)
    (spent : Bool) (cs : List Consuming) (result : Result Message AskError) (happened : Happened) → Knows old w
    → new ≡ record old { consumers = cs }
    → nat_lt greatest_number c.next_number ≡ spent → MakesRequest (ending_refusal c kept) (termination_of c identifier)
    (after_terminate c identifier) w.consumers result cs → IsTold c.name result happened
    → (result ≡ Err ask_error.NotHeld → ⊥) → Does (terminated_if w c identifier kept) happened new
ended_does old new w c identifier None spent cs (Ok made) happened k is few asks told held = absurd (cc)
ended_does old new w c identifier None spent cs (Err ask_error.Spent) happened k is few asks told held = absurd (cc)
ended_does old new w c identifier None spent cs (Err ask_error.TooMany) happened k is few asks told held = absurd (cc)
ended_does old new w c identifier None spent cs (Err ask_error.NotHeld) happened k is few asks told held = absurd (held refl)
ended_does old new w c identifier None spent cs (Err ask_error.OutOfMemory) happened k is few asks told held = absurd told
ended_does old new w c identifier (Some kept) true cs result happened k is few asks told held = rw few (by result (rw few at asks) told held)
  where
    by : (r : Result Message AskError) → MakesRequest (Some ask_error.Spent) (termination_of c identifier)
        (after_terminate c identifier) w.consumers r cs → IsTold c.name r happened → (r ≡ Err ask_error.NotHeld → ⊥)
        → Does (tells w (line.Refused c.name ask_error.Spent ∷ [])) happened new
    by (Ok made) asks told held = absurd (cc)
    by (Err ask_error.Spent) asks told held =
        record {
          lines = told.0;
          packets = ap sent_packets told.1;
          world = knows_with old new w cs k is w.consumers asks.1;
        }
    by (Err ask_error.TooMany) asks told held = absurd (cc)
    by (Err ask_error.NotHeld) asks told held = absurd (held refl)
    by (Err ask_error.OutOfMemory) asks told held = absurd told
ended_does old new w c identifier (Some kept) false cs result happened k is few asks told held = rw few (by result (rw few at asks) told)
  where
    by : (r : Result Message AskError) → MakesRequest None (termination_of c identifier)
        (after_terminate c identifier) w.consumers r cs → IsTold c.name r happened
        → Does (sent_by w (after_terminate c identifier) [] (termination_of c identifier ∷ [])) happened new
    by (Ok made) asks told =
        sent_does old new w (after_terminate c identifier) [] (termination_of c identifier ∷ []) cs happened k is asks.2
        (ap told_lines told.0) (told.1 ∙ ap (λ m. packets_from c.name (m ∷ [])) asks.1)
    by (Err ask_error.Spent) asks told = absurd (cc)
    by (Err ask_error.TooMany) asks told = absurd (cc)
    by (Err ask_error.NotHeld) asks told = absurd (cc)
    by (Err ask_error.OutOfMemory) asks told = absurd told

-- it isn't held
not_held : (c : Consuming) (kept : Option HeldSubscription) (spent : Bool)
    → nat_lt greatest_number c.next_number ≡ spent → ending_refusal c kept ≡ Some ask_error.NotHeld → kept ≡ None
not_held c None spent few is = refl
not_held c (Some kept) true few is = let here : ending_refusal c (Some kept) ≡ Some ask_error.Spent = rw few refl in absurd (cc)
not_held c (Some kept) false few is = let here : ending_refusal c (Some kept) ≡ None = rw few refl in absurd (cc)

module _ (old new : Known) (w : World) (name identifier : Name) (place : ℕ) (c : Consuming) (cs : List Consuming)
    (result : Result Message AskError) (k : Knows old w) (is : new ≡ record old { consumers = cs })
    (here : IsAt name old.consumers place c)
    (asks : (n : Name) (d : Consuming) → IsAt n old.consumers place d
    → MakesRequest (termination_refusal d identifier) (termination_of d identifier)
    (after_terminate d identifier) old.consumers result cs) where
  in_world : Some c ≡ consumer_of name w.consumers
  in_world = sym (at_consumer name old.consumers place c here) ∙ ap (consumer_of name) k.consumers

  asked_here : MakesRequest (termination_refusal c identifier) (termination_of c identifier) (after_terminate c identifier) w.consumers result cs
  asked_here = subst (λ m. MakesRequest (termination_refusal c identifier) (termination_of c identifier)
      (after_terminate c identifier) m result cs) k.consumers (asks name c here)

  its : c.name ≡ name
  its = at_name name old.consumers place c here

  pub terminated_does : (happened : Happened) → IsTold name result happened → (result ≡ Err ask_error.NotHeld → ⊥)
      → Does (terminated w name identifier (consumer_of name w.consumers)) happened new
  terminated_does happened told held =
      subst (λ (it : Option Consuming). Does (terminated w name identifier it) happened new) in_world
      (ended_does old new w c identifier (kept_of identifier c.held)
      (nat_lt greatest_number c.next_number) cs result happened k is refl asked_here
      (subst (λ n. IsTold n result happened) (sym its) told) held)

  pub unheld_does : (happened : Happened) → result ≡ Err ask_error.NotHeld
      → told_lines happened.lines ≡ line.Unknown name (Some identifier) ∷ [] → happened.packets ≡ []
      → Does (terminated w name identifier (consumer_of name w.consumers)) happened new
  unheld_does happened why lines none =
      let refused : MakesRequest (termination_refusal c identifier) (termination_of c identifier)
      (after_terminate c identifier) w.consumers (Err ask_error.NotHeld) cs =
      subst (λ r. MakesRequest (termination_refusal c identifier) (termination_of c identifier)
      (after_terminate c identifier) w.consumers r cs) why asked_here in
      let gone : kept_of identifier c.held ≡ None = not_held c (kept_of identifier c.held) (nat_lt greatest_number c.next_number) refl refused.0 in
      subst (λ (it : Option Consuming). Does (terminated w name identifier it) happened new) in_world
      (subst (λ kept. Does (terminated_if w c identifier kept) happened new) (sym gone)
      (record {
        lines = lines ∙ ap (λ n. line.Unknown n (Some identifier) ∷ []) (sym its);
        packets = ap sent_packets none;
        world = knows_with old new w cs k is w.consumers refused.1;
      }))

  -- whichever it is
  pub ends_does : (happened : Happened) → IsEnded name identifier result happened
      → Does (terminated w name identifier (consumer_of name w.consumers)) happened new
  ends_does happened ended = by result refl ended
    where
      by : (r : Result Message AskError) → result ≡ r → IsEnded name identifier r happened
          → Does (terminated w name identifier (consumer_of name w.consumers)) happened new
      by (Ok request) is ended = terminated_does happened (subst (λ r. IsTold name r happened) (sym is) ended)
          (λ why. let apart : Ok request ≡ Err ask_error.NotHeld = sym is ∙ why in absurd (cc))
      by (Err ask_error.Spent) is ended = terminated_does happened (subst (λ r. IsTold name r happened) (sym is) ended)
          (λ why. let apart : Err ask_error.Spent ≡ Err ask_error.NotHeld = sym is ∙ why in absurd (cc))
      by (Err ask_error.TooMany) is ended = terminated_does happened
          (subst (λ r. IsTold name r happened) (sym is) ended)
          (λ why. let apart : Err ask_error.TooMany ≡ Err ask_error.NotHeld = sym is ∙ why in absurd (cc))
      by (Err ask_error.NotHeld) is ended = unheld_does happened is ended.0 ended.1
      by (Err ask_error.OutOfMemory) is ended = absurd ended

-- ---- a restart

module _ (old new : Known) (w : World) (name : Name) (place : ℕ) (c : Consuming) (cs : List Consuming) (k : Knows old w)
    (is : new ≡ record old { consumers = cs }) (here : IsAt name old.consumers place c) where
  restarts_as : (result : Result (List Message) AskError) (happened : Happened) → Restarts c w.consumers result cs
      → AreTold c.name result happened → Does (restarted_if (lacks_numbers c) w c) happened new
  restarts_as (Ok made) happened asks told =
      subst (λ lacks. Does (restarted_if lacks w c) happened new) (sym asks.0)
      (sent_does old new w (after_restart c) [] (restart_requests c) cs happened k is asks.2 (ap told_lines told.0)
      (told.1 ∙ ap (packets_from c.name) asks.1))
  restarts_as (Err ask_error.Spent) happened asks told =
      subst (λ lacks. Does (restarted_if lacks w c) happened new) (sym asks.0)
      (record {
        lines = told.0;
        packets = ap sent_packets told.1;
        world = knows_with old new w cs k is w.consumers
            asks.1;
      })
  restarts_as (Err ask_error.TooMany) happened asks told = absurd asks
  restarts_as (Err ask_error.NotHeld) happened asks told = absurd asks
  restarts_as (Err ask_error.OutOfMemory) happened asks told = absurd told

  pub restarts_does : (result : Result (List Message) AskError)
      → ((n : Name) (d : Consuming) → IsAt n old.consumers place d → Restarts d old.consumers result cs)
      → (happened : Happened) → AreTold name result happened
      → Does (restarted w name (consumer_of name w.consumers)) happened new
  restarts_does result asks happened told =
      subst (λ (it : Option Consuming). Does (restarted w name it) happened new)
      (sym (at_consumer name old.consumers place c here) ∙ ap (consumer_of name) k.consumers)
      (restarts_as result happened (subst (λ m. Restarts c m result cs) k.consumers (asks name c here))
      (subst (λ n. AreTold n result happened) (sym (at_name name old.consumers place c here)) told))

-- ---- whether the producer is there

pub checked_does : (old : Known) (w : World) (name : Name) (c : Consuming) (happened : Happened) → Knows old w
    → consumer_of name old.consumers ≡ Some c → happened.lines ≡ []
    → sent_packets happened.packets ≡ packets_from name (check_request c.name c.moment ∷ [])
    → Does (checked w name (consumer_of name w.consumers)) happened old
checked_does old w name c happened k found lines sent =
    let its : c.name ≡ name = found_name name old.consumers c found in
    let own : consumer_of c.name old.consumers ≡ Some c = ap (λ n. consumer_of n old.consumers) its ∙ found in
    subst (λ (it : Option Consuming). Does (checked w name it) happened old) (sym found ∙ ap (consumer_of name) k.consumers)
    (sent_does old old w c [] (check_request c.name c.moment ∷ []) old.consumers happened k refl
    (sym (with_found c old.consumers own) ∙ ap (with_consumer c) k.consumers) (ap told_lines lines)
    (sent ∙ ap (λ n. packets_from n (check_request c.name c.moment ∷ [])) (sym its)))

-- ---- a message is taken

pub name_stays : (c : Consuming) (m : Message) → (after_message c m).name ≡ c.name
name_stays c m = by (heard m)
  where
    delivered : (identifier : Name) (kept : Option HeldSubscription) (mark : Mark) (more : Bool) (part : Carried)
        → (after_delivery c identifier kept mark more part).name ≡ c.name
    delivered identifier None mark more part = refl
    delivered identifier (Some kept) mark more part = refl

    by : (h : Heard) → (after_heard c h).name ≡ c.name
    by (Delivered subscriber identifier mark more part) = delivered identifier (kept_for c subscriber identifier) mark more part
    by (Notified identifier mark) = refl
    by Noted = refl
    by Foreign = refl

pub taken_does : (old new : Known) (w : World) (receiver : Name) (m : Message) (cs : List Consuming)
    (happened : Happened) → Knows old w → new ≡ record old { consumers = cs }
    → ConsumerTakes receiver (consumer_of receiver old.consumers) m old.consumers cs happened
    → Does (taken_if w (consumer_of receiver w.consumers) m) happened new
taken_does old new w receiver m cs happened k is takes =
    subst (λ (it : Option Consuming). Does (taken_if w it m) happened new) (ap (consumer_of receiver) k.consumers)
    (by (consumer_of receiver old.consumers) refl takes)
  where
    by : (it : Option Consuming) → consumer_of receiver old.consumers ≡ it → ConsumerTakes receiver it m old.consumers cs happened → Does (taken_if w it m) happened new
    by None is_none takes = record {
      lines = ap told_lines takes.0;
      packets = ap sent_packets takes.1;
      world = knows_with old new w cs k is w.consumers (takes.2 ∙ k.consumers);
    }
    by (Some c) is_it takes =
        let after = after_message c m in
        let own : c.name ≡ receiver = found_name receiver old.consumers c is_it in
        let its : after.name ≡ receiver = name_stays c m ∙ own in
        sent_does old new w after (line.Took c.name (word.Consumer (seen_of c m).outcome) ∷ [])
        (seen_of c m).replies cs happened k is (takes.2 ∙ ap (with_consumer after) k.consumers)
        (takes.0 ∙ ap (λ n. line.Took n (word.Consumer (seen_of c m).outcome) ∷ []) (sym own))
        (takes.1 ∙ ap (λ n. packets_from n (seen_of c m).replies) (sym its))

-- by the consumer that stands at a place
pub takes_at : (receiver : Name) (m : Message) (cs after : List Consuming) (place : ℕ) (c : Consuming) (seen : Seen)
    (happened : Happened) → IsAt receiver cs place c → seen ≡ seen_of c m → after ≡ with_consumer (after_message c m) cs
    → told_lines happened.lines ≡ line.Took receiver (word.Consumer seen.outcome) ∷ []
    → sent_packets happened.packets ≡ packets_from receiver seen.replies
    → ConsumerTakes receiver (consumer_of receiver cs) m cs after happened
takes_at receiver m cs after place c seen happened here is put told sent =
    subst (λ (it : Option Consuming). ConsumerTakes receiver it m cs after happened) (sym (at_consumer receiver cs place c here))
    (told ∙ ap (λ (s : Seen). line.Took receiver (word.Consumer s.outcome) ∷ []) is, sent ∙ ap (λ (s : Seen). packets_from receiver s.replies) is, put)

-- ---- a packet is delivered

pub packet_found : (old : Known) (w : World) (number : ℕ) (packet : SentPacket) → Knows old w
    → packet_at number old.packets ≡ Some packet → packet_at number w.packets ≡ Some packet
packet_found old w number packet k is = ap (packet_at number) (sym k.packets) ∙ is

pub received_does : (old new : Known) (w : World) (number : ℕ) (receiver : Name) (m : Message) (cs : List Consuming)
    (happened : Happened) → Knows old w → packet_at number old.packets ≡ Some (ToConsumer receiver m)
    → new ≡ record old { consumers = cs }
    → ConsumerTakes receiver (consumer_of receiver old.consumers) m old.consumers cs happened → Does (delivered w number (packet_at number w.packets)) happened new
received_does old new w number receiver m cs happened k packet is takes =
    subst (λ (p : Option SentPacket). Does (delivered w number p) happened new)
    (sym (packet_found old w number (ToConsumer receiver m) k packet))
    (taken_does old new w receiver m cs happened k is takes)
