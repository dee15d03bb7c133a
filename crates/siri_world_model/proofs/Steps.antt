-- What the producer of a world does is what that of its network does: after each event the world's network is the one after
-- what happens in it.
use Rattle.std.proofs.Common.{◌≡◌, ℕ, zero, suc, max, Bool, true, false, List, [], ◌∷◌, ◌++◌, length, Option, Some, None, refl, sym, ap}
use Rattle.std.proofs.Common.{◌∙◌, subst, append-nil, arith}
use Rattle.std.specs.Prelude.{nat_le, slice_get, option_map, unwrap_or, if◌then◌else◌}
use Rattle.std.specs.List.{All, last_or}
use Rattle.std.proofs.lemmas.List.{append_assoc, map-append}
use Rattle.std.proofs.lemmas.List.Elements.{All-append, All-nil, All-get_or}
use Rattle.std.proofs.lemmas.Option.{slice_get-map, slice_get_within, get_or_from_slice_get}
use Rattle.siri_messages.specs.Asked.{AskedFor, asked_in}
use Rattle.siri_messages.specs.declared.deliveries.ServiceDelivery.{ServiceDelivery}
use Rattle.siri_messages.specs.declared.requests.ServiceRequest.{ServiceRequest}
use Rattle.siri_messages.specs.declared.message.Message.{Message}
use Rattle.siri_messages.specs.declared.message.Message.TheVariants as message
use Rattle.siri_messages.specs.declared.supplies.Mark.{Mark}
use Rattle.siri_change.specs.Parts.{Carried}
use Rattle.siri_life.specs.Life.{Subscribe, Terminate, AllData, Supply, Acknowledge, Notify, Delivery}
use Rattle.siri_life.specs.Named.{Name, Of, next_of}
use Rattle.siri_life.specs.Network.{network_after, step, takes, takes_letter, Clocks, Feeds}
use Rattle.siri_life.specs.Serving.{About, Carries, ToProducer, ToConsumer, clocked_serving, expired_serving, fed_serving, heard}
use Rattle.siri_life.specs.Serving.{row_letters, settled_serving, started_serving, told}
use Rattle.siri_model.specs.History.{Entry, Step, Start, Clock, Feed, Take, Settle, History, entries_of}
use Rattle.siri_model.specs.Lives.{Living, Served, served_after, serving_of, supply_of}
use Rattle.siri_model.specs.Meaning.{meaning}
use Rattle.siri_model.proofs.Current.{last_appended}
use Rattle.siri_model.proofs.Serves.{more_served}
use Rattle.siri_producer.specs.Answers.{answer_to}
use Rattle.siri_producer.specs.Sends.{sends}
use Rattle.siri_view.specs.Consuming.{Consuming}
use Rattle.siri_view.specs.Kept.{HeldSubscription, kept_of}
use Rattle.siri_world_model.specs.declared.event.Event.{Event}
use Rattle.siri_world_model.specs.declared.event.Event.TheVariants as event
use Rattle.siri_world_model.specs.declared.step_error.StepError.{StepError}
use Rattle.siri_world_model.specs.declared.step_error.StepError.TheVariants as error
use Rattle.siri_world_model.specs.Consumers.{all_clocked, consumer_of}
use Rattle.siri_world_model.specs.Effects as effects
use Rattle.siri_world_model.specs.Effects.{effect, with_packets, delivered}
use Rattle.siri_world_model.specs.Lines.{ToldLine}
use Rattle.siri_world_model.specs.Packets as packet
use Rattle.siri_world_model.specs.Packets.{SentPacket, packet_at, packets_out, producer, reply_to}
use Rattle.siri_world_model.specs.Told.{after, after_if, refusal, is_early, passes_starts, passes_consumers, passes_packets}
use Rattle.siri_world_model.specs.World.{World, last_goes_on, latest}
use Rattle.siri_world_model.specs.laws.Happenings.{happening, happening_if, happenings}
use Rattle.siri_world_model.specs.laws.Letters.{Letter, letter_of, letter_to_producer, letters_of, asking, ending, acknowledging}
use Rattle.siri_world_model.specs.laws.Networks.{WorldNetwork, next_number_of, kept_by, serving_from, with_ended, all_lives, Fits}
use Rattle.siri_world_model.proofs.Well.{IsOfConsumer, IsMade, AreNumbered, IsShort, IsOrdered, IsWell}
use Rattle.siri_world_model.proofs.Consumers.{Stands, StandsAfter, told_stands, subscribe_stands, terminate_stands}
use Rattle.siri_world_model.proofs.Consumers.{restart_stands, status_stands}
use Rattle.siri_world_model.proofs.Consumers.{to_consumer_stands, to_nobody_stands}
use Rattle.siri_world_model.proofs.Known.{next_clocked, kept_clocked, ordered_clocked}
use Rattle.siri_world_model.proofs.Latest.{rows_first, Ends, ends_of, ends_some, two_steps, about_first, about_replies, about_start, numbered_anew}
use Rattle.siri_world_model.proofs.Producer.{sends_are_letters, sends_are_made, heard_about, serving_heard, taken_is_heard, replies_about}
use Rattle.siri_world_model.proofs.Producer.{replies_heard, reply_is_letter, reply_is_made, short_started, short_clocked, short_fed}
use Rattle.siri_world_model.proofs.Producer.{short_settled, short_taken}

-- ---- a step of the producer and a settle

-- a network after its producer's side has become another, has sent these letters, and has settled
pub record Settles (serves : Served → Served) (letters : List Letter) (new old : WorldNetwork) : Type 0 where
  pub serving : new.serving ≡ settled_serving meaning (serves old.serving)
  pub numbers : (name : Name) → new.numbers name ≡ old.numbers name
  pub holdings : (name identifier : Name) → new.holdings name identifier ≡ old.holdings name identifier
  pub sent : new.letters ≡ (old.letters ++ letters) ++ row_letters meaning (serves old.serving).known (serves old.serving).now (serves old.serving).table

-- a step after a history
pub record Serves (h : History) (next : Step) (serves : Served → Served) : Type 0 where
  pub is : serving_of (h ++ next ∷ []) ≡ serves (serving_of h)
  pub first : (b : List (Of Living)) → serves (with_ended b (serving_of h)) ≡ with_ended b (serves (serving_of h))
  pub start : (serves (serving_of h)).start ≡ (serving_of h).start
  pub short : All IsShort (serving_of (h ++ next ∷ [])).table

-- the consumers after something that changes neither numbers nor what is kept
pub record LeavesConsumers (new old : List Consuming) : Type 0 where
  pub numbers : (name : Name) → next_number_of name new ≡ next_number_of name old
  pub kept : (name identifier : Name) → kept_by name identifier new ≡ kept_by name identifier old
  pub ordered : All IsOrdered new

-- ---- a letter that comes to the producer

abbrev IsToProducer : About Carried AskedFor → Type 0
IsToProducer (Carries (Subscribe number x)) = Unit {0}
IsToProducer (Carries (Terminate number)) = Unit {0}
IsToProducer (Carries (AllData number base)) = Unit {0}
IsToProducer (Carries (Supply m)) = Unit {0}
IsToProducer (Carries (Acknowledge m)) = Unit {0}
IsToProducer (Carries (Notify m moment)) = ⊥
IsToProducer (Carries (Delivery m moment more x)) = ⊥
IsToProducer (ToProducer answered) = Unit {0}
IsToProducer ToConsumer = ⊥

-- the producer takes it, replies, and settles
about_settles : (n : WorldNetwork) (c s : Name) (it : About Carried AskedFor) → IsToProducer it
    → Settles (λ v. heard_about v c s it) (replies_about n.serving c s it) (takes meaning n c s it) n
about_settles n c s (Carries (Subscribe number x)) to = record {
  serving = refl;
  numbers = λ name. refl;
  holdings = λ name identifier. refl;
  sent = ap (λ xs. (xs ++ told meaning c) ++ row_letters meaning
      (heard meaning n.serving c s (Subscribe number x)).known (heard meaning n.serving c s (Subscribe number x)).now
      (heard meaning n.serving c s (Subscribe number x)).table) (append-nil n.letters);
}
about_settles n c s (Carries (Terminate number)) to = record {
  serving = refl;
  numbers = λ name. refl;
  holdings = λ name identifier. refl;
  sent = ap (λ xs. (xs ++ told meaning c) ++ row_letters meaning (heard meaning n.serving c s (Terminate number)).known
      (heard meaning n.serving c s (Terminate number)).now (heard meaning n.serving c s (Terminate number)).table)
      (append-nil n.letters);
}
about_settles n c s (Carries (AllData number base)) to = record {
  serving = refl;
  numbers = λ name. refl;
  holdings = λ name identifier. refl;
  sent = ap (λ xs. (xs ++ told meaning c)
      ++ row_letters meaning (heard meaning n.serving c s (AllData number base)).known
      (heard meaning n.serving c s (AllData number base)).now (heard meaning n.serving c s (AllData number base)).table)
      (append-nil n.letters);
}
about_settles n c s (Carries (Supply m)) to = record { serving = refl; numbers = λ name. refl; holdings = λ name identifier. refl; sent = refl }
about_settles n c s (Carries (Acknowledge m)) to = record { serving = refl; numbers = λ name. refl; holdings = λ name identifier. refl; sent = refl }
about_settles n c s (Carries (Notify m moment)) to = absurd to
about_settles n c s (Carries (Delivery m moment more x)) to = absurd to
about_settles n c s (ToProducer true) to = record { serving = refl; numbers = λ name. refl; holdings = λ name identifier. refl; sent = refl }
about_settles n c s (ToProducer false) to = record {
  serving = refl;
  numbers = λ name. refl;
  holdings = λ name identifier. refl;
  sent = ap (λ xs. xs ++ row_letters meaning n.serving.known n.serving.now n.serving.table) (sym (append-nil n.letters));
}
about_settles n c s ToConsumer to = absurd to

asking_to : (sender : Name) (number : ℕ) (asked : List AskedFor) → IsToProducer (asking sender number asked).it
asking_to sender number [] = tt
asking_to sender number (x ∷ []) = tt
asking_to sender number (x ∷ y ∷ more) = tt

ending_to : (sender : Name) (number : ℕ) (identifiers : List Name) → IsToProducer (ending sender number identifiers).it
ending_to sender number [] = tt
ending_to sender number (x ∷ []) = tt
ending_to sender number (x ∷ y ∷ more) = tt

acknowledging_to : (sender : Name) (status : Bool) (mark : Option Mark) → IsToProducer (acknowledging sender status mark).it
acknowledging_to sender true (Some mark) = tt
acknowledging_to sender true None = tt
acknowledging_to sender false mark = tt

supplying_to : (all : Bool) (mark : Mark) → IsToProducer (Carries (supply_of all mark))
supplying_to true mark = tt
supplying_to false mark = tt

is_to_producer : (sender : Name) (m : Message) → IsToProducer (letter_to_producer sender m).it
unfolding letter_to_producer
is_to_producer sender (message.SubscriptionRequest r) = asking_to sender r.message_identifier (asked_in r)
is_to_producer sender (message.TerminateSubscriptionRequest r) = ending_to sender r.message_identifier r.subscription_ref
is_to_producer sender (message.DataSupplyRequest r) = supplying_to r.all_data r.extensions
is_to_producer sender (message.DataReceivedAcknowledgement a) = acknowledging_to sender a.status a.extensions
is_to_producer sender other = tt

-- ---- a world that has started

module _ (world : World) (old : WorldNetwork) (stands : Stands world old) (e : Ends 1 None [] world.starts) where
  abbrev well : IsWell world
  well = stands.0

  abbrev fits : Fits world old
  fits = stands.1

  abbrev h : History
  h = e.history

  latest_is : latest world ≡ h
  latest_is = ap (λ found. unwrap_or found []) e.latest

  -- what the network serves is what the latest start does, with the lives of those before
  serving_is : old.serving ≡ with_ended e.before (serving_of h)
  serving_is = fits.serving ∙ e.serving

  short_is : All IsShort (serving_of h).table
  short_is = subst (λ (x : History). All IsShort (serving_of x).table) latest_is well.short

  module _ (moment : ℕ) (consumers : List Consuming) (keep : LeavesConsumers consumers world.consumers) (next : Step)
      (serves : Served → Served) (next_is : Serves h next serves) (lines : List ToldLine) (replies : List SentPacket)
      (letters : List Letter) (said : letters_of replies ≡ letters) (made : All IsMade replies) (new : WorldNetwork)
      (settled : Settles serves letters new old) where
    abbrev outs : List SentPacket
    outs = packets_out (sends producer (latest world ++ next ∷ []))

    abbrev rows : Served → List Letter
    rows v = row_letters meaning v.known v.now v.table

    outs_are : letters_of outs ≡ rows (serves old.serving)
    outs_are =
        ap (λ x. letters_of (packets_out (sends producer (x ++ next ∷ [])))) latest_is
        ∙ sends_are_letters (h ++ next ∷ []) next_is.short
        ∙ ap rows next_is.is
        ∙ ap rows (sym (next_is.first e.before))
        ∙ ap (λ v. rows (serves v)) (sym serving_is)

    letters_are : new.letters ≡ letters_of (world.packets ++ (replies ++ outs))
    letters_are =
        settled.sent
        ∙ append_assoc old.letters letters (rows (serves old.serving))
        ∙ ap (λ xs. xs ++ (letters ++ rows (serves old.serving))) fits.letters
        ∙ ap (λ xs. letters_of world.packets ++ xs) ((λ i. sym said i ++ sym outs_are i) ∙ sym (map-append letter_of replies outs))
        ∙ sym (map-append letter_of world.packets (replies ++ outs))

    serving_then : new.serving ≡ serving_from [] (last_goes_on (next ∷ Settle ∷ []) world.starts)
    serving_then =
        settled.serving
        ∙ ap (λ v. settled_serving meaning (serves v)) serving_is
        ∙ ap (settled_serving meaning) (next_is.first e.before)
        ∙ ap (λ v. with_ended e.before (settled_serving meaning v)) (sym next_is.is)
        ∙ ap (with_ended e.before) (sym (two_steps h next))
        ∙ sym (e.goes (next ∷ Settle ∷ []))

    start_then : (serving_of (h ++ next ∷ Settle ∷ [])).start ≡ (serving_of h).start
    start_then = ap (λ (v : Served). v.start) (two_steps h next) ∙ ap (λ (v : Served). v.start) next_is.is ∙ next_is.start

    short_then : All IsShort (serving_of (unwrap_or (last_or None (last_goes_on (next ∷ Settle ∷ []) world.starts)) [])).table
    short_then =
        subst (λ (x : History). All IsShort (serving_of x).table)
        (append_assoc h (next ∷ []) (Settle ∷ []) ∙ sym (ap (λ found. unwrap_or found []) (e.later (next ∷ Settle ∷ []))))
        (short_settled (h ++ next ∷ []) next_is.short)

    pub settles_stand : Stands (with_packets (effects.settles (record world { moment = moment; consumers = consumers }) next lines replies)) new
    settles_stand = (
      record {
        numbered = e.numbered (next ∷ Settle ∷ []) start_then well.numbered;
        short = short_then;
        made = All-append IsMade world.packets (replies ++ outs) well.made (All-append IsMade replies outs made (sends_are_made (latest world ++ next ∷ [])));
        ordered = keep.ordered;
      },
      record {
        serving = serving_then;
        numbers = λ name. ap next_of (settled.numbers name) ∙ fits.numbers name ∙ sym (keep.numbers name);
        holdings = λ name identifier. settled.holdings name identifier ∙ fits.holdings name identifier ∙ sym (keep.kept name identifier);
        letters = letters_are;
      },
    )

  -- ---- a moment

  clocked_keep : (moment : ℕ) → LeavesConsumers (all_clocked moment world.consumers) world.consumers
  clocked_keep moment = record {
    numbers = λ name. next_clocked moment name world.consumers;
    kept = λ name identifier. kept_clocked moment name identifier world.consumers;
    ordered = ordered_clocked moment world.consumers well.ordered;
  }

  clock_serves : (moment : ℕ) → Serves h (Clock moment) (λ v. expired_serving meaning (clocked_serving meaning v moment))
  unfolding served_after
  clock_serves moment = record {
    is = more_served h (Clock moment);
    first = λ b. rows_first b (clocked_serving meaning (serving_of h) moment) _ _;
    start = refl;
    short = short_clocked h moment short_is;
  }

  pub clock_stands : (moment : ℕ) → StandsAfter world (event.Clock moment) old
  unfolding effect happening
  clock_stands moment =
      settles_stand (max world.moment moment) (all_clocked moment world.consumers) (clocked_keep moment) (Clock moment)
      (λ v. expired_serving meaning (clocked_serving meaning v moment)) (clock_serves moment) [] [] []
      refl (All-nil IsMade) (step meaning old (Clocks moment)) (record {
        serving = refl;
        numbers = λ name. refl;
        holdings = λ name identifier. refl;
        sent = refl;
      })

  -- ---- a feed

  same_keep : LeavesConsumers world.consumers world.consumers
  same_keep = record { numbers = λ name. refl; kept = λ name identifier. refl; ordered = well.ordered }

  feed_serves : (entries : List Entry) → Serves h (Feed entries) (λ v. fed_serving meaning v entries)
  unfolding served_after
  feed_serves entries = record {
    is = more_served h (Feed entries);
    first = λ b. refl;
    start = refl;
    short = short_fed h entries short_is;
  }

  pub feed_stands : (delivery : ServiceDelivery) → StandsAfter world (event.Feed delivery) old
  unfolding effect happening
  feed_stands delivery =
      let entries = entries_of delivery in
      settles_stand world.moment world.consumers same_keep (Feed entries) (λ v. fed_serving meaning v entries) (feed_serves entries) [] [] []
      refl (All-nil IsMade) (step meaning old (Feeds entries)) (record {
        serving = refl;
        numbers = λ name. refl;
        holdings = λ name identifier. refl;
        sent = ap (λ xs. xs ++ row_letters meaning (fed_serving meaning old.serving entries).known old.serving.now
            old.serving.table) (sym (append-nil old.letters));
      })

  -- ---- a packet that reaches the producer

  heard_serves : (sender : Name) (m : Message) → IsOfConsumer sender m → Serves h (Take m) (λ v. serving_heard v (letter_to_producer sender m))
  heard_serves sender m made =
      let letter = letter_to_producer sender m in
      record {
        is = taken_is_heard h sender m made;
        first = λ b. about_first b (serving_of h) letter.subscriber letter.identifier letter.it;
        start = about_start (serving_of h) letter.subscriber letter.identifier letter.it;
        short = short_taken h sender m made short_is;
      }

  reply_said : (sender : Name) (m : Message) → IsOfConsumer sender m
      → letters_of (reply_to sender (answer_to producer (latest world) m).reply) ≡ replies_heard old.serving
      (letter_to_producer sender m)
  reply_said sender m made =
      let letter = letter_to_producer sender m in
      ap (λ x. letters_of (reply_to sender (answer_to producer x m).reply)) latest_is
      ∙ reply_is_letter h sender m made short_is
      ∙ sym (about_replies e.before (serving_of h) letter.subscriber letter.identifier letter.it)
      ∙ ap (λ v. replies_heard v letter) (sym serving_is)

  pub answered_stands : (sender : Name) (m : Message) → IsOfConsumer sender m
      → Stands (with_packets (effects.answered world sender m (answer_to producer (latest world) m)))
      (takes_letter meaning old (Some (letter_to_producer sender m)))
  answered_stands sender m made =
      let letter = letter_to_producer sender m in
      settles_stand world.moment world.consumers same_keep (Take m) (λ v. serving_heard v letter)
      (heard_serves sender m made) [] (reply_to sender (answer_to producer (latest world) m).reply)
      (replies_heard old.serving letter)
      (reply_said sender m made) (subst (λ x. All IsMade (reply_to sender (answer_to producer x m).reply)) (sym latest_is) (reply_is_made h sender m made))
      (takes_letter meaning old (Some letter)) (about_settles old letter.subscriber letter.identifier letter.it (is_to_producer sender m))

-- ---- a packet to the producer

to_producer_stands : (world : World) (number : ℕ) (sender : Name) (m : Message) (n : WorldNetwork)
    → nat_le (length world.starts) 0 ≡ false → packet_at number world.packets ≡ Some (packet.ToProducer sender m)
    → Stands world n → StandsAfter world (event.Deliver number) n
unfolding effect happening
to_producer_stands world zero sender m n some is stands = absurd (cc)
to_producer_stands world (suc before) sender m n some is stands =
    let sent = packet.ToProducer sender m in
    let made : IsMade sent = subst IsMade (get_or_from_slice_get world.packets before sent sent is)
    (All-get_or IsMade world.packets before sent (slice_get_within world.packets before sent is) stands.0.made) in
    let letter : slice_get n.letters before ≡ Some (letter_to_producer sender m) =
    ap (λ xs. slice_get xs before) stands.1.letters ∙ slice_get-map letter_of world.packets before
    ∙ ap (option_map letter_of) is in
    subst (λ found. Stands (with_packets (delivered world (suc before) found)) (takes_letter meaning n (slice_get n.letters before))) (sym is)
    (subst (λ found. Stands (with_packets (effects.answered world sender m (answer_to producer (latest world) m))) (takes_letter meaning n found)) (sym letter)
    (answered_stands world n stands (ends_some world.starts some) sender m made))

-- ---- the next start

-- the next start's side
next_serving : (starts : List History) → AreNumbered 1 starts → (moment : ℕ)
    → started_serving meaning (serving_from [] starts) moment ≡ serving_from []
    (starts ++ (Start (suc (length starts)) moment ∷ []) ∷ [])
unfolding served_after
next_serving [] numbered moment = refl
next_serving (first ∷ more) numbered moment =
    let e = ends_of 1 None [] first more in
    let v = serving_of e.history in
    let number : suc v.start ≡ suc (length (first ∷ more)) = let same = e.number numbered in omega (arith, same) in
    ap (λ v. started_serving meaning v moment) e.serving
    ∙ (λ i. record {
      start = number i;
      now = moment;
      known = Start (number i) moment ∷ [];
      table = [];
      ended = (append_assoc e.before v.ended v.table ∙ sym (append-nil (e.before ++ all_lives v))) i;
    })
    ∙ sym (e.anew (Start (suc (length (first ∷ more))) moment ∷ []))

pub start_stands : (world : World) (moment : ℕ) (n : WorldNetwork) → Stands world n → StandsAfter world (event.Start moment) n
unfolding effect happening
start_stands world moment n stands =
    let well = stands.0 in
    let fits = stands.1 in
    let first : History = Start (suc (length world.starts)) moment ∷ [] in (
      record {
        numbered = numbered_anew 1 (suc (length world.starts)) moment world.starts (omega arith) well.numbered;
        short = subst (λ (x : History). All IsShort (serving_of x).table)
            (sym (ap (λ found. unwrap_or found []) (last_appended None world.starts first)))
            (short_started (suc (length world.starts)) moment);
        made = subst (All IsMade) (sym (append-nil world.packets)) well.made;
        ordered = ordered_clocked moment world.consumers well.ordered;
      },
      record {
        serving = ap (λ v. started_serving meaning v moment) fits.serving ∙ next_serving world.starts well.numbered moment;
        numbers = λ name. fits.numbers name ∙ sym (next_clocked moment name world.consumers);
        holdings = λ name identifier. fits.holdings name identifier ∙ sym (kept_clocked moment name identifier world.consumers);
        letters = fits.letters ∙ ap letters_of (sym (append-nil world.packets));
      },
    )

-- ---- every packet

pub deliver_stands : (world : World) (number : ℕ) (n : WorldNetwork) → (nat_le (length world.starts) 0 ≡ false)
    → Stands world n → StandsAfter world (event.Deliver number) n
deliver_stands world number n some stands = by (packet_at number world.packets) refl
  where
    by : (found : Option SentPacket) → packet_at number world.packets ≡ found → StandsAfter world (event.Deliver number) n
    by None is = to_nobody_stands world number n is stands
    by (Some (packet.ToProducer sender m)) is = to_producer_stands world number sender m n some is stands
    by (Some (packet.ToConsumer receiver m)) is = to_consumer_stands world number receiver m n is stands

-- ---- every event

view_stands : (world : World) (name identifier : Name) (n : WorldNetwork) → Stands world n → StandsAfter world (event.View name identifier) n
unfolding effect happening
view_stands world name identifier n stands = by (consumer_of name world.consumers)
  where
    one : (c : Consuming) (kept : Option HeldSubscription) → Stands (with_packets (effects.viewed_if world c identifier kept)) n
    one c None = told_stands world n [] stands
    one c (Some kept) = told_stands world n [] stands

    by : (found : Option Consuming) → Stands (with_packets (effects.viewed world name identifier found)) n
    by None = told_stands world n [] stands
    by (Some c) = one c (kept_of identifier c.held)

ask_stands : (world : World) (request : ServiceRequest) (n : WorldNetwork) → Stands world n → StandsAfter world (event.Ask request) n
unfolding effect happening
ask_stands world request n stands = told_stands world n [] stands

-- whatever happens in a world that has started, or as it starts
event_stands : (world : World) (e : Event) (n : WorldNetwork) → is_early world e ≡ false → Stands world n → StandsAfter world e n
event_stands world (event.Start moment) n late stands = start_stands world moment n stands
event_stands world (event.Clock moment) n late stands = clock_stands world n stands (ends_some world.starts late) moment
event_stands world (event.Feed delivery) n late stands = feed_stands world n stands (ends_some world.starts late) delivery
event_stands world (event.Ask request) n late stands = ask_stands world request n stands
event_stands world (event.Subscribe name wanted beat) n late stands = subscribe_stands world name wanted beat n stands
event_stands world (event.Terminate name identifier) n late stands = terminate_stands world name identifier n stands
event_stands world (event.Restart name) n late stands = restart_stands world name n stands
event_stands world (event.Status name) n late stands = status_stands world name n stands
event_stands world (event.Deliver number) n late stands = deliver_stands world number n late stands
event_stands world (event.View name identifier) n late stands = view_stands world name identifier n stands

-- an event that isn't refused comes no earlier than the first start
pub not_early : (world : World) (e : Event) → refusal world e ≡ None → is_early world e ≡ false
unfolding refusal
not_early world e none = by (is_early world e) none
  where
    by : (b : Bool) → (if b then Some error.NotStarted
        else (if passes_starts world e then Some error.StartLimit
        else (if passes_consumers world e then Some error.ConsumerLimit
        else (if passes_packets world e then Some error.PacketLimit else None)))) ≡ None → b ≡ false
    by true none = absurd (cc)
    by false none = refl

-- after an event a world's network is the one after what happens in it
pub step_stands : (world : World) (e : Event) (n : WorldNetwork) → Stands world n → Stands (after world e) (network_after meaning (happenings world e) n)
step_stands world e n stands = by (refusal world e) refl
  where
    by : (refused : Option StepError) → refusal world e ≡ refused → Stands (after_if refused world e) (network_after meaning (happening_if refused world e) n)
    by None none = event_stands world e n (not_early world e none) stands
    by (Some error) is = stands
