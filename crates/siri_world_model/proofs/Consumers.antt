-- What the consumers of a world do is what those of its network do: after each event of theirs the world's network is the one
-- after what happens in it.
use Rattle.std.proofs.Common.{◌≡◌, ℕ, zero, suc, ◌+◌, ◌≤◌, List, [], ◌∷◌, ◌++◌, length, Bool, true, false, cond, ◌&&◌}
use Rattle.std.proofs.Common.{Option, None, Some, refl, sym, ap}
use Rattle.std.proofs.Common.{◌∙◌, subst, append_assoc, append-nil}
use Rattle.std.specs.Prelude.{ℤ, nat_lt, option_map, slice_get, if◌then◌else◌}
use Rattle.std.specs.List.{All}
use Rattle.std.specs.Option.{option_map_or, option_and_then}
use Rattle.std.specs.List.Sorted.{IsStrictlySortedBy}
use Rattle.std.proofs.lemmas.Bool.{ltb-false}
use Rattle.std.proofs.lemmas.List.{map-append}
use Rattle.std.proofs.lemmas.List.Elements.{All-nil, All-cons, All-append, All-map, All-get_or}
use Rattle.std.proofs.lemmas.Option.{slice_get-map, slice_get_within, get_or_from_slice_get}
use Rattle.siri_topic.specs.declared.subscription.Subscription.{Subscription}
use Rattle.siri_messages.specs.Asked.{AskedFor}
use Rattle.siri_messages.specs.declared.message.Message.{Message}
use Rattle.siri_change.specs.Parts.{Carried}
use Rattle.siri_life.specs.Life.{Mark, Subscribe, Terminate, Notify, Delivery}
use Rattle.siri_life.specs.Link as life
use Rattle.siri_life.specs.Link.{asked, taken, replies, asks_for}
use Rattle.siri_life.specs.Named.{Name, same_name, with_under, with_number, next_of}
use Rattle.siri_life.specs.Serving.{About, Carries, letters_for}
use Rattle.siri_life.specs.Network as network
use Rattle.siri_life.specs.Network.{Asks, Stops, Requests, kept_at, network_after, restarted_from, restarts_of_all}
use Rattle.siri_life.specs.Network.{step}
use Rattle.siri_life.specs.laws.Restarts.{HasRestarted, or_kept}
use Rattle.siri_life.proofs.Names.{name_is, name_same}
use Rattle.siri_life.proofs.Restarting.{all_restart}
use Rattle.siri_model.specs.Meaning.{meaning}
use Rattle.siri_base.specs.Numbers.{greatest_number}
use Rattle.siri_view.specs.Consuming.{Consuming, most_held, count_after, kept_for, seen_by, seen_of, after_heard, seen_in_delivery}
use Rattle.siri_view.specs.Consuming.{seen_in_notification, after_delivery, after_restart, after_subscribe}
use Rattle.siri_view.specs.Consuming.{after_terminate, request_for}
use Rattle.siri_view.specs.Consuming.{restart_requests, termination_of}
use Rattle.siri_view.specs.Hearing.{Heard, Delivered, Notified, Noted, Foreign, heard}
use Rattle.siri_view.specs.Kept as view
use Rattle.siri_view.specs.Kept.{HeldSubscription, Holdings, kept_of, with_kept}
use Rattle.siri_view.specs.Sending.{check_request}
use Rattle.siri_view.specs.declared.outcome.AskError.{AskError}
use Rattle.siri_view.specs.declared.outcome.AskError.TheVariants as ask_error
use Rattle.siri_view.specs.declared.outcome.Seen.{Seen}
use Rattle.siri_world_model.specs.declared.event.Event.{Event}
use Rattle.siri_world_model.specs.declared.event.Event.TheVariants as event
use Rattle.siri_world_model.specs.declared.word.Word.TheVariants as word
use Rattle.siri_world_model.specs.Consumers.{consumer_of, consumer_or_new, new_consumer}
use Rattle.siri_world_model.specs.Effects.{ask_refusal, checked, delivered, effect, sent_by, subscribed_if, taken_if, tells, terminated}
use Rattle.siri_world_model.specs.Effects.{lacks_numbers, restarted, restarted_if, terminated_if, with_packets}
use Rattle.siri_world_model.specs.Lines as told
use Rattle.siri_world_model.specs.Lines.{ToldLine}
use Rattle.siri_world_model.specs.Packets as packet
use Rattle.siri_world_model.specs.Packets.{SentPacket, packet_at, packets_from}
use Rattle.siri_world_model.specs.World.{World}
use Rattle.siri_world_model.specs.laws.Happenings.{asked_by, asks_if, happening, questions, restarts, restarts_if, stops}
use Rattle.siri_world_model.specs.laws.Letters.{Letter, letter_heard, letter_of, letter_to_consumer, letters_of, moment_in}
use Rattle.siri_world_model.specs.laws.Networks.{WorldNetwork, next_number_of, kept_by, Fits}
use Rattle.siri_world_model.proofs.Well.{IsOfConsumer, IsFor, IsMade, IsOrdered, IsWell}
use Rattle.siri_world_model.proofs.Asking.{request_is, request_made, termination_is, termination_made, check_is, check_made}
use Rattle.siri_world_model.proofs.Held.{kept_put, kept_gone, ordered_put, ordered_gone}
use Rattle.siri_world_model.proofs.Restarted.{all_data_is, all_data_made, apart_ordered, holds_all, kept_restarted}
use Rattle.siri_world_model.proofs.Restarted.{keys_restarted}
use Rattle.siri_world_model.proofs.Known.{found_named, found_ordered, next_with, kept_with, ordered_with}
use Rattle.siri_world_model.proofs.Taking.{asked_same, replied, replies_made, ready_letters, notified_sent, notified_made}

-- a world is well, and this is its network
abbrev pub Stands : World → WorldNetwork → Type 0
Stands world network = IsWell world × Fits world network

-- so it is after an event, whatever the limits are
abbrev pub StandsAfter : World → Event → WorldNetwork → Type 0
StandsAfter world e network = Stands (with_packets (effect world e)) (network_after meaning (happening world e) network)

-- ---- where nothing happens

-- what is told changes nothing
pub told_stands : (world : World) (n : WorldNetwork) (lines : List ToldLine) → Stands world n → Stands (with_packets (tells world lines)) n
told_stands world n lines stands = subst (λ packets. Stands (record world { packets = packets }) n) (sym (append-nil world.packets)) stands

-- ---- a consumer among others

new_ordered : (name : Name) (moment : ℕ) → IsOrdered (new_consumer name moment)
unfolding IsStrictlySortedBy
new_ordered name moment = tt

-- what is found under its name is the consumer's own
pub record IsOwn (c : Consuming) (consumers : List Consuming) : Type 0 where
  pub number : next_number_of c.name consumers ≡ c.next_number
  pub kept : (identifier : Name) → kept_by c.name identifier consumers ≡ kept_of identifier c.held
  pub ordered : IsOrdered c

pub found_own : (name : Name) (cs : List Consuming) (c : Consuming) → All IsOrdered cs → consumer_of name cs ≡ Some c → IsOwn c cs
found_own name cs c all e = record {
  number = ap (λ found. option_map_or (λ (d : Consuming). d.next_number) found 1) there;
  kept = λ identifier. ap (λ found. option_and_then (λ (d : Consuming). kept_of identifier d.held) found) there;
  ordered = found_ordered name cs c all e;
}
  where
    there : consumer_of c.name cs ≡ Some c
    there = ap (λ n. consumer_of n cs) (found_named name cs c e) ∙ e

-- also where it is made
own_or_new : (moment : ℕ) (name : Name) (cs : List Consuming) → All IsOrdered cs → IsOwn (consumer_or_new moment name (consumer_of name cs)) cs
own_or_new moment name cs all = by (consumer_of name cs) refl
  where
    by : (found : Option Consuming) → consumer_of name cs ≡ found → IsOwn (consumer_or_new moment name found) cs
    by None e = record {
      number = ap (λ found. option_map_or (λ (d : Consuming). d.next_number) found 1) e;
      kept = λ identifier. ap (λ found. option_and_then (λ (d : Consuming). kept_of identifier d.held) found) e;
      ordered = new_ordered name moment;
    }
    by (Some c) e = found_own name cs c all e

-- ---- a consumer becomes another, and sends messages

-- a network after a consumer has become this one, and has sent these messages
pub record Sent (c : Consuming) (messages : List Message) (new old : WorldNetwork) : Type 0 where
  pub serving : new.serving ≡ old.serving
  pub numbers : (name : Name) → next_of (new.numbers name) ≡ cond (same_name name c.name) c.next_number (next_of (old.numbers name))
  pub holdings : (name identifier : Name) → new.holdings name identifier ≡ cond (same_name name c.name)
      (kept_of identifier c.held) (old.holdings name identifier)
  pub letters : new.letters ≡ old.letters ++ letters_of (packets_from c.name messages)

sent_stands : (world : World) (c : Consuming) (lines : List ToldLine) (messages : List Message) (new old : WorldNetwork)
    → Stands world old → IsOrdered c → All (IsOfConsumer c.name) messages → Sent c messages new old
    → Stands (with_packets (sent_by world c lines messages)) new
sent_stands world c lines messages new old stands ordered made sent =
    let well = stands.0 in
    let fits = stands.1 in (
      record {
        numbered = well.numbered;
        short = well.short;
        made = All-append IsMade world.packets (packets_from c.name messages) well.made (All-map IsMade (packet.ToProducer c.name) messages made);
        ordered = ordered_with c world.consumers ordered well.ordered;
      },
      record {
        serving = sent.serving ∙ fits.serving;
        numbers = λ name. sent.numbers name ∙ ap (λ number. cond (same_name name c.name) c.next_number number)
            (fits.numbers name) ∙ sym (next_with c name world.consumers);
        holdings = λ name identifier. sent.holdings name identifier
            ∙ ap (λ held. cond (same_name name c.name) (kept_of identifier c.held) held) (fits.holdings name identifier)
            ∙ sym (kept_with c name identifier world.consumers);
        letters = sent.letters ∙ ap (λ letters. letters ++ letters_of (packets_from c.name messages)) fits.letters
            ∙ sym (map-append letter_of world.packets (packets_from c.name messages));
      },
    )

module _ (world : World) (n : WorldNetwork) (stands : Stands world n) (c : Consuming) (own : IsOwn c world.consumers) where
  abbrev fits : Fits world n
  fits = stands.1

  own_number : next_of (n.numbers c.name) ≡ c.next_number
  own_number = fits.numbers c.name ∙ own.number

  own_kept : (identifier : Name) → n.holdings c.name identifier ≡ kept_of identifier c.held
  own_kept identifier = fits.holdings c.name identifier ∙ own.kept identifier

  -- by the name
  numbers_as : (number : ℕ) → next_of (n.numbers c.name) ≡ number → (name : Name)
      → next_of (n.numbers name) ≡ cond (same_name name c.name) number (next_of (n.numbers name))
  numbers_as number is name = by (same_name name c.name) refl
    where
      by : (b : Bool) → same_name name c.name ≡ b → next_of (n.numbers name) ≡ cond b number (next_of (n.numbers name))
      by true same = ap (λ d. next_of (n.numbers d)) (name_is name c.name same) ∙ is
      by false same = refl

  holdings_as : (held : Holdings) (identifier : Name) → n.holdings c.name identifier ≡ kept_of identifier held
      → (name : Name) → n.holdings name identifier ≡ cond (same_name name c.name) (kept_of identifier held)
      (n.holdings name identifier)
  holdings_as held identifier is name = by (same_name name c.name) refl
    where
      by : (b : Bool) → same_name name c.name ≡ b → n.holdings name identifier ≡ cond b (kept_of identifier held) (n.holdings name identifier)
      by true same = ap (λ d. n.holdings d identifier) (name_is name c.name same) ∙ is
      by false same = refl

  -- with this under one identifier
  holdings_under : (identifier : Name) (kept : Option HeldSubscription) (held : Holdings)
      → ((q : Name) → kept_of q held ≡ cond (same_name q identifier) kept (kept_of q c.held)) → (name q : Name)
      → with_under c.name identifier kept n.holdings name q ≡ cond (same_name name c.name) (kept_of q held)
      (n.holdings name q)
  holdings_under identifier kept held is name q = by (same_name name c.name) refl
    where
      by : (b : Bool) → same_name name c.name ≡ b → cond (b && same_name q identifier) kept (n.holdings name q) ≡ cond b (kept_of q held) (n.holdings name q)
      by true same = ap (λ old. cond (same_name q identifier) kept old) (ap (λ d. n.holdings d q) (name_is name c.name same) ∙ own_kept q) ∙ sym (is q)
      by false same = refl

  -- and with the next number used
  numbers_used : (name : Name) → next_of (with_number c.name (suc (next_of (n.numbers c.name))) n.numbers name) ≡ cond
      (same_name name c.name) (suc c.next_number) (next_of (n.numbers name))
  numbers_used name = by (same_name name c.name)
    where
      by : (b : Bool) → next_of (cond b (Some (suc (next_of (n.numbers c.name)))) (n.numbers name)) ≡ cond b (suc c.next_number) (next_of (n.numbers name))
      by true = ap suc own_number
      by false = refl

  -- nothing changes, and nothing is sent
  same_sent : Sent c [] n n
  same_sent = record {
    serving = refl;
    numbers = numbers_as c.next_number own_number;
    holdings = λ name identifier. holdings_as c.held identifier (own_kept identifier) name;
    letters = sym (append-nil n.letters);
  }

  same_stands : (lines : List ToldLine) → Stands (with_packets (sent_by world c lines [])) n
  same_stands lines = sent_stands world c lines [] n n stands own.ordered (All-nil (IsOfConsumer c.name)) same_sent

  one_made : (message : Message) → IsOfConsumer c.name message → All (IsOfConsumer c.name) (message ∷ [])
  one_made message made = All-cons (IsOfConsumer c.name) message [] made (All-nil (IsOfConsumer c.name))

  -- ---- a request for a subscription

  module _ (wanted : Subscription) (beat : ℤ) where
    abbrev request : Message
    request = request_for c (wanted ∷ []) beat

    abbrev after : Consuming
    after = after_subscribe c (wanted ∷ []) beat

    abbrev held_new : Option HeldSubscription → ℕ → HeldSubscription
    held_new held number = asked meaning number (asked_by c wanted beat) held

    asked_kept : (q : Name) → kept_of q after.held ≡ cond (same_name q wanted.identifier)
        (Some (held_new (n.holdings c.name wanted.identifier) (next_of (n.numbers c.name)))) (kept_of q c.held)
    asked_kept q =
        kept_put q wanted.identifier (asked view.meaning c.next_number (asked_by c wanted beat) (kept_of wanted.identifier c.held)) c.held
        ∙ ap (λ h. cond (same_name q wanted.identifier) (Some h) (kept_of q c.held))
        (asked_same c.next_number (asked_by c wanted beat) (kept_of wanted.identifier c.held))
        ∙ (λ i. cond (same_name q wanted.identifier) (Some (held_new (sym (own_kept wanted.identifier) i) (sym own_number i))) (kept_of q c.held))

    asked_letters : letters_for meaning c.name wanted.identifier
        (Subscribe (next_of (n.numbers c.name)) (asked_by c wanted beat) ∷ []) ≡ letters_of
        (packets_from c.name (request ∷ []))
    asked_letters =
        ap (λ number. letters_for meaning c.name wanted.identifier (Subscribe number (asked_by c wanted beat) ∷ [])) own_number
        ∙ ap (λ (letter : Letter). letter ∷ []) (sym (request_is c wanted beat))

    asked_sent : Sent after (request ∷ []) (step meaning n (Asks c.name wanted.identifier (asked_by c wanted beat))) n
    asked_sent = record {
      serving = refl;
      numbers = numbers_used;
      holdings = holdings_under wanted.identifier (Some (held_new (n.holdings c.name wanted.identifier) (next_of (n.numbers c.name)))) after.held asked_kept;
      letters = ap (λ letters. n.letters ++ letters) asked_letters;
    }

    asked_ordered : IsOrdered after
    asked_ordered = ordered_put wanted.identifier
        (asked view.meaning c.next_number (asked_by c wanted beat) (kept_of wanted.identifier c.held)) c.held
        own.ordered

    few_asked : ask_refusal c wanted ≡ None → c.next_number ≤ greatest_number
    few_asked = by (nat_lt greatest_number c.next_number) refl
      where
        by : (b : Bool) → nat_lt greatest_number c.next_number ≡ b
            → cond b (Some ask_error.Spent) (if nat_lt most_held (count_after c (wanted ∷ []))
            then Some ask_error.TooMany else None) ≡ None → c.next_number ≤ greatest_number
        by true spent e = absurd (cc)
        by false spent e = ltb-false greatest_number c.next_number spent

    asked_stands : (refusal : Option AskError) → ask_refusal c wanted ≡ refusal
        → Stands (with_packets (subscribed_if refusal world c wanted beat))
        (network_after meaning (asks_if refusal c wanted beat) n)
    asked_stands (Some error) e = same_stands (told.Refused c.name error ∷ [])
    asked_stands None e =
        sent_stands world after [] (request ∷ [])
        (step meaning n (Asks c.name wanted.identifier (asked_by c wanted beat))) n stands asked_ordered
        (one_made request (request_made c wanted beat (few_asked e))) asked_sent

  -- ---- a request to end one

  module _ (identifier : Name) where
    abbrev ended : Consuming
    ended = after_terminate c identifier

    ended_sent : (h : HeldSubscription) → Sent ended (termination_of c identifier ∷ []) (network.stopped meaning n c.name identifier (Some h)) n
    ended_sent h = record {
      serving = refl;
      numbers = numbers_used;
      holdings = holdings_under identifier None ended.held (λ q. kept_gone q identifier c.held own.ordered);
      letters = ap (λ letters. n.letters ++ letters)
          (ap (λ number. letters_for meaning c.name identifier (Terminate number ∷ [])) own_number
          ∙ ap (λ (letter : Letter). letter ∷ []) (sym (termination_is c identifier)));
    }

    ended_stands_if : (b : Bool) (h : HeldSubscription) → n.holdings c.name identifier ≡ Some h
        → Stands (with_packets (if b then tells world (told.Refused c.name ask_error.Spent ∷ [])
        else sent_by world ended [] (termination_of c identifier ∷ [])))
        (network_after meaning (if b then [] else Stops c.name identifier ∷ []) n)
    ended_stands_if true h e = told_stands world n (told.Refused c.name ask_error.Spent ∷ []) stands
    ended_stands_if false h e =
        subst (λ held. Stands (with_packets (sent_by world ended [] (termination_of c identifier ∷ [])))
        (network.stopped meaning n c.name identifier held)) (sym e)
        (sent_stands world ended [] (termination_of c identifier ∷ [])
        (network.stopped meaning n c.name identifier (Some h)) n stands (ordered_gone identifier c.held own.ordered)
        (one_made (termination_of c identifier) (termination_made c identifier)) (ended_sent h))

    none_stands_if : (b : Bool) → n.holdings c.name identifier ≡ None
        → Stands (with_packets (tells world (told.Unknown c.name (Some identifier) ∷ [])))
        (network_after meaning (if b then [] else Stops c.name identifier ∷ []) n)
    none_stands_if true e = told_stands world n (told.Unknown c.name (Some identifier) ∷ []) stands
    none_stands_if false e =
        subst (λ held. Stands (with_packets (tells world (told.Unknown c.name (Some identifier) ∷ [])))
        (network.stopped meaning n c.name identifier held)) (sym e)
        (told_stands world n (told.Unknown c.name (Some identifier) ∷ []) stands)

    ended_stands : (kept : Option HeldSubscription) → n.holdings c.name identifier ≡ kept
        → Stands (with_packets (terminated_if world c identifier kept))
        (network_after meaning (stops (Some c) identifier) n)
    ended_stands None e = none_stands_if (nat_lt greatest_number c.next_number) e
    ended_stands (Some h) e = ended_stands_if (nat_lt greatest_number c.next_number) h e

  -- ---- a restart

  abbrev after_all : WorldNetwork
  after_all = network_after meaning (restarts_of_all meaning c.name c.held) n

  restart_has : HasRestarted meaning c.name c.next_number c.held n after_all
  restart_has =
      let apart = apart_ordered c.held own.ordered in
      all_restart meaning c.name c.held c.next_number n apart (holds_all n c.name c.held own_kept apart) own_number

  restarted_ordered : IsOrdered (after_restart c)
  restarted_ordered = subst (IsStrictlySortedBy view.name_cmp) (sym (keys_restarted c.next_number c.held)) own.ordered

  restarted_sent : Sent (after_restart c) (restart_requests c) after_all n
  restarted_sent = record {
    serving = restart_has.serving;
    numbers = λ name. numbers name (same_name name c.name) refl;
    holdings = λ name identifier. holdings name identifier (same_name name c.name) refl;
    letters = restart_has.letters ∙ ap (λ letters. n.letters ++ letters) (sym (all_data_is c c.next_number c.held));
  }
    where
      numbers : (name : Name) (b : Bool) → same_name name c.name ≡ b
          → next_of (after_all.numbers name) ≡ cond b (c.next_number + length c.held) (next_of (n.numbers name))
      numbers name true same = ap (λ d. next_of (after_all.numbers d)) (name_is name c.name same)
          ∙ restart_has.number_is
      numbers name false apart = ap next_of (restart_has.numbers name apart)

      holdings : (name identifier : Name) (b : Bool) → same_name name c.name ≡ b
          → after_all.holdings name identifier
          ≡ cond b (kept_of identifier (after_restart c).held) (n.holdings name identifier)
      holdings name identifier true same =
          ap (λ d. after_all.holdings d identifier) (name_is name c.name same)
          ∙ (restart_has.mine identifier
          ∙ (ap (or_kept meaning (kept_at meaning identifier (restarted_from meaning c.next_number c.held)))
          (own_kept identifier)
          ∙ kept_restarted identifier c.next_number c.held))
      holdings name identifier false apart = restart_has.others name identifier apart

  restarted_stands : (lacks : Bool) → lacks_numbers c ≡ lacks
      → Stands (with_packets (restarted_if lacks world c)) (network_after meaning (restarts_if lacks c) n)
  restarted_stands true is = told_stands world n (told.Refused c.name ask_error.Spent ∷ []) stands
  restarted_stands false is =
      sent_stands world (after_restart c) [] (restart_requests c) after_all n stands restarted_ordered
      (all_data_made c c.next_number c.held (ltb-false (greatest_number + 1) (c.next_number + length c.held) is))
      restarted_sent

  -- ---- a question

  check_stands : Stands (with_packets (sent_by world c [] (check_request c.name c.moment ∷ []))) (step meaning n (Requests c.name))
  check_stands = sent_stands world c [] (check_request c.name c.moment ∷ [])
      (step meaning n (Requests c.name)) n stands own.ordered (one_made (check_request c.name c.moment) (check_made c))
      (record {
        serving = refl;
        numbers = same_sent.numbers;
        holdings = same_sent.holdings;
        letters = ap (λ (letter : Letter). n.letters ++ letter ∷ []) (sym (check_is c));
      })

  -- ---- a part, and a notification

  abbrev StandsTaken : Name → Seen → Consuming → About Carried AskedFor → Type 0
  StandsTaken identifier seen after about = (lines : List ToldLine)
      → Stands (with_packets (sent_by world after lines seen.replies)) (network.takes meaning n c.name identifier about)

  delivered_stands : (identifier : Name) (m : Mark) (moment : ℕ) (more : Bool) (part : Carried)
      (kept : Option HeldSubscription) → kept_of identifier c.held ≡ kept
      → StandsTaken identifier (seen_in_delivery c identifier kept m more)
      (after_delivery c identifier kept m more part) (Carries (Delivery m moment more part))
  delivered_stands identifier m moment more part None e lines =
      subst (λ held. Stands (with_packets (sent_by world c lines []))
      (network.delivered meaning n c.name identifier m more part held)) (sym (own_kept identifier ∙ e))
      (same_stands lines)
  delivered_stands identifier m moment more part (Some h) e lines =
      subst (λ held. Stands (with_packets (sent_by world (after_delivery c identifier (Some h) m more part) lines
      (seen_in_delivery c identifier (Some h) m more).replies))
      (network.delivered meaning n c.name identifier m more part held)) (sym (own_kept identifier ∙ e))
      (sent_stands world (after_delivery c identifier (Some h) m more part) lines
      (seen_in_delivery c identifier (Some h) m more).replies
      (network.delivered meaning n c.name identifier m more part (Some h)) n stands
      (ordered_put identifier (taken view.meaning h m more part) c.held own.ordered)
      (replies_made c identifier h m more) (record {
        serving = refl;
        numbers = same_sent.numbers;
        holdings = holdings_under identifier (Some (taken meaning h m more part))
            (with_kept identifier (taken view.meaning h m more part) c.held)
            (λ q. kept_put q identifier (taken view.meaning h m more part) c.held);
        letters = ap (λ letters. n.letters ++ letters) (sym (replied c identifier h m more));
      }))

  -- what is kept stays under its identifier
  kept_stays : (identifier : Name) (h : HeldSubscription) → kept_of identifier c.held ≡ Some h → (q : Name)
      → kept_of q c.held ≡ cond (same_name q identifier) (Some h) (kept_of q c.held)
  kept_stays identifier h e q = by (same_name q identifier) refl
    where
      by : (b : Bool) → same_name q identifier ≡ b → kept_of q c.held ≡ cond b (Some h) (kept_of q c.held)
      by true same = ap (λ d. kept_of d c.held) (name_is q identifier same) ∙ e
      by false same = refl

  module _ (identifier : Name) (h : HeldSubscription) (m : Mark) where
    abbrev readied_as : life.Outcome → WorldNetwork
    readied_as o = network.readied meaning n c.name o

    readied_serving : (o : life.Outcome) → (readied_as o).serving ≡ n.serving
    readied_serving life.Wanted = refl
    readied_serving life.UnknownSubscription = refl
    readied_serving life.OldStart = refl
    readied_serving life.Gap = refl
    readied_serving life.Repeat = refl
    readied_serving life.Overlong = refl

    readied_numbers : (o : life.Outcome) → (readied_as o).numbers ≡ n.numbers
    readied_numbers life.Wanted = refl
    readied_numbers life.UnknownSubscription = refl
    readied_numbers life.OldStart = refl
    readied_numbers life.Gap = refl
    readied_numbers life.Repeat = refl
    readied_numbers life.Overlong = refl

    readied_holdings : (o : life.Outcome) → (readied_as o).holdings ≡ n.holdings
    readied_holdings life.Wanted = refl
    readied_holdings life.UnknownSubscription = refl
    readied_holdings life.OldStart = refl
    readied_holdings life.Gap = refl
    readied_holdings life.Repeat = refl
    readied_holdings life.Overlong = refl

    readied_letters : (o : life.Outcome) → (readied_as o).letters ≡ n.letters ++ ready_letters c identifier o
    readied_letters life.Wanted = refl
    readied_letters life.UnknownSubscription = sym (append-nil n.letters)
    readied_letters life.OldStart = sym (append-nil n.letters)
    readied_letters life.Gap = sym (append-nil n.letters)
    readied_letters life.Repeat = sym (append-nil n.letters)
    readied_letters life.Overlong = sym (append-nil n.letters)

    notified_stands_some : (lines : List ToldLine) → kept_of identifier c.held ≡ Some h
        → Stands (with_packets (sent_by world c lines (seen_in_notification c identifier (Some h) m).replies))
        (network.notified meaning n c.name identifier m (Some h))
    notified_stands_some lines e =
        let o = life.outcome meaning h m in
        sent_stands world c lines (seen_in_notification c identifier (Some h) m).replies
        (network.notified meaning n c.name identifier m (Some h)) n stands own.ordered
        (notified_made c identifier h m) (record {
          serving = readied_serving o;
          numbers = λ name. ap (λ (numbers : Name → Option ℕ). next_of (numbers name)) (readied_numbers o) ∙ same_sent.numbers name;
          holdings = λ name q. ap (λ (holdings : Name → Name → Option HeldSubscription).
              with_under c.name identifier (Some h) holdings name q) (readied_holdings o)
              ∙ holdings_under identifier (Some h) c.held (kept_stays identifier h e) name q;
          letters = ap (λ letters. letters ++ letters_for meaning c.name identifier (asks_for meaning h m)) (readied_letters o)
              ∙ append_assoc n.letters (ready_letters c identifier o) (letters_for meaning c.name identifier (asks_for meaning h m))
              ∙ ap (λ letters. n.letters ++ letters) (sym (notified_sent c identifier h m));
        })

  notified_stands : (identifier : Name) (m : Mark) (moment : ℕ) (kept : Option HeldSubscription)
      → kept_of identifier c.held ≡ kept → StandsTaken identifier (seen_in_notification c identifier kept m) c
      (Carries (Notify m moment))
  notified_stands identifier m moment None e lines =
      subst (λ held. Stands (with_packets (sent_by world c lines []))
      (network.notified meaning n c.name identifier m held)) (sym (own_kept identifier ∙ e)) (same_stands lines)
  notified_stands identifier m moment (Some h) e lines =
      subst (λ held. Stands (with_packets (sent_by world c lines
      (seen_in_notification c identifier (Some h) m).replies))
      (network.notified meaning n c.name identifier m held)) (sym (own_kept identifier ∙ e))
      (notified_stands_some identifier h m lines e)

  -- ---- a message

  abbrev StandsHeard : Name → Heard → Type 0
  StandsHeard receiver it = (moment : ℕ) (lines : List ToldLine)
      → Stands (with_packets (sent_by world (after_heard c it) lines (seen_by c it).replies))
      (network.takes_letter meaning n (Some (letter_heard receiver moment it)))

  heard_stands : (it : Heard) → IsFor c.name it → StandsHeard c.name it
  heard_stands (Delivered subscriber identifier m more part) own_part moment lines =
      delivered_stands identifier m moment more part (kept_for c subscriber identifier)
      (sym (ap (λ b. cond b (kept_of identifier c.held) None) (name_same subscriber c.name own_part))) lines
  heard_stands (Notified identifier m) own_part moment lines = notified_stands identifier m moment (kept_of identifier c.held) refl lines
  heard_stands Noted own_part moment lines = same_stands lines
  heard_stands Foreign own_part moment lines = same_stands lines

-- ---- a packet to a consumer that was never made

nobody_takes : (n : WorldNetwork) (receiver : Name) → ((identifier : Name) → n.holdings receiver identifier ≡ None)
    → (moment : ℕ) (it : Heard) → network.takes_letter meaning n (Some (letter_heard receiver moment it)) ≡ n
nobody_takes n receiver none moment (Delivered subscriber identifier m more part) =
    ap (network.delivered meaning n receiver identifier m more part) (none identifier)
nobody_takes n receiver none moment (Notified identifier m) = ap (network.notified meaning n receiver identifier m) (none identifier)
nobody_takes n receiver none moment Noted = refl
nobody_takes n receiver none moment Foreign = refl

-- ---- packets

-- a packet that was sent is one that an end makes
pub made_at : (packets : List SentPacket) (k : ℕ) (p : SentPacket) → All IsMade packets → slice_get packets k ≡ Some p → IsMade p
made_at packets k p made there =
    subst IsMade (get_or_from_slice_get packets k p p there) (All-get_or IsMade packets k p (slice_get_within packets k p there) made)

-- and stands at its place among the letters
pub letter_at : (world : World) (n : WorldNetwork) (k : ℕ) → Fits world n → slice_get n.letters k ≡ option_map letter_of (slice_get world.packets k)
letter_at world n k fits = ap (λ letters. slice_get letters k) fits.letters ∙ slice_get-map letter_of world.packets k

-- ---- the events

-- a consumer asks for a subscription, or is refused
pub subscribe_stands : (world : World) (name : Name) (wanted : Subscription) (beat : ℤ) (n : WorldNetwork)
    → Stands world n → StandsAfter world (event.Subscribe name wanted beat) n
unfolding effect happening
subscribe_stands world name wanted beat n stands =
    let c = consumer_or_new world.moment name (consumer_of name world.consumers) in
    asked_stands world n stands c (own_or_new world.moment name world.consumers stands.0.ordered) wanted beat (ask_refusal c wanted) refl

-- a consumer ends a subscription, or doesn't hold it
pub terminate_stands : (world : World) (name identifier : Name) (n : WorldNetwork) → Stands world n → StandsAfter world (event.Terminate name identifier) n
unfolding effect happening
terminate_stands world name identifier n stands = by (consumer_of name world.consumers) refl
  where
    by : (found : Option Consuming) → consumer_of name world.consumers ≡ found
        → Stands (with_packets (terminated world name identifier found))
        (network_after meaning (stops found identifier) n)
    by None e = told_stands world n (told.Unknown name (Some identifier) ∷ []) stands
    by (Some c) e =
        let own = found_own name world.consumers c stands.0.ordered e in
        ended_stands world n stands c own identifier (kept_of identifier c.held) (own_kept world n stands c own identifier)

-- a consumer restarts
pub restart_stands : (world : World) (name : Name) (n : WorldNetwork) → Stands world n
    → StandsAfter world (event.Restart name) n
unfolding effect happening
restart_stands world name n stands = by (consumer_of name world.consumers) refl
  where
    by : (found : Option Consuming) → consumer_of name world.consumers ≡ found
        → Stands (with_packets (restarted world name found)) (network_after meaning (restarts found) n)
    by None e = told_stands world n (told.Unknown name None ∷ []) stands
    by (Some c) e = restarted_stands world n stands c (found_own name world.consumers c stands.0.ordered e)
        (lacks_numbers c) refl

-- a consumer asks whether the producer is there
pub status_stands : (world : World) (name : Name) (n : WorldNetwork) → Stands world n → StandsAfter world (event.Status name) n
unfolding effect happening
status_stands world name n stands = by (consumer_of name world.consumers) refl
  where
    by : (found : Option Consuming) → consumer_of name world.consumers ≡ found
        → Stands (with_packets (checked world name found)) (network_after meaning (questions found) n)
    by None e = told_stands world n (told.Unknown name None ∷ []) stands
    by (Some c) e = check_stands world n stands c (found_own name world.consumers c stands.0.ordered e)

-- a message comes to a consumer, or to one that was never made
taken_stands : (world : World) (receiver : Name) (message : Message) (n : WorldNetwork) → IsFor receiver (heard message) → Stands world n
    → Stands (with_packets (taken_if world (consumer_of receiver world.consumers) message))
    (network.takes_letter meaning n (Some (letter_to_consumer receiver message)))
taken_stands world receiver message n own_part stands = by (consumer_of receiver world.consumers) refl
  where
    nobody : consumer_of receiver world.consumers ≡ None → (identifier : Name) → n.holdings receiver identifier ≡ None
    nobody e identifier = stands.1.holdings receiver identifier ∙ ap (λ found. option_and_then (λ (d : Consuming). kept_of identifier d.held) found) e

    by : (found : Option Consuming) → consumer_of receiver world.consumers ≡ found
        → Stands (with_packets (taken_if world found message))
        (network.takes_letter meaning n (Some (letter_to_consumer receiver message)))
    by None e = subst (Stands (with_packets (tells world [])))
        (sym (nobody_takes n receiver (nobody e) (moment_in message) (heard message))) (told_stands world n [] stands)
    by (Some c) e =
        let own = found_own receiver world.consumers c stands.0.ordered e in
        let named = found_named receiver world.consumers c e in
        subst (λ r. StandsHeard world n stands c own r (heard message)) named
        (heard_stands world n stands c own (heard message)
        (subst (λ r. IsFor r (heard message)) (sym named) own_part)) (moment_in message)
        (told.Took c.name (word.Consumer (seen_of c message).outcome) ∷ [])

-- a packet reaches a consumer
pub to_consumer_stands : (world : World) (number : ℕ) (receiver : Name) (message : Message) (n : WorldNetwork)
    → packet_at number world.packets ≡ Some (packet.ToConsumer receiver message) → Stands world n
    → StandsAfter world (event.Deliver number) n
unfolding effect happening
to_consumer_stands world zero receiver message n there stands = absurd (cc)
to_consumer_stands world (suc before) receiver message n there stands =
    let letter = letter_at world n before stands.1 ∙ ap (option_map letter_of) there in
    subst (λ (found : Option SentPacket). Stands (with_packets (delivered world (suc before) found))
    (network.takes_letter meaning n (slice_get n.letters before))) (sym there)
    (subst (λ found. Stands (with_packets (taken_if world (consumer_of receiver world.consumers) message)) (network.takes_letter meaning n found)) (sym letter)
    (taken_stands world receiver message n (made_at world.packets before (packet.ToConsumer receiver message) stands.0.made there) stands))

-- no packet of this number was sent
pub to_nobody_stands : (world : World) (number : ℕ) (n : WorldNetwork) → packet_at number world.packets ≡ None
    → Stands world n → StandsAfter world (event.Deliver number) n
unfolding effect happening
to_nobody_stands world zero n none stands = told_stands world n (told.NoPacket zero ∷ []) stands
to_nobody_stands world (suc before) n none stands =
    let letter = letter_at world n before stands.1 ∙ ap (option_map letter_of) none in
    subst (λ (found : Option SentPacket). Stands (with_packets (delivered world (suc before) found))
    (network.takes_letter meaning n (slice_get n.letters before))) (sym none)
    (subst (λ found. Stands (with_packets (tells world (told.NoPacket (suc before) ∷ []))) (network.takes_letter meaning n found)) (sym letter)
    (told_stands world n (told.NoPacket (suc before) ∷ []) stands))
