-- What a consumer replies to a part and to a notification, as letters.
use Rattle.std.proofs.Common.{◌≡◌, ℕ, List, [], ◌∷◌, ◌++◌, Bool, true, false, ◌&&◌, Option, None, Some, refl, ap, ◌∙◌}
use Rattle.std.specs.List.{All}
use Rattle.std.proofs.lemmas.List.Elements.{All-nil, All-cons, All-append}
use Rattle.std.proofs.lemmas.List.{map-append}
use Rattle.siri_messages.specs.Asked.{AskedFor}
use Rattle.siri_messages.specs.declared.message.Message.{Message}
use Rattle.siri_change.specs.Parts.{Carried}
use Rattle.siri_life.specs.Life.{Mark, Packet, Acknowledge}
use Rattle.siri_life.specs.Link as life
use Rattle.siri_life.specs.Link.{asked, taken, replies, replies_as, then_supply, asks_for, asks_for_as}
use Rattle.siri_life.specs.Named.{Name}
use Rattle.siri_life.specs.Serving.{ToProducer, letters_for}
use Rattle.siri_model.specs.Meaning.{meaning}
use Rattle.siri_view.specs.Consuming.{Consuming, readied, replies_by}
use Rattle.siri_view.specs.Kept as view
use Rattle.siri_view.specs.Kept.{HeldSubscription}
use Rattle.siri_view.specs.Sending.{acknowledgement, supply_request, ready_acknowledgement, mark_of}
use Rattle.siri_world_model.specs.Packets as packet
use Rattle.siri_world_model.specs.Packets.{packets_from}
use Rattle.siri_world_model.specs.laws.Letters.{Letter, of_none, letter_of, letter_to_producer, letters_of}
use Rattle.siri_world_model.proofs.Well.{IsOfConsumer}
use Rattle.siri_world_model.proofs.Asking.{ready_made}

-- ---- a consumer's words are those of the network, whatever is known of a producer

pub asked_same : (number : ℕ) (wanted : AskedFor) (held : Option HeldSubscription) → asked view.meaning number wanted held ≡ asked meaning number wanted held
asked_same number wanted None = refl
asked_same number wanted (Some h) = refl

pub taken_same : (h : HeldSubscription) (m : Mark) (more : Bool) (part : Carried) → taken view.meaning h m more part ≡ taken meaning h m more part
taken_same h m more part = refl

-- ---- replies

module _ (c : Consuming) (identifier : Name) where
  abbrev sent : List (Packet Carried AskedFor) → List Letter
  sent packets = letters_of (packets_from c.name (replies_by c identifier packets))

  -- as the packets that they are
  supply_letters : (b : Bool) (m : Mark) → sent (Acknowledge m ∷ then_supply view.meaning b m) ≡ letters_for meaning
      c.name identifier (Acknowledge m ∷ then_supply meaning b m)
  unfolding letter_to_producer
  supply_letters true m = refl
  supply_letters false m = refl

  replied_as : (o : life.Outcome) (h : HeldSubscription) (m : Mark) (more : Bool)
      → sent (replies_as view.meaning o h m more) ≡ letters_for meaning c.name identifier
      (replies_as meaning o h m more)
  unfolding letter_to_producer
  replied_as life.Wanted h m more = supply_letters (more && h.wanted.subscription.fetched) m
  replied_as life.Repeat h m more = refl
  replied_as life.UnknownSubscription h m more = refl
  replied_as life.OldStart h m more = refl
  replied_as life.Gap h m more = refl
  replied_as life.Overlong h m more = refl

  pub replied : (h : HeldSubscription) (m : Mark) (more : Bool)
      → sent (replies view.meaning h m more) ≡ letters_for meaning c.name identifier (replies meaning h m more)
  replied h m more = replied_as (life.outcome view.meaning h m) h m more

  asked_as : (o : life.Outcome) (m : Mark) → sent (asks_for_as view.meaning o m) ≡ letters_for meaning c.name identifier (asks_for_as meaning o m)
  unfolding letter_to_producer
  asked_as life.Wanted m = refl
  asked_as life.Repeat m = refl
  asked_as life.UnknownSubscription m = refl
  asked_as life.OldStart m = refl
  asked_as life.Gap m = refl
  asked_as life.Overlong m = refl

  -- each is one that a consumer makes
  acknowledgement_made : (m : Mark) → IsOfConsumer c.name (acknowledgement c.name c.moment identifier m)
  unfolding IsOfConsumer
  acknowledgement_made m = (refl, refl, (mark_of identifier m, refl))

  supply_made : (m : Mark) → IsOfConsumer c.name (supply_request c.name c.moment identifier m)
  unfolding IsOfConsumer
  supply_made m = (refl, λ all. absurd (cc))

  one_made : (message : Message) → IsOfConsumer c.name message → All (IsOfConsumer c.name) (message ∷ [])
  one_made message made = All-cons (IsOfConsumer c.name) message [] made (All-nil (IsOfConsumer c.name))

  then_made : (b : Bool) (m : Mark) → All (IsOfConsumer c.name) (replies_by c identifier (Acknowledge m ∷ then_supply view.meaning b m))
  then_made true m = All-cons (IsOfConsumer c.name) (acknowledgement c.name c.moment identifier m)
      (supply_request c.name c.moment identifier (life.next_mark view.meaning m) ∷ []) (acknowledgement_made m)
      (one_made (supply_request c.name c.moment identifier (life.next_mark view.meaning m))
      (supply_made (life.next_mark view.meaning m)))
  then_made false m = one_made (acknowledgement c.name c.moment identifier m) (acknowledgement_made m)

  made_as : (o : life.Outcome) (h : HeldSubscription) (m : Mark) (more : Bool)
      → All (IsOfConsumer c.name) (replies_by c identifier (replies_as view.meaning o h m more))
  made_as life.Wanted h m more = then_made (more && h.wanted.subscription.fetched) m
  made_as life.Repeat h m more = one_made (acknowledgement c.name c.moment identifier m) (acknowledgement_made m)
  made_as life.UnknownSubscription h m more = All-nil (IsOfConsumer c.name)
  made_as life.OldStart h m more = All-nil (IsOfConsumer c.name)
  made_as life.Gap h m more = All-nil (IsOfConsumer c.name)
  made_as life.Overlong h m more = All-nil (IsOfConsumer c.name)

  pub replies_made : (h : HeldSubscription) (m : Mark) (more : Bool) → All (IsOfConsumer c.name) (replies_by c identifier (replies view.meaning h m more))
  replies_made h m more = made_as (life.outcome view.meaning h m) h m more

  asks_made_as : (o : life.Outcome) (m : Mark) → All (IsOfConsumer c.name) (replies_by c identifier (asks_for_as view.meaning o m))
  asks_made_as life.Wanted m = one_made (supply_request c.name c.moment identifier m) (supply_made m)
  asks_made_as life.Repeat m = one_made (acknowledgement c.name c.moment identifier m) (acknowledgement_made m)
  asks_made_as life.UnknownSubscription m = All-nil (IsOfConsumer c.name)
  asks_made_as life.OldStart m = All-nil (IsOfConsumer c.name)
  asks_made_as life.Gap m = All-nil (IsOfConsumer c.name)
  asks_made_as life.Overlong m = All-nil (IsOfConsumer c.name)

  -- ---- a notification

  -- the answer to one of a wanted part is acknowledged as ready first
  abbrev pub ready_letters : life.Outcome → List Letter
  ready_letters life.Wanted = of_none c.name (ToProducer false) ∷ []
  ready_letters other = []

  ready_as : (o : life.Outcome) → letters_of (packets_from c.name (readied c o)) ≡ ready_letters o
  unfolding letter_to_producer
  ready_as life.Wanted = refl
  ready_as life.Repeat = refl
  ready_as life.UnknownSubscription = refl
  ready_as life.OldStart = refl
  ready_as life.Gap = refl
  ready_as life.Overlong = refl

  ready_made_as : (o : life.Outcome) → All (IsOfConsumer c.name) (readied c o)
  ready_made_as life.Wanted = one_made (ready_acknowledgement c.name c.moment) (ready_made c)
  ready_made_as life.Repeat = All-nil (IsOfConsumer c.name)
  ready_made_as life.UnknownSubscription = All-nil (IsOfConsumer c.name)
  ready_made_as life.OldStart = All-nil (IsOfConsumer c.name)
  ready_made_as life.Gap = All-nil (IsOfConsumer c.name)
  ready_made_as life.Overlong = All-nil (IsOfConsumer c.name)

  abbrev answers : HeldSubscription → Mark → List Message
  answers h m = readied c (life.outcome view.meaning h m) ++ replies_by c identifier (asks_for view.meaning h m)

  pub notified_sent : (h : HeldSubscription) (m : Mark)
      → letters_of (packets_from c.name (answers h m)) ≡ ready_letters (life.outcome meaning h m)
      ++ letters_for meaning c.name identifier (asks_for meaning h m)
  notified_sent h m =
      let o = life.outcome view.meaning h m in
      ap letters_of (map-append (packet.ToProducer c.name) (readied c o) (replies_by c identifier (asks_for view.meaning h m)))
      ∙ map-append letter_of (packets_from c.name (readied c o)) (packets_from c.name (replies_by c identifier (asks_for view.meaning h m)))
      ∙ (λ i. ready_as o i ++ asked_as o m i)

  pub notified_made : (h : HeldSubscription) (m : Mark) → All (IsOfConsumer c.name) (answers h m)
  notified_made h m =
      let o = life.outcome view.meaning h m in
      All-append (IsOfConsumer c.name) (readied c o) (replies_by c identifier (asks_for view.meaning h m)) (ready_made_as o) (asks_made_as o m)
