-- What consumers say of packets: a part that is taken is taken once, and none shows a gap; and what packets carry.
use Rattle.std.proofs.Common.{◌≡◌, ◌≢◌, ℕ, zero, suc, Bool, List, ◌∷◌, ◌++◌, Option, Some, None, refl, sym, ap, ◌∙◌, subst}
use Rattle.std.specs.Prelude.{slice_get}
use Rattle.siri_messages.specs.Asked.{AskedFor}
use Rattle.siri_messages.specs.declared.message.Message.{Message}
use Rattle.siri_change.specs.Parts.{Carried}
use Rattle.siri_life.specs.Life.{Mark, Packet, Notify, Delivery}
use Rattle.siri_life.specs.Link as life
use Rattle.siri_life.specs.Link.{outcome_of}
use Rattle.siri_life.specs.Named.{Name}
use Rattle.siri_life.specs.Network.{Delivers, seen_by as seen_in, step}
use Rattle.siri_life.specs.Serving.{Carries}
use Rattle.siri_life.specs.laws.Claims as link
use Rattle.siri_life.specs.laws.Claims.{HasMark, NamesPart, NamesRound}
use Rattle.siri_life.proofs.Every as every
use Rattle.siri_model.specs.Meaning.{meaning}
use Rattle.siri_model.specs.Lives.{Served}
use Rattle.siri_model.proofs.Lawful.{meaning_lawful}
use Rattle.siri_view.specs.Consuming.{Consuming, seen_by, seen_in_delivery, seen_in_notification}
use Rattle.siri_view.specs.Hearing.{Heard, Delivered, Notified, Noted, Foreign, heard}
use Rattle.siri_world_model.specs.declared.event.Event.{Event}
use Rattle.siri_world_model.specs.declared.event.Event.TheVariants as event
use Rattle.siri_world_model.specs.Consumers.{consumer_of}
use Rattle.siri_world_model.specs.Goals.{rounds_in}
use Rattle.siri_world_model.specs.Packets as packet
use Rattle.siri_world_model.specs.Packets.{SentPacket, packet_at}
use Rattle.siri_world_model.specs.Told.{after, refusal, world_after}
use Rattle.siri_world_model.specs.World.{World, start_at}
use Rattle.siri_world_model.specs.laws.Claims.{CarriesItsRound, TakesPart, ChangesNoView, ShowsNoGap, said, said_by, said_of}
use Rattle.siri_world_model.specs.laws.Happenings.{Happens, happened_from, happening, happening_if}
use Rattle.siri_world_model.specs.laws.Letters.{Letter, letter_heard, moment_in, of_one}
use Rattle.siri_world_model.specs.laws.Networks.{WorldNetwork}
use Rattle.siri_world_model.proofs.Well.{IsFor}
use Rattle.siri_world_model.proofs.Goals.{rounds_by, rounds_are}
use Rattle.siri_world_model.proofs.Growing.{IsThere, all_grow}
use Rattle.siri_world_model.proofs.Said.{taken_wanted, notified_takes_none, changes_none, delivery_gap, notification_gap, letter_is, is_for}
use Rattle.siri_world_model.proofs.Said.{kept_is, kept_for_is}
use Rattle.siri_world_model.proofs.Views.{held_is}
use Rattle.siri_world_model.proofs.Worlds.{after_all, after_more, network_more, network_of, reach, world_stands}

-- ---- no gap

gap_in : (es : List Event) (k : ℕ) (x : Letter) (p : Packet Carried AskedFor) (m : Mark)
    → slice_get (network_of es).letters k ≡ Some x → x.it ≡ Carries p → HasMark p m
    → (outcome_of meaning ((network_of es).holdings x.subscriber x.identifier) m ≢ life.Gap)
    × (outcome_of meaning ((network_of es).holdings x.subscriber x.identifier) m ≢ life.Overlong)
gap_in es =
    reach (λ n. (k : ℕ) (x : Letter) (p : Packet Carried AskedFor) (m : Mark) → slice_get n.letters k ≡ Some x → x.it ≡ Carries p → HasMark p m
    → (outcome_of meaning (n.holdings x.subscriber x.identifier) m ≢ life.Gap) × (outcome_of meaning (n.holdings x.subscriber x.identifier) m ≢ life.Overlong))
    (λ k x p m there it is. absurd (cc)) (λ moment happens. every.no_gap meaning meaning_lawful moment happens) es

module _ (es : List Event) where
  abbrev world : World
  world = world_after es

  abbrev network : WorldNetwork
  network = network_of es

  gap_heard : (k : ℕ) (receiver : Name) (c : Consuming) (moment : ℕ) (it : Heard)
      → slice_get network.letters k ≡ Some (letter_heard receiver moment it) → IsFor receiver it
      → consumer_of receiver world.consumers ≡ Some c → ShowsNoGap (Some (seen_by c it).outcome)
  gap_heard k receiver c moment (Delivered subscriber i m more part) there own found =
      subst (λ held. ShowsNoGap (Some (seen_in_delivery c i held m more).outcome))
      (sym (kept_for_is world network (world_stands es) receiver subscriber i c found own))
      (delivery_gap c i (network.holdings receiver i) m more
      (gap_in es k (of_one receiver i (Carries (Delivery m moment more part)))
      (Delivery m moment more part) m there refl refl))
  gap_heard k receiver c moment (Notified i m) there own found =
      subst (λ held. ShowsNoGap (Some (seen_in_notification c i held m).outcome)) (kept_is world network (world_stands es) receiver i c found)
      (notification_gap c i (network.holdings receiver i) m (gap_in es k (of_one receiver i (Carries (Notify m moment))) (Notify m moment) m there refl refl))
  gap_heard k receiver c moment Noted there own found = tt
  gap_heard k receiver c moment Foreign there own found = tt

  gap_taken : (k : ℕ) (receiver : Name) (message : Message)
      → slice_get world.packets k ≡ Some (packet.ToConsumer receiver message)
      → ShowsNoGap (said_by (consumer_of receiver world.consumers) message)
  gap_taken k receiver message there = by (consumer_of receiver world.consumers) refl
    where
      by : (found : Option Consuming) → consumer_of receiver world.consumers ≡ found → ShowsNoGap (said_by found message)
      by None is = tt
      by (Some c) is = gap_heard k receiver c (moment_in message) (heard message)
          (letter_is world network (world_stands es) k receiver message there)
          (is_for world network (world_stands es) k receiver message there) is

  pub gap_said : (number : ℕ) → ShowsNoGap (said world number)
  gap_said zero = tt
  gap_said (suc k) = by (slice_get world.packets k) refl
    where
      by : (found : Option SentPacket) → slice_get world.packets k ≡ found → ShowsNoGap (said_of world found)
      by None there = tt
      by (Some (packet.ToProducer sender message)) there = tt
      by (Some (packet.ToConsumer receiver message)) there = gap_taken k receiver message there

  -- ---- what packets carry

  carries_in : (k : ℕ) (x : Letter) (p : Packet Carried AskedFor) → slice_get network.letters k ≡ Some x → x.it ≡ Carries p
      → link.CarriesItsRound meaning (seen_in meaning x.subscriber x.identifier network)
      (network.holdings x.subscriber x.identifier) p
  carries_in =
      reach (λ n. (k : ℕ) (x : Letter) (p : Packet Carried AskedFor) → slice_get n.letters k ≡ Some x → x.it ≡ Carries p
      → link.CarriesItsRound meaning (seen_in meaning x.subscriber x.identifier n)
      (n.holdings x.subscriber x.identifier) p)
      (λ k x p there it. absurd (cc)) (λ moment happens. every.carries_its_round meaning meaning_lawful moment happens) es

  rounds_same : (c i : Name) (n s : ℕ) → rounds_by c i n s network.serving ≡ rounds_in (start_at s world) c i n s
  rounds_same c i n s = ap (λ (v : Served). rounds_by c i n s v) (world_stands es).1.serving ∙ rounds_are c i n s world (world_stands es).0.numbered

  carries_heard : (k : ℕ) (receiver : Name) (moment : ℕ) (it : Heard)
      → slice_get network.letters k ≡ Some (letter_heard receiver moment it) → CarriesItsRound world receiver moment it
  carries_heard k receiver moment (Delivered subscriber i m more part) there = λ kept is same.
      let p = Delivery m moment more part in
      let claim = subst (λ held. link.CarriesItsRound meaning (seen_in meaning receiver i network) held p)
      (held_is es receiver i kept is) (carries_in k (of_one receiver i (Carries p)) p there refl) in
      subst (λ rounds. NamesPart rounds m moment more part) (rounds_same receiver i kept.number m.start) (claim same)
  carries_heard k receiver moment (Notified i m) there = λ kept is same.
      let p = Notify m moment in
      let claim = subst (λ held. link.CarriesItsRound meaning (seen_in meaning receiver i network) held p)
      (held_is es receiver i kept is) (carries_in k (of_one receiver i (Carries p)) p there refl) in
      subst (λ rounds. NamesRound rounds m moment) (rounds_same receiver i kept.number m.start) (claim same)
  carries_heard k receiver moment Noted there = tt
  carries_heard k receiver moment Foreign there = tt

  pub carries_said : (number : ℕ) (receiver : Name) (message : Message)
      → packet_at number world.packets ≡ Some (packet.ToConsumer receiver message)
      → CarriesItsRound world receiver (moment_in message) (heard message)
  carries_said zero receiver message there = absurd (cc)
  carries_said (suc k) receiver message there = carries_heard k receiver (moment_in message) (heard message)
      (letter_is world network (world_stands es) k receiver message there)

-- ---- parts are taken once

once_in : (es : List Event) (happens : List Happens) (k : ℕ) (c i : Name) (m : Mark) (moment : ℕ) (more : Bool) (part : Carried)
    → slice_get (network_of es).letters k ≡ Some (of_one c i (Carries (Delivery m moment more part)))
    → outcome_of meaning ((network_of es).holdings c i) m ≡ life.Wanted
    → link.ChangesNoView (outcome_of meaning ((after_all happens (step meaning (network_of es) (Delivers k))).holdings c i) m)
once_in es =
    reach (λ n. (happens : List Happens) (k : ℕ) (c i : Name) (m : Mark) (moment : ℕ) (more : Bool) (part : Carried)
    → slice_get n.letters k ≡ Some (of_one c i (Carries (Delivery m moment more part)))
    → outcome_of meaning (n.holdings c i) m ≡ life.Wanted
    → link.ChangesNoView (outcome_of meaning ((after_all happens (step meaning n (Delivers k))).holdings c i) m))
    (λ happens k c i m moment more part there is. absurd (cc)) (λ start before. every.taken_once meaning meaning_lawful start before) es

module _ (before later : List Event) (k : ℕ) (goes : refusal (world_after before) (event.Deliver (suc k)) ≡ None) where
  abbrev all : List Event
  all = before ++ event.Deliver (suc k) ∷ later

  abbrev old : World
  old = world_after before

  abbrev new : World
  new = world_after all

  abbrev happens_later : List Happens
  happens_later = happened_from (after old (event.Deliver (suc k))) later

  network_later : network_of all ≡ after_all happens_later (step meaning (network_of before) (Delivers k))
  unfolding happening
  network_later =
      network_more before (event.Deliver (suc k) ∷ later)
      ∙ ap (λ refused. after_all (happening_if refused old (event.Deliver (suc k)) ++ happens_later) (network_of before)) goes

  once_heard : (receiver : Name) (c d : Consuming) (moment : ℕ) (it : Heard)
      → slice_get (network_of before).letters k ≡ Some (letter_heard receiver moment it) → IsFor receiver it
      → consumer_of receiver old.consumers ≡ Some c → consumer_of receiver new.consumers ≡ Some d
      → TakesPart (Some (seen_by c it).outcome) → ChangesNoView (Some (seen_by d it).outcome)
  once_heard receiver c d moment (Delivered subscriber i m more part) there own found later_found takes =
      let wanted = taken_wanted c i ((network_of before).holdings receiver i) m more
      (subst (λ held. TakesPart (Some (seen_in_delivery c i held m more).outcome))
      (kept_for_is old (network_of before) (world_stands before) receiver subscriber i c found own) takes) in
      let claim = once_in before happens_later k receiver i m moment more part there wanted in
      subst (λ held. ChangesNoView (Some (seen_in_delivery d i held m more).outcome))
      (sym (kept_for_is new (network_of all) (world_stands all) receiver subscriber i d later_found own))
      (changes_none d i ((network_of all).holdings receiver i) m more
      (subst (λ (n : WorldNetwork). link.ChangesNoView (outcome_of meaning (n.holdings receiver i) m))
      (sym network_later) claim))
  once_heard receiver c d moment (Notified i m) there own found later_found takes = absurd (notified_takes_none c i _ m takes)
  once_heard receiver c d moment Noted there own found later_found takes = absurd takes
  once_heard receiver c d moment Foreign there own found later_found takes = absurd takes

  still_sent : (p : SentPacket) → slice_get old.packets k ≡ Some p → slice_get new.packets k ≡ Some p
  still_sent p there =
      subst (λ (w : World). slice_get w.packets k ≡ Some p) (sym (after_more before (event.Deliver (suc k) ∷ later)))
      ((all_grow old (event.Deliver (suc k) ∷ later)).packets k p there)

  still_there : (name : Name) → IsThere (consumer_of name old.consumers) → IsThere (consumer_of name new.consumers)
  still_there name there =
      subst (λ (w : World). IsThere (consumer_of name w.consumers)) (sym (after_more before (event.Deliver (suc k) ∷ later)))
      ((all_grow old (event.Deliver (suc k) ∷ later)).consumers name there)

  once_taken : (receiver : Name) (message : Message) → slice_get old.packets k ≡ Some
      (packet.ToConsumer receiver message) → TakesPart (said_by (consumer_of receiver old.consumers) message)
      → ChangesNoView (said_by (consumer_of receiver new.consumers) message)
  once_taken receiver message there takes = by (consumer_of receiver old.consumers) (consumer_of receiver new.consumers) refl refl takes
    where
      by : (found later_found : Option Consuming) → consumer_of receiver old.consumers ≡ found
          → consumer_of receiver new.consumers ≡ later_found → TakesPart (said_by found message)
          → ChangesNoView (said_by later_found message)
      by None later_found is later_is takes = absurd takes
      by (Some c) None is later_is takes = absurd (subst IsThere later_is (still_there receiver (subst IsThere (sym is) tt)))
      by (Some c) (Some d) is later_is takes =
          once_heard receiver c d (moment_in message) (heard message) (letter_is old (network_of before) (world_stands before) k receiver message there)
          (is_for old (network_of before) (world_stands before) k receiver message there) is later_is takes

  once_packet : (found : Option SentPacket) → slice_get old.packets k ≡ found → TakesPart (said_of old found) → ChangesNoView (said new (suc k))
  once_packet None there takes = absurd takes
  once_packet (Some (packet.ToProducer sender message)) there takes = absurd takes
  once_packet (Some (packet.ToConsumer receiver message)) there takes =
      subst (λ found. ChangesNoView (said_of new found)) (sym (still_sent (packet.ToConsumer receiver message) there)) (once_taken receiver message there takes)

-- a part that was taken changes no view when it comes again
pub once_said : (before later : List Event) (number : ℕ) → refusal (world_after before) (event.Deliver number) ≡ None
    → TakesPart (said (world_after before) number) → ChangesNoView
    (said (world_after (before ++ event.Deliver number ∷ later)) number)
once_said before later zero goes takes = absurd takes
once_said before later (suc k) goes takes = once_packet before later k goes (slice_get (world_after before).packets k) refl takes
