-- What of the rounds belongs to a subscription's life changes as the rounds do.
use Rattle.std.proofs.Common.{◌≡◌, ℕ, suc, nat_lt, nat_eq, Bool, true, false, ◌&&◌, List, length, map, Option, Some, None, slice_get}
use Rattle.std.proofs.Common.{option_map, refl, ap, sym, ◌∙◌}
use Rattle.std.proofs.lemmas.Option.{slice_get-map}
use Rattle.siri_records.specs.Keyed.{Items, KeyChange}
use Rattle.siri_change.specs.Parts.{carried}
use Rattle.siri_change.proofs.InParts.{length_map}
use Rattle.siri_life.specs.Life.{Outstanding}
use Rattle.siri_life.specs.Slot.{is_message_due, is_message_due_of, sent, sent_of, wants, wants_of, with_acknowledgement}
use Rattle.siri_life.specs.Slot.{acknowledgement_if, acknowledgement_of, next_if, with_supply, supply_if, supply_of}
use Rattle.siri_subs.specs.rounds.Wanted.{RoundsOfChanges, outstanding_carried, rounds_carried, part_carried, wanted_in, wanted_part, wanted_part_of}

-- ---- the wanted part

pub wants_carried : (s : RoundsOfChanges) (round part : ℕ) → wants (rounds_carried s) round part ≡ wants s round part
wants_carried s round part = of s.outstanding
  where
    of : (o : Option (Outstanding Items (List KeyChange)))
        → wants_of s.rounds_opened (option_map outstanding_carried o) round part ≡ wants_of s.rounds_opened o round part
    of None = refl
    of (Some o) = refl

part_of_carried : (opened n : ℕ) (o : Outstanding Items (List KeyChange)) (part : Option (List KeyChange)) → n ≡ length o.round.parts
    → option_map (λ p. record (wanted_in opened (outstanding_carried o) p)
    { more = nat_lt (suc o.acknowledged_parts) n }) (option_map carried part) ≡ option_map part_carried
    (option_map (wanted_in opened o) part)
part_of_carried opened n o None same = refl
part_of_carried opened n o (Some part) same = rw same refl

wanted_of_carried : (opened : ℕ) (o : Option (Outstanding Items (List KeyChange)))
    → wanted_part_of opened (option_map outstanding_carried o) ≡ option_map part_carried (wanted_part_of opened o)
wanted_of_carried opened None = refl
wanted_of_carried opened (Some o) =
    ap (option_map (wanted_in opened (outstanding_carried o))) (slice_get-map carried o.round.parts o.acknowledged_parts)
    ∙ part_of_carried opened (length (map carried o.round.parts)) o (slice_get o.round.parts o.acknowledged_parts) (length_map carried o.round.parts)

-- it is what is carried of the wanted changes
pub wanted_carried : (s : RoundsOfChanges) → wanted_part (rounds_carried s) ≡ option_map part_carried (wanted_part s)
wanted_carried s = wanted_of_carried s.rounds_opened s.outstanding

-- ---- messages of it

pub due_carried : (s : RoundsOfChanges) (now : ℕ) → is_message_due (rounds_carried s) now ≡ is_message_due s now
due_carried s now = of s.outstanding
  where
    of : (o : Option (Outstanding Items (List KeyChange))) → is_message_due_of (option_map outstanding_carried o) now ≡ is_message_due_of o now
    of None = refl
    of (Some o) = refl

sent_of_carried : (s : RoundsOfChanges) (o : Option (Outstanding Items (List KeyChange))) (now : ℕ)
    → rounds_carried (sent_of s o now) ≡ sent_of (rounds_carried s) (option_map outstanding_carried o) now
sent_of_carried s None now = refl
sent_of_carried s (Some o) now = refl

pub sent_carried : (s : RoundsOfChanges) (now : ℕ) → rounds_carried (sent s now) ≡ sent (rounds_carried s) now
sent_carried s now = sent_of_carried s s.outstanding now

-- ---- a request for a part

supply_if_carried : (b : Bool) (s : RoundsOfChanges) (o : Outstanding Items (List KeyChange)) (now : ℕ)
    → rounds_carried (supply_if b s o now) ≡ supply_if b (rounds_carried s) (outstanding_carried o) now
supply_if_carried true s o now = refl
supply_if_carried false s o now = refl

supply_of_carried : (s : RoundsOfChanges) (o : Option (Outstanding Items (List KeyChange))) (round part now : ℕ)
    → rounds_carried (supply_of s o round part now) ≡ supply_of (rounds_carried s) (option_map outstanding_carried o) round part now
supply_of_carried s None round part now = refl
supply_of_carried s (Some o) round part now =
    supply_if_carried (s.fetched && (nat_eq round s.rounds_opened && nat_eq part (suc o.acknowledged_parts))) s o now

pub supply_carried : (s : RoundsOfChanges) (round part now : ℕ) → rounds_carried (with_supply s round part now) ≡ with_supply (rounds_carried s) round part now
supply_carried s round part now = supply_of_carried s s.outstanding round part now

-- ---- an acknowledgement

next_if_carried : (b : Bool) (s : RoundsOfChanges) (o : Outstanding Items (List KeyChange)) (now : ℕ)
    → rounds_carried (next_if b s o now) ≡ next_if b (rounds_carried s) (outstanding_carried o) now
next_if_carried true s o now = refl
next_if_carried false s o now = refl

acknowledgement_if_carried : (b : Bool) (s : RoundsOfChanges) (o : Outstanding Items (List KeyChange)) (now : ℕ)
    → rounds_carried (acknowledgement_if b s o now) ≡ acknowledgement_if b (rounds_carried s) (outstanding_carried o) now
acknowledgement_if_carried true s o now =
    next_if_carried (nat_lt (suc o.acknowledged_parts) (length o.round.parts)) s o now
    ∙ ap (λ n. next_if (nat_lt (suc o.acknowledged_parts) n) (rounds_carried s) (outstanding_carried o) now) (sym (length_map carried o.round.parts))
acknowledgement_if_carried false s o now = refl

acknowledgement_of_carried : (s : RoundsOfChanges) (o : Option (Outstanding Items (List KeyChange))) (round part now : ℕ)
    → rounds_carried (acknowledgement_of s o round part now) ≡ acknowledgement_of (rounds_carried s) (option_map outstanding_carried o) round part now
acknowledgement_of_carried s None round part now = refl
acknowledgement_of_carried s (Some o) round part now =
    acknowledgement_if_carried (nat_eq round s.rounds_opened && nat_eq part (suc o.acknowledged_parts)) s o now

pub acknowledgement_carried : (s : RoundsOfChanges) (round part now : ℕ)
    → rounds_carried (with_acknowledgement s round part now) ≡ with_acknowledgement (rounds_carried s) round part now
acknowledgement_carried s round part now = acknowledgement_of_carried s s.outstanding round part now
