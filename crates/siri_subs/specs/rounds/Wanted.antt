-- The wanted part of the outstanding round, and what is answered to a consumer that asks for it (EN 15531-2,
-- DataSupplyRequest).
use Rattle.std.specs.Prelude.{ℕ, suc, nat_lt, Bool, true, false, List, map, length, slice_get, Option, Some, None, option_map, Result, Ok, Err}
use Rattle.siri_base.specs.declared.place.Place.{Place}
use Rattle.siri_records.specs.Keyed.{Items, KeyChange}
use Rattle.siri_change.specs.Parts.{Carried, carried, parts_of}
use Rattle.siri_life.specs.Life.{Round, Outstanding}
use Rattle.siri_life.specs.Slot.{Slot, wants}
use Rattle.siri_subs.specs.declared.rounds.answers.SupplyError.{SupplyError}
use Rattle.siri_subs.specs.declared.rounds.answers.SupplyError.TheVariants as refused_as
use Rattle.siri_subs.specs.declared.rounds.parts.Part.{Part}

-- the rounds of a subscription: its views are items by key, its parts are lists of changes
abbrev pub RoundsOfChanges : Type 0
RoundsOfChanges = Slot Items (List KeyChange)

-- the round that begins at a moment, on the acknowledged view: it leads to a view by a list of changes, cut in parts
abbrev pub round_on : (acknowledged : Items) → (moment : ℕ) → (target : Items) → List KeyChange → Round Items (List KeyChange)
round_on acknowledged moment target list =
    record { moment = moment; base = acknowledged; target = target; parts = parts_of list }

-- ---- what of them belongs to the subscription's life: its parts are what functional deliveries carry
abbrev pub KeptRounds : Type 0
KeptRounds = Slot Items Carried

abbrev pub round_carried : Round Items (List KeyChange) → Round Items Carried
round_carried round =
    record { moment = round.moment; base = round.base; target = round.target; parts = map carried round.parts }

abbrev pub outstanding_carried : Outstanding Items (List KeyChange) → Outstanding Items Carried
outstanding_carried o =
    record { round = round_carried o.round; acknowledged_parts = o.acknowledged_parts; last_sent = o.last_sent }

abbrev pub rounds_carried : RoundsOfChanges → KeptRounds
rounds_carried s = record {
  fetched = s.fetched;
  acknowledged = s.acknowledged;
  rounds_opened = s.rounds_opened;
  outstanding = option_map outstanding_carried s.outstanding;
}

-- ---- the wanted part

-- a part as it is wanted: its place, the moment at which its round began, MoreData where another follows, what it carries
pub record PartOf (P : Type 0) : Type 0 where
  pub place : Place
  pub moment : ℕ
  pub more : Bool
  pub carried : P

module _ {P : Type 0} where
  -- its place: it is the first part that isn't acknowledged, of the last round
  abbrev pub place_in : ℕ → Outstanding Items P → Place
  place_in opened o = record { round = opened; part = suc o.acknowledged_parts }

  abbrev pub wanted_place : Slot Items P → Option Place
  wanted_place s = option_map (place_in s.rounds_opened) s.outstanding

  abbrev pub wanted_in : ℕ → Outstanding Items P → P → PartOf P
  wanted_in opened o part = record {
    place = place_in opened o;
    moment = o.round.moment;
    more = nat_lt (suc o.acknowledged_parts) (length o.round.parts);
    carried = part;
  }

  abbrev pub wanted_part_of : ℕ → Option (Outstanding Items P) → Option (PartOf P)
  wanted_part_of opened None = None
  wanted_part_of opened (Some o) = option_map (wanted_in opened o) (slice_get o.round.parts o.acknowledged_parts)

  -- the wanted part, where a round is outstanding
  abbrev pub wanted_part : Slot Items P → Option (PartOf P)
  wanted_part s = wanted_part_of s.rounds_opened s.outstanding

-- a lent part: its changes, each with its key, in their order
abbrev pub part_lent : Part → PartOf (List KeyChange)
part_lent part = record { place = part.place; moment = part.moment; more = part.more; carried = part.changes.now }

-- a part as it is sent
abbrev pub WantedPart : Type 0
WantedPart = PartOf Carried

abbrev pub part_carried : PartOf (List KeyChange) → WantedPart
part_carried part = record { place = part.place; moment = part.moment; more = part.more; carried = carried part.carried }

-- a lent part, as it is sent
abbrev pub part_sent : Part → WantedPart
part_sent part = part_carried (part_lent part)

-- ---- DataSupplyRequest

abbrev pub supply_answer_by : (fetched : Bool) → (wanted : Option Place) → (is_wanted : Bool) → Result (Unit {0}) SupplyError
supply_answer_by true (Some wanted) true = Ok tt
supply_answer_by true (Some wanted) false = Err (refused_as.WrongPart wanted)
supply_answer_by true None is_wanted = Err refused_as.NothingReady
supply_answer_by false wanted is_wanted = Err refused_as.NothingReady

-- what a request for a part is answered: it is ready where it is the wanted part of a fetched round
abbrev pub supply_answer : RoundsOfChanges → Place → Result (Unit {0}) SupplyError
supply_answer s place = supply_answer_by s.fetched (wanted_place s) (wants s place.round place.part)
