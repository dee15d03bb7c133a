-- A table with other slots, each made of the one that was there: as what is kept of a life is made of the life.
use Rattle.std.specs.Prelude.{List, map}
use Rattle.siri_subs.specs.declared.entry.Row.{Row}

module _ {E F : Type 0} where
  -- a row with another slot
  abbrev pub mapped_row : (E → F) → Row E → Row F
  mapped_row slot_of h = record {
    wanted = h.wanted;
    number = h.number;
    base = h.base;
    address = h.address;
    beat = h.beat;
    slot = slot_of h.slot;
  }

  -- a table with other slots
  abbrev pub with_mapped_slots : (E → F) → List (Row E) → List (Row F)
  with_mapped_slots slot_of table = map (mapped_row slot_of) table
