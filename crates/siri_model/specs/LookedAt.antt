-- What is kept of a life together with what is known of the last look at it.
use Rattle.std.specs.Prelude.{ℕ, List, map, Option, Some, None, option_map}
use Rattle.siri_records.specs.declared.key.Key.{Key}
use Rattle.siri_records.specs.Keyed.{Items}
use Rattle.siri_messages.specs.Asked.{AskedFor}
use Rattle.siri_life.specs.Life.{Outstanding}
use Rattle.siri_subs.specs.declared.entry.Row.{Row}
use Rattle.siri_subs.specs.Mapped.{mapped_row}
use Rattle.siri_model.specs.Rows.{KeptLife, acknowledged_row, nothing_kept, settled_row, supplied_row}
use Rattle.siri_model.specs.Steps.{Keeps}

-- what is kept of a life, and its last look, none before the first
pub record LookedAt (L : Type 0) : Type 0 where
  pub life : KeptLife
  pub look : Option L

-- a settle is a look where nothing is outstanding
abbrev pub look_by : {P L : Type 0} → Option (Outstanding Items P) → (before : Option L) → (now : L) → Option L
look_by None before now = Some now
look_by (Some outstanding) before now = before

module _ {L : Type 0} where
  -- the row as its life is kept
  abbrev pub life_row : Row (LookedAt L) → Row KeptLife
  life_row row = mapped_row (λ kept. kept.life) row

  -- what begins wasn't looked at yet
  abbrev pub unlooked : ℕ → AskedFor → LookedAt L
  unlooked now asked = record { life = nothing_kept now asked; look = None }

  -- a row with what is kept of the life changed, and its look as it was
  abbrev pub lifted : (Row KeptLife → Row KeptLife) → Row (LookedAt L) → Row (LookedAt L)
  lifted change row = record row { slot = record row.slot { life = (change (life_row row)).slot } }

  -- a row with its look changed, where there was one
  abbrev pub with_look : (L → L) → Row (LookedAt L) → Row (LookedAt L)
  with_look change row = record row { slot = record row.slot { look = option_map change row.slot.look } }

-- by the look of a settle, and by what a look becomes where keys are touched
module _ {L : Type 0} (look_at : ℕ → Items → Row KeptLife → L) (touched_look : List Key → L → L) where
  -- a row after a settle, by the current items at a moment
  abbrev pub settled : ℕ → Items → Row (LookedAt L) → Row (LookedAt L)
  settled now items row = record row {
    slot = record {
      life = (settled_row now items (life_row row)).slot;
      look = look_by row.slot.life.rounds.outstanding row.slot.look (look_at now items (life_row row));
    };
  }

  abbrev pub keeps_looks : Keeps (LookedAt L)
  keeps_looks = record {
    begun = unlooked;
    acknowledged = λ start now mark. lifted (acknowledged_row start now mark);
    supplied = λ start now mark. lifted (supplied_row start now mark);
    settled = settled;
    touched = λ keys. map (with_look (touched_look keys));
  }
