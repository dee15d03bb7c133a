-- Inner words: cited by private functions alone.
-- What a part of a turn over a shelf does.
use Rattle.std.specs.Prelude.{◌++◌}
use Rattle.siri_outside.specs.declared.errors.OutsideError.{OutsideError}
use Rattle.siri_outside.specs.declared.errors.OutsideError.TheVariants as outside
use Rattle.siri_model.specs.History.{History}
use Rattle.siri_outside.specs.Rows.{Rows}
use Rattle.siri_keeping.specs.Keeps.{Keeps}
use Rattle.siri_keep.specs.declared.errors.KeepError.{KeepError}
use Rattle.siri_keep.specs.declared.errors.KeepError.TheVariants as errors
use Rattle.siri_keep.specs.declared.kept.Kept.{Kept}
use Rattle.siri_keep.specs.Calls.{Holds, Left}

-- what a turn ends with where a call of it didn't succeed
abbrev pub outside_error : KeepError → OutsideError
outside_error errors.ShelfFault = outside.Failed
outside_error other = outside.OutOfMemory

-- the rows keep each history that they kept before, with these steps after it
abbrev pub KeepsOn : Kept → (steps : History) → Rows → Rows → Type 0
KeepsOn old steps before after = (h : History) → Holds old before h → Keeps old.producer.responder.name after (h ++ steps)

-- and are as the producer is now
pub record LeavesKept (old new : Kept) (steps : History) (before after : Rows) : Type 0 where
  pub left : (h : History) → Holds old before h → Left new after
  pub keeps : KeepsOn old steps before after
