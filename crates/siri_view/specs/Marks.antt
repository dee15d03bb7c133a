-- Inner words: cited by private functions alone. Marks and what they say, as the code has them.
use Rattle.std.specs.Prelude.{◌==◌, cond, ◌&&◌}
use Rattle.siri_life.specs.Life.{Mark}
use Rattle.siri_life.specs.Link as life
use Rattle.siri_view.specs.declared.marks.Numbers.{Numbers}
use Rattle.siri_view.specs.declared.marks.Saying.{Saying}
use Rattle.siri_view.specs.declared.marks.Saying.TheVariants as saying

-- the mark with these numbers
abbrev pub mark_by : Numbers → Mark
mark_by n = record { number = n.number; start = n.start; round = n.round; part = n.part }

-- what is said, as an outcome of a mark
abbrev pub said : Saying → life.Outcome
said saying.UnknownSubscription = life.UnknownSubscription
said saying.OldStart = life.OldStart
said saying.Gap = life.Gap
said saying.Repeat = life.Repeat
said saying.Overlong = life.Overlong
said saying.Wanted = life.Wanted

-- of a start that is greater than the kept one
abbrev pub of_greater_start : Mark → life.Outcome
of_greater_start m = cond (m.round == 1 && m.part == 1) life.Wanted life.Gap
