-- Inner words: cited by private functions alone. What the player of a load knows, and how far it came.
use Rattle.std.specs.Prelude.{◌≡◌, ℕ, ◌+◌, ◌*◌, ◌≤◌, List, [], length, Result, Ok, Err}
use Rattle.siri_lines.specs.RunResult.{RunResult, ends_with}
use Rattle.siri_base.specs.declared.status.Status.TheVariants as status
use Rattle.siri_world_model.specs.declared.line.Line.{Line}
use Rattle.siri_world_model.specs.declared.step_error.StepError.{StepError}
use Rattle.siri_world_model.specs.declared.step_error.StepError.TheVariants as error
use Rattle.siri_world_model.specs.Lines.{ToldLine, told_lines}
use Rattle.siri_world_model.specs.Told.{most_packets}
use Rattle.siri_world.specs.Known.{Known, StandsFor}
use Rattle.siri_load.specs.declared.stop.Stop.{Stop}
use Rattle.siri_load.specs.declared.stop.Stop.TheVariants as stop
use Rattle.siri_load.specs.declared.network.Network.{Network}
use Rattle.siri_load.specs.declared.network.Network.TheVariants.{Lossless, Lossy}
use Rattle.siri_load.specs.Events.{first_moment}
use Rattle.siri_load.specs.Load.{Progress, most_lines, delivers, delivers_or_loses}

-- its world, the number of its generator, the moment that it gave last, how many lines it made, how many packets it looked
-- at, and how many of these it lost
pub record Playing : Type 0 where
  pub world : Known
  pub number : ℕ
  pub moment : ℕ
  pub lines : ℕ
  pub looked : ℕ
  pub lost : ℕ

-- the limits: the clock goes a minute a line at most
pub record IsWithin (moment lines looked lost : ℕ) : Type 0 where
  pub lines_bound : lines ≤ most_lines
  pub moment_bound : moment ≤ first_moment + 60000 * lines
  pub looked_bound : looked ≤ most_packets
  pub lost_bound : lost ≤ looked

-- it came so far
pub record Plays (playing : Playing) (progress : Progress) : Type 0 where
  pub world : StandsFor playing.world progress.events
  pub number : playing.number ≡ progress.number
  pub moment : playing.moment ≡ progress.moment
  pub lines : playing.lines ≡ length progress.events
  pub looked : playing.looked ≡ progress.looked
  pub lost : playing.lost ≡ progress.lost

-- why it stops where the line of a number doesn't happen
abbrev pub stop_of : (line : ℕ) → StepError → Stop
stop_of line error.OutOfMemory = stop.OutOfMemory
stop_of line other = stop.Limit line

-- a call brings the player so far, or stops at the same line; memory may be wanting at any
abbrev pub Brings : Playing → Result Unit Stop → Result Progress ℕ → Type 0
Brings new (Ok done) (Ok progress) = Plays new progress
Brings new (Ok done) (Err n) = ⊥
Brings new (Err (stop.Limit line)) outcome = outcome ≡ Err line
Brings new (Err stop.OutOfMemory) outcome = Unit {0}

-- how far soever it came, this step is done
abbrev pub Does : Playing → Playing → Result Unit Stop → (Progress → Result Progress ℕ) → Type 0
Does old new result step = (progress : Progress) → Plays old progress → Brings new result (step progress)

-- what becomes of a packet
abbrev pub takes : Network → Progress → Result Progress ℕ
takes Lossless = delivers
takes Lossy = delivers_or_loses

-- this is told of the world, and the player came as far as before
pub record Shown (new : Playing) (lines : List Line) (told : List ToldLine) (progress : Progress) : Type 0 where
  pub lines_are : told_lines lines ≡ told
  pub plays : Plays new progress

-- nothing is told of what is refused
abbrev pub IsUntold : StepError → List Line → Type 0
IsUntold error.OutOfMemory lines = ⊥
IsUntold other lines = lines ≡ []

-- this is the line that a load writes, or it stops where the load does; memory may be wanting at any
abbrev pub Sums : {V : Type 0} → Result V Stop → (V → List ℕ) → RunResult → Type 0
Sums (Ok line) text told = told ≡ record { text = text line; status = status.Done }
Sums (Err (stop.Limit n)) text told = told ≡ ends_with (status.Limit n)
Sums (Err stop.OutOfMemory) text told = Unit {0}
