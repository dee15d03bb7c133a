-- Inner words: the worlds that a taker of lines stands for.
use Rattle.std.specs.Prelude.{◌≡◌, ℕ, ◌+◌, ◌-◌, ◌*◌, ◌≤◌, ◌<◌, List, ◌++◌, length}
use Rattle.siri_outside.specs.Causes.{Rose}
use Rattle.siri_base.specs.declared.status.Status.{Status}
use Rattle.siri_base.specs.declared.status.Status.TheVariants as status
use Rattle.siri_lines.specs.declared.reader.Reader.{Reader}
use Rattle.siri_lines.specs.declared.stop.Stop.{Stop}
use Rattle.siri_lines.specs.declared.stop.Stop.TheVariants as stop
use Rattle.siri_lines.specs.Ends.{HasNoBreak}
use Rattle.siri_lines.specs.Stops.{EndsLines}
use Rattle.siri_lines.specs.inner.Reading.{Progress}

-- how far lines were read, and what they made
abbrev pub progress : {W : Type 0} → Reader → W → Progress W
progress r world = record { lines = r.lines; world = world; line = r.line.items }

-- this holds in each world that the taker stood for
abbrev pub InEachWorld : {T W : Type 0} → (T → W → Type 0) → T → Reader → (Progress W → Type 0) → Type 0
InEachWorld {T} {W} Fits taker before Holds = (w : W) → Fits taker w → Holds (progress before w)

-- from each world that the taker stood for this leads to one that it stands for now
abbrev pub Leads : {T W : Type 0} → (T → W → Type 0) → T → Reader → T → Reader → (Progress W → Progress W → Type 0) → Type 0
Leads {T} {W} Fits old before new now Step = (w : W) → Fits old w →
    (v : W) × Fits new v × Step (progress before w) (progress now v)

-- how many bytes may come before a limit is met
abbrev pub room : Reader → ℕ
room r = 1048579 * (r.most + 1 - r.lines) - length r.line.items

-- no limit was met, and no byte of the line ends it
pub record IsWithin (r : Reader) : Type 0 where
  pub most : r.most ≤ 1000000
  pub lines : r.lines ≤ r.most
  pub line : length r.line.items ≤ 1048577
  pub begun : HasNoBreak r.line.items

-- the line becomes too long by these bytes; or it doesn't, and there is no memory for them
abbrev pub HasNoRoom : Reader → List ℕ → Stop → Type 0
HasNoRoom r run (stop.Limit n) = (n ≡ r.lines + 1) × (1048577 < length (r.line.items ++ run))
HasNoRoom r run stop.OutOfMemory = length (r.line.items ++ run) ≤ 1048577
HasNoRoom r run other = ⊥

-- the sink's count never falls, and a run that failed to write raised it
pub record EndCause (before now : ℕ) (end : Status) : Type 0 where
  pub later : before ≤ now
  pub failed : end ≡ status.WriteFault → Rose before now
  pub known : EndsLines end
