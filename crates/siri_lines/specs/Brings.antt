-- What one line brings.
use Rattle.std.specs.Prelude.{◌≡◌, ℕ, ◌≤◌, List, [], Bool, true, false, Result, Ok, Err, IsErrOf}
use Rattle.std.specs.Io.KnownBytes.{Appends, Keeps}
use Rattle.siri_outside.specs.Causes.{Rose}
use Rattle.siri_base.specs.declared.status.Status.{Status}
use Rattle.siri_base.specs.declared.status.Status.TheVariants as status
use Rattle.siri_lines.specs.declared.stop.Stop.{Stop}
use Rattle.siri_lines.specs.declared.stop.Stop.TheVariants as stop
use Rattle.siri_lines.specs.RunResult.{Verdict, Goes, RunEnds}
use Rattle.siri_lines.specs.Ends.{Bytes, AppendsFront}

-- what a verdict has written
abbrev pub verdict_text : {W : Type 0} → Verdict W → List ℕ
verdict_text (Goes text world) = text
verdict_text (RunEnds status) = []

-- the line's text was written, and the taker stands for the world after it
pub record GoesOn {T W : Type 0} (Fits : T → W → Type 0) (now : T) (old new : Bytes) (v : Verdict W) : Type 0 where
  pub text : List ℕ
  pub world : W
  pub is : v ≡ Goes text world
  pub stands : Fits now world
  pub written : Appends old new text

-- the line ends the run, and nothing was written
pub record EndsRun {W : Type 0} (old new : Bytes) (v : Verdict W) (end : Status) : Type 0 where
  pub is : v ≡ RunEnds end
  pub written : Keeps old new

-- What a line brought is its verdict. Where memory was wanted or the sink failed, a front of its text was written.
abbrev pub Brings : {T W : Type 0} → (T → W → Type 0) → T → Bytes → Bytes → Result Unit Stop → Verdict W → Type 0
Brings Fits now old new (Ok done) v = GoesOn Fits now old new v
Brings Fits now old new (Err (stop.Script n reason)) v = EndsRun old new v (status.Script n reason)
Brings Fits now old new (Err (stop.Limit n)) v = EndsRun old new v (status.Limit n)
Brings Fits now old new (Err stop.OutOfMemory) v = AppendsFront old new (verdict_text v)
Brings Fits now old new (Err stop.WriteFault) v = AppendsFront old new (verdict_text v)

-- the sink's count never falls, and a call that failed to write raised it
pub record StopCause {T : Type 0} (before now : ℕ) (result : Result T Stop) : Type 0 where
  pub later : before ≤ now
  pub failed : IsErrOf result stop.WriteFault → Rose before now

-- a line at which the sink failed
abbrev pub has_failed_to_write : {T : Type 0} → Result T Stop → Bool
has_failed_to_write (Ok done) = false
has_failed_to_write (Err (stop.Script n reason)) = false
has_failed_to_write (Err (stop.Limit n)) = false
has_failed_to_write (Err stop.OutOfMemory) = false
has_failed_to_write (Err stop.WriteFault) = true
