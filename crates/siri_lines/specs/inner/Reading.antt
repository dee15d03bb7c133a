-- Inner words: how far lines were read.
use Rattle.std.specs.Prelude.{◌≡◌, ℕ, ◌+◌, List, [], ◌∷◌, ◌++◌, MatchBool, Option, None, Some}
use Rattle.std.specs.Io.KnownBytes.{Appends}
use Rattle.std.specs.Str.Lines.{lines}
use Rattle.siri_base.specs.declared.status.Status.{Status}
use Rattle.siri_base.specs.declared.status.Status.TheVariants as status
use Rattle.siri_lines.specs.declared.stop.Stop.{Stop}
use Rattle.siri_lines.specs.declared.stop.Stop.TheVariants as stop
use Rattle.siri_lines.specs.RunResult.{RunResult, Events, report_from}
use Rattle.siri_lines.specs.Ends.{Bytes, Ends, AppendsFront, AreWholeLines, HasNoBreak, is_cut}
use Rattle.siri_lines.specs.Fronts.{gone_through}

-- how far lines were read: the lines that ended, the world that they made, the bytes of the line that has begun
pub record Progress (W : Type 0) : Type 0 where
  pub lines : ℕ
  pub world : W
  pub line : List ℕ

-- what is to come where these lines follow
abbrev pub to_come : {W : Type 0} → Events W → Progress W → List (List ℕ) → RunResult
to_come event at more = report_from event (at.lines + 1) at.world more

-- the world after these lines, where none of them ends the run
abbrev pub gone_from : {W : Type 0} → Events W → Progress W → List (List ℕ) → Option W
gone_from event at more = gone_through event (at.lines + 1) at.world more

-- some text was written, and what was to come is this text and what is to come
pub record Continues (old : Bytes) (before : RunResult) (new : Bytes) (after : RunResult) : Type 0 where
  pub text : List ℕ
  pub written : Appends old new text
  pub parts : before.text ≡ text ++ after.text
  pub status_is : before.status ≡ after.status

-- the bytes were read: their lines ended and brought what they bring, and the next line has begun
pub record Advances {W : Type 0} (event : Events W) (old : Bytes) (from : Progress W) (bytes : List ℕ) (new : Bytes) (to : Progress W) : Type 0 where
  pub ended : List ℕ
  pub parts : from.line ++ bytes ≡ ended ++ to.line
  pub whole : AreWholeLines ended
  pub begun : HasNoBreak to.line
  pub continues : (more : List (List ℕ)) → Continues old (to_come event from (lines ended ++ more)) new (to_come event to more)
  pub leads : (more : List (List ℕ)) → gone_from event from (lines ended ++ more) ≡ gone_from event to more

-- a line was taken, and brought what it brings
pub record TakesLine {W : Type 0} (event : Events W) (old : Bytes) (from : Progress W) (line : List ℕ) (new : Bytes) (to : Progress W) : Type 0 where
  pub continues : (more : List (List ℕ)) → Continues old (to_come event from (line ∷ more)) new (to_come event to more)
  pub leads : (more : List (List ℕ)) → gone_from event from (line ∷ more) ≡ gone_from event to more

-- the run was cut off in these bytes: a front of what their whole lines bring was written
pub record CutsOff {W : Type 0} (event : Events W) (old : Bytes) (from : Progress W) (bytes : List ℕ) (new : Bytes) : Type 0 where
  pub ended : List ℕ
  pub rest : List ℕ
  pub parts : from.line ++ bytes ≡ ended ++ rest
  pub whole : AreWholeLines ended
  pub front : AppendsFront old new (to_come event from (lines ended)).text

-- the bytes end the run with this status, whatever follows
abbrev pub EndsWithin : {W : Type 0} → Events W → Bytes → Progress W → List ℕ → Bytes → Status → Type 0
EndsWithin event old from bytes new status = (rest : List ℕ) → Ends old (to_come event from (lines ((from.line ++ bytes) ++ rest))) new status

-- the bytes ended the run, or it was cut off in them
abbrev pub Breaks : {W : Type 0} → Events W → Bytes → Progress W → List ℕ → Bytes → Stop → Type 0
Breaks event old from bytes new (stop.Script n reason) = EndsWithin event old from bytes new (status.Script n reason)
Breaks event old from bytes new (stop.Limit n) = EndsWithin event old from bytes new (status.Limit n)
Breaks event old from bytes new stop.OutOfMemory = CutsOff event old from bytes new
Breaks event old from bytes new stop.WriteFault = CutsOff event old from bytes new

-- a line ended the run, whatever follows, or it was cut off at that line
abbrev pub LineBreaks : {W : Type 0} → Events W → Bytes → Progress W → List ℕ → Bytes → Stop → Type 0
LineBreaks event old from line new (stop.Script n reason) = (more : List (List ℕ)) → Ends old (to_come event from (line ∷ more)) new (status.Script n reason)
LineBreaks event old from line new (stop.Limit n) = (more : List (List ℕ)) → Ends old (to_come event from (line ∷ more)) new (status.Limit n)
LineBreaks event old from line new stop.OutOfMemory = AppendsFront old new (to_come event from (line ∷ [])).text
LineBreaks event old from line new stop.WriteFault = AppendsFront old new (to_come event from (line ∷ [])).text

-- where reading begins
abbrev pub beginning : {W : Type 0} → W → Progress W
beginning fresh = record { lines = 0; world = fresh; line = [] }

-- the input has ended: the line that has begun is the last one
abbrev pub Finishes : {W : Type 0} → Events W → Bytes → Progress W → Bytes → Status → Type 0
Finishes event old from new status = MatchBool (is_cut status)
    (AppendsFront old new (to_come event from (lines from.line)).text)
    (Ends old (to_come event from (lines from.line)) new status)

-- the last line, if one has begun, was taken
abbrev pub GoesToEnd : {W : Type 0} → Events W → Progress W → Progress W → Type 0
GoesToEnd event from to = gone_from event from (lines from.line) ≡ Some to.world

-- these bytes were read of an input, where this is left of it
abbrev pub IsTaken : Bytes → List ℕ → Bytes → Type 0
IsTaken None taken left = Unit {0}
IsTaken (Some input) taken None = ⊥
IsTaken (Some input) taken (Some left) = input ≡ taken ++ left

-- the bytes that were read led here, told or not
pub record Passes {W : Type 0} (event : Events W) (fresh : W) (input left : Bytes) (to : Progress W) : Type 0 where
  pub taken : List ℕ
  pub read : IsTaken input taken left
  pub ended : List ℕ
  pub parts : taken ≡ ended ++ to.line
  pub whole : AreWholeLines ended
  pub leads : (more : List (List ℕ)) → gone_from event (beginning fresh) (lines ended ++ more) ≡ gone_from event to more

-- what was read of the input, and what it brought
pub record HasRead {W : Type 0} (event : Events W) (fresh : W) (input left : List ℕ) (old : Bytes) (to : Progress W) (now : Bytes) : Type 0 where
  pub taken : List ℕ
  pub read : input ≡ taken ++ left
  pub advances : Advances event old (beginning fresh) taken now to

-- the same of a source that told its bytes
abbrev pub Follows : {W : Type 0} → Events W → W → Bytes → Bytes → Bytes → Progress W → Bytes → Type 0
Follows event fresh None left old to now = Unit {0}
Follows event fresh (Some input) None old to now = ⊥
Follows event fresh (Some input) (Some left) old to now = HasRead event fresh input left old to now
