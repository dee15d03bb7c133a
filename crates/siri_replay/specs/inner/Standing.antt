-- Inner words: the events that a script stands for.
use Rattle.std.specs.Prelude.{◌≡◌}
use Rattle.siri_world.specs.Known.{StandsFor}
use Rattle.siri_replay.specs.declared.script.Script.{Script}
use Rattle.siri_replay.specs.Report.{World, is_started}

-- its world stands for them, and it knows whether a start came
pub record Fits (script : Script) (events : World) : Type 0 where
  pub world : StandsFor script.world events
  pub started : script.started ≡ is_started events
