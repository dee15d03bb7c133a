-- Inner words: what the lines that were taken stand for.
use Rattle.std.specs.Prelude.{◌≡◌}
use Rattle.siri_runs.specs.declared.consuming.wanted_lines.WantedLines.{WantedLines}
use Rattle.siri_runs.specs.consumers.Wanting.{Asking}

-- its subscriber, and what was wanted so far
pub record Fits (taken : WantedLines) (asking : Asking) : Type 0 where
  pub subscriber : taken.subscriber.now ≡ asking.subscriber
  pub wanted : taken.wanted ≡ asking.wanted
