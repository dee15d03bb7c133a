-- A consumer that a run opened with, and what it may ask for.
use Rattle.std.specs.Prelude.{◌≡◌, ◌≤◌, ℕ, List, [], length}
use Rattle.siri_lines.specs.Ends.{Bytes}
use Rattle.siri_view.specs.Consuming.{Consuming}
use Rattle.siri_wire.specs.declared.wanted.Wanted.{Wanted}
use Rattle.siri_runs.specs.Calls.{Outside}
use Rattle.siri_runs.specs.consumers.Opening.{Opens, opened}
use Rattle.siri_base.specs.Numbers.{greatest_number}
use Rattle.siri_runs.specs.consumers.Wanting.{most_wanted}

pub record OpensConsumer (name listen : List ℕ) (input : Bytes) (list : List Wanted) (consumer : Consuming) (from to : Outside) : Type 0 where
  pub start : ℕ
  pub moment : ℕ
  pub opens : Opens name listen input start list moment from to
  pub consumer_is : consumer ≡ opened name listen start moment

-- it holds nothing, its numbers aren't used up, and no more is wanted than it may hold
pub record MayAsk (consumer : Consuming) (list : List Wanted) : Type 0 where
  pub holds : consumer.held ≡ []
  pub unspent : consumer.next_number ≤ greatest_number
  pub few : length list ≤ most_wanted
