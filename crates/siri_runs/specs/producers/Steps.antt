-- Inner words: cited by private functions alone. What a part of a run does, with the producer as it is.
use Rattle.std.specs.Prelude.{◌≡◌, ℕ, List, [], ◌∷◌}
use Rattle.siri_http.specs.declared.tally.Tally.{Tally}
use Rattle.siri_model.specs.History.{Start}
use Rattle.siri_producer.specs.Known.{Known, StandsFor}
use Rattle.siri_runs.specs.Calls.{Outside}
use Rattle.siri_runs.specs.producers.Opening.{Opens}
use Rattle.siri_runs.specs.producers.Serving.{Serving}

-- a producer that a run opened with
pub record OpensProducer (name listen : List ℕ) (producer : Known) (from to : Outside) : Type 0 where
  pub start : ℕ
  pub moment : ℕ
  pub opens : Opens listen start moment from to
  pub stands : StandsFor producer (Start start moment ∷ [])
  pub name_is : producer.responder.name ≡ name

-- a producer as it is stands for whatever history it stands for, with what was counted
pub record Stands (producer : Known) (tally : Tally) (state : Serving) : Type 0 where
  pub history : StandsFor producer state.history
  pub tally_is : tally ≡ state.tally
