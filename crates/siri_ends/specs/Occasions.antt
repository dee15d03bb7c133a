-- What a run calls an end for.
use Rattle.std.specs.Prelude.{ℕ}
use Rattle.siri_http.specs.declared.asked.Asked.{Asked}

-- it is given a moment; a connection asks something; or its turn is over
pub data Occasion : Type 0 where
  OfMoment : ℕ → Occasion
  OfConnection : Asked → Occasion
  AfterTurn : Occasion
