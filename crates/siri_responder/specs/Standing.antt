-- Inner words: cited by private functions alone.
-- That a responder stands for a history.
use Rattle.std.specs.Prelude.{ℕ, []}
use Rattle.siri_records.specs.Keyed.{Items}
use Rattle.siri_model.specs.History.{History}
use Rattle.siri_store.specs.Marked.{unmarked}
use Rattle.siri_responder.specs.Known.{StandsFor}

-- some history has this start number, moment of its start, moment and live current items
abbrev pub HasHistory : ℕ → ℕ → ℕ → Items → Type 0
HasHistory start started moment held =
    (h : History) × StandsFor (record { name = []; start = start; started = started; moment = moment; held = held; reads = 0; marks = unmarked }) h
