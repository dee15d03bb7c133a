-- The followed rows of a history are the rows of its table, each with its last look.
use Rattle.std.proofs.Common.{◌≡◌, ℕ, List, [], ◌∷◌, ◌++◌, map, fold, Bool, true, false, refl}
use Rattle.std.proofs.Common.{ap, sym, ◌∙◌, append_assoc, append-nil}
use Rattle.siri_records.specs.declared.key.Key.{Key}
use Rattle.siri_messages.specs.declared.message.Message.{Message}
use Rattle.siri_life.specs.Life.{Mark}
use Rattle.siri_subs.specs.declared.entry.Row.{Row}
use Rattle.siri_model.specs.History.{State, Step, History, nothing, after_step, state_of}
use Rattle.siri_model.specs.Lives.{table_of}
use Rattle.siri_model.specs.Rows.{KeptLife, is_numbered, acknowledged_row, supplied_row, keeps_lives, rows_of}
use Rattle.siri_model.specs.Rows.{rows_after}
use Rattle.siri_model.specs.Rows as rows
use Rattle.siri_model.specs.Steps.{rows_from}
use Rattle.siri_model.proofs.Carried.{Carries, carried_from, taken_carried}
use Rattle.siri_model.proofs.Histories.{rows_go_on}
use Rattle.siri_model.proofs.InOrder.{more_steps}
use Rattle.siri_model.specs.Followed.{Followed, followed_after, keeps_looks, life_row, rows_taken, touch}
use Rattle.siri_model.specs.laws.Looks.{AreTheRows, GoOn}

abbrev life_of : Followed → KeptLife
life_of followed = followed.life

abbrev lives : List (Row Followed) → List (Row KeptLife)
lives rows = map life_row rows

-- ---- a step

touched_lives : (keys : List Key) (rows : List (Row Followed)) → lives (map (touch keys) rows) ≡ lives rows
touched_lives keys [] = refl
touched_lives keys (row ∷ rows) = ap (λ l. life_row row ∷ l) (touched_lives keys rows)

-- an acknowledgement and a request to supply change nothing of a row but what is kept of its life
acknowledged_case : (b : Bool) (start now : ℕ) (m : Mark) (row : Row KeptLife) → is_numbered m row.number start ≡ b
    → record row { slot = (acknowledged_row start now m row).slot } ≡ acknowledged_row start now m row
acknowledged_case true start now m row h = rw h refl
acknowledged_case false start now m row h = rw h refl

supplied_case : (b : Bool) (start now : ℕ) (m : Mark) (row : Row KeptLife) → is_numbered m row.number start ≡ b
    → record row { slot = (supplied_row start now m row).slot } ≡ supplied_row start now m row
supplied_case true start now m row h = rw h refl
supplied_case false start now m row h = rw h refl

lives_go_with : Carries life_of keeps_looks keeps_lives
lives_go_with = record {
  begun = λ now asked. refl;
  acknowledged = λ start now m row. acknowledged_case (is_numbered m row.number start) start now m (life_row row) refl;
  supplied = λ start now m row. supplied_case (is_numbered m row.number start) start now m (life_row row) refl;
  settled = λ now items row. refl;
  touched = touched_lives;
}

pub taken_lives : (start now : ℕ) (m : Message) (followed : List (Row Followed))
    → lives (rows_taken start now m followed) ≡ rows.rows_taken start now m (lives followed)
unfolding rows_taken rows.rows_taken
taken_lives start now m followed = taken_carried life_of keeps_looks keeps_lives lives_go_with start now m followed

-- ---- histories

rows_reach : (h steps : History)
    → rows_from keeps_lives (state_of h) (rows_of (table_of h)) steps ≡ rows_of (table_of (h ++ steps))
unfolding rows_after
rows_reach h [] = ap (λ (l : History). rows_of (table_of l)) (sym (append-nil h))
rows_reach h (step ∷ steps) =
    let state = sym (more_steps h step) in
    let kept = sym (rows_go_on h step) in
    (λ i. rows_from keeps_lives (state i) (kept i) steps)
    ∙ (rows_reach (h ++ step ∷ []) steps
    ∙ ap (λ (l : History). rows_of (table_of l)) (append_assoc h (step ∷ []) steps))

pub are_the_rows : AreTheRows
are_the_rows h = carried_from life_of keeps_looks keeps_lives lives_go_with nothing [] h ∙ rows_reach [] h

from_more : (state : State) (followed : List (Row Followed)) (h : History) (step : Step)
    → rows_from keeps_looks state followed (h ++ step ∷ [])
    ≡ followed_after (fold after_step state h) step (rows_from keeps_looks state followed h)
unfolding followed_after
from_more state followed [] step = refl
from_more state followed (one ∷ h) step = from_more (after_step state one) (followed_after state one followed) h step

pub go_on : GoOn
go_on h step = from_more nothing [] h step
