-- Steps of a load: one after another, a line that is made, and one that isn't.
use Rattle.std.proofs.Common.{◌≡◌, ℕ, ◌+◌, ◌<◌, Bool, true, false, List, [], ◌∷◌, ◌++◌, length, Result, Ok, Err, sym, ap, ◌∙◌, subst}
use Rattle.std.proofs.Common.{if◌then◌else◌, length-append, arith}
use Rattle.std.specs.Prelude.{nat_le}
use Rattle.std.proofs.lemmas.Bool.{lt-leb}
use Rattle.siri_world_model.specs.declared.event.Event.{Event}
use Rattle.siri_world_model.specs.declared.step_error.StepError.{StepError}
use Rattle.siri_world_model.specs.declared.step_error.StepError.TheVariants as error
use Rattle.siri_world_model.specs.Lines.{ToldLine}
use Rattle.siri_world_model.specs.Told.{told}
use Rattle.siri_world.specs.Known.{StandsFor}
use Rattle.siri_world.specs.Refused.{Refuses}
use Rattle.siri_load.specs.declared.stop.Stop.{Stop}
use Rattle.siri_load.specs.declared.stop.Stop.TheVariants as stop
use Rattle.siri_load.specs.Load.{Progress, world_of, and_then, made_if, makes}
use Rattle.siri_load.specs.Playing.{Playing, Plays, Brings, stop_of}

-- ---- one after another

-- a step was done, and what follows brings the player on from there
pub brings_on : (mid new : Playing) (done : Unit {0}) (result : Result (Unit {0}) Stop)
    (step : Progress → Result Progress ℕ) (outcome : Result Progress ℕ) → Brings mid (Ok done) outcome
    → ((progress : Progress) → Plays mid progress → Brings new result (step progress))
    → Brings new result (and_then step outcome)
brings_on mid new done result step (Ok progress) plays on = on progress plays
brings_on mid new done result step (Err n) bad on = absurd bad

-- a step stops, and nothing follows
pub brings_none : (mid new : Playing) (why : Stop) (step : Progress → Result Progress ℕ) (outcome : Result Progress ℕ)
    → Brings mid (Err why) outcome → Brings new (Err why) (and_then step outcome)
brings_none mid new (stop.Limit n) step outcome is = ap (and_then step) is
brings_none mid new stop.OutOfMemory step outcome is = tt

-- ---- a line

-- whether the line of this number may be made
made_where : (event : Event) (progress : Progress) (late : Bool) → nat_le 1000000 (length progress.events) ≡ late
    → makes event progress ≡ (if late then Err (length progress.events + 1)
    else made_if (told (world_of progress) event) event progress)
unfolding makes
made_where event progress late is = ap (λ (b : Bool). if b then Err (length progress.events + 1)
    else made_if (told (world_of progress) event) event progress) is

pub made_early : (event : Event) (progress : Progress) → length progress.events < 1000000
    → makes event progress ≡ made_if (told (world_of progress) event) event progress
made_early event progress early = made_where event progress false (lt-leb 1000000 (length progress.events) early)

pub made_late : (event : Event) (progress : Progress) → length progress.events ≡ 1000000 → makes event progress ≡ Err (length progress.events + 1)
made_late event progress late = made_where event progress true (ap (nat_le 1000000) late)

-- a line is made: its event is told
pub made_told : (event : Event) (progress : Progress) (lines : List ToldLine) → length progress.events < 1000000
    → told (world_of progress) event ≡ Ok lines → makes event progress ≡ Ok
    (record progress { events = progress.events ++ event ∷ [] })
made_told event progress lines early is = made_early event progress early ∙ ap (λ outcome. made_if outcome event progress) is

-- no line is made: its event is refused
pub makes_none : (new : Playing) (event seen : Event) (progress : Progress) (line : ℕ) (why : StepError) (given : Stop)
    → seen ≡ event → given ≡ stop_of line why → length progress.events < 1000000 → line ≡ length progress.events + 1
    → Refuses (world_of progress) seen why → Brings new (Err given) (makes event progress)
makes_none new event seen progress line why given same is early number refuses =
    let family : Stop → Type 0 = λ given. Brings new (Err given) (makes event progress) in
    let along : Event → Type 0 = λ event. Refuses (world_of progress) event why in
    subst family (sym is) (by_error why (subst along same refuses))
  where
    refused : (why : StepError) → told (world_of progress) event ≡ Err why → makes event progress ≡ Err line
    refused why is = made_early event progress early ∙ ap (λ outcome. made_if outcome event progress) is ∙ ap Err (sym number)

    by_error : (why : StepError) → Refuses (world_of progress) event why → Brings new (Err (stop_of line why)) (makes event progress)
    by_error error.NotStarted is = refused error.NotStarted is
    by_error error.StartLimit is = refused error.StartLimit is
    by_error error.ConsumerLimit is = refused error.ConsumerLimit is
    by_error error.PacketLimit is = refused error.PacketLimit is
    by_error error.OutOfMemory is = tt

-- what the player knows after one more line
pub record Made (old new : Playing) : Type 0 where
  pub number : new.number ≡ old.number
  pub moment : new.moment ≡ old.moment
  pub lines : new.lines ≡ old.lines + 1
  pub looked : new.looked ≡ old.looked
  pub lost : new.lost ≡ old.lost

-- the player made it
pub makes_line : (old new : Playing) (event seen : Event) (progress : Progress) (lines : List ToldLine) → seen ≡ event
    → old.lines < 1000000 → Made old new → Plays old progress → told (world_of progress) seen ≡ Ok lines
    → StandsFor new.world (progress.events ++ seen ∷ []) → Brings new (Ok tt) (makes event progress)
makes_line old new event seen progress lines same early made plays is stands =
    let family : Event → Type 0 = λ event. Brings new (Ok tt) (makes event progress) in
    let brought : Result Progress ℕ → Type 0 = λ outcome. Brings new (Ok tt) outcome in
    subst family same (subst brought (sym (made_told seen progress lines (omega (arith, plays.lines, early)) is)) (record {
      world = stands;
      number = made.number ∙ plays.number;
      moment = made.moment ∙ plays.moment;
      lines = made.lines ∙ ap (λ n. n + 1) plays.lines ∙ sym (length-append progress.events (seen ∷ []));
      looked = made.looked ∙ plays.looked;
      lost = made.lost ∙ plays.lost;
    }))

-- the player as another sees it
pub plays_as : (a b : Playing) (progress : Progress) → a ≡ b → Plays b progress → Plays a progress
plays_as a b progress is plays = subst (λ (v : Playing). Plays v progress) (sym is) plays

-- a call gives what another stopped with
pub gives_as : (new : Playing) (given : Result (Unit {0}) Stop) (why : Stop) (outcome : Result Progress ℕ)
    → given ≡ Err why → Brings new (Err why) outcome → Brings new given outcome
gives_as new given why outcome is stops = let family : Result (Unit {0}) Stop → Type 0 = λ given. Brings new given outcome in subst family (sym is) stops
