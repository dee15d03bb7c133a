-- What is drawn: the player goes by the same numbers.
use Rattle.std.proofs.Common.{◌≡◌, ℕ, ◌==◌, Bool, false, Ok, ap, ◌∙◌, if◌then◌else◌}
use Rattle.siri_load.specs.Generator.{next, drawn}
use Rattle.siri_load.specs.Load.{Progress, draws, loses, delivers, delivers_or_loses}
use Rattle.siri_load.specs.Playing.{Playing, Plays}

-- the player after a draw
pub draws_plays : (old : Playing) (progress : Progress) (number : ℕ) → number ≡ next old.number → Plays old progress
    → Plays (record old { number = number }) (draws progress)
draws_plays old progress number is plays = record {
  world = plays.world;
  number = is ∙ ap next plays.number;
  moment = plays.moment;
  lines = plays.lines;
  looked = plays.looked;
  lost = plays.lost;
}

-- what becomes of a packet, by what is drawn
chosen : (progress : Progress) (zero : Bool) → (drawn (draws progress).number 10 == 0) ≡ zero
    → delivers_or_loses progress ≡ (if zero then Ok (loses (draws progress)) else delivers (draws progress))
chosen progress zero is = ap (λ (b : Bool). if b then Ok (loses (draws progress)) else delivers (draws progress)) is

pub chosen_delivered : (progress : Progress) → (drawn (draws progress).number 10 == 0) ≡ false → delivers_or_loses progress ≡ delivers (draws progress)
chosen_delivered progress is = chosen progress false is
