-- Inner words: cited by private functions alone. A part taken of a subscription among others.
use Rattle.std.specs.Prelude.{◌≡◌, ℕ, zero, suc, Bool, [], ◌∷◌, Option, Some, None}
use Rattle.siri_change.specs.Parts.{Carried}
use Rattle.siri_messages.specs.Asked.{AskedFor}
use Rattle.siri_life.specs.Life.{Mark}
use Rattle.siri_life.specs.Link as life
use Rattle.siri_life.specs.Link.{asked, restarted, taken}
use Rattle.siri_life.specs.Named.{Name}
use Rattle.siri_view.specs.Kept.{meaning, HeldSubscription, Holdings, with_kept}

-- what is kept, if anything is, wants a part
abbrev pub Wants : Mark → Option HeldSubscription → Type 0
Wants m None = Unit {0}
Wants m (Some h) = life.outcome meaning h m ≡ life.Wanted

-- with the part taken of what is kept under an identifier
abbrev pub with_taken : Name → Mark → Bool → Carried → Option HeldSubscription → Holdings → Holdings
with_taken identifier m more part None held = held
with_taken identifier m more part (Some h) held = with_kept identifier (taken meaning h m more part) held

-- with the part taken of what is kept at a place
abbrev pub taken_at : Mark → Bool → Carried → Holdings → ℕ → Holdings
taken_at m more part [] at = []
taken_at m more part (e ∷ held) zero = (e.0, taken meaning e.1 m more part) ∷ held
taken_at m more part (e ∷ held) (suc at) = e ∷ taken_at m more part held at

-- with what is kept at a place asked for again
abbrev pub asked_at : ℕ → AskedFor → Holdings → ℕ → Holdings
asked_at number wanted [] at = []
asked_at number wanted (e ∷ held) zero = (e.0, asked meaning number wanted (Some e.1)) ∷ held
asked_at number wanted (e ∷ held) (suc at) = e ∷ asked_at number wanted held at

-- with what is kept at a place as after a restart, under a number
abbrev pub restarted_at : ℕ → Holdings → ℕ → Holdings
restarted_at number [] at = []
restarted_at number (e ∷ held) zero = (e.0, restarted meaning number e.1) ∷ held
restarted_at number (e ∷ held) (suc at) = e ∷ restarted_at number held at

-- with so many from the front as after a restart, the first under a number and each next under the one after it
abbrev pub restarted_to : (count number : ℕ) → Holdings → Holdings
restarted_to zero number held = held
restarted_to (suc count) number [] = []
restarted_to (suc count) number (e ∷ held) = (e.0, restarted meaning number e.1) ∷ restarted_to count (suc number) held
