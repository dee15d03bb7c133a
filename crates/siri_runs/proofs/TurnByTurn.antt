-- Turns, one after the other.
use Rattle.std.proofs.Common.{◌≡◌, ◌+◌, ℕ, suc, refl, sym, ◌∙◌, subst, add-one}
use Rattle.siri_runs.specs.Turns.{Running, Turns}

-- no turn was made
pub turns_none : {State : Type 0} (Does : Running State → Running State → Type 0) (from : Running State) → Turns Does 0 from from
unfolding Turns
turns_none Does from = refl

pub turns_suc : {State : Type 0} (Does : Running State → Running State → Type 0) (n : ℕ) (from mid to : Running State)
    → Turns Does n from mid → Does mid to → Turns Does (suc n) from to
unfolding Turns
turns_suc Does n from mid to turns turn = (mid, turns, turn)

-- one turn more
pub turns_next : {State : Type 0} (Does : Running State → Running State → Type 0) (n m : ℕ)
    (from mid to : Running State) → m ≡ n + 1 → Turns Does n from mid → Does mid to → Turns Does m from to
turns_next Does n m from mid to is turns turn =
    subst (λ k. Turns Does k from to) (sym (is ∙ add-one n)) (turns_suc Does n from mid to turns turn)
