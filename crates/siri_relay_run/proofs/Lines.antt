-- What the one line of a source wants.
use Rattle.std.proofs.Common.{◌≡◌, ◌≤◌, ℕ, List, [], ◌∷◌, ◌++◌, length, refl, ap, subst, arith, length-append}
use Rattle.siri_lines.specs.Ends.{Bytes}
use Rattle.siri_wire.specs.declared.wanted.Wanted.{Wanted}
use Rattle.siri_runs.specs.consumers.Reading.{Wants}
use Rattle.siri_relay_run.specs.Opening.{WantsOne}

-- of at most one there is no other before the last
only_one : (w rest : List Wanted) (one : Wanted) → length w ≤ 1 → w ≡ rest ++ one ∷ [] → w ≡ one ∷ []
only_one w [] one few is = is
only_one w (first ∷ rest) one few is = absurd (omega (arith, few, ap length is, length-append rest (one ∷ [])))

pub one_is : (name : List ℕ) (input : Bytes) (w rest : List Wanted) (one : Wanted) → length w ≤ 1 → w ≡ rest ++ one ∷ []
    → Wants 1 name input w → WantsOne name input one
one_is name input w rest one few is wants = subst (Wants 1 name input) (only_one w rest one few is) wants

none_of : (w : List Wanted) → length w ≡ 0 → w ≡ []
none_of [] is = refl
none_of (first ∷ rest) is = absurd (omega (arith, is))

pub none_is : (name : List ℕ) (input : Bytes) (w : List Wanted) → length w ≡ 0 → Wants 1 name input w → Wants 1 name input []
none_is name input w is wants = subst (Wants 1 name input) (none_of w is) wants
