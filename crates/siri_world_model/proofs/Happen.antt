-- Events that all happened: one more that happens is added to them.
use Rattle.std.proofs.Common.{◌≡◌, List, [], ◌∷◌, ◌++◌, fold, Option, Some, None, refl, ap, subst}
use Rattle.std.specs.Prelude.{Ok}
use Rattle.siri_world_model.specs.declared.event.Event.{Event}
use Rattle.siri_world_model.specs.declared.step_error.StepError.{StepError}
use Rattle.siri_world_model.specs.Lines.{ToldLine}
use Rattle.siri_world_model.specs.Told.{after, refusal, told, told_if, world_after}
use Rattle.siri_world_model.specs.World.{World, nothing}
use Rattle.siri_world_model.specs.laws.Views.{AllHappen}

-- none of them is refused, from this world on
abbrev pub HappenFrom : World → List Event → Type 0
HappenFrom world events = (before : List Event) (e : Event) (later : List Event) → events ≡ before ++ e ∷ later → refusal (fold after world before) e ≡ None

-- where the first happens, so do the others
pub happen_rest : (world : World) (e : Event) (events : List Event) → HappenFrom world (e ∷ events) → HappenFrom (after world e) events
happen_rest world e events happen before x later is = happen (e ∷ before) x later (ap (λ xs. e ∷ xs) is)

happen_one : (world : World) (e : Event) → refusal world e ≡ None → HappenFrom world (e ∷ [])
happen_one world e none [] x later is = let q : e ≡ x = cc in subst (λ y. refusal world y ≡ None) q none
happen_one world e none (b ∷ []) x later is = absurd (cc)
happen_one world e none (b ∷ c ∷ before) x later is = absurd (cc)

happen_last : (world : World) (events : List Event) (e : Event) → HappenFrom world events
    → refusal (fold after world events) e ≡ None → HappenFrom world (events ++ e ∷ [])
happen_last world [] e happen none = happen_one world e none
happen_last world (y ∷ events) e happen none = by (happen_last (after world y) events e (happen_rest world y events happen) none)
  where
    by : HappenFrom (after world y) (events ++ e ∷ []) → HappenFrom world (y ∷ (events ++ e ∷ []))
    by more [] x later is = let q : y ≡ x = cc in subst (λ z. refusal world z ≡ None) q (happen [] y events refl)
    by more (b ∷ before) x later is =
        let q : y ≡ b = cc in
        let rest : (events ++ e ∷ []) ≡ (before ++ x ∷ later) = cc in
        subst (λ z. refusal (fold after (after world z) before) x ≡ None) q (more before x later rest)

-- before the first all happened
pub none_happen : AllHappen []
none_happen [] e later is = absurd (cc)
none_happen (b ∷ before) e later is = absurd (cc)

-- one more that happens
pub happen_more : (events : List Event) (e : Event) → AllHappen events → refusal (world_after events) e ≡ None → AllHappen (events ++ e ∷ [])
happen_more events e happen none = happen_last nothing events e happen none

-- what is told of happened
pub told_happens : (world : World) (e : Event) (lines : List ToldLine) → told world e ≡ Ok lines → refusal world e ≡ None
told_happens world e lines is = by (refusal world e) is
  where
    by : (refused : Option StepError) → told_if refused world e ≡ Ok lines → refused ≡ None
    by None is = refl
    by (Some error) is = absurd (cc)

-- ---- one after the other

-- each happens in the world after those before it
abbrev pub HappenInTurn : World → List Event → Type 0
HappenInTurn world [] = Unit {0}
HappenInTurn world (e ∷ events) = (refusal world e ≡ None) × HappenInTurn (after world e) events

in_turn : (world : World) (events : List Event) → HappenInTurn world events → HappenFrom world events
in_turn world [] turn [] e later is = absurd (cc)
in_turn world [] turn (b ∷ before) e later is = absurd (cc)
in_turn world (y ∷ events) turn [] x later is = let q : y ≡ x = cc in subst (λ z. refusal world z ≡ None) q turn.0
in_turn world (y ∷ events) turn (b ∷ before) x later is =
    let q : y ≡ b = cc in
    let rest : events ≡ before ++ x ∷ later = cc in
    subst (λ z. refusal (fold after (after world z) before) x ≡ None) q (in_turn (after world y) events turn.1 before x later rest)

-- so all happened
pub all_in_turn : (events : List Event) → HappenInTurn nothing events → AllHappen events
all_in_turn events turn = in_turn nothing events turn
