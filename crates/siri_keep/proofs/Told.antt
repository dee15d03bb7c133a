-- What is told of a shelf.
use Rattle.std.specs.Prelude.{IsSomeAnd}
use Rattle.std.proofs.Common.{Option, None, Some, Result, Ok, Err, OnOk}
use Rattle.siri_outside.specs.OutsideCalls.{WhereTold}

pub told_same : {S : Type 0} (P : S → S → Type 0) (x : Option S) → ((s : S) → P s s) → WhereTold x x P
told_same P None f = tt
told_same P (Some s) f = f s

pub told_weaker : {S : Type 0} (P Q : S → S → Type 0) (x y : Option S) → ((s t : S) → P s t → Q s t)
    → WhereTold x y P → WhereTold x y Q
told_weaker P Q None y f w = tt
told_weaker P Q (Some s) None f w = w
told_weaker P Q (Some s) (Some t) f w = f s t w

-- ---- of a shelf that tells its rows

pub some_weaker : {S : Type 0} (x : Option S) (P Q : S → Type 0) → ((s : S) → P s → Q s) → IsSomeAnd x P → IsSomeAnd x Q
some_weaker None P Q f p = p
some_weaker (Some s) P Q f p = f s p

-- what holds of it goes on
pub some_on : {S : Type 0} (x y : Option S) (P Q : S → Type 0) → WhereTold x y (λ s t. P s → Q t) → IsSomeAnd x P → IsSomeAnd y Q
some_on None y P Q told p = absurd p
some_on (Some s) None P Q told p = absurd told
some_on (Some s) (Some t) P Q told p = told p

pub told_some : {S : Type 0} (R : S → S → Type 0) (x y : Option S) (P Q : S → Type 0) → WhereTold x y R
    → (IsSomeAnd x P → IsSomeAnd y Q) → WhereTold x y (λ s t. P s → Q t)
told_some R None y P Q told f = tt
told_some R (Some s) None P Q told f = told
told_some R (Some s) (Some t) P Q told f = f

-- what holds anyway holds where a call went well
pub on_ok_any : {T E : Type 0} (result : Result T E) (P : Type 0) → P → OnOk result P
on_ok_any (Ok value) P p = p
on_ok_any (Err error) P p = tt
