-- What stands after an Ok, and after an Err.
use Rattle.std.proofs.Common.{Ok, Err, Result}
use Rattle.std.specs.Prelude.{OnErr, OnOk}

pub on_err : {T E P : Type 0} (r : Result T E) → P → OnErr r P
on_err (Ok x) p = tt
on_err (Err e) p = p

pub on_err_with : {T E P Q : Type 0} (r : Result T E) → (P → Q) → OnErr r P → OnErr r Q
on_err_with (Ok x) f p = tt
on_err_with (Err e) f p = f p

pub on_ok_with : {T E P Q : Type 0} (r : Result T E) → (P → Q) → OnOk r P → OnOk r Q
on_ok_with (Ok x) f p = f p
on_ok_with (Err e) f p = tt
