-- The number that is made of a name.
use Rattle.std.proofs.Common.{◌≡◌, ℕ, ◌+◌, ◌*◌, ◌%◌, ◌^◌, List, fold, refl}
use Rattle.siri_store.specs.Stamped.{digest}

pub digest_is : (start : ℕ) (name : List ℕ) → digest start name ≡ fold (λ sum byte. (sum * 1000003 + byte) % 2 ^ 40) start name
unfolding digest
digest_is start name = refl
