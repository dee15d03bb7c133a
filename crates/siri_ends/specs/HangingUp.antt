-- When a connection is hung up (RFC 9112, section 9.6), as a wire tells it that tells what it holds.
use Rattle.std.specs.Prelude.{◌≡◌, ◌++◌, ◌∷◌, List, ℕ, None, Some}
use Rattle.std.specs.List.{All}
use Rattle.siri_outside.specs.OutsideCalls.{WhereTold}
use Rattle.siri_outside.specs.Wires.{HungUp, Over, Present, WireState, hung_up_after}
use Rattle.siri_ends.specs.At.{At}

-- a connection that is over was hung up: none took its place before
abbrev pub WasHungUp : Over → Type 0
WasHungUp over = over.ending ≡ HungUp

-- the connections that came since were hung up, each of them, and none is there
pub record HangsUpEach (old new : WireState) : Type 0 where
  pub more : List Over
  pub over : new.over ≡ old.over ++ more
  pub hung_up : All WasHungUp more
  pub none : new.present ≡ None

-- the connection that was there was hung up first, with a front more at the end of what was written to it
pub record HangsUpFirst (present : Present) (old new : WireState) : Type 0 where
  pub front : List ℕ
  pub more : List Over
  pub over : new.over ≡ old.over ++ hung_up_after (present.written ++ front) ∷ more
  pub hung_up : All WasHungUp more
  pub none : new.present ≡ None

-- a turn hung up the connection that it answered before it dialled any, and each of these before the next one
abbrev pub HangsUpInTurn : {State : Type 0} → (at end : At State) → Type 0
HangsUpInTurn at end = (old : WireState) (present : Present) → at.wire ≡ Some old → old.present ≡ Some present
    → WhereTold at.wire end.wire (HangsUpFirst present)
