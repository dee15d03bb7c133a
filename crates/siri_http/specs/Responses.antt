-- What is written to a connection, as far as it takes it, and then the connection is over.
use Rattle.std.specs.Prelude.{◌≡◌, ⊤, Bool, true, nat_le, ℕ, List, [], ◌∷◌, ◌++◌, length, Option, None, Some}
use Rattle.siri_outside.specs.Wires.{Present, WireState, hung_up_after}
use Rattle.siri_http.specs.Connections.{OnPresent, passing}

-- a text passes whole before the next failure
abbrev pub is_whole : List ℕ → List ℕ → Bool
is_whole [] text = true
is_whole (before ∷ later) text = nat_le (length text) before

-- the connection that was there was hung up, with this text at the end of what was written to it
abbrev pub over_with : Present → List ℕ → WireState → WireState
over_with present text wire = record wire { present = None; over = wire.over ++ hung_up_after (present.written ++ text) ∷ [] }

-- the connection that was there was hung up, with what its failures let of a text
abbrev pub over_after : Present → List ℕ → WireState → WireState
over_after present text wire = over_with present (passing present.left.write_fails text) wire

-- a text went to the connection that was there, whole or not, and it is over
abbrev pub Responded : List ℕ → Bool → Option Present → WireState → WireState → Type 0
Responded text whole None old new = ⊤
Responded text whole (Some present) old new = (whole ≡ is_whole present.left.write_fails text) × (new ≡ over_after present text old)

-- a front of a text was written to a connection
pub record WroteFront (text : List ℕ) (before after : Present) : Type 0 where
  pub front : List ℕ
  pub rest : List ℕ
  pub parts : text ≡ front ++ rest
  pub written : after.written ≡ before.written ++ front

-- what a response does: after want of memory the connection is there, with a front of it
abbrev pub Responds : List ℕ → Option Bool → WireState → WireState → Type 0
Responds text None old new = OnPresent (WroteFront text) old new
Responds text (Some whole) old new = Responded text whole old.present old new
