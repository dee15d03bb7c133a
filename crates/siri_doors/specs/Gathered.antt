-- A connection that waits, and its bytes.
use Rattle.std.specs.Prelude.{ℕ, List, ◌++◌}

-- a connection that others opened: its slot, and the bytes that came by it so far
pub record Asking : Type 0 where
  pub slot : ℕ
  pub bytes : List ℕ

-- more came by it
abbrev pub with_piece : List ℕ → Asking → Asking
with_piece piece asking = record asking { bytes = asking.bytes ++ piece }
