-- Heartbeats (EN 15531-2, HeartbeatNotification).
use Rattle.std.specs.Prelude.{ℕ, ℤ, pos, ◌+ℤ◌, int_lt, Bool, not, ◌&&◌}

-- how often a heartbeat is sent, in milliseconds, and when the last was
pub record Beating : Type 0 where
  pub every : ℤ
  pub last : ℕ

-- the interval is above zero, and that much has passed since the last
abbrev pub is_due : Beating → ℕ → Bool
is_due b now = int_lt (pos 0) b.every && not (int_lt (pos now) (pos b.last +ℤ b.every))
