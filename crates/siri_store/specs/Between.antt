-- The stamps of a range of moments.
-- Inner words: cited by private functions alone.
use Rattle.std.specs.Prelude.{ℕ, ℤ, Bool, ◌&&◌, nat_eq, List, filter, Some}
use Rattle.siri_records.specs.Edges.{is_within}
use Rattle.siri_topic.specs.declared.windows.Window.{Window}
use Rattle.siri_topic.specs.Shown.{is_before, is_from}
use Rattle.siri_store.specs.Stamped.{Stamp}

-- a stamp of an order, at or after one moment and before another
abbrev pub is_between : ℕ → ℤ → ℤ → Stamp → Bool
is_between order from to stamp = nat_eq stamp.0 order && is_within from to stamp.1

-- the stamps of an order, from one moment on and before another
abbrev pub between : ℕ → ℤ → ℤ → List Stamp → List Stamp
between order from to stamps = filter (is_between order from to) stamps

-- a stamp of an order, at or after one moment
abbrev pub is_since : ℕ → ℤ → Stamp → Bool
is_since order from stamp = nat_eq stamp.0 order && is_from from (Some stamp.1)

-- the stamps of an order, from one moment on
abbrev pub since : ℕ → ℤ → List Stamp → List Stamp
since order from stamps = filter (is_since order from) stamps

-- a stamp of an order, in a window
abbrev pub is_inside : ℕ → Window → Stamp → Bool
is_inside order window stamp = nat_eq stamp.0 order && (is_from window.from (Some stamp.1) && is_before window.to (Some stamp.1))

-- the stamps of an order in a window
abbrev pub inside : ℕ → Window → List Stamp → List Stamp
inside order window stamps = filter (is_inside order window) stamps
