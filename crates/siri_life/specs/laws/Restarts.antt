-- What a network is once a consumer has restarted.
use Rattle.std.specs.Prelude.{◌≡◌, ℕ, ◌+◌, false, List, [], ◌∷◌, ◌++◌, length, Option, Some, None}
use Rattle.siri_life.specs.Meaning.{Meaning}
use Rattle.siri_life.specs.Link.{Holding}
use Rattle.siri_life.specs.Named.{Name, same_name, next_of}
use Rattle.siri_life.specs.Network.{Network, restarted_from, all_data_letters, kept_at}

module _ {V P W H E : Type 0} (f : Meaning V P W H E) where
  -- one of two, the first where it is there
  abbrev pub or_kept : Option (Holding V P W) → Option (Holding V P W) → Option (Holding V P W)
  or_kept None other = other
  or_kept (Some h) other = Some h

  -- no identifier stands twice
  abbrev pub IsApart : Name → List (Name × Holding V P W) → Type 0
  IsApart s [] = Unit {0}
  IsApart s (kept ∷ held) = (same_name s kept.0 ≡ false) × IsApart s held

  abbrev pub AreApart : List (Name × Holding V P W) → Type 0
  AreApart [] = Unit {0}
  AreApart (kept ∷ held) = IsApart kept.0 held × AreApart held

  -- a consumer holds these
  abbrev pub Holds : Network V P W H → Name → List (Name × Holding V P W) → Type 0
  Holds n c [] = Unit {0}
  Holds n c (kept ∷ held) = (n.holdings c kept.0 ≡ Some kept.1) × Holds n c held

  -- the network after a consumer with this next number has restarted, which holds these: each is asked for under a number of
  -- its own, and nothing else changes
  pub record HasRestarted (c : Name) (number : ℕ) (held : List (Name × Holding V P W))
      (n m : Network V P W H) : Type 0 where
    pub serving : m.serving ≡ n.serving
    pub number_is : next_of (m.numbers c) ≡ number + length held
    pub numbers : (d : Name) → same_name d c ≡ false → m.numbers d ≡ n.numbers d
    pub mine : (s : Name) → m.holdings c s ≡ or_kept (kept_at f s (restarted_from f number held)) (n.holdings c s)
    pub others : (d s : Name) → same_name d c ≡ false → m.holdings d s ≡ n.holdings d s
    pub letters : m.letters ≡ n.letters ++ all_data_letters f c number held
