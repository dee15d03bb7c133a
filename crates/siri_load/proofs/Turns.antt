-- Turns of the player: packets taken until none is left, and events drawn one after another.
use Rattle.std.proofs.Common.{◌≡◌, ℕ, zero, suc, ◌+◌, ◌<◌, ◌≤◌, Bool, true, false, length, Result, Ok, Err, refl, sym, ap, ◌∙◌, subst, if◌then◌else◌, arith}
use Rattle.std.specs.Prelude.{nat_lt}
use Rattle.std.proofs.lemmas.Bool.{lt-ltb, le-ltb}
use Rattle.siri_load.specs.declared.stop.Stop.{Stop}
use Rattle.siri_load.specs.Load.{Progress, sent, and_then, taken_within, takes_all, happens, goes_on}
use Rattle.siri_load.specs.Playing.{Playing, Plays, Brings}
use Rattle.siri_load.proofs.Steps.{brings_none}

-- ---- packets

module _ (takes : Progress → Result Progress ℕ) where
  -- from here packets are still to be taken, so many at most, and then the player has come as far as from the first
  pub record Taking (first : Progress) (playing : Playing) : Type 0 where
    pub progress : Progress
    pub more : ℕ
    pub plays : Plays playing progress
    pub bound : more + progress.looked ≡ 1000000 + first.looked
    pub same : taken_within more takes progress ≡ takes_all takes first

  pub taking_first : (first : Progress) (playing : Playing) → Plays playing first → Taking first playing
  taking_first first playing plays = record { progress = first; more = 1000000; plays = plays; bound = refl; same = refl }

  -- whether a packet is left
  left_where : (more : ℕ) (progress : Progress) (left : Bool) → nat_lt progress.looked (sent progress) ≡ left
      → taken_within (suc more) takes progress ≡ (if left then and_then (taken_within more takes) (takes progress)
      else Ok progress)
  unfolding taken_within
  left_where more progress left is = ap (λ (b : Bool). if b then and_then (taken_within more takes) (takes progress) else Ok progress) is

  none_more : (progress : Progress) → taken_within zero takes progress ≡ Ok progress
  unfolding taken_within
  none_more progress = refl

  none_left : (more : ℕ) (progress : Progress) → sent progress ≤ progress.looked → taken_within more takes progress ≡ Ok progress
  none_left zero progress none = none_more progress
  none_left (suc more) progress none = left_where more progress false (le-ltb progress.looked (sent progress) none)

  -- a packet is left, and one more turn is allowed
  pub record Turn (first progress : Progress) : Type 0 where
    pub more : ℕ
    pub bound : suc more + progress.looked ≡ 1000000 + first.looked
    pub same : and_then (taken_within more takes) (takes progress) ≡ takes_all takes first

  turn : (more : ℕ) (first progress : Progress) → more + progress.looked ≡ 1000000 + first.looked
      → taken_within more takes progress ≡ takes_all takes first → progress.looked < 1000000
      → progress.looked < sent progress → Turn first progress
  turn zero first progress bound same few some = absurd (omega (arith, bound, few))
  turn (suc more) first progress bound same few some = record {
    more = more;
    bound = bound;
    same = sym (left_where more progress true (lt-ltb progress.looked (sent progress) some)) ∙ same;
  }

  -- the player has packets left by its own numbers
  turn_of : (first : Progress) (playing : Playing) (taking : Taking first playing) → playing.looked < 1000000
      → playing.looked < length playing.world.packets → Turn first taking.progress
  turn_of first playing taking few some =
      turn taking.more first taking.progress taking.bound taking.same
      (omega (arith, few, taking.plays.looked))
      (omega (arith, some, taking.plays.looked, ap length taking.plays.world.packets))

  -- a packet was taken
  pub taking_next : (first : Progress) (old new : Playing) (done : Unit {0}) → Taking first old → old.looked < 1000000
      → old.looked < length old.world.packets → new.looked ≡ old.looked + 1
      → ((progress : Progress) → Plays old progress → Brings new (Ok done) (takes progress)) → Taking first new
  taking_next first old new done taking few some looked does =
      by_outcome (takes taking.progress) refl (does taking.progress taking.plays)
    where
      here : Turn first taking.progress
      here = turn_of first old taking few some

      by_outcome : (outcome : Result Progress ℕ) → takes taking.progress ≡ outcome → Brings new (Ok done) outcome → Taking first new
      by_outcome (Ok progress) is plays = record {
        progress = progress;
        more = here.more;
        plays = plays;
        bound = omega (arith, here.bound, plays.looked, looked, taking.plays.looked);
        same = sym (ap (and_then (taken_within here.more takes)) is) ∙ here.same;
      }
      by_outcome (Err n) is bad = absurd bad

  -- a packet wasn't taken
  pub taking_stops : (first : Progress) (old new : Playing) (why : Stop) → Taking first old → old.looked < 1000000
      → old.looked < length old.world.packets
      → ((progress : Progress) → Plays old progress → Brings new (Err why) (takes progress))
      → Brings new (Err why) (takes_all takes first)
  taking_stops first old new why taking few some does =
      let here = turn_of first old taking few some in
      let family : Result Progress ℕ → Type 0 = λ outcome. Brings new (Err why) outcome in
      subst family here.same (brings_none new new why (taken_within here.more takes) (takes taking.progress) (does taking.progress taking.plays))

  -- no packet is left
  pub taking_ends : (first : Progress) (playing : Playing) → Taking first playing
      → length playing.world.packets ≤ playing.looked → Brings playing (Ok tt) (takes_all takes first)
  taking_ends first playing taking none =
      let family : Result Progress ℕ → Type 0 = λ outcome. Brings playing (Ok tt) outcome in
      let done : taken_within taking.more takes taking.progress ≡ Ok taking.progress =
      none_left taking.more taking.progress (omega
      (arith, none, taking.plays.looked, ap length taking.plays.world.packets)) in
      subst family (sym done ∙ taking.same) taking.plays

-- ---- events

-- so many events happened, and after the others the player has come as far as from the first after all
pub record Going (count : ℕ) (first : Progress) (past : ℕ) (playing : Playing) : Type 0 where
  pub progress : Progress
  pub more : ℕ
  pub plays : Plays playing progress
  pub bound : more + past ≡ count
  pub same : goes_on more progress ≡ goes_on count first

one_goes : (more : ℕ) (progress : Progress) → goes_on (suc more) progress ≡ and_then (goes_on more) (happens progress)
unfolding goes_on
one_goes more progress = refl

none_goes : (progress : Progress) → goes_on zero progress ≡ Ok progress
unfolding goes_on
none_goes progress = refl

pub going_first : (count : ℕ) (first : Progress) (playing : Playing) → Plays playing first → Going count first 0 playing
going_first count first playing plays = record { progress = first; more = count; plays = plays; bound = omega arith; same = refl }

-- one event more is to happen
record Next (count : ℕ) (first progress : Progress) (past : ℕ) : Type 0 where
  more : ℕ
  bound : more + (past + 1) ≡ count
  same : and_then (goes_on more) (happens progress) ≡ goes_on count first

next_of : (count : ℕ) (first progress : Progress) (past more : ℕ) → more + past ≡ count
    → goes_on more progress ≡ goes_on count first → past < count → Next count first progress past
next_of count first progress past zero bound same few = absurd (omega (arith, bound, few))
next_of count first progress past (suc more) bound same few = record { more = more; bound = omega (arith, bound); same = sym (one_goes more progress) ∙ same }

-- an event happened
pub going_next : (count : ℕ) (first : Progress) (past : ℕ) (old new : Playing) (done : Unit {0})
    → Going count first past old → past < count
    → ((progress : Progress) → Plays old progress → Brings new (Ok done) (happens progress))
    → Going count first (past + 1) new
going_next count first past old new done going few does = by_outcome (happens going.progress) refl (does going.progress going.plays)
  where
    here : Next count first going.progress past
    here = next_of count first going.progress past going.more going.bound going.same few

    by_outcome : (outcome : Result Progress ℕ) → happens going.progress ≡ outcome → Brings new (Ok done) outcome → Going count first (past + 1) new
    by_outcome (Ok progress) is plays = record {
      progress = progress;
      more = here.more;
      plays = plays;
      bound = here.bound;
      same = sym (ap (and_then (goes_on here.more)) is) ∙ here.same;
    }
    by_outcome (Err n) is bad = absurd bad

-- an event didn't happen
pub going_stops : (count : ℕ) (first : Progress) (past : ℕ) (old new : Playing) (why : Stop)
    → Going count first past old → past < count
    → ((progress : Progress) → Plays old progress → Brings new (Err why) (happens progress))
    → Brings new (Err why) (goes_on count first)
going_stops count first past old new why going few does =
    let here = next_of count first going.progress past going.more going.bound going.same few in
    let family : Result Progress ℕ → Type 0 = λ outcome. Brings new (Err why) outcome in
    subst family here.same (brings_none new new why (goes_on here.more) (happens going.progress) (does going.progress going.plays))

ends_with_none : (count : ℕ) (first : Progress) (playing : Playing) (progress : Progress) (more : ℕ) → more ≡ 0
    → Plays playing progress → goes_on more progress ≡ goes_on count first
    → Brings playing (Ok tt) (goes_on count first)
ends_with_none count first playing progress zero none plays same =
    let family : Result Progress ℕ → Type 0 = λ outcome. Brings playing (Ok tt) outcome in
    subst family (sym (none_goes progress) ∙ same) plays
ends_with_none count first playing progress (suc more) none plays same = absurd (omega (arith, none))

-- all events happened
pub going_ends : (count : ℕ) (first : Progress) (past : ℕ) (playing : Playing) → count ≤ past
    → Going count first past playing → Brings playing (Ok tt) (goes_on count first)
going_ends count first past playing all going = ends_with_none count first playing going.progress going.more
    (omega (arith, all, going.bound)) going.plays going.same
