-- What holds of each life of a producer's table, and stays of a life that goes on, holds of each life after each step.
use Rattle.std.proofs.Common.{◌≡◌, ℕ, List, [], ◌∷◌, Bool, true, false, cond, Option, None, Some, refl, subst}
use Rattle.std.specs.List.{AllByRecursion}
use Rattle.siri_messages.specs.Asked.{AskedFor}
use Rattle.siri_change.specs.Parts.{Carried}
use Rattle.siri_life.specs.Life.{Packet, Subscribe, Terminate, AllData, Supply, Acknowledge, Notify, Delivery}
use Rattle.siri_life.specs.Life.{after_acknowledgement, after_supply}
use Rattle.siri_life.specs.Life.{can_renew, is_before, new_life}
use Rattle.siri_life.specs.Named.{Name, Of, same_subscription, those, first, find, put, without, keep}
use Rattle.siri_life.specs.Serving.{accepted_if, accepts, acknowledged, ended_if, heard, renewed, renewed_if}
use Rattle.siri_life.specs.Serving.{settled_rows, supplied}
use Rattle.siri_model.specs.History.{History}
use Rattle.siri_model.specs.Lives.{Living, Served}
use Rattle.siri_model.specs.Meaning.{meaning}
use Rattle.siri_world_model.proofs.Lives.{GoesOn, acknowledgement_goes, supply_goes, settle_goes}

module _ (P : Living → Type 0) where
  -- it holds of each life of a table
  abbrev pub AllLive : List (Of Living) → Type 0
  AllLive table = AllByRecursion (λ held. P held.it) table

  put_all : (c s : Name) (l : Living) (t : List (Of Living)) → P l → AllLive t → AllLive (put c s l t)
  put_all c s l [] p all = (p, tt)
  put_all c s l (x ∷ xs) p all = by (same_subscription c s x.subscriber x.identifier) (put_all c s l xs p all.1)
    where
      by : (b : Bool) → AllLive (put c s l xs) → AllLive (cond b (record { subscriber = c; identifier = s; it = l } ∷ xs) (x ∷ put c s l xs))
      by true rest = (p, all.1)
      by false rest = (all.0, rest)

  without_all : (c s : Name) (t : List (Of Living)) → AllLive t → AllLive (without c s t)
  without_all c s [] all = tt
  without_all c s (x ∷ xs) all = by (same_subscription c s x.subscriber x.identifier) (without_all c s xs all.1)
    where
      by : (b : Bool) → AllLive (without c s xs) → AllLive (cond b (without c s xs) (x ∷ without c s xs))
      by true rest = rest
      by false rest = (all.0, rest)

  pub kept_all : (p : Living → Bool) (t : List (Of Living)) → AllLive t → AllLive (keep p t)
  kept_all p [] all = tt
  kept_all p (x ∷ xs) all = by (p x.it) (kept_all p xs all.1)
    where
      by : (b : Bool) → AllLive (keep p xs) → AllLive (cond b (x ∷ keep p xs) (keep p xs))
      by true rest = (all.0, rest)
      by false rest = rest

  pub found_all : (c s : Name) (t : List (Of Living)) (l : Living) → AllLive t → find c s t ≡ Some l → P l
  found_all c s [] l all there = absurd (cc)
  found_all c s (x ∷ xs) l all there = by (same_subscription c s x.subscriber x.identifier) there (found_all c s xs l all.1)
    where
      by : (b : Bool) → first (cond b (x.it ∷ those c s xs) (those c s xs)) ≡ Some l → (find c s xs ≡ Some l → P l) → P l
      by true there rest = let same : x.it ≡ l = cc in subst P same all.0
      by false there rest = rest there

  module _ (stays : (new old : Living) → GoesOn new old → P old → P new) where
    pub settled_all : (known : History) (now : ℕ) (t : List (Of Living)) → AllLive t → AllLive (settled_rows meaning known now t)
    settled_all known now [] all = tt
    settled_all known now (x ∷ xs) all = (stays _ x.it (settle_goes x.it (meaning.direct known x.it.wanted) now) all.0, settled_all known now xs all.1)

    -- it holds of the life that a message begins, if it begins one
    abbrev pub Begins : Served → Packet Carried AskedFor → Type 0
    Begins v (Subscribe number wanted) = P (new_life meaning v.start v.now number number wanted)
    Begins v (Terminate number) = Unit {0}
    Begins v (AllData number base) = (wanted : AskedFor) → P (new_life meaning v.start v.now number base wanted)
    Begins v (Supply m) = Unit {0}
    Begins v (Acknowledge m) = Unit {0}
    Begins v (Notify m moment) = Unit {0}
    Begins v (Delivery m moment more part) = Unit {0}

    pub heard_all : (v : Served) (c s : Name) (p : Packet Carried AskedFor) → Begins v p → AllLive v.table → AllLive (heard meaning v c s p).table
    heard_all v c s (Subscribe number wanted) begins all = by (accepts meaning v c s number wanted)
      where
        by : (b : Bool) → AllLive (accepted_if meaning b v c s number wanted).table
        by true = put_all c s (new_life meaning v.start v.now number number wanted) v.table begins all
        by false = all
    heard_all v c s (Terminate number) begins all = by (is_before meaning (find c s v.table) number)
      where
        by : (b : Bool) → AllLive (ended_if meaning b v c s).table
        by true = without_all c s v.table all
        by false = all
    heard_all v c s (AllData number base) begins all = by (find c s v.table)
      where
        test : (b : Bool) (wanted : AskedFor) → AllLive (renewed_if meaning b v c s number base wanted).table
        test true wanted = put_all c s (new_life meaning v.start v.now number base wanted) v.table (begins wanted) all
        test false wanted = all

        by : (l : Option Living) → AllLive (renewed meaning v c s number base l).table
        by None = all
        by (Some l) = test (can_renew meaning l number base) l.wanted
    heard_all v c s (Supply m) begins all = by (find c s v.table) refl
      where
        by : (l : Option Living) → find c s v.table ≡ l → AllLive (supplied meaning v c s m l).table
        by None is = all
        by (Some l) is = put_all c s (after_supply meaning l v.start m v.now) v.table
            (stays _ l (supply_goes l v.start m v.now) (found_all c s v.table l all is)) all
    heard_all v c s (Acknowledge m) begins all = by (find c s v.table) refl
      where
        by : (l : Option Living) → find c s v.table ≡ l → AllLive (acknowledged meaning v c s m l).table
        by None is = all
        by (Some l) is = put_all c s (after_acknowledgement meaning l v.start m v.now) v.table
            (stays _ l (acknowledgement_goes l v.start m v.now) (found_all c s v.table l all is)) all
    heard_all v c s (Notify m moment) begins all = all
    heard_all v c s (Delivery m moment more part) begins all = all
