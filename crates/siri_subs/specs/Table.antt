-- The subscription table (EN 15531-2, subscriptions): what is held of each subscription, in order of first acceptance.
use Rattle.std.specs.Prelude.{◌≡◌, ℕ, ◌≤◌, ◌==◌, nat_lt, nat_le, List, [], ◌∷◌, length, map, position, find, Bool, false, not, ◌&&◌}
use Rattle.std.specs.Prelude.{if◌then◌else◌, Option, Some, None, option_map, Result, Ok, Err}
use Rattle.std.specs.List.{filter, list_any}
use Rattle.siri_topic.specs.Agreement.{same_name}
use Rattle.siri_subs.specs.declared.entry.Row.{Row}
use Rattle.siri_subs.specs.declared.errors.Accepted.{Accepted}
use Rattle.siri_subs.specs.declared.errors.Accepted.TheVariants as accepted_as
use Rattle.siri_subs.specs.declared.errors.AcceptError.{AcceptError}
use Rattle.siri_subs.specs.declared.errors.AcceptError.TheVariants as refused_as
use Rattle.siri_subs.specs.declared.errors.RenumberError.{RenumberError}
use Rattle.siri_subs.specs.declared.errors.RenumberError.TheVariants as not_renumbered_as

-- how many subscriptions a table holds at most
abbrev pub most_subscriptions : ℕ
most_subscriptions = 200

-- the answer to a request for a subscription under a number, by the number under which it is held, if it is: an equal
-- number is the same request again; then comes the first refusal that fits
abbrev pub answer_of : (is_terminated is_full : Bool) → ℕ → Option ℕ → Result Accepted AcceptError
answer_of is_terminated is_full number (Some held) =
    if held == number then Ok accepted_as.Again
    else (if is_terminated then Err refused_as.PastTermination
    else (if nat_lt number held then Err (refused_as.Superseded held) else Ok accepted_as.Renewed))
answer_of is_terminated is_full number None =
    if is_terminated then Err refused_as.PastTermination
    else (if is_full then Err refused_as.TableFull else Ok accepted_as.New)

-- a number is greater than the one that is held, where one is
abbrev pub is_above : ℕ → Option ℕ → Bool
is_above number None = false
is_above number (Some held) = nat_lt held number

module _ {E : Type 0} where
  -- an entry is of the subscription that has this subscriber and this identifier
  abbrev pub is_of : List ℕ → List ℕ → Row E → Bool
  is_of subscriber identifier h = same_name h.wanted.subscriber subscriber && same_name h.wanted.identifier identifier

  -- some entry is of that subscription
  abbrev pub is_held : List ℕ → List ℕ → List (Row E) → Bool
  is_held subscriber identifier table = list_any (is_of subscriber identifier) table

  -- no subscription is held twice
  abbrev pub EachOnce : List (Row E) → Type 0
  EachOnce [] = Unit {0}
  EachOnce (h ∷ table) = (is_held h.wanted.subscriber h.wanted.identifier table ≡ false) × EachOnce table

  -- a table as it is kept: no subscription is held twice, and there is room for as many as may be held
  pub record IsKept (table : List (Row E)) (capacity : ℕ) : Type 0 where
    pub once : EachOnce table
    pub bound : length table ≤ most_subscriptions
    pub room : most_subscriptions ≤ capacity

  -- the number under which a subscription is held
  abbrev pub number_of : List ℕ → List ℕ → List (Row E) → Option ℕ
  number_of subscriber identifier table = option_map (λ h. h.number) (find (is_of subscriber identifier) table)

  -- the place at which a subscription is held, counted from 0
  abbrev pub place_of : List ℕ → List ℕ → List (Row E) → Option ℕ
  place_of subscriber identifier table = position (is_of subscriber identifier) table

  -- an entry's subscription is terminated at a moment that isn't before its termination time (InitialTerminationTime)
  abbrev pub is_terminated : ℕ → Row E → Bool
  is_terminated now h = nat_le h.wanted.termination now

  -- the answer to a SubscriptionRequest at a moment, by the entry that it asks for
  abbrev pub answer : ℕ → Row E → List (Row E) → Result Accepted AcceptError
  answer now h table =
      answer_of (is_terminated now h) (nat_le most_subscriptions (length table)) h.number (number_of h.wanted.subscriber h.wanted.identifier table)

  -- the table with an entry in the place of its subscription's, or at the end where there is none
  abbrev pub put : Row E → List (Row E) → List (Row E)
  put h [] = h ∷ []
  put h (g ∷ table) = if is_of h.wanted.subscriber h.wanted.identifier g then h ∷ table else g ∷ put h table

  -- the table after an answer: a new or renewed subscription has its entry, and nothing else changes
  abbrev pub after : Result Accepted AcceptError → Row E → List (Row E) → List (Row E)
  after (Ok accepted_as.New) h table = put h table
  after (Ok accepted_as.Renewed) h table = put h table
  after (Ok accepted_as.Again) h table = table
  after (Err refusal) h table = table

  -- the table after a SubscriptionRequest at a moment
  abbrev pub accepted : ℕ → Row E → List (Row E) → List (Row E)
  accepted now h table = after (answer now h table) h table

  -- ---- an AllData request: another number for an acceptance, which is known by its base, the number of its SubscriptionRequest

  -- the number under which the acceptance of a base is held, by the entry of its subscription, where one is held
  abbrev pub acceptance_of : (base : ℕ) → Option (Row E) → Option ℕ
  acceptance_of base None = None
  acceptance_of base (Some h) = if h.base == base then Some h.number else None

  -- the same in a table
  abbrev pub number_of_acceptance : (base : ℕ) → List ℕ → List ℕ → List (Row E) → Option ℕ
  number_of_acceptance base subscriber identifier table = acceptance_of base (find (is_of subscriber identifier) table)

  -- the answer by the entry of its subscription
  abbrev pub renumber_answer_of : (number base : ℕ) → Row E → Result Accepted RenumberError
  renumber_answer_of number base h =
      if not (h.base == base) then Err not_renumbered_as.UnknownSubscription
      else (if h.number == number then Ok accepted_as.Again
      else (if nat_lt number h.number then Err (not_renumbered_as.Superseded h.number) else Ok accepted_as.Renewed))

  -- and where none is held
  abbrev pub renumber_answer : (number base : ℕ) → Option (Row E) → Result Accepted RenumberError
  renumber_answer number base None = Err not_renumbered_as.UnknownSubscription
  renumber_answer number base (Some h) = renumber_answer_of number base h

  -- an entry has that base, and is held under a smaller number
  abbrev pub is_renumbered_by : (number base : ℕ) → Row E → Bool
  is_renumbered_by number base h = h.base == base && nat_lt h.number number

  -- the table after it: the entry keeps its place, and all but its number and its slot
  abbrev pub renumbered : (number base : ℕ) → List ℕ → List ℕ → E → List (Row E) → List (Row E)
  renumbered number base subscriber identifier slot table =
      map (λ h. if is_of subscriber identifier h && is_renumbered_by number base h
      then record h { number = number; slot = slot } else h) table

  -- the table without a subscription
  abbrev pub without : List ℕ → List ℕ → List (Row E) → List (Row E)
  without subscriber identifier table = filter (λ h. not (is_of subscriber identifier h)) table

  -- a TerminateSubscriptionRequest under a number ends a subscription that is held under a smaller one
  abbrev pub is_ended_by : ℕ → List ℕ → List ℕ → List (Row E) → Bool
  is_ended_by number subscriber identifier table = is_above number (number_of subscriber identifier table)

  -- the table after a TerminateSubscriptionRequest under a number
  abbrev pub ended : ℕ → List ℕ → List ℕ → List (Row E) → List (Row E)
  ended number subscriber identifier table =
      if is_ended_by number subscriber identifier table then without subscriber identifier table else table

  -- the table at a moment: subscriptions that are terminated have left it
  abbrev pub expired : ℕ → List (Row E) → List (Row E)
  expired now table = filter (λ h. not (is_terminated now h)) table
