-- What is to come stays as it is when an event is taken, seen or done.
use Rattle.siri_doors.specs.Decisions.{decided, outcomes}
use Rattle.siri_doors.specs.Doors.{DoorsState, GivesEvent}
use Rattle.siri_doors.specs.Gathers.{IsOver, Stays, prospect, prospect_by, prospect_of}
use Rattle.siri_doors.specs.declared.event.Event.{Event}
use Rattle.siri_doors.specs.declared.outcome.Outcome.TheVariants.{Waits}
use Rattle.siri_doors.specs.declared.queue.Queue.{Queue}
use Rattle.siri_outside.specs.OutsideCalls.{WhereTold}
use Rattle.siri_outside.specs.declared.errors.OutsideError.{OutsideError}
use Rattle.siri_outside.specs.declared.errors.OutsideError.TheVariants as outside
use Rattle.std.specs.Prelude.{option_to_list, IfOk, OnErr, IsErrOf, Result, Ok, Err}
use Rattle.std.proofs.Common.{◌≡◌, ℕ, List, [], ◌∷◌, ◌++◌, Bool, Option, None, Some, sym, ap, ◌∙◌}

module _ (whole : List ℕ → Bool) where
  -- doors that took an event, before it is seen
  event_ok : (queue : Queue) (a b : DoorsState) (event : Event) → queue.unseen ≡ None → a.coming ≡ event ∷ b.coming
      → b ≡ record a { coming = b.coming } → prospect_of whole (record queue { unseen = Some event }) b ≡ prospect_of whole queue a
  event_ok queue a b event none comes is =
      let events : event ∷ b.coming ≡ option_to_list queue.unseen ++ a.coming =
      sym comes ∙ ap (λ (o : Option Event). option_to_list o ++ a.coming) (sym none) in
      let line : b.line ≡ a.line = ap (λ (d : DoorsState). d.line) is in
      let slot : b.slot ≡ a.slot = ap (λ (d : DoorsState). d.slot) is in
      let refused : b.refused ≡ a.refused = ap (λ (d : DoorsState). d.refused) is in
      λ i. prospect_by whole queue.waiting queue.outcome (events i) (refused i) (slot i) (line i)

  pub event_comes : (queue : Queue) (a b : Option DoorsState) (result : Result Event OutsideError) → queue.unseen ≡ None
      → WhereTold a b (λ old new. GivesEvent old new result)
      → IfOk result (λ event. Stays (prospect whole queue a) (prospect whole (record queue { unseen = Some event }) b))
  event_comes queue None b (Ok event) none told = tt
  event_comes queue (Some a) None (Ok event) none told = absurd told
  event_comes queue (Some a) (Some b) (Ok event) none told = event_ok queue a b event none told.0 told.1
  event_comes queue a b (Err error) none told = tt

  pub event_stays : (queue : Queue) (a b : Option DoorsState) (result : Result Event OutsideError)
      → WhereTold a b (λ old new. GivesEvent old new result) → OnErr result (Stays (prospect whole queue a) (prospect whole queue b))
  event_stays queue a b (Ok event) told = tt
  event_stays queue None b (Err error) told = tt
  event_stays queue (Some a) None (Err error) told = absurd told
  event_stays queue (Some a) (Some b) (Err outside.Failed) told = ap (prospect_of whole queue) told.1
  event_stays queue (Some a) (Some b) (Err outside.OutOfMemory) told = ap (prospect_of whole queue) told

  none_left : (queue : Queue) (a b : DoorsState) → queue.unseen ≡ None → queue.outcome ≡ Waits → a.coming ≡ [] → b ≡ a
      → decided (queue.outcome ∷ outcomes whole queue.waiting (option_to_list queue.unseen ++ b.coming)) ≡ []
  none_left queue a b none waits ends is =
      let coming : b.coming ≡ [] = ap (λ (d : DoorsState). d.coming) is ∙ ends in
      let events : option_to_list queue.unseen ++ b.coming ≡ [] =
      ap (λ (o : Option Event). option_to_list o ++ b.coming) none ∙ coming in
      λ i. decided (waits i ∷ outcomes whole queue.waiting (events i))

  pub event_over : (queue : Queue) (a b : Option DoorsState) (result : Result Event OutsideError) → queue.unseen ≡ None → queue.outcome ≡ Waits
      → WhereTold a b (λ old new. GivesEvent old new result) → IsErrOf result outside.Failed
      → IsOver (prospect whole queue a) (prospect whole queue b)
  event_over queue None b result none waits told failed = tt
  event_over queue (Some a) None result none waits told failed = absurd told
  event_over queue (Some a) (Some b) (Ok event) none waits told failed = absurd (cc failed)
  event_over queue (Some a) (Some b) (Err outside.Failed) none waits told failed = none_left queue a b none waits told.0 told.1
  event_over queue (Some a) (Some b) (Err outside.OutOfMemory) none waits told failed = absurd (cc failed)
