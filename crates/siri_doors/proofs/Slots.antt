-- What happens in a slot decides what becomes of its connections.
use Rattle.siri_doors.specs.Decisions.{Step, bytes_in, decided, decides, held, outcomes, refusals, refuses, stays, step, waits_in, with_bytes, without}
use Rattle.siri_doors.specs.Gathered.{Asking}
use Rattle.siri_doors.specs.Orders.{asking_in, events_in, slot_of}
use Rattle.siri_doors.specs.declared.event.Event.{Event}
use Rattle.siri_doors.specs.declared.event.Event.TheVariants.{Opened, Came, Ended, Late}
use Rattle.siri_doors.specs.declared.outcome.Outcome.{Outcome}
use Rattle.siri_doors.specs.declared.outcome.Outcome.TheVariants.{Decides, Refuses, Waits}
use Rattle.std.specs.Prelude.{nat_eq, nat_le, nat_lt, if◌then◌else◌}
use Rattle.std.proofs.Common.{◌≡◌, ◌+◌, ◌≤◌, ℕ, List, [], ◌∷◌, ◌++◌, length, Bool, true, false, refl, sym, ap, ◌∙◌, subst, append-nil, arith}
use Rattle.std.proofs.lemmas.Bool.{eq-eqb, eqb-true}
use Rattle.std.proofs.lemmas.Bool.Decides.{nat_tests}

module _ (slot : ℕ) where
  -- ---- those of the slot, among all that wait

  in_append : (xs ys : List Asking) → asking_in slot (xs ++ ys) ≡ asking_in slot xs ++ asking_in slot ys
  in_append [] ys = refl
  in_append (x ∷ xs) ys = by (nat_eq x.slot slot) refl (in_append xs ys)
    where
      by : (b : Bool) → nat_eq x.slot slot ≡ b → asking_in slot (xs ++ ys) ≡ asking_in slot xs ++ asking_in slot ys
          → asking_in slot ((x ∷ xs) ++ ys) ≡ asking_in slot (x ∷ xs) ++ asking_in slot ys
      by true e later = rw e (ap (λ l. x ∷ l) later)
      by false e later = rw e later

  in_waits : (ws : List Asking) → waits_in slot (asking_in slot ws) ≡ waits_in slot ws
  in_waits [] = refl
  in_waits (w ∷ ws) = by (nat_eq w.slot slot) refl (in_waits ws)
    where
      by : (b : Bool) → nat_eq w.slot slot ≡ b → waits_in slot (asking_in slot ws) ≡ waits_in slot ws
          → waits_in slot (asking_in slot (w ∷ ws)) ≡ waits_in slot (w ∷ ws)
      by true e later = simp e refl
      by false e later = simp e later

  in_bytes : (ws : List Asking) → bytes_in slot (asking_in slot ws) ≡ bytes_in slot ws
  in_bytes [] = refl
  in_bytes (w ∷ ws) = by (nat_eq w.slot slot) refl (in_bytes ws)
    where
      by : (b : Bool) → nat_eq w.slot slot ≡ b → bytes_in slot (asking_in slot ws) ≡ bytes_in slot ws
          → bytes_in slot (asking_in slot (w ∷ ws)) ≡ bytes_in slot (w ∷ ws)
      by true e later = simp e refl
      by false e later = simp e later

  in_without : (ws : List Asking) → asking_in slot (without slot ws) ≡ without slot (asking_in slot ws)
  in_without [] = refl
  in_without (w ∷ ws) = by (nat_eq w.slot slot) refl (in_without ws)
    where
      by : (b : Bool) → nat_eq w.slot slot ≡ b → asking_in slot (without slot ws) ≡ without slot (asking_in slot ws)
          → asking_in slot (without slot (w ∷ ws)) ≡ without slot (asking_in slot (w ∷ ws))
      by true e later = simp e refl
      by false e later = simp e later

  in_with : (bytes : List ℕ) (ws : List Asking) → asking_in slot (with_bytes slot bytes ws) ≡ with_bytes slot bytes (asking_in slot ws)
  in_with bytes [] = refl
  in_with bytes (w ∷ ws) = by (nat_eq w.slot slot) refl (eq-eqb slot slot refl) (in_with bytes ws)
    where
      by : (b : Bool) → nat_eq w.slot slot ≡ b → nat_eq slot slot ≡ true
          → asking_in slot (with_bytes slot bytes ws) ≡ with_bytes slot bytes (asking_in slot ws)
          → asking_in slot (with_bytes slot bytes (w ∷ ws)) ≡ with_bytes slot bytes (asking_in slot (w ∷ ws))
      by true e here later = simp (e, here) refl
      by false e here later = simp e later

  in_length : (ws : List Asking) → length (asking_in slot ws) ≤ length ws
  in_length [] = omega arith
  in_length (w ∷ ws) = by (nat_eq w.slot slot) refl (in_length ws)
    where
      by : (b : Bool) → nat_eq w.slot slot ≡ b → length (asking_in slot ws) ≤ length ws → length (asking_in slot (w ∷ ws)) ≤ length (w ∷ ws)
      by true e later = rw e (omega arith)
      by false e later = rw e (omega arith)

  in_held : (ws : List Asking) → held (asking_in slot ws) ≤ held ws
  in_held [] = omega arith
  in_held (w ∷ ws) = by (nat_eq w.slot slot) refl (in_held ws)
    where
      by : (b : Bool) → nat_eq w.slot slot ≡ b → held (asking_in slot ws) ≤ held ws → held (asking_in slot (w ∷ ws)) ≤ held (w ∷ ws)
      by true e later = rw e (omega arith)
      by false e later = rw e (omega arith)

  -- ---- what happens in another slot

  module _ (other : ℕ) (apart : nat_eq other slot ≡ false) where
    other_without : (ws : List Asking) → asking_in slot (without other ws) ≡ asking_in slot ws
    other_without [] = refl
    other_without (w ∷ ws) = by (nat_eq w.slot other) (nat_eq w.slot slot) refl refl (other_without ws)
      where
        by : (b d : Bool) → nat_eq w.slot other ≡ b → nat_eq w.slot slot ≡ d → asking_in slot (without other ws) ≡ asking_in slot ws
            → asking_in slot (without other (w ∷ ws)) ≡ asking_in slot (w ∷ ws)
        by true d e f later =
            let is : w.slot ≡ other = eqb-true w.slot other e in
            let g : nat_eq w.slot slot ≡ false = ap (λ s. nat_eq s slot) is ∙ apart in simp (e, g) refl
        by false true e f later = simp (e, f) (ap (λ l. w ∷ l) later)
        by false false e f later = simp (e, f) later

    other_with : (bytes : List ℕ) (ws : List Asking) → asking_in slot (with_bytes other bytes ws) ≡ asking_in slot ws
    other_with bytes [] = refl
    other_with bytes (w ∷ ws) = by (nat_eq w.slot other) (nat_eq w.slot slot) refl refl (other_with bytes ws)
      where
        by : (b d : Bool) → nat_eq w.slot other ≡ b → nat_eq w.slot slot ≡ d → asking_in slot (with_bytes other bytes ws) ≡ asking_in slot ws
            → asking_in slot (with_bytes other bytes (w ∷ ws)) ≡ asking_in slot (w ∷ ws)
        by true d e f later =
            let is : w.slot ≡ other = eqb-true w.slot other e in
            let g : nat_eq w.slot slot ≡ false = ap (λ s. nat_eq s slot) is ∙ apart in simp (e, apart, g) refl
        by false true e f later = simp (e, f) (ap (λ l. w ∷ l) later)
        by false false e f later = simp (e, f) later

  -- ---- a step, by whether one waits in the slot, whether there is room, and whether its bytes are whole

  abbrev pub came_by : (waits room is_whole : Bool) → (other : ℕ) → List ℕ → List Asking → Step
  came_by waits room is_whole other bytes ws =
      if waits then (if room then (if is_whole then decides other bytes ws else stays (with_bytes other bytes ws)) else refuses other ws) else stays ws

  -- nobody is refused
  abbrev pub IsFree : Outcome → Type 0
  IsFree Waits = Unit {0}
  IsFree (Decides asking) = Unit {0}
  IsFree (Refuses other) = ⊥

  -- if anybody has its turn, it is the one in the slot
  abbrev pub IsOwn : Outcome → Type 0
  IsOwn Waits = Unit {0}
  IsOwn (Decides asking) = nat_eq asking.slot slot ≡ true
  IsOwn (Refuses other) = Unit {0}

  abbrev pub IsOther : Outcome → Type 0
  IsOther Waits = Unit {0}
  IsOther (Decides asking) = nat_eq asking.slot slot ≡ false
  IsOther (Refuses other) = Unit {0}

  -- the same becomes of those of the slot where they are alone
  pub record Own (all alone : Step) : Type 0 where
    pub step : alone ≡ record { waiting = asking_in slot all.waiting; outcome = all.outcome }
    pub own : IsOwn all.outcome

  -- nothing becomes of those of the slot
  pub record Other (all : Step) (ws : List Asking) : Type 0 where
    pub waiting : asking_in slot all.waiting ≡ asking_in slot ws
    pub other : IsOther all.outcome

  own_came : (waits room less is_whole : Bool) (bytes : List ℕ) (ws : List Asking) → (room ≡ true → less ≡ true)
      → IsFree (came_by waits room is_whole slot bytes ws).outcome
      → Own (came_by waits room is_whole slot bytes ws) (came_by waits less is_whole slot bytes (asking_in slot ws))
  own_came false room less is_whole bytes ws more free = record { step = refl; own = tt }
  own_came true false less is_whole bytes ws more free = absurd free
  own_came true true less true bytes ws more free =
      let l : less ≡ true = more refl in
      record {
        step = subst (λ b. came_by true b true slot bytes (asking_in slot ws) ≡ record {
          waiting = asking_in slot (without slot ws);
          outcome = Decides (record { slot = slot; bytes = bytes });
        }) (sym l) (λ i. record { waiting = sym (in_without ws) i; outcome = Decides (record { slot = slot; bytes = bytes }) });
        own = eq-eqb slot slot refl;
      }
  own_came true true less false bytes ws more free =
      let l : less ≡ true = more refl in
      record {
        step = subst (λ b. came_by true b false slot bytes (asking_in slot ws) ≡ record { waiting = asking_in slot (with_bytes slot bytes ws); outcome = Waits })
            (sym l) (λ i. record { waiting = sym (in_with bytes ws) i; outcome = Waits });
        own = tt;
      }

  other_came : (other : ℕ) → nat_eq other slot ≡ false → (waits room is_whole : Bool) (bytes : List ℕ) (ws : List Asking)
      → Other (came_by waits room is_whole other bytes ws) ws
  other_came other apart false room is_whole bytes ws = record { waiting = refl; other = tt }
  other_came other apart true false is_whole bytes ws = record { waiting = other_without other apart ws; other = tt }
  other_came other apart true true true bytes ws = record { waiting = other_without other apart ws; other = apart }
  other_came other apart true true false bytes ws = record { waiting = other_with other apart bytes ws; other = tt }

  abbrev pub opened_by : (room : Bool) → (other : ℕ) → List Asking → Step
  opened_by room other ws =
      if room then stays (ws ++ record { slot = other; bytes = [] } ∷ []) else record { waiting = ws; outcome = Refuses other }

  own_opened : (room less : Bool) (ws : List Asking) → (room ≡ true → less ≡ true) → IsFree (opened_by room slot ws).outcome
      → Own (opened_by room slot ws) (opened_by less slot (asking_in slot ws))
  own_opened false less ws more free = absurd free
  own_opened true less ws more free =
      let l : less ≡ true = more refl in
      let here : nat_eq slot slot ≡ true = eq-eqb slot slot refl in
      let one : asking_in slot (record { slot = slot; bytes = [] } ∷ []) ≡ record { slot = slot; bytes = [] } ∷ [] = rw here refl in
      let all : asking_in slot (ws ++ record { slot = slot; bytes = [] } ∷ []) ≡ asking_in slot ws ++ record { slot = slot; bytes = [] } ∷ [] =
      in_append ws (record { slot = slot; bytes = [] } ∷ []) ∙ ap (λ l. asking_in slot ws ++ l) one in
      record {
        step = subst (λ b. opened_by b slot (asking_in slot ws) ≡ record {
          waiting = asking_in slot (ws ++ record { slot = slot; bytes = [] } ∷ []);
          outcome = Waits;
        }) (sym l) (λ i. record { waiting = sym all i; outcome = Waits });
        own = tt;
      }

  other_opened : (other : ℕ) → nat_eq other slot ≡ false → (room : Bool) (ws : List Asking) → Other (opened_by room other ws) ws
  other_opened other apart false ws = record { waiting = refl; other = tt }
  other_opened other apart true ws =
      let one : asking_in slot (record { slot = other; bytes = [] } ∷ []) ≡ [] = rw apart refl in
      record { waiting = in_append ws (record { slot = other; bytes = [] } ∷ []) ∙ ap (λ l. asking_in slot ws ++ l) one ∙ append-nil (asking_in slot ws); other = tt }

  -- ---- a step of an event

  fewer : (ws : List Asking) → nat_lt (length ws) 256 ≡ true → nat_lt (length (asking_in slot ws)) 256 ≡ true
  fewer ws less = let l = in_length ws in grind (arith, nat_tests)

  lighter : (ws : List Asking) (n : ℕ) → nat_le (held ws + n) 67108864 ≡ true → nat_le (held (asking_in slot ws) + n) 67108864 ≡ true
  lighter ws n less = let l = in_held ws in grind (arith, nat_tests)

  module _ (whole : List ℕ → Bool) where
    abbrev pub OwnStep : List Asking → Event → Type 0
    OwnStep ws event = IsFree (step whole ws event).outcome → Own (step whole ws event) (step whole (asking_in slot ws) event)

    step_opened : (ws : List Asking) → OwnStep ws (Opened slot)
    unfolding step
    step_opened ws free = own_opened (nat_lt (length ws) 256) (nat_lt (length (asking_in slot ws)) 256) ws (fewer ws) free

    step_came : (piece : List ℕ) (ws : List Asking) → OwnStep ws (Came slot piece)
    unfolding step
    step_came piece ws free =
        let all : Step = came_by (waits_in slot ws) (nat_le (held ws + length piece) 67108864) (whole (bytes_in slot ws ++ piece)) slot (bytes_in slot ws ++ piece) ws in
        let less : Bool = nat_le (held (asking_in slot ws) + length piece) 67108864 in
        subst (λ w. Own all (came_by w less (whole (bytes_in slot (asking_in slot ws) ++ piece)) slot (bytes_in slot (asking_in slot ws) ++ piece) (asking_in slot ws)))
        (sym (in_waits ws))
        (subst (λ b. Own all (came_by (waits_in slot ws) less (whole (b ++ piece)) slot (b ++ piece) (asking_in slot ws))) (sym (in_bytes ws))
        (own_came (waits_in slot ws) (nat_le (held ws + length piece) 67108864) less (whole (bytes_in slot ws ++ piece)) (bytes_in slot ws ++ piece) ws
        (lighter ws (length piece)) free))

    ends_own : (ws : List Asking) → IsFree (came_by (waits_in slot ws) true true slot (bytes_in slot ws) ws).outcome
        → Own (came_by (waits_in slot ws) true true slot (bytes_in slot ws) ws)
        (came_by (waits_in slot (asking_in slot ws)) true true slot (bytes_in slot (asking_in slot ws)) (asking_in slot ws))
    ends_own ws free =
        let all : Step = came_by (waits_in slot ws) true true slot (bytes_in slot ws) ws in
        subst (λ w. Own all (came_by w true true slot (bytes_in slot (asking_in slot ws)) (asking_in slot ws))) (sym (in_waits ws))
        (subst (λ b. Own all (came_by (waits_in slot ws) true true slot b (asking_in slot ws))) (sym (in_bytes ws))
        (own_came (waits_in slot ws) true true true (bytes_in slot ws) ws (λ e. e) free))

    step_ended : (ws : List Asking) → OwnStep ws (Ended slot)
    unfolding step
    step_ended ws free = ends_own ws free

    step_late : (ws : List Asking) → OwnStep ws (Late slot)
    unfolding step
    step_late ws free = ends_own ws free

    step_own : (event : Event) (ws : List Asking) → slot_of event ≡ slot → OwnStep ws event
    step_own (Opened other) ws is = subst (λ s. OwnStep ws (Opened s)) (sym is) (step_opened ws)
    step_own (Came other piece) ws is = subst (λ s. OwnStep ws (Came s piece)) (sym is) (step_came piece ws)
    step_own (Ended other) ws is = subst (λ s. OwnStep ws (Ended s)) (sym is) (step_ended ws)
    step_own (Late other) ws is = subst (λ s. OwnStep ws (Late s)) (sym is) (step_late ws)

    step_other : (event : Event) (ws : List Asking) → nat_eq (slot_of event) slot ≡ false → Other (step whole ws event) ws
    unfolding step
    step_other (Opened other) ws apart = other_opened other apart (nat_lt (length ws) 256) ws
    step_other (Came other piece) ws apart =
        other_came other apart (waits_in other ws) (nat_le (held ws + length piece) 67108864) (whole (bytes_in other ws ++ piece)) (bytes_in other ws ++ piece) ws
    step_other (Ended other) ws apart = other_came other apart (waits_in other ws) true true (bytes_in other ws) ws
    step_other (Late other) ws apart = other_came other apart (waits_in other ws) true true (bytes_in other ws) ws

  -- ---- all events

  first_free : (outcome : Outcome) (later : List Outcome) → refusals (outcome ∷ later) ≡ [] → IsFree outcome × (refusals later ≡ [])
  first_free Waits later none = (tt, none)
  first_free (Decides asking) later none = (tt, none)
  first_free (Refuses other) later none = absurd (cc none)

  own_first : (outcome : Outcome) (all alone : List Outcome) → IsOwn outcome → asking_in slot (decided all) ≡ decided alone
      → asking_in slot (decided (outcome ∷ all)) ≡ decided (outcome ∷ alone)
  own_first Waits all alone own later = later
  own_first (Decides asking) all alone own later = rw own (ap (λ l. asking ∷ l) later)
  own_first (Refuses other) all alone own later = later

  other_first : (outcome : Outcome) (all : List Outcome) (list : List Asking) → IsOther outcome → asking_in slot (decided all) ≡ list
      → asking_in slot (decided (outcome ∷ all)) ≡ list
  other_first Waits all list other later = later
  other_first (Decides asking) all list other later = rw other later
  other_first (Refuses slot) all list other later = later

  module _ (whole : List ℕ → Bool) where
    abbrev pub BySlot : List Asking → List Event → List Event → Type 0
    BySlot ws events own = asking_in slot (decided (outcomes whole ws events)) ≡ decided (outcomes whole (asking_in slot ws) own)

    by_first : (b : Bool) (event : Event) (ws : List Asking) (later : List Event) → nat_eq (slot_of event) slot ≡ b
        → IsFree (step whole ws event).outcome → BySlot (step whole ws event).waiting later (events_in slot later)
        → BySlot ws (event ∷ later) (if b then event ∷ events_in slot later else events_in slot later)
    by_first true event ws later is free rest =
        let own = step_own whole event ws (eqb-true (slot_of event) slot is) free in
        subst (λ s. asking_in slot (decided (outcomes whole ws (event ∷ later))) ≡ decided (s.outcome ∷ outcomes whole s.waiting (events_in slot later)))
        (sym own.step)
        (own_first (step whole ws event).outcome (outcomes whole (step whole ws event).waiting later)
        (outcomes whole (asking_in slot (step whole ws event).waiting) (events_in slot later)) own.own rest)
    by_first false event ws later is free rest =
        let other = step_other whole event ws is in
        other_first (step whole ws event).outcome (outcomes whole (step whole ws event).waiting later) (decided (outcomes whole (asking_in slot ws) (events_in slot later)))
        other.other (rest ∙ ap (λ l. decided (outcomes whole l (events_in slot later))) other.waiting)

    pub by_slot : (ws : List Asking) (events : List Event) → refusals (outcomes whole ws events) ≡ [] → BySlot ws events (events_in slot events)
    by_slot ws [] free = refl
    by_slot ws (event ∷ later) free =
        let f = first_free (step whole ws event).outcome (outcomes whole (step whole ws event).waiting later) free in
        by_first (nat_eq (slot_of event) slot) event ws later refl f.0 (by_slot (step whole ws event).waiting later f.1)
