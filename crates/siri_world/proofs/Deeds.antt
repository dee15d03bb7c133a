-- An event as a whole: what is told of it, and the world after it.
use Rattle.std.proofs.Common.{◌≡◌, suc, ◌+◌, ◌<◌, ◌≤◌, List, [], ◌∷◌, ◌++◌, length, Bool, true, false, cond, Option, None, Some, Result}
use Rattle.std.proofs.Common.{Ok, Err, refl, ap, ◌∙◌, sym, subst, arith}
use Rattle.std.specs.Prelude.{IfOk, IfErr, OnOk}
use Rattle.siri_base.specs.declared.errors.OutOfMemory.{OutOfMemory}
use Rattle.std.proofs.lemmas.Bool.{lt-ltb, le-ltb}
use Rattle.std.proofs.lemmas.List.{length-map}
use Rattle.std.proofs.lemmas.List.Sums.{fold_push}
use Rattle.siri_life.specs.Named.{Name}
use Rattle.siri_view.specs.Consuming.{Consuming}
use Rattle.siri_view.specs.Kept.{HeldSubscription}
use Rattle.siri_world_model.specs.declared.event.Event.{Event}
use Rattle.siri_world_model.specs.declared.line.Line.{Line}
use Rattle.siri_world_model.specs.declared.step_error.StepError.{StepError}
use Rattle.siri_world_model.specs.declared.step_error.StepError.TheVariants as error
use Rattle.siri_world_model.specs.Goals.{ShowsGoals, goal}
use Rattle.siri_world_model.specs.Lines.{told_lines}
use Rattle.siri_world_model.specs.Packets.{packet_lines}
use Rattle.siri_world_model.specs.World.{World, latest, nothing}
use Rattle.siri_world_model.specs.Effects.{Effect, effect, with_packets, view_lines, viewed_if}
use Rattle.siri_world_model.specs.Told.{is_early, passes_starts, passes_consumers, passes_packets, refusal, told, told_if, after, after_if}
use Rattle.siri_world_model.specs.Told.{world_after, most_packets}
pub use Rattle.siri_world_model.proofs.Growing.{packets_stay}
use Rattle.siri_world.specs.declared.happened.Happened.{Happened}
use Rattle.siri_world.specs.Doing.{Does, Happens, IsFull}
use Rattle.siri_world.specs.Kept.{sent_packets}
use Rattle.siri_world.specs.Known.{Known, Knows, StandsFor}
use Rattle.siri_world.specs.Refused.{Refuses, first_refusal}
use Rattle.siri_world.specs.Serving.{shown_lines}

-- ---- a view is told

shown : (w : World) (c : Consuming) (identifier : Name) (kept : Option HeldSubscription)
    → ((h : HeldSubscription) → kept ≡ Some h → h.view ≡ goal w c.name identifier h.origin)
    → shown_lines (latest w) c identifier kept ≡ (viewed_if w c identifier kept).lines
shown w c identifier None goals = refl
shown w c identifier (Some h) goals = ap (view_lines w c identifier h) (goals h refl)

nothing_sent : (w : World) (c : Consuming) (identifier : Name) (kept : Option HeldSubscription) → (viewed_if w c identifier kept).packets ≡ []
nothing_sent w c identifier None = refl
nothing_sent w c identifier (Some h) = refl

-- ---- refusals

-- an event is refused where it is refused but for its packets
pub refused_first : (w : World) (e : Event) (why : StepError) → first_refusal w e ≡ Some why → refusal w e ≡ Some why
unfolding refusal
refused_first w e why is = by (is_early w e) (passes_starts w e) (passes_consumers w e) is
  where
    by : (a b c : Bool) → cond a (Some error.NotStarted) (cond b (Some error.StartLimit) (cond c (Some error.ConsumerLimit) None)) ≡ Some why
        → cond a (Some error.NotStarted) (cond b (Some error.StartLimit)
        (cond c (Some error.ConsumerLimit) (cond (passes_packets w e) (Some error.PacketLimit) None))) ≡ Some why
    by true b c is = is
    by false true c is = is
    by false false true is = is
    by false false false is = absurd (cc)

-- or else by its packets alone
pub refused_last : (w : World) (e : Event) → first_refusal w e ≡ None → refusal w e ≡ cond (passes_packets w e) (Some error.PacketLimit) None
unfolding refusal
refused_last w e is = by (is_early w e) (passes_starts w e) (passes_consumers w e) is
  where
    by : (a b c : Bool) → cond a (Some error.NotStarted) (cond b (Some error.StartLimit) (cond c (Some error.ConsumerLimit) None)) ≡ None
        → cond a (Some error.NotStarted) (cond b (Some error.StartLimit)
        (cond c (Some error.ConsumerLimit) (cond (passes_packets w e) (Some error.PacketLimit) None))) ≡ cond
        (passes_packets w e) (Some error.PacketLimit) None
    by true b c is = absurd (cc)
    by false true c is = absurd (cc)
    by false false true is = absurd (cc)
    by false false false is = refl

pub told_refused : (w : World) (e : Event) (why : StepError) → refusal w e ≡ Some why → told w e ≡ Err why
told_refused w e why is = ap (λ r. told_if r w e) is

-- want of memory is no such refusal
never_memory : (w : World) (e : Event) → first_refusal w e ≡ Some error.OutOfMemory → first_refusal w e ≡ None
never_memory w e is = by (is_early w e) (passes_starts w e) (passes_consumers w e) is
  where
    by : (a b c : Bool) → cond a (Some error.NotStarted) (cond b (Some error.StartLimit) (cond c (Some error.ConsumerLimit) None)) ≡ Some error.OutOfMemory
        → cond a (Some error.NotStarted) (cond b (Some error.StartLimit) (cond c (Some error.ConsumerLimit) None)) ≡ None
    by true b c is = absurd (cc)
    by false true c is = absurd (cc)
    by false false true is = absurd (cc)
    by false false false is = refl

pub refuses : (w : World) (e : Event) (why : StepError) → first_refusal w e ≡ Some why → told w e ≡ Err why → Refuses w e why
refuses w e error.NotStarted first is = is
refuses w e error.PacketLimit first is = is
refuses w e error.ConsumerLimit first is = is
refuses w e error.StartLimit first is = is
refuses w e error.OutOfMemory first is = never_memory w e first

-- ---- what was done is told, and the world goes on

module _ (old mid : Known) (w : World) (e : Event) (happened : Happened) (does : Does (effect w e) happened mid) where
  -- how many packets there are then
  count : length w.packets + length (effect w e).packets ≡ length mid.packets + length happened.packets
  count =
      let here : length (effect w e).packets ≡ length happened.packets = ap length (sym does.packets) ∙ length-map happened.packets _ in
      let before : length w.packets ≡ length mid.packets = ap length (sym (does.world.packets ∙ packets_stay w e)) in
      omega (arith, here, before)

  -- too many
  pub full_refused : first_refusal w e ≡ None → 1000000 < length mid.packets + length happened.packets → told w e ≡ Err error.PacketLimit
  full_refused first many =
      let test : passes_packets w e ≡ true = lt-ltb most_packets (length w.packets + length (effect w e).packets) (omega (arith, many, count)) in
      told_refused w e error.PacketLimit (refused_last w e first ∙ ap (λ b. cond b (Some error.PacketLimit) None) test)

  not_refused : first_refusal w e ≡ None → length mid.packets + length happened.packets ≤ 1000000 → refusal w e ≡ None
  not_refused first few =
      let test : passes_packets w e ≡ false = le-ltb most_packets (length w.packets + length (effect w e).packets) (omega (arith, few, count)) in
      refused_last w e first ∙ ap (λ b. cond b (Some error.PacketLimit) None) test

  pub done_told : first_refusal w e ≡ None → length mid.packets + length happened.packets ≤ 1000000
      → (lines : List Line) → told_lines lines ≡ told_lines happened.lines
      ++ packet_lines (suc (length mid.packets)) (sent_packets happened.packets) → told w e ≡ Ok (told_lines lines)
  done_told first few lines is =
      let before : mid.packets ≡ w.packets = does.world.packets ∙ packets_stay w e in
      ap (λ r. told_if r w e) (not_refused first few) ∙ ap Ok (sym (is ∙ λ i. does.lines i ++ packet_lines (suc (length (before i))) (does.packets i)))

  pub done_stands : first_refusal w e ≡ None → length mid.packets + length happened.packets ≤ 1000000 → (new : Known)
      → new ≡ record mid { packets = mid.packets ++ sent_packets happened.packets } → Knows new (after w e)
  done_stands first few new is =
      subst (Knows new) (sym (ap (λ r. after_if r w e) (not_refused first few)))
      (subst (λ (known : Known). Knows known (with_packets (effect w e))) (sym is) (record {
        moment = does.world.moment;
        starts = does.world.starts;
        producer = does.world.producer;
        consumers = does.world.consumers;
        packets = λ i. does.world.packets i ++ does.packets i;
      }))

-- one event more
pub world_goes_on : (es : List Event) (e : Event) → world_after (es ++ e ∷ []) ≡ after (world_after es) e
world_goes_on es e = fold_push after nothing es e

-- full is the only refusal of packets, but for want of memory
pub full_refuses : (old mid : Known) (w : World) (e : Event) (happened : Happened) (why : StepError)
    → Does (effect w e) happened mid → first_refusal w e ≡ None
    → IsFull why (length mid.packets + length happened.packets) → Refuses w e why
full_refuses old mid w e happened error.NotStarted does first full = absurd full
full_refuses old mid w e happened error.StartLimit does first full = absurd full
full_refuses old mid w e happened error.ConsumerLimit does first full = absurd full
full_refuses old mid w e happened error.PacketLimit does first full = full_refused old mid w e happened does first full
full_refuses old mid w e happened error.OutOfMemory does first full = first

-- ---- an event of the machine

-- what an event's own function did is what the event does
pub happen_as : (r : Result Happened OutOfMemory) (old new : Known) (e own : Event) (its : World → Effect) → e ≡ own
    → ((w : World) → its w ≡ effect w own) → IfOk r (Happens old new its)
    → IfOk r (λ happened. (w : World) → Knows old w → ShowsGoals w → Does (effect w e) happened new)
happen_as (Ok happened) old new e own its is same did =
    λ w k goals. subst (λ (d : Event). Does (effect w d) happened new) (sym is)
    (subst (λ it. Does it happened new) (same w) (did w k))
happen_as (Err why) old new e own its is same did = tt

module _ (old mid : Known) (e : Event) (happened : Happened)
    (first : (w : World) → Knows old w → None ≡ first_refusal w e)
    (does : (w : World) → Knows old w → ShowsGoals w → Does (effect w e) happened mid)
    (shows : (es : List Event) → ShowsGoals (world_after es)) where
  does_after : (es : List Event) → StandsFor old es → Does (effect (world_after es) e) happened mid
  does_after es s = does (world_after es) s (shows es)

  pub step_lines : (r : Result (List Line) StepError) → IfOk r
      (λ lines. told_lines lines ≡ told_lines happened.lines
      ++ packet_lines (suc (length mid.packets)) (sent_packets happened.packets))
      → OnOk r (length mid.packets + length happened.packets ≤ 1000000)
      → IfOk r (λ lines. (es : List Event) → StandsFor old es → told (world_after es) e ≡ Ok (told_lines lines))
  step_lines (Ok lines) is room = λ es s. done_told old mid (world_after es) e happened (does_after es s) (sym (first (world_after es) s)) room lines is
  step_lines (Err why) is room = tt

  pub step_stands : (r : Result (List Line) StepError) (new : Known)
      → OnOk r (new ≡ record mid { packets = mid.packets ++ sent_packets happened.packets })
      → OnOk r (length mid.packets + length happened.packets ≤ 1000000)
      → OnOk r ((es : List Event) → StandsFor old es → StandsFor new (es ++ e ∷ []))
  step_stands (Ok lines) new is room = λ es s. subst (Knows new) (sym (world_goes_on es e))
      (done_stands old mid (world_after es) e happened (does_after es s) (sym (first (world_after es) s)) room new is)
  step_stands (Err why) new is room = tt

  pub step_refused : (r : Result (List Line) StepError)
      → IfErr r (λ why. IsFull why (length mid.packets + length happened.packets))
      → IfErr r (λ why. (es : List Event) → StandsFor old es → Refuses (world_after es) e why)
  step_refused (Ok lines) full = tt
  step_refused (Err why) full = λ es s. full_refuses old mid (world_after es) e happened why (does_after es s) (sym (first (world_after es) s)) full
