-- After any history each life of the table is of its start, and where a round is outstanding some part of it is wanted.
use Rattle.std.proofs.Common.{◌≡◌, List, [], ◌∷◌, ℕ, fold, refl, sym, subst, ◌∙◌}
use Rattle.siri_messages.specs.Asked.{AskedFor}
use Rattle.siri_change.specs.Parts.{Carried}
use Rattle.siri_life.specs.Life.{Packet, Subscribe, Terminate, AllData, Supply, Acknowledge, Notify, Delivery}
use Rattle.siri_life.specs.Serving.{Act, Clocked, Fed, Heard, Settled, heard, lives_on, served, serving_after, clocked_serving}
use Rattle.siri_model.specs.History.{Entry, Step, Start, Clock, Feed, Take, Settle, History}
use Rattle.siri_model.specs.Lives.{Living, Served, acts_in, none_served, served_after, serving_of}
use Rattle.siri_model.specs.Meaning.{meaning}
use Rattle.siri_model.proofs.Serves.{heard_keeps}
use Rattle.siri_world_model.proofs.Lives.{GoesOn, HasPart}
use Rattle.siri_world_model.proofs.Tables.{AllLive, Begins, heard_all, kept_all, settled_all}

-- a life is of a start, and has its wanted part
pub record IsOf (k : ℕ) (l : Living) : Type 0 where
  pub start : l.start ≡ k
  pub part : HasPart l.outstanding

stays : (k : ℕ) (new old : Living) → GoesOn new old → IsOf k old → IsOf k new
stays k new old goes is = record { start = goes.start ∙ is.start; part = goes.part is.part }

begins : (v : Served) (p : Packet Carried AskedFor) → Begins (IsOf v.start) (stays v.start) v p
begins v (Subscribe number wanted) = record { start = refl; part = tt }
begins v (Terminate number) = tt
begins v (AllData number base) = λ wanted. record { start = refl; part = tt }
begins v (Supply m) = tt
begins v (Acknowledge m) = tt
begins v (Notify m moment) = tt
begins v (Delivery m moment more part) = tt

-- each life of a producer's side is
abbrev pub Stands : Served → Type 0
Stands v = AllLive (IsOf v.start) v.table

stands_act : (v : Served) (a : Act Carried AskedFor Entry) → Stands v → Stands (served meaning v a)
stands_act v (Clocked moment) stand = kept_all (IsOf v.start) (lives_on meaning (clocked_serving meaning v moment).now) v.table stand
stands_act v (Fed entries) stand = stand
stands_act v (Heard c s p) stand =
    subst (λ k. AllLive (IsOf k) (heard meaning v c s p).table) (sym (heard_keeps v c s p).start)
    (heard_all (IsOf v.start) (stays v.start) v c s p (begins v p) stand)
stands_act v Settled stand = settled_all (IsOf v.start) (stays v.start) v.known v.now v.table stand

stands_acts : (v : Served) (acts : List (Act Carried AskedFor Entry)) → Stands v → Stands (serving_after meaning acts v)
stands_acts v [] stand = stand
stands_acts v (a ∷ acts) stand = stands_acts (served meaning v a) acts (stands_act v a stand)

stands_step : (v : Served) (step : Step) → Stands v → Stands (served_after v step)
unfolding served_after
stands_step v (Start number moment) stand = tt
stands_step v (Clock moment) stand = stands_act v (Clocked moment) stand
stands_step v (Feed entries) stand = stand
stands_step v (Take m) stand = stands_acts v (acts_in m) stand
stands_step v Settle stand = stands_act v Settled stand

stands_from : (v : Served) (steps : History) → Stands v → Stands (fold served_after v steps)
stands_from v [] stand = stand
stands_from v (step ∷ steps) stand = stands_from (served_after v step) steps (stands_step v step stand)

pub stands_after : (h : History) → Stands (serving_of h)
stands_after h = stands_from none_served h tt
