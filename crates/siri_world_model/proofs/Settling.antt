-- Right after a settle nothing is due of a subscription: no message of its wanted part, and no heartbeat.
use Rattle.std.proofs.Common.{◌≡◌, ℕ, zero, suc, ℤ, pos, negsuc, ◌+◌, Bool, true, false, ◌&&◌, List, [], ◌∷◌, ◌++◌, Option, Some, None}
use Rattle.std.proofs.Common.{refl, sym, ap, ◌∙◌, subst, arith}
use Rattle.std.specs.Prelude.{int_lt, option_map, if◌then◌else◌}
use Rattle.std.proofs.lemmas.Bool.{lt-ltb}
use Rattle.siri_records.specs.Keyed.{Items}
use Rattle.siri_messages.specs.Asked.{AskedFor}
use Rattle.siri_messages.specs.declared.message.Message.TheVariants as message
use Rattle.siri_subs.specs.Beats as status
use Rattle.siri_life.specs.Life.{settled}
use Rattle.siri_life.specs.Named.{Name, find, first, those}
use Rattle.siri_life.specs.Slot.{is_message_due, slot_of}
use Rattle.siri_life.proofs.Alone.{Rests, Still, settled_still}
use Rattle.siri_life.proofs.Names.{settled_all, those_settled}
use Rattle.siri_model.specs.Direct.{direct_to}
use Rattle.siri_model.specs.History.{Settle, History, State, after_step, current, now_of, state_of}
use Rattle.siri_model.specs.Lives.{Living, Served, life_of, served_after, serving_of}
use Rattle.siri_model.specs.Meaning.{direct_of, meaning}
use Rattle.siri_model.specs.Rows.{asked_of, looked, row_of}
use Rattle.siri_model.proofs.InOrder.{more_steps}
use Rattle.siri_model.proofs.Serves.{goes_with, more_served}
use Rattle.siri_subs.specs.rounds.Wanted.{KeptRounds, wanted_part}
use Rattle.siri_subscriptions.specs.replies.Statuses.{heartbeat}
use Rattle.siri_subscriptions.specs.Messages.{message_of}
use Rattle.siri_subscriptions.specs.Sends.{At, heartbeat_due, outs_with, part_due, row_sends}
use Rattle.siri_producer.specs.Sends.{at_of}
use Rattle.siri_world_model.specs.laws.Apart.{life_sends, sends_of}
use Rattle.siri_world_model.proofs.Sends.{look_keeps}

-- ---- heartbeats

and_false : (b : Bool) → (b && false) ≡ false
and_false true = refl
and_false false = refl

beat_rests : (every : ℤ) (now : ℕ) → status.is_due (record { every = every; last = now }) now ≡ false
beat_rests (pos zero) now = refl
beat_rests (pos (suc n)) now = rw (lt-ltb now (now + suc n) (omega arith)) (and_false (int_lt (pos 0) (pos (suc n))))
beat_rests (negsuc n) now = refl

-- right after a heartbeat none is due
pub rests : Rests meaning
rests wanted now = beat_rests wanted.beat now

-- ---- a life

module _ (at : At) (items : Items) where
  abbrev direct : AskedFor → Items
  direct wanted = direct_to at.now items wanted.subscription.topic

  -- of a life that a settle leaves as it is nothing is due
  quiet_life : (l : Living) → Still meaning (direct l.wanted) at.now l → row_sends at items (row_of l) ≡ []
  quiet_life l still = λ i. outs_with (row_of l) (no_part i) ++ outs_with (row_of l) (no_heartbeat i)
    where
      not_due : is_message_due (looked (asked_of (row_of l)) (direct l.wanted) at.now (slot_of meaning l)) at.now ≡ false
      not_due = ap (λ (kept : KeptRounds). is_message_due kept at.now) (look_keeps l (direct l.wanted) at.now) ∙ still.2

      no_part : part_due at items (row_of l) ≡ None
      no_part = ap (λ due. if due then option_map (message_of at.producer at.start l.wanted.subscription l.number)
          (wanted_part (looked (asked_of (row_of l)) (direct l.wanted) at.now (slot_of meaning l))) else None) not_due

      no_heartbeat : heartbeat_due at (row_of l) ≡ None
      no_heartbeat = ap (λ due. if due then Some (message.HeartbeatNotification (heartbeat at.producer at.now at.started)) else None) still.3

  -- a settle leaves one so
  abbrev after_settle : Living → Living
  after_settle l = settled meaning l (direct l.wanted) at.now

  settled_quiet : (l : Living) → row_sends at items (row_of (after_settle l)) ≡ []
  settled_quiet l =
      let a = settled_still meaning rests l (direct l.wanted) at.now in
      quiet_life (after_settle l) (subst (λ (wanted : AskedFor). Still meaning (direct wanted) at.now (after_settle l)) (sym a.1) a.0)

  held_quiet : (held : Option Living) → life_sends at items (option_map after_settle held) ≡ []
  held_quiet None = refl
  held_quiet (Some l) = settled_quiet l

-- ---- after a history

first_settled : (known : History) (now : ℕ) (lives : List Living)
    → first (settled_all meaning known now lives) ≡ option_map
    (λ (l : Living). settled meaning l (direct_of known l.wanted) now) (first lives)
first_settled known now [] = refl
first_settled known now (l ∷ lives) = refl

-- the life after a settle, by what is shown
life_settles : (c s : Name) (h : History) → life_of c s (h ++ Settle ∷ []) ≡ option_map
    (λ (l : Living). settled meaning l (direct_to (now_of h) (current h) l.wanted.subscription.topic) (now_of h))
    (life_of c s h)
unfolding served_after
life_settles c s h =
    let v = serving_of h in
    let goes = goes_with h in
    ap (λ (served : Served). find c s served.table) (more_served h Settle)
    ∙ ap (λ lives. first lives) (those_settled meaning c s v.known v.now v.table)
    ∙ first_settled v.known v.now (those c s v.table)
    ∙ (λ i. option_map (λ (l : Living). settled meaning l
    (direct_to (goes.known i).now (goes.known i).current l.wanted.subscription.topic) (goes.now i)) (life_of c s h))

state_settles : (h : History) → state_of (h ++ Settle ∷ []) ≡ state_of h
unfolding after_step
state_settles h = more_steps h Settle

-- right after a settle nothing is sent of a subscription
pub settled_sends_none : (name c s : Name) (h : History) → sends_of name c s (h ++ Settle ∷ []) ≡ []
settled_sends_none name c s h =
    let state = state_settles h in
    let life = life_settles c s h in
    let at : State → At = λ known. record { producer = name; start = known.start; started = known.started; now = known.now } in
    (λ i. life_sends (at (state i)) (state i).current (life i)) ∙ held_quiet (at_of name h) (current h) (life_of c s h)
