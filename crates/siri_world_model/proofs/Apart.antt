-- Steps that name only other subscriptions change nothing of one.
use Rattle.std.proofs.Common.{◌≡◌, ℕ, Bool, true, false, cond, List, [], ◌∷◌, ◌++◌, map, fold, Option, Some, None, refl, sym, ap, ◌∙◌, append-nil}
use Rattle.std.specs.Prelude.{if◌then◌else◌}
use Rattle.std.specs.List.{list_any}
use Rattle.std.proofs.lemmas.Bool.{or_parts}
use Rattle.std.proofs.lemmas.Grind.{flat_map-append}
use Rattle.siri_records.specs.Keyed.{Items}
use Rattle.siri_messages.specs.Asked.{AskedFor, asked_in}
use Rattle.siri_messages.specs.Rounds.{has_round}
use Rattle.siri_messages.specs.declared.message.Message.{Message}
use Rattle.siri_messages.specs.declared.message.Message.TheVariants as message
use Rattle.siri_messages.specs.declared.supplies.Mark.{Mark}
use Rattle.siri_change.specs.Parts.{Carried}
use Rattle.siri_life.specs.Life.{Packet, Subscribe, Terminate}
use Rattle.siri_life.specs.Link.{Link}
use Rattle.siri_life.specs.Named.{Name, find, those}
use Rattle.siri_life.specs.Network.{act, acts, is_own, opening, own, packets_of, seen_by}
use Rattle.siri_life.specs.Serving.{Act, Clocked, Fed, Heard, Settled, opening_serving, serving_after, served}
use Rattle.siri_life.proofs.Alone.{apart, apart_at_settles, at_settles}
use Rattle.siri_life.proofs.Serves.{acts_serve, acts_send}
use Rattle.siri_model.specs.Direct.{direct_to}
use Rattle.siri_model.specs.History.{Entry, Step, Start, Clock, Feed, Take, Settle, History, State, entries_of, state_of}
use Rattle.siri_model.specs.Lives.{Living, Served, acknowledgement_of, acts_in, acts_of, life_of, served_after, serving_of}
use Rattle.siri_model.specs.Meaning.{direct_of, meaning}
use Rattle.siri_model.proofs.Serves.{goes_with}
use Rattle.siri_subscriptions.specs.declared.outs.Out.{Out}
use Rattle.siri_world_model.specs.laws.Networks.{WorldNetwork}
use Rattle.siri_world_model.specs.laws.Apart.{acts_along, is_about, life_sends, own_steps, sends_along, sends_of, HasNoStart, HasRoomFor, IsAlike}
use Rattle.siri_world_model.proofs.Room.{own_room}

-- ---- a history's side is that of its acts

serving_both : (xs ys : List (Act Carried AskedFor Entry)) (v : Served)
    → serving_after meaning (xs ++ ys) v ≡ serving_after meaning ys (serving_after meaning xs v)
serving_both [] ys v = refl
serving_both (x ∷ xs) ys v = serving_both xs ys (served meaning v x)

served_along : (v : Served) (steps : History) → HasNoStart steps → fold served_after v steps ≡ serving_after meaning (acts_along steps) v
unfolding served_after
served_along v [] none = refl
served_along v (Start number moment ∷ steps) none = absurd none
served_along v (Clock moment ∷ steps) none = served_along (served_after v (Clock moment)) steps none
served_along v (Feed entries ∷ steps) none = served_along (served_after v (Feed entries)) steps none
served_along v (Take message ∷ steps) none = served_along (served_after v (Take message)) steps none ∙ sym (serving_both (acts_in message) (acts_along steps) v)
served_along v (Settle ∷ steps) none = served_along (served_after v Settle) steps none

abbrev pub along : ℕ → ℕ → History → WorldNetwork
along k t steps = acts meaning (acts_along steps) (opening meaning k t)

serving_along : (k t : ℕ) (steps : History) → HasNoStart steps → serving_of (Start k t ∷ steps) ≡ (along k t steps).serving
unfolding served_after
serving_along k t steps none = served_along (opening_serving meaning k t) steps none ∙ sym (acts_serve meaning (acts_along steps) (opening meaning k t))

direct_same : (h : History) (wanted : AskedFor) → direct_of h wanted ≡ direct_of (serving_of h).known wanted
direct_same h wanted = sym (ap (λ (s : State). direct_to s.now s.current wanted.subscription.topic) (goes_with h).known)

-- ---- more steps

pub acts_both : (xs ys : List (Act Carried AskedFor Entry)) (n : WorldNetwork) → acts meaning (xs ++ ys) n ≡ acts meaning ys (acts meaning xs n)
acts_both [] ys n = refl
acts_both (x ∷ xs) ys n = acts_both xs ys _

pub along_more : (k t : ℕ) (steps : History) (step : Step) → along k t (steps ++ step ∷ []) ≡ acts meaning (acts_of step) (along k t steps)
along_more k t steps step =
    ap (λ all. acts meaning all (opening meaning k t)) (flat_map-append acts_of steps (step ∷ []))
    ∙ acts_both (acts_along steps) (acts_along (step ∷ [])) (opening meaning k t)
    ∙ ap (λ all. acts meaning all (along k t steps)) (append-nil (acts_of step))

pub none_started_more : (steps more : History) → HasNoStart steps → HasNoStart more → HasNoStart (steps ++ more)
none_started_more [] more none also = also
none_started_more (Start number moment ∷ steps) more none also = absurd none
none_started_more (Clock moment ∷ steps) more none also = none_started_more steps more none also
none_started_more (Feed entries ∷ steps) more none also = none_started_more steps more none also
none_started_more (Take message ∷ steps) more none also = none_started_more steps more none also
none_started_more (Settle ∷ steps) more none also = none_started_more steps more none also

-- ---- a message that is taken is no settle

NoneSettles : List (Act Carried AskedFor Entry) → Type 0
NoneSettles [] = Unit {0}
NoneSettles (Settled ∷ more) = ⊥
NoneSettles (Clocked moment ∷ more) = NoneSettles more
NoneSettles (Fed entries ∷ more) = NoneSettles more
NoneSettles (Heard c s packet ∷ more) = NoneSettles more

heard_settles_none : {A : Type 0} (c s : A → Name) (packet : A → Packet Carried AskedFor) (xs : List A) → NoneSettles (map (λ x. Heard (c x) (s x) (packet x)) xs)
unfolding NoneSettles
heard_settles_none c s packet [] = tt
heard_settles_none c s packet (x ∷ xs) = heard_settles_none c s packet xs

acknowledged_settles_none : (status : Bool) (consumer : Option Name) (mark : Option Mark) → NoneSettles (acknowledgement_of status consumer mark)
unfolding NoneSettles
acknowledged_settles_none true (Some consumer) (Some mark) = tt
acknowledged_settles_none true (Some consumer) None = tt
acknowledged_settles_none true None mark = tt
acknowledged_settles_none false consumer mark = tt

fed_settles_none : (b : Bool) (entries : List Entry) → NoneSettles (if b then [] else Fed entries ∷ [])
unfolding NoneSettles
fed_settles_none true entries = tt
fed_settles_none false entries = tt

taken_settles_none : (m : Message) → NoneSettles (acts_in m)
unfolding acts_in NoneSettles
taken_settles_none (message.SubscriptionRequest r) =
    heard_settles_none (λ (a : AskedFor). a.subscription.subscriber) (λ (a : AskedFor). a.subscription.identifier)
    (λ a. Subscribe r.message_identifier a) (asked_in r)
taken_settles_none (message.TerminateSubscriptionRequest r) =
    heard_settles_none (λ (i : Name). r.subscriber_ref) (λ i. i) (λ i. Terminate r.message_identifier) r.subscription_ref
taken_settles_none (message.DataReceivedAcknowledgement a) = acknowledged_settles_none a.status a.consumer_ref a.extensions
taken_settles_none (message.DataSupplyRequest r) = tt
taken_settles_none (message.ServiceDelivery d) = fed_settles_none (has_round d) (entries_of d)
taken_settles_none other = tt

-- ---- what is sent at the settles

-- of what a subscription sees
abbrev pub sends_seen : (name : Name) → Link Items Carried AskedFor History → List Out
sends_seen name w =
    let known = state_of w.known in
    life_sends (record { producer = name; start = known.start; started = known.started; now = known.now }) known.current w.life

sends_by : (name c s : Name) (k t : ℕ) (steps : History) → HasNoStart steps
    → sends_of name c s (Start k t ∷ steps) ≡ sends_seen name (seen_by meaning c s (along k t steps))
sends_by name c s k t steps none =
    let h = Start k t ∷ steps in
    let with_state : State → Option Living → List Out = λ known life.
    life_sends (record { producer = name; start = known.start; started = known.started; now = known.now })
    known.current life in
    ap (λ known. with_state known (life_of c s h)) (sym (goes_with h).known)
    ∙ ap (λ (v : Served). with_state (state_of v.known) (find c s v.table)) (serving_along k t steps none)

module _ (name c s : Name) where
  abbrev pub sends_in : List (Act Carried AskedFor Entry) → WorldNetwork → List Out
  sends_in xs n = at_settles meaning c s (sends_seen name) xs n

  quiet_front : (xs ys : List (Act Carried AskedFor Entry)) (n : WorldNetwork) → NoneSettles xs → sends_in (xs ++ ys) n ≡ sends_in ys (acts meaning xs n)
  unfolding NoneSettles
  quiet_front [] ys n none = refl
  quiet_front (Settled ∷ xs) ys n none = absurd none
  quiet_front (Clocked moment ∷ xs) ys n none = quiet_front xs ys (act meaning n (Clocked moment)) none
  quiet_front (Fed entries ∷ xs) ys n none = quiet_front xs ys (act meaning n (Fed entries)) none
  quiet_front (Heard d i packet ∷ xs) ys n none = quiet_front xs ys (act meaning n (Heard d i packet)) none

  -- it is what is sent along the steps
  pub sends_met : (k t : ℕ) (done steps : History) → HasNoStart done → HasNoStart steps
      → sends_along name c s (Start k t ∷ done) steps ≡ sends_in (acts_along steps) (along k t done)
  sends_met k t done [] first none = refl
  sends_met k t done (Start number moment ∷ steps) first none = absurd none
  sends_met k t done (Clock moment ∷ steps) first none =
      sends_met k t (done ++ Clock moment ∷ []) steps (none_started_more done (Clock moment ∷ []) first tt) none
      ∙ ap (sends_in (acts_along steps)) (along_more k t done (Clock moment))
  sends_met k t done (Feed entries ∷ steps) first none =
      sends_met k t (done ++ Feed entries ∷ []) steps (none_started_more done (Feed entries ∷ []) first tt) none
      ∙ ap (sends_in (acts_along steps)) (along_more k t done (Feed entries))
  sends_met k t done (Take m ∷ steps) first none =
      sends_met k t (done ++ Take m ∷ []) steps (none_started_more done (Take m ∷ []) first tt) none
      ∙ ap (sends_in (acts_along steps)) (along_more k t done (Take m))
      ∙ sym (quiet_front (acts_in m) (acts_along steps) (along k t done) (taken_settles_none m))
  sends_met k t done (Settle ∷ steps) first none =
      let later = sends_met k t (done ++ Settle ∷ []) steps (none_started_more done (Settle ∷ []) first tt) none
      ∙ ap (sends_in (acts_along steps)) (along_more k t done Settle) in
      λ i. sends_by name c s k t done first i ++ later i

-- two that look alike to a subscription, and send the same of it at the settles, are alike
pub alike_seen : (c s : Name) (k t : ℕ) (one other : History) → HasNoStart one → HasNoStart other
    → seen_by meaning c s (along k t one) ≡ seen_by meaning c s (along k t other)
    → ((name : Name) → sends_along name c s (Start k t ∷ []) one ≡ sends_along name c s (Start k t ∷ []) other) → IsAlike c s k t one other
alike_seen c s k t one other first second same met = record {
  life = ap (λ (v : Served). find c s v.table) (serving_along k t one first)
      ∙ ap (λ (w : Link Items Carried AskedFor History). w.life) same
      ∙ sym (ap (λ (v : Served). find c s v.table) (serving_along k t other second));
  sent = sym (ap (λ letters. packets_of meaning (those c s letters)) (acts_send meaning (acts_along one) (opening meaning k t)))
      ∙ ap (λ (w : Link Items Carried AskedFor History). w.packets) same
      ∙ ap (λ letters. packets_of meaning (those c s letters)) (acts_send meaning (acts_along other) (opening meaning k t));
  sends = met;
  direct = λ wanted. direct_same (Start k t ∷ one) wanted
      ∙ ap (λ (v : Served). direct_of v.known wanted) (serving_along k t one first)
      ∙ ap (λ (w : Link Items Carried AskedFor History). direct_of w.known wanted) same
      ∙ sym (ap (λ (v : Served). direct_of v.known wanted) (serving_along k t other second))
      ∙ sym (direct_same (Start k t ∷ other) wanted);
}

pub alike_then : (c s : Name) (k t : ℕ) (one two three : History) → IsAlike c s k t one two → IsAlike c s k t two three → IsAlike c s k t one three
alike_then c s k t one two three a b = record {
  life = a.life ∙ b.life;
  sent = a.sent ∙ b.sent;
  sends = λ name. a.sends name ∙ b.sends name;
  direct = λ wanted. a.direct wanted ∙ b.direct wanted;
}

pub alike_turned : (c s : Name) (k t : ℕ) (one other : History) → IsAlike c s k t one other → IsAlike c s k t other one
alike_turned c s k t one other a = record {
  life = sym a.life;
  sent = sym a.sent;
  sends = λ name. sym (a.sends name);
  direct = λ wanted. sym (a.direct wanted);
}

-- ---- steps that are left out

pub none_started : (c s : Name) (steps : History) → HasNoStart steps → HasNoStart (own_steps c s steps)
none_started c s [] none = tt
none_started c s (Start number moment ∷ steps) none = absurd none
none_started c s (Clock moment ∷ steps) none = none_started c s steps none
none_started c s (Feed entries ∷ steps) none = none_started c s steps none
none_started c s (Take message ∷ steps) none = by (is_about c s (Take message)) (none_started c s steps none)
  where
    by : (b : Bool) → HasNoStart (own_steps c s steps) → HasNoStart (cond b (Take message ∷ own_steps c s steps) (own_steps c s steps))
    by true rest = rest
    by false rest = rest
none_started c s (Settle ∷ steps) none = none_started c s steps none

own_both : (c s : Name) (xs ys : List (Act Carried AskedFor Entry)) → own meaning c s (xs ++ ys) ≡ own meaning c s xs ++ own meaning c s ys
own_both c s [] ys = refl
own_both c s (x ∷ xs) ys = by (is_own meaning c s x) (own_both c s xs ys)
  where
    by : (b : Bool) → own meaning c s (xs ++ ys) ≡ own meaning c s xs ++ own meaning c s ys
        → cond b (x ∷ own meaning c s (xs ++ ys)) (own meaning c s (xs ++ ys)) ≡ cond b (x ∷ own meaning c s xs)
        (own meaning c s xs) ++ own meaning c s ys
    by true rest = ap (λ zs. x ∷ zs) rest
    by false rest = rest

own_none : (c s : Name) (xs : List (Act Carried AskedFor Entry)) → list_any (is_own meaning c s) xs ≡ false → own meaning c s xs ≡ []
own_none c s [] none = refl
own_none c s (x ∷ xs) none =
    let parts = or_parts (is_own meaning c s x) (list_any (is_own meaning c s) xs) none in
    ap (λ b. cond b (x ∷ own meaning c s xs) (own meaning c s xs)) parts.0 ∙ own_none c s xs parts.1

-- what is left out is not the subscription's own
own_left : (c s : Name) (steps : History) → own meaning c s (acts_along (own_steps c s steps)) ≡ own meaning c s (acts_along steps)
own_left c s [] = refl
own_left c s (step ∷ steps) = by (is_about c s step) refl (own_left c s steps) ∙ sym (own_both c s (acts_of step) (acts_along steps))
  where
    by : (b : Bool) → is_about c s step ≡ b → own meaning c s (acts_along (own_steps c s steps)) ≡ own meaning c s (acts_along steps)
        → own meaning c s (acts_along (cond b (step ∷ own_steps c s steps) (own_steps c s steps))) ≡ own meaning c s
        (acts_of step) ++ own meaning c s (acts_along steps)
    by true is rest = own_both c s (acts_of step) (acts_along (own_steps c s steps)) ∙ ap (λ ys. own meaning c s (acts_of step) ++ ys) rest
    by false is rest = rest ∙ ap (λ xs. xs ++ own meaning c s (acts_along steps)) (sym (own_none c s (acts_of step) is))

pub others_change_nothing : (c s : Name) (k t : ℕ) (steps : History) → HasNoStart steps → HasRoomFor c s k t steps
    → HasRoomFor c s k t (own_steps c s steps) → IsAlike c s k t steps (own_steps c s steps)
others_change_nothing c s k t steps none room own_has_room =
    let one = acts_along steps in
    let left = acts_along (own_steps c s steps) in
    let none_left = none_started c s steps none in
    alike_seen c s k t steps (own_steps c s steps) none none_left
    (apart meaning c s k t one room (own_room meaning c s one k t)
    ∙ ap (λ acts_own. seen_by meaning c s (acts meaning acts_own (opening meaning k t))) (sym (own_left c s steps))
    ∙ sym (apart meaning c s k t left own_has_room (own_room meaning c s left k t)))
    (λ name. sends_met name c s k t [] steps tt none
    ∙ apart_at_settles meaning c s (sends_seen name) k t one room (own_room meaning c s one k t)
    ∙ ap (λ acts_own. sends_in name c s acts_own (opening meaning k t)) (sym (own_left c s steps))
    ∙ sym (apart_at_settles meaning c s (sends_seen name) k t left own_has_room (own_room meaning c s left k t))
    ∙ sym (sends_met name c s k t [] (own_steps c s steps) tt none_left))
