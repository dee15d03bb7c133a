-- What a relay's producer holds after its steps.
use Rattle.std.proofs.Common.{◌≡◌, ℕ, ◌≤◌, inl, inr, Bool, true, false, not, List, [], ◌∷◌, ◌++◌, length, fold, max, is_some, refl, ap, sym, ◌∙◌, subst, arith}
use Rattle.std.specs.List.{AllByRecursion}
use Rattle.std.proofs.lemmas.List.Sums.{fold-append}
use Rattle.siri_records.specs.Ends.{is_dead}
use Rattle.siri_records.specs.Keyed.{Items, InOrder, item_of, living, most_live}
use Rattle.siri_records.proofs.ItemsPassing.{order_kept, kept_if}
use Rattle.siri_messages.specs.declared.message.Message.{Message}
use Rattle.siri_messages.specs.declared.message.Message.TheVariants as message
use Rattle.siri_model.specs.History.{Entry, History, State, Step, Start, Clock, Feed, Take, Settle, nothing, after_step, entries_fed, state_of, now_of, current}
use Rattle.siri_model.proofs.InOrder.{current_in_order, in_order_all, live_later}
use Rattle.siri_producer.specs.Known.{Known, StandsFor}
use Rattle.siri_relay.specs.Feeds.{feeds_of, items_fed, removals_fed}
use Rattle.siri_relay.specs.Goes.{GoesBy, GoesSome, IsCut, IsFront}
use Rattle.siri_relay.specs.Relaying.{is_up}
use Rattle.siri_relay.specs.Standing.{HoldsAmong, HoldsView, IsOwn}
use Rattle.siri_relay.proofs.Levels.{Among, Ready, feeds_among, feeds_level, fits_taken, items_of_view, removals_of_view, still_among}
use Rattle.siri_relay.proofs.Room.{FitsView, after_all, live_at, some_kept}

-- ---- a history and more steps

abbrev pub Stands : Known → Type 0
Stands p = (h : History) × StandsFor p h

pub still_stands : (old new : Known) (steps : List Step) → Stands old → GoesBy old new steps → Stands new
still_stands old new steps s g = (s.0 ++ steps, g.stands s.0 s.1)

state_more : (h : History) (steps : List Step) → state_of (h ++ steps) ≡ fold after_step (state_of h) steps
state_more h steps = fold-append after_step nothing h steps

-- a producer knows the moment of a state, and holds what is live then
abbrev pub HoldsState : Known → State → Type 0
HoldsState p s = (p.responder.moment ≡ s.now) × (p.responder.held ≡ living s.now s.current)

-- so it does after steps
holds_after : (old new : Known) (steps : List Step) (h : History) → StandsFor old h → GoesBy old new steps
    → HoldsState new (fold after_step (state_of h) steps)
holds_after old new steps h s g =
    let t = g.stands h s in
    subst (HoldsState new) (state_more h steps) (t.responder.moment, t.responder.held)

-- ---- steps that leave what is held

pub record SameHeld (old new : Known) : Type 0 where
  pub moment : new.responder.moment ≡ old.responder.moment
  pub held : new.responder.held ≡ old.responder.held

same_by : (old new : Known) (steps : List Step) → Stands old → ((s : State) → fold after_step s steps ≡ s) → GoesBy old new steps → SameHeld old new
same_by old new steps s same g =
    let h = s.0 in
    let t = subst (HoldsState new) (same (state_of h)) (holds_after old new steps h s.1 g) in
    record { moment = t.0 ∙ sym s.1.responder.moment; held = t.1 ∙ sym s.1.responder.held }

pub none_same : (old new : Known) → Stands old → GoesBy old new [] → SameHeld old new
none_same old new s g = same_by old new [] s (λ state. refl) g

settled_state : (s : State) → after_step s Settle ≡ s
unfolding after_step
settled_state s = refl

pub settled_same : (old new : Known) → Stands old → GoesBy old new (Settle ∷ []) → SameHeld old new
settled_same old new s g = same_by old new (Settle ∷ []) s settled_state g

feeds_nothing : (m : Message) → is_up m ≡ false → entries_fed m ≡ []
feeds_nothing (message.ServiceDelivery d) down = cc
feeds_nothing (message.ServiceRequest r) down = refl
feeds_nothing (message.SubscriptionRequest r) down = refl
feeds_nothing (message.SubscriptionResponse r) down = refl
feeds_nothing (message.TerminateSubscriptionRequest r) down = refl
feeds_nothing (message.TerminateSubscriptionResponse r) down = refl
feeds_nothing (message.DataReadyNotification r) down = refl
feeds_nothing (message.DataReadyAcknowledgement r) down = refl
feeds_nothing (message.DataSupplyRequest r) down = refl
feeds_nothing (message.DataReceivedAcknowledgement r) down = refl
feeds_nothing (message.CheckStatusRequest r) down = refl
feeds_nothing (message.CheckStatusResponse r) down = refl
feeds_nothing (message.HeartbeatNotification r) down = refl

taken_state : (m : Message) → entries_fed m ≡ [] → (s : State) → after_step s (Take m) ≡ s
unfolding after_step
taken_state m nothing s = rw nothing refl

pub taken_same : (old new : Known) (m : Message) → is_up m ≡ false → Stands old → GoesBy old new (Take m ∷ []) → SameHeld old new
taken_same old new m down s g = same_by old new (Take m ∷ []) s (taken_state m (feeds_nothing m down)) g

pub same_view : (old new : Known) (view : Items) → SameHeld old new → HoldsView old view → HoldsView new view
same_view old new view same holds = same.held ∙ (holds ∙ ap (λ n. living n view) (sym same.moment))

pub same_among : (old new : Known) (fed view : Items) → SameHeld old new → HoldsAmong old fed view → HoldsAmong new fed view
same_among old new fed view same among q held = among q (ap (λ l. is_some (item_of l q)) (sym same.held) ∙ held)

-- ---- a later moment

clocked_state : (m : ℕ) (s : State) → after_step s (Clock m) ≡ record s { now = max s.now m }
unfolding after_step
clocked_state m s = refl

-- what is held then is what is still living of what was held
clocked_held : (old new : Known) (m : ℕ) → Stands old → GoesBy old new (Clock m ∷ [])
    → (new.responder.moment ≡ max old.responder.moment m) × (new.responder.held ≡ living (max old.responder.moment m) old.responder.held)
clocked_held old new m s g =
    let h = s.0 in
    let was = s.1.responder in
    let t = subst (HoldsState new) (clocked_state m (state_of h)) (holds_after old new (Clock m ∷ []) h s.1 g) in
    let later = max (now_of h) m in
    let at : later ≡ max old.responder.moment m = ap (λ n. max n m) (sym was.moment) in (
      t.0 ∙ at,
      t.1 ∙ (sym (live_later (now_of h) later (current h) (omega arith))
          ∙ ((λ i. living (at i) (sym was.held i)))),
    )

pub clocked_view : (old new : Known) (m : ℕ) (view : Items) → Stands old → GoesBy old new (Clock m ∷ []) → HoldsView old view → HoldsView new view
clocked_view old new m view s g holds =
    let t = clocked_held old new m s g in
    let later = max old.responder.moment m in
    t.1 ∙ (ap (living later) holds
    ∙ (live_later old.responder.moment later view (omega arith) ∙ ap (λ n. living n view) (sym t.0)))

held_order : (p : Known) → Stands p → InOrder p.responder.held
held_order p s =
    subst InOrder (sym s.1.responder.held) (order_kept (λ i. not (is_dead i (now_of s.0))) (current s.0) (current_in_order s.0))

pub clocked_among : (old new : Known) (m : ℕ) (fed view : Items) → Stands old → GoesBy old new (Clock m ∷ []) → HoldsAmong old fed view → HoldsAmong new fed view
clocked_among old new m fed view s g among q held =
    let t = clocked_held old new m s g in
    let later = max old.responder.moment m in
    let there : is_some (kept_if (λ i. not (is_dead i later)) (item_of old.responder.held q)) ≡ true =
    ap is_some (sym (live_at later old.responder.held q (held_order old s))) ∙ (ap (λ l. is_some (item_of l q)) (sym t.1) ∙ held) in
    among q (some_kept (λ i. not (is_dead i later)) (item_of old.responder.held q) there)

-- ---- the feeds of a view

twice_state : (s : State) (a b : List Entry) → fold after_step s (Feed a ∷ Feed b ∷ []) ≡ record s { current = after_all s.now (after_all s.now s.current a) b }
unfolding after_step
twice_state s a b = refl

-- what is known of a producer is known of the state of its history
among_state : (p : Known) (h : History) (fed view : Items) → StandsFor p h → HoldsAmong p fed view → Among (now_of h) (current h) fed view
among_state p h fed view s among q live = among q (ap (λ l. is_some (item_of l q)) s.responder.held ∙ live)

ready : (old : Known) (level : Bool) (fed view : Items) (s : Stands old) → IsOwn view → InOrder fed → HoldsAmong old fed view
    → (level ≡ true → HoldsView old fed) → Ready level (now_of s.0) (current s.0) fed view
ready old level fed view s own order among known =
    let h = s.0 in
    record {
      items_order = current_in_order h;
      fed_order = order;
      view_order = own.order;
      keyed = own.keyed;
      among = among_state old h fed view s.1 among;
      known = λ is. sym s.1.responder.held ∙ (known is ∙ ap (λ n. living n fed) s.1.responder.moment);
    }

fed_holds : (old new : Known) (level : Bool) (fed view : Items) (s : Stands old) → GoesBy old new (feeds_of level fed view)
    → HoldsState new (record (state_of s.0) { current = after_all (now_of s.0) (after_all (now_of s.0) (current s.0) (removals_fed fed view)) (items_fed level fed view) })
fed_holds old new level fed view s g =
    subst (HoldsState new) (twice_state (state_of s.0) (removals_fed fed view) (items_fed level fed view))
    (holds_after old new (feeds_of level fed view) s.0 s.1 g)

-- a view that has room is held once it was fed
pub fed_view : (old new : Known) (level : Bool) (fed view : Items) → Stands old → IsOwn view → InOrder fed → HoldsAmong old fed view
    → (level ≡ true → HoldsView old fed) → length view ≤ most_live → GoesBy old new (feeds_of level fed view) → HoldsView new view
fed_view old new level fed view s own order among known few g =
    let t = fed_holds old new level fed view s g in
    t.1 ∙ (feeds_level level (now_of s.0) (current s.0) fed view (ready old level fed view s own order among known) few
    ∙ ap (λ n. living n view) (sym t.0))

among_known : (p : Known) (now : ℕ) (items fed view : Items) → p.responder.held ≡ living now items → Among now items fed view → HoldsAmong p fed view
among_known p now items fed view is among q held = among q (ap (λ l. is_some (item_of l q)) (sym is) ∙ held)

-- a step is a feed of what a view has
abbrev IsFit : Items → Step → Type 0
IsFit view (Feed entries) = FitsView view entries
IsFit view other = ⊥

abbrev AllFit : Items → List Step → Type 0
AllFit view steps = AllByRecursion (IsFit view) steps

cut_fits : (view : Items) (s step : Step) → IsCut s step → IsFit view step → IsFit view s
cut_fits view (Feed a) (Feed entries) cut fit = subst (FitsView view) (sym cut.1) (fits_taken view cut.0 entries fit)
cut_fits view (Feed a) (Start n m) cut fit = absurd cut
cut_fits view (Feed a) (Clock m) cut fit = absurd cut
cut_fits view (Feed a) (Take m) cut fit = absurd cut
cut_fits view (Feed a) Settle cut fit = absurd cut
cut_fits view (Start n m) step cut fit = absurd cut
cut_fits view (Clock m) step cut fit = absurd cut
cut_fits view (Take m) step cut fit = absurd cut
cut_fits view Settle step cut fit = absurd cut

front_fits : (view : Items) (some all : List Step) → IsFront some all → AllFit view all → AllFit view some
front_fits view [] all f fit = tt
front_fits view (s ∷ some) [] f fit = absurd f
front_fits view (s ∷ some) (step ∷ steps) (inl f) fit = (subst (IsFit view) (sym f.0) fit.0, front_fits view some steps f.1 fit.1)
front_fits view (s ∷ some) (step ∷ steps) (inr f) fit = (cut_fits view s step f.1 fit.0, subst (AllFit view) (sym f.0) tt)

among_steps : (fed view : Items) (some : List Step) (s : State) → AllFit view some → InOrder s.current → Among s.now s.current fed view
    → Among (fold after_step s some).now (fold after_step s some).current fed view
unfolding after_step
among_steps fed view [] s fit order among = among
among_steps fed view (Feed entries ∷ some) s fit order among =
    among_steps fed view some (record s { current = after_all s.now s.current entries }) fit.1 (in_order_all s.now s.current entries order)
    (still_among s.now s.current fed view entries order fit.0 among)
among_steps fed view (Start n m ∷ some) s fit order among = absurd fit.0
among_steps fed view (Clock m ∷ some) s fit order among = absurd fit.0
among_steps fed view (Take m ∷ some) s fit order among = absurd fit.0
among_steps fed view (Settle ∷ some) s fit order among = absurd fit.0

-- wherever memory was wanting on the way, each key that is held is one of the two
pub fed_among : (old new : Known) (level : Bool) (fed view : Items) → Stands old → IsOwn view → HoldsAmong old fed view
    → GoesSome old new (feeds_of level fed view) → HoldsAmong new fed view
fed_among old new level fed view s own among g =
    let h = s.0 in
    let t = holds_after old new g.0 h s.1 g.2 in
    let fit = front_fits view g.0 (feeds_of level fed view) g.1 (removals_of_view fed view, (items_of_view level fed view own.keyed, tt)) in
    among_known new (fold after_step (state_of h) g.0).now (fold after_step (state_of h) g.0).current fed view t.1
    (among_steps fed view g.0 (state_of h) fit (current_in_order h) (among_state old h fed view s.1 among))

-- and nothing but the view's keys is held after both feeds
pub fed_within : (old new : Known) (level : Bool) (fed view : Items) → Stands old → IsOwn view → InOrder fed → HoldsAmong old fed view
    → (level ≡ true → HoldsView old fed) → GoesBy old new (feeds_of level fed view) → HoldsAmong new view view
fed_within old new level fed view s own order among known g =
    let t = fed_holds old new level fed view s g in
    let now = now_of s.0 in
    among_known new now (after_all now (after_all now (current s.0) (removals_fed fed view)) (items_fed level fed view)) view view t.1
    (feeds_among level now (current s.0) fed view (ready old level fed view s own order among known))

-- ---- a start

started_state : (number moment : ℕ) → (state_of (Start number moment ∷ [])).current ≡ []
unfolding after_step
started_state number moment = refl

pub started_none : (p : Known) (number moment : ℕ) → StandsFor p (Start number moment ∷ []) → p.responder.held ≡ []
started_none p number moment s = s.responder.held ∙ ap (living (now_of (Start number moment ∷ []))) (started_state number moment)
