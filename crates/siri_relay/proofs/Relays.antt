-- A relay stays one.
use Rattle.std.specs.Prelude.{ℤ}
use Rattle.std.proofs.Common.{◌≡◌, ℕ, ◌≤◌, ◌⊎◌, inl, inr, Bool, true, false, List, [], ◌∷◌, ◌++◌, length, is_some, Option, Some, None, refl, ap, sym, ◌∙◌, subst, arith}
use Rattle.std.specs.Prelude.{Result, Ok, Err, OnOk, OnErr}
use Rattle.siri_base.specs.declared.errors.OutOfMemory.{OutOfMemory}
use Rattle.std.proofs.lemmas.Bool.{leb-true}
use Rattle.siri_records.specs.declared.key.Key.{Key}
use Rattle.siri_records.specs.Keyed.{Items, item_of, most_live}
use Rattle.siri_topic.specs.declared.subscription.Subscription.{Subscription}
use Rattle.siri_messages.specs.declared.message.Message.{Message}
use Rattle.siri_messages.specs.declared.message.Message.TheVariants as message
use Rattle.siri_model.specs.History.{Start, Clock, Take, Settle}
use Rattle.siri_model.proofs.InOrder.{none_in_order}
use Rattle.siri_producer.specs.Answers.{is_feed}
use Rattle.siri_producer.specs.Known.{GoesOn, Known, RefusedAt, RefusedIf, SameButReads, StandsFor}
use Rattle.siri_view.specs.Consuming.{Consuming, after_message, after_subscribe, clocked, seen_of}
use Rattle.siri_view.specs.declared.outcome.Outcome.{Outcome}
use Rattle.siri_view.specs.declared.outcome.Outcome.TheVariants as outcome
use Rattle.siri_relay.specs.Feeds.{feeds_of, has_room}
use Rattle.siri_relay.specs.Goes.{GoesBy, GoesSome}
use Rattle.siri_relay.specs.Relaying.{KnownRelay, is_up, view_in}
use Rattle.siri_relay.specs.Standing.{HoldsAmong, HoldsView, IsOwn, IsRelay}
use Rattle.siri_relay.proofs.Goings.{goes_counted, goes_one}
use Rattle.siri_relay.proofs.Held.{SameHeld, Stands, clocked_among, clocked_view, fed_among, fed_view, fed_within, none_same, same_among, same_view, settled_same, started_none}
use Rattle.siri_relay.proofs.Held.{still_stands, taken_same}
use Rattle.siri_relay.proofs.ViewKept.{AppliesNothing, nothing_held, opened_view, own_after, own_none, view_stays}

-- a relay of these parts
abbrev pub made : Known → Consuming → Option (List ℕ) → Items → Bool → KnownRelay
made p c u f l = record { producer = p; consumer = c; upstream = u; fed = f; level = l }

-- ---- a new one

pub new_relay : (p : Known) (c : Consuming) (number moment : ℕ) → StandsFor p (Start number moment ∷ []) → c.held ≡ []
    → IsRelay (made p c None [] true)
new_relay p c number moment s none =
    let held = started_none p number moment s in
    record {
      stands = (Start number moment ∷ [], s);
      level = λ is. record { holds = held; fed = refl; room = omega arith };
      among = λ key there. absurd (cc (sym there ∙ ap (λ l. is_some (item_of l key)) held));
      view = own_none;
      fed = none_in_order;
      unopened = λ is. none;
    }

-- ---- the same view

pub same_view_relay : (p : Known) (c d : Consuming) (u v : Option (List ℕ)) (f : Items) (l : Bool) → IsRelay (made p c u f l)
    → view_in v d ≡ view_in u c → (v ≡ None → d.held ≡ []) → IsRelay (made p d v f l)
same_view_relay p c d u v f l r same unopened = record {
  stands = r.stands;
  level = λ is. let now = r.level is in
      record {
        holds = subst (HoldsView p) (sym same) now.holds;
        fed = now.fed ∙ sym same;
        room = subst (λ (x : Items). length x ≤ most_live) (sym same) now.room;
      };
  among = subst (HoldsAmong p f) (sym same) r.among;
  view = subst IsOwn (sym same) r.view;
  fed = r.fed;
  unopened = unopened;
}

-- before a relay has subscribed its view is empty
unopened_view : (c : Consuming) (u : Option (List ℕ)) → u ≡ None → view_in u c ≡ []
unopened_view c None is = refl
unopened_view c (Some q) is = absurd (cc is)

-- after it has subscribed
pub opened_relay : (p : Known) (c : Consuming) (u : Option (List ℕ)) (f : Items) (l : Bool) (wanted : Subscription) (beat : ℤ)
    → IsRelay (made p c u f l) → u ≡ None
    → IsRelay (made p (after_subscribe c (wanted ∷ []) beat) (Some wanted.identifier) f l)
opened_relay p c u f l wanted beat r none =
    same_view_relay p c (after_subscribe c (wanted ∷ []) beat) u (Some wanted.identifier) f l r
    (opened_view c wanted beat (r.unopened none) ∙ sym (unopened_view c u none)) (λ is. absurd (cc is))

-- ---- the same items held

pub same_held_relay : (p q : Known) (c : Consuming) (u : Option (List ℕ)) (f : Items) (l : Bool) → IsRelay (made p c u f l)
    → Stands q → SameHeld p q → IsRelay (made q c u f l)
same_held_relay p q c u f l r s same = record {
  stands = s;
  level = λ is. let now = r.level is in
      record { holds = same_view p q (view_in u c) same now.holds; fed = now.fed; room = now.room };
  among = same_among p q f (view_in u c) same r.among;
  view = r.view;
  fed = r.fed;
  unopened = r.unopened;
}

-- ---- a later moment

-- a clock leaves the view
pub clocked_in : (u : Option (List ℕ)) (c : Consuming) (m : ℕ) → view_in u (clocked c m) ≡ view_in u c
clocked_in None c m = refl
clocked_in (Some q) c m = refl

pub clocked_relay : (p q : Known) (c : Consuming) (u : Option (List ℕ)) (f : Items) (l : Bool) (m : ℕ) → IsRelay (made p c u f l)
    → GoesBy p q (Clock m ∷ []) → IsRelay (made q (clocked c m) u f l)
clocked_relay p q c u f l m r g =
    same_view_relay q c (clocked c m) u u f l later (clocked_in u c m) r.unopened
  where
    later : IsRelay (made q c u f l)
    later = record {
      stands = still_stands p q (Clock m ∷ []) r.stands g;
      level = λ is. let now = r.level is in
          record { holds = clocked_view p q m (view_in u c) r.stands g now.holds; fed = now.fed; room = now.room };
      among = clocked_among p q m f (view_in u c) r.stands g r.among;
      view = r.view;
      fed = r.fed;
      unopened = r.unopened;
    }

-- ---- a view that is fed

-- where memory was wanting on the way
pub behind_relay : (p q : Known) (c : Consuming) (u : Option (List ℕ)) (f : Items) (level : Bool) → IsRelay (made p c u f false)
    → GoesSome p q (feeds_of level f (view_in u c)) → IsRelay (made q c u f false)
behind_relay p q c u f level r g = record {
  stands = still_stands p q g.0 r.stands g.2;
  level = λ is. absurd (cc is);
  among = fed_among p q level f (view_in u c) r.stands r.view r.among g;
  view = r.view;
  fed = r.fed;
  unopened = r.unopened;
}

-- and where it was whole
pub fed_relay : (p q : Known) (c : Consuming) (u : Option (List ℕ)) (f : Items) (level room : Bool) → IsRelay (made p c u f false)
    → (level ≡ true → HoldsView p f) → room ≡ has_room (view_in u c) → GoesBy p q (feeds_of level f (view_in u c))
    → IsRelay (made q c u (view_in u c) room)
fed_relay p q c u f level room r known is g = record {
  stands = still_stands p q (feeds_of level f (view_in u c)) r.stands g;
  level = λ yes. let few = leb-true (length (view_in u c)) most_live (sym is ∙ yes) in
      record {
        holds = fed_view p q level f (view_in u c) r.stands r.view r.fed r.among known few g;
        fed = refl;
        room = few;
      };
  among = fed_within p q level f (view_in u c) r.stands r.view r.fed r.among known g;
  view = r.view;
  fed = r.view.order;
  unopened = r.unopened;
}

-- ---- a message for the consumer

-- no round was applied
pub heard_relay : (p : Known) (c : Consuming) (u : Option (List ℕ)) (f : Items) (l : Bool) (m : Message) → IsRelay (made p c u f l)
    → AppliesNothing (seen_of c m).outcome → IsRelay (made p (after_message c m) u f l)
heard_relay p c u f l m r none =
    same_view_relay p c (after_message c m) u u f l r (view_stays u c m none) (λ is. nothing_held c m (r.unopened is))

-- a round was applied, and its changes aren't fed yet: what was fed last was the view before it
pub applied_relay : (p : Known) (c : Consuming) (u : Option (List ℕ)) (f : Items) (l : Bool) (m : Message) → IsRelay (made p c u f l)
    → f ≡ view_in u c → IsRelay (made p (after_message c m) u f false)
applied_relay p c u f l m r fed = record {
  stands = r.stands;
  level = λ is. absurd (cc is);
  among = λ key there. inl (either key (r.among key there));
  view = own_after u c m r.view;
  fed = r.fed;
  unopened = λ is. nothing_held c m (r.unopened is);
}
  where
    either : (key : Key) → (is_some (item_of f key) ≡ true) ⊎ (is_some (item_of (view_in u c) key) ≡ true) → is_some (item_of f key) ≡ true
    either key (inl there) = there
    either key (inr there) = subst (λ (x : Items). is_some (item_of x key) ≡ true) (sym fed) there

-- ---- calls of the producer

-- a settle, whatever comes of it
pub settled_relay : {T : Type 0} (p q : Known) (c : Consuming) (u : Option (List ℕ)) (f : Items) (l : Bool) (result : Result T OutOfMemory)
    → IsRelay (made p c u f l) → OnOk result (GoesOn p q Settle) → OnErr result (SameButReads p q)
    → q.responder.name ≡ p.responder.name → IsRelay (made q c u f l)
settled_relay p q c u f l (Ok value) r ok err name =
    let g = goes_one p q Settle ok name in
    same_held_relay p q c u f l r (still_stands p q (Settle ∷ []) r.stands g) (settled_same p q r.stands g)
settled_relay p q c u f l (Err error) r ok err name =
    let g = goes_counted p q err in same_held_relay p q c u f l r (still_stands p q [] r.stands g) (none_same p q r.stands g)

-- a message for the producer is no feed
no_feed : (m : Message) → is_up m ≡ false → is_feed m ≡ false
no_feed (message.ServiceDelivery d) down = absurd (cc down)
no_feed (message.ServiceRequest r) down = refl
no_feed (message.SubscriptionRequest r) down = refl
no_feed (message.SubscriptionResponse r) down = refl
no_feed (message.TerminateSubscriptionRequest r) down = refl
no_feed (message.TerminateSubscriptionResponse r) down = refl
no_feed (message.DataReadyNotification r) down = refl
no_feed (message.DataReadyAcknowledgement r) down = refl
no_feed (message.DataSupplyRequest r) down = refl
no_feed (message.DataReceivedAcknowledgement r) down = refl
no_feed (message.CheckStatusRequest r) down = refl
no_feed (message.CheckStatusResponse r) down = refl
no_feed (message.HeartbeatNotification r) down = refl

pub refused_goes : (p q : Known) (m : Message) → is_up m ≡ false → RefusedAt p q m → GoesBy p q []
refused_goes p q m down err = goes_counted p q (subst (λ b. RefusedIf b p q m) (no_feed m down) err)

pub taken_relay : {T : Type 0} (p q : Known) (c : Consuming) (u : Option (List ℕ)) (f : Items) (l : Bool) (m : Message) (result : Result T OutOfMemory)
    → is_up m ≡ false → IsRelay (made p c u f l) → OnOk result (GoesOn p q (Take m)) → OnErr result (RefusedAt p q m)
    → q.responder.name ≡ p.responder.name → IsRelay (made q c u f l)
taken_relay p q c u f l m (Ok value) down r ok err name =
    let g = goes_one p q (Take m) ok name in
    same_held_relay p q c u f l r (still_stands p q (Take m ∷ []) r.stands g) (taken_same p q m down r.stands g)
taken_relay p q c u f l m (Err error) down r ok err name =
    let g = refused_goes p q m down err in same_held_relay p q c u f l r (still_stands p q [] r.stands g) (none_same p q r.stands g)

-- ---- a request

pub none_asked : (u : Option (List ℕ)) → is_some u ≡ false → u ≡ None
none_asked None is = refl
none_asked (Some q) is = absurd (cc is)

-- by the list that the consumer was handed
pub opened_from : (p : Known) (c d : Consuming) (u : Option (List ℕ)) (f : Items) (l : Bool) (wanted copy : Subscription) (identifier : List ℕ)
    (first list : List Subscription) (beat : ℤ) → IsRelay (made p c u f l) → u ≡ None → list ≡ first ++ copy ∷ [] → first ≡ [] → copy ≡ wanted
    → identifier ≡ wanted.identifier → d ≡ after_subscribe c list beat → IsRelay (made p d (Some identifier) f l)
opened_from p c d u f l wanted copy identifier first list beat r none pushed empty same named is =
    let all : list ≡ wanted ∷ [] = pushed ∙ (λ i. empty i ++ same i ∷ []) in
    let back : after_subscribe c (wanted ∷ []) beat ≡ d = ap (λ w. after_subscribe c w beat) (sym all) ∙ sym is in
    subst (λ (x : Consuming × List ℕ). IsRelay (made p x.0 (Some x.1) f l)) (λ i. (back i, sym named i))
    (opened_relay p c u f l wanted beat r none)

-- ---- by what a call answered

pub behind_from : (p q : Known) (c : Consuming) (u : Option (List ℕ)) (f g view : Items) (l level : Bool) → IsRelay (made p c u f l)
    → l ≡ false → g ≡ f → view ≡ view_in u c → GoesSome p q (feeds_of level f view) → IsRelay (made q c u g l)
behind_from p q c u f g view l level r is same seen went =
    let before = subst (λ b. IsRelay (made p c u f b)) is r in
    let after = behind_relay p q c u f level before (subst (λ (v : Items). GoesSome p q (feeds_of level f v)) seen went) in
    subst (λ (x : Items × Bool). IsRelay (made q c u x.0 x.1)) (λ i. (sym same i, sym is i)) after

pub fed_from : (p q : Known) (c : Consuming) (u : Option (List ℕ)) (f g view : Items) (l level room : Bool) → IsRelay (made p c u f l)
    → l ≡ false → (level ≡ true → HoldsView p f) → view ≡ view_in u c → g ≡ view → room ≡ has_room view
    → GoesBy p q (feeds_of level f view) → IsRelay (made q c u g room)
fed_from p q c u f g view l level room r is known seen same few went =
    let before = subst (λ b. IsRelay (made p c u f b)) is r in
    let after = fed_relay p q c u f level room before known (few ∙ ap has_room seen) (subst (λ (v : Items). GoesBy p q (feeds_of level f v)) seen went) in
    subst (λ (x : Items). IsRelay (made q c u x room)) (sym (same ∙ seen)) after

pub clocked_from : (p q : Known) (c d : Consuming) (u : Option (List ℕ)) (f : Items) (l : Bool) (m : ℕ) → IsRelay (made p c u f l)
    → GoesOn p q (Clock m) → q.responder.name ≡ p.responder.name → d ≡ clocked c m → IsRelay (made q d u f l)
clocked_from p q c d u f l m r g name is =
    subst (λ (x : Consuming). IsRelay (made q x u f l)) (sym is) (clocked_relay p q c u f l m r (goes_one p q (Clock m) g name))

pub heard_from : (p : Known) (c d : Consuming) (u : Option (List ℕ)) (f : Items) (l : Bool) (m : Message) → IsRelay (made p c u f l)
    → AppliesNothing (seen_of c m).outcome → d ≡ after_message c m → IsRelay (made p d u f l)
heard_from p c d u f l m r none is = subst (λ (x : Consuming). IsRelay (made p x u f l)) (sym is) (heard_relay p c u f l m r none)

pub applied_from : (p : Known) (c d : Consuming) (u : Option (List ℕ)) (f : Items) (l : Bool) (m : Message) → IsRelay (made p c u f l)
    → f ≡ view_in u c → d ≡ after_message c m → IsRelay (made p d u f false)
applied_from p c d u f l m r fed is = subst (λ (x : Consuming). IsRelay (made p x u f false)) (sym is) (applied_relay p c u f l m r fed)

pub view_from : (c d : Consuming) (u : Option (List ℕ)) (m : Message) → AppliesNothing (seen_of c m).outcome → d ≡ after_message c m
    → view_in u c ≡ view_in u d
view_from c d u m none is = sym (ap (view_in u) is ∙ view_stays u c m none)

pub not_applied : (o : Outcome) → ((round : ℕ) → o ≡ outcome.Applied round → ⊥) → AppliesNothing o
not_applied (outcome.Applied round) not = not round refl
not_applied outcome.UnknownSubscription not = tt
not_applied outcome.OldStart not = tt
not_applied (outcome.Gap wanted) not = tt
not_applied outcome.Repeat not = tt
not_applied outcome.Overlong not = tt
not_applied outcome.Ready not = tt
not_applied (outcome.Buffered place) not = tt
not_applied outcome.Noted not = tt
not_applied outcome.NotForMe not = tt
