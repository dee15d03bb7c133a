-- A round of one part leaves what it doesn't name.
use Rattle.std.specs.Prelude.{◌==◌, nat_eq, nat_lt, suc, option_and_then, IfSome, if◌then◌else◌}
use Rattle.std.proofs.Common.{◌≡◌, ℕ, inl, inr, List, [], ◌∷◌, ◌++◌, length, map, Bool, true, false, not, ◌&&◌, ◌||◌, cond, Option, Some, None, refl, ap, sym, ◌∙◌, subst, eqb-true, arith}
use Rattle.std.specs.Map.{keys_of}
use Rattle.std.specs.Option.{option_eq}
use Rattle.std.proofs.lemmas.Bool.{and_parts}
use Rattle.siri_base.specs.Numbers.{number_of}
use Rattle.siri_records.specs.declared.item.Item.{Item}
use Rattle.siri_records.specs.declared.key.Key.{Key}
use Rattle.siri_records.specs.Keys.{key_of}
use Rattle.siri_records.specs.KeyLists.{is_among}
use Rattle.siri_records.specs.Keyed.{Items, InOrder, KeyChange, after_change, apply, item_of}
use Rattle.siri_topic.specs.Agreement.{same_name}
use Rattle.siri_change.specs.Parts.{Carried, changes_in}
use Rattle.siri_change.proofs.Leads.{held_after, off_left, off_right, order_after, tied}
use Rattle.siri_messages.specs.declared.deliveries.FunctionalDelivery.{FunctionalDelivery}
use Rattle.siri_messages.specs.declared.message.Message.{Message}
use Rattle.siri_messages.specs.declared.message.Message.TheVariants as message
use Rattle.siri_messages.specs.Rounds.{functional_deliveries}
use Rattle.siri_life.specs.Life.{Mark, greatest_round}
use Rattle.siri_life.specs.Link as life
use Rattle.siri_life.specs.Link.{base_of, taken_as, with_start_if}
use Rattle.siri_life.specs.Meaning.{apply_parts, most_parts}
use Rattle.siri_view.specs.Consuming.{Consuming, after_heard, after_message, kept_for}
use Rattle.siri_view.specs.Hearing.{Heard, Delivered, Notified, Noted, Foreign, carried_by, heard, only, placed, placed_at}
use Rattle.siri_view.specs.Kept.{meaning, HeldSubscription, kept_of}
use Rattle.siri_relay.specs.Named.{IsRound, is_whole, named_by, named_if, named_in}
use Rattle.siri_relay.specs.Relaying.{view_held, view_in}
use Rattle.siri_relay.specs.Standing.{IsOwn}
use Rattle.siri_relay.proofs.Few.{none_in}
use Rattle.siri_relay.proofs.ViewKept.{delivery_keeps, own_base, own_kept, own_none, own_taken}

-- ---- changes

-- a key of which there is no change stays as it was
unnamed : (a : Items) (cs : List KeyChange) (q : Key) → InOrder a → is_among q (keys_of cs) ≡ false → item_of (apply a cs) q ≡ item_of a q
unnamed a [] q s out = refl
unnamed a (c ∷ cs) q s out =
    unnamed (after_change a c) cs q (order_after a c s) (off_right (tied q c.0) (is_among q (keys_of cs)) out)
    ∙ (held_after a c q s ∙ ap (λ b. cond b c.1 (item_of a q)) (off_left (tied q c.0) (is_among q (keys_of cs)) out))

-- the keys that a part names
abbrev carried_keys : Carried → List Key
carried_keys part = map key_of part.items ++ part.removals

keys_removed : (ks : List Key) → keys_of (map {B = KeyChange} (λ key. (key, None)) ks) ≡ ks
keys_removed [] = refl
keys_removed (k ∷ ks) = ap (λ l. k ∷ l) (keys_removed ks)

keys_changed : (items : List Item) (removals : List Key)
    → keys_of (changes_in (record { items = items; removals = removals })) ≡ map key_of items ++ removals
keys_changed [] ks = keys_removed ks
keys_changed (i ∷ items) ks = ap (λ l. key_of i ∷ l) (keys_changed items ks)

part_leaves : (a : Items) (part : Carried) (q : Key) → InOrder a → is_among q (carried_keys part) ≡ false
    → item_of (apply a (changes_in part)) q ≡ item_of a q
part_leaves a part q s out = unnamed a (changes_in part) q s (ap (is_among q) (keys_changed part.items part.removals) ∙ out)

-- ---- a part that is all of its round

round_part : (before base : Items) (part : Carried) → IsOwn base → IsRound (carried_keys part) before base
    → IsRound (carried_keys part) before (apply base (changes_in part))
round_part before base part own (inl same) = inl (λ q out. part_leaves base part q own.order out ∙ same q out)
round_part before base part own (inr none) = inr (λ q out. part_leaves base part q own.order out ∙ none q out)

round_base : (keys : List Key) (before : Items) (first incremental : Bool) (view : Items) → IsRound keys before view
    → IsRound keys before (cond first [] (cond incremental view []))
round_base keys before true incremental view r = inr (λ q out. refl)
round_base keys before false true view r = r
round_base keys before false false view r = inr (λ q out. refl)

by_number : (b : Bool) (x : life.Outcome) → cond b x life.UnknownSubscription ≡ life.Wanted → x ≡ life.Wanted
by_number true x is = is
by_number false x is = absurd (cc is)

by_start : (b : Bool) (x : life.Outcome) → cond b life.OldStart x ≡ life.Wanted → x ≡ life.Wanted
by_start true x is = absurd (cc is)
by_start false x is = is

by_newer : (b : Bool) (x y : life.Outcome) → b ≡ false → cond b x y ≡ life.Wanted → y ≡ life.Wanted
by_newer true x y off is = absurd (cc off)
by_newer false x y off is = is

by_place : (a b c : Bool) → cond a life.Repeat (cond b (cond c life.Overlong life.Wanted) life.Gap) ≡ life.Wanted → b ≡ true
by_place true b c is = absurd (cc is)
by_place false true c is = refl
by_place false false c is = absurd (cc is)

-- where the first part of a round of the kept start is wanted, none came before it
none_before : (number start round parts : ℕ) (m : Mark) → life.outcome_by number start round parts m ≡ life.Wanted
    → nat_lt start m.start ≡ false → m.part ≡ 1 → parts ≡ 0
none_before number start round parts m is same first =
    let here : life.outcome_at_start round parts m ≡ life.Wanted =
    by_newer (nat_lt start m.start) _ _ same (by_start (nat_lt m.start start) _ (by_number (m.number == number) _ is)) in
    let place : (m.round == suc round && m.part == suc parts) ≡ true =
    by_place (nat_lt m.round (suc round) || (m.round == suc round && nat_lt m.part (suc parts))) (m.round == suc round && m.part == suc parts)
    (m.part == suc most_parts || m.round == suc greatest_round) here in
    let part : m.part ≡ suc parts = eqb-true m.part (suc parts) ((and_parts (m.round == suc round) (m.part == suc parts) place).1) in
    omega (arith, part, first)

round_start : (b more : Bool) (before : Items) (h : HeldSubscription) (m : Mark) (part : Carried) → nat_lt h.start m.start ≡ b
    → life.outcome meaning h m ≡ life.Wanted → m.part ≡ 1 → IsOwn h.view → IsRound (carried_keys part) before h.view
    → IsRound (carried_keys part) before (life.with_part meaning more (with_start_if meaning b h m.start) part).view
round_start true true before h m part newer is first own r = r
round_start false true before h m part newer is first own r = r
round_start true false before h m part newer is first own r = round_part before [] part own_none (inr (λ q out. refl))
round_start false false before h m part newer is first own r =
    let none = none_in h.parts (none_before h.number h.start h.round (length h.parts) m is newer first) in
    let whole = round_part before (base_of meaning h) part (own_base (h.round == 0) h.wanted.subscription.incremental h.view own)
    (round_base (carried_keys part) before (h.round == 0) h.wanted.subscription.incremental h.view r) in
    subst (λ (parts : List Carried). IsRound (carried_keys part) before (apply_parts meaning (base_of meaning h) (parts ++ part ∷ []))) (sym none) whole

round_taken : (o : life.Outcome) (before : Items) (h : HeldSubscription) (m : Mark) (more : Bool) (part : Carried)
    → life.outcome meaning h m ≡ o → m.part ≡ 1 → IsOwn h.view → IsRound (carried_keys part) before h.view
    → IsRound (carried_keys part) before (taken_as meaning o h m more part).view
round_taken life.Wanted before h m more part is first own r = round_start (nat_lt h.start m.start) more before h m part refl is first own r
round_taken life.Repeat before h m more part is first own r = r
round_taken life.UnknownSubscription before h m more part is first own r = r
round_taken life.OldStart before h m more part is first own r = r
round_taken life.Gap before h m more part is first own r = r
round_taken life.Overlong before h m more part is first own r = r

-- ---- a message

-- what is heard is nothing of a part, or the first part of a round, which names these keys
abbrev NamesAll : Heard → List Key → Type 0
NamesAll (Delivered subscriber identifier m more part) keys = (m.part ≡ 1) × (carried_keys part ≡ keys)
NamesAll (Notified identifier m) keys = Unit {0}
NamesAll Noted keys = Unit {0}
NamesAll Foreign keys = Unit {0}

round_heard : (c : Consuming) (q : List ℕ) (it : Heard) (keys : List Key) → NamesAll it keys → IsOwn (view_held c q)
    → IsRound keys (view_held c q) (view_held (after_heard c it) q)
round_heard c q (Delivered subscriber identifier m more part) keys named own =
    let view = view_held c q in
    let led = delivery_keeps (λ v. IsOwn v × IsRound (carried_keys part) view v) c q identifier (kept_for c subscriber identifier) m more part
    (own_kept (same_name subscriber c.name) (kept_of identifier c.held))
    (λ h found was. (
      own_taken (life.outcome meaning h m) h m more part was.0,
      round_taken (life.outcome meaning h m) view h m more part refl named.0 was.0 was.1,
    ))
    (own, inl (λ key out. refl)) in
    subst (λ (ks : List Key). IsRound ks view (view_held (after_heard c (Delivered subscriber identifier m more part)) q)) named.1 led.1
round_heard c q (Notified identifier m) keys named own = inl (λ key out. refl)
round_heard c q Noted keys named own = inl (λ key out. refl)
round_heard c q Foreign keys named own = inl (λ key out. refl)

names_placed : (number : ℕ) (s i : Option (List ℕ)) (start round part : Option ℕ) (more : Bool) (carried : Carried) → part ≡ Some 1
    → NamesAll (placed_at number s i start round part more carried) (carried_keys carried)
names_placed number (Some s) (Some i) (Some start) (Some round) (Some part) more carried is = (cc is, refl)
names_placed number None i start round part more carried is = tt
names_placed number (Some s) None start round part more carried is = tt
names_placed number (Some s) (Some i) None round part more carried is = tt
names_placed number (Some s) (Some i) (Some start) None part more carried is = tt
names_placed number (Some s) (Some i) (Some start) (Some round) None more carried is = tt

first_part : (part : Option ℕ) → option_eq nat_eq part (Some 1) ≡ true → part ≡ Some 1
first_part None is = absurd (cc is)
first_part (Some part) is = ap Some (eqb-true part 1 is)

names_delivery : (number : Option ℕ) (delivery : Option FunctionalDelivery) (more : Bool) (keys : List Key)
    → named_if more delivery ≡ Some keys → NamesAll (placed number delivery more) keys
names_delivery None delivery more keys is = tt
names_delivery (Some number) None more keys is = absurd (cc is)
names_delivery (Some number) (Some d) more keys is = by (is_whole more d) refl is
  where
    by : (b : Bool) → is_whole more d ≡ b → (if b then Some (named_in d) else None) ≡ Some keys
        → NamesAll (placed (Some number) (Some d) more) keys
    by false whole none = absurd (cc none)
    by true whole some =
        let same : named_in d ≡ keys = cc some in
        let first = (and_parts (not more && option_eq nat_eq d.part (Some 1)) (not (option_eq nat_eq d.round (Some 1))) whole).0 in
        subst (NamesAll (placed (Some number) (Some d) more)) same
        (names_placed number d.subscriber_ref d.subscription_ref d.start d.round d.part more (carried_by d)
        (first_part d.part ((and_parts (not more) (option_eq nat_eq d.part (Some 1)) first).1)))

names_all : (m : Message) (keys : List Key) → named_by m ≡ Some keys → NamesAll (heard m) keys
names_all (message.ServiceDelivery d) keys is =
    names_delivery (option_and_then number_of d.request_message_ref) (only (functional_deliveries d)) d.more_data keys is
names_all (message.ServiceRequest r) keys is = absurd (cc is)
names_all (message.SubscriptionRequest r) keys is = absurd (cc is)
names_all (message.SubscriptionResponse r) keys is = absurd (cc is)
names_all (message.TerminateSubscriptionRequest r) keys is = absurd (cc is)
names_all (message.TerminateSubscriptionResponse r) keys is = absurd (cc is)
names_all (message.DataReadyNotification r) keys is = absurd (cc is)
names_all (message.DataReadyAcknowledgement r) keys is = absurd (cc is)
names_all (message.DataSupplyRequest r) keys is = absurd (cc is)
names_all (message.DataReceivedAcknowledgement r) keys is = absurd (cc is)
names_all (message.CheckStatusRequest r) keys is = absurd (cc is)
names_all (message.CheckStatusResponse r) keys is = absurd (cc is)
names_all (message.HeartbeatNotification r) keys is = absurd (cc is)

-- a message that names keys leads the view of the upstream subscription on by a round of them
round_by : (u : Option (List ℕ)) (c : Consuming) (m : Message) (keys : List Key) → named_by m ≡ Some keys → IsOwn (view_in u c)
    → IsRound keys (view_in u c) (view_in u (after_message c m))
round_by None c m keys is own = inl (λ key out. refl)
round_by (Some q) c m keys is own = round_heard c q (heard m) keys (names_all m keys is) own

pub round_after : (u : Option (List ℕ)) (c d : Consuming) (m : Message) (fed : Items) (named : Option (List Key)) → named ≡ named_by m
    → d ≡ after_message c m → fed ≡ view_in u c → IsOwn (view_in u c) → IfSome named (λ keys. IsRound keys fed (view_in u d))
round_after u c d m fed None is after same own = tt
round_after u c d m fed (Some keys) is after same own =
    subst (λ (x : Items × Consuming). IsRound keys x.0 (view_in u x.1)) (λ i. (sym same i, sym after i)) (round_by u c m keys (sym is) own)
