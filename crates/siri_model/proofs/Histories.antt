-- The rows of a history's table after one more step.
use Rattle.std.proofs.Common.{◌≡◌, ℕ, List, [], ◌∷◌, ◌++◌, map, fold, max, Bool, true, false, cond, not, ◌&&◌, ◌||◌, Option, None, Some}
use Rattle.std.proofs.Common.{refl, sym, ap, ◌∙◌, subst}
use Rattle.std.specs.Prelude.{◌==◌, nat_lt, if◌then◌else◌, option_map, find as find_first}
use Rattle.std.specs.Cmp.Lexicographic.{bytes_decides}
use Rattle.std.proofs.lemmas.Bool.{and_parts, eqb-true}
use Rattle.siri_messages.specs.Rounds.{has_round}
use Rattle.siri_messages.specs.declared.message.Message.{Message}
use Rattle.siri_messages.specs.declared.message.Message.TheVariants as message
use Rattle.siri_messages.specs.declared.supplies.Mark.{Mark}
use Rattle.siri_life.specs.Life.{Subscribe, Terminate, can_renew, is_before, after_acknowledgement, after_supply, new_life}
use Rattle.siri_life.specs.Named.{Name, Of, same_name, same_subscription, those, first, find, put, without, keep}
use Rattle.siri_life.specs.Serving.{Fed, Heard, accepted_if, accepts, acknowledged, clocked_serving, ended_if, expired_serving}
use Rattle.siri_life.specs.Serving.{heard, lives_on, renewed, renewed_if, serving_after, settled_rows, supplied, with_rows}
use Rattle.siri_subs.specs.declared.entry.Row.{Row}
use Rattle.siri_subs.specs.Table as table
use Rattle.siri_subs.specs.Table.{EachOnce, is_held, is_of}
use Rattle.siri_subs.proofs.Once.{once_put, once_kept}
use Rattle.siri_model.specs.Direct.{direct_to}
use Rattle.siri_model.specs.History.{Entry, Step, Start, Clock, Feed, Take, Settle, History, State, entries_of, now_of, current, state_of}
use Rattle.siri_model.specs.Lives.{Living, Served, acknowledgement_of, acts_in, mark_of, supply_of, none_served, served_after, serving_of, table_of, life_of}
use Rattle.siri_messages.specs.Asked.{AskedFor, asked_in}
use Rattle.siri_model.specs.Meaning.{meaning}
use Rattle.siri_model.specs.Rows.{KeptLife, acknowledged_row, supplied_row, renewed_row, nothing_kept, row_of, rows_of, settled_row, with_row_of, rows_asked}
use Rattle.siri_model.specs.Rows.{rows_ended as rows_terminated, rows_acknowledged, rows_supplied, rows_taken, rows_after}
use Rattle.siri_model.proofs.Moves.{IsLike, acknowledgement_like, acknowledgement_moves, supply_like, supply_moves, rows_settled, settled_like}
use Rattle.siri_model.proofs.Serves.{AreNamed, goes_with, heard_keeps, more_served}
use Rattle.siri_model.proofs.Tables.{rows_without, rows_expired, rows_put, rows_accepted, rows_ended, rows_none, rows_changed, rows_same, row_found}

-- ---- names

named_put : (c s : Name) (l : Living) (t : List (Of Living)) → AreNamed t → c ≡ l.wanted.subscription.subscriber
    → s ≡ l.wanted.subscription.identifier → AreNamed (put c s l t)
named_put c s l [] n a b = ((a, b), tt)
named_put c s l (x ∷ xs) n a b = by (same_subscription c s x.subscriber x.identifier) (named_put c s l xs n.1 a b)
  where
    by : (b' : Bool) → AreNamed (put c s l xs) → AreNamed (cond b' (record { subscriber = c; identifier = s; it = l } ∷ xs) (x ∷ put c s l xs))
    by true r = ((a, b), n.1)
    by false r = (n.0, r)

named_without : (c s : Name) (t : List (Of Living)) → AreNamed t → AreNamed (without c s t)
named_without c s [] n = tt
named_without c s (x ∷ xs) n = by (same_subscription c s x.subscriber x.identifier) (named_without c s xs n.1)
  where
    by : (b : Bool) → AreNamed (without c s xs) → AreNamed (cond b (without c s xs) (x ∷ without c s xs))
    by true r = r
    by false r = (n.0, r)

named_kept : (p : Living → Bool) (t : List (Of Living)) → AreNamed t → AreNamed (keep p t)
named_kept p [] n = tt
named_kept p (x ∷ xs) n = by (p x.it) (named_kept p xs n.1)
  where
    by : (b : Bool) → AreNamed (keep p xs) → AreNamed (cond b (x ∷ keep p xs) (keep p xs))
    by true r = (n.0, r)
    by false r = r

named_settled : (known : History) (now : ℕ) (t : List (Of Living)) → AreNamed t → AreNamed (settled_rows meaning known now t)
named_settled known now [] n = tt
named_settled known now (x ∷ xs) n =
    let wanted = settled_like x.it (meaning.direct known x.it.wanted) now in (
      (
        n.0.0 ∙ ap (λ (w : AskedFor). w.subscription.subscriber) (sym wanted),
        n.0.1
            ∙ ap (λ (w : AskedFor). w.subscription.identifier) (sym wanted),
      ),
      named_settled known now xs n.1,
    )

-- the life of a subscription stands under its names
found_named : (c s : Name) (t : List (Of Living)) (l : Living) → AreNamed t → find c s t ≡ Some l
    → (c ≡ l.wanted.subscription.subscriber) × (s ≡ l.wanted.subscription.identifier)
found_named c s [] l n there = absurd (cc)
found_named c s (x ∷ xs) l n there = by (same_subscription c s x.subscriber x.identifier) refl there (found_named c s xs l n.1)
  where
    by : (b : Bool) → same_subscription c s x.subscriber x.identifier ≡ b
        → first (cond b (x.it ∷ those c s xs) (those c s xs)) ≡ Some l
        → (find c s xs ≡ Some l → (c ≡ l.wanted.subscription.subscriber) × (s ≡ l.wanted.subscription.identifier))
        → (c ≡ l.wanted.subscription.subscriber) × (s ≡ l.wanted.subscription.identifier)
    by true is there r =
        let same : x.it ≡ l = cc in
        let names = and_parts (same_name c x.subscriber) (same_name s x.identifier) is in (
          (bytes_decides c x.subscriber).0 names.0 ∙ n.0.0 ∙ ap (λ (k : Living). k.wanted.subscription.subscriber) same,
          (bytes_decides s x.identifier).0 names.1 ∙ n.0.1 ∙ ap (λ (k : Living). k.wanted.subscription.identifier) same,
        )
    by false is there r = r there

-- ---- each subscription once, under its names

held_settled : (c s : Name) (known : History) (now : ℕ) (t : List (Of Living))
    → is_held c s (rows_of (settled_rows meaning known now t)) ≡ is_held c s (rows_of t)
held_settled c s known now [] = refl
held_settled c s known now (x ∷ xs) =
    let wanted = settled_like x.it (meaning.direct known x.it.wanted) now in
    λ i. (same_name (wanted i).subscription.subscriber c && same_name (wanted i).subscription.identifier s) || held_settled c s known now xs i

once_settled : (known : History) (now : ℕ) (t : List (Of Living)) → EachOnce (rows_of t) → EachOnce (rows_of (settled_rows meaning known now t))
once_settled known now [] once = tt
once_settled known now (x ∷ xs) once =
    let wanted = settled_like x.it (meaning.direct known x.it.wanted) now in (
      (λ i. is_held (wanted i).subscription.subscriber (wanted i).subscription.identifier (rows_of (settled_rows meaning known now xs)))
          ∙ held_settled x.it.wanted.subscription.subscriber x.it.wanted.subscription.identifier known now xs
          ∙ once.0,
      once_settled known now xs once.1,
    )

-- a table is as it is kept
pub record IsWell (v : Served) : Type 0 where
  pub named : AreNamed v.table
  pub once : EachOnce (rows_of v.table)

well_clocked : (v : Served) (moment : ℕ) → IsWell v → IsWell (expired_serving meaning (clocked_serving meaning v moment))
well_clocked v moment well =
    let now = max v.now moment in
    record {
      named = named_kept (lives_on meaning now) v.table well.named;
      once = subst EachOnce (sym (rows_expired now v.table)) (once_kept (λ (h : Row KeptLife). not (table.is_terminated now h)) (rows_of v.table) well.once);
    }

well_accepted : (v : Served) (n : ℕ) (x : AskedFor) (b : Bool) → IsWell v
    → IsWell (accepted_if meaning b v x.subscription.subscriber x.subscription.identifier n x)
well_accepted v n x true well =
    let l = new_life meaning v.start v.now n n x in
    record {
      named = named_put x.subscription.subscriber x.subscription.identifier l v.table well.named refl refl;
      once = subst EachOnce (sym (rows_put x.subscription.subscriber x.subscription.identifier l v.table well.named refl
          refl)) (once_put (row_of l) (rows_of v.table) well.once);
    }
well_accepted v n x false well = record { named = well.named; once = well.once }

well_ended : (v : Served) (c s : Name) (b : Bool) → IsWell v → IsWell (ended_if meaning b v c s)
well_ended v c s true well = record {
  named = named_without c s v.table well.named;
  once = subst EachOnce (sym (rows_without c s v.table well.named)) (once_kept (λ (h : Row KeptLife). not (table.is_of c s h)) (rows_of v.table) well.once);
}
well_ended v c s false well = record { named = well.named; once = well.once }

-- a life that asks for the same stands in the place of another
well_put : (v : Served) (c s : Name) (l l' : Living) (ended : List (Of Living)) → find c s v.table ≡ Some l
    → l'.wanted ≡ l.wanted → IsWell v → IsWell (with_rows meaning v (put c s l' v.table) ended)
well_put v c s l l' ended is same well =
    let names = found_named c s v.table l well.named is in
    let wanted = sym same in
    let a = names.0 ∙ ap (λ (w : AskedFor). w.subscription.subscriber) wanted in
    let b = names.1 ∙ ap (λ (w : AskedFor). w.subscription.identifier) wanted in
    record {
      named = named_put c s l' v.table well.named a b;
      once = subst EachOnce (sym (rows_put c s l' v.table well.named a b)) (once_put (row_of l') (rows_of v.table) well.once);
    }

-- a life moves on, in its place
well_moved : (v : Served) (c s : Name) (l l' : Living) → find c s v.table ≡ Some l → IsLike l' l → IsWell v
    → IsWell (with_rows meaning v (put c s l' v.table) [])
well_moved v c s l l' is alike well = well_put v c s l l' [] is alike.wanted well

well_acknowledged : (v : Served) (c s : Name) (m : _) → IsWell v → IsWell (acknowledged meaning v c s m (find c s v.table))
well_acknowledged v c s m well = by (find c s v.table) refl
  where
    by : (l : Option Living) → find c s v.table ≡ l → IsWell (acknowledged meaning v c s m l)
    by None is = record { named = well.named; once = well.once }
    by (Some l) is = well_moved v c s l (after_acknowledgement meaning l v.start m v.now) is (acknowledgement_like l v.start m v.now) well

well_supplied : (v : Served) (c s : Name) (m : _) → IsWell v → IsWell (supplied meaning v c s m (find c s v.table))
well_supplied v c s m well = by (find c s v.table) refl
  where
    by : (l : Option Living) → find c s v.table ≡ l → IsWell (supplied meaning v c s m l)
    by None is = record { named = well.named; once = well.once }
    by (Some l) is = well_moved v c s l (after_supply meaning l v.start m v.now) is (supply_like l v.start m v.now) well

well_renewed : (v : Served) (c s : Name) (n b : ℕ) → IsWell v → IsWell (renewed meaning v c s n b (find c s v.table))
well_renewed v c s n b well = by (find c s v.table) refl
  where
    test : (t : Bool) (l : Living) → find c s v.table ≡ Some l → IsWell (renewed_if meaning t v c s n b l.wanted)
    test true l is = well_put v c s l (new_life meaning v.start v.now n b l.wanted) _ is refl well
    test false l is = record { named = well.named; once = well.once }

    by : (l : Option Living) → find c s v.table ≡ l → IsWell (renewed meaning v c s n b l)
    by None is = record { named = well.named; once = well.once }
    by (Some l) is = test (can_renew meaning l n b) l is

well_asked_for : (v : Served) (all : Bool) (c : Name) (mark : Mark) → IsWell v
    → IsWell (heard meaning v c mark.subscription (supply_of all mark))
well_asked_for v true c mark well = well_renewed v c mark.subscription mark.number mark.round well
well_asked_for v false c mark well = well_supplied v c mark.subscription (mark_of mark) well

-- ---- what a message does

abbrev heard_asked : Served → ℕ → AskedFor → Served
heard_asked v n x = accepted_if meaning (accepts meaning v x.subscription.subscriber x.subscription.identifier n x) v
    x.subscription.subscriber x.subscription.identifier n x

well_asked : (v : Served) (n : ℕ) (asked : List AskedFor) → IsWell v
    → IsWell (serving_after meaning (map (λ x. Heard x.subscription.subscriber x.subscription.identifier
    (Subscribe n x)) asked) v)
well_asked v n [] well = well
well_asked v n (x ∷ asked) well = well_asked (heard_asked v n x) n asked
    (well_accepted v n x (accepts meaning v x.subscription.subscriber x.subscription.identifier n x) well)

rows_after_asked : (v : Served) (n : ℕ) (asked : List AskedFor) → IsWell v
    → rows_of (serving_after meaning (map (λ x. Heard x.subscription.subscriber x.subscription.identifier
    (Subscribe n x)) asked) v).table ≡ rows_asked v.now n asked (rows_of v.table)
rows_after_asked v n [] well = refl
rows_after_asked v n (x ∷ asked) well =
    rows_after_asked (heard_asked v n x) n asked (well_accepted v n x (accepts meaning v x.subscription.subscriber x.subscription.identifier n x) well)
    ∙ ap (λ now. rows_asked now n asked (rows_of (heard_asked v n x).table))
    (heard_keeps v x.subscription.subscriber x.subscription.identifier (Subscribe n x)).now
    ∙ ap (rows_asked v.now n asked) (rows_accepted v x n well.named)

-- terminations
abbrev heard_ended : Served → Name → ℕ → Name → Served
heard_ended v c n s = ended_if meaning (is_before meaning (find c s v.table) n) v c s

well_terminated : (v : Served) (c : Name) (n : ℕ) (identifiers : List Name) → IsWell v
    → IsWell (serving_after meaning (map (λ s. Heard c s (Terminate n)) identifiers) v)
well_terminated v c n [] well = well
well_terminated v c n (s ∷ identifiers) well = well_terminated (heard_ended v c n s) c n identifiers
    (well_ended v c s (is_before meaning (find c s v.table) n) well)

rows_after_terminated : (v : Served) (c : Name) (n : ℕ) (identifiers : List Name) → IsWell v
    → rows_of (serving_after meaning (map (λ s. Heard c s (Terminate n)) identifiers) v).table ≡ rows_terminated n c
    identifiers (rows_of v.table)
rows_after_terminated v c n [] well = refl
rows_after_terminated v c n (s ∷ identifiers) well =
    rows_after_terminated (heard_ended v c n s) c n identifiers (well_ended v c s (is_before meaning (find c s v.table) n) well)
    ∙ ap (rows_terminated n c identifiers) (rows_ended v c s n well.named)

-- an acknowledgement
well_received : (v : Served) (status : Bool) (consumer : Option Name) (mark : Option Mark) → IsWell v
    → IsWell (serving_after meaning (acknowledgement_of status consumer mark) v)
well_received v true (Some c) (Some m) well = well_acknowledged v c m.subscription (mark_of m) well
well_received v true (Some c) None well = well
well_received v true None mark well = well
well_received v false consumer mark well = well

rows_after_acknowledged : (v : Served) (c s : Name) (m : _) → IsWell v
    → rows_of (acknowledged meaning v c s m (find c s v.table)).table ≡ with_row_of c s
    (acknowledged_row v.start v.now m) (rows_of v.table)
rows_after_acknowledged v c s m well = by (find c s v.table) refl
  where
    by : (l : Option Living) → find c s v.table ≡ l → rows_of (acknowledged meaning v c s m l).table ≡ with_row_of c s
        (acknowledged_row v.start v.now m) (rows_of v.table)
    by None is = sym (rows_none c s (acknowledged_row v.start v.now m) v.table well.named is)
    by (Some l) is = rows_changed c s (acknowledged_row v.start v.now m) l
        (after_acknowledgement meaning l v.start m v.now) v.table well.named well.once is
        (acknowledgement_moves l v.start m v.now)

-- a request for a part
rows_after_supplied : (v : Served) (c s : Name) (m : _) → IsWell v
    → rows_of (supplied meaning v c s m (find c s v.table)).table ≡ with_row_of c s (supplied_row v.start v.now m)
    (rows_of v.table)
rows_after_supplied v c s m well = by (find c s v.table) refl
  where
    by : (l : Option Living) → find c s v.table ≡ l → rows_of (supplied meaning v c s m l).table ≡ with_row_of c s
        (supplied_row v.start v.now m) (rows_of v.table)
    by None is = sym (rows_none c s (supplied_row v.start v.now m) v.table well.named is)
    by (Some l) is = rows_changed c s (supplied_row v.start v.now m) l
        (after_supply meaning l v.start m v.now) v.table well.named well.once is (supply_moves l v.start m v.now)

-- a request for all of an acceptance
rows_after_renewed : (v : Served) (c s : Name) (n b : ℕ) → IsWell v
    → rows_of (renewed meaning v c s n b (find c s v.table)).table ≡ with_row_of c s (renewed_row v.now n b)
    (rows_of v.table)
rows_after_renewed v c s n b well = by (find c s v.table) refl
  where
    anew : Living → Row KeptLife
    anew l = record (row_of l) { number = n; slot = nothing_kept v.now l.wanted }

    test : (t : Bool) (l : Living) → find c s v.table ≡ Some l → can_renew meaning l n b ≡ t
        → rows_of (renewed_if meaning t v c s n b l.wanted).table ≡ with_row_of c s (renewed_row v.now n b) (rows_of v.table)
    test true l is renews =
        let base : l.base ≡ b = eqb-true l.base b (and_parts (l.base == b) (nat_lt l.number n) renews).0 in
        rows_changed c s (renewed_row v.now n b) l (new_life meaning v.start v.now n b l.wanted) v.table well.named well.once is
        (ap (λ t. cond t (anew l) (row_of l)) renews ∙ (λ i. record (anew l) { base = base i }))
    test false l is renews =
        rows_same c s (renewed_row v.now n b) l v.table well.named well.once is
        (ap (λ t. cond t (anew l) (row_of l)) renews)

    by : (l : Option Living) → find c s v.table ≡ l → rows_of (renewed meaning v c s n b l).table ≡ with_row_of c s
        (renewed_row v.now n b) (rows_of v.table)
    by None is = sym (rows_none c s (renewed_row v.now n b) v.table well.named is)
    by (Some l) is = test (can_renew meaning l n b) l is refl

rows_after_asked_for : (v : Served) (all : Bool) (c : Name) (mark : Mark) → IsWell v
    → rows_of (heard meaning v c mark.subscription (supply_of all mark)).table ≡ rows_supplied v.start v.now all c mark
    (rows_of v.table)
rows_after_asked_for v true c mark well = rows_after_renewed v c mark.subscription mark.number mark.round well
rows_after_asked_for v false c mark well = rows_after_supplied v c mark.subscription (mark_of mark) well

rows_after_received : (v : Served) (status : Bool) (consumer : Option Name) (mark : Option Mark) → IsWell v
    → rows_of (serving_after meaning (acknowledgement_of status consumer mark) v).table ≡ rows_acknowledged v.start
    v.now status consumer mark (rows_of v.table)
rows_after_received v true (Some c) (Some m) well = rows_after_acknowledged v c m.subscription (mark_of m) well
rows_after_received v true (Some c) None well = refl
rows_after_received v true None mark well = refl
rows_after_received v false consumer mark well = refl

-- a delivery changes no row
delivered_same : (v : Served) (entries : List Entry) (b : Bool) → (serving_after meaning (if b then [] else Fed entries ∷ []) v).table ≡ v.table
delivered_same v entries true = refl
delivered_same v entries false = refl

well_same : (old new : Served) → new.table ≡ old.table → IsWell old → IsWell new
well_same old new same well = record {
  named = subst AreNamed (sym same) well.named;
  once = subst (λ t. EachOnce (rows_of t)) (sym same) well.once;
}

well_taken : (v : Served) (m : Message) → IsWell v → IsWell (serving_after meaning (acts_in m) v)
unfolding acts_in
well_taken v (message.ServiceRequest m) well = well
well_taken v (message.ServiceDelivery d) well = well_same v _ (delivered_same v (entries_of d) (has_round d)) well
well_taken v (message.SubscriptionRequest r) well = well_asked v r.message_identifier (asked_in r) well
well_taken v (message.SubscriptionResponse m) well = well
well_taken v (message.TerminateSubscriptionRequest r) well = well_terminated v r.subscriber_ref r.message_identifier r.subscription_ref well
well_taken v (message.TerminateSubscriptionResponse m) well = well
well_taken v (message.DataReadyNotification m) well = well
well_taken v (message.DataReadyAcknowledgement m) well = well
well_taken v (message.DataSupplyRequest r) well = well_asked_for v r.all_data r.consumer_ref r.extensions well
well_taken v (message.DataReceivedAcknowledgement a) well = well_received v a.status a.consumer_ref a.extensions well
well_taken v (message.CheckStatusRequest m) well = well
well_taken v (message.CheckStatusResponse m) well = well
well_taken v (message.HeartbeatNotification m) well = well

rows_after_taken : (v : Served) (m : Message) → IsWell v → rows_of (serving_after meaning (acts_in m) v).table ≡ rows_taken v.start v.now m (rows_of v.table)
unfolding acts_in rows_taken
rows_after_taken v (message.ServiceRequest m) well = refl
rows_after_taken v (message.ServiceDelivery d) well = ap rows_of (delivered_same v (entries_of d) (has_round d))
rows_after_taken v (message.SubscriptionRequest r) well = rows_after_asked v r.message_identifier (asked_in r) well
rows_after_taken v (message.SubscriptionResponse m) well = refl
rows_after_taken v (message.TerminateSubscriptionRequest r) well = rows_after_terminated v r.subscriber_ref r.message_identifier r.subscription_ref well
rows_after_taken v (message.TerminateSubscriptionResponse m) well = refl
rows_after_taken v (message.DataReadyNotification m) well = refl
rows_after_taken v (message.DataReadyAcknowledgement m) well = refl
rows_after_taken v (message.DataSupplyRequest r) well = rows_after_asked_for v r.all_data r.consumer_ref r.extensions well
rows_after_taken v (message.DataReceivedAcknowledgement a) well = rows_after_received v a.status a.consumer_ref a.extensions well
rows_after_taken v (message.CheckStatusRequest m) well = refl
rows_after_taken v (message.CheckStatusResponse m) well = refl
rows_after_taken v (message.HeartbeatNotification m) well = refl

-- ---- what a step does

well_step : (v : Served) (step : Step) → IsWell v → IsWell (served_after v step)
unfolding served_after
well_step v (Start number moment) well = record { named = tt; once = tt }
well_step v (Clock moment) well = well_clocked v moment well
well_step v (Feed entries) well = record { named = well.named; once = well.once }
well_step v (Take m) well = well_taken v m well
well_step v Settle well = record {
  named = named_settled v.known v.now v.table well.named;
  once = once_settled v.known v.now v.table well.once;
}

well_from : (v : Served) (steps : History) → IsWell v → IsWell (fold served_after v steps)
well_from v [] well = well
well_from v (step ∷ steps) well = well_from (served_after v step) steps (well_step v step well)

-- after any history each life stands under the names of its subscription, and no subscription is held twice
pub well_after : (h : History) → IsWell (serving_of h)
well_after h = well_from none_served h (record { named = tt; once = tt })

rows_after_settle : (h : History) → rows_of
    (settled_rows meaning (serving_of h).known (serving_of h).now (table_of h)) ≡ map
    (settled_row (now_of h) (current h)) (rows_of (table_of h))
rows_after_settle h =
    let v = serving_of h in
    let goes = goes_with h in
    rows_settled v.known v.now (current h) v.table
    (λ wanted. ap (λ (s : State). direct_to s.now s.current wanted.subscription.topic) goes.known
    ∙ ap (λ n. direct_to n (current h) wanted.subscription.topic) (sym goes.now))
    ∙ ap (λ n. map (settled_row n (current h)) (rows_of v.table)) goes.now

rows_step : (h : History) (step : Step) → rows_of (served_after (serving_of h) step).table ≡ rows_after (state_of h) step (rows_of (table_of h))
unfolding served_after rows_after
rows_step h (Start number moment) = refl
rows_step h (Clock moment) = rows_expired (max (serving_of h).now moment) (table_of h)
    ∙ ap (λ n. table.expired (max n moment) (rows_of (table_of h))) (goes_with h).now
rows_step h (Feed entries) = refl
rows_step h (Take m) =
    rows_after_taken (serving_of h) m (well_after h)
    ∙ (λ i. rows_taken ((goes_with h).start i) ((goes_with h).now i) m (rows_of (table_of h)))
rows_step h Settle = rows_after_settle h

-- the rows of a history's table after one more step
pub rows_go_on : (h : History) (step : Step) → rows_of (table_of (h ++ step ∷ [])) ≡ rows_after (state_of h) step (rows_of (table_of h))
rows_go_on h step = ap (λ (v : Served). rows_of v.table) (more_served h step) ∙ rows_step h step

-- the row of a subscription is that of its life
pub row_of_life : (h : History) (subscriber identifier : List ℕ)
    → find_first (is_of subscriber identifier) (rows_of (table_of h)) ≡ option_map row_of
    (life_of subscriber identifier h)
row_of_life h subscriber identifier = row_found subscriber identifier (table_of h) (well_after h).named
