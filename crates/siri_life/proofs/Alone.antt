-- What names only other subscriptions changes nothing of this one, and a settle right after a settle nothing at all.
use Rattle.std.proofs.Common.{◌≡◌, ℕ, ◌+◌, ◌≤◌, Bool, true, false, cond, List, [], ◌∷◌, ◌++◌, length, Option, Some, None, refl, sym, ap}
use Rattle.std.proofs.Common.{◌∙◌, subst, arith, append-nil}
use Rattle.std.proofs.lemmas.Bool.{lt-leb}
use Rattle.siri_life.specs.Meaning.{Meaning}
use Rattle.siri_life.specs.Life.{is_before, resend_interval, Outstanding, Life, Packet, Subscribe, Terminate, AllData}
use Rattle.siri_life.specs.Life.{Supply, Acknowledge, Notify}
use Rattle.siri_life.specs.Life.{Delivery, is_due, with_round, new_round, wants_round, opened, opened_if, sent_at, settled, settle_sends}
use Rattle.siri_life.specs.Life.{after_send, sent_if, due_messages, message_if, sends_heartbeat, heartbeat_if}
use Rattle.siri_life.specs.Link
use Rattle.siri_life.specs.Link.{Link, settle}
use Rattle.siri_life.specs.Network
use Rattle.siri_life.specs.Named.{same_subscription, Name, Of, those, find}
use Rattle.siri_life.specs.Serving
use Rattle.siri_life.specs.Slot.{is_message_due_of}
use Rattle.siri_life.specs.Serving.{ToConsumer, Act, Clocked, Fed, Heard, Settled}
use Rattle.siri_life.specs.Network.{Network, settles, seen_by, act, acts, own, HasRoom, HaveRoom, opening}
use Rattle.siri_life.proofs.Names.{same_parts, same_refl}
use Rattle.siri_life.proofs.Sees

module _ {V P W H E : Type 0} (f : Meaning V P W H E) where
  -- ---- a settle right after a settle does nothing
  -- a settle leaves a life as it is, and no message and no heartbeat is due
  abbrev pub Still : V → ℕ → Life V P W → Type 0
  Still d now l =
      (settled f l d now ≡ l) × (settle_sends f l d now ≡ [])
      × (is_message_due_of (opened f l d now).outstanding now ≡ false) × (sends_heartbeat f l now ≡ false)

  abbrev with_at : Life V P W → Option (Outstanding V P) → ℕ → Life V P W
  with_at l o b = record {
    start = l.start;
    number = l.number;
    base = l.base;
    wanted = l.wanted;
    acknowledged = l.acknowledged;
    rounds = l.rounds;
    outstanding = o;
    last_heartbeat = b;
  }

  still_none : (l : Life V P W) (d : V) (now b : ℕ) → wants_round f (with_at l None b) d ≡ false
      → f.is_heartbeat_due l.wanted b now ≡ false → Still d now (with_at l None b)
  still_none l d now b e q =
      subst (λ c. let v = opened_if f c (with_at l None b) d now in let u = after_send f v v.outstanding now in
      (heartbeat_if f (sends_heartbeat f u now) u now ≡ with_at l None b)
      × (due_messages f v v.outstanding now ≡ []) × (is_message_due_of v.outstanding now ≡ false)
      × (f.is_heartbeat_due l.wanted b now ≡ false)) (sym e)
      (subst (λ c. (heartbeat_if f c (with_at l None b) now ≡ with_at l None b) × (◌≡◌ {A = List (Packet P W)} [] [])
      × (◌≡◌ {A = Bool} false false) × (c ≡ false)) (sym q) (refl, refl, refl, refl))

  still_some : (l : Life V P W) (o : Outstanding V P) (d : V) (now b : ℕ) → is_due o.last_sent now ≡ false
      → f.is_heartbeat_due l.wanted b now ≡ false → Still d now (with_at l (Some o) b)
  still_some l o d now b e q =
      subst (λ c. let u = sent_if f c (with_at l (Some o) b) o now in
      (heartbeat_if f (sends_heartbeat f u now) u now ≡ with_at l (Some o) b)
      × (message_if f c (with_at l (Some o) b) o ≡ []) × (c ≡ false) × (f.is_heartbeat_due l.wanted b now ≡ false))
      (sym e)
      (subst (λ c. (heartbeat_if f c (with_at l (Some o) b) now ≡ with_at l (Some o) b)
      × (◌≡◌ {A = List (Packet P W)} [] []) × (◌≡◌ {A = Bool} false false) × (c ≡ false)) (sym q)
      (refl, refl, refl, refl))

  not_due : (now : ℕ) → is_due (Some now) now ≡ false
  not_due now = lt-leb (now + resend_interval) now (omega arith)

  -- after a settle a life is still, and wants what it wanted
  abbrev pub After : V → ℕ → Life V P W → Life V P W → Type 0
  After d now l u = Still d now u × (u.wanted ≡ l.wanted)

  -- right after a heartbeat none is due
  abbrev pub Rests : Type 0
  Rests = (w : W) (now : ℕ) → f.is_heartbeat_due w now now ≡ false

  pub settled_still : Rests → (l : Life V P W) (d : V) (now : ℕ) → After d now l (settled f l d now)
  settled_still rests l d now = by l.outstanding
    where
      -- with a heartbeat or without one
      heartbeat : (v : Life V P W) (o : Option (Outstanding V P))
          → ((b : ℕ) → f.is_heartbeat_due v.wanted b now ≡ false → Still d now (with_at v o b)) → v.wanted ≡ l.wanted
          → After d now l (heartbeat_if f (f.is_heartbeat_due v.wanted v.last_heartbeat now)
          (with_at v o v.last_heartbeat) now)
      heartbeat v o still same = case (f.is_heartbeat_due v.wanted v.last_heartbeat now) refl
        where
          case : (c : Bool) → f.is_heartbeat_due v.wanted v.last_heartbeat now ≡ c → After d now l (heartbeat_if f c (with_at v o v.last_heartbeat) now)
          case false q = (still v.last_heartbeat q, same)
          case true q = (still now (rests v.wanted now), same)

      none : (b : Bool) → wants_round f (with_at l None l.last_heartbeat) d ≡ b
          → After d now l (let v = opened_if f b (with_at l None l.last_heartbeat) d now in
          let u = after_send f v v.outstanding now in heartbeat_if f (sends_heartbeat f u now) u now)
      none false e = heartbeat l None (λ b q. still_none l d now b e q) refl
      none true e =
          let x = new_round f (with_at l None l.last_heartbeat) d now in
          let o : Outstanding V P = record { round = x; acknowledged_parts = 0; last_sent = Some now } in
          let v = with_round f (with_at l None l.last_heartbeat) x in
          heartbeat v (Some o) (λ b q. still_some v o d now b (not_due now) q) refl

      some : (b : Bool) (o : Outstanding V P) → is_due o.last_sent now ≡ b
          → After d now l (let u = sent_if f b (with_at l (Some o) l.last_heartbeat) o now in
          heartbeat_if f (sends_heartbeat f u now) u now)
      some false o e = heartbeat l (Some o) (λ b q. still_some l o d now b e q) refl
      some true o e = heartbeat l (Some (sent_at o (Some now))) (λ b q. still_some l (sent_at o (Some now)) d now b (not_due now) q) refl

      by : (o : Option (Outstanding V P)) → After d now l (settled f (with_at l o l.last_heartbeat) d now)
      by None = none (wants_round f (with_at l None l.last_heartbeat) d) refl
      by (Some o) = some (is_due o.last_sent now) o refl

  -- the same of a row of the table, of all, and of the whole network
  row_still : Rests → (known : H) (now : ℕ) (r : Of (Life V P W))
      → let u = settled f r.it (f.direct known r.it.wanted) now in Still (f.direct known u.wanted) now u
  row_still rests known now r =
      let u = settled f r.it (f.direct known r.it.wanted) now in
      let a = settled_still rests r.it (f.direct known r.it.wanted) now in
      subst (λ wanted. Still (f.direct known wanted) now u) (sym a.1) a.0

  rows_still : Rests → (known : H) (now : ℕ) (rows : List (Of (Life V P W)))
      → Serving.settled_rows f known now (Serving.settled_rows f known now rows) ≡ Serving.settled_rows f known now rows
  rows_still rests known now [] = refl
  rows_still rests known now (r ∷ rows) = λ i. record r { it = (row_still rests known now r).0 i } ∷ rows_still rests known now rows i

  rows_quiet : Rests → (known : H) (now : ℕ) (rows : List (Of (Life V P W))) → Serving.row_letters f known now (Serving.settled_rows f known now rows) ≡ []
  rows_quiet rests known now [] = refl
  rows_quiet rests known now (r ∷ rows) =
      let still = row_still rests known now r in
      λ i. Serving.letters_for f r.subscriber r.identifier (still.1 i)
      ++ (Serving.heartbeat_letters f r.subscriber (still.3 i) ++ rows_quiet rests known now rows i)

  pub settles_twice : Rests → (n : Network V P W H) → settles f (settles f n) ≡ settles f n
  settles_twice rests n =
      let v = n.serving in
      let m = settles f n in
      let with_both : List (Of (Life V P W)) → List (Of (Serving.About P W))
      → Network V P W H = λ rows letters. record m { serving = record v { table = rows }; letters = letters } in
      (λ i. with_both (rows_still rests v.known v.now v.table i) (m.letters ++ rows_quiet rests v.known v.now v.table i))
      ∙ ap (λ letters. with_both m.serving.table letters) (append-nil m.letters)

  -- ---- one subscription
  module _ (c s : Name) where
    abbrev One : Network V P W H → Type 0
    One n = length (those c s n.serving.table) ≤ 1

    -- what a packet of this subscription makes of its link, with room in the table
    heard : Link V P W H → Packet P W → Link V P W H
    heard w (Subscribe number x) = Link.accepts f false w number x
    heard w (Terminate number) = Link.ends f w number
    heard w (AllData number base) = Link.renews f w number base w.life
    heard w (Supply m) = Link.supplies f w m w.life
    heard w (Acknowledge m) = Link.acknowledges f w m w.life
    heard w (Notify m moment) = w
    heard w (Delivery m moment more x) = w

    mine_one : (n : Network V P W H) (p : Packet P W) → One n → One (Network.hears f n c s p)
    mine_one n (Subscribe number x) one = Sees.accepts_one f c s n (Serving.accepts f n.serving c s number x) number x one
    mine_one n (Terminate number) one = Sees.ends_one f c s n (is_before f (find c s n.serving.table) number) one
    mine_one n (AllData number base) one = Sees.renews_one f c s n number base (find c s n.serving.table) one
    mine_one n (Supply m) one = Sees.supplies_one f c s n m (find c s n.serving.table) one
    mine_one n (Acknowledge m) one = Sees.acknowledges_one f c s n m (find c s n.serving.table) one
    mine_one n (Notify m moment) one = one
    mine_one n (Delivery m moment more x) one = one

    mine_sees : (n : Network V P W H) (p : Packet P W) → HasRoom f c s n (Heard c s p)
        → same_subscription c s c s ≡ true → seen_by f c s (Network.hears f n c s p) ≡ heard (seen_by f c s n) p
    unfolding heard
    mine_sees n (Subscribe number x) r q =
        let b = Serving.accepts f n.serving c s number x in
        Sees.tells_sees f c s (Network.accepted_if f b n c s number x) c ToConsumer refl
        ∙ Sees.accepts_sees f c s n b number x ∙ ap (λ z. Link.accept_if f z (seen_by f c s n) number x) (r q)
    mine_sees n (Terminate number) r q =
        let b = is_before f (find c s n.serving.table) number in
        Sees.tells_sees f c s (Network.ended_if f b n c s) c ToConsumer refl ∙ Sees.ends_sees f c s n b
    mine_sees n (AllData number base) r q =
        Sees.tells_sees f c s (Network.renewed f n c s number base (find c s n.serving.table)) c ToConsumer refl
        ∙ Sees.renews_sees f c s n number base (find c s n.serving.table)
    mine_sees n (Supply m) r q = Sees.supplies_sees f c s n m (find c s n.serving.table) refl
    mine_sees n (Acknowledge m) r q = Sees.acknowledges_sees f c s n m (find c s n.serving.table) refl
    mine_sees n (Notify m moment) r q = refl
    mine_sees n (Delivery m moment more x) r q = refl

    other_one : (n : Network V P W H) (d t : Name) → same_subscription c s d t ≡ false → (p : Packet P W) → One n → One (Network.hears f n d t p)
    other_one n d t apart (Subscribe number x) one = Sees.accepts_other_one f c s d t apart n (Serving.accepts f n.serving d t number x) number x one
    other_one n d t apart (Terminate number) one = Sees.ends_other_one f c s d t apart n (is_before f (find d t n.serving.table) number) one
    other_one n d t apart (AllData number base) one = Sees.renews_other_one f c s d t apart n number base
        (find d t n.serving.table) one
    other_one n d t apart (Supply m) one = Sees.supplies_other_one f c s d t apart n m (find d t n.serving.table) one
    other_one n d t apart (Acknowledge m) one = Sees.acknowledges_other_one f c s d t apart n m (find d t n.serving.table) one
    other_one n d t apart (Notify m moment) one = one
    other_one n d t apart (Delivery m moment more x) one = one

    other_sees : (n : Network V P W H) (d t : Name) → same_subscription c s d t ≡ false → (p : Packet P W)
        → seen_by f c s (Network.hears f n d t p) ≡ seen_by f c s n
    other_sees n d t apart (Subscribe number x) =
        let b = Serving.accepts f n.serving d t number x in
        Sees.tells_sees f c s (Network.accepted_if f b n d t number x) d ToConsumer refl ∙ Sees.accepts_other f c s d t apart n b number x
    other_sees n d t apart (Terminate number) =
        let b = is_before f (find d t n.serving.table) number in
        Sees.tells_sees f c s (Network.ended_if f b n d t) d ToConsumer refl ∙ Sees.ends_other f c s d t apart n b
    other_sees n d t apart (AllData number base) =
        Sees.tells_sees f c s (Network.renewed f n d t number base (find d t n.serving.table)) d ToConsumer refl
        ∙ Sees.renews_other f c s d t apart n number base (find d t n.serving.table)
    other_sees n d t apart (Supply m) = Sees.supplies_other f c s d t apart n m (find d t n.serving.table)
    other_sees n d t apart (Acknowledge m) = Sees.acknowledges_other f c s d t apart n m (find d t n.serving.table)
    other_sees n d t apart (Notify m moment) = refl
    other_sees n d t apart (Delivery m moment more x) = refl

    -- two networks that this subscription sees alike
    record Alike (n m : Network V P W H) : Type 0 where
      one : One n
      other : One m
      sees : seen_by f c s n ≡ seen_by f c s m

    module _ {X : Type 0} (g : Link V P W H → List X) where
      -- what is made at each settle of what this subscription sees then, in order
      abbrev pub at_settles : List (Act P W E) → Network V P W H → List X
      at_settles [] n = []
      at_settles (Settled ∷ more) n = g (seen_by f c s n) ++ at_settles more (settles f n)
      at_settles (Clocked t ∷ more) n = at_settles more (act f n (Clocked t))
      at_settles (Fed es ∷ more) n = at_settles more (act f n (Fed es))
      at_settles (Heard d t p ∷ more) n = at_settles more (act f n (Heard d t p))

      -- after these steps of one network and those of another this subscription sees the same, and saw it at each settle
      abbrev Same : List (Act P W E) → List (Act P W E) → Network V P W H → Network V P W H → Type 0
      Same xs ys n m = (seen_by f c s (acts f xs n) ≡ seen_by f c s (acts f ys m)) × (at_settles xs n ≡ at_settles ys m)

      alike : (rest : List (Act P W E)) (n m : Network V P W H) → Alike n m → HaveRoom f c s rest n
          → HaveRoom f c s (own f c s rest) m → Same rest (own f c s rest) n m
      alike [] n m a r q = (a.sees, refl)
      alike (Clocked t ∷ rest) n m a r q =
          alike rest (act f n (Clocked t)) (act f m (Clocked t))
          (record {
            one = Sees.expires_one f c s (Network.at_moment f n t) a.one;
            other = Sees.expires_one f c s (Network.at_moment f m t) a.other;
            sees = Sees.expires_sees f c s (Network.at_moment f n t) a.one
                ∙ ap (λ z. Link.expire f (Link.at_moment f z t)) a.sees
                ∙ sym (Sees.expires_sees f c s (Network.at_moment f m t) a.other);
          }) r.1 q.1
      alike (Fed es ∷ rest) n m a r q = alike rest (act f n (Fed es)) (act f m (Fed es))
          (record { one = a.one; other = a.other; sees = ap (λ z. Link.fed f z es) a.sees }) r.1 q.1
      alike (Settled ∷ rest) n m a r q =
          let later = alike rest (settles f n) (settles f m)
          (record {
            one = Sees.settles_one f c s n a.one;
            other = Sees.settles_one f c s m a.other;
            sees = Sees.settles_sees f c s n a.one ∙ ap (λ z. settle f z) a.sees ∙ sym (Sees.settles_sees f c s m a.other);
          }) r.1 q.1 in
          (later.0, λ i. g (a.sees i) ++ later.1 i)
      alike (Heard d t p ∷ rest) n m a r q = by (same_subscription c s d t) refl (λ k l. alike rest k l) r.0 r.1 q
        where
          mine : (d t : Name) → (c ≡ d) × (s ≡ t) → HasRoom f c s n (Heard d t p) → HasRoom f c s m (Heard d t p)
              → Alike (act f n (Heard d t p)) (act f m (Heard d t p))
          mine d t e =
              subst (λ (z : Name × Name). HasRoom f c s n (Heard z.0 z.1 p) → HasRoom f c s m (Heard z.0 z.1 p)
              → Alike (act f n (Heard z.0 z.1 p)) (act f m (Heard z.0 z.1 p))) (λ i. (e.0 i, e.1 i))
              (λ r q. record {
                one = mine_one n p a.one;
                other = mine_one m p a.other;
                sees = mine_sees n p r (same_refl c s) ∙ ap (λ z. heard z p) a.sees ∙ sym (mine_sees m p q (same_refl c s));
              })

          by : (b : Bool) → same_subscription c s d t ≡ b
              → ((k l : Network V P W H) → Alike k l → HaveRoom f c s rest k → HaveRoom f c s (own f c s rest) l → Same rest (own f c s rest) k l)
              → HasRoom f c s n (Heard d t p) → HaveRoom f c s rest (act f n (Heard d t p))
              → HaveRoom f c s (cond b (Heard d t p ∷ own f c s rest) (own f c s rest)) m
              → Same (Heard d t p ∷ rest) (cond b (Heard d t p ∷ own f c s rest) (own f c s rest)) n m
          by true e go r rs q = go (act f n (Heard d t p)) (act f m (Heard d t p)) (mine d t (same_parts c s d t e) r q.0) rs q.1
          by false e go r rs q = go (act f n (Heard d t p)) m
              (record { one = other_one n d t e p a.one; other = a.other; sees = other_sees n d t e p ∙ a.sees }) rs q

      opened_alike : (k t : ℕ) (all : List (Act P W E)) → HaveRoom f c s all (opening f k t)
          → HaveRoom f c s (own f c s all) (opening f k t) → Same all (own f c s all) (opening f k t) (opening f k t)
      opened_alike k t all r q = alike all (opening f k t) (opening f k t) (record { one = omega arith; other = omega arith; sees = refl }) r q

      -- so does it at each settle
      pub apart_at_settles : (k t : ℕ) (all : List (Act P W E)) → HaveRoom f c s all (opening f k t)
          → HaveRoom f c s (own f c s all) (opening f k t) → at_settles all (opening f k t) ≡ at_settles (own f c s all)
          (opening f k t)
      apart_at_settles k t all r q = (opened_alike k t all r q).1

    pub apart : (k t : ℕ) (all : List (Act P W E)) → HaveRoom f c s all (opening f k t)
        → HaveRoom f c s (own f c s all) (opening f k t) → seen_by f c s (acts f all (opening f k t)) ≡ seen_by f c s
        (acts f (own f c s all) (opening f k t))
    apart k t all r q = (opened_alike (λ (w : Link V P W H). w.packets) k t all r q).0
