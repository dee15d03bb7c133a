-- A network, as one subscription of it sees it, is a link.
use Rattle.std.proofs.Common.{◌≡◌, ℕ, suc, ◌≤◌, Bool, true, false, cond, not, ◌&&◌, List, [], ◌∷◌, ◌++◌, length, Option, Some, None, refl}
use Rattle.std.proofs.Common.{sym, ap, ◌∙◌, subst, arith, append-nil}
use Rattle.std.specs.Prelude.{nat_le}
use Rattle.siri_life.specs.Meaning.{Meaning}
use Rattle.siri_life.specs.Life.{Outstanding, Life, Mark, is_mark, Packet, is_due, new_life, can_renew, opened, settled}
use Rattle.siri_life.specs.Life.{settle_sends, after_send}
use Rattle.siri_life.specs.Life.{sent_if, due_messages, message_if, after_acknowledgement, acknowledged_at, acknowledged_if, after_supply}
use Rattle.siri_life.specs.Life.{supplied_at, supply_sends, part_at, part_if}
use Rattle.siri_life.specs.Link
use Rattle.siri_life.specs.Link.{Link, Holding, Outcome, UnknownSubscription, OldStart, Gap, Repeat, Overlong, Wanted, outcome, retire}
use Rattle.siri_life.specs.Link.{with_life, with_holding, sends, replaces, settle, taken, taken_as, replies, replies_as, asks_for}
use Rattle.siri_life.specs.Link.{asks_for_as}
use Rattle.siri_life.specs.Network
use Rattle.siri_life.specs.Named.{Of, same_subscription, Name, same_name, those, first, find, put, with_under, without, keep, next_of}
use Rattle.siri_life.specs.Serving
use Rattle.siri_life.specs.Serving.{About, ToProducer, ToConsumer, supply_letters, letters_for, row_of}
use Rattle.siri_life.specs.Network.{Network, settles, with_table, seen_by, packets_of}
use Rattle.siri_life.proofs.Names.{name_same, same_refl, rest, only, those_append, those_put, those_without, those_keep}
use Rattle.siri_life.proofs.Names.{packets_append, packets_for, packets_rows, those_settled, settled_all, all_sends}

module _ {V P W H E : Type 0} (f : Meaning V P W H E) where
  -- ---- the link's moves, as the life and the consumer see them
  pub path : (w : Link V P W H) (e e' : Option (Life V P W)) (ls ls' : List (Life V P W))
      (h h' : Option (Holding V P W)) (ps ps' : List (Packet P W)) → e ≡ e' → ls ≡ ls' → h ≡ h' → ps ≡ ps'
      → ◌≡◌ {A = Link V P W H} (record {
        start = w.start;
        now = w.now;
        known = w.known;
        life = e;
        ended = ls;
        next_number = w.next_number;
        held = h;
        packets = ps;
      })
      (record {
        start = w.start;
        now = w.now;
        known = w.known;
        life = e';
        ended = ls';
        next_number = w.next_number;
        held = h';
        packets = ps';
      })
  path w e e' ls ls' h h' ps ps' a b c d = λ i.
      record {
        start = w.start;
        now = w.now;
        known = w.known;
        life = a i;
        ended = b i;
        next_number = w.next_number;
        held = c i;
        packets = d i;
      }

  pub sends_none : (w : Link V P W H) → sends f w [] ≡ w
  sends_none w = path w w.life w.life w.ended w.ended w.held w.held (w.packets ++ []) w.packets refl refl refl (append-nil w.packets)

  send_same : (w : Link V P W H) (u : Life V P W) (o : Option (Outstanding V P))
      → Link.send_outstanding f (with_life f w (Some u)) u o ≡ sends f (with_life f w (Some (after_send f u o w.now)))
      (due_messages f u o w.now)
  send_same w u None = sym (sends_none (with_life f w (Some u)))
  send_same w u (Some o) = by (is_due o.last_sent w.now)
    where
      by : (b : Bool) → Link.send_if f b (with_life f w (Some u)) u o ≡ sends f (with_life f w (Some (sent_if f b u o w.now))) (message_if f b u o)
      by true = refl
      by false = sym (sends_none (with_life f w (Some u)))

  pub settle_same : (w : Link V P W H) (l : Life V P W)
      → settle f (with_life f w (Some l)) ≡ sends f
      (with_life f w (Some (settled f l (f.direct w.known l.wanted) w.now)))
      (settle_sends f l (f.direct w.known l.wanted) w.now)
  settle_same w l = let u = opened f l (f.direct w.known l.wanted) w.now in
      ap (λ (z : Link V P W H). Link.heartbeat_of_life f z z.life) (send_same w u u.outstanding)

  settle_list : (w : Link V P W H) (ls : List (Life V P W)) → length ls ≤ 1
      → sends f (with_life f w (first (settled_all f w.known w.now ls))) (all_sends f w.known w.now ls) ≡ settle f
      (with_life f w (first ls))
  settle_list w [] one = sends_none (with_life f w None)
  settle_list w (l ∷ []) one =
      ap (λ ps. sends f (with_life f w (Some (settled f l (f.direct w.known l.wanted) w.now))) ps)
      (append-nil (settle_sends f l (f.direct w.known l.wanted) w.now))
      ∙ sym (settle_same w l)
  settle_list w (l ∷ k ∷ ls) one = absurd (omega arith)

  supply_same : (w : Link V P W H) (l : Life V P W) (m : Mark) (o : Option (Outstanding V P))
      → Link.supplies_of f (with_life f w (Some l)) m l o ≡ sends f
      (with_life f w (Some (supplied_at f o l w.start m w.now))) (part_at f o l w.start m)
  supply_same w l m None = sym (sends_none (with_life f w (Some l)))
  supply_same w l m (Some o) = by (f.fetched l.wanted && is_mark m l.number w.start (length l.rounds) (suc o.acknowledged_parts))
    where
      by : (b : Bool) → Link.supply_if f b (with_life f w (Some l)) l o ≡ sends f (with_life f w (Some (sent_if f b l o w.now))) (part_if f b l o)
      by true = refl
      by false = sym (sends_none (with_life f w (Some l)))

  acknowledgement_same : (w : Link V P W H) (l : Life V P W) (m : Mark) (o : Option (Outstanding V P))
      → Link.acknowledges_of f (with_life f w (Some l)) m l o ≡ with_life f w
      (Some (acknowledged_at f o l w.start m w.now))
  acknowledgement_same w l m None = refl
  acknowledgement_same w l m (Some o) = by (is_mark m l.number w.start (length l.rounds) (suc o.acknowledged_parts))
    where
      by : (b : Bool) → Link.acknowledges_if f b (with_life f w (Some l)) l o ≡ with_life f w (Some (acknowledged_if f b l o w.now))
      by true = refl
      by false = refl

  take_same : (w : Link V P W H) (h : Holding V P W) (m : Mark) (more : Bool) (x : P) (o : Outcome)
      → Link.delivered_as f o (with_holding f w (Some h)) h m more x ≡ sends f
      (with_holding f w (Some (taken_as f o h m more x))) (replies_as f o h m more)
  take_same w h m more x Wanted = refl
  take_same w h m more x Repeat = refl
  take_same w h m more x UnknownSubscription = sym (sends_none (with_holding f w (Some h)))
  take_same w h m more x OldStart = sym (sends_none (with_holding f w (Some h)))
  take_same w h m more x Gap = sym (sends_none (with_holding f w (Some h)))
  take_same w h m more x Overlong = sym (sends_none (with_holding f w (Some h)))

  notify_same : (w : Link V P W H) (h : Holding V P W) (m : Mark) (o : Outcome)
      → Link.notified_as f o (with_holding f w (Some h)) m ≡ sends f (with_holding f w (Some h)) (asks_for_as f o m)
  notify_same w h m Wanted = refl
  notify_same w h m Repeat = refl
  notify_same w h m UnknownSubscription = sym (sends_none (with_holding f w (Some h)))
  notify_same w h m OldStart = sym (sends_none (with_holding f w (Some h)))
  notify_same w h m Gap = sym (sends_none (with_holding f w (Some h)))
  notify_same w h m Overlong = sym (sends_none (with_holding f w (Some h)))

  -- ---- one subscription of a network
  module _ (c s : Name) where
    abbrev pub One : Network V P W H → Type 0
    One n = length (those c s n.serving.table) ≤ 1

    pub letters_append : (xs ys : List (Of (About P W))) → packets_of f (those c s (xs ++ ys)) ≡ packets_of f (those c s xs) ++ packets_of f (those c s ys)
    letters_append xs ys = ap (λ zs. packets_of f zs) (those_append c s xs ys) ∙ packets_append f (those c s xs) (those c s ys)

    pub settles_sees : (n : Network V P W H) → One n → seen_by f c s (settles f n) ≡ settle f (seen_by f c s n)
    settles_sees n one =
        let w = seen_by f c s n in
        path w
        (find c s (Serving.settled_rows f n.serving.known n.serving.now n.serving.table))
        (first (settled_all f n.serving.known n.serving.now (those c s n.serving.table)))
        w.ended w.ended w.held w.held
        (packets_of f (those c s (n.letters ++ Serving.row_letters f n.serving.known n.serving.now n.serving.table)))
        (w.packets ++ all_sends f n.serving.known n.serving.now (those c s n.serving.table))
        (ap (λ ls. first ls) (those_settled f c s n.serving.known n.serving.now n.serving.table)) refl refl
        (letters_append n.letters (Serving.row_letters f n.serving.known n.serving.now n.serving.table)
        ∙ ap (λ ps. w.packets ++ ps) (packets_rows f c s n.serving.known n.serving.now n.serving.table))
        ∙ settle_list w (those c s n.serving.table) one

    pub length_settled : (known : H) (now : ℕ) (ls : List (Life V P W)) → length (settled_all f known now ls) ≡ length ls
    length_settled known now [] = refl
    length_settled known now (l ∷ ls) = ap suc (length_settled known now ls)

    pub settles_one : (n : Network V P W H) → One n → One (settles f n)
    settles_one n one = let a = ap (λ (ls : List (Life V P W)). length ls)
        (those_settled f c s n.serving.known n.serving.now n.serving.table)
        ∙ length_settled n.serving.known n.serving.now (those c s n.serving.table) in omega arith

    -- the producer's side stays, and nothing is sent
    pub served_same : (n : Network V P W H) → seen_by f c s (Network.with_serving f n n.serving []) ≡ seen_by f c s n
    served_same n =
        let w = seen_by f c s n in
        path w w.life w.life w.ended w.ended w.held w.held
        (packets_of f (those c s (n.letters ++ []))) w.packets refl refl refl
        (ap (λ zs. packets_of f (those c s zs)) (append-nil n.letters))

    -- the table changes
    pub changed : Link V P W H → Option (Life V P W) → List (Life V P W) → List (Packet P W) → Link V P W H
    changed w e ls ps = record {
      start = w.start;
      now = w.now;
      known = w.known;
      life = e;
      ended = w.ended ++ ls;
      next_number = w.next_number;
      held = w.held;
      packets = w.packets ++ ps;
    }

    pub table_sees : (n : Network V P W H) (table ended : List (Of (Life V P W))) (letters : List (Of (About P W)))
        (e : Option (Life V P W)) (ls : List (Life V P W)) (ps : List (Packet P W))
        → find c s table ≡ e → those c s ended ≡ ls → packets_of f (those c s letters) ≡ ps
        → seen_by f c s (with_table f n table ended letters) ≡ changed (seen_by f c s n) e ls ps
    unfolding changed
    table_sees n table ended letters e ls ps a b d =
        let w = seen_by f c s n in
        path w (find c s table) e (those c s (n.serving.ended ++ ended)) (w.ended ++ ls) w.held w.held
        (packets_of f (those c s (n.letters ++ letters))) (w.packets ++ ps)
        a (those_append c s n.serving.ended ended ∙ ap (λ zs. w.ended ++ zs) b) refl (letters_append n.letters letters ∙ ap (λ zs. w.packets ++ zs) d)

    pub changed_none : (w : Link V P W H) → changed w w.life [] [] ≡ w
    unfolding changed
    changed_none w = path w w.life w.life (w.ended ++ []) w.ended w.held w.held (w.packets ++ []) w.packets refl
        (append-nil w.ended) refl (append-nil w.packets)

    pub changed_sends : (w : Link V P W H) (e : Option (Life V P W)) (ps : List (Packet P W)) → changed w e [] ps ≡ sends f (with_life f w e) ps
    unfolding changed
    changed_sends w e ps = path w e e (w.ended ++ []) w.ended w.held w.held (w.packets ++ ps) (w.packets ++ ps) refl (append-nil w.ended) refl refl

    pub changed_replaces : (w : Link V P W H) (e : Option (Life V P W)) → changed w e (retire f w.life) [] ≡ replaces f w e
    unfolding changed
    changed_replaces w e = path w e e (w.ended ++ retire f w.life) (w.ended ++ retire f w.life) w.held w.held
        (w.packets ++ []) w.packets refl refl refl (append-nil w.packets)

    -- of this subscription
    pub put_mine : {A : Type 0} (a : A) (xs : List (Of A)) → those c s (put c s a xs) ≡ a ∷ rest (those c s xs)
    put_mine a xs = those_put c s c s a xs ∙ ap (λ b. cond b (a ∷ rest (those c s xs)) (those c s xs)) (same_refl c s)

    pub without_mine : {A : Type 0} (xs : List (Of A)) → those c s (without c s xs) ≡ []
    without_mine xs = those_without c s c s xs ∙ ap (λ b. cond b [] (those c s xs)) (same_refl c s)

    pub letters_mine : (ps : List (Packet P W)) → packets_of f (those c s (letters_for f c s ps)) ≡ ps
    letters_mine ps = packets_for f c s c s ps ∙ ap (λ b. cond b ps []) (same_refl c s)

    -- a message that is about no subscription
    pub tells_sees : (n : Network V P W H) (d : Name) (a : About P W) → packets_of f (a ∷ []) ≡ [] → seen_by f c s (Network.tells f n d a) ≡ seen_by f c s n
    tells_sees n d a none =
        let w = seen_by f c s n in
        path w w.life w.life w.ended w.ended w.held w.held
        (packets_of f (those c s (n.letters ++ record { subscriber = d; identifier = []; it = a } ∷ []))) w.packets
        refl refl refl
        (letters_append n.letters (record { subscriber = d; identifier = []; it = a } ∷ [])
        ∙ ap (λ zs. w.packets ++ zs) (by (same_subscription c s d [])) ∙ append-nil w.packets)
      where
        by : (b : Bool) → packets_of f (cond b (a ∷ []) []) ≡ []
        by true = none
        by false = refl

    pub readied_sees : (n : Network V P W H) (d : Name) (o : Outcome) → seen_by f c s (Network.readied f n d o) ≡ seen_by f c s n
    readied_sees n d Wanted = tells_sees n d (ToProducer false) refl
    readied_sees n d UnknownSubscription = refl
    readied_sees n d OldStart = refl
    readied_sees n d Gap = refl
    readied_sees n d Repeat = refl
    readied_sees n d Overlong = refl

    pub readied_one : (n : Network V P W H) (d : Name) (o : Outcome) → One n → One (Network.readied f n d o)
    readied_one n d Wanted one = one
    readied_one n d UnknownSubscription one = one
    readied_one n d OldStart one = one
    readied_one n d Gap one = one
    readied_one n d Repeat one = one
    readied_one n d Overlong one = one

    told_none : (d : Name) → packets_of f (those c s (record { subscriber = d; identifier = []; it = ToConsumer } ∷ [])) ≡ []
    told_none d = by (same_subscription c s d [])
      where
        by : (b : Bool) → ◌≡◌ {A = List (Packet P W)} (packets_of f (cond b (ToConsumer ∷ []) [])) []
        by true = refl
        by false = refl

    pub supply_mine : (ps : List (Packet P W)) → packets_of f (those c s (supply_letters f c s ps)) ≡ ps
    supply_mine [] = told_none c
    supply_mine (p ∷ ps) = letters_mine (p ∷ ps)

    pub row_mine : (e : Option (Life V P W)) → those c s (row_of f c s e) ≡ retire f e
    row_mine None = refl
    row_mine (Some l) = ap (λ b. cond b (l ∷ []) []) (same_refl c s)

    pub length_rest : {A : Type 0} (a : A) (xs : List A) → length xs ≤ 1 → length (a ∷ rest xs) ≤ 1
    length_rest a [] one = omega arith
    length_rest a (x ∷ []) one = omega arith
    length_rest a (x ∷ y ∷ xs) one = absurd (omega arith)

    pub put_one : (l : Life V P W) (table : List (Of (Life V P W))) → length (those c s table) ≤ 1 → length (those c s (put c s l table)) ≤ 1
    put_one l table one = subst (λ (zs : List (Life V P W)). length zs ≤ 1) (sym (put_mine l table)) (length_rest l (those c s table) one)

    pub without_one : (table : List (Of (Life V P W))) → length (those c s (without c s table)) ≤ 1
    without_one table = subst (λ (zs : List (Life V P W)). length zs ≤ 1) (sym (without_mine table)) (omega arith)

    pub accepts_sees : (n : Network V P W H) (b : Bool) (number : ℕ) (x : W)
        → seen_by f c s (Network.accepted_if f b n c s number x) ≡ Link.accept_if f b (seen_by f c s n) number x
    accepts_sees n false number x = served_same n
    accepts_sees n true number x =
        let l = new_life f n.serving.start n.serving.now number number x in
        table_sees n (put c s l n.serving.table) (row_of f c s (find c s n.serving.table)) [] (Some l)
        (retire f (find c s n.serving.table)) [] (ap (λ ls. first ls) (put_mine l n.serving.table))
        (row_mine (find c s n.serving.table)) refl
        ∙ changed_replaces (seen_by f c s n) (Some l)

    pub accepts_one : (n : Network V P W H) (b : Bool) (number : ℕ) (x : W) → One n → One (Network.accepted_if f b n c s number x)
    accepts_one n false number x one = one
    accepts_one n true number x one = put_one
        (new_life f n.serving.start n.serving.now number number x) n.serving.table one

    renewed_sees : (n : Network V P W H) (b : Bool) (number base : ℕ) (x : W)
        → seen_by f c s (Network.with_serving f n (Serving.renewed_if f b n.serving c s number base x) [])
        ≡ Link.renew_if f b (seen_by f c s n) number base x
    renewed_sees n false number base x = served_same n
    renewed_sees n true number base x =
        let l = new_life f n.serving.start n.serving.now number base x in
        table_sees n (put c s l n.serving.table) (row_of f c s (find c s n.serving.table)) [] (Some l)
        (retire f (find c s n.serving.table)) [] (ap (λ ls. first ls) (put_mine l n.serving.table))
        (row_mine (find c s n.serving.table)) refl
        ∙ changed_replaces (seen_by f c s n) (Some l)

    pub renews_sees : (n : Network V P W H) (number base : ℕ) (e : Option (Life V P W))
        → seen_by f c s (Network.renewed f n c s number base e) ≡ Link.renews f (seen_by f c s n) number base e
    renews_sees n number base None = served_same n
    renews_sees n number base (Some l) = renewed_sees n (can_renew f l number base) number base l.wanted

    pub renews_one : (n : Network V P W H) (number base : ℕ) (e : Option (Life V P W)) → One n
        → One (Network.renewed f n c s number base e)
    renews_one n number base None one = one
    renews_one n number base (Some l) one = by (can_renew f l number base)
      where
        by : (b : Bool) → One (Network.with_serving f n (Serving.renewed_if f b n.serving c s number base l.wanted) [])
        by true = put_one (new_life f n.serving.start n.serving.now number base l.wanted) n.serving.table one
        by false = one

    pub ends_sees : (n : Network V P W H) (b : Bool) → seen_by f c s (Network.ended_if f b n c s) ≡ Link.end_if f b (seen_by f c s n)
    ends_sees n false = served_same n
    ends_sees n true =
        table_sees n (without c s n.serving.table) (row_of f c s (find c s n.serving.table)) [] None
        (retire f (find c s n.serving.table)) [] (ap (λ ls. first ls) (without_mine n.serving.table))
        (row_mine (find c s n.serving.table)) refl
        ∙ changed_replaces (seen_by f c s n) None

    pub ends_one : (n : Network V P W H) (b : Bool) → One n → One (Network.ended_if f b n c s)
    ends_one n false one = one
    ends_one n true one = without_one n.serving.table

    pub supplies_sees : (n : Network V P W H) (m : Mark) (e : Option (Life V P W)) → find c s n.serving.table ≡ e
        → seen_by f c s (Network.supplied f n c s m e) ≡ Link.supplies f (seen_by f c s n) m e
    supplies_sees n m None is = tells_sees n c ToConsumer refl
    supplies_sees n m (Some l) is =
        let w = seen_by f c s n in
        let v = after_supply f l n.serving.start m n.serving.now in
        table_sees n (put c s v n.serving.table) [] (supply_letters f c s (supply_sends f l n.serving.start m))
        (Some v) [] (supply_sends f l n.serving.start m) (ap (λ ls. first ls) (put_mine v n.serving.table)) refl
        (supply_mine (supply_sends f l n.serving.start m))
        ∙ changed_sends w (Some v) (supply_sends f l n.serving.start m)
        ∙ sym (supply_same w l m l.outstanding)
        ∙ ap (λ e. Link.supplies_of f (with_life f w e) m l l.outstanding) (sym is)

    pub supplies_one : (n : Network V P W H) (m : Mark) (e : Option (Life V P W)) → One n → One (Network.supplied f n c s m e)
    supplies_one n m None one = one
    supplies_one n m (Some l) one = put_one (after_supply f l n.serving.start m n.serving.now) n.serving.table one

    pub acknowledges_sees : (n : Network V P W H) (m : Mark) (e : Option (Life V P W)) → find c s n.serving.table ≡ e
        → seen_by f c s (Network.takes_acknowledgement f n c s m e) ≡ Link.acknowledges f (seen_by f c s n) m e
    acknowledges_sees n m None is = served_same n
    acknowledges_sees n m (Some l) is =
        let w = seen_by f c s n in
        let v = after_acknowledgement f l n.serving.start m n.serving.now in
        table_sees n (put c s v n.serving.table) [] [] (Some v) [] [] (ap (λ ls. first ls) (put_mine v n.serving.table)) refl refl
        ∙ changed_sends w (Some v) [] ∙ sends_none (with_life f w (Some v))
        ∙ sym (acknowledgement_same w l m l.outstanding)
        ∙ ap (λ e. Link.acknowledges_of f (with_life f w e) m l l.outstanding) (sym is)

    pub acknowledges_one : (n : Network V P W H) (m : Mark) (e : Option (Life V P W)) → One n → One (Network.takes_acknowledgement f n c s m e)
    acknowledges_one n m None one = one
    acknowledges_one n m (Some l) one = put_one (after_acknowledgement f l n.serving.start m n.serving.now) n.serving.table one

    -- of another subscription
    module _ (d t : Name) (apart : same_subscription c s d t ≡ false) where
      pub put_other : {A : Type 0} (a : A) (xs : List (Of A)) → those c s (put d t a xs) ≡ those c s xs
      put_other a xs = those_put c s d t a xs ∙ ap (λ b. cond b (a ∷ rest (those c s xs)) (those c s xs)) apart

      pub without_other : {A : Type 0} (xs : List (Of A)) → those c s (without d t xs) ≡ those c s xs
      without_other xs = those_without c s d t xs ∙ ap (λ b. cond b [] (those c s xs)) apart

      pub letters_other : (ps : List (Packet P W)) → packets_of f (those c s (letters_for f d t ps)) ≡ []
      letters_other ps = packets_for f c s d t ps ∙ ap (λ b. cond b ps []) apart

      pub supply_other : (ps : List (Packet P W)) → packets_of f (those c s (supply_letters f d t ps)) ≡ []
      supply_other [] = told_none d
      supply_other (p ∷ ps) = letters_other (p ∷ ps)

      pub row_other : (e : Option (Life V P W)) → those c s (row_of f d t e) ≡ []
      row_other None = refl
      row_other (Some l) = ap (λ b. cond b (l ∷ []) []) apart

      pub same_one : (table table' : List (Of (Life V P W))) → those c s table' ≡ those c s table → length (those c s table) ≤ 1 → length (those c s table') ≤ 1
      same_one table table' e one = subst (λ (zs : List (Life V P W)). length zs ≤ 1) (sym e) one

      pub table_other : (n : Network V P W H) (table ended : List (Of (Life V P W))) (letters : List (Of (About P W)))
          → those c s table ≡ those c s n.serving.table → those c s ended ≡ [] → packets_of f (those c s letters) ≡ []
          → seen_by f c s (with_table f n table ended letters) ≡ seen_by f c s n
      table_other n table ended letters a b e = table_sees n table ended letters (find c s n.serving.table) [] []
          (ap (λ ls. first ls) a) b e ∙ changed_none (seen_by f c s n)

      pub accepts_other : (n : Network V P W H) (b : Bool) (number : ℕ) (x : W) → seen_by f c s (Network.accepted_if f b n d t number x) ≡ seen_by f c s n
      accepts_other n false number x = served_same n
      accepts_other n true number x = table_other n
          (put d t (new_life f n.serving.start n.serving.now number number x) n.serving.table)
          (row_of f d t (find d t n.serving.table)) []
          (put_other (new_life f n.serving.start n.serving.now number number x) n.serving.table)
          (row_other (find d t n.serving.table)) refl

      pub accepts_other_one : (n : Network V P W H) (b : Bool) (number : ℕ) (x : W) → One n → One (Network.accepted_if f b n d t number x)
      accepts_other_one n false number x one = one
      accepts_other_one n true number x one = same_one n.serving.table
          (put d t (new_life f n.serving.start n.serving.now number number x) n.serving.table)
          (put_other (new_life f n.serving.start n.serving.now number number x) n.serving.table) one

      pub renews_other : (n : Network V P W H) (number base : ℕ) (e : Option (Life V P W))
          → seen_by f c s (Network.renewed f n d t number base e) ≡ seen_by f c s n
      renews_other n number base None = served_same n
      renews_other n number base (Some l) = by (can_renew f l number base)
        where
          by : (b : Bool)
              → seen_by f c s (Network.with_serving f n (Serving.renewed_if f b n.serving d t number base l.wanted) [])
              ≡ seen_by f c s n
          by true = table_other n
              (put d t (new_life f n.serving.start n.serving.now number base l.wanted) n.serving.table)
              (row_of f d t (find d t n.serving.table)) []
              (put_other (new_life f n.serving.start n.serving.now number base l.wanted) n.serving.table)
              (row_other (find d t n.serving.table)) refl
          by false = served_same n

      pub renews_other_one : (n : Network V P W H) (number base : ℕ) (e : Option (Life V P W)) → One n
          → One (Network.renewed f n d t number base e)
      renews_other_one n number base None one = one
      renews_other_one n number base (Some l) one = by (can_renew f l number base)
        where
          by : (b : Bool)
              → One (Network.with_serving f n (Serving.renewed_if f b n.serving d t number base l.wanted) [])
          by true = same_one n.serving.table
              (put d t (new_life f n.serving.start n.serving.now number base l.wanted) n.serving.table)
              (put_other (new_life f n.serving.start n.serving.now number base l.wanted) n.serving.table) one
          by false = one

      pub ends_other : (n : Network V P W H) (b : Bool) → seen_by f c s (Network.ended_if f b n d t) ≡ seen_by f c s n
      ends_other n false = served_same n
      ends_other n true = table_other n (without d t n.serving.table) (row_of f d t (find d t n.serving.table)) []
          (without_other n.serving.table) (row_other (find d t n.serving.table)) refl

      pub ends_other_one : (n : Network V P W H) (b : Bool) → One n → One (Network.ended_if f b n d t)
      ends_other_one n false one = one
      ends_other_one n true one = same_one n.serving.table (without d t n.serving.table) (without_other n.serving.table) one

      pub supplies_other : (n : Network V P W H) (m : Mark) (e : Option (Life V P W)) → seen_by f c s (Network.supplied f n d t m e) ≡ seen_by f c s n
      supplies_other n m None = tells_sees n d ToConsumer refl
      supplies_other n m (Some l) = let v = after_supply f l n.serving.start m n.serving.now in
          table_other n (put d t v n.serving.table) [] (supply_letters f d t (supply_sends f l n.serving.start m))
          (put_other v n.serving.table) refl (supply_other (supply_sends f l n.serving.start m))

      pub supplies_other_one : (n : Network V P W H) (m : Mark) (e : Option (Life V P W)) → One n → One (Network.supplied f n d t m e)
      supplies_other_one n m None one = one
      supplies_other_one n m (Some l) one = let v = after_supply f l n.serving.start m n.serving.now in
          same_one n.serving.table (put d t v n.serving.table) (put_other v n.serving.table) one

      pub acknowledges_other : (n : Network V P W H) (m : Mark) (e : Option (Life V P W))
          → seen_by f c s (Network.takes_acknowledgement f n d t m e) ≡ seen_by f c s n
      acknowledges_other n m None = served_same n
      acknowledges_other n m (Some l) = let v = after_acknowledgement f l n.serving.start m n.serving.now in
          table_other n (put d t v n.serving.table) [] [] (put_other v n.serving.table) refl refl

      pub acknowledges_other_one : (n : Network V P W H) (m : Mark) (e : Option (Life V P W)) → One n → One (Network.takes_acknowledgement f n d t m e)
      acknowledges_other_one n m None one = one
      acknowledges_other_one n m (Some l) one = let v = after_acknowledgement f l n.serving.start m n.serving.now in
          same_one n.serving.table (put d t v n.serving.table) (put_other v n.serving.table) one

      pub held_other : (n : Network V P W H) (h : Holding V P W) (ps : List (Packet P W)) → seen_by f c s (Network.with_held f n d t h ps) ≡ seen_by f c s n
      held_other n h ps =
          let w = seen_by f c s n in
          path w w.life w.life w.ended w.ended (with_under d t (Some h) n.holdings c s) w.held
          (packets_of f (those c s (n.letters ++ letters_for f d t ps))) w.packets
          refl refl (ap (λ b. cond b (Some h) w.held) apart)
          (letters_append n.letters (letters_for f d t ps) ∙ ap (λ zs. w.packets ++ zs) (letters_other ps) ∙ append-nil w.packets)

      pub delivered_other : (n : Network V P W H) (m : Mark) (more : Bool) (x : P) (held : Option (Holding V P W))
          → seen_by f c s (Network.delivered f n d t m more x held) ≡ seen_by f c s n
      delivered_other n m more x None = refl
      delivered_other n m more x (Some h) = held_other n (taken f h m more x) (replies f h m more)

      pub delivered_other_one : (n : Network V P W H) (m : Mark) (more : Bool) (x : P) (held : Option (Holding V P W))
          → One n → One (Network.delivered f n d t m more x held)
      delivered_other_one n m more x None one = one
      delivered_other_one n m more x (Some h) one = one

      pub notified_other : (n : Network V P W H) (m : Mark) (held : Option (Holding V P W)) → seen_by f c s (Network.notified f n d t m held) ≡ seen_by f c s n
      notified_other n m None = refl
      notified_other n m (Some h) = held_other (Network.readied f n d (outcome f h m)) h (asks_for f h m) ∙ readied_sees n d (outcome f h m)

      pub notified_other_one : (n : Network V P W H) (m : Mark) (held : Option (Holding V P W)) → One n → One (Network.notified f n d t m held)
      notified_other_one n m None one = one
      notified_other_one n m (Some h) one = readied_one n d (outcome f h m) one

    -- the consumer's moves
    pub held_sees : (n : Network V P W H) (h : Holding V P W) (ps : List (Packet P W))
        → seen_by f c s (Network.with_held f n c s h ps) ≡ sends f (with_holding f (seen_by f c s n) (Some h)) ps
    held_sees n h ps =
        let w = seen_by f c s n in
        path w w.life w.life w.ended w.ended (with_under c s (Some h) n.holdings c s) (Some h)
        (packets_of f (those c s (n.letters ++ letters_for f c s ps))) (w.packets ++ ps)
        refl refl (ap (λ b. cond b (Some h) w.held) (same_refl c s))
        (letters_append n.letters (letters_for f c s ps) ∙ ap (λ zs. w.packets ++ zs) (letters_mine ps))

    pub delivered_sees : (n : Network V P W H) (m : Mark) (more : Bool) (x : P) (held : Option (Holding V P W))
        → n.holdings c s ≡ held → seen_by f c s (Network.delivered f n c s m more x held) ≡ Link.delivered f
        (seen_by f c s n) held m more x
    delivered_sees n m more x None is = refl
    delivered_sees n m more x (Some h) is =
        let w = seen_by f c s n in
        held_sees n (taken f h m more x) (replies f h m more) ∙ sym (take_same w h m more x (outcome f h m))
        ∙ ap (λ held. Link.delivered_as f (outcome f h m) (with_holding f w held) h m more x) (sym is)

    pub notified_sees : (n : Network V P W H) (m : Mark) (held : Option (Holding V P W)) → n.holdings c s ≡ held
        → seen_by f c s (Network.notified f n c s m held) ≡ Link.notified f (seen_by f c s n) held m
    notified_sees n m None is = refl
    notified_sees n m (Some h) is =
        let w = seen_by f c s n in
        held_sees (Network.readied f n c (outcome f h m)) h (asks_for f h m)
        ∙ ap (λ z. sends f (with_holding f z (Some h)) (asks_for f h m)) (readied_sees n c (outcome f h m))
        ∙ sym (notify_same w h m (outcome f h m)) ∙ ap
        (λ held. Link.notified_as f (outcome f h m) (with_holding f w held) m) (sym is)

    pub delivered_one : (n : Network V P W H) (m : Mark) (more : Bool) (x : P) (held : Option (Holding V P W)) → One n
        → One (Network.delivered f n c s m more x held)
    delivered_one n m more x None one = one
    delivered_one n m more x (Some h) one = one

    pub notified_one : (n : Network V P W H) (m : Mark) (held : Option (Holding V P W)) → One n → One (Network.notified f n c s m held)
    notified_one n m None one = one
    notified_one n m (Some h) one = readied_one n c (outcome f h m) one

    -- ---- clock and start
    pub expire_list : (w : Link V P W H) (ls : List (Life V P W)) → length ls ≤ 1
        → changed (with_life f w (first ls)) (first (only (Serving.lives_on f w.now) ls))
        (only (Serving.expired f w.now) ls) [] ≡ Link.expire f (with_life f w (first ls))
    expire_list w [] one = changed_none (with_life f w None)
    expire_list w (l ∷ []) one = by (nat_le (f.termination l.wanted) w.now)
      where
        by : (b : Bool) → changed (with_life f w (Some l)) (first (cond (not b) (l ∷ []) [])) (cond b (l ∷ []) []) [] ≡ Link.end_if f b (with_life f w (Some l))
        by true = changed_replaces (with_life f w (Some l)) None
        by false = changed_none (with_life f w (Some l))
    expire_list w (l ∷ k ∷ ls) one = absurd (omega arith)

    pub expires_sees : (n : Network V P W H) → One n → seen_by f c s (Network.expires f n) ≡ Link.expire f (seen_by f c s n)
    expires_sees n one =
        table_sees n (keep (Serving.lives_on f n.serving.now) n.serving.table)
        (keep (Serving.expired f n.serving.now) n.serving.table) []
        (first (only (Serving.lives_on f n.serving.now) (those c s n.serving.table)))
        (only (Serving.expired f n.serving.now) (those c s n.serving.table)) []
        (ap (λ ls. first ls) (those_keep c s (Serving.lives_on f n.serving.now) n.serving.table))
        (those_keep c s (Serving.expired f n.serving.now) n.serving.table) refl
        ∙ expire_list (seen_by f c s n) (those c s n.serving.table) one

    pub length_only : {A : Type 0} (p : A → Bool) (xs : List A) → length (only p xs) ≤ length xs
    length_only p [] = omega arith
    length_only p (x ∷ xs) = by (p x) (length_only p xs)
      where
        by : (b : Bool) → length (only p xs) ≤ length xs → length (cond b (x ∷ only p xs) (only p xs)) ≤ suc (length xs)
        by true h = omega arith
        by false h = omega arith

    pub expires_one : (n : Network V P W H) → One n → One (Network.expires f n)
    expires_one n one =
        subst (λ (zs : List (Life V P W)). length zs ≤ 1) (sym (those_keep c s (Serving.lives_on f n.serving.now) n.serving.table))
        (let a = length_only (Serving.lives_on f n.serving.now) (those c s n.serving.table) in omega arith)

    pub retire_first : (ls : List (Life V P W)) → length ls ≤ 1 → ls ≡ retire f (first ls)
    retire_first [] one = refl
    retire_first (l ∷ []) one = refl
    retire_first (l ∷ k ∷ ls) one = absurd (omega arith)

    pub starts_sees : (n : Network V P W H) (t : ℕ) → One n → seen_by f c s (Network.starts f n t) ≡ Link.anew f (seen_by f c s n) t
    starts_sees n t one =
        let w = seen_by f c s n in
        let e : those c s (n.serving.ended ++ n.serving.table) ≡ w.ended ++ retire f w.life =
        those_append c s n.serving.ended n.serving.table
        ∙ ap (λ zs. w.ended ++ zs) (retire_first (those c s n.serving.table) one) in
        λ i. record {
          start = suc w.start;
          now = t;
          known = f.began (suc w.start) t;
          life = None;
          ended = e i;
          next_number = w.next_number;
          held = w.held;
          packets = w.packets;
        }

    -- ---- the consumer's numbers
    -- this consumer uses a number
    pub uses_sees : (n : Network V P W H) (holdings : Name → Name → Option (Holding V P W))
        (letters : List (Of (About P W))) (held : Option (Holding V P W)) (ps : List (Packet P W)) → holdings c s ≡ held
        → packets_of f (those c s letters) ≡ ps → seen_by f c s
        (Network.uses f n c holdings letters) ≡ Link.uses_number f (seen_by f c s n) held ps
    uses_sees n holdings letters held ps a b =
        let w = seen_by f c s n in
        let v = suc (next_of (n.numbers c)) in
        let number = ap (λ b. next_of (cond b (Some v) (n.numbers c))) (name_same c c refl) in
        let letters_is = letters_append n.letters letters ∙ ap (λ zs. w.packets ++ zs) b in
        λ i. record {
          start = w.start;
          now = w.now;
          known = w.known;
          life = w.life;
          ended = w.ended;
          next_number = number i;
          held = a i;
          packets = letters_is i;
        }

    -- another consumer uses one
    pub uses_other : (n : Network V P W H) (d : Name) (holdings : Name → Name → Option (Holding V P W))
        (letters : List (Of (About P W))) → same_name c d ≡ false → holdings c s ≡ n.holdings c s
        → packets_of f (those c s letters) ≡ [] → seen_by f c s (Network.uses f n d holdings letters) ≡ seen_by f c s n
    uses_other n d holdings letters apart a b =
        let w = seen_by f c s n in
        let v = suc (next_of (n.numbers d)) in
        let number = ap (λ b. next_of (cond b (Some v) (n.numbers c))) apart in
        let letters_is = letters_append n.letters letters ∙ ap (λ zs. w.packets ++ zs) b ∙ append-nil w.packets in
        λ i. record {
          start = w.start;
          now = w.now;
          known = w.known;
          life = w.life;
          ended = w.ended;
          next_number = number i;
          held = a i;
          packets = letters_is i;
        }
