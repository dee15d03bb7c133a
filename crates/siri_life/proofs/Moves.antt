-- What the producer's moves keep.
use Rattle.std.proofs.Common.{◌≡◌, ◌⊎◌, ℕ, zero, suc, ◌<◌, ◌≤◌, Bool, true, false, ◌||◌, List, [], ◌∷◌, ◌++◌, length, Option, Some, None}
use Rattle.std.proofs.Common.{refl, sym, ap, ◌∙◌, subst, inl, inr, ⊎_elim, arith}
use Rattle.std.specs.Prelude.{slice_get, nat_lt}
use Rattle.std.proofs.lemmas.Bool.{or_cases}
use Rattle.siri_life.specs.Meaning.{Meaning, IsLawful}
use Rattle.siri_life.specs.Life.{greatest_round, Round, Outstanding, Life, Mark, Packet, Subscribe, Terminate, AllData}
use Rattle.siri_life.specs.Life.{Supply, Acknowledge, Notify}
use Rattle.siri_life.specs.Life.{Delivery, new_life, with_round, new_round, with_outstanding, sent_at, with_heartbeat, closed, wanted_mark}
use Rattle.siri_life.specs.Life.{part_message, message_by}
use Rattle.siri_life.specs.Link.{Holding, has, matches, rounds_of, life_rounds, GoalAt, retire}
use Rattle.siri_life.proofs.Lists.{Each, each_map, each_append, get_front, get_end, length_push}
use Rattle.siri_life.proofs.Book.{NoneLost, kept_life, kept_ended, kept_fresh, rounds_here, some_before, no_match_rounds, match_number}
use Rattle.siri_life.proofs.Book.{match_start, has_one, has_retired}
use Rattle.siri_life.proofs.Facts.{IsOutstanding, OutstandingFact, LifeFact, TableFact, Content, Tells, NotPast, Before, PartBehind}
use Rattle.siri_life.proofs.Facts.{BehindLife, Delivers, Fact, Ahead, Level, Wanting, SharedLife, Buffer, Tied, HeldFact, Old}

module _ {V P W H E : Type 0} (f : Meaning V P W H E) where
  -- ---- what no move loses
  pub goal_kept : (e : Option (Life V P W)) (ls : List (Life V P W)) (e' : Option (Life V P W))
      (ls' : List (Life V P W)) → NoneLost f e ls e' ls' → (n s r : ℕ) (v : V) → GoalAt f (rounds_of n s e ls) r v
      → GoalAt f (rounds_of n s e' ls') r v
  goal_kept e ls e' ls' kept n s zero v g = g
  goal_kept e ls e' ls' kept n s (suc i) v g = (g.0, kept n s i g.0 g.1, g.2)

  pub buffer_kept : (e : Option (Life V P W)) (ls : List (Life V P W)) (e' : Option (Life V P W))
      (ls' : List (Life V P W)) → NoneLost f e ls e' ls' → (n s i : ℕ) (ps : List P) → Buffer f (rounds_of n s e ls) i ps
      → Buffer f (rounds_of n s e' ls') i ps
  buffer_kept e ls e' ls' kept n s i [] b = tt
  buffer_kept e ls e' ls' kept n s i (p ∷ ps) b = (b.0, kept n s i b.0 b.1, b.2)

  pub content_kept : (e : Option (Life V P W)) (ls : List (Life V P W)) (e' : Option (Life V P W))
      (ls' : List (Life V P W)) → NoneLost f e ls e' ls' → (n s : ℕ) (w : W) (m : Mark) (moment : ℕ) (more : Bool) (x : P)
      → Content f (rounds_of n s e ls) w m moment more x → Content f (rounds_of n s e' ls') w m moment more x
  content_kept e ls e' ls' kept n s w m moment more x c =
      record {
        i = c.i;
        j = c.j;
        r = c.r;
        round = c.round;
        part = c.part;
        at = kept n s c.i c.r c.at;
        here = c.here;
        moment_is = c.moment_is;
        more_is = c.more_is;
        goal = goal_kept e ls e' ls' kept n s c.i c.r.base c.goal;
        load = c.load;
        base_is_view = c.base_is_view;
        target_is_view = c.target_is_view;
        few = c.few;
        low = c.low;
      }

  pub tells_kept : (e : Option (Life V P W)) (ls : List (Life V P W)) (e' : Option (Life V P W))
      (ls' : List (Life V P W)) → NoneLost f e ls e' ls' → (n s : ℕ) (m : Mark) (moment : ℕ)
      → Tells f (rounds_of n s e ls) m moment → Tells f (rounds_of n s e' ls') m moment
  tells_kept e ls e' ls' kept n s m moment c = record { i = c.i; r = c.r; round = c.round; at = kept n s c.i c.r c.at; moment_is = c.moment_is }

  -- the producer moves, and sends nothing
  pub tied_moves : (k now k' now' : ℕ) (e e' : Option (Life V P W)) (ended ended' : List (Life V P W)) (next : ℕ)
      (packets : List (Packet P W)) (h : Holding V P W)
      → k ≤ k'
      → NoneLost f e ended e' ended'
      → ((m : Mark) (moment : ℕ) (more : Bool) (x : P) → Delivers f k e ended h m moment more x → BehindLife f h.number k' e' m)
      → SharedLife f k' h e'
      → (has h.number k' ended' ≡ true → f.termination h.wanted ≤ now')
      → Tied f k now e ended next packets h → Tied f k' now' e' ended' next packets h
  tied_moves k now k' now' e e' ended ended' next packets h le kept behind shared once t =
      record {
        number = t.number;
        based = t.based;
        start = let a = t.start in omega arith;
        facts = each_map (Fact f k e ended h) (Fact f k' e' ended' h) one packets t.facts;
        shared = shared;
        once = once;
        seen = λ s. let g = t.seen s in (g.0, kept h.number h.start 0 g.0 g.1);
        buffer = buffer_kept e ended e' ended' kept h.number h.start h.round h.parts t.buffer;
        current = λ s. goal_kept e ended e' ended' kept h.number h.start h.round h.view (t.current s);
        view = goal_kept e ended e' ended' kept h.origin.number h.origin.start h.origin.round h.view t.view;
      }
    where
      one : (p : Packet P W) → Fact f k e ended h p → Fact f k' e' ended' h p
      one (Subscribe n x) g = g
      one (Terminate n) g = g
      one (AllData n b) g = g
      one (Supply m) g = g
      one (Acknowledge m) g = g
      one (Notify m moment) g = λ same. let s = g same in
          record {
            start = let a = s.start in omega arith;
            not_past = s.not_past;
            tells = tells_kept e ended e' ended' kept h.number m.start m moment s.tells;
            low = s.low;
            few = s.few;
          }
      one (Delivery m moment more x) g = λ same.
          let d = g same in
          record {
            start = let a = d.start in omega arith;
            not_past = d.not_past;
            content = content_kept e ended e' ended' kept h.number m.start h.wanted m moment more x d.content;
            behind = behind m moment more x d;
          }

  -- packets are sent
  pub tied_sends : (k now : ℕ) (e : Option (Life V P W)) (ended : List (Life V P W)) (next : ℕ)
      (ps qs : List (Packet P W)) (h : Holding V P W) → Each (Fact f k e ended h) qs → Tied f k now e ended next ps h
      → Tied f k now e ended next (ps ++ qs) h
  tied_sends k now e ended next ps qs h new t =
      record {
        number = t.number;
        based = t.based;
        start = t.start;
        facts = each_append (Fact f k e ended h) ps qs t.facts new;
        shared = t.shared;
        once = t.once;
        seen = t.seen;
        buffer = t.buffer;
        current = t.current;
        view = t.view;
      }

  pub held_map : (k now k' now' : ℕ) (e e' : Option (Life V P W)) (ended ended' : List (Life V P W)) (next next' : ℕ)
      (ps ps' : List (Packet P W)) (held : Option (Holding V P W))
      → ((h : Holding V P W) → Tied f k now e ended next ps h → Tied f k' now' e' ended' next' ps' h)
      → HeldFact f k now e ended next ps held → HeldFact f k' now' e' ended' next' ps' held
  held_map k now k' now' e e' ended ended' next next' ps ps' None g t = tt
  held_map k now k' now' e e' ended ended' next next' ps ps' (Some h) g t = g h t

  -- ---- a round opens
  pub life_opens : IsLawful f → (k now next : ℕ) (l : Life V P W) (es : H) → LifeFact f k now next l
      → OutstandingFact f l None → length l.rounds < greatest_round
      → LifeFact f k now next (with_round f l (new_round f l (f.direct es l.wanted) now))
  life_opens laws k now next l es q none low =
      let x = new_round f l (f.direct es l.wanted) now in
      record {
        start = q.start;
        number = q.number;
        based = q.based;
        alive = q.alive;
        acknowledged_is_view = q.acknowledged_is_view;
        count = let len = length_push l.rounds x in omega arith;
        outstanding = record {
          round = length l.rounds;
          count = length_push l.rounds x;
          here = get_end l.rounds x;
          base = refl;
          goal = goal_front l.rounds (x ∷ []) (length l.rounds) l.acknowledged none;
          load = refl;
          part = laws.some_part l.acknowledged x.target l.wanted;
          few = laws.few_parts l.acknowledged x.target l.wanted q.acknowledged_is_view (laws.target_is_view l.acknowledged es l.wanted q.acknowledged_is_view);
          target_is_view = laws.target_is_view l.acknowledged es l.wanted q.acknowledged_is_view;
        };
      }
    where
      goal_front : (rs ys : List (Round V P)) (i : ℕ) (v : V) → GoalAt f rs i v → GoalAt f (rs ++ ys) i v
      goal_front rs ys zero v g = g
      goal_front rs ys (suc i) v g = (g.0, get_front rs ys i g.0 g.1, g.2)

  pub tied_opens : (k now next : ℕ) (l : Life V P W) (x : Round V P) (ended : List (Life V P W))
      (packets : List (Packet P W)) (h : Holding V P W) → l.outstanding ≡ None
      → Tied f k now (Some l) ended next packets h → Tied f k now (Some (with_round f l x)) ended next packets h
  tied_opens k now next l x ended packets h none t =
      tied_moves k now k now (Some l) (Some (with_round f l x)) ended ended next packets h (omega arith)
      (kept_life f l (with_round f l x) refl refl (λ i y e. get_front l.rounds (x ∷ []) i y e) ended)
      (λ m moment more y d same. let b = d.behind same in
      record {
        round = λ s. let c = b.round s in let len = length_push l.rounds x in omega arith;
        part = λ s r. let c = b.round s in let len = length_push l.rounds x in absurd (omega arith);
      })
      (record {
        number = t.shared.number;
        wanted = t.shared.wanted;
        of_base = t.shared.of_base;
        wanting = λ same.
            let v : Level f k h (length l.rounds) = subst (Wanting f k h (length l.rounds)) none (t.shared.wanting same) in
            let len = length_push l.rounds x in
            record {
              same = λ s. let a = v.round s in let b = v.parts s in inl (omega arith, b);
              older_round = λ s. let a = v.older s in omega arith;
              older_part = λ s. refl;
            };
      })
      t.once t

  -- ---- a message of the outstanding round
  no_life : (b : Bool) (n t now : ℕ) (l : Life V P W) (w : W) → (b ≡ true → f.termination w ≤ now) → now < f.termination l.wanted → l.wanted ≡ w → b ≡ false
  no_life false n t now l w once alive same = refl
  no_life true n t now l w once alive same = let a = once refl in let e = ap f.termination same in absurd (omega arith)

  -- the life in the table under the consumer's number is the first under it
  pub rounds_here_of : (k now next : ℕ) (l : Life V P W) (ended : List (Life V P W)) (packets : List (Packet P W))
      (h : Holding V P W) → LifeFact f k now next l → Tied f k now (Some l) ended next packets h → l.number ≡ h.number
      → (s : ℕ) → s ≡ k → rounds_of h.number s (Some l) ended ≡ l.rounds
  rounds_here_of k now next l ended packets h q t same s eq =
      subst (λ (s : ℕ). rounds_of h.number s (Some l) ended ≡ l.rounds) (sym eq)
      (rounds_here f l h.number k ended same q.start (no_life (has h.number k ended) 0 0 now l h.wanted t.once q.alive (t.shared.wanted same)))

  sent_not_past : (k : ℕ) (h : Holding V P W) (l : Life V P W) (o : Outstanding V P) → l.start ≡ k → h.start ≤ k
      → Ahead f k h (length l.rounds) o → NotPast f h (wanted_mark f l o)
  sent_not_past k h l o eq low a =
      record {
        round = λ s. let c = a.same (sym s ∙ eq) in omega (arith, c);
        part = λ s r. let c = a.same (sym s ∙ eq) in omega (arith, c);
        newer_round = λ s. let c = a.older_round (omega arith) in omega arith;
        newer_part = λ s. let c = a.older_part (omega arith) in omega arith;
      }

  pub ahead_of : (k : ℕ) (h : Holding V P W) (l : Life V P W) (o : Outstanding V P) → l.outstanding ≡ Some o
      → Wanting f k h (length l.rounds) l.outstanding → Ahead f k h (length l.rounds) o
  ahead_of k h l o is a = subst (Wanting f k h (length l.rounds)) is a

  pub is_outstanding_of : (l : Life V P W) (o : Outstanding V P) → l.outstanding ≡ Some o → OutstandingFact f l l.outstanding → IsOutstanding f l o
  is_outstanding_of l o is a = subst (OutstandingFact f l) is a

  -- the wanted part, as the packet that carries it
  pub part_fact : (k now next : ℕ) (l : Life V P W) (o : Outstanding V P) (ended : List (Life V P W))
      (packets : List (Packet P W)) (h : Holding V P W) (x : P) → l.outstanding ≡ Some o
      → slice_get o.round.parts o.acknowledged_parts ≡ Some x → LifeFact f k now next l
      → Tied f k now (Some l) ended next packets h → l.number ≡ h.number
      → Delivers f k (Some l) ended h (wanted_mark f l o) o.round.moment
      (nat_lt (suc o.acknowledged_parts) (length o.round.parts)) x
  part_fact k now next l o ended packets h x is here q t same =
      let a = ahead_of k h l o is (t.shared.wanting same) in
      let outstanding = is_outstanding_of l o is q.outstanding in
      record {
        start = let s = q.start in omega arith;
        not_past = sent_not_past k h l o q.start t.start a;
        content = record {
          i = outstanding.round;
          j = o.acknowledged_parts;
          r = o.round;
          round = outstanding.count;
          part = refl;
          at = subst (λ rs. slice_get rs outstanding.round ≡ Some o.round)
              (sym (rounds_here_of k now next l ended packets h q t same l.start q.start)) outstanding.here;
          here = here;
          moment_is = refl;
          more_is = refl;
          goal = subst (λ rs. GoalAt f rs outstanding.round o.round.base)
              (sym (rounds_here_of k now next l ended packets h q t same l.start q.start))
              (subst (λ v. GoalAt f l.rounds outstanding.round v) (sym outstanding.base) outstanding.goal);
          load = subst (λ w. o.round.parts ≡ f.load o.round.base o.round.target w) (t.shared.wanted same) outstanding.load;
          base_is_view = subst (λ v. f.is_view v ≡ true) (sym outstanding.base) q.acknowledged_is_view;
          target_is_view = outstanding.target_is_view;
          few = outstanding.few;
          low = q.count;
        };
        behind = λ _. record {
          round = λ s. omega arith;
          part = λ s r. subst (λ u. PartBehind f u (suc o.acknowledged_parts)) (sym is) (omega arith);
        };
      }

  pub part_facts : (k now next : ℕ) (l : Life V P W) (o : Outstanding V P) (ended : List (Life V P W))
      (packets : List (Packet P W)) (h : Holding V P W) → l.outstanding ≡ Some o → LifeFact f k now next l
      → Tied f k now (Some l) ended next packets h → (y : Option P) → slice_get o.round.parts o.acknowledged_parts ≡ y
      → Each (Fact f k (Some l) ended h) (part_message f l o y)
  part_facts k now next l o ended packets h is q t None e = tt
  part_facts k now next l o ended packets h is q t (Some x) e = (part_fact k now next l o ended packets h x is e q t, tt)

  pub message_facts : (k now next : ℕ) (l : Life V P W) (o : Outstanding V P) (ended : List (Life V P W))
      (packets : List (Packet P W)) (h : Holding V P W) → l.outstanding ≡ Some o → LifeFact f k now next l
      → Tied f k now (Some l) ended next packets h → (b : Bool) → Each (Fact f k (Some l) ended h) (message_by f b l o)
  message_facts k now next l o ended packets h is q t true = (
    (λ same. record {
      start = let s = q.start in omega arith;
      not_past = sent_not_past k h l o q.start t.start (ahead_of k h l o is (t.shared.wanting same));
      tells =
          let outstanding = is_outstanding_of l o is q.outstanding in
          let here = rounds_here_of k now next l ended packets h q t same l.start q.start in
          record {
            i = outstanding.round;
            r = o.round;
            round = outstanding.count;
            at = subst (λ rs. slice_get rs outstanding.round ≡ Some o.round) (sym here) outstanding.here;
            moment_is = refl;
          };
      low = q.count;
      few = let outstanding = is_outstanding_of l o is q.outstanding in let a = outstanding.part in let b = outstanding.few in omega arith;
    }),
    tt,
  )
  message_facts k now next l o ended packets h is q t false =
      part_facts k now next l o ended packets h is q t (slice_get o.round.parts o.acknowledged_parts) refl

  -- the time of sending is another one
  pub life_at : (k now next : ℕ) (l : Life V P W) (o : Outstanding V P) (time : Option ℕ) → l.outstanding ≡ Some o
      → LifeFact f k now next l → LifeFact f k now next (with_outstanding f l (sent_at o time))
  life_at k now next l o time is q =
      let outstanding = is_outstanding_of l o is q.outstanding in
      record {
        start = q.start;
        number = q.number;
        based = q.based;
        alive = q.alive;
        acknowledged_is_view = q.acknowledged_is_view;
        count = q.count;
        outstanding = record {
          round = outstanding.round;
          count = outstanding.count;
          here = outstanding.here;
          base = outstanding.base;
          goal = outstanding.goal;
          load = outstanding.load;
          part = outstanding.part;
          few = outstanding.few;
          target_is_view = outstanding.target_is_view;
        };
      }

  pub tied_at : (k now next : ℕ) (l : Life V P W) (o : Outstanding V P) (time : Option ℕ) (ended : List (Life V P W))
      (packets : List (Packet P W)) (h : Holding V P W) → l.outstanding ≡ Some o
      → Tied f k now (Some l) ended next packets h → Tied f k now
      (Some (with_outstanding f l (sent_at o time))) ended next packets h
  tied_at k now next l o time ended packets h is t =
      tied_moves k now k now (Some l) (Some (with_outstanding f l (sent_at o time))) ended ended next packets h (omega arith)
      (kept_life f l (with_outstanding f l (sent_at o time)) refl refl (λ i y e. e) ended)
      (λ m moment more y d same. let b = d.behind same in record { round = b.round; part = λ s r. subst (λ u. PartBehind f u m.part) is (b.part s r) })
      (record {
        number = t.shared.number;
        wanted = t.shared.wanted;
        of_base = t.shared.of_base;
        wanting = λ same. let a = ahead_of k h l o is (t.shared.wanting same) in
            record { same = a.same; older_round = a.older_round; older_part = a.older_part };
      })
      t.once t

  -- ---- a heartbeat is sent
  heartbeat_outstanding : (l : Life V P W) (t : ℕ) (o : Option (Outstanding V P)) → OutstandingFact f l o → OutstandingFact f (with_heartbeat f l t) o
  heartbeat_outstanding l t None g = g
  heartbeat_outstanding l t (Some o) outstanding =
      record {
        round = outstanding.round;
        count = outstanding.count;
        here = outstanding.here;
        base = outstanding.base;
        goal = outstanding.goal;
        load = outstanding.load;
        part = outstanding.part;
        few = outstanding.few;
        target_is_view = outstanding.target_is_view;
      }

  pub life_heartbeat : (k now next : ℕ) (l : Life V P W) (t : ℕ) → LifeFact f k now next l → LifeFact f k now next (with_heartbeat f l t)
  life_heartbeat k now next l t q = record {
    start = q.start;
    number = q.number;
    based = q.based;
    alive = q.alive;
    acknowledged_is_view = q.acknowledged_is_view;
    count = q.count;
    outstanding = heartbeat_outstanding l t l.outstanding q.outstanding;
  }

  pub tied_heartbeat : (k now next : ℕ) (l : Life V P W) (time : ℕ) (ended : List (Life V P W))
      (packets : List (Packet P W)) (h : Holding V P W) → Tied f k now (Some l) ended next packets h
      → Tied f k now (Some (with_heartbeat f l time)) ended next packets h
  tied_heartbeat k now next l time ended packets h t =
      tied_moves k now k now (Some l) (Some (with_heartbeat f l time)) ended ended next packets h (omega arith)
      (kept_life f l (with_heartbeat f l time) refl refl (λ i y e. e) ended)
      (λ m moment more y d same. let b = d.behind same in record { round = b.round; part = b.part })
      (record {
        number = t.shared.number;
        wanted = t.shared.wanted;
        of_base = t.shared.of_base;
        wanting =
            t.shared.wanting;
      })
      t.once t

  -- ---- the wanted part is acknowledged
  pub life_next : (k now next : ℕ) (l : Life V P W) (o : Outstanding V P) (time : Option ℕ) → l.outstanding ≡ Some o
      → suc o.acknowledged_parts < length o.round.parts → LifeFact f k now next l
      → LifeFact f k now next (with_outstanding f l
      (record { round = o.round; acknowledged_parts = suc o.acknowledged_parts; last_sent = time }))
  life_next k now next l o time is low q =
      let outstanding = is_outstanding_of l o is q.outstanding in
      record {
        start = q.start;
        number = q.number;
        based = q.based;
        alive = q.alive;
        acknowledged_is_view = q.acknowledged_is_view;
        count = q.count;
        outstanding = record {
          round = outstanding.round;
          count = outstanding.count;
          here = outstanding.here;
          base = outstanding.base;
          goal = outstanding.goal;
          load = outstanding.load;
          part = low;
          few = outstanding.few;
          target_is_view = outstanding.target_is_view;
        };
      }

  pub life_closed : (k now next : ℕ) (l : Life V P W) (o : Outstanding V P) → l.outstanding ≡ Some o
      → LifeFact f k now next l → LifeFact f k now next (closed f l o)
  life_closed k now next l o is q =
      let outstanding = is_outstanding_of l o is q.outstanding in
      record {
        start = q.start;
        number = q.number;
        based = q.based;
        alive = q.alive;
        acknowledged_is_view = outstanding.target_is_view;
        count = q.count;
        outstanding = subst (λ n. GoalAt f l.rounds n o.round.target) (sym outstanding.count) (o.round, outstanding.here, refl);
      }

  -- the mark names the wanted part, and the consumer took it
  pub record Acknowledged (k : ℕ) (h : Holding V P W) (l : Life V P W) (o : Outstanding V P) (m : Mark) : Type 0 where
    pub start : m.start ≡ k
    pub round : m.round ≡ length l.rounds
    pub part : m.part ≡ suc o.acknowledged_parts
    pub before : l.number ≡ h.number → Before f h m

  pub tied_next : (k now next : ℕ) (l : Life V P W) (o : Outstanding V P) (time : Option ℕ) (m : Mark)
      (ended : List (Life V P W)) (packets : List (Packet P W)) (h : Holding V P W) → l.outstanding ≡ Some o
      → suc o.acknowledged_parts < length o.round.parts → Acknowledged k h l o m
      → Tied f k now (Some l) ended next packets h → Tied f k now
      (Some (with_outstanding f l (record {
        round = o.round;
        acknowledged_parts = suc o.acknowledged_parts;
        last_sent = time;
      }))) ended next packets h
  tied_next k now next l o time m ended packets h is low acknowledged t =
      let o' : Outstanding V P = record { round = o.round; acknowledged_parts = suc o.acknowledged_parts; last_sent = time } in
      tied_moves k now k now (Some l) (Some (with_outstanding f l o')) ended ended next packets h (omega arith)
      (kept_life f l (with_outstanding f l o') refl refl (λ i y e. e) ended)
      (λ m moment more y d same. let b = d.behind same in
      record {
        round = b.round;
        part = λ s r. let c : m.part ≤ suc o.acknowledged_parts =
            subst (λ u. PartBehind f u m.part) is (b.part s r) in omega arith;
      })
      (record {
        number = t.shared.number;
        wanted = t.shared.wanted;
        of_base = t.shared.of_base;
        wanting = λ same.
            let a = ahead_of k h l o is (t.shared.wanting same) in
            let b = acknowledged.before same in
            record {
              same = λ s.
                  let c = a.same s in
                  let r = b.round (acknowledged.start ∙ sym s) in
                  let p = b.part (acknowledged.start ∙ sym s) in
                  let ar = acknowledged.round in let ap = acknowledged.part in
                  inl (omega (arith, c, p), omega (arith, c, p));
              older_round = λ s. let c = b.start in let e = acknowledged.start in absurd (omega arith);
              older_part = λ s. let c = b.start in let e = acknowledged.start in absurd (omega arith);
            };
      })
      t.once t

  after_last : (r b n p len : ℕ) → ((suc r ≡ n) × (b ≡ p))
      ⊎ (((suc r ≡ n) × (b ≡ suc p) × (suc p < len)) ⊎ ((r ≡ n) × (b ≡ 0) × (suc p ≡ len))) → (n ≡ suc r → suc p ≤ b)
      → len ≤ suc p → p < len → (r ≡ n) × (b ≡ 0)
  after_last r b n p len (inl c) before low part = let g = before (sym c.0) in absurd (omega arith)
  after_last r b n p len (inr (inl c)) before low part = absurd (omega arith)
  after_last r b n p len (inr (inr c)) before low part = (c.0, c.1)

  pub tied_closed : (k now next : ℕ) (l : Life V P W) (o : Outstanding V P) (m : Mark) (ended : List (Life V P W))
      (packets : List (Packet P W)) (h : Holding V P W) → l.outstanding ≡ Some o
      → length o.round.parts ≤ suc o.acknowledged_parts → LifeFact f k now next l → Acknowledged k h l o m
      → Tied f k now (Some l) ended next packets h → Tied f k now (Some (closed f l o)) ended next packets h
  tied_closed k now next l o m ended packets h is low q acknowledged t =
      tied_moves k now k now (Some l) (Some (closed f l o)) ended ended next packets h (omega arith)
      (kept_life f l (closed f l o) refl refl (λ i y e. e) ended)
      (λ m moment more y d same. let b = d.behind same in record { round = b.round; part = λ s r. tt })
      (record {
        number = t.shared.number;
        wanted = t.shared.wanted;
        of_base = t.shared.of_base;
        wanting = λ same.
            let a = ahead_of k h l o is (t.shared.wanting same) in
            let b = acknowledged.before same in
            let ar = acknowledged.round in let ap = acknowledged.part in let ast = acknowledged.start in
            record {
              round = λ s. (after_last h.round (length h.parts) (length l.rounds) o.acknowledged_parts
                  (length o.round.parts) (a.same s) (λ e. let p = b.part (acknowledged.start ∙ sym s) in omega arith)
                  low (is_outstanding_of l o is q.outstanding).part).0;
              parts = λ s. (after_last h.round (length h.parts) (length l.rounds) o.acknowledged_parts
                  (length o.round.parts) (a.same s) (λ e. let p = b.part (acknowledged.start ∙ sym s) in omega arith)
                  low (is_outstanding_of l o is q.outstanding).part).1;
              older = λ s. let c = b.start in absurd (omega arith);
            };
      })
      t.once t

  -- ---- a life ends
  -- what holds of the life in the table, where it is under the consumer's number
  abbrev pub IfUnder : ℕ → Option (Life V P W) → (Life V P W → Type 0) → Type 0
  IfUnder n None Q = Unit {0}
  IfUnder n (Some l) Q = l.number ≡ n → Q l

  has_retire : (n s : ℕ) (e : Option (Life V P W)) (R : Type 0) → IfUnder n e (λ l. R) → has n s (retire f e) ≡ true → R
  has_retire n s None R g e = absurd (cc)
  has_retire n s (Some l) R g e = by (matches l n s) refl e
    where
      by : (b : Bool) → matches l n s ≡ b → (b || false) ≡ true → R
      by true q e = g (match_number f l n s q)
      by false q e = absurd (cc)

  pub once_retired : (n s : ℕ) (e : Option (Life V P W)) (ls : List (Life V P W)) (R : Type 0) → IfUnder n e (λ l. R)
      → (has n s ls ≡ true → R) → has n s (ls ++ retire f e) ≡ true → R
  once_retired n s e ls R g old h = ⊎_elim old (has_retire n s e R g) (or_cases _ _ (sym (has_retired f n s ls e) ∙ h))

  pub tied_ends : (k now now' : ℕ) (e : Option (Life V P W)) (ended : List (Life V P W)) (next : ℕ)
      (packets : List (Packet P W)) (h : Holding V P W) → now ≤ now'
      → IfUnder h.number e (λ l. f.termination h.wanted ≤ now') → Tied f k now e ended next packets h
      → Tied f k now' None (ended ++ retire f e) next packets h
  tied_ends k now now' e ended next packets h le under t =
      tied_moves k now k now' e None ended (ended ++ retire f e) next packets h (omega arith) (kept_ended f e ended)
      (λ m moment more y d. tt) tt
      (once_retired h.number k e ended (f.termination h.wanted ≤ now') under (λ b. let a = t.once b in omega arith))
      t

  pub tied_anew : (k now now' next : ℕ) (e : Option (Life V P W)) (ended : List (Life V P W))
      (packets : List (Packet P W)) (h : Holding V P W) → TableFact f k now next e → Each (Old f k next) ended
      → Tied f k now e ended next packets h → Tied f (suc k) now' None (ended ++ retire f e) next packets h
  tied_anew k now now' next e ended packets h q olds t =
      tied_moves k now (suc k) now' e None ended (ended ++ retire f e) next packets h (omega arith) (kept_ended f e ended)
      (λ m moment more y d. tt) tt
      (λ b. absurd (nothing b))
      t
    where
      life_start : (e : Option (Life V P W)) → TableFact f k now next e → has h.number (suc k) (retire f e) ≡ true → ⊥
      life_start None q b = cc
      life_start (Some l) q b = by (matches l h.number (suc k)) refl b
        where
          by : (c : Bool) → matches l h.number (suc k) ≡ c → (c || false) ≡ true → ⊥
          by true r b = let a = match_start f l h.number (suc k) r in let s = q.start in omega arith
          by false r b = cc

      nothing : has h.number (suc k) (ended ++ retire f e) ≡ true → ⊥
      nothing b = ⊎_elim (has_one f (Old f k next) ⊥ h.number (suc k) ended
          (λ l en es o. let a = o.start in omega arith) olds) (life_start e q)
          (or_cases _ _ (sym (has_retired f h.number (suc k) ended e) ∙ b))

  -- the clock goes on
  pub tied_clock : (k now now' : ℕ) (e : Option (Life V P W)) (ended : List (Life V P W)) (next : ℕ)
      (packets : List (Packet P W)) (h : Holding V P W) → now ≤ now' → Tied f k now e ended next packets h
      → Tied f k now' e ended next packets h
  tied_clock k now now' e ended next packets h le t =
      record {
        number = t.number;
        based = t.based;
        start = t.start;
        facts = t.facts;
        shared = t.shared;
        once = λ b. let a = t.once b in omega arith;
        seen = t.seen;
        buffer = t.buffer;
        current = t.current;
        view = t.view;
      }

  -- ---- an acceptance
  -- the life in the table is under a smaller number
  abbrev pub Smaller : ℕ → Option (Life V P W) → Type 0
  Smaller n None = Unit {0}
  Smaller n (Some l) = l.number < n

  none_here : (n s : ℕ) (e : Option (Life V P W)) → Smaller n e → life_rounds n s e ≡ []
  none_here n s None g = refl
  none_here n s (Some l) g = no_match_rounds f l n s (λ q. let a = match_number f l n s q in omega arith)

  smaller_under : (n m : ℕ) (e : Option (Life V P W)) (R : Type 0) → n ≤ m → Smaller n e → IfUnder m e (λ l. R)
  smaller_under n m None R le g = tt
  smaller_under n m (Some l) R le g = λ same. absurd (omega arith)

  smaller_up : (n m : ℕ) (e : Option (Life V P W)) → n ≤ m → Smaller n e → Smaller m e
  smaller_up n m None le g = tt
  smaller_up n m (Some l) le g = omega arith

  -- by a SubscriptionRequest or an AllData request

  pub tied_accepts : (k now next n b : ℕ) (x : W) (e : Option (Life V P W)) (ended : List (Life V P W))
      (packets : List (Packet P W)) (h : Holding V P W) → 1 ≤ k → Smaller n e → now < f.termination x
      → (n ≤ h.number) × (n ≡ h.number → x ≡ h.wanted) → (b ≡ h.base → x ≡ h.wanted)
      → Tied f k now e ended next packets h
      → Tied f k now (Some (new_life f k now n b x)) (ended ++ retire f e) next packets h
  tied_accepts k now next n b x e ended packets h first small alive fact of_base t =
      tied_moves k now k now e (Some (new_life f k now n b x)) ended (ended ++ retire f e) next packets h (omega arith)
      (kept_fresh f e ended k now n b x)
      (λ m moment more y d same. record {
        round = λ s. absurd (no_round same m.start s d.content.i d.content.r d.content.at);
        part = λ s r. tt;
      })
      (record {
        number = fact.0;
        wanted = fact.1;
        of_base = of_base;
        wanting = λ same. record {
          round = λ s. absurd (unseen same s);
          parts = λ s. absurd (unseen same s);
          older = λ s. refl;
        };
      })
      (once_retired h.number k e ended (f.termination h.wanted ≤ now) (smaller_under n h.number e (f.termination h.wanted ≤ now) fact.0 small) t.once)
      t
    where
      no_round : n ≡ h.number → (s : ℕ) → s ≡ k → (i : ℕ) (r : Round V P) → slice_get (rounds_of h.number s e ended) i ≡ Some r → ⊥
      no_round same s eq i r at =
          let b : has h.number s ended ≡ true = some_before f h.number s i r e ended (none_here h.number s e (smaller_up n h.number e fact.0 small)) at in
          let a = t.once (subst (λ s. has h.number s ended ≡ true) eq b) in
          let w = ap f.termination (fact.1 same) in
          omega arith

      unseen : n ≡ h.number → h.start ≡ k → ⊥
      unseen same s = let g = t.seen (omega arith) in no_round same h.start s 0 g.0 g.1
