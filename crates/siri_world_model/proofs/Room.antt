-- Steps that name no other subscription leave at most one in the table, which is never full.
use Rattle.std.proofs.Common.{◌≡◌, ℕ, ◌≤◌, Bool, true, false, cond, List, [], ◌∷◌, length, Option, Some, None, refl, ap, subst, arith}
use Rattle.std.proofs.lemmas.Bool.{lt-leb}
use Rattle.siri_life.specs.Meaning.{Meaning}
use Rattle.siri_life.specs.Life.{Life, Packet, Subscribe, Terminate, AllData, Supply, Acknowledge, Notify, Delivery}
use Rattle.siri_life.specs.Life.{can_accept, can_renew}
use Rattle.siri_life.specs.Life.{is_before}
use Rattle.siri_life.specs.Named.{Name, Of, same_subscription, find, put, without, keep}
use Rattle.siri_life.specs.Serving
use Rattle.siri_life.specs.Serving.{Act, Clocked, Fed, Heard, Settled, settled_rows, most_subscriptions}
use Rattle.siri_life.specs.Network.{Network, act, hears, own, is_own, opening, HasRoom, HaveRoom}
use Rattle.siri_life.proofs.Names.{same_parts}

module _ {V P W H E : Type 0} (f : Meaning V P W H E) (c s : Name) where
  abbrev Rows : Type 0
  Rows = List (Of (Life V P W))

  -- at most one is there, of this subscription
  abbrev IsSole : Rows → Type 0
  IsSole [] = Unit {0}
  IsSole (x ∷ []) = same_subscription c s x.subscriber x.identifier ≡ true
  IsSole (x ∷ y ∷ xs) = ⊥

  few : (xs : Rows) → IsSole xs → length xs ≤ 1
  few [] sole = omega arith
  few (x ∷ []) sole = omega arith
  few (x ∷ y ∷ xs) sole = absurd sole

  sole_put : (d t : Name) (l : Life V P W) (xs : Rows) → same_subscription c s d t ≡ true → IsSole xs → IsSole (put d t l xs)
  sole_put d t l [] same sole = same
  sole_put d t l (x ∷ []) same sole =
      let names = same_parts c s d t same in
      let again : same_subscription d t x.subscriber x.identifier ≡ true =
      subst (λ (z : Name × Name). same_subscription z.0 z.1 x.subscriber x.identifier ≡ true)
      (λ i. (names.0 i, names.1 i)) sole in
      by (same_subscription d t x.subscriber x.identifier) again
    where
      by : (b : Bool) → b ≡ true → IsSole (cond b (record { subscriber = d; identifier = t; it = l } ∷ []) (x ∷ put d t l []))
      by true is = same
      by false is = absurd (cc)
  sole_put d t l (x ∷ y ∷ xs) same sole = absurd sole

  sole_without : (d t : Name) (xs : Rows) → IsSole xs → IsSole (without d t xs)
  sole_without d t [] sole = tt
  sole_without d t (x ∷ []) sole = by (same_subscription d t x.subscriber x.identifier)
    where
      by : (b : Bool) → IsSole (cond b [] (x ∷ []))
      by true = tt
      by false = sole
  sole_without d t (x ∷ y ∷ xs) sole = absurd sole

  sole_keep : (p : Life V P W → Bool) (xs : Rows) → IsSole xs → IsSole (keep p xs)
  sole_keep p [] sole = tt
  sole_keep p (x ∷ []) sole = by (p x.it)
    where
      by : (b : Bool) → IsSole (cond b (x ∷ []) [])
      by true = sole
      by false = tt
  sole_keep p (x ∷ y ∷ xs) sole = absurd sole

  sole_settled : (known : H) (now : ℕ) (xs : Rows) → IsSole xs → IsSole (settled_rows f known now xs)
  sole_settled known now [] sole = tt
  sole_settled known now (x ∷ []) sole = sole
  sole_settled known now (x ∷ y ∷ xs) sole = absurd sole

  -- ---- along the steps

  abbrev Sole : Network V P W H → Type 0
  Sole n = IsSole n.serving.table

  heard_sole : (n : Network V P W H) (d t : Name) (p : Packet P W) → same_subscription c s d t ≡ true → Sole n → Sole (hears f n d t p)
  heard_sole n d t (Subscribe number x) same sole = by (Serving.accepts f n.serving d t number x)
    where
      by : (b : Bool) → IsSole (Serving.accepted_if f b n.serving d t number x).table
      by true = sole_put d t _ n.serving.table same sole
      by false = sole
  heard_sole n d t (Terminate number) same sole = by (is_before f (find d t n.serving.table) number)
    where
      by : (b : Bool) → IsSole (Serving.ended_if f b n.serving d t).table
      by true = sole_without d t n.serving.table sole
      by false = sole
  heard_sole n d t (AllData number base) same sole = by (find d t n.serving.table)
    where
      test : (b : Bool) (x : W) → IsSole (Serving.renewed_if f b n.serving d t number base x).table
      test true x = sole_put d t _ n.serving.table same sole
      test false x = sole

      by : (e : Option (Life V P W)) → IsSole (Serving.renewed f n.serving d t number base e).table
      by None = sole
      by (Some l) = test (can_renew f l number base) l.wanted
  heard_sole n d t (Supply m) same sole = by (find d t n.serving.table)
    where
      by : (e : Option (Life V P W)) → IsSole (Serving.supplied f n.serving d t m e).table
      by None = sole
      by (Some l) = sole_put d t _ n.serving.table same sole
  heard_sole n d t (Acknowledge m) same sole = by (find d t n.serving.table)
    where
      by : (e : Option (Life V P W)) → IsSole (Serving.acknowledged f n.serving d t m e).table
      by None = sole
      by (Some l) = sole_put d t _ n.serving.table same sole
  heard_sole n d t (Notify m moment) same sole = sole
  heard_sole n d t (Delivery m moment more x) same sole = sole

  act_sole : (n : Network V P W H) (a : Act P W E) → is_own f c s a ≡ true → Sole n → Sole (act f n a)
  act_sole n (Clocked t) is sole = sole_keep _ n.serving.table sole
  act_sole n (Fed es) is sole = sole
  act_sole n (Heard d t p) is sole = heard_sole n d t p is sole
  act_sole n Settled is sole = sole_settled n.serving.known n.serving.now n.serving.table sole

  -- a table of one isn't full
  heard_room : (n : Network V P W H) (d t : Name) (p : Packet P W) → Sole n → HasRoom f c s n (Heard d t p)
  heard_room n d t (Subscribe number x) sole =
      let one = few n.serving.table sole in
      λ same. ap (λ full. can_accept f full n.serving.now number x (find c s n.serving.table))
      (lt-leb most_subscriptions (length n.serving.table) (omega (arith, one)))
  heard_room n d t (Terminate number) sole = tt
  heard_room n d t (AllData number base) sole = tt
  heard_room n d t (Supply m) sole = tt
  heard_room n d t (Acknowledge m) sole = tt
  heard_room n d t (Notify m moment) sole = tt
  heard_room n d t (Delivery m moment more x) sole = tt

  act_room : (n : Network V P W H) (a : Act P W E) → Sole n → HasRoom f c s n a
  act_room n (Clocked t) sole = tt
  act_room n (Fed es) sole = tt
  act_room n (Heard d t p) sole = heard_room n d t p sole
  act_room n Settled sole = tt

  own_room_from : (all : List (Act P W E)) (n : Network V P W H) → Sole n → HaveRoom f c s (own f c s all) n
  own_room_from [] n sole = tt
  own_room_from (a ∷ all) n sole = by (is_own f c s a) refl (own_room_from all)
    where
      by : (b : Bool) → is_own f c s a ≡ b → ((n : Network V P W H) → Sole n → HaveRoom f c s (own f c s all) n)
          → HaveRoom f c s (cond b (a ∷ own f c s all) (own f c s all)) n
      by true is rest = (act_room n a sole, rest (act f n a) (act_sole n a is sole))
      by false is rest = rest n sole

  -- alone a subscription always has room
  pub own_room : (all : List (Act P W E)) (k t : ℕ) → HaveRoom f c s (own f c s all) (opening f k t)
  own_room all k t = own_room_from all (opening f k t) tt
