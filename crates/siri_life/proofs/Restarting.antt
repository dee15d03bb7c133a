-- A consumer that restarts asks for all of each subscription that it holds.
use Rattle.std.proofs.Common.{◌≡◌, ℕ, suc, Bool, true, false, cond, ◌&&◌, List, [], ◌∷◌, ◌++◌, Option}
use Rattle.std.proofs.Common.{Some, None, refl, sym, ap, ◌∙◌, subst, arith, append-nil}
use Rattle.std.proofs.lemmas.List.{append_assoc}
use Rattle.siri_life.specs.Meaning.{Meaning}
use Rattle.siri_life.specs.Life.{AllData}
use Rattle.siri_life.specs.Link.{Holding, restarted}
use Rattle.siri_life.specs.Named.{Name, same_name, same_subscription, with_under, next_of}
use Rattle.siri_life.specs.Serving.{letters_for}
use Rattle.siri_life.specs.Network
use Rattle.siri_life.specs.Network.{Network, restarted_from, all_data_letters, restarts_of_all, kept_at}
use Rattle.siri_life.specs.Network.{network_after}
use Rattle.siri_life.proofs.Names.{name_is, name_same}
use Rattle.siri_life.specs.laws.Restarts.{or_kept, IsApart, AreApart, Holds, HasRestarted}

-- names that differ one way differ the other
turned : (c d : Name) → same_name c d ≡ false → same_name d c ≡ false
turned c d apart = by (same_name d c) refl
  where
    by : (b : Bool) → same_name d c ≡ b → b ≡ false
    by false q = refl
    by true q = sym (name_same c d (sym (name_is d c q))) ∙ apart

module _ {V P W H E : Type 0} (f : Meaning V P W H E) (c : Name) where
  -- one of them has asked
  abbrev one : Network V P W H → Name × Holding V P W → Network V P W H
  one n kept =
      Network.uses f n c (with_under c kept.0 (Some (restarted f (next_of (n.numbers c)) kept.1)) n.holdings)
      (letters_for f c kept.0 (AllData (next_of (n.numbers c)) kept.1.base ∷ []))

  own_name : (s t : Name) → same_subscription c s c t ≡ same_name s t
  own_name s t = ap (λ b. b && same_name s t) (name_same c c refl)

  other_consumer : (d s t : Name) → same_name d c ≡ false → same_subscription d s c t ≡ false
  other_consumer d s t apart = ap (λ b. b && same_name s t) apart

  -- the others are held as before
  holds_on : (n : Network V P W H) (kept : Name × Holding V P W) (held : List (Name × Holding V P W))
      → IsApart f kept.0 held → Holds f n c held → Holds f (one n kept) c held
  holds_on n kept [] apart h = tt
  holds_on n kept (k ∷ held) apart h = (
    ap (λ b. cond b (Some (restarted f (next_of (n.numbers c)) kept.1)) (n.holdings c k.0))
        (own_name k.0 kept.0 ∙ turned kept.0 k.0 apart.0) ∙ h.0,
    holds_on n kept held apart.1 h.1,
  )

  not_among : (s : Name) (number : ℕ) (held : List (Name × Holding V P W)) → IsApart f s held
      → kept_at f s (restarted_from f number held) ≡ None
  not_among s number [] apart = refl
  not_among s number (k ∷ held) apart = ap
      (λ b. cond b (Some (restarted f number k.1)) (kept_at f s (restarted_from f (suc number) held))) apart.0
      ∙ not_among s (suc number) held apart.1

  next_is : (n : Network V P W H) (k : Name × Holding V P W) (number : ℕ) → next_of (n.numbers c) ≡ number
      → next_of ((one n k).numbers c) ≡ suc number
  next_is n k number is = ap (λ b. next_of (cond b (Some (suc (next_of (n.numbers c)))) (n.numbers c)))
      (name_same c c refl) ∙ ap suc is

  now_at : (n : Network V P W H) (k : Name × Holding V P W) (number : ℕ) → next_of (n.numbers c) ≡ number
      → (s : Name) (b : Bool) → same_name s k.0 ≡ b
      → (one n k).holdings c s ≡ cond b (Some (restarted f number k.1)) (n.holdings c s)
  now_at n k number is s b q =
      ap (λ e. cond e (Some (restarted f (next_of (n.numbers c)) k.1)) (n.holdings c s)) (own_name s k.0 ∙ q)
      ∙ ap (λ (m : ℕ). cond b (Some (restarted f m k.1)) (n.holdings c s)) is

  mine_at : (n : Network V P W H) (k : Name × Holding V P W) (held : List (Name × Holding V P W)) (number : ℕ)
      → IsApart f k.0 held → next_of (n.numbers c) ≡ number → (s : Name) (b : Bool) → same_name s k.0 ≡ b
      → or_kept f (kept_at f s (restarted_from f (suc number) held)) ((one n k).holdings c s)
      ≡ or_kept f (kept_at f s (restarted_from f number (k ∷ held))) (n.holdings c s)
  mine_at n k held number apart is s true q =
      let gone : kept_at f s (restarted_from f (suc number) held)
      ≡ None = not_among s (suc number) held (subst (λ t. IsApart f t held) (sym (name_is s k.0 q)) apart) in
      let now = now_at n k number is s true q in
      (λ i. or_kept f (gone i) (now i))
      ∙ sym (ap (λ b. or_kept f
      (cond b (Some (restarted f number k.1)) (kept_at f s (restarted_from f (suc number) held))) (n.holdings c s)) q)
  mine_at n k held number apart is s false q =
      ap (λ now. or_kept f (kept_at f s (restarted_from f (suc number) held)) now) (now_at n k number is s false q)
      ∙ sym (ap (λ b. or_kept f
      (cond b (Some (restarted f number k.1)) (kept_at f s (restarted_from f (suc number) held))) (n.holdings c s)) q)

  add_one : (n m : Network V P W H) (k : Name × Holding V P W) (held : List (Name × Holding V P W)) (number : ℕ)
      → IsApart f k.0 held → next_of (n.numbers c) ≡ number → HasRestarted f c (suc number) held (one n k) m
      → HasRestarted f c number (k ∷ held) n m
  add_one n m k held number apart is rest =
      record {
        serving = rest.serving;
        number_is = omega (arith, rest.number_is);
        numbers = λ d q. rest.numbers d q ∙ ap (λ b. cond b (Some (suc (next_of (n.numbers c)))) (n.numbers d)) q;
        mine = λ s. rest.mine s ∙ mine_at n k held number apart is s (same_name s k.0) refl;
        others = λ d s q. rest.others d s q
            ∙ ap (λ b. cond b (Some (restarted f (next_of (n.numbers c)) k.1)) (n.holdings d s))
            (other_consumer d s k.0 q);
        letters = rest.letters
            ∙ append_assoc n.letters (letters_for f c k.0 (AllData (next_of (n.numbers c)) k.1.base ∷ []))
            (all_data_letters f c (suc number) held)
            ∙ ap (λ (m : ℕ). n.letters
            ++ (letters_for f c k.0 (AllData m k.1.base ∷ []) ++ all_data_letters f c (suc number) held)) is;
      }

  pub all_restart : (held : List (Name × Holding V P W)) (number : ℕ) (n : Network V P W H) → AreApart f held
      → Holds f n c held → next_of (n.numbers c) ≡ number
      → HasRestarted f c number held n (network_after f (restarts_of_all f c held) n)
  all_restart [] number n apart h is = record {
    serving = refl;
    number_is = omega (arith, is);
    numbers = λ d q. refl;
    mine = λ s. refl;
    others = λ d s q. refl;
    letters = sym (append-nil n.letters);
  }
  all_restart (k ∷ held) number n apart h is =
      subst (λ (now : Option (Holding V P W)). HasRestarted f c number (k ∷ held) n
      (network_after f (restarts_of_all f c held) (Network.restarted_one f n c k.0 now))) (sym h.0)
      (add_one n (network_after f (restarts_of_all f c held) (one n k)) k held number apart.0 is
      (all_restart held (suc number) (one n k) apart.1 (holds_on n k held apart.0 h.1) (next_is n k number is)))
