-- The connection at a place, and what a step does with it.
use Rattle.siri_doors.specs.Decisions.{bytes_in, comes, decides, held, waits_in, where_it_waits, with_bytes, without}
use Rattle.siri_doors.specs.Gathered.{Asking, with_piece}
use Rattle.siri_doors.specs.Waiting.{Becomes, IsPlaceOf}
use Rattle.siri_doors.specs.declared.outcome.Outcome.TheVariants.{Decides, Refuses, Waits}
use Rattle.std.specs.Prelude.{nat_eq, nat_le, if◌then◌else◌}
use Rattle.std.proofs.Common.{◌≡◌, ◌<◌, ◌+◌, ℕ, zero, suc, List, [], ◌∷◌, ◌++◌, length, take, drop, get_or, set, Bool, true, false, refl, sym, ap, ◌∙◌, subst, arith, get_or-set_same}
use Rattle.std.proofs.lemmas.Bool.{eqb-true}
use Rattle.std.proofs.lemmas.List.{drop-set-lt, take-set}

-- none of the slot is in front, so the first tells
passed : (b x : Bool) → (if b then true else x) ≡ false → (b ≡ false) × (x ≡ false)
passed false x e = (refl, e)
passed true x e = absurd (cc e)

module _ (slot : ℕ) where
  -- it is in the slot, whatever is asked for past the end
  abbrev pub IsHere : List Asking → ℕ → Type 0
  IsHere ws p = (default : Asking) → nat_eq (get_or ws p default).slot slot ≡ true

  waits_at : (ws : List Asking) (p : ℕ) → p < length ws → waits_in slot (take p ws) ≡ false → IsHere ws p → waits_in slot ws ≡ true
  waits_at [] p l f h = absurd (omega arith)
  waits_at (w ∷ ws) zero l f h = rw (h w) refl
  waits_at (w ∷ ws) (suc p) l f h =
      let s = passed (nat_eq w.slot slot) (waits_in slot (take p ws)) f in
      let b : nat_eq w.slot slot ≡ false = s.0 in
      rw b (waits_at ws p (omega arith) s.1 h)

  without_at : (ws : List Asking) (p : ℕ) → p < length ws → waits_in slot (take p ws) ≡ false → IsHere ws p
      → without slot ws ≡ take p ws ++ drop (suc p) ws
  without_at [] p l f h = absurd (omega arith)
  without_at (w ∷ ws) zero l f h = rw (h w) refl
  without_at (w ∷ ws) (suc p) l f h =
      let s = passed (nat_eq w.slot slot) (waits_in slot (take p ws)) f in
      let b : nat_eq w.slot slot ≡ false = s.0 in
      rw b (ap (λ l. w ∷ l) (without_at ws p (omega arith) s.1 h))

  bytes_at : (ws : List Asking) (p : ℕ) (d : Asking) → p < length ws → waits_in slot (take p ws) ≡ false → IsHere ws p
      → bytes_in slot ws ≡ (get_or ws p d).bytes
  bytes_at [] p d l f h = absurd (omega arith)
  bytes_at (w ∷ ws) zero d l f h = rw (h w) refl
  bytes_at (w ∷ ws) (suc p) d l f h =
      let s = passed (nat_eq w.slot slot) (waits_in slot (take p ws)) f in
      let b : nat_eq w.slot slot ≡ false = s.0 in
      rw b (bytes_at ws p d (omega arith) s.1 h)

  with_at : (bytes : List ℕ) (ws : List Asking) (p : ℕ) → p < length ws → waits_in slot (take p ws) ≡ false → IsHere ws p
      → with_bytes slot bytes ws ≡ set ws p (record { slot = slot; bytes = bytes })
  with_at bytes [] p l f h = absurd (omega arith)
  with_at bytes (w ∷ ws) zero l f h = rw (h w) refl
  with_at bytes (w ∷ ws) (suc p) l f h =
      let s = passed (nat_eq w.slot slot) (waits_in slot (take p ws)) f in
      let b : nat_eq w.slot slot ≡ false = s.0 in
      rw b (ap (λ l. w ∷ l) (with_at bytes ws p (omega arith) s.1 h))

  -- one more that stands in another slot
  pub none_more : (ws : List Asking) (p : ℕ) (a : Asking) → p < length ws → waits_in slot (take p ws) ≡ false → a ≡ get_or ws p a
      → nat_eq a.slot slot ≡ false → waits_in slot (take (p + 1) ws) ≡ false
  none_more [] p a l f is other = absurd (omega arith)
  none_more (w ∷ ws) zero a l f is other =
      let b : nat_eq w.slot slot ≡ false = subst (λ (x : Asking). nat_eq x.slot slot ≡ false) is other in rw b refl
  none_more (w ∷ ws) (suc p) a l f is other =
      let s = passed (nat_eq w.slot slot) (waits_in slot (take p ws)) f in
      let b : nat_eq w.slot slot ≡ false = s.0 in
      let e : suc p + 1 ≡ suc (p + 1) = omega arith in
      subst (λ n. waits_in slot (take n (w ∷ ws)) ≡ false) (sym e) (rw b (none_more ws p a (omega arith) s.1 is other))

  -- what stands at the place
  pub is_at : (ws : List Asking) (p : ℕ) (a : Asking) → IsPlaceOf slot ws p → a ≡ get_or ws p a
      → a ≡ record { slot = slot; bytes = bytes_in slot ws }
  is_at ws p a at is =
      let s : a.slot ≡ slot = ap (λ (x : Asking). x.slot) is ∙ eqb-true _ _ (at.here a) in
      let b : a.bytes ≡ bytes_in slot ws = ap (λ (x : Asking). x.bytes) is ∙ sym (bytes_at ws p a at.within at.first at.here) in
      λ i. record { slot = s i; bytes = b i }

  pub ends_at : (ws new : List Asking) (p : ℕ) (a : Asking) → IsPlaceOf slot ws p → a ≡ get_or ws p a → new ≡ take p ws ++ drop (suc p) ws
      → Becomes (where_it_waits slot ws (decides slot (bytes_in slot ws) ws)) new (Decides a)
  ends_at ws new p a at is e =
      let w : waits_in slot ws ≡ true = waits_at ws p at.within at.first at.here in
      rw w (e ∙ sym (without_at ws p at.within at.first at.here), ap Decides (is_at ws p a at is))

  module _ (whole : List ℕ → Bool) (piece : List ℕ) where
    pub refuses_at : (ws new : List Asking) (p : ℕ) → IsPlaceOf slot ws p → nat_le (held ws + length piece) 67108864 ≡ false
        → new ≡ take p ws ++ drop (suc p) ws → Becomes (where_it_waits slot ws (comes whole slot piece ws)) new (Refuses slot)
    refuses_at ws new p at room e =
        let w : waits_in slot ws ≡ true = waits_at ws p at.within at.first at.here in
        rw (w, room) (e ∙ sym (without_at ws p at.within at.first at.here), refl)

    -- what stands at the place once the piece came
    more_at : (ws : List Asking) (p : ℕ) (old x : Asking) → IsPlaceOf slot ws p → old ≡ get_or ws p old → x ≡ with_piece piece old
        → x ≡ record { slot = slot; bytes = bytes_in slot ws ++ piece }
    more_at ws p old x at is e = e ∙ ap (with_piece piece) (is_at ws p old at is)

    pub gathers_at : (ws new : List Asking) (p : ℕ) (old x : Asking) → IsPlaceOf slot ws p → nat_le (held ws + length piece) 67108864 ≡ true
        → old ≡ get_or ws p old → x ≡ with_piece piece old → whole x.bytes ≡ false → new ≡ set ws p x
        → Becomes (where_it_waits slot ws (comes whole slot piece ws)) new Waits
    gathers_at ws new p old x at room is e tells set_is =
        let w : waits_in slot ws ≡ true = waits_at ws p at.within at.first at.here in
        let x_is = more_at ws p old x at is e in
        let n : whole (bytes_in slot ws ++ piece) ≡ false = ap (λ (y : Asking). whole y.bytes) (sym x_is) ∙ tells in
        rw (w, room, n) (set_is ∙ ap (set ws p) x_is ∙ sym (with_at (bytes_in slot ws ++ piece) ws p at.within at.first at.here), refl)

    pub decides_at : (ws new : List Asking) (p : ℕ) (old x given : Asking) → IsPlaceOf slot ws p
        → nat_le (held ws + length piece) 67108864 ≡ true → old ≡ get_or ws p old → x ≡ with_piece piece old → whole x.bytes ≡ true
        → given ≡ get_or (set ws p x) p given → new ≡ take p (set ws p x) ++ drop (suc p) (set ws p x)
        → Becomes (where_it_waits slot ws (comes whole slot piece ws)) new (Decides given)
    decides_at ws new p old x given at room is e tells given_is new_is =
        let w : waits_in slot ws ≡ true = waits_at ws p at.within at.first at.here in
        let x_is = more_at ws p old x at is e in
        let n : whole (bytes_in slot ws ++ piece) ≡ true = ap (λ (y : Asking). whole y.bytes) (sym x_is) ∙ tells in
        let l : p < length ws = at.within in
        let same : get_or (set ws p x) p given ≡ x = rw get_or-set_same refl in
        let rest : take p (set ws p x) ++ drop (suc p) (set ws p x) ≡ take p ws ++ drop (suc p) ws =
        rw (take-set ws p x, drop-set-lt (suc p) ws p x (omega arith)) refl in
        rw (w, room, n) (new_is ∙ rest ∙ sym (without_at ws p at.within at.first at.here), ap Decides (given_is ∙ same ∙ x_is))
