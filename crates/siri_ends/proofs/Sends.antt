-- Messages that are sent, one after the other.
use Rattle.std.proofs.Common.{◌≡◌, ℕ, zero, suc, List, [], ◌∷◌, ◌++◌, length, drop, Option, None, Some, refl, sym, ap, ◌∙◌}
use Rattle.std.proofs.Common.{subst, inl, inr, arith, Result, Ok, Err}
use Rattle.std.specs.Prelude.{OnErr}
use Rattle.siri_outside.specs.Wires.{WireState}
use Rattle.siri_http.specs.Tallies.{with_unsent}
use Rattle.siri_http.specs.declared.posting.Sent.{Sent}
use Rattle.siri_ends.specs.At.{At, Goes, HoldingAny, stood_for}
use Rattle.siri_ends.specs.EndCalls.{SendsNext, StopsAt}
use Rattle.siri_ends.specs.InTurn.{FirstInTurn, FirstSends, InTurn, SendsAll, SendsOne, most_sends}
use Rattle.siri_ends.specs.Manners.{Manner, Posting, after_hearing, brings_of, message_answered}

-- ---- one after the other

module _ {State M : Type 0} (Posts : Posting M) (manner : Manner State M) where
  -- a message that was sent is the first of those that are
  one_sent : (less : ℕ) (first : M) (rest : List M) (outcome : Sent) (now next end : At State)
      → SendsOne Posts manner first outcome now next
      → InTurn Posts manner less (rest ++ brings_of manner first (message_answered outcome) now.state) next end
      → InTurn Posts manner (suc less) (first ∷ rest) now end
  unfolding InTurn
  one_sent less first rest outcome now next end sent p = (outcome, next, sent, p)

  none_sent : (less : ℕ) (now : At State) → InTurn Posts manner (suc less) [] now now
  unfolding InTurn
  none_sent less now = refl

  all_left : (list : List M) (now : At State)
      → InTurn Posts manner zero list now (record now { tally = with_unsent (length list) now.tally })
  unfolding InTurn
  all_left list now = refl

  -- of messages that were all sent the first ones were
  pub whole_first : (limit : ℕ) (list : List M) (at end : At State) → InTurn Posts manner limit list at end
      → FirstInTurn Posts manner limit list at.state at.wire end.wire
  unfolding InTurn FirstInTurn
  whole_first zero list at end is = ap (λ (a : At State). a.wire) is
  whole_first (suc limit) [] at end is = ap (λ (a : At State). a.wire) is
  whole_first (suc limit) (first ∷ rest) at end some =
      let more = rest ++ brings_of manner first (message_answered some.0) at.state in
      inr (
        some.0,
        some.1.wire,
        some.2.told,
        subst (λ s. FirstInTurn Posts manner limit more s some.1.wire end.wire) some.2.state (whole_first limit more some.1 end some.3),
      )

  first_sent : (less : ℕ) (first : M) (rest : List M) (outcome : Sent) (s : State) (wire next now : Option WireState)
      → Posts first (Some outcome) wire next
      → FirstInTurn Posts manner less (rest ++ brings_of manner first (message_answered outcome) s)
      (after_hearing manner first (message_answered outcome) s) next now
      → FirstInTurn Posts manner (suc less) (first ∷ rest) s wire now
  unfolding FirstInTurn
  first_sent less first rest outcome s wire next now sent p = inr (outcome, next, sent, p)

  -- where memory was wanting no further send was made
  module _ (still : (message : M) (wire : Option WireState) → Posts message None wire wire) where
    none_begun : (limit : ℕ) (list : List M) (s : State) (wire : Option WireState)
        → FirstInTurn Posts manner limit list s wire wire
    unfolding FirstInTurn
    none_begun zero list s wire = refl
    none_begun (suc limit) [] s wire = refl
    none_begun (suc limit) (first ∷ rest) s wire = inl (still first wire)

    last_begun : (less : ℕ) (first : M) (rest : List M) (s : State) (wire now : Option WireState)
        → StopsAt (Posts first) wire now → FirstInTurn Posts manner (suc less) (first ∷ rest) s wire now
    unfolding FirstInTurn
    last_begun less first rest s wire now (inl part) = inl part
    last_begun less first rest s wire now (inr whole) =
        inr (
          whole.0,
          now,
          whole.1,
          none_begun less (rest ++ brings_of manner first (message_answered whole.0) s)
              (after_hearing manner first (message_answered whole.0) s) now,
        )

-- ---- by whatever state an end stood for

module _ {Own Beside Identity State M : Type 0} (identity : Own → Identity) (stands : Own → State → Type 0)
    (holds : Own → Beside → State → Type 0) (Posts : Posting M) (manner : Identity → Manner State M) where
  -- Some messages were sent: whatever the rest of the sends comes to is what all of them come to.
  pub record Comes (list : List M) (start now : At Own) (left : ℕ) (queue : List M) : Type 0 where
    pub keeps : identity now.state ≡ identity start.state
    pub comes : (s : State) → stands start.state s → (after : State) × stands now.state after
        × ((beside : Beside) → holds start.state beside s → holds now.state beside after)
        × ((end : At State) → InTurn Posts (manner (identity start.state)) left queue (stood_for now after) end
        → SendsAll Posts (manner (identity start.state)) list (stood_for start s) end)
        × ((wire : Option WireState) → FirstInTurn Posts (manner (identity start.state)) left queue after now.wire wire
        → FirstSends Posts (manner (identity start.state)) list s start.wire wire)

  pub comes_first : (list queue : List M) (start : At Own) → queue ≡ list → Comes list start start most_sends queue
  comes_first list queue start is = subst (λ q. Comes list start start most_sends q) (sym is)
      (record { keeps = refl; comes = λ s so. (s, so, (λ beside h. h), (λ end p. p), (λ wire p. p)) })

  pub comes_next : (list queue later : List M) (start now next : At Own) (left less : ℕ) (first : M) (rest more : List M)
      → Comes list start now left queue → queue ≡ first ∷ rest → left ≡ suc less
      → SendsNext identity stands holds Posts manner first more now next → later ≡ rest ++ more
      → Comes list start next less later
  comes_next list queue later start now next left less first rest more c front one sent joined = record {
    keeps = sent.hears.keeps ∙ c.keeps;
    comes = λ s so.
        let before = c.comes s so in
        let after = before.0 in
        let own = manner (identity start.state) in
        let answered = message_answered sent.outcome in
        let same : manner (identity now.state) ≡ own = ap manner c.keeps in
        let further = after_hearing own first answered after in
        let brought : later ≡ rest ++ brings_of own first answered after =
        joined ∙ ap (λ m. rest ++ m) (sent.hears.more_are after before.1 ∙ ap (λ k. brings_of k first answered after) same) in
        let one_is : SendsOne Posts own first sent.outcome (stood_for now after) (stood_for next further) =
        record { told = sent.told; cause = sent.cause; state = refl; tally = sent.tally } in (
          further,
          subst (λ k. stands next.state (after_hearing k first answered after)) same (sent.hears.stands_for after before.1),
          (λ beside h. subst (λ k. holds next.state beside (after_hearing k first answered after)) same
              (sent.hears.holds_for beside after before.1 (before.2 beside h))),
          (λ end p. before.3 end
              (subst (λ l. InTurn Posts own l queue (stood_for now after) end) (sym one)
              (subst (λ q. InTurn Posts own (suc less) q (stood_for now after) end) (sym front)
              (one_sent Posts own less first rest sent.outcome (stood_for now after) (stood_for next further) end one_is
              (subst (λ q. InTurn Posts own less q (stood_for next further) end) brought p))))),
          (λ wire p. before.4 wire
              (subst (λ l. FirstInTurn Posts own l queue after now.wire wire) (sym one)
              (subst (λ q. FirstInTurn Posts own (suc less) q after now.wire wire) (sym front)
              (first_sent Posts own less first rest sent.outcome after now.wire next.wire wire sent.told
              (subst (λ q. FirstInTurn Posts own less q further next.wire wire) brought p))))),
        );
  }

  -- no message is left
  pub comes_last : (list queue : List M) (start now : At Own) (left less : ℕ) → Comes list start now left queue
      → queue ≡ [] → left ≡ suc less
      → Goes identity stands (λ k. HoldingAny holds (SendsAll Posts (manner k) list) start.state now.state) start now
  comes_last list queue start now left less c none one = record {
    keeps = c.keeps;
    goes = λ s so.
        let before = c.comes s so in
        let own = manner (identity start.state) in
        let end = stood_for now before.0 in (
          before.0,
          before.1,
          (
            before.3 end (subst (λ l. InTurn Posts own l queue end end) (sym one)
                (subst (λ q. InTurn Posts own (suc less) q end end) (sym none) (none_sent Posts own less end))),
            before.2,
          ),
        );
  }

  -- no further message may be sent
  pub comes_full : (list queue : List M) (start now : At Own) (left : ℕ) → Comes list start now left queue → left ≡ 0
      → Goes identity stands (λ k. HoldingAny holds (SendsAll Posts (manner k) list) start.state now.state) start
      (record now { tally = with_unsent (length queue) now.tally })
  comes_full list queue start now left c none = record {
    keeps = c.keeps;
    goes = λ s so.
        let before = c.comes s so in
        let own = manner (identity start.state) in
        let last = stood_for now before.0 in
        let end : At State = record last { tally = with_unsent (length queue) last.tally } in (
          before.0,
          before.1,
          (
            before.3 end (subst (λ l. InTurn Posts own l queue last end) (sym none) (all_left Posts own queue last)),
            before.2,
          ),
        );
  }

  -- memory was wanting in the next send
  pub comes_short : ((message : M) (wire : Option WireState) → Posts message None wire wire)
      → (list queue : List M) (start now : At Own) (left less : ℕ) (first : M) (rest : List M) (end : Option WireState)
      → Comes list start now left queue → queue ≡ first ∷ rest → left ≡ suc less → StopsAt (Posts first) now.wire end
      → (s : State) → stands start.state s → FirstSends Posts (manner (identity start.state)) list s start.wire end
  comes_short still list queue start now left less first rest end c front one stops s so =
      let before = c.comes s so in
      let own = manner (identity start.state) in
      before.4 end
      (subst (λ l. FirstInTurn Posts own l queue before.0 now.wire end) (sym one)
      (subst (λ q. FirstInTurn Posts own (suc less) q before.0 now.wire end) (sym front)
      (last_begun Posts own still less first rest before.0 now.wire end stops)))

  -- memory was wanting after a send
  pub whole_stop : (message : M) (more : List M) (old new : At Own) → SendsNext identity stands holds Posts manner message more old new
      → StopsAt (Posts message) old.wire new.wire
  whole_stop message more old new sent = inr (sent.outcome, sent.told)

-- what is left of an empty queue
pub none_left : {M : Type 0} (queue : List M) → queue ≡ drop 1 queue → queue ≡ []
none_left [] e = refl
none_left (first ∷ rest) e = absurd (omega (arith, ap length e))

-- what holds anyway holds where memory was wanting
pub on_err : {T E : Type 0} (result : Result T E) (P : Type 0) → P → OnErr result P
on_err (Ok value) P p = tt
on_err (Err error) P p = p
