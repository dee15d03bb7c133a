-- A turn: a connection is answered, and what comes of it is sent.
use Rattle.std.proofs.Common.{◌≡◌, ◌⊎◌, ℕ, List, Option, None, Some, refl, sym, ◌∙◌, subst, inl, inr}
use Rattle.siri_outside.specs.Wires.{WireState}
use Rattle.siri_http.specs.Connections.{OnConnection}
use Rattle.siri_http.specs.ExchangeCauses.{HasAskedCause}
use Rattle.siri_http.specs.Requests.{Asks, Meaning, StopsAsking, WholeRequest}
use Rattle.siri_http.specs.declared.asked.Asked.{Asked}
use Rattle.siri_http.specs.declared.tally.Tally.{Tally}
use Rattle.siri_ends.specs.declared.response.Response.{Response}
use Rattle.siri_ends.specs.Answering.{AnswersWith, StopsWriting}
use Rattle.siri_ends.specs.At.{At, Goes, Holding, HoldingAny, around, at_of, stood_for, surroundings}
use Rattle.siri_ends.specs.EndCalls.{AnswersAsked, StopsAsked, Turned}
use Rattle.siri_ends.specs.InTurn.{FirstSends, SendsAll, most_sends}
use Rattle.siri_ends.specs.Manners.{Manner, Posting}
use Rattle.siri_ends.specs.TurnsTaken.{Answers, LeavesBeside, StopsTurn, TakesTurn}
use Rattle.siri_ends.proofs.Sends.{whole_first}

module _ {Own Identity State M : Type 0} (identity : Own → Identity) (stands : Own → State → Type 0) (manner : Identity → Manner State M) where
  -- what a connection asks was taken, and its answer written
  pub asked_answered : {R : Type 0} (IsReply : Identity → R → State → Option Response → Type 0) (asked : Asked) (list : List M)
      (reply : R) (old mid new : Own) (was is : Tally) (before after : Option WireState) (earlier later : ℕ)
      → Turned identity stands manner IsReply asked list reply old mid → identity new ≡ identity mid
      → ((s : State) → stands mid s → stands new s)
      → ((s : State) (response : Option Response) → stands mid s → IsReply (identity mid) reply s response
      → AnswersWith response (surroundings was before earlier) (surroundings is after later))
      → AnswersAsked identity stands manner asked list (at_of old was before earlier) (at_of new is after later)
  asked_answered IsReply asked list reply old mid new was is before after earlier later turned same stays writes = record {
    keeps = same ∙ turned.keeps;
    stands_for = λ s so. stays ((manner (identity old)).after s asked) (turned.stands_for s so);
    list_is = turned.messages_are;
    answers = λ s so.
        let last = (manner (identity old)).after s asked in
        let response = (manner (identity old)).responds s asked in
        writes last response (turned.stands_for s so)
        (subst (λ k. IsReply k reply last response) (sym turned.keeps) (turned.reply_is s so));
  }

  -- where memory was wanting while it was written
  pub asked_stopped : {R : Type 0} (IsReply : Identity → R → State → Option Response → Type 0) (asked : Asked) (list : List M)
      (reply : R) (old mid : Own) (before after : Option WireState)
      → Turned identity stands manner IsReply asked list reply old mid
      → ((s : State) (response : Option Response) → stands mid s → IsReply (identity mid) reply s response
      → StopsWriting response before after)
      → (s : State) → stands old s → StopsAsked ((manner (identity old)).responds s asked) before after
  asked_stopped IsReply asked list reply old mid before after turned stops s so =
      let last = (manner (identity old)).after s asked in
      let response = (manner (identity old)).responds s asked in
      inr (stops last response (turned.stands_for s so)
      (subst (λ k. IsReply k reply last response) (sym turned.keeps) (turned.reply_is s so)))

module _ {Own Identity State M : Type 0} (asks : Meaning) (identity : Own → Identity) (stands : Own → State → Type 0)
    (manner : Identity → Manner State M) where
  -- its request was read before
  answers_of : (asked : Asked) (list : List M) (old : Own) (new : At Own) (was : Tally) (before read : Option WireState)
      (earlier between : ℕ) → OnConnection (Asks asks (Some asked)) before read → HasAskedCause earlier between (Some asked)
      → AnswersAsked identity stands manner asked list (at_of old was read between) new
      → (s : State) → stands old s → Answers asks (manner (identity old)) asked (at_of s was before earlier)
      (stood_for new ((manner (identity old)).after s asked))
  answers_of asked list old new was before read earlier between told cause answers s so = record {
    read = surroundings was read between;
    reads = record { told = told; cause = cause; tally = refl };
    answers = answers.answers s so;
    state = refl;
  }

  -- and what comes of it is sent
  pub turn_taken : {Beside : Type 0} (holds : Own → Beside → State → Type 0) (Posts : Posting M) (asked : Asked) (list : List M) (old : Own) (mid new : At Own)
      (x y : Beside) (was : Tally) (before read : Option WireState) (earlier between : ℕ)
      → OnConnection (Asks asks (Some asked)) before read → HasAskedCause earlier between (Some asked)
      → AnswersAsked identity stands manner asked list (at_of old was read between) mid
      → ((s : State) → stands old s → holds old x s → holds mid.state y ((manner (identity old)).after s asked))
      → Goes identity stands (λ k. HoldingAny holds (SendsAll Posts (manner k) list) mid.state new.state) mid new
      → Goes identity stands (λ k. Holding holds (TakesTurn asks Posts (manner k)) old x new.state y) (at_of old was before earlier) new
  turn_taken holds Posts asked list old mid new x y was before read earlier between told cause answers held sends = record {
    keeps = sends.keeps ∙ answers.keeps;
    goes = λ s so.
        let last = (manner (identity old)).after s asked in
        let two = sends.goes last (answers.stands_for s so) in (
          two.0,
          two.1,
          (
            record {
              asked = asked;
              mid = stood_for mid last;
              answers = answers_of asked list old mid was before read earlier between told cause answers s so;
              sends = subst (λ l. SendsAll Posts (manner (identity old)) l (stood_for mid last) (stood_for new two.0))
                  (answers.list_is s so)
                  (subst (λ k. SendsAll Posts (manner k) list (stood_for mid last) (stood_for new two.0)) answers.keeps two.2.0);
            },
            λ h. two.2.1 y (held s so h),
          ),
        );
  }

  -- where memory was wanting in the sends
  pub turn_stopped : (Posts : Posting M) (asked : Asked) (list : List M) (old : Own) (mid : At Own) (was : Tally)
      (before read after : Option WireState) (earlier between : ℕ)
      → OnConnection (Asks asks (Some asked)) before read → HasAskedCause earlier between (Some asked)
      → AnswersAsked identity stands manner asked list (at_of old was read between) mid
      → ((s : State) → stands mid.state s → FirstSends Posts (manner (identity mid.state)) list s mid.wire after)
      → (s : State) → stands old s → StopsTurn asks Posts (manner (identity old)) (at_of s was before earlier) after
  turn_stopped Posts asked list old mid was before read after earlier between told cause answers fails s so =
      let last = (manner (identity old)).after s asked in
      inr (
        asked,
        stood_for mid last,
        answers_of asked list old mid was before read earlier between told cause answers s so,
        subst (λ l. FirstSends Posts (manner (identity old)) l last mid.wire after) (answers.list_is s so)
            (subst (λ k. FirstSends Posts (manner k) list last mid.wire after) answers.keeps
            (fails last (answers.stands_for s so))),
      )

  -- ---- what stands beside it

  module _ (Posts : Posting M) (asked : Asked) (old : Own) (Same : Type 0) (May Has : Asked → Type 0)
      (before read : Option WireState) (told : OnConnection (Asks asks (Some asked)) before read) (may : May asked) where
    -- where it was answered in part
    pub leaves_stopped : (after : Option WireState) → (after ≡ read) ⊎ Has asked
        → ((s : State) → stands old s → StopsAsked ((manner (identity old)).responds s asked) read after)
        → LeavesBeside asks Posts (manner (identity old)) (stands old) Same May Has before after
    leaves_stopped after (inl same) stops = inr (asked, read, told, may, inl same)
    leaves_stopped after (inr has) stops = inr (asked, read, told, may, inr (has, λ s so. inl (stops s so)))

    -- where it was answered, and this was sent of what comes of it, or the first of that
    pub leaves_sent : (list : List M) (mid : At Own) (was : Tally) (between : ℕ) (after : Option WireState) → Has asked
        → AnswersAsked identity stands manner asked list (at_of old was read between) mid
        → ((s : State) → stands mid.state s → FirstSends Posts (manner (identity mid.state)) list s mid.wire after)
        → LeavesBeside asks Posts (manner (identity old)) (stands old) Same May Has before after
    leaves_sent list mid was between after has answers sends = inr (
      asked,
      read,
      told,
      may,
      inr (
        has,
        λ s so.
            let last = (manner (identity old)).after s asked in
            inr (
              surroundings was read between,
              around mid,
              refl,
              answers.answers s so,
              subst (λ l. FirstSends Posts (manner (identity old)) l last mid.wire after) (answers.list_is s so)
                  (subst (λ k. FirstSends Posts (manner k) list last mid.wire after) answers.keeps
                  (sends last (answers.stands_for s so))),
            ),
      ),
    )

  -- what was sent whole was sent at first
  pub sends_first : {Beside : Type 0} (holds : Own → Beside → State → Type 0) (Posts : Posting M) (list : List M) (mid new : At Own)
      → Goes identity stands (λ k. HoldingAny holds (SendsAll Posts (manner k) list) mid.state new.state) mid new
      → (s : State) → stands mid.state s → FirstSends Posts (manner (identity mid.state)) list s mid.wire new.wire
  sends_first holds Posts list mid new goes s so =
      let one = goes.goes s so in
      whole_first Posts (manner (identity mid.state)) most_sends list (stood_for mid s) (stood_for new one.0) one.2.0

-- where its request wasn't read, or what it asks
pub leaves_unread : {State M : Type 0} (asks : Meaning) (takes_memory : WholeRequest → Type 0) (Posts : Posting M) (manner : Manner State M)
    (stands : State → Type 0) (Same : Type 0) (May Has : Asked → Type 0) (before after : Option WireState) → Same
    → StopsAsking asks takes_memory before after → LeavesBeside asks Posts manner stands Same May Has before after
leaves_unread asks takes_memory Posts manner stands Same May Has before after same (inl stops) = inl (same, None, stops)
leaves_unread asks takes_memory Posts manner stands Same May Has before after same (inr whole) =
    inl (same, Some (asks whole.0), whole.2)

-- what a call does beside holding what stands beside an end
pub only_goes : {Own Identity State : Type 0} (identity : Own → Identity) (stands : Own → State → Type 0)
    (Does And : Identity → At State → At State → Type 0) (old new : At Own)
    → Goes identity stands (λ k at end. Does k at end × And k at end) old new → Goes identity stands Does old new
only_goes identity stands Does And old new goes = record {
  keeps = goes.keeps;
  goes = λ s so. let one = goes.goes s so in (one.0, one.1, one.2.0);
}

-- where it was answered in part
pub answer_stopped : {State M : Type 0} (asks : Meaning) (Posts : Posting M) (manner : Manner State M)
    (asked : Asked) (at : At State) (read after : Option WireState) → OnConnection (Asks asks (Some asked)) at.wire read
    → StopsAsked (manner.responds at.state asked) read after → StopsTurn asks Posts manner at after
answer_stopped asks Posts manner asked at read after told stops = inl (inr (asked, read, told, stops))
