-- A connection is accepted and answered as the one in its place is.
use Rattle.std.proofs.Common.{◌≡◌, ◌++◌, ℕ, suc, Bool, List, [], ◌∷◌, Option, None, Some, option_map, option_to_list, sym, ap, ap₂, ◌∙◌, subst}
use Rattle.siri_outside.specs.Wires.{Connection, Present, TakesComing, WireState, accept_called, hung_up, hung_up_after}
use Rattle.siri_http.specs.Connections.{OnPresent, passing}
use Rattle.siri_http.specs.Requests.{Asks, Meaning}
use Rattle.siri_http.specs.Responses.{Responded, Responds, is_whole}
use Rattle.siri_http.specs.Texts.{response_text}
use Rattle.siri_http.specs.declared.asked.Asked.{Asked}
use Rattle.siri_ends.specs.lite.Replacing.{InPlaceOf}
use Rattle.siri_model.specs.History.{History}
use Rattle.siri_subscriptions.specs.declared.outs.Out.{Out}
use Rattle.siri_ends.specs.declared.response.Response.{Response}
use Rattle.siri_ends.specs.Answering.{AnswersWith}
use Rattle.siri_ends.specs.At.{At, Surroundings, around, surroundings}
use Rattle.siri_ends.specs.Manners.{Manner}
use Rattle.siri_ends.specs.TurnsTaken.{Answers}
use Rattle.siri_laws.specs.lite.Places.{AreInPlaces}
use Rattle.siri_laws.specs.lite.Served.{swapped, with_coming}
use Rattle.siri_laws.proofs.lite.Placed.{Swaps}
use Rattle.siri_laws.proofs.lite.Sends.{moved_at}
use Rattle.siri_laws.proofs.lite.Told.{fresh, told_on, with_present}

-- the wire on which the connection in its place is there
abbrev pub placed : Present → List Connection → WireState → WireState
placed present later wire = with_present present (with_coming later wire)

-- ---- what is answered

-- a connection was answered, and so is the one in its place
pub record AnsweredAlike (response : Option Response) (read mid : Surroundings) (wire : WireState) (other : Present)
    (later : List Connection) : Type 0 where
  pub next : WireState
  pub there : mid.wire ≡ Some next
  pub keeps : next.to_accept ≡ wire.to_accept
  pub answers : AnswersWith response (surroundings read.tally (Some (placed other later wire)) read.faults)
      (surroundings mid.tally (Some (with_coming later next)) mid.faults)

module _ (wire : WireState) (present other : Present) (later : List Connection) (there : wire.present ≡ Some present)
    (same : InPlaceOf present other) where
  hung : with_coming later (hung_up wire) ≡ hung_up (placed other later wire)
  hung = ap (λ more. record (with_coming later wire) { present = None; over = wire.over ++ more })
      (ap (λ (o : Option Present). option_to_list (option_map (λ (p : Present). hung_up_after p.written) o)) there
      ∙ ap (λ written. hung_up_after written ∷ []) (sym same.written))

  responded : (text : List ℕ) (whole : Bool) (next : WireState) → Responded text whole wire.present wire next
      → (next.to_accept ≡ wire.to_accept) × Responded text whole (Some other) (placed other later wire) (with_coming later next)
  responded text whole next told =
      let was : Responded text whole (Some present) wire next = subst (λ o. Responded text whole o wire next) there told in (
        ap (λ (w : WireState). w.to_accept) was.1,
        (
          was.0 ∙ ap (λ fails. is_whole fails text) (sym same.write_fails),
          ap (with_coming later) was.1
              ∙ ap₂ (λ written fails. record (with_coming later wire) { present = None; over = wire.over ++ hung_up_after (written ++ passing fails text) ∷ [] })
              (sym same.written) (sym same.write_fails),
        ),
      )

  pub answered_alike : (response : Option Response) (read mid : Surroundings) → read.wire ≡ Some wire
      → AnswersWith response read mid → AnsweredAlike response read mid wire other later
  answered_alike None read mid is hangs =
      let one = told_on (λ old new. new ≡ hung_up old) read.wire mid.wire wire is hangs.told in
      record {
        next = one.0;
        there = one.1;
        keeps = ap (λ (w : WireState). w.to_accept) one.2;
        answers = record { told = ap (with_coming later) one.2 ∙ hung; later = hangs.later; tally = hangs.tally };
      }
  answered_alike (Some response) read mid is writes =
      let text = response_text response.status response.plain response.body in
      let one = told_on (Responds text (Some writes.whole)) read.wire mid.wire wire is writes.told in
      let told = responded text writes.whole one.0 one.2 in
      record {
        next = one.0;
        there = one.1;
        keeps = told.0;
        answers = record { whole = writes.whole; told = told.1; cause = writes.cause; tally = writes.tally };
      }

-- ---- what is read, and which connection is accepted

module _ (asks other_asks : Meaning) (InPlace : Connection → Connection → Type 0) (swaps : Swaps asks other_asks InPlace) where
  -- a connection was read, and so is the one in its place
  pub record ReadAlike (asked : Asked) (wire next : WireState) (second : Connection) (later : List Connection) : Type 0 where
    pub present : Present
    pub there : next.present ≡ Some present
    pub other : Present
    pub same : InPlaceOf present other
    pub reads : OnPresent (Asks other_asks (Some asked)) (placed (fresh second) later wire) (placed other later next)
    pub keeps : next.to_accept ≡ wire.to_accept

  pub read_alike : (asked : Asked) (wire next : WireState) (first second : Connection) (later : List Connection)
      → InPlace first second → wire.present ≡ Some (fresh first) → OnPresent (Asks asks (Some asked)) wire next
      → ReadAlike asked wire next second later
  read_alike asked wire next first second later place there on =
      let one = told_on (Asks asks (Some asked)) wire.present next.present (fresh first) there on.present in
      let other = swaps first second asked one.0 place one.2 in
      record {
        present = one.0;
        there = one.1;
        other = other.read;
        same = other.same;
        reads = record { present = other.reads; rest = ap (placed other.read later) on.rest };
        keeps = ap (λ (w : WireState). w.to_accept) on.rest;
      }

  -- a connection is accepted, and so is the one in its place
  pub record AcceptsAlike (count : ℕ) (wire next : WireState) (coming : List Connection) : Type 0 where
    pub first : Connection
    pub second : Connection
    pub later : List Connection
    pub place : InPlace first second
    pub there : next.present ≡ Some (fresh first)
    pub rest : AreInPlaces InPlace count next.to_accept later
    pub takes : TakesComing coming (accept_called (with_coming coming wire)) (placed (fresh second) later next)

  pub accepts_alike : (count : ℕ) (wire next : WireState) (list coming : List Connection)
      → AreInPlaces InPlace (suc count) list coming → TakesComing list (accept_called wire) next
      → AcceptsAlike count wire next coming
  accepts_alike count wire next [] coming are takes = absurd takes
  accepts_alike count wire next (first ∷ later) [] are takes = absurd are
  accepts_alike count wire next (first ∷ later) (second ∷ others) are takes = record {
    first = first;
    second = second;
    later = others;
    place = are.0;
    there = ap (λ (w : WireState). w.present) takes;
    rest = subst (λ list. AreInPlaces InPlace count list others) (sym (ap (λ (w : WireState). w.to_accept) takes)) are.1;
    takes = ap (placed (fresh second) others) takes;
  }

  -- ---- the answer of a turn

  pub record AnswerAlike (manner : Manner History Out) (asked : Asked) (at mid : At History) (wire : WireState)
      (second : Connection) (later : List Connection) : Type 0 where
    pub next : WireState
    pub there : mid.wire ≡ Some next
    pub keeps : next.to_accept ≡ wire.to_accept
    pub answers : Answers other_asks manner asked (record at { wire = Some (placed (fresh second) later wire) }) (moved_at later mid)

  pub answer_alike : (manner : Manner History Out) (asked : Asked) (at mid : At History) (wire : WireState)
      (first second : Connection) (later : List Connection) → InPlace first second → at.wire ≡ Some wire
      → wire.present ≡ Some (fresh first) → Answers asks manner asked at mid
      → AnswerAlike manner asked at mid wire second later
  answer_alike manner asked at mid wire first second later place told there answers =
      let response = manner.responds at.state asked in
      let on = told_on (OnPresent (Asks asks (Some asked))) at.wire answers.read.wire wire told answers.reads.told in
      let r = read_alike asked wire on.0 first second later place there on.2 in
      let a = answered_alike on.0 r.present r.other later r.there r.same response answers.read (around mid) on.1 answers.answers in
      let read : Surroundings = surroundings answers.read.tally (Some (placed r.other later on.0)) answers.read.faults in
      record {
        next = a.next;
        there = a.there;
        keeps = a.keeps ∙ r.keeps;
        answers = record {
          read = read;
          reads = record { told = r.reads; cause = answers.reads.cause; tally = answers.reads.tally };
          answers = subst (λ w. AnswersWith response read (surroundings mid.tally w mid.faults))
              (sym (ap (swapped later) a.there)) a.answers;
          state = answers.state;
        };
      }
