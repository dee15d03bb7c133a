-- Where memory was wanting in a turn, a turn of the connection in its place may stop alike.
use Rattle.std.proofs.Common.{◌≡◌, ◌-◌, ◌⊎◌, ◌++◌, inl, inr, ℕ, List, [], ◌∷◌, Option, None, Some, Err, option_map, option_to_list, refl, sym, ap, ◌∙◌, arith}
use Rattle.siri_outside.specs.Failures.{Passes}
use Rattle.siri_outside.specs.OutsideCalls.{WhereTold}
use Rattle.siri_outside.specs.Wires.{Connection, Present, WireState, over_texts}
use Rattle.siri_http.specs.declared.errors.HttpError.TheVariants as http
use Rattle.siri_http.specs.Connections.{OnConnection, OnPresent}
use Rattle.siri_http.specs.Requests.{Asks, Meaning}
use Rattle.siri_http.specs.Responses.{Responds, WroteFront}
use Rattle.siri_http.specs.Texts.{response_text}
use Rattle.siri_http.specs.declared.asked.Asked.{Asked}
use Rattle.siri_ends.specs.lite.Replacing.{InPlaceOf}
use Rattle.siri_model.specs.History.{History}
use Rattle.siri_ends.specs.declared.response.Response.{Response}
use Rattle.siri_ends.specs.Answering.{StopsWriting}
use Rattle.siri_ends.specs.At.{At}
use Rattle.siri_ends.specs.InTurn.{most_sends}
use Rattle.siri_ends.specs.Serving.{ServesSome, serving}
use Rattle.siri_laws.specs.lite.Served.{AreAlike, swapped}
use Rattle.siri_laws.proofs.lite.Answered.{answer_alike, placed, read_alike}
use Rattle.siri_laws.proofs.lite.Placed.{Swaps}
use Rattle.siri_laws.proofs.lite.Sends.{first_same}
use Rattle.siri_laws.proofs.lite.Told.{fresh, moved_alike, placed_alike, told_alike, told_on}

-- ---- nothing was read yet

none_passes : (fails : List ℕ) → Passes fails fails 0
none_passes [] = refl
none_passes (before ∷ later) =
    let same : before ≡ before - 0 = omega arith in
    (omega arith, ap (λ b. b ∷ later) same)

-- want of memory may come before anything is read
unread : (asks : Meaning) (present : Present) → Asks asks None present present
unread asks present = record {
  request = Err http.OutOfMemory;
  reads = record {
    taken = [];
    input = refl;
    reach = omega arith;
    fails = none_passes present.left.read_fails;
    unwritten = refl;
    written = refl;
    brings = tt;
    decided = tt;
  };
  asked_is = refl;
}

-- ---- a front of the answer was written

record WritesAlike (response : Option Response) (read : WireState) (after : Option WireState) (other : Present)
    (later : List Connection) : Type 0 where
  last : WireState
  stops : StopsWriting response (Some (placed other later read)) (Some last)
  alike : WhereTold after (Some last) AreAlike

writes_alike : (response : Option Response) (read : WireState) (before after : Option WireState) (present other : Present)
    (later : List Connection) → before ≡ Some read → read.present ≡ Some present → InPlaceOf present other
    → StopsWriting response before after → WritesAlike response read after other later
writes_alike None read before after present other later is there same stops = absurd stops
writes_alike (Some response) read before after present other later is there same stops =
    let text = response_text response.status response.plain response.body in
    let on = told_on (Responds text None) before after read is stops in
    let one = told_on (WroteFront text) read.present on.0.present present there on.2.present in
    let end : Present = record other { written = other.written ++ one.2.front } in
    record {
      last = placed end later on.0;
      stops = record {
        present = record { front = one.2.front; rest = one.2.rest; parts = one.2.parts; written = refl };
        rest = ap (placed end later) on.2.rest;
      };
      alike = told_alike after on.0 (placed end later on.0) on.1
          (placed_alike on.0 one.0 end later one.1 (ap (λ w. w ++ one.2.front) same.written ∙ sym one.2.written));
    }

-- ---- a turn

module _ (asks other_asks : Meaning) (InPlace : Connection → Connection → Type 0) (swaps : Swaps asks other_asks InPlace) where
  pub record StopsAlike (name : List ℕ) (at : At History) (wire : WireState) (after : Option WireState) (second : Connection)
      (later : List Connection) : Type 0 where
    pub last : Option WireState
    pub stops : ServesSome other_asks name (record at { wire = Some (placed (fresh second) later wire) }) last
    pub alike : WhereTold after last AreAlike

  module _ (name : List ℕ) (at : At History) (wire : WireState) (after : Option WireState) (first second : Connection)
      (later : List Connection) (place : InPlace first second) (told : at.wire ≡ Some wire)
      (there : wire.present ≡ Some (fresh first)) where
    -- in reading
    reading : OnConnection (Asks asks None) at.wire after → StopsAlike name at wire after second later
    reading reads =
        let on = told_on (OnPresent (Asks asks None)) at.wire after wire told reads in
        let one = told_on (Asks asks None) wire.present on.0.present (fresh first) there on.2.present in
        let end = placed (fresh second) later wire in
        record {
          last = Some end;
          stops = inl (inl (record { present = unread other_asks (fresh second); rest = refl }));
          alike = told_alike after on.0 end on.1 (record {
            rest = sym (ap (placed (fresh second) later) on.2.rest);
            written = ap (λ over. over ++ [] ∷ []) (sym (ap over_texts on.2.rest))
                ∙ ap (λ written. over_texts on.0 ++ written ∷ []) (sym one.2.reads.written)
                ∙ ap (λ (o : Option Present). over_texts on.0 ++ option_to_list (option_map (λ (p : Present). p.written) o)) (sym one.1);
          });
        }

    -- in answering
    answering : (asked : Asked) (read : Option WireState) → OnConnection (Asks asks (Some asked)) at.wire read
        → (after ≡ read) ⊎ StopsWriting ((serving name).responds at.state asked) read after → StopsAlike name at wire after second later
    answering asked read reads (inl same) =
        let on = told_on (OnPresent (Asks asks (Some asked))) at.wire read wire told reads in
        let r = read_alike asks other_asks InPlace swaps asked wire on.0 first second later place there on.2 in
        let end = placed r.other later on.0 in
        record {
          last = Some end;
          stops = inl (inr (asked, Some end, r.reads, inl refl));
          alike = told_alike after on.0 end (same ∙ on.1) (placed_alike on.0 r.present r.other later r.there r.same.written);
        }
    answering asked read reads (inr stops) =
        let on = told_on (OnPresent (Asks asks (Some asked))) at.wire read wire told reads in
        let r = read_alike asks other_asks InPlace swaps asked wire on.0 first second later place there on.2 in
        let w = writes_alike ((serving name).responds at.state asked) on.0 read after r.present r.other later on.1 r.there r.same stops in
        record {
          last = Some w.last;
          stops = inl (inr (asked, Some (placed r.other later on.0), r.reads, inr w.stops));
          alike = w.alike;
        }

    pub stops_alike : ServesSome asks name at after → StopsAlike name at wire after second later
    stops_alike (inl (inl reads)) = reading reads
    stops_alike (inl (inr some)) = answering some.0 some.1 some.2 some.3
    stops_alike (inr some) =
        let a = answer_alike asks other_asks InPlace swaps (serving name) some.0 at some.1 wire first second later place told there some.2 in
        record {
          last = swapped later after;
          stops = inr (
            some.0,
            record some.1 { wire = swapped later some.1.wire },
            a.answers,
            first_same later (serving name) most_sends ((serving name).sends at.state some.0) some.1.state some.1.wire after some.3,
          );
          alike = moved_alike later after;
        }
