-- What a turn hangs up.
use Rattle.std.specs.Prelude.{option_map, option_to_list}
use Rattle.std.proofs.Common.{◌≡◌, ℕ, zero, suc, Bool, true, false, List, [], ◌∷◌, ◌++◌, Option, None, Some, refl, sym, ap, ◌∙◌, subst, append-nil, append_assoc}
use Rattle.std.proofs.lemmas.List.Elements.{All-nil, All-cons, All-append}
use Rattle.siri_outside.specs.OutsideCalls.{WhereTold}
use Rattle.siri_outside.specs.Wires.{Connection, Present, Replaced, WireState, dial_called, hung_up, hung_up_after}
use Rattle.siri_http.specs.Connections.{OnPresent, passing}
use Rattle.siri_http.specs.Exchanges.{dialled_of, is_due}
use Rattle.siri_http.specs.Posts.{ByDial, Posts, PostsTo}
use Rattle.siri_http.specs.Requests.{Asks, Meaning}
use Rattle.siri_http.specs.Responses.{Responded, Responds}
use Rattle.siri_http.specs.Texts.{request_text, response_text}
use Rattle.siri_http.specs.declared.asked.Asked.{Asked}
use Rattle.siri_http.specs.declared.posting.Sent.{Sent}
use Rattle.siri_ends.specs.declared.response.Response.{Response}
use Rattle.siri_ends.specs.Answering.{AnswersWith}
use Rattle.siri_ends.specs.At.{At, Surroundings, around}
use Rattle.siri_ends.specs.HangingUp.{HangsUpEach, HangsUpFirst, HangsUpInTurn, WasHungUp}
use Rattle.siri_ends.specs.InTurn.{InTurn, most_sends}
use Rattle.siri_ends.specs.Manners.{Manner, Posting, brings_of, message_answered}
use Rattle.siri_ends.specs.TurnsTaken.{TakesTurn}

-- ---- what is told

told_next : {S : Type 0} (Does : S → S → Type 0) (old : S) (now : Option S) → WhereTold (Some old) now Does
    → (new : S) × (now ≡ Some new) × Does old new
told_next Does old None told = absurd told
told_next Does old (Some new) told = (new, refl, told)

told_from : {S : Type 0} (Does : S → S → Type 0) (was now : Option S) (old : S) → was ≡ Some old → WhereTold was now Does
    → (new : S) × (now ≡ Some new) × Does old new
told_from Does was now old is told = told_next Does old now (subst (λ o. WhereTold o now Does) is told)

-- ---- a message that is posted where no connection is there

none_more : (old : WireState) → old.present ≡ None → HangsUpEach old old
none_more old none = record { more = []; over = sym (append-nil old.over); hung_up = All-nil WasHungUp; none = none }

named_more : (host : List ℕ) (old : WireState) → old.present ≡ None → HangsUpEach old (dial_called host old)
named_more host old none = record { more = []; over = sym (append-nil old.over); hung_up = All-nil WasHungUp; none = none }

each_then : (x y z : WireState) → HangsUpEach x y → HangsUpEach y z → HangsUpEach x z
each_then x y z first next = record {
  more = first.more ++ next.more;
  over = next.over ∙ ap (λ l. l ++ next.more) first.over ∙ append_assoc x.over first.more next.more;
  hung_up = All-append WasHungUp first.more next.more first.hung_up next.hung_up;
  none = next.none;
}

dialled_each : (host text : List ℕ) (outcome : Sent) (due : Bool) (coming : List Connection) (old new : WireState) → old.present ≡ None
    → ByDial host text outcome (dialled_of due coming host old) old new → HangsUpEach old new
dialled_each host text outcome true coming old new none by = subst (HangsUpEach old) (sym by.1) (named_more host old none)
dialled_each host text outcome false [] old new none by = subst (HangsUpEach old) (sym by.1) (named_more host old none)
dialled_each host text outcome false (first ∷ later) old new none by = subst (HangsUpEach old) (sym by.1) (record {
  more = hung_up_after (passing first.write_fails text) ∷ [];
  over = ap (λ (o : Option Present). (old.over ++ option_to_list (option_map (λ present. record { written = present.written; ending = Replaced }) o))
      ++ hung_up_after (passing first.write_fails text) ∷ []) none
      ∙ ap (λ l. l ++ hung_up_after (passing first.write_fails text) ∷ []) (append-nil old.over);
  hung_up = All-cons WasHungUp (hung_up_after (passing first.write_fails text)) [] refl (All-nil WasHungUp);
  none = refl;
})

-- such a message hangs up whatever it dials
abbrev pub PostsHangUp : {M : Type 0} → Posting M → Type 0
PostsHangUp {M = M} Posts = (message : M) (outcome : Sent) (old : WireState) (now : Option WireState) → old.present ≡ None
    → Posts message (Some outcome) (Some old) now → WhereTold (Some old) now HangsUpEach

pub post_to_each : (host text : List ℕ) (outcome : Sent) (old : WireState) (now : Option WireState) → old.present ≡ None
    → WhereTold (Some old) now (PostsTo host text (Some outcome)) → WhereTold (Some old) now HangsUpEach
post_to_each host text outcome old None none told = absurd told
post_to_each host text outcome old (Some new) none told = dialled_each host text outcome (is_due old.dial_fails) old.to_dial old new none told

pub post_each : (target : Option (List ℕ × List ℕ)) (body : List ℕ) (outcome : Sent) (old : WireState) (now : Option WireState)
    → old.present ≡ None → WhereTold (Some old) now (Posts target body (Some outcome)) → WhereTold (Some old) now HangsUpEach
post_each target body outcome old None none told = absurd told
post_each None body outcome old (Some new) none told = subst (HangsUpEach old) (sym told.1) (none_more old none)
post_each (Some address) body outcome old (Some new) none told =
    post_to_each address.0 (request_text address.0 address.1 body) outcome old (Some new) none told

-- ---- the connection that is answered

-- the connection that was there is hung up, and none is there
pub record Ends (present : Present) (old new : WireState) : Type 0 where
  pub front : List ℕ
  pub over : new.over ≡ old.over ++ hung_up_after (present.written ++ front) ∷ []
  pub none : new.present ≡ None

-- the connection that was read is the one that was there
pub record WasRead (present : Present) (old new : WireState) : Type 0 where
  pub still : Present
  pub there : new.present ≡ Some still
  pub written : still.written ≡ present.written
  pub over : new.over ≡ old.over

was_read : (asks : Meaning) (asked : Asked) (present : Present) (old new : WireState) → old.present ≡ Some present
    → OnPresent (Asks asks (Some asked)) old new → WasRead present old new
was_read asks asked present old new there reads =
    let still = told_from (Asks asks (Some asked)) old.present new.present present there reads.present in
    record {
      still = still.0;
      there = still.1;
      written = still.2.reads.written;
      over = ap (λ (w : WireState). w.over) reads.rest;
    }

hung_up_ends : (present : Present) (old new : WireState) → old.present ≡ Some present → new ≡ hung_up old → Ends present old new
hung_up_ends present old new there is = subst (Ends present old) (sym is) (record {
  front = [];
  over = ap (λ (o : Option Present). old.over ++ option_to_list (option_map (λ (p : Present). hung_up_after p.written) o)) there
      ∙ ap (λ written. old.over ++ hung_up_after written ∷ []) (sym (append-nil present.written));
  none = refl;
})

responded_ends : (text : List ℕ) (whole : Bool) (present : Present) (old new : WireState) → old.present ≡ Some present
    → Responds text (Some whole) old new → Ends present old new
responded_ends text whole present old new there responds =
    let told : Responded text whole (Some present) old new = subst (λ o. Responded text whole o old new) there responds in
    subst (Ends present old) (sym told.1) (record { front = passing present.left.write_fails text; over = refl; none = refl })

answered_ends : (response : Option Response) (present : Present) (read mid : Surroundings) (old : WireState) → read.wire ≡ Some old
    → old.present ≡ Some present → AnswersWith response read mid → (new : WireState) × (mid.wire ≡ Some new) × Ends present old new
answered_ends None present read mid old is there answers =
    let told = told_from (λ old new. new ≡ hung_up old) read.wire mid.wire old is answers.told in
    (told.0, told.1, hung_up_ends present old told.0 there told.2)
answered_ends (Some response) present read mid old is there answers =
    let text = response_text response.status response.plain response.body in
    let told = told_from (Responds text (Some answers.whole)) read.wire mid.wire old is answers.told in
    (told.0, told.1, responded_ends text answers.whole present old told.0 there told.2)

ends_since : (present : Present) (x y z : WireState) (read : WasRead present x y) → Ends read.still y z → Ends present x z
ends_since present x y z read ends = record {
  front = ends.front;
  over = ends.over ∙ ap (λ over. over ++ hung_up_after (read.still.written ++ ends.front) ∷ []) read.over
      ∙ ap (λ written. x.over ++ hung_up_after (written ++ ends.front) ∷ []) read.written;
  none = ends.none;
}

first_then : (present : Present) (x y z : WireState) → Ends present x y → HangsUpEach y z → HangsUpFirst present x z
first_then present x y z first next = record {
  front = first.front;
  more = next.more;
  over = next.over ∙ ap (λ l. l ++ next.more) first.over
      ∙ append_assoc x.over (hung_up_after (present.written ++ first.front) ∷ []) next.more;
  hung_up = next.hung_up;
  none = next.none;
}

-- ---- a turn

module _ {State M : Type 0} (Posts : Posting M) (manner : Manner State M) (hangs : PostsHangUp Posts) where
  sends_each : (limit : ℕ) (list : List M) (at end : At State) (old : WireState) → at.wire ≡ Some old → old.present ≡ None
      → InTurn Posts manner limit list at end → (new : WireState) × (end.wire ≡ Some new) × HangsUpEach old new
  unfolding InTurn
  sends_each zero list at end old is none sends = (old, ap (λ (a : At State). a.wire) sends ∙ is, none_more old none)
  sends_each (suc limit) [] at end old is none sends = (old, ap (λ (a : At State). a.wire) sends ∙ is, none_more old none)
  sends_each (suc limit) (first ∷ rest) at end old is none sends =
      let next = sends.1 in
      let posted : Posts first (Some sends.0) (Some old) next.wire = subst (λ w. Posts first (Some sends.0) w next.wire) is sends.2.told in
      let one = told_next HangsUpEach old next.wire (hangs first sends.0 old next.wire none posted) in
      let later = sends_each limit (rest ++ brings_of manner first (message_answered sends.0) at.state) next end one.0 one.1 one.2.none
      sends.3 in
      (later.0, later.1, each_then old one.0 later.0 one.2 later.2)

  pub turn_hangs_up : (asks : Meaning) (at end : At State) → TakesTurn asks Posts manner at end → HangsUpInTurn at end
  turn_hangs_up asks at end turn old present is there =
      let read = told_from (OnPresent (Asks asks (Some turn.asked))) at.wire turn.answers.read.wire old is turn.answers.reads.told in
      let was = was_read asks turn.asked present old read.0 there read.2 in
      let mid = answered_ends (manner.responds at.state turn.asked) was.still turn.answers.read (around turn.mid) read.0 read.1 was.there
      turn.answers.answers in
      let sent = sends_each most_sends (manner.sends at.state turn.asked) turn.mid end mid.0 mid.1 mid.2.none turn.sends in
      let first = first_then present old mid.0 sent.0 (ends_since present old read.0 mid.0 was mid.2) sent.2 in
      subst (λ w. WhereTold w end.wire (HangsUpFirst present)) (sym is)
      (subst (λ w. WhereTold (Some old) w (HangsUpFirst present)) (sym sent.1) first)
