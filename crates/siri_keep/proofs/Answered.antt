-- What is written to a connection, and that its message was kept where it is answered with status 200.
use Rattle.std.specs.Prelude.{if◌then◌else◌, codes, slice_get, option_map, option_to_list}
use Rattle.std.proofs.Common.{◌≡◌, ◌+◌, ◌/◌, ℕ, zero, suc, List, [], ◌∷◌, ◌++◌, length, map, take, drop, Bool, true, false, Option, None, Some, Result, Ok, Err, refl, sym, ap, ap₂, ◌∙◌}
use Rattle.std.proofs.Common.{subst, append-nil, append_assoc, inl, inr, arith}
use Rattle.std.proofs.lemmas.List.{length-map, map-append}
use Rattle.siri_outside.specs.OutsideCalls.{WhereTold}
use Rattle.siri_outside.specs.Wires.{Connection, Ending, HungUp, Over, Present, Replaced, WireState, dial_called, hung_up, hung_up_after, over_texts, present_text, texts, with_connection}
use Rattle.siri_tables.specs.Refusals.{Refusal}
use Rattle.siri_http.specs.Connections.{OnConnection, OnPresent, passing}
use Rattle.siri_http.specs.Exchanges.{dialled_of, is_due}
use Rattle.siri_http.specs.Posts.{ByDial, Posts}
use Rattle.siri_http.specs.Requests.{Asks, name_of, post_alone, status_of}
use Rattle.siri_http.specs.Responses.{Responded, Responds, WroteFront, over_after}
use Rattle.siri_http.specs.Texts.{head_text, request_text, response_text}
use Rattle.siri_http.specs.declared.asked.Asked.{Asked}
use Rattle.siri_http.specs.declared.asked.Asked.TheVariants as asked
use Rattle.siri_http.specs.declared.asked.BadRequest.{BadRequest}
use Rattle.siri_http.specs.declared.asked.BadRequest.TheVariants as bad
use Rattle.siri_http.specs.declared.posting.Sent.{Sent}
use Rattle.siri_messages.specs.declared.message.Message.{Message}
use Rattle.siri_model.specs.History.{History}
use Rattle.siri_producer.specs.Known.{StandsFor}
use Rattle.siri_subscriptions.specs.declared.outs.Out.{Out}
use Rattle.siri_wire.specs.Documents.{message_of}
use Rattle.siri_ends.specs.Answering.{AnswersWith, StopsWriting}
use Rattle.siri_ends.specs.At.{Surroundings}
use Rattle.siri_ends.specs.InTurn.{FirstInTurn, most_sends}
use Rattle.siri_ends.specs.Manners.{Manner, after_hearing, brings_of, message_answered}
use Rattle.siri_ends.specs.Responses.{message_asked, message_in, producer_reply, refusing, responding, responding_to, response_to, taking}
use Rattle.siri_ends.specs.Serving.{PostsOut, target_of}
use Rattle.siri_ends.specs.TurnsTaken.{AnswersSome}
use Rattle.siri_ends.specs.declared.response.Response.{Response}
use Rattle.siri_outside.specs.Shelves.{ShelfState}
use Rattle.siri_keeping.specs.Keeps.{Keeps}
use Rattle.siri_keep.specs.declared.kept.Kept.{Kept}
use Rattle.siri_keep.specs.Calls.{AddsFronts, Holds}
use Rattle.siri_keep.specs.KeptTurns.{KeepsOn}
use Rattle.siri_keep.specs.Serving.{AnswersOk, KeepsAnswered, KeepsWhatIsAnswered, has_long_asked, keeping, kept_response, message_kept, row_too_long}
use Rattle.siri_keep.proofs.Told.{told_same, told_weaker}

told_both : {S : Type 0} (P Q R : S → S → Type 0) (x y z : Option S) → ((s t u : S) → P s t → Q t u → R s u)
    → WhereTold x y P → WhereTold y z Q → WhereTold x z R
told_both P Q R None y z f p q = tt
told_both P Q R (Some s) None z f p q = absurd p
told_both P Q R (Some s) (Some t) None f p q = absurd q
told_both P Q R (Some s) (Some t) (Some u) f p q = f s t u p q

-- ---- what was written to connections before stays

pub record Grows (x y : WireState) : Type 0 where
  pub more : List (List ℕ)
  pub are : texts y ≡ texts x ++ more

grows_same : (x : WireState) → Grows x x
grows_same x = record { more = []; are = sym (append-nil (texts x)) }

grows_then : (x y z : WireState) → Grows x y → Grows y z → Grows x z
grows_then x y z first next = record {
  more = first.more ++ next.more;
  are = next.are ∙ ap (λ l. l ++ next.more) first.are ∙ append_assoc (texts x) first.more next.more;
}

-- however the connection that is there ended, what was written to it stays
ended_texts : (ending : Ending) (over : List Over) (present : Option Present)
    → map (λ (over : Over). over.written) (over ++ option_to_list (option_map (λ (p : Present). record { written = p.written; ending = ending }) present))
    ≡ map (λ (over : Over). over.written) over ++ option_to_list (option_map (λ (p : Present). p.written) present)
ended_texts ending over None = map-append (λ (over : Over). over.written) over []
ended_texts ending over (Some present) =
    map-append (λ (over : Over). over.written) over (record { written = present.written; ending = ending } ∷ [])

-- a connection that was dialled is a further one
talk_grows : (host text : List ℕ) (outcome : Sent) (due : Bool) (coming : List Connection) (x y : WireState)
    → ByDial host text outcome (dialled_of due coming host x) x y → Grows x y
talk_grows host text outcome true coming x y by = subst (Grows x) (sym by.1) (record { more = []; are = sym (append-nil (texts x)) })
talk_grows host text outcome false [] x y by = subst (Grows x) (sym by.1) (record { more = []; are = sym (append-nil (texts x)) })
talk_grows host text outcome false (first ∷ later) x y by = subst (Grows x) (sym by.1) (record {
  more = passing first.write_fails text ∷ [];
  are = append-nil _
      ∙ map-append (λ (over : Over). over.written) _ (hung_up_after (passing first.write_fails text) ∷ [])
      ∙ ap (λ l. l ++ passing first.write_fails text ∷ []) (ended_texts Replaced x.over x.present);
})

post_grows : (target : Option (List ℕ × List ℕ)) (body : List ℕ) (outcome : Sent) (x y : WireState)
    → Posts target body (Some outcome) x y → Grows x y
post_grows None body outcome x y posts = subst (Grows x) (sym posts.1) (grows_same x)
post_grows (Some address) body outcome x y posts =
    talk_grows address.0 (request_text address.0 address.1 body) outcome (is_due x.dial_fails) x.to_dial x y posts

stop_grows : (host text : List ℕ) (due : Bool) (coming : List Connection) (x there y : WireState)
    → dialled_of due coming host x ≡ Some there → OnPresent (WroteFront text) there y → Grows x y
stop_grows host text true coming x there y is wrote = absurd (cc is)
stop_grows host text false [] x there y is wrote = absurd (cc is)
stop_grows host text false (first ∷ later) x there y is wrote =
    let same : with_connection first (record (dial_called host x) { to_dial = later }) ≡ there = cc is in
    let over : over_texts there ≡ texts x = ap over_texts (sym same) ∙ ended_texts Replaced x.over x.present in
    record {
      more = present_text y;
      are = ap (λ (w : WireState). over_texts w ++ present_text y) wrote.rest ∙ ap (λ l. l ++ present_text y) over;
    }

stopped_grows : (target : Option (List ℕ × List ℕ)) (body : List ℕ) (x y : WireState) → Posts target body None x y → Grows x y
stopped_grows None body x y is = subst (Grows x) (sym is) (grows_same x)
stopped_grows (Some address) body x y (inl is) = subst (Grows x) (sym is) (grows_same x)
stopped_grows (Some address) body x y (inr stop) =
    stop_grows address.0 (request_text address.0 address.1 body) (is_due x.dial_fails) x.to_dial x stop.there y stop.dialled_is stop.wrote

module _ (manner : Manner History Out) where
  pub first_grows : (limit : ℕ) (list : List Out) (h : History) (before now : Option WireState)
      → FirstInTurn PostsOut manner limit list h before now → WhereTold before now Grows
  unfolding FirstInTurn
  first_grows zero list h before now is = subst (λ w. WhereTold before w Grows) (sym is) (told_same Grows before grows_same)
  first_grows (suc limit) [] h before now is = subst (λ w. WhereTold before w Grows) (sym is) (told_same Grows before grows_same)
  first_grows (suc limit) (first ∷ rest) h before now (inl part) =
      told_weaker (Posts (target_of first.address) _ None) Grows before now (λ x y p. stopped_grows (target_of first.address) _ x y p) part
  first_grows (suc limit) (first ∷ rest) h before now (inr whole) =
      told_both Grows Grows Grows before whole.1 now grows_then
      (told_weaker (Posts (target_of first.address) _ (Some whole.0)) Grows before whole.1
      (λ x y p. post_grows (target_of first.address) _ whole.0 x y p) whole.2)
      (first_grows limit (rest ++ brings_of manner first (message_answered whole.0) h)
      (after_hearing manner first (message_answered whole.0) h) whole.1 now whole.3)

-- ---- what is written to the connection that is there

-- a front of a response, or nothing
abbrev pub IsFrontOf : Option Response → (front back : List ℕ) → Type 0
IsFrontOf None front back = front ≡ []
IsFrontOf (Some r) front back = response_text r.status r.plain r.body ≡ front ++ back

-- so much was written to the connection that was there
pub record Wrote (response : Option Response) (p : Present) (a b : WireState) : Type 0 where
  pub front : List ℕ
  pub back : List ℕ
  pub are : texts b ≡ over_texts a ++ (p.written ++ front) ∷ []
  pub is_front : IsFrontOf response front back

take_drop : (n : ℕ) (text : List ℕ) → text ≡ take n text ++ drop n text
take_drop zero text = refl
take_drop (suc n) [] = refl
take_drop (suc n) (b ∷ text) = ap (λ l. b ∷ l) (take_drop n text)

passing_front : (fails text : List ℕ) → (back : List ℕ) × (text ≡ passing fails text ++ back)
passing_front [] text = ([], sym (append-nil text))
passing_front (before ∷ later) text = (drop before text, take_drop before text)

wrote_by : (r : Response) (whole : Bool) (p : Present) (a b : WireState) (present : Option Present) → present ≡ Some p
    → Responded (response_text r.status r.plain r.body) whole present a b → Wrote (Some r) p a b
wrote_by r whole p a b None is responds = absurd (cc is)
wrote_by r whole p a b (Some q) is responds =
    let text = response_text r.status r.plain r.body in
    let same : q ≡ p = cc is in
    let back = passing_front p.left.write_fails text in
    let over : b ≡ over_after p text a = responds.1 ∙ ap (λ q. over_after q text a) same in
    record {
      front = passing p.left.write_fails text;
      back = back.0;
      are = ap texts over ∙ append-nil _
          ∙ map-append (λ (over : Over). over.written) a.over (hung_up_after (p.written ++ passing p.left.write_fails text) ∷ []);
      is_front = back.1;
    }

wrote_whole : (r : Response) (whole : Bool) (p : Present) (a b : WireState) → a.present ≡ Some p
    → Responds (response_text r.status r.plain r.body) (Some whole) a b → Wrote (Some r) p a b
wrote_whole r whole p a b there responds = wrote_by r whole p a b a.present there responds

wrote_part : (r : Response) (p : Present) (a b : WireState) → a.present ≡ Some p
    → OnPresent (WroteFront (response_text r.status r.plain r.body)) a b → Wrote (Some r) p a b
wrote_part r p a b there wrote = by a.present b.present there refl wrote.present
  where
    text : List ℕ
    text = response_text r.status r.plain r.body

    by : (before after : Option Present) → before ≡ Some p → b.present ≡ after → WhereTold before after (WroteFront text)
        → Wrote (Some r) p a b
    by None after is now told = absurd (cc is)
    by (Some q) None is now told = absurd told
    by (Some q) (Some s) is now told =
        let same : q ≡ p = cc is in
        record {
          front = told.front;
          back = told.rest;
          are = ap (λ (w : WireState). over_texts w ++ option_to_list (option_map (λ present. present.written) b.present)) wrote.rest
              ∙ ap (λ o. over_texts a ++ option_to_list (option_map (λ (present : Present). present.written) o)) now
              ∙ ap (λ t. over_texts a ++ t ∷ []) (told.written ∙ ap (λ (q : Present). q.written ++ told.front) same);
          is_front = told.parts;
        }

wrote_nothing : (p : Present) (a : WireState) → a.present ≡ Some p → (response : Option Response) → response ≡ None → Wrote response p a a
wrote_nothing p a there response none = subst (λ r. Wrote r p a a) (sym none) (record {
  front = [];
  back = [];
  are = ap (λ o. over_texts a ++ option_to_list (option_map (λ (present : Present). present.written) o)) there
      ∙ ap (λ t. over_texts a ++ t ∷ []) (sym (append-nil p.written));
  is_front = refl;
})

-- ---- a response of status 200

abbrev tenth : List ℕ → ℕ
tenth (a ∷ b ∷ c ∷ d ∷ e ∷ f ∷ g ∷ h ∷ i ∷ j ∷ rest) = j
tenth other = 0

-- the first digit of its status is the tenth byte of a response
abbrev IsOk : Response → Type 0
IsOk r = 48 + r.status / 100 ≡ 50

first_digit : (r : Response) → tenth (response_text r.status r.plain r.body) ≡ 48 + r.status / 100
unfolding head_text
first_digit r = refl

begins_ok : (r : Response) (rest back : List ℕ) → response_text r.status r.plain r.body ≡ (codes "HTTP/1.1 200" ++ rest) ++ back → IsOk r
begins_ok r rest back is = sym (first_digit r) ∙ ap tenth is

abbrev value_or : {A : Type 0} → A → Option A → A
value_or other None = other
value_or other (Some value) = value

status_at : (r s : Response) → Some s ≡ Some r → IsOk r → IsOk s
status_at r s is ok = subst IsOk (sym (ap (value_or r) is)) ok

document_ok : (reply : Message → Option Message) (d : Result Message Refusal) (r : Response) → Some (responding_to reply d) ≡ Some r → IsOk r
    → (m : Message) × (message_in d ≡ Some m)
document_ok reply (Ok m) r is ok = (m, refl)
document_ok reply (Err refusal) r is ok =
    let no : 52 ≡ 50 = status_at r (responding_to reply (Err refusal)) is ok in absurd (omega (arith, no))

refused_ok : (why : BadRequest) (r : Response) → Some (refusing (status_of why) (name_of why)) ≡ Some r → IsOk r → ⊥
refused_ok bad.BadHead r is ok = let no : 52 ≡ 50 = status_at r (refusing 400 (name_of bad.BadHead)) is ok in omega (arith, no)
refused_ok bad.HeadTooLong r is ok = let no : 52 ≡ 50 = status_at r (refusing 431 (name_of bad.HeadTooLong)) is ok in omega (arith, no)
refused_ok bad.NoLength r is ok = let no : 52 ≡ 50 = status_at r (refusing 411 (name_of bad.NoLength)) is ok in omega (arith, no)
refused_ok bad.TransferCoding r is ok = let no : 53 ≡ 50 = status_at r (refusing 501 (name_of bad.TransferCoding)) is ok in omega (arith, no)
refused_ok bad.BodyTooLong r is ok = let no : 52 ≡ 50 = status_at r (refusing 413 (name_of bad.BodyTooLong)) is ok in omega (arith, no)
refused_ok bad.NotPost r is ok = let no : 52 ≡ 50 = status_at r (refusing 405 (name_of bad.NotPost)) is ok in omega (arith, no)
refused_ok bad.NoPath r is ok = let no : 52 ≡ 50 = status_at r (refusing 404 (name_of bad.NoPath)) is ok in omega (arith, no)

asked_ok : (reply : Message → Option Message) (a : Asked) (r : Response) → responding reply a ≡ Some r → IsOk r
    → (m : Message) × (message_asked a ≡ Some m)
unfolding responding message_asked
asked_ok reply (asked.Posted body) r is ok = document_ok reply (message_of body) r is ok
asked_ok reply (asked.Refused why) r is ok = absurd (refused_ok why r is ok)
asked_ok reply asked.Short r is ok = absurd (cc is)
asked_ok reply asked.Failed r is ok = absurd (cc is)

-- so it answers a message that is kept
message_ok : (name : List ℕ) (h : History) (a : Asked) (r : Response) → kept_response name h a ≡ Some r → IsOk r
    → (m : Message) × (message_kept a ≡ Some m)
message_ok name h a r is ok = by (has_long_asked a) refl is
  where
    by : (b : Bool) → has_long_asked a ≡ b → (if b then Some row_too_long else response_to name h a) ≡ Some r
        → (m : Message) × (message_kept a ≡ Some m)
    by true long is = let no : 52 ≡ 50 = status_at r row_too_long is ok in absurd (omega (arith, no))
    by false short is =
        let m = asked_ok (producer_reply name h) a r is ok in
        (m.0, ap (λ b. if b then None else message_asked a) short ∙ m.1)

-- ---- what stands at the place of the connection

seam : (xs : List (List ℕ)) (x : List ℕ) (ys : List (List ℕ)) → slice_get ((xs ++ x ∷ []) ++ ys) (length xs) ≡ Some x
seam [] x ys = refl
seam (y ∷ xs) x ys = seam xs x ys

cancel : (xs ys zs : List ℕ) → xs ++ ys ≡ xs ++ zs → ys ≡ zs
cancel [] ys zs is = is
cancel (x ∷ xs) ys zs is = cancel xs ys zs (ap (drop 1) is)

-- the connection that was read is the one that was there
pub record WasRead (p : Present) (x a : WireState) : Type 0 where
  pub present : Present
  pub there : a.present ≡ Some present
  pub written : present.written ≡ p.written
  pub over : a.over ≡ x.over

was_read : (outcome : Option Asked) (p : Present) (x a : WireState) → x.present ≡ Some p → OnPresent (Asks post_alone outcome) x a → WasRead p x a
was_read outcome p x a there reads = by x.present a.present there refl reads.present
  where
    by : (before after : Option Present) → before ≡ Some p → a.present ≡ after → WhereTold before after (Asks post_alone outcome) → WasRead p x a
    by None after is now told = absurd (cc is)
    by (Some q) None is now told = absurd told
    by (Some q) (Some s) is now told =
        let same : q ≡ p = cc is in record {
          present = s;
          there = now;
          written = told.reads.written ∙ ap (λ (q : Present). q.written) same;
          over = ap (λ (w : WireState). w.over) reads.rest;
        }

-- what was written to it begins so
front_is : (response : Option Response) (p : Present) (x a b end : WireState) (read : WasRead p x a) → Wrote response read.present a b
    → Grows b end → (rest : List ℕ) → slice_get (texts end) (length x.over) ≡ Some (p.written ++ (codes "HTTP/1.1 200" ++ rest))
    → (back : List ℕ) × IsFrontOf response (codes "HTTP/1.1 200" ++ rest) back
front_is response p x a b end read wrote grows rest at =
    let all : texts end ≡ (over_texts x ++ (p.written ++ wrote.front) ∷ []) ++ grows.more =
    grows.are ∙ ap (λ l. l ++ grows.more)
    (wrote.are ∙ ap (λ over. map (λ (o : Over). o.written) over ++ (read.present.written ++ wrote.front) ∷ []) read.over
    ∙ ap (λ w. over_texts x ++ (w ++ wrote.front) ∷ []) read.written) in
    let here : Some (p.written ++ wrote.front) ≡ Some (p.written ++ (codes "HTTP/1.1 200" ++ rest)) =
    sym (seam (over_texts x) (p.written ++ wrote.front) grows.more)
    ∙ ap₂ (λ l n. slice_get l n) (sym all) (length-map x.over (λ (over : Over). over.written)) ∙ at in
    let inside : p.written ++ wrote.front ≡ p.written ++ (codes "HTTP/1.1 200" ++ rest) = ap (value_or p.written) here in
    let same : wrote.front ≡ codes "HTTP/1.1 200" ++ rest = cancel p.written wrote.front (codes "HTTP/1.1 200" ++ rest) inside in
    (wrote.back, subst (λ f. IsFrontOf response f wrote.back) same wrote.is_front)

-- no response of status 200 is in nothing
nothing_ok : (rest back : List ℕ) → IsFrontOf None (codes "HTTP/1.1 200" ++ rest) back → ⊥
nothing_ok rest back is = cc is

abbrev Unanswered : WireState → WireState → Type 0
Unanswered x a = AnswersOk x a → ⊥

unanswered_as : (x a : WireState) (ok : AnswersOk x a) → WasRead ok.present x a → ⊥
unanswered_as x a ok read =
    let f = front_is None ok.present x a a a read (wrote_nothing read.present a read.there None refl) (grows_same a) ok.rest ok.text in
    nothing_ok ok.rest f.0 f.1

unanswered : (outcome : Option Asked) (x a : WireState) → OnPresent (Asks post_alone outcome) x a → Unanswered x a
unanswered outcome x a reads ok = unanswered_as x a ok (was_read outcome ok.present x a ok.was reads)

unanswered_same : (x : WireState) → Unanswered x x
unanswered_same x ok = unanswered_as x x ok (record { present = ok.present; there = ok.was; written = refl; over = refl })

-- ---- by what a wire tells, before and after

-- so much was written to the connection that was there
abbrev WroteTold : Option Response → (from to : Option WireState) → Type 0
WroteTold response from to = WhereTold from to (λ a b. (p : Present) → a.present ≡ Some p → Wrote response p a b)

wrote_hung_up : (p : Present) (a b : WireState) → b ≡ hung_up a → a.present ≡ Some p → Wrote None p a b
wrote_hung_up p a b is there = subst (λ b. Wrote None p a b) (sym is) (record {
  front = [];
  back = [];
  are = append-nil _
      ∙ ended_texts HungUp a.over a.present
      ∙ ap (λ o. over_texts a ++ option_to_list (option_map (λ (present : Present). present.written) o)) there
      ∙ ap (λ t. over_texts a ++ t ∷ []) (sym (append-nil p.written));
  is_front = refl;
})

answers_wrote : (response : Option Response) (at mid : Surroundings) → AnswersWith response at mid → WroteTold response at.wire mid.wire
answers_wrote None at mid answers = told_weaker (λ a b. b ≡ hung_up a) (λ a b. (p : Present) → a.present ≡ Some p → Wrote None p a b)
    at.wire mid.wire (λ a b is p there. wrote_hung_up p a b is there) answers.told
answers_wrote (Some r) at mid answers =
    told_weaker (Responds (response_text r.status r.plain r.body) (Some answers.whole)) (λ a b. (p : Present) → a.present ≡ Some p → Wrote (Some r) p a b)
    at.wire mid.wire (λ a b responds p there. wrote_whole r answers.whole p a b there responds) answers.told

stops_wrote : (response : Option Response) (from to : Option WireState) → StopsWriting response from to → WroteTold response from to
stops_wrote None from to stops = absurd stops
stops_wrote (Some r) from to stops =
    told_weaker (OnPresent (WroteFront (response_text r.status r.plain r.body))) (λ a b. (p : Present) → a.present ≡ Some p → Wrote (Some r) p a b)
    from to (λ a b wrote p there. wrote_part r p a b there wrote) stops

-- where nothing was written nothing is answered
unanswered_told : (from to : Option WireState) → WhereTold from to Unanswered → (x y : WireState) → from ≡ Some x → to ≡ Some y
    → AnswersOk x y → ⊥
unanswered_told None to un x y is now ok = cc is
unanswered_told (Some a) None un x y is now ok = un
unanswered_told (Some a) (Some b) un x y is now ok =
    un (subst (λ v. AnswersOk v b) (sym (ap (value_or x) is)) (subst (AnswersOk x) (sym (ap (value_or y) now)) ok))

read_unanswered : (outcome : Option Asked) (from to : Option WireState) → OnConnection (Asks post_alone outcome) from to
    → WhereTold from to Unanswered
read_unanswered outcome from to told =
    told_weaker (OnPresent (Asks post_alone outcome)) Unanswered from to (λ x a reads. unanswered outcome x a reads) told

-- ---- what was answered with status 200 was kept

module _ (old : Kept) (a : Asked) (s t : ShelfState) (keeps : KeepsOn old (taking (message_kept a)) s.rows t.rows) where
  abbrev name : List ℕ
  name = old.producer.responder.name

  kept_by : (x : WireState) (read : Option WireState) (h : History) → OnConnection (Asks post_alone (Some a)) (Some x) read
      → Holds old s.rows h → (m : Message) → message_kept a ≡ Some m → KeepsAnswered name x t.rows h
  kept_by x read h told holds m is = record {
    asked = a;
    read = read;
    reads = told;
    message = m;
    message_is = is;
    keeps = subst (λ o. Keeps name t.rows (h ++ taking o)) is (keeps h holds);
  }

  by_response : (x b : WireState) (h : History) (rest : List ℕ) → OnPresent (Asks post_alone (Some a)) x b → Holds old s.rows h
      → (response : Option Response) → kept_response name h a ≡ response → (back : List ℕ)
      → IsFrontOf response (codes "HTTP/1.1 200" ++ rest) back → KeepsAnswered name x t.rows h
  by_response x b h rest reads holds None is back front = absurd (nothing_ok rest back front)
  by_response x b h rest reads holds (Some r) is back front =
      let m = message_ok name h a r is (begins_ok r rest back front) in
      kept_by x (Some b) h reads holds m.0 m.1

  answered_on : (x b c end : WireState) (h : History) → OnPresent (Asks post_alone (Some a)) x b → Holds old s.rows h
      → ((p : Present) → b.present ≡ Some p → Wrote (kept_response name h a) p b c) → Grows c end → AnswersOk x end
      → KeepsAnswered name x t.rows h
  answered_on x b c end h reads holds wrote grows ok =
      let read = was_read (Some a) ok.present x b ok.was reads in
      let f = front_is (kept_response name h a) ok.present x b c end read (wrote read.present read.there) grows ok.rest ok.text in
      by_response x b h ok.rest reads holds (kept_response name h a) refl f.0 f.1

  pub answered_at : (from read written to : Option WireState) (h : History) → OnConnection (Asks post_alone (Some a)) from read
      → Holds old s.rows h → WroteTold (kept_response name h a) read written → WhereTold written to Grows
      → (x y : WireState) → from ≡ Some x → to ≡ Some y → AnswersOk x y → KeepsAnswered name x t.rows h
  answered_at None read written to h told holds wrote grows x y is now ok = absurd (cc is)
  answered_at (Some x0) None written to h told holds wrote grows x y is now ok = absurd told
  answered_at (Some x0) (Some b) None to h told holds wrote grows x y is now ok = absurd wrote
  answered_at (Some x0) (Some b) (Some c) None h told holds wrote grows x y is now ok = absurd grows
  answered_at (Some x0) (Some b) (Some c) (Some end) h told holds wrote grows x y is now ok =
      let first : x0 ≡ x = ap (value_or x) is in
      let last : end ≡ y = ap (value_or y) now in
      subst (λ v. KeepsAnswered name v t.rows h) first
      (answered_on x0 b c end h told holds wrote grows
      (subst (λ v. AnswersOk v end) (sym first) (subst (AnswersOk x) (sym last) ok)))

-- ---- as it is told, of the shelf too

-- where reading ended the turn
pub told_unread : (old : Kept) (x : Option ShelfState) (from to : Option WireState) (outcome : Option Asked)
    → OnConnection (Asks post_alone outcome) from to → WhereTold x x (KeepsWhatIsAnswered old from to)
told_unread old x from to outcome told = told_same (KeepsWhatIsAnswered old from to) x
    (λ s a b is now ok. absurd (unanswered_told from to (read_unanswered outcome from to told) a b is now ok))

-- a wire to which nothing was written answered nothing
pub not_answered : (wire : Option WireState) (a b : WireState) → wire ≡ Some a → wire ≡ Some b → AnswersOk a b → ⊥
not_answered wire a b is now ok = unanswered_told wire wire (told_same Unanswered wire unanswered_same) a b is now ok

-- where nothing was done
pub told_closed : (old : Kept) (x : Option ShelfState) (wire : Option WireState) → WhereTold x x (KeepsWhatIsAnswered old wire wire)
told_closed old x wire = told_same (KeepsWhatIsAnswered old wire wire) x
    (λ s a b is now ok. absurd (unanswered_told wire wire (told_same Unanswered wire unanswered_same) a b is now ok))

module _ (old : Kept) (a : Asked) (x y : Option ShelfState) (from read written : Option WireState)
    (told : OnConnection (Asks post_alone (Some a)) from read) where
  abbrev Keeps_ : ShelfState → ShelfState → Type 0
  Keeps_ s t = KeepsOn old (taking (message_kept a)) s.rows t.rows

  unwritten : (s t : ShelfState) → written ≡ read → KeepsWhatIsAnswered old from written s t
  unwritten s t same = λ b c is now ok.
      absurd (unanswered_told from read (read_unanswered (Some a) from read told) b c is (sym same ∙ now) ok)

  -- where nothing was answered
  pub told_unanswered : written ≡ read → WhereTold x y (AddsFronts old (taking (message_kept a)))
      → WhereTold x y (KeepsWhatIsAnswered old from written)
  told_unanswered same adds = told_weaker (AddsFronts old (taking (message_kept a))) (KeepsWhatIsAnswered old from written) x y
      (λ s t some. unwritten s t same) adds

  -- where it was answered, in part or whole
  pub told_answered : WhereTold x y Keeps_
      → ((h : History) → StandsFor old.producer h → AnswersSome PostsOut (keeping old.producer.responder.name) a h read written)
      → WhereTold x y (KeepsWhatIsAnswered old from written)
  told_answered keeps some = told_weaker Keeps_ (KeepsWhatIsAnswered old from written) x y
      (λ s t k b c is now ok h holds. by s t k b c is now ok h holds (some h holds.stands)) keeps
    where
      name : List ℕ
      name = old.producer.responder.name

      by : (s t : ShelfState) → Keeps_ s t → (b c : WireState) → from ≡ Some b → written ≡ Some c → AnswersOk b c → (h : History)
          → Holds old s.rows h → AnswersSome PostsOut (keeping name) a h read written → KeepsAnswered name b t.rows h
      by s t k b c is now ok h holds (inl (inl same)) = unwritten s t same b c is now ok h holds
      by s t k b c is now ok h holds (inl (inr stop)) =
          answered_at old a s t k from read written written h told holds (stops_wrote (kept_response name h a) read written stop)
          (told_same Grows written grows_same) b c is now ok
      by s t k b c is now ok h holds (inr some) =
          answered_at old a s t k from read some.1.wire written h told holds
          (subst (λ w. WroteTold (kept_response name h a) w some.1.wire) some.2 (answers_wrote (kept_response name h a) some.0 some.1 some.3))
          (first_grows (keeping name) most_sends ((keeping name).sends h a) ((keeping name).after h a) some.1.wire written some.4) b c is now ok
