-- What is so of the log of a running end: the end's state is a fold of it, each message that it took was brought, and each that it said
-- was written.
use Rattle.std.proofs.Common.{◌≡◌, ◌⊎◌, inl, inr, ℕ, zero, suc, Bool, true, false, List, [], ◌∷◌, ◌++◌, take, drop, Option, None, Some}
use Rattle.std.proofs.Common.{Result, Ok, Err, refl, sym, ap, ◌∙◌, subst, append-nil, append_assoc}
use Rattle.std.specs.Prelude.{fold, All, Contains, slice_get, option_map, option_to_list}
use Rattle.std.proofs.lemmas.List.Elements.{All-nil, All-cons, All-append, All-weaker, Contains-append_left, Contains-append_right, Contains-push}
use Rattle.siri_outside.specs.OutsideCalls.{WhereTold}
use Rattle.siri_outside.specs.Wires.{Accepts, Connection, Over, Present, Replaced, TakesComing, WireState, accept_called, dial_called, hung_up}
use Rattle.siri_outside.specs.Wires.{hung_up_after, with_connection}
use Rattle.siri_life.proofs.Lists.{get_end, get_front}
use Rattle.siri_tables.specs.Refusals.{Refusal}
use Rattle.siri_messages.specs.declared.message.Message.{Message}
use Rattle.siri_wire.specs.Canonical.{canonical}
use Rattle.siri_wire.specs.Documents.{message_of}
use Rattle.siri_http.specs.Connections.{OnPresent, passing}
use Rattle.siri_http.specs.Messages.{Brings, IsRequest, UnlessMemory}
use Rattle.siri_http.specs.Exchanges.{dialled_of, is_due}
use Rattle.siri_http.specs.Posts.{AnswersIf, ByDial, Posts}
use Rattle.siri_http.specs.Requests.{Asks, Meaning, Request, asked_of}
use Rattle.siri_http.specs.Responses.{Responded, Responds, is_whole}
use Rattle.siri_http.specs.Texts.{request_text, response_text}
use Rattle.siri_http.specs.declared.asked.Asked.{Asked}
use Rattle.siri_http.specs.declared.asked.Asked.TheVariants as asked
use Rattle.siri_http.specs.declared.errors.HttpError.TheVariants as http
use Rattle.siri_http.specs.declared.posting.Sent.{Sent}
use Rattle.siri_http.specs.declared.posting.Sent.TheVariants as sent
use Rattle.siri_http.specs.declared.tally.Tally.{Tally}
use Rattle.siri_ends.specs.declared.response.Response.{Response}
use Rattle.siri_ends.specs.Answering.{AnswersWith}
use Rattle.siri_ends.specs.At.{At, Surroundings, around}
use Rattle.siri_ends.specs.InTurn.{InTurn, most_sends}
use Rattle.siri_ends.specs.Manners.{after_hearing, brings_of, message_answered}
use Rattle.siri_ends.specs.Responses.{message_asked, message_in, reply_body, replying, responding, responding_to}
use Rattle.siri_runs.specs.Turns.{Running, Turn, Turns}
use Rattle.siri_laws.specs.two_ends.Logs.{Accepted, Asked as AskedFor, Began, Dialled, Done, Given, Said, Settled, Speaking, Took, came, came_at, dialled_for, exchange, heard}
use Rattle.siri_laws.specs.two_ends.Logs.{hears_if, of_sends, of_turn, of_turns, place, place_of, posts, replied, said, settled, takes}
use Rattle.siri_laws.specs.two_ends.Logs as logs
use Rattle.siri_laws.specs.two_ends.Truth.{BeginsWith, BringsInRequest, BringsInResponse, IsNoMessage, IsOf, IsSaid, IsSpokenTo, IsTaken}

-- ---- folds, and what is told

fold_then : {A S : Type 0} (f : S → A → S) (s : S) (xs ys : List A) → fold f s (xs ++ ys) ≡ fold f (fold f s xs) ys
fold_then f s [] ys = refl
fold_then f s (x ∷ xs) ys = fold_then f (f s x) xs ys

told_next : {S : Type 0} (Does : S → S → Type 0) (old : S) (now : Option S) → WhereTold (Some old) now Does
    → (new : S) × (now ≡ Some new) × Does old new
told_next Does old None told = absurd told
told_next Does old (Some new) told = (new, refl, told)

pub told_from : {S : Type 0} (Does : S → S → Type 0) (was now : Option S) (old : S) → was ≡ Some old → WhereTold was now Does
    → (new : S) × (now ≡ Some new) × Does old new
told_from Does was now old is told = told_next Does old now (subst (λ o. WhereTold o now Does) is told)

-- ---- texts that begin so

pub take_drop : (n : ℕ) (text : List ℕ) → text ≡ take n text ++ drop n text
take_drop zero text = refl
take_drop (suc n) [] = refl
take_drop (suc n) (byte ∷ text) = ap (λ rest. byte ∷ rest) (take_drop n text)

passes : (fails text : List ℕ) → BeginsWith text (passing fails text)
passes [] text = record { rest = []; parts = sym (append-nil text) }
passes (before ∷ later) text = record { rest = drop before text; parts = take_drop before text }

-- ---- pieces of a log

-- what holds of a part of a log stays so in a longer one
Into : (log wide : List Done) → Type 0
Into log wide = (d : Done) → Contains log d → Contains wide d

module _ (asks : Meaning) where
  wider_taken : (log wide : List Done) → Into log wide → (d : Done) → IsTaken asks log d → IsTaken asks wide d
  unfolding Into
  wider_taken log wide into (Took by m) (inl it) = inl (it.0, into (Accepted by it.0) it.1, it.2)
  wider_taken log wide into (Took by m) (inr it) = inr (it.0, into (Dialled by it.0) it.1, it.2)
  wider_taken log wide into (Began start moment) it = tt
  wider_taken log wide into (AskedFor list) it = tt
  wider_taken log wide into (Accepted by c) it = tt
  wider_taken log wide into (Dialled by c) it = tt
  wider_taken log wide into (Given t) it = tt
  wider_taken log wide into Settled it = tt
  wider_taken log wide into (Said by m) it = tt

wider_of : (log wide : List Done) → Into log wide → (by : ℕ) (m : Message) (text : List ℕ) → IsOf log by m text → IsOf wide by m text
unfolding Into
wider_of log wide into by m text (inl it) = inl (it.0, into (Accepted by it.0) it.1, it.2)
wider_of log wide into by m text (inr it) = inr (it.0, into (Dialled by it.0) it.1, it.2, it.3)

wider_said : (log wide : List Done) → Into log wide → (over : List Over) (d : Done) → IsSaid log over d → IsSaid wide over d
wider_said log wide into over (Said by m) it = (it.0, it.1, wider_of log wide into by m it.0.written it.2)
wider_said log wide into over (Began start moment) it = tt
wider_said log wide into over (AskedFor list) it = tt
wider_said log wide into over (Accepted by c) it = tt
wider_said log wide into over (Dialled by c) it = tt
wider_said log wide into over (Given t) it = tt
wider_said log wide into over Settled it = tt
wider_said log wide into over (Took by m) it = tt

later_said : (log : List Done) (over more : List Over) (d : Done) → IsSaid log over d → IsSaid log (over ++ more) d
later_said log over more (Said by m) it = (it.0, get_front over more by it.0 it.1, it.2)
later_said log over more (Began start moment) it = tt
later_said log over more (AskedFor list) it = tt
later_said log over more (Accepted by c) it = tt
later_said log over more (Dialled by c) it = tt
later_said log over more (Given t) it = tt
later_said log over more Settled it = tt
later_said log over more (Took by m) it = tt

wider_spoken : (log wide : List Done) → Into log wide → (over : List Over) (d : Done) → IsSpokenTo log over d → IsSpokenTo wide over d
unfolding Into
wider_spoken log wide into over (Accepted by c) (inl it) = inl (it.0, into (Said by it.0) it.1)
wider_spoken log wide into over (Accepted by c) (inr it) = inr it
wider_spoken log wide into over (Dialled by c) it = (it.0, into (Said by it.0) it.1)
wider_spoken log wide into over (Began start moment) it = tt
wider_spoken log wide into over (AskedFor list) it = tt
wider_spoken log wide into over (Given t) it = tt
wider_spoken log wide into over (Took by m) it = tt
wider_spoken log wide into over Settled it = tt
wider_spoken log wide into over (Said by m) it = tt

later_spoken : (log : List Done) (over more : List Over) (d : Done) → IsSpokenTo log over d → IsSpokenTo log (over ++ more) d
later_spoken log over more (Accepted by c) (inl it) = inl it
later_spoken log over more (Accepted by c) (inr it) = inr (it.0, get_front over more by it.0 it.1, it.2)
later_spoken log over more (Dialled by c) it = it
later_spoken log over more (Began start moment) it = tt
later_spoken log over more (AskedFor list) it = tt
later_spoken log over more (Given t) it = tt
later_spoken log over more (Took by m) it = tt
later_spoken log over more Settled it = tt
later_spoken log over more (Said by m) it = tt

-- what a piece of a log says is so, between two moments of a wire
pub record Piece (asks : Meaning) (log : List Done) (old new : WireState) : Type 0 where
  pub more : List Over
  pub over : new.over ≡ old.over ++ more
  pub taken : All (IsTaken asks log) log
  pub written : All (IsSaid log new.over) log
  pub spoken : All (IsSpokenTo log new.over) log

module _ (asks : Meaning) where
  nothing : (old new : WireState) → new.over ≡ old.over → Piece asks [] old new
  nothing old new same = record {
    more = [];
    over = same ∙ sym (append-nil old.over);
    taken = All-nil (IsTaken asks []);
    written = All-nil (IsSaid [] new.over);
    spoken = All-nil (IsSpokenTo [] new.over);
  }

  both : (a b : List Done) (x y z : WireState) → Piece asks a x y → Piece asks b y z → Piece asks (a ++ b) x z
  unfolding Into
  both a b x y z p q =
      let left : Into a (a ++ b) = λ d. Contains-append_left a b d in
      let right : Into b (a ++ b) = λ d. Contains-append_right a b d in
      let on : (d : Done) → IsSaid a y.over d → IsSaid (a ++ b) z.over d = λ d it.
      subst (λ o. IsSaid (a ++ b) o d) (sym q.over) (later_said (a ++ b) y.over q.more d (wider_said a (a ++ b) left y.over d it)) in
      let spoken_on : (d : Done) → IsSpokenTo a y.over d → IsSpokenTo (a ++ b) z.over d = λ d it.
      subst (λ o. IsSpokenTo (a ++ b) o d) (sym q.over) (later_spoken (a ++ b) y.over q.more d (wider_spoken a (a ++ b) left y.over d it)) in
      record {
        more = p.more ++ q.more;
        over = q.over ∙ ap (λ l. l ++ q.more) p.over ∙ append_assoc x.over p.more q.more;
        taken = All-append (IsTaken asks (a ++ b)) a b
            (All-weaker (IsTaken asks a) (IsTaken asks (a ++ b)) (wider_taken asks a (a ++ b) left) a p.taken)
            (All-weaker (IsTaken asks b) (IsTaken asks (a ++ b)) (wider_taken asks b (a ++ b) right) b q.taken);
        written = All-append (IsSaid (a ++ b) z.over) a b
            (All-weaker (IsSaid a y.over) (IsSaid (a ++ b) z.over) on a p.written)
            (All-weaker (IsSaid b z.over) (IsSaid (a ++ b) z.over) (wider_said b (a ++ b) right z.over) b q.written);
        spoken = All-append (IsSpokenTo (a ++ b) z.over) a b
            (All-weaker (IsSpokenTo a y.over) (IsSpokenTo (a ++ b) z.over) spoken_on a p.spoken)
            (All-weaker (IsSpokenTo b z.over) (IsSpokenTo (a ++ b) z.over) (wider_spoken b (a ++ b) right z.over) b q.spoken);
      }

-- ---- what was answered

answers_bring : (whole : Bool) (c : Connection) (outcome : Sent) (m : Message) → AnswersIf whole c outcome → message_answered outcome ≡ Some m
    → BringsInResponse c m
unfolding message_answered
answers_bring true c outcome m answers is = record { outcome = outcome; answers = answers; message_is = is }
answers_bring false c outcome m failed is =
    let none : None ≡ Some m = subst (λ o. message_answered o ≡ Some m) failed is in absurd (cc)

-- ---- what was asked

unasked : (asked other : Asked) (m : Message) → Some asked ≡ Some other → message_asked other ≡ None → message_asked asked ≡ Some m → ⊥
unasked asked other m same none is =
    let one : asked ≡ other = cc in
    let some : message_asked other ≡ Some m = subst (λ a. message_asked a ≡ Some m) one is in
    cc

request_brings : (asks : Meaning) (request : Request) (asked : Asked) (c : Connection) (m : Message)
    → UnlessMemory request (Brings IsRequest c request) → Some asked ≡ asked_of asks request → message_asked asked ≡ Some m
    → BringsInRequest asks c m
unfolding message_asked
request_brings asks (Ok r) asked c m brings is some =
    let one : asked ≡ asks r = cc in
    record { request = r; brings = brings; message_is = subst (λ a. message_asked a ≡ Some m) one some }
request_brings asks (Err http.BadHead) asked c m brings is some = absurd (unasked asked _ m is refl some)
request_brings asks (Err http.HeadTooLong) asked c m brings is some = absurd (unasked asked _ m is refl some)
request_brings asks (Err http.NoLength) asked c m brings is some = absurd (unasked asked _ m is refl some)
request_brings asks (Err http.TransferCoding) asked c m brings is some = absurd (unasked asked _ m is refl some)
request_brings asks (Err http.BodyTooLong) asked c m brings is some = absurd (unasked asked _ m is refl some)
request_brings asks (Err http.Short) asked c m brings is some = absurd (unasked asked _ m is refl some)
request_brings asks (Err http.ReadFault) asked c m brings is some = absurd (unasked asked _ m is refl some)
request_brings asks (Err http.WriteFault) asked c m brings is some = absurd (unasked asked _ m is refl some)
request_brings asks (Err http.OutOfMemory) asked c m brings is some = absurd (cc)

-- ---- a connection that is answered

-- it was read, and nothing was written to it
record WasRead (asks : Meaning) (asked : Asked) (connection : Connection) (old new : WireState) : Type 0 where
  still : Present
  there : new.present ≡ Some still
  written : still.written ≡ []
  over : new.over ≡ old.over
  brings : (m : Message) → message_asked asked ≡ Some m → BringsInRequest asks connection m

was_read : (asks : Meaning) (asked : Asked) (connection : Connection) (old new : WireState)
    → old.present ≡ Some (record { left = connection; written = [] }) → OnPresent (Asks asks (Some asked)) old new
    → WasRead asks asked connection old new
was_read asks asked connection old new there reads =
    let still = told_from (Asks asks (Some asked)) old.present new.present (record { left = connection; written = [] }) there reads.present in
    record {
      still = still.0;
      there = still.1;
      written = still.2.reads.written;
      over = ap (λ (w : WireState). w.over) reads.rest;
      brings = λ m is. request_brings asks still.2.request asked connection m still.2.reads.brings still.2.asked_is is;
    }

-- it is over, and what was written to it begins the response
record IsOver (response : Option Response) (old new : WireState) : Type 0 where
  one : Over
  over : new.over ≡ old.over ++ one ∷ []
  written : (r : Response) → response ≡ Some r → BeginsWith (response_text r.status r.plain r.body) one.written
  silent : response ≡ None → one.written ≡ []

hung_up_over : (present : Present) (old new : WireState) → old.present ≡ Some present → present.written ≡ [] → new ≡ hung_up old
    → IsOver None old new
hung_up_over present old new there none is = subst (IsOver None old) (sym is) (record {
  one = hung_up_after present.written;
  over = ap (λ (o : Option Present). old.over ++ option_to_list (option_map (λ (p : Present). hung_up_after p.written) o)) there;
  written = λ r some. absurd (cc);
  silent = λ same. none;
})

responded_over : (r : Response) (whole : Bool) (present : Present) (old new : WireState) → old.present ≡ Some present
    → present.written ≡ [] → Responds (response_text r.status r.plain r.body) (Some whole) old new → IsOver (Some r) old new
responded_over r whole present old new there none responds =
    let text = response_text r.status r.plain r.body in
    let told : Responded text whole (Some present) old new = subst (λ o. Responded text whole o old new) there responds in
    subst (IsOver (Some r) old) (sym told.1) (record {
      one = hung_up_after (present.written ++ passing present.left.write_fails text);
      over = refl;
      written = λ other some.
          let same : r ≡ other = cc in
          subst (λ (z : Response). BeginsWith (response_text z.status z.plain z.body) (present.written ++ passing present.left.write_fails text)) same
          (subst (λ front. BeginsWith text (front ++ passing present.left.write_fails text)) (sym none) (passes present.left.write_fails text));
      silent = λ same. absurd (cc);
    })

answered_over : (response : Option Response) (present : Present) (read mid : Surroundings) (old : WireState) → read.wire ≡ Some old
    → old.present ≡ Some present → present.written ≡ [] → AnswersWith response read mid
    → (new : WireState) × (mid.wire ≡ Some new) × IsOver response old new
answered_over None present read mid old is there none answers =
    let told = told_from (λ old new. new ≡ hung_up old) read.wire mid.wire old is answers.told in
    (told.0, told.1, hung_up_over present old told.0 there none told.2)
answered_over (Some r) present read mid old is there none answers =
    let told = told_from (Responds (response_text r.status r.plain r.body) (Some answers.whole)) read.wire mid.wire old is answers.told in
    (told.0, told.1, responded_over r answers.whole present old told.0 there none told.2)

-- ---- an end whose state is a fold of its log

-- a connection and what is said change nothing of its state; what it takes is what its manner says; and of what is answered to its own
-- messages it takes a message as it is
pub record Follows {State M : Type 0} (speaker : Speaking State M) (after : State → Done → State) : Type 0 where
  pub accepted : (s : State) (by : ℕ) (c : Connection) → after s (Accepted by c) ≡ s
  pub dialled : (s : State) (by : ℕ) (c : Connection) → after s (Dialled by c) ≡ s
  pub said : (s : State) (by : ℕ) (m : Message) → after s (Said by m) ≡ s
  pub takes : (s : State) (by : ℕ) (asked : Asked) → fold after s (takes speaker by (message_asked asked)) ≡ speaker.manner.after s asked
  pub hears : (s : State) (by : ℕ) (sent : M) (answer : Option Message)
      → fold after s (hears_if speaker by (heard speaker answer)) ≡ after_hearing speaker.manner sent answer s
  pub responds : (s : State) (asked : Asked) → speaker.manner.responds s asked ≡ responding (speaker.reply s) asked
  pub same : (m other : Message) → speaker.hears m ≡ Some other → m ≡ other

module _ {State M : Type 0} (speaker : Speaking State M) (after : State → Done → State) (follows : Follows speaker after) (asks : Meaning) where
  -- ---- what is taken, and then maybe settled
  settled_taken : (log : List Done) (settles : Bool) → All (IsTaken asks log) (settled settles)
  settled_taken log true = All-cons (IsTaken asks log) Settled [] tt (All-nil (IsTaken asks log))
  settled_taken log false = All-nil (IsTaken asks log)

  settled_said : (log : List Done) (over : List Over) (settles : Bool) → All (IsSaid log over) (settled settles)
  settled_said log over true = All-cons (IsSaid log over) Settled [] tt (All-nil (IsSaid log over))
  settled_said log over false = All-nil (IsSaid log over)

  takes_taken : (log : List Done) (by : ℕ) (o : Option Message) → ((m : Message) → o ≡ Some m → IsTaken asks log (Took by m))
      → All (IsTaken asks log) (takes speaker by o)
  takes_taken log by None brought = settled_taken log speaker.settles
  takes_taken log by (Some m) brought =
      All-cons (IsTaken asks log) (Took by m) (settled speaker.settles) (brought m refl) (settled_taken log speaker.settles)

  takes_said : (log : List Done) (over : List Over) (by : ℕ) (o : Option Message) → All (IsSaid log over) (takes speaker by o)
  takes_said log over by None = settled_said log over speaker.settles
  takes_said log over by (Some m) =
      All-cons (IsSaid log over) (Took by m) (settled speaker.settles) tt (settled_said log over speaker.settles)

  hears_taken : (log : List Done) (by : ℕ) (o : Option Message) → ((m : Message) → o ≡ Some m → IsTaken asks log (Took by m))
      → All (IsTaken asks log) (hears_if speaker by o)
  hears_taken log by None brought = All-nil (IsTaken asks log)
  hears_taken log by (Some m) brought = takes_taken log by (Some m) brought

  hears_said : (log : List Done) (over : List Over) (by : ℕ) (o : Option Message) → All (IsSaid log over) (hears_if speaker by o)
  hears_said log over by None = All-nil (IsSaid log over)
  hears_said log over by (Some m) = takes_said log over by (Some m)

  settled_spoken : (log : List Done) (over : List Over) (settles : Bool) → All (IsSpokenTo log over) (settled settles)
  settled_spoken log over true = All-cons (IsSpokenTo log over) Settled [] tt (All-nil (IsSpokenTo log over))
  settled_spoken log over false = All-nil (IsSpokenTo log over)

  takes_spoken : (log : List Done) (over : List Over) (by : ℕ) (o : Option Message) → All (IsSpokenTo log over) (takes speaker by o)
  takes_spoken log over by None = settled_spoken log over speaker.settles
  takes_spoken log over by (Some m) =
      All-cons (IsSpokenTo log over) (Took by m) (settled speaker.settles) tt (settled_spoken log over speaker.settles)

  hears_spoken : (log : List Done) (over : List Over) (by : ℕ) (o : Option Message) → All (IsSpokenTo log over) (hears_if speaker by o)
  hears_spoken log over by None = All-nil (IsSpokenTo log over)
  hears_spoken log over by (Some m) = takes_spoken log over by (Some m)

  heard_is : (answer : Option Message) (m : Message) → heard speaker answer ≡ Some m → answer ≡ Some m
  heard_is None m is = absurd (cc)
  heard_is (Some other) m is = ap Some (follows.same other m is)

  -- ---- a message that is sent
  module _ (message : Message) (address : List ℕ × List ℕ) (outcome : Sent) (s : State) (first : M) where
    text : List ℕ
    text = request_text address.0 address.1 (canonical message)

    record Sends (log : List Done) (old new : WireState) : Type 0 where
      piece : Piece asks log old new
      state : fold after s log ≡ after_hearing speaker.manner first (message_answered outcome) s

    over_there : (c : Connection) (there new : WireState) (replaced : List Over) (old : WireState) → there.over ≡ old.over ++ replaced
        → AnswersIf (is_whole c.write_fails text) c outcome
        → new.over ≡ there.over ++ hung_up_after (passing c.write_fails text) ∷ []
        → Sends (Dialled (place there) c ∷ Said (place there) message ∷ hears_if speaker (place there) (heard speaker (message_answered outcome))) old new
    unfolding text
    over_there c there new replaced old is answers over =
        let by = place there in
        let o = heard speaker (message_answered outcome) in
        let rest = Said by message ∷ hears_if speaker by o in
        let log = Dialled by c ∷ rest in
        let here : Contains log (Dialled by c) = Contains-append_left (Dialled by c ∷ []) rest (Dialled by c) (Contains-push [] (Dialled by c)) in
        let spoke : Contains log (Said by message) = Contains-append_right (Dialled by c ∷ []) rest (Said by message)
        (Contains-append_left (Said by message ∷ []) (hears_if speaker by o) (Said by message) (Contains-push [] (Said by message))) in
        let one = hung_up_after (passing c.write_fails text) in
        let at : slice_get new.over by ≡ Some one = subst (λ l. slice_get l by ≡ Some one) (sym over) (get_end there.over one) in
        record {
          piece = record {
            more = replaced ++ one ∷ [];
            over = over ∙ ap (λ l. l ++ one ∷ []) is ∙ append_assoc old.over replaced (one ∷ []);
            taken = All-cons (IsTaken asks log) (Dialled by c) rest tt
                (All-cons (IsTaken asks log) (Said by message) (hears_if speaker by o) tt
                (hears_taken log by o (λ m some. inr (
                  c,
                  here,
                  answers_bring (is_whole c.write_fails text) c outcome m answers
                      (heard_is (message_answered outcome) m some),
                ))));
            written = All-cons (IsSaid log new.over) (Dialled by c) rest tt
                (All-cons (IsSaid log new.over) (Said by message) (hears_if speaker by o)
                (one, at, inr (c, here, address, passes c.write_fails text))
                (hears_said log new.over by o));
            spoken = All-cons (IsSpokenTo log new.over) (Dialled by c) rest (message, spoke)
                (All-cons (IsSpokenTo log new.over) (Said by message) (hears_if speaker by o) tt (hears_spoken log new.over by o));
          };
          state = ap (λ z. fold after z (hears_if speaker by o)) (follows.said (after s (Dialled by c)) by message ∙ follows.dialled s by c)
              ∙ follows.hears s by first (message_answered outcome);
        }

    nowhere : (old new : WireState) → new.over ≡ old.over → message_answered outcome ≡ None → Sends [] old new
    nowhere old new same none =
        record { piece = nothing asks old new same; state = ap (λ o. after_hearing speaker.manner first o s) (sym none) }

    dialled_piece : (due : Bool) (coming : List Connection) (old new : WireState)
        → ByDial address.0 text outcome (dialled_of due coming address.0 old) old new
        → Sends (exchange speaker message (message_answered outcome) (dialled_of due coming address.0 old)) old new
    unfolding message_answered
    dialled_piece true coming old new by =
        nowhere old new (ap (λ (w : WireState). w.over) by.1) (ap message_answered by.0)
    dialled_piece false [] old new by =
        nowhere old new (ap (λ (w : WireState). w.over) by.1) (ap message_answered by.0)
    dialled_piece false (c ∷ later) old new by =
        let there = with_connection c (record (dial_called address.0 old) { to_dial = later }) in
        over_there c there new (option_to_list (option_map (λ (p : Present). record { written = p.written; ending = Replaced }) old.present)) old refl
        by.0 (ap (λ (w : WireState). w.over) by.1)

  -- where it goes, or nowhere
  posted_piece : (target : Option (List ℕ × List ℕ)) (message : Message) (outcome : Sent) (s : State) (first : M) (old new : WireState)
      → Posts target (canonical message) (Some outcome) old new
      → (Piece asks (exchange speaker message (message_answered outcome) (dialled_for speaker target (Some old))) old new)
      × (fold after s (exchange speaker message (message_answered outcome) (dialled_for speaker target (Some old)))
      ≡ after_hearing speaker.manner first (message_answered outcome) s)
  unfolding message_answered text
  posted_piece None message outcome s first old new posted =
      let it = nowhere message (([], [])) outcome s first old new (ap (λ (w : WireState). w.over) posted.1) (ap message_answered posted.0) in
      (it.piece, it.state)
  posted_piece (Some address) message outcome s first old new posted =
      let it = dialled_piece message address outcome s first (is_due old.dial_fails) old.to_dial old new posted in
      (it.piece, it.state)

  -- ---- messages that are sent one after the other

  -- what a log says is so, between two moments of a wire, and its fold leads from one state to the other
  pub record Goes (log : List Done) (old : WireState) (from to : State) (wire : Option WireState) : Type 0 where
    pub new : WireState
    pub there : wire ≡ Some new
    pub piece : Piece asks log old new
    pub state : to ≡ fold after from log

  pub sends_go : (limit : ℕ) (list : List M) (at last : At State) (old : WireState) → at.wire ≡ Some old
      → (sends : InTurn (posts speaker) speaker.manner limit list at last)
      → Goes (of_sends speaker limit list at last sends) old at.state last.state last.wire
  unfolding InTurn of_sends
  sends_go zero list at last old is sends = record {
    new = old;
    there = ap (λ (a : At State). a.wire) sends ∙ is;
    piece = nothing asks old old refl;
    state = ap (λ (a : At State). a.state) sends;
  }
  sends_go (suc limit) [] at last old is sends = record {
    new = old;
    there = ap (λ (a : At State). a.wire) sends ∙ is;
    piece = nothing asks old old refl;
    state = ap (λ (a : At State). a.state) sends;
  }
  sends_go (suc limit) (first ∷ rest) at last old is sends =
      let next = sends.1 in
      let posted : WhereTold (Some old) next.wire (Posts (speaker.target first) (canonical (speaker.message first)) (Some sends.0)) =
      subst (λ w. posts speaker first (Some sends.0) w next.wire) is sends.2.told in
      let one = told_next (Posts (speaker.target first) (canonical (speaker.message first)) (Some sends.0)) old next.wire posted in
      let answer = message_answered sends.0 in
      let it = posted_piece (speaker.target first) (speaker.message first) sends.0 at.state first old one.0 one.2 in
      let log : Option WireState → List Done = λ w. exchange speaker (speaker.message first) answer (dialled_for speaker (speaker.target first) w) in
      let later = sends_go limit (rest ++ brings_of speaker.manner first answer at.state) next last one.0 one.1 sends.3 in
      let more = of_sends speaker limit (rest ++ brings_of speaker.manner first answer at.state) next last sends.3 in
      record {
        new = later.new;
        there = later.there;
        piece = both asks (log at.wire) more old one.0 later.new (subst (λ w. Piece asks (log w) old one.0) (sym is) it.0) later.piece;
        state = later.state ∙ ap (λ s. fold after s more) (sends.2.state ∙ sym it.1 ∙ ap (λ w. fold after at.state (log w)) (sym is))
            ∙ sym (fold_then after at.state (log at.wire) more);
      }

  -- ---- a turn

  -- a connection came, and is there
  record Came (old wire : WireState) : Type 0 where
    connection : Connection
    there : wire.present ≡ Some (record { left = connection; written = [] })
    replaced : List Over
    over : wire.over ≡ old.over ++ replaced

  taken_came : (coming : List Connection) (old wire : WireState) → TakesComing coming (accept_called old) wire → Came old wire
  taken_came [] old wire takes = absurd takes
  taken_came (c ∷ later) old wire takes = record {
    connection = c;
    there = ap (λ (w : WireState). w.present) takes;
    replaced = option_to_list (option_map (λ (p : Present). record { written = p.written; ending = Replaced }) old.present);
    over = ap (λ (w : WireState). w.over) takes;
  }

  -- what is replied to what was asked is the response
  reply_to : (reply : Message → Option Message) (document : Result Message Refusal) (s : State) (m : Message)
      → (reply ≡ speaker.reply s) → replied speaker s (message_in document) ≡ Some m → responding_to reply document ≡ replying (Some m)
  reply_to reply (Ok other) s m same is = ap (λ f. replying (f other)) same ∙ ap replying is
  reply_to reply (Err refusal) s m same is = absurd (cc)

  reply_is : (asked : Asked) (s : State) (m : Message) → replied speaker s (message_asked asked) ≡ Some m
      → responding (speaker.reply s) asked ≡ Some (replying (Some m))
  unfolding message_asked responding
  reply_is (asked.Posted body) s m is = ap Some (reply_to (speaker.reply s) (message_of body) s m refl is)
  reply_is (asked.Refused bad) s m is = absurd (cc)
  reply_is asked.Short s m is = absurd (cc)
  reply_is asked.Failed s m is = absurd (cc)

  -- the log of a connection that is accepted and answered, before anything is sent
  abbrev of_one : (by : ℕ) → Connection → (moment : ℕ) → Asked → (reply : Option Message) → List Done
  of_one by c moment asked reply = Accepted by c ∷ Given moment ∷ takes speaker by (message_asked asked) ++ said by reply

  said_said : (log : List Done) (over : List Over) (by : ℕ) (o : Option Message) → ((m : Message) → o ≡ Some m → IsSaid log over (Said by m))
      → All (IsSaid log over) (said by o)
  said_said log over by None was = All-nil (IsSaid log over)
  said_said log over by (Some m) was = All-cons (IsSaid log over) (Said by m) [] (was m refl) (All-nil (IsSaid log over))

  said_taken : (log : List Done) (by : ℕ) (o : Option Message) → All (IsTaken asks log) (said by o)
  said_taken log by None = All-nil (IsTaken asks log)
  said_taken log by (Some m) = All-cons (IsTaken asks log) (Said by m) [] tt (All-nil (IsTaken asks log))

  said_spoken : (log : List Done) (over : List Over) (by : ℕ) (o : Option Message) → All (IsSpokenTo log over) (said by o)
  said_spoken log over by None = All-nil (IsSpokenTo log over)
  said_spoken log over by (Some m) = All-cons (IsSpokenTo log over) (Said by m) [] tt (All-nil (IsSpokenTo log over))

  -- a response that says no message
  abbrev SaysNone : Option Response → Type 0
  SaysNone None = Unit {0}
  SaysNone (Some r) = (r.body ≡ []) ⊎ (r.plain ≡ true)

  none_to : (document : Result Message Refusal) (s : State) → replied speaker s (message_in document) ≡ None
      → SaysNone (Some (responding_to (speaker.reply s) document))
  none_to (Ok m) s is = inl (ap reply_body is)
  none_to (Err refusal) s is = inr refl

  none_is : (asked : Asked) (s : State) → replied speaker s (message_asked asked) ≡ None → SaysNone (responding (speaker.reply s) asked)
  unfolding message_asked responding
  none_is (asked.Posted body) s is = none_to (message_of body) s is
  none_is (asked.Refused bad) s is = inr refl
  none_is asked.Short s is = tt
  none_is asked.Failed s is = tt

  no_message : (response : Option Response) (one : Over) → SaysNone response → (response ≡ None → one.written ≡ [])
      → ((r : Response) → response ≡ Some r → BeginsWith (response_text r.status r.plain r.body) one.written) → IsNoMessage one.written
  no_message None one says silent written = (
    200,
    false,
    [],
    inl refl,
    subst (λ front. BeginsWith (response_text 200 false []) front) (sym (silent refl))
        (record { rest = response_text 200 false []; parts = refl }),
  )
  no_message (Some r) one says silent written = (r.status, r.plain, r.body, says, written r refl)

  accepted_spoken : (log : List Done) (over : List Over) (by : ℕ) (c : Connection) (reply : Option Message)
      → ((m : Message) → reply ≡ Some m → Contains log (Said by m))
      → (reply ≡ None → (one : Over) × (slice_get over by ≡ Some one) × IsNoMessage one.written) → IsSpokenTo log over (Accepted by c)
  accepted_spoken log over by c (Some m) has none = inl (m, has m refl)
  accepted_spoken log over by c None has none = inr (none refl)

  said_in : (by : ℕ) (reply : Option Message) (m : Message) → reply ≡ Some m → Contains (said by reply) (Said by m)
  said_in by reply m is = subst (λ o. Contains (said by o) (Said by m)) (sym is) (Contains-push [] (Said by m))

  said_folds : (s : State) (by : ℕ) (o : Option Message) → fold after s (said by o) ≡ s
  said_folds s by None = refl
  said_folds s by (Some m) = follows.said s by m

  one_piece : (moment : ℕ) (asked : Asked) (s : State) (old wire read new : WireState) (came : Came old wire)
      → WasRead asks asked came.connection wire read → IsOver (speaker.manner.responds s asked) read new
      → Piece asks (of_one (place wire) came.connection moment asked (replied speaker s (message_asked asked))) old new
  one_piece moment asked s old wire read new came was ends =
      let by = place wire in
      let c = came.connection in
      let reply = replied speaker s (message_asked asked) in
      let mine = takes speaker by (message_asked asked) in
      let log = of_one by c moment asked reply in
      let here : Contains log (Accepted by c) =
      Contains-append_left (Accepted by c ∷ []) (Given moment ∷ mine ++ said by reply) (Accepted by c) (Contains-push [] (Accepted by c)) in
      let over : new.over ≡ wire.over ++ ends.one ∷ [] = ends.over ∙ ap (λ l. l ++ ends.one ∷ []) was.over in
      let at : slice_get new.over by ≡ Some ends.one = subst (λ l. slice_get l by ≡ Some ends.one) (sym over) (get_end wire.over ends.one) in
      record {
        more = came.replaced ++ ends.one ∷ [];
        over = over ∙ ap (λ l. l ++ ends.one ∷ []) came.over ∙ append_assoc old.over came.replaced (ends.one ∷ []);
        taken = All-cons (IsTaken asks log) (Accepted by c) (Given moment ∷ mine ++ said by reply) tt
            (All-cons (IsTaken asks log) (Given moment) (mine ++ said by reply) tt
            (All-append (IsTaken asks log) mine (said by reply)
            (takes_taken log by (message_asked asked) (λ m is. inl (c, here, was.brings m is))) (said_taken log by reply)));
        written = All-cons (IsSaid log new.over) (Accepted by c) (Given moment ∷ mine ++ said by reply) tt
            (All-cons (IsSaid log new.over) (Given moment) (mine ++ said by reply) tt
            (All-append (IsSaid log new.over) mine (said by reply) (takes_said log new.over by (message_asked asked))
            (said_said log new.over by reply (λ m is.
            (ends.one, at, inl (c, here, ends.written (replying (Some m)) (follows.responds s asked ∙ reply_is asked s m is)))))));
        spoken = All-cons (IsSpokenTo log new.over) (Accepted by c) (Given moment ∷ mine ++ said by reply)
            (accepted_spoken log new.over by c reply
            (λ m is. Contains-append_right (Accepted by c ∷ Given moment ∷ []) (mine ++ said by reply) (Said by m)
            (Contains-append_right mine (said by reply) (Said by m) (said_in by reply m is)))
            (λ is. (
              ends.one,
              at,
              no_message (speaker.manner.responds s asked) ends.one
                  (subst SaysNone (sym (follows.responds s asked)) (none_is asked s is)) ends.silent ends.written,
            )))
            (All-cons (IsSpokenTo log new.over) (Given moment) (mine ++ said by reply) tt
            (All-append (IsSpokenTo log new.over) mine (said by reply) (takes_spoken log new.over by (message_asked asked))
            (said_spoken log new.over by reply)));
      }

  one_folds : (by : ℕ) (c : Connection) (moment : ℕ) (asked : Asked) (reply : Option Message) (old s : State) → s ≡ after old (Given moment)
      → fold after old (of_one by c moment asked reply) ≡ speaker.manner.after s asked
  one_folds by c moment asked reply old s is =
      let mine = takes speaker by (message_asked asked) in
      let begun = after (after old (Accepted by c)) (Given moment) in
      fold_then after begun mine (said by reply) ∙ said_folds (fold after begun mine) by reply
      ∙ ap (λ z. fold after z mine) (ap (λ z. after z (Given moment)) (follows.accepted old by c) ∙ sym is) ∙ follows.takes s by asked

  pub goes_both : (a b : List Done) (old : WireState) (s t u : State) (w v : Option WireState) → (one : Goes a old s t w) → Goes b one.new t u v
      → Goes (a ++ b) old s u v
  goes_both a b old s t u w v one next = record {
    new = next.new;
    there = next.there;
    piece = both asks a b old one.new next.new one.piece next.piece;
    state = next.state ∙ ap (λ z. fold after z b) one.state ∙ sym (fold_then after s a b);
  }

  -- ---- the turns of a run

  module _ {Own : Type 0} (given : ℕ → Own → Own) (state_of : Own → State) (tally_of : Own → Tally)
      (given_is : (moment : ℕ) (own : Own) → state_of (given moment own) ≡ after (state_of own) (Given moment)) where
    turn_goes : (from to : Running Own) (old : WireState) → from.outside.wire.tells ≡ Some old
        → (turn : Turn given (logs.Answers speaker asks given state_of tally_of) from to)
        → Goes (of_turn speaker asks given state_of tally_of from to turn) old (state_of from.state) (state_of to.state) to.outside.wire.tells
    turn_goes from to old is turn =
        let s = state_of (given turn.moment from.state) in
        let last = logs.end_at speaker asks given state_of tally_of to.state to.outside.wire in
        let accepted = told_from (λ a b. Accepts a b (Ok (tt {0}))) from.outside.wire.tells turn.wire.tells old is turn.accepts.does in
        let wire = accepted.0 in
        let here = taken_came old.to_accept old wire accepted.2.1 in
        let c = here.connection in
        let a = turn.answers.answers in
        let asked = turn.answers.asked in
        let read = told_from (OnPresent (Asks asks (Some asked))) turn.wire.tells a.read.wire wire accepted.1 a.reads.told in
        let was = was_read asks asked c wire read.0 here.there read.2 in
        let mid = answered_over (speaker.manner.responds s asked) was.still a.read (around turn.answers.mid) read.0 read.1 was.there
        was.written a.answers in
        let first = one_piece turn.moment asked s old wire read.0 mid.0 here was mid.2 in
        let list = speaker.manner.sends s asked in
        let sent = sends_go most_sends list turn.answers.mid last mid.0 mid.1 turn.answers.sends in
        let more = of_sends speaker most_sends list turn.answers.mid last turn.answers.sends in
        let by = place wire in
        let question = message_asked asked in
        let reply = replied speaker s question in
        let mine = takes speaker by question in
        let one = of_one by c turn.moment asked reply in
        let told : (w : Option WireState) → List Done = λ w.
        came Accepted w ++ (Given turn.moment ∷ takes speaker (place_of w) question ++ (said (place_of w) reply ++ more)) in
        let same : told turn.wire.tells ≡ one ++ more =
        ap told accepted.1
        ∙ ap (λ p. came_at Accepted by p ++ (Given turn.moment ∷ mine ++ (said by reply ++ more))) here.there
        ∙ ap (λ l. Accepted by c ∷ Given turn.moment ∷ l) (sym (append_assoc mine (said by reply) more)) in
        record {
          new = sent.new;
          there = sent.there;
          piece = subst (λ l. Piece asks l old sent.new) (sym same) (both asks one more old mid.0 sent.new first sent.piece);
          state = sent.state
              ∙ ap (λ z. fold after z more) (a.state
              ∙ sym (one_folds by c turn.moment asked reply (state_of from.state) s (given_is turn.moment from.state)))
              ∙ sym (fold_then after (state_of from.state) one more) ∙ ap (fold after (state_of from.state)) (sym same);
        }

    pub turns_go : (count : ℕ) (from to : Running Own) (old : WireState) → from.outside.wire.tells ≡ Some old
        → (turns : Turns (Turn given (logs.Answers speaker asks given state_of tally_of)) count from to)
        → Goes (of_turns speaker asks given state_of tally_of count from to turns) old (state_of from.state) (state_of to.state) to.outside.wire.tells
    unfolding Turns of_turns
    turns_go zero from to old is turns = record {
      new = old;
      there = ap (λ (r : Running Own). r.outside.wire.tells) turns ∙ is;
      piece = nothing asks old old refl;
      state = ap (λ (r : Running Own). state_of r.state) turns;
    }
    turns_go (suc count) from to old is turns =
        let earlier = turns_go count from turns.0 old is turns.1 in
        let next = turn_goes turns.0 to earlier.new earlier.there turns.2 in
        goes_both (of_turns speaker asks given state_of tally_of count from turns.0 turns.1)
        (of_turn speaker asks given state_of tally_of turns.0 to turns.2) old (state_of from.state) (state_of turns.0.state) (state_of to.state)
        turns.0.outside.wire.tells to.outside.wire.tells earlier next
