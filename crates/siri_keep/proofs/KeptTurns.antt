-- A turn over a shelf: what it takes, what it answers, and what it sends.
use Rattle.std.specs.Prelude.{if◌then◌else◌, IsSomeAnd, OnOk}
use Rattle.std.proofs.Common.{◌≡◌, ◌⊎◌, ℕ, List, [], ◌∷◌, ◌++◌, Bool, true, false, Option, None, Some, Result, Ok, Err, refl, sym, ap, ◌∙◌, subst, append-nil, inl, inr}
use Rattle.siri_outside.specs.OutsideCalls.{WhereTold}
use Rattle.siri_outside.specs.Wires.{WireState}
use Rattle.siri_http.specs.Requests.{post_alone}
use Rattle.siri_http.specs.declared.asked.Asked.{Asked}
use Rattle.siri_http.specs.declared.tally.Tally.{Tally}
use Rattle.siri_messages.specs.declared.message.Message.{Message}
use Rattle.siri_model.specs.History.{History, Settle, Take}
use Rattle.siri_producer.specs.Known.{GoesOn, Known, SendsFor, StandsFor}
use Rattle.siri_producer.specs.Sends.{sends}
use Rattle.siri_subscriptions.specs.declared.outs.Out.{Out}
use Rattle.siri_ends.specs.At.{Goes, Holding, at_of}
use Rattle.siri_ends.specs.EndCalls.{Hears, Turned}
use Rattle.siri_ends.specs.Lending.{IsReply, Prepares, PreparesFor, TurnedBy, message_response}
use Rattle.siri_ends.specs.Manners.{IsRead}
use Rattle.siri_ends.specs.Responses.{message_asked, response_to, taking, turn_steps}
use Rattle.siri_ends.specs.Serving.{PostsOut, acknowledging, after_acknowledging, serving}
use Rattle.siri_ends.specs.TurnsTaken.{AnswersSome, LeavesBeside, TakesTurn}
use Rattle.siri_ends.specs.declared.reply.Reply.{Reply}
use Rattle.siri_ends.specs.declared.response.Response.{Response}
use Rattle.siri_ends.specs.declared.reply.Reply.TheVariants as reply
use Rattle.siri_ends.proofs.Lends.{turns}
use Rattle.siri_outside.specs.Rows.{Rows}
use Rattle.siri_outside.specs.Shelves.{CountsFault, ShelfState}
use Rattle.siri_wire.proofs.ProperReadMessages.{document_proper}
use Rattle.siri_wire.specs.laws.ProperMessages.{IsProper}
use Rattle.siri_keeping.specs.Keeps.{Keeps}
use Rattle.siri_keep.specs.declared.errors.KeepError.{KeepError}
use Rattle.siri_keep.specs.declared.errors.KeepError.TheVariants as errors
use Rattle.siri_keep.specs.declared.kept.Kept.{Kept}
use Rattle.siri_keep.specs.Calls.{AddsFronts, CountsKept, GoesOnKept, Holds}
use Rattle.siri_keep.specs.KeptTurns.{KeepsOn, LeavesKept, outside_error}
use Rattle.siri_keep.specs.Puts.{changes_rows, has_long_row}
use Rattle.siri_keep.specs.Serving.{AddsTurn, GoesOnServing, KeepsWhatIsAnswered, has_long_asked, is_long_in, keeping, message_kept, row_too_long, short_of}
use Rattle.siri_keep.proofs.Answered.{told_answered, told_unanswered, told_unread}
use Rattle.siri_keep.proofs.Left.{keeps_of}
use Rattle.siri_keep.proofs.SameKept.{SameKept, heard_kept, keeps_same, kept_proper, left_same, same_none, same_settled, same_taken, turn_proper}
use Rattle.siri_keep.proofs.Fronts.{fronts_same}
use Rattle.siri_keep.proofs.Told.{some_on, some_weaker, told_same, told_some, told_weaker}

-- ---- what ends a turn

pub outside_counts : (before now : ℕ) (e : KeepError) → CountsKept {T = Unit {0}} before now (Err e)
    → CountsFault {T = Unit {0}} before now (Err (outside_error e))
outside_counts before now errors.ShelfFault counts = counts
outside_counts before now (errors.BadRow table key) counts = counts
outside_counts before now errors.OtherName counts = counts
outside_counts before now (errors.OldStart kept) counts = counts
outside_counts before now errors.Closed counts = counts
outside_counts before now errors.RowTooLong counts = counts
outside_counts before now errors.OutOfMemory counts = counts

-- ---- what is taken

-- a message that changes rows
pub keeps_message : (old new : Kept) (m : Message) (before after : Rows) → GoesOnKept old new (Take m ∷ []) before after
    → LeavesKept old new (Take m ∷ []) before after
keeps_message old new m before after goes = record {
  left = λ h holds. (goes h holds).holds.left;
  keeps = λ h holds. (goes h holds).keeps;
}

-- a history that a producer stands for which prepared a reply
prepared_by : (first taken : Known) (m : Message) (answer : List ℕ → History → Option Response) (r : Reply) → Prepares first taken (Some m) answer r
    → changes_rows m ≡ false → IsProper m → (h : History) → StandsFor first h
    → (t : History) × StandsFor taken t × SameKept h t
prepared_by first taken m answer (reply.Made made) so none proper h s = (h ++ Take m ∷ [], so.stands h s, same_taken h m proper none)
prepared_by first taken m answer (reply.Direct request) so none proper h s = (h, subst (λ k. StandsFor k h) (sym so.same) s, same_none h)
prepared_by first taken m answer (reply.Part subscriber subscription) so none proper h s =
    let stands : StandsFor taken (h ++ taking (Some m)) = subst (λ o. StandsFor taken (h ++ taking o)) (sym so.asked) (so.stands h s) in
    (h ++ Take m ∷ [], stands, same_taken h m proper none)

-- any other message, which leaves the rows
pub leaves_message : (old new : Kept) (m : Message) (r : Reply) (rows : Rows)
    → Prepares old.producer new.producer (Some m) (message_response m) r → changes_rows m ≡ false → IsProper m
    → new.producer.responder.name ≡ old.producer.responder.name → new ≡ record old { producer = new.producer }
    → LeavesKept old new (Take m ∷ []) rows rows
leaves_message old new m r rows so none proper name rest = record {
  left = λ h holds.
      let p = prepared_by old.producer new.producer m (message_response m) r so none proper h holds.stands in
      left_same old new rows h p.0 holds.stands p.1 p.2 name (ap (λ (k : Kept). k.mirror) rest) (ap (λ (k : Kept). k.places) rest)
      holds.left;
  keeps = λ h holds. keeps_same old.producer.responder.name rows h (h ++ Take m ∷ []) (same_taken h m proper none)
      (keeps_of old rows h holds);
}

-- where nothing is taken
pub leaves_nothing : (kept : Kept) (rows : Rows) → LeavesKept kept kept [] rows rows
leaves_nothing kept rows = record {
  left = λ h holds. holds.left;
  keeps = λ h holds. subst (Keeps kept.producer.responder.name rows) (sym (append-nil h)) (keeps_of kept rows h holds);
}

-- the same of what is told

-- where no row is too long
pub told_keeps : (old new : Kept) (m : Message) (x y : Option ShelfState) → has_long_row m ≡ false
    → WhereTold x y (λ s t. GoesOnKept old new (Take m ∷ []) s.rows t.rows)
    → WhereTold x y (λ s t. LeavesKept old new (taking (short_of m)) s.rows t.rows)
told_keeps old new m x y short told = rw short (told_weaker (λ s t. GoesOnKept old new (Take m ∷ []) s.rows t.rows)
    (λ s t. LeavesKept old new (Take m ∷ []) s.rows t.rows) x y (λ s t goes. keeps_message old new m s.rows t.rows goes) told)

pub told_leaves : (old new : Kept) (m : Message) (r : Reply) (x : Option ShelfState) → has_long_row m ≡ false
    → Prepares old.producer new.producer (Some m) (message_response m) r → changes_rows m ≡ false → IsProper m
    → new.producer.responder.name ≡ old.producer.responder.name → new ≡ record old { producer = new.producer }
    → WhereTold x x (λ s t. LeavesKept old new (taking (short_of m)) s.rows t.rows)
told_leaves old new m r x short so none proper name rest = rw short
    (told_same (λ s t. LeavesKept old new (Take m ∷ []) s.rows t.rows) x (λ s. leaves_message old new m r s.rows so none proper name rest))

pub fronts_short : (old : Kept) (m : Message) (x y : Option ShelfState) → has_long_row m ≡ false
    → WhereTold x y (AddsFronts old (Take m ∷ [])) → WhereTold x y (AddsFronts old (taking (short_of m)))
fronts_short old m x y short told = rw short told

pub told_nothing : (kept : Kept) (x : Option ShelfState) → WhereTold x x (λ s t. LeavesKept kept kept [] s.rows t.rows)
told_nothing kept x = told_same (λ s t. LeavesKept kept kept [] s.rows t.rows) x (λ s. leaves_nothing kept s.rows)

-- where one is, nothing is taken
pub told_long : (kept : Kept) (m : Message) (x : Option ShelfState) → has_long_row m ≡ true
    → WhereTold x x (λ s t. LeavesKept kept kept (taking (short_of m)) s.rows t.rows)
told_long kept m x long = rw long (told_nothing kept x)

pub told_unwritten : (old : Kept) (steps : History) (x : Option ShelfState) → WhereTold x x (AddsFronts old steps)
told_unwritten old steps x = told_same (AddsFronts old steps) x (λ s. fronts_same old steps s)

-- ---- what a connection asks

pub long_of : (asked : Asked) (m : Message) → message_asked asked ≡ Some m → has_long_asked asked ≡ has_long_row m
long_of asked m is = ap is_long_in is

-- ---- the turn of a connection, of which the reply is still to be written

abbrev TurnedKept : Asked → List Out → Reply → (first last : Known) → Type 0
TurnedKept asked outs reply first last =
    Turned (λ (known : Known). known.responder.name) StandsFor keeping (λ name reply h response. IsReply reply name h response) asked outs
    reply first last

turned_short : (asked : Asked) (outs : List Out) (r : Reply) (first last : Known) → has_long_asked asked ≡ false
    → TurnedBy asked outs r first last → TurnedKept asked outs r first last
turned_short asked outs r first last short t =
    let name = first.responder.name in
    let message = message_asked asked in
    record {
      keeps = t.keeps;
      stands_for = λ h s. subst (λ b. StandsFor last (h ++ turn_steps (if b then None else message))) (sym short) (t.stands_for h s);
      messages_are = λ h s. t.messages_are h s ∙ ap (λ b. sends name (h ++ taking (if b then None else message))) (sym short);
      reply_is = λ h s. subst (λ b. IsReply r name (h ++ turn_steps (if b then None else message))
          (if b then Some row_too_long else response_to name h asked)) (sym short) (t.reply_is h s);
    }

turned_long : (asked : Asked) (outs : List Out) (r : Reply) (first taken last : Known) → has_long_asked asked ≡ true
    → r ≡ reply.Made (Some row_too_long) → taken ≡ first → GoesOn taken last Settle → SendsFor taken outs
    → last.responder.name ≡ taken.responder.name → TurnedKept asked outs r first last
turned_long asked outs r first taken last long is same settles sent named =
    let name = first.responder.name in
    let message = message_asked asked in
    record {
      keeps = named ∙ ap (λ (k : Known). k.responder.name) same;
      stands_for = λ h s. subst (λ b. StandsFor last (h ++ turn_steps (if b then None else message))) (sym long)
          (settles.stands h (subst (λ k. StandsFor k h) (sym same) s));
      messages_are = λ h s.
          sent h (subst (λ k. StandsFor k h) (sym same) s)
          ∙ ap (λ (k : Known). sends k.responder.name h) same
          ∙ ap (sends name) (sym (append-nil h))
          ∙ ap (λ b. sends name (h ++ taking (if b then None else message))) (sym long);
      reply_is = λ h s. subst (λ b. IsReply r name (h ++ turn_steps (if b then None else message))
          (if b then Some row_too_long else response_to name h asked)) (sym long)
          (subst (λ made. IsReply made name (h ++ Settle ∷ []) (Some row_too_long)) (sym is) refl);
    }

module _ (asked : Asked) (r : Reply) (first taken : Known)
    (short : has_long_asked asked ≡ false → PreparesFor first taken asked r)
    (long : has_long_asked asked ≡ true → (r ≡ reply.Made (Some row_too_long)) × (taken ≡ first)) where
  pub turned_kept : (outs : List Out) (last : Known) → taken.responder.name ≡ first.responder.name → GoesOn taken last Settle
      → SendsFor taken outs → last.responder.name ≡ taken.responder.name → TurnedKept asked outs r first last
  turned_kept outs last named settles sent kept = by (has_long_asked asked) refl
    where
      by : (b : Bool) → has_long_asked asked ≡ b → TurnedKept asked outs r first last
      by true is = turned_long asked outs r first taken last is (long is).0 (long is).1 settles sent kept
      by false is = turned_short asked outs r first last is (turns asked r outs first taken last (short is) named settles sent kept)

  -- what the producer stands for before it settles
  pub stands_between : (h : History) → StandsFor first h → (t : History) × StandsFor taken t
  stands_between h s = by (has_long_asked asked) refl
    where
      of_reply : (made : Reply) → PreparesFor first taken asked made → (t : History) × StandsFor taken t
      of_reply (reply.Made made) so = (h ++ taking (message_asked asked), so.stands h s)
      of_reply (reply.Direct request) so = (h, subst (λ k. StandsFor k h) (sym so.same) s)
      of_reply (reply.Part subscriber subscription) so = (h ++ taking (Some _), so.stands h s)

      by : (b : Bool) → has_long_asked asked ≡ b → (t : History) × StandsFor taken t
      by true is = (h, subst (λ k. StandsFor k h) (sym (long is).1) s)
      by false is = of_reply r (short is)

-- ---- what is left as the producer goes on

-- it stands for a history of which the same is kept
pub leaves_on : (old mid new : Kept) (steps : History) (before after : Rows) → LeavesKept old mid steps before after
    → ((h : History) → StandsFor old.producer h
    → (t later : History) × StandsFor mid.producer t × StandsFor new.producer later × SameKept t later)
    → new.producer.responder.name ≡ mid.producer.responder.name → new ≡ record mid { producer = new.producer }
    → LeavesKept old new steps before after
leaves_on old mid new steps before after leaves on name rest = record {
  left = λ h holds.
      let p = on h holds.stands in
      left_same mid new after p.0 p.1 p.2 p.3 p.4 name (ap (λ (k : Kept). k.mirror) rest) (ap (λ (k : Kept). k.places) rest)
      (leaves.left h holds);
  keeps = leaves.keeps;
}

pub told_leaves_on : (old mid new : Kept) (steps : History) (x y : Option ShelfState)
    → WhereTold x y (λ s t. LeavesKept old mid steps s.rows t.rows)
    → ((h : History) → StandsFor old.producer h
    → (t later : History) × StandsFor mid.producer t × StandsFor new.producer later × SameKept t later)
    → new.producer.responder.name ≡ mid.producer.responder.name → new ≡ record mid { producer = new.producer }
    → WhereTold x y (λ s t. LeavesKept old new steps s.rows t.rows)
told_leaves_on old mid new steps x y told on name rest =
    told_weaker (λ s t. LeavesKept old mid steps s.rows t.rows) (λ s t. LeavesKept old new steps s.rows t.rows) x y
    (λ s t leaves. leaves_on old mid new steps s.rows t.rows leaves on name rest) told

pub told_kept_on : (old mid : Kept) (steps : History) (x y : Option ShelfState)
    → WhereTold x y (λ s t. LeavesKept old mid steps s.rows t.rows) → WhereTold x y (λ s t. KeepsOn old steps s.rows t.rows)
told_kept_on old mid steps x y told =
    told_weaker (λ s t. LeavesKept old mid steps s.rows t.rows) (λ s t. KeepsOn old steps s.rows t.rows) x y (λ s t l. l.keeps) told

-- before it settles, and after it
pub settled_on : (asked : Asked) (r : Reply) (first taken last : Known)
    → (has_long_asked asked ≡ false → PreparesFor first taken asked r)
    → (has_long_asked asked ≡ true → (r ≡ reply.Made (Some row_too_long)) × (taken ≡ first)) → GoesOn taken last Settle
    → (h : History) → StandsFor first h → (t later : History) × StandsFor taken t × StandsFor last later × SameKept t later
settled_on asked r first taken last short long settles h s =
    let t = stands_between asked r first taken short long h s in
    (t.0, t.0 ++ Settle ∷ [], t.1, settles.stands t.0 t.1, same_settled t.0)

-- ---- as an end over a shelf

abbrev name_in : Kept → List ℕ
name_in kept = kept.producer.responder.name

abbrev stands : Kept → History → Type 0
stands kept h = StandsFor kept.producer h

abbrev HoldsIn : {B : Type 0} → (tells : B → Option ShelfState) → Kept → B → History → Type 0
HoldsIn tells kept shelf h = IsSomeAnd (tells shelf) (λ s. Holds kept s.rows h)

abbrev IsReplyFor : List ℕ → Reply → History → Option Response → Type 0
IsReplyFor name reply h response = IsReply reply name h response

-- it took what a connection asks, and settled
module _ (asked : Asked) (outs : List Out) (r : Reply) (old mid : Kept) (last : Known)
    (short : has_long_asked asked ≡ false → PreparesFor old.producer mid.producer asked r)
    (long : has_long_asked asked ≡ true → (r ≡ reply.Made (Some row_too_long)) × (mid ≡ old)) (named : name_in mid ≡ name_in old)
    (settles : GoesOn mid.producer last Settle) (sent : SendsFor mid.producer outs)
    (same : last.responder.name ≡ mid.producer.responder.name) where
  long_known : has_long_asked asked ≡ true → (r ≡ reply.Made (Some row_too_long)) × (mid.producer ≡ old.producer)
  long_known is = ((long is).0, ap (λ (k : Kept). k.producer) (long is).1)

  taken : TurnedKept asked outs r old.producer last
  taken = turned_kept asked r old.producer mid.producer short long_known outs last named settles sent same

  pub turned : Turned name_in stands keeping IsReplyFor asked outs r old (record mid { producer = last })
  turned = record { keeps = taken.keeps; stands_for = taken.stands_for; messages_are = taken.messages_are; reply_is = taken.reply_is }

  -- and the shelf is as it left it
  pub holds_turned : {B : Type 0} (tells : B → Option ShelfState) (s t : B)
      → WhereTold (tells s) (tells t) (λ before after. LeavesKept old mid (taking (message_kept asked)) before.rows after.rows)
      → (h : History) → HoldsIn tells old s h → HoldsIn tells (record mid { producer = last }) t (h ++ turn_steps (message_kept asked))
  holds_turned tells s t told h =
      some_on (tells s) (tells t) (λ before. Holds old before.rows h)
      (λ after. Holds (record mid { producer = last }) after.rows (h ++ turn_steps (message_kept asked)))
      (told_weaker (λ before after. LeavesKept old (record mid { producer = last }) (taking (message_kept asked)) before.rows after.rows)
      (λ before after. Holds old before.rows h → Holds (record mid { producer = last }) after.rows (h ++ turn_steps (message_kept asked)))
      (tells s) (tells t)
      (λ before after leaves holds. record {
        left = leaves.left h holds;
        stands = taken.stands_for h holds.stands;
        proper = turn_proper h (message_kept asked) (kept_proper asked) holds.proper;
      })
      (told_leaves_on old mid (record mid { producer = last }) (taking (message_kept asked)) (tells s) (tells t) told
      (settled_on asked r old.producer mid.producer last short long_known settles) same refl))

module _ {B : Type 0} (tells : B → Option ShelfState) where
  -- where no row is touched
  holds_on : (old new : Kept) (shelf : B) (h later : History) → stands old h → stands new later → SameKept h later
      → name_in new ≡ name_in old → new ≡ record old { producer = new.producer } → HoldsIn tells old shelf h → HoldsIn tells new shelf later
  holds_on old new shelf h later s t same name rest =
      some_weaker (tells shelf) (λ state. Holds old state.rows h) (λ state. Holds new state.rows later)
      (λ state holds. record {
        left = left_same old new state.rows h later s t same name (ap (λ (k : Kept). k.mirror) rest) (ap (λ (k : Kept). k.places) rest)
            holds.left;
        stands = t;
        proper = same.proper holds.proper;
      })

  -- its answer was written
  pub holds_written : {T E : Type 0} (result : Result T E) (old new : Kept) → new ≡ record old { producer = new.producer }
      → OnOk result ((h : History) → stands old h → stands new h) → OnOk result (name_in new ≡ name_in old)
      → OnOk result ((shelf : B) (h : History) → stands old h → HoldsIn tells old shelf h → HoldsIn tells new shelf h)
  holds_written (Ok value) old new rest stays name = λ shelf h s holds. holds_on old new shelf h h s (stays h s) (same_none h) name rest holds
  holds_written (Err error) old new rest stays name = tt

  -- it heard a message
  pub heard : (sent : Out) (m : Message) (more : List Out) (old new : Kept) → IsRead m → new ≡ record old { producer = new.producer }
      → Hears {Beside = Unit {0}} (λ (known : Known). known.responder.name) StandsFor (λ known beside h. Unit {0}) serving sent (Some m) more
      old.producer new.producer
      → Hears name_in stands (HoldsIn tells) keeping sent (Some m) more old new
  heard sent m more old new read rest hears = record {
    keeps = hears.keeps;
    stands_for = hears.stands_for;
    holds_for = λ shelf h s holds.
        holds_on old new shelf h (after_acknowledging (acknowledging m) h) s (hears.stands_for h s)
        (heard_kept h m (document_proper read.0 m read.1)) hears.keeps rest holds;
    more_are = hears.more_are;
  }

-- ---- before a turn and after it

-- it was given a moment, or the rows of dead items left
pub holds_after : {B T : Type 0} (tells : B → Option ShelfState) (s t : B) (old new : Kept) (steps : History) (result : Result T KeepError)
    → OnOk result (WhereTold (tells s) (tells t) (λ before after. GoesOnKept old new steps before.rows after.rows))
    → OnOk result ((h : History) → stands old h → HoldsIn tells old s h → HoldsIn tells new t (h ++ steps))
holds_after tells s t old new steps (Ok value) told = λ h so.
    some_on (tells s) (tells t) (λ before. Holds old before.rows h) (λ after. Holds new after.rows (h ++ steps))
    (told_weaker (λ before after. GoesOnKept old new steps before.rows after.rows)
    (λ before after. Holds old before.rows h → Holds new after.rows (h ++ steps)) (tells s) (tells t) (λ before after goes holds. (goes h holds).holds) told)
holds_after tells s t old new steps (Err error) told = tt

-- ---- what the turn comes to

module _ {B : Type 0} (tells : B → Option ShelfState) (old : Kept) (shelf later : B)
    (before after : Option WireState) where
  abbrev name : List ℕ
  name = old.producer.responder.name

  -- what it leaves on the shelf
  abbrev pub LeavesTurn : Type 0
  LeavesTurn = LeavesBeside post_alone PostsOut (keeping name) (λ h. StandsFor old.producer h) (later ≡ shelf)
      (λ asked. WhereTold (tells shelf) (tells later) (AddsFronts old (taking (message_kept asked))))
      (λ asked. WhereTold (tells shelf) (tells later) (λ s t. KeepsOn old (taking (message_kept asked)) s.rows t.rows)) before after

  pub adds_turn : LeavesTurn → WhereTold (tells shelf) (tells later) (AddsTurn old before)
  adds_turn (inl same) = subst (λ b. WhereTold (tells shelf) (tells b) (AddsTurn old before)) (sym same.0)
      (told_same (AddsTurn old before) (tells shelf) (λ s. inl refl))
  adds_turn (inr some) = told_weaker (AddsFronts old (taking (message_kept some.0))) (AddsTurn old before) (tells shelf) (tells later)
      (λ s t adds. inr (some.0, some.1, some.2, adds)) some.3

  pub keeps_answered : LeavesTurn → WhereTold (tells shelf) (tells later) (KeepsWhatIsAnswered old before after)
  keeps_answered (inl same) = subst (λ b. WhereTold (tells shelf) (tells b) (KeepsWhatIsAnswered old before after)) (sym same.0)
      (told_unread old (tells shelf) before after same.1 same.2)
  keeps_answered (inr some) = by some.4
    where
      by : (after ≡ some.1) ⊎ (WhereTold (tells shelf) (tells later) (λ s t. KeepsOn old (taking (message_kept some.0)) s.rows t.rows)
          × ((h : History) → StandsFor old.producer h → AnswersSome PostsOut (keeping name) some.0 h some.1 after))
          → WhereTold (tells shelf) (tells later) (KeepsWhatIsAnswered old before after)
      by (inl same) = told_unanswered old some.0 (tells shelf) (tells later) before some.1 after some.2 same some.3
      by (inr has) = told_answered old some.0 (tells shelf) (tells later) before some.1 after some.2 has.0 has.1

  -- where all went well
  pub goes_kept : (mid : Kept) (was is : Tally) (f g : ℕ) → LeavesTurn
      → Goes name_in stands (λ name. Holding (HoldsIn tells) (TakesTurn post_alone PostsOut (keeping name)) old shelf mid later)
      (at_of old was before f) (at_of mid is after g)
      → GoesOnServing (at_of old was before f) (at_of mid is after g) (tells shelf) (tells later)
  goes_kept mid was is f g leaves goes = record {
    name = goes.keeps;
    goes = λ h s.
        let one = goes.goes h s in (
          one.0,
          one.1,
          one.2.0,
          told_some (AddsTurn old before) (tells shelf) (tells later) (λ s. Holds old s.rows h) (λ t. Holds mid t.rows one.0)
              (adds_turn leaves) one.2.1,
        );
  }

  -- whether it is closed or not
  pub goes_serving : (mid : Kept) (closed : Bool) (was is : Tally) (f g : ℕ) → LeavesTurn
      → Goes name_in stands (λ name. Holding (HoldsIn tells) (TakesTurn post_alone PostsOut (keeping name)) old shelf mid later)
      (at_of old was before f) (at_of mid is after g)
      → GoesOnServing (at_of old was before f) (at_of (record mid { is_closed = closed }) is after g) (tells shelf) (tells later)
  goes_serving mid closed was is f g leaves goes = record {
    name = goes.keeps;
    goes = λ h s.
        let one = (goes_kept mid was is f g leaves goes).goes h s in (
          one.0,
          one.1,
          one.2,
          told_weaker (λ s t. Holds old s.rows h → Holds mid t.rows one.0)
              (λ s t. Holds old s.rows h → Holds (record mid { is_closed = closed }) t.rows one.0) (tells shelf) (tells later)
              (λ s t on holds. let left = on holds in record { left = left.left; stands = left.stands; proper = left.proper }) one.3,
        );
  }
