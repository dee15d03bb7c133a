-- Steps that leave what a shelf keeps of a history: settles, and messages that change no row.
use Rattle.std.specs.Prelude.{⊤, if◌then◌else◌}
use Rattle.std.proofs.Common.{◌≡◌, ℕ, List, [], ◌∷◌, ◌++◌, map, Bool, true, false, Option, None, Some, Result, Ok, Err, refl, sym, ap, ◌∙◌, subst, append_assoc}
use Rattle.std.specs.List.{AllByRecursion as All}
use Rattle.siri_records.specs.Keyed.{living}
use Rattle.siri_tables.specs.Refusals.{Refusal}
use Rattle.siri_messages.specs.declared.message.Message.{Message}
use Rattle.siri_messages.specs.declared.message.Message.TheVariants as message
use Rattle.siri_model.specs.Held.{held_of, helds_of}
use Rattle.siri_model.specs.History.{History, Settle, State, Step, Take, after_step, state_of}
use Rattle.siri_model.specs.Lives.{table_of}
use Rattle.siri_producer.specs.Known.{StandsFor}
use Rattle.siri_http.specs.declared.asked.Asked.{Asked}
use Rattle.siri_http.specs.declared.asked.Asked.TheVariants as asked
use Rattle.siri_ends.specs.Responses.{message_asked, message_in, turn_steps}
use Rattle.siri_ends.specs.Serving.{acknowledging, after_acknowledging}
use Rattle.siri_outside.specs.Rows.{Rows}
use Rattle.siri_wire.specs.Documents.{message_of}
use Rattle.siri_wire.specs.laws.ProperMessages.{IsProper}
use Rattle.siri_wire.proofs.ProperReadMessages.{document_proper}
use Rattle.siri_keeping.specs.Keeps.{IsProperStep, Keeps, KeepsThese}
use Rattle.siri_keeping.specs.Subscribed.{is_about_rounds, leaves_held}
use Rattle.siri_keeping.proofs.Helds.{helds_stay, state_more}
use Rattle.siri_keep.specs.declared.kept.Kept.{Kept}
use Rattle.siri_keep.specs.Calls.{Left}
use Rattle.siri_keep.specs.Puts.{changes_rows}
use Rattle.siri_keep.specs.Serving.{has_long_asked, message_kept}
use Rattle.siri_keep.proofs.Making.{rowless_feeds, taken_nothing}
use Rattle.siri_keep.proofs.Steps.{left_as, proper_more}

-- what is kept of one history is what is kept of the other, whose further steps are proper
pub record SameKept (h later : History) : Type 0 where
  pub state : state_of later ≡ state_of h
  pub helds : helds_of (table_of later) ≡ helds_of (table_of h)
  pub proper : All IsProperStep h → All IsProperStep later

pub same_none : (h : History) → SameKept h h
same_none h = record { state = refl; helds = refl; proper = λ all. all }

pub same_then : (a b c : History) → SameKept a b → SameKept b c → SameKept a c
same_then a b c first next = record {
  state = next.state ∙ first.state;
  helds = next.helds ∙ first.helds;
  proper = λ all. next.proper (first.proper all);
}

same_step : (h : History) (step : Step) → leaves_held step ≡ true → after_step (state_of h) step ≡ state_of h → IsProperStep step
    → SameKept h (h ++ step ∷ [])
same_step h step leaves same proper = record {
  state = state_more h step ∙ same;
  helds = helds_stay h step leaves;
  proper = λ all. proper_more h step all proper;
}

settled : (state : State) → after_step state Settle ≡ state
unfolding after_step
settled state = refl

pub same_settled : (h : History) → SameKept h (h ++ Settle ∷ [])
same_settled h = same_step h Settle refl (settled (state_of h)) tt

rowless_about : (m : Message) → changes_rows m ≡ false → is_about_rounds m ≡ true
rowless_about (message.SubscriptionRequest r) none = absurd (cc none)
rowless_about (message.TerminateSubscriptionRequest r) none = absurd (cc none)
rowless_about (message.DataSupplyRequest r) none = rw none refl
rowless_about other none = refl

pub same_taken : (h : History) (m : Message) → IsProper m → changes_rows m ≡ false → SameKept h (h ++ Take m ∷ [])
same_taken h m proper none =
    same_step h (Take m) (rowless_about m none) (taken_nothing (state_of h) m (rowless_feeds m none)) proper

-- what is left depends on these alone
pub left_same : (old new : Kept) (rows : Rows) (h later : History) → StandsFor old.producer h → StandsFor new.producer later
    → SameKept h later → new.producer.responder.name ≡ old.producer.responder.name → new.mirror ≡ old.mirror
    → new.places ≡ old.places → Left old rows → Left new rows
left_same old new rows h later s t same name mirror places left = left_as old new rows name
    (t.responder.moment ∙ ap (λ (x : State). x.now) same.state ∙ sym s.responder.moment)
    (t.responder.start ∙ ap (λ (x : State). x.start) same.state ∙ sym s.responder.start)
    (t.responder.held ∙ ap (λ (x : State). living x.now x.current) same.state ∙ sym s.responder.held)
    mirror places (ap (map held_of) t.table ∙ same.helds ∙ sym (ap (map held_of) s.table)) left

pub keeps_same : (name : List ℕ) (rows : Rows) (h later : History) → SameKept h later → Keeps name rows h → Keeps name rows later
keeps_same name rows h later same k = record {
  kept = k.kept;
  places = k.places;
  these = subst (λ (x : State). KeepsThese name x.now x.start (living x.now x.current) k.kept k.places (helds_of (table_of later)) rows)
      (sym same.state)
      (subst (λ helds. KeepsThese name (state_of h).now (state_of h).start (living (state_of h).now (state_of h).current) k.kept k.places helds rows)
      (sym same.helds) k.these);
  proper = same.proper k.proper;
}

-- ---- messages that were read are proper

abbrev pub IsProperIf : Option Message → Type 0
IsProperIf None = ⊤
IsProperIf (Some m) = IsProper m

in_proper : (document : List ℕ) (r : Result Message Refusal) → message_of document ≡ r → IsProperIf (message_in r)
in_proper document (Ok m) is = document_proper document m is
in_proper document (Err refusal) is = tt

pub asked_proper : (asked : Asked) → IsProperIf (message_asked asked)
unfolding message_asked
asked_proper (asked.Posted body) = in_proper body (message_of body) refl
asked_proper other = tt

pub kept_proper : (asked : Asked) → IsProperIf (message_kept asked)
kept_proper asked = by (has_long_asked asked)
  where
    by : (long : Bool) → IsProperIf (if long then None else message_asked asked)
    by true = tt
    by false = asked_proper asked

pub brought_proper : (asked : Asked) (m : Message) → message_asked asked ≡ Some m → IsProper m
brought_proper asked m is = subst IsProperIf is (asked_proper asked)

-- so are the steps of a turn
pub turn_proper : (h : History) (m : Option Message) → IsProperIf m → All IsProperStep h → All IsProperStep (h ++ turn_steps m)
turn_proper h None proper all = proper_more h Settle all tt
turn_proper h (Some m) proper all = subst (All IsProperStep) (append_assoc h (Take m ∷ []) (Settle ∷ []))
    (proper_more (h ++ Take m ∷ []) Settle (proper_more h (Take m) all proper) tt)

-- ---- what is heard

pub heard_kept : (h : History) (m : Message) → IsProper m → SameKept h (after_acknowledging (acknowledging m) h)
heard_kept h (message.DataReceivedAcknowledgement a) proper =
    let ack : Message = message.DataReceivedAcknowledgement a in
    subst (SameKept h) (append_assoc h (Take ack ∷ []) (Settle ∷ []))
    (same_then h (h ++ Take ack ∷ []) ((h ++ Take ack ∷ []) ++ Settle ∷ []) (same_taken h ack proper refl)
    (same_settled (h ++ Take ack ∷ [])))
heard_kept h other proper = same_none h
