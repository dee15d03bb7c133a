-- The followed rows after a message about subscriptions, by what is noted of them.
use Rattle.std.proofs.Common.{◌≡◌, ℕ, ◌≤◌, List, [], ◌∷◌, map, Bool, true, false, cond, Option, None, Some, refl, sym, ap, ◌∙◌, subst}
use Rattle.std.specs.Prelude.{option_map}
use Rattle.std.specs.List.{All}
use Rattle.std.proofs.lemmas.List.Elements.{All-nil, All-cons, All-head, All-tail, All-map}
use Rattle.siri_messages.specs.Asked.{AskedFor, asked_in}
use Rattle.siri_messages.specs.declared.message.Message.TheVariants as message
use Rattle.siri_messages.specs.declared.subscriptions.SubscriptionRequest.{SubscriptionRequest}
use Rattle.siri_messages.specs.declared.supplies.DataReceivedAcknowledgement.{DataReceivedAcknowledgement}
use Rattle.siri_messages.specs.declared.supplies.DataSupplyRequest.{DataSupplyRequest}
use Rattle.siri_messages.specs.declared.supplies.Mark.{Mark}
use Rattle.siri_messages.specs.declared.terminations.TerminateSubscriptionRequest.{TerminateSubscriptionRequest}
use Rattle.siri_life.specs.Named.{Name}
use Rattle.siri_store.specs.Marked.{Marked}
use Rattle.siri_subs.specs.declared.entry.Row.{Row}
use Rattle.siri_subs.specs.Mapped.{mapped_row, with_mapped_slots}
use Rattle.siri_subs.specs.Table.{is_of}
use Rattle.siri_model.specs.Followed as followed
use Rattle.siri_model.specs.Followed.{Followed, keeps_looks, lifted}
use Rattle.siri_model.specs.Rows as taken
use Rattle.siri_model.specs.Rows.{KeptLife, acknowledged_row, rows_acknowledged, rows_taken, supplied_row}
use Rattle.siri_model.specs.Steps as steps
use Rattle.siri_model.specs.Steps.{renewed_row, with_row_of}
use Rattle.siri_model.specs.Lives.{mark_of}
use Rattle.siri_model.proofs.AllRows.{accepted_all, ended_all, one_all, renewed_all}
use Rattle.siri_model.proofs.Carried.{asked_carried, ended_carried, one_carried, renewed_carried}
use Rattle.siri_model.proofs.FollowedRows.{taken_lives}
use Rattle.siri_subscriptions.specs.declared.course.Course.{Course}
use Rattle.siri_subscriptions.specs.declared.course.Looked.{Looked}
use Rattle.siri_subscriptions.specs.Courses.{kept_rows}
use Rattle.siri_subscriptions.specs.Looked.{look_of, followed_rows}
use Rattle.siri_subscriptions.specs.Noted.{Noted, looked_in, new_noted, noted, noted_anew, noted_asked, noted_ended}
use Rattle.siri_subscriptions.specs.Noted.{noted_renewed, noted_rows}
use Rattle.siri_subscriptions.specs.Supplies.{rows_supplied}
use Rattle.siri_producer.specs.Standing.{AreNumbered, looks_in}
use Rattle.siri_producer.proofs.Follows.{lives_in, looks_are, rows_same}

all_unmapped : {X Y : Type 0} (P : X → Type 0) (f : Y → X) (ys : List Y) → All P (map f ys) → All (λ y. P (f y)) ys
all_unmapped P f [] all = All-nil (λ y. P (f y))
all_unmapped P f (y ∷ ys) all =
    All-cons (λ y. P (f y)) y ys (All-head P (f y) (map f ys) all)
    (all_unmapped P f ys (All-tail P (f y) (map f ys) all))

-- the number of a last look, where there was one, isn't above a number
abbrev IsUpTo : ℕ → Option Looked → Type 0
IsUpTo number o = (looked : Looked) → o ≡ Some looked → looked.number ≤ number

-- ---- by rows with what is noted

abbrev follow : Marked → Noted → Followed
follow marks n = record { life = n.life; look = option_map (look_of marks) n.look }

followed_noted : (marks : Marked) (rows : List (Row Course))
    → followed_rows marks rows ≡ with_mapped_slots (follow marks) (noted_rows rows)
followed_noted marks [] = refl
followed_noted marks (row ∷ rows) =
    ap (λ l. mapped_row (follow marks) (mapped_row noted row) ∷ l) (followed_noted marks rows)

-- what begins is followed as it is noted
begun_alike : (marks : Marked) (now : ℕ) (asked : AskedFor) → follow marks (noted_anew now asked) ≡ keeps_looks.begun now asked
begun_alike marks now asked = refl

module _ (marks : Marked) (start now : ℕ) (rows after : List (Row Course)) where
  pub renewed_followed : (r : DataSupplyRequest) → r.all_data ≡ true
      → noted_rows after ≡ noted_renewed now r.extensions.number r.extensions.round r.consumer_ref
      r.extensions.subscription (noted_rows rows)
      → followed_rows marks after
      ≡ followed.rows_taken start now (message.DataSupplyRequest r) (followed_rows marks rows)
  unfolding followed.rows_taken
  renewed_followed r all is =
      let m = r.extensions in
      let from = renewed_row noted_anew now m.number m.round in
      let to = renewed_row keeps_looks.begun now m.number m.round in
      followed_noted marks after
      ∙ ap (with_mapped_slots (follow marks)) is
      ∙ one_carried (follow marks) from to
      (renewed_carried (follow marks) noted_anew keeps_looks.begun (begun_alike marks) now m.number m.round)
      r.consumer_ref m.subscription (noted_rows rows)
      ∙ ap (with_row_of r.consumer_ref m.subscription to) (sym (followed_noted marks rows))
      ∙ ap (λ all. steps.rows_supplied keeps_looks start now all r.consumer_ref m (followed_rows marks rows)) (sym all)

  pub asked_followed : (r : SubscriptionRequest)
      → noted_rows after ≡ noted_asked now r.message_identifier (asked_in r) (noted_rows rows)
      → followed_rows marks after
      ≡ followed.rows_taken start now (message.SubscriptionRequest r) (followed_rows marks rows)
  unfolding followed.rows_taken
  asked_followed r is =
      followed_noted marks after
      ∙ ap (with_mapped_slots (follow marks)) is
      ∙ asked_carried (follow marks) noted_anew keeps_looks.begun (begun_alike marks) now r.message_identifier (asked_in r)
      (noted_rows rows)
      ∙ ap (steps.rows_asked keeps_looks.begun now r.message_identifier (asked_in r)) (sym (followed_noted marks rows))

  pub ended_followed : (r : TerminateSubscriptionRequest)
      → noted_rows after ≡ noted_ended r.message_identifier r.subscriber_ref r.subscription_ref (noted_rows rows)
      → followed_rows marks after
      ≡ followed.rows_taken start now (message.TerminateSubscriptionRequest r) (followed_rows marks rows)
  unfolding followed.rows_taken
  ended_followed r is =
      followed_noted marks after
      ∙ ap (with_mapped_slots (follow marks)) is
      ∙ ended_carried (follow marks) r.message_identifier r.subscriber_ref r.subscription_ref (noted_rows rows)
      ∙ ap (steps.rows_ended r.message_identifier r.subscriber_ref r.subscription_ref) (sym (followed_noted marks rows))

-- the numbers of the looks
abbrev IsNotedUpTo : ℕ → Row Noted → Type 0
IsNotedUpTo number row = IsUpTo number row.slot.look

module _ (number : ℕ) (rows after : List (Row Course)) (numbered : AreNumbered number rows) where
  all_noted : All (IsNotedUpTo number) (noted_rows rows)
  all_noted = All-map (IsNotedUpTo number) (mapped_row noted) rows numbered

  numbered_by : (changed : List (Row Noted)) → noted_rows after ≡ changed → All (IsNotedUpTo number) changed
      → AreNumbered number after
  numbered_by changed is all =
      all_unmapped (IsNotedUpTo number) (mapped_row noted) after (subst (All (IsNotedUpTo number)) (sym is) all)

  pub asked_numbered : (now own : ℕ) (asked : List AskedFor)
      → noted_rows after ≡ noted_asked now own asked (noted_rows rows) → AreNumbered number after
  asked_numbered now own asked is = numbered_by (noted_asked now own asked (noted_rows rows)) is
      (accepted_all (IsNotedUpTo number) now (new_noted now own) (λ wanted looked none. absurd (cc)) asked
      (noted_rows rows) all_noted)

  pub ended_numbered : (own : ℕ) (subscriber : Name) (identifiers : List Name)
      → noted_rows after ≡ noted_ended own subscriber identifiers (noted_rows rows) → AreNumbered number after
  ended_numbered own subscriber identifiers is =
      numbered_by (noted_ended own subscriber identifiers (noted_rows rows)) is
      (ended_all (IsNotedUpTo number) own subscriber identifiers (noted_rows rows) all_noted)

  pub renewed_numbered : (now own base : ℕ) (subscriber identifier : Name)
      → noted_rows after ≡ noted_renewed now own base subscriber identifier (noted_rows rows) → AreNumbered number after
  renewed_numbered now own base subscriber identifier is =
      numbered_by (noted_renewed now own base subscriber identifier (noted_rows rows)) is
      (one_all (IsNotedUpTo number) (renewed_row noted_anew now own base)
      (renewed_all (IsNotedUpTo number) noted_anew now own base (λ row looked none. absurd (cc)))
      subscriber identifier (noted_rows rows) all_noted)

  -- where the looks stay
  pub looked_numbered : looked_in after ≡ looked_in rows → AreNumbered number after
  looked_numbered same = all_unmapped (IsUpTo number) (λ (row : Row Course). row.slot.looked) after
      (subst (All (IsUpTo number)) (sym same)
      (All-map (IsUpTo number) (λ (row : Row Course). row.slot.looked) rows numbered))

-- ---- by what is kept of the lives, where the looks stay

looks_by : (marks : Marked) (rows : List (Row Course))
    → looks_in marks rows ≡ map (option_map (look_of marks)) (looked_in rows)
looks_by marks [] = refl
looks_by marks (row ∷ rows) = ap (λ l. option_map (look_of marks) row.slot.looked ∷ l) (looks_by marks rows)

lifted_look : (change : Row KeptLife → Row KeptLife) (b : Bool) (row : Row Followed)
    → (cond b (lifted change row) row).slot.look ≡ row.slot.look
lifted_look change true row = refl
lifted_look change false row = refl

one_looks : (subscriber identifier : Name) (change : Row KeptLife → Row KeptLife) (rows : List (Row Followed))
    → map (λ row. row.slot.look) (with_row_of subscriber identifier (lifted change) rows)
    ≡ map (λ row. row.slot.look) rows
one_looks subscriber identifier change [] = refl
one_looks subscriber identifier change (row ∷ rows) = λ i.
    lifted_look change (is_of subscriber identifier row) row i ∷ one_looks subscriber identifier change rows i

acknowledged_looks : (start now : ℕ) (status : Bool) (consumer : Option Name) (mark : Option Mark)
    (rows : List (Row Followed))
    → map (λ row. row.slot.look) (steps.rows_acknowledged keeps_looks start now status consumer mark rows)
    ≡ map (λ row. row.slot.look) rows
acknowledged_looks start now true (Some consumer) (Some mark) rows =
    one_looks consumer mark.subscription (acknowledged_row start now (mark_of mark)) rows
acknowledged_looks start now true (Some consumer) None rows = refl
acknowledged_looks start now true None mark rows = refl
acknowledged_looks start now false consumer mark rows = refl

module _ (marks : Marked) (start now : ℕ) (rows after : List (Row Course))
    (same : looked_in after ≡ looked_in rows) where
  looks_stay : map (λ row. row.slot.look) (followed_rows marks after)
      ≡ map (λ row. row.slot.look) (followed_rows marks rows)
  looks_stay =
      looks_are marks after
      ∙ looks_by marks after
      ∙ ap (map (option_map (look_of marks))) same
      ∙ sym (looks_by marks rows)
      ∙ sym (looks_are marks rows)

  pub acknowledged_followed : (a : DataReceivedAcknowledgement)
      → kept_rows after ≡ rows_acknowledged start now a.status a.consumer_ref a.extensions (kept_rows rows)
      → followed_rows marks after
      ≡ followed.rows_taken start now (message.DataReceivedAcknowledgement a) (followed_rows marks rows)
  unfolding followed.rows_taken rows_taken
  acknowledged_followed a is =
      let m = message.DataReceivedAcknowledgement a in
      let before = followed_rows marks rows in
      rows_same (followed_rows marks after) (followed.rows_taken start now m before)
      (lives_in marks after ∙ is ∙ ap (rows_taken start now m) (sym (lives_in marks rows))
      ∙ sym (taken_lives start now m before))
      (looks_stay ∙ sym (acknowledged_looks start now a.status a.consumer_ref a.extensions before))

  pub supplied_followed : (r : DataSupplyRequest) → r.all_data ≡ false
      → kept_rows after ≡ rows_supplied start now r.consumer_ref r.extensions (kept_rows rows)
      → followed_rows marks after
      ≡ followed.rows_taken start now (message.DataSupplyRequest r) (followed_rows marks rows)
  unfolding followed.rows_taken rows_taken
  supplied_followed r part is =
      let m = message.DataSupplyRequest r in
      let before = followed_rows marks rows in
      rows_same (followed_rows marks after) (followed.rows_taken start now m before)
      (lives_in marks after
      ∙ (is ∙ ap (λ all. taken.rows_supplied start now all r.consumer_ref r.extensions (kept_rows rows)) (sym part))
      ∙ ap (rows_taken start now m) (sym (lives_in marks rows))
      ∙ sym (taken_lives start now m before))
      (looks_stay ∙ sym (one_looks r.consumer_ref r.extensions.subscription
      (supplied_row start now (mark_of r.extensions)) before)
      ∙ ap (λ all. map (λ row. row.slot.look) (steps.rows_supplied keeps_looks start now all r.consumer_ref r.extensions before))
      (sym part))
