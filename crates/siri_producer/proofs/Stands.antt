-- A producer goes on standing for its history.
use Rattle.std.proofs.Common.{◌≡◌, ℕ, List, [], ◌∷◌, ◌++◌, map, take, Bool, false, not, Option, None, Some, Result, Ok, Err, refl, sym, ap, ◌∙◌, subst}
use Rattle.std.specs.Prelude.{OnOk, OnErr}
use Rattle.std.specs.Map.{keys_of}
use Rattle.std.proofs.lemmas.List.Elements.{All-filter, All-nil}
use Rattle.std.proofs.lemmas.Result.{on_err_weaker}
use Rattle.siri_records.specs.Keyed.{Items, dead_of, living}
use Rattle.siri_messages.specs.Rounds.{has_round}
use Rattle.siri_messages.specs.declared.deliveries.ServiceDelivery.{ServiceDelivery}
use Rattle.siri_messages.specs.declared.message.Message.{Message}
use Rattle.siri_messages.specs.declared.message.Message.TheVariants as message
use Rattle.siri_subs.specs.declared.entry.Row.{Row}
use Rattle.siri_subs.specs.Table.{expired, is_terminated}
use Rattle.siri_subs.proofs.Mapped.{expired_mapped}
use Rattle.siri_model.specs.Followed.{Followed, Look, followed_after, keys_dying, touch}
use Rattle.siri_model.specs.Remembered.{AreRemembered}
use Rattle.siri_model.specs.Last.{entry_key}
use Rattle.siri_model.specs.History.{Entry, Step, Start, Clock, Feed, Take, Settle, History, State, after_step, entries_fed, entries_of, state_of, now_of}
use Rattle.siri_model.specs.Lives.{is_settle, served_after, table_of}
use Rattle.siri_model.specs.Rows.{KeptLife, rows_after, rows_of, settled_row}
use Rattle.siri_model.proofs.Current.{last_appended}
use Rattle.siri_model.proofs.Histories.{rows_go_on}
use Rattle.siri_model.proofs.InOrder.{more_steps}
use Rattle.siri_model.proofs.Lawful.{direct_live}
use Rattle.siri_responder.specs.Known as responder
use Rattle.siri_responder.proofs.Stands.{stands_alike, stands_named}
use Rattle.siri_subscriptions.specs.declared.course.Course.{Course}
use Rattle.siri_subscriptions.specs.Courses.{kept, kept_rows}
use Rattle.siri_subscriptions.specs.Looked.{followed, followed_rows}
use Rattle.siri_subscriptions.specs.Sends.{At, row_sends, table_sends}
use Rattle.siri_producer.specs.Known.{Known, StandsFor, Follows, GoesOn, TookSome, looks_of}
use Rattle.siri_producer.specs.Standing.{IsNumbered, AreNumbered, IsProducer, known_of, looks_in}
use Rattle.siri_producer.proofs.Follows.{goes, rows_touched, still_numbered}

-- ---- one more step

pub goes_on : (old new : Known) (h : History) (step : Step) → StandsFor old h
    → responder.StandsFor new.responder (h ++ step ∷ []) → new.table ≡ rows_after (state_of h) step old.table
    → new.is_settled ≡ is_settle (Some step) → StandsFor new (h ++ step ∷ [])
goes_on old new h step s knows rows settled = record {
  responder = knows;
  table = rows ∙ ap (rows_after (state_of h) step) s.table ∙ sym (rows_go_on h step);
  settled = settled ∙ ap is_settle (sym (last_appended None h step));
}

-- ---- steps that bring no entry

-- the counter doesn't matter
pub stands_counted : (old new : responder.Known) (h : History) → new ≡ record old { reads = new.reads }
    → responder.StandsFor old h → responder.StandsFor new h
stands_counted old new h is s =
    subst (λ (k : responder.Known). responder.StandsFor k h) (sym is)
    (stands_named old old.name new.reads old.marks h s)

knows_same : (known : responder.Known) (h : History) (step : Step) → after_step (state_of h) step ≡ state_of h
    → responder.StandsFor known h → responder.StandsFor known (h ++ step ∷ [])
knows_same known h step same s = stands_alike known h (h ++ step ∷ []) (more_steps h step ∙ same) s

pub knows_settled : (known : responder.Known) (h : History) → responder.StandsFor known h
    → responder.StandsFor known (h ++ Settle ∷ [])
unfolding after_step
knows_settled known h s = knows_same known h Settle refl s

-- a message that is no feed
takes_nothing : (state : State) (m : Message) → entries_fed m ≡ [] → after_step state (Take m) ≡ state
unfolding after_step
takes_nothing state m none = rw none refl

pub knows_taken : (known : responder.Known) (h : History) (m : Message) → entries_fed m ≡ []
    → responder.StandsFor known h → responder.StandsFor known (h ++ Take m ∷ [])
knows_taken known h m none s = knows_same known h (Take m) (takes_nothing (state_of h) m none) s

-- a message that is a feed
pub fed_all : (d : ServiceDelivery) → has_round d ≡ false → entries_fed (message.ServiceDelivery d) ≡ entries_of d
fed_all d none = rw none refl

pub knows_fed : (known : responder.Known) (h : History) (m : Message)
    → responder.StandsFor known (h ++ Feed (entries_fed m) ∷ []) → responder.StandsFor known (h ++ Take m ∷ [])
unfolding after_step
knows_fed known h m s = stands_alike known (h ++ Feed (entries_fed m) ∷ []) (h ++ Take m ∷ [])
    (more_steps h (Take m) ∙ sym (more_steps h (Feed (entries_fed m)))) s

-- ---- what is held is what is shown of

-- a settle by the live items is one by the current items
pub settled_live : (now : ℕ) (items : Items) (row : Row KeptLife)
    → settled_row now (living now items) row ≡ settled_row now items row
settled_live now items row = rw (direct_live now items row.wanted.topic) refl

pub rows_settled_live : (now : ℕ) (items : Items) (rows : List (Row KeptLife))
    → map (settled_row now (living now items)) rows ≡ map (settled_row now items) rows
rows_settled_live now items [] = refl
rows_settled_live now items (row ∷ rows) = λ i. settled_live now items row i ∷ rows_settled_live now items rows i

sends_live : (at : At) (items : Items) (row : Row KeptLife)
    → row_sends at (living at.now items) row ≡ row_sends at items row
sends_live at items row = rw (direct_live at.now items row.wanted.topic) refl

pub table_sends_live : (at : At) (items : Items) (rows : List (Row KeptLife))
    → table_sends at (living at.now items) rows ≡ table_sends at items rows
table_sends_live at items [] = refl
table_sends_live at items (row ∷ rows) = λ i. sends_live at items row i ++ table_sends_live at items rows i

-- ---- what a step of the responder makes of the producer

-- some history goes on
pub went : (old new : Known) (step : Step) → ((h : History) × Follows old h) → GoesOn old new step
    → (h : History) × Follows new h
went old new step has goes = (has.0 ++ step ∷ [], goes.follows has.0 has.1)

-- a producer that isn't settled, whose rows are these
pub is_producer : (known : responder.Known) (rows : List (Row Course))
    → ((h : History) × Follows (known_of known rows false) h)
    → AreNumbered known.marks.number rows → IsProducer known rows false
is_producer known rows has numbered = record { follows = has; numbered = numbered; levels = λ e. absurd (cc) }

rows_started : (number moment : ℕ) → rows_of (table_of (Start number moment ∷ [])) ≡ []
unfolding served_after
rows_started number moment = refl

pub started : (known : responder.Known) (rows : List (Row Course)) (number moment : ℕ)
    → responder.StandsFor known (Start number moment ∷ []) → rows ≡ []
    → StandsFor (known_of known rows false) (Start number moment ∷ [])
started known rows number moment knows none = record {
  responder = knows;
  table = ap kept_rows none ∙ sym (rows_started number moment);
  settled = refl;
}

looks_started : (number moment : ℕ) → looks_of (Start number moment ∷ []) ≡ []
unfolding followed_after
looks_started number moment = refl

pub follows_started : (known : responder.Known) (rows : List (Row Course)) (number moment : ℕ)
    → responder.StandsFor known (Start number moment ∷ []) → rows ≡ []
    → Follows (known_of known rows false) (Start number moment ∷ [])
follows_started known rows number moment knows none = record {
  stands = started known rows number moment knows none;
  looks = subst (λ (looks : List (Option Look)). AreRemembered looks (looks_of (Start number moment ∷ [])))
      (sym (ap (looks_in known.marks) none))
      (subst (λ (looks : List (Option Look)). AreRemembered [] looks) (sym (looks_started number moment)) tt);
}

pub is_started : (known : responder.Known) (rows : List (Row Course)) (number moment : ℕ)
    → responder.StandsFor known (Start number moment ∷ []) → rows ≡ [] → IsProducer known rows false
is_started known rows number moment knows none =
    is_producer known rows (Start number moment ∷ [], follows_started known rows number moment knows none)
    (subst (AreNumbered known.marks.number) (sym none) (All-nil (IsNumbered known.marks.number)))

-- ---- the clock

rows_clocked : (rows after : List (Row Course)) (h : History) (moment now : ℕ) → now ≡ now_of (h ++ Clock moment ∷ [])
    → after ≡ expired now rows → kept_rows after ≡ rows_after (state_of h) (Clock moment) (kept_rows rows)
unfolding rows_after after_step
rows_clocked rows after h moment now is e =
    ap kept_rows e
    ∙ sym (expired_mapped kept now rows)
    ∙ ap (λ n. expired n (kept_rows rows)) (is ∙ ap (λ (s : State). s.now) (more_steps h (Clock moment)))

module _ (known new : responder.Known) (rows after : List (Row Course)) (moment now : ℕ) (is : now ≡ new.moment)
    (e : after ≡ expired now rows)
    (touches : responder.Touches known new (keys_of (dead_of new.moment known.held)))
    (numbered : AreNumbered known.marks.number rows) where
  left_numbered : AreNumbered known.marks.number after
  left_numbered = subst (AreNumbered known.marks.number) (sym e)
      (All-filter (λ h. not (is_terminated now h)) (IsNumbered known.marks.number) rows numbered)

  -- the keys of what died
  keys_clocked : (h : History) → responder.StandsFor known h → responder.StandsFor new (h ++ Clock moment ∷ [])
      → keys_of (dead_of new.moment known.held) ≡ keys_dying (state_of h) moment
  unfolding after_step
  keys_clocked h s knows =
      let later = knows.moment ∙ ap (λ (s : State). s.now) (more_steps h (Clock moment)) in
      λ i. keys_of (dead_of (later i) (s.held i))

  followed_clocked : (h : History) → responder.StandsFor known h → responder.StandsFor new (h ++ Clock moment ∷ [])
      → followed_rows new.marks after ≡ followed_after (state_of h) (Clock moment) (followed_rows known.marks rows)
  unfolding followed_after after_step
  followed_clocked h s knows =
      let later = is ∙ knows.moment ∙ ap (λ (s : State). s.now) (more_steps h (Clock moment)) in
      rows_touched known new (keys_of (dead_of new.moment known.held)) touches after left_numbered
      ∙ ap (λ keys. map (touch keys) (followed_rows known.marks after)) (keys_clocked h s knows)
      ∙ ap (λ rows. map (touch (keys_dying (state_of h) moment)) (followed_rows known.marks rows)) e
      ∙ ap (map (touch (keys_dying (state_of h) moment))) (sym (expired_mapped (followed known.marks) now rows))
      ∙ ap (λ n. map (touch (keys_dying (state_of h) moment)) (expired n (followed_rows known.marks rows))) later

  pub goes_clocked : (settled : Bool) → responder.GoesOn known new (Clock moment)
      → GoesOn (known_of known rows settled) (known_of new after false) (Clock moment)
  goes_clocked settled responds = goes known new rows after settled false (Clock moment)
      (λ h s.
      let knows = responds h s.responder in
      goes_on (known_of known rows settled) (known_of new after false) h (Clock moment) s knows
      (rows_clocked rows after h moment now (is ∙ knows.moment) e) refl)
      (λ h s. followed_clocked h s.responder (responds h s.responder))

  pub is_clocked : (settled : Bool) → responder.GoesOn known new (Clock moment)
      → ((h : History) × Follows (known_of known rows settled) h) → IsProducer new after false
  is_clocked settled responds has = is_producer new after
      (went (known_of known rows settled) (known_of new after false) (Clock moment) has (goes_clocked settled responds))
      (still_numbered known new (keys_of (dead_of new.moment known.held)) touches after left_numbered)

-- ---- a feed

rows_fed : (rows : List (Row KeptLife)) (state : State) (entries : List Entry)
    → rows ≡ rows_after state (Feed entries) rows
unfolding rows_after
rows_fed rows state entries = refl

followed_fed : (state : State) (entries : List Entry) (rows : List (Row Followed))
    → map (touch (map entry_key entries)) rows ≡ followed_after state (Feed entries) rows
unfolding followed_after
followed_fed state entries rows = refl

module _ (known new : responder.Known) (rows : List (Row Course)) (settled : Bool)
    (numbered : AreNumbered known.marks.number rows) where
  pub goes_fed : (entries : List Entry) → responder.GoesOn known new (Feed entries)
      → responder.Touches known new (map entry_key entries)
      → GoesOn (known_of known rows settled) (known_of new rows false) (Feed entries)
  goes_fed entries responds touches = goes known new rows rows settled false (Feed entries)
      (λ h s. goes_on (known_of known rows settled) (known_of new rows false) h (Feed entries) s
      (responds h s.responder)
      (rows_fed (kept_rows rows) (state_of h) entries) refl)
      (λ h s. rows_touched known new (map entry_key entries) touches rows numbered
      ∙ followed_fed (state_of h) entries (followed_rows known.marks rows))

  pub took_fed : (entries : List Entry) → responder.TookSome known new entries
      → TookSome (known_of known rows settled) (known_of new rows false) entries
  took_fed entries some = (some.n, goes_fed (take some.n entries) some.goes_on some.touched)

  is_fed_with : (entries : List Entry) → ((h : History) × Follows (known_of known rows settled) h)
      → responder.GoesOn known new (Feed entries) → responder.Touches known new (map entry_key entries)
      → IsProducer new rows false
  is_fed_with entries has responds touches = is_producer new rows
      (went (known_of known rows settled) (known_of new rows false) (Feed entries) has
      (goes_fed entries responds touches))
      (still_numbered known new (map entry_key entries) touches rows numbered)

  pub is_fed : {T E : Type 0} (result : Result T E) (entries : List Entry)
      → ((h : History) × Follows (known_of known rows settled) h)
      → OnOk result (responder.GoesOn known new (Feed entries))
      → OnOk result (responder.Touches known new (map entry_key entries))
      → OnErr result (responder.TookSome known new entries) → IsProducer new rows false
  is_fed (Ok value) entries has ok touches err = is_fed_with entries has ok touches
  is_fed (Err error) entries has ok touches err = is_fed_with (take err.n entries) has err.goes_on err.touched

-- seen from without
module _ {T E : Type 0} (known new : responder.Known) (rows : List (Row Course)) (settled : Bool)
    (numbered : AreNumbered known.marks.number rows)
    (result : Result T E) (old : Known) (entries : List Entry) (view : known_of known rows settled ≡ old) where
  pub fed_ok : OnOk result (responder.GoesOn known new (Feed entries))
      → OnOk result (responder.Touches known new (map entry_key entries))
      → OnOk result (GoesOn old (known_of new rows false) (Feed entries))
  fed_ok = by result
    where
      by : (r : Result T E) → OnOk r (responder.GoesOn known new (Feed entries))
          → OnOk r (responder.Touches known new (map entry_key entries))
          → OnOk r (GoesOn old (known_of new rows false) (Feed entries))
      by (Ok value) goes touches = subst (λ (k : Known). GoesOn k (known_of new rows false) (Feed entries)) view
          (goes_fed known new rows settled numbered entries goes touches)
      by (Err error) goes touches = tt

  pub fed_some : OnErr result (responder.TookSome known new entries)
      → OnErr result (TookSome old (known_of new rows false) entries)
  fed_some = on_err_weaker result (λ some. subst (λ (k : Known). TookSome k (known_of new rows false) entries) view
      (took_fed known new rows settled numbered entries some))
