-- What a producer knows of the last looks goes on with its history.
use Rattle.std.proofs.Common.{◌≡◌, ◌≤◌, List, [], ◌∷◌, ◌++◌, map, Bool, Option, None, Some, refl, sym, ap, ◌∙◌, subst}
use Rattle.std.specs.Prelude.{option_map}
use Rattle.std.proofs.lemmas.List.Elements.{All-nil, All-cons, All-head, All-tail}
use Rattle.siri_records.specs.declared.key.Key.{Key}
use Rattle.siri_records.specs.Keyed.{Items, living}
use Rattle.siri_subs.specs.declared.entry.Row.{Row}
use Rattle.siri_subs.specs.Mapped.{mapped_row}
use Rattle.siri_store.specs.Marked.{Marked}
use Rattle.siri_model.specs.Followed.{Followed, Look, followed_after, followed_of, life_row, look_bounds, touch, touched_look}
use Rattle.siri_model.specs.History.{Step, History, state_of, now_of, current}
use Rattle.siri_model.specs.Remembered.{IsRemembered, AreRemembered}
use Rattle.siri_model.specs.Rows.{KeptLife}
use Rattle.siri_model.specs.laws.Followed.{HoldsBy, LookHolds, RowHolds, AllHold}
use Rattle.siri_model.proofs.Current.{few_live}
use Rattle.siri_model.proofs.FactsHold.{facts_hold}
use Rattle.siri_model.proofs.FollowedRows.{are_the_rows, go_on}
use Rattle.siri_model.proofs.Remembered.{bounds_within, remembered_after}
use Rattle.siri_responder.specs.Known as responder
use Rattle.siri_subscriptions.specs.declared.course.Course.{Course}
use Rattle.siri_subscriptions.specs.declared.course.Looked.{Looked}
use Rattle.siri_subscriptions.specs.Courses.{kept, kept_row, kept_rows}
use Rattle.siri_subscriptions.specs.Looked.{look_of, followed, followed_rows, FollowsBy, RowFollows, AllFollow}
use Rattle.siri_producer.specs.Known.{StandsFor, Follows, GoesOn, looks_of}
use Rattle.siri_producer.specs.Standing.{IsNumbered, AreNumbered, IsProducer, known_of, looks_in}

-- ---- rows with their last looks

abbrev look_in : Row Followed → Option Look
look_in row = row.slot.look

row_same : (a b : Row Followed) → life_row a ≡ life_row b → look_in a ≡ look_in b → a ≡ b
row_same a b life look = λ i. record {
  wanted = (life i).wanted;
  number = (life i).number;
  base = (life i).base;
  address = (life i).address;
  beat = (life i).beat;
  slot = record { life = (life i).slot; look = look i };
}

-- rows with the same lives and the same looks are the same
pub rows_same : (xs ys : List (Row Followed)) → map life_row xs ≡ map life_row ys → map look_in xs ≡ map look_in ys
    → xs ≡ ys
rows_same [] [] lives looks = refl
rows_same [] (y ∷ ys) lives looks = absurd (cc)
rows_same (x ∷ xs) [] lives looks = absurd (cc)
rows_same (x ∷ xs) (y ∷ ys) lives looks =
    let life : life_row x ≡ life_row y = cc in
    let look : look_in x ≡ look_in y = cc in
    let rest = rows_same xs ys (cc) (cc) in
    λ i. row_same x y life look i ∷ rest i

pub lives_in : (marks : Marked) (rows : List (Row Course)) → map life_row (followed_rows marks rows) ≡ kept_rows rows
lives_in marks [] = refl
lives_in marks (row ∷ rows) = ap (λ l. kept_row row ∷ l) (lives_in marks rows)

pub looks_are : (marks : Marked) (rows : List (Row Course))
    → map look_in (followed_rows marks rows) ≡ looks_in marks rows
looks_are marks [] = refl
looks_are marks (row ∷ rows) = ap (λ l. option_map (look_of marks) row.slot.looked ∷ l) (looks_are marks rows)

-- the rows that a producer keeps have the lives of the followed ones of a history that it follows, and what is remembered of
-- their looks
module _ (known : responder.Known) (rows : List (Row Course)) (settled : Bool) (h : History)
    (f : Follows (known_of known rows settled) h) where
  pub lives_are : map life_row (followed_rows known.marks rows) ≡ map life_row (followed_of h)
  lives_are = lives_in known.marks rows ∙ f.stands.table ∙ sym (are_the_rows h)

  pub remembered : AreRemembered (map look_in (followed_rows known.marks rows)) (map look_in (followed_of h))
  remembered = subst (λ (looks : List (Option Look)). AreRemembered looks (map look_in (followed_of h)))
      (sym (looks_are known.marks rows)) f.looks

-- ---- one more step

looks_go_on : (known new : responder.Known) (rows after : List (Row Course)) (settled : Bool) (h : History)
    (step : Step)
    → followed_rows new.marks after ≡ followed_after (state_of h) step (followed_rows known.marks rows)
    → Follows (known_of known rows settled) h → AreRemembered (looks_in new.marks after) (looks_of (h ++ step ∷ []))
looks_go_on known new rows after settled h step is f =
    let looks : map look_in (followed_after (state_of h) step (followed_rows known.marks rows)) ≡ looks_in new.marks after =
    ap (map look_in) (sym is) ∙ looks_are new.marks after in
    subst (λ (ls : List (Option Look)). AreRemembered ls (looks_of (h ++ step ∷ []))) looks
    (subst (λ (all : List (Row Followed)).
    AreRemembered (map look_in (followed_after (state_of h) step (followed_rows known.marks rows))) (map look_in all))
    (sym (go_on h step))
    (remembered_after (state_of h) step (followed_rows known.marks rows) (followed_of h)
    (lives_are known rows settled h f) (remembered known rows settled h f)))

-- it stands for its history, and the followed rows change as the step says
pub goes : (known new : responder.Known) (rows after : List (Row Course)) (settled later : Bool) (step : Step)
    → ((h : History) → StandsFor (known_of known rows settled) h
    → StandsFor (known_of new after later) (h ++ step ∷ []))
    → ((h : History) → StandsFor (known_of known rows settled) h
    → followed_rows new.marks after ≡ followed_after (state_of h) step (followed_rows known.marks rows))
    → GoesOn (known_of known rows settled) (known_of new after later) step
goes known new rows after settled later step stands is = record {
  stands = stands;
  follows = λ h f. record {
    stands = stands h f.stands;
    looks = looks_go_on known new rows after settled h step
        (is h f.stands) f;
  };
}

-- ---- keys are touched

module _ (old new : responder.Known) (keys : List Key) (touches : responder.Touches old new keys) where
  look_touched : (l : Looked) → l.number ≤ old.marks.number
      → look_of new.marks l ≡ touched_look keys (look_of old.marks l)
  look_touched l le = λ i. record { moment = l.moment; touched = touches.touched l.number le i; apart = l.apart }

  row_touched : (row : Row Course) → IsNumbered old.marks.number row
      → mapped_row (followed new.marks) row ≡ touch keys (mapped_row (followed old.marks) row)
  row_touched row numbered =
      ap (λ look. record (mapped_row (followed old.marks) row) { slot = record { life = kept row.slot; look = look } })
      (by row.slot.looked refl)
    where
      by : (o : Option Looked) → row.slot.looked ≡ o
          → option_map (look_of new.marks) o ≡ option_map (touched_look keys) (option_map (look_of old.marks) o)
      by None e = refl
      by (Some l) e = ap Some (look_touched l (numbered l e))

  pub rows_touched : (rows : List (Row Course)) → AreNumbered old.marks.number rows
      → followed_rows new.marks rows ≡ map (touch keys) (followed_rows old.marks rows)
  rows_touched [] numbered = refl
  rows_touched (row ∷ rows) numbered = λ i.
      row_touched row (All-head (IsNumbered old.marks.number) row rows numbered)
      i ∷ rows_touched rows (All-tail (IsNumbered old.marks.number) row rows numbered) i

  pub still_numbered : (rows : List (Row Course)) → AreNumbered old.marks.number rows
      → AreNumbered new.marks.number rows
  still_numbered rows numbered = subst (λ n. AreNumbered n rows) (sym touches.number) numbered

-- none is touched
touched_none : (o : Option Look) → option_map (touched_look []) o ≡ o
touched_none None = refl
touched_none (Some look) = refl

pub untouched : (rows : List (Row Followed)) → map (touch []) rows ≡ rows
untouched [] = refl
untouched (row ∷ rows) = λ i.
    record row { slot = record row.slot { look = touched_none row.slot.look i } } ∷ untouched rows i

-- ---- the two facts

follows_row : (known : responder.Known) (row : Row Course) (look : Option Look) → IsNumbered known.marks.number row
    → IsRemembered (option_map (look_of known.marks) row.slot.looked) look
    → HoldsBy known.moment known.held row.wanted (kept row.slot).rounds look → RowFollows known row
follows_row known row look numbered is holds = by row.slot.looked refl look is holds
  where
    by : (o : Option Looked) → row.slot.looked ≡ o → (look : Option Look)
        → IsRemembered (option_map (look_of known.marks) o) look
        → HoldsBy known.moment known.held row.wanted (kept row.slot).rounds look → FollowsBy known row o
    by None e look is holds = tt
    by (Some looked) e None is holds = absurd is
    by (Some looked) e (Some look) is holds =
        let its : LookHolds known.moment known.held row.wanted (kept row.slot).rounds (look_of known.marks looked) =
        subst (LookHolds known.moment known.held row.wanted (kept row.slot).rounds) (sym is) holds in
        record { number = numbered looked e; facts = its.facts; used_up = its.used_up; some_opened = its.some_opened }

rows_follow : (known : responder.Known) (rows : List (Row Course)) (all : List (Row Followed))
    → AreNumbered known.marks.number rows
    → map life_row (followed_rows known.marks rows) ≡ map life_row all
    → AreRemembered (map look_in (followed_rows known.marks rows)) (map look_in all)
    → AllHold known.moment known.held all → AllFollow known rows
rows_follow known [] all numbered lives are hold = All-nil (RowFollows known)
rows_follow known (row ∷ rows) [] numbered lives are hold = absurd are
rows_follow known (row ∷ rows) (one ∷ all) numbered lives are hold =
    let life : kept_row row ≡ life_row one = cc in
    let holds = RowHolds known.moment known.held in
    let its : HoldsBy known.moment known.held row.wanted (kept row.slot).rounds one.slot.look =
    subst (λ (l : Row KeptLife). HoldsBy known.moment known.held l.wanted l.slot.rounds one.slot.look) (sym life)
    (All-head holds one all hold) in
    All-cons (RowFollows known) row rows
    (follows_row known row one.slot.look (All-head (IsNumbered known.marks.number) row rows numbered) are.0 its)
    (rows_follow known rows all (All-tail (IsNumbered known.marks.number) row rows numbered) (cc) are.1
    (All-tail holds one all hold))

-- they hold of what a producer keeps
pub all_follow : (known : responder.Known) (rows : List (Row Course)) (settled : Bool) → IsProducer known rows settled
    → AllFollow known rows
all_follow known rows settled is =
    let h = is.follows.0 in
    let f = is.follows.1 in
    let knows = f.stands.responder in
    rows_follow known rows (followed_of h) is.numbered (lives_are known rows settled h f) (remembered known rows settled h f)
    (subst (λ now. AllHold now known.held (followed_of h)) (sym knows.moment)
    (subst (λ (held : Items). AllHold (now_of h) held (followed_of h)) (sym knows.held) (facts_hold h)))

-- ---- how many stored items a settle may read

pub bounds_are : (known : responder.Known) (rows : List (Row Course)) (settled : Bool) (h : History)
    → Follows (known_of known rows settled) h
    → look_bounds known.moment known.held (followed_rows known.marks rows)
    ≤ look_bounds (now_of h) (living (now_of h) (current h)) (followed_of h)
bounds_are known rows settled h f =
    let knows = f.stands.responder in
    let live = living (now_of h) (current h) in
    subst (λ now. look_bounds now known.held (followed_rows known.marks rows) ≤ look_bounds (now_of h) live (followed_of h))
    (sym knows.moment)
    (subst (λ (held : Items). look_bounds (now_of h) held (followed_rows known.marks rows) ≤ look_bounds (now_of h) live (followed_of h))
    (sym knows.held)
    (bounds_within (now_of h) live (few_live h) (followed_rows known.marks rows) (followed_of h)
    (lives_are known rows settled h f) (remembered known rows settled h f)))
