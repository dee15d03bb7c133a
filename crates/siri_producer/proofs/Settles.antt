-- What a settle makes of a producer, and what it sends.
use Rattle.std.proofs.Common.{◌≡◌, ℕ, ◌+◌, ◌<◌, ◌≤◌, List, [], ◌∷◌, ◌++◌, length, slice_get, take, map, filter, inl, inr, Bool, true, cond, Option, None, Some, refl, sym, ap, ◌∙◌, subst, arith}
use Rattle.std.specs.Prelude.{option_map}
use Rattle.std.specs.List.{All}
use Rattle.std.proofs.lemmas.List.Elements.{All-nil, All-cons, All-head, All-tail}
use Rattle.std.proofs.lemmas.List.Sums.{fold-append}
use Rattle.std.proofs.lemmas.Option.{slice_get_cases}
use Rattle.siri_records.proofs.Placed.{take_at}
use Rattle.siri_records.specs.Keyed.{Items, KeyChange, living}
use Rattle.siri_life.specs.Life.{Outstanding}
use Rattle.siri_subs.specs.declared.entry.Row.{Row}
use Rattle.siri_subs.specs.Mapped.{mapped_row}
use Rattle.siri_store.specs.Marked.{Marked, SameFrom, is_since, keys_since}
use Rattle.siri_subs.specs.rounds.Wanted.{outstanding_carried}
use Rattle.siri_model.specs.Followed.{Followed, followed_after, followed_of, followed_settled, keys_apart, life_row, look_at, look_bounds, look_by, opens}
use Rattle.siri_model.specs.History.{Settle, History, State, now_of, current, state_of}
use Rattle.siri_model.specs.Lives.{table_of}
use Rattle.siri_model.specs.Rows as model
use Rattle.siri_model.specs.Rows.{rows_after, rows_of}
use Rattle.siri_model.proofs.Lawful.{direct_live}
use Rattle.siri_responder.specs.Known as responder
use Rattle.siri_responder.proofs.Stands.{stands_named}
use Rattle.siri_subscriptions.specs.declared.course.Course.{Course}
use Rattle.siri_subscriptions.specs.declared.course.Looked.{Looked}
use Rattle.siri_subscriptions.specs.Courses.{kept_row, kept_rows, KnowLevels}
use Rattle.siri_subscriptions.specs.declared.outs.Out.{Out}
use Rattle.siri_subscriptions.specs.Looked.{look_of, followed, followed_rows}
use Rattle.siri_subscriptions.specs.Sends as settle
use Rattle.siri_subscriptions.specs.Sends.{table_sends}
use Rattle.siri_subscriptions.specs.Settled.{look_now, settled_row}
use Rattle.siri_subscriptions.proofs.Carriage.{settled_carried}
use Rattle.siri_producer.specs.Known.{Known, StandsFor, Follows, GoesOn, SendsFor}
use Rattle.siri_producer.specs.Forgets.{number_by, numbers_after, oldest_of}
use Rattle.siri_producer.specs.Oldest.{older, oldest_look}
use Rattle.siri_producer.specs.Sends.{at_of, sends}
use Rattle.siri_producer.specs.Standing.{IsNumbered, AreNumbered, IsProducer, known_of, number_of, numbers_in}
use Rattle.siri_producer.proofs.Follows.{bounds_are, goes}
use Rattle.siri_producer.proofs.Stands.{goes_on, knows_settled, rows_settled_live, settled_live, table_sends_live, went}

-- ---- the oldest look

-- the number of a row's last look, where there was one, isn't below a number
abbrev pub IsFrom : ℕ → Row Course → Type 0
IsFrom oldest row = (looked : Looked) → row.slot.looked ≡ Some looked → oldest ≤ looked.number

older_below : (oldest : ℕ) (o : Option Looked) → older oldest o ≤ oldest
older_below oldest None = omega arith
older_below oldest (Some l) = omega arith

pub oldest_below : (most : ℕ) (rows : List (Row Course)) → oldest_look most rows ≤ most
oldest_below most [] = omega arith
oldest_below most (row ∷ rows) =
    omega (arith, older_below most row.slot.looked, oldest_below (older most row.slot.looked) rows)

older_from : (most : ℕ) (row : Row Course) (rows : List (Row Course))
    → IsFrom (oldest_look (older most row.slot.looked) rows) row
older_from most row rows = λ looked is.
    let below : oldest_look (older most row.slot.looked) rows ≤ older most (Some looked) =
    subst (λ o. oldest_look (older most row.slot.looked) rows ≤ older most o) is
    (oldest_below (older most row.slot.looked) rows) in
    omega (arith, below)

-- the least of the numbers
pub oldest_numbers : (most : ℕ) (rows : List (Row Course)) → oldest_look most rows ≡ oldest_of most (numbers_in rows)
oldest_numbers most [] = refl
oldest_numbers most (row ∷ rows) = oldest_numbers (older most row.slot.looked) rows

-- of one row more
pub oldest_next : (most place oldest new : ℕ) (table : List (Row Course)) (row : Row Course)
    → slice_get table place ≡ Some row
    → oldest ≡ oldest_look most (take place table) → new ≡ older oldest row.slot.looked
    → new ≡ oldest_look most (take (place + 1) table)
oldest_next most place oldest new table row at so_far is =
    is
    ∙ ap (λ n. older n row.slot.looked) so_far
    ∙ sym (ap (oldest_look most) (take_at table place row at)
    ∙ fold-append (λ (oldest : ℕ) (row : Row Course). older oldest row.slot.looked) most (take place table) (row ∷ []))

pub none_there : (table : List (Row Course)) (place : ℕ) → place < length table → None ≡ slice_get table place → ⊥
none_there table place lt none = elim (slice_get_cases table place).1 [
  | inl w ↦ absurd (cc (none ∙ w.2))
  | inr w ↦ absurd (omega (arith, w.0, lt))
]

pub oldest_from : (most : ℕ) (rows : List (Row Course)) → All (IsFrom (oldest_look most rows)) rows
oldest_from most [] = All-nil (IsFrom most)
oldest_from most (row ∷ rows) =
    let oldest = oldest_look (older most row.slot.looked) rows in
    All-cons (IsFrom oldest) row rows (older_from most row rows) (oldest_from (older most row.slot.looked) rows)

-- ---- the rows after a settle

-- what belongs to the lives
kept_settled : (now : ℕ) (items : Items) (next : ℕ) (rows : List (Row Course))
    → kept_rows (map (settled_row now items next) rows) ≡ map (model.settled_row now items) (kept_rows rows)
kept_settled now items next [] = refl
kept_settled now items next (row ∷ rows) = λ j.
    settled_carried now items next row j ∷ kept_settled now items next rows j

-- a look by the live items is one by the current ones
look_live : (now : ℕ) (items : Items) (row : Row Followed)
    → followed_settled now (living now items) row ≡ followed_settled now items row
look_live now items row =
    let kept = life_row row in
    let life = settled_live now items kept in
    let looks : look_at now (living now items) kept ≡ look_at now items kept =
    ap (λ direct. record {
      moment = now;
      touched = [];
      apart = cond (opens direct kept) [] (keys_apart row.wanted.slack kept.slot.rounds.acknowledged direct);
    }) (direct_live now items row.wanted.topic) in
    λ i. record row {
      slot = record { life = (life i).slot; look = look_by kept.slot.rounds.outstanding row.slot.look (looks i) };
    }

looks_live : (now : ℕ) (items : Items) (rows : List (Row Followed))
    → map (followed_settled now (living now items)) rows ≡ map (followed_settled now items) rows
looks_live now items [] = refl
looks_live now items (row ∷ rows) = λ i. look_live now items row i ∷ looks_live now items rows i

-- where marks before the oldest look went, and none is under the next number
module _ (known new : responder.Known) (oldest next : ℕ) (same : SameFrom oldest known.marks new.marks)
    (fresh : keys_since new.marks.log next ≡ []) where
  abbrev settled_now : Row Course → Row Course
  settled_now row = settled_row known.moment known.held next row

  look_settled : (row : Row Course) (o : Option (Outstanding Items (List KeyChange)))
      → ((l : Looked) → look_by o row.slot.looked (look_now known.moment known.held next row) ≡ Some l
      → oldest ≤ l.number)
      → option_map (look_of new.marks) (look_by o row.slot.looked (look_now known.moment known.held next row))
      ≡ look_by (option_map outstanding_carried o) (option_map (look_of known.marks) row.slot.looked)
      (look_at known.moment known.held (kept_row row))
  look_settled row None from = λ i. Some (record {
    moment = known.moment;
    touched = fresh i;
    apart = (look_at known.moment known.held (kept_row row)).apart;
  })
  look_settled row (Some outstanding) from = by row.slot.looked refl
    where
      by : (o : Option Looked) → row.slot.looked ≡ o
          → option_map (look_of new.marks) o ≡ option_map (look_of known.marks) o
      by None is = refl
      by (Some l) is = λ i. Some (record { moment = l.moment; touched = same l.number (from l is) i; apart = l.apart })

  row_settled : (row : Row Course) → IsFrom oldest (settled_now row)
      → mapped_row (followed new.marks) (settled_now row)
      ≡ followed_settled known.moment known.held (mapped_row (followed known.marks) row)
  row_settled row from =
      let life = settled_carried known.moment known.held next row in
      let look = look_settled row row.slot.rounds.outstanding from in
      λ i. record (mapped_row (followed known.marks) row) { slot = record { life = (life i).slot; look = look i } }

  pub rows_settled : (rows : List (Row Course)) → All (IsFrom oldest) (map settled_now rows)
      → followed_rows new.marks (map settled_now rows)
      ≡ map (followed_settled known.moment known.held) (followed_rows known.marks rows)
  rows_settled [] from = refl
  rows_settled (row ∷ rows) from = λ i.
      row_settled row (All-head (IsFrom oldest) (settled_now row) (map settled_now rows) from)
      i ∷ rows_settled rows (All-tail (IsFrom oldest) (settled_now row) (map settled_now rows) from) i

-- the next number is that of all looks of a settle
number_settled : (now : ℕ) (items : Items) (number next : ℕ) → number ≤ next → (row : Row Course)
    → IsNumbered number row
    → IsNumbered next (settled_row now items next row)
number_settled now items number next le row numbered = by row.slot.rounds.outstanding
  where
    by : (o : Option (Outstanding Items (List KeyChange))) → (looked : Looked)
        → look_by o row.slot.looked (look_now now items next row) ≡ Some looked → looked.number ≤ next
    by None looked is =
        let same : look_now now items next row ≡ looked = cc in
        subst (λ (l : Looked). l.number ≤ next) same (omega arith)
    by (Some outstanding) looked is = omega (arith, numbered looked is)

numbers_settled : (now : ℕ) (items : Items) (number next : ℕ) → number ≤ next → (rows : List (Row Course))
    → AreNumbered number rows
    → AreNumbered next (map (settled_row now items next) rows)
numbers_settled now items number next le [] numbered = All-nil (IsNumbered next)
numbers_settled now items number next le (row ∷ rows) numbered =
    All-cons (IsNumbered next) (settled_row now items next row) (map (settled_row now items next) rows)
    (number_settled now items number next le row (All-head (IsNumbered number) row rows numbered))
    (numbers_settled now items number next le rows (All-tail (IsNumbered number) row rows numbered))

-- the numbers of the looks after it
number_now : (now : ℕ) (items : Items) (next : ℕ) (row : Row Course)
    → (o : Option (Outstanding Items (List KeyChange)))
    → option_map number_of (look_by o row.slot.looked (look_now now items next row))
    ≡ number_by (option_map outstanding_carried o) (option_map number_of row.slot.looked) next
number_now now items next row None = refl
number_now now items next row (Some outstanding) = refl

numbers_now : (now : ℕ) (items : Items) (next : ℕ) (rows : List (Row Course))
    → numbers_in (map (settled_row now items next) rows) ≡ numbers_after next (kept_rows rows) (numbers_in rows)
numbers_now now items next [] = refl
numbers_now now items next (row ∷ rows) = λ i.
    number_now now items next row row.slot.rounds.outstanding i ∷ numbers_now now items next rows i

-- ---- the producer after it

-- what a producer forgot when it turned to the next number
pub record ForgotBy (next : ℕ) (old : Known) (known : responder.Known) (rows : List (Row Course)) : Type 0 where
  pub number : known.marks.number ≡ next
  pub numbers : numbers_in rows ≡ numbers_after next old.table old.numbers
  pub log : known.marks.log ≡ filter (is_since (oldest_of next (numbers_in rows))) old.responder.marks.log

-- neither the counter nor the marks matter
pub stands_marked : (old new : responder.Known) (h : History) → new ≡ record old { reads = new.reads; marks = new.marks }
    → responder.StandsFor old h → responder.StandsFor new h
stands_marked old new h is s =
    subst (λ (k : responder.Known). responder.StandsFor k h) (sym is)
    (stands_named old old.name new.reads new.marks h s)

rows_of_settle : (state : State) (rows : List (Row Followed))
    → map (followed_settled state.now state.current) rows ≡ followed_after state Settle rows
unfolding followed_after
rows_of_settle state rows = refl

-- a responder after a settle and the next number
pub record IsTurned (known new : responder.Known) (oldest : ℕ) : Type 0 where
  pub rest : new ≡ record known { reads = new.reads; marks = new.marks }
  pub number : new.marks.number ≡ known.marks.number + 1
  pub log : new.marks.log ≡ filter (is_since oldest) known.marks.log
  pub same : SameFrom oldest known.marks new.marks
  pub fresh : keys_since new.marks.log new.marks.number ≡ []

-- it looked, and then it turned
pub is_turned : (known mid new : responder.Known) (oldest : ℕ) → mid ≡ record known { reads = mid.reads }
    → new ≡ record mid { marks = new.marks } → new.marks.number ≡ mid.marks.number + 1
    → new.marks.log ≡ filter (is_since oldest) mid.marks.log → SameFrom oldest mid.marks new.marks
    → keys_since new.marks.log new.marks.number ≡ [] → IsTurned known new oldest
is_turned known mid new oldest looked turns number log same fresh =
    let marks : mid.marks ≡ known.marks = ap (λ (k : responder.Known). k.marks) looked in
    let reads : mid.reads ≡ new.reads = sym (ap (λ (k : responder.Known). k.reads) turns) in
    record {
      rest =
          turns
          ∙ ap (λ (k : responder.Known). record k { marks = new.marks }) looked
          ∙ ap (λ n. record known { reads = n; marks = new.marks }) reads;
      number = number ∙ ap (λ (m : Marked). m.number + 1) marks;
      log = log ∙ ap (λ (m : Marked). filter (is_since oldest) m.log) marks;
      same = subst (λ (m : Marked). SameFrom oldest m new.marks) marks same;
      fresh = fresh;
    }

module _ (known new : responder.Known) (rows after : List (Row Course)) (settled : Bool) (most : ℕ)
    (turned : IsTurned known new (oldest_look most after))
    (is : after ≡ map (settled_row known.moment known.held (known.marks.number + 1)) rows) where
  all_from : All (IsFrom (oldest_look most after))
      (map (settled_row known.moment known.held (known.marks.number + 1)) rows)
  all_from = subst (All (IsFrom (oldest_look most after))) is (oldest_from most after)

  fresh_next : keys_since new.marks.log (known.marks.number + 1) ≡ []
  fresh_next = ap (keys_since new.marks.log) (sym turned.number) ∙ turned.fresh

  stands_settled : (h : History) → StandsFor (known_of known rows settled) h
      → StandsFor (known_of new after true) (h ++ Settle ∷ [])
  unfolding rows_after
  stands_settled h s =
      let knows = s.responder in
      goes_on (known_of known rows settled) (known_of new after true) h Settle s
      (stands_marked known new (h ++ Settle ∷ []) turned.rest (knows_settled known h knows))
      (
      ap kept_rows is
      ∙ kept_settled known.moment known.held (known.marks.number + 1) rows
      ∙ (λ i. map (model.settled_row (knows.moment i) (knows.held i)) (kept_rows rows))
      ∙ rows_settled_live (now_of h) (current h) (kept_rows rows)
      ) refl

  followed_after_settle : (h : History) → StandsFor (known_of known rows settled) h
      → followed_rows new.marks after ≡ followed_after (state_of h) Settle (followed_rows known.marks rows)
  followed_after_settle h s =
      let knows = s.responder in
      ap (followed_rows new.marks) is
      ∙ rows_settled known new (oldest_look most after) (known.marks.number + 1) turned.same fresh_next rows all_from
      ∙ (λ i. map (followed_settled (knows.moment i) (knows.held i)) (followed_rows known.marks rows))
      ∙ looks_live (now_of h) (current h) (followed_rows known.marks rows)
      ∙ rows_of_settle (state_of h) (followed_rows known.marks rows)

  pub goes_settled : GoesOn (known_of known rows settled) (known_of new after true) Settle
  goes_settled = goes known new rows after settled true Settle stands_settled followed_after_settle

  -- what it forgets
  pub forgot : most ≡ known.marks.number + 1 → ForgotBy (known.marks.number + 1) (known_of known rows settled) new after
  forgot next = record {
    number = turned.number;
    numbers = ap numbers_in is ∙ numbers_now known.moment known.held (known.marks.number + 1) rows;
    log =
        turned.log
        ∙ ap (λ oldest. filter (is_since oldest) known.marks.log) (oldest_numbers most after
        ∙ ap (λ most. oldest_of most (numbers_in after)) next);
  }

  pub is_settled : IsProducer known rows settled → KnowLevels known.moment known.held after → IsProducer new after true
  is_settled was levels = record {
    follows = went (known_of known rows settled) (known_of new after true) Settle was.follows goes_settled;
    numbered = subst (λ n. AreNumbered n after) (sym turned.number)
        (subst (AreNumbered (known.marks.number + 1)) (sym is)
        (numbers_settled known.moment known.held known.marks.number (known.marks.number + 1)
        (omega arith) rows was.numbered));
    levels = λ e. subst (λ (k : responder.Known). KnowLevels k.moment k.held after) (sym turned.rest) levels;
  }

-- where only the counter is another
pub is_counted : (known new : responder.Known) (rows after : List (Row Course)) (settled : Bool)
    → new ≡ record known { reads = new.reads }
    → after ≡ rows → IsProducer known rows settled → IsProducer new after settled
is_counted known new rows after settled rest same is =
    subst (λ (k : responder.Known). IsProducer k after settled) (sym rest)
    (subst (λ rows. IsProducer (record known { reads = new.reads }) rows settled) (sym same) (record {
      follows = (
        is.follows.0,
        record {
          stands = record {
            responder = stands_marked known (record known { reads = new.reads }) is.follows.0 refl is.follows.1.stands.responder;
            table = is.follows.1.stands.table;
            settled = is.follows.1.stands.settled;
          };
          looks = is.follows.1.looks;
        },
      );
      numbered = is.numbered;
      levels = is.levels;
    }))

-- ---- how far the counter rises

pub bound_settled : (known : responder.Known) (rows : List (Row Course)) (settled : Bool) (reads : ℕ)
    → reads ≤ known.reads + look_bounds known.moment known.held (followed_rows known.marks rows)
    → (h : History) → Follows (known_of known rows settled) h
    → reads ≤ known.reads + look_bounds (now_of h) (living (now_of h) (current h)) (followed_of h)
bound_settled known rows settled reads bound h f =
    omega (arith, bound, bounds_are known rows settled h f)

-- seen from without
pub bound_seen : (known : responder.Known) (rows : List (Row Course)) (settled : Bool) (reads : ℕ) (old : Known)
    → known_of known rows settled ≡ old
    → reads ≤ known.reads + look_bounds known.moment known.held (followed_rows known.marks rows)
    → (h : History) → Follows old h
    → reads ≤ old.responder.reads + look_bounds (now_of h) (living (now_of h) (current h)) (followed_of h)
bound_seen known rows settled reads old view bound =
    subst (λ (k : Known). (h : History) → Follows k h
    → reads ≤ k.responder.reads + look_bounds (now_of h) (living (now_of h) (current h)) (followed_of h))
    view (bound_settled known rows settled reads bound)

-- ---- what it sends

pub sends_settled : (known : responder.Known) (rows : List (Row Course)) (settled : Bool) (outs : List Out)
    → outs ≡ table_sends (settle.at_of known) known.held (kept_rows rows) → SendsFor (known_of known rows settled) outs
unfolding sends
sends_settled known rows settled outs is = λ h s.
    let knows = s.responder in
    is
    ∙ (λ i. table_sends (record {
      producer = known.name;
      start = knows.start i;
      started = knows.started i;
      now = knows.moment i;
    }) (knows.held i) (s.table i))
    ∙ table_sends_live (at_of known.name h) (current h) (rows_of (table_of h))
