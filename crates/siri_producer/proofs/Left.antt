-- What is left of the marks and the last looks once there are too many marks.
use Rattle.std.proofs.Common.{◌≡◌, ℕ, add-one, ◌+◌, ◌<◌, ◌≤◌, zero, suc, List, [], ◌∷◌, ◌++◌, length, map, filter, min, nat_le, nat_lt, inl, inr, Bool, true, false, cond, not, Option, None, Some, is_some, refl, sym, ap, ◌∙◌, subst, arith, slice_get}
use Rattle.std.specs.Prelude.{option_map, IfSome}
use Rattle.std.specs.List.{All}
use Rattle.std.proofs.lemmas.List.Elements.{All-nil, All-cons, All-head, All-tail}
use Rattle.std.proofs.lemmas.List.Filters.{length-filter_both}
use Rattle.std.proofs.lemmas.Option.{slice_get_cases}
use Rattle.siri_records.specs.declared.key.Key.{Key}
use Rattle.siri_records.specs.Keyed.{Items, most_live}
use Rattle.siri_records.specs.KeyLists.{in_order}
use Rattle.siri_store.specs.Marked.{Marked, IsLast, SameFrom, is_since, keys_since, last_of_each}
use Rattle.siri_store.proofs.Marking.{later_stay}
use Rattle.siri_subs.specs.declared.entry.Row.{Row}
use Rattle.siri_subs.specs.Loans.{with_slot}
use Rattle.siri_model.specs.Followed.{Look}
use Rattle.siri_model.specs.History.{Step, History}
use Rattle.siri_model.specs.Remembered.{IsRemembered, AreRemembered}
use Rattle.siri_responder.specs.Known as responder
use Rattle.siri_subscriptions.specs.declared.course.Course.{Course}
use Rattle.siri_subscriptions.specs.declared.course.Looked.{Looked}
use Rattle.siri_subscriptions.specs.Courses.{kept_row, kept_rows, KnowsLevel, KnowLevels}
use Rattle.siri_subscriptions.specs.Looked.{look_of}
use Rattle.siri_producer.specs.Forgets.{Forgets, are_many, most_marks, number_left, numbers_after, oldest_of}
use Rattle.siri_producer.specs.Known.{Known, StandsFor, Follows, GoesOn, looks_of}
use Rattle.siri_producer.specs.Leaving.{Leaves, LeavesBy, Stays, course_left, look_left, row_left}
use Rattle.siri_producer.specs.Oldest.{older, oldest_look}
use Rattle.siri_producer.specs.Standing.{IsNumbered, AreNumbered, IsProducer, known_of, looks_in, number_of, numbers_in}
use Rattle.siri_producer.proofs.Settles.{ForgotBy, IsFrom, IsTurned, oldest_below, oldest_from, oldest_numbers, stands_marked}

abbrev Mark : Type 0
Mark = ℕ × Key

-- ---- row by row

pub none_there : (table : List (Row Course)) (place : ℕ) → place < length table
    → None ≡ option_map (λ (row : Row Course). row.slot) (slice_get table place) → ⊥
none_there table place lt none = elim (slice_get_cases table place).1 [
  | inl w ↦ absurd (cc (none ∙ ap (option_map (λ (row : Row Course). row.slot)) w.2))
  | inr w ↦ absurd (omega (arith, w.0, lt))
]

module _ (log : List Mark) where
  -- the rows before a place were gone over, those from there on are as they were
  abbrev pub AreLeft : (old : List (Row Course)) → (place : ℕ) → (table : List (Row Course)) → Type 0
  AreLeft old zero table = table ≡ old
  AreLeft (row ∷ old) (suc place) (left ∷ table) = (left ≡ row_left log row) × AreLeft old place table
  AreLeft [] (suc place) table = ⊥
  AreLeft (row ∷ old) (suc place) [] = ⊥

  left_more : (old : List (Row Course)) (place : ℕ) (table : List (Row Course)) (course : Course) → AreLeft old place table
      → option_map (λ (row : Row Course). row.slot) (slice_get table place) ≡ Some course
      → AreLeft old (suc place) (with_slot table place (course_left log course))
  left_more [] zero [] course so_far at = absurd (cc at)
  left_more [] zero (same ∷ table) course so_far at = absurd (cc so_far)
  left_more [] (suc place) table course so_far at = absurd so_far
  left_more (row ∷ old) zero [] course so_far at = absurd (cc at)
  left_more (row ∷ old) zero (same ∷ table) course so_far at =
      let is : same ≡ row = cc so_far in
      let slot : course ≡ row.slot = cc in
      let rest : table ≡ old = cc so_far in
      ((λ j. record (is j) { slot = course_left log (slot j) }), rest)
  left_more (row ∷ old) (suc place) [] course so_far at = absurd so_far
  left_more (row ∷ old) (suc place) (left ∷ table) course so_far at = (so_far.0, left_more old place table course so_far.1 at)

  pub left_next : (old : List (Row Course)) (place : ℕ) (table : List (Row Course)) (course : Course) → AreLeft old place table
      → option_map (λ (row : Row Course). row.slot) (slice_get table place) ≡ Some course
      → AreLeft old (place + 1) (with_slot table place (course_left log course))
  left_next old place table course so_far at = rw add-one (left_more old place table course so_far at)

  pub all_left : (old : List (Row Course)) (place : ℕ) (table : List (Row Course)) → length old ≤ place → AreLeft old place table
      → table ≡ map (row_left log) old
  all_left [] zero table all so_far = so_far
  all_left [] (suc place) table all so_far = absurd so_far
  all_left (row ∷ old) zero table all so_far = absurd (omega (arith, all))
  all_left (row ∷ old) (suc place) [] all so_far = absurd so_far
  all_left (row ∷ old) (suc place) (left ∷ table) all so_far = λ j.
      so_far.0 j ∷ all_left old place table (omega (arith, all)) so_far.1 j

  pub as_long : (old : List (Row Course)) (place : ℕ) (table : List (Row Course)) → AreLeft old place table
      → length table ≡ length old
  as_long old zero table so_far = ap length so_far
  as_long [] (suc place) table so_far = absurd so_far
  as_long (row ∷ old) (suc place) [] so_far = absurd so_far
  as_long (row ∷ old) (suc place) (left ∷ table) so_far = ap suc (as_long old place table so_far.1)

  -- what belongs to the lives stays
  kept_left : (rows : List (Row Course)) → kept_rows (map (row_left log) rows) ≡ kept_rows rows
  kept_left [] = refl
  kept_left (row ∷ rows) = ap (λ l. kept_row row ∷ l) (kept_left rows)

  -- no look gets a later number
  numbered_left : (most : ℕ) (row : Row Course) → IsNumbered most row → IsNumbered most (row_left log row)
  numbered_left most row numbered = by row.slot.looked refl
    where
      gone : (b : Bool) (l looked : Looked) → cond b None (Some l) ≡ Some looked → l ≡ looked
      gone true l looked is = absurd (cc is)
      gone false l looked is = cc is

      by : (o : Option Looked) → row.slot.looked ≡ o → (looked : Looked) → look_left log o ≡ Some looked → looked.number ≤ most
      by None e looked is = absurd (cc is)
      by (Some l) e looked is =
          subst (λ (x : Looked). x.number ≤ most) (gone (nat_le most_live (length (filter (is_since l.number) log))) l looked is)
          (numbered l e)

  all_numbered_left : (most : ℕ) (rows : List (Row Course)) → AreNumbered most rows → AreNumbered most (map (row_left log) rows)
  all_numbered_left most [] numbered = All-nil (IsNumbered most)
  all_numbered_left most (row ∷ rows) numbered =
      All-cons (IsNumbered most) (row_left log row) (map (row_left log) rows)
      (numbered_left most row (All-head (IsNumbered most) row rows numbered))
      (all_numbered_left most rows (All-tail (IsNumbered most) row rows numbered))

  levels_left : (now : ℕ) (items : Items) (rows : List (Row Course)) → KnowLevels now items rows
      → KnowLevels now items (map (row_left log) rows)
  levels_left now items [] levels = All-nil (KnowsLevel now items)
  levels_left now items (row ∷ rows) levels =
      All-cons (KnowsLevel now items) (row_left log row) (map (row_left log) rows)
      (All-head (KnowsLevel now items) row rows levels)
      (levels_left now items rows (All-tail (KnowsLevel now items) row rows levels))

  -- the numbers of the looks that are left
  number_if : (b : Bool) (l : Looked) → option_map number_of (cond b None (Some l)) ≡ cond b None (Some l.number)
  number_if true l = refl
  number_if false l = refl

  number_is : (o : Option Looked) → option_map number_of (look_left log o) ≡ number_left log (option_map number_of o)
  number_is None = refl
  number_is (Some l) = number_if (nat_le most_live (length (filter (is_since l.number) log))) l

  numbers_are : (rows : List (Row Course)) → numbers_in (map (row_left log) rows) ≡ map (number_left log) (numbers_in rows)
  numbers_are [] = refl
  numbers_are (row ∷ rows) = λ i. number_is row.slot.looked i ∷ numbers_are rows i

  -- ---- few marks are left

  abbrev count : ℕ → ℕ
  count number = length (filter (is_since number) log)

  min_case : (P : ℕ → Type 0) (a b : ℕ) → P a → P b → P (min a b)
  min_case P a b here there = by (nat_le a b) refl
    where
      by : (b0 : Bool) → nat_le a b ≡ b0 → P (min a b)
      by true is =
          let le : a ≤ b = grind (arith, is) in
          let same : a ≡ min a b = omega (arith, le) in
          subst P same here
      by false is =
          let less : b < a = grind (arith, is) in
          let same : b ≡ min a b = omega (arith, less) in
          subst P same there

  few_older : (most : ℕ) (o : Option Looked) → count most ≤ most_live → count (older most (look_left log o)) ≤ most_live
  few_older most None few = few
  few_older most (Some l) few = by (nat_le most_live (count l.number)) refl
    where
      by : (b : Bool) → nat_le most_live (count l.number) ≡ b → count (older most (cond b None (Some l))) ≤ most_live
      by true is = few
      by false is =
          let less : count l.number ≤ most_live = grind (arith, is) in
          min_case (λ n. count n ≤ most_live) most l.number few less

  pub few_left : (most : ℕ) (rows : List (Row Course)) → count most ≤ most_live
      → count (oldest_look most (map (row_left log) rows)) ≤ most_live
  few_left most [] few = few
  few_left most (row ∷ rows) few = few_left (older most (look_left log row.slot.looked)) rows (few_older most row.slot.looked few)

-- ---- where these marks stand in the place of those that there were

module _ (first last : Marked) (more : ℕ) (is : IsLast first more last) (known new : responder.Known)
    (rows after : List (Row Course)) (oldest : ℕ) (same : SameFrom oldest first known.marks) (from : All (IsFrom oldest) rows)
    (left : LeavesBy last known new rows after) where
  abbrev later : ℕ
  later = oldest_look known.marks.number after

  from_later : All (IsFrom later) (map (row_left last.log) rows)
  from_later = subst (All (IsFrom later)) left.table (oldest_from known.marks.number after)

  -- from the oldest look that is left on the same keys are marked
  keys_left : (n : ℕ) → oldest ≤ n → later ≤ n → keys_since new.marks.log n ≡ keys_since known.marks.log n
  keys_left n old le =
      ap (λ (log : List Mark). keys_since log n) left.log
      ∙ (ap (λ (log : List Mark). in_order (map (λ mark. mark.1) log)) (later_stay later n last.log le)
      ∙ (is.same n (omega arith) ∙ sym (same n old)))

  remembered_left : (o : Option Looked) (look : Option Look) → ((l : Looked) → o ≡ Some l → oldest ≤ l.number)
      → ((l : Looked) → look_left last.log o ≡ Some l → later ≤ l.number)
      → IsRemembered (option_map (look_of known.marks) o) look
      → IsRemembered (option_map (look_of new.marks) (look_left last.log o)) look
  remembered_left None look old le has = has
  remembered_left (Some l) None old le has = absurd has
  remembered_left (Some l) (Some look) old le has = by (nat_le most_live (length (filter (is_since l.number) last.log))) refl le
    where
      by : (b : Bool) → nat_le most_live (length (filter (is_since l.number) last.log)) ≡ b
          → ((k : Looked) → cond b None (Some l) ≡ Some k → later ≤ k.number)
          → IsRemembered (option_map (look_of new.marks) (cond b None (Some l))) (Some look)
      by true many le =
          let touched : keys_since known.marks.log l.number ≡ keys_since first.log l.number = same l.number (old l refl) in
          let all : length (keys_since known.marks.log l.number) ≡ length (filter (is_since l.number) last.log) =
          ap length touched ∙ sym (is.once l.number) in
          let enough : most_live ≤ length (filter (is_since l.number) last.log) = grind (arith, many) in
          subst (λ (x : Look). most_live ≤ length x.touched) has (omega (arith, all, enough))
      by false few le =
          (λ i. record { moment = l.moment; touched = keys_left l.number (old l refl) (le l refl) i; apart = l.apart }) ∙ has

  remembered_rows : (some : List (Row Course)) (looks : List (Option Look)) → All (IsFrom oldest) some
      → All (IsFrom later) (map (row_left last.log) some) → AreRemembered (looks_in known.marks some) looks
      → AreRemembered (looks_in new.marks (map (row_left last.log) some)) looks
  remembered_rows [] [] old le are = tt
  remembered_rows [] (look ∷ looks) old le are = absurd are
  remembered_rows (row ∷ some) [] old le are = absurd are
  remembered_rows (row ∷ some) (look ∷ looks) old le are = (
    remembered_left row.slot.looked look (All-head (IsFrom oldest) row some old)
        (All-head (IsFrom later) (row_left last.log row) (map (row_left last.log) some) le) are.0,
    remembered_rows some looks (All-tail (IsFrom oldest) row some old)
        (All-tail (IsFrom later) (row_left last.log row) (map (row_left last.log) some) le) are.1,
  )

  -- the marks alone are others
  marks_alone : new ≡ record known { reads = new.reads; marks = new.marks }
  marks_alone =
      let reads : known.reads ≡ new.reads = sym (ap (λ (k : responder.Known). k.reads) left.rest) in
      left.rest ∙ (λ i. record known { reads = reads i; marks = new.marks })

  stands_by : (settled : Bool) (h : History) → StandsFor (known_of known rows settled) h → StandsFor (known_of new after settled) h
  stands_by settled h s = record {
    responder = stands_marked known new h marks_alone s.responder;
    table = ap kept_rows left.table ∙ kept_left last.log rows ∙ s.table;
    settled = s.settled;
  }

  follows_by : (settled : Bool) (h : History) → Follows (known_of known rows settled) h → Follows (known_of new after settled) h
  follows_by settled h f = record {
    stands = stands_by settled h f.stands;
    looks = subst (λ (rows : List (Row Course)). AreRemembered (looks_in new.marks rows) (looks_of h)) (sym left.table)
        (remembered_rows rows (looks_of h) from from_later f.looks);
  }

-- ---- or there are none

-- how a producer leaves what it is asked for no more, once it has turned
pub record IsLeaving (first : Marked) (last : Option Marked) (oldest : ℕ) (known new : responder.Known)
    (rows after : List (Row Course)) : Type 0 where
  pub some : is_some last ≡ nat_lt most_marks (length first.log)
  pub more : ℕ
  pub lasting : IfSome last (IsLast first more)
  pub same : SameFrom oldest first known.marks
  pub low : oldest ≤ known.marks.number
  pub from : All (IsFrom oldest) rows
  pub fresh : keys_since known.marks.log known.marks.number ≡ []
  pub leaves : Leaves last known new rows after

-- so it does after a turn
pub leaving : (known new left : responder.Known) (rows after : List (Row Course)) (most : ℕ) (last : Option Marked)
    → IsTurned known new (oldest_look most rows) → most ≡ known.marks.number + 1
    → is_some last ≡ nat_lt most_marks (length known.marks.log)
    → IfSome last (IsLast known.marks (length known.held)) → Leaves last new left rows after
    → IsLeaving known.marks last (oldest_look most rows) new left rows after
leaving known new left rows after most last turned next some lasting leaves = record {
  some = some;
  more = length known.held;
  lasting = lasting;
  same = turned.same;
  low = omega (arith, oldest_below most rows, next, turned.number);
  from = oldest_from most rows;
  fresh = turned.fresh;
  leaves = leaves;
}

few_passing : (p : Mark → Bool) (log : List Mark) → length (filter p log) ≤ length log
few_passing p log = omega (arith, length-filter_both p (λ x. not (p x)) (λ x. refl) log)

module _ (first : Marked) (oldest : ℕ) (known new : responder.Known) (rows after : List (Row Course)) where
  abbrev Leaving : Option Marked → Type 0
  Leaving last = IsLeaving first last oldest known new rows after

  same_known : (settled : Bool) → Stays known new rows after → known_of known rows settled ≡ known_of new after settled
  same_known settled stays = λ i. known_of (sym stays.responder i) (sym stays.table i) settled

  pub stands_left : (last : Option Marked) → Leaving last → (settled : Bool) (h : History)
      → StandsFor (known_of known rows settled) h → StandsFor (known_of new after settled) h
  stands_left None l settled h s = subst (λ (k : Known). StandsFor k h) (same_known settled l.leaves) s
  stands_left (Some last) l settled h s =
      stands_by first last l.more l.lasting known new rows after oldest l.same l.from l.leaves settled h s

  pub follows_left : (last : Option Marked) → Leaving last → (settled : Bool) (h : History)
      → Follows (known_of known rows settled) h → Follows (known_of new after settled) h
  follows_left None l settled h f = subst (λ (k : Known). Follows k h) (same_known settled l.leaves) f
  follows_left (Some last) l settled h f =
      follows_by first last l.more l.lasting known new rows after oldest l.same l.from l.leaves settled h f

  pub goes_left : (last : Option Marked) → Leaving last → (settled : Bool) (old : Known) (step : Step)
      → GoesOn old (known_of known rows settled) step → GoesOn old (known_of new after settled) step
  goes_left last l settled old step goes = record {
    stands = λ h s. stands_left last l settled (h ++ step ∷ []) (goes.stands h s);
    follows = λ h f. follows_left last l settled (h ++ step ∷ []) (goes.follows h f);
  }

  numbered_after : (last : Option Marked) → Leaving last → AreNumbered known.marks.number rows
      → AreNumbered new.marks.number after
  numbered_after None l numbered =
      subst (λ (k : responder.Known). AreNumbered k.marks.number after) (sym l.leaves.responder)
      (subst (AreNumbered known.marks.number) (sym l.leaves.table) numbered)
  numbered_after (Some last) l numbered =
      subst (λ n. AreNumbered n after) (sym l.leaves.number)
      (subst (AreNumbered known.marks.number) (sym l.leaves.table) (all_numbered_left last.log known.marks.number rows numbered))

  levels_after : (last : Option Marked) → Leaving last → KnowLevels known.moment known.held rows
      → KnowLevels new.moment new.held after
  levels_after None l levels =
      subst (λ (k : responder.Known). KnowLevels k.moment k.held after) (sym l.leaves.responder)
      (subst (KnowLevels known.moment known.held) (sym l.leaves.table) levels)
  levels_after (Some last) l levels =
      subst (λ (k : responder.Known). KnowLevels k.moment k.held after) (sym l.leaves.rest)
      (subst (KnowLevels known.moment known.held) (sym l.leaves.table) (levels_left last.log known.moment known.held rows levels))

  pub is_left : (last : Option Marked) → Leaving last → IsProducer known rows true → IsProducer new after true
  is_left last l was = record {
    follows = (was.follows.0, follows_left last l true was.follows.0 was.follows.1);
    numbered = numbered_after last l was.numbered;
    levels = λ e. levels_after last l (was.levels e);
  }

  pub reads_left : (last : Option Marked) → Leaving last → new.reads ≡ known.reads
  reads_left None l = ap (λ (k : responder.Known). k.reads) l.leaves.responder
  reads_left (Some last) l = ap (λ (k : responder.Known). k.reads) l.leaves.rest

  pub name_left : (last : Option Marked) → Leaving last → new.name ≡ known.name
  name_left None l = ap (λ (k : responder.Known). k.name) l.leaves.responder
  name_left (Some last) l = ap (λ (k : responder.Known). k.name) l.leaves.rest

  -- what it forgets in all
  module _ (old : Known) (marks : old.responder.marks ≡ first) (forgot : ForgotBy (old.responder.marks.number + 1) old known rows) where
    abbrev next : ℕ
    next = old.responder.marks.number + 1

    log_is : old.responder.marks.log ≡ first.log
    log_is = ap (λ (m : Marked). m.log) marks

    pub forgets_left : (last : Option Marked) → Leaving last → Forgets old (known_of new after true)
    forgets_left None l =
        let many : are_many old.responder.marks.log ≡ false = ap are_many log_is ∙ sym l.some in
        let numbers : numbers_in after ≡ numbers_in rows = ap numbers_in l.leaves.table in
        let log : new.marks.log ≡ filter (is_since (oldest_of next (numbers_in after))) old.responder.marks.log =
        ap (λ (k : responder.Known). k.marks.log) l.leaves.responder ∙ forgot.log
        ∙ ap (λ numbers. filter (is_since (oldest_of next numbers)) old.responder.marks.log) (sym numbers) in
        let few : length old.responder.marks.log ≤ most_marks = grind (arith, many) in
        record {
          number = ap (λ (k : responder.Known). k.marks.number) l.leaves.responder ∙ forgot.number;
          numbers = rw many (numbers ∙ forgot.numbers);
          log = rw many log;
          few = omega (
            arith,
            few,
            ap length log,
            few_passing (is_since (oldest_of next (numbers_in after))) old.responder.marks.log,
          );
        }
    forgets_left (Some last) l =
        let many : are_many old.responder.marks.log ≡ true = ap are_many log_is ∙ sym l.some in
        let lasting : last.log ≡ last_of_each old.responder.marks.log = l.lasting.log ∙ ap last_of_each (sym log_is) in
        let left = l.leaves in
        let numbers : numbers_in after ≡ map (number_left (last_of_each old.responder.marks.log)) (numbers_after next old.table old.numbers) =
        ap numbers_in left.table ∙ numbers_are last.log rows ∙ (λ i. map (number_left (lasting i)) (forgot.numbers i)) in
        let log : new.marks.log ≡ filter (is_since (oldest_of next (numbers_in after))) (last_of_each old.responder.marks.log) =
        left.log ∙ (λ i. filter (is_since (oldest_look (forgot.number i) after)) (lasting i))
        ∙ ap (λ n. filter (is_since n) (last_of_each old.responder.marks.log)) (oldest_numbers next after) in
        let none : length (filter (is_since known.marks.number) last.log) ≡ 0 =
        l.lasting.once known.marks.number ∙ ap length (sym (l.same known.marks.number l.low) ∙ l.fresh) in
        let few : length (filter (is_since (oldest_look known.marks.number after)) last.log) ≤ most_live =
        subst (λ (rows : List (Row Course)). length (filter (is_since (oldest_look known.marks.number rows)) last.log) ≤ most_live)
        (sym left.table) (few_left last.log known.marks.number rows (omega (arith, none))) in
        record {
          number = left.number ∙ forgot.number;
          numbers = rw many numbers;
          log = rw many log;
          few = omega (arith, few, ap length left.log);
        }
