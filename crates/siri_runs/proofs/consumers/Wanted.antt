-- What lines want, by the report of a run over them.
use Rattle.std.proofs.Common.{◌≡◌, ◌≢◌, ℕ, ◌+◌, ◌≤◌, ◌<◌, Bool, true, false, List, [], ◌∷◌, ◌++◌, length, Option, Some, None, refl, sym, ap}
use Rattle.std.proofs.Common.{◌∙◌, subst, arith, length-append}
use Rattle.std.specs.Prelude.{Result, Ok, Err, nat_lt, if◌then◌else◌}
use Rattle.std.specs.Str.Lines.{lines}
use Rattle.std.proofs.lemmas.Bool.{ltb-false}
use Rattle.std.proofs.lemmas.Option.{none-some, same_Some}
use Rattle.siri_base.specs.declared.reason.ScriptReason.{ScriptReason}
use Rattle.siri_base.specs.declared.status.Status.{Status}
use Rattle.siri_base.specs.declared.status.Status.TheVariants as status
use Rattle.siri_life.specs.Named.{Name}
use Rattle.siri_lines.specs.Ends.{Bytes}
use Rattle.siri_lines.specs.Fronts.{gone_on, gone_through}
use Rattle.siri_lines.specs.Reports.{Reports, Writes, report_of}
use Rattle.siri_lines.specs.RunResult.{Verdict, Goes, RunEnds, goes_on, report_from, longest_line}
use Rattle.siri_lines.specs.Stands.{TakesAll}
use Rattle.siri_lines.specs.Stops.{EndsReading as EndsLines}
use Rattle.siri_wire.specs.declared.wanted.Wanted.{Wanted}
use Rattle.siri_runs.specs.consumers.Reading.{EndsReading, Stops, StopsAt, Wants}
use Rattle.siri_runs.specs.consumers.Wanting.{Asking, after_line, all_wanted, asking_after, brings, by_said, line_said, nothing_wanted, wanted_by}

-- ---- one line

-- a line that ends a run is refused, or passes a limit
abbrev IsLineEnd : Status → Type 0
IsLineEnd (status.Script n why) = Unit {0}
IsLineEnd (status.Limit n) = Unit {0}
IsLineEnd other = ⊥

line_ends : (most n : ℕ) (asking : Asking) (line : List ℕ) (end : Status) → brings most n asking line ≡ RunEnds end → IsLineEnd end
line_ends most n asking line end is = by (nat_lt longest_line (length line)) (nat_lt most n) (line_said asking.subscriber line) is
  where
    by : (long late : Bool) (said : Result (Option Wanted) ScriptReason)
        → (if long then RunEnds (status.Limit n) else if late then RunEnds (status.Limit n)
        else by_said n asking said) ≡ RunEnds end → IsLineEnd end
    by true late said e = let q : status.Limit n ≡ end = cc in subst IsLineEnd q tt
    by false true said e = let q : status.Limit n ≡ end = cc in subst IsLineEnd q tt
    by false false (Ok None) e = absurd (cc)
    by false false (Ok (Some wanted)) e = absurd (cc)
    by false false (Err why) e = let q : status.Script n why ≡ end = cc in subst IsLineEnd q tt

-- a line that goes on is one of so many, and wants one subscription at most
record GoesWithin (most n : ℕ) (asking next : Asking) : Type 0 where
  number : n ≤ most
  wanted : length next.wanted ≤ length asking.wanted + 1

line_goes : (most n : ℕ) (asking : Asking) (line text : List ℕ) (next : Asking) → brings most n asking line ≡ Goes text next
    → GoesWithin most n asking next
line_goes most n asking line text next is = by (nat_lt longest_line (length line)) (nat_lt most n) refl (line_said asking.subscriber line) is
  where
    by : (long late : Bool) → nat_lt most n ≡ late → (said : Result (Option Wanted) ScriptReason)
        → (if long then RunEnds (status.Limit n) else if late then RunEnds (status.Limit n)
        else by_said n asking said) ≡ Goes text next → GoesWithin most n asking next
    by true late number said e = absurd (cc)
    by false true number said e = absurd (cc)
    by false false number (Ok None) e =
        let q : asking ≡ next = cc in
        subst (GoesWithin most n asking) q (record { number = ltb-false most n number; wanted = omega arith })
    by false false number (Ok (Some wanted)) e =
        let more : Asking = record asking { wanted = asking.wanted ++ wanted ∷ [] } in
        let q : more ≡ next = cc in
        subst (GoesWithin most n asking) q (record { number = ltb-false most n number; wanted = omega (arith, length-append asking.wanted (wanted ∷ [])) })
    by false false number (Err why) e = absurd (cc)

-- ---- all lines

-- the world that lines lead to is what they want
asked_is : (most : ℕ) (all : List (List ℕ)) (n : ℕ) (asking after : Asking) → gone_through (brings most) n asking all ≡ Some after
    → asking_after most n asking all ≡ Ok after
asked_is most [] n asking after gone = ap Ok (same_Some asking after gone)
asked_is most (line ∷ rest) n asking after gone = by (brings most n asking line) (λ next. asked_is most rest (n + 1) next after) gone
  where
    by : (v : Verdict Asking)
        → ((next : Asking) → gone_through (brings most) (n + 1) next rest ≡ Some after → asking_after most (n + 1) next rest ≡ Ok after)
        → gone_on v (λ next. gone_through (brings most) (n + 1) next rest) ≡ Some after
        → after_line v (λ next. asking_after most (n + 1) next rest) ≡ Ok after
    by (Goes text next) more gone = more next gone
    by (RunEnds end) more gone = absurd (none-some after gone)

abbrev end_of : Result Asking Status → Status
end_of (Ok asking) = status.Done
end_of (Err end) = end

-- the report of lines ends as they do
end_is : (most : ℕ) (all : List (List ℕ)) (n : ℕ) (asking : Asking)
    → (report_from (brings most) n asking all).status ≡ end_of (asking_after most n asking all)
end_is most [] n asking = refl
end_is most (line ∷ rest) n asking = by (brings most n asking line) (λ next. end_is most rest (n + 1) next)
  where
    by : (v : Verdict Asking)
        → ((next : Asking) → (report_from (brings most) (n + 1) next rest).status ≡ end_of (asking_after most (n + 1) next rest))
        → (goes_on v (λ next. report_from (brings most) (n + 1) next rest)).status
        ≡ end_of (after_line v (λ next. asking_after most (n + 1) next rest))
    by (Goes text next) more = more next
    by (RunEnds end) more = refl

all_end : (most : ℕ) (all : List (List ℕ)) (n : ℕ) (asking : Asking) (end : Status) → asking_after most n asking all ≡ Err end
    → IsLineEnd end
all_end most [] n asking end is = absurd (cc)
all_end most (line ∷ rest) n asking end is = by (brings most n asking line) refl (λ next. all_end most rest (n + 1) next end) is
  where
    by : (v : Verdict Asking) → brings most n asking line ≡ v
        → ((next : Asking) → asking_after most (n + 1) next rest ≡ Err end → IsLineEnd end)
        → after_line v (λ next. asking_after most (n + 1) next rest) ≡ Err end → IsLineEnd end
    by (Goes text next) at more is = more next is
    by (RunEnds last) at more is = let q : last ≡ end = cc in line_ends most n asking line end (at ∙ ap RunEnds q)

-- no more subscriptions than lines are wanted
all_within : (most : ℕ) (all : List (List ℕ)) (n : ℕ) (asking after : Asking) → length asking.wanted < n → n ≤ most + 1
    → gone_through (brings most) n asking all ≡ Some after → length after.wanted ≤ most
all_within most [] n asking after few late gone = subst (λ (a : Asking). length a.wanted ≤ most) (same_Some asking after gone) (omega (arith, few, late))
all_within most (line ∷ rest) n asking after few late gone = by (brings most n asking line) refl (λ next. all_within most rest (n + 1) next after) gone
  where
    by : (v : Verdict Asking) → brings most n asking line ≡ v
        → ((next : Asking) → length next.wanted < n + 1 → n + 1 ≤ most + 1 → gone_through (brings most) (n + 1) next rest ≡ Some after
        → length after.wanted ≤ most)
        → gone_on v (λ next. gone_through (brings most) (n + 1) next rest) ≡ Some after → length after.wanted ≤ most
    by (Goes text next) at more gone =
        let within = line_goes most n asking line text next at in
        more next (omega (arith, few, within.wanted)) (omega (arith, within.number)) gone
    by (RunEnds end) at more gone = absurd (none-some after gone)

-- ---- what a run gives

pub wants_is : {T : Type 0} (Fits : T → Asking → Type 0) (most : ℕ) (subscriber : Name) (input : Bytes) (taken : T)
    (list : List Wanted) (t : TakesAll Fits (brings most) (nothing_wanted subscriber) input taken) → list ≡ t.world.wanted
    → Wants most subscriber input list
unfolding all_wanted
wants_is Fits most subscriber input taken list t is = record {
  bytes = t.bytes;
  read = t.read;
  are = ap wanted_by (asked_is most (lines t.bytes) 1 (nothing_wanted subscriber) t.world t.is) ∙ ap Ok (sym is);
}

pub wants_few : {T : Type 0} (Fits : T → Asking → Type 0) (most : ℕ) (subscriber : Name) (input : Bytes) (taken : T)
    (list : List Wanted) (t : TakesAll Fits (brings most) (nothing_wanted subscriber) input taken) → list ≡ t.world.wanted
    → length list ≤ most
wants_few Fits most subscriber input taken list t is =
    subst (λ (l : List Wanted). length l ≤ most) (sym is) (all_within most (lines t.bytes) 1 (nothing_wanted subscriber) t.world (omega arith) (omega arith) t.is)

-- the report of a text that isn't done
wanted_err : (most : ℕ) (subscriber : Name) (input : List ℕ) (end : Status) → end ≢ status.Done
    → (report_of (brings most) (nothing_wanted subscriber) input).status ≡ end → all_wanted most subscriber input ≡ Err end
unfolding all_wanted
wanted_err most subscriber input end not_done is =
    by (asking_after most 1 (nothing_wanted subscriber) (lines input)) (sym (end_is most (lines input) 1 (nothing_wanted subscriber)) ∙ is)
  where
    by : (r : Result Asking Status) → end_of r ≡ end → wanted_by r ≡ Err end
    by (Ok asking) e = absurd (not_done (sym e))
    by (Err last) e = ap Err e

-- the report of a text that is done
record IsWanted (most : ℕ) (subscriber : Name) (input : List ℕ) : Type 0 where
  wanted : List Wanted
  are : all_wanted most subscriber input ≡ Ok wanted

wanted_ok : (most : ℕ) (subscriber : Name) (input : List ℕ) → (report_of (brings most) (nothing_wanted subscriber) input).status ≡ status.Done → IsWanted most subscriber input
unfolding all_wanted
wanted_ok most subscriber input is =
    by (asking_after most 1 (nothing_wanted subscriber) (lines input)) refl (sym (end_is most (lines input) 1 (nothing_wanted subscriber)) ∙ is)
  where
    by : (r : Result Asking Status) → asking_after most 1 (nothing_wanted subscriber) (lines input) ≡ r → end_of r ≡ status.Done → IsWanted most subscriber input
    by (Ok asking) at e = record { wanted = asking.wanted; are = ap wanted_by at }
    by (Err last) at e = absurd (subst IsLineEnd e (all_end most (lines input) 1 (nothing_wanted subscriber) last at))

-- a run that isn't done
pub stops_at : (most : ℕ) (subscriber : Name) (input left old new : Bytes) (end : Status) → end ≢ status.Done
    → end ≢ status.WriteFault → EndsLines end → Reports (report_of (brings most) (nothing_wanted subscriber)) input left old
    new end → StopsAt most subscriber input left end
stops_at most subscriber None left old new end not_done not_write known w = tt
stops_at most subscriber (Some input) left old new end not_done not_write known w = by end not_done not_write known w
  where
    by : (end : Status) → end ≢ status.Done → end ≢ status.WriteFault → EndsLines end
        → Writes (report_of (brings most) (nothing_wanted subscriber)) input left old new end → Stops most subscriber input left end
    by status.Done not_done not_write known w = absurd (not_done refl)
    by (status.Script n why) not_done not_write known w = wanted_err most subscriber input (status.Script n why) not_done w.status_is
    by (status.Limit n) not_done not_write known w = wanted_err most subscriber input (status.Limit n) not_done w.status_is
    by status.ReadFault not_done not_write known w =
        let good = wanted_ok most subscriber w.whole w.ends.status_is in
        record { whole = w.whole; begun = w.begun; read = w.read; lines = w.lines; last = w.last; wanted = good.wanted; are = good.are }
    by status.OutOfMemory not_done not_write known w = tt
    by status.WriteFault not_done not_write known w = absurd (not_write refl)
    by other not_done not_write known w = absurd known

pub ends_reading : (end : Status) → end ≢ status.Done → end ≢ status.WriteFault → EndsLines end → EndsReading end
ends_reading status.Done not_done not_write known = absurd (not_done refl)
ends_reading (status.Script n why) not_done not_write known = tt
ends_reading (status.Limit n) not_done not_write known = tt
ends_reading status.ReadFault not_done not_write known = tt
ends_reading status.OutOfMemory not_done not_write known = tt
ends_reading status.WriteFault not_done not_write known = absurd (not_write refl)
ends_reading other not_done not_write known = absurd known
