-- A shelf that was opened, or wasn't.
use Rattle.std.specs.List.{AllByRecursion as All}
use Rattle.std.proofs.Common.{◌≡◌, ◌⊎◌, ℕ, List, ◌++◌, Option, None, Some, Ok, Err, refl, sym, ap, ◌∙◌, subst, append-nil, inl, inr}
use Rattle.siri_outside.specs.OutsideCalls.{WhereTold}
use Rattle.siri_outside.specs.declared.errors.OutsideError.{OutsideError}
use Rattle.siri_outside.specs.declared.errors.OutsideError.TheVariants as outside
use Rattle.siri_base.specs.declared.status.Status.{Status}
use Rattle.siri_http.specs.Tallies.{nothing_yet}
use Rattle.siri_model.specs.History.{History}
use Rattle.siri_producer.specs.Known.{StandsFor}
use Rattle.siri_outside.specs.Rows.{Rows}
use Rattle.siri_outside.specs.Shelves.{Opens, ShelfState, after_fault}
use Rattle.siri_keeping.specs.Keeps.{Keeps}
use Rattle.siri_keeping.specs.Opening.{Said, reopened, said}
use Rattle.siri_keep.specs.Calls.{AddsReopened, CountsKept, Holds, IsBegun, IsEarlier, RefusesToOpen, Reopens}
use Rattle.siri_keep.specs.declared.errors.KeepError.{KeepError}
use Rattle.siri_keep.specs.declared.errors.KeepError.TheVariants as keep
use Rattle.siri_keep.specs.declared.kept.Kept.{Kept}
use Rattle.siri_keep.proofs.Alls.{all_weaker}
use Rattle.siri_runs.specs.Calls.{Outside}
use Rattle.siri_runs.specs.Errors.{clock_error, keeper_error, status_of, wire_error}
use Rattle.siri_runs.specs.declared.network_error.NetworkError.{NetworkError}
use Rattle.siri_keep_run.specs.Opening.{AreAsOpened, BeginsBy, BeginsWith, CountsOpening, EndsOpening, IsOpened, LeavesUnopened, begun, opening_end}
use Rattle.siri_keep_run.specs.Serving.{StandsOver}
use Rattle.siri_keep_run.proofs.Over.{since_begun}
use Rattle.siri_keep_run.proofs.Trails.{told_pair, told_then}

-- the file is opened, and then its rows
abbrev pub OpensFile : (file : List ℕ) → Option ShelfState → Option ShelfState → Type 0
OpensFile file x y = WhereTold x y (λ s t. Opens {T = Unit {0}} file s t (Ok tt))

module _ (name file : List ℕ) (start moment : ℕ) (kept : Kept) where
  -- what may have been left since the file was opened
  opened_row : (s t : ShelfState) (what : Said) → t.rows ≡ s.rows → said t.rows ≡ Ok what → (r : Rows)
      → ((r ≡ t.rows) ⊎ ((other : Said) × (said t.rows ≡ Ok other) × IsEarlier name start other × Keeps name r (reopened start moment other)))
      → (r ≡ s.rows) ⊎ Keeps name r (reopened start moment what)
  opened_row s t what same says r (inl is) = inl (is ∙ same)
  opened_row s t what same says r (inr (other, also, earlier, keeps)) =
      let one : other ≡ what = cc in
      inr (subst (λ w. Keeps name r (reopened start moment w)) one keeps)

  opened_by : (s t u : ShelfState) → Opens {T = Unit {0}} file s t (Ok tt) → (opens : Reopens name start moment kept t.rows u.rows)
      → AddsReopened name start moment t u → BeginsBy name file start moment s u (reopened start moment opens.what)
  opened_by s t u is opens adds =
      let h = reopened start moment opens.what in
      record {
        what = opens.what;
        says = ap said (sym is.rows) ∙ opens.says;
        earlier = opens.earlier;
        history = refl;
        named = adds.named ∙ is.named;
        keeps = opens.keeps;
        trail = subst (All (λ r. (r ≡ s.rows) ⊎ Keeps name r h)) (sym (adds.trail ∙ ap (λ l. l ++ adds.added) is.trail)) (
          inl refl,
          all_weaker
              (λ r. (r ≡ t.rows) ⊎ ((other : Said) × (said t.rows ≡ Ok other) × IsEarlier name start other × Keeps name r (reopened start moment other)))
              (λ r. (r ≡ s.rows) ⊎ Keeps name r h) (opened_row s t opens.what is.rows opens.says) adds.added adds.each,
        );
      }

  pub opened_over : (x y z : Option ShelfState) → OpensFile file x y → IsBegun name kept
      → WhereTold y z (λ s t. Reopens name start moment kept s.rows t.rows) → WhereTold y z (AddsReopened name start moment)
      → IsOpened name file start moment kept x z
  opened_over x y z is begun opens adds = record {
    begun = begun;
    over = told_then (λ s t. Opens {T = Unit {0}} file s t (Ok tt)) (λ t u. Reopens name start moment kept t.rows u.rows × AddsReopened name start moment t u)
        (λ s u. (h : History) × BeginsBy name file start moment s u h × Holds kept u.rows h) x y z
        (λ s t u is both. (reopened start moment both.0.what, opened_by s t u is both.0 both.1, both.0.holds)) is
        (told_pair (λ t u. Reopens name start moment kept t.rows u.rows) (AddsReopened name start moment) y z opens adds);
  }

-- ---- where it isn't opened

unopened_row : (name : List ℕ) (start moment : ℕ) (s t : ShelfState) → t.rows ≡ s.rows → (r : Rows)
    → ((r ≡ t.rows) ⊎ ((what : Said) × (said t.rows ≡ Ok what) × IsEarlier name start what × Keeps name r (reopened start moment what)))
    → AreAsOpened name start moment s.rows r
unopened_row name start moment s t same r (inl is) = inl (is ∙ same)
unopened_row name start moment s t same r (inr (what, says, earlier, keeps)) = inr (what, ap said (sym same) ∙ says, earlier, keeps)

unopened_by : (name file : List ℕ) (start moment : ℕ) (s t u : ShelfState) → Opens {T = Unit {0}} file s t (Ok tt)
    → AddsReopened name start moment t u → LeavesUnopened name file start moment s u
unopened_by name file start moment s t u is adds =
    let As : Rows → Type 0 = AreAsOpened name start moment s.rows in
    inr (inr (
      adds.named ∙ is.named,
      subst (All As) (sym (adds.trail ∙ ap (λ l. l ++ adds.added) is.trail)) (
        inl refl,
        all_weaker
            (λ r. (r ≡ t.rows) ⊎ ((what : Said) × (said t.rows ≡ Ok what) × IsEarlier name start what × Keeps name r (reopened start moment what)))
            As (unopened_row name start moment s t is.rows) adds.added adds.each,
      ),
      unopened_row name start moment s t is.rows u.rows adds.present,
    ))

pub unopened_over : (name file : List ℕ) (start moment : ℕ) (x y z : Option ShelfState) → OpensFile file x y
    → WhereTold y z (AddsReopened name start moment) → WhereTold x z (LeavesUnopened name file start moment)
unopened_over name file start moment x y z is adds = told_then (λ s t. Opens {T = Unit {0}} file s t (Ok tt)) (AddsReopened name start moment)
    (LeavesUnopened name file start moment) x y z (unopened_by name file start moment) is adds

-- its rows are refused
pub refused_over : (name file : List ℕ) (start : ℕ) (e : KeepError) (x y z : Option ShelfState) → OpensFile file x y
    → WhereTold y z (λ s t. RefusesToOpen name start e s.rows) → EndsOpening name start (opening_end e) x
refused_over name file start keep.ShelfFault x y z is refuses = tt
refused_over name file start (keep.BadRow table key) None y z is refuses = tt
refused_over name file start (keep.BadRow table key) (Some s) None z is refuses = absurd is
refused_over name file start (keep.BadRow table key) (Some s) (Some t) None is refuses = absurd refuses
refused_over name file start (keep.BadRow table key) (Some s) (Some t) (Some u) is refuses = (key, ap said (sym is.rows) ∙ refuses)
refused_over name file start keep.OtherName None y z is refuses = tt
refused_over name file start keep.OtherName (Some s) None z is refuses = absurd is
refused_over name file start keep.OtherName (Some s) (Some t) None is refuses = absurd refuses
refused_over name file start keep.OtherName (Some s) (Some t) (Some u) is refuses = (refuses.0, ap said (sym is.rows) ∙ refuses.1, refuses.2)
refused_over name file start (keep.OldStart kept) None y z is refuses = tt
refused_over name file start (keep.OldStart kept) (Some s) None z is refuses = absurd is
refused_over name file start (keep.OldStart kept) (Some s) (Some t) None is refuses = absurd refuses
refused_over name file start (keep.OldStart kept) (Some s) (Some t) (Some u) is refuses =
    (refuses.0, ap said (sym is.rows) ∙ refuses.1, refuses.2, refuses.3, refuses.4)
refused_over name file start keep.Closed x y z is refuses = tt
refused_over name file start keep.RowTooLong x y z is refuses = tt
refused_over name file start keep.OutOfMemory x y z is refuses = tt

-- the count of the shelf's faults
pub opening_counts : (T U : Type 0) (a b c : ℕ) (e : KeepError) → b ≡ a → CountsKept {T = T} b c (Err e)
    → CountsOpening {T = U} a c (Err (opening_end e))
opening_counts T U a b c keep.ShelfFault same counts = counts ∙ ap after_fault same
opening_counts T U a b c (keep.BadRow table key) same counts = counts ∙ same
opening_counts T U a b c keep.OtherName same counts = counts ∙ same
opening_counts T U a b c (keep.OldStart kept) same counts = counts ∙ same
opening_counts T U a b c keep.Closed same counts = counts ∙ same
opening_counts T U a b c keep.RowTooLong same counts = counts ∙ same
opening_counts T U a b c keep.OutOfMemory same counts = counts ∙ same

-- nothing was done to the shelf: the keeper, the wire or the clock failed
pub counts_before : (U : Type 0) (a : ℕ) (end : Status) (e : NetworkError) (error_of : OutsideError → NetworkError) (failure : OutsideError)
    → ((f : OutsideError) → CountsOpening {T = U} a a (Err (status_of (error_of f)))) → end ≡ status_of e → e ≡ error_of failure
    → CountsOpening {T = U} a a (Err end)
counts_before U a end e error_of failure counts end_is error_is =
    subst (λ s. CountsOpening {T = U} a a (Err s)) (sym (end_is ∙ ap status_of error_is)) (counts failure)

pub counts_keeper : (U : Type 0) (a : ℕ) (f : OutsideError) → CountsOpening {T = U} a a (Err (status_of (keeper_error f)))
counts_keeper U a outside.Failed = refl
counts_keeper U a outside.OutOfMemory = refl

pub counts_wire : (U : Type 0) (a : ℕ) (f : OutsideError) → CountsOpening {T = U} a a (Err (status_of (wire_error f)))
counts_wire U a outside.Failed = refl
counts_wire U a outside.OutOfMemory = refl

pub counts_clock : (U : Type 0) (a : ℕ) (f : OutsideError) → CountsOpening {T = U} a a (Err (status_of (clock_error f)))
counts_clock U a outside.Failed = refl
counts_clock U a outside.OutOfMemory = refl

-- what a run begins with, over a shelf that was opened
pub begins_over : (name file : List ℕ) (start moment : ℕ) (kept : Kept) (x y : Option ShelfState) (outside : Outside)
    → IsOpened name file start moment kept x y
    → (shelf : Option ShelfState) × (h : History) × BeginsWith name file start moment x shelf h
    × StandsOver kept nothing_yet 0 y (begun h shelf outside).state
begins_over name file start moment kept x y outside opened = by x y opened.over
  where
    by : (x y : Option ShelfState) → WhereTold x y (λ s t. (h : History) × BeginsBy name file start moment s t h × Holds kept t.rows h)
        → (shelf : Option ShelfState) × (h : History) × BeginsWith name file start moment x shelf h
        × StandsOver kept nothing_yet 0 y (begun h shelf outside).state
    by None y over = (
      None,
      opened.begun.stands.0,
      tt,
      record {
        history = subst (StandsFor kept.producer) (sym (append-nil opened.begun.stands.0)) opened.begun.stands.1;
        tally_is = refl;
        turns_are = refl;
        over = tt;
      },
    )
    by (Some s) None over = absurd over
    by (Some s) (Some t) over = (
      Some t,
      over.0,
      over.1,
      record {
        history = subst (StandsFor kept.producer) (sym (append-nil over.0)) over.2.stands;
        tally_is = refl;
        turns_are = refl;
        over = since_begun kept over.0 t over.2;
      },
    )
