-- What opening comes to, of what is read first and written last.
use Rattle.std.proofs.Common.{◌≡◌, ℕ, List, Option, None, Some, Result, Ok, Err, sym, ap, subst}
use Rattle.siri_outside.specs.OutsideCalls.{WhereTold}
use Rattle.siri_model.specs.History.{History}
use Rattle.siri_outside.specs.declared.rows.Put.{Put}
use Rattle.siri_outside.specs.Rows.{Rows, with_puts}
use Rattle.siri_outside.specs.Shelves.{ShelfState}
use Rattle.siri_keeping.specs.Keeps.{Keeps}
use Rattle.siri_keeping.specs.Opening.{Said, reopened, said}
use Rattle.siri_keep.specs.declared.errors.KeepError.{KeepError}
use Rattle.siri_keep.specs.declared.errors.KeepError.TheVariants as errors
use Rattle.siri_keep.specs.declared.opening.WhatIsRead.{WhatIsRead}
use Rattle.siri_keep.specs.declared.reopening.ReopenedProducer.{ReopenedProducer}
use Rattle.siri_keep.specs.Calls.{AddsReopened, Holds, IsEarlier, RefusesToOpen, Reopens, StaysUnless}
use Rattle.siri_keep.specs.Planning.{Opens, PlansOpening, WritesAll}
use Rattle.siri_keep.specs.Walking.{SaysAll}
use Rattle.siri_keep.proofs.Fronts.{adds_weaker}
use Rattle.siri_keep.proofs.Left.{keeps_of}
use Rattle.siri_keep.proofs.Told.{told_weaker}

-- ---- what is told of two calls of which the first changes nothing

pub told_after : {S : Type 0} (P : S → Type 0) (Q R : S → S → Type 0) (x y z : Option S) → ((s t : S) → P s → Q s t → R s t)
    → WhereTold x y (λ s t. (t ≡ s) × P s) → WhereTold y z Q → WhereTold x z R
told_after P Q R None y z f first second = tt
told_after P Q R (Some s) None z f first second = absurd first
told_after P Q R (Some s) (Some t) None f first second = absurd second
told_after P Q R (Some s) (Some t) (Some u) f first second = f s u first.1 (subst (λ v. Q v u) first.0 second)

-- ---- refusals

pub refused_read : (name : List ℕ) (start : ℕ) (error : KeepError) (rows : Rows) → SaysAll rows (Err error) → RefusesToOpen name start error rows
refused_read name start (errors.BadRow table key) rows is = is
refused_read name start errors.ShelfFault rows is = tt
refused_read name start errors.OutOfMemory rows is = tt
refused_read name start errors.OtherName rows is = absurd is
refused_read name start (errors.OldStart kept) rows is = absurd is
refused_read name start errors.Closed rows is = absurd is
refused_read name start errors.RowTooLong rows is = absurd is

-- ---- what a stop may leave

keeps_planned : (name : List ℕ) (h : History) (rows : Rows) (opened : ReopenedProducer) → Opens name h rows opened
    → Keeps name (with_puts rows opened.puts) h
keeps_planned name h rows opened opens =
    subst (λ n. Keeps n (with_puts rows opened.puts) h) opens.name_is (keeps_of opened.kept (with_puts rows opened.puts) h opens.holds)

module _ (name : List ℕ) (start now : ℕ) (opened : ReopenedProducer) where
  adds_planned : {T : Type 0} (s t : ShelfState) (result : Result T KeepError) → PlansOpening name start now s.rows opened
      → WritesAll opened.puts s t result → AddsReopened name start now s t
  adds_planned s t result plans writes =
      adds_weaker (λ rows. rows ≡ s.rows) (λ rows. rows ≡ with_puts s.rows opened.puts) (λ rows. rows ≡ s.rows)
      (λ rows. (what : Said) × (said s.rows ≡ Ok what) × IsEarlier name start what × Keeps name rows (reopened start now what))
      (λ rows is. is)
      (λ rows is. (
        plans.what,
        plans.says,
        plans.earlier,
        subst (λ (r : Rows). Keeps name r (reopened start now plans.what)) (sym is)
            (keeps_planned name (reopened start now plans.what) s.rows opened plans.opens),
      )) s t writes.trail

  reopens_planned : {T : Type 0} (value : T) (s t : ShelfState) → PlansOpening name start now s.rows opened
      → WritesAll {T = T} opened.puts s t (Ok value) → Reopens name start now opened.kept s.rows t.rows
  reopens_planned {T} value s t plans writes = record {
    what = plans.what;
    says = plans.says;
    earlier = plans.earlier;
    holds = subst (λ (r : Rows). Holds opened.kept r (reopened start now plans.what)) (sym writes.ok) plans.opens.holds;
    keeps = subst (λ (r : Rows). Keeps name r (reopened start now plans.what)) (sym writes.ok)
        (keeps_planned name (reopened start now plans.what) s.rows opened plans.opens);
    is_open = plans.opens.is_open;
  }

-- ---- as it is told

-- what is told of a call that read
abbrev pub TellsRead : Option ShelfState → Option ShelfState → Result (Option WhatIsRead) KeepError → Type 0
TellsRead x y result = WhereTold x y (λ s t. (t ≡ s) × SaysAll s.rows result)

pub refused_told : (name : List ℕ) (start : ℕ) (error : KeepError) (x y : Option ShelfState) → TellsRead x y (Err error)
    → WhereTold x y (λ s t. RefusesToOpen name start error s.rows)
refused_told name start error x y told =
    told_weaker (λ s t. (t ≡ s) × SaysAll s.rows (Err error)) (λ s t. RefusesToOpen name start error s.rows) x y
    (λ s t is. refused_read name start error s.rows is.1) told

module _ (name : List ℕ) (start now : ℕ) (opened : ReopenedProducer) (read : Option WhatIsRead) (x y z : Option ShelfState)
    (plans : (rows : Rows) → SaysAll rows (Ok read) → PlansOpening name start now rows opened) (told : TellsRead x y (Ok read)) where
  pub trail_planned : {T : Type 0} (result : Result T KeepError) → WhereTold y z (λ s t. WritesAll opened.puts s t result)
      → WhereTold x z (AddsReopened name start now)
  trail_planned result written = told_after (λ s. SaysAll s.rows (Ok read)) (λ s t. WritesAll opened.puts s t result)
      (AddsReopened name start now) x y z
      (λ s t says writes. adds_planned name start now opened s t result (plans s.rows says) writes) told written

  pub reopens_told : {T : Type 0} (value : T) → WhereTold y z (λ s t. WritesAll {T = T} opened.puts s t (Ok value))
      → WhereTold x z (λ s t. Reopens name start now opened.kept s.rows t.rows)
  reopens_told {T} value written = told_after (λ s. SaysAll s.rows (Ok read)) (λ s t. WritesAll {T = T} opened.puts s t (Ok value))
      (λ s t. Reopens name start now opened.kept s.rows t.rows) x y z
      (λ s t says writes. reopens_planned name start now opened {T = T} value s t (plans s.rows says) writes) told written

-- ---- what was kept

-- where it was read, and no more
pub stays_read : (T : Type 0) (error : KeepError) (result : Result (Option WhatIsRead) KeepError) (x y : Option ShelfState)
    → TellsRead x y result → WhereTold x y (StaysUnless {T = T} (Err error))
stays_read T error result x y told = told_weaker (λ s t. (t ≡ s) × SaysAll s.rows result) (StaysUnless {T = T} (Err error)) x y
    (λ s t is. ap (λ (u : ShelfState). u.rows) is.0) told

-- where it couldn't be written, or could
pub stays_unwritten : (T U : Type 0) (puts : List Put) (read : Option WhatIsRead) (error : KeepError) (x y z : Option ShelfState)
    → TellsRead x y (Ok read) → WhereTold y z (λ s t. WritesAll {T = T} puts s t (Err error))
    → WhereTold x z (StaysUnless {T = U} (Err error))
stays_unwritten T U puts read error x y z told written = told_after (λ s. SaysAll s.rows (Ok read))
    (λ s t. WritesAll {T = T} puts s t (Err error)) (StaysUnless {T = U} (Err error)) x y z (λ s t says writes. writes.stays) told written

pub stays_written : {T U : Type 0} (puts : List Put) (read : Option WhatIsRead) (a : T) (b : U) (x y z : Option ShelfState)
    → TellsRead x y (Ok read) → WhereTold y z (λ s t. WritesAll {T = T} puts s t (Ok a)) → WhereTold x z (StaysUnless {T = U} (Ok b))
stays_written {T} {U} puts read a b x y z told written = told_after (λ s. SaysAll s.rows (Ok read))
    (λ s t. WritesAll {T = T} puts s t (Ok a)) (StaysUnless {T = U} (Ok b)) x y z (λ s t says writes. tt) told written

-- ---- causes
