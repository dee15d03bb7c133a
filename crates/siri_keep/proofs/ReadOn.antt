-- What calls of a shelf that stays as it is come to, one after the other.
use Rattle.std.proofs.Common.{◌≡◌, ◌<◌, ◌≤◌, ℕ, ◌+◌, List, [], Bool, true, false, Option, None, Some, Ok, Err, refl, sym, ap, ◌∙◌, subst, inl, inr, ◌⊎◌, arith}
use Rattle.std.specs.Prelude.{is_some}
use Rattle.std.specs.declared.alloc.Global.{Global}
use Rattle.std.proofs.lemmas.Bool.{cases_lt}
use Rattle.siri_row_texts.specs.declared.moments.Began.{Began}
use Rattle.siri_outside.specs.declared.rows.Row.{Row}
use Rattle.siri_outside.specs.Rows.{Rows, next_row}
use Rattle.siri_outside.specs.Shelves.{ShelfState}
use Rattle.siri_keeping.specs.Opening.{Nothing, said}
use Rattle.siri_keep.specs.declared.errors.KeepError.{KeepError}
use Rattle.siri_keep.specs.declared.errors.KeepError.TheVariants as errors
use Rattle.siri_keep.specs.declared.opening.WhatIsRead.{WhatIsRead}
use Rattle.siri_keep.specs.declared.rows_read.RowsRead.{RowsRead}
use Rattle.siri_keep.specs.Walking.{SaysAll}
use Rattle.siri_keep.specs.RowByRow.{Begins, GivesNext, IsFirstBad, Outcome, Reached, SeesMore, TakesRow, Unchanged, first_began, taken, whole_of}
use Rattle.siri_keep.proofs.Told.{told_weaker}
use Rattle.siri_keep.proofs.Beginnings.{NextIs, first_missing, first_read, first_unread, next_none, next_taken, no_rows, said_all}

-- ---- one after the other

unchanged_weaker : (P Q : Rows → Type 0) (x y : Option ShelfState) → ((rows : Rows) → P rows → Q rows) → Unchanged x y P → Unchanged x y Q
unchanged_weaker P Q x y f w =
    told_weaker (λ old new. (new ≡ old) × P old.rows) (λ old new. (new ≡ old) × Q old.rows) x y (λ s t v. (v.0, f s.rows v.1)) w

unchanged_then : (P Q R : Rows → Type 0) (x y z : Option ShelfState) → ((rows : Rows) → P rows → Q rows → R rows)
    → Unchanged x y P → Unchanged y z Q → Unchanged x z R
unchanged_then P Q R None y z f v w = tt
unchanged_then P Q R (Some s) None z f v w = absurd v
unchanged_then P Q R (Some s) (Some t) None f v w = w
unchanged_then P Q R (Some s) (Some t) (Some u) f v w =
    (w.0 ∙ v.0, f s.rows v.1 (subst (λ (q : ShelfState). Q q.rows) v.0 w.1))

walk_then : (A B C : Rows → Type 0) (x y z : Option ShelfState) → Unchanged x y (λ rows. A rows → B rows)
    → Unchanged y z (λ rows. B rows → C rows) → Unchanged x z (λ rows. A rows → C rows)
walk_then A B C x y z v w = unchanged_then (λ rows. A rows → B rows) (λ rows. B rows → C rows) (λ rows. A rows → C rows) x y z
    (λ rows f g a. g (f a)) v w

-- ---- the next row

module _ (table : ℕ) (after given : Option (List ℕ)) (read : RowsRead) (same : given ≡ after) (row : Option Row) (x y : Option ShelfState)
    (w : Unchanged x y (λ rows. GivesNext table given rows row)) where
  pub table_ends : row ≡ None → Unchanged x y (λ rows. Reached table after rows read → Reached (table + 1) None rows read)
  table_ends none = unchanged_weaker (λ rows. GivesNext table given rows row)
      (λ rows. Reached table after rows read → Reached (table + 1) None rows read) x y
      (λ rows gives r. next_none table after rows read r
      (sym none ∙ gives.2 ∙ ap (λ (k : Option (List ℕ)). next_row table k rows) same)) w

  -- it is there
  module _ (here : Row) (is : row ≡ Some here) where
    next_here : (rows : Rows) → GivesNext table given rows row → Some here ≡ next_row table after rows
    next_here rows gives = sym is ∙ gives.2 ∙ ap (λ (k : Option (List ℕ)). next_row table k rows) same

    taken_there : (rows : Rows) (key : List ℕ) (new : RowsRead) → key ≡ here.key → taken table read here ≡ Some new
        → GivesNext table given rows row → Reached table after rows read → Reached table (Some key) rows new
    taken_there rows key new own is_taken gives r =
        let found = next_taken table after rows read r here (next_here rows gives) in
        let at : Reached table (Some found.0.key) rows new = subst (NextIs table rows found.0) is_taken found.2 in
        subst (λ (k : List ℕ). Reached table (Some k) rows new) (sym (own ∙ ap (λ (q : Row). q.key) found.1)) at

    bad_there : (rows : Rows) (t : ℕ) (key : List ℕ) → t ≡ table → key ≡ here.key → taken table read here ≡ None
        → GivesNext table given rows row → Reached table after rows read → said rows ≡ Err (t, key)
    bad_there rows t key own_table own is_bad gives r =
        let found = next_taken table after rows read r here (next_here rows gives) in
        let at : said rows ≡ Err (table, found.0.key) = subst (NextIs table rows found.0) is_bad found.2 in
        at ∙ (λ i. Err (sym own_table i, sym (own ∙ ap (λ (q : Row). q.key) found.1) i))

    pub row_taken : (key : List ℕ) (new : RowsRead) → key ≡ here.key → taken table read here ≡ Some new
        → Unchanged x y (λ rows. Reached table after rows read → Reached table (Some key) rows new)
    row_taken key new own is_taken = unchanged_weaker (λ rows. GivesNext table given rows row)
        (λ rows. Reached table after rows read → Reached table (Some key) rows new) x y
        (λ rows gives r. taken_there rows key new own is_taken gives r) w

    bad_by : {T : Type 0} (A : Rows → T → Type 0) (new : RowsRead) (e : KeepError) → TakesRow {T = Unit {0}} table read here (Err e) new → (rows : Rows)
        → GivesNext table given rows row → Reached table after rows read → Outcome (A rows) (IsFirstBad rows) (Err e)
    bad_by A new errors.ShelfFault t rows gives r = tt
    bad_by A new (errors.BadRow at key) t rows gives r = bad_there rows at key t.0 t.1 t.2 gives r
    bad_by A new errors.OtherName t rows gives r = absurd t
    bad_by A new (errors.OldStart kept) t rows gives r = absurd t
    bad_by A new errors.Closed t rows gives r = absurd t
    bad_by A new errors.RowTooLong t rows gives r = absurd t
    bad_by A new errors.OutOfMemory t rows gives r = tt

    pub row_refused : {T : Type 0} (A : Rows → T → Type 0) (new : RowsRead) (e : KeepError) → TakesRow {T = Unit {0}} table read here (Err e) new
        → Unchanged x y (λ rows. Reached table after rows read → Outcome (A rows) (IsFirstBad rows) (Err e))
    row_refused A new e t = unchanged_weaker (λ rows. GivesNext table given rows row)
        (λ rows. Reached table after rows read → Outcome (A rows) (IsFirstBad rows) (Err e)) x y
        (λ rows gives r. bad_by A new e t rows gives r) w

-- ---- the first row

abbrev pub SeesNone : ℕ → Rows → Type 0
SeesNone table rows = (t : ℕ) → 1 ≤ t → t < table → next_row t None rows ≡ None

none_of : (row : Option Row) → is_some row ≡ false → row ≡ None
none_of None h = refl
none_of (Some row) h = absurd (cc h)

none_more : (table : ℕ) (rows : Rows) → SeesNone table rows → next_row table None rows ≡ None → SeesNone (table + 1) rows
none_more table rows before here = λ t low high. by t low (cases_lt t table) high
  where
    by : (t : ℕ) → 1 ≤ t → (t < table) ⊎ (table ≤ t) → t < table + 1 → next_row t None rows ≡ None
    by t low (inl less) high = before t low less
    by t low (inr past) high = let same : table ≡ t = omega (arith, past, high) in subst (λ n. next_row n None rows ≡ None) same here

module _ (row : Option Row) (x y : Option ShelfState) (w : Unchanged x y (λ rows. GivesNext 0 None rows row)) where
  missing_there : (z : Option ShelfState) → row ≡ None → Unchanged y z (λ rows. SeesMore rows true) → Unchanged x z (λ rows. said rows ≡ Err (0, []))
  missing_there z none v =
      unchanged_then (λ rows. GivesNext 0 None rows row) (λ rows. SeesMore rows true) (λ rows. said rows ≡ Err (0, [])) x y z
      (λ rows gives some. first_missing rows gives.0 (sym none ∙ gives.2) some) w v

  refused_first : (e : KeepError) (z : Option ShelfState) → e ≡ errors.BadRow 0 [] → Unchanged x z (λ rows. said rows ≡ Err (0, []))
      → Unchanged x z (λ rows. Outcome (Begins rows) (IsFirstBad rows) (Err e))
  refused_first e z is v = subst (λ (d : KeepError). Unchanged x z (λ rows. Outcome (Begins rows) (IsFirstBad rows) (Err d))) (sym is) v

  pub moment_missing : (z : Option ShelfState) (more : Bool) (e : KeepError) → row ≡ None → more ≡ true → e ≡ errors.BadRow 0 []
      → Unchanged y z (λ rows. SeesMore rows more) → Unchanged x z (λ rows. Outcome (Begins rows) (IsFirstBad rows) (Err e))
  moment_missing z more e none some is v =
      refused_first e z is (missing_there z none (subst (λ b. Unchanged y z (λ rows. SeesMore rows b)) some v))

  nothing_by : (z : Option ShelfState) → row ≡ None → Unchanged y z (λ rows. SeesMore rows false) → Unchanged x z (λ rows. said rows ≡ Ok Nothing)
  nothing_by z none v =
      unchanged_then (λ rows. GivesNext 0 None rows row) (λ rows. SeesMore rows false) (λ rows. said rows ≡ Ok Nothing) x y z
      (λ rows gives without. no_rows rows (sym none ∙ gives.2) without gives.1) w v

  pub nothing_there : (z : Option ShelfState) (more : Bool) → row ≡ None → more ≡ false → Unchanged y z (λ rows. SeesMore rows more)
      → Unchanged x z (λ rows. said rows ≡ Ok Nothing)
  nothing_there z more none without v = nothing_by z none (subst (λ b. Unchanged y z (λ rows. SeesMore rows b)) without v)

  pub moment_unread : (here : Row) (e : KeepError) → row ≡ Some here → None ≡ first_began here → e ≡ errors.BadRow 0 []
      → Unchanged x y (λ rows. Outcome (Begins rows) (IsFirstBad rows) (Err e))
  moment_unread here e is none refused = refused_first e y refused
      (unchanged_weaker (λ rows. GivesNext 0 None rows row) (λ rows. said rows ≡ Err (0, [])) x y
      (λ rows gives. first_unread rows here gives.0 gives.1 (sym is ∙ gives.2) none) w)

  pub moment_read : (here : Row) (b : Began) (alloc : Global) (new : RowsRead) → row ≡ Some here → Some b ≡ first_began here
      → new ≡ record {
        alloc = alloc;
        began = b;
        all = [];
        count = 0;
        living = 0;
        live = record { visits = []; journeys = []; vehicles = []; situations = [] };
        requests = [];
        renewals = [];
      } → Unchanged x y (λ rows. Reached 0 (Some []) rows new)
  moment_read here b alloc new is read made =
      let begun : RowsRead = record {
        alloc = alloc;
        began = b;
        all = [];
        count = 0;
        living = 0;
        live = record { visits = []; journeys = []; vehicles = []; situations = [] };
        requests = [];
        renewals = [];
      } in
      subst (λ (r : RowsRead). Unchanged x y (λ rows. Reached 0 (Some []) rows r)) (sym made)
      (unchanged_weaker (λ rows. GivesNext 0 None rows row) (λ rows. Reached 0 (Some []) rows begun) x y
      (λ rows gives. first_read rows here gives.0 gives.1 (sym is ∙ gives.2) b begun read refl refl refl refl
      (record { visits = refl; journeys = refl; vehicles = refl; situations = refl }) refl refl) w)

-- ---- all tables

all_read : (read : RowsRead) (whole : WhatIsRead) (rows : Rows) → whole ≡ whole_of read → Reached 256 None rows read
    → SaysAll rows (Ok (Some whole))
all_read read whole rows is r = subst (λ (v : WhatIsRead). SaysAll rows (Ok (Some v))) (sym is) (said_all rows read r)

pub whole_told : (begun : Option RowsRead) (r0 r1 r2 : RowsRead) (first : List ℕ) (whole : WhatIsRead) (x y z w : Option ShelfState)
    → begun ≡ Some r0 → first ≡ [] → whole ≡ whole_of r2 → Unchanged x y (λ rows. Begins rows begun)
    → Unchanged y z (λ rows. Reached 0 (Some first) rows r0 → Reached 1 None rows r1)
    → Unchanged z w (λ rows. Reached 1 None rows r1 → Reached 256 None rows r2) → Unchanged x w (λ rows. SaysAll rows (Ok (Some whole)))
whole_told begun r0 r1 r2 first whole x y z w is empty made begins one rest =
    let begins_at : Unchanged x y (λ rows. Reached 0 (Some []) rows r0) = subst (λ (o : Option RowsRead). Unchanged x y (λ rows. Begins rows o)) is begins in
    let one_at : Unchanged y z (λ rows. Reached 0 (Some []) rows r0 → Reached 1 None rows r1) =
    subst (λ (k : List ℕ). Unchanged y z (λ rows. Reached 0 (Some k) rows r0 → Reached 1 None rows r1)) empty one in
    let both = walk_then (λ rows. Reached 0 (Some []) rows r0) (λ rows. Reached 1 None rows r1) (λ rows. Reached 256 None rows r2) y z w one_at rest in
    unchanged_then (λ rows. Reached 0 (Some []) rows r0) (λ rows. Reached 0 (Some []) rows r0 → Reached 256 None rows r2)
    (λ rows. SaysAll rows (Ok (Some whole))) x y w (λ rows r f. all_read r2 whole rows made (f r)) begins_at both
