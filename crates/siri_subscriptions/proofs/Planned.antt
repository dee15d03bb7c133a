-- What is found of a table's rows, one after the other.
use Rattle.std.proofs.Common.{◌≡◌, ℕ, zero, suc, ◌+◌, ◌≤◌, List, [], ◌∷◌, ◌++◌, length, take, Some, slice_get, refl, ap, sym, subst, ◌∙◌, arith}
use Rattle.std.specs.List.{AllZip}
use Rattle.std.proofs.lemmas.List.Concat.{flat_map-append}
use Rattle.std.proofs.lemmas.List.{append-nil, map-append}
use Rattle.siri_records.specs.Keyed.{Items}
use Rattle.siri_records.proofs.Placed.{take_at}
use Rattle.siri_subs.specs.declared.entry.Row.{Row}
use Rattle.siri_subs.specs.Mapped.{mapped_row}
use Rattle.siri_responder.specs.Known.{Known}
use Rattle.siri_subscriptions.specs.declared.course.Course.{Course}
use Rattle.siri_subscriptions.specs.Courses.{kept, kept_row, kept_rows}
use Rattle.siri_subscriptions.specs.declared.due.Due.{Due}
use Rattle.siri_subscriptions.specs.declared.outs.Out.{Out}
use Rattle.siri_subscriptions.specs.Due.{IsDue, AreDue}
use Rattle.siri_subscriptions.specs.Sends.{At, at_of, row_sends, table_sends}

-- of rows, and of one more
sends_more : (at : At) (items : Items) (rows : List (Row Course)) (row : Row Course)
    → table_sends at items (kept_rows (rows ++ row ∷ [])) ≡ table_sends at items (kept_rows rows)
    ++ row_sends at items (kept_row row)
sends_more at items rows row =
    let one = kept_row row ∷ [] in
    ap (table_sends at items) (map-append (mapped_row kept) rows (row ∷ []))
    ∙ (flat_map-append (row_sends at items) (kept_rows rows) one
    ∙ ap (λ l. table_sends at items (kept_rows rows) ++ l) (append-nil (row_sends at items (kept_row row))))

module _ {A B : Type 0} (R : A → B → Type 0) where
  zip_more : (xs : List A) (ys : List B) (x : A) (y : B) → AllZip R xs ys → R x y → AllZip R (xs ++ x ∷ []) (ys ++ y ∷ [])
  zip_more [] [] x y all here = (here, tt)
  zip_more [] (b ∷ ys) x y all here = absurd all
  zip_more (a ∷ xs) [] x y all here = absurd all
  zip_more (a ∷ xs) (b ∷ ys) x y all here = (all.0, zip_more xs ys x y all.1 here)

-- the first of a list that are as many as it has, or more, are all
pub taken_all : {A : Type 0} (xs : List A) (i : ℕ) → length xs ≤ i → take i xs ≡ xs
taken_all [] zero le = refl
taken_all [] (suc i) le = refl
taken_all (x ∷ xs) zero le = absurd (omega (arith, le))
taken_all (x ∷ xs) (suc i) le = ap (λ l. x ∷ l) (taken_all xs i (omega (arith, le)))

-- what is sent of some rows, and what is due to them, by what a responder knows
pub record IsPlan (known : Known) (rows : List (Row Course)) (outs : List Out) (dues : List Due) : Type 0 where
  pub sends : outs ≡ table_sends (at_of known) known.held (kept_rows rows)
  pub are_due : AreDue known.moment known.held (known.marks.number + 1) rows dues

-- one row more: what is found of it is found by what the responder knows now, which is as at first but for the counter
pub plan_more : (start known : Known) (table : List (Row Course)) (place : ℕ) (row : Row Course)
    (outs with_row : List Out) (dues with_due : List Due) (due : Due)
    → known ≡ record start { reads = known.reads } → slice_get table place ≡ Some row
    → IsDue known.moment known.held (known.marks.number + 1) row due → with_row ≡ outs ++ row_sends (at_of known) known.held (kept_row row) → with_due ≡ dues ++ due ∷ []
    → IsPlan start (take place table) outs dues → IsPlan start (take (place + 1) table) with_row with_due
plan_more start known table place row outs with_row dues with_due due same at is_due sent pushed plan =
    let so_far = take place table in
    let more = take_at table place row at in
    let this = subst (λ (k : Known). IsDue k.moment k.held (k.marks.number + 1) row due) same is_due in
    record {
      sends =
          sent
          ∙ (ap (λ (k : Known). outs ++ row_sends (at_of k) k.held (kept_row row)) same
          ∙ (ap (λ l. l ++ row_sends (at_of start) start.held (kept_row row)) plan.sends
          ∙ (sym (sends_more (at_of start) start.held so_far row) ∙ ap (λ rows. table_sends (at_of start) start.held (kept_rows rows)) (sym more))));
      are_due = rw (more, pushed) (zip_more (IsDue start.moment start.held (start.marks.number + 1)) so_far dues row due plan.are_due this);
    }
