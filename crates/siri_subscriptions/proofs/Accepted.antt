-- Subscriptions of one request that are accepted one after the other, by what was ready before the first of them.
use Rattle.std.proofs.Common.{◌≡◌, ℕ, ◌<◌, ◌≤◌, List, [], ◌∷◌, length, map, Bool, true, false, cond, Option, Some, None, Result, Ok, Err}
use Rattle.std.proofs.Common.{refl, ap, ◌∙◌, sym, inl, inr}
use Rattle.std.specs.Prelude.{◌⊎◌, ◌&&◌, ◌==◌, nat_lt, nat_le}
use Rattle.std.specs.Cmp.Lexicographic.{bytes_decides}
use Rattle.std.proofs.lemmas.Bool.{and_parts, eq-eqb, lt-ltb, le-ltb}
use Rattle.siri_topic.specs.Agreement.{same_name}
use Rattle.siri_topic.specs.declared.subscription.Subscription.{Subscription}
use Rattle.siri_messages.specs.Asked.{AskedFor}
use Rattle.siri_subs.specs.declared.entry.Row.{Row}
use Rattle.siri_subs.specs.declared.errors.Accepted.{Accepted}
use Rattle.siri_subs.specs.declared.errors.Accepted.TheVariants as accepted_as
use Rattle.siri_subs.specs.declared.errors.AcceptError.{AcceptError}
use Rattle.siri_subs.specs.declared.errors.AcceptError.TheVariants as refused_as
use Rattle.siri_subs.specs.Table.{most_subscriptions, answer, answer_of, after, accepted, is_of, number_of, put}
use Rattle.siri_subs.specs.Mapped.{mapped_row}
use Rattle.siri_subs.proofs.Mapped.{answer_mapped, accepted_mapped}
use Rattle.siri_model.specs.Rows.{KeptLife, new_row, nothing_kept, row_with, rows_asked}
use Rattle.siri_subscriptions.specs.declared.course.Course.{Course}
use Rattle.siri_subscriptions.specs.Courses.{kept, kept_rows}
use Rattle.siri_subscriptions.specs.Noted.{Noted, noted, noted_rows, new_noted, noted_asked}
use Rattle.siri_subscriptions.specs.declared.replies.refusal.Refusal.TheVariants as refused
use Rattle.siri_subscriptions.specs.replies.Refusals.{not_accepted_as}
use Rattle.siri_subscriptions.specs.replies.Responses.{accepted_status, refused_status}
use Rattle.siri_subscriptions.specs.declared.prepared.Candidate.{Candidate}
use Rattle.siri_subscriptions.specs.Requests.{termination_in, status_by, status_of, rows_with, statuses_of}
use Rattle.siri_subscriptions.specs.Prepared.{asked_by, accept_status, accept_rows, refusal_by, refusal_of, candidate_of, candidate_status, accept_noted, all_noted}
use Rattle.siri_subscriptions.specs.Prepared.{all_statuses, all_rows}

-- the number of each subscription is what it was, or this one
abbrev pub Follows : ℕ → List (Row KeptLife) → List (Row KeptLife) → Type 0
Follows number old rows = (s i : List ℕ) → (number_of s i rows ≡ number_of s i old) ⊎ (number_of s i rows ≡ Some number)

-- ---- numbers after an acceptance

-- two rows of one subscription are of the same ones
of_like : (s i : List ℕ) (h g : Row KeptLife) → is_of h.wanted.subscriber h.wanted.identifier g ≡ true → is_of s i g ≡ is_of s i h
of_like s i h g like =
    let names = and_parts (same_name g.wanted.subscriber h.wanted.subscriber) (same_name g.wanted.identifier h.wanted.identifier) like in
    let subscriber = (bytes_decides g.wanted.subscriber h.wanted.subscriber).0 names.0 in
    let identifier = (bytes_decides g.wanted.identifier h.wanted.identifier).0 names.1 in
    ap (λ n. same_name n s && same_name g.wanted.identifier i) subscriber ∙ ap (λ n. same_name h.wanted.subscriber s && same_name n i) identifier

module _ (s i : List ℕ) (h : Row KeptLife) where
  -- the number of a subscription after a row was put in front of rows
  front_number : (rows : List (Row KeptLife)) (b : Bool) → is_of s i h ≡ b
      → (number_of s i (h ∷ rows) ≡ number_of s i rows) ⊎ (number_of s i (h ∷ rows) ≡ Some h.number)
  front_number rows true is = inr (rw is refl)
  front_number rows false is = inl (rw is refl)

  instead_number : (g : Row KeptLife) (rows : List (Row KeptLife)) (b : Bool) → is_of s i h ≡ b → is_of s i g ≡ is_of s i h
      → (number_of s i (h ∷ rows) ≡ number_of s i (g ∷ rows)) ⊎ (number_of s i (h ∷ rows) ≡ Some h.number)
  instead_number g rows true is same = inr (rw is refl)
  instead_number g rows false is same = inl (rw (same, is) refl)

  behind_number : (g : Row KeptLife) (rows later : List (Row KeptLife)) (b : Bool) → is_of s i g ≡ b
      → (number_of s i later ≡ number_of s i rows) ⊎ (number_of s i later ≡ Some h.number)
      → (number_of s i (g ∷ later) ≡ number_of s i (g ∷ rows)) ⊎ (number_of s i (g ∷ later) ≡ Some h.number)
  behind_number g rows later true is rest = inl (rw is refl)
  behind_number g rows later false is rest = rw is rest

  put_case : (g : Row KeptLife) (rows : List (Row KeptLife)) (b : Bool) → is_of h.wanted.subscriber h.wanted.identifier g ≡ b
      → (number_of s i (put h rows) ≡ number_of s i rows) ⊎ (number_of s i (put h rows) ≡ Some h.number)
      → (number_of s i (put h (g ∷ rows)) ≡ number_of s i (g ∷ rows)) ⊎ (number_of s i (put h (g ∷ rows)) ≡ Some h.number)
  put_case g rows true like rest = rw like (instead_number g rows (is_of s i h) refl (of_like s i h g like))
  put_case g rows false like rest = rw like (behind_number g rows (put h rows) (is_of s i g) refl rest)

  put_number : (rows : List (Row KeptLife)) → (number_of s i (put h rows) ≡ number_of s i rows) ⊎ (number_of s i (put h rows) ≡ Some h.number)
  put_number [] = front_number [] (is_of s i h) refl
  put_number (g ∷ rows) = put_case g rows (is_of h.wanted.subscriber h.wanted.identifier g) refl (put_number rows)

follows_put : (old rows : List (Row KeptLife)) (h : Row KeptLife) → Follows h.number old rows → Follows h.number old (put h rows)
follows_put old rows h follows s i = by (put_number s i h rows) (follows s i)
  where
    by : (number_of s i (put h rows) ≡ number_of s i rows) ⊎ (number_of s i (put h rows) ≡ Some h.number)
        → (number_of s i rows ≡ number_of s i old) ⊎ (number_of s i rows ≡ Some h.number)
        → (number_of s i (put h rows) ≡ number_of s i old) ⊎ (number_of s i (put h rows) ≡ Some h.number)
    by (inr new) before = inr new
    by (inl same) (inl was) = inl (same ∙ was)
    by (inl same) (inr is) = inr (same ∙ is)

follows_after : (old rows : List (Row KeptLife)) (h : Row KeptLife) (r : Result Accepted AcceptError)
    → Follows h.number old rows → Follows h.number old (after r h rows)
follows_after old rows h (Ok accepted_as.New) follows = follows_put old rows h follows
follows_after old rows h (Ok accepted_as.Renewed) follows = follows_put old rows h follows
follows_after old rows h (Ok accepted_as.Again) follows = follows
follows_after old rows h (Err why) follows = follows

module _ (now number : ℕ) (old : List (Row KeptLife)) where
  follows_with : (rows : List (Row KeptLife)) (asked : AskedFor) → Follows number old rows → Follows number old (rows_with now number rows asked)
  follows_with rows asked follows = follows_after old rows (new_row now number asked) (answer now (new_row now number asked) rows) follows

-- ---- the one refusal that a subscription can get

refusal_held : (terminated : Bool) (number held : ℕ) (why : AcceptError) (same less : Bool)
    → cond same (Ok accepted_as.Again) (cond terminated (Err refused_as.PastTermination)
    (cond less (Err (refused_as.Superseded held)) (Ok accepted_as.Renewed))) ≡ Err why
    → nat_lt number held ≡ less → refusal_by terminated number (Some held) ≡ not_accepted_as why
refusal_held terminated number held why true less is e = absurd (cc is)
refusal_held true number held why false less is e = let same : refused_as.PastTermination ≡ why = cc is in ap not_accepted_as same
refusal_held false number held why false true is e = let same : refused_as.Superseded held ≡ why = cc is in rw e (ap not_accepted_as same)
refusal_held false number held why false false is e = absurd (cc is)

refusal_none : (terminated full : Bool) (number : ℕ) (why : AcceptError)
    → answer_of terminated full number None ≡ Err why → refusal_by terminated number None ≡ not_accepted_as why
refusal_none true full number why is = let same : refused_as.PastTermination ≡ why = cc is in ap not_accepted_as same
refusal_none false true number why is = let same : refused_as.TableFull ≡ why = cc is in ap not_accepted_as same
refusal_none false false number why is = absurd (cc is)

refusal_same : (terminated full : Bool) (number : ℕ) (held : Option ℕ) (why : AcceptError)
    → answer_of terminated full number held ≡ Err why → refusal_by terminated number held ≡ not_accepted_as why
refusal_same terminated full number None why is = refusal_none terminated full number why is
refusal_same terminated full number (Some held) why is = refusal_held terminated number held why (held == number) (nat_lt number held) is refl

refusal_known : (terminated full : Bool) (number : ℕ) (was held : Option ℕ) (why : AcceptError) → (held ≡ was) ⊎ (held ≡ Some number)
    → answer_of terminated full number held ≡ Err why → refusal_by terminated number was ≡ not_accepted_as why
refusal_known terminated full number was held why (inl same) is =
    refusal_same terminated full number was why (ap (answer_of terminated full number) (sym same) ∙ is)
refusal_known terminated full number was held why (inr own) is = absurd (never terminated (rw (own, eq-eqb number number refl) at is))
  where
    never : (b : Bool) → Ok accepted_as.Again ≡ Err why → ⊥
    never b e = absurd (cc e)

-- ---- what was ready is what is said and kept

status_same : (asked : AskedFor) (termination : Option ℕ) (r : Result Accepted AcceptError) (now number : ℕ) (old : List (Row KeptLife))
    → ((why : AcceptError) → r ≡ Err why → refusal_of now number old asked.subscription ≡ not_accepted_as why)
    → candidate_status r (candidate_of now number old asked).accepted
    (candidate_of now number old asked).refused termination ≡ status_by r asked.subscription termination
unfolding accepted_status
status_same asked termination (Ok accepted_as.New) now number old why = refl
status_same asked termination (Ok accepted_as.Renewed) now number old why = refl
status_same asked None (Ok accepted_as.Again) now number old why = refl
status_same asked (Some held) (Ok accepted_as.Again) now number old why = refl
status_same asked termination (Err refusal) now number old why =
    ap (refused_status asked.subscription.subscriber asked.subscription.identifier) (why refusal refl)

module _ (now number : ℕ) (old : List (Row KeptLife)) where
  ready_status : (rows : List (Row KeptLife)) (asked : AskedFor) → Follows number old rows
      → accept_status now number rows (candidate_of now number old asked) ≡ status_of now number rows asked
  ready_status rows asked follows =
      let wanted = asked.subscription in
      status_same asked (termination_in wanted.subscriber wanted.identifier rows) (answer now (new_row now number asked) rows) now number old
      (λ why. refusal_known (nat_le wanted.termination now) (nat_le most_subscriptions (length rows)) number
      (number_of wanted.subscriber wanted.identifier old) (number_of wanted.subscriber wanted.identifier rows) why
      (follows wanted.subscriber wanted.identifier))

  statuses_ready : (asked : List AskedFor) (rows : List (Row KeptLife)) → Follows number old rows
      → all_statuses now number (map (candidate_of now number old) asked) rows ≡ statuses_of now number asked rows
  statuses_ready [] rows follows = refl
  statuses_ready (x ∷ asked) rows follows =
      let rest = statuses_ready asked (rows_with now number rows x) (follows_with now number old rows x follows) in
      let here = ready_status rows x follows in
      λ j. here j ∷ rest j

  rows_ready : (asked : List AskedFor) (rows : List (Row KeptLife))
      → all_rows now number (map (candidate_of now number old) asked) rows ≡ rows_asked now number asked rows
  rows_ready [] rows = refl
  rows_ready (x ∷ asked) rows = rows_ready asked (accepted now (new_row now number x) rows)

  noted_ready : (asked : List AskedFor) (rows : List (Row Noted))
      → all_noted now number (map (candidate_of now number old) asked) rows ≡ noted_asked now number asked rows
  noted_ready [] rows = refl
  noted_ready (x ∷ asked) rows = noted_ready asked (accepted now (new_noted now number x) rows)

-- what a request is answered, and the rows after it
pub answered : (now number : ℕ) (asked : List AskedFor) (rows : List (Row KeptLife))
    → all_statuses now number (map (candidate_of now number rows) asked) rows ≡ statuses_of now number asked rows
answered now number asked rows = statuses_ready now number rows asked rows (λ s i. inl refl)

pub rows_answered : (now number : ℕ) (asked : List AskedFor) (rows : List (Row KeptLife))
    → all_rows now number (map (candidate_of now number rows) asked) rows ≡ rows_asked now number asked rows
rows_answered now number asked rows = rows_ready now number rows asked rows

pub noted_answered : (now number : ℕ) (asked : List AskedFor) (rows : List (Row KeptLife)) (noted : List (Row Noted))
    → all_noted now number (map (candidate_of now number rows) asked) noted ≡ noted_asked now number asked noted
noted_answered now number asked rows noted = noted_ready now number rows asked noted

-- ---- one that the table is asked for

module _ (now number : ℕ) (candidate : Candidate) (course : Course) (table : List (Row Course))
    (new : kept course ≡ nothing_kept now (asked_by candidate)) where
  abbrev row_by : Row Course
  row_by = record {
    wanted = candidate.wanted;
    number = number;
    base = number;
    address = candidate.address;
    beat = candidate.beat;
    slot = course;
  }

  row_kept : mapped_row kept row_by ≡ new_row now number (asked_by candidate)
  row_kept = ap (row_with number number (asked_by candidate)) new

  answer_kept : answer now row_by table ≡ answer now (new_row now number (asked_by candidate)) (kept_rows table)
  answer_kept = sym (answer_mapped kept now row_by table) ∙ ap (λ h. answer now h (kept_rows table)) row_kept

  pub status_kept : (r : Result Accepted AcceptError) → r ≡ answer now row_by table → (termination : Option ℕ)
      → termination ≡ termination_in candidate.wanted.subscriber candidate.wanted.identifier (kept_rows table)
      → candidate_status r candidate.accepted candidate.refused termination ≡ accept_status now number (kept_rows table) candidate
  status_kept r is termination held =
      ap (λ a. candidate_status a candidate.accepted candidate.refused termination) (is ∙ answer_kept)
      ∙ ap (candidate_status (answer now (new_row now number (asked_by candidate)) (kept_rows table)) candidate.accepted candidate.refused) held

  pub rows_kept : (rows : List (Row Course)) → rows ≡ accepted now row_by table → kept_rows rows ≡ accept_rows now number (kept_rows table) candidate
  rows_kept rows is = ap kept_rows is ∙ (sym (accepted_mapped kept now row_by table) ∙ ap (λ h. accepted now h (kept_rows table)) row_kept)

  row_noted : course.looked ≡ None → mapped_row noted row_by ≡ new_noted now number (asked_by candidate)
  row_noted none = λ i. record (new_noted now number (asked_by candidate)) { slot = record { life = new i; look = none i } }

  pub noted_kept : course.looked ≡ None → (rows : List (Row Course)) → rows ≡ accepted now row_by table
      → noted_rows rows ≡ accept_noted now number (noted_rows table) candidate
  noted_kept none rows is =
      ap noted_rows is ∙ (sym (accepted_mapped noted now row_by table) ∙ ap (λ h. accepted now h (noted_rows table)) (row_noted none))

-- ---- the one refusal, by what is held

module _ (now number : ℕ) (rows : List (Row KeptLife)) (wanted : Subscription) where
  pub refused_over : nat_le wanted.termination now ≡ true → refused.PastTermination ≡ refusal_of now number rows wanted
  refused_over over = rw over refl

  pub refused_before : (held : ℕ) → nat_le wanted.termination now ≡ false
      → number_of wanted.subscriber wanted.identifier rows ≡ Some held → number < held
      → refused.Superseded held ≡ refusal_of now number rows wanted
  refused_before held over is lt = rw (over, is, lt-ltb number held lt) refl

  pub refused_after : (held : ℕ) → nat_le wanted.termination now ≡ false
      → number_of wanted.subscriber wanted.identifier rows ≡ Some held → held ≤ number
      → refused.TableFull ≡ refusal_of now number rows wanted
  refused_after held over is le = rw (over, is, le-ltb number held le) refl

  pub refused_new : nat_le wanted.termination now ≡ false → number_of wanted.subscriber wanted.identifier rows ≡ None
      → refused.TableFull ≡ refusal_of now number rows wanted
  refused_new over is = rw (over, is) refl
