-- The requests that are kept of subscriptions, taken one after the other by a producer that holds none: it holds those whose
-- termination hasn't come, with their numbers and bases and in their order.
use Rattle.std.proofs.Common.{◌≡◌, ◌≤◌, ◌<◌, ℕ, ◌+◌, List, [], ◌∷◌, ◌++◌, length, map, fold, cond, Bool, true, false, ◌&&◌, not, nat_le, Some, None, refl, sym, ap, ◌∙◌, arith, append_assoc}
use Rattle.std.proofs.Common.{append-nil}
use Rattle.std.specs.Prelude.{◌==◌, nat_lt}
use Rattle.std.specs.List.{AllByRecursion as All, cons_option, filter_map, list_any}
use Rattle.std.proofs.lemmas.Bool.{eqb-false, eqb-true, or_parts}
use Rattle.std.proofs.lemmas.Bool.Decides.{nat_tests}
use Rattle.std.proofs.lemmas.Cmp.{nat_list_eq_equiv}
use Rattle.std.proofs.lemmas.List.{length-append, map-append, map-id}
use Rattle.std.proofs.lemmas.Simd.{map-map}
use Rattle.siri_topic.specs.Agreement.{same_name}
use Rattle.siri_messages.specs.declared.message.Message.{Message}
use Rattle.siri_messages.specs.declared.message.Message.TheVariants as message
use Rattle.siri_subs.specs.declared.entry.Row.{Row}
use Rattle.siri_subs.specs.Table.{EachOnce, accepted, after, answer_of, is_held, is_of, is_renumbered_by, is_terminated, most_subscriptions}
use Rattle.siri_subs.proofs.Answered.{number_none}
use Rattle.siri_subs.proofs.Once.{put_last}
use Rattle.siri_model.specs.Held.{Held, held_of}
use Rattle.siri_model.specs.Rows.{KeptLife, asked_of, new_row, nothing_kept, renewed_row, rows_asked, rows_taken, with_row_of}
use Rattle.siri_row_texts.specs.SubscriptionRows.{renewal_of, request_of}
use Rattle.siri_messages.specs.Asked.{AskedFor}
use Rattle.siri_keeping.specs.Subscribed.{unexpired}
use Rattle.siri_keeping.proofs.KeptRequests.{asks_alone, number_is}
use Rattle.siri_keeping.proofs.SaidRows.{renewal_message, request_message}

abbrev pub Rows : Type 0
Rows = List (Row KeptLife)

-- what is held of a subscription that was asked for anew, under its base
abbrev based : Held → Held
based s = record s { number = s.base }

-- the rows after messages that are taken, in a start at a moment
abbrev pub taken_all : (start now : ℕ) → List Message → Rows → Rows
taken_all start now ms rows = fold (λ rs m. rows_taken start now m rs) rows ms

-- ---- names

flipped : (a b c d : List ℕ) → (same_name a b && same_name c d) ≡ (same_name b a && same_name d c)
flipped a b c d = λ i. nat_list_eq_equiv.symm a b i && nat_list_eq_equiv.symm c d i

own_name : (a b : List ℕ) → (same_name a a && same_name b b) ≡ true
own_name a b = λ i. nat_list_eq_equiv.refl a i && nat_list_eq_equiv.refl b i

abbrev names : Row KeptLife → Row KeptLife → Bool
names row other = is_of row.wanted.subscriber row.wanted.identifier other

abbrev IsNew : Rows → Row KeptLife → Type 0
IsNew rows row = is_held row.wanted.subscriber row.wanted.identifier rows ≡ false

-- ---- a request that begins a subscription

requested : (start now base : ℕ) (a : AskedFor) (rows : Rows)
    → rows_taken start now (message.SubscriptionRequest (request_of a base)) rows ≡ accepted now (new_row now base a) rows
unfolding rows_taken
requested start now base a rows = λ i. rows_asked now (number_is a base i) (asks_alone a base i) rows

begun : (row : Row KeptLife) (rows : Rows) (over : Bool) → IsNew rows row
    → after (answer_of over false row.number None) row rows ≡ cond over rows (rows ++ row ∷ [])
begun row rows true new = refl
begun row rows false new = sym (put_last row rows new)

not_full : (count : ℕ) → count < most_subscriptions → nat_le most_subscriptions count ≡ false
not_full count room = grind (arith, nat_tests)

-- it is held at the end, unless its termination has come
accepted_new : (now : ℕ) (row : Row KeptLife) (rows : Rows) → IsNew rows row → length rows < most_subscriptions
    → accepted now row rows ≡ cond (is_terminated now row) rows (rows ++ row ∷ [])
accepted_new now row rows new room =
    (λ i. after (answer_of (is_terminated now row) (not_full (length rows) room i) row.number (number_none row.wanted.subscriber row.wanted.identifier rows new i)) row rows)
    ∙ begun row rows (is_terminated now row) new

-- ---- all of them

last_none : {X : Type 0} (p : X → Bool) (xs : List X) (x : X) → list_any p xs ≡ false → p x ≡ false → list_any p (xs ++ x ∷ []) ≡ false
last_none p [] x none is = rw is refl
last_none p (y ∷ xs) x none is = let parts = or_parts (p y) (list_any p xs) none in rw (parts.0) (last_none p xs x parts.1 is)

still_new : (row next : Row KeptLife) (rows todo : Rows) → next.wanted ≡ row.wanted → All (IsNew rows) todo → list_any (names row) todo ≡ false
    → All (IsNew (rows ++ next ∷ [])) todo
still_new row next rows [] same new apart = tt
still_new row next rows (other ∷ todo) same new apart =
    let parts = or_parts (names row other) (list_any (names row) todo) apart in
    let not_next : names other next ≡ false =
    (λ i. same_name (same i).subscriber other.wanted.subscriber && same_name (same i).identifier other.wanted.identifier)
    ∙ flipped row.wanted.subscriber other.wanted.subscriber row.wanted.identifier other.wanted.identifier ∙ parts.0 in
    (last_none (names other) rows next new.0 not_next, still_new row next rows todo same new.1 parts.1)

abbrev anew : ℕ → Row KeptLife → Row KeptLife
anew now row = new_row now row.base (asked_of row)

abbrev asked_anew : ℕ → Rows → Rows → Rows
asked_anew now rows todo = fold (λ rs row. accepted now (anew now row) rs) rows todo

all_asked : (now : ℕ) (todo rows : Rows) → EachOnce todo → All (IsNew rows) todo → length rows + length todo ≤ most_subscriptions
    → map held_of (asked_anew now rows todo) ≡ map held_of rows ++ unexpired now (map based (map held_of todo))
all_asked now [] rows once new few = sym (append-nil (map held_of rows))
all_asked now (row ∷ todo) rows once new few =
    ap (λ rs. map held_of (asked_anew now rs todo)) (accepted_new now (anew now row) rows new.0 (omega (arith, few)))
    ∙ by (nat_le row.wanted.termination now)
    (all_asked now todo rows once.1 new.1 (omega (arith, few)))
    (all_asked now todo (rows ++ anew now row ∷ []) once.1 (still_new row (anew now row) rows todo refl new.1 once.0)
    (omega (arith, length-append rows (anew now row ∷ []), few)))
  where
    by : (over : Bool) → map held_of (asked_anew now rows todo) ≡ map held_of rows ++ unexpired now (map based (map held_of todo))
        → map held_of (asked_anew now (rows ++ anew now row ∷ []) todo) ≡ map held_of (rows ++ anew now row ∷ []) ++ unexpired now (map based (map held_of todo))
        → map held_of (asked_anew now (cond over rows (rows ++ anew now row ∷ [])) todo)
        ≡ map held_of rows ++ cond (not over) (based (held_of row) ∷ unexpired now (map based (map held_of todo))) (unexpired now (map based (map held_of todo)))
    by true gone stays = gone
    by false gone stays =
        stays
        ∙ ap (λ l. l ++ unexpired now (map based (map held_of todo))) (map-append held_of rows (anew now row ∷ []))
        ∙ append_assoc (map held_of rows) (based (held_of row) ∷ []) (unexpired now (map based (map held_of todo)))

requests_taken : (start now : ℕ) (todo rows : Rows) → taken_all start now (map request_message (map held_of todo)) rows ≡ asked_anew now rows todo
requests_taken start now [] rows = refl
requests_taken start now (row ∷ todo) rows =
    ap (λ rs. taken_all start now (map request_message (map held_of todo)) rs) (requested start now row.base (asked_of row) rows)
    ∙ requests_taken start now todo (accepted now (anew now row) rows)

-- ---- a request that renews a subscription

abbrev is_named : Held → Held → Bool
is_named s g =
    same_name g.asked.subscription.subscriber s.asked.subscription.subscriber && same_name g.asked.subscription.identifier s.asked.subscription.identifier

-- what is held after it
abbrev renewed : Held → Held → Held
renewed s g = cond (is_named s g) (cond (g.base == s.base && nat_lt g.number s.number) (record g { number = s.number }) g) g

held_after : (n : ℕ) (b c : Bool) (row : Row KeptLife) (kept : KeptLife)
    → held_of (cond b (cond c (record row { number = n; slot = kept }) row) row) ≡ cond b (cond c (record (held_of row) { number = n }) (held_of row)) (held_of row)
held_after n true true row kept = refl
held_after n true false row kept = refl
held_after n false c row kept = refl

renewed_all : (now : ℕ) (s : Held) (rows : Rows)
    → map held_of (with_row_of s.asked.subscription.subscriber s.asked.subscription.identifier (renewed_row now s.number s.base) rows)
    ≡ map (renewed s) (map held_of rows)
renewed_all now s [] = refl
renewed_all now s (row ∷ rows) = λ i.
    held_after s.number (is_of s.asked.subscription.subscriber s.asked.subscription.identifier row) (is_renumbered_by s.number s.base row) row (nothing_kept now (asked_of row)) i
    ∷ renewed_all now s rows i

renewal_taken : (start now : ℕ) (s : Held) (rows : Rows)
    → map held_of (rows_taken start now (message.DataSupplyRequest (renewal_of s.asked.subscription s.number s.base)) rows) ≡ map (renewed s) (map held_of rows)
unfolding rows_taken
renewal_taken start now s rows = renewed_all now s rows

-- where its number isn't its base there is one
abbrev step : Held → Held → Held
step g s = cond (s.number == s.base) g (renewed s g)

abbrev stepped : List Held → Held → Held
stepped todo g = fold step g todo

renewals_taken : (start now : ℕ) (todo : List Held) (rows : Rows)
    → map held_of (taken_all start now (filter_map renewal_message todo) rows) ≡ map (stepped todo) (map held_of rows)
renewals_taken start now [] rows = sym (map-id (map held_of rows))
renewals_taken start now (s ∷ todo) rows =
    by (s.number == s.base) (renewals_taken start now todo rows)
    (renewals_taken start now todo (rows_taken start now (message.DataSupplyRequest (renewal_of s.asked.subscription s.number s.base)) rows))
  where
    by : (same : Bool) → map held_of (taken_all start now (filter_map renewal_message todo) rows) ≡ map (stepped todo) (map held_of rows)
        → map held_of (taken_all start now (filter_map renewal_message todo) (rows_taken start now (message.DataSupplyRequest (renewal_of s.asked.subscription s.number s.base)) rows))
        ≡ map (stepped todo) (map held_of (rows_taken start now (message.DataSupplyRequest (renewal_of s.asked.subscription s.number s.base)) rows))
        → map held_of (taken_all start now (cons_option (cond same None (Some (message.DataSupplyRequest (renewal_of s.asked.subscription s.number s.base)))) (filter_map renewal_message todo)) rows)
        ≡ map (λ g. stepped todo (cond same g (renewed s g))) (map held_of rows)
    by true left taken = left
    by false left taken =
        taken ∙ ap (map (stepped todo)) (renewal_taken start now s rows) ∙ map-map (stepped todo) (renewed s) (map held_of rows)

-- ---- each has its number again

unnamed : (b c : Bool) (g h : Held) → c ≡ false → cond b g (cond c h g) ≡ g
unnamed true c g h none = refl
unnamed false c g h none = ap (λ x. cond x h g) none

leaves : (g s : Held) → is_named s g ≡ false → step g s ≡ g
leaves g s none = unnamed (s.number == s.base) (is_named s g) g (cond (g.base == s.base && nat_lt g.number s.number) (record g { number = s.number }) g) none

others_leave : (g : Held) (todo : Rows) → All (λ row. is_named (held_of row) g ≡ false) todo → stepped (map held_of todo) g ≡ g
others_leave g [] none = refl
others_leave g (row ∷ todo) none = ap (stepped (map held_of todo)) (leaves g (held_of row) none.0) ∙ others_leave g todo none.1

above : (number base : ℕ) → base ≤ number → (number == base) ≡ false → nat_lt base number ≡ true
above number base le apart = let differ = eqb-false number base apart in grind (arith, nat_tests, differ)

own_by : (s : Held) (same : Bool) → (s.number == s.base) ≡ same → s.base ≤ s.number → cond same (based s) (renewed s (based s)) ≡ s
own_by s true is le = λ i. record s { number = sym (eqb-true s.number s.base is) i }
own_by s false is le =
    let base_is : (s.base == s.base) ≡ true = grind (arith, nat_tests) in
    (λ i. cond (own_name s.asked.subscription.subscriber s.asked.subscription.identifier i)
    (cond (base_is i && above s.number s.base le is i) s (based s)) (based s))

own : (s : Held) → s.base ≤ s.number → step (based s) s ≡ s
own s le = own_by s (s.number == s.base) refl le

unnamed_all : (row : Row KeptLife) (todo : Rows) → list_any (names row) todo ≡ false → All (λ other. is_named (held_of other) (held_of row) ≡ false) todo
unnamed_all row [] none = tt
unnamed_all row (other ∷ todo) none =
    let parts = or_parts (names row other) (list_any (names row) todo) none in
    (flipped row.wanted.subscriber other.wanted.subscriber row.wanted.identifier other.wanted.identifier ∙ parts.0, unnamed_all row todo parts.1)

abbrev IsBack : Rows → Row KeptLife → Type 0
IsBack old row = stepped (map held_of old) (based (held_of row)) ≡ held_of row

more_back : (first : Row KeptLife) (old rest : Rows) → list_any (names first) rest ≡ false → All (IsBack old) rest → All (IsBack (first ∷ old)) rest
more_back first old [] none back = tt
more_back first old (row ∷ rest) none back =
    let parts = or_parts (names first row) (list_any (names first) rest) none in
    (ap (stepped (map held_of old)) (leaves (based (held_of row)) (held_of first) parts.0) ∙ back.0, more_back first old rest parts.1 back.1)

all_back : (old : Rows) → EachOnce old → All (λ (row : Row KeptLife). row.base ≤ row.number) old → All (IsBack old) old
all_back [] once le = tt
all_back (row ∷ old) once le = (
  ap (stepped (map held_of old)) (own (held_of row) le.0) ∙ others_leave (held_of row) old (unnamed_all row old once.0),
  more_back row old old once.0 (all_back old once.1 le.1),
)

unexpired_back : (now : ℕ) (old rest : Rows) → All (IsBack old) rest
    → map (stepped (map held_of old)) (unexpired now (map based (map held_of rest))) ≡ unexpired now (map held_of rest)
unexpired_back now old [] back = refl
unexpired_back now old (row ∷ rest) back = by (not (nat_le row.wanted.termination now)) (unexpired_back now old rest back.1)
  where
    by : (b : Bool) → map (stepped (map held_of old)) (unexpired now (map based (map held_of rest))) ≡ unexpired now (map held_of rest)
        → map (stepped (map held_of old)) (cond b (based (held_of row) ∷ unexpired now (map based (map held_of rest))) (unexpired now (map based (map held_of rest))))
        ≡ cond b (held_of row ∷ unexpired now (map held_of rest)) (unexpired now (map held_of rest))
    by true more = λ i. back.0 i ∷ more i
    by false more = more

-- ---- both

none_held : (todo : Rows) → All (IsNew []) todo
none_held [] = tt
none_held (row ∷ todo) = (refl, none_held todo)

taken_append : (start now : ℕ) (first more : List Message) (rows : Rows) → taken_all start now (first ++ more) rows ≡ taken_all start now more (taken_all start now first rows)
taken_append start now [] more rows = refl
taken_append start now (m ∷ first) more rows = taken_append start now first more (rows_taken start now m rows)

pub held_again : (start now : ℕ) (old : Rows) → EachOnce old → All (λ (row : Row KeptLife). row.base ≤ row.number) old → length old ≤ most_subscriptions
    → map held_of (taken_all start now (map request_message (map held_of old) ++ filter_map renewal_message (map held_of old)) []) ≡ unexpired now (map held_of old)
held_again start now old once le few =
    ap (map held_of) (taken_append start now (map request_message (map held_of old)) (filter_map renewal_message (map held_of old)) [])
    ∙ renewals_taken start now (map held_of old) (taken_all start now (map request_message (map held_of old)) [])
    ∙ ap (λ rs. map (stepped (map held_of old)) (map held_of rs)) (requests_taken start now old [])
    ∙ ap (map (stepped (map held_of old))) (all_asked now old [] once (none_held old) (omega (arith, few)))
    ∙ unexpired_back now old old (all_back old once le)
