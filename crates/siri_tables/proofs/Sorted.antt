-- Rows that are written in byte order of their names make the members that putting them in any order makes.
use Rattle.std.proofs.Common.{◌≡◌, ℕ, Bool, true, false, List, [], ◌∷◌, ◌++◌, Option, Some, None, Ordering, Less, Equal, Greater, refl, sym}
use Rattle.std.proofs.Common.{ap, ◌∙◌, subst, append_assoc, append-nil}
use Rattle.std.proofs.lemmas.Map.Lookups.{exact_bytes}
use Rattle.std.specs.Prelude.{⊤, ◌||◌, is_some}
use Rattle.std.specs.Ordering.{nat_cmp, match_ordering}
use Rattle.std.specs.Cmp.Lexicographic.{slice_cmp}
use Rattle.json.specs.Token.{Token, key, begin_object, end_object}
use Rattle.json.specs.Tree.{members_tokens}
use Rattle.serde_json.specs.Data.{Data, object, Members, no_members, member, put}
use Rattle.serde_json.specs.Written.{members_outline}
use Rattle.siri_json.specs.Canonical.{IsBelow}
use Rattle.siri_json.proofs.Order.{below, below_all, below_put}
use Rattle.siri_json.specs.Tokens.{tokens_of}
use Rattle.siri_tables.specs.Appended.{row_tokens}
use Rattle.siri_tables.specs.Writing.{Row, put_row, with_rows, row_object, object_unless_empty}

-- the second of two rows of one name, where it is written
abbrev later : Option Data → Option Data → Option Data
later first None = first
later first (Some d) = Some d

-- a row at its place among rows in order
abbrev pub insert : Row → List Row → List Row
insert r [] = r ∷ []
insert r (s ∷ ss) = match_ordering (slice_cmp nat_cmp r.0 s.0) (r ∷ s ∷ ss) ((s.0, later s.1 r.1) ∷ ss) (s ∷ insert r ss)

abbrev pub sorted_onto : List Row → List Row → List Row
sorted_onto done [] = done
sorted_onto done (r ∷ rs) = sorted_onto (insert r done) rs

-- rows in order: for a table of constants it is found by computing
abbrev pub sorted : List Row → List Row
sorted rs = sorted_onto [] rs

abbrev add_row : List ℕ → Option Data → Members → Members
add_row k None ms = ms
add_row k (Some d) ms = member k d ms

-- the members as the rows stand
abbrev pub members_as_they_stand : List Row → Members
members_as_they_stand [] = no_members
members_as_they_stand (r ∷ rs) = add_row r.0 r.1 (members_as_they_stand rs)

abbrev RowsAscend : List Row → Type 0
RowsAscend [] = ⊤
RowsAscend (r ∷ rs) = IsBelow r.0 (members_as_they_stand rs) × RowsAscend rs

-- ---- a row that isn't written changes nothing

none_at : (k l : List ℕ) (o : Option Data) (ss : List Row) (c : Ordering) → members_as_they_stand ss ≡ members_as_they_stand (insert (k, None) ss)
    → add_row l o (members_as_they_stand ss) ≡ members_as_they_stand
    (match_ordering c ((k, None) ∷ (l, o) ∷ ss) ((l, later o None) ∷ ss) ((l, o) ∷ insert (k, None) ss))
none_at k l o ss Less rest = refl
none_at k l o ss Equal rest = refl
none_at k l o ss Greater rest = ap (add_row l o) rest

none_inserted : (k : List ℕ) (ss : List Row) → members_as_they_stand ss ≡ members_as_they_stand (insert (k, None) ss)
none_inserted k [] = refl
none_inserted k (s ∷ ss) = none_at k s.0 s.1 ss (slice_cmp nat_cmp k s.0) (none_inserted k ss)

-- ---- one that is written is put

put_first : (k : List ℕ) (d : Data) (ms : Members) → IsBelow k ms → put k d ms ≡ member k d ms
put_first k d no_members is = refl
put_first k d (member l e ms) is = rw is.0

same_name : (k l : List ℕ) → slice_cmp nat_cmp k l ≡ Equal → k ≡ l
same_name k l is = exact_bytes k l is

put_at : (k l : List ℕ) (d : Data) (o : Option Data) (ss : List Row) (c : Ordering) → slice_cmp nat_cmp k l ≡ c → IsBelow l (members_as_they_stand ss)
    → put k d (members_as_they_stand ss) ≡ members_as_they_stand (insert (k, Some d) ss)
    → put k d (add_row l o (members_as_they_stand ss)) ≡ members_as_they_stand
    (match_ordering c ((k, Some d) ∷ (l, o) ∷ ss) ((l, Some d) ∷ ss) ((l, o) ∷ insert (k, Some d) ss))
put_at k l d None ss Less is first rest = put_first k d (members_as_they_stand ss) (below_all k l (members_as_they_stand ss) is first)
put_at k l d None ss Equal is first rest =
    subst (λ (x : List ℕ). put x d (members_as_they_stand ss) ≡ member l d (members_as_they_stand ss))
    (sym (same_name k l is)) (put_first l d (members_as_they_stand ss) first)
put_at k l d None ss Greater is first rest = rest
put_at k l d (Some e) ss Less is first rest = rw is
put_at k l d (Some e) ss Equal is first rest = rw is
put_at k l d (Some e) ss Greater is first rest = rw (is, rest)

put_inserted : (k : List ℕ) (d : Data) (ss : List Row) → RowsAscend ss → put k d (members_as_they_stand ss) ≡ members_as_they_stand (insert (k, Some d) ss)
put_inserted k d [] up = refl
put_inserted k d (s ∷ ss) up = put_at k s.0 d s.1 ss (slice_cmp nat_cmp k s.0) refl up.0 (put_inserted k d ss up.1)

inserted : (k : List ℕ) (o : Option Data) (ss : List Row) → RowsAscend ss → put_row k o (members_as_they_stand ss) ≡ members_as_they_stand (insert (k, o) ss)
inserted k None ss up = none_inserted k ss
inserted k (Some d) ss up = put_inserted k d ss up

-- ---- the order stays

below_row : (j l : List ℕ) (o : Option Data) (ms : Members) → slice_cmp nat_cmp j l ≡ Less → IsBelow l ms → IsBelow j (add_row l o ms)
below_row j l None ms is first = below_all j l ms is first
below_row j l (Some d) ms is first = (is, below_all j l ms is first)

below_put_row : (j k : List ℕ) (o : Option Data) (ms : Members) → slice_cmp nat_cmp j k ≡ Less → IsBelow j ms → IsBelow j (put_row k o ms)
below_put_row j k None ms is first = first
below_put_row j k (Some d) ms is first = below_put j k d ms is first

ascend_at : (k l : List ℕ) (o p : Option Data) (ss : List Row) (c : Ordering) → slice_cmp nat_cmp k l ≡ c
    → IsBelow l (members_as_they_stand ss) → RowsAscend ss → RowsAscend (insert (k, o) ss)
    → RowsAscend (match_ordering c ((k, o) ∷ (l, p) ∷ ss) ((l, later p o) ∷ ss) ((l, p) ∷ insert (k, o) ss))
ascend_at k l o p ss Less is first up more = (below_row k l p (members_as_they_stand ss) is first, (first, up))
ascend_at k l o p ss Equal is first up more = (first, up)
ascend_at k l o p ss Greater is first up more =
    (subst (IsBelow l) (inserted k o ss up) (below_put_row l k o (members_as_they_stand ss) (below k l is) first), more)

ascend_inserted : (r : Row) (ss : List Row) → RowsAscend ss → RowsAscend (insert r ss)
ascend_inserted r [] up = (tt, tt)
ascend_inserted r (s ∷ ss) up = ascend_at r.0 s.0 r.1 s.1 ss (slice_cmp nat_cmp r.0 s.0) refl up.0 up.1 (ascend_inserted r ss up.1)

with_rows_onto : (done rs : List Row) → RowsAscend done → with_rows (members_as_they_stand done) rs ≡ members_as_they_stand (sorted_onto done rs)
with_rows_onto done [] up = refl
with_rows_onto done (r ∷ rs) up = ap (λ ms. with_rows ms rs) (inserted r.0 r.1 done up) ∙ with_rows_onto (insert r done) rs (ascend_inserted r done up)

pub with_rows_sorted : (rs : List Row) → with_rows no_members rs ≡ members_as_they_stand (sorted rs)
with_rows_sorted rs = with_rows_onto [] rs tt

-- ---- the tokens of an object

-- the tokens, and behind them those of each row
abbrev pub rows_onto : List Token → List Row → List Token
rows_onto ts [] = ts
rows_onto ts (r ∷ rs) = rows_onto (ts ++ row_tokens r.0 r.1) rs

close_at : (ts : List Token) (k : List ℕ) (o : Option Data) (ms : Members)
    → (ts ++ row_tokens k o) ++ members_tokens (members_outline ms) ≡ ts ++ members_tokens (members_outline (add_row k o ms))
close_at ts k None ms = ap (λ all. all ++ members_tokens (members_outline ms)) (append-nil ts)
close_at ts k (Some d) ms = append_assoc ts (key k ∷ tokens_of d) (members_tokens (members_outline ms))

rows_close : (ts : List Token) (rs : List Row) → rows_onto ts rs ++ end_object ∷ [] ≡ ts ++ members_tokens (members_outline (members_as_they_stand rs))
rows_close ts [] = refl
rows_close ts (r ∷ rs) = rows_close (ts ++ row_tokens r.0 r.1) rs ∙ close_at ts r.0 r.1 (members_as_they_stand rs)

-- an object of these rows, which were written in order
pub object_in_order : (old : List Token) (rs : List Row)
    → rows_onto (old ++ begin_object ∷ []) (sorted rs) ++ end_object ∷ [] ≡ old ++ tokens_of (row_object rs)
object_in_order old rs =
    rows_close (old ++ begin_object ∷ []) (sorted rs) ∙ append_assoc old (begin_object ∷ [])
    (members_tokens (members_outline (members_as_they_stand (sorted rs))))
    ∙ ap (λ ms. old ++ tokens_of (object ms)) (sym (with_rows_sorted rs))

-- the same in a row
pub row_in_order : (old : List Token) (name : List ℕ) (rs : List Row)
    → rows_onto ((old ++ key name ∷ []) ++ begin_object ∷ []) (sorted rs) ++ end_object ∷ [] ≡ old
    ++ key name ∷ tokens_of (row_object rs)
row_in_order old name rs = object_in_order (old ++ key name ∷ []) rs ∙ append_assoc old (key name ∷ []) (tokens_of (row_object rs))

-- ---- objects that are left out where they would be empty

-- whether one of the rows is written
abbrev pub any_written : List Row → Bool
any_written [] = false
any_written (r ∷ rs) = is_some r.1 || any_written rs

is_there : Members → Bool
is_there no_members = false
is_there (member k d ms) = true

there_at : (k l : List ℕ) (d e : Data) (ms more : Members) (o : Ordering)
    → is_there (match_ordering o (member k d (member l e ms)) (member l d ms) (member l e more)) ≡ true
unfolding is_there
there_at k l d e ms more Less = refl
there_at k l d e ms more Equal = refl
there_at k l d e ms more Greater = refl

put_there : (k : List ℕ) (d : Data) (ms : Members) → is_there (put k d ms) ≡ true
unfolding is_there
put_there k d no_members = refl
put_there k d (member l e ms) = there_at k l d e ms (put k d ms) (slice_cmp nat_cmp k l)

stays_there : (k : List ℕ) (o : Option Data) (ms : Members) → is_there ms ≡ true → is_there (put_row k o ms) ≡ true
stays_there k None ms is = is
stays_there k (Some d) ms is = put_there k d ms

all_there : (ms : Members) (rs : List Row) → is_there ms ≡ true → is_there (with_rows ms rs) ≡ true
all_there ms [] is = is
all_there ms (r ∷ rs) is = all_there (put_row r.0 r.1 ms) rs (stays_there r.0 r.1 ms is)

some_there : (k : List ℕ) (o : Option Data) (rs : List Row)
    → (any_written rs ≡ true → is_there (with_rows no_members rs) ≡ true) → is_some o || any_written rs ≡ true
    → is_there (with_rows (put_row k o no_members) rs) ≡ true
unfolding is_there
some_there k None rs rest is = rest is
some_there k (Some d) rs rest is = all_there (put k d no_members) rs refl

rows_there : (rs : List Row) → any_written rs ≡ true → is_there (with_rows no_members rs) ≡ true
rows_there [] is = absurd cc
rows_there (r ∷ rs) is = some_there r.0 r.1 rs (rows_there rs) is

object_there : (ms : Members) → is_there ms ≡ true → object_unless_empty ms ≡ Some (object ms)
unfolding is_there
object_there no_members is = absurd cc
object_there (member k d ms) is = refl

-- one that has a row
pub written_object : (rs : List Row) → any_written rs ≡ true → object_unless_empty (with_rows no_members rs) ≡ Some (row_object rs)
written_object rs is = object_there (with_rows no_members rs) (rows_there rs is)

none_written : (k : List ℕ) (o : Option Data) (rs : List Row)
    → (any_written rs ≡ false → with_rows no_members rs ≡ no_members) → is_some o || any_written rs ≡ false
    → with_rows (put_row k o no_members) rs ≡ no_members
none_written k None rs rest is = rest is
none_written k (Some d) rs rest is = absurd cc

nothing_written : (rs : List Row) → any_written rs ≡ false → with_rows no_members rs ≡ no_members
nothing_written [] is = refl
nothing_written (r ∷ rs) is = none_written r.0 r.1 rs (nothing_written rs) is

-- one that has none
pub left_out : (rs : List Row) → any_written rs ≡ false → object_unless_empty (with_rows no_members rs) ≡ None
left_out rs is = rw (nothing_written rs is)
