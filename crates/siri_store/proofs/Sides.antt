-- Sides rise along keys in order, and the keys of a topic's candidates are those of the middle one.
use Rattle.std.proofs.Common.{◌≡◌, ℕ, ◌<◌, ◌≤◌, List, [], ◌∷◌, true, false, refl, sym, ◌∙◌, arith, inl, inr}
use Rattle.std.specs.Cmp.{IsTotalOrder}
use Rattle.std.specs.Cmp.Lexicographic.{slice_cmp, nat_list_cmp_total}
use Rattle.std.specs.FinMap.{nat_cmp-IsAntisymmetric}
use Rattle.std.specs.Ordering.{nat_cmp, ordering_then, ordering_index, is_eq, is_lt}
use Rattle.std.specs.declared.cmp.Ordering.{Ordering}
use Rattle.std.specs.declared.cmp.Ordering.TheVariants.{Less, Equal, Greater}
use Rattle.std.proofs.lemmas.Bool.{cases_lt}
use Rattle.std.proofs.lemmas.Bool.Decides.{nat_tests}
use Rattle.std.proofs.lemmas.Cmp.{alike_right, same_from_slice_cmp}
use Rattle.siri_records.specs.declared.key.Key.{Key}
use Rattle.siri_records.specs.declared.key.Key.TheVariants as key
use Rattle.siri_records.specs.Order.{rank, names, name_cmp, key_cmp}
use Rattle.siri_topic.specs.declared.topics.LineDirection.{LineDirection}
use Rattle.siri_topic.specs.declared.topics.Topic.{Topic}
use Rattle.siri_topic.specs.declared.topics.Topic.TheVariants as topic
use Rattle.siri_topic.specs.Agreement.{same_name}
use Rattle.siri_store.specs.Candidates.{may_be_line, may_be_shown}
use Rattle.siri_store.specs.Sides.{rank_asked, line_cmp, place_cmp, side, is_below}

highest : (o : Ordering) → ordering_index o ≤ 2
highest Less = omega arith
highest Equal = omega arith
highest Greater = omega arith

-- ---- numbers

less_is : (a b : ℕ) → a < b → nat_cmp a b ≡ Less
less_is a b lt = grind (arith, nat_tests)

greater_is : (a b : ℕ) → b < a → nat_cmp a b ≡ Greater
greater_is a b lt = grind (arith, nat_tests)

less_means : (a b : ℕ) → nat_cmp a b ≡ Less → a < b
less_means a b is = grind (arith, nat_tests)

still_below : (a b c : ℕ) → a ≤ b → is_lt (nat_cmp b c) ≡ true → is_lt (nat_cmp a c) ≡ true
still_below a b c le is = grind (arith, nat_tests)

ranks_rise : (a b r : ℕ) (p q : Ordering) → a < b
    → ordering_index (ordering_then (nat_cmp a r) p) ≤ ordering_index (ordering_then (nat_cmp b r) q)
ranks_rise a b r p q lt = elim (cases_lt a r) [
  | inl before ↦ rw (less_is a r before) (omega arith)
  | inr after ↦ let above : r < b = omega arith in rw (greater_is b r above) (highest (ordering_then (nat_cmp a r) p))
]

-- ---- names

module _ {K : Type 0} {R : K → K → Ordering} (total : IsTotalOrder R) (a b c : K) where
  less_case : (o : Ordering) → R b c ≡ o → R a b ≡ Less → ordering_index (R a c) ≤ ordering_index o
  less_case Less is less = rw (total.trans a b c less is) (omega arith)
  less_case Equal is less = rw (sym (alike_right total b c a is) ∙ less) (omega arith)
  less_case Greater is less = highest (R a c)

  -- what is no higher is on no higher side
  rises : (o p : Ordering) → R a b ≡ o → ordering_then o p ≡ Less → ordering_index (R a c) ≤ ordering_index (R b c)
  rises Less p is less = less_case (R b c) refl is
  rises Equal p is less = rw (total.congr a b c is) (omega arith)
  rises Greater p is less = absurd (cc less)

-- ---- keys

lines_rise : (lines : List LineDirection) (l m : List ℕ) (p : Ordering) → ordering_then (slice_cmp nat_cmp l m) p ≡ Less
    → ordering_index (line_cmp lines l) ≤ ordering_index (line_cmp lines m)
lines_rise [] l m p less = omega arith
lines_rise (only ∷ []) l m p less = rises nat_list_cmp_total l m only.line_ref (slice_cmp nat_cmp l m) p refl less
lines_rise (one ∷ other ∷ lines) l m p less = omega arith

places_rise : (t : Topic) (a b : Key) → rank a ≡ rank b → slice_cmp name_cmp (names a) (names b) ≡ Less
    → ordering_index (place_cmp t a) ≤ ordering_index (place_cmp t b)
places_rise (topic.Stop s) (key.Visit m i) (key.Visit n j) same less =
    rises nat_list_cmp_total m n s.monitoring_ref (slice_cmp nat_cmp m n) _ refl less
places_rise (topic.Stop s) (key.Visit m i) b same less = absurd (omega arith)
places_rise (topic.Stop s) a (key.Visit n j) same less = absurd (omega arith)
places_rise (topic.Stop s) a b same less = omega arith
places_rise (topic.Timetable s) (key.Journey l d f j) (key.Journey m e g i) same less = lines_rise s.lines l m _ less
places_rise (topic.Timetable s) (key.Journey l d f j) b same less = absurd (omega arith)
places_rise (topic.Timetable s) a (key.Journey m e g i) same less = absurd (omega arith)
places_rise (topic.Timetable s) a b same less = omega arith
places_rise t a b same less = omega arith

then_rises : (o p q : Ordering) → ordering_index p ≤ ordering_index q
    → ordering_index (ordering_then o p) ≤ ordering_index (ordering_then o q)
then_rises Less p q le = omega arith
then_rises Equal p q le = le
then_rises Greater p q le = omega arith

side_case : (t : Topic) (a b : Key) (o : Ordering) → nat_cmp (rank a) (rank b) ≡ o
    → ordering_then o (slice_cmp name_cmp (names a) (names b)) ≡ Less
    → ordering_index (side t a) ≤ ordering_index (side t b)
side_case t a b Less is less =
    ranks_rise (rank a) (rank b) (rank_asked t) (place_cmp t a) (place_cmp t b) (less_means (rank a) (rank b) is)
side_case t a b Equal is less =
    let same : rank a ≡ rank b = nat_cmp-IsAntisymmetric (rank a) (rank b) is in
    rw same (then_rises (nat_cmp (rank b) (rank_asked t)) (place_cmp t a) (place_cmp t b) (places_rise t a b same less))
side_case t a b Greater is less = absurd (cc less)

-- a key that comes before one that is below a side is below it too
pub below_before : (t : Topic) (least : Ordering) (a b : Key) → key_cmp a b ≡ Less → is_below t least b ≡ true
    → is_below t least a ≡ true
below_before t least a b less below =
    still_below (ordering_index (side t a)) (ordering_index (side t b)) (ordering_index least)
    (side_case t a b (nat_cmp (rank a) (rank b)) refl less) below

-- ---- the middle side

names_same : (m n : List ℕ) → same_name m n ≡ is_eq (slice_cmp nat_cmp m n)
names_same m n =
    sym (same_from_slice_cmp nat_cmp is_eq same_name refl (λ y ys. refl) (λ x xs. refl)
    (λ x y xs ys o is. grind (arith, nat_tests)) m n (slice_cmp nat_cmp m n) refl)

lines_same : (lines : List LineDirection) (line : List ℕ) → may_be_line lines line ≡ is_eq (line_cmp lines line)
lines_same [] line = refl
lines_same (only ∷ []) line = names_same line only.line_ref
lines_same (one ∷ other ∷ lines) line = refl

pub middle_is : (t : Topic) (k : Key) → may_be_shown t k ≡ is_eq (side t k)
middle_is (topic.Stop s) (key.Visit m i) = names_same m s.monitoring_ref
middle_is (topic.Stop s) k = refl
middle_is (topic.Timetable s) (key.Visit m i) = refl
middle_is (topic.Timetable s) (key.Journey l d f j) = lines_same s.lines l
middle_is (topic.Timetable s) (key.Vehicle v) = refl
middle_is (topic.Timetable s) (key.Situation p n) = refl
middle_is (topic.Vehicle s) (key.Visit m i) = refl
middle_is (topic.Vehicle s) (key.Journey l d f j) = refl
middle_is (topic.Vehicle s) (key.Vehicle v) = refl
middle_is (topic.Vehicle s) (key.Situation p n) = refl
middle_is (topic.Situation s) (key.Visit m i) = refl
middle_is (topic.Situation s) (key.Journey l d f j) = refl
middle_is (topic.Situation s) (key.Vehicle v) = refl
middle_is (topic.Situation s) (key.Situation p n) = refl

left_out : (o : Ordering) → is_lt (nat_cmp (ordering_index o) 1) ≡ true → is_eq o ≡ false
left_out Less is = refl
left_out Equal is = absurd (cc is)
left_out Greater is = refl

right_out : (o : Ordering) → is_lt (nat_cmp (ordering_index o) 2) ≡ false → is_eq o ≡ false
right_out Less is = refl
right_out Equal is = absurd (cc is)
right_out Greater is = refl

between : (o : Ordering) → is_lt (nat_cmp (ordering_index o) 1) ≡ false → is_lt (nat_cmp (ordering_index o) 2) ≡ true
    → is_eq o ≡ true
between Less not_left not_right = absurd (cc not_left)
between Equal not_left not_right = refl
between Greater not_left not_right = absurd (cc not_right)

one_side : (o : Ordering) → is_lt (nat_cmp (ordering_index o) 1) ≡ true → is_lt (nat_cmp (ordering_index o) 2) ≡ false
    → ⊥
one_side Less left right = cc right
one_side Equal left right = cc left
one_side Greater left right = cc left

pub below_none : (t : Topic) (k : Key) → is_below t Equal k ≡ true → may_be_shown t k ≡ false
below_none t k is = middle_is t k ∙ left_out (side t k) is

pub above_none : (t : Topic) (k : Key) → is_below t Greater k ≡ false → may_be_shown t k ≡ false
above_none t k is = middle_is t k ∙ right_out (side t k) is

pub between_all : (t : Topic) (k : Key) → is_below t Equal k ≡ false → is_below t Greater k ≡ true
    → may_be_shown t k ≡ true
between_all t k not_left not_right = middle_is t k ∙ between (side t k) not_left not_right

pub not_both : (t : Topic) (k : Key) → is_below t Equal k ≡ true → is_below t Greater k ≡ false → ⊥
not_both t k left right = one_side (side t k) left right
