-- The laws of the tests of nearness, each said of two values of one field.
use Rattle.std.proofs.Common.{◌≡◌, ℕ, ◌+◌, ◌<◌, ◌≤◌, ◌⊎◌, inl, inr, ℤ, pos, List, [], ◌∷◌, map, Option, None, Some, Bool, true, false, ◌||◌, nat_eq, refl, sym, ap, subst, arith}
use Rattle.std.specs.Prelude.{◌-ℤ◌, unsigned_abs, int_lt}
use Rattle.std.specs.Bool.{Decides}
use Rattle.std.specs.Ordering.{int_eq}
use Rattle.std.specs.Option.{option_eq, option_map}
use Rattle.std.specs.Cmp.{signed_Decides, unsigned_Decides, booleans_Decides}
use Rattle.std.proofs.lemmas.Bool.{and_parts, ltb-true, lt-ltb}
use Rattle.std.proofs.lemmas.Int.{ints}
use Rattle.std.proofs.lemmas.Slice.Eq.{slice_eq-Decides}
use Rattle.siri_records.specs.declared.situation.Period.{Period}
use Rattle.siri_records.specs.declared.visit.VehicleLocation.{VehicleLocation}
use Rattle.siri_records.specs.Near.{same_text, same_location, same_period, is_close, are_close_moments}
use Rattle.siri_records.specs.Near.{Test, equal_text, equal_number, equal_flag, equal_location, equal_period, optional, each}

-- each value passes with itself, with no slack equal values alone pass, and along a chain slacks add up
pub record TestLaws {A : Type 0} (test : Test A) : Type 0 where
  pub itself : (slack : ℤ) (a : A) → test slack a a ≡ true
  pub exact : (a b : A) → test (pos 0) a b ≡ true → a ≡ b
  pub joins : (p q : ℕ) (a b c : A)
      → test (pos p) a b ≡ true → test (pos q) b c ≡ true → test (pos (p + q)) a c ≡ true

-- where two values pass, with whatever slack, what is steady of them passes with none
abbrev pub PassesSteady : {A : Type 0} → Test A → (A → A) → Type 0
PassesSteady {A} test rest = (slack : ℤ) (a b : A) → test slack a b ≡ true → test (pos 0) (rest a) (rest b) ≡ true

-- ---- equality

abbrev IsEquality : {A : Type 0} → (A → A → Bool) → Type 0
IsEquality {A} E = (a b : A) → Decides (E a b) (a ≡ b)

equal_laws : {A : Type 0} {E : A → A → Bool} → IsEquality E → TestLaws (λ slack. E)
equal_laws {E = E} decides = record {
  itself = λ slack a. (decides a a).1 refl;
  exact = λ a b. (decides a b).0;
  joins = λ p q a b c h k. subst (λ x. E x c ≡ true) (sym ((decides a b).0 h)) k;
}

pub number_laws : TestLaws equal_number
number_laws = equal_laws unsigned_Decides

pub flag_laws : TestLaws equal_flag
flag_laws = equal_laws booleans_Decides

pub text_laws : TestLaws equal_text
text_laws = equal_laws (λ a b. slice_eq-Decides unsigned_Decides a b (same_text a b) refl)

-- ---- values that may be absent, and lists

optional_itself : {A : Type 0} (test : Test A) → TestLaws test
    → (slack : ℤ) (a : Option A) → optional test slack a a ≡ true
optional_itself test laws slack None = refl
optional_itself test laws slack (Some a) = laws.itself slack a

optional_exact : {A : Type 0} (test : Test A) → TestLaws test
    → (a b : Option A) → optional test (pos 0) a b ≡ true → a ≡ b
optional_exact test laws None None e = refl
optional_exact test laws (Some a) (Some b) e = ap Some (laws.exact a b e)
optional_exact test laws a b e = cc

optional_joins : {A : Type 0} (test : Test A) → TestLaws test → (p q : ℕ) (a b c : Option A)
    → optional test (pos p) a b ≡ true → optional test (pos q) b c ≡ true → optional test (pos (p + q)) a c ≡ true
optional_joins test laws p q None None None h k = refl
optional_joins test laws p q (Some a) (Some b) (Some c) h k = laws.joins p q a b c h k
optional_joins test laws p q a b c h k = cc

pub optional_laws : {A : Type 0} {test : Test A} → TestLaws test → TestLaws (optional test)
optional_laws {test = test} laws = record {
  itself = optional_itself test laws;
  exact = optional_exact test laws;
  joins = optional_joins test laws;
}

pub optional_passes_steady : {A : Type 0} {test : Test A} (rest : A → A) → PassesSteady test rest
    → PassesSteady (optional test) (option_map rest)
optional_passes_steady rest passes slack None None e = refl
optional_passes_steady rest passes slack (Some a) (Some b) e = passes slack a b e
optional_passes_steady rest passes slack a b e = cc

each_itself : {A : Type 0} (test : Test A) → TestLaws test → (slack : ℤ) (a : List A) → each test slack a a ≡ true
each_itself test laws slack [] = refl
each_itself test laws slack (a ∷ as') = rw (laws.itself slack a) (each_itself test laws slack as')

each_exact : {A : Type 0} (test : Test A) → TestLaws test → (a b : List A) → each test (pos 0) a b ≡ true → a ≡ b
each_exact test laws [] [] e = refl
each_exact test laws (a ∷ as') (b ∷ bs) e =
    let parts = and_parts (test (pos 0) a b) (each test (pos 0) as' bs) e in
    λ i. laws.exact a b parts.0 i ∷ each_exact test laws as' bs parts.1 i
each_exact test laws a b e = cc

each_joins : {A : Type 0} (test : Test A) → TestLaws test → (p q : ℕ) (a b c : List A)
    → each test (pos p) a b ≡ true → each test (pos q) b c ≡ true → each test (pos (p + q)) a c ≡ true
each_joins test laws p q [] [] [] h k = refl
each_joins test laws p q (a ∷ as') (b ∷ bs) (c ∷ cs) h k =
    let first = and_parts (test (pos p) a b) (each test (pos p) as' bs) h in
    let second = and_parts (test (pos q) b c) (each test (pos q) bs cs) k in
    rw (laws.joins p q a b c first.0 second.0) (each_joins test laws p q as' bs cs first.1 second.1)
each_joins test laws p q a b c h k = cc

pub each_laws : {A : Type 0} {test : Test A} → TestLaws test → TestLaws (each test)
each_laws {test = test} laws = record {
  itself = each_itself test laws;
  exact = each_exact test laws;
  joins = each_joins test laws;
}

pub each_passes_steady : {A : Type 0} {test : Test A} (rest : A → A) → PassesSteady test rest
    → PassesSteady (each test) (map rest)
each_passes_steady rest passes slack [] [] e = refl
each_passes_steady {test = test} rest passes slack (a ∷ as') (b ∷ bs) e =
    let parts = and_parts (test slack a b) (each test slack as' bs) e in
    rw (passes slack a b parts.0) (each_passes_steady rest passes slack as' bs parts.1)
each_passes_steady rest passes slack a b e = cc

-- ---- places and periods

degrees_laws : TestLaws (optional (λ slack. int_eq))
degrees_laws = optional_laws (equal_laws signed_Decides)

location_exact : (a b : VehicleLocation) → same_location a b ≡ true → a ≡ b
location_exact a b e =
    let parts = and_parts (option_eq int_eq a.longitude b.longitude) (option_eq int_eq a.latitude b.latitude) e in
    λ i. record {
      longitude = degrees_laws.exact a.longitude b.longitude parts.0 i;
      latitude = degrees_laws.exact a.latitude b.latitude parts.1 i;
    }

location_itself : (a : VehicleLocation) → same_location a a ≡ true
location_itself a = rw (degrees_laws.itself (pos 0) a.longitude, degrees_laws.itself (pos 0) a.latitude)

pub location_laws : TestLaws equal_location
location_laws = equal_laws (λ a b. (location_exact a b, λ e. subst (λ x. same_location a x ≡ true) e (location_itself a)))

end_laws : TestLaws (optional equal_number)
end_laws = optional_laws number_laws

period_exact : (a b : Period) → same_period a b ≡ true → a ≡ b
period_exact a b e =
    let parts = and_parts (nat_eq a.start_time b.start_time) (option_eq nat_eq a.end_time b.end_time) e in
    λ i. record {
      start_time = number_laws.exact a.start_time b.start_time parts.0 i;
      end_time = end_laws.exact a.end_time b.end_time parts.1 i;
    }

period_itself : (a : Period) → same_period a a ≡ true
period_itself a = rw (number_laws.itself (pos 0) a.start_time, end_laws.itself (pos 0) a.end_time)

pub period_laws : TestLaws equal_period
period_laws = equal_laws (λ a b. (period_exact a b, λ e. subst (λ x. same_period a x ≡ true) e (period_itself a)))

-- ---- lengths of time

either : (p q : Bool) → (p || q) ≡ true → (p ≡ true) ⊎ (q ≡ true)
either true q e = inl refl
either false q e = inr e

first_of : (p q : Bool) → p ≡ true → (p || q) ≡ true
first_of p q e = rw e refl

second_of : (p q : Bool) → q ≡ true → (p || q) ≡ true
second_of true q e = refl
second_of false q e = e

triangle : (a b c : ℤ) → unsigned_abs (a -ℤ c) ≤ unsigned_abs (a -ℤ b) + unsigned_abs (b -ℤ c)
triangle a b c = omega (arith, ints)

close_from : (s : ℕ) (a b : ℤ) → unsigned_abs (a -ℤ b) < s → is_close (pos s) a b ≡ true
close_from s a b less =
    second_of (int_eq a b) (int_lt (pos (unsigned_abs (a -ℤ b))) (pos s)) (lt-ltb (unsigned_abs (a -ℤ b)) s less)

-- two lengths of time that are close are equal or less than the slack apart
close_to : (s : ℕ) (a b : ℤ) → is_close (pos s) a b ≡ true → (a ≡ b) ⊎ (unsigned_abs (a -ℤ b) < s)
close_to s a b h = elim (either (int_eq a b) (int_lt (pos (unsigned_abs (a -ℤ b))) (pos s)) h) [
  | inl same ↦ inl ((signed_Decides a b).0 same)
  | inr less ↦ inr (ltb-true (unsigned_abs (a -ℤ b)) s less)
]

wider : (s t : ℕ) (a b : ℤ) → s ≤ t → is_close (pos s) a b ≡ true → is_close (pos t) a b ≡ true
wider s t a b le h = elim (close_to s a b h) [
  | inl same ↦ first_of (int_eq a b) (int_lt (pos (unsigned_abs (a -ℤ b))) (pos t)) ((signed_Decides a b).1 same)
  | inr less ↦ close_from t a b (omega (arith, less, le))
]

close_joins : (p q : ℕ) (a b c : ℤ)
    → is_close (pos p) a b ≡ true → is_close (pos q) b c ≡ true → is_close (pos (p + q)) a c ≡ true
close_joins p q a b c h k = elim (close_to p a b h) [
  | inl same ↦ subst (λ x. is_close (pos (p + q)) x c ≡ true) (sym same) (wider q (p + q) b c (omega arith) k)
  | inr less ↦ elim (close_to q b c k) [
    | inl same ↦ subst (λ x. is_close (pos (p + q)) a x ≡ true) same (wider p (p + q) a b (omega arith) h)
    | inr small ↦ close_from (p + q) a c (omega (arith, triangle a b c, less, small))
  ]
]

close_exact : (a b : ℤ) → is_close (pos 0) a b ≡ true → a ≡ b
close_exact a b e = elim (close_to 0 a b e) [
  | inl same ↦ same
  | inr less ↦ absurd (omega (arith, less))
]

pub close_laws : TestLaws is_close
close_laws = record {
  itself = λ slack a. first_of (int_eq a a) _ ((signed_Decides a a).1 refl);
  exact = close_exact;
  joins = close_joins;
}

pub close_moments_laws : TestLaws are_close_moments
close_moments_laws = record {
  itself = λ slack a. close_laws.itself slack (pos a);
  exact = λ a b e. ap unsigned_abs (close_exact (pos a) (pos b) e);
  joins = λ p q a b c. close_joins p q (pos a) (pos b) (pos c);
}
