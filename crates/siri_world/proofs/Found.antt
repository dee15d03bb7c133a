-- Consumers by the places at which they stand.
use Rattle.std.proofs.Common.{◌≡◌, ℕ, suc, zero, ◌<◌, List, [], ◌∷◌, ◌++◌, length, Bool, true, false, cond, Option, None, Some, get_or}
use Rattle.std.proofs.Common.{refl, ap, ◌∙◌, sym, subst, arith}
use Rattle.std.specs.Prelude.{position}
use Rattle.std.specs.List.{list_any, slice_set}
use Rattle.std.specs.Cmp.Lexicographic.{bytes_decides, nat_list_eq_equiv}
use Rattle.std.proofs.lemmas.Bool.{or_parts}
use Rattle.siri_life.specs.Named.{Name}
use Rattle.siri_subs.proofs.Placed.{IsFirst, found, none_found}
use Rattle.siri_view.specs.Consuming.{Consuming}
use Rattle.siri_world_model.specs.Consumers.{consumer_of, consumer_or_new, is_named, is_known, new_consumer, with_consumer}
use Rattle.siri_world.specs.Places.{IsAt, IsPlaceOf}

-- ---- the consumer that stands at a place

pub at_consumer : (name : Name) (cs : List Consuming) (place : ℕ) (c : Consuming) → IsAt name cs place c → consumer_of name cs ≡ Some c
at_consumer name [] place c here = absurd here
at_consumer name (other ∷ cs) zero c here = rw (here.0) (ap Some here.1)
at_consumer name (other ∷ cs) (suc place) c here = rw (here.0) (at_consumer name cs place c here.1)

pub at_within : (name : Name) (cs : List Consuming) (place : ℕ) (c : Consuming) → IsAt name cs place c → place < length cs
at_within name [] place c here = absurd here
at_within name (other ∷ cs) zero c here = omega arith
at_within name (other ∷ cs) (suc place) c here = omega (arith, at_within name cs place c here.1)

named : (name : Name) (c : Consuming) → is_named name c ≡ true → c.name ≡ name
named name c is = (bytes_decides c.name name).0 is

own : (c : Consuming) → is_named c.name c ≡ true
own c = nat_list_eq_equiv.refl c.name

pub at_name : (name : Name) (cs : List Consuming) (place : ℕ) (c : Consuming) → IsAt name cs place c → c.name ≡ name
at_name name [] place c here = absurd here
at_name name (other ∷ cs) zero c here = ap (λ (d : Consuming). d.name) (sym here.1) ∙ named name other here.0
at_name name (other ∷ cs) (suc place) c here = at_name name cs place c here.1

-- the consumer of a name has it
name_case : (name : Name) (other : Consuming) (b : Bool) (rest : Option Consuming) (c : Consuming)
    → is_named name other ≡ b → cond b (Some other) rest ≡ Some c → (rest ≡ Some c → c.name ≡ name) → c.name ≡ name
name_case name other true rest c is e later = let same : other ≡ c = cc in ap (λ (d : Consuming). d.name) (sym same) ∙ named name other is
name_case name other false rest c is e later = later e

pub found_name : (name : Name) (cs : List Consuming) (c : Consuming) → consumer_of name cs ≡ Some c → c.name ≡ name
found_name name [] c e = absurd (cc)
found_name name (other ∷ cs) c e = name_case name other (is_named name other) (consumer_of name cs) c refl e (found_name name cs c)

-- ---- where it stands

first_at : (name : Name) (cs : List Consuming) (place : ℕ) → IsFirst (is_named name) cs place → (c : Consuming) × IsAt name cs place c
first_at name [] place first = absurd first
first_at name (other ∷ cs) zero first = (other, (first, refl))
first_at name (other ∷ cs) (suc place) first = let later = first_at name cs place first.1 in (later.0, (first.0, later.1))

none_of : (name : Name) (cs : List Consuming) → list_any (is_named name) cs ≡ false → consumer_of name cs ≡ None
none_of name [] none = refl
none_of name (other ∷ cs) none =
    let parts = or_parts (is_named name other) (list_any (is_named name) cs) none in
    rw (parts.0) (none_of name cs parts.1)

pub place_is : (name : Name) (cs : List Consuming) (place : Option ℕ) → place ≡ position (is_named name) cs → IsPlaceOf name cs place
place_is name cs None is = none_of name cs (none_found (is_named name) cs (sym is))
place_is name cs (Some place) is = first_at name cs place (found (is_named name) cs place (sym is))

known_case : (name : Name) (other : Consuming) (cs : List Consuming) (b : Bool) → is_named name other ≡ b
    → consumer_of name (other ∷ cs) ≡ None → (consumer_of name cs ≡ None → is_known name cs ≡ false)
    → is_known name (other ∷ cs) ≡ false
known_case name other cs true is none later = let here : consumer_of name (other ∷ cs) ≡ Some other = rw is refl in absurd (cc)
known_case name other cs false is none later = let rest : consumer_of name (other ∷ cs) ≡ consumer_of name cs = rw is refl in rw is (later (sym rest ∙ none))

pub unknown_is : (name : Name) (cs : List Consuming) → consumer_of name cs ≡ None → is_known name cs ≡ false
unknown_is name [] none = refl
unknown_is name (other ∷ cs) none = known_case name other cs (is_named name other) refl none (unknown_is name cs)

known_here : (name : Name) (other : Consuming) (cs : List Consuming) (c : Consuming) (b : Bool)
    → is_named name other ≡ b → consumer_of name (other ∷ cs) ≡ Some c
    → (consumer_of name cs ≡ Some c → is_known name cs ≡ true) → is_known name (other ∷ cs) ≡ true
known_here name other cs c true is e later = rw is refl
known_here name other cs c false is e later = let rest : consumer_of name (other ∷ cs) ≡ consumer_of name cs = rw is refl in rw is (later (sym rest ∙ e))

pub known_is : (name : Name) (cs : List Consuming) (c : Consuming) → consumer_of name cs ≡ Some c → is_known name cs ≡ true
known_is name [] c e = absurd (cc)
known_is name (other ∷ cs) c e = known_here name other cs c (is_named name other) refl e (known_is name cs c)

-- ---- a consumer in the place of the first of its name

-- as it is written there
pub set_there : (x : Consuming) (cs : List Consuming) (place : ℕ) (c : Consuming) → IsAt x.name cs place c → slice_set cs place x ≡ with_consumer x cs
set_there x [] place c here = absurd here
set_there x (other ∷ cs) zero c here = rw (here.0) refl
set_there x (other ∷ cs) (suc place) c here = rw (here.0) (ap (λ l. other ∷ l) (set_there x cs place c here.1))

-- the one that is there
pub with_same : (c : Consuming) (cs : List Consuming) (place : ℕ) → IsAt c.name cs place c → with_consumer c cs ≡ cs
with_same c [] place here = absurd here
with_same c (other ∷ cs) zero here = rw (here.0) (ap (λ d. d ∷ cs) (sym here.1))
with_same c (other ∷ cs) (suc place) here = rw (here.0) (ap (λ l. other ∷ l) (with_same c cs place here.1))

same_case : (c other : Consuming) (cs : List Consuming) (b : Bool) → is_named c.name other ≡ b
    → consumer_of c.name (other ∷ cs) ≡ Some c → (consumer_of c.name cs ≡ Some c → with_consumer c cs ≡ cs)
    → with_consumer c (other ∷ cs) ≡ other ∷ cs
same_case c other cs true is e later =
    let here : consumer_of c.name (other ∷ cs) ≡ Some other = rw is refl in
    let same : other ≡ c = cc in
    rw is (ap (λ d. d ∷ cs) (sym same))
same_case c other cs false is e later =
    let rest : consumer_of c.name (other ∷ cs) ≡ consumer_of c.name cs = rw is refl in
    rw is (ap (λ l. other ∷ l) (later (sym rest ∙ e)))

pub with_found : (c : Consuming) (cs : List Consuming) → consumer_of c.name cs ≡ Some c → with_consumer c cs ≡ cs
with_found c [] e = absurd (cc)
with_found c (other ∷ cs) e = same_case c other cs (is_named c.name other) refl e (with_found c cs)

-- a new one is the last
new_case : (c other : Consuming) (cs : List Consuming) (b : Bool) → is_named c.name other ≡ b → consumer_of c.name (other ∷ cs) ≡ None
    → (consumer_of c.name cs ≡ None → (with_consumer c cs ≡ cs ++ c ∷ []) × IsAt c.name (cs ++ c ∷ []) (length cs) c)
    → (with_consumer c (other ∷ cs) ≡ other ∷ (cs ++ c ∷ [])) × IsAt c.name (other ∷ (cs ++ c ∷ [])) (suc (length cs)) c
new_case c other cs true is none later = let here : consumer_of c.name (other ∷ cs) ≡ Some other = rw is refl in absurd (cc)
new_case c other cs false is none later =
    let rest : consumer_of c.name (other ∷ cs) ≡ consumer_of c.name cs = rw is refl in
    let more = later (sym rest ∙ none) in
    (rw is (ap (λ l. other ∷ l) more.0), (is, more.1))

pub new_last : (c : Consuming) (cs : List Consuming) → consumer_of c.name cs ≡ None
    → (with_consumer c cs ≡ cs ++ c ∷ []) × IsAt c.name (cs ++ c ∷ []) (length cs) c
new_last c [] none = (refl, (own c, refl))
new_last c (other ∷ cs) none = new_case c other cs (is_named c.name other) refl none (new_last c cs)

-- one after the other is the later
twice_case : (x c other : Consuming) (cs : List Consuming) (b : Bool) → is_named c.name other ≡ b → x.name ≡ c.name
    → with_consumer x (with_consumer c cs) ≡ with_consumer x cs
    → with_consumer x (with_consumer c (other ∷ cs)) ≡ with_consumer x (other ∷ cs)
twice_case x c other cs true is same later =
    let here : is_named x.name other ≡ true = ap (λ n. is_named n other) same ∙ is in
    let its : is_named x.name c ≡ true = ap (λ n. is_named n c) same ∙ own c in
    rw is (rw its (rw here refl))
twice_case x c other cs false is same later =
    let here : is_named x.name other ≡ false = ap (λ n. is_named n other) same ∙ is in
    rw is (rw here (ap (λ l. other ∷ l) later))

pub with_twice : (x c : Consuming) (cs : List Consuming) → x.name ≡ c.name → with_consumer x (with_consumer c cs) ≡ with_consumer x cs
with_twice x c [] same = let its : is_named x.name c ≡ true = ap (λ n. is_named n c) same ∙ own c in rw its refl
with_twice x c (other ∷ cs) same = twice_case x c other cs (is_named c.name other) refl same (with_twice x c cs same)

-- ---- a write at its place

at_there : (name : Name) (cs : List Consuming) (place : ℕ) (c d : Consuming) → IsAt name cs place c → d ≡ get_or cs place d → d ≡ c
at_there name [] place c d here is = absurd here
at_there name (other ∷ cs) zero c d here is = is ∙ here.1
at_there name (other ∷ cs) (suc place) c d here is = at_there name cs place c d here.1 is

module _ (name : Name) (items cs : List Consuming) (place : ℕ) (c d : Consuming) (view : items ≡ cs)
    (here : IsAt name cs place c) (value : d ≡ get_or items place d) where
  here_inside : IsAt name items place c
  here_inside = subst (λ l. IsAt name l place c) (sym view) here

  -- what is written to is the consumer
  pub is_there : d ≡ c
  is_there = at_there name items place c d here_inside value

  pub written : (x after : Consuming) → x ≡ after → after.name ≡ c.name → slice_set items place x ≡ with_consumer after cs
  written x after is same =
      let its : after.name ≡ name = same ∙ at_name name items place c here_inside in
      let there : IsAt after.name items place c = subst (λ n. IsAt n items place c) (sym its) here_inside in
      ap (slice_set items place) is ∙ set_there after items place c there ∙ ap (with_consumer after) view

  pub unwritten : (x : Consuming) → x ≡ d → slice_set items place x ≡ cs
  unwritten x is =
      let own_name : c.name ≡ name = at_name name items place c here_inside in
      let there : IsAt c.name items place c = subst (λ n. IsAt n items place c) (sym own_name) here_inside in
      written x c (is ∙ is_there) refl ∙ ap (with_consumer c) (sym view) ∙ with_same c items place there ∙ view

-- ---- at its first use

pub with_there : (name : Name) (cs : List Consuming) (place : ℕ) (c : Consuming) → IsAt name cs place c → with_consumer c cs ≡ cs
with_there name cs place c here = with_same c cs place (subst (λ n. IsAt n cs place c) (sym (at_name name cs place c here)) here)

module _ (moment : ℕ) (name : Name) (items cs after : List Consuming) (c : Consuming) where
  new_is : consumer_of name cs ≡ None → c ≡ new_consumer name moment → consumer_or_new moment name (consumer_of name cs) ≡ c
  new_is none made = ap (consumer_or_new moment name) none ∙ sym made

  unknown_name : consumer_of name cs ≡ None → c ≡ new_consumer name moment → consumer_of c.name cs ≡ None
  unknown_name none made = ap (λ (d : Consuming). consumer_of d.name cs) made ∙ none

  pub new_at : (place : ℕ) → items ≡ cs → consumer_of name cs ≡ None → c ≡ new_consumer name moment
      → after ≡ items ++ c ∷ [] → place ≡ length items → IsAt name after place
      (consumer_or_new moment name (consumer_of name cs))
  new_at place view none made pushed last =
      let there : IsAt c.name (cs ++ c ∷ []) (length cs) c = (new_last c cs (unknown_name none made)).1 in
      let named : IsAt name (cs ++ c ∷ []) (length cs) c = subst (λ n. IsAt n (cs ++ c ∷ []) (length cs) c) (ap (λ (d : Consuming). d.name) made) there in
      let placed : IsAt name (cs ++ c ∷ []) place c = subst (λ n. IsAt name (cs ++ c ∷ []) n c) (sym (last ∙ ap length view)) named in
      subst (λ d. IsAt name after place d) (sym (new_is none made)) (subst (λ l. IsAt name l place c) (sym (pushed ∙ ap (λ l. l ++ c ∷ []) view)) placed)

  pub new_with : items ≡ cs → consumer_of name cs ≡ None → c ≡ new_consumer name moment → after ≡ items ++ c ∷ []
      → after ≡ with_consumer (consumer_or_new moment name (consumer_of name cs)) cs
  new_with view none made pushed =
      pushed ∙ ap (λ l. l ++ c ∷ []) view ∙ sym (new_last c cs (unknown_name none made)).0 ∙ ap (λ (d : Consuming). with_consumer d cs) (sym (new_is none made))
