-- What is told, and goes on to be told.
use Rattle.std.proofs.Common.{◌≡◌, ◌++◌, ◌∷◌, [], List, Option, None, Some, option_map, option_to_list, refl, sym, ap, ◌∙◌, subst, subst₂}
use Rattle.siri_outside.specs.OutsideCalls.{WhereTold}
use Rattle.siri_outside.specs.Wires.{Connection, Present, WireState, over_texts}
use Rattle.siri_laws.specs.lite.Served.{AreAlike, swapped, with_coming}

told_some : {S : Type 0} (Does : S → S → Type 0) (old : S) (now : Option S) → WhereTold (Some old) now Does
    → (new : S) × (now ≡ Some new) × Does old new
told_some Does old None told = absurd told
told_some Does old (Some new) told = (new, refl, told)

pub told_on : {S : Type 0} (Does : S → S → Type 0) (was now : Option S) (old : S) → was ≡ Some old → WhereTold was now Does
    → (new : S) × (now ≡ Some new) × Does old new
told_on Does was now old is told = told_some Does old now (subst (λ o. WhereTold o now Does) is told)

pub told_back : (Does : WireState → WireState → Type 0) (coming later : List Connection) (was now : Option WireState)
    (old new : WireState) → was ≡ Some old → now ≡ Some new → Does (with_coming coming old) (with_coming later new)
    → WhereTold (swapped coming was) (swapped later now) Does
told_back Does coming later was now old new is new_is does =
    subst₂ (λ o n. WhereTold (swapped coming o) (swapped later n) Does) (sym is) (sym new_is) does

-- a connection that has come
abbrev pub fresh : Connection → Present
fresh connection = record { left = connection; written = [] }

abbrev pub with_present : Present → WireState → WireState
with_present present wire = record wire { present = Some present }

-- ---- wires that are alike

pub moved_alike : (coming : List Connection) (wire : Option WireState) → WhereTold wire (swapped coming wire) AreAlike
moved_alike coming None = tt
moved_alike coming (Some wire) = record { rest = refl; written = refl }

pub placed_alike : (wire : WireState) (present other : Present) (later : List Connection) → wire.present ≡ Some present
    → other.written ≡ present.written → AreAlike wire (with_present other (with_coming later wire))
placed_alike wire present other later there same = record {
  rest = refl;
  written = ap (λ written. over_texts wire ++ written ∷ []) same
      ∙ ap (λ (o : Option Present). over_texts wire ++ option_to_list (option_map (λ (p : Present). p.written) o)) (sym there);
}

pub told_alike : (now : Option WireState) (wire other : WireState) → now ≡ Some wire → AreAlike wire other
    → WhereTold now (Some other) AreAlike
told_alike now wire other is alike = subst (λ o. WhereTold o (Some other) AreAlike) (sym is) alike
