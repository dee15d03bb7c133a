-- What is remembered of the last looks goes on step by step, and bounds what may be read.
use Rattle.std.proofs.Common.{◌≡◌, ℕ, ◌≤◌, List, [], ◌∷◌, length, map, filter, Bool, true, false, cond, Option, None, Some, is_some, not, refl, ap, ◌∙◌, subst, arith}
use Rattle.std.specs.Prelude.{option_map}
use Rattle.std.proofs.lemmas.List.Filters.{length-filter_both}
use Rattle.std.proofs.lemmas.List.Sums.{sum_by-cons}
use Rattle.siri_records.specs.declared.item.Item.{Item}
use Rattle.siri_records.specs.declared.key.Key.{Key}
use Rattle.siri_records.specs.Keyed.{Items, most_live}
use Rattle.siri_change.specs.Parts.{Carried}
use Rattle.siri_life.specs.Life.{Outstanding}
use Rattle.siri_store.specs.Candidates.{may_be_shown}
use Rattle.siri_store.proofs.Few.{none_fewer}
use Rattle.siri_subs.specs.declared.entry.Row.{Row}
use Rattle.siri_subs.specs.Mapped.{mapped_row, with_mapped_slots}
use Rattle.siri_model.specs.Followed.{Followed, Look, bound_since, followed_after, keeps_looks, life_row, look_at, look_bound, look_bounds, look_by, touched_look}
use Rattle.siri_model.specs.History.{State, Step}
use Rattle.siri_model.specs.LookedAt as looked_at
use Rattle.siri_model.specs.LookedAt.{LookedAt, settled, with_look}
use Rattle.siri_model.specs.Remembered.{IsRemembered, AreRemembered}
use Rattle.siri_model.specs.Rows.{KeptLife}
use Rattle.siri_model.specs.Steps.{Keeps, rows_after}
use Rattle.siri_model.proofs.Carried.{Carries, step_carried}

-- ---- a look, and whether it is remembered

record Known : Type 0 where
  pub look : Look
  pub gone : Bool
  pub many : gone ≡ true → most_live ≤ length look.touched

abbrev touched_known : List Key → Known → Known
touched_known keys known = record {
  look = touched_look keys known.look;
  gone = known.gone;
  many = λ is. (omega (arith, known.many is, none_fewer known.look.touched keys));
}

not_gone : (keys : List Key) → false ≡ true → most_live ≤ length keys
not_gone keys is = absurd (cc is)

abbrev known_at : ℕ → Items → Row KeptLife → Known
known_at now items row = record { look = look_at now items row; gone = false; many = not_gone (look_at now items row).touched }

abbrev keeps_both : Keeps (LookedAt Known)
keeps_both = looked_at.keeps_looks known_at touched_known

-- every last look, and those that are remembered
abbrev every : Option Known → Option Look
every known = option_map (λ known. known.look) known

abbrev remembered : Option Known → Option Look
remembered None = None
remembered (Some known) = cond known.gone None (Some known.look)

abbrev with_every : LookedAt Known → Followed
with_every kept = record { life = kept.life; look = every kept.look }

abbrev with_remembered : LookedAt Known → Followed
with_remembered kept = record { life = kept.life; look = remembered kept.look }

-- ---- both go on

every_by : (o : Option (Outstanding Items Carried)) (before : Option Known) (now : Known)
    → every (look_by o before now) ≡ look_by o (every before) now.look
every_by None before now = refl
every_by (Some outstanding) before now = refl

remembered_by : (o : Option (Outstanding Items Carried)) (before : Option Known) (now : Known) → now.gone ≡ false
    → remembered (look_by o before now) ≡ look_by o (remembered before) now.look
remembered_by None before now here = rw here refl
remembered_by (Some outstanding) before now here = refl

every_touched : (keys : List Key) (known : Option Known)
    → every (option_map (touched_known keys) known) ≡ option_map (touched_look keys) (every known)
every_touched keys None = refl
every_touched keys (Some known) = refl

gone_touched : (keys : List Key) (look : Look) (gone : Bool)
    → cond gone None (Some (touched_look keys look)) ≡ option_map (touched_look keys) (cond gone None (Some look))
gone_touched keys look true = refl
gone_touched keys look false = refl

remembered_touched : (keys : List Key) (known : Option Known)
    → remembered (option_map (touched_known keys) known) ≡ option_map (touched_look keys) (remembered known)
remembered_touched keys None = refl
remembered_touched keys (Some known) = gone_touched keys known.look known.gone

every_settled : (now : ℕ) (items : Items) (row : Row (LookedAt Known))
    → mapped_row with_every (settled known_at touched_known now items row)
    ≡ settled look_at touched_look now items (mapped_row with_every row)
every_settled now items row =
    let looks = every_by row.slot.life.rounds.outstanding row.slot.look (known_at now items (life_row row)) in
    λ i. record (settled look_at touched_look now items (mapped_row with_every row)) {
      slot = record (settled look_at touched_look now items (mapped_row with_every row)).slot { look = looks i };
    }

remembered_settled : (now : ℕ) (items : Items) (row : Row (LookedAt Known))
    → mapped_row with_remembered (settled known_at touched_known now items row)
    ≡ settled look_at touched_look now items (mapped_row with_remembered row)
remembered_settled now items row =
    let looks = remembered_by row.slot.life.rounds.outstanding row.slot.look (known_at now items (life_row row)) refl in
    λ i. record (settled look_at touched_look now items (mapped_row with_remembered row)) {
      slot = record (settled look_at touched_look now items (mapped_row with_remembered row)).slot { look = looks i };
    }

every_all : (keys : List Key) (rows : List (Row (LookedAt Known)))
    → with_mapped_slots with_every (map (with_look (touched_known keys)) rows)
    ≡ map (with_look (touched_look keys)) (with_mapped_slots with_every rows)
every_all keys [] = refl
every_all keys (row ∷ rows) = λ i.
    record (mapped_row with_every row) { slot = record { life = row.slot.life; look = every_touched keys row.slot.look i } }
    ∷ every_all keys rows i

remembered_all : (keys : List Key) (rows : List (Row (LookedAt Known)))
    → with_mapped_slots with_remembered (map (with_look (touched_known keys)) rows)
    ≡ map (with_look (touched_look keys)) (with_mapped_slots with_remembered rows)
remembered_all keys [] = refl
remembered_all keys (row ∷ rows) = λ i.
    record (mapped_row with_remembered row) { slot = record { life = row.slot.life; look = remembered_touched keys row.slot.look i } }
    ∷ remembered_all keys rows i

every_goes : Carries with_every keeps_both keeps_looks
every_goes = record {
  begun = λ now asked. refl;
  acknowledged = λ start now m row. refl;
  supplied = λ start now m row. refl;
  settled = every_settled;
  touched = every_all;
}

remembered_goes : Carries with_remembered keeps_both keeps_looks
remembered_goes = record {
  begun = λ now asked. refl;
  acknowledged = λ start now m row. refl;
  supplied = λ start now m row. refl;
  settled = remembered_settled;
  touched = remembered_all;
}

-- ---- rows of which some looks are remembered

abbrev look_in : Row Followed → Option Look
look_in row = row.slot.look

-- a last look, and what is remembered of it
record Both (one look : Option Look) : Type 0 where
  pub known : Option Known
  pub remembered : remembered known ≡ one
  pub every : every known ≡ look

both : (one look : Option Look) → IsRemembered one look → Both one look
both None None is = record { known = None; remembered = refl; every = refl }
both None (Some look) is = record { known = Some (record { look = look; gone = true; many = λ gone. is }); remembered = refl; every = refl }
both (Some one) (Some look) is =
    record { known = Some (record { look = one; gone = false; many = λ gone. absurd (cc gone) }); remembered = refl; every = ap Some is }
both (Some one) None is = absurd is

-- the rows of both
record BothRows (xs ys : List (Row Followed)) : Type 0 where
  pub rows : List (Row (LookedAt Known))
  pub remembered : with_mapped_slots with_remembered rows ≡ xs
  pub every : with_mapped_slots with_every rows ≡ ys

both_rows : (xs ys : List (Row Followed)) → map life_row xs ≡ map life_row ys
    → AreRemembered (map look_in xs) (map look_in ys) → BothRows xs ys
both_rows [] [] lives are = record { rows = []; remembered = refl; every = refl }
both_rows [] (y ∷ ys) lives are = absurd are
both_rows (x ∷ xs) [] lives are = absurd are
both_rows (x ∷ xs) (y ∷ ys) lives are =
    let life : life_row x ≡ life_row y = cc in
    let rest = both_rows xs ys (cc) are.1 in
    let one = both x.slot.look y.slot.look are.0 in
    record {
      rows = record {
        wanted = x.wanted;
        number = x.number;
        base = x.base;
        address = x.address;
        beat = x.beat;
        slot = record { life = x.slot.life; look = one.known };
      } ∷ rest.rows;
      remembered = λ i. record x { slot = record x.slot { look = one.remembered i } } ∷ rest.remembered i;
      every = λ i. record {
        wanted = (life i).wanted;
        number = (life i).number;
        base = (life i).base;
        address = (life i).address;
        beat = (life i).beat;
        slot = record { life = (life i).slot; look = one.every i };
      } ∷ rest.every i;
    }

both_are : (rows : List (Row (LookedAt Known)))
    → AreRemembered (map look_in (with_mapped_slots with_remembered rows)) (map look_in (with_mapped_slots with_every rows))
both_are [] = tt
both_are (row ∷ rows) = (by row.slot.look, both_are rows)
  where
    gone_is : (known : Known) (gone : Bool) → known.gone ≡ gone → IsRemembered (cond gone None (Some known.look)) (Some known.look)
    gone_is known true is = known.many is
    gone_is known false is = refl

    by : (known : Option Known) → IsRemembered (remembered known) (every known)
    by None = tt
    by (Some known) = gone_is known known.gone refl

-- what is remembered of the looks of a history's rows goes on with them
pub remembered_after : (state : State) (step : Step) (xs ys : List (Row Followed)) → map life_row xs ≡ map life_row ys
    → AreRemembered (map look_in xs) (map look_in ys)
    → AreRemembered (map look_in (followed_after state step xs)) (map look_in (followed_after state step ys))
unfolding followed_after
remembered_after state step xs ys lives are =
    let b = both_rows xs ys lives are in
    let left = step_carried with_remembered keeps_both keeps_looks remembered_goes state step b.rows
    ∙ ap (rows_after keeps_looks state step) b.remembered in
    let right = step_carried with_every keeps_both keeps_looks every_goes state step b.rows
    ∙ ap (rows_after keeps_looks state step) b.every in
    subst (λ (rows : List (Row Followed)). AreRemembered (map look_in rows) (map look_in (rows_after keeps_looks state step ys))) left
    (subst (λ (rows : List (Row Followed)).
    AreRemembered (map look_in (with_mapped_slots with_remembered (rows_after keeps_both state step b.rows))) (map look_in rows)) right
    (both_are (rows_after keeps_both state step b.rows)))

-- ---- how many stored items a look may read

few_passing : {X : Type 0} (p : X → Bool) (xs : List X) → length (filter p xs) ≤ length xs
few_passing p xs = omega (arith, length-filter_both p (λ x. not (p x)) (λ x. refl) xs)

since_within : (now : ℕ) (live : Items) (row : Row KeptLife) → length live ≤ most_live → (one look : Option Look)
    → IsRemembered one look → bound_since now live row one ≤ bound_since now live row look
since_within now live row few None None is = omega arith
since_within now live row few None (Some look) is =
    omega (arith, few, is, few_passing (λ (e : Key × Item). may_be_shown row.wanted.topic e.0) live)
since_within now live row few (Some one) (Some look) is =
    subst (λ (l : Look). bound_since now live row (Some one) ≤ bound_since now live row (Some l)) is (omega arith)
since_within now live row few (Some one) None is = absurd is

-- the bound of a row, by its life and its look
abbrev bound_by : ℕ → Items → Row KeptLife → Option Look → ℕ
bound_by now live row look = cond (is_some row.slot.rounds.outstanding) 0 (bound_since now live row look)

one_within : (now : ℕ) (live : Items) (row : Row KeptLife) → length live ≤ most_live → (one look : Option Look)
    → IsRemembered one look → bound_by now live row one ≤ bound_by now live row look
one_within now live row few one look is = by (is_some row.slot.rounds.outstanding)
  where
    by : (b : Bool) → cond b 0 (bound_since now live row one) ≤ cond b 0 (bound_since now live row look)
    by true = omega arith
    by false = since_within now live row few one look is

row_within : (now : ℕ) (live : Items) (x y : Row Followed) → length live ≤ most_live → life_row x ≡ life_row y
    → IsRemembered x.slot.look y.slot.look → look_bound now live x ≤ look_bound now live y
row_within now live x y few life is =
    subst (λ (row : Row KeptLife). bound_by now live (life_row x) x.slot.look ≤ bound_by now live row y.slot.look) life
    (one_within now live (life_row x) few x.slot.look y.slot.look is)

-- no more by what is remembered than by every last look
pub bounds_within : (now : ℕ) (live : Items) → length live ≤ most_live → (xs ys : List (Row Followed))
    → map life_row xs ≡ map life_row ys → AreRemembered (map look_in xs) (map look_in ys)
    → look_bounds now live xs ≤ look_bounds now live ys
bounds_within now live few [] [] lives are = omega arith
bounds_within now live few [] (y ∷ ys) lives are = absurd are
bounds_within now live few (x ∷ xs) [] lives are = absurd are
bounds_within now live few (x ∷ xs) (y ∷ ys) lives are =
    let life : life_row x ≡ life_row y = cc in
    let rest = bounds_within now live few xs ys (cc) are.1 in
    omega (arith, row_within now live x y few life are.0, rest, sum_by-cons (look_bound now live) x xs, sum_by-cons (look_bound now live) y ys)
