-- Which keys are kept apart after a look, and how bounds of looks add up.
use Rattle.std.proofs.Common.{◌≡◌, ℕ, suc, ℤ, List, [], ◌∷◌, ◌++◌, map, filter, length, nat_eq, take, Bool, true, false}
use Rattle.std.proofs.Common.{not}
use Rattle.std.proofs.Common.{◌&&◌, ◌||◌, Option, refl, ap, sym, ◌∙◌, arith}
use Rattle.std.specs.List.{list_all}
use Rattle.std.specs.Map.{keys_of}
use Rattle.std.proofs.lemmas.List.Folds.{list_any-append}
use Rattle.std.proofs.lemmas.List.Sums.{sum_by_push, sum_by-take-le}
use Rattle.siri_records.specs.declared.item.Item.{Item}
use Rattle.siri_records.specs.declared.key.Key.{Key}
use Rattle.siri_records.specs.Near.{is_near}
use Rattle.siri_records.specs.Keyed.{Items, InOrder, KeyChange, item_of}
use Rattle.siri_records.specs.KeyLists.{is_among, in_order}
use Rattle.siri_records.proofs.KeyLists.{tied, first_among, same_keys, order_passing, among_passing, order_in_order}
use Rattle.siri_records.proofs.KeyLists.{among_in_order}
use Rattle.siri_records.proofs.Placed.{take_at}
use Rattle.siri_change.specs.Changes.{agree_on, meets, keys_of_both}
use Rattle.siri_change.specs.Looks.{changes_among}
use Rattle.siri_change.proofs.Leads.{none_of_both, agree_none}
use Rattle.siri_change.proofs.Levels.{order_both}
use Rattle.siri_model.specs.Followed.{keys_apart, look_bound, look_bounds}
use Rattle.siri_model.specs.laws.Apart.{AgreeElsewhere, still_apart, LooksTellApart, BoundsAdd, BoundsAreWithin}

-- ---- lists of keys

keys_mapped : (f : Key → Option Item) (keys : List Key) → keys_of (map (λ key. (key, f key)) keys) ≡ keys
keys_mapped f [] = refl
keys_mapped f (k ∷ keys) = ap (λ ks. k ∷ ks) (keys_mapped f keys)

-- of a key that is looked at, was kept apart, agrees, is one of either view
apart_case : (looked apart agrees both : Bool) → (looked ≡ false → agrees ≡ not apart) → (both ≡ false → agrees ≡ true)
    → ((looked && not agrees) || (apart && not looked)) ≡ (both && not agrees)
apart_case true true true true elsewhere neither = refl
apart_case true true true false elsewhere neither = refl
apart_case true true false true elsewhere neither = refl
apart_case true true false false elsewhere neither = absurd (cc (neither refl))
apart_case true false true true elsewhere neither = refl
apart_case true false true false elsewhere neither = refl
apart_case true false false true elsewhere neither = refl
apart_case true false false false elsewhere neither = absurd (cc (neither refl))
apart_case false true true both elsewhere neither = absurd (cc (elsewhere refl))
apart_case false true false true elsewhere neither = refl
apart_case false true false false elsewhere neither = absurd (cc (neither refl))
apart_case false false true true elsewhere neither = refl
apart_case false false true false elsewhere neither = refl
apart_case false false false both elsewhere neither = absurd (cc (elsewhere refl))

-- there are none of these
abbrev is_empty : List Key → Bool
is_empty [] = true
is_empty (k ∷ keys) = false

some_among : (k : Key) (keys : List Key) → is_among k keys ≡ true → is_empty keys ≡ false
some_among k [] among = absurd (cc among)
some_among k (x ∷ keys) among = refl

above_zero : (n : ℕ) → nat_eq (suc n) 0 ≡ false
above_zero n = grind arith

empty_in_order : (changes : List KeyChange) (left : List Key)
    → is_empty (in_order (keys_of changes ++ left)) ≡ (nat_eq (length changes) 0 && nat_eq (length left) 0)
empty_in_order [] [] = refl
empty_in_order [] (k ∷ left) =
    rw (above_zero (length left)) (some_among k (in_order (k ∷ left)) (among_in_order k (k ∷ left) ∙ first_among k left))
empty_in_order (c ∷ changes) left =
    let all = keys_of changes ++ left in
    rw (above_zero (length changes)) (some_among c.0 (in_order (c.0 ∷ all)) (among_in_order c.0 (c.0 ∷ all) ∙ first_among c.0 all))

empty_case : (p : Key → Bool) (k : Key) (keys : List Key) (b : Bool) → p k ≡ b
    → is_empty (filter (λ q. not (p q)) keys) ≡ list_all p keys
    → is_empty (filter (λ q. not (p q)) (k ∷ keys)) ≡ list_all p (k ∷ keys)
empty_case p k keys true h rest = rw h rest
empty_case p k keys false h rest = rw h refl

empty_all : (p : Key → Bool) (keys : List Key) → is_empty (filter (λ q. not (p q)) keys) ≡ list_all p keys
empty_all p [] = refl
empty_all p (k ∷ keys) = empty_case p k keys (p k) refl (empty_all p keys)

-- ---- keys that are kept apart

module _ (slack : ℤ) (view direct : Items) (keys apart : List Key) (s : InOrder view)
    (elsewhere : AgreeElsewhere slack view direct keys apart) where
  abbrev differs : Key → Bool
  differs key = not (agree_on (is_near slack) view direct key)

  abbrev changed : List Key
  changed = keys_of (changes_among slack view direct keys)

  neither : (q : Key) → is_among q (keys_of_both view direct) ≡ false → agree_on (is_near slack) view direct q ≡ true
  neither q out = let n = none_of_both view direct q out in agree_none (is_near slack) view direct q n.0 n.1

  same_apart : (q : Key)
      → is_among q (in_order (changed ++ still_apart keys apart)) ≡ is_among q (keys_apart slack view direct)
  same_apart q =
      among_in_order q (changed ++ still_apart keys apart)
      ∙ (list_any-append (tied q) changed (still_apart keys apart)
      ∙ (ap (λ ks. is_among q ks || is_among q (still_apart keys apart)) (keys_mapped (item_of direct) (filter differs keys))
      ∙ ((λ i. among_passing differs q keys i || among_passing (λ key. not (is_among key keys)) q apart i)
      ∙ (apart_case (is_among q keys) (is_among q apart) (agree_on (is_near slack) view direct q)
      (is_among q (keys_of_both view direct)) (elsewhere q) (neither q)
      ∙ sym (among_passing differs q (keys_of_both view direct))))))

  apart_again : in_order (changed ++ still_apart keys apart) ≡ keys_apart slack view direct
  apart_again =
      same_keys (in_order (changed ++ still_apart keys apart)) (keys_apart slack view direct)
      (order_in_order (changed ++ still_apart keys apart))
      (order_passing differs (keys_of_both view direct) (order_both view direct s)) same_apart

  level : meets slack view direct ≡ (nat_eq (length (changes_among slack view direct keys)) 0 && nat_eq (length (still_apart keys apart)) 0)
  level =
      sym (empty_all (agree_on (is_near slack) view direct) (keys_of_both view direct))
      ∙ (sym (ap is_empty apart_again) ∙ empty_in_order (changes_among slack view direct keys) (still_apart keys apart))

pub looks_tell_apart : LooksTellApart
looks_tell_apart slack view direct keys apart s elsewhere = record {
  apart_again = apart_again slack view direct keys apart s elsewhere;
  level = level slack view direct keys apart s elsewhere;
}

-- ---- bounds

pub bounds_add : BoundsAdd
bounds_add now live rows place row at =
    ap (look_bounds now live) (take_at rows place row at) ∙ sum_by_push (look_bound now live) (take place rows) row

pub bounds_are_within : BoundsAreWithin
bounds_are_within now live rows place = sum_by-take-le (look_bound now live) rows place
