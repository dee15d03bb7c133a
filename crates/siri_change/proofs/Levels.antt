-- A look by the keys on which a view and what is shown may disagree.
use Rattle.std.proofs.Common.{◌≡◌, ℤ, List, [], ◌∷◌, map, filter, fold, Bool, true, false, not, ◌&&◌, ◌||◌, Option}
use Rattle.std.proofs.Common.{Some, None, refl, ap, sym, ◌∙◌, subst}
use Rattle.std.specs.List.{list_all}
use Rattle.std.specs.Prelude.{option_map}
use Rattle.std.specs.Option.{option_eq}
use Rattle.siri_records.specs.declared.key.Key.{Key}
use Rattle.siri_records.specs.declared.item.Item.{Item}
use Rattle.siri_records.specs.Near.{is_near}
use Rattle.siri_records.proofs.NearLaws.{near_itself}
use Rattle.siri_records.specs.Keyed.{Items, InOrder, KeyChange, item_of, with_item}
use Rattle.siri_change.specs.Same.{is_same}
use Rattle.siri_change.specs.Changes.{keys_of_both, agree_on, meets, acknowledged_if_near, target}
use Rattle.siri_change.proofs.SameItems.{same_exact, same_itself}
use Rattle.siri_change.proofs.Walks.{chosen}
use Rattle.siri_change.proofs.Leads.{tied, one_key, order_with, mentions, Fits, leads, off_left, off_right}
use Rattle.siri_change.proofs.Leads.{none_of_both}
use Rattle.siri_change.proofs.Leads.{agree_none, all_at, agree_case, all_from}
use Rattle.siri_change.proofs.InParts.{target_order}
use Rattle.siri_records.specs.KeyLists.{is_among, KeysInOrder}
use Rattle.siri_records.proofs.KeyLists.{same_keys, order_passing, among_passing}
use Rattle.siri_change.specs.Looks.{AgreeOutside, changes_among, LooksByKeys}

-- ---- level

-- and all keys, where those agree that may not
agree_everywhere : (slack : ℤ) (view direct : Items) (keys : List Key) (q : Key) (d : Bool) → is_among q keys ≡ d
    → AgreeOutside slack view direct keys → list_all (agree_on (is_near slack) view direct) keys ≡ true
    → agree_on (is_near slack) view direct q ≡ true
agree_everywhere slack view direct keys q true h outside all = all_at (is_near slack) view direct q keys all h
agree_everywhere slack view direct keys q false h outside all = outside q h

level_case : (slack : ℤ) (view direct : Items) (keys : List Key) (met all : Bool) → meets slack view direct ≡ met
    → list_all (agree_on (is_near slack) view direct) keys ≡ all → AgreeOutside slack view direct keys → met ≡ all
level_case slack view direct keys true true m a outside = refl
level_case slack view direct keys false false m a outside = refl
level_case slack view direct keys false true m a outside =
    sym m ∙ all_from (is_near slack) view direct (keys_of_both view direct)
    (λ q. agree_everywhere slack view direct keys q (is_among q keys) refl outside a)
level_case slack view direct keys true false m a outside =
    sym (sym a ∙ all_from (is_near slack) view direct keys (λ q. agree_case (is_near slack) view direct q (is_among q (keys_of_both view direct)) refl m))

-- ---- the target

chosen_case : (slack : ℤ) (a direct : Items) (e : Key × Item) (q : Key) (t : Bool) → tied q e.0 ≡ t
    → item_of (map (chosen slack a) direct) q ≡ option_map (acknowledged_if_near slack (item_of a q)) (item_of direct q)
    → item_of (map (chosen slack a) (e ∷ direct)) q ≡ option_map (acknowledged_if_near slack (item_of a q)) (item_of (e ∷ direct) q)
chosen_case slack a direct e q true h rest = rw h (ap (λ k. Some (acknowledged_if_near slack (item_of a k) e.1)) (sym (one_key q e.0 h)))
chosen_case slack a direct e q false h rest = rw h rest

-- the target has of each key the chosen one of its items
item_chosen : (slack : ℤ) (a direct : Items) (q : Key)
    → item_of (target slack true a direct) q ≡ option_map (acknowledged_if_near slack (item_of a q)) (item_of direct q)
item_chosen slack a [] q = refl
item_chosen slack a (e ∷ direct) q = chosen_case slack a direct e q (tied q e.0) refl (item_chosen slack a direct q)

-- where they disagree it is what is shown, and elsewhere what was acknowledged
apart_chosen : (slack : ℤ) (held listed : Option Item) → option_eq (is_near slack) held listed ≡ false
    → option_map (acknowledged_if_near slack held) listed ≡ listed
apart_chosen slack None None h = refl
apart_chosen slack (Some x) None h = refl
apart_chosen slack None (Some y) h = refl
apart_chosen slack (Some x) (Some y) h = rw h refl

near_chosen : (slack : ℤ) (held listed : Option Item) → option_eq (is_near slack) held listed ≡ true
    → option_map (acknowledged_if_near slack held) listed ≡ held
near_chosen slack None None h = refl
near_chosen slack (Some x) None h = absurd (cc h)
near_chosen slack None (Some y) h = absurd (cc h)
near_chosen slack (Some x) (Some y) h = rw h refl

apart_target : (slack : ℤ) (view direct : Items) (q : Key) → agree_on (is_near slack) view direct q ≡ false
    → item_of (target slack true view direct) q ≡ item_of direct q
apart_target slack view direct q h = item_chosen slack view direct q ∙ apart_chosen slack (item_of view q) (item_of direct q) h

near_target : (slack : ℤ) (view direct : Items) (q : Key) → agree_on (is_near slack) view direct q ≡ true
    → item_of (target slack true view direct) q ≡ item_of view q
near_target slack view direct q h = item_chosen slack view direct q ∙ near_chosen slack (item_of view q) (item_of direct q) h

-- the keys that disagree
abbrev is_apart : ℤ → Items → Items → Key → Bool
is_apart slack view direct key = not (agree_on (is_near slack) view direct key)

on_agreed : (slack : ℤ) (view direct : Items) (k : Key) (ks : List Key) → agree_on (is_near slack) view direct k ≡ true
    → changes_among slack view direct (k ∷ ks) ≡ changes_among slack view direct ks
on_agreed slack view direct k ks h = rw h refl

on_apart : (slack : ℤ) (view direct : Items) (k : Key) (ks : List Key) → agree_on (is_near slack) view direct k ≡ false
    → changes_among slack view direct (k ∷ ks) ≡ (k, item_of direct k) ∷ changes_among slack view direct ks
on_apart slack view direct k ks h = rw h refl

fits_case : (slack : ℤ) (view direct : Items) (k : Key) (ks : List Key) (b : Bool)
    → agree_on (is_near slack) view direct k ≡ b
    → Fits (target slack true view direct) (changes_among slack view direct ks)
    → Fits (target slack true view direct) (changes_among slack view direct (k ∷ ks))
fits_case slack view direct k ks true h rest =
    subst (λ (l : List KeyChange). Fits (target slack true view direct) l) (sym (on_agreed slack view direct k ks h)) rest
fits_case slack view direct k ks false h rest =
    subst (λ (l : List KeyChange). Fits (target slack true view direct) l) (sym (on_apart slack view direct k ks h))
    (sym (apart_target slack view direct k h), rest)

fits_among : (slack : ℤ) (view direct : Items) (ks : List Key)
    → Fits (target slack true view direct) (changes_among slack view direct ks)
fits_among slack view direct [] = tt
fits_among slack view direct (k ∷ ks) = fits_case slack view direct k ks (agree_on (is_near slack) view direct k) refl (fits_among slack view direct ks)

unmentioned_case : (slack : ℤ) (view direct : Items) (q k : Key) (ks : List Key) (b d : Bool)
    → agree_on (is_near slack) view direct k ≡ b → tied q k ≡ d
    → mentions q (changes_among slack view direct (k ∷ ks)) ≡ false → (d || is_among q ks) ≡ true
    → (mentions q (changes_among slack view direct ks) ≡ false → is_among q ks ≡ true → agree_on (is_near slack) view direct q ≡ true)
    → agree_on (is_near slack) view direct q ≡ true
unmentioned_case slack view direct q k ks true true h tie none there rest = ap (agree_on (is_near slack) view direct) (one_key q k tie) ∙ h
unmentioned_case slack view direct q k ks true false h tie none there rest =
    rest (subst (λ (l : List KeyChange). mentions q l ≡ false) (on_agreed slack view direct k ks h) none) there
unmentioned_case slack view direct q k ks false true h tie none there rest =
    let off = subst (λ (l : List KeyChange). mentions q l ≡ false) (on_apart slack view direct k ks h) none in
    absurd (cc (sym tie ∙ off_left (tied q k) (mentions q (changes_among slack view direct ks)) off))
unmentioned_case slack view direct q k ks false false h tie none there rest =
    let off = subst (λ (l : List KeyChange). mentions q l ≡ false) (on_apart slack view direct k ks h) none in
    rest (off_right (tied q k) (mentions q (changes_among slack view direct ks)) off) there

-- a key of these without a change agrees
unmentioned : (slack : ℤ) (view direct : Items) (q : Key) (ks : List Key)
    → mentions q (changes_among slack view direct ks) ≡ false → is_among q ks ≡ true
    → agree_on (is_near slack) view direct q ≡ true
unmentioned slack view direct q [] none there = absurd (cc there)
unmentioned slack view direct q (k ∷ ks) none there =
    unmentioned_case slack view direct q k ks (agree_on (is_near slack) view direct k) (tied q k) refl refl none there
    (unmentioned slack view direct q ks)

unchanged_case : (slack : ℤ) (view direct : Items) (keys : List Key) (q : Key) (d : Bool) → is_among q keys ≡ d
    → AgreeOutside slack view direct keys → mentions q (changes_among slack view direct keys) ≡ false
    → item_of view q ≡ item_of (target slack true view direct) q
unchanged_case slack view direct keys q true h outside none = sym (near_target slack view direct q (unmentioned slack view direct q keys none h))
unchanged_case slack view direct keys q false h outside none = sym (near_target slack view direct q (outside q h))

-- ---- what a round carries

changed_if_apart : (slack : ℤ) (held listed : Option Item)
    → not (option_eq is_same held (option_map (acknowledged_if_near slack held) listed)) ≡ not (option_eq (is_near slack) held listed)
changed_if_apart slack None None = refl
changed_if_apart slack (Some x) None = refl
changed_if_apart slack None (Some y) = refl
changed_if_apart slack (Some x) (Some y) = near_or_not (is_near slack x y) refl (is_same x y) refl
  where
    near_or_not : (b : Bool) → is_near slack x y ≡ b → (s : Bool) → is_same x y ≡ s
        → not (is_same x (acknowledged_if_near slack (Some x) y)) ≡ not (is_near slack x y)
    near_or_not true h s t = rw h (ap not (same_itself x))
    near_or_not false h false t = rw h (ap not t)
    near_or_not false h true t =
        let one = same_exact x y t in
        absurd (cc (sym (near_itself slack x) ∙ (ap (is_near slack x) one ∙ h)))

is_changed : (slack : ℤ) (view direct : Items) (q : Key)
    → not (agree_on is_same view (target slack true view direct) q) ≡ is_apart slack view direct q
is_changed slack view direct q =
    ap (λ (t : Option Item). not (option_eq is_same (item_of view q) t)) (item_chosen slack view direct q)
    ∙ changed_if_apart slack (item_of view q) (item_of direct q)

pub order_both : (a b : Items) → InOrder a → InOrder (fold with_item a b)
order_both a [] s = s
order_both a (e ∷ b) s = order_both (with_item a e) b (order_with e.0 e.1 a s)

-- a key that disagrees is one of those that may, and of either view
apart_there : (slack : ℤ) (view direct : Items) (keys : List Key) (q : Key) (a d : Bool)
    → agree_on (is_near slack) view direct q ≡ a → is_among q keys ≡ d → AgreeOutside slack view direct keys
    → (d && not a) ≡ not a
apart_there slack view direct keys q true true h m outside = refl
apart_there slack view direct keys q true false h m outside = refl
apart_there slack view direct keys q false true h m outside = refl
apart_there slack view direct keys q false false h m outside = absurd (cc (sym h ∙ outside q m))

apart_of_both : (view t : Items) (q : Key) (a d : Bool) → agree_on is_same view t q ≡ a
    → is_among q (keys_of_both view t) ≡ d → (d && not a) ≡ not a
apart_of_both view t q true true h m = refl
apart_of_both view t q true false h m = refl
apart_of_both view t q false true h m = refl
apart_of_both view t q false false h m = let n = none_of_both view t q m in absurd (cc (sym h ∙ agree_none is_same view t q n.0 n.1))

-- the keys that change are those that disagree
keys_changed : (slack : ℤ) (view direct : Items) (keys : List Key) → InOrder view → KeysInOrder keys
    → AgreeOutside slack view direct keys
    → filter (λ key. not (agree_on is_same view (target slack true view direct) key)) (keys_of_both view (target slack true view direct))
    ≡ filter (is_apart slack view direct) keys
keys_changed slack view direct keys s r outside =
    let t = target slack true view direct in
    let changed = λ (key : Key). not (agree_on is_same view t key) in
    same_keys (filter changed (keys_of_both view t)) (filter (is_apart slack view direct) keys)
    (order_passing changed (keys_of_both view t) (order_both view t s)) (order_passing (is_apart slack view direct) keys r)
    (λ q. among_passing changed q (keys_of_both view t)
    ∙ (apart_of_both view t q (agree_on is_same view t q) (is_among q (keys_of_both view t)) refl refl
    ∙ (is_changed slack view direct q
    ∙ (sym (apart_there slack view direct keys q (agree_on (is_near slack) view direct q) (is_among q keys) refl refl outside)
    ∙ sym (among_passing (is_apart slack view direct) q keys)))))

-- of each of them the target has what is shown
values_case : (slack : ℤ) (view direct : Items) (k : Key) (ks : List Key) (b : Bool)
    → agree_on (is_near slack) view direct k ≡ b
    → map (λ key. (key, item_of (target slack true view direct) key)) (filter (is_apart slack view direct) ks) ≡ changes_among slack view direct ks
    → map (λ key. (key, item_of (target slack true view direct) key)) (filter (is_apart slack view direct) (k ∷ ks)) ≡ changes_among slack view direct (k ∷ ks)
values_case slack view direct k ks true h rest = rw h rest
values_case slack view direct k ks false h rest = rw h (λ i. (k, apart_target slack view direct k h i) ∷ rest i)

values_among : (slack : ℤ) (view direct : Items) (ks : List Key)
    → map (λ key. (key, item_of (target slack true view direct) key)) (filter (is_apart slack view direct) ks) ≡ changes_among slack view direct ks
values_among slack view direct [] = refl
values_among slack view direct (k ∷ ks) = values_case slack view direct k ks (agree_on (is_near slack) view direct k) refl (values_among slack view direct ks)

pub looks_by_keys : LooksByKeys
looks_by_keys slack view direct keys s r t outside = record {
  level = level_case slack view direct keys (meets slack view direct) (list_all (agree_on (is_near slack) view direct) keys) refl refl outside;
  leads = leads view (target slack true view direct) (changes_among slack view direct keys) s (target_order slack true view direct r)
      (fits_among slack view direct keys) (λ q. unchanged_case slack view direct keys q (is_among q keys) refl outside);
  carries = ap (map (λ key. (key, item_of (target slack true view direct) key))) (keys_changed slack view direct keys s t outside)
      ∙ values_among slack view direct keys;
}
