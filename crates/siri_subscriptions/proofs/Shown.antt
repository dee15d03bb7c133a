-- All that is shown, by what was found and the view that agrees elsewhere; and the round that it makes.
use Rattle.std.proofs.Common.{◌≡◌, suc, ℤ, ◌≤◌, List, [], ◌∷◌, ◌++◌, map, filter, length, Bool, true, false}
use Rattle.std.proofs.Common.{not, ◌&&◌, ◌||◌, Option, Some, None, is_some, refl, ap, sym, ◌∙◌, subst, arith}
use Rattle.std.proofs.lemmas.List.Folds.{list_any-append}
use Rattle.std.specs.List.Sorted.{IsStrictlySortedBy}
use Rattle.std.specs.Option.{option_eq}
use Rattle.std.specs.Map.{keys_of}
use Rattle.siri_records.specs.declared.item.Item.{Item}
use Rattle.siri_records.specs.declared.key.Key.{Key}
use Rattle.siri_records.specs.Near.{is_near}
use Rattle.siri_records.specs.Keyed.{Items, InOrder, KeyChange, item_of, apply}
use Rattle.siri_records.specs.KeyLists.{is_among}
use Rattle.siri_records.proofs.ItemsPassing.{none_out}
use Rattle.siri_records.proofs.KeyLists.{tied, same_keys, order_passing, among_passing, among_keys}
use Rattle.siri_topic.specs.declared.topics.Topic.{Topic}
use Rattle.siri_change.specs.Looks.{AgreeOutside}
use Rattle.siri_change.proofs.InParts.{applied_append}
use Rattle.siri_change.proofs.Leads.{mentions, Fits, leads}
use Rattle.siri_model.specs.Direct.{shown}
use Rattle.siri_model.specs.Looks.{found_of}
use Rattle.siri_responder.specs.Known.{Known}
use Rattle.siri_subscriptions.specs.Again.{is_other, shown_again, shown_found, shown_of}
use Rattle.siri_subscriptions.proofs.ByKeys.{keys_found}
use Rattle.siri_model.proofs.Lawful.{shown_in_order}
use Rattle.siri_model.proofs.Outside.{shown_found as item_shown}

or_none : (a b : Bool) → (a || b) ≡ false → (a ≡ false) × (b ≡ false)
or_none false b h = (refl, h)
or_none true b h = absurd (cc h)

mentions_append : (q : Key) (cs ds : List KeyChange) → mentions q (cs ++ ds) ≡ (mentions q cs || mentions q ds)
mentions_append q cs ds = list_any-append (λ c. tied q c.0) cs ds

fits_append : (t : Items) (cs ds : List KeyChange) → Fits t cs → Fits t ds → Fits t (cs ++ ds)
fits_append t [] ds f g = g
fits_append t (c ∷ cs) ds f g = (f.0, fits_append t cs ds f.1 g)

none_agrees : (slack : ℤ) (listed : Option Item) → option_eq (is_near slack) None listed ≡ true → None ≡ listed
none_agrees slack None h = refl
none_agrees slack (Some i) h = absurd (cc h)

alike_agrees : (slack : ℤ) (held listed : Option Item) → option_eq (is_near slack) held listed ≡ true
    → is_some held ≡ is_some listed
alike_agrees slack None None h = refl
alike_agrees slack None (Some i) h = absurd (cc h)
alike_agrees slack (Some i) None h = absurd (cc h)
alike_agrees slack (Some i) (Some j) h = refl

length_passing_case : (p : Key → Bool) (k : Key) (keys : List Key) (b : Bool) → p k ≡ b
    → length (filter p keys) ≤ length keys
    → length (filter p (k ∷ keys)) ≤ length (k ∷ keys)
length_passing_case p k keys true h rest = rw h (omega (arith, rest))
length_passing_case p k keys false h rest = rw h (omega (arith, rest))

length_passing : (p : Key → Bool) (keys : List Key) → length (filter p keys) ≤ length keys
length_passing p [] = omega arith
length_passing p (k ∷ keys) = length_passing_case p k keys (p k) refl (length_passing p keys)

length_keys : (items : Items) → length (keys_of items) ≡ length items
length_keys [] = refl
length_keys (e ∷ items) = ap suc (length_keys items)

module _ (known : Known) (topic : Topic) (ordered : InOrder known.held) where
  abbrev direct : Items
  direct = shown known.moment known.held topic

  -- changes to what is shown of keys
  changes_of : List Key → List KeyChange
  changes_of keys = map (shown_of known topic) keys

  fits_of : (keys : List Key) → Fits direct (map (shown_of known topic) keys)
  fits_of [] = tt
  fits_of (k ∷ keys) = (sym (item_shown topic known.moment known.held k ordered), fits_of keys)

  mentions_of : (q : Key) (keys : List Key) → mentions q (map (shown_of known topic) keys) ≡ is_among q keys
  mentions_of q [] = refl
  mentions_of q (k ∷ keys) = ap (λ b. tied q k || b) (mentions_of q keys)

  found_are : (keys : List Key) → map (shown_found topic known.moment) (found_of known.held keys)
      ≡ map (shown_of known topic) keys
  found_are [] = refl
  found_are (k ∷ keys) = ap (λ l. shown_of known topic k ∷ l) (found_are keys)

  module _ (slack : ℤ) (view : Items) (keys : List Key) (outside : AgreeOutside slack view direct keys) where
    abbrev others : List Key
    others = filter (is_other (found_of known.held keys)) (keys_of view)

    off_view : (a k : Bool) → (a && not k) ≡ false → k ≡ false → a ≡ false
    off_view a false h out = by a h
      where
        by : (c : Bool) → (c && true) ≡ false → c ≡ false
        by true e = e
        by false e = e
    off_view a true h out = absurd (cc out)

    elsewhere : (q : Key) → mentions q (map (shown_of known topic) others ++ map (shown_of known topic) keys) ≡ false
        → None ≡ item_of direct q
    elsewhere q none =
        let parts = or_none _ _ (sym (mentions_append q (map (shown_of known topic) others) (map
        (shown_of known topic) keys)) ∙ none) in
        let out : is_among q keys ≡ false = sym (mentions_of q keys) ∙ parts.1 in
        let unfound : is_among q (keys_of (found_of known.held keys))
        ≡ false = ap (is_among q) (keys_found known.held keys) ∙ out in
        let unseen : (is_among q (keys_of view) && is_other (found_of known.held keys) q) ≡ false =
        sym (among_passing (is_other (found_of known.held keys)) q (keys_of view))
        ∙ (sym (mentions_of q others) ∙ parts.0) in
        let unheld = none_out view q (off_view (is_among q (keys_of view))
        (is_among q (keys_of (found_of known.held keys))) unseen unfound) in
        none_agrees slack (item_of direct q) (rw unheld at (outside q out))

    pub all_shown : shown_again known topic view (found_of known.held keys) ≡ direct
    unfolding IsStrictlySortedBy
    all_shown =
        let cs = map (shown_of known topic) others in
        let ds = map (shown_of known topic) keys in
        ap (apply (apply [] cs)) (found_are keys)
        ∙ (sym (applied_append [] cs ds)
        ∙ leads [] direct (cs ++ ds) tt (shown_in_order known.moment known.held topic ordered)
        (fits_append direct cs ds (fits_of others) (fits_of keys)) elsewhere)

    -- no more of the view's keys are read than are shown
    same_others : (q : Key) → (is_among q (keys_of view) && is_other (found_of known.held keys) q)
        ≡ (is_among q (keys_of direct) && is_other (found_of known.held keys) q)
    same_others q = by (is_among q (keys_of (found_of known.held keys))) refl
      where
        by : (b : Bool) → is_among q (keys_of (found_of known.held keys)) ≡ b
            → (is_among q (keys_of view) && not b) ≡ (is_among q (keys_of direct) && not b)
        by true h = off (is_among q (keys_of view)) ∙ sym (off (is_among q (keys_of direct)))
          where
            off : (c : Bool) → (c && false) ≡ false
            off true = refl
            off false = refl
        by false h =
            let out : is_among q keys ≡ false = sym (ap (is_among q) (keys_found known.held keys)) ∙ h in
            ap (λ c. c && true) (among_keys q view
            ∙ (alike_agrees slack (item_of view q) (item_of direct q) (outside q out) ∙ sym (among_keys q direct)))

    pub few_others : InOrder view → length others ≤ length direct
    few_others s =
        let test = is_other (found_of known.held keys) in
        let same : others ≡ filter test (keys_of direct) =
        same_keys others (filter test (keys_of direct)) (order_passing test (keys_of view) s)
        (order_passing test (keys_of direct) (shown_in_order known.moment known.held topic ordered))
        (λ q. among_passing test q (keys_of view) ∙ (same_others q ∙ sym (among_passing test q (keys_of direct)))) in
        rw same (omega (arith, length_passing test (keys_of direct), length_keys direct))

    -- the same by what was found
    pub all_found : (found : List KeyChange) → found ≡ found_of known.held keys
        → shown_again known topic view found ≡ direct
    all_found found is = ap (shown_again known topic view) is ∙ all_shown

    pub few_read : InOrder view → (found : List KeyChange) → found ≡ found_of known.held keys
        → length (filter (is_other found) (keys_of view)) ≤ length direct
    few_read s found is = subst (λ (f : List KeyChange). length (filter (is_other f) (keys_of view)) ≤ length direct)
        (sym is) (few_others s)
