-- What is shown of a key whose item is the same, and that wasn't crossed; and what a look finds of it.
use Rattle.std.proofs.Common.{◌≡◌, ℕ, ℤ, ◌≤◌, List, [], ◌∷◌, Bool, true, false, cond, Option, Some, None, refl, ap, sym}
use Rattle.std.proofs.Common.{◌∙◌}
use Rattle.std.specs.Option.{option_eq}
use Rattle.std.proofs.lemmas.List.Elements.{recursion_from_All}
use Rattle.siri_records.specs.declared.item.Item.{Item}
use Rattle.siri_records.specs.declared.key.Key.{Key}
use Rattle.siri_records.specs.Keys.{key_of}
use Rattle.siri_records.specs.Near.{is_near}
use Rattle.siri_records.specs.Keyed.{Items, InOrder, item_of}
use Rattle.siri_records.proofs.ItemsPassing.{kept_if, item_kept}
use Rattle.siri_topic.specs.declared.topics.Topic.{Topic}
use Rattle.siri_topic.specs.Shown.{is_shown}
use Rattle.siri_topic.proofs.Stays.{stays_shown}
use Rattle.siri_store.specs.Candidates.{may_be_shown}
use Rattle.siri_store.proofs.OwnKeys.{hidden, own_found}
use Rattle.siri_change.specs.Changes.{agree_on}
use Rattle.siri_change.specs.Looks.{changes_among}
use Rattle.siri_model.specs.Direct.{shown}
use Rattle.siri_model.specs.History.{IsKeyed}
use Rattle.siri_model.specs.Looks.{IsUncrossed, SameShown, found_of, shown_if, changes_found, FoundTell}

kept_same : (topic : Topic) (before now : ℕ) (held : Option Item) → before ≤ now → IsUncrossed topic before now held
    → kept_if (λ i. is_shown topic i now) held ≡ kept_if (λ i. is_shown topic i before) held
kept_same topic before now None le uncrossed = refl
kept_same topic before now (Some i) le uncrossed =
    let facts = uncrossed i refl in
    ap (λ c. cond c (Some i) None) (stays_shown topic i before now le facts.0 facts.1)

pub same_shown : SameShown
same_shown topic before now then held k s r le same uncrossed =
    item_kept (λ i. is_shown topic i now) k held r
    ∙ (kept_same topic before now (item_of held k) le uncrossed
    ∙ (ap (kept_if (λ i. is_shown topic i before)) same
    ∙ sym (item_kept (λ i. is_shown topic i before) k then s)))

-- ---- a key whose item can't be shown

-- none is shown of it
none_shown : (topic : Topic) (now : ℕ) (items : Items) (key : Key) → InOrder items → IsKeyed items
    → may_be_shown topic key ≡ false → item_of (shown now items topic) key ≡ None
none_shown topic now items key s own may = item_kept (λ i. is_shown topic i now) key items s ∙ by (item_of items key) refl
  where
    by : (o : Option Item) → item_of items key ≡ o → kept_if (λ i. is_shown topic i now) o ≡ None
    by None is = refl
    by (Some i) is = ap (λ b. cond b (Some i) None)
        (hidden topic now key i (own_found items key i (recursion_from_All (λ (e : Key × Item). e.0 ≡ key_of e.1) items own) is) may)

-- so a key has the same item shown as then where its item can't be shown, or where it has the same item and wasn't crossed
pub same_by_key : (topic : Topic) (before now : ℕ) (then held : Items) (key : Key) → InOrder then → IsKeyed then → InOrder held
    → IsKeyed held → before ≤ now
    → (may_be_shown topic key ≡ true → (item_of held key ≡ item_of then key) × IsUncrossed topic before now (item_of held key))
    → item_of (shown now held topic) key ≡ item_of (shown before then topic) key
same_by_key topic before now then held key s k r l le as_then = by (may_be_shown topic key) refl
  where
    by : (b : Bool) → may_be_shown topic key ≡ b → item_of (shown now held topic) key ≡ item_of (shown before then topic) key
    by true may = let is = as_then may in same_shown topic before now then held key s r le is.0 is.1
    by false may = none_shown topic now held key r l may ∙ sym (none_shown topic before then key s k may)

-- ---- what a look finds

found_shown : (topic : Topic) (now : ℕ) (held : Option Item)
    → kept_if (λ i. is_shown topic i now) held ≡ shown_if topic now held
found_shown topic now None = refl
found_shown topic now (Some i) = refl

-- what is shown of a key is its item, where it is shown
pub shown_found : (topic : Topic) (now : ℕ) (held : Items) (k : Key) → InOrder held
    → item_of (shown now held topic) k ≡ shown_if topic now (item_of held k)
shown_found topic now held k s = item_kept (λ i. is_shown topic i now) k held s ∙ found_shown topic now (item_of held k)

found_case : (slack : ℤ) (view held : Items) (topic : Topic) (now : ℕ) (k : Key) (keys : List Key) (b : Bool)
    → agree_on (is_near slack) view (shown now held topic) k ≡ b
    → item_of (shown now held topic) k ≡ shown_if topic now (item_of held k)
    → changes_found slack view topic now (found_of held keys) ≡ changes_among slack view (shown now held topic) keys
    → changes_found slack view topic now (found_of held (k ∷ keys)) ≡ changes_among slack view (shown now held topic) (k ∷ keys)
found_case slack view held topic now k keys true h same rest =
    let test : option_eq (is_near slack) (item_of view k) (shown_if topic now (item_of held k)) ≡ true =
    ap (option_eq (is_near slack) (item_of view k)) (sym same) ∙ h in
    rw test (rw h rest)
found_case slack view held topic now k keys false h same rest =
    let test : option_eq (is_near slack) (item_of view k) (shown_if topic now (item_of held k)) ≡ false =
    ap (option_eq (is_near slack) (item_of view k)) (sym same) ∙ h in
    let one = sym same in
    rw test (rw h (λ i. (k, one i) ∷ rest i))

pub found_tell : FoundTell
found_tell slack view held topic now [] s = refl
found_tell slack view held topic now (k ∷ keys) s =
    found_case slack view held topic now k keys (agree_on (is_near slack) view (shown now held topic) k) refl
    (shown_found topic now held k s) (found_tell slack view held topic now keys s)
