-- What a producer holds after it was fed a view, and after it was fed some of it.
use Rattle.std.proofs.Common.{◌≡◌, ℕ, ◌≤◌, ◌⊎◌, inl, inr, List, [], ◌∷◌, length, map, take, zero, suc, Bool, true, false, not, ◌||◌, cond, is_some, Option, Some, None, refl, ap, sym, ◌∙◌}
use Rattle.siri_records.specs.declared.item.Item.{Item}
use Rattle.siri_records.specs.declared.key.Key.{Key}
use Rattle.siri_records.specs.Ends.{is_dead}
use Rattle.siri_records.specs.Keys.{key_of}
use Rattle.siri_records.specs.Keyed.{Items, InOrder, KeyChange, item_of, living, most_live}
use Rattle.siri_records.proofs.ItemsPassing.{order_kept, kept_if}
use Rattle.siri_model.specs.History.{Entry, Observed, Withdrawn}
use Rattle.siri_change.specs.Changes.{changes, keys_of_both}
use Rattle.siri_change.specs.Parts.{carried}
use Rattle.siri_change.specs.Views.{is_keyed}
use Rattle.siri_change.proofs.Leads.{tied, one_key, same_views, mentions, Fits, fits_on, without_change}
use Rattle.siri_change.proofs.Viewed.{item_keyed}
use Rattle.siri_model.proofs.InOrder.{in_order_all}
use Rattle.siri_relay.specs.Feeds.{known_of, removals_fed, items_fed}
use Rattle.siri_relay.proofs.Room.{Within, FitsView, names, after_all, left_either, fed_at, live_at, some_kept, removals_taken, items_taken}

-- ---- the entries of changes

removals_fit : (t : Items) (cs : List KeyChange) → Fits t cs → FitsView t (map Withdrawn (carried cs).removals)
removals_fit t [] fits = tt
removals_fit t ((k, Some x) ∷ cs) fits = removals_fit t cs fits.1
removals_fit t ((k, None) ∷ cs) fits = (fits.0, removals_fit t cs fits.1)

items_fit : (t : Items) (cs : List KeyChange) → is_keyed t ≡ true → Fits t cs → FitsView t (map Observed (carried cs).items)
items_fit t [] keyed fits = tt
items_fit t ((k, None) ∷ cs) keyed fits = items_fit t cs keyed fits.1
items_fit t ((k, Some x) ∷ cs) keyed fits =
    let own = one_key (key_of x) k (item_keyed t k x keyed (sym fits.0)) in
    (fits.0 ∙ ap (item_of t) (sym own), items_fit t cs keyed fits.1)

-- a key that the view lacks is removed where its change is made
removed_named : (t : Items) (cs : List KeyChange) (q : Key) → Fits t cs → item_of t q ≡ None
    → names q (map Withdrawn (carried cs).removals) ≡ mentions q cs
removed_named t [] q fits none = refl
removed_named t ((k, None) ∷ cs) q fits none = ap (λ b. tied q k || b) (removed_named t cs q fits.1 none)
removed_named t ((k, Some x) ∷ cs) q fits none = apart (tied q k) refl (removed_named t cs q fits.1 none)
  where
    apart : (b : Bool) → tied q k ≡ b → names q (map Withdrawn (carried cs).removals) ≡ mentions q cs
        → names q (map Withdrawn (carried cs).removals) ≡ (b || mentions q cs)
    apart false tie rest = rest
    apart true tie rest = absurd (cc (sym none ∙ (ap (item_of t) (one_key q k tie) ∙ sym fits.0)))

-- a key that the view has is fed where its change is made
item_named : (t : Items) (cs : List KeyChange) (q : Key) (x : Item) → is_keyed t ≡ true → Fits t cs → item_of t q ≡ Some x
    → names q (map Observed (carried cs).items) ≡ mentions q cs
item_named t [] q x keyed fits here = refl
item_named t ((k, Some y) ∷ cs) q x keyed fits here =
    let own = one_key (key_of y) k (item_keyed t k y keyed (sym fits.0)) in
    ap (λ j. tied q j || names q (map Observed (carried cs).items)) own ∙ ap (λ b. tied q k || b) (item_named t cs q x keyed fits.1 here)
item_named t ((k, None) ∷ cs) q x keyed fits here = apart (tied q k) refl (item_named t cs q x keyed fits.1 here)
  where
    apart : (b : Bool) → tied q k ≡ b → names q (map Observed (carried cs).items) ≡ mentions q cs
        → names q (map Observed (carried cs).items) ≡ (b || mentions q cs)
    apart false tie rest = rest
    apart true tie rest = absurd (cc (sym here ∙ (ap (item_of t) (one_key q k tie) ∙ sym fits.0)))

changes_fit : (a t : Items) → Fits t (changes a t)
changes_fit a t = fits_on a t (keys_of_both a t)

-- a key that was fed and isn't removed is one of the view
not_removed : (fed view : Items) (q : Key) → names q (removals_fed fed view) ≡ false → is_some (item_of fed q) ≡ true
    → is_some (item_of view q) ≡ true
not_removed fed view q out there = by (item_of view q) refl
  where
    by : (x : Option Item) → item_of view q ≡ x → is_some x ≡ true
    by (Some x) here = refl
    by None here =
        let off = sym (removed_named view (changes fed view) q (changes_fit fed view) here) ∙ out in
        absurd (cc (sym there ∙ ap is_some (without_change fed view q off ∙ here)))

-- ---- the two feeds

-- each live key is one of a view, or one of another
abbrev pub Among : ℕ → Items → Items → Items → Type 0
Among now items fed view = (q : Key) → is_some (item_of (living now items) q) ≡ true
    → (is_some (item_of fed q) ≡ true) ⊎ (is_some (item_of view q) ≡ true)

-- what is to be known before a view is fed
pub record Ready (level : Bool) (now : ℕ) (items fed view : Items) : Type 0 where
  pub items_order : InOrder items
  pub fed_order : InOrder fed
  pub view_order : InOrder view
  pub keyed : is_keyed view ≡ true
  pub among : Among now items fed view
  pub known : level ≡ true → living now items ≡ living now fed

pub removals_of_view : (fed view : Items) → FitsView view (removals_fed fed view)
removals_of_view fed view = removals_fit view (changes fed view) (changes_fit fed view)

pub items_of_view : (level : Bool) (fed view : Items) → is_keyed view ≡ true → FitsView view (items_fed level fed view)
items_of_view level fed view keyed = items_fit view (changes (known_of level fed) view) keyed (changes_fit (known_of level fed) view)

-- a key of neither feed is as the view has it
rest_case : (level : Bool) (now : ℕ) (items fed view : Items) (q : Key) (x : Option Item) → Ready level now items fed view
    → item_of view q ≡ x → names q (removals_fed fed view) ≡ false → names q (items_fed level fed view) ≡ false
    → item_of (living now items) q ≡ item_of (living now view) q
rest_case level now items fed view q None r here out off = none (item_of (living now items) q) refl ∙ sym (live_at now view q r.view_order ∙ ap (kept_if (λ i. not (is_dead i now))) here)
  where
    lacks : is_some (item_of view q) ≡ true → ⊥
    lacks there = cc (sym there ∙ ap is_some here)

    none : (y : Option Item) → item_of (living now items) q ≡ y → y ≡ None
    none None is = refl
    none (Some i) is = elim (r.among q (ap is_some is)) [
      | inl there ↦ absurd (lacks (not_removed fed view q out there))
      | inr there ↦ absurd (lacks there)
    ]
rest_case true now items fed view q (Some x) r here out off =
    let same = without_change fed view q (sym (item_named view (changes fed view) q x r.keyed (changes_fit fed view) here) ∙ off) in
    ap (λ l. item_of l q) (r.known refl)
    ∙ (live_at now fed q r.fed_order
    ∙ (ap (kept_if (λ i. not (is_dead i now))) same
    ∙ sym (live_at now view q r.view_order)))
rest_case false now items fed view q (Some x) r here out off =
    let same = without_change [] view q (sym (item_named view (changes [] view) q x r.keyed (changes_fit [] view) here) ∙ off) in
    absurd (cc (same ∙ here))

-- after the removals nothing but the view's keys is live
pub mid_within : (level : Bool) (now : ℕ) (items fed view : Items) → Ready level now items fed view
    → Within (living now (after_all now items (removals_fed fed view))) view
mid_within level now items fed view r q live =
    by (names q (removals_fed fed view)) refl at_mid
    (ap is_some (sym (live_at now mid q (in_order_all now items (removals_fed fed view) r.items_order))) ∙ live)
  where
    alive : Item → Bool
    alive i = not (is_dead i now)

    mid : Items
    mid = after_all now items (removals_fed fed view)

    at_mid : item_of mid q ≡ cond (names q (removals_fed fed view)) (item_of view q) (item_of items q)
    at_mid = fed_at view items now (removals_fed fed view) q r.items_order (removals_of_view fed view)
        (removals_taken now items (carried (changes fed view)).removals)

    by : (b : Bool) → names q (removals_fed fed view) ≡ b → item_of mid q ≡ cond b (item_of view q) (item_of items q)
        → is_some (kept_if alive (item_of mid q)) ≡ true → is_some (item_of view q) ≡ true
    by true out is live = some_kept alive (item_of view q) (ap (λ x. is_some (kept_if alive x)) (sym is) ∙ live)
    by false out is live =
        elim (r.among q (ap is_some (live_at now items q r.items_order) ∙ (ap (λ x. is_some (kept_if alive x)) (sym is) ∙ live))) [
          | inl there ↦ not_removed fed view q out there
          | inr there ↦ there
        ]

-- after both feeds what is live are the living items of the view, where it has room
pub feeds_level : (level : Bool) (now : ℕ) (items fed view : Items) → Ready level now items fed view → length view ≤ most_live
    → living now (after_all now (after_all now items (removals_fed fed view)) (items_fed level fed view)) ≡ living now view
feeds_level level now items fed view r few =
    same_views (living now last) (living now view) (order_kept alive last last_order) (order_kept alive view r.view_order)
    (λ q. by q (names q (items_fed level fed view)) (names q (removals_fed fed view)) refl refl)
  where
    alive : Item → Bool
    alive i = not (is_dead i now)

    mid : Items
    mid = after_all now items (removals_fed fed view)

    mid_order : InOrder mid
    mid_order = in_order_all now items (removals_fed fed view) r.items_order

    last : Items
    last = after_all now mid (items_fed level fed view)

    last_order : InOrder last
    last_order = in_order_all now mid (items_fed level fed view) mid_order

    at_mid : (q : Key) → item_of mid q ≡ cond (names q (removals_fed fed view)) (item_of view q) (item_of items q)
    at_mid q = fed_at view items now (removals_fed fed view) q r.items_order (removals_of_view fed view)
        (removals_taken now items (carried (changes fed view)).removals)

    at_last : (q : Key) → item_of last q ≡ cond (names q (items_fed level fed view)) (item_of view q) (item_of mid q)
    at_last q = fed_at view mid now (items_fed level fed view) q mid_order (items_of_view level fed view r.keyed)
        (items_taken now view mid (carried (changes (known_of level fed) view)).items mid_order r.view_order few
        (mid_within level now items fed view r) (items_of_view level fed view r.keyed))

    as_view : (q : Key) → item_of last q ≡ item_of view q → item_of (living now last) q ≡ item_of (living now view) q
    as_view q is = live_at now last q last_order ∙ (ap (kept_if alive) is ∙ sym (live_at now view q r.view_order))

    by : (q : Key) (b c : Bool) → names q (items_fed level fed view) ≡ b → names q (removals_fed fed view) ≡ c
        → item_of (living now last) q ≡ item_of (living now view) q
    by q true c h k = as_view q (at_last q ∙ rw h refl)
    by q false true h k = as_view q (at_last q ∙ (rw h refl ∙ (at_mid q ∙ rw k refl)))
    by q false false h k =
        let is : item_of last q ≡ item_of items q = at_last q ∙ (rw h refl ∙ (at_mid q ∙ rw k refl)) in
        live_at now last q last_order ∙ (ap (kept_if alive) is
        ∙ (sym (live_at now items q r.items_order) ∙ rest_case level now items fed view q (item_of view q) r refl k h))

-- ---- some of it

pub fits_taken : (t : Items) (n : ℕ) (entries : List Entry) → FitsView t entries → FitsView t (take n entries)
fits_taken t zero entries fits = tt
fits_taken t (suc n) [] fits = tt
fits_taken t (suc n) (e ∷ entries) fits = (fits.0, fits_taken t n entries fits.1)

-- after entries that the view has each live key is still one of the two
pub still_among : (now : ℕ) (items fed view : Items) (entries : List Entry) → InOrder items → FitsView view entries
    → Among now items fed view → Among now (after_all now items entries) fed view
still_among now items fed view entries s fits among q live =
    let alive : Item → Bool = λ i. not (is_dead i now) in
    let after = after_all now items entries in
    let there : is_some (kept_if alive (item_of after q)) ≡ true = ap is_some (sym (live_at now after q (in_order_all now items entries s))) ∙ live in
    elim (left_either view items now entries q s fits) [
      | inl same ↦ among q (ap is_some (live_at now items q s) ∙ (ap (λ x. is_some (kept_if alive x)) (sym same) ∙ there))
      | inr same ↦ inr (some_kept alive (item_of view q) (ap (λ x. is_some (kept_if alive x)) (sym same) ∙ there))
    ]

-- after both feeds nothing but the view's keys is live, be there room or not
pub feeds_among : (level : Bool) (now : ℕ) (items fed view : Items) → Ready level now items fed view
    → Among now (after_all now (after_all now items (removals_fed fed view)) (items_fed level fed view)) view view
feeds_among level now items fed view r =
    let mid = after_all now items (removals_fed fed view) in
    still_among now mid view view (items_fed level fed view) (in_order_all now items (removals_fed fed view) r.items_order)
    (items_of_view level fed view r.keyed) (λ q live. inr (mid_within level now items fed view r q live))
