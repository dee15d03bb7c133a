-- What changes what is held touches the keys of what it changes.
use Rattle.std.proofs.Common.{◌≡◌, ℕ, List, [], ◌∷◌, map, fold, Bool, true, false, not, cond, ◌||◌, Option, Some, None}
use Rattle.std.proofs.Common.{refl, ap, sym, ◌∙◌, arith}
use Rattle.std.specs.Map.{keys_of}
use Rattle.siri_records.specs.declared.item.Item.{Item}
use Rattle.siri_records.specs.declared.key.Key.{Key}
use Rattle.siri_records.specs.Ends.{is_dead}
use Rattle.siri_records.specs.KeyLists.{is_among, with_keys}
use Rattle.siri_records.proofs.KeyLists.{tied, untouched_with}
use Rattle.siri_records.proofs.ItemsPassing.{kept_if, item_kept, order_kept, none_out}
use Rattle.siri_records.specs.Keyed.{Items, InOrder, item_of, living, dead_of}
use Rattle.siri_model.specs.History.{Entry, after_entry}
use Rattle.siri_model.specs.Last.{entry_key}
use Rattle.siri_model.proofs.Current.{entry_leaves}
use Rattle.siri_model.proofs.InOrder.{in_order_after, in_order_all, live_later}
use Rattle.siri_model.specs.Facts.{FeedFollows, ClockFollows}
use Rattle.siri_model.proofs.Facts.{step_follows}

none_of_both : (a b : Bool) → (a || b) ≡ false → (a ≡ false) × (b ≡ false)
none_of_both false b h = (refl, h)
none_of_both true b h = absurd (cc h)

-- ---- entries

entry_same : (now : ℕ) (items : Items) (e : Entry) (q : Key) → InOrder items → tied q (entry_key e) ≡ false
    → item_of (after_entry now items e) q ≡ item_of items q
entry_same now items e q s off = entry_leaves now items q e s ∙ rw off refl

entries_same : (now : ℕ) (items : Items) (entries : List Entry) (q : Key) → InOrder items
    → is_among q (map entry_key entries) ≡ false → item_of (fold (after_entry now) items entries) q ≡ item_of items q
entries_same now items [] q s out = refl
entries_same now items (e ∷ entries) q s out =
    let parts = none_of_both (tied q (entry_key e)) (is_among q (map entry_key entries)) out in
    entries_same now (after_entry now items e) entries q (in_order_after now items e s) parts.1 ∙ entry_same now items e q s parts.0

living_same : (now : ℕ) (a b : Items) (q : Key) → InOrder a → InOrder b → item_of a q ≡ item_of b q
    → item_of (living now a) q ≡ item_of (living now b) q
living_same now a b q s r same =
    item_kept (λ i. not (is_dead i now)) q a s
    ∙ (ap (kept_if (λ i. not (is_dead i now))) same
    ∙ sym (item_kept (λ i. not (is_dead i now)) q b r))

pub feed_follows : FeedFollows
feed_follows slack topic now current goal look entries s f =
    step_follows slack topic now now (living now current) (living now (fold (after_entry now) current entries)) goal look
    (with_keys look.touched (map entry_key entries)) (omega arith)
    (λ q out. let parts = untouched_with q look.touched (map entry_key entries) out in (
      parts.0,
      living_same now (fold (after_entry now) current entries) current q (in_order_all now current entries s) s
          (entries_same now current entries q s parts.1),
    ))
    f

-- ---- items that die

alive_case : (later : ℕ) (held : Items) (q : Key) (i : Item) (b : Bool) → is_dead i later ≡ b → item_of held q ≡ Some i
    → InOrder held → is_among q (keys_of (dead_of later held)) ≡ false
    → kept_if (λ i. not (is_dead i later)) (Some i) ≡ Some i
alive_case later held q i false h is s out = rw h refl
alive_case later held q i true h is s out =
    let dead : item_of (dead_of later held) q ≡ Some i =
    item_kept (λ i. is_dead i later) q held s ∙ (ap (kept_if (λ i. is_dead i later)) is ∙ ap (λ c. cond c (Some i) None) h) in
    absurd (cc (sym dead ∙ none_out (dead_of later held) q out))

alive_kept : (later : ℕ) (held : Items) (q : Key) (x : Option Item) → item_of held q ≡ x → InOrder held
    → is_among q (keys_of (dead_of later held)) ≡ false → kept_if (λ i. not (is_dead i later)) x ≡ x
alive_kept later held q None is s out = refl
alive_kept later held q (Some i) is s out = alive_case later held q i (is_dead i later) refl is s out

pub clock_follows : ClockFollows
clock_follows slack topic now later current goal look le s f =
    let held = living now current in
    let ordered : InOrder held = order_kept (λ i. not (is_dead i now)) current s in
    step_follows slack topic now later held (living later current) goal look (with_keys look.touched (keys_of (dead_of later held))) le
    (λ q out. let parts = untouched_with q look.touched (keys_of (dead_of later held)) out in (
      parts.0,
      ap (λ (items : Items). item_of items q) (sym (live_later now later current le))
          ∙ (item_kept (λ i. not (is_dead i later)) q held ordered
          ∙ alive_kept later held q (item_of held q) refl ordered parts.1),
    ))
    f
