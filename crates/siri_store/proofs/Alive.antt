-- No held item is dead.
use Rattle.std.proofs.Common.{◌≡◌, ℕ, [], false}
use Rattle.std.specs.List.{All}
use Rattle.std.specs.Map.{values_of, remove_entry}
use Rattle.std.specs.BTreeMap.{insert_entry, is_at}
use Rattle.std.proofs.lemmas.List.Elements.{All-from_recursion}
use Rattle.std.proofs.lemmas.Map.Views.{All-values-insert_entry, All-map-remove_entry}
use Rattle.siri_records.specs.declared.key.Key.{Key}
use Rattle.siri_records.specs.declared.item.Item.{Item}
use Rattle.siri_records.specs.Ends.{is_dead}
use Rattle.siri_records.specs.Order.{key_cmp}
use Rattle.siri_records.specs.Keyed.{Items, dead_of}
use Rattle.siri_records.proofs.Kept.{none_passes}

abbrev pub AllAlive : ℕ → Items → Type 0
AllAlive now es = All (λ i. is_dead i now ≡ false) (values_of es)

pub alive_removed : (now : ℕ) (es : Items) (k : Key) → AllAlive now es
    → AllAlive now (remove_entry (is_at (key_cmp k)) es)
alive_removed now es k alive = All-map-remove_entry (is_at (key_cmp k)) (λ e. e.1) (λ i. is_dead i now ≡ false) es alive

pub alive_put : (now : ℕ) (es : Items) (k : Key) (i : Item) → AllAlive now es → is_dead i now ≡ false
    → AllAlive now (insert_entry key_cmp es k i)
alive_put now es k i alive live = All-values-insert_entry key_cmp k i (λ i. is_dead i now ≡ false) es alive live

-- where no entry is dead no item is
pub none_dead : (now : ℕ) (es : Items) → dead_of now es ≡ [] → AllAlive now es
none_dead now es none =
    All-from_recursion (λ i. is_dead i now ≡ false) (values_of es) (none_passes (λ i. is_dead i now) es none)
