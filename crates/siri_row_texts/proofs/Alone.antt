-- A delivery with one entry is proper where the entry is, and its text is read as that delivery again.
use Rattle.std.proofs.Common.{◌≤◌, ℕ, List, [], ◌∷◌, refl, arith}
use Rattle.siri_records.specs.declared.item.Item.{Item}
use Rattle.siri_records.specs.declared.item.Item.TheVariants as item
use Rattle.siri_records.specs.declared.item.Service.{Service}
use Rattle.siri_records.specs.declared.item.Service.TheVariants as service
use Rattle.siri_records.specs.declared.key.Key.{Key}
use Rattle.siri_records.specs.declared.key.Key.TheVariants as key
use Rattle.siri_messages.specs.Blank.{blank_functional_delivery, blank_service_delivery}
use Rattle.siri_messages.specs.declared.deliveries.FunctionalDelivery.{FunctionalDelivery}
use Rattle.siri_messages.specs.declared.deliveries.ServiceDelivery.{ServiceDelivery}
use Rattle.siri_messages.specs.declared.message.Message.TheVariants as message
use Rattle.siri_tables.specs.Proper.{IsListWithin}
use Rattle.siri_tables.specs.Tables.{AllProper}
use Rattle.siri_items.specs.Proper.{IsProper}
use Rattle.siri_deliveries.specs.Limits.{most_entries}
use Rattle.siri_deliveries.specs.Parts.{IsPlaced, no_round}
use Rattle.siri_deliveries.specs.Removals.{IsProperRemoval}
use Rattle.siri_deliveries.specs.Deliveries.{IsProperDelivery, IsProperOf, service_delivery_table}
use Rattle.siri_wire.specs.laws.ProperMessages.{IsProper as IsProperMessage}
use Rattle.siri_row_texts.specs.ItemRows.{functional_of, item_delivery, removal_delivery}

-- ---- one entry

pub no_entry : {A : Type 0} {most : ℕ} {P : A → Type 0} → IsListWithin most P []
no_entry = record { bound = omega arith; each = tt }

pub one_entry : {A : Type 0} {P : A → Type 0} (most : ℕ) (x : A) → 1 ≤ most → P x → IsListWithin most P (x ∷ [])
one_entry most x le is = record { bound = le; each = (is, tt) }

unplaced : IsPlaced no_round
unplaced = record { start = tt; round = tt; part = tt; start_stands = refl; part_stands = refl }

one_delivery : (s : Service) (items : List Item) (removals : List Key) → IsListWithin most_entries (IsProperOf s) items
    → IsListWithin most_entries (IsProperRemoval s) removals
    → IsListWithin 100 (IsProperDelivery s) (functional_of items removals)
one_delivery s items removals are gone =
    one_entry 100 (record blank_functional_delivery { items = items; removals = removals }) (omega arith)
    ((tt, (tt, (tt, (tt, (tt, tt))))), (unplaced, (are, (gone, tt))))

of_services : (a b c d : List FunctionalDelivery) → IsListWithin 100 (IsProperDelivery service.Stop) a
    → IsListWithin 100 (IsProperDelivery service.Timetable) b → IsListWithin 100 (IsProperDelivery service.Vehicle) c
    → IsListWithin 100 (IsProperDelivery service.Situation) d
    → AllProper service_delivery_table (record blank_service_delivery {
      stop_monitoring_delivery = a;
      estimated_timetable_delivery = b;
      vehicle_monitoring_delivery = c;
      situation_exchange_delivery = d;
    })
of_services a b c d stops timetables vehicles situations =
    (tt, (tt, (tt, (tt, (tt, (tt, (tt, (stops, (timetables, (vehicles, (situations, tt)))))))))))

of_item : (s : Service) (i : Item) → IsProperOf s i → IsListWithin 100 (IsProperDelivery s) (functional_of (i ∷ []) [])
of_item s i is = one_delivery s (i ∷ []) [] (one_entry most_entries i (omega arith) is) no_entry

of_removal : (s : Service) (k : Key) → IsProperRemoval s k
    → IsListWithin 100 (IsProperDelivery s) (functional_of [] (k ∷ []))
of_removal s k is = one_delivery s [] (k ∷ []) no_entry (one_entry most_entries k (omega arith) is)

-- ---- the delivery of an item, or of the removal of a key

pub item_alone : (i : Item) → IsProper i → IsProperMessage (message.ServiceDelivery (item_delivery i))
item_alone (item.Visit v) p = of_services _ _ _ _ (of_item service.Stop (item.Visit v) (record { proper = p; of_service = refl })) no_entry no_entry no_entry
item_alone (item.Journey j) p = of_services _ _ _ _ no_entry (of_item service.Timetable (item.Journey j) (record { proper = p; of_service = refl })) no_entry no_entry
item_alone (item.Vehicle v) p = of_services _ _ _ _ no_entry no_entry (of_item service.Vehicle (item.Vehicle v) (record { proper = p; of_service = refl })) no_entry
item_alone (item.Situation s) p = of_services _ _ _ _ no_entry no_entry no_entry (of_item service.Situation (item.Situation s) (record { proper = p; of_service = refl }))

pub key_alone : (s : Service) (k : Key) → IsProperRemoval s k → IsProperMessage (message.ServiceDelivery (removal_delivery k))
key_alone service.Stop (key.Visit m v) p = of_services _ _ _ _ (of_removal service.Stop (key.Visit m v) p) no_entry no_entry no_entry
key_alone service.Timetable (key.Journey l d f j) p = of_services _ _ _ _ no_entry (of_removal service.Timetable (key.Journey l d f j) p) no_entry no_entry
key_alone service.Vehicle (key.Vehicle v) p = of_services _ _ _ _ no_entry no_entry (of_removal service.Vehicle (key.Vehicle v) p) no_entry
key_alone service.Situation (key.Situation q n) p = of_services _ _ _ _ no_entry no_entry no_entry (of_removal service.Situation (key.Situation q n) p)
key_alone service.Stop (key.Journey l d f j) p = absurd p
key_alone service.Stop (key.Vehicle v) p = absurd p
key_alone service.Stop (key.Situation q n) p = absurd p
key_alone service.Timetable (key.Visit m v) p = absurd p
key_alone service.Timetable (key.Vehicle v) p = absurd p
key_alone service.Timetable (key.Situation q n) p = absurd p
key_alone service.Vehicle (key.Visit m v) p = absurd p
key_alone service.Vehicle (key.Journey l d f j) p = absurd p
key_alone service.Vehicle (key.Situation q n) p = absurd p
key_alone service.Situation (key.Visit m v) p = absurd p
key_alone service.Situation (key.Journey l d f j) p = absurd p
key_alone service.Situation (key.Vehicle v) p = absurd p
