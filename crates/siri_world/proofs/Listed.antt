-- Lists by their places: what is looked up, what a loop has done so far.
use Rattle.std.proofs.Common.{◌≡◌, ◌≢◌, ℕ, suc, zero, ◌+◌, ◌-◌, ◌<◌, ◌≤◌, List, [], ◌∷◌, ◌++◌, length, get_or, take, drop, Bool, true}
use Rattle.std.proofs.Common.{false, Option, None, Some, refl, ap, ◌∙◌, sym, arith, add-one, option_map}
use Rattle.std.specs.Prelude.{slice_get, is_some, nat_lt, nat_le, IfSome, Result, Ok, Err, IfOk, not, ◌&&◌}
use Rattle.std.specs.List.{slice_set}
use Rattle.std.proofs.lemmas.Bool.{ltb-true, ltb-false, le-leb}
use Rattle.std.proofs.lemmas.List.{map-append}
use Rattle.std.proofs.lemmas.Option.{slice_get-get_or, slice_get-map, slice_get_past}
use Rattle.siri_records.specs.Keyed.{Items}
use Rattle.siri_records.specs.declared.item.Item.{Item}
use Rattle.siri_records.proofs.Placed.{take_at, take_past}
use Rattle.siri_view.specs.Consuming.{Consuming, clocked}
use Rattle.siri_world_model.specs.declared.line.Line.{Line}
use Rattle.siri_world_model.specs.Consumers.{all_clocked, consumer_of, is_known}
use Rattle.siri_world_model.specs.Lines as line
use Rattle.siri_world_model.specs.Lines.{told_line, told_lines}
use Rattle.siri_world_model.specs.Packets.{SentPacket, packet_at}
use Rattle.siri_world_model.specs.Told.{most_consumers}
use Rattle.siri_life.specs.Named.{Name}
use Rattle.siri_world.proofs.Found.{known_is, unknown_is}
use Rattle.siri_world.specs.declared.packets.Packet.{Packet}
use Rattle.siri_world.specs.Kept.{sent_packet, sent_packets}
use Rattle.siri_world.specs.Serving.{item_lines}

-- ---- what is looked up

-- an element that is lent, by whether there is one
pub got : {R X Y : Type 0} (now : R → X) (g : X → Y) (xs : List X) (i : ℕ) (r : Option R)
    → is_some r ≡ nat_lt i (length xs) → IfSome r (λ x. now x ≡ get_or xs i (now x))
    → option_map (λ x. g (now x)) r ≡ option_map g (slice_get xs i)
got now g xs i None there value = ap (option_map g) (sym (slice_get_past xs i (ltb-false i (length xs) (sym there))))
got now g xs i (Some x) there value = ap (λ y. Some (g y)) value ∙ ap (option_map g) (sym (slice_get-get_or xs i (now x) (ltb-true i (length xs) (sym there))))

pub packet_there : (number : ℕ) (list : List Packet) (now : List SentPacket) → number ≢ 0 → sent_packets list ≡ now
    → option_map sent_packet (slice_get list (number - 1)) ≡ packet_at number now
packet_there zero list now some view = absurd (some refl)
packet_there (suc before) list now some view =
    let place : suc before - 1 ≡ before = omega arith in
    ap (λ i. option_map sent_packet (slice_get list i)) place ∙ sym (slice_get-map sent_packet list before) ∙ ap (λ l. slice_get l before) view

-- whether a consumer is known, by what is looked up
pub full_is : {R : Type 0} (now : R → Consuming) (name : Name) (cs : List Consuming) (r : Option R) (none : Bool)
    → 16 ≤ length cs → option_map now r ≡ consumer_of name cs → is_some r ≡ not none
    → none ≡ (not (is_known name cs) && nat_le most_consumers (length cs))
full_is now name cs None true full found is =
    let unknown : is_known name cs ≡ false = unknown_is name cs (sym found) in
    let many : nat_le most_consumers (length cs) ≡ true = le-leb most_consumers (length cs) full in
    rw (unknown, many) refl
full_is now name cs None false full found is = absurd (cc)
full_is now name cs (Some x) true full found is = absurd (cc)
full_is now name cs (Some x) false full found is = let known : is_known name cs ≡ true = known_is name cs (now x) (sym found) in rw known refl

-- two facts of what was given
pub both_ok : {T E : Type 0} (r : Result T E) (P Q : T → Type 0) → IfOk r P → IfOk r Q → IfOk r (λ x. P x × Q x)
both_ok (Ok x) P Q p q = (p, q)
both_ok (Err e) P Q p q = tt

-- ---- the consumers are clocked one after the other

abbrev some_clocked : ℕ → ℕ → List Consuming → List Consuming
some_clocked now i cs = all_clocked now (take i cs) ++ drop i cs

one_more : (now : ℕ) (cs : List Consuming) (i : ℕ) (d : Consuming) → i < length cs
    → some_clocked now (suc i) cs ≡ slice_set (some_clocked now i cs) i
    (clocked (get_or (some_clocked now i cs) i d) now)
one_more now [] i d within = absurd (omega (arith, within))
one_more now (c ∷ cs) zero d within = refl
one_more now (c ∷ cs) (suc i) d within = ap (λ l. clocked c now ∷ l) (one_more now cs i d (omega (arith, within)))

pub clocked_more : (now : ℕ) (cs items : List Consuming) (i : ℕ) (y d : Consuming) → i < length cs
    → all_clocked now (take i cs) ++ drop i cs ≡ items → y ≡ clocked (get_or items i d) now
    → all_clocked now (take (i + 1) cs) ++ drop (i + 1) cs ≡ slice_set items i y
clocked_more now cs items i y d within so_far made =
    ap (λ n. some_clocked now n cs) (add-one i) ∙ one_more now cs i d within
    ∙ (λ j. slice_set (so_far j) i (clocked (get_or (so_far j) i d) now)) ∙ ap (slice_set items i) (sym made)

-- ---- items are told one after the other

pub more_items : (view : Items) (place : ℕ) (v : Item) → Some v ≡ option_map (λ entry. entry.1) (slice_get view place)
    → item_lines (take (place + 1) view) ≡ item_lines (take place view) ++ line.Item v ∷ []
more_items view place v is = by (slice_get view place) refl is
  where
    by : (o : _) → slice_get view place ≡ o → Some v ≡ option_map (λ entry. entry.1) o
        → item_lines (take (place + 1) view) ≡ item_lines (take place view) ++ line.Item v ∷ []
    by None there is = absurd (cc)
    by (Some entry) there is =
        let same : v ≡ entry.1 = cc in
        ap item_lines (take_at view place entry there) ∙ map-append (λ entry. line.Item entry.1) (take place view)
        (entry ∷ []) ∙ ap (λ w. item_lines (take place view) ++ line.Item w ∷ []) (sym same)

pub all_items : (view : Items) (place : ℕ) → None ≡ option_map (λ entry. entry.1) (slice_get view place) → item_lines (take place view) ≡ item_lines view
all_items view place is = by (slice_get view place) refl is
  where
    by : (o : _) → slice_get view place ≡ o → None ≡ option_map (λ entry. entry.1) o → item_lines (take place view) ≡ item_lines view
    by None there is = ap item_lines (take_past view place there)
    by (Some entry) there is = absurd (cc)

-- one line more is told
pub told_more : (lines : List Line) (l : Line) → told_lines (lines ++ l ∷ []) ≡ told_lines lines ++ told_line l ∷ []
told_more lines l = map-append told_line lines (l ∷ [])
