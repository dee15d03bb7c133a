-- Stamps: at which moments items end, and at which they have an edge.
use Rattle.std.specs.Prelude.{◌≡◌, ℕ, ◌+◌, ◌*◌, ◌%◌, ◌^◌, Bool, true, false, ◌&&◌, ◌||◌, nat_eq, nat_lt, if◌then◌else◌}
use Rattle.std.specs.Prelude.{List, [], ◌∷◌, fold, Option, Some, None}
use Rattle.std.specs.BTreeMap.{is_at}
use Rattle.std.specs.List.{list_any}
use Rattle.std.specs.Option.{option_cmp, option_map_or}
use Rattle.std.specs.Ordering.{nat_cmp, ordering_then, is_eq, is_gt}
use Rattle.std.specs.declared.cmp.Ordering.{Ordering}
use Rattle.siri_records.specs.declared.item.Item.{Item}
use Rattle.siri_records.specs.declared.item.Item.TheVariants as item
use Rattle.siri_records.specs.declared.item.Service.{Service}
use Rattle.siri_records.specs.declared.item.Service.TheVariants as service
use Rattle.siri_records.specs.declared.key.Key.{Key}
use Rattle.siri_records.specs.Edges.{listed, edges_of}
use Rattle.siri_records.specs.Ends.{end_of}
use Rattle.siri_records.specs.Keyed.{Items, item_of}
use Rattle.siri_records.specs.Order.{key_cmp}
use Rattle.siri_records.specs.Services.{service_of}
use Rattle.siri_topic.specs.declared.topics.LineDirection.{LineDirection}
use Rattle.siri_topic.specs.declared.topics.Topic.{Topic}
use Rattle.siri_topic.specs.declared.topics.Topic.TheVariants as topic
use Rattle.siri_topic.specs.Services.{service_asked}

-- the number of an order, a moment and a key
abbrev pub Stamp : Type 0
Stamp = ℕ × ℕ × Option Key

-- by the order, by the moment and then by the key; no key comes before all keys
abbrev pub stamp_cmp : Stamp → Stamp → Ordering
stamp_cmp a b = ordering_then (ordering_then (nat_cmp a.0 b.0) (nat_cmp a.1 b.1)) (option_cmp key_cmp a.2 b.2)

-- a stamp is one of these
abbrev pub has_stamp : List Stamp → Stamp → Bool
has_stamp stamps stamp = list_any (is_at (stamp_cmp stamp)) stamps

-- a moment is one of these
abbrev pub has : ℕ → List ℕ → Bool
has moment moments = list_any (nat_eq moment) moments

-- ---- the orders

-- the order by their ends of all items but visits, whose one edge is their end; it is before those by edges
abbrev pub by_end : ℕ
by_end = 0

-- the order of a service's items by their edges
abbrev pub by_edge : Service → ℕ
by_edge service.Stop = 1
by_edge service.Timetable = 2
by_edge service.Vehicle = 3
by_edge service.Situation = 4

-- the end of an item that isn't its edge: a visit has none
abbrev pub own_end_of : Item → Option ℕ
own_end_of (item.Visit v) = None
own_end_of (item.Journey j) = end_of (item.Journey j)
own_end_of (item.Vehicle v) = end_of (item.Vehicle v)
own_end_of (item.Situation s) = end_of (item.Situation s)

-- a number that is made of the bytes of a name; two names may have the same
unfoldable pub digest : ℕ → List ℕ → ℕ
digest start name = fold (λ sum byte. (sum * 1000003 + byte) % 2 ^ 40) start name

-- the order by their edges of a service's items of one name; two names may share one
abbrev pub by_name : Service → List ℕ → ℕ
by_name s name = 5 + digest (by_edge s) name

-- of a visit that of its stop, of a journey that of its line
abbrev pub order_of_name : Item → Option ℕ
order_of_name (item.Visit v) = Some (by_name service.Stop v.monitoring_ref)
order_of_name (item.Journey j) = Some (by_name service.Timetable j.line_ref)
order_of_name i = None

abbrev pub is_by_name : ℕ → Item → Bool
is_by_name order i = option_map_or (λ named. nat_eq named order) (order_of_name i) false

-- the order in which those stand by their edges that may be shown to a topic by their keys
abbrev pub order_of_lines : List LineDirection → ℕ
order_of_lines (only ∷ []) = by_name service.Timetable only.line_ref
order_of_lines lines = by_edge service.Timetable

abbrev pub order_asked : Topic → ℕ
order_asked (topic.Stop t) = by_name service.Stop t.monitoring_ref
order_asked (topic.Timetable t) = order_of_lines t.lines
order_asked t = by_edge (service_asked t)

-- the moments of an item in an order: its end in the one, where that isn't its edge; its edges in the one of its service and in
-- that of its stop or line
abbrev pub moments_of : ℕ → Item → List ℕ
moments_of order i =
    if nat_eq order by_end then listed (own_end_of i) else
    (if nat_eq order (by_edge (service_of i)) || is_by_name order i then edges_of i else [])

abbrev pub moments_held : ℕ → Option Item → List ℕ
moments_held order None = []
moments_held order (Some i) = moments_of order i

-- ---- which stamps there are

-- a stamp of a key at one of these moments of an order
abbrev pub is_one_at : ℕ → Key → List ℕ → Stamp → Bool
is_one_at order key moments stamp =
    option_map_or (λ k. nat_eq order stamp.0 && (is_eq (key_cmp key k) && has stamp.1 moments)) stamp.2 false

-- so in an order that there may not be
abbrev pub is_one_named : Option ℕ → Key → List ℕ → Stamp → Bool
is_one_named None key moments stamp = false
is_one_named (Some order) key moments stamp = is_one_at order key moments stamp

-- a stamp of a key at one of the moments of the item that it may have
abbrev pub is_one_of : Key → Option Item → Stamp → Bool
is_one_of key held stamp =
    option_map_or (λ k. is_eq (key_cmp key k) && has stamp.1 (moments_held stamp.0 held)) stamp.2 false

-- a stamp at one of the moments of the item that is held of its key
abbrev pub is_stamped : Items → Stamp → Bool
is_stamped es stamp = option_map_or (λ k. has stamp.1 (moments_held stamp.0 (item_of es k))) stamp.2 false

-- the stamps are those of the held items
abbrev pub Tied : Items → List Stamp → Type 0
Tied es stamps = (stamp : Stamp) → has_stamp stamps stamp ≡ is_stamped es stamp

-- ---- which end is the first

-- the orders whose moments are ends: that by ends, and that of visits by their edges
abbrev pub is_of_ends : ℕ → Bool
is_of_ends order = nat_eq order by_end || nat_eq order (by_edge service.Stop)

-- by the moment and then by the key
abbrev pub end_cmp : Stamp → Stamp → Ordering
end_cmp a b = ordering_then (nat_cmp a.1 b.1) (option_cmp key_cmp a.2 b.2)

-- a stamp of ends, which no other one of ends comes before
pub record IsFirstOfEnds (stamps : List Stamp) (first : Stamp) : Type 0 where
  pub held : has_stamp stamps first ≡ true
  pub of_ends : is_of_ends first.0 ≡ true
  pub least : (stamp : Stamp) → has_stamp stamps stamp ≡ true → is_of_ends stamp.0 ≡ true → is_gt (end_cmp first stamp) ≡ false

-- the first stamp of an order
pub record IsFirstOf (order : ℕ) (stamps : List Stamp) (first : Stamp) : Type 0 where
  pub held : has_stamp stamps first ≡ true
  pub in_order : first.0 ≡ order
  pub least : (stamp : Stamp) → has_stamp stamps stamp ≡ true → stamp.0 ≡ order → is_gt (end_cmp first stamp) ≡ false

-- an order has no stamp
abbrev pub HasNoneOf : ℕ → List Stamp → Type 0
HasNoneOf order stamps = (stamp : Stamp) → has_stamp stamps stamp ≡ true → stamp.0 ≡ order → ⊥

-- what comes first of an order, where there is anything
abbrev pub IsFirstIn : ℕ → List Stamp → Option Stamp → Type 0
IsFirstIn order stamps None = HasNoneOf order stamps
IsFirstIn order stamps (Some first) = IsFirstOf order stamps first

-- what comes first of all stamps of ends, where there is any
abbrev pub IsFirstEnding : List Stamp → Option Stamp → Type 0
IsFirstEnding stamps None = (stamp : Stamp) → has_stamp stamps stamp ≡ true → is_of_ends stamp.0 ≡ true → ⊥
IsFirstEnding stamps (Some first) = IsFirstOfEnds stamps first

-- of two stamps the earlier by moment and then by key; the one, where there is no other
abbrev pub earlier : Option Stamp → Option Stamp → Option Stamp
earlier None other = other
earlier (Some one) None = Some one
earlier (Some one) (Some other) = Some (if is_gt (end_cmp one other) then other else one)

-- the first stamp of ends is the one of this key, at a moment before another
pub record IsFirstEnd (now : ℕ) (stamps : List Stamp) (key : Key) : Type 0 where
  pub order : ℕ
  pub end : ℕ
  pub first : IsFirstOfEnds stamps (order, end, Some key)
  pub ended : nat_lt end now ≡ true

-- no stamp of ends is at a moment before another
abbrev pub NoneEnded : ℕ → List Stamp → Type 0
NoneEnded now stamps = (stamp : Stamp) → has_stamp stamps stamp ≡ true → is_of_ends stamp.0 ≡ true → nat_lt stamp.1 now ≡ false

-- each stamp has a key
abbrev pub AllKeyed : List Stamp → Type 0
AllKeyed stamps = (order moment : ℕ) → has_stamp stamps (order, moment, None) ≡ false
