-- Each item that a consumer keeps of a subscription was sent to it in a part of that subscription, as it is.
use Rattle.std.proofs.Common.{◌≡◌, ℕ, suc, ◌<◌, ◌≤◌, Bool, true, false, cond, List, [], ◌∷◌, ◌++◌, map, Option, Some, None, refl, sym, ap}
use Rattle.std.proofs.Common.{◌∙◌, subst, ⊎_elim, arith}
use Rattle.std.specs.Prelude.{nat_lt, ◌==◌, option_map, slice_get}
use Rattle.std.specs.BTreeMap.{is_at}
use Rattle.std.specs.List.{All, AllByRecursion, Contains}
use Rattle.std.specs.Map.{values_of}
use Rattle.std.proofs.lemmas.Bool.{eqb-false, ltb-true, ltb-false}
use Rattle.std.proofs.lemmas.List.Elements.{All-nil, All-head, All-tail, All-weaker, All-contains_itself}
use Rattle.std.proofs.lemmas.List.Sums.{fold-append}
use Rattle.std.proofs.lemmas.Map.Views.{All-values-insert_entry, All-map-remove_entry}
use Rattle.siri_records.specs.declared.item.Item.{Item as AnItem}
use Rattle.siri_records.specs.declared.key.Key.{Key}
use Rattle.siri_records.specs.Keyed.{Items, KeyChange, after_change, apply, with_item, without_key}
use Rattle.siri_records.specs.Keys.{key_of}
use Rattle.siri_records.specs.Order.{key_cmp}
use Rattle.siri_messages.specs.Asked.{AskedFor, asked_in}
use Rattle.siri_messages.specs.declared.message.Message.{Message}
use Rattle.siri_messages.specs.declared.message.Message.TheVariants as message
use Rattle.siri_messages.specs.declared.supplies.Mark.{Mark as SentMark}
use Rattle.siri_change.specs.Parts.{Carried, changes_in}
use Rattle.siri_life.specs.Meaning.{apply_parts}
use Rattle.siri_life.specs.Life.{Mark, Subscribe, Terminate, AllData, Supply, Acknowledge, Notify, Delivery}
use Rattle.siri_life.specs.Link.{Origin, Outcome, UnknownSubscription, OldStart, Gap, Repeat, Overlong, Wanted, asked, base_of, outcome}
use Rattle.siri_life.specs.Link.{restarted, taken, taken_as, with_part, with_start, with_start_if}
use Rattle.siri_life.specs.Named.{Name, same_subscription, next_of}
use Rattle.siri_life.specs.Network
use Rattle.siri_life.specs.Network.{Asks, Stops, Restarts, Delivers, step, takes, takes_letter}
use Rattle.siri_model.specs.Lives.{supply_of}
use Rattle.siri_life.specs.Serving.{About, Carries, ToProducer, ToConsumer}
use Rattle.siri_life.proofs.Longer.{step_longer}
use Rattle.siri_life.proofs.Names.{same_parts}
use Rattle.siri_life.proofs.Takes.{Here, Means, means}
use Rattle.siri_model.specs.Meaning.{meaning}
use Rattle.siri_view.specs.Consuming.{held_by}
use Rattle.siri_view.specs.Hearing.{Heard, Delivered, Notified, Noted, Foreign, heard}
use Rattle.siri_view.specs.Kept.{HeldSubscription}
use Rattle.siri_world_model.specs.declared.event.Event.{Event}
use Rattle.siri_world_model.specs.Packets as packet
use Rattle.siri_world_model.specs.Packets.{SentPacket}
use Rattle.siri_world_model.specs.Told.{world_after}
use Rattle.siri_world_model.specs.laws.Happenings.{Happens, happened}
use Rattle.siri_world_model.specs.laws.Letters.{Letter, acknowledging, asking, ending, letter_heard, letter_of, letter_to_producer, moment_in, of_one}
use Rattle.siri_world_model.specs.laws.Networks.{WorldNetwork, kept_by}
use Rattle.siri_world_model.specs.laws.Views.{WasSent}
use Rattle.siri_world_model.proofs.Consumers.{letter_at}
use Rattle.siri_world_model.proofs.Said.{is_for}
use Rattle.siri_world_model.proofs.Well.{IsFor}
use Rattle.siri_world_model.proofs.Views.{held_is}
use Rattle.siri_world_model.proofs.Worlds.{after_all, network_of, opened, world_stands}

-- ---- what holds of the items of a view and of those of parts holds of the items of the view after them

module _ (P : AnItem → Type 0) where
  abbrev AllOf : Items → Type 0
  AllOf view = All P (values_of view)

  after_items : (items : List AnItem) (view : Items) → AllOf view → All P items → AllOf (apply view (map (λ item. (key_of item, Some item)) items))
  after_items [] view old new = old
  after_items (item ∷ items) view old new =
      after_items items (with_item view (key_of item, item))
      (All-values-insert_entry key_cmp (key_of item) item P view old (All-head P item items new))
      (All-tail P item items new)

  after_removals : (keys : List Key) (view : Items) → AllOf view → AllOf (apply view (map (λ key. (key, None)) keys))
  after_removals [] view old = old
  after_removals (key ∷ keys) view old = after_removals keys (without_key view key) (All-map-remove_entry (is_at (key_cmp key)) (λ e. e.1) P view old)

  after_part : (view : Items) (part : Carried) → AllOf view → All P part.items → AllOf (apply view (changes_in part))
  after_part view part old new =
      let items : List KeyChange = map (λ item. (key_of item, Some item)) part.items in
      let removals : List KeyChange = map (λ key. (key, None)) part.removals in
      subst AllOf (sym (fold-append after_change view items removals)) (after_removals part.removals (apply view items) (after_items part.items view old new))

  after_parts : (parts : List Carried) (view : Items) → AllOf view → AllByRecursion (λ part. All P part.items) parts → AllOf (apply_parts meaning view parts)
  after_parts [] view old new = old
  after_parts (part ∷ parts) view old new = after_parts parts (apply view (changes_in part)) (after_part view part old new.0) new.1

-- ---- what letters carry

module _ (c i : Name) where
  -- among these letters there is a part of this subscription, under this number and start, of a round up to this one, that
  -- has this very item
  pub record IsCarried (letters : List Letter) (origin : Origin) (item : AnItem) : Type 0 where
    pub place : ℕ
    pub mark : Mark
    pub moment : ℕ
    pub more : Bool
    pub part : Carried
    pub there : slice_get letters place ≡ Some (of_one c i (Carries (Delivery mark moment more part)))
    pub number_is : mark.number ≡ origin.number
    pub start_is : mark.start ≡ origin.start
    pub round_is : mark.round ≤ origin.round
    pub has : Contains part.items item

  -- the place of the part that is wanted next, as a view would belong to its round
  abbrev next : HeldSubscription → Origin
  next h = record { number = h.number; start = h.start; round = suc h.round }

  abbrev PartIsCarried : List Letter → Origin → Carried → Type 0
  PartIsCarried letters origin part = All (IsCarried letters origin) part.items

  -- the items of the view, and those of the buffered parts; after a round the view belongs to it
  pub record IsKept (letters : List Letter) (h : HeldSubscription) : Type 0 where
    pub view : All (IsCarried letters h.origin) (values_of h.view)
    pub parts : AllByRecursion (PartIsCarried letters (next h)) h.parts
    pub belongs : 1 ≤ h.round → h.origin ≡ record { number = h.number; start = h.start; round = h.round }

  abbrev KeptIf : List Letter → Option HeldSubscription → Type 0
  KeptIf letters None = Unit {0}
  KeptIf letters (Some h) = IsKept letters h

  -- ---- more letters
  abbrev Holds : List Letter → List Letter → Type 0
  Holds old new = (k : ℕ) (x : Letter) → slice_get old k ≡ Some x → slice_get new k ≡ Some x

  carried_more : (old new : List Letter) (origin : Origin) → Holds old new → (item : AnItem) → IsCarried old origin item → IsCarried new origin item
  carried_more old new origin longer item is = record {
    place = is.place;
    mark = is.mark;
    moment = is.moment;
    more = is.more;
    part = is.part;
    there = longer is.place (of_one c i (Carries (Delivery is.mark is.moment is.more is.part))) is.there;
    number_is = is.number_is;
    start_is = is.start_is;
    round_is = is.round_is;
    has = is.has;
  }

  all_more : (old new : List Letter) (origin : Origin) → Holds old new → (items : List AnItem)
      → All (IsCarried old origin) items → All (IsCarried new origin) items
  all_more old new origin longer items all k d lt = carried_more old new origin longer _ (all k d lt)

  parts_more : (old new : List Letter) (origin : Origin) → Holds old new → (parts : List Carried)
      → AllByRecursion (PartIsCarried old origin) parts → AllByRecursion (PartIsCarried new origin) parts
  parts_more old new origin longer [] all = tt
  parts_more old new origin longer (part ∷ parts) all = (all_more old new origin longer part.items all.0, parts_more old new origin longer parts all.1)

  kept_more : (old new : List Letter) (held : Option HeldSubscription) → Holds old new → KeptIf old held → KeptIf new held
  kept_more old new None longer is = tt
  kept_more old new (Some h) longer is = record {
    view = all_more old new h.origin longer (values_of h.view) is.view;
    parts = parts_more old new (next h) longer h.parts is.parts;
    belongs = is.belongs;
  }

  -- ---- a part that is taken
  module _ (letters : List Letter) where
    -- a view of an earlier round of the same start
    later : (number start round : ℕ) (item : AnItem) → IsCarried letters
        (record { number = number; start = start; round = round }) item
        → IsCarried letters (record { number = number; start = start; round = suc round }) item
    later number start round item is = record {
      place = is.place;
      mark = is.mark;
      moment = is.moment;
      more = is.more;
      part = is.part;
      there = is.there;
      number_is = is.number_is;
      start_is = is.start_is;
      round_is = omega (arith, is.round_is);
      has = is.has;
    }

    -- the place of a mark is the next
    record IsNext (h : HeldSubscription) (m : Mark) : Type 0 where
      number : m.number ≡ h.number
      start : m.start ≡ h.start
      round : m.round ≡ suc h.round

    all_of_part : (k : ℕ) (m : Mark) (moment : ℕ) (more : Bool) (x : Carried) (h : HeldSubscription)
        → slice_get letters k ≡ Some (of_one c i (Carries (Delivery m moment more x))) → IsNext h m
        → PartIsCarried letters (next h) x
    all_of_part k m moment more x h there is =
        All-weaker (Contains x.items) (IsCarried letters (next h)) (λ item has. record {
          place = k;
          mark = m;
          moment = moment;
          more = more;
          part = x;
          there = there;
          number_is = is.number;
          start_is = is.start;
          round_is = omega (arith, is.round);
          has = has;
        }) x.items (All-contains_itself x.items)

    base_kept : (h : HeldSubscription) → IsKept letters h → All (IsCarried letters (next h)) (values_of (base_of meaning h))
    base_kept h is = by (h.round == 0) refl
      where
        held : (b : Bool) → 1 ≤ h.round → All (IsCarried letters (next h)) (values_of (cond b h.view []))
        held false some = All-nil (IsCarried letters (next h))
        held true some =
            All-weaker (IsCarried letters (record { number = h.number; start = h.start; round = h.round }))
            (IsCarried letters (next h)) (λ item old. later h.number h.start h.round item old)
            (values_of h.view) (subst (λ origin. All (IsCarried letters origin) (values_of h.view)) (is.belongs some) is.view)

        by : (b : Bool) → (h.round == 0) ≡ b → All (IsCarried letters (next h)) (values_of (cond b [] (cond h.wanted.subscription.incremental h.view [])))
        by true none = All-nil (IsCarried letters (next h))
        by false some = let n = eqb-false h.round 0 some in held h.wanted.subscription.incremental (omega (arith, n))

    parts_push : (h : HeldSubscription) (x : Carried) → (parts : List Carried)
        → AllByRecursion (PartIsCarried letters (next h)) parts → PartIsCarried letters (next h) x
        → AllByRecursion (PartIsCarried letters (next h)) (parts ++ x ∷ [])
    parts_push h x [] old new = (new, tt)
    parts_push h x (part ∷ parts) old new = (old.0, parts_push h x parts old.1 new)

    part_kept : (more : Bool) (h : HeldSubscription) (x : Carried) → IsKept letters h → PartIsCarried letters (next h) x
        → IsKept letters (with_part meaning more h x)
    part_kept true h x is new = record { view = is.view; parts = parts_push h x h.parts is.parts new; belongs = is.belongs }
    part_kept false h x is new = record {
      view = after_parts (IsCarried letters (next h)) (h.parts ++ x ∷ []) (base_of meaning h) (base_kept h is) (parts_push h x h.parts is.parts new);
      parts = tt;
      belongs = λ some. refl;
    }

    start_kept : (b : Bool) (h : HeldSubscription) (start : ℕ) → IsKept letters h → IsKept letters (with_start_if meaning b h start)
    start_kept true h start is = record { view = is.view; parts = tt; belongs = λ some. absurd (omega arith) }
    start_kept false h start is = is

    next_place : (h : HeldSubscription) (m : Mark) (b : Bool) → nat_lt h.start m.start ≡ b → Here meaning h m → IsNext (with_start_if meaning b h m.start) m
    next_place h m true less here =
        let newer = ltb-true h.start m.start less in
        record {
          number = here.number;
          start = refl;
          round = ⊎_elim (λ (w : (h.start < m.start) × (m.round ≡ 1) × (m.part ≡ 1)). w.1) (λ w. absurd (omega (arith, w.0, newer))) here.which;
        }
    next_place h m false less here =
        let older = ltb-false h.start m.start less in
        record {
          number = here.number;
          start = ⊎_elim (λ w. absurd (omega (arith, w.0, older))) (λ w. w.0) here.which;
          round = ⊎_elim (λ w. absurd (omega (arith, w.0, older))) (λ w. w.1) here.which;
        }

    taken_kept : (k : ℕ) (m : Mark) (moment : ℕ) (more : Bool) (x : Carried) (h : HeldSubscription)
        → slice_get letters k ≡ Some (of_one c i (Carries (Delivery m moment more x))) → IsKept letters h
        → IsKept letters (taken meaning h m more x)
    taken_kept k m moment more x h there is = by (outcome meaning h m) (means meaning h m)
      where
        by : (o : Outcome) → Means meaning h m o → IsKept letters (taken_as meaning o h m more x)
        by UnknownSubscription says = is
        by OldStart says = is
        by Gap says = is
        by Repeat says = is
        by Overlong says = is
        by Wanted says =
            let turned = with_start meaning h m.start in
            part_kept more turned x (start_kept (nat_lt h.start m.start) h m.start is)
            (all_of_part k m moment more x turned there (next_place h m (nat_lt h.start m.start) refl says))

    asked_kept : (number : ℕ) (wanted : AskedFor) (held : Option HeldSubscription) → KeptIf letters held → IsKept letters (asked meaning number wanted held)
    asked_kept number wanted None is = record { view = All-nil (IsCarried letters _); parts = tt; belongs = λ some. absurd (omega arith) }
    asked_kept number wanted (Some h) is = record { view = is.view; parts = tt; belongs = λ some. absurd (omega arith) }

  -- ---- what happens
  module _ (n : WorldNetwork) (letters : List Letter) (longer : Holds n.letters letters) (old : KeptIf letters (n.holdings c i)) where
    -- what is kept of one subscription is another thing
    under : (d j : Name) (held : Option HeldSubscription) → ((c ≡ d) × (i ≡ j) → KeptIf letters held) → (b : Bool)
        → same_subscription c i d j ≡ b → KeptIf letters (cond b held (n.holdings c i))
    under d j held new true same = new (same_parts c i d j same)
    under d j held new false apart = old

    own : (d j : Name) → (c ≡ d) × (i ≡ j) → KeptIf letters (n.holdings d j)
    own d j same = subst (λ (z : Name × Name). KeptIf letters (n.holdings z.0 z.1)) (λ k. (same.0 k, same.1 k)) old

    delivery_kept : (k : ℕ) (d j : Name) (m : Mark) (moment : ℕ) (more : Bool) (x : Carried)
        (held : Option HeldSubscription) → n.holdings d j ≡ held
        → slice_get n.letters k ≡ Some (of_one d j (Carries (Delivery m moment more x)))
        → KeptIf letters ((Network.delivered meaning n d j m more x held).holdings c i)
    delivery_kept k d j m moment more x None is there = old
    delivery_kept k d j m moment more x (Some h) is there =
        under d j (Some (taken meaning h m more x)) (λ same.
        taken_kept letters k m moment more x h
        (longer k (of_one c i (Carries (Delivery m moment more x)))
        (subst (λ (z : Name × Name). slice_get n.letters k ≡ Some
        (of_one z.0 z.1 (Carries (Delivery m moment more x)))) (λ l. (sym same.0 l, sym same.1 l)) there))
        (subst (KeptIf letters) is (own d j same)))
        (same_subscription c i d j) refl

    readied_same : (d : Name) (o : Outcome) → (Network.readied meaning n d o).holdings ≡ n.holdings
    readied_same d Wanted = refl
    readied_same d UnknownSubscription = refl
    readied_same d OldStart = refl
    readied_same d Gap = refl
    readied_same d Repeat = refl
    readied_same d Overlong = refl

    notified_kept : (d j : Name) (m : Mark) (held : Option HeldSubscription) → n.holdings d j ≡ held
        → KeptIf letters ((Network.notified meaning n d j m held).holdings c i)
    notified_kept d j m None is = old
    notified_kept d j m (Some h) is =
        subst (λ (holdings : Name → Name → Option HeldSubscription).
        KeptIf letters (cond (same_subscription c i d j) (Some h) (holdings c i)))
        (sym (readied_same d (outcome meaning h m)))
        (under d j (Some h) (λ same. subst (KeptIf letters) is (own d j same)) (same_subscription c i d j) refl)

    letter_kept : (k : ℕ) (d j : Name) (it : About Carried AskedFor) → slice_get n.letters k ≡ Some (of_one d j it)
        → KeptIf letters ((takes meaning n d j it).holdings c i)
    letter_kept k d j (ToProducer true) there = old
    letter_kept k d j (ToProducer false) there = old
    letter_kept k d j ToConsumer there = old
    letter_kept k d j (Carries (Subscribe number wanted)) there = old
    letter_kept k d j (Carries (Terminate number)) there = old
    letter_kept k d j (Carries (AllData number base)) there = old
    letter_kept k d j (Carries (Supply m)) there = old
    letter_kept k d j (Carries (Acknowledge m)) there = old
    letter_kept k d j (Carries (Notify m moment)) there = notified_kept d j m (n.holdings d j) refl
    letter_kept k d j (Carries (Delivery m moment more x)) there = delivery_kept k d j m moment more x (n.holdings d j) refl there

    stopped_kept : (d j : Name) (held : Option HeldSubscription) → KeptIf letters ((Network.stopped meaning n d j held).holdings c i)
    stopped_kept d j None = old
    stopped_kept d j (Some h) = under d j None (λ same. tt) (same_subscription c i d j) refl

    restarted_kept : (d j : Name) (held : Option HeldSubscription)
        → KeptIf letters ((Network.restarted_one meaning n d j held).holdings c i)
    restarted_kept d j None = old
    restarted_kept d j (Some h) =
        under d j (Some (restarted meaning (next_of (n.numbers d)) h))
        (λ same. record { view = All-nil (IsCarried letters _); parts = tt; belongs = λ some. absurd (omega arith) })
        (same_subscription c i d j) refl

    happening_kept : (e : Happens) → KeptIf letters ((step meaning n e).holdings c i)
    happening_kept (Asks d j wanted) = under d j _ (λ same. asked_kept letters _ wanted (n.holdings d j) (own d j same)) (same_subscription c i d j) refl
    happening_kept (Stops d j) = stopped_kept d j (n.holdings d j)
    happening_kept (Restarts d j) = restarted_kept d j (n.holdings d j)
    happening_kept (Delivers k) = by (slice_get n.letters k) refl
      where
        by : (found : Option Letter) → slice_get n.letters k ≡ found → KeptIf letters ((takes_letter meaning n found).holdings c i)
        by None there = old
        by (Some letter) there = letter_kept k letter.subscriber letter.identifier letter.it there
    happening_kept other = old

  step_kept : (n : WorldNetwork) (e : Happens) → KeptIf n.letters (n.holdings c i) → KeptIf (step meaning n e).letters ((step meaning n e).holdings c i)
  step_kept n e is =
      let longer = step_longer meaning n e in
      happening_kept n (step meaning n e).letters longer (kept_more n.letters (step meaning n e).letters (n.holdings c i) longer is) e

  all_kept : (es : List Happens) (n : WorldNetwork) → KeptIf n.letters (n.holdings c i) → KeptIf (after_all es n).letters ((after_all es n).holdings c i)
  all_kept [] n is = is
  all_kept (e ∷ es) n is = all_kept es (step meaning n e) (step_kept n e is)

-- ---- the letter of a part is a message to its consumer

-- a letter carries a part of a round
abbrev IsPart : About Carried AskedFor → Type 0
IsPart (Carries (Delivery m moment more x)) = Unit {0}
IsPart other = ⊥

-- no message to the producer does
no_request : (sender : Name) (number : ℕ) (list : List AskedFor) → IsPart (asking sender number list).it → ⊥
no_request sender number [] is = is
no_request sender number (one ∷ []) is = is
no_request sender number (one ∷ two ∷ list) is = is

no_termination : (sender : Name) (number : ℕ) (list : List Name) → IsPart (ending sender number list).it → ⊥
no_termination sender number [] is = is
no_termination sender number (one ∷ []) is = is
no_termination sender number (one ∷ two ∷ list) is = is

no_acknowledgement : (sender : Name) (status : Bool) (mark : Option SentMark) → IsPart (acknowledging sender status mark).it → ⊥
no_acknowledgement sender true (Some mark) is = is
no_acknowledgement sender true None is = is
no_acknowledgement sender false mark is = is

no_supply : (all_data : Bool) (mark : SentMark) → IsPart (Carries (supply_of all_data mark)) → ⊥
no_supply true mark is = is
no_supply false mark is = is

no_part : (sender : Name) (sent : Message) → IsPart (letter_to_producer sender sent).it → ⊥
unfolding letter_to_producer
no_part sender (message.SubscriptionRequest r) is = no_request sender r.message_identifier (asked_in r) is
no_part sender (message.TerminateSubscriptionRequest r) is = no_termination sender r.message_identifier r.subscription_ref is
no_part sender (message.DataReceivedAcknowledgement a) is = no_acknowledgement sender a.status a.extensions is
no_part sender (message.DataSupplyRequest r) is = no_supply r.all_data r.extensions is
no_part sender other is = is

a_part : (letter : Letter) (about : About Carried AskedFor) (c i : Name) → letter ≡ of_one c i about → IsPart about → IsPart letter.it
a_part letter about c i same is = subst (λ (l : Letter). IsPart l.it) (sym same) is

module _ (events : List Event) (c i : Name) where
  -- what such a letter carries, the packet of its place has
  sent_heard : (k : ℕ) (receiver : Name) (sent : Message) (moment : ℕ) (it : Heard) (origin : Origin) (item : AnItem)
      (is : IsCarried c i (network_of events).letters origin item)
      → slice_get (world_after events).packets k ≡ Some (packet.ToConsumer receiver sent) → heard sent ≡ it
      → letter_heard receiver moment it ≡ of_one c i (Carries (Delivery is.mark is.moment is.more is.part))
      → WasSent events c i (record { number = origin.number; start = origin.start; round = origin.round }) item
  sent_heard k receiver sent moment (Delivered subscriber identifier m more part) origin item is there says same =
      let it = ap (λ (l : Letter). l.it) same in
      let receiver_is : receiver ≡ c = ap (λ (l : Letter). l.subscriber) same in
      let identifier_is : identifier ≡ i = ap (λ (l : Letter). l.identifier) same in
      let own : subscriber ≡ receiver = subst (IsFor receiver) says
      (is_for (world_after events) (network_of events) (world_stands events) k receiver sent there) in
      let mark_is : m ≡ is.mark = cc in
      let part_is : part ≡ is.part = cc in
      record {
        packet = suc k;
        message = sent;
        is_sent = there ∙ ap (λ name. Some (packet.ToConsumer name sent)) receiver_is;
        mark = m;
        more = more;
        part = part;
        says = says ∙ (λ j. Delivered ((own ∙ receiver_is) j) (identifier_is j) m more part);
        number_is = ap (λ (w : Mark). w.number) mark_is ∙ is.number_is;
        start_is = ap (λ (w : Mark). w.start) mark_is ∙ is.start_is;
        round_is = subst (λ (w : Mark). w.round ≤ origin.round) (sym mark_is) is.round_is;
        has = subst (λ (p : Carried). Contains p.items item) (sym part_is) is.has;
      }
  sent_heard k receiver sent moment (Notified identifier m) origin item is there says same =
      absurd (a_part (letter_heard receiver moment (Notified identifier m))
      (Carries (Delivery is.mark is.moment is.more is.part)) c i same tt)
  sent_heard k receiver sent moment Noted origin item is there says same =
      absurd (a_part (letter_heard receiver moment Noted)
      (Carries (Delivery is.mark is.moment is.more is.part)) c i same tt)
  sent_heard k receiver sent moment Foreign origin item is there says same =
      absurd (a_part (letter_heard receiver moment Foreign)
      (Carries (Delivery is.mark is.moment is.more is.part)) c i same tt)

  was_sent : (origin : Origin) (item : AnItem) → IsCarried c i (network_of events).letters origin item
      → WasSent events c i (record { number = origin.number; start = origin.start; round = origin.round }) item
  was_sent origin item is = by (slice_get (world_after events).packets is.place) refl
    where
      letter : slice_get (network_of events).letters is.place ≡ option_map letter_of (slice_get (world_after events).packets is.place)
      letter = letter_at (world_after events) (network_of events) is.place (world_stands events).1

      some : (p : SentPacket) → slice_get (world_after events).packets is.place ≡ Some p
          → letter_of p ≡ of_one c i (Carries (Delivery is.mark is.moment is.more is.part))
          → WasSent events c i (record { number = origin.number; start = origin.start; round = origin.round }) item
      some (packet.ToProducer sender sent) there same = absurd
          (no_part sender sent (a_part (letter_to_producer sender sent)
          (Carries (Delivery is.mark is.moment is.more is.part)) c i same tt))
      some (packet.ToConsumer receiver sent) there same = sent_heard is.place receiver sent (moment_in sent) (heard sent) origin item is there refl same

      by : (found : Option SentPacket) → slice_get (world_after events).packets is.place ≡ found
          → WasSent events c i (record { number = origin.number; start = origin.start; round = origin.round }) item
      by None there = let e = sym is.there ∙ letter ∙ ap (option_map letter_of) there in absurd (cc)
      by (Some p) there = let e : Some (letter_of p) ≡ Some
          (of_one c i (Carries (Delivery is.mark is.moment is.more is.part))) =
          sym (letter ∙ ap (option_map letter_of) there) ∙ is.there in some p there (cc)

  -- each item of a view that is kept was sent
  pub view_sent : (kept : HeldSubscription) → kept_by c i (world_after events).consumers ≡ Some kept
      → All (WasSent events c i (held_by kept)) (values_of kept.view)
  view_sent kept is =
      let n = network_of events in
      let holds : IsKept c i n.letters kept = subst (KeptIf c i n.letters) (held_is events c i kept is) (all_kept c i (happened events) opened tt) in
      All-weaker (IsCarried c i n.letters kept.origin) (WasSent events c i (held_by kept)) (was_sent kept.origin) (values_of kept.view) holds.view
