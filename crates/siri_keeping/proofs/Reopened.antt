-- The producer that is opened over rows which keep a history: what it shows and what it holds, at any moment, are what the
-- producer of that history would show and hold then.
use Rattle.std.proofs.Common.{◌≡◌, ◌≤◌, ℕ, max, List, [], ◌∷◌, ◌++◌, length, map, fold, cond, Bool, true, false, not, Option, None, Some, Ok, Err, Result, refl, ap, sym, ◌∙◌, subst, arith}
use Rattle.std.proofs.Common.{append_assoc, append-nil}
use Rattle.std.specs.Prelude.{◌==◌}
use Rattle.std.specs.List.{AllByRecursion as All, cons_option, filter_map}
use Rattle.std.proofs.Math.Nat.{max_comm}
use Rattle.std.proofs.lemmas.Map.Entries.{option_filter}
use Rattle.std.proofs.lemmas.Option.{none-some, same_Some}
use Rattle.siri_records.specs.declared.item.Item.{Item}
use Rattle.siri_records.specs.Ends.{is_dead}
use Rattle.siri_records.specs.Keyed.{Items, item_of, living, most_live}
use Rattle.siri_records.specs.Order.{key_cmp}
use Rattle.siri_topic.specs.declared.topics.Topic.{Topic}
use Rattle.siri_messages.specs.declared.message.Message.{Message}
use Rattle.siri_messages.specs.declared.message.Message.TheVariants as message
use Rattle.siri_subs.specs.declared.entry.Row.{Row}
use Rattle.siri_subs.specs.Table.{EachOnce, expired}
use Rattle.siri_model.specs.Direct.{direct_to}
use Rattle.siri_model.specs.Held.{Held, held_of, helds_of}
use Rattle.siri_model.specs.History.{Clock, Feed, History, Observed, Start, State, Take, after_entry, after_step, current, entries_fed, fed, now_of, start_of, state_of}
use Rattle.siri_model.specs.Lives.{table_of}
use Rattle.siri_model.specs.Rows.{KeptLife, rows_after, rows_of, rows_taken}
use Rattle.siri_model.proofs.Current.{few_live}
use Rattle.siri_model.proofs.Entries.{sorted_passing}
use Rattle.siri_model.proofs.Histories.{rows_go_on, well_after}
use Rattle.siri_model.proofs.InOrder.{current_in_order, live_later, more_steps}
use Rattle.siri_model.proofs.Lawful.{direct_live}
use Rattle.siri_row_texts.specs.declared.moments.Began.{Began}
use Rattle.siri_row_texts.specs.SubscriptionRows.{renewal_of}
use Rattle.siri_outside.specs.Rows.{InOrder, RowPlace, Rows}
use Rattle.siri_tables.proofs.TableLaws.{all_joined}
use Rattle.siri_keeping.specs.Keeps.{Keeps}
use Rattle.siri_keeping.specs.Opening.{SaysKept, Nothing, Said, WhatIsKept, by_service, kept_in, live_items, reopened, said}
use Rattle.siri_keeping.specs.Subscribed.{unexpired}
use Rattle.siri_keeping.proofs.Feeding.{fed_items}
use Rattle.siri_keeping.proofs.FewHeld.{few_rows}
use Rattle.siri_keeping.proofs.Helds.{helds_expire}
use Rattle.siri_keeping.proofs.LiveItems.{alive, live_at, living_kept}
use Rattle.siri_keeping.proofs.Retaken.{held_again, taken_all}
use Rattle.siri_keeping.proofs.SaidItems.{all_kept, few_fed, has_all}
use Rattle.siri_keeping.proofs.SaidRows.{all_unmapped, renewal_message, renewals_said, request_message, requests_said, says_kept}

-- ---- messages that feed nothing

abbrev FeedsNothing : Message → Type 0
FeedsNothing m = entries_fed m ≡ []

quiet_step : (state : State) (m : Message) → FeedsNothing m → after_step state (Take m) ≡ state
unfolding after_step
quiet_step state m quiet = ap (fed state) quiet

taken_rows : (state : State) (m : Message) (rows : List (Row KeptLife)) → rows_after state (Take m) rows ≡ rows_taken state.start state.now m rows
unfolding rows_after
taken_rows state m rows = refl

-- they leave what is known, and the rows go on by them
record GoesOn (g : History) (ms : List Message) : Type 0 where
  state : state_of (g ++ map Take ms) ≡ state_of g
  rows : rows_of (table_of (g ++ map Take ms)) ≡ taken_all (state_of g).start (state_of g).now ms (rows_of (table_of g))

goes_on : (g : History) (ms : List Message) → All FeedsNothing ms → GoesOn g ms
goes_on g [] quiet = record { state = ap state_of (append-nil g); rows = ap (λ x. rows_of (table_of x)) (append-nil g) }
goes_on g (m ∷ ms) quiet =
    let later : History = g ++ Take m ∷ [] in
    let one : state_of later ≡ state_of g = more_steps g (Take m) ∙ quiet_step (state_of g) m quiet.0 in
    let rest = goes_on later ms quiet.1 in
    let same : g ++ Take m ∷ map Take ms ≡ later ++ map Take ms = sym (append_assoc g (Take m ∷ []) (map Take ms)) in
    record {
      state = ap state_of same ∙ rest.state ∙ one;
      rows =
          ap (λ x. rows_of (table_of x)) same ∙ rest.rows ∙ (λ i. taken_all (one i).start (one i).now ms (rows_of (table_of later)))
          ∙ ap (taken_all (state_of g).start (state_of g).now ms) (rows_go_on g (Take m) ∙ taken_rows (state_of g) m (rows_of (table_of g)));
    }

quiet_requests : (list : List Held) → All FeedsNothing (map request_message list)
quiet_requests [] = tt
quiet_requests (s ∷ list) = (refl, quiet_requests list)

quiet_renewals : (list : List Held) → All FeedsNothing (filter_map renewal_message list)
quiet_renewals [] = tt
quiet_renewals (s ∷ list) = by (s.number == s.base) (quiet_renewals list)
  where
    by : (same : Bool) → All FeedsNothing (filter_map renewal_message list)
        → All FeedsNothing (cons_option (cond same None (Some (message.DataSupplyRequest (renewal_of s.asked.subscription s.number s.base)))) (filter_map renewal_message list))
    by true rest = rest
    by false rest = (refl, rest)

-- ---- what is live

lives : (moment : ℕ) (i : Item) (o : Option Item) → option_filter (alive moment) o ≡ Some i → is_dead i moment ≡ false
lives moment i None is = absurd (none-some i is)
lives moment i (Some j) is = by (is_dead j moment) refl is
  where
    by : (b : Bool) → is_dead j moment ≡ b → cond (not b) (Some j) None ≡ Some i → is_dead i moment ≡ false
    by true dead e = absurd (none-some i e)
    by false lively e = ap (λ x. is_dead x moment) (sym (same_Some j i e)) ∙ lively

-- ---- the rows keep a history

said_in : Result Said RowPlace → Said
said_in (Ok what) = what
said_in (Err place) = Nothing

module _ (name : List ℕ) (rows : Rows) (h : History) (ordered : InOrder rows) (keeps : Keeps name rows h) where
  abbrev moment : ℕ
  moment = now_of h

  abbrev live : Items
  live = living moment (current h)

  abbrev old : List (Row KeptLife)
  old = rows_of (table_of h)

  abbrev began : Began
  began = record { moment = moment; start = start_of h; name = name }

  abbrev pub what : WhatIsKept
  what = kept_in rows began

  live_is : living moment keeps.kept ≡ live
  live_is =
      living_kept moment live keeps.kept keeps.these.covers
      (λ k i is. lives moment i (item_of (current h) k) (sym (live_at moment (current h) k (current_in_order h)) ∙ is))
      (sorted_passing key_cmp (alive moment) (current h) (current_in_order h)) keeps.these.ordered

  few : length (living moment keeps.kept) ≤ most_live
  few = subst (λ (items : Items). length items ≤ most_live) (sym live_is) (few_live h)

  once : EachOnce old
  once = (well_after h).once

  pub says : said rows ≡ Ok (SaysKept what)
  says = says_kept name moment (start_of h) live keeps.kept keeps.places old rows keeps.these ordered few once (few_rows h)

  pub says_this : (other : Said) → said rows ≡ Ok other → SaysKept what ≡ other
  unfolding said_in
  says_this other is = ap said_in (sym says ∙ is)

  -- ---- the history that is begun over them

  module _ (start now : ℕ) where
    abbrev later : ℕ
    later = max now moment

    abbrev items : List Item
    items = by_service (live_items what)

    abbrev first : History
    first = Start start now ∷ Clock moment ∷ Feed (map Observed items) ∷ []

    abbrev helds : List Held
    helds = map held_of old

    abbrev messages : List Message
    messages = map request_message helds ++ filter_map renewal_message helds

    reopened_is : reopened start now (SaysKept what) ≡ first ++ map Take messages
    unfolding reopened
    reopened_is =
        let requests = requests_said name moment (start_of h) live keeps.kept keeps.places old rows keeps.these ordered few once (few_rows h) in
        let renewals = renewals_said name moment (start_of h) live keeps.kept keeps.places old rows keeps.these ordered few once (few_rows h) in
        λ i. first ++ map Take (requests i ++ renewals i)

    fed_is : fold (after_entry later) [] (map Observed items) ≡ living moment keeps.kept
    fed_is =
        let these = keeps.these in
        let fed_few = few_fed moment keeps.kept rows ordered these.ordered these.items these.reads.keyed these.reads.proper these.reads.items in
        fed_items moment keeps.kept later items these.ordered (omega (arith, fed_few, few))
        (all_kept moment keeps.kept rows ordered these.ordered these.items these.reads.keyed these.reads.proper these.reads.items)
        (has_all moment keeps.kept rows ordered these.ordered these.items these.reads.keyed these.reads.proper these.reads.items)

    abbrev known : State
    known = record { start = start; started = now; now = later; current = living moment keeps.kept }

    first_known : state_of first ≡ known
    unfolding after_step
    first_known = ap (λ (c : Items). record { start = start; started = now; now = later; current = c }) fed_is

    first_rows : rows_of (table_of first) ≡ []
    unfolding rows_after
    first_rows =
        rows_go_on (Start start now ∷ Clock moment ∷ []) (Feed (map Observed items))
        ∙ rows_go_on (Start start now ∷ []) (Clock moment)
        ∙ ap (expired (max (state_of (Start start now ∷ [])).now moment)) (rows_go_on [] (Start start now))

    all_quiet : All FeedsNothing messages
    all_quiet = all_joined FeedsNothing (map request_message helds) (filter_map renewal_message helds) (quiet_requests helds) (quiet_renewals helds)

    known_is : state_of (reopened start now (SaysKept what)) ≡ known
    known_is = ap state_of reopened_is ∙ (goes_on first messages all_quiet).state ∙ first_known

    -- ---- what it shows

    clocked : (state : State) → after_step state (Clock now) ≡ record state { now = max state.now now }
    unfolding after_step
    clocked state = refl

    other_is : state_of (h ++ Clock now ∷ []) ≡ record (state_of h) { now = max moment now }
    other_is = more_steps h (Clock now) ∙ clocked (state_of h)

    direct_then : (topic : Topic) → direct_to later (living moment keeps.kept) topic ≡ direct_to (max moment now) (current h) topic
    direct_then topic =
        ap (λ items. direct_to later items topic) live_is
        ∙ sym (direct_live later live topic)
        ∙ ap (λ items. direct_to later items topic) (live_later moment later (current h) (omega arith))
        ∙ direct_live later (current h) topic
        ∙ ap (λ n. direct_to n (current h) topic) (max_comm now moment)

    shows_by : (topic : Topic) → direct_to (now_of (reopened start now (SaysKept what))) (current (reopened start now (SaysKept what))) topic
        ≡ direct_to (now_of (h ++ Clock now ∷ [])) (current (h ++ Clock now ∷ [])) topic
    shows_by topic =
        ap (λ (s : State). direct_to s.now s.current topic) known_is ∙ direct_then topic
        ∙ sym (ap (λ (s : State). direct_to s.now s.current topic) other_is)

    pub shows : (other : Said) → said rows ≡ Ok other → (topic : Topic)
        → direct_to (now_of (reopened start now other)) (current (reopened start now other)) topic
        ≡ direct_to (now_of (h ++ Clock now ∷ [])) (current (h ++ Clock now ∷ [])) topic
    shows other is topic =
        subst (λ x. direct_to (now_of (reopened start now x)) (current (reopened start now x)) topic
        ≡ direct_to (now_of (h ++ Clock now ∷ [])) (current (h ++ Clock now ∷ [])) topic) (says_this other is) (shows_by topic)

    -- ---- what it holds

    holds_by : helds_of (table_of (reopened start now (SaysKept what))) ≡ helds_of (table_of (h ++ Clock now ∷ []))
    holds_by =
        ap (λ x. helds_of (table_of x)) reopened_is
        ∙ ap (map held_of) (goes_on first messages all_quiet).rows
        ∙ (λ i. map held_of (taken_all (first_known i).start (first_known i).now messages (first_rows i)))
        ∙ held_again start later old once (all_unmapped (λ (s : Held). s.base ≤ s.number) held_of old keeps.these.reads.based) (few_rows h)
        ∙ ap (λ n. unexpired n helds) (max_comm now moment ∙ sym (ap (λ (s : State). s.now) other_is))
        ∙ sym (helds_expire h now)

    pub holds : (other : Said) → said rows ≡ Ok other → helds_of (table_of (reopened start now other)) ≡ helds_of (table_of (h ++ Clock now ∷ []))
    holds other is =
        subst (λ x. helds_of (table_of (reopened start now x)) ≡ helds_of (table_of (h ++ Clock now ∷ []))) (says_this other is) holds_by
