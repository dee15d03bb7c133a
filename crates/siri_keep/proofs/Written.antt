-- What puts make of what is kept.
use Rattle.std.proofs.Common.{◌≡◌, ◌≢◌, ◌≤◌, ℕ, List, [], ◌∷◌, length, Bool, true, false, not, cond, ◌⊎◌, Option, None, Some, refl, sym, ap, ◌∙◌, subst, arith, inl, inr}
use Rattle.std.specs.Prelude.{◌||◌, nat_lt, IsSome}
use Rattle.std.specs.Option.{option_map_or}
use Rattle.std.proofs.lemmas.Bool.{lt-ltb, ltb-true}
use Rattle.std.specs.List.{AllByRecursion as All, AllZip}
use Rattle.std.proofs.lemmas.Map.Entries.{option_filter}
use Rattle.siri_records.specs.declared.item.Item.{Item}
use Rattle.siri_records.specs.declared.key.Key.{Key}
use Rattle.siri_records.specs.Ends.{end_of, is_closed, is_dead}
use Rattle.siri_records.specs.Keyed.{InOrder, Items, apply, item_of, living}
use Rattle.siri_change.proofs.Leads.{order_applied}
use Rattle.siri_model.specs.Held.{Held}
use Rattle.siri_outside.specs.Rows.{RowPlace, Rows, text_at, with_put, with_puts}
use Rattle.siri_row_texts.specs.ItemRows.{moment_row}
use Rattle.siri_row_texts.specs.SubscriptionRows.{renewal_text, request_text}
use Rattle.siri_row_texts.specs.Reading.{began_of_row}
use Rattle.siri_keeping.specs.Keeping.{Covers, IsProperKey, changes_to, moment_put, places_to, puts_to, subscription_puts, most_rows}
use Rattle.siri_keeping.specs.Keeps.{HasSubscriptions, KeepsThese}
use Rattle.siri_keeping.proofs.Found.{text_elsewhere, text_there}
use Rattle.siri_keeping.proofs.Kept.{has_items_after, others_stay}
use Rattle.siri_keeping.proofs.LiveItems.{live_at}
use Rattle.siri_keeping.proofs.WrittenWhole.{subscriptions_elsewhere, written_has}
use Rattle.siri_keep.proofs.Alls.{all_weaker}
use Rattle.siri_keep.proofs.Fed.{ReadsItem}
use Rattle.siri_keep.proofs.Messages.{Reads}
use Rattle.siri_subs.specs.Table.{most_subscriptions}

zip_weaker : {A B : Type 0} (R S : A → B → Type 0) → ((a : A) (b : B) → R a b → S a b) → (xs : List A) (ys : List B)
    → AllZip R xs ys → AllZip S xs ys
zip_weaker R S f [] [] all = tt
zip_weaker R S f [] (y ∷ ys) all = absurd all
zip_weaker R S f (x ∷ xs) [] all = absurd all
zip_weaker R S f (x ∷ xs) (y ∷ ys) all = (f x y all.0, zip_weaker R S f xs ys all.1)

-- where tables 2 and 3 stay
subscriptions_stay : (rows after : Rows) (places : List (List ℕ)) (helds : List Held)
    → ((key : List ℕ) → text_at after 2 key ≡ text_at rows 2 key) → ((key : List ℕ) → text_at after 3 key ≡ text_at rows 3 key)
    → HasSubscriptions rows places helds → HasSubscriptions after places helds
subscriptions_stay rows after places helds two three has = record {
  ascend = has.ascend;
  digits = has.digits;
  requests = zip_weaker (λ place s. text_at rows 2 place ≡ Some (request_text s.asked s.base))
      (λ place s. text_at after 2 place ≡ Some (request_text s.asked s.base)) (λ place s is. two place ∙ is) places helds has.requests;
  renewals = zip_weaker (λ place s. text_at rows 3 place ≡ renewal_text s.asked.subscription s.number s.base)
      (λ place s. text_at after 3 place ≡ renewal_text s.asked.subscription s.number s.base) (λ place s is. three place ∙ is)
      places helds has.renewals;
  only_requests = λ key some. has.only_requests key (subst IsSome (two key) some);
  only_renewals = λ key some. has.only_renewals key (subst IsSome (three key) some);
}

-- ---- the row of the moment

pub key_empty : (key : List ℕ) → ((key ≡ [] → ⊥) → key ≡ []) → key ≡ []
key_empty [] f = refl
key_empty (b ∷ key) f = f (λ e. cc)

module _ (name : List ℕ) (m s : ℕ) (live kept : Items) (places : List (List ℕ)) (helds : List Held) (rows : Rows)
    (these : KeepsThese name m s live kept places helds rows) where
  pub moment_kept : (later start : ℕ) (then : Items)
      → began_of_row (moment_row later start name) ≡ Some (record { moment = later; start = start; name = name }) → Covers later then kept
      → KeepsThese name later start then kept places helds (with_puts rows (moment_put later start name ∷ []))
  moment_kept later start then began covers =
      let put = moment_put later start name in
      let elsewhere : (table : ℕ) (key : List ℕ) → table ≢ 0 → text_at (with_put rows put) table key ≡ text_at rows table key =
      λ table key apart. text_elsewhere put rows (table, key) (λ same. apart (ap (λ (p : RowPlace). p.0) same)) in
      record {
        moment_is = text_there put rows;
        only_moment = λ key some. key_empty key (λ other.
            these.only_moment key (subst IsSome (text_elsewhere put rows (0, key) (λ same. other (ap (λ (p : RowPlace). p.1) same))) some));
        ordered = these.ordered;
        few = these.few;
        items = record {
          each = λ k proper. elsewhere 1 _ (λ e. cc) ∙ these.items.each k proper;
          only = λ key some. these.items.only key (subst IsSome (elsewhere 1 key (λ e. cc)) some);
        };
        covers = covers;
        subscriptions = subscriptions_stay rows (with_put rows put) places helds (λ key. elsewhere 2 key (λ e. cc))
            (λ key. elsewhere 3 key (λ e. cc)) these.subscriptions;
        reads = record {
          began = began;
          keyed = these.reads.keyed;
          proper = these.reads.proper;
          items = these.reads.items;
          requests = these.reads.requests;
          renewals = these.reads.renewals;
          based = these.reads.based;
        };
        no_more = λ table key more. elsewhere table key (λ e. absurd (omega (arith, more, e))) ∙ these.no_more table key more;
      }

  -- ---- rows of items

  pub items_kept : (keys : List Key) (then : Items) → All IsProperKey keys → Covers m then (apply kept (changes_to then keys))
      → length (apply kept (changes_to then keys)) ≤ most_rows → All ReadsItem (apply kept (changes_to then keys))
      → KeepsThese name m s then (apply kept (changes_to then keys)) places helds (with_puts rows (puts_to then keys))
  items_kept keys then proper covers few read =
      let after = apply kept (changes_to then keys) in
      let elsewhere : (table : ℕ) (key : List ℕ) → table ≢ 1 → text_at (with_puts rows (puts_to then keys)) table key ≡ text_at rows table key =
      λ table key apart. others_stay then keys rows table key apart in
      record {
        moment_is = elsewhere 0 [] (λ e. cc) ∙ these.moment_is;
        only_moment = λ key some. these.only_moment key (subst IsSome (elsewhere 0 key (λ e. cc)) some);
        ordered = order_applied kept (changes_to then keys) these.ordered;
        few = few;
        items = has_items_after then rows kept keys proper these.ordered these.items;
        covers = covers;
        subscriptions = subscriptions_stay rows (with_puts rows (puts_to then keys)) places helds (λ key. elsewhere 2 key (λ e. cc))
            (λ key. elsewhere 3 key (λ e. cc)) these.subscriptions;
        reads = record {
          keyed = all_weaker ReadsItem _ (λ e is. is.keyed) after read;
          proper = all_weaker ReadsItem _ (λ e is. is.proper) after read;
          items = all_weaker ReadsItem _ (λ e is. is.read) after read;
          began = these.reads.began;
          requests = these.reads.requests;
          renewals = these.reads.renewals;
          based = these.reads.based;
        };
        no_more = λ table key more. elsewhere table key (λ e. absurd (omega (arith, more, e))) ∙ these.no_more table key more;
      }

  -- ---- rows of subscriptions

  pub subscriptions_kept : (then : List Held) → length then ≤ most_subscriptions → All Reads then
      → KeepsThese name m s live kept (places_to (length then)) then (with_puts rows (subscription_puts places then))
  subscriptions_kept then few read =
      let elsewhere : (table : ℕ) (key : List ℕ) → table ≢ 2 → table ≢ 3
      → text_at (with_puts rows (subscription_puts places then)) table key ≡ text_at rows table key =
      λ table key two three. subscriptions_elsewhere rows places then table key two three in
      record {
        moment_is = elsewhere 0 [] (λ e. cc) (λ e. cc) ∙ these.moment_is;
        only_moment = λ key some. these.only_moment key (subst IsSome (elsewhere 0 key (λ e. cc) (λ e. cc)) some);
        ordered = these.ordered;
        few = these.few;
        items = record {
          each = λ k proper. elsewhere 1 _ (λ e. cc) (λ e. cc) ∙ these.items.each k proper;
          only = λ key some. these.items.only key (subst IsSome (elsewhere 1 key (λ e. cc) (λ e. cc)) some);
        };
        covers = these.covers;
        subscriptions = written_has rows places helds then these.subscriptions few;
        reads = record {
          keyed = these.reads.keyed;
          proper = these.reads.proper;
          items = these.reads.items;
          requests = all_weaker Reads _ (λ s is. is.request) then read;
          renewals = all_weaker Reads _ (λ s is. is.renewal) then read;
          began = these.reads.began;
          based = all_weaker Reads _ (λ s is. is.based) then read;
        };
        no_more = λ table key more. elsewhere table key (λ e. absurd (omega (arith, more, e))) (λ e. absurd (omega (arith, more, e)))
            ∙ these.no_more table key more;
      }

-- a later moment
pub passed : (p : Item → Bool) (o : Option Item) (i : Item) → option_filter p o ≡ Some i → (o ≡ Some i) × (p i ≡ true)
passed p None i at = cc
passed p (Some j) i at = by (p j) refl at
  where
    by : (b : Bool) → p j ≡ b → cond b (Some j) None ≡ Some i → (Some j ≡ Some i) × (p i ≡ true)
    by true is at = (at, cc)
    by false is at = cc

pub dead_or : (i : Item) (now : ℕ) (b : Bool) → is_dead i now ≡ b → (is_dead i now ≡ true) ⊎ (not (is_dead i now) ≡ true)
dead_or i now true is = inl is
dead_or i now false is = inr (ap not is)

pub passes : (now : ℕ) (i : Item) → not (is_dead i now) ≡ true → option_filter (λ i. not (is_dead i now)) (Some i) ≡ Some i
passes now i alive = rw alive refl

pub covers_clocked : (m later : ℕ) (live kept : Items) → InOrder live → ((i : Item) → is_dead i m ≡ true → is_dead i later ≡ true)
    → Covers m live kept → Covers later (living later live) kept
covers_clocked m later live kept s stays covers = record {
  has_live = λ k i at. covers.has_live k i
      (passed (λ i. not (is_dead i later)) (item_of live k) i (sym (live_at later live k s) ∙ at)).0;
  rest_dead = λ k i at. elim (covers.rest_dead k i at) [
    | inl was ↦ elim (dead_or i later (is_dead i later) refl) [
      | inl dead ↦ inr dead
      | inr alive ↦ inl (live_at later live k s ∙ ap (option_filter (λ i. not (is_dead i later))) was ∙ passes later i alive)
    ]
    | inr dead ↦ inr (stays i dead)
  ];
}

-- what is dead at a moment is dead later
dead_at : (closed : Bool) (end : Option ℕ) (m later : ℕ) → m ≤ later → (closed || option_map_or (λ e. nat_lt e m) end false) ≡ true
    → (closed || option_map_or (λ e. nat_lt e later) end false) ≡ true
dead_at true end m later le dead = refl
dead_at false None m later le dead = cc
dead_at false (Some e) m later le dead = grind (arith, ltb-true, lt-ltb)

pub dead_stays : (m later : ℕ) → m ≤ later → (i : Item) → is_dead i m ≡ true → is_dead i later ≡ true
dead_stays m later le i dead = dead_at (is_closed i) (end_of i) m later le dead
