-- What becomes of a request, by what the consumer promises of it.
use Rattle.std.proofs.Common.{◌≡◌, ◌≢◌, ◌↔◌, ℕ, ℤ, ◌+◌, ◌<◌, ◌≤◌, List, [], ◌∷◌, length, Bool, true, false, Option}
use Rattle.std.proofs.Common.{None, Some}
use Rattle.std.proofs.Common.{Result, Ok, Err, refl, ap, ◌∙◌, sym, subst}
use Rattle.std.specs.Prelude.{nat_lt, IfOk, OnOk, OnErr, IsErrOf}
use Rattle.std.proofs.lemmas.Bool.{ltb-true, ltb-false, lt-ltb, le-ltb}
use Rattle.siri_topic.specs.declared.subscription.Subscription.{Subscription}
use Rattle.siri_messages.specs.declared.message.Message.{Message}
use Rattle.siri_life.specs.Named.{Name}
use Rattle.siri_base.specs.Numbers.{greatest_number}
use Rattle.siri_view.specs.Consuming.{Consuming, most_held, count_after, after_restart, after_subscribe}
use Rattle.siri_view.specs.Consuming.{after_terminate, request_for}
use Rattle.siri_view.specs.Consuming.{restart_requests, termination_of}
use Rattle.siri_view.specs.Kept.{HeldSubscription, kept_of}
use Rattle.siri_view.specs.declared.outcome.AskError.{AskError}
use Rattle.siri_view.specs.declared.outcome.AskError.TheVariants as ask_error
use Rattle.siri_world_model.specs.Consumers.{with_consumer}
use Rattle.siri_world_model.specs.Effects.{ask_refusal, lacks_numbers}
use Rattle.siri_world.specs.Asking.{MakesRequest, Restarts, ending_refusal, termination_refusal}

-- ---- why it isn't made

ask_none : (c : Consuming) (wanted : Subscription) → c.next_number ≤ greatest_number → count_after c (wanted ∷ []) ≤ most_held → ask_refusal c wanted ≡ None
ask_none c wanted few room =
    let number : nat_lt greatest_number c.next_number ≡ false = le-ltb greatest_number c.next_number few in
    let count : nat_lt most_held (count_after c (wanted ∷ [])) ≡ false = le-ltb most_held (count_after c (wanted ∷ [])) room in
    rw number (rw count refl)

ask_spent : (c : Consuming) (wanted : Subscription) → greatest_number < c.next_number → ask_refusal c wanted ≡ Some ask_error.Spent
ask_spent c wanted many = let number : nat_lt greatest_number c.next_number ≡ true = lt-ltb greatest_number c.next_number many in rw number refl

ask_full : (c : Consuming) (wanted : Subscription) → c.next_number ≤ greatest_number → most_held < count_after c (wanted ∷ [])
    → ask_refusal c wanted ≡ Some ask_error.TooMany
ask_full c wanted few full =
    let number : nat_lt greatest_number c.next_number ≡ false = le-ltb greatest_number c.next_number few in
    let count : nat_lt most_held (count_after c (wanted ∷ [])) ≡ true = lt-ltb most_held (count_after c (wanted ∷ [])) full in
    rw number (rw count refl)

end_none : (c : Consuming) (kept : Option HeldSubscription) → kept ≢ None → c.next_number ≤ greatest_number → ending_refusal c kept ≡ None
end_none c None held few = absurd (held refl)
end_none c (Some kept) held few = let number : nat_lt greatest_number c.next_number ≡ false = le-ltb greatest_number c.next_number few in rw number refl

end_spent : (c : Consuming) (kept : Option HeldSubscription) → kept ≢ None → greatest_number < c.next_number → ending_refusal c kept ≡ Some ask_error.Spent
end_spent c None held many = absurd (held refl)
end_spent c (Some kept) held many = let number : nat_lt greatest_number c.next_number ≡ true = lt-ltb greatest_number c.next_number many in rw number refl

few_numbers : (n : ℕ) → (greatest_number < n → ⊥) → n ≤ greatest_number
few_numbers n not_many = by (nat_lt greatest_number n) refl
  where
    by : (b : Bool) → nat_lt greatest_number n ≡ b → n ≤ greatest_number
    by true is = absurd (not_many (ltb-true greatest_number n is))
    by false is = ltb-false greatest_number n is

-- ---- a subscription is asked for

module _ (c : Consuming) (wanted : Subscription) (beat : ℤ) (old : List Consuming) where
  subscription_asks : (r : Result Message AskError) (new : List Consuming) (x : Consuming)
      → IfOk r (λ m. m ≡ request_for c (wanted ∷ []) beat) → OnOk r (x ≡ after_subscribe c (wanted ∷ []) beat)
      → (IsErrOf r ask_error.Spent ↔ (greatest_number < c.next_number))
      → (IsErrOf r ask_error.TooMany → (c.next_number ≤ greatest_number) × (most_held < count_after c (wanted ∷ [])))
      → OnOk r (count_after c (wanted ∷ []) ≤ most_held) → (IsErrOf r ask_error.NotHeld → ⊥) → OnErr r (x ≡ c)
      → (x ≡ after_subscribe c (wanted ∷ []) beat → new ≡ with_consumer (after_subscribe c (wanted ∷ []) beat) old) → (x ≡ c → new ≡ old)
      → MakesRequest (ask_refusal c wanted) (request_for c (wanted ∷ []) beat) (after_subscribe c (wanted ∷ []) beat) old r new
  subscription_asks (Ok m) new x request ok spent too_many room held refused put same =
      (ask_none c wanted (few_numbers c.next_number (λ many. let e = spent.1 many in absurd (cc))) room, request, put ok)
  subscription_asks (Err ask_error.Spent) new x request ok spent too_many room held refused put same = (ask_spent c wanted (spent.0 refl), same refused)
  subscription_asks (Err ask_error.TooMany) new x request ok spent too_many room held refused put same = let why =
      too_many refl in (ask_full c wanted why.0 why.1, same refused)
  subscription_asks (Err ask_error.NotHeld) new x request ok spent too_many room held refused put same = absurd (held refl)
  subscription_asks (Err ask_error.OutOfMemory) new x request ok spent too_many room held refused put same = (tt, same refused)

  -- by the consumer that was there
  pub asks_subscribed : (d : Consuming) (list : List Subscription) (r : Result Message AskError) (new : List Consuming)
      (x : Consuming) → d ≡ c → list ≡ wanted ∷ []
      → IfOk r (λ m. m ≡ request_for d list beat) → OnOk r (x ≡ after_subscribe d list beat) → (IsErrOf r ask_error.Spent ↔ (greatest_number < d.next_number))
      → (IsErrOf r ask_error.TooMany → (d.next_number ≤ greatest_number) × (most_held < count_after d list))
      → OnOk r (count_after d list ≤ most_held) → (IsErrOf r ask_error.NotHeld → ⊥) → OnErr r (x ≡ d)
      → (x ≡ after_subscribe c (wanted ∷ []) beat → new ≡ with_consumer (after_subscribe c (wanted ∷ []) beat) old) → (x ≡ d → new ≡ old)
      → MakesRequest (ask_refusal c wanted) (request_for c (wanted ∷ []) beat) (after_subscribe c (wanted ∷ []) beat) old r new
  asks_subscribed d list r new x there listed request ok spent too_many room held refused put same =
      subscription_asks r new x
      (subst (λ (e : Consuming). IfOk r (λ m. m ≡ request_for e (wanted ∷ []) beat)) there (subst (λ l. IfOk r (λ m. m ≡ request_for d l beat)) listed request))
      (subst (λ (e : Consuming). OnOk r (x ≡ after_subscribe e (wanted ∷ []) beat)) there (subst (λ l. OnOk r (x ≡ after_subscribe d l beat)) listed ok))
      (subst (λ (e : Consuming). IsErrOf r ask_error.Spent ↔ (greatest_number < e.next_number)) there spent)
      (subst (λ (e : Consuming). IsErrOf r ask_error.TooMany
      → (e.next_number ≤ greatest_number) × (most_held < count_after e (wanted ∷ []))) there
      (subst (λ l. IsErrOf r ask_error.TooMany → (d.next_number ≤ greatest_number) × (most_held < count_after d l)) listed
      too_many))
      (subst (λ (e : Consuming). OnOk r (count_after e (wanted ∷ []) ≤ most_held)) there (subst (λ l. OnOk r (count_after d l ≤ most_held)) listed room))
      held
      (subst (λ (e : Consuming). OnErr r (x ≡ e)) there refused)
      put
      (λ is. same (is ∙ sym there))

-- ---- a subscription is ended

module _ (c : Consuming) (identifier : Name) (old : List Consuming) where
  termination_asks : (r : Result Message AskError) (new : List Consuming) (x : Consuming)
      → IfOk r (λ m. m ≡ termination_of c identifier) → OnOk r (x ≡ after_terminate c identifier)
      → (IsErrOf r ask_error.NotHeld ↔ (kept_of identifier c.held ≡ None))
      → (IsErrOf r ask_error.Spent ↔ ((kept_of identifier c.held ≢ None) × (greatest_number < c.next_number)))
      → (IsErrOf r ask_error.TooMany → ⊥) → OnErr r (x ≡ c)
      → (x ≡ after_terminate c identifier → new ≡ with_consumer (after_terminate c identifier) old) → (x ≡ c → new ≡ old)
      → MakesRequest (termination_refusal c identifier) (termination_of c identifier) (after_terminate c identifier) old r new
  termination_asks (Ok m) new x request ok not_held spent too_many refused put same =
      let held : kept_of identifier c.held ≢ None = λ none. let e = not_held.1 none in absurd (cc) in
      (end_none c (kept_of identifier c.held) held (few_numbers c.next_number (λ many. let e = spent.1 (held, many) in absurd (cc))), request, put ok)
  termination_asks (Err ask_error.Spent) new x request ok not_held spent too_many refused put same = let why =
      spent.0 refl in (end_spent c (kept_of identifier c.held) why.0 why.1, same refused)
  termination_asks (Err ask_error.TooMany) new x request ok not_held spent too_many refused put same = absurd (too_many refl)
  termination_asks (Err ask_error.NotHeld) new x request ok not_held spent too_many refused put same = (ap (ending_refusal c) (not_held.0 refl), same refused)
  termination_asks (Err ask_error.OutOfMemory) new x request ok not_held spent too_many refused put same = (tt, same refused)

  pub asks_terminated : (d : Consuming) (r : Result Message AskError) (new : List Consuming) (x : Consuming) → d ≡ c
      → IfOk r (λ m. m ≡ termination_of d identifier) → OnOk r (x ≡ after_terminate d identifier)
      → (IsErrOf r ask_error.NotHeld ↔ (kept_of identifier d.held ≡ None))
      → (IsErrOf r ask_error.Spent ↔ ((kept_of identifier d.held ≢ None) × (greatest_number < d.next_number)))
      → (IsErrOf r ask_error.TooMany → ⊥) → OnErr r (x ≡ d)
      → (x ≡ after_terminate c identifier → new ≡ with_consumer (after_terminate c identifier) old) → (x ≡ d → new ≡ old)
      → MakesRequest (termination_refusal c identifier) (termination_of c identifier) (after_terminate c identifier) old r new
  asks_terminated d r new x there request ok not_held spent too_many refused put same =
      termination_asks r new x
      (subst (λ (e : Consuming). IfOk r (λ m. m ≡ termination_of e identifier)) there request)
      (subst (λ (e : Consuming). OnOk r (x ≡ after_terminate e identifier)) there ok)
      (subst (λ (e : Consuming). IsErrOf r ask_error.NotHeld ↔ (kept_of identifier e.held ≡ None)) there not_held)
      (subst (λ (e : Consuming). IsErrOf r ask_error.Spent ↔ ((kept_of identifier e.held ≢ None) × (greatest_number < e.next_number))) there spent)
      too_many
      (subst (λ (e : Consuming). OnErr r (x ≡ e)) there refused)
      put
      (λ is. same (is ∙ sym there))

-- ---- a restart

module _ (c : Consuming) (old : List Consuming) where
  few_for_all : (greatest_number + 1 < c.next_number + length c.held → ⊥) → lacks_numbers c ≡ false
  few_for_all not_many = by (lacks_numbers c) refl
    where
      by : (b : Bool) → lacks_numbers c ≡ b → b ≡ false
      by true is = absurd (not_many (ltb-true (greatest_number + 1) (c.next_number + length c.held) is))
      by false is = refl

  restart_asks : (r : Result (List Message) AskError) (new : List Consuming) (x : Consuming)
      → IfOk r (λ all. all ≡ restart_requests c) → OnOk r (x ≡ after_restart c)
      → (IsErrOf r ask_error.Spent ↔ (greatest_number + 1 < c.next_number + length c.held))
      → ((IsErrOf r ask_error.TooMany → ⊥) × (IsErrOf r ask_error.NotHeld → ⊥)) → OnErr r (x ≡ c)
      → (x ≡ after_restart c → new ≡ with_consumer (after_restart c) old) → (x ≡ c → new ≡ old)
      → Restarts c old r new
  restart_asks (Ok all) new x requests ok spent others refused put same =
      (few_for_all (λ many. let e = spent.1 many in absurd (cc)), requests, put ok)
  restart_asks (Err ask_error.Spent) new x requests ok spent others refused put same =
      (lt-ltb (greatest_number + 1) (c.next_number + length c.held) (spent.0 refl), same refused)
  restart_asks (Err ask_error.TooMany) new x requests ok spent others refused put same = absurd (others.0 refl)
  restart_asks (Err ask_error.NotHeld) new x requests ok spent others refused put same = absurd (others.1 refl)
  restart_asks (Err ask_error.OutOfMemory) new x requests ok spent others refused put same = same refused

  -- by the consumer that was there
  pub asks_restarted : (d : Consuming) (r : Result (List Message) AskError) (new : List Consuming) (x : Consuming)
      → d ≡ c
      → IfOk r (λ all. all ≡ restart_requests d) → OnOk r (x ≡ after_restart d)
      → (IsErrOf r ask_error.Spent ↔ (greatest_number + 1 < d.next_number + length d.held))
      → ((IsErrOf r ask_error.TooMany → ⊥) × (IsErrOf r ask_error.NotHeld → ⊥)) → OnErr r (x ≡ d)
      → (x ≡ after_restart c → new ≡ with_consumer (after_restart c) old) → (x ≡ d → new ≡ old)
      → Restarts c old r new
  asks_restarted d r new x there requests ok spent others refused put same =
      restart_asks r new x
      (subst (λ (e : Consuming). IfOk r (λ all. all ≡ restart_requests e)) there requests)
      (subst (λ (e : Consuming). OnOk r (x ≡ after_restart e)) there ok)
      (subst (λ (e : Consuming). IsErrOf r ask_error.Spent ↔ (greatest_number + 1 < e.next_number + length e.held))
      there spent)
      others
      (subst (λ (e : Consuming). OnErr r (x ≡ e)) there refused)
      put
      (λ is. same (is ∙ sym there))
