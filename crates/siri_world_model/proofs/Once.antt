-- A settle right after a settle changes nothing, wherever it stands in a history.
use Rattle.std.proofs.Common.{◌≡◌, ℕ, Bool, true, false, cond, ◌&&◌, List, [], ◌∷◌, ◌++◌, Some, refl, sym, ap, ◌∙◌, subst}
use Rattle.siri_messages.specs.Asked.{AskedFor}
use Rattle.siri_change.specs.Parts.{Carried}
use Rattle.siri_life.specs.Named.{Name, first}
use Rattle.siri_life.specs.Network.{acts, opening, seen_by, HaveRoom}
use Rattle.siri_life.specs.Serving.{Act}
use Rattle.siri_life.proofs.Alone.{settles_twice}
use Rattle.siri_model.specs.History.{Entry, Step, Start, Clock, Feed, Take, Settle, History}
use Rattle.siri_model.specs.Lives.{acts_of, is_settle}
use Rattle.siri_model.specs.Meaning.{meaning}
use Rattle.siri_subscriptions.specs.declared.outs.Out.{Out}
use Rattle.siri_world_model.specs.laws.Networks.{WorldNetwork}
use Rattle.siri_world_model.specs.laws.Apart.{acts_along, once_settled, own_steps, sends_along, sends_of, steps_left, HasNoStart, HasRoomFor, IsAlike}
use Rattle.siri_world_model.proofs.Settling.{rests, settled_sends_none}
use Rattle.siri_world_model.proofs.Apart.{acts_both, along, along_more, alike_seen, alike_then, alike_turned, none_started}
use Rattle.siri_world_model.proofs.Apart.{none_started_more, others_change_nothing, sends_in, sends_met}

-- ---- histories whose settles stand apart

-- a settle before a settle is one
both_settle : (step : Step) (steps : History) → (is_settle (Some step) && is_settle (first steps)) ≡ true
    → (more : History) × (step ≡ Settle) × (steps ≡ Settle ∷ more)
both_settle Settle (Settle ∷ more) is = (more, refl, refl)
both_settle Settle (Start number moment ∷ more) is = absurd (cc)
both_settle Settle (Clock moment ∷ more) is = absurd (cc)
both_settle Settle (Feed entries ∷ more) is = absurd (cc)
both_settle Settle (Take m ∷ more) is = absurd (cc)
both_settle Settle [] is = absurd (cc)
both_settle (Start number moment) steps is = absurd (cc)
both_settle (Clock moment) steps is = absurd (cc)
both_settle (Feed entries) steps is = absurd (cc)
both_settle (Take m) steps is = absurd (cc)

-- what holds of no steps, goes on with a step, and with a settle before a settle, holds of all
once_by : (P : History → History → Type 0) → P [] []
    → ((step : Step) (steps : History) → P (once_settled steps) steps → P (step ∷ once_settled steps) (step ∷ steps))
    → ((more : History) → P (once_settled (Settle ∷ more)) (Settle ∷ more) → P (once_settled (Settle ∷ more)) (Settle ∷ Settle ∷ more))
    → (steps : History) → P (once_settled steps) steps
once_by P none kept left [] = none
once_by P none kept left (step ∷ steps) = by (is_settle (Some step) && is_settle (first steps)) refl (once_by P none kept left steps)
  where
    by : (b : Bool) → (is_settle (Some step) && is_settle (first steps)) ≡ b → P (once_settled steps) steps
        → P (cond b (once_settled steps) (step ∷ once_settled steps)) (step ∷ steps)
    by false is rest = kept step steps rest
    by true is rest =
        let two = both_settle step steps is in
        subst (λ (z : Step × History). P (once_settled z.1) (z.0 ∷ z.1)) (λ i. (sym two.1 i, sym two.2 i))
        (left two.0 (subst (λ xs. P (once_settled xs) xs) two.2 rest))

none_rest : (step : Step) (steps : History) → HasNoStart (step ∷ steps) → HasNoStart (step ∷ []) × HasNoStart steps
none_rest (Start number moment) steps none = absurd none
none_rest (Clock moment) steps none = (tt, none)
none_rest (Feed entries) steps none = (tt, none)
none_rest (Take m) steps none = (tt, none)
none_rest Settle steps none = (tt, none)

none_started_once : (steps : History) → HasNoStart steps → HasNoStart (once_settled steps)
none_started_once =
    once_by (λ xs ys. HasNoStart ys → HasNoStart xs) (λ none. none)
    (λ step steps rest none. let parts = none_rest step steps none in none_started_more (step ∷ []) (once_settled steps) parts.0 (rest parts.1))
    (λ more rest none. rest none)

-- ---- the network is the same

twice : (n : WorldNetwork) → acts meaning (acts_along (Settle ∷ Settle ∷ [])) n ≡ acts meaning (acts_along (Settle ∷ [])) n
twice n = settles_twice meaning rests n

once_acts : (steps : History) (n : WorldNetwork) → acts meaning (acts_along (once_settled steps)) n ≡ acts meaning (acts_along steps) n
once_acts =
    once_by (λ xs ys. (n : WorldNetwork) → acts meaning (acts_along xs) n ≡ acts meaning (acts_along ys) n) (λ n. refl)
    (λ step steps rest n. acts_both (acts_of step) (acts_along (once_settled steps)) n
    ∙ rest (acts meaning (acts_of step) n) ∙ sym (acts_both (acts_of step) (acts_along steps) n))
    (λ more rest n. rest n ∙ ap (acts meaning (acts_along more)) (sym (twice n)))

-- ---- and the room in the table

module _ (c s : Name) where
  room_parts : (xs ys : List (Act Carried AskedFor Entry)) (n : WorldNetwork) → HaveRoom meaning c s (xs ++ ys) n
      → HaveRoom meaning c s xs n × HaveRoom meaning c s ys (acts meaning xs n)
  room_parts [] ys n room = (tt, room)
  room_parts (x ∷ xs) ys n room = let parts = room_parts xs ys _ room.1 in ((room.0, parts.0), parts.1)

  room_both : (xs ys : List (Act Carried AskedFor Entry)) (n : WorldNetwork) → HaveRoom meaning c s xs n
      → HaveRoom meaning c s ys (acts meaning xs n) → HaveRoom meaning c s (xs ++ ys) n
  room_both [] ys n front back = back
  room_both (x ∷ xs) ys n front back = (front.0, room_both xs ys _ front.1 back)

  once_room : (steps : History) (n : WorldNetwork) → HaveRoom meaning c s (acts_along (once_settled steps)) n → HaveRoom meaning c s (acts_along steps) n
  once_room =
      once_by (λ xs ys. (n : WorldNetwork) → HaveRoom meaning c s (acts_along xs) n → HaveRoom meaning c s (acts_along ys) n) (λ n room. room)
      (λ step steps rest n room. let parts = room_parts (acts_of step) (acts_along (once_settled steps)) n room in
      room_both (acts_of step) (acts_along steps) n parts.0 (rest (acts meaning (acts_of step) n) parts.1))
      (λ more rest n room. (tt, (tt, subst (HaveRoom meaning c s (acts_along more)) (sym (twice n)) (rest n room).1)))

-- ---- and what is sent at the settles

module _ (name c s : Name) (k t : ℕ) where
  abbrev sends_after : (done steps : History) → List Out
  sends_after done steps = sends_along name c s (Start k t ∷ done) steps

  -- the second sends nothing, and after it all is as before it
  skipped : (done more : History) → HasNoStart done → HasNoStart more → sends_after done (Settle ∷ Settle ∷ more) ≡ sends_after done (Settle ∷ more)
  skipped done more first none =
      let once = done ++ Settle ∷ [] in
      let none_once = none_started_more done (Settle ∷ []) first tt in
      let again = once ++ Settle ∷ [] in
      let none_again = none_started_more once (Settle ∷ []) none_once tt in
      let same : along k t again ≡ along k t once =
      along_more k t once Settle
      ∙ ap (acts meaning (acts_of Settle)) (along_more k t done Settle)
      ∙ twice (along k t done)
      ∙ sym (along_more k t done Settle) in
      let later : sends_after again more ≡ sends_after once more =
      sends_met name c s k t again more none_again none ∙ ap (sends_in name c s (acts_along more)) same
      ∙ sym (sends_met name c s k t once more none_once none) in
      let quiet : sends_of name c s (Start k t ∷ once) ≡ [] = settled_sends_none name c s (Start k t ∷ done) in
      λ i. sends_of name c s (Start k t ∷ done) ++ (quiet i ++ later i)

  once_sends : (steps : History) → HasNoStart steps → (done : History) → HasNoStart done → sends_after done (once_settled steps) ≡ sends_after done steps
  once_sends =
      once_by (λ xs ys. HasNoStart ys → (done : History) → HasNoStart done → sends_after done xs ≡ sends_after done ys) (λ none done first. refl)
      (λ step steps rest none done first.
      let parts = none_rest step steps none in
      ap (λ later. cond (is_settle (Some step)) (sends_of name c s (Start k t ∷ done)) [] ++ later)
      (rest parts.1 (done ++ step ∷ []) (none_started_more done (step ∷ []) first parts.0)))
      (λ more rest none done first. rest none done first ∙ sym (skipped done more first none))

once_alike : (c s : Name) (k t : ℕ) (steps : History) → HasNoStart steps → IsAlike c s k t steps (once_settled steps)
once_alike c s k t steps none =
    alike_seen c s k t steps (once_settled steps) none (none_started_once steps none)
    (ap (seen_by meaning c s) (sym (once_acts steps (opening meaning k t))))
    (λ name. sym (once_sends name c s k t steps none [] tt))

-- ---- a settle right after a settle

first_same : (before after : History) → first (before ++ Settle ∷ Settle ∷ after) ≡ first (before ++ Settle ∷ after)
first_same [] after = refl
first_same (step ∷ before) after = refl

once_same : (before after : History) → once_settled (before ++ Settle ∷ Settle ∷ after) ≡ once_settled (before ++ Settle ∷ after)
once_same [] after = refl
once_same (step ∷ before) after = λ i. cond (is_settle (Some step) && is_settle (first_same before after i))
    (once_same before after i) (step ∷ once_same before after i)

-- may be left out
pub second_settle : (c s : Name) (k t : ℕ) (before after : History) → HasNoStart before → HasNoStart after
    → IsAlike c s k t (before ++ Settle ∷ Settle ∷ after) (before ++ Settle ∷ after)
second_settle c s k t before after first none =
    let two = before ++ Settle ∷ Settle ∷ after in
    let one = before ++ Settle ∷ after in
    let none_two : HasNoStart two = none_started_more before (Settle ∷ Settle ∷ after) first none in
    let none_one : HasNoStart one = none_started_more before (Settle ∷ after) first none in
    alike_then c s k t two (once_settled one) one
    (subst (IsAlike c s k t two) (once_same before after) (once_alike c s k t two none_two))
    (alike_turned c s k t one (once_settled one) (once_alike c s k t one none_one))

-- ---- with the steps that name only other subscriptions

pub left_out : (c s : Name) (k t : ℕ) (steps : History) → HasNoStart steps → HasRoomFor c s k t steps
    → HasRoomFor c s k t (steps_left c s steps) → IsAlike c s k t steps (steps_left c s steps)
left_out c s k t steps none room left_room =
    let own = own_steps c s steps in
    alike_then c s k t steps own (steps_left c s steps)
    (others_change_nothing c s k t steps none room (once_room c s own (opening meaning k t) left_room))
    (once_alike c s k t own (none_started c s steps none))
