-- The two facts of a subscription are kept by each step, and suffice for a look.
use Rattle.std.proofs.Common.{◌≡◌, ℕ, ℤ, suc, [], nat_lt, length, ◌==◌, Bool, true, false, not, cond, ◌&&◌, Option}
use Rattle.std.proofs.Common.{Some, None, refl, ap, sym, ◌∙◌, arith}
use Rattle.std.specs.Option.{option_eq}
use Rattle.siri_records.specs.declared.key.Key.{Key}
use Rattle.siri_records.specs.Near.{is_near}
use Rattle.siri_records.specs.Keyed.{Items, item_of}
use Rattle.siri_records.specs.KeyLists.{is_among}
use Rattle.siri_records.proofs.KeyLists.{among_passing}
use Rattle.siri_change.specs.Changes.{agree_on, keys_of_both, target}
use Rattle.siri_change.specs.Parts.{Carried}
use Rattle.siri_change.proofs.InParts.{target_meets}
use Rattle.siri_change.proofs.Leads.{none_of_both, agree_none, agree_case, same_views}
use Rattle.siri_change.proofs.Levels.{looks_by_keys}
use Rattle.siri_life.specs.Life.{Outstanding}
use Rattle.siri_life.specs.Slot.{Slot, sent_of, next_if, acknowledgement_if, acknowledgement_of, supply_if, supply_of}
use Rattle.siri_life.specs.Slot.{is_message_due}
use Rattle.siri_subs.specs.declared.entry.Row.{Row}
use Rattle.siri_model.specs.Rows.{KeptLife, asked_of, looked, sent_if_due}
use Rattle.siri_model.specs.Direct.{at_most, direct_to, most_of, shown}
use Rattle.siri_model.specs.Followed.{goal_by, goal_of, keys_apart, opens, look_at}
use Rattle.siri_model.specs.Facts.{GoalStays, StepFollows, LookFollows, FactsSuffice, DirectStays}
use Rattle.siri_model.proofs.Lawful.{direct_in_order, shown_in_order, unlimited}
use Rattle.siri_model.proofs.Outside.{same_by_key}

abbrev Rounds : Type 0
Rounds = Slot Items Carried

-- ---- the view that a consumer is led to

ack_next : (last : Bool) (s : Rounds) (o : Outstanding Items Carried) (now : ℕ)
    → goal_of (next_if last s o now) ≡ o.round.target
ack_next true s o now = refl
ack_next false s o now = refl

ack_if : (wanted : Bool) (s : Rounds) (o : Outstanding Items Carried) (now : ℕ) → s.outstanding ≡ Some o
    → goal_of (acknowledgement_if wanted s o now) ≡ o.round.target
ack_if true s o now is = ack_next (nat_lt (suc o.acknowledged_parts) (length o.round.parts)) s o now
ack_if false s o now is = ap (goal_by s.acknowledged) is

ack_goal : (s : Rounds) (o : Option (Outstanding Items Carried)) → s.outstanding ≡ o → (round part now : ℕ)
    → goal_of (acknowledgement_of s o round part now) ≡ goal_by s.acknowledged o
ack_goal s None is round part now = ap (goal_by s.acknowledged) is
ack_goal s (Some o) is round part now = ack_if (round == s.rounds_opened && part == suc o.acknowledged_parts) s o now is

supplied_if : (wanted : Bool) (s : Rounds) (o : Outstanding Items Carried) (now : ℕ) → s.outstanding ≡ Some o
    → goal_of (supply_if wanted s o now) ≡ o.round.target
supplied_if true s o now is = refl
supplied_if false s o now is = ap (goal_by s.acknowledged) is

supplied_goal : (s : Rounds) (o : Option (Outstanding Items Carried)) → s.outstanding ≡ o → (round part now : ℕ)
    → goal_of (supply_of s o round part now) ≡ goal_by s.acknowledged o
supplied_goal s None is round part now = ap (goal_by s.acknowledged) is
supplied_goal s (Some o) is round part now = supplied_if (s.fetched && (round == s.rounds_opened && part == suc o.acknowledged_parts)) s o now is

pub goal_stays : GoalStays
goal_stays s round part now = (ack_goal s s.outstanding refl round part now, supplied_goal s s.outstanding refl round part now)

sent_goal : (s : Rounds) (o : Option (Outstanding Items Carried)) → s.outstanding ≡ o → (now : ℕ)
    → goal_of (sent_of s o now) ≡ goal_by s.acknowledged o
sent_goal s None is now = ap (goal_by s.acknowledged) is
sent_goal s (Some o) is now = refl

due_case : (b : Bool) (s : Rounds) (now : ℕ) → is_message_due s now ≡ b → goal_of (sent_if_due now s) ≡ goal_of s
due_case true s now h = rw h (sent_goal s s.outstanding refl now)
due_case false s now h = rw h refl

due_goal : (s : Rounds) (now : ℕ) → goal_of (sent_if_due now s) ≡ goal_of s
due_goal s now = due_case (is_message_due s now) s now refl

-- ---- steps

pub step_follows : StepFollows
step_follows slack topic now later held after goal look touched le covers f = record {
  then = f.then;
  ordered = f.ordered;
  keyed = f.keyed;
  earlier = omega (arith, le, f.earlier);
  untouched = λ key out. (covers key out).1 ∙ f.untouched key (covers key out).0;
  agrees = f.agrees;
  differs = f.differs;
}

-- ---- a look

-- a key that isn't kept apart agrees
together_case : (slack : ℤ) (view direct : Items) (q : Key) (a d : Bool) → agree_on (is_near slack) view direct q ≡ a
    → is_among q (keys_of_both view direct) ≡ d → (d && not a) ≡ false → agree_on (is_near slack) view direct q ≡ true
together_case slack view direct q true d h m out = h
together_case slack view direct q false true h m out = absurd (cc out)
together_case slack view direct q false false h m out = let n = none_of_both view direct q m in agree_none (is_near slack) view direct q n.0 n.1

together : (slack : ℤ) (view direct : Items) (q : Key) → is_among q (keys_apart slack view direct) ≡ false
    → agree_on (is_near slack) view direct q ≡ true
together slack view direct q out =
    together_case slack view direct q (agree_on (is_near slack) view direct q) (is_among q (keys_of_both view direct)) refl refl
    (sym (among_passing (λ key. not (agree_on (is_near slack) view direct key)) q (keys_of_both view direct)) ∙ out)

-- a key that is kept apart doesn't
apart_case : (d a : Bool) → (d && not a) ≡ true → a ≡ false
apart_case true true h = absurd (cc h)
apart_case true false h = refl
apart_case false a h = absurd (cc h)

apart_differs : (slack : ℤ) (view direct : Items) (q : Key) → is_among q (keys_apart slack view direct) ≡ true
    → agree_on (is_near slack) view direct q ≡ false
apart_differs slack view direct q on =
    apart_case (is_among q (keys_of_both view direct)) (agree_on (is_near slack) view direct q)
    (sym (among_passing (λ key. not (agree_on (is_near slack) view direct key)) q (keys_of_both view direct)) ∙ on)

target_agrees : (slack : ℤ) (incremental : Bool) (view direct : Items) (q : Key)
    → agree_on (is_near slack) (target slack incremental view direct) direct q ≡ true
target_agrees slack incremental view direct q =
    agree_case (is_near slack) (target slack incremental view direct) direct q (is_among q (keys_of_both (target slack incremental view direct) direct)) refl
    (target_meets slack incremental view direct)

-- the view that the consumer is led to once a round has opened, where one opens
looked_case : (b : Bool) (now : ℕ) (held : Items) (row : Row KeptLife) → opens (direct_to now held row.wanted.topic) row ≡ b
    → row.slot.rounds.outstanding ≡ None
    → (q : Key) → is_among q (look_at now held row).apart ≡ false
    → agree_on (is_near row.wanted.slack) (goal_of (looked (asked_of row) (direct_to now held row.wanted.topic) now row.slot.rounds)) (direct_to now held row.wanted.topic) q ≡ true
looked_case true now held row h level q out = rw h (target_agrees row.wanted.slack row.wanted.incremental row.slot.rounds.acknowledged (direct_to now held row.wanted.topic) q)
looked_case false now held row h level q out =
    let direct = direct_to now held row.wanted.topic in
    let apart : is_among q (keys_apart row.wanted.slack row.slot.rounds.acknowledged direct) ≡ false
    = sym (ap (λ b. is_among q (cond b [] (keys_apart row.wanted.slack row.slot.rounds.acknowledged direct))) h) ∙ out in
    let goal : goal_of (looked (asked_of row) direct now row.slot.rounds) ≡ row.slot.rounds.acknowledged = rw h (ap (goal_by row.slot.rounds.acknowledged) level) in
    ap (λ (view : Items). agree_on (is_near row.wanted.slack) view direct q) goal ∙ together row.wanted.slack row.slot.rounds.acknowledged direct q apart

differs_case : (b : Bool) (now : ℕ) (held : Items) (row : Row KeptLife) → opens (direct_to now held row.wanted.topic) row ≡ b
    → row.slot.rounds.outstanding ≡ None
    → (q : Key) → is_among q (look_at now held row).apart ≡ true
    → agree_on (is_near row.wanted.slack) (goal_of (looked (asked_of row) (direct_to now held row.wanted.topic) now row.slot.rounds)) (direct_to now held row.wanted.topic) q ≡ false
differs_case true now held row h level q on =
    let direct = direct_to now held row.wanted.topic in
    absurd (cc (sym (ap (λ b. is_among q (cond b [] (keys_apart row.wanted.slack row.slot.rounds.acknowledged direct))) h) ∙ on))
differs_case false now held row h level q on =
    let direct = direct_to now held row.wanted.topic in
    let apart : is_among q (keys_apart row.wanted.slack row.slot.rounds.acknowledged direct) ≡ true
    = sym (ap (λ b. is_among q (cond b [] (keys_apart row.wanted.slack row.slot.rounds.acknowledged direct))) h) ∙ on in
    let goal : goal_of (looked (asked_of row) direct now row.slot.rounds) ≡ row.slot.rounds.acknowledged = rw h (ap (goal_by row.slot.rounds.acknowledged) level) in
    ap (λ (view : Items). agree_on (is_near row.wanted.slack) view direct q) goal ∙ apart_differs row.wanted.slack row.slot.rounds.acknowledged direct q apart

pub look_follows : LookFollows
look_follows now held row s own level = record {
  then = held;
  ordered = s;
  keyed = own;
  earlier = omega arith;
  untouched = λ key out. refl;
  agrees = λ key out.
      ap (λ (view : Items). agree_on (is_near row.wanted.slack) view (direct_to now held row.wanted.topic) key)
      (due_goal (looked (asked_of row) (direct_to now held row.wanted.topic) now row.slot.rounds) now)
      ∙ looked_case (opens (direct_to now held row.wanted.topic) row) now held row refl level key out;
  differs = λ key on.
      ap (λ (view : Items). agree_on (is_near row.wanted.slack) view (direct_to now held row.wanted.topic) key)
      (due_goal (looked (asked_of row) (direct_to now held row.wanted.topic) now row.slot.rounds) now)
      ∙ differs_case (opens (direct_to now held row.wanted.topic) row) now held row refl level key on;
}

-- ---- the keys that a look needs

pub facts_suffice : FactsSuffice
facts_suffice slack topic now held goal look keys none s own r t f outs =
    looks_by_keys slack goal (direct_to now held topic) keys r (direct_in_order now held topic s) t
    (λ key out. let o = outs key out in
    ap (option_eq (is_near slack) (item_of goal key))
    (ap (λ items. item_of items key) (unlimited now held topic none)
    ∙ (same_by_key topic look.moment now f.then held key f.ordered f.keyed s own f.earlier
    (λ may. let is = o.as_then may in (f.untouched key is.untouched, is.uncrossed))
    ∙ ap (λ items. item_of items key) (sym (unlimited look.moment f.then topic none))))
    ∙ f.agrees key o.together)

pub direct_stays : DirectStays
direct_stays slack topic now held goal look s own f as_then =
    ap (at_most (most_of topic))
    (same_views (shown now held topic) (shown look.moment f.then topic)
    (shown_in_order now held topic s) (shown_in_order look.moment f.then topic f.ordered)
    (λ key. same_by_key topic look.moment now f.then held key f.ordered f.keyed s own f.earlier
    (λ may. let is = as_then key may in (f.untouched key is.untouched, is.uncrossed))))
