-- What a consumer keeps of its subscriptions after a restart, and the requests that it makes, as letters.
use Rattle.std.proofs.Common.{◌≡◌, ℕ, suc, ◌+◌, ◌≤◌, [], ◌∷◌, length, Bool, true, false, cond, Some, refl}
use Rattle.std.proofs.Common.{sym, ap, ◌∙◌, arith}
use Rattle.std.specs.List.{All, AllByRecursion}
use Rattle.std.specs.List.Sorted.{IsStrictlySortedBy}
use Rattle.std.specs.Map.{keys_of}
use Rattle.std.specs.Ordering.{is_eq}
use Rattle.std.specs.declared.cmp.Ordering.TheVariants.{Less}
use Rattle.std.proofs.lemmas.List.Elements.{All-nil, All-cons}
use Rattle.std.proofs.lemmas.Map.Text.{is_eq-slice_cmp}
use Rattle.siri_life.specs.Life.{AllData}
use Rattle.siri_life.specs.Link.{restarted}
use Rattle.siri_life.specs.Named.{Name, same_name}
use Rattle.siri_life.specs.Network.{all_data_letters, kept_at, restarted_from}
use Rattle.siri_life.specs.Serving.{Carries}
use Rattle.siri_life.specs.laws.Restarts.{AreApart, Holds, IsApart, or_kept}
use Rattle.siri_life.proofs.Names.{name_is, name_same}
use Rattle.siri_model.specs.Meaning.{meaning}
use Rattle.siri_view.specs.Consuming.{Consuming, all_data_from}
use Rattle.siri_view.specs.Kept as view
use Rattle.siri_view.specs.Kept.{HeldSubscription, Holdings, kept_of, name_cmp}
use Rattle.siri_view.specs.Sending.{all_data_request}
use Rattle.siri_world_model.specs.Packets.{packets_from}
use Rattle.siri_world_model.specs.laws.Letters.{letter_to_producer, letters_of, of_one}
use Rattle.siri_world_model.specs.laws.Networks.{WorldNetwork}
use Rattle.siri_world_model.proofs.Well.{IsOfConsumer}

-- ---- identifiers in order are apart, and each is found

-- names that differ one way differ the other
turned : (a b : Name) → same_name a b ≡ false → same_name b a ≡ false
turned a b apart = by (same_name b a) refl
  where
    by : (t : Bool) → same_name b a ≡ t → t ≡ false
    by false is = refl
    by true is = sym (name_same a b (sym (name_is b a is))) ∙ apart

apart_below : (i : Name) (held : Holdings) → AllByRecursion (λ other. name_cmp i other ≡ Less) (keys_of held)
    → IsApart meaning i held
apart_below i [] below = tt
apart_below i (kept ∷ held) below = (sym (is_eq-slice_cmp i kept.0) ∙ ap is_eq below.0, apart_below i held below.1)

pub apart_ordered : (held : Holdings) → IsStrictlySortedBy name_cmp (keys_of held) → AreApart meaning held
unfolding IsStrictlySortedBy
apart_ordered [] ordered = tt
apart_ordered (kept ∷ held) ordered = (apart_below kept.0 held ordered.0, apart_ordered held ordered.1)

-- each of some is found among all
abbrev FindsEach : (all some : Holdings) → Type 0
FindsEach all [] = Unit {0}
FindsEach all (kept ∷ some) = (kept_of kept.0 all ≡ Some kept.1) × FindsEach all some

found_later : (first : Name × HeldSubscription) (all some : Holdings) → IsApart meaning first.0 some → FindsEach all some
    → FindsEach (first ∷ all) some
found_later first all [] apart finds = tt
found_later first all (kept ∷ some) apart finds = (
  ap (λ b. cond b (Some first.1) (kept_of kept.0 all))
      (is_eq-slice_cmp kept.0 first.0 ∙ turned first.0 kept.0 apart.0) ∙ finds.0,
  found_later first all some apart.1 finds.1,
)

found_each : (held : Holdings) → AreApart meaning held → FindsEach held held
found_each [] apart = tt
found_each (kept ∷ held) apart = (
  ap (λ b. cond b (Some kept.1) (kept_of kept.0 held)) (is_eq-slice_cmp kept.0 kept.0 ∙ name_same kept.0 kept.0 refl),
  found_later kept held held apart.0 (found_each held apart.1),
)

holds_some : (n : WorldNetwork) (name : Name) (all some : Holdings) → ((i : Name) → n.holdings name i ≡ kept_of i all)
    → FindsEach all some → Holds meaning n name some
holds_some n name all [] own finds = tt
holds_some n name all (kept ∷ some) own finds = (own kept.0 ∙ finds.0, holds_some n name all some own finds.1)

-- so a consumer of a network holds each
pub holds_all : (n : WorldNetwork) (name : Name) (held : Holdings) → ((i : Name) → n.holdings name i ≡ kept_of i held)
    → AreApart meaning held → Holds meaning n name held
holds_all n name held own apart = holds_some n name held held own (found_each held apart)

-- ---- what is kept

-- the words are those of the network
restarted_same : (number : ℕ) (held : Holdings)
    → restarted_from meaning number held ≡ restarted_from view.meaning number held
restarted_same number [] = refl
restarted_same number (kept ∷ held) =
    ap (λ l. (kept.0, restarted view.meaning number kept.1) ∷ l) (restarted_same (suc number) held)

kept_at_is : (i : Name) (held : Holdings) → kept_at meaning i held ≡ kept_of i held
kept_at_is i [] = refl
kept_at_is i (kept ∷ held) = λ j. cond (sym (is_eq-slice_cmp i kept.0) j) (Some kept.1) (kept_at_is i held j)

-- the identifiers stay
pub keys_restarted : (number : ℕ) (held : Holdings) → keys_of (restarted_from view.meaning number held) ≡ keys_of held
keys_restarted number [] = refl
keys_restarted number (kept ∷ held) = ap (λ l. kept.0 ∷ l) (keys_restarted (suc number) held)

or_restarted : (i : Name) (number : ℕ) (held : Holdings)
    → or_kept meaning (kept_of i (restarted_from view.meaning number held)) (kept_of i held)
    ≡ kept_of i (restarted_from view.meaning number held)
or_restarted i number [] = refl
or_restarted i number (kept ∷ held) = by (is_eq (name_cmp i kept.0)) (or_restarted i (suc number) held)
  where
    by : (b : Bool)
        → or_kept meaning (kept_of i (restarted_from view.meaning (suc number) held)) (kept_of i held)
        ≡ kept_of i (restarted_from view.meaning (suc number) held)
        → or_kept meaning
        (cond b (Some (restarted view.meaning number kept.1))
        (kept_of i (restarted_from view.meaning (suc number) held)))
        (cond b (Some kept.1) (kept_of i held))
        ≡ cond b (Some (restarted view.meaning number kept.1))
        (kept_of i (restarted_from view.meaning (suc number) held))
    by true rest = refl
    by false rest = rest

pub kept_restarted : (i : Name) (number : ℕ) (held : Holdings)
    → or_kept meaning (kept_at meaning i (restarted_from meaning number held)) (kept_of i held)
    ≡ kept_of i (restarted_from view.meaning number held)
kept_restarted i number held =
    ap (λ kept. or_kept meaning kept (kept_of i held))
    (ap (kept_at meaning i) (restarted_same number held) ∙ kept_at_is i (restarted_from view.meaning number held))
    ∙ or_restarted i number held

-- ---- the requests

pub all_data_is : (c : Consuming) (number : ℕ) (held : Holdings)
    → letters_of (packets_from c.name (all_data_from c.name c.moment number held))
    ≡ all_data_letters meaning c.name number held
unfolding letter_to_producer
all_data_is c number [] = refl
all_data_is c number (kept ∷ held) =
    ap (λ letters. of_one c.name kept.0 (Carries (AllData number kept.1.base)) ∷ letters)
    (all_data_is c (suc number) held)

-- a request is one that a consumer makes
one_made : (c : Consuming) (i : Name) (number base : ℕ) → suc number ≤ 1000000000000000000
    → IsOfConsumer c.name (all_data_request c.name c.moment i number base)
unfolding IsOfConsumer
one_made c i number base few = (refl, λ all. omega arith)

pub all_data_made : (c : Consuming) (number : ℕ) (held : Holdings) → number + length held ≤ 1000000000000000000
    → All (IsOfConsumer c.name) (all_data_from c.name c.moment number held)
all_data_made c number [] few = All-nil (IsOfConsumer c.name)
all_data_made c number (kept ∷ held) few =
    All-cons (IsOfConsumer c.name) (all_data_request c.name c.moment kept.0 number kept.1.base)
    (all_data_from c.name c.moment (suc number) held)
    (one_made c kept.0 number kept.1.base (omega (arith, few))) (all_data_made c (suc number) held (omega (arith, few)))
