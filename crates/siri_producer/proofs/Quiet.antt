-- What is told of a subscription is whether its life is quiet.
use Rattle.std.proofs.Common.{◌≡◌, ℕ, List, [], ◌∷◌, Bool, true, false, cond, not, ◌&&◌, Option, None, Some, slice_get, refl, sym, ap, ◌∙◌, subst}
use Rattle.std.specs.Prelude.{if◌then◌else◌, ◌==◌, find, option_map}
use Rattle.std.proofs.lemmas.List.Elements.{All-head, All-tail}
use Rattle.siri_records.specs.Keyed.{Items, KeyChange}
use Rattle.siri_change.specs.Changes as change
use Rattle.siri_change.specs.Parts.{Carried}
use Rattle.siri_life.specs.Life as life
use Rattle.siri_life.specs.Life.{Outstanding}
use Rattle.siri_subs.specs.rounds.Wanted.{outstanding_carried}
use Rattle.siri_subs.specs.declared.entry.Row.{Row}
use Rattle.siri_subs.specs.Table.{is_of}
use Rattle.siri_model.specs.Direct.{direct_to}
use Rattle.siri_model.specs.History.{History, now_of, current}
use Rattle.siri_model.specs.Lives.{Living, life_of, number_if_quiet, quiet_number}
use Rattle.siri_model.specs.Meaning.{direct_of, meaning}
use Rattle.siri_model.specs.Rows.{KeptLife, row_of}
use Rattle.siri_model.proofs.Histories.{row_of_life}
use Rattle.siri_model.proofs.Lawful.{direct_live}
use Rattle.siri_subscriptions.specs.declared.course.Course.{Course}
use Rattle.siri_subscriptions.specs.Courses.{kept_row, KnowsLevel, KnowLevels}
use Rattle.siri_responder.specs.Known as responder
use Rattle.siri_subscriptions.proofs.Kept.{found_kept, found_at}
use Rattle.siri_subs.proofs.Placed.{found, find_none, none_found}
use Rattle.siri_subs.specs.Table.{place_of}
use Rattle.siri_producer.specs.Known.{Known, StandsFor}
use Rattle.siri_producer.specs.Quiet.{is_quiet, told}
use Rattle.siri_producer.specs.Standing.{IsProducer, known_of}

-- ---- the row that is found

found_level : (now : ℕ) (items : Items) (c s : List ℕ) (rows : List (Row Course)) (row : Row Course)
    → KnowLevels now items rows → find (is_of c s) rows ≡ Some row → KnowsLevel now items row
found_level now items c s [] row levels e = absurd (cc)
found_level now items c s (r ∷ rows) row levels e = by (is_of c s r) e (found_level now items c s rows row (All-tail (KnowsLevel now items) r rows levels))
  where
    by : (b : Bool) → cond b (Some r) (find (is_of c s) rows) ≡ Some row
        → (find (is_of c s) rows ≡ Some row → KnowsLevel now items row) → KnowsLevel now items row
    by true e later =
        let same : r ≡ row = cc in
        subst (KnowsLevel now items) same (All-head (KnowsLevel now items) r rows levels)
    by false e later = later e

-- ---- one row

-- a row is quiet by the current items at a moment
abbrev quiet_at : ℕ → Items → Row KeptLife → Option (Outstanding Items Carried) → Bool
quiet_at now items row (Some o) = false
quiet_at now items row None = not (row.slot.rounds.rounds_opened == 0)
    && change.meets row.wanted.slack row.slot.rounds.acknowledged (direct_to now items row.wanted.topic)

abbrev row_quiet : ℕ → Items → Row KeptLife → Bool
row_quiet now items row = quiet_at now items row row.slot.rounds.outstanding

row_of_quiet : (now : ℕ) (items : Items) (l : Living) → row_quiet now items (row_of l) ≡ life.is_quiet meaning l (direct_to now items l.wanted.subscription.topic)
row_of_quiet now items l = by l.outstanding
  where
    by : (o : Option (Outstanding Items Carried)) → quiet_at now items (row_of l) o ≡ life.quiet_at meaning o l (direct_to now items l.wanted.subscription.topic)
    by None = refl
    by (Some o) = refl

kept_quiet : (now : ℕ) (items : Items) (row : Row Course) → KnowsLevel now items row → row_quiet now items (kept_row row) ≡ is_quiet row.slot
kept_quiet now items row level = by row.slot.rounds.outstanding refl
  where
    by : (o : Option (Outstanding Items (List KeyChange))) → row.slot.rounds.outstanding ≡ o
        → quiet_at now items (kept_row row) (option_map outstanding_carried row.slot.rounds.outstanding) ≡ is_quiet
        row.slot
    by None e = rw (e, level e) refl
    by (Some o) e = rw e refl

-- ---- what is told

told_found : (now : ℕ) (items : Items) (h : History) (found : Option (Row Course)) (living : Option Living)
    → now ≡ now_of h → ((l : Living) → direct_to now items l.wanted.subscription.topic ≡ direct_of h l.wanted)
    → option_map kept_row found ≡ option_map row_of living
    → ((row : Row Course) → found ≡ Some row → KnowsLevel now items row) → told found ≡ number_if_quiet h living
told_found now items h None None n shows e levels = refl
told_found now items h None (Some l) n shows e levels = absurd (cc)
told_found now items h (Some row) None n shows e levels = absurd (cc)
told_found now items h (Some row) (Some l) n shows e levels =
    let same : kept_row row ≡ row_of l = cc in
    let quiet = sym (kept_quiet now items row (levels row refl)) ∙ ap (row_quiet now items) same
    ∙ row_of_quiet now items l ∙ ap (life.is_quiet meaning l) (shows l) in
    λ i. if quiet i then Some ((ap (λ (r : Row KeptLife). r.number) same) i) else None

pub told_is_quiet : (known : responder.Known) (rows : List (Row Course)) (h : History) (c s : List ℕ)
    → StandsFor (known_of known rows true) h → KnowLevels known.moment known.held rows
    → told (find (is_of c s) rows) ≡ quiet_number h c s
told_is_quiet known rows h c s stands levels =
    let knows = stands.responder in
    let shows : (l : Living) → direct_to known.moment known.held l.wanted.subscription.topic ≡ direct_of h l.wanted = λ l.
    (λ i. direct_to (knows.moment i) (knows.held i) l.wanted.subscription.topic) ∙ direct_live (now_of h) (current h) l.wanted.subscription.topic in
    let same = sym (found_kept c s rows) ∙ ap (find (is_of c s)) stands.table ∙ row_of_life h c s in
    told_found known.moment known.held h (find (is_of c s) rows) (life_of c s h) knows.moment shows same
    (λ row e. found_level known.moment known.held c s rows row levels e)
    ∙ rw (sym stands.settled) refl

-- ---- by the place at which a subscription is held

pub found_nowhere : (c s : List ℕ) (rows : List (Row Course)) → place_of c s rows ≡ None → find (is_of c s) rows ≡ None
found_nowhere c s rows none = find_none (is_of c s) rows (none_found (is_of c s) rows none)

pub found_there : (c s : List ℕ) (rows : List (Row Course)) (place : ℕ) → place_of c s rows ≡ Some place → find (is_of c s) rows ≡ slice_get rows place
found_there c s rows place is = found_at c s rows place (found (is_of c s) rows place is)

-- ---- what is told, of a producer as it is kept

pub told_row : (row : Row Course) (b : Bool) → is_quiet row.slot ≡ b → told (Some row) ≡ cond b (Some row.number) None
told_row row b is = rw is refl

pub quiet_told : (known : responder.Known) (rows : List (Row Course)) (settled : Bool) (now : Known) (h : History)
    (c s : List ℕ) → IsProducer known rows settled → known_of known rows settled ≡ now → settled ≡ true
    → StandsFor now h → told (find (is_of c s) rows) ≡ quiet_number h c s
quiet_told known rows settled now h c s is view true_now stands =
    let here = subst (λ (k : Known). StandsFor k h) (sym view) stands in
    told_is_quiet known rows h c s (subst (λ b. StandsFor (known_of known rows b) h) true_now here) (is.levels true_now)
