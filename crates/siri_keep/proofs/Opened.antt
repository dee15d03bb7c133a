-- What is kept once a producer was opened: its moment and its subscriptions are written, over rows of items that stay.
use Rattle.std.proofs.Common.{◌≡◌, ◌≢◌, ◌≤◌, ◌<◌, ℕ, List, [], ◌∷◌, length, map, None, Some, sym, ap, ◌∙◌, subst, arith}
use Rattle.std.specs.Prelude.{IsSome}
use Rattle.std.specs.List.{AllByRecursion as All}
use Rattle.std.proofs.lemmas.List.{length-map}
use Rattle.siri_records.specs.Keyed.{InOrder, Items}
use Rattle.siri_tables.specs.Proper.{IsNumber}
use Rattle.siri_model.specs.Held.{Held, held_of}
use Rattle.siri_model.specs.History.{History}
use Rattle.siri_producer.specs.Known.{Known, StandsFor}
use Rattle.siri_outside.specs.Rows.{Rows, text_at, with_puts}
use Rattle.siri_row_texts.specs.ItemRows.{moment_row}
use Rattle.siri_row_texts.specs.Reading.{began_of_row}
use Rattle.siri_keeping.specs.Keeping.{Covers, HasItems, moment_put, places_to, subscription_puts, most_rows}
use Rattle.siri_keeping.specs.Keeps.{IsProperStep, KeepsThese}
use Rattle.siri_keeping.proofs.WrittenWhole.{HasOnly, moment_alone, moment_elsewhere, moment_there, subscriptions_elsewhere, written_over}
use Rattle.siri_keep.specs.declared.reopening.ReopenedProducer.{ReopenedProducer}
use Rattle.siri_keep.specs.Calls.{IsBegun}
use Rattle.siri_keep.specs.Planning.{Begins, Opens}
use Rattle.siri_keep.proofs.Alls.{all_weaker}
use Rattle.siri_keep.proofs.Fed.{ReadsItem}
use Rattle.siri_keep.proofs.Messages.{Reads}
use Rattle.siri_subs.specs.Table.{most_subscriptions}

-- rows over which a producer can be opened that keeps these items, with requests at these places
pub record Fits (rows : Rows) (kept : Items) (places : List (List ℕ)) : Type 0 where
  pub one_moment : (key : List ℕ) → IsSome (text_at rows 0 key) → key ≡ []
  pub ordered : InOrder kept
  pub few : length kept ≤ most_rows
  pub items : HasItems rows kept
  pub read : All ReadsItem kept
  pub requests : HasOnly rows places 2
  pub renewals : HasOnly rows places 3
  pub no_more : (table : ℕ) (key : List ℕ) → 3 < table → text_at rows table key ≡ None

module _ (name : List ℕ) (moment start : ℕ) (live kept : Items) (places : List (List ℕ)) (helds : List Held) (rows : Rows) where
  abbrev one : Rows
  one = with_puts rows (moment_put moment start name ∷ [])

  abbrev after : Rows
  after = with_puts rows (moment_put moment start name ∷ subscription_puts places helds)

  first : (table : ℕ) (key : List ℕ) → table ≢ 0 → text_at one table key ≡ text_at rows table key
  first table key apart = moment_elsewhere rows moment start name table key apart

  second : (table : ℕ) (key : List ℕ) → table ≢ 2 → table ≢ 3 → text_at after table key ≡ text_at one table key
  second table key two three = subscriptions_elsewhere one places helds table key two three

  both : (table : ℕ) (key : List ℕ) → table ≢ 0 → table ≢ 2 → table ≢ 3 → text_at after table key ≡ text_at rows table key
  both table key zero_ two three = second table key two three ∙ first table key zero_

  pub opened_keeps : Fits rows kept places → Covers moment live kept
      → began_of_row (moment_row moment start name) ≡ Some (record { moment = moment; start = start; name = name })
      → length helds ≤ most_subscriptions → All Reads helds
      → KeepsThese name moment start live kept (places_to (length helds)) helds
      (with_puts rows (moment_put moment start name ∷ subscription_puts places helds))
  opened_keeps fits covers began few read = record {
    moment_is = second 0 [] (λ e. cc) (λ e. cc) ∙ moment_there rows moment start name;
    only_moment = λ key some. moment_alone rows moment start name fits.one_moment key
        (subst IsSome (second 0 key (λ e. cc) (λ e. cc)) some);
    ordered = fits.ordered;
    few = fits.few;
    items = record {
      each = λ k proper. both 1 _ (λ e. cc) (λ e. cc) (λ e. cc) ∙ fits.items.each k proper;
      only = λ key some. fits.items.only key (subst IsSome (both 1 key (λ e. cc) (λ e. cc) (λ e. cc)) some);
    };
    covers = covers;
    subscriptions = written_over one places helds
        (λ key some. fits.requests key (subst IsSome (first 2 key (λ e. cc)) some))
        (λ key some. fits.renewals key (subst IsSome (first 3 key (λ e. cc)) some)) few;
    reads = record {
      began = began;
      keyed = all_weaker ReadsItem _ (λ e is. is.keyed) kept fits.read;
      proper = all_weaker ReadsItem _ (λ e is. is.proper) kept fits.read;
      items = all_weaker ReadsItem _ (λ e is. is.read) kept fits.read;
      based = all_weaker Reads _ (λ s is. is.based) helds read;
      requests = all_weaker Reads _ (λ s is. is.request) helds read;
      renewals = all_weaker Reads _ (λ s is. is.renewal) helds read;
    };
    no_more = λ table key more. both table key (λ e. absurd (omega (arith, more, e))) (λ e. absurd (omega (arith, more, e)))
        (λ e. absurd (omega (arith, more, e))) ∙ fits.no_more table key more;
  }

-- a producer that stands for a history holds what is written of it
pub opens_over : (p : Known) (mirror : Items) (places : List (List ℕ)) (opened : ReopenedProducer) (name : List ℕ) (h : History) (rows : Rows)
    → Begins p mirror places opened → StandsFor p h → p.responder.name ≡ name → All IsProperStep h → Fits rows mirror places
    → Covers p.responder.moment p.responder.held mirror → 1 ≤ p.responder.start → IsNumber p.responder.start
    → All Reads (map held_of p.table) → Opens name h rows opened
opens_over p mirror places opened name h rows begins stands named proper fits covers from_one number read =
    let known = p.responder in
    let helds = map held_of p.table in
    let count : length helds ≡ length p.table = length-map p.table held_of in
    let puts = moment_put known.moment known.start known.name ∷ subscription_puts places helds in
    let few : length helds ≤ most_subscriptions = omega (arith, count, begins.few) in
    let these : KeepsThese known.name known.moment known.start known.held mirror (places_to (length p.table)) helds (with_puts rows puts) =
    subst (λ n. KeepsThese known.name known.moment known.start known.held mirror (places_to n) helds (with_puts rows puts)) count
    (opened_keeps known.name known.moment known.start known.held mirror places helds rows fits covers (begins.read from_one number) few
    read) in
    record {
      name_is = ap (λ (k : Known). k.responder.name) begins.producer_is ∙ named;
      holds = record {
        left = rw (begins.producer_is, begins.mirror_is, begins.places_are, begins.puts) these;
        stands = subst (λ (k : Known). StandsFor k h) (sym begins.producer_is) stands;
        proper = proper;
      };
      is_open = begins.is_open;
    }

-- whatever shelf it is opened over
pub begun_over : (p : Known) (mirror : Items) (places : List (List ℕ)) (opened : ReopenedProducer) (name : List ℕ) → Begins p mirror places opened
    → (h : History) × StandsFor p h → p.responder.name ≡ name → IsBegun name opened.kept
begun_over p mirror places opened name begins some named = record {
  name_is = ap (λ (k : Known). k.responder.name) begins.producer_is ∙ named;
  stands = (some.0, subst (λ (k : Known). StandsFor k some.0) (sym begins.producer_is) some.1);
  is_open = begins.is_open;
}
