-- What a store that holds the live items does with the entries of a feed, against what the history says of them.
use Rattle.std.proofs.Common.{◌≡◌, ℕ, ◌+◌, List, [], ◌∷◌, length, fold, Bool, true, false, ◌&&◌, not, nat_le, cond, refl, sym, ap, ◌∙◌}
use Rattle.std.proofs.Common.{arith, zero-add, add-zero}
use Rattle.std.specs.Prelude.{is_some}
use Rattle.std.specs.Map.{lookup}
use Rattle.std.proofs.lemmas.List.Sums.{sum_by-cons}
use Rattle.std.specs.BTreeMap.{insert_entry, is_at}
use Rattle.siri_records.specs.declared.item.Item.{Item}
use Rattle.siri_records.specs.Ends.{is_dead}
use Rattle.siri_records.specs.Keys.{key_of}
use Rattle.siri_records.specs.Order.{key_cmp, key_cmp_total}
use Rattle.siri_records.proofs.Order.{key_cmp_exact}
use Rattle.siri_records.specs.Keyed.{Items, living, InOrder, most_live}
use Rattle.siri_model.specs.History.{Entry, Observed, Withdrawn, is_refused, after_entry}
use Rattle.siri_model.specs.Fed.{Counts, is_observation, refuses as is_refusing, met, counts_of}
use Rattle.siri_store.specs.Calls.{refuses, observed}
use Rattle.siri_responder.specs.Feeding.{Filling, more, after, after_all}
use Rattle.siri_responder.specs.FedCounts.{at_most_greatest, fed_counts}
use Rattle.siri_model.proofs.Entries.{passing_removed, passing_inserted, passing_inserted_failing}
use Rattle.siri_model.proofs.InOrder.{in_order_after}

-- ---- one entry

and_turned : (a b c : Bool) → (a && (b && c)) ≡ (a && (c && b))
and_turned true true true = refl
and_turned true true false = refl
and_turned true false true = refl
and_turned true false false = refl
and_turned false b c = refl

refuses_alike : (now reads : ℕ) (items : Items) (item : Item)
    → refuses (record { entries = living now items; moment = now; reads = reads }) item ≡ is_refused now items item
refuses_alike now reads items item = and_turned (not (is_dead item now)) (nat_le most_live (length (living now items)))
    (not (is_some (lookup (is_at (key_cmp (key_of item))) (living now items))))

more_told : (n : ℕ) → more (at_most_greatest n) ≡ at_most_greatest (n + 1)
more_told n = omega arith

observed_alike_at : (now reads : ℕ) (items : Items) (item : Item) (dead : Bool) → InOrder items
    → is_dead item now ≡ dead → (observed (record { entries = living now items; moment = now; reads = reads })
    item) ≡ record { entries = living now (insert_entry key_cmp items (key_of item) item); moment = now; reads = reads }
observed_alike_at now reads items item true s dead =
    rw dead (ap (λ (l : Items). record { entries = l; moment = now; reads = reads })
    (sym (passing_inserted_failing key_cmp_total (λ (i : Item). not (is_dead i now)) (key_of item) item
    (ap not dead) items s)))
observed_alike_at now reads items item false s alive =
    rw alive (ap (λ (l : Items). record { entries = l; moment = now; reads = reads })
    (sym (passing_inserted key_cmp_total (λ (i : Item). not (is_dead i now)) (key_of item)
    (key_cmp_exact (key_of item)) item (ap not alive) items s)))

observed_alike : (now reads : ℕ) (items : Items) (item : Item) → InOrder items
    → (observed (record { entries = living now items; moment = now; reads = reads }) item) ≡ record {
      entries =
          living now (insert_entry key_cmp items (key_of item) item);
      moment = now;
      reads = reads;
    }
observed_alike now reads items item s = observed_alike_at now reads items item (is_dead item now) s refl

-- ---- counts

abbrev pub none_fed : Counts
none_fed = record { observed = 0; withdrawn = 0; full = 0 }

-- one more entry, which is refused or not
abbrev count_one : Entry → Bool → Counts → Counts
count_one (Observed item) true counts = record counts { full = counts.full + 1 }
count_one (Observed item) false counts = record counts { observed = counts.observed + 1 }
count_one (Withdrawn key) refused counts = record counts { withdrawn = counts.withdrawn + 1 }

abbrev more_counts : Counts → Counts → Counts
more_counts a b = record { observed = a.observed + b.observed; withdrawn = a.withdrawn + b.withdrawn; full = a.full + b.full }

none_more : (counts : Counts) → more_counts none_fed counts ≡ counts
none_more counts = λ i. record { observed = zero-add counts.observed i; withdrawn = zero-add counts.withdrawn i; full = zero-add counts.full i }

more_none : (counts : Counts) → more_counts counts none_fed ≡ counts
more_none counts = λ i. record { observed = add-zero counts.observed i; withdrawn = add-zero counts.withdrawn i; full = add-zero counts.full i }

-- the counts of an entry and of those after it
abbrev counted_first : Entry → Bool → Counts → Counts
counted_first e refused rest = record {
  observed = cond (is_observation e && not refused) 1 0 + rest.observed;
  withdrawn = cond (not (is_observation e)) 1 0 + rest.withdrawn;
  full = cond refused 1 0 + rest.full;
}

counts_first : (now : ℕ) (items : Items) (e : Entry) (entries : List Entry)
    → counts_of now items (e ∷ entries) ≡ counted_first e (is_refusing now items e)
    (counts_of now (after_entry now items e) entries)
counts_first now items e entries =
    let rest = met now (after_entry now items e) entries in
    let first : Entry × Bool = (e, is_refusing now items e) in
    λ i. record {
      observed = sum_by-cons (λ (m : Entry × Bool). cond (is_observation m.0 && not m.1) 1 0) first rest i;
      withdrawn = sum_by-cons (λ (m : Entry × Bool). cond (not (is_observation m.0)) 1 0) first rest i;
      full = sum_by-cons (λ (m : Entry × Bool). cond m.1 1 0) first rest i;
    }

moved : (a b : ℕ) → a + 1 + b ≡ a + (1 + b)
moved a b = omega arith

kept : (a b : ℕ) → a + b ≡ a + (0 + b)
kept a b = omega arith

observed_first : (item : Item) (refused : Bool) (counts rest : Counts)
    → more_counts (count_one (Observed item) refused counts) rest ≡ more_counts counts
    (counted_first (Observed item) refused rest)
observed_first item true counts rest = λ i.
    record {
      observed = kept counts.observed rest.observed i;
      withdrawn = kept counts.withdrawn rest.withdrawn i;
      full = moved counts.full rest.full i;
    }
observed_first item false counts rest = λ i.
    record {
      observed = moved counts.observed rest.observed i;
      withdrawn = kept counts.withdrawn rest.withdrawn i;
      full = kept counts.full rest.full i;
    }

one_first : (now : ℕ) (items : Items) (e : Entry) (counts rest : Counts)
    → more_counts (count_one e (is_refusing now items e) counts) rest ≡ more_counts counts
    (counted_first e (is_refusing now items e) rest)
one_first now items (Observed item) counts rest = observed_first item (is_refused now items item) counts rest
one_first now items (Withdrawn key) counts rest = λ i.
    record {
      observed = kept counts.observed rest.observed i;
      withdrawn = moved counts.withdrawn rest.withdrawn i;
      full = kept counts.full rest.full i;
    }

-- a store with the live items of these, that told so much
abbrev pub fitting : ℕ → ℕ → Items → Counts → Filling
fitting now reads items counts = record { store = record { entries = living now items; moment = now; reads = reads }; fed = fed_counts counts }

observes_alike_at : (now reads : ℕ) (items : Items) (counts : Counts) (item : Item) (refused : Bool) → InOrder items
    → is_refused now items item ≡ refused → after (fitting now reads items counts) (Observed item) ≡ fitting now reads
    (after_entry now items (Observed item)) (count_one (Observed item) (is_refused now items item) counts)
observes_alike_at now reads items counts item true s is =
    rw (refuses_alike now reads items item, is)
    (ap (λ n. record {
      store = record { entries = living now items; moment = now; reads = reads };
      fed = record (fed_counts counts) { full = n };
    }) (more_told counts.full))
observes_alike_at now reads items counts item false s is =
    rw (refuses_alike now reads items item, is)
    (λ i. record {
      store = observed_alike now reads items item s i;
      fed = record (fed_counts counts) { observed = more_told counts.observed i };
    })

entry_alike : (now reads : ℕ) (items : Items) (counts : Counts) (e : Entry) → InOrder items
    → after (fitting now reads items counts) e ≡ fitting now reads (after_entry now items e)
    (count_one e (is_refusing now items e) counts)
entry_alike now reads items counts (Observed item) s = observes_alike_at now reads items counts item (is_refused now items item) s refl
entry_alike now reads items counts (Withdrawn key) s =
    let kept = sym (passing_removed key_cmp_total (λ (x : Item). not (is_dead x now)) key items s) in
    λ i. record {
      store = record { entries = kept i; moment = now; reads = reads };
      fed = record (fed_counts counts) { withdrawn = more_told counts.withdrawn i };
    }

-- ---- all entries

entries_alike : (now reads : ℕ) (items : Items) (counts : Counts) (entries : List Entry) → InOrder items
    → after_all (fitting now reads items counts) entries ≡ fitting now reads (fold (after_entry now) items entries)
    (more_counts counts (counts_of now items entries))
entries_alike now reads items counts [] s = ap (fitting now reads items) (sym (more_none counts))
entries_alike now reads items counts (e ∷ entries) s =
    let one = count_one e (is_refusing now items e) counts in
    let rest = counts_of now (after_entry now items e) entries in
    ap (λ f. after_all f entries) (entry_alike now reads items counts e s)
    ∙ entries_alike now reads (after_entry now items e) one entries (in_order_after now items e s)
    ∙ ap (fitting now reads (fold (after_entry now) (after_entry now items e) entries))
    (one_first now items e counts rest ∙ ap (more_counts counts) (sym (counts_first now items e entries)))

-- a store that told nothing yet
pub all_alike : (now reads : ℕ) (items : Items) (entries : List Entry) → InOrder items
    → after_all (fitting now reads items none_fed) entries ≡ fitting now reads (fold (after_entry now) items entries)
    (counts_of now items entries)
all_alike now reads items entries s =
    entries_alike now reads items none_fed entries s
    ∙ ap (fitting now reads (fold (after_entry now) items entries)) (none_more (counts_of now items entries))
