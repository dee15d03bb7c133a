-- How far a feed came.
use Rattle.std.proofs.Common.{◌≡◌, ℕ, suc, zero, ◌+◌, ◌<◌, length, get_or, drop, add-one, arith, List, [], ◌∷◌, ◌++◌, flat_map, map, Result}
use Rattle.std.proofs.Common.{Ok, Err, Bool, true, false, refl, sym, ap, ◌∙◌, append_assoc}
use Rattle.std.specs.Prelude.{OnErr}
use Rattle.std.specs.BTreeSet.{insert_key}
use Rattle.std.proofs.lemmas.List.Sums.{fold-append}
use Rattle.std.proofs.lemmas.List.Concat.{flat_map-append}
use Rattle.siri_records.specs.declared.item.Item.{Item}
use Rattle.siri_records.specs.declared.key.Key.{Key}
use Rattle.siri_records.specs.Ends.{is_dead}
use Rattle.siri_records.specs.KeyLists.{with_keys}
use Rattle.siri_records.specs.Order.{key_cmp}
use Rattle.siri_store.specs.Marked.{Marked, keys_since}
use Rattle.siri_messages.specs.declared.deliveries.FunctionalDelivery.{FunctionalDelivery}
use Rattle.siri_model.specs.History.{Entry, Observed, Withdrawn, entries_in}
use Rattle.siri_model.specs.Last.{entry_key}
use Rattle.siri_store.specs.Calls.{refuses}
use Rattle.siri_responder.specs.declared.feeding.Feeding.{Feeding}
use Rattle.siri_responder.specs.Feeding.{Filling, filling, after, after_all, AreMarked, TakesEntries, Reaches, ReachesSome}

-- ---- marks

-- keys, each under a number
keys_more : (es fs : List Entry) → map entry_key (es ++ fs) ≡ map entry_key es ++ map entry_key fs
keys_more [] fs = refl
keys_more (e ∷ es) fs = ap (λ l. entry_key e ∷ l) (keys_more es fs)

pub marked_none : (a : Marked) → AreMarked a a []
marked_none a = record { number = refl; touched = λ n le. refl }

-- one key after others
pub marked_more : (a b c : Marked) (front next : List Key) → AreMarked a b front → AreMarked b c next → AreMarked a c (front ++ next)
marked_more a b c front next first later = record {
  number = later.number ∙ first.number;
  touched = λ n le. later.touched n (omega (arith, le, first.number))
      ∙ ap (λ ks. with_keys ks next) (first.touched n le)
      ∙ sym (fold-append (insert_key key_cmp) (keys_since a.log n) front next);
}

-- ---- entries that were taken

pub takes_none : (a b : Feeding) → b ≡ a → TakesEntries a b []
takes_none a b is = record { stands = ap filling is; marked = rw is (marked_none a.marks) }

pub takes_more : (a b c : Feeding) (front next : List Entry) → TakesEntries a b front → TakesEntries b c next → TakesEntries a c (front ++ next)
takes_more a b c front next first later = record {
  stands = later.stands ∙ ap (λ f. after_all f next) first.stands ∙ sym (fold-append after (filling a) front next);
  marked = rw (keys_more front next)
      (marked_more a.marks b.marks c.marks (map entry_key front) (map entry_key next) first.marked later.marked);
}

pub reached_none : (f : Feeding) (entries : List Entry) → Reaches f f entries entries
reached_none f entries = record { taken = []; apart = refl; takes = takes_none f f refl }

-- some of those that were left were taken as well
pub reached_more : (a b c : Feeding) (entries front left : List Entry) → Reaches a b entries (front ++ left) → TakesEntries b c front → Reaches a c entries left
reached_more a b c entries front left r is = record {
  taken = r.taken ++ front;
  apart = r.apart ∙ sym (append_assoc r.taken front left);
  takes = takes_more a b c r.taken front r.takes is;
}

-- none of them was
pub reached_no_more : (a b c : Feeding) (entries left : List Entry) → Reaches a b entries left → TakesEntries b c [] → ReachesSome a c entries
reached_no_more a b c entries left r is = (left, reached_more a b c entries [] left r is)

-- it came no further within those that were left
pub reached_some : (a b c : Feeding) (entries front left : List Entry) → Reaches a b entries (front ++ left) → ReachesSome b c front → ReachesSome a c entries
reached_some a b c entries front left r some =
    let part = some.1 in
    (some.0 ++ left, reached_more a b c entries part.taken (some.0 ++ left) (rw (part.apart, append_assoc) at r) part.takes)

-- one call came no further within the front of all entries
pub front_some : (a b : Feeding) (front left : List Entry) → ReachesSome a b front → ReachesSome a b (front ++ left)
front_some a b front left some = reached_some a a b (front ++ left) front left (reached_none a (front ++ left)) some

-- the call after it did
pub later_some : (a b c : Feeding) (front next : List Entry) → TakesEntries a b front → ReachesSome b c next → ReachesSome a c (front ++ next)
later_some a b c front next is some =
    let r = some.1 in (
      some.0,
      record {
        taken = front ++ r.taken;
        apart = ap (λ l. front ++ l) r.apart ∙ sym (append_assoc front r.taken some.0);
        takes = takes_more a b c front r.taken is r.takes;
      },
    )

-- ---- the same of deliveries

pub deliveries_front : (a b : Feeding) (ds es : List FunctionalDelivery) → ReachesSome a b (flat_map entries_in ds)
    → ReachesSome a b (flat_map entries_in (ds ++ es))
deliveries_front a b ds es some = rw (flat_map-append entries_in ds es) (front_some a b (flat_map entries_in ds) (flat_map entries_in es) some)

pub deliveries_later : (a b c : Feeding) (ds es : List FunctionalDelivery) → TakesEntries a b (flat_map entries_in ds)
    → ReachesSome b c (flat_map entries_in es) → ReachesSome a c (flat_map entries_in (ds ++ es))
deliveries_later a b c ds es is some = rw (flat_map-append entries_in ds es) (later_some a b c (flat_map entries_in ds) (flat_map entries_in es) is some)

pub deliveries_both : (a b c : Feeding) (ds es : List FunctionalDelivery) → TakesEntries a b (flat_map entries_in ds)
    → TakesEntries b c (flat_map entries_in es) → TakesEntries a c (flat_map entries_in (ds ++ es))
deliveries_both a b c ds es first later =
    rw (flat_map-append entries_in ds es) (takes_more a b c (flat_map entries_in ds) (flat_map entries_in es) first later)

-- ---- an element of a list that is gone over

dropped : {A : Type 0} (xs : List A) (i : ℕ) (x : A) → i < length xs → x ≡ get_or xs i x → drop i xs ≡ x ∷ drop (suc i) xs
dropped [] i x lt is = absurd (omega (arith, lt))
dropped (y ∷ xs) zero x lt is = ap (λ z. z ∷ xs) (sym is)
dropped (y ∷ xs) (suc i) x lt is = dropped xs i x (omega (arith, lt)) is

pub drop_here : {A : Type 0} (xs : List A) (i : ℕ) (x : A) → i < length xs → x ≡ get_or xs i x → drop i xs ≡ x ∷ drop (i + 1) xs
drop_here xs i x lt is = rw add-one (dropped xs i x lt is)

-- ---- no entry counts a step

reads_observed : (f : Filling) (item : Item) (refused dead : Bool) → refuses f.store item ≡ refused
    → is_dead item f.store.moment ≡ dead → (after f (Observed item)).store.reads ≡ f.store.reads
reads_observed f item true dead r d = rw r refl
reads_observed f item false true r d = rw (r, d) refl
reads_observed f item false false r d = rw (r, d) refl

reads_entry : (f : Filling) (e : Entry) → (after f e).store.reads ≡ f.store.reads
reads_entry f (Observed item) = reads_observed f item (refuses f.store item) (is_dead item f.store.moment) refl refl
reads_entry f (Withdrawn key) = refl

reads_all : (f : Filling) (entries : List Entry) → (after_all f entries).store.reads ≡ f.store.reads
reads_all f [] = refl
reads_all f (e ∷ entries) = reads_all (after f e) entries ∙ reads_entry f e

pub kept_all : (a b : Feeding) (entries : List Entry) → TakesEntries a b entries → b.store.reads ≡ a.store.reads
kept_all a b entries takes = ap (λ (f : Filling). f.store.reads) takes.stands ∙ reads_all (filling a) entries

pub kept_some : (a b : Feeding) (entries : List Entry) → ReachesSome a b entries → b.store.reads ≡ a.store.reads
kept_some a b entries some = kept_all a b some.1.taken some.1.takes

-- ---- what holds after want of memory

pub on_err : {A E P : Type 0} (r : Result A E) → P → OnErr r P
on_err (Ok value) p = tt
on_err (Err error) p = p
