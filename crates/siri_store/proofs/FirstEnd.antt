-- The first stamp is that of the item that ends first.
use Rattle.std.proofs.Common.{◌≡◌, ℕ, Bool, true, false, cond, ◌||◌, List, [], Option, Some, None, refl, ap, ◌∙◌, sym, subst, arith}
use Rattle.std.specs.Prelude.{nat_eq, nat_lt, option_map, IfSome, IfNone}
use Rattle.std.specs.Borrow.{Bor}
use Rattle.std.specs.Option.{option_cmp}
use Rattle.std.specs.Ordering.{nat_cmp, ordering_then, is_gt}
use Rattle.std.specs.declared.cmp.Ordering.{Ordering}
use Rattle.std.specs.declared.cmp.Ordering.TheVariants.{Less, Equal, Greater}
use Rattle.std.proofs.lemmas.Bool.Decides.{nat_tests}
use Rattle.siri_records.specs.declared.item.Item.{Item}
use Rattle.siri_records.specs.declared.item.Item.TheVariants as item
use Rattle.siri_records.specs.declared.item.Service.TheVariants as service
use Rattle.siri_records.specs.declared.key.Key.{Key}
use Rattle.siri_records.specs.Edges.{edges_of, listed}
use Rattle.siri_records.specs.Services.{is_of}
use Rattle.siri_records.specs.Ends.{end_of}
use Rattle.siri_records.specs.Keyed.{Items, item_of}
use Rattle.siri_records.specs.Order.{key_cmp}
use Rattle.siri_store.specs.Ended.{EndsFirst, NoneHasEnded}
use Rattle.siri_store.specs.Stamped.{Stamp, has_stamp, has, moments_of, moments_held, by_end, by_edge, is_of_ends}
use Rattle.siri_store.proofs.Crossed.{service_moments}
use Rattle.siri_store.specs.Stamped.{AllKeyed, IsFirstEnd, IsFirstOfEnds, NoneEnded, Tied}

itself : (m : ℕ) → nat_eq m m ≡ true
itself m = grind (arith, nat_tests)

equal_numbers : (a b : ℕ) → nat_eq a b ≡ true → a ≡ b
equal_numbers a b h = grind (arith, nat_tests)

or_none : (a : Bool) → (a || false) ≡ true → a ≡ true
or_none true h = refl
or_none false h = absurd (cc h)

-- the order in which the end of an item has its stamp
abbrev end_order : Item → ℕ
end_order (item.Visit v) = by_edge service.Stop
end_order (item.Journey j) = by_end
end_order (item.Vehicle v) = by_end
end_order (item.Situation s) = by_end

of_ends : (i : Item) → is_of_ends (end_order i) ≡ true
of_ends (item.Visit v) = refl
of_ends (item.Journey j) = refl
of_ends (item.Vehicle v) = refl
of_ends (item.Situation s) = refl

-- the end of a held item has a stamp
end_moments : (i : Item) → moments_of (end_order i) i ≡ listed (end_of i)
end_moments (item.Visit v) = refl
end_moments (item.Journey j) = refl
end_moments (item.Vehicle v) = refl
end_moments (item.Situation s) = refl

has_end : (m : ℕ) (end : Option ℕ) → end ≡ Some m → has m (listed end) ≡ true
has_end m end is = ap (λ e. has m (listed e)) is ∙ ap (λ b. b || false) (itself m)

end_stamp : (es : Items) (stamps : List Stamp) (k : Key) (i : Item) (m : ℕ) → Tied es stamps → item_of es k ≡ Some i
    → end_of i ≡ Some m
    → has_stamp stamps (end_order i, m, Some k) ≡ true
end_stamp es stamps k i m tied held is =
    tied (end_order i, m, Some k)
    ∙ (ap (λ h. has m (moments_held (end_order i) h)) held ∙ (ap (has m) (end_moments i) ∙ has_end m (end_of i) is))

-- and a stamp of ends is of the end of a held item
its_end : (m : ℕ) (end : Option ℕ) → has m (listed end) ≡ true → end ≡ Some m
its_end m None h = absurd (cc h)
its_end m (Some e) h = ap Some (sym (equal_numbers m e (or_none (nat_eq m e) h)))

at_end : (i : Item) (m : ℕ) → has m (moments_of by_end i) ≡ true → end_of i ≡ Some m
at_end (item.Visit v) m h = absurd (cc h)
at_end (item.Journey j) m h = its_end m (end_of (item.Journey j)) h
at_end (item.Vehicle v) m h = its_end m (end_of (item.Vehicle v)) h
at_end (item.Situation s) m h = its_end m (end_of (item.Situation s)) h

at_visit : (i : Item) (m : ℕ) → has m (cond (is_of service.Stop i) (edges_of i) []) ≡ true → end_of i ≡ Some m
at_visit (item.Visit v) m h = its_end m (end_of (item.Visit v)) h
at_visit (item.Journey j) m h = absurd (cc h)
at_visit (item.Vehicle v) m h = absurd (cc h)
at_visit (item.Situation s) m h = absurd (cc h)

at_edge : (i : Item) (m : ℕ) → has m (moments_of (by_edge service.Stop) i) ≡ true → end_of i ≡ Some m
at_edge i m h = at_visit i m (sym (ap (has m) (service_moments service.Stop i)) ∙ h)

of_order : (order : ℕ) (i : Item) (m : ℕ) → is_of_ends order ≡ true → has m (moments_of order i) ≡ true → end_of i ≡ Some m
of_order order i m ends at = by (nat_eq order by_end) refl
  where
    by : (b : Bool) → nat_eq order by_end ≡ b → end_of i ≡ Some m
    by true h = at_end i m (subst (λ o. has m (moments_of o i) ≡ true) (equal_numbers order by_end h) at)
    by false h =
        at_edge i m (subst (λ o. has m (moments_of o i) ≡ true)
        (equal_numbers order (by_edge service.Stop) (ap (λ b. b || nat_eq order (by_edge service.Stop)) (sym h) ∙ ends)) at)

record Ending (es : Items) (k : Key) (m : ℕ) : Type 0 where
  item : Item
  held : item_of es k ≡ Some item
  ends : end_of item ≡ Some m

ending : (es : Items) (k : Key) (order m : ℕ) (h : Option Item) → is_of_ends order ≡ true → item_of es k ≡ h
    → has m (moments_held order h) ≡ true → Ending es k m
ending es k order m None ends is at = absurd (cc at)
ending es k order m (Some i) ends is at = record { item = i; held = is; ends = of_order order i m ends at }

pub none_ended : (now : ℕ) (es : Items) (stamps : List Stamp) → Tied es stamps → NoneEnded now stamps
    → NoneHasEnded now es
none_ended now es stamps tied none k i m held is =
    none (end_order i, m, Some k) (end_stamp es stamps k i m tied held is) (of_ends i)

pub ends_first : (now : ℕ) (es : Items) (stamps : List Stamp) (key : Key) → Tied es stamps → IsFirstEnd now stamps key
    → EndsFirst now es key
ends_first now es stamps key tied first =
    let stamp : Stamp = (first.order, first.end, Some key) in
    let own = ending es key first.order first.end (item_of es key) first.first.of_ends refl
    (sym (tied stamp) ∙ first.first.held) in
    record {
      item = own.item;
      held = own.held;
      end = first.end;
      its_end = own.ends;
      ended = first.ended;
      first = λ k i m held is.
          first.first.least (end_order i, m, Some k) (end_stamp es stamps k i m tied held is) (of_ends i);
    }

-- ---- by the first stamp of ends

greater : (a b : ℕ) (o : Ordering) (lt eq : Bool) → nat_lt a b ≡ lt → nat_eq a b ≡ eq → nat_lt b a ≡ true
    → is_gt (ordering_then (cond lt Less (cond eq Equal Greater)) o) ≡ true
greater a b o true eq l e h = absurd (both_below a b l h)
  where
    both_below : (a b : ℕ) → nat_lt a b ≡ true → nat_lt b a ≡ true → ⊥
    both_below a b l h = grind (arith, nat_tests, l, h)
greater a b o false true l e h = absurd (below_itself a b e h)
  where
    below_itself : (a b : ℕ) → nat_eq a b ≡ true → nat_lt b a ≡ true → ⊥
    below_itself a b e h = grind (arith, nat_tests, e, h)
greater a b o false false l e h = refl

below : (a b now : ℕ) → nat_lt a now ≡ false → nat_lt b now ≡ true → nat_lt b a ≡ true
below a b now late h = grind (arith, nat_tests, late, h)

not_before : (a b now : ℕ) (o : Ordering) → nat_lt a now ≡ false → is_gt (ordering_then (nat_cmp a b) o) ≡ false → nat_lt b now ≡ false
not_before a b now o late least = by (nat_lt b now) refl
  where
    by : (c : Bool) → nat_lt b now ≡ c → c ≡ false
    by false h = refl
    by true h = absurd (cc (greater a b o (nat_lt a b) (nat_eq a b) refl refl (below a b now late h), least))

module _ (now : ℕ) (stamps : List Stamp) (first : Stamp) (leads : IsFirstOfEnds stamps first) where
  pub first_key : (r : Option (Bor Key)) → option_map (λ key. key.now) r ≡ first.2 → nat_lt first.1 now ≡ true
      → IfSome r (λ key. IsFirstEnd now stamps key.now)
  first_key None is ended = tt
  first_key (Some key) is ended = record {
    order = first.0;
    end = first.1;
    first = subst (λ k. IsFirstOfEnds stamps (first.0, first.1, k)) (sym is) leads;
    ended = ended;
  }

  pub first_has_key : AllKeyed stamps → (r : Option (Bor Key)) → option_map (λ key. key.now) r ≡ first.2
      → IfNone r (NoneEnded now stamps)
  first_has_key keyed None is =
      absurd (cc (sym leads.held ∙ ap (λ key. has_stamp stamps (first.0, first.1, key)) (sym is) ∙ keyed first.0 first.1))
  first_has_key keyed (Some key) is = tt

  -- where the first isn't before a moment, none is
  pub none_before : nat_lt first.1 now ≡ false → NoneEnded now stamps
  none_before late t held ends = not_before first.1 t.1 now (option_cmp key_cmp first.2 t.2) late (leads.least t held ends)
