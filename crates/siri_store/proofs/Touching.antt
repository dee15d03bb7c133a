-- What marks touch.
use Rattle.std.proofs.Common.{◌≡◌, ℕ, suc, ◌≤◌, List, [], ◌∷◌, ◌++◌, true, false, refl, ap, sym, ◌∙◌, arith, map}
use Rattle.std.proofs.Common.{filter, fold, nat_le, append_assoc, append-nil}
use Rattle.std.specs.BTreeSet.{insert_key}
use Rattle.siri_records.specs.declared.key.Key.{Key}
use Rattle.siri_records.specs.Order.{key_cmp}
use Rattle.std.proofs.lemmas.List.Elements.{filter-append}
use Rattle.std.proofs.lemmas.List.Sums.{fold-append}
use Rattle.siri_records.specs.KeyLists.{in_order}
use Rattle.siri_store.specs.Marked.{Rises, is_since, keys_since, MarksTouch}

map_more : (log more : List (ℕ × Key))
    → map (λ (m : ℕ × Key). m.1) (log ++ more) ≡ map (λ m. m.1) log ++ map (λ m. m.1) more
map_more [] more = refl
map_more (m ∷ log) more = ap (λ l. m.1 ∷ l) (map_more log more)

touched : (log : List (ℕ × Key)) (m : ℕ) (key : Key) (n : ℕ) → n ≤ m
    → keys_since (log ++ (m, key) ∷ []) n ≡ insert_key key_cmp (keys_since log n) key
touched log m key n le =
    let since : nat_le n m ≡ true = grind (arith, le) in
    let one : filter (is_since n) ((m, key) ∷ []) ≡ (m, key) ∷ [] = rw since refl in
    ap (λ l. in_order (map (λ (x : ℕ × Key). x.1) l))
    (filter-append (is_since n) log ((m, key) ∷ []) ∙ ap (λ l. filter (is_since n) log ++ l) one)
    ∙ (ap in_order (map_more (filter (is_since n) log) ((m, key) ∷ []))
    ∙ fold-append (insert_key key_cmp) [] (map (λ (x : ℕ × Key). x.1) (filter (is_since n) log)) (key ∷ []))

touched_all : (log : List (ℕ × Key)) (m : ℕ) (keys : List Key) (n : ℕ) → n ≤ m
    → keys_since (log ++ map (λ key. (m, key)) keys) n ≡ fold (insert_key key_cmp) (keys_since log n) keys
touched_all log m [] n le = ap (λ (l : List (ℕ × Key)). keys_since l n) (append-nil log)
touched_all log m (k ∷ keys) n le =
    ap (λ (l : List (ℕ × Key)). keys_since l n) (sym (append_assoc log ((m, k) ∷ []) (map (λ key. (m, key)) keys)))
    ∙ (touched_all (log ++ (m, k) ∷ []) m keys n le
    ∙ ap (λ (ks : List Key). fold (insert_key key_cmp) ks keys) (touched log m k n le))

none_since : (log : List (ℕ × Key)) (top : ℕ) → Rises top log → filter (is_since (suc top)) log ≡ []
none_since [] top rises = refl
none_since (m ∷ log) top rises =
    let before : nat_le (suc top) m.0 ≡ false = grind (arith, rises.0) in
    rw before (none_since log top rises.2)

pub marks_touch : MarksTouch
marks_touch = record {
  touched = touched;
  touched_all = touched_all;
  anew = λ log top rises. ap (λ l. in_order (map (λ (x : ℕ × Key). x.1) l)) (none_since log top rises);
}
