-- A target that stands for a document begins with `/siri-lite/`.
use Rattle.std.proofs.Common.{◌≡◌, ℕ, Bool, true, false, cond, List, [], ◌∷◌, ◌++◌, Option, Some, None, codes, drop, take-append-drop, refl, sym, ap, ◌∙◌, subst}
use Rattle.std.specs.Prelude.{nat_eq, ◌==◌, option_map, unwrap_or}
use Rattle.std.specs.List.{find, position_or_len, starts_with}
use Rattle.std.specs.Cmp.Lexicographic.{pointwise}
use Rattle.std.proofs.lemmas.Slice.Eq.{bytes_eq-Decides}
use Rattle.siri_records.specs.declared.item.Service.{Service}
use Rattle.siri_records.specs.declared.item.Service.TheVariants as service
use Rattle.siri_http.specs.declared.asked.Asked.TheVariants as asked
use Rattle.siri_queries.specs.Documents.{document_of, document_tree}
use Rattle.serde_json.specs.Written.{compact_text}
use Rattle.siri_queries.specs.Pairs.{path_in, query_in}
use Rattle.siri_queries.specs.Paths.{path_of, service_at, services}
use Rattle.siri_ends.specs.lite.Asking.{is_query, post_or_query}

first_found : (path : List ℕ) (x s : Service) (rest : Option Service) (is : Bool) → pointwise nat_eq path (path_of x) ≡ is
    → cond is (Some x) rest ≡ Some s → (rest ≡ Some s → path ≡ path_of s) → path ≡ path_of s
first_found path x s rest true is e later =
    (bytes_eq-Decides path (path_of x)).0 is ∙ ap (λ (o : Option Service). path_of (unwrap_or o x)) e
first_found path x s rest false is e later = later e

found : (path : List ℕ) (among : List Service) (s : Service) → find (λ s. pointwise nat_eq path (path_of s)) among ≡ Some s → path ≡ path_of s
found path [] s e = absurd (cc e)
found path (x ∷ among) s e =
    first_found path x s (find (λ s. pointwise nat_eq path (path_of s)) among) (pointwise nat_eq path (path_of x)) refl e
    (λ later. found path among s later)

path_begins : (s : Service) (rest : List ℕ) → starts_with nat_eq (path_of s ++ rest) (codes "/siri-lite/") ≡ true
path_begins service.Stop rest = refl
path_begins service.Timetable rest = refl
path_begins service.Vehicle rest = refl
path_begins service.Situation rest = refl

target_begins : (target : List ℕ) (s : Service) → path_in target ≡ path_of s → starts_with nat_eq target (codes "/siri-lite/") ≡ true
target_begins target s e =
    let place = position_or_len (λ (b : ℕ). b == 63) target in
    let whole : path_of s ++ drop place target ≡ target = ap (λ (path : List ℕ). path ++ drop place target) (sym e) ∙ take-append-drop place target in
    subst (λ (t : List ℕ). starts_with nat_eq t (codes "/siri-lite/") ≡ true) whole (path_begins s (drop place target))

query_is : (target document : List ℕ) (o : Option Service) → service_at (path_in target) ≡ o
    → option_map (λ s. compact_text (document_tree s (query_in target))) o ≡ Some document → is_query (codes "GET") target ≡ true
query_is target document None is e = absurd (cc e)
query_is target document (Some s) is e = target_begins target s (found (path_in target) services s is)

pub asks_the_same : (target document other body : List ℕ) → document_of target ≡ Some document
    → post_or_query ((codes "GET", target), body) ≡ post_or_query ((codes "POST", other), document)
asks_the_same target document other body e =
    let query : is_query (codes "GET") target ≡ true = query_is target document (service_at (path_in target)) refl e in
    rw (query, e) refl

-- so a GET of it asks the document
pub asks_its_document : (target document body : List ℕ) → document_of target ≡ Some document
    → post_or_query ((codes "GET", target), body) ≡ asked.Posted document
asks_its_document target document body e =
    let query : is_query (codes "GET") target ≡ true = query_is target document (service_at (path_in target)) refl e in
    rw (query, e) refl
