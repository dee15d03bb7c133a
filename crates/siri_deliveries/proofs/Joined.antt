-- The text of tokens, cut behind a value.
use Rattle.std.proofs.Common.{◌≡◌, ℕ, Bool, true, false, List, [], ◌∷◌, ◌++◌, fold, refl, ap, ◌∙◌}
use Rattle.std.proofs.Common.{length, ◌<◌, arith}
use Rattle.std.proofs.lemmas.List.{length-append}
use Rattle.std.proofs.lemmas.List.Sums.{fold-append}
use Rattle.json.specs.Token.{Token, end_array}
use Rattle.json.specs.Print.{ends, print, print_from}
use Rattle.json.specs.Tree.{items_tokens, members_tokens}
use Rattle.json.proofs.Printed.Tokens.{print_from-append}
use Rattle.serde_json.specs.Data.{Data, null, boolean, number, string, array, object, Items, no_items, item, Members}
use Rattle.serde_json.specs.Data.{no_members, member}
use Rattle.serde_json.specs.Written.{items_outline, members_outline}
use Rattle.siri_json.specs.Tokens.{tokens_of}

-- whether a value just ended, behind these tokens
abbrev pub ended : Bool → List Token → Bool
ended c ts = fold (λ _ t. ends t) c ts

mutual
  -- the last token of a value ends it
  pub ends_value : (d : Data) (c : Bool) → ended c (tokens_of d) ≡ true
  ends_value null c = refl
  ends_value (boolean b) c = refl
  ends_value (number n) c = refl
  ends_value (string s) c = refl
  ends_value (array ds) c = ends_items ds false
  ends_value (object ms) c = ends_members ms false

  ends_items : (ds : Items) (c : Bool) → ended c (items_tokens (items_outline ds)) ≡ true
  ends_items no_items c = refl
  ends_items (item d ds) c = fold-append (λ _ t. ends t) c (tokens_of d) (items_tokens (items_outline ds))
      ∙ ends_items ds (ended c (tokens_of d))

  ends_members : (ms : Members) (c : Bool) → ended c (members_tokens (members_outline ms)) ≡ true
  ends_members no_members c = refl
  ends_members (member k d ms) c =
      fold-append (λ _ t. ends t) false (tokens_of d) (members_tokens (members_outline ms))
      ∙ ends_members ms (ended false (tokens_of d))

-- a comma stands before a value that follows another
pub begins_value : (d : Data) → print_from true (tokens_of d) ≡ 44 ∷ print (tokens_of d)
unfolding print_from
begins_value null = refl
begins_value (boolean b) = refl
begins_value (number n) = refl
begins_value (string s) = refl
begins_value (array ds) = refl
begins_value (object ms) = refl

-- the text behind a value
pub cut_behind : (c : Bool) (ts : List Token) (d : Data) (us : List Token)
    → print_from c ((ts ++ tokens_of d) ++ us) ≡ print_from c (ts ++ tokens_of d) ++ print_from true us
cut_behind c ts d us =
    print_from-append c (ts ++ tokens_of d) us
    ∙ ap (λ (b : Bool). print_from c (ts ++ tokens_of d) ++ print_from b us)
    (fold-append (λ _ t. ends t) c ts (tokens_of d) ∙ ends_value d (ended c ts))

-- a value that follows another, and the text behind it
pub cut_later : (d : Data) (us : List Token)
    → print_from true (tokens_of d ++ us) ≡ (44 ∷ print (tokens_of d)) ++ print_from true us
cut_later d us = cut_behind true [] d us ∙ ap (λ (text : List ℕ). text ++ print_from true us) (begins_value d)

-- no comma stands before the end of a list
pub ends_list : (c : Bool) (ts : List Token) → print_from c (end_array ∷ ts) ≡ print (end_array ∷ ts)
unfolding print_from
ends_list true ts = refl
ends_list false ts = refl

-- what is put behind a text that isn't empty leaves it so
pub longer : (ts us : List Token) → 0 < length (print ts) → 0 < length (print (ts ++ us))
longer ts us some =
    let whole = ap length (print_from-append false ts us) ∙ length-append (print ts) (print_from (ended false ts) us) in
    omega arith
