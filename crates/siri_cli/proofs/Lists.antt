-- Lists of arguments.
use Rattle.std.proofs.Common.{◌≡◌, ◌≢◌, ℕ, List, [], ◌∷◌, length, map, Bool, None, refl, ap}
use Rattle.std.specs.Prelude.{◌||◌}
use Rattle.std.specs.List.{list_any}
use Rattle.siri_cli.specs.Commands.{load_of, get_of, serve_of, consume_of}
use Rattle.siri_cli.specs.Keeping.{keep_words}
use Rattle.siri_cli.specs.declared.consume.Consuming.{Consuming}
use Rattle.siri_cli.specs.declared.serve.Producing.{Producing}

-- a test of what elements are mapped to
pub any_of_map : {X Y : Type 0} (test : Y → Bool) (image : X → Y) (list : List X) → list_any test (map image list) ≡ list_any (λ x. test (image x)) list
any_of_map test image [] = refl
any_of_map test image (x ∷ list) = ap (λ rest. test (image x) || rest) (any_of_map test image list)

-- arguments of another number
module _ {X : Type 0} (text : X → List ℕ) where
  pub no_load : (list : List X) → length list ≢ 2 → load_of (map text list) ≡ None
  no_load [] other = refl
  no_load (a ∷ []) other = refl
  no_load (a ∷ b ∷ []) other = absurd (other refl)
  no_load (a ∷ b ∷ c ∷ rest) other = refl

  pub no_get : (list : List X) → length list ≢ 1 → get_of (map text list) ≡ None
  no_get [] other = refl
  no_get (a ∷ []) other = absurd (other refl)
  no_get (a ∷ b ∷ rest) other = refl

  pub no_serve : (word : Producing) (list : List X) → length list ≢ 3 → serve_of word (map text list) ≡ None
  no_serve word [] other = refl
  no_serve word (a ∷ []) other = refl
  no_serve word (a ∷ b ∷ []) other = refl
  no_serve word (a ∷ b ∷ c ∷ []) other = absurd (other refl)
  no_serve word (a ∷ b ∷ c ∷ d ∷ rest) other = refl

  pub no_consume : (word : Consuming) (list : List X) → length list ≢ 4 → consume_of word (map text list) ≡ None
  no_consume word [] other = refl
  no_consume word (a ∷ []) other = refl
  no_consume word (a ∷ b ∷ []) other = refl
  no_consume word (a ∷ b ∷ c ∷ []) other = refl
  no_consume word (a ∷ b ∷ c ∷ d ∷ []) other = absurd (other refl)
  no_consume word (a ∷ b ∷ c ∷ d ∷ e ∷ rest) other = refl

  pub no_keep : (list : List X) → length list ≢ 5 → keep_words (map text list) ≡ None
  no_keep [] other = refl
  no_keep (a ∷ []) other = refl
  no_keep (a ∷ b ∷ []) other = refl
  no_keep (a ∷ b ∷ c ∷ []) other = refl
  no_keep (a ∷ b ∷ c ∷ d ∷ []) other = refl
  no_keep (a ∷ b ∷ c ∷ d ∷ e ∷ []) other = absurd (other refl)
  no_keep (a ∷ b ∷ c ∷ d ∷ e ∷ f ∷ rest) other = refl
