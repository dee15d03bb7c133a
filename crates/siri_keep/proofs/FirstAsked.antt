-- The subscription with which a request begins.
use Rattle.std.proofs.Common.{◌≡◌, Option, Some, None, refl, Bor}
use Rattle.std.specs.Prelude.{option_map}
use Rattle.std.specs.Option.{option_or}
use Rattle.siri_topic.specs.declared.subscription.Subscription.{Subscription}
use Rattle.siri_row_texts.specs.Reading.{first_of_four}

map_or : {T U : Type 0} (f : T → U) (a b : Option T) → option_map f (option_or a b) ≡ option_or (option_map f a) (option_map f b)
map_or f None b = refl
map_or f (Some x) b = refl

pub first_of_asked : (a b c d : Option (Bor Subscription)) (p q r s : Option Subscription)
    → option_map (λ (x : Bor Subscription). x.now) a ≡ p → option_map (λ (x : Bor Subscription). x.now) b ≡ q
    → option_map (λ (x : Bor Subscription). x.now) c ≡ r → option_map (λ (x : Bor Subscription). x.now) d ≡ s
    → option_map (λ (x : Bor Subscription). x.now) (option_or (option_or (option_or a b) c) d) ≡ first_of_four p q r s
first_of_asked a b c d p q r s is_p is_q is_r is_s =
    rw (map_or _ (option_or (option_or a b) c) d, map_or _ (option_or a b) c, map_or _ a b, is_p, is_q, is_r, is_s) refl
