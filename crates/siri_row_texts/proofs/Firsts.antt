-- The first of four lists.
use Rattle.std.proofs.Common.{◌≡◌, Option, Some, None, refl, Bor}
use Rattle.std.specs.Prelude.{option_map}
use Rattle.std.specs.Option.{option_or}
use Rattle.siri_records.specs.declared.item.Item.{Item}
use Rattle.siri_topic.specs.declared.subscription.Subscription.{Subscription}
use Rattle.siri_row_texts.specs.Reading.{first_of_four}

map_or : {T U : Type 0} (f : T → U) (a b : Option T) → option_map f (option_or a b) ≡ option_or (option_map f a) (option_map f b)
map_or f None b = refl
map_or f (Some x) b = refl

map_four : {T U : Type 0} (f : T → U) (a b c d : Option T)
    → option_map f (first_of_four a b c d) ≡ first_of_four (option_map f a) (option_map f b) (option_map f c) (option_map f d)
map_four f a b c d = rw (map_or f (option_or (option_or a b) c) d, map_or f (option_or a b) c, map_or f a b) refl

pub first_item_of_four : (a b c d : Option (Bor Item)) (p q r s : Option Item)
    → option_map (λ (x : Bor Item). x.now) a ≡ p → option_map (λ (x : Bor Item). x.now) b ≡ q
    → option_map (λ (x : Bor Item). x.now) c ≡ r → option_map (λ (x : Bor Item). x.now) d ≡ s
    → option_map (λ (x : Bor Item). x.now) (option_or (option_or (option_or a b) c) d) ≡ first_of_four p q r s
first_item_of_four a b c d p q r s is_p is_q is_r is_s =
    rw (map_four (λ (x : Bor Item). x.now) a b c d, is_p, is_q, is_r, is_s) refl

pub first_subscription_of_four : (a b c d : Option (Bor Subscription)) (p q r s : Option Subscription)
    → option_map (λ (x : Bor Subscription). x.now) a ≡ p → option_map (λ (x : Bor Subscription). x.now) b ≡ q
    → option_map (λ (x : Bor Subscription). x.now) c ≡ r → option_map (λ (x : Bor Subscription). x.now) d ≡ s
    → option_map (λ (x : Bor Subscription). x.now) (option_or (option_or (option_or a b) c) d) ≡ first_of_four p q r s
first_subscription_of_four a b c d p q r s is_p is_q is_r is_s =
    rw (map_four (λ (x : Bor Subscription). x.now) a b c d, is_p, is_q, is_r, is_s) refl
