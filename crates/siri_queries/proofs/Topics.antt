-- The one topic of four lists.
use Rattle.std.proofs.Common.{◌≡◌, ◌+◌, List, [], ◌∷◌, ◌++◌, Option, Some, None, refl, sym, ◌∙◌, length, arith}
use Rattle.std.proofs.Common.{length-append, Bor}
use Rattle.std.specs.Prelude.{option_map, slice_get}
use Rattle.std.specs.Option.{option_or}
use Rattle.siri_topic.specs.declared.topics.Topic.{Topic}
use Rattle.siri_queries.specs.Targets.{only}

only_first : (ts : List Topic) → length ts ≡ 1 → only ts ≡ slice_get ts 0
only_first [] one = absurd (omega arith)
only_first (t ∷ []) one = refl
only_first (t ∷ u ∷ ts) one = absurd (omega arith)

only_none : (ts : List Topic) → (length ts ≡ 1 → ⊥) → only ts ≡ None
only_none [] several = refl
only_none (t ∷ []) several = absurd (several refl)
only_none (t ∷ u ∷ ts) several = refl

first_append : (ts us : List Topic) → slice_get (ts ++ us) 0 ≡ option_or (slice_get ts 0) (slice_get us 0)
first_append [] us = refl
first_append (t ∷ ts) us = refl

or_assoc : (a b c : Option Topic) → option_or (option_or a b) c ≡ option_or a (option_or b c)
or_assoc None b c = refl
or_assoc (Some t) b c = refl

map_or : (a b : Option (Bor Topic)) → option_map (λ (t : Bor Topic). t.now) (option_or a b)
    ≡ option_or (option_map (λ (t : Bor Topic). t.now) a) (option_map (λ (t : Bor Topic). t.now) b)
map_or None b = refl
map_or (Some t) b = refl

all_lengths : (a b c d : List Topic) → length (a ++ (b ++ (c ++ d))) ≡ length a + length b + length c + length d
all_lengths a b c d = omega (arith, length-append a (b ++ (c ++ d)), length-append b (c ++ d), length-append c d)

pub only_found : (a b c d : List Topic) (s t v w : Option (Bor Topic))
    → option_map (λ (x : Bor Topic). x.now) s ≡ slice_get a 0 → option_map (λ (x : Bor Topic). x.now) t ≡ slice_get b 0
    → option_map (λ (x : Bor Topic). x.now) v ≡ slice_get c 0 → option_map (λ (x : Bor Topic). x.now) w ≡ slice_get d 0
    → length a + length b + length c + length d ≡ 1
    → option_map (λ (x : Bor Topic). x.now) (option_or (option_or (option_or s t) v) w) ≡ only (a ++ (b ++ (c ++ d)))
only_found a b c d s t v w first second third fourth one =
    rw (
      map_or (option_or (option_or s t) v) w,
      map_or (option_or s t) v,
      map_or s t,
      first,
      second,
      third,
      fourth,
      only_first (a ++ (b ++ (c ++ d))) (all_lengths a b c d ∙ one),
      first_append a (b ++ (c ++ d)),
      first_append b (c ++ d),
      first_append c d,
      or_assoc (option_or (slice_get a 0) (slice_get b 0)) (slice_get c 0) (slice_get d 0),
      or_assoc (slice_get a 0) (slice_get b 0) (option_or (slice_get c 0) (slice_get d 0)),
    ) refl

pub not_only : (a b c d : List Topic) → (length a + length b + length c + length d ≡ 1 → ⊥) → None ≡ only (a ++ (b ++ (c ++ d)))
not_only a b c d several = sym (only_none (a ++ (b ++ (c ++ d))) (λ one. several (sym (all_lengths a b c d) ∙ one)))
