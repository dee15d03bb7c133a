-- The latest start of a world: what its producer's side is, how it goes on, and what the next start makes of it.
use Rattle.std.proofs.Common.{◌≡◌, ℕ, suc, ◌+◌, Bool, true, false, List, [], ◌∷◌, ◌++◌, length, Option, Some, None, refl, sym, ap, ◌∙◌, arith}
use Rattle.std.specs.Prelude.{nat_le}
use Rattle.std.specs.List.{last_or}
use Rattle.std.proofs.lemmas.List.{append_assoc}
use Rattle.std.proofs.lemmas.List.Sums.{fold-append}
use Rattle.siri_messages.specs.Asked.{AskedFor}
use Rattle.siri_change.specs.Parts.{Carried}
use Rattle.siri_life.specs.Life.{Packet, Subscribe, Terminate, AllData, Supply, Acknowledge, Notify, Delivery}
use Rattle.siri_life.specs.Life.{can_renew, is_before}
use Rattle.siri_life.specs.Named.{Name, Of, find}
use Rattle.siri_life.specs.Serving.{About, Carries, ToProducer, ToConsumer, accepted_if, accepts, acknowledged, ended_if, heard}
use Rattle.siri_life.specs.Serving.{renewed, renewed_if, settled_serving, supplied, with_rows, replies_to}
use Rattle.siri_model.specs.History.{Step, Start, Settle, History}
use Rattle.siri_model.specs.Lives.{Living, Served, none_served, served_after, serving_of}
use Rattle.siri_model.specs.Meaning.{meaning}
use Rattle.siri_model.proofs.Serves.{heard_keeps, more_served}
use Rattle.siri_world_model.specs.World.{last_goes_on}
use Rattle.siri_world_model.specs.laws.Networks.{all_lives, serving_from, with_ended}
use Rattle.siri_world_model.proofs.Well.{AreNumbered}
use Rattle.siri_world_model.proofs.Producer.{heard_about, replies_about}

-- ---- lives that ended before play no part in what is heard

pub rows_first : (b : List (Of Living)) (v : Served) (table ended : List (Of Living))
    → with_rows meaning (with_ended b v) table ended ≡ with_ended b (with_rows meaning v table ended)
rows_first b v table ended = λ i. record {
  start = v.start;
  now = v.now;
  known = v.known;
  table = table;
  ended = append_assoc b v.ended ended i;
}

heard_first : (b : List (Of Living)) (v : Served) (c s : Name) (p : Packet Carried AskedFor)
    → heard meaning (with_ended b v) c s p ≡ with_ended b (heard meaning v c s p)
heard_first b v c s (Subscribe n x) = by (accepts meaning v c s n x)
  where
    by : (y : Bool) → accepted_if meaning y (with_ended b v) c s n x ≡ with_ended b (accepted_if meaning y v c s n x)
    by true = rows_first b v _ _
    by false = refl
heard_first b v c s (Terminate n) = by (is_before meaning (find c s v.table) n)
  where
    by : (y : Bool) → ended_if meaning y (with_ended b v) c s ≡ with_ended b (ended_if meaning y v c s)
    by true = rows_first b v _ _
    by false = refl
heard_first b v c s (AllData n base) = by (find c s v.table)
  where
    test : (y : Bool) (x : AskedFor)
        → renewed_if meaning y (with_ended b v) c s n base x ≡ with_ended b (renewed_if meaning y v c s n base x)
    test true x = rows_first b v _ _
    test false x = refl

    by : (l : Option Living)
        → renewed meaning (with_ended b v) c s n base l ≡ with_ended b (renewed meaning v c s n base l)
    by None = refl
    by (Some l) = test (can_renew meaning l n base) l.wanted
heard_first b v c s (Supply m) = by (find c s v.table)
  where
    by : (l : Option Living) → supplied meaning (with_ended b v) c s m l ≡ with_ended b (supplied meaning v c s m l)
    by None = refl
    by (Some l) = rows_first b v _ _
heard_first b v c s (Acknowledge m) = by (find c s v.table)
  where
    by : (l : Option Living) → acknowledged meaning (with_ended b v) c s m l ≡ with_ended b (acknowledged meaning v c s m l)
    by None = refl
    by (Some l) = rows_first b v _ _
heard_first b v c s (Notify m t) = refl
heard_first b v c s (Delivery m t more x) = refl

pub about_first : (b : List (Of Living)) (v : Served) (c s : Name) (it : About Carried AskedFor)
    → heard_about (with_ended b v) c s it ≡ with_ended b (heard_about v c s it)
about_first b v c s (Carries p) = heard_first b v c s p
about_first b v c s (ToProducer answered) = refl
about_first b v c s ToConsumer = refl

replies_first : (b : List (Of Living)) (v : Served) (c s : Name) (p : Packet Carried AskedFor)
    → replies_to meaning (with_ended b v) c s p ≡ replies_to meaning v c s p
replies_first b v c s (Subscribe n x) = refl
replies_first b v c s (Terminate n) = refl
replies_first b v c s (AllData n base) = refl
replies_first b v c s (Supply m) = refl
replies_first b v c s (Acknowledge m) = refl
replies_first b v c s (Notify m t) = refl
replies_first b v c s (Delivery m t more x) = refl

-- nor in the replies
pub about_replies : (b : List (Of Living)) (v : Served) (c s : Name) (it : About Carried AskedFor) → replies_about (with_ended b v) c s it ≡ replies_about v c s it
about_replies b v c s (Carries p) = replies_first b v c s p
about_replies b v c s (ToProducer true) = refl
about_replies b v c s (ToProducer false) = refl
about_replies b v c s ToConsumer = refl

-- what is heard is heard in the same start
pub about_start : (v : Served) (c s : Name) (it : About Carried AskedFor) → (heard_about v c s it).start ≡ v.start
about_start v c s (Carries p) = (heard_keeps v c s p).start
about_start v c s (ToProducer answered) = refl
about_start v c s ToConsumer = refl

-- ---- a step and a settle

pub two_steps : (h : History) (step : Step) → serving_of (h ++ step ∷ Settle ∷ []) ≡ settled_serving meaning (serving_of (h ++ step ∷ []))
unfolding served_after
two_steps h step = fold-append served_after none_served h (step ∷ Settle ∷ []) ∙ ap (settled_serving meaning) (sym (more_served h step))

-- ---- the latest of some starts, the first of which has this number

pub record Ends (k : ℕ) (d : Option History) (b : List (Of Living)) (starts : List History) : Type 0 where
  pub history : History
  pub before : List (Of Living)  -- the lives of the starts before
  pub latest : last_or d starts ≡ Some history
  pub serving : serving_from b starts ≡ with_ended before (serving_of history)
  pub goes : (steps : History) → serving_from b (last_goes_on steps starts) ≡ with_ended before (serving_of (history ++ steps))
  pub later : (steps : History) → last_or d (last_goes_on steps starts) ≡ Some (history ++ steps)
  pub anew : (next : History) → serving_from b (starts ++ next ∷ []) ≡ with_ended (before ++ all_lives (serving_of history)) (serving_of next)
  pub number : AreNumbered k starts → suc (serving_of history).start ≡ k + length starts
  pub numbered : (steps : History) → (serving_of (history ++ steps)).start ≡ (serving_of history).start
      → AreNumbered k starts → AreNumbered k (last_goes_on steps starts)

pub ends_of : (k : ℕ) (d : Option History) (b : List (Of Living)) (h : History) (more : List History) → Ends k d b (h ∷ more)
ends_of k d b h [] = record {
  history = h;
  before = b;
  latest = refl;
  serving = refl;
  goes = λ steps. refl;
  later = λ steps. refl;
  anew = λ next. refl;
  number = λ n. let same = n.0 in omega (arith, same);
  numbered = λ steps same n. (same ∙ n.0, tt);
}
ends_of k d b h (next ∷ []) =
    let e = ends_of (suc k) (Some h) (b ++ all_lives (serving_of h)) next [] in
    record {
      history = e.history;
      before = e.before;
      latest = e.latest;
      serving = e.serving;
      goes = e.goes;
      later = e.later;
      anew = e.anew;
      number = λ n. let same = e.number n.1 in omega (arith, same);
      numbered = λ steps same n. (n.0, e.numbered steps same n.1);
    }
ends_of k d b h (next ∷ x ∷ more) =
    let e = ends_of (suc k) (Some h) (b ++ all_lives (serving_of h)) next (x ∷ more) in
    record {
      history = e.history;
      before = e.before;
      latest = e.latest;
      serving = e.serving;
      goes = e.goes;
      later = e.later;
      anew = e.anew;
      number = λ n. let same = e.number n.1 in omega (arith, same);
      numbered = λ steps same n. (n.0, e.numbered steps same n.1);
    }

-- where there is one
pub ends_some : (starts : List History) → nat_le (length starts) 0 ≡ false → Ends 1 None [] starts
ends_some [] some = absurd (cc)
ends_some (h ∷ more) some = ends_of 1 None [] h more

-- the next start has the next number
pub numbered_anew : (k number t : ℕ) (starts : List History) → number ≡ k + length starts → AreNumbered k starts
    → AreNumbered k (starts ++ (Start number t ∷ []) ∷ [])
unfolding served_after
numbered_anew k number t [] is n = (omega (arith, is), tt)
numbered_anew k number t (h ∷ more) is n = (n.0, numbered_anew (suc k) number t more (omega (arith, is)) n.1)
