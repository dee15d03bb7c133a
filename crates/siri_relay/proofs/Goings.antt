-- A producer that goes on by some steps.
use Rattle.std.proofs.Common.{◌≡◌, inl, inr, Bool, true, List, [], ◌∷◌, ◌++◌, map, take, refl, ap, sym, ◌∙◌, subst, append_assoc, append-nil}
use Rattle.std.specs.Prelude.{Result, Ok, Err, OnErr}
use Rattle.siri_model.specs.History.{Entry, History, Step, Feed, Observed, Withdrawn}
use Rattle.siri_records.specs.Keyed.{Items, KeyChange}
use Rattle.siri_change.specs.Changes.{changes}
use Rattle.siri_change.specs.Parts.{carried}
use Rattle.siri_producer.specs.Known.{Known, StandsFor, Follows, GoesOn, TookSome, SameButReads}
use Rattle.siri_relay.specs.Feeds.{feeds_of, items_fed, removals_fed}
use Rattle.siri_relay.specs.Goes.{GoesBy, GoesSome, IsFront}

-- what holds holds of every refusal
pub on_err : {T E : Type 0} (result : Result T E) (P : Type 0) → P → OnErr result P
on_err (Ok value) P p = tt
on_err (Err error) P p = p

-- ---- one after the other

pub goes_none : (p : Known) → GoesBy p p []
goes_none p = record {
  stands = λ h s. subst (λ (l : History). StandsFor p l) (sym (append-nil h)) s;
  follows = λ h f. subst (λ (l : History). Follows p l) (sym (append-nil h)) f;
  name = refl;
}

pub goes_then : (a b c : Known) (first second : List Step) → GoesBy a b first → GoesBy b c second → GoesBy a c (first ++ second)
goes_then a b c first second f g = record {
  stands = λ h s. subst (λ (l : History). StandsFor c l) (append_assoc h first second) (g.stands (h ++ first) (f.stands h s));
  follows = λ h s. subst (λ (l : History). Follows c l) (append_assoc h first second) (g.follows (h ++ first) (f.follows h s));
  name = g.name ∙ f.name;
}

pub goes_one : (old new : Known) (step : Step) → GoesOn old new step → new.responder.name ≡ old.responder.name
    → GoesBy old new (step ∷ [])
goes_one old new step g name = record { stands = g.stands; follows = g.follows; name = name }

-- the counter of steps doesn't matter
pub goes_counted : (old new : Known) → SameButReads old new → GoesBy old new []
goes_counted old new same = subst (λ (k : Known). GoesBy old k []) (sym same) counted
  where
    stands : (h : History) → StandsFor old h → StandsFor (record old { responder = record old.responder { reads = new.responder.reads } }) h
    stands h s = record {
      responder = record { start = s.responder.start; started = s.responder.started; moment = s.responder.moment; held = s.responder.held };
      table = s.table;
      settled = s.settled;
    }

    counted : GoesBy old (record old { responder = record old.responder { reads = new.responder.reads } }) []
    counted = record {
      stands = λ h s. stands (h ++ []) (subst (λ (l : History). StandsFor old l) (sym (append-nil h)) s);
      follows = λ h f. let g = subst (λ (l : History). Follows old l) (sym (append-nil h)) f in
          record { stands = stands (h ++ []) g.stands; looks = g.looks };
      name = refl;
    }

-- ---- fronts

pub front_more : (some all rest : List Step) → IsFront some all → IsFront some (all ++ rest)
front_more [] all rest f = tt
front_more (s ∷ some) [] rest f = absurd f
front_more (s ∷ some) (step ∷ steps) rest (inl f) = inl (f.0, front_more some steps rest f.1)
front_more (s ∷ some) (step ∷ steps) rest (inr f) = inr f

pub front_after : (first some rest : List Step) → IsFront some rest → IsFront (first ++ some) (first ++ rest)
front_after [] some rest f = f
front_after (step ∷ first) some rest f = inl (refl, front_after first some rest f)

pub front_whole : (steps : List Step) → IsFront steps steps
front_whole [] = tt
front_whole (step ∷ steps) = inl (refl, front_whole steps)

-- memory was wanting before the first step
pub some_none : (p : Known) (steps : List Step) → GoesSome p p steps
some_none p steps = ([], tt, goes_none p)

-- after all of them
pub some_whole : (old new : Known) (steps : List Step) → GoesBy old new steps → GoesSome old new steps
some_whole old new steps g = (steps, front_whole steps, g)

-- on the way through the first steps
pub some_first : (old new : Known) (first rest : List Step) → GoesSome old new first → GoesSome old new (first ++ rest)
some_first old new first rest g = (g.0, front_more g.0 first rest g.1, g.2)

-- after them
pub some_later : (old mid new : Known) (first rest : List Step) → GoesBy old mid first → GoesSome mid new rest → GoesSome old new (first ++ rest)
some_later old mid new first rest f g = (first ++ g.0, front_after first g.0 rest g.1, goes_then old mid new first g.0 f g.2)

-- ---- the two feeds of a view

pub goes_both : (old mid new : Known) (a b : List Entry) → GoesOn old mid (Feed a) → mid.responder.name ≡ old.responder.name
    → GoesOn mid new (Feed b) → new.responder.name ≡ mid.responder.name → GoesBy old new (Feed a ∷ Feed b ∷ [])
goes_both old mid new a b f name g later =
    goes_then old mid new (Feed a ∷ []) (Feed b ∷ []) (goes_one old mid (Feed a) f name) (goes_one mid new (Feed b) g later)

pub cut_first : (old new : Known) (a b : List Entry) → TookSome old new a → new.responder.name ≡ old.responder.name
    → GoesSome old new (Feed a ∷ Feed b ∷ [])
cut_first old new a b took name =
    (Feed (take took.0 a) ∷ [], inr (refl, (took.0, refl)), goes_one old new (Feed (take took.0 a)) took.1 name)

pub cut_second : (old mid new : Known) (a b : List Entry) → GoesOn old mid (Feed a) → mid.responder.name ≡ old.responder.name
    → TookSome mid new b → new.responder.name ≡ mid.responder.name → GoesSome old new (Feed a ∷ Feed b ∷ [])
cut_second old mid new a b f name took later = (
  Feed a ∷ Feed (take took.0 b) ∷ [],
  inl (refl, inr (refl, (took.0, refl))),
  goes_both old mid new a (take took.0 b) f name took.1 later,
)

-- two feeds are those of a view where they have its entries
pub feeds_are : (level : Bool) (fed view : Items) (a b : List Entry) → a ≡ removals_fed fed view → b ≡ items_fed level fed view
    → Feed a ∷ Feed b ∷ [] ≡ feeds_of level fed view
feeds_are level fed view a b same also i = Feed (same i) ∷ Feed (also i) ∷ []

-- as they are where they have the changes that lead to it
pub feeds_changed : (list : List KeyChange) (fed view : Items) (a b : List Entry) → list ≡ changes fed view
    → a ≡ map Withdrawn (carried list).removals → b ≡ map Observed (carried list).items → Feed a ∷ Feed b ∷ [] ≡ feeds_of true fed view
feeds_changed list fed view a b is same also =
    feeds_are true fed view a b (same ∙ ap (λ l. map Withdrawn (carried l).removals) is) (also ∙ ap (λ l. map Observed (carried l).items) is)
