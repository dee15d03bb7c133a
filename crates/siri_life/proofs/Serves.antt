-- A network's producer does what a producer alone does.
use Rattle.std.proofs.Common.{◌≡◌, Bool, true, false, List, [], ◌∷◌, ◌++◌, Option, Some, None, refl, sym, ap, ◌∙◌, append-nil}
use Rattle.std.proofs.lemmas.List.{append_assoc}
use Rattle.std.specs.Prelude.{slice_get}
use Rattle.siri_life.specs.Meaning.{Meaning}
use Rattle.siri_life.specs.Life.{Mark, Subscribe, Terminate, AllData, Supply, Acknowledge, Notify, Delivery}
use Rattle.siri_life.specs.Link.{Holding, Outcome, UnknownSubscription, OldStart, Gap, Repeat, Overlong, Wanted, outcome}
use Rattle.siri_life.specs.Named.{Of, Name}
use Rattle.siri_life.specs.Serving.{Serving, Act, Clocked, Fed, Heard, Settled, About, Carries, ToProducer, ToConsumer, served}
use Rattle.siri_life.specs.Serving.{served_letters, serving_after, serving_letters, told}
use Rattle.siri_life.specs.Network
use Rattle.siri_life.specs.Network.{Network, Happening, Starts, Clocks, Feeds, Asks, Stops, Restarts, Requests}
use Rattle.siri_life.specs.Network.{Delivers, act, acts, takes}
use Rattle.siri_life.specs.Network.{takes_letter, step, acts_about, acts_of_letter, serving_by}

told_after : {A : Type 0} (xs ys : List A) → (xs ++ []) ++ ys ≡ xs ++ ys
told_after xs ys = ap (λ zs. zs ++ ys) (append-nil xs)

module _ {V P W H E : Type 0} (f : Meaning V P W H E) where
  -- one step of a producer's history
  act_serves : (n : Network V P W H) (a : Act P W E) → (act f n a).serving ≡ served f n.serving a
  act_serves n (Clocked t) = refl
  act_serves n (Fed es) = refl
  act_serves n (Heard c s (Subscribe number x)) = refl
  act_serves n (Heard c s (Terminate number)) = refl
  act_serves n (Heard c s (AllData number base)) = refl
  act_serves n (Heard c s (Supply m)) = refl
  act_serves n (Heard c s (Acknowledge m)) = refl
  act_serves n (Heard c s (Notify m moment)) = refl
  act_serves n (Heard c s (Delivery m moment more x)) = refl
  act_serves n Settled = refl

  act_sends : (n : Network V P W H) (a : Act P W E) → (act f n a).letters ≡ n.letters ++ served_letters f n.serving a
  act_sends n (Clocked t) = refl
  act_sends n (Fed es) = sym (append-nil n.letters)
  act_sends n (Heard c s (Subscribe number x)) = told_after n.letters (told f c)
  act_sends n (Heard c s (Terminate number)) = told_after n.letters (told f c)
  act_sends n (Heard c s (AllData number base)) = told_after n.letters (told f c)
  act_sends n (Heard c s (Supply m)) = refl
  act_sends n (Heard c s (Acknowledge m)) = refl
  act_sends n (Heard c s (Notify m moment)) = sym (append-nil n.letters)
  act_sends n (Heard c s (Delivery m moment more x)) = sym (append-nil n.letters)
  act_sends n Settled = refl

  -- all of them
  pub acts_serve : (all : List (Act P W E)) (n : Network V P W H) → (acts f all n).serving ≡ serving_after f all n.serving
  acts_serve [] n = refl
  acts_serve (a ∷ all) n = acts_serve all (act f n a) ∙ ap (λ v. serving_after f all v) (act_serves n a)

  pub acts_send : (all : List (Act P W E)) (n : Network V P W H) → (acts f all n).letters ≡ n.letters ++ serving_letters f all n.serving
  acts_send [] n = sym (append-nil n.letters)
  acts_send (a ∷ all) n =
      acts_send all (act f n a)
      ∙ ap (λ (z : List (Of (About P W)) × Serving V P W H). z.0 ++ serving_letters f all z.1) (λ i. (act_sends n a i, act_serves n a i))
      ∙ append_assoc n.letters (served_letters f n.serving a) (serving_letters f all (served f n.serving a))

  -- what the consumers take leaves the producer's side as it is
  readied_serves : (n : Network V P W H) (c : Name) (o : Outcome) → (Network.readied f n c o).serving ≡ n.serving
  readied_serves n c Wanted = refl
  readied_serves n c UnknownSubscription = refl
  readied_serves n c OldStart = refl
  readied_serves n c Gap = refl
  readied_serves n c Repeat = refl
  readied_serves n c Overlong = refl

  notified_serves : (n : Network V P W H) (c s : Name) (m : Mark) (held : Option (Holding V P W)) → (Network.notified f n c s m held).serving ≡ n.serving
  notified_serves n c s m None = refl
  notified_serves n c s m (Some h) = readied_serves n c (outcome f h m)

  delivered_serves : (n : Network V P W H) (c s : Name) (m : Mark) (more : Bool) (x : P) (held : Option (Holding V P W))
      → (Network.delivered f n c s m more x held).serving ≡ n.serving
  delivered_serves n c s m more x None = refl
  delivered_serves n c s m more x (Some h) = refl

  takes_serves : (n : Network V P W H) (c s : Name) (q : About P W) → (takes f n c s q).serving ≡ serving_after f (acts_about f c s q) n.serving
  takes_serves n c s (ToProducer true) = refl
  takes_serves n c s (ToProducer false) = refl
  takes_serves n c s ToConsumer = refl
  takes_serves n c s (Carries (Subscribe number x)) = refl
  takes_serves n c s (Carries (Terminate number)) = refl
  takes_serves n c s (Carries (AllData number base)) = refl
  takes_serves n c s (Carries (Supply m)) = refl
  takes_serves n c s (Carries (Acknowledge m)) = refl
  takes_serves n c s (Carries (Notify m moment)) = notified_serves n c s m (n.holdings c s)
  takes_serves n c s (Carries (Delivery m moment more x)) = delivered_serves n c s m more x (n.holdings c s)

  letter_serves : (n : Network V P W H) (y : Option (Of (About P W))) → (takes_letter f n y).serving ≡ serving_after f (acts_of_letter f y) n.serving
  letter_serves n None = refl
  letter_serves n (Some y) = takes_serves n y.subscriber y.identifier y.it

  stopped_serves : (n : Network V P W H) (c s : Name) (held : Option (Holding V P W)) → (Network.stopped f n c s held).serving ≡ n.serving
  stopped_serves n c s None = refl
  stopped_serves n c s (Some h) = refl

  restarted_serves : (n : Network V P W H) (c s : Name) (held : Option (Holding V P W))
      → (Network.restarted_one f n c s held).serving ≡ n.serving
  restarted_serves n c s None = refl
  restarted_serves n c s (Some h) = refl

  -- one happening
  pub step_serves : (n : Network V P W H) (e : Happening W E) → (step f n e).serving ≡ serving_by f n e
  step_serves n (Starts t) = refl
  step_serves n (Clocks t) = refl
  step_serves n (Feeds es) = refl
  step_serves n (Asks c s x) = refl
  step_serves n (Stops c s) = stopped_serves n c s (n.holdings c s)
  step_serves n (Restarts c s) = restarted_serves n c s (n.holdings c s)
  step_serves n (Requests c) = refl
  step_serves n (Delivers k) = letter_serves n (slice_get n.letters k)
