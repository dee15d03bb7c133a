-- A producer of which nothing changed but the counter of steps stands for the same histories.
use Rattle.std.proofs.Common.{ℕ, sym, subst}
use Rattle.std.specs.Prelude.{◌↔◌}
use Rattle.siri_model.specs.History.{History}
use Rattle.siri_producer.specs.Known.{Known, StandsFor, Follows, SameButReads}

-- the same producer with another count
abbrev counted : Known → ℕ → Known
counted known n = record known { responder = record known.responder { reads = n } }

-- ---- it stands for the same

stands_counted : (known : Known) (n : ℕ) (h : History) → StandsFor known h → StandsFor (counted known n) h
stands_counted known n h s = record {
  responder = record { start = s.responder.start; started = s.responder.started; moment = s.responder.moment; held = s.responder.held };
  table = s.table;
  settled = s.settled;
}

stands_uncounted : (known : Known) (n : ℕ) (h : History) → StandsFor (counted known n) h → StandsFor known h
stands_uncounted known n h s = record {
  responder = record { start = s.responder.start; started = s.responder.started; moment = s.responder.moment; held = s.responder.held };
  table = s.table;
  settled = s.settled;
}

pub same_stands : (old new : Known) (h : History) → SameButReads old new → (StandsFor old h ↔ StandsFor new h)
same_stands old new h is = (
  λ s. subst (λ k. StandsFor k h) (sym is) (stands_counted old new.responder.reads h s),
  λ s. stands_uncounted old new.responder.reads h (subst (λ k. StandsFor k h) is s),
)

-- ---- it follows the same

follows_counted : (known : Known) (n : ℕ) (h : History) → Follows known h → Follows (counted known n) h
follows_counted known n h f = record { stands = stands_counted known n h f.stands; looks = f.looks }

follows_uncounted : (known : Known) (n : ℕ) (h : History) → Follows (counted known n) h → Follows known h
follows_uncounted known n h f = record { stands = stands_uncounted known n h f.stands; looks = f.looks }

pub same_follows : (old new : Known) (h : History) → SameButReads old new → (Follows old h ↔ Follows new h)
same_follows old new h is = (
  λ f. subst (λ k. Follows k h) (sym is) (follows_counted old new.responder.reads h f),
  λ f. follows_uncounted old new.responder.reads h (subst (λ k. Follows k h) is f),
)
