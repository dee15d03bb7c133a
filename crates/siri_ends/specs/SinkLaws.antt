-- Texts that are put one after the other.
use Rattle.std.proofs.Common.{◌≤◌, ℕ, Bool, List, [], ◌++◌, Option, Result, Ok, Err, refl, sym, ap}
use Rattle.std.proofs.Common.{◌∙◌, subst, append-nil, append_assoc, length-append, arith}
use Rattle.siri_outside.specs.Causes.{Rose}
use Rattle.siri_outside.specs.Wires.{WireState}
use Rattle.siri_http.specs.declared.errors.HttpError.{HttpError}
use Rattle.siri_http.specs.declared.errors.HttpError.TheVariants as http
use Rattle.siri_ends.specs.Sinks.{Gathers, Measures, WritesText}
use Rattle.siri_http.proofs.Sending.{puts_both, puts_first, wrote_all, wrote_none, wrote_nothing}

pub measures_none : (s : ℕ × Bool × List ℕ) → Measures s s [] (Ok tt)
measures_none s = (omega arith, λ kept. (kept, sym (append-nil s.2)))

pub measures_both : (x y z : ℕ × Bool × List ℕ) (text more : List ℕ) (result : Result (Unit {0}) HttpError)
    → Measures x y text (Ok tt) → Measures y z more result → Measures x z (text ++ more) result
measures_both x y z text more (Ok done) first then = (
  omega (arith, first.0, then.0, length-append text more),
  λ kept.
      let after = then.1 kept in
      let before = first.1 after.0 in
      (before.0, after.1 ∙ ap (λ l. l ++ more) before.1 ∙ append_assoc x.2 text more),
)
measures_both x y z text more (Err error) first then = tt

rose_later : (x y z : ℕ) → x ≤ y → Rose y z → Rose x z
rose_later x y z le rose = omega (arith, le, rose)

pub writes_none : (wire : Option WireState) (faults : ℕ) → WritesText [] (Ok tt) wire wire faults faults
writes_none wire faults = record {
  told = wrote_all [] [] wire wire refl (wrote_none [] wire);
  cause = record { later = omega arith; failed = λ no. absurd (cc no) };
}

pub writes_both : (text more : List ℕ) (result : Result (Unit {0}) HttpError) (a b c : Option WireState) (x y z : ℕ)
    → WritesText text (Ok tt) a b x y → WritesText more result b c y z → WritesText (text ++ more) result a c x z
writes_both text more result a b c x y z first then = record {
  told = puts_both text more result a b c first.told then.told;
  cause = record {
    later = omega (arith, first.cause.later, then.cause.later);
    failed = λ is. rose_later x y z first.cause.later (then.cause.failed is);
  };
}

pub writes_first : (text more : List ℕ) (error : HttpError) (a b : Option WireState) (x y : ℕ)
    → WritesText text (Err error) a b x y → WritesText (text ++ more) (Err error) a b x y
writes_first text more error a b x y first = record {
  told = puts_first text more error a b first.told;
  cause = record { later = first.cause.later; failed = λ is. first.cause.failed is };
}

pub writes_nothing : (text : List ℕ) (wire : Option WireState) (faults : ℕ)
    → WritesText text (Err http.OutOfMemory) wire wire faults faults
writes_nothing text wire faults = record {
  told = wrote_nothing text wire;
  cause = record { later = omega arith; failed = λ is. absurd (cc is) };
}

-- ---- texts that are gathered

pub gathers_none : (gathered : List ℕ) (wire : Option WireState) (faults : ℕ)
    → Gathers [] (Ok tt) gathered gathered wire wire faults faults
gathers_none gathered wire faults = record { front = []; parts = append-nil gathered; writes = writes_none wire faults }

pub gathers_both : (text more : List ℕ) (result : Result (Unit {0}) HttpError) (g h k : List ℕ)
    (a b c : Option WireState) (x y z : ℕ)
    → Gathers text (Ok tt) g h a b x y → Gathers more result h k b c y z → Gathers (text ++ more) result g k a c x z
gathers_both text more (Ok done) g h k a b c x y z first then = record {
  front = first.front ++ then.front;
  parts = sym (append_assoc g text more)
      ∙ ap (λ l. l ++ more) first.parts
      ∙ append_assoc first.front h more
      ∙ ap (λ l. first.front ++ l) then.parts
      ∙ sym (append_assoc first.front then.front k);
  writes = writes_both first.front then.front (Ok tt) a b c x y z first.writes then.writes;
}
gathers_both text more (Err error) g h k a b c x y z first then =
    subst (λ l. WritesText l (Err error) a c x z)
    (sym (sym (append_assoc g text more) ∙ ap (λ l. l ++ more) first.parts ∙ append_assoc first.front h more))
    (writes_both first.front (h ++ more) (Err error) a b c x y z first.writes then)

pub gathers_first : (text more : List ℕ) (error : HttpError) (g h : List ℕ) (a b : Option WireState) (x y : ℕ)
    → Gathers text (Err error) g h a b x y → Gathers (text ++ more) (Err error) g h a b x y
gathers_first text more error g h a b x y first =
    subst (λ l. WritesText l (Err error) a b x y) (append_assoc g text more)
    (writes_first (g ++ text) more error a b x y first)

pub gathers_nothing : (text : List ℕ) (g : List ℕ) (wire : Option WireState) (faults : ℕ)
    → Gathers text (Err http.OutOfMemory) g g wire wire faults faults
gathers_nothing text g wire faults = writes_nothing (g ++ text) wire faults

-- what is left is written at the end
pub gathers_all : (text : List ℕ) (result : Result (Unit {0}) HttpError) (g h : List ℕ) (a b c : Option WireState)
    (x y z : ℕ)
    → Gathers text (Ok tt) g h a b x y → WritesText h result b c y z → WritesText (g ++ text) result a c x z
gathers_all text result g h a b c x y z first then =
    subst (λ l. WritesText l result a c x z) (sym first.parts)
    (writes_both first.front h result a b c x y z first.writes then)
