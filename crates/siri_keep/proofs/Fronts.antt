-- One write: what it makes of the rows, and what a stop may leave.
use Rattle.std.proofs.Common.{◌≡◌, ◌⊎◌, ℕ, List, [], ◌∷◌, ◌++◌, length, Option, Result, Ok, Err, OnOk, refl, ap, sym, ◌∙◌, subst, inl, inr, append-nil}
use Rattle.std.specs.List.{AllByRecursion}
use Rattle.std.proofs.Math.Seq.{take-length}
use Rattle.siri_outside.specs.OutsideCalls.{WhereTold}
use Rattle.siri_model.specs.History.{History}
use Rattle.siri_producer.specs.Known.{Follows, StandsFor}
use Rattle.siri_outside.specs.declared.rows.Put.{Put}
use Rattle.siri_outside.specs.Rows.{Rows, with_puts}
use Rattle.siri_outside.specs.Shelves.{ShelfState}
use Rattle.siri_keeping.specs.Keeping.{AddsOnly}
use Rattle.siri_keeping.specs.Keeps.{Keeps}
use Rattle.siri_keep.specs.declared.errors.KeepError.{KeepError}
use Rattle.siri_keep.specs.declared.kept.Kept.{Kept}
use Rattle.siri_keep.specs.Calls.{AddsFronts, FollowsOn, GoesOnAs, GoesOnKept, Holds, KeepsFront, LeavesLive, StandsOn, StaysUnless}
use Rattle.siri_keep.specs.Planning.{Plans, WritesAll}
use Rattle.siri_keep.proofs.Left.{keeps_of}
use Rattle.siri_keep.proofs.Told.{told_same, told_weaker}

-- ---- weaker words of what a stop may leave

module _ (B A C D : Rows → Type 0) (f : (r : Rows) → B r → C r) (g : (r : Rows) → A r → D r) where
  one_weaker : (r : Rows) → (B r ⊎ A r) → (C r ⊎ D r)
  one_weaker r (inl b) = inl (f r b)
  one_weaker r (inr a) = inr (g r a)

  all_weaker : (added : List Rows) → AllByRecursion (λ r. B r ⊎ A r) added → AllByRecursion (λ r. C r ⊎ D r) added
  all_weaker [] each = tt
  all_weaker (r ∷ added) each = (one_weaker r each.0, all_weaker added each.1)

  pub adds_weaker : (s t : ShelfState) → AddsOnly B A s t → AddsOnly C D s t
  adds_weaker s t adds = record {
    added = adds.added;
    trail = adds.trail;
    each = all_weaker adds.added adds.each;
    present = one_weaker t.rows adds.present;
    named = adds.named;
  }

-- ---- what a call comes to

-- where nothing was written
pub fronts_same : (old : Kept) (steps : History) (s : ShelfState) → AddsFronts old steps s s
fronts_same old steps s = λ h holds. record {
  added = [];
  trail = sym (append-nil s.trail);
  each = tt;
  present = inl (keeps_of old s.rows h holds);
  named = refl;
}

module _ (old mid new : Kept) (steps : History) (puts : List Put) (plans : Plans old mid steps puts)
    (rest : new ≡ record mid { is_closed = new.is_closed }) where
  abbrev name : List ℕ
  name = old.producer.responder.name

  holds_new : (rows : Rows) (h : History) → Holds mid rows h → Holds new rows h
  holds_new rows h m =
      subst (λ (k : Kept). Holds k rows h) (sym rest) (record { left = m.left; stands = m.stands; proper = m.proper })

  pub stands_on : StandsOn old.producer new.producer steps
  stands_on = λ h s. subst (λ (k : Kept). StandsFor k.producer (h ++ steps)) (sym rest) (plans.stands h s)

  pub follows_on : FollowsOn old.producer new.producer steps
  follows_on = λ h f. subst (λ (k : Kept). Follows k.producer (h ++ steps)) (sym rest) (plans.follows h f)

  pub name_stays : new.producer.responder.name ≡ old.producer.responder.name
  name_stays = ap (λ (k : Kept). k.producer.responder.name) rest ∙ plans.name

  keeps_after : (rows : Rows) (h : History) → Holds old rows h → Keeps name (with_puts rows puts) (h ++ steps)
  keeps_after rows h holds =
      subst (λ n. Keeps n (with_puts rows puts) (h ++ steps)) plans.name
      (keeps_of mid (with_puts rows puts) (h ++ steps) (plans.holds rows h holds))

  pub goes_kept : (before after : Rows) → after ≡ with_puts before puts → GoesOnKept old new steps before after
  goes_kept before after is = λ h holds.
      subst (λ rows. GoesOnAs old new steps before rows h) (sym is) (record {
        holds = holds_new (with_puts before puts) (h ++ steps) (plans.holds before h holds);
        keeps = keeps_after before h holds;
      })

  front : (rows : Rows) (h : History) → Holds old rows h → KeepsFront name h steps (with_puts rows puts)
  front rows h holds =
      (length steps, subst (λ all. Keeps name (with_puts rows puts) (h ++ all)) (sym (take-length steps)) (keeps_after rows h holds))

  pub adds_fronts : (s t : ShelfState) → AddsOnly (λ rows. rows ≡ s.rows) (λ rows. rows ≡ with_puts s.rows puts) s t
      → AddsFronts old steps s t
  adds_fronts s t adds = λ h holds. adds_weaker (λ rows. rows ≡ s.rows) (λ rows. rows ≡ with_puts s.rows puts)
      (λ rows. Keeps name rows h) (KeepsFront name h steps)
      (λ rows is. subst (λ r. Keeps name r h) (sym is) (keeps_of old s.rows h holds))
      (λ rows is. subst (KeepsFront name h steps) (sym is) (front s.rows h holds))
      s t adds

  -- as it is told
  module _ {T : Type 0} (result : Result T KeepError) (x y : Option ShelfState)
      (told : WhereTold x y (λ s t. WritesAll puts s t result)) where
    pub told_fronts : WhereTold x y (AddsFronts old steps)
    told_fronts = told_weaker (λ s t. WritesAll puts s t result) (AddsFronts old steps) x y (λ s t w. adds_fronts s t w.trail) told

    pub told_goes : OnOk result (WhereTold x y (λ s t. GoesOnKept old new steps s.rows t.rows))
    told_goes = by result told
      where
        by : (r : Result T KeepError) → WhereTold x y (λ s t. WritesAll puts s t r)
            → OnOk r (WhereTold x y (λ s t. GoesOnKept old new steps s.rows t.rows))
        by (Ok value) w = told_weaker (λ s t. WritesAll puts s t (Ok value)) (λ s t. GoesOnKept old new steps s.rows t.rows) x y
            (λ s t w. goes_kept s.rows t.rows w.ok) w
        by (Err error) w = tt

-- where the rows of dead items leave, those of live ones are left
pub told_cleaned : {T : Type 0} (old : Kept) (puts : List Put) → ((rows : Rows) → LeavesLive old rows (with_puts rows puts))
    → (result : Result T KeepError) (x y : Option ShelfState) → WhereTold x y (λ s t. WritesAll puts s t result)
    → OnOk result (WhereTold x y (λ s t. LeavesLive old s.rows t.rows))
told_cleaned {T} old puts leaves (Ok value) x y told = told_weaker (λ s t. WritesAll {T = T} puts s t (Ok value))
    (λ s t. LeavesLive old s.rows t.rows) x y (λ s t w. subst (LeavesLive old s.rows) (sym w.ok) (leaves s.rows)) told
told_cleaned old puts leaves (Err error) x y told = tt

-- where it wasn't written, what was kept stays
pub told_stays_ok : {T U : Type 0} (puts : List Put) (a : T) (b : U) (x y : Option ShelfState)
    → WhereTold x y (λ s t. WritesAll {T = T} puts s t (Ok a)) → WhereTold x y (StaysUnless {T = U} (Ok b))
told_stays_ok {T} {U} puts a b x y told = told_weaker (λ s t. WritesAll {T = T} puts s t (Ok a)) (StaysUnless {T = U} (Ok b)) x y
    (λ s t w. tt) told

pub told_stays_err : (T U : Type 0) (puts : List Put) (error : KeepError) (x y : Option ShelfState)
    → WhereTold x y (λ s t. WritesAll {T = T} puts s t (Err error)) → WhereTold x y (StaysUnless {T = U} (Err error))
told_stays_err T U puts error x y told = told_weaker (λ s t. WritesAll {T = T} puts s t (Err error)) (StaysUnless {T = U} (Err error)) x y
    (λ s t w. w.stays) told

pub told_stays : {T : Type 0} (puts : List Put) (result : Result T KeepError) (x y : Option ShelfState)
    → WhereTold x y (λ s t. WritesAll puts s t result) → WhereTold x y (StaysUnless result)
told_stays {T} puts (Ok value) x y told = told_stays_ok {T = T} {U = T} puts value value x y told
told_stays {T} puts (Err error) x y told = told_stays_err T T puts error x y told

-- where nothing was done
pub told_stays_same : {T : Type 0} (result : Result T KeepError) (x : Option ShelfState) → WhereTold x x (StaysUnless result)
told_stays_same {T} (Ok value) x = told_same (StaysUnless {T = T} (Ok value)) x (λ s. tt)
told_stays_same {T} (Err error) x = told_same (StaysUnless {T = T} (Err error)) x (λ s. refl)

pub told_fronts_same : (old : Kept) (steps : History) (x : Option ShelfState) → WhereTold x x (AddsFronts old steps)
told_fronts_same old steps x = told_same (AddsFronts old steps) x (λ s. fronts_same old steps s)
