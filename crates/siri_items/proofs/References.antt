-- The rows of how a journey is named.
use Rattle.std.proofs.Common.{◌≡◌, ℕ, true, nat_le, List, [], ◌∷◌, Option, Some, None, Ok, refl, ap, IsSome, ◌∙◌}
use Rattle.std.specs.Prelude.{IfSome, option_and_then}
use Rattle.serde_json.specs.Data.{Data}
use Rattle.siri_json.specs.Canonical.{as_texts}
use Rattle.siri_json.specs.Values.{object_in, member_of}
use Rattle.siri_items.specs.declared.names.TheConstants.{DATA_FRAME_REF, DATED_VEHICLE_JOURNEY_REF, FRAMED_VEHICLE_JOURNEY_REF}
use Rattle.siri_tables.specs.Refusals.{◌>>=◌}
use Rattle.siri_tables.specs.Rules.{name, row, required_row, required}
use Rattle.siri_items.specs.Calls.{framed_ref, read_framed_ref_rows, journey_ref, plain_journey_ref, required_journey_ref}
use Rattle.siri_items.specs.Calls.{plain_required_journey_ref, framed_ref_of, optional_ref, mandatory_ref, rows_of_framed_ref}
use Rattle.siri_items.specs.Calls.{written_framed_ref, written_dated}
use Rattle.siri_tables.specs.Writing.{row_object, written_text}
use Rattle.siri_tables.specs.Proper.{IsName}
use Rattle.siri_tables.proofs.Back.{found_again, GivesBack, row_again}
use Rattle.siri_tables.proofs.BackValues.{name_back, some_name_back}
use Rattle.siri_tables.proofs.RowSpells.{row_ok, bind_ok, ok_is, row_spelled, some_is}
use Rattle.siri_tables.proofs.CanonicalParts.{IsCanonicalWithin, MayBeWithin, text_within, some_text_within, row_within, ◌then◌, object_within}
use Rattle.siri_json.specs.declared.path.Step.TheVariants.{Member}
use Rattle.siri_items.specs.declared.read_call.JourneyRef.{JourneyRef}
use Rattle.siri_items.specs.declared.read_call.RequiredJourneyRef.{RequiredJourneyRef}
use Rattle.siri_json.specs.TextsOfTrees.{TextsAreUtf8}
use Rattle.siri_tables.proofs.ProperParts.{OnRead, Yields, on_ok, on_bind, required_on, name_yields, row_on, inside_on}
use Rattle.siri_tables.proofs.TableLaws.{RowLaws, at_depth}
use Rattle.siri_items.specs.Spelling.{SpellsFramedRef}

framed_ref_back : (frame dated : List ℕ) → IsName frame → IsName dated
    → GivesBack framed_ref (written_framed_ref (Some frame) (written_text dated))
    (Some (record { data_frame_ref = Some frame; dated_vehicle_journey_ref = dated }))
unfolding written_framed_ref framed_ref read_framed_ref_rows object_in
framed_ref_back frame dated frame_is dated_is =
    let rs = rows_of_framed_ref frame (written_text dated) in
    let d = as_texts (row_object rs) in
    let first = row_ok name DATA_FRAME_REF.now d (Some frame) (row_again name DATA_FRAME_REF.now rs _ (Some frame) refl (name_back frame frame_is)) in
    let second = row_ok name DATED_VEHICLE_JOURNEY_REF.now d (Some dated)
    (row_again name DATED_VEHICLE_JOURNEY_REF.now rs _ (Some dated) refl (name_back dated dated_is)) in
    rw (first, second) refl

journey_ref_back : (d : Data) (frame dated : Option (List ℕ)) → IfSome frame IsName → IfSome dated IsName → (IsSome frame → IsSome dated)
    → member_of FRAMED_VEHICLE_JOURNEY_REF.now d ≡ found_again (written_framed_ref frame (option_and_then written_text dated))
    → member_of DATED_VEHICLE_JOURNEY_REF.now d ≡ found_again (written_dated frame (option_and_then written_text dated))
    → journey_ref d ≡ Ok (record { data_frame_ref = frame; dated_vehicle_journey_ref = dated })
unfolding journey_ref plain_journey_ref row written_dated written_framed_ref
journey_ref_back d None dated frame_is dated_is framed_ref_is at_framed_ref at_dated = rw (at_framed_ref, at_dated, some_name_back dated dated_is) refl
journey_ref_back d (Some frame) None frame_is dated_is framed_ref_is at_framed_ref at_dated = absurd (cc (framed_ref_is refl))
journey_ref_back d (Some frame) (Some dated) frame_is dated_is framed_ref_is at_framed_ref at_dated =
    rw (at_framed_ref, framed_ref_back frame dated frame_is dated_is) refl

required_journey_ref_back : (d : Data) (frame : Option (List ℕ)) (dated : List ℕ) → IfSome frame IsName → IsName dated
    → member_of FRAMED_VEHICLE_JOURNEY_REF.now d ≡ found_again (written_framed_ref frame (written_text dated))
    → member_of DATED_VEHICLE_JOURNEY_REF.now d ≡ found_again (written_dated frame (written_text dated))
    → required_journey_ref d ≡ Ok (record { data_frame_ref = frame; dated_vehicle_journey_ref = dated })
unfolding required_journey_ref plain_required_journey_ref required_row row written_dated written_framed_ref
required_journey_ref_back d None dated frame_is dated_is at_framed_ref at_dated = rw (at_framed_ref, at_dated, name_back dated dated_is) refl
required_journey_ref_back d (Some frame) dated frame_is dated_is at_framed_ref at_dated = rw (at_framed_ref, framed_ref_back frame dated frame_is dated_is) refl

frame_within : (frame : List ℕ) (dated : Option Data) → IsName frame → MayBeWithin 0 dated → IsCanonicalWithin 1 (row_object (rows_of_framed_ref frame dated))
frame_within frame dated frame_is dated_is =
    object_within 0 (rows_of_framed_ref frame dated)
    (row_within 0 DATA_FRAME_REF.now _ refl (text_within 0 frame frame_is.utf8)
    then row_within 0 DATED_VEHICLE_JOURNEY_REF.now _ refl dated_is then tt)

framed_ref_within : (frame dated : Option (List ℕ)) → IfSome frame IsName → IfSome dated IsName
    → MayBeWithin 1 (written_framed_ref frame (option_and_then written_text dated))
unfolding written_framed_ref
framed_ref_within None dated frame_is dated_is = tt
framed_ref_within (Some frame) dated frame_is dated_is = frame_within frame (option_and_then written_text dated) frame_is (some_text_within 0 _ dated dated_is)

dated_within : (frame dated : Option (List ℕ)) → IfSome dated IsName → MayBeWithin 1 (written_dated frame (option_and_then written_text dated))
unfolding written_dated
dated_within None dated is = some_text_within 1 _ dated is
dated_within (Some frame) dated is = tt

abbrev IsProperRequiredRef : RequiredJourneyRef → Type 0
IsProperRequiredRef r = IfSome r.data_frame_ref IsName × IsName r.dated_vehicle_journey_ref

abbrev IsProperRef : JourneyRef → Type 0
IsProperRef r = IfSome r.data_frame_ref IsName × IfSome r.dated_vehicle_journey_ref IsName × (IsSome r.data_frame_ref → IsSome r.dated_vehicle_journey_ref)

pub name_row : (key : List ℕ) (d : Data) → TextsAreUtf8 d → OnRead (row name key d) (λ o. IfSome o IsName)
name_row key d u = row_on name IsName name_yields key d u

framed_ref_of_on : (frame dated : Option (List ℕ)) → IfSome frame IsName → IfSome dated IsName
    → OnRead (framed_ref_of frame dated) (λ o. IfSome o IsProperRequiredRef)
framed_ref_of_on None None f h = tt
framed_ref_of_on (Some frame) None f h = tt
framed_ref_of_on None (Some dated) f h = (f, h)
framed_ref_of_on (Some frame) (Some dated) f h = (f, h)

read_framed_ref_rows_on : (d : Data) → TextsAreUtf8 d → OnRead (read_framed_ref_rows d) (λ o. IfSome o IsProperRequiredRef)
unfolding read_framed_ref_rows
read_framed_ref_rows_on d u =
    on_bind (λ o. IfSome o IsName) (λ o. IfSome o IsProperRequiredRef) (row name DATA_FRAME_REF.now d) _ (name_row DATA_FRAME_REF.now d u)
    (λ frame f. on_bind (λ o. IfSome o IsName) (λ o. IfSome o IsProperRequiredRef)
    (row name DATED_VEHICLE_JOURNEY_REF.now d) _ (name_row DATED_VEHICLE_JOURNEY_REF.now d u)
    (λ dated h. framed_ref_of_on frame dated f h))

framed_ref_yields : Yields framed_ref IsProperRequiredRef
unfolding framed_ref
framed_ref_yields = λ d u. inside_on IsProperRequiredRef read_framed_ref_rows read_framed_ref_rows_on d u

framed_ref_row : (d : Data) → TextsAreUtf8 d → OnRead (row framed_ref FRAMED_VEHICLE_JOURNEY_REF.now d) (λ o. IfSome o IsProperRequiredRef)
framed_ref_row d u = row_on framed_ref IsProperRequiredRef framed_ref_yields FRAMED_VEHICLE_JOURNEY_REF.now d u

plain_on : (d : Data) → TextsAreUtf8 d → (o : Option RequiredJourneyRef) → IfSome o IsProperRequiredRef → OnRead (plain_journey_ref d o) IsProperRef
unfolding plain_journey_ref
plain_on d u None is =
    on_bind (λ o. IfSome o IsName) IsProperRef (row name DATED_VEHICLE_JOURNEY_REF.now d) _
    (name_row DATED_VEHICLE_JOURNEY_REF.now d u) (λ dated h. (tt, h, λ never. absurd (cc never)))
plain_on d u (Some r) is = (is.0, is.1, λ required. refl)

journey_ref_on : (d : Data) → TextsAreUtf8 d → OnRead (journey_ref d) IsProperRef
unfolding journey_ref
journey_ref_on d u = on_bind (λ o. IfSome o IsProperRequiredRef) IsProperRef
    (row framed_ref FRAMED_VEHICLE_JOURNEY_REF.now d) (plain_journey_ref d) (framed_ref_row d u)
    (λ o is. plain_on d u o is)

plain_required_journey_ref_on : (d : Data) → TextsAreUtf8 d → (o : Option RequiredJourneyRef)
    → IfSome o IsProperRequiredRef → OnRead (plain_required_journey_ref d o) IsProperRequiredRef
unfolding plain_required_journey_ref required_row
plain_required_journey_ref_on d u None is =
    on_bind IsName IsProperRequiredRef (row name DATED_VEHICLE_JOURNEY_REF.now d >>= required (Member DATED_VEHICLE_JOURNEY_REF.now ∷ [])) _
    (on_bind (λ o. IfSome o IsName) IsName (row name DATED_VEHICLE_JOURNEY_REF.now d)
    (required (Member DATED_VEHICLE_JOURNEY_REF.now ∷ [])) (name_row DATED_VEHICLE_JOURNEY_REF.now d u)
    (λ o h. required_on IsName (Member DATED_VEHICLE_JOURNEY_REF.now ∷ []) o h))
    (λ dated h. (tt, h))
plain_required_journey_ref_on d u (Some r) is = is

required_journey_ref_on : (d : Data) → TextsAreUtf8 d → OnRead (required_journey_ref d) IsProperRequiredRef
unfolding required_journey_ref
required_journey_ref_on d u = on_bind (λ o. IfSome o IsProperRequiredRef) IsProperRequiredRef
    (row framed_ref FRAMED_VEHICLE_JOURNEY_REF.now d) (plain_required_journey_ref d) (framed_ref_row d u)
    (λ o is. plain_required_journey_ref_on d u o is)

framed_ref_is : (frame dated : Option (List ℕ)) (r : RequiredJourneyRef) → framed_ref_of frame dated ≡ Ok (Some r)
    → (frame ≡ r.data_frame_ref) × (dated ≡ Some r.dated_vehicle_journey_ref)
framed_ref_is None None r e = absurd cc
framed_ref_is (Some frame) None r e = absurd cc
framed_ref_is None (Some dated) r e =
    let same = some_is (record { data_frame_ref = None; dated_vehicle_journey_ref = dated }) r (ok_is _ _ e) in
    (ap (λ (x : RequiredJourneyRef). x.data_frame_ref) same, ap (λ (x : RequiredJourneyRef). Some x.dated_vehicle_journey_ref) same)
framed_ref_is (Some frame) (Some dated) r e =
    let same = some_is (record { data_frame_ref = Some frame; dated_vehicle_journey_ref = dated }) r (ok_is _ _ e) in
    (ap (λ (x : RequiredJourneyRef). x.data_frame_ref) same, ap (λ (x : RequiredJourneyRef). Some x.dated_vehicle_journey_ref) same)

pub framed_ref_spelled : (d : Data) (r : RequiredJourneyRef) → read_framed_ref_rows d ≡ Ok (Some r) → SpellsFramedRef d r
unfolding read_framed_ref_rows
framed_ref_spelled d r e =
    let r1 = bind_ok (row name DATA_FRAME_REF.now d) _ (Some r) e in
    let r2 = bind_ok (row name DATED_VEHICLE_JOURNEY_REF.now d) _ (Some r) r1.2 in
    let is = framed_ref_is r1.0 r2.0 r r2.2 in
    record {
      data_frame_ref = row_spelled name DATA_FRAME_REF.now d r.data_frame_ref (r1.1 ∙ ap Ok is.0);
      dated_vehicle_journey_ref = row_spelled name DATED_VEHICLE_JOURNEY_REF.now d (Some r.dated_vehicle_journey_ref) (r2.1 ∙ ap Ok is.1);
    }

framed_ref_by : (frame : Option (List ℕ)) (dated : List ℕ)
    → framed_ref_of frame (Some dated) ≡ Ok (Some
    (record { data_frame_ref = frame; dated_vehicle_journey_ref = dated }))
framed_ref_by None dated = refl
framed_ref_by (Some frame) dated = refl

pub framed_ref_reads : (d : Data) (r : RequiredJourneyRef) → SpellsFramedRef d r → read_framed_ref_rows d ≡ Ok (Some r)
unfolding read_framed_ref_rows
framed_ref_reads d r s_ =
    rw (
      row_ok name DATA_FRAME_REF.now d r.data_frame_ref s_.data_frame_ref,
      row_ok name DATED_VEHICLE_JOURNEY_REF.now d (Some r.dated_vehicle_journey_ref) s_.dated_vehicle_journey_ref,
    ) (framed_ref_by r.data_frame_ref r.dated_vehicle_journey_ref)

pub optional_ref_laws : {S : Type 0} {most : ℕ} {of : S → JourneyRef} → nat_le 1 most ≡ true → RowLaws most (optional_ref of)
optional_ref_laws {most = most} le = record {
  spelled = λ d r e. e;
  reads = λ d r e. e;
  back = λ d r is there. journey_ref_back d r.data_frame_ref r.dated_vehicle_journey_ref is.0 is.1 is.2 there.0 there.1.0;
  within = λ r is. (
    at_depth 1 most FRAMED_VEHICLE_JOURNEY_REF.now _ refl le (framed_ref_within r.data_frame_ref r.dated_vehicle_journey_ref is.0 is.1),
    (at_depth 1 most DATED_VEHICLE_JOURNEY_REF.now _ refl le (dated_within r.data_frame_ref r.dated_vehicle_journey_ref is.1), tt),
  );
  proper = λ d r u e. on_ok IsProperRef (journey_ref d) r (journey_ref_on d u) e;
}

pub mandatory_ref_laws : {S : Type 0} {most : ℕ} {of : S → RequiredJourneyRef} → nat_le 1 most ≡ true → RowLaws most (mandatory_ref of)
mandatory_ref_laws {most = most} le = record {
  spelled = λ d r e. e;
  reads = λ d r e. e;
  back = λ d r is there. required_journey_ref_back d r.data_frame_ref r.dated_vehicle_journey_ref is.0 is.1 there.0 there.1.0;
  within = λ r is. (
    at_depth 1 most FRAMED_VEHICLE_JOURNEY_REF.now _ refl le (framed_ref_within r.data_frame_ref (Some r.dated_vehicle_journey_ref) is.0 is.1),
    (at_depth 1 most DATED_VEHICLE_JOURNEY_REF.now _ refl le (dated_within r.data_frame_ref (Some r.dated_vehicle_journey_ref) is.1), tt),
  );
  proper = λ d r u e. on_ok IsProperRequiredRef (required_journey_ref d) r (required_journey_ref_on d u) e;
}
