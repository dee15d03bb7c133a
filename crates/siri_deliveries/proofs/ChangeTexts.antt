-- Each piece of a functional delivery of changes, and what is still to come behind it.
use Rattle.std.proofs.Common.{◌≡◌, ◌<◌, ℕ, true, false, List, [], ◌∷◌, ◌++◌, Option, Some, None, refl, sym}
use Rattle.std.proofs.Common.{ap, ◌∙◌, append_assoc, append-nil, filter_map, length, arith}
use Rattle.std.specs.Prelude.{IfSome, is_some}
use Rattle.json.specs.Token.{Token, end_object}
use Rattle.json.specs.Print.{print, print_from}
use Rattle.serde_json.specs.Data.{Data}
use Rattle.siri_json.specs.Tokens.{tokens_of}
use Rattle.siri_records.specs.declared.item.Service.{Service}
use Rattle.siri_records.specs.declared.item.Service.TheVariants as service
use Rattle.siri_records.specs.Keyed.{KeyChange}
use Rattle.siri_tables.specs.Appended.{entries_tokens}
use Rattle.siri_deliveries.specs.Frames.{written_frame}
use Rattle.siri_deliveries.specs.Removals.{written_removal}
use Rattle.siri_deliveries.specs.Layout.{front, middle, back, entry_writing, listed, where_unasked}
use Rattle.siri_deliveries.specs.Pieces.{items_of_changes, removals_of_changes, first_list, second_list, list_begin}
use Rattle.siri_deliveries.specs.Pieces.{list_end}
use Rattle.siri_deliveries.specs.Pieces.{change_writing, entries_of_changes, Leads, second_part, text_at}
use Rattle.siri_deliveries.specs.declared.pieces.DeliveryHead.{DeliveryHead}
use Rattle.siri_deliveries.specs.declared.pieces.Listed.{Listed}
use Rattle.siri_deliveries.specs.declared.pieces.Listed.TheVariants as list
use Rattle.siri_deliveries.specs.declared.pieces.Stage.TheVariants as stage
use Rattle.siri_deliveries.proofs.Joined.{cut_behind, cut_later, ends_list}
use Rattle.siri_deliveries.proofs.ItemTexts.{text_is}

-- ---- the entries of changes

items_entered : (s : Service) (cs : List KeyChange)
    → filter_map (entry_writing s) (items_of_changes cs) ≡ entries_of_changes list.Items s cs
items_entered s [] = refl
items_entered s ((key, None) ∷ cs) = items_entered s cs
items_entered s ((key, Some item) ∷ cs) = rw (items_entered s cs)

removals_entered : (s : Service) (cs : List KeyChange)
    → filter_map written_removal (removals_of_changes cs) ≡ entries_of_changes list.Removals s cs
removals_entered s [] = refl
removals_entered s ((key, None) ∷ cs) = rw (removals_entered s cs)
removals_entered s ((key, Some item) ∷ cs) = removals_entered s cs

abbrev a_list : Listed → Service → DeliveryHead → List Data → List Token
a_list l s h ds = listed (list_begin l s h) (list_end l s h) ds

-- the delivery of changes
changes_said : (s : Service) (h : DeliveryHead) (cs left : List KeyChange)
    → text_at s h cs left stage.Begin
    ≡ print (front s h
    ++ (a_list (first_list s) s h (entries_of_changes (first_list s) s cs) ++ (middle s h ++ second_part s h cs)))
changes_said service.Stop h cs left =
    text_is service.Stop h (items_of_changes cs) (removals_of_changes cs)
    ∙ rw (items_entered service.Stop cs, removals_entered service.Stop cs)
changes_said service.Timetable h cs left =
    text_is service.Timetable h (items_of_changes cs) (removals_of_changes cs)
    ∙ rw (items_entered service.Timetable cs, removals_entered service.Timetable cs)
changes_said service.Vehicle h cs left =
    text_is service.Vehicle h (items_of_changes cs) (removals_of_changes cs)
    ∙ rw (items_entered service.Vehicle cs, removals_entered service.Vehicle cs)
changes_said service.Situation h cs left =
    text_is service.Situation h (items_of_changes cs) (removals_of_changes cs)
    ∙ rw (items_entered service.Situation cs, removals_entered service.Situation cs)

abbrev closing : DeliveryHead → List Token
closing h = where_unasked h.subscriber (end_object ∷ [])

-- ---- a list behind what was written

regroup_begun : (out begin d ds end tail : List Token)
    → out ++ ((begin ++ ((d ++ ds) ++ end)) ++ tail) ≡ ((out ++ begin) ++ d) ++ (ds ++ (end ++ tail))
regroup_begun out begin d ds end tail = simp append_assoc

-- its first entry
list_begun : (out begin end tail new : List Token) (w : Option Data) (ds all : List Data) → Leads w ds all
    → IfSome w (λ tree. new ≡ (out ++ begin) ++ tokens_of tree)
    → print (out ++ (listed begin end all ++ tail)) ≡ print new ++ print_from true (entries_tokens ds ++ (end ++ tail))
list_begun out begin end tail new None ds all leads is = absurd leads
list_begun out begin end tail new (Some d) ds all leads is =
    rw (leads, is)
    (ap print (regroup_begun out begin (tokens_of d) (entries_tokens ds) end tail)
    ∙ cut_behind false (out ++ begin) d (entries_tokens ds ++ (end ++ tail)))

-- a further one
list_goes_on : (text : List ℕ) (tail : List Token) (w : Option Data) (ds all : List Data) → Leads w ds all
    → IfSome w (λ tree. text ≡ 44 ∷ print (tokens_of tree))
    → print_from true (entries_tokens all ++ tail) ≡ text ++ print_from true (entries_tokens ds ++ tail)
list_goes_on text tail None ds all leads is = absurd leads
list_goes_on text tail (Some d) ds all leads is =
    rw (leads, is)
    (ap (print_from true) (append_assoc (tokens_of d) (entries_tokens ds) tail)
    ∙ cut_later d (entries_tokens ds ++ tail))

-- its end
list_ends : (l : Listed) (s : Service) (h : DeliveryHead) (tail : List Token)
    → print_from true (list_end l s h ++ tail) ≡ print (list_end l s h ++ tail)
list_ends list.Items service.Stop h tail = ends_list true tail
list_ends list.Items service.Timetable h tail = ends_list true tail
list_ends list.Items service.Vehicle h tail = ends_list true tail
list_ends list.Items service.Situation h tail = ends_list true ((end_object ∷ []) ++ tail)
list_ends list.Removals service.Stop h tail = ends_list true tail
list_ends list.Removals service.Timetable h tail = ends_list true (closing h ++ tail)
list_ends list.Removals service.Vehicle h tail = ends_list true tail
list_ends list.Removals service.Situation h tail = ends_list true (closing h ++ tail)

-- ---- the pieces

pub begun : (s : Service) (h : DeliveryHead) (cs left rest : List KeyChange) (w : Option Data) (new : List Token)
    → Leads w (entries_of_changes (first_list s) s rest) (entries_of_changes (first_list s) s cs)
    → IfSome w (λ tree. new ≡ (([] ++ front s h) ++ list_begin (first_list s) s h) ++ tokens_of tree)
    → text_at s h cs left stage.Begin ≡ print new ++ text_at s h cs rest stage.First
begun s h cs left rest w new leads is =
    changes_said s h cs left
    ∙ list_begun (front s h) (list_begin (first_list s) s h) (list_end (first_list s) s h)
    (middle s h ++ second_part s h cs) new w
    (entries_of_changes (first_list s) s rest) (entries_of_changes (first_list s) s cs) leads is

pub begun_without : (s : Service) (h : DeliveryHead) (cs left : List KeyChange)
    → entries_of_changes (first_list s) s cs ≡ []
    → text_at s h cs left stage.Begin ≡ print ((([] ++ front s h) ++ middle s h) ++ second_part s h cs)
begun_without s h cs left none =
    changes_said s h cs left ∙ rw none (ap print (sym (append_assoc (front s h) (middle s h) (second_part s h cs))))

pub first_further : (s : Service) (h : DeliveryHead) (cs left rest : List KeyChange) (w : Option Data) (text : List ℕ)
    → Leads w (entries_of_changes (first_list s) s rest) (entries_of_changes (first_list s) s left)
    → IfSome w (λ tree. text ≡ 44 ∷ print (tokens_of tree))
    → text_at s h cs left stage.First ≡ text ++ text_at s h cs rest stage.First
first_further s h cs left rest w text leads is =
    list_goes_on text (list_end (first_list s) s h ++ (middle s h ++ second_part s h cs)) w
    (entries_of_changes (first_list s) s rest) (entries_of_changes (first_list s) s left) leads is

pub first_ended : (s : Service) (h : DeliveryHead) (cs left : List KeyChange)
    → entries_of_changes (first_list s) s left ≡ []
    → text_at s h cs left stage.First
    ≡ print ((([] ++ list_end (first_list s) s h) ++ middle s h) ++ second_part s h cs)
first_ended s h cs left none =
    rw none (list_ends (first_list s) s h (middle s h ++ second_part s h cs)
    ∙ ap print (sym (append_assoc (list_end (first_list s) s h) (middle s h) (second_part s h cs))))

pub second_begun : (s : Service) (h : DeliveryHead) (cs rest : List KeyChange) (w : Option Data) (out new : List Token)
    → Leads w (entries_of_changes (second_list s) s rest) (entries_of_changes (second_list s) s cs)
    → IfSome w (λ tree. new ≡ (out ++ list_begin (second_list s) s h) ++ tokens_of tree)
    → print (out ++ second_part s h cs) ≡ print new ++ text_at s h cs rest stage.Second
second_begun s h cs rest w out new leads is =
    list_begun out (list_begin (second_list s) s h) (list_end (second_list s) s h) (back s h) new w
    (entries_of_changes (second_list s) s rest) (entries_of_changes (second_list s) s cs) leads is

pub second_left_out : (s : Service) (h : DeliveryHead) (cs : List KeyChange) (out : List Token)
    → entries_of_changes (second_list s) s cs ≡ []
    → print (out ++ second_part s h cs) ≡ print (out ++ back s h)
second_left_out s h cs out none = rw none

pub second_further : (s : Service) (h : DeliveryHead) (cs left rest : List KeyChange) (w : Option Data) (text : List ℕ)
    → Leads w (entries_of_changes (second_list s) s rest) (entries_of_changes (second_list s) s left)
    → IfSome w (λ tree. text ≡ 44 ∷ print (tokens_of tree))
    → text_at s h cs left stage.Second ≡ text ++ text_at s h cs rest stage.Second
second_further s h cs left rest w text leads is =
    list_goes_on text (list_end (second_list s) s h ++ back s h) w
    (entries_of_changes (second_list s) s rest) (entries_of_changes (second_list s) s left) leads is

pub second_ended : (s : Service) (h : DeliveryHead) (cs left : List KeyChange)
    → entries_of_changes (second_list s) s left ≡ []
    → text_at s h cs left stage.Second ≡ print (([] ++ list_end (second_list s) s h) ++ back s h) ++ []
second_ended s h cs left none =
    rw none (list_ends (second_list s) s h (back s h)
    ∙ sym (append-nil (print (list_end (second_list s) s h ++ back s h))))

-- ---- no piece is empty

pub front_filled : (s : Service) (h : DeliveryHead) → 0 < length (print (front s h))
unfolding print_from
front_filled service.Stop h = omega arith
front_filled service.Timetable h = omega arith
front_filled service.Vehicle h = omega arith
front_filled service.Situation h = omega arith

pub end_filled : (l : Listed) (s : Service) (h : DeliveryHead) → 0 < length (print (list_end l s h))
unfolding print_from
end_filled list.Items service.Stop h = omega arith
end_filled list.Items service.Timetable h = omega arith
end_filled list.Items service.Vehicle h = omega arith
end_filled list.Items service.Situation h = omega arith
end_filled list.Removals service.Stop h = omega arith
end_filled list.Removals service.Timetable h = omega arith
end_filled list.Removals service.Vehicle h = omega arith
end_filled list.Removals service.Situation h = omega arith

-- ---- which changes have an entry

pub has_item : (s : Service) (c : KeyChange) → is_some (change_writing list.Items s c) ≡ is_some c.1
unfolding written_frame
has_item s (key, None) = refl
has_item service.Stop (key, Some item) = refl
has_item service.Timetable (key, Some item) = refl
has_item service.Vehicle (key, Some item) = refl
has_item service.Situation (key, Some item) = refl
