-- A run over one document.
use Rattle.std.proofs.Common.{◌≡◌, ◌⊎◌, ◌+◌, ◌≤◌, ◌<◌, ℕ, List, [], ◌++◌, None, Some, Bool, true, false, Ok, Err, length, take, drop, min, refl, sym}
use Rattle.std.proofs.Common.{ap, ◌∙◌, subst, append-nil, arith, length-append, inl, inr}
use Rattle.std.specs.Prelude.{MatchBool}
use Rattle.std.specs.Io.KnownBytes.{IsAtEnd}
use Rattle.std.proofs.lemmas.List.{drop_all, length-take}
use Rattle.std.proofs.Math.Nat.{eq-or-lt_of_le}
use Rattle.std.proofs.Math.Seq.{take-append_seam, drop-append_seam}
use Rattle.siri_base.specs.declared.reason.Reason.TheVariants as reason
use Rattle.siri_base.specs.declared.status.Status.{Status}
use Rattle.siri_base.specs.declared.status.Status.TheVariants as status
use Rattle.siri_messages.specs.declared.message.Message.{Message}
use Rattle.siri_wire.specs.Documents.{message_of}
use Rattle.siri_wire.proofs.Documents.{document_too_long}
use Rattle.siri_lines.specs.RunResult.{RunResult}
use Rattle.siri_lines.specs.Ends.{Bytes, Ends, AppendsFront, ReadsAll, is_cut}
use Rattle.siri_document.specs.OneDocument.{Answered, Answers, IsDocument, Tells, told_by, told_of}

-- a buffer after its whole was lent and came back
pub lent_whole : (n : ℕ) (lent items : List ℕ) → length lent ≡ length items → n ≡ length items → take n (lent ++ drop (length lent) items) ≡ lent
lent_whole n lent items e h = ap (λ k. take k (lent ++ drop (length lent) items)) (h ∙ sym e) ∙ take-append_seam lent (drop (length lent) items)

-- a list of which at most so many are kept
pub kept_length : (n : ℕ) (before kept : List ℕ) → kept ≡ take n before → length kept ≡ min n (length before)
kept_length n before kept e = ap length e ∙ length-take n before

-- a list that grew by at most so many
pub grown_length : (before piece after : List ℕ) (n most : ℕ) → after ≡ before ++ take n piece → n ≤ most → length after ≤ length before + most
grown_length before piece after n most e h = omega (arith, ap length e ∙ length-append before (take n piece), length-take n piece, h)

-- the message of what was read is that of the whole input
pub message_same : (input later document : List ℕ) → input ≡ document ++ later → length document ≤ 8388609
    → (length document < 8388609 → later ≡ []) → message_of document ≡ message_of input
message_same input later document e bound whole = choose (eq-or-lt_of_le bound)
  where
    choose : (length document ≡ 8388609) ⊎ (length document < 8388609) → message_of document ≡ message_of input
    choose (inl n) =
        document_too_long document (omega (arith, n))
        ∙ sym (document_too_long input (omega (arith, n, ap length e, length-append document later)))
    choose (inr n) = ap message_of (sym (append-nil document) ∙ ap (λ l. document ++ l) (sym (whole n)) ∙ sym e)

-- what the input has left where it is read to its end, but no further than so many bytes
pub input_read : (most : ℕ) (input later document : List ℕ) → input ≡ document ++ later → length document ≤ most
    → (length document < most → later ≡ []) → later ≡ drop most input
input_read most input later document e bound whole = choose (eq-or-lt_of_le bound)
  where
    choose : (length document ≡ most) ⊎ (length document < most) → later ≡ drop most input
    choose (inl n) = sym (drop-append_seam document later) ∙ ap (λ k. drop k (document ++ later)) n ∙ ap (drop most) (sym e)
    choose (inr n) =
        let all : input ≡ document = e ∙ ap (λ l. document ++ l) (whole n) ∙ append-nil document in
        whole n ∙ sym (ap (drop most) all ∙ drop_all most document bound)

-- what is told of a document, by its message or its refusal
told_is : (text : Message → List ℕ) (document : List ℕ) → told_by text document ≡ told_of text (message_of document)
unfolding told_by
told_is text document = refl

pub told_answers : (text : Message → List ℕ) (input left old new : Bytes) (document : List ℕ) (told : RunResult)
    (end : Status) → IsDocument input left document → told ≡ told_by text document → Tells old told new end
    → Answers (told_by text) input left old new end
told_answers text None left old new document told end d e w = tt
told_answers text (Some input) None old new document told end d e w = absurd d.taken
told_answers text (Some input) (Some later) old new document told end d e w =
    let same : told ≡ told_by text input = e ∙ told_is text document
    ∙ ap (told_of text) (message_same input later document d.taken d.bound d.whole) ∙ sym (told_is text input) in
    let read : Some later ≡ Some (drop 8388609 input) = ap Some (input_read 8388609 input later document d.taken d.bound d.whole) in
    let choose : (cut : Bool) → MatchBool cut (AppendsFront old new (told_by text input).text)
    (Ends old (told_by text input) new end) → MatchBool cut (AppendsFront old new (told_by text input).text)
    (Answered (told_by text input) input (Some later) old new end) =
    λ cut. elim cut as (λ cut. MatchBool cut (AppendsFront old new (told_by text input).text)
    (Ends old (told_by text input) new end) → MatchBool cut (AppendsFront old new (told_by text input).text)
    (Answered (told_by text input) input (Some later) old new end)) [
      | true ↦ λ front. front
      | false ↦ λ ends. record { ends = ends; read = read }
    ] in
    choose (is_cut end) (subst (λ t. Tells old t new end) same w)

-- a document of which its message is told was read to its end
at_end : (text : Message → List ℕ) (input left old new : Bytes) (document : List ℕ) (told : RunResult)
    → IsDocument input left document → told ≡ told_by text document → Tells old told new status.Done → IsAtEnd left
at_end text input left old new document told d e w = choose (eq-or-lt_of_le d.bound)
  where
    choose : (length document ≡ 8388609) ⊎ (length document < 8388609) → IsAtEnd left
    choose (inl n) =
        let refused : told ≡ told_of text (Err (record { path = []; reason = reason.TooLong })) = e
        ∙ told_is text document ∙ ap (told_of text) (document_too_long document (omega (arith, n))) in
        absurd (cc (w.status_is, ap (λ (t : RunResult). t.status) refused))
    choose (inr n) = d.whole n

-- a document that is read as a message was read to its end
pub read_whole : (message : Message) (input left : Bytes) (document : List ℕ) → IsDocument input left document
    → message_of document ≡ Ok message → IsAtEnd left
read_whole message input left document d e = choose (eq-or-lt_of_le d.bound)
  where
    choose : (length document ≡ 8388609) ⊎ (length document < 8388609) → IsAtEnd left
    choose (inl n) = absurd (cc (e, document_too_long document (omega (arith, n))))
    choose (inr n) = d.whole n

pub reads_all : (left : Bytes) (end : Status) → (end ≡ status.Done → IsAtEnd left) → ReadsAll left end
reads_all None end h = tt
reads_all (Some left) status.Done h = h refl
reads_all (Some left) status.Refused h = tt
reads_all (Some left) status.Usage h = tt
reads_all (Some left) (status.Script line r) h = tt
reads_all (Some left) status.ReadFault h = tt
reads_all (Some left) (status.Limit line) h = tt
reads_all (Some left) status.WireFault h = tt
reads_all (Some left) status.OutOfMemory h = tt
reads_all (Some left) status.WriteFault h = tt
reads_all (Some left) status.ClockFault h = tt
reads_all (Some left) status.KeeperFault h = tt
reads_all (Some left) status.ShelfFault h = tt
reads_all (Some left) (status.BadShelf shelf) h = tt

pub told_all : (text : Message → List ℕ) (input left old new : Bytes) (document : List ℕ) (told : RunResult)
    (end : Status) → IsDocument input left document → told ≡ told_by text document → Tells old told new end
    → ReadsAll left end
told_all text input left old new document told end d e w =
    reads_all left end (λ h. at_end text input left old new document told d e (subst (Tells old told new) h w))
