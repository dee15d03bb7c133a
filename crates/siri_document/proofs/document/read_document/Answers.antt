use Rattle.std.proofs.Common.{ℕ, Err, arith, ap, ◌∙◌, length, take, false}
use Rattle.std.proofs.lemmas.Result.{err_from_is_err_and}
use Rattle.std.proofs.KnownBytes.{Consumes-trans}
use Rattle.siri_outside.specs.MetFailures.{has_failed}
use Rattle.siri_lines.proofs.Meeting.{source_more}
use Rattle.siri_document.proofs.OneDocument.{lent_whole, kept_length, grown_length}
use Rattle.siri_document.proofs.document.read_document.Goals as goal

pub returns-in_err-count-clause-meets : goal.returns-in_err-count-clause-meets
returns-in_err-count-clause-meets g c =
    let p = err_from_is_err_and c.from_residual-in_err-count.result c.from_residual-in_err-count.ensures.1 in
    rw (p.1, p.2) (source_more (has_failed {T = ℕ} (Err c.in_err-count.field-0.0)) _ _ _ _ _ _ c.loop-piece.invariant.meets c.in_err-count.ensures.meets)

pub returns-then-count-eq0-clause-meets : goal.returns-then-count-eq0-clause-meets
returns-then-count-eq0-clause-meets g c = source_more false _ _ _ _ _ _ c.loop-piece.invariant.meets c.in_ok-count.ensures.meets

pub returns-in_err-append-clause-meets : goal.returns-in_err-append-clause-meets
returns-in_err-append-clause-meets g c =
    let p = err_from_is_err_and c.from_residual-in_err-append.result c.from_residual-in_err-append.ensures.1 in
    rw (p.1, p.2) (source_more false _ _ _ _ _ _ c.loop-piece.invariant.meets c.in_ok-count.ensures.meets)

pub loop-piece-preserved : goal.loop-piece-preserved
loop-piece-preserved g c =
    let into = c.read_piece.new.into in
    let items = c.truncate.new.self.items in
    let same = c.read_piece.ensures.length ∙ ap length c.deref_mut.ensures.value in
    let whole = lent_whole c.truncate.new.self.len into items same c.truncate.new.self.ok.0 in
    let kept = kept_length _ _ items c.truncate.ensures.items in
    let grown = grown_length c.loop-piece.document.items _ c.append.new.into.items c.in_ok-count.count (length into) c.in_ok-append.ensures.ok c.in_ok-count.ensures.bound in
    record {
      taken = rw (c.in_ok-append.ensures.ok, c.deref.ensures.value, whole) (Consumes-trans _ _ _ c.loop-piece.document.items
          (take c.in_ok-count.count into) c.loop-piece.invariant.taken c.in_ok-count.ensures.bytes);
      bound = omega (arith, grown, same, kept, c.loop-piece-test.true, c.len.ensures, c.len-in-loop-piece.ensures);
      room = rw whole (omega (arith, same, kept, c.loop-piece.invariant.room, c.loop-piece-test.true, c.len.ensures, c.len-in-loop-piece.ensures));
      later = omega (arith, c.loop-piece.invariant.later, c.read_piece.ensures.cause.later);
      meets = source_more false _ _ _ _ _ _ c.loop-piece.invariant.meets c.in_ok-count.ensures.meets;
    }
