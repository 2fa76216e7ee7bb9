-- The loop over the parts gives the bytes that the text writes.
use Rattle.std.proofs.Common.{◌≡◌, ◌*◌, ◌/◌, length, length-take-le, sym, ap, ◌∙◌, vec_items, arith}
use Rattle.std.specs.Prelude.{min}
use Rattle.std.specs.Slice.Iter.{chunks_rest, chunks_size}
use Rattle.trials.proofs.Decoding.{whole, begun, read_on, stopped}
use Rattle.trials.proofs.line.bytes_in.Goals as goal

pub loop-part-init : goal.loop-part-init
loop-part-init c =
    let same = c.into_iter-part-iterator.ensures.into_iter_gives in (
      ap chunks_size same ∙ c.chunks-part-items.ensures.size,
      rw (c.new-bytes.ensures.items, ap chunks_rest same ∙ c.chunks-part-items.ensures.rest) (begun c.args.text.now),
    )

pub returns-then-is_err : goal.returns-then-is_err
returns-then-is_err c =
    let bs = vec_items c.loop-part.bytes in
    let part = c.in-Some.part.now in
    let steps = c.in-Some.ensures.steps in
    let half = length-take-le (length part / 2) c.loop-part.block (omega arith) in
    let cut : length part ≡ min (2 * 256) (length (chunks_rest c.loop-part.part-iterator)) = rw c.loop-part.invariant.0 at steps.1.1 in
    stopped bs part (chunks_rest c.next.new.self) c.decode_to_slice.new.out _ 256 c.decode_to_slice.result half
    c.decode_to_slice.ensures.value (rw steps.1.0 at cut) (sym c.is_err.ensures.value ∙ c.if-is_err.true)
    ∙ ap (whole bs) (sym steps.1.0) ∙ c.loop-part.invariant.1

pub loop-part-preserved : goal.loop-part-preserved
loop-part-preserved c =
    let bs = vec_items c.loop-part.bytes in
    let part = c.in-Some.part.now in
    let rest = chunks_rest c.next.new.self in
    let steps = c.in-Some.ensures.steps in
    let half = length-take-le (length part / 2) c.loop-part.block (omega arith) in
    let cut : length part ≡ min (2 * 256) (length (chunks_rest c.loop-part.part-iterator)) = rw c.loop-part.invariant.0 at steps.1.1 in (
      steps.0 ∙ c.loop-part.invariant.0,
      ap (λ xs. whole xs rest) c.in_ok-extend_from_slice.ensures.items
          ∙ read_on bs part rest c.decode_to_slice.new.out _ 256 c.decode_to_slice.result half
          c.decode_to_slice.ensures.value (rw steps.1.0 at cut) (sym c.is_err.ensures.value ∙ c.if-is_err.false)
          ∙ ap (whole bs) (sym steps.1.0) ∙ c.loop-part.invariant.1,
    )
