use Rattle.std.proofs.Common.{◌≡◌, vec_items}
use Rattle.std.specs.Slice.Iter.{chunks_rest, chunks_size}
use Rattle.trials.specs.Hex.{unhex}
use Rattle.trials.proofs.Decoding.{whole}
use Rattle.trials.proofs.line.bytes_in.Given as goal

-- The bytes read so far, and those of the text that is left, are those of the whole text.
abbrev pub invariant-loop-part : goal.invariant-loop-part
invariant-loop-part l = (chunks_size l.part-iterator ≡ 512) × (whole (vec_items l.bytes) (chunks_rest l.part-iterator) ≡ unhex l.text)
