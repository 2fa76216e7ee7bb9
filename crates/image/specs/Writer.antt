-- What a writer has written.
use Rattle.std.specs.Prelude.{◌≡◌, ℕ, ◌+◌, ◌≤◌, List, length}
use Rattle.format.specs.Writes.{placed}
use Rattle.image.specs.declared.write.Writer.{Writer}

-- The writer `b` is `a` after it has written `xs` where it stood, in a buffer with room for it.
pub record Wrote (a : Writer) (xs : List ℕ) (b : Writer) : Type 0 where
  pub at : b.at ≡ a.at + length xs
  pub bytes : b.out.now ≡ placed a.out.now a.at xs
  pub same_length : length b.out.now ≡ length a.out.now
  pub room : b.at ≤ length b.out.now
