-- The examples, by computing the definitions.
use Rattle.std.proofs.Common.{refl}
use Rattle.format.specs.Decode.{part, records, decode}
use Rattle.format.proofs.theorems.examples_hold.Goals as goal

pub returns : goal.returns
unfolding part records decode
returns c = record {
  none = refl;
  unknown = refl;
  empty = refl;
  trailing = refl;
  cut = refl;
  unended = refl;
  label = refl;
  channel = refl;
  twice = refl;
  after_frame = refl;
  sixteen = refl;
  seventeen = refl;
  cost = refl;
  gap = refl;
  section = refl;
}
