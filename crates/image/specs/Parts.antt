-- What an iterator over the parts of an image has still to give.
use Rattle.std.specs.Prelude.{List, Result}
use Rattle.format.specs.declared.fault.ImageFault.{ImageFault}
use Rattle.format.specs.Decode.{Piece}
use Rattle.format.specs.Parts.{pieces_from}
use Rattle.image.specs.declared.parts.Parts.{Parts}

-- The parts from where it stands on, by plain bytes, the fault last if there is one.
abbrev pub rest : Parts → List (Result Piece ImageFault)
rest s = pieces_from s.image.now s.at
