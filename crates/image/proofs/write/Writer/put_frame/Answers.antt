-- The fields written one after another are the bytes of the record.
use Rattle.std.proofs.Common.{ap, ◌∙◌}
use Rattle.format.specs.Bytes.{bytes}
use Rattle.format.proofs.Places.{be_4}
use Rattle.image.proofs.Writing.{wrote_then, wrote_as}
use Rattle.image.proofs.write.Writer.put_frame.Goals as goal

pub returns-clause-wrote : goal.returns-clause-wrote
returns-clause-wrote c =
    wrote_then c.put.ensures.wrote
    (wrote_then (wrote_as c.put-2.ensures.wrote (c.to_be_bytes.ensures ∙ be_4 c.cost.result ∙ ap (bytes 4) c.cost.ensures))
    (wrote_then (wrote_as c.put-3.ensures.wrote (c.to_be_bytes-2.ensures ∙ be_4 c.deadline.result ∙ ap (bytes 4) c.deadline.ensures))
    (wrote_as c.put-4.ensures.wrote (c.to_be_bytes-3.ensures ∙ be_4 c.gap.result ∙ ap (bytes 4) c.gap.ensures))))
