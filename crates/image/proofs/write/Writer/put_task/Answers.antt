-- The fields written one after another are the bytes of the record.
use Rattle.std.proofs.Common.{ap, ◌∙◌, arith}
use Rattle.format.specs.Bytes.{bytes}
use Rattle.format.proofs.Places.{be_4, be_2, be_1}
use Rattle.image.proofs.Writing.{wrote_then, wrote_as}
use Rattle.image.proofs.write.Writer.put_task.Goals as goal

pub returns-clause-wrote : goal.returns-clause-wrote
returns-clause-wrote c =
    wrote_then c.put.ensures.wrote
    (wrote_then c.put-2.ensures.wrote
    (wrote_then (wrote_as c.put-3.ensures.wrote (be_1 c.args.channel (omega arith)))
    (wrote_then (wrote_as c.put-4.ensures.wrote (c.to_be_bytes.ensures ∙ be_4 c.cost.result ∙ ap (bytes 4) c.cost.ensures))
    (wrote_then (wrote_as c.put-5.ensures.wrote (c.to_be_bytes-2.ensures ∙ be_4 c.period.result ∙ ap (bytes 4) c.period.ensures))
    (wrote_then (wrote_as c.put-6.ensures.wrote (c.to_be_bytes-3.ensures ∙ be_4 c.deadline.result ∙ ap (bytes 4) c.deadline.ensures))
    (wrote_then (wrote_as c.put-7.ensures.wrote (c.to_be_bytes-4.ensures ∙ be_4 c.jitter.result ∙ ap (bytes 4) c.jitter.ensures))
    (wrote_as c.put-8.ensures.wrote (c.to_be_bytes-5.ensures ∙ be_2 c.section.result ∙ ap (bytes 2) c.section.ensures))))))))
