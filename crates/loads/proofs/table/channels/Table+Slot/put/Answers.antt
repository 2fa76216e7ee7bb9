-- The slot that is lent and changed is the channel that is put.
use Rattle.std.proofs.Common.{arith}
use Rattle.loads.proofs.ChannelViews.{changed}
use Rattle.loads.proofs.table.channels.Table+Slot.put.Goals as goal

pub returns : goal.returns
returns c = rw c.from.ensures (changed c.args.self.now.slots c.args.channel c.put.new.self c.args.held (omega arith) c.put.ensures)
