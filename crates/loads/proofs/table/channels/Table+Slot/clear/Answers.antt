-- The slot that is lent and emptied is the channel; above 63 there is none.
use Rattle.std.proofs.Common.{◌≤◌, length, None, sym, arith}
use Rattle.std.proofs.lemmas.List.{set_past, length-map}
use Rattle.loads.specs.Channels.{slot_content, channels}
use Rattle.loads.proofs.ChannelViews.{slot_set}
use Rattle.loads.proofs.table.channels.Table+Slot.clear.Goals as goal

pub returns-then-channel-le-LAST : goal.returns-then-channel-le-LAST
returns-then-channel-le-LAST c = rw c.from.ensures (slot_set c.args.self.now.slots c.args.channel c.put.new.self None c.put.ensures)

pub returns-else-channel-le-LAST : goal.returns-else-channel-le-LAST
returns-else-channel-le-LAST c =
    let past : length (channels c.args.self.now) ≤ c.args.channel = omega (arith, length-map c.args.self.now.slots slot_content, c.args.self.now.full, c.if-channel-le-LAST.false) in
    sym (set_past (channels c.args.self.now) c.args.channel None past)
