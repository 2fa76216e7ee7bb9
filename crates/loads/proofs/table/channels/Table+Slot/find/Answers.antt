-- The place of the first slot with the label is the lowest channel with it.
use Rattle.std.proofs.Common.{◌∙◌, rules, tests}
use Rattle.std.proofs.lemmas.Iterator.{YieldsList-from_slice}
use Rattle.std.proofs.lemmas.Iterator.Search.{position_from_yields_List}
use Rattle.loads.specs.Channels.{slot_content, bears}
use Rattle.loads.proofs.Labels.{found_is}
use Rattle.loads.proofs.table.channels.Table+Slot.find.Goals as goal

pub returns : goal.returns
returns c =
    let found =
    position_from_yields_List (λ s. bears (slot_content s) c.args.label.now) _ _ c.position-channel.result c.position-channel.ensures.ran (YieldsList-from_slice c.args.self.now.slots (cc)) (λ x b q k. search (rules, tests))
    ∙ found_is c.args.self.now.slots c.args.label.now in
    search rules
