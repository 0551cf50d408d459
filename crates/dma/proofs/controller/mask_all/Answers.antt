use Rattle.std.proofs.Common.{true, rules}
use Rattle.std.proofs.lemmas.List.Edits.{map_over_more}
use Rattle.dma.specs.Channels.{with_mask}
use Rattle.dma.proofs.controller.mask_all.Goals as goal

pub loop-channel-preserved : goal.loop-channel-preserved
loop-channel-preserved c = search (rules, map_over_more (λ c. with_mask c true))
