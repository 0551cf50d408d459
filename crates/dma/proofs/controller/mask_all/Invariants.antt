use Rattle.std.proofs.Common.{◌≡◌, true, ◌++◌, map, take, drop}
use Rattle.dma.specs.Channels.{with_mask}
use Rattle.dma.proofs.controller.mask_all.Given as goal

-- the channels so far are masked, the others as they were
abbrev pub invariant-loop-channel : goal.invariant-loop-channel
invariant-loop-channel l = l.channels ≡ map (λ c. with_mask c true) (take l.channel-index l.initial.channels) ++ drop l.channel-index l.initial.channels
