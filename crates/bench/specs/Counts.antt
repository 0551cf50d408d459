-- How the entries that were performed are counted.
use Rattle.std.specs.Prelude.{ℕ, ◌+◌, ◌-◌, ◌^◌, min, cond, replicate, Some, None, Option, nat_lt, slice_index, slice_set}
use Rattle.script.specs.declared.Entry.{Entry}
use Rattle.script.specs.declared.Entry.TheVariants as entry
use Rattle.bench.specs.declared.counts.Counts.{Counts}
use Rattle.bench.specs.declared.counts.Share.{Share}
use Rattle.bench.specs.declared.machine.Answer.{Answer}
use Rattle.bench.specs.Calls.{refuses}

-- no call
abbrev pub at_first : Counts
at_first = record { calls = 0; refused = 0; arrived = replicate 15 0 }

-- a count that stays below 2 ^ 64
abbrev pub more : ℕ → ℕ → ℕ
more n by = min (n + by) (2 ^ 64 - 1)

-- so many calls, with no unit brought
abbrev pub calls : ℕ → Share
calls n = record { calls = n; arrival = None }

-- as how many calls an entry counts, and the level that it brings a unit to
abbrev pub share_of : Entry → Share
share_of (entry.Part p) = calls 0
share_of (entry.In p) = calls 1
share_of (entry.Out p v) = calls 1
share_of (entry.Tick n) = calls n
share_of entry.Acknowledge = calls 1
share_of (entry.Arrive l u) = record { calls = 1; arrival = Some l }
share_of (entry.Load a) = calls 1
share_of (entry.Store a v) = calls 1
share_of entry.Reset = calls 1
share_of entry.Grant = calls 1
share_of (entry.Find a) = calls 1
share_of entry.State = calls 0
share_of (entry.Level l) = calls 0
share_of entry.Lines = calls 0

-- one arrival more at a level from 0 to 14
abbrev pub with_arrival : Counts → ℕ → Counts
with_arrival c l = cond (nat_lt l 15) (record { calls = c.calls; refused = c.refused; arrived = slice_set c.arrived l (more (slice_index c.arrived l) 1) }) c

-- the same where the entry brings a unit
abbrev pub with_share : Counts → Option ℕ → Counts
with_share c None = c
with_share c (Some l) = with_arrival c l

-- one refusal more
abbrev pub with_refusal : Counts → Counts
with_refusal c = record { calls = c.calls; refused = more c.refused 1; arrived = c.arrived }

-- so many calls more
abbrev pub with_calls : Counts → ℕ → Counts
with_calls c n = record { calls = more c.calls n; refused = c.refused; arrived = c.arrived }

-- what an entry and its answer add
abbrev pub counted : Counts → Share → Answer → Counts
counted c s answer = cond (refuses answer) (with_refusal (with_calls c s.calls)) (with_share (with_calls c s.calls) s.arrival)
