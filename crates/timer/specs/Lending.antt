-- The counter behind a count port, lent out of the timers.
use Rattle.std.specs.Borrow.{Lends, MutBor, Fml}
use Rattle.timer.specs.contracts.counter.Counter.{the_row as counter_row}
use Rattle.timer.specs.contracts.timers.Timers.{the_row as timers_row}
use Rattle.timer.specs.declared.counter.Counter.{Counter}
use Rattle.timer.specs.declared.timers.CountPort.{CountPort}
use Rattle.timer.specs.declared.timers.Timers.{Timers}
use Rattle.timer.specs.Timing.{with_counter}

-- r lends the counter behind port p: what is last behind r ends up there, and the rest stays
abbrev pub LendsCounter : MutBor Timers → CountPort → MutBor Counter → Fml
LendsCounter t p r = Lends timers_row counter_row t r (with_counter t.now p)
