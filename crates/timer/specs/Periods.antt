-- OUT in closed form: what a counter shows after so many clocks with the gate high.
use Rattle.std.specs.Prelude.{◌≡◌, ℕ, zero, suc, ◌+◌, ◌-◌, ◌*◌, ◌/◌, ◌%◌, ◌≤◌, Bool, true, false, cond, not, List, [], ◌∷◌, Some, None, Option, ◌==◌, nat_lt}
use Rattle.timer.specs.declared.counter.Access.{Access}
use Rattle.timer.specs.declared.counter.Access.TheVariants.{Low, High, LowThenHigh}
use Rattle.timer.specs.declared.counter.Counter.{Counter}
use Rattle.timer.specs.declared.counter.Event.TheVariants.{Clock, Byte}
use Rattle.timer.specs.declared.counter.Mode.{Mode}
use Rattle.timer.specs.declared.counter.Mode.TheVariants.{TerminalCount, RateGenerator, SquareWave}
use Rattle.timer.specs.Counting.{stepped, set_up, written, falls_short}

-- the counter after t clocks with the gate high
abbrev pub clocks : ℕ → Counter → Counter
clocks zero c = c
clocks (suc t) c = stepped (clocks t c) (Clock true)

-- the counter after count bytes
abbrev pub fed : Counter → List ℕ → Counter
fed c [] = c
fed c (b ∷ bs) = fed (stepped c (Byte b)) bs

-- the bytes of one whole count, and the count
abbrev pub count_bytes : Access → ℕ → ℕ → List ℕ
count_bytes Low l h = l ∷ []
count_bytes High l h = h ∷ []
count_bytes LowThenHigh l h = l ∷ h ∷ []

abbrev pub count_of : Access → ℕ → ℕ → ℕ
count_of Low l h = l
count_of High l h = 256 * h
count_of LowThenHigh l h = l + 256 * h

-- a counter freshly set up and given one whole count
abbrev pub prepared : ℕ → Mode → Access → ℕ → ℕ → Counter
prepared full m a l h = fed (set_up full m a) (count_bytes a l h)

-- mode 0: high from clock n + 1 on; mode 2: low at each multiple of n; mode 3: high in the first half, rounded up, of each n clocks
abbrev pub out_form : Mode → ℕ → ℕ → Bool
out_form TerminalCount n t = nat_lt n t
out_form RateGenerator n t = not (t % n == 0)
out_form SquareWave n t = nat_lt ((t - 1) % n) ((n + 1) / 2)

-- the stepwise rule and the closed form agree, from the first clock on, for ever
abbrev pub ClosedForm : Type 0
ClosedForm =
    (full : ℕ) (m : Mode) (a : Access) (l h t : ℕ) → 2 ≤ full → falls_short m (count_of a l h) ≡ false
    → (clocks (suc t) (prepared full m a l h)).out ≡ out_form m (written full (count_of a l h)) (suc t)

-- OUT after t clocks of a count that is taken
abbrev pub out_after : ℕ → Mode → Access → ℕ → ℕ → ℕ → Option Bool
out_after full m a l h t = cond (falls_short m (count_of a l h)) None (Some (clocks t (prepared full m a l h)).out)
