-- How a fault is printed.
use Rattle.std.specs.Prelude.{ℕ, ◌^◌, false, true, ◌-◌, List, [], ◌++◌, codes}
use Rattle.std.specs.Fmt.{decimal, digits, padded_integral, format_spec}
use Rattle.fault.specs.declared.Fault.{Fault}
use Rattle.fault.specs.Numbers.{number}

-- hexadecimal capitals, with zeros before them up to that many digits
abbrev pub hexadecimal : ℕ → ℕ → List ℕ
hexadecimal width n = padded_integral (format_spec 32 0 4 width (2 ^ 64 - 1)) false [] (digits 16 true n)

-- the refusal's number, the place in eight digits, and the layer
abbrev pub fault_text : Fault → List ℕ
fault_text f =
    codes "refused " ++ (decimal (number f.refusal) ++ (codes " place " ++ (hexadecimal 8 f.place ++ (codes " layer " ++ decimal f.layer))))
