-- One channel: its mode bits, its address, and one unit further.
use Rattle.std.specs.Prelude.{ℕ, ◌+◌, ◌%◌, Bool, true, cond, not, ◌==◌, bit_and}
use Rattle.dma.specs.declared.channel.Channel.{Channel}

-- the byte has a bit of the mask
abbrev pub has : ℕ → ℕ → Bool
has byte mask = not (bit_and byte mask == 0)

-- a channel at power-on
abbrev pub fresh : ℕ → Channel
fresh level = record { address = 0; count = 0; io = 0; mode = 0; masked = true; level = level }

-- addresses go modulo 2^24
abbrev pub after : ℕ → ℕ → ℕ
after a n = (a + n) % 16777216

-- the 24 bits of the address register
abbrev pub memory_address : Channel → ℕ
memory_address c = c.address % 16777216

-- the bytes of a unit
abbrev pub unit_bytes : Bool → ℕ
unit_bytes wide = cond wide 2 1

-- after a unit: the address rises by its bytes, the count falls by one modulo 65,536
abbrev pub stepped : Channel → Bool → Channel
stepped c wide = record {
  address = after c.address (unit_bytes wide);
  count = (c.count + 65535) % 65536;
  io = c.io;
  mode = c.mode;
  masked = c.masked;
  level = c.level;
}

abbrev pub with_mask : Channel → Bool → Channel
with_mask c m = record { address = c.address; count = c.count; io = c.io; mode = c.mode; masked = m; level = c.level }
