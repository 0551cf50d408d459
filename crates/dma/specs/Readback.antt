-- What goes into a register through port 001A byte by byte is what comes out of it.
use Rattle.std.specs.Prelude.{◌≡◌, ℕ, zero, suc, ◌+◌, ◌*◌, ◌%◌, ◌<◌, ◌≤◌, List, [], ◌∷◌, map, length, Ok, Err, Result, bit_and, slice_set}
use Rattle.fault.specs.declared.Refusal.{Refusal}
use Rattle.dma.specs.declared.channel.Channel.{Channel}
use Rattle.dma.specs.declared.controller.Controller.{Controller}
use Rattle.dma.specs.Registers.{WriteOutcome, nth_channel, with_io, with_address, with_count, with_mode, with_level, function_written, data_written, data_read}

-- a register that is both written and read, with its bytes, low first
pub data Content : Type 0 where
  io_address : ℕ → ℕ → Content
  address : ℕ → ℕ → ℕ → Content
  count : ℕ → ℕ → Content
  mode : ℕ → Content
  level : ℕ → Content

abbrev pub bytes_of : Content → List ℕ
bytes_of (io_address l h) = l ∷ h ∷ []
bytes_of (address l m h) = l ∷ m ∷ h ∷ []
bytes_of (count l h) = l ∷ h ∷ []
bytes_of (mode b) = b ∷ []
bytes_of (level b) = b ∷ []

-- the command that writes it, and the one that reads it
abbrev pub write_command : Content → ℕ
write_command (io_address l h) = 0
write_command (address l m h) = 2
write_command (count l h) = 4
write_command (mode b) = 7
write_command (level b) = 8

abbrev pub read_command : Content → ℕ
read_command (io_address l h) = 0
read_command (address l m h) = 3
read_command (count l h) = 5
read_command (mode b) = 7
read_command (level b) = 8

-- what channel n's register takes: bytes; no mode bit but 6, 3 and 2; a level of 14 at most, in channels 0 and 4
abbrev pub Listed : ℕ → Content → Type 0
Listed n (io_address l h) = (l < 256) × (h < 256)
Listed n (address l m h) = (l < 256) × (m < 256) × (h < 256)
Listed n (count l h) = (l < 256) × (h < 256)
Listed n (mode b) = bit_and b 0xB3 ≡ 0
Listed n (level b) = (b ≤ 14) × (n % 4 ≡ 0)

-- a channel that holds it, its other registers as they were
abbrev pub holding : Content → Channel → Channel
holding (io_address l h) c = with_io c (l + 256 * h)
holding (address l m h) c = with_address c (l + 256 * m + 65536 * h)
holding (count l h) c = with_count c (l + 256 * h)
holding (mode b) c = with_mode c b
holding (level b) c = with_level c b

-- a command for channel n to port 0018
abbrev pub commanded : ℕ → ℕ → Controller → List Channel → WriteOutcome
commanded command n k cs = function_written k cs (16 * command + n)

-- bytes to port 001A one after another, up to a refusal
abbrev pub then_byte : Result (Unit {0}) Refusal → WriteOutcome → ℕ → WriteOutcome
then_byte (Ok u) w b = data_written w.controller w.channels b
then_byte (Err why) w b = w

abbrev pub then_bytes : WriteOutcome → List ℕ → WriteOutcome
then_bytes w [] = w
then_bytes w (b ∷ bs) = then_bytes (then_byte w.answer w b) bs

-- what reads of port 001A answer one after another, and the controller after them
abbrev pub reads : ℕ → Controller → List Channel → List (Result ℕ Refusal)
reads zero k cs = []
reads (suc m) k cs = (data_read k cs).answer ∷ reads m (data_read k cs).controller cs

abbrev pub after_reads : ℕ → Controller → List Channel → Controller
after_reads zero k cs = k
after_reads (suc m) k cs = after_reads m (data_read k cs).controller cs

-- the register's bytes written, and then the register selected for reading
abbrev pub put : Content → ℕ → Controller → List Channel → WriteOutcome
put v n k cs = then_bytes (commanded (write_command v) n k cs) (bytes_of v)

abbrev pub asked : Content → ℕ → Controller → List Channel → WriteOutcome
asked v n k cs = commanded (read_command v) n (put v n k cs).controller (put v n k cs).channels

-- every write is accepted, channel n holds the bytes, nothing else of the table changes, and as many reads give the bytes
pub record ComesBack (v : Content) (n : ℕ) (k : Controller) (cs : List Channel) : Type 0 where
  pub accepted : (put v n k cs).answer ≡ Ok tt
  pub held : (put v n k cs).channels ≡ slice_set cs n (holding v (nth_channel cs n))
  pub selected : (asked v n k cs).answer ≡ Ok tt
  pub same : reads (length (bytes_of v)) (asked v n k cs).controller (asked v n k cs).channels ≡ map Ok (bytes_of v)
  pub pointer : (after_reads (length (bytes_of v)) (asked v n k cs).controller (asked v n k cs).channels).pointer ≡ 0

-- whatever the controller and the table were before
abbrev pub ReadsBack : Type 0
ReadsBack = (v : Content) (n : ℕ) (k : Controller) (cs : List Channel) → length cs ≡ 8 → n < 8 → Listed n v → ComesBack v n k cs
