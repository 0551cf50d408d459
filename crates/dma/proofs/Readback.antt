-- What goes into a register through port 001A comes out of it: byte by byte, on a table with channel n set.
use Rattle.std.proofs.Common.{◌≡◌, ℕ, ◌+◌, ◌*◌, ◌/◌, ◌%◌, ◌<◌, true, List, [], ◌∷◌, map, length, set, Some, Ok, Result, sym, refl, ap, ◌∙◌, arith}
use Rattle.std.proofs.lemmas.List.{get_or-set_same, set-set, set-get_or}
use Rattle.std.proofs.lemmas.Bool.{le-leb}
use Rattle.fault.specs.declared.Refusal.{Refusal}
use Rattle.dma.specs.declared.channel.Channel.{Channel}
use Rattle.dma.specs.declared.command.Direction.TheVariants.{Function, Write, Read}
use Rattle.dma.specs.declared.command.Part.{Part}
use Rattle.dma.specs.declared.command.Part.TheVariants.{IoLow, IoHigh, AddressLow, AddressMiddle, AddressHigh, CountLow, CountHigh, Mode, Level}
use Rattle.dma.specs.declared.command.Action.TheVariants.{Select, Register}
use Rattle.dma.specs.declared.controller.Controller.{Controller}
use Rattle.dma.specs.Commands.{channel_of, decided, io_part, address_part, count_part}
use Rattle.dma.specs.Registers.{WriteOutcome, no_channel, nth_channel, part_of, with_part, takes_byte, next_pointer, with_address, with_io, with_count, function_by, function_written, data_by, data_written, read_by, data_read}
use Rattle.dma.specs.Readback.{Content, io_address, address, count, mode, level, bytes_of, write_command, read_command, Listed, holding, then_bytes, reads, after_reads, put, asked, ComesBack, ReadsBack}

abbrev controller : ℕ → ℕ → List ℕ → Controller
controller f p s = record { function = f; pointer = p; status = s }

abbrev byte_of : Channel → Part → Result ℕ Refusal
byte_of c q = Ok (part_of q c)

abbrev done : Controller → List Channel → WriteOutcome
done k cs = record { answer = Ok tt; controller = k; channels = cs }

-- a function byte's three fields
record Fields (c n f : ℕ) : Type 0 where
  plain : f / 8 % 2 ≡ 0
  command : f / 16 ≡ c
  channel : f % 8 ≡ n

fields : (c n : ℕ) → n < 8 → Fields c n (16 * c + n)
fields c n h = record { plain = omega arith; command = omega arith; channel = omega arith }

-- which byte the pointer is at
abbrev part_at : Content → ℕ → Part
part_at (io_address l h) p = io_part p
part_at (address l m h) p = address_part p
part_at (count l h) p = count_part p
part_at (mode b) p = Mode
part_at (level b) p = Level

-- what the function bytes f, for writing, and g, for reading, decide
record Decides (v : Content) (f g : ℕ) : Type 0 where
  to_write : (p : ℕ) → decided f Function p ≡ Some Select
  to_read : (p : ℕ) → decided g Function p ≡ Some Select
  writes : (p : ℕ) → decided f Write p ≡ Some (Register (part_at v p))
  gives : (p : ℕ) → decided g Read p ≡ Some (Register (part_at v p))

decides : (v : Content) (n f g : ℕ) → Listed n v → Fields (write_command v) n f → Fields (read_command v) n g → Decides v f g
decides (io_address l h) n f g ok a b = record { to_write = λ p. rw (a.plain, a.command); to_read = λ p. rw (b.plain, b.command); writes = λ p. rw (a.plain, a.command); gives = λ p. rw (b.plain, b.command) }
decides (address l m h) n f g ok a b = record { to_write = λ p. rw (a.plain, a.command); to_read = λ p. rw (b.plain, b.command); writes = λ p. rw (a.plain, a.command); gives = λ p. rw (b.plain, b.command) }
decides (count l h) n f g ok a b = record { to_write = λ p. rw (a.plain, a.command); to_read = λ p. rw (b.plain, b.command); writes = λ p. rw (a.plain, a.command); gives = λ p. rw (b.plain, b.command) }
decides (mode x) n f g ok a b = record { to_write = λ p. rw (a.plain, a.command); to_read = λ p. rw (b.plain, b.command); writes = λ p. rw (a.plain, a.command); gives = λ p. rw (b.plain, b.command) }
decides (level x) n f g ok a b = record { to_write = λ p. rw (a.plain, a.command, a.channel, ok.1); to_read = λ p. rw (b.plain, b.command, b.channel, ok.1); writes = λ p. rw (a.plain, a.command, a.channel, ok.1); gives = λ p. rw (b.plain, b.command, b.channel, ok.1) }

-- a byte written to, and one read from, channel n
module _ (cs : List Channel) (n : ℕ) (within : n < length cs) (s : List ℕ) where
  wrote : (q : Part) (f p b : ℕ) (c : Channel) → decided f Write p ≡ Some (Register q) → takes_byte q b ≡ true → channel_of f ≡ n
      → data_written (controller f p s) (set cs n c) b ≡ done (controller f (next_pointer q) s) (set cs n (with_part q c b))
  wrote q f p b c e t h =
      ap (λ a. data_by a (controller f p s) (set cs n c) b) e
      ∙ rw (t, h) (ap (done (controller f (next_pointer q) s)) (rw (get_or-set_same cs n c no_channel within) (set-set cs n c (with_part q c b))))

  gave : (q : Part) (g p : ℕ) (c : Channel) → decided g Read p ≡ Some (Register q) → channel_of g ≡ n
      → data_read (controller g p s) (set cs n c) ≡ record { answer = Ok (part_of q c); controller = controller g (next_pointer q) s }
  gave q g p c e h =
      ap (λ a. read_by a (controller g p s) (set cs n c)) e ∙ rw (h, get_or-set_same cs n c no_channel within)

-- the register's bytes in order, from pointer p on and back to 0
abbrev Walk : Content → ℕ → List Part → Type 0
Walk v p [] = p ≡ 0
Walk v p (q ∷ qs) = (part_at v p ≡ q) × Walk v (next_pointer q) qs

abbrev Taken : List Part → List ℕ → Type 0
Taken [] [] = Unit {0}
Taken [] (b ∷ bs) = ⊥
Taken (q ∷ qs) [] = ⊥
Taken (q ∷ qs) (b ∷ bs) = (takes_byte q b ≡ true) × Taken qs bs

abbrev filled : List Part → List ℕ → Channel → Channel
filled [] bs c = c
filled (q ∷ qs) [] c = c
filled (q ∷ qs) (b ∷ bs) c = filled qs bs (with_part q c b)

module _ (v : Content) (f g : ℕ) (d : Decides v f g) (n : ℕ) (to : channel_of f ≡ n) (from : channel_of g ≡ n) (cs : List Channel) (within : n < length cs) (s : List ℕ) where
  all_wrote : (qs : List Part) (bs : List ℕ) (p : ℕ) (c : Channel) → Walk v p qs → Taken qs bs
      → then_bytes (done (controller f p s) (set cs n c)) bs ≡ done (controller f 0 s) (set cs n (filled qs bs c))
  all_wrote [] [] p c w t = ap (λ x. done (controller f x s) (set cs n c)) w
  all_wrote [] (b ∷ bs) p c w t = absurd t
  all_wrote (q ∷ qs) [] p c w t = absurd t
  all_wrote (q ∷ qs) (b ∷ bs) p c w t =
      ap (λ x. then_bytes x bs) (wrote cs n within s q f p b c (d.writes p ∙ ap (λ x. Some (Register x)) w.0) t.0 to)
      ∙ all_wrote qs bs (next_pointer q) (with_part q c b) w.1 t.1

  all_gave : (qs : List Part) (p : ℕ) (c : Channel) → Walk v p qs → reads (length qs) (controller g p s) (set cs n c) ≡ map (byte_of c) qs
  all_gave [] p c w = refl
  all_gave (q ∷ qs) p c w =
      ap (λ r. r.answer ∷ reads (length qs) r.controller (set cs n c)) (gave cs n within s q g p c (d.gives p ∙ ap (λ x. Some (Register x)) w.0) from)
      ∙ ap (λ rs. Ok (part_of q c) ∷ rs) (all_gave qs (next_pointer q) c w.1)

  ended : (qs : List Part) (p : ℕ) (c : Channel) → Walk v p qs → (after_reads (length qs) (controller g p s) (set cs n c)).pointer ≡ 0
  ended [] p c w = w
  ended (q ∷ qs) p c w =
      ap (λ r. (after_reads (length qs) r.controller (set cs n c)).pointer) (gave cs n within s q g p c (d.gives p ∙ ap (λ x. Some (Register x)) w.0) from)
      ∙ ended qs (next_pointer q) c w.1

-- the law for a register, from its bytes in order and what they make of the channel
comes_back : (v : Content) (n : ℕ) (k : Controller) (cs : List Channel) → length cs ≡ 8 → n < 8 → Listed n v
    → (qs : List Part) → Walk v 0 qs → Taken qs (bytes_of v) → length qs ≡ length (bytes_of v)
    → filled qs (bytes_of v) (nth_channel cs n) ≡ holding v (nth_channel cs n)
    → map (byte_of (holding v (nth_channel cs n))) qs ≡ map Ok (bytes_of v)
    → ComesBack v n k cs
comes_back v n k cs eight below ok qs w t long fills gives =
    let f = 16 * write_command v + n in
    let g = 16 * read_command v + n in
    let a = fields (write_command v) n below in
    let b = fields (read_command v) n below in
    let d = decides v n f g ok a b in
    let within : n < length cs = omega arith in
    let c = nth_channel cs n in
    let s = k.status in
    let into : put v n k cs ≡ done (controller f 0 s) (set cs n (holding v c)) =
    ap (λ x. then_bytes (function_by x k cs f) (bytes_of v)) (d.to_write k.pointer)
    ∙ (ap (λ x. then_bytes (done (controller f 0 s) x) (bytes_of v)) (sym (set-get_or cs n no_channel))
    ∙ (all_wrote v f g d n a.channel b.channel cs within s qs (bytes_of v) 0 c w t ∙ ap (λ x. done (controller f 0 s) (set cs n x)) fills)) in
    let out : asked v n k cs ≡ done (controller g 0 s) (set cs n (holding v c)) =
    ap (λ x. function_written x.controller x.channels g) into ∙ ap (λ x. function_by x (controller f 0 s) (set cs n (holding v c)) g) (d.to_read 0) in
    record {
      accepted = ap (λ x. x.answer) into;
      held = ap (λ x. x.channels) into;
      selected = ap (λ x. x.answer) out;
      same =
          ap (λ x. reads (length (bytes_of v)) x.controller x.channels) out
          ∙ (ap (λ m. reads m (controller g 0 s) (set cs n (holding v c))) (sym long)
          ∙ (all_gave v f g d n a.channel b.channel cs within s qs 0 (holding v c) w ∙ gives));
      pointer =
          ap (λ x. (after_reads (length (bytes_of v)) x.controller x.channels).pointer) out
          ∙ (ap (λ m. (after_reads m (controller g 0 s) (set cs n (holding v c))).pointer) (sym long)
          ∙ ended v f g d n a.channel b.channel cs within s qs 0 (holding v c) w);
    }

two : (old l h : ℕ) → l < 256 → h < 256 → h * 256 + (old / 256 * 256 + l) % 256 ≡ l + 256 * h
two old l h x y = omega arith

three : (old l m h : ℕ) → l < 256 → m < 256 → h < 256
    → h * 65536 + ((old / 256 * 256 + l) / 65536 * 65536 + m * 256 + (old / 256 * 256 + l) % 256) % 65536 ≡ l + 256 * m + 65536 * h
three old l m h x y z = omega arith

pub reads_back : ReadsBack
reads_back (io_address l h) n k cs eight below ok =
    let low : (l + 256 * h) % 256 ≡ l = omega (arith, ok.0) in
    let high : (l + 256 * h) / 256 ≡ h = omega (arith, ok.0) in
    comes_back (io_address l h) n k cs eight below ok (IoLow ∷ IoHigh ∷ []) (refl, (refl, refl)) (refl, (refl, tt)) refl
    (ap (with_io (nth_channel cs n)) (two (nth_channel cs n).io l h ok.0 ok.1))
    (λ i. Ok (low i) ∷ Ok (high i) ∷ [])
reads_back (address l m h) n k cs eight below ok =
    let low : (l + 256 * m + 65536 * h) % 256 ≡ l = omega (arith, ok.0) in
    let above : (l + 256 * m + 65536 * h) / 256 ≡ m + 256 * h = omega (arith, ok.0) in
    let middle : (m + 256 * h) % 256 ≡ m = omega (arith, ok.1) in
    let top : (l + 256 * m + 65536 * h) / 65536 ≡ h = omega (arith, ok.0, ok.1) in
    let high : h % 256 ≡ h = omega (arith, ok.2) in
    comes_back (address l m h) n k cs eight below ok (AddressLow ∷ AddressMiddle ∷ AddressHigh ∷ []) (refl, (refl, (refl, refl))) (refl, (refl, (refl, tt))) refl
    (ap (with_address (nth_channel cs n)) (three (nth_channel cs n).address l m h ok.0 ok.1 ok.2))
    (λ i. Ok (low i) ∷ Ok ((ap (λ x. x % 256) above ∙ middle) i) ∷ Ok ((ap (λ x. x % 256) top ∙ high) i) ∷ [])
reads_back (count l h) n k cs eight below ok =
    let low : (l + 256 * h) % 256 ≡ l = omega (arith, ok.0) in
    let high : (l + 256 * h) / 256 ≡ h = omega (arith, ok.0) in
    comes_back (count l h) n k cs eight below ok (CountLow ∷ CountHigh ∷ []) (refl, (refl, refl)) (refl, (refl, tt)) refl
    (ap (with_count (nth_channel cs n)) (two (nth_channel cs n).count l h ok.0 ok.1))
    (λ i. Ok (low i) ∷ Ok (high i) ∷ [])
reads_back (mode b) n k cs eight below ok = comes_back (mode b) n k cs eight below ok (Mode ∷ []) (refl, refl) (rw ok, tt) refl refl refl
reads_back (level b) n k cs eight below ok = comes_back (level b) n k cs eight below ok (Level ∷ []) (refl, refl) (le-leb b 14 ok.0, tt) refl refl refl
