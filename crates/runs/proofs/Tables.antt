-- The table of channels after a write to one of them.
use Rattle.std.proofs.Common.{◌≡◌, ℕ, zero, suc, ◌<◌, Bool, true, false, cond, ◌&&◌, ◌||◌, eqb, ◌≢◌, List, [], ◌∷◌, length, set, Some, None, Ok, Err, Option, Result, sym, refl, ◌∙◌, arith, length-set}
use Rattle.std.proofs.Math.Bool.{and-true}
use Rattle.std.proofs.lemmas.List.{get_or-set_other, length-map}
use Rattle.std.proofs.lemmas.Bool.{eqb-false, or_parts, both_ways}
use Rattle.std.proofs.lemmas.Bool.Decides.{nat_tests}
use Rattle.fault.specs.declared.Refusal.{Refusal}
use Rattle.fault.specs.declared.Refusal.TheVariants.{NotListed}
use Rattle.dma.specs.declared.channel.Channel.{Channel}
use Rattle.dma.specs.declared.command.Action.{Action}
use Rattle.dma.specs.declared.command.Action.TheVariants.{Select, SetMask, ClearMask, MasterClear, Status, Register}
use Rattle.dma.specs.declared.command.Direction.TheVariants.{Function}
use Rattle.dma.specs.declared.command.Part.{Part}
use Rattle.dma.specs.declared.command.Part.TheVariants.{IoLow, IoHigh, AddressLow, AddressMiddle, AddressHigh, CountLow, CountHigh, Mode, Level}
use Rattle.dma.specs.declared.controller.Controller.{Controller}
use Rattle.dma.specs.Channels.{with_mask}
use Rattle.dma.specs.Commands.{command, channel_of, decided}
use Rattle.dma.specs.Registers.{no_channel, nth_channel, with_part, takes_byte, next_pointer, WriteOutcome, function_by, part_written, data_by, all_masked}
use Rattle.board.specs.Ports.{at_port}
use Rattle.runs.specs.World.{done_or_refused}
use Rattle.runs.specs.Law.{is_done}

-- an answer that is done
abbrev pub accepted : Result (Unit {0}) Refusal → ℕ → Bool
accepted a p = is_done (done_or_refused (at_port a p))

-- all counts of a table have 16 bits
abbrev pub Small : List Channel → Type 0
Small cs = (i : ℕ) → (nth_channel cs i).count < 65536

pub set_small : (cs : List Channel) (n : ℕ) (c : Channel) → Small cs → c.count < 65536 → Small (set cs n c)
set_small [] n c h k i = h i
set_small (x ∷ xs) zero c h k zero = k
set_small (x ∷ xs) zero c h k (suc i) = h (suc i)
set_small (x ∷ xs) (suc n) c h k zero = h 0
set_small (x ∷ xs) (suc n) c h k (suc i) = set_small xs n c (λ j. h (suc j)) k i

masked_small : (cs : List Channel) → Small cs → Small (all_masked cs)
masked_small [] h i = h i
masked_small (x ∷ xs) h zero = h 0
masked_small (x ∷ xs) h (suc i) = masked_small xs (λ j. h (suc j)) i

part_small : (p : Part) (c : Channel) (b : ℕ) → c.count < 65536 → b < 256 → (with_part p c b).count < 65536
part_small IoLow c b h k = h
part_small IoHigh c b h k = h
part_small AddressLow c b h k = h
part_small AddressMiddle c b h k = h
part_small AddressHigh c b h k = h
part_small CountLow c b h k = omega arith
part_small CountHigh c b h k = omega arith
part_small Mode c b h k = h
part_small Level c b h k = h

-- another channel stays
pub other_stays : (cs : List Channel) (n i : ℕ) (c : Channel) → eqb n i ≡ false → nth_channel (set cs n c) i ≡ nth_channel cs i
other_stays cs n i c e = let ne : i ≢ n = λ q. eqb-false n i e (sym q) in get_or-set_other cs n i c no_channel ne

-- what a write to the controller's ports keeps
pub record TableKept (named : ℕ → Bool) (o : WriteOutcome) (cs : List Channel) (p : ℕ) : Type 0 where
  pub stays : (i : ℕ) → (named i && accepted o.answer p) ≡ false → nth_channel o.channels i ≡ nth_channel cs i
  pub same_length : length o.channels ≡ length cs
  pub small : Small cs → Small o.channels

same_table : (named : ℕ → Bool) (a : Result (Unit {0}) Refusal) (k : Controller) (cs : List Channel) (p : ℕ) → TableKept named (record { answer = a; controller = k; channels = cs }) cs p
same_table named a k cs p = record { stays = λ i e. refl; same_length = refl; small = λ h. h }

-- a function byte names its channel, a master clear every channel
abbrev pub function_names : ℕ → ℕ → Bool
function_names f i = eqb (command f) 13 || eqb (channel_of f) i

set_kept : (f : ℕ) (k : Controller) (cs : List Channel) (c : Channel) (p : ℕ) → c.count < 65536
    → TableKept (function_names f) (record { answer = Ok tt; controller = k; channels = set cs (channel_of f) c }) cs p
set_kept f k cs c p h =
    record {
      stays = λ i e. other_stays cs (channel_of f) i c (or_parts (eqb (command f) 13) (eqb (channel_of f) i) (sym (and-true (function_names f i)) ∙ e)).1;
      same_length = length-set cs (channel_of f) c;
      small = λ s. set_small cs (channel_of f) c s h;
    }

-- only command D is a master clear
clears_by : (f p : ℕ) → decided f Function p ≡ Some MasterClear → eqb (command f) 13 ≡ true
clears_by f p e = grind (arith, nat_tests)

pub function_kept : (a : Option Action) (k : Controller) (cs : List Channel) (f p : ℕ) → Small cs → decided f Function k.pointer ≡ a
    → TableKept (function_names f) (function_by a k cs f) cs p
function_kept None k cs f p s e = same_table (function_names f) _ k cs p
function_kept (Some Select) k cs f p s e = same_table (function_names f) _ _ cs p
function_kept (Some SetMask) k cs f p s e = set_kept f _ cs (with_mask (nth_channel cs (channel_of f)) true) p (s (channel_of f))
function_kept (Some ClearMask) k cs f p s e = set_kept f _ cs (with_mask (nth_channel cs (channel_of f)) false) p (s (channel_of f))
function_kept (Some MasterClear) k cs f p s e =
    record {
      stays = λ i q. absurd (both_ways (eqb (command f) 13) (or_parts (eqb (command f) 13) (eqb (channel_of f) i) (sym (and-true (function_names f i)) ∙ q)).0 (clears_by f k.pointer e));
      same_length = length-map cs _;
      small = masked_small cs;
    }
function_kept (Some Status) k cs f p s e = same_table (function_names f) _ k cs p
function_kept (Some (Register q)) k cs f p s e = same_table (function_names f) _ k cs p

-- a byte at port 001A names the channel of the function byte
abbrev pub data_names : Controller → ℕ → Bool
data_names k i = eqb (channel_of k.function) i

part_kept : (q : Part) (k : Controller) (cs : List Channel) (b p : ℕ) → Small cs → b < 256 → TableKept (data_names k) (part_written q k cs b) cs p
part_kept q k cs b p s h = go (takes_byte q b)
  where
    n : ℕ
    n = channel_of k.function

    c : Channel
    c = with_part q (nth_channel cs n) b

    yes : WriteOutcome
    yes = record { answer = Ok tt; controller = record { function = k.function; pointer = next_pointer q; status = k.status }; channels = set cs n c }

    go : (t : Bool) → TableKept (data_names k) (cond t yes (record { answer = Err NotListed; controller = k; channels = cs })) cs p
    go true =
        record {
          stays = λ i e. other_stays cs n i c (sym (and-true (data_names k i)) ∙ e);
          same_length = length-set cs n c;
          small = λ z. set_small cs n c z (part_small q (nth_channel cs n) b (s n) h);
        }
    go false = same_table (data_names k) _ k cs p

pub data_kept : (a : Option Action) (k : Controller) (cs : List Channel) (b p : ℕ) → Small cs → b < 256 → TableKept (data_names k) (data_by a k cs b) cs p
data_kept None k cs b p s h = same_table (data_names k) _ k cs p
data_kept (Some Select) k cs b p s h = same_table (data_names k) _ k cs p
data_kept (Some SetMask) k cs b p s h = same_table (data_names k) _ k cs p
data_kept (Some ClearMask) k cs b p s h = same_table (data_names k) _ k cs p
data_kept (Some MasterClear) k cs b p s h = same_table (data_names k) _ k cs p
data_kept (Some Status) k cs b p s h = same_table (data_names k) _ k cs p
data_kept (Some (Register q)) k cs b p s h = part_kept q k cs b p s h
