-- The rig: what a script lays out before its first call, each part at most once, a scale twice.
use Rattle.std.specs.Prelude.{ℕ, Bool, true, false, cond, List, is_some, Some, None, Ok, Err, codes, Option, Result}
use Rattle.script.specs.declared.Entry.{Entry}
use Rattle.script.specs.declared.Entry.TheVariants as entry
use Rattle.bench.specs.declared.rig.Rig.{Rig}
use Rattle.script.specs.declared.Part.{Part}
use Rattle.script.specs.declared.Part.TheVariants as part
use Rattle.bench.specs.declared.rig.Misplaced.{Misplaced}
use Rattle.bench.specs.declared.rig.Misplaced.TheVariants.{GivenTwice, AfterCall}

-- a rig by its parts: memory, protected range, first and second scale, printer, journal, and whether a call or a view has come
abbrev pub rig : Option ℕ → Option (ℕ × ℕ) → Option ℕ → Option ℕ → Option ℕ → Option ℕ → Bool → Rig
rig m p a b t j closed = record { memory = m; protect = p; first_scale = a; second_scale = b; printer = t; journal = j; closed = closed }

-- nothing given
abbrev pub bare : Rig
bare = rig None None None None None None false

-- the part that an entry lays out; calls and views lay out none
abbrev pub part_of : Entry → Option Part
part_of (entry.Part p) = Some p
part_of (entry.In p) = None
part_of (entry.Out p v) = None
part_of (entry.Tick n) = None
part_of entry.Acknowledge = None
part_of (entry.Arrive l u) = None
part_of (entry.Load a) = None
part_of (entry.Store a v) = None
part_of entry.Reset = None
part_of entry.Grant = None
part_of (entry.Find a) = None
part_of entry.State = None
part_of (entry.Level l) = None
part_of entry.Lines = None

-- whether a part has been given as often as it may: a scale twice, any other once
abbrev pub is_given : Rig → Part → Bool
is_given r (part.Memory n) = is_some r.memory
is_given r (part.Protect lo hi) = is_some r.protect
is_given r (part.Scale l) = is_some r.second_scale
is_given r (part.Printer l) = is_some r.printer
is_given r (part.Journal n) = is_some r.journal

-- a scale more: the first given goes before the second
abbrev pub with_scale : Rig → Option ℕ → ℕ → Rig
with_scale r None l = rig r.memory r.protect (Some l) r.second_scale r.printer r.journal r.closed
with_scale r (Some a) l = rig r.memory r.protect (Some a) (Some l) r.printer r.journal r.closed

-- the rig with a part set
abbrev pub with_part : Rig → Part → Rig
with_part r (part.Memory n) = rig (Some n) r.protect r.first_scale r.second_scale r.printer r.journal r.closed
with_part r (part.Protect lo hi) = rig r.memory (Some (lo, hi)) r.first_scale r.second_scale r.printer r.journal r.closed
with_part r (part.Scale l) = with_scale r r.first_scale l
with_part r (part.Printer l) = rig r.memory r.protect r.first_scale r.second_scale (Some l) r.journal r.closed
with_part r (part.Journal n) = rig r.memory r.protect r.first_scale r.second_scale r.printer (Some n) r.closed

-- the rig once a call or a view has come
abbrev pub closing : Rig → Rig
closing r = rig r.memory r.protect r.first_scale r.second_scale r.printer r.journal true

-- a part is refused after the first call or view, and where it has been given as often as it may
abbrev pub placed : Rig → Option Part → Result (Unit {0}) Misplaced
placed r None = Ok tt
placed r (Some p) = cond r.closed (Err AfterCall) (cond (is_given r p) (Err GivenTwice) (Ok tt))

-- what an entry leaves of the rig; one that is refused leaves all
abbrev pub after : Rig → Option Part → Rig
after r None = closing r
after r (Some p) = cond r.closed r (cond (is_given r p) r (with_part r p))

-- what is told of an entry that may not stand there
abbrev pub told : Misplaced → List ℕ
told GivenTwice = codes "entry given twice"
told AfterCall = codes "rig entry after the first call"
