-- What a line of a script is before anything is performed.
use Rattle.std.specs.Prelude.{ℕ, List, Some, None, Ok, Err, Option, Result}
use Rattle.script.specs.declared.Entry.{Entry}
use Rattle.script.specs.declared.Misread.{Misread as ScriptMisread}
use Rattle.script.specs.Entries.{told as misread_told}
use Rattle.bench.specs.declared.rig.Rig.{Rig}
use Rattle.bench.specs.declared.rig.Misplaced.{Misplaced as RigMisplaced}
use Rattle.bench.specs.declared.lines.Wrong.{Wrong}
use Rattle.bench.specs.declared.lines.Wrong.TheVariants.{Misread, Misplaced}
use Rattle.bench.specs.Rig.{part_of, placed, after}
use Rattle.bench.specs.Rig.{told as misplaced_told}

-- the entry, where the rig takes it
abbrev pub entry_answer : Entry → Result (Unit {0}) RigMisplaced → Result (Option Entry) Wrong
entry_answer e (Ok x) = Ok (Some e)
entry_answer e (Err why) = Err (Misplaced why)

-- what a line answers: one with no entry is well, one that is no entry is wrong, an entry is for the rig to take
abbrev pub line_answer : Rig → Result (Option Entry) ScriptMisread → Result (Option Entry) Wrong
line_answer r (Ok None) = Ok None
line_answer r (Ok (Some e)) = entry_answer e (placed r (part_of e))
line_answer r (Err why) = Err (Misread why)

-- what a line leaves of the rig
abbrev pub line_after : Rig → Result (Option Entry) ScriptMisread → Rig
line_after r (Ok None) = r
line_after r (Ok (Some e)) = after r (part_of e)
line_after r (Err why) = r

-- what is told of a line that is wrong
abbrev pub told : Wrong → List ℕ
told (Misread why) = misread_told why
told (Misplaced why) = misplaced_told why
