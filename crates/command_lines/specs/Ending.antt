-- How a program ends that did not do what its words ask for.
use Rattle.std.specs.Prelude.{ℕ}
use Rattle.clap.specs.Values.{kind_of}
use Rattle.clap.specs.declared.error.kind.ErrorKind.{ErrorKind}
use Rattle.clap.specs.declared.error.kind.ErrorKind.TheVariants.{DisplayHelp, DisplayVersion, OutOfMemory}
use Rattle.command_lines.specs.declared.ending.NotDone.{NotDone}
use Rattle.command_lines.specs.declared.ending.NotDone.TheVariants.{Words, Work}

-- the exit status after a text of the command line: 0 where it was asked for, 1 where memory was refused, and else 2
abbrev pub status_of_text : ErrorKind → ℕ
status_of_text DisplayHelp = 0
status_of_text DisplayVersion = 0
status_of_text OutOfMemory = 1
status_of_text _ = 2

-- the exit status: that of the text, or 1 where the work broke off
abbrev pub status_of : NotDone → ℕ
status_of (Words error) = status_of_text (kind_of error)
status_of (Work error) = 1
