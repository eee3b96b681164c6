-- What a fault of the words says of them.
use Rattle.std.specs.Prelude.{◌≡◌, List, true}
use Rattle.clap.specs.Walk.{Text}
use Rattle.clap.specs.Simple.{App}
use Rattle.clap.specs.Takes.{takes}
use Rattle.clap.specs.Faults.{fault_of, is_simple_and_free}
use Rattle.clap.specs.Kinds.{HasKind}
use Rattle.clap.specs.Values.{kind_of}
use Rattle.clap.specs.declared.error.Error.{Error}
use Rattle.clap.specs.declared.error.kind.ErrorKind.TheVariants.{OutOfMemory}

-- It is a fault of the command at these words: only want of memory where it takes them; and of a simple command, no
-- argument of which has a rule about another, a fault of one of the kinds that it has at these words.
pub record IsOfCommand (app : App) (words : List Text) (fault : Error) : Type 0 where
  pub taken : takes app words ≡ true → kind_of fault ≡ OutOfMemory
  pub kind : is_simple_and_free app ≡ true → HasKind (fault_of app words) fault
