-- What holds of a verdict that is an entry.
use Rattle.rec_codec.specs.declared.record.Entry.{Entry}
use Rattle.chess_entry.specs.declared.verdicts.Verdict.{Verdict}
use Rattle.chess_entry.specs.declared.verdicts.Verdict.TheVariants.{Refuse, Enter, Read}

-- what is said of the entry holds, where the verdict is one
abbrev pub OnEnter : Verdict → (Entry → Type 0) → Type 0
OnEnter (Refuse refusal) P = Unit {0}
OnEnter (Enter entry) P = P entry
OnEnter Read P = Unit {0}
