use Rattle.std.proofs.Common.{◌≡◌, length, false}
use Rattle.text_parts.specs.Strings.{behind_from}
use Rattle.text_parts.proofs.escaping.behind_string.Given as goal

abbrev pub decreases-loop-rest : goal.decreases-loop-rest
decreases-loop-rest l = length l.rest

abbrev pub invariant-loop-rest : goal.invariant-loop-rest
invariant-loop-rest l = behind_from l.is_behind l.rest ≡ behind_from false l.fn.text
