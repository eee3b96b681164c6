use Rattle.std.proofs.Common.{inl}
use Rattle.command_lines.proofs.reading.read_by.Goals as goal

pub returns : goal.returns
returns g c =
    inl (_, c.in-Ok.ensures.ok.2, (_, _, c.read-answer.ensures))
