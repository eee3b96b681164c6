use Rattle.std.proofs.Common.{rules}
use Rattle.httparse.specs.Grammar.{trim_ows}
use Rattle.lobby_web.proofs.listed.trimmed.Goals as goal

pub returns : goal.returns
unfolding trim_ows
returns c = search rules
