use Rattle.std.proofs.lemmas.Str.{IsUtf8-from_ascii}
use Rattle.player_name.proofs.NameLemmas.{IsAscii-name_bytes}
use Rattle.player_name.specs.NameInside.{text_of}
use Rattle.player_name.proofs.names.Name.as_str.Goals as goal

pub unreachable-requires : goal.unreachable-requires
unreachable-requires c =
    c.in-Err.ensures.cases.0
    (IsUtf8-from_ascii _ (IsAscii-name_bytes (text_of c.self.inside) c.self.invariant.named.bytes))
