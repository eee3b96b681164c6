use Rattle.std.proofs.Common.{◌∙◌, sym}
use Rattle.std.specs.Cmp.Lexicographic.{bytes_decides}
use Rattle.chess_repeat.proofs.SameKeys.{keys_same}
use Rattle.chess_repeat.proofs.keys.is_same.Goals as goal

pub returns-clause-same : goal.returns-clause-same
returns-clause-same c =
    let keys = keys_same c.args.first.now c.args.second.now c.rights.ensures.valid c.rights-2.ensures.valid in
    let bytes = bytes_decides c.key.result c.key-2.result in (
      λ yes. keys.0 (sym c.key.ensures.key ∙ bytes.0 (sym c.eq.ensures ∙ yes) ∙ c.key-2.ensures.key),
      λ same. c.eq.ensures ∙ bytes.1 (c.key.ensures.key ∙ keys.1 same ∙ sym c.key-2.ensures.key),
    )

pub returns-clause-keys : goal.returns-clause-keys
returns-clause-keys c =
    keys_same c.args.first.now c.args.second.now c.rights.ensures.valid c.rights-2.ensures.valid
