use Rattle.std.proofs.Common.{arith}
use Rattle.std.proofs.lemmas.Str.Pattern.{split_parts}
use Rattle.chess_line.proofs.fields.cut_word.Goals as goal

pub returns-in-Some-clause-unspaced : goal.returns-in-Some-clause-unspaced
returns-in-Some-clause-unspaced c =
    let parts = split_parts 32 c.args.text.now c.split_once.result c.split_once.ensures.cases (omega arith) in
    let here = rw c.in-Some.is at parts in
    here.1

pub returns-in-None-clause-unspaced : goal.returns-in-None-clause-unspaced
returns-in-None-clause-unspaced c =
    let parts = split_parts 32 c.args.text.now c.split_once.result c.split_once.ensures.cases (omega arith) in
    rw c.in-None.is at parts
