use Rattle.std.proofs.Common.{◌≡◌, ◌∙◌, ◌++◌, ◌∷◌, ap, decimal, arith}
use Rattle.std.proofs.lemmas.Result.{IfErr-weaker}
use Rattle.std.proofs.lemmas.Str.Pattern.{split_parts, split_after}
use Rattle.perft.specs.Answers.{Asks, IsFault, IsRefusal}
use Rattle.perft.proofs.Asked.{depth_unspaced, refused}
use Rattle.perft.proofs.answers.answer.Goals as goal

pub returns-in_default-clause-fault : goal.returns-in_default-clause-fault
returns-in_default-clause-fault c = λ depth fen asked.
    let after = split_after 32 c.args.line.now (decimal depth) fen c.split_once.result c.split_once.ensures.cases
    (omega arith) asked.joined (depth_unspaced depth asked.short) in
    rw c.in_default.is at after

pub returns-in-Some-depth_named-clause-fault : goal.returns-in-Some-depth_named-clause-fault
returns-in-Some-depth_named-clause-fault c =
    let parts = split_parts 32 c.args.line.now c.split_once.result c.split_once.ensures.cases (omega arith) in
    let here = rw c.in-Some.is at parts in
    let depth = c.in-Some-depth_named.depth in
    let named : c.in-Some.digits.now ≡ decimal depth = c.in-Some-depth_named.ensures.named in
    let asked : Asks c.args.line.now depth c.in-Some.fen.now = record {
      short = omega arith;
      joined = here.0 ∙ ap (λ digits. digits ++ (32 ∷ c.in-Some.fen.now)) named;
    } in
    IfErr-weaker c.count_from.result (IsFault c.in-Some.fen.now) (IsRefusal c.args.line.now)
    (refused c.args.line.now depth c.in-Some.fen.now asked) c.count_from.ensures.fault

pub returns-in-None-clause-fault : goal.returns-in-None-clause-fault
returns-in-None-clause-fault c = λ depth fen asked.
    let after = split_after 32 c.args.line.now (decimal depth) fen c.split_once.result c.split_once.ensures.cases
    (omega arith) asked.joined (depth_unspaced depth asked.short) in
    let here = rw c.in-Some.is at after in
    c.in-None.ensures.none depth asked.short here.0
