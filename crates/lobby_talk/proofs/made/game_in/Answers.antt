use Rattle.std.proofs.Common.{◌≡◌, Ok, decimal, arith}
use Rattle.std.proofs.lemmas.Fmt.{parse-decimal}
use Rattle.lobby_talk.proofs.made.game_in.Goals as goal

pub returns : goal.returns
returns c = λ n small e.
    let word : c.before-word.result.now ≡ decimal n = cc in
    let read : c.parse.result ≡ Ok n =
    parse-decimal 32 n c.before-word.result.now c.parse.result (omega arith) (omega arith) word c.parse.ensures.value.0 in
    cc
