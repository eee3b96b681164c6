use Rattle.std.proofs.Common.{rules, ◌≡◌, ◌++◌, decimal, arith, length-append}
use Rattle.std.proofs.lemmas.Fmt.{decimal_nonempty, length-decimal-le}
use Rattle.chess_text.proofs.game.numbered.Goals as goal

pub returns-clause-token : goal.returns-clause-token
returns-clause-token c =
    let n = c.args.number in
    let whole : c.push_str-2.new.self.bytes ≡ decimal n ++ c.args.dots.now = search rules in
    rw whole (record {
      filled = omega (arith, length-append (decimal n) c.args.dots.now, decimal_nonempty n (omega arith));
      short = omega (
        arith,
        length-append (decimal n) c.args.dots.now,
        length-decimal-le 5 n (omega arith) (omega arith) (omega arith),
        c.requires,
      );
    })
