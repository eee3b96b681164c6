use Rattle.std.specs.Cmp.{both_ways}
use Rattle.std.specs.Str.{bytes_eq, str_to_ascii_lowercase}
use Rattle.std.proofs.lemmas.Slice.Eq.{bytes_eq-Decides}
use Rattle.lobby_players.proofs.lines.is_alike.Goals as goal

pub returns : goal.returns
returns c =
    let a = str_to_ascii_lowercase c.args.one.now in
    let b = str_to_ascii_lowercase c.args.other.now in
    both_ways c.eq_ignore_ascii_case.result (bytes_eq a b)
    (λ is. (bytes_eq-Decides a b).1 (c.eq_ignore_ascii_case.ensures.test.0 is))
    (λ is. c.eq_ignore_ascii_case.ensures.test.1 ((bytes_eq-Decides a b).0 is))
