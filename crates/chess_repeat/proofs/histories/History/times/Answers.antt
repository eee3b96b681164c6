use Rattle.std.proofs.Common.{ℕ, ◌≡◌, ◌∙◌, ap, sym, subst}
use Rattle.std.specs.Prelude.{count_by}
use Rattle.chess_repeat.specs.SamePosition.{IsTimes}
use Rattle.chess_repeat.specs.Key.{key_of}
use Rattle.chess_repeat.specs.History.{count_in, is_key}
use Rattle.chess_repeat.proofs.Counting.{counted_times}
use Rattle.chess_repeat.proofs.histories.History.times.Goals as goal

pub returns-clause-times : goal.returns-clause-times
returns-clause-times c list is =
    let p = c.args.board.now in
    let counted : c.count.result ≡ count_by (λ q. is_key (key_of q) (key_of p)) list =
    c.count.ensures ∙ ap (count_in c.args.self.now.counts) (c.new.ensures ∙ c.key_from.ensures)
    ∙ is.counts (key_of p) in
    let Times : ℕ → Type 0 = IsTimes p list in
    subst Times (sym counted) (counted_times p list c.rights-valid.ensures.valid is.valid)

pub key_from-requires : goal.key_from-requires
key_from-requires c = c.self.invariant.1
