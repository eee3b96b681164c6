use Rattle.std.proofs.Common.{◌≡◌, ◌∙◌, sym, ap, true}
use Rattle.std.proofs.lemmas.Bool.{false≢true}
use Rattle.chess_bits.specs.Square.{Square}
use Rattle.chess_bits.specs.Table.{has}
use Rattle.chess_bits.proofs.SetLemmas.{IsLeast-first, has-none, IsSetOf-like, no_head}
use Rattle.chess_moves.specs.Masks.{IsLeaper}
use Rattle.chess_moves.proofs.Foes.{leaper_on}
use Rattle.chess_moves.proofs.Singles.{every_set}
use Rattle.chess_moves.proofs.masks.ends_of_leaps.Goals as goal

pub is_single-requires : goal.is_single-requires
is_single-requires c = c.leapers-leapers.ensures.whole

pub returns-in-None : goal.returns-in-None
returns-in-None c =
    let p = c.args.board.now in
    rw c.from_word.ensures
    (every_set (λ q. (l : Square) → IsLeaper p c.args.square l → q ≡ l) (λ q l leaper.
    let on = leaper_on p c.args.square l leaper in
    absurd (false≢true (sym (has-none c.leapers-leapers.result l on (no_head _ c.in-None.ensures))
    ∙ (c.leapers-leapers.ensures.exact l on).1 leaper))))

pub returns-in-Some : goal.returns-in-Some
returns-in-Some c =
    let p = c.args.board.now in
    let set = c.leapers-leapers.result in
    let of = c.leapers-leapers.ensures in
    let first = c.in-Some.leaper in
    let least = IsLeast-first set first c.in-Some.ensures in
    let is_leaper = (of.exact first least.on_board).0 least.member in
    IsSetOf-like c.only.result (λ q. (q ≡ first) × (c.is_single.result ≡ true))
    (λ q. (l : Square) → IsLeaper p c.args.square l → q ≡ l) c.only.ensures
    (λ q on both l leaper.
    let one = c.is_single.ensures.0 both.1 in
    let on_l = leaper_on p c.args.square l leaper in
    both.0 ∙ (one.2.exact first least.on_board).0 least.member
    ∙ sym ((one.2.exact l on_l).0 ((of.exact l on_l).1 leaper)))
    (λ q on ends.
    let same : q ≡ first = ends first is_leaper in (
      same,
      c.is_single.ensures.1 (
        q,
        on,
        record {
          whole = of.whole;
          exact = λ r on_r. (
            (λ here. sym (ends r ((of.exact r on_r).0 here))),
            (λ e. ap (has set) (e ∙ same) ∙ least.member),
          );
        },
      ),
    ))
