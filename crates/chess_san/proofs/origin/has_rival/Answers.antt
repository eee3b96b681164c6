use Rattle.std.proofs.Common.{◌≡◌, ◌∙◌, List, ap, subst, sym, refl}
use Rattle.chess_bits.specs.Square.{Square}
use Rattle.chess_bits.specs.Attack.{SomeOf}
use Rattle.chess_bits.specs.Table.{has, members}
use Rattle.chess_bits.specs.SquaresOf.{squares_left}
use Rattle.chess_bits.proofs.AlongLemmas.{SomeOf-members, PassesEach-members}
use Rattle.chess_board.specs.declared.moves.Move.{Move}
use Rattle.chess_board.specs.Position.{man_at}
use Rattle.chess_board.specs.Legal.{EachOf, IsLegal}
use Rattle.chess_board.proofs.Candidates.{IsOnBoard-from_man}
use Rattle.chess_moves.specs.Targets.{plain}
use Rattle.chess_notation.specs.San.{IsRival, IsOn}
use Rattle.chess_san.proofs.SourceLemmas.{EachOf-passes, no_promotion, plain_move}
use Rattle.chess_san.proofs.origin.has_rival.Goals as goal

pub loop-from-init : goal.loop-from-init
loop-from-init c =
    let p = c.args.board.now in
    let m = c.args.mv.now in
    let start : squares_left c.into_iter-from-iterator.result ≡ members c.sources.result =
    ap squares_left c.into_iter-from-iterator.ensures.into_iter_gives ∙ c.iter-from-items.ensures in
    let Some' : List Square → Type 0 = SomeOf
    (λ s. IsRival p m (plain s m.to) × IsOn c.args.among m.from s) in
    let Same' : Square → Type 0 = λ s. man_at p.placement s ≡ man_at p.placement m.from in
    let Each' : List Square → Type 0 = EachOf Same' in
    record {
      some = λ (rival, is, on).
          let own = is.same_man ∙ c.requires.own in
          let Legal' : Move → Type 0 = IsLegal p in
          subst Some' (sym start)
          (SomeOf-members (λ s. IsRival p m (plain s m.to) × IsOn c.args.among m.from s) c.sources.result rival.from
          (IsOnBoard-from_man p.placement rival.from (p.side, c.args.kind) own)
          (c.sources.ensures.all rival is.legal own is.same_target) (
            record {
              legal = subst Legal' (plain_move rival m.to is.same_target
                  (no_promotion p rival c.args.kind c.requires.piece own is.legal)) is.legal;
              same_man = is.same_man;
              same_target = refl;
              elsewhere = is.elsewhere;
            },
            on,
          ));
      goes = subst Each' (sym start)
          (EachOf-passes (has c.sources.result) Same' (members c.sources.result)
          (λ s here. c.sources.ensures.own s here ∙ sym c.requires.own) (PassesEach-members c.sources.result));
    }
