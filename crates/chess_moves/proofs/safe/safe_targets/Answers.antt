use Rattle.std.proofs.Common.{◌∙◌, Some, ap, sym, subst, inl, inr}
use Rattle.chess_bits.specs.declared.men.Kind.{Kind}
use Rattle.chess_bits.specs.Table.{IsSetOf}
use Rattle.chess_moves.specs.Targets.{GoesSafely, IsPiece}
use Rattle.chess_moves.proofs.safe.safe_targets.Goals as goal

pub pawn_goes-requires-clause-own : goal.pawn_goes-requires-clause-own
pawn_goes-requires-clause-own c =
    c.requires.own ∙ ap (λ (kind : Kind). Some (c.args.board.now.side, kind)) c.in-Pawn.is

pub king_goes-requires-clause-own : goal.king_goes-requires-clause-own
king_goes-requires-clause-own c =
    c.requires.own ∙ ap (λ (kind : Kind). Some (c.args.board.now.side, kind)) c.in-King.is

pub returns-in-Pawn : goal.returns-in-Pawn
returns-in-Pawn c =
    let Safe' : Kind → Type 0 = λ kind. IsSetOf c.pawn_goes.result (GoesSafely c.args.board.now kind c.args.from) in
    subst Safe' (sym c.in-Pawn.is) c.pawn_goes.ensures

pub returns-in-King : goal.returns-in-King
returns-in-King c =
    let Safe' : Kind → Type 0 = λ kind. IsSetOf c.king_goes.result (GoesSafely c.args.board.now kind c.args.from) in
    subst Safe' (sym c.in-King.is) c.king_goes.ensures

pub returns-in-Knight : goal.returns-in-Knight
returns-in-Knight c = c.piece_goes.ensures

pub piece_goes-requires-clause-piece : goal.piece_goes-requires-clause-piece
piece_goes-requires-clause-piece c = elim c.in-Knight.is [
  | inl e ↦ subst IsPiece (sym e) tt
  | inr (inl e) ↦ subst IsPiece (sym e) tt
  | inr (inr (inl e)) ↦ subst IsPiece (sym e) tt
  | inr (inr (inr e)) ↦ subst IsPiece (sym e) tt
]
