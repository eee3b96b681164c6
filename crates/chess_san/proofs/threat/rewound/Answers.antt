use Rattle.std.proofs.Common.{ℕ, ◌≡◌, ◌<◌, ◌∙◌, List, Option, None, ap, sym, set, get_or, lit≤, inl, inr, arith}
use Rattle.std.proofs.lemmas.Bool.{cases_eq}
use Rattle.std.proofs.lemmas.List.{length-set, get_or-set_same, get_or-set_other}
use Rattle.chess_bits.specs.Man.{Man}
use Rattle.chess_bits.specs.Square.{Square}
use Rattle.chess_bits.proofs.TableLemmas.{at-square_at}
use Rattle.chess_board.specs.Position.{Position, man_at}
use Rattle.chess_bits.specs.declared.men.Colour.{Colour}
use Rattle.chess_board.specs.declared.castling.CastlingRights.{CastlingRights}
use Rattle.chess_board.specs.RightsOf.{rights_of}
use Rattle.chess_san.specs.Boards.{DiffersInCounters}
use Rattle.chess_board.proofs.Broken.{none_broken}
use Rattle.chess_san.proofs.Counters.{recounted-is, IsValid-like, same_men}
use Rattle.chess_san.proofs.threat.rewound.Goals.{After-target}
use Rattle.chess_san.proofs.threat.rewound.Goals as goal

pub loop-number-preserved : goal.loop-number-preserved
loop-number-preserved c =
    let n : ℕ = c.loop-number.number in
    let men : List (Option Man) = c.loop-number.men in
    let there : List (Option Man) = c.args.board.now.placement in
    let loop = c.loop-number.invariant in
    let below : n < 64 = omega arith in
    let man : Option Man = get_or there n None in
    let told : c.piece_at.result ≡ man =
    c.piece_at.ensures ∙ ap (λ (s : Square). man_at there s) c.new.ensures ∙ at-square_at None there n below in
    let written : set men c.from.result c.piece_at.result ≡ set men n man =
    ap (λ (k : ℕ). set men k c.piece_at.result) c.from.ensures ∙ ap (λ (m : Option Man). set men n m) told in
    record {
      whole = length-set men c.from.result c.piece_at.result ∙ loop.whole;
      placed = λ k within. ap (λ (xs : List (Option Man)). get_or xs k None) written ∙ elim (cases_eq k n) [
        | inl same ↦ ap (λ (i : ℕ). get_or (set men n man) i None) same
            ∙ get_or-set_same men n man None (omega arith)
            ∙ ap (λ (i : ℕ). get_or there i None) (sym same)
        | inr other ↦ get_or-set_other men n k man None other ∙ loop.placed k (omega arith)
      ];
    }

-- the parts that are made of the board, and how they differ from it
abbrev Made : List (Option Man) → Colour → CastlingRights → Option Square → Position
Made men side flags target = record {
  placement = men;
  side = side;
  rights = rights_of flags;
  target = target;
  halfmove = 0;
  fullmove = 1;
}

abbrev made_of : After-target → Position
made_of c = Made c.loop-number.men c.side.result c.rights.result c.target.result

differs : (c : After-target) → DiffersInCounters c.args.board.now (made_of c)
differs c =
    let p : Position = c.args.board.now in
    record {
      placement = same_men c.loop-number.men p.placement c.loop-number.invariant.whole c.rights.ensures.valid.whole
          (λ k below. c.loop-number.invariant.placed k (omega arith));
      side = c.side.ensures;
      rights = c.rights.ensures.rights;
      target = c.target.ensures;
    }

pub unreachable-requires : goal.unreachable-requires
unreachable-requires c =
    let at = (goal.at.unreachable-requires c).After-target in
    none_broken (made_of at) c.in-Err.field-0
    (IsValid-like c.args.board.now (made_of at) (differs at) c.rights.ensures.valid (lit≤ tt, lit≤ tt, lit≤ tt))
    c.in-Err.ensures.err

pub returns : goal.returns
returns c =
    let at = (goal.at.returns c).After-target in
    c.in-Ok.ensures.ok ∙ recounted-is c.args.board.now (made_of at) (differs at)
