use Rattle.std.proofs.Common.{ℕ, List, subst}
use Rattle.std.proofs.lemmas.Option.{IfSome_then}
use Rattle.chess_board.specs.declared.moves.Move.{Move}
use Rattle.chess_notation.specs.Naming.{IsSanOrBody, Names}
use Rattle.chess_san.proofs.OneMove.{Names-one}
use Rattle.chess_san.proofs.Comparing.{IfNone-map, names_none}
use Rattle.chess_san.proofs.reading.read.Goals as goal

pub returns-in-Some-clause-one : goal.returns-in-Some-clause-one
returns-in-Some-clause-one c = λ other names.
    Names-one c.args.board.now other c.in-Some.mv c.args.text.now names c.in-Some.ensures.found

pub returns-in-None-clause-one : goal.returns-in-None-clause-one
returns-in-None-clause-one c =
    IfSome_then c.by_san.result {P = Names c.args.board.now c.as_bytes.result.now} c.by_san.ensures.found
    (λ m named other names.
    let Names' : List ℕ → Type 0 = λ t. Names c.args.board.now t m in
    Names-one c.args.board.now other m c.args.text.now names
    (subst Names' c.as_bytes.ensures.value named))

pub returns-in-None-clause-none : goal.returns-in-None-clause-none
returns-in-None-clause-none c =
    IfNone-map c.by_san.result _ _
    (λ no_san m names.
    let NoSan' : List ℕ → Type 0 = λ t. (other : Move) → IsSanOrBody c.args.board.now other t → ⊥ in
    names_none c.args.board.now c.args.text.now c.in-None.ensures.none
    (subst NoSan' c.as_bytes.ensures.value no_san) m names)
    c.by_san.ensures.none
