use Rattle.std.proofs.Common.{Ok, Err, sym, subst}
use Rattle.std.proofs.lemmas.Result.{err_from_is_err_and}
use Rattle.chess_board.specs.Parts.{described}
use Rattle.chess_fen.specs.declared.fields.FenError.TheVariants as faults
use Rattle.chess_notation.specs.Fen.{IsFenOf}
use Rattle.chess_fen.specs.Reading.{IsFenFault}
use Rattle.chess_fen.proofs.Faults.{read_again, written_again}
use Rattle.chess_fen.proofs.OneFault.{one_fault}
use Rattle.chess_fen.proofs.reading.fen_read.Goals as goal

pub returns-in_err-parts-clause-one_fault : goal.returns-in_err-parts-clause-one_fault
returns-in_err-parts-clause-one_fault c =
    let p = err_from_is_err_and c.from_residual.result c.from_residual.ensures.1 in
    rw (p.1, p.2) (λ other h.
    one_fault c.args.text.now other c.in_err-parts.field-0.0 h c.in_err-parts.ensures.fault)

pub returns-in_err-parts-clause-read : goal.returns-in_err-parts-clause-read
returns-in_err-parts-clause-read c =
    let p = err_from_is_err_and c.from_residual.result c.from_residual.ensures.1 in
    rw (p.1, p.2) (read_again c.args.text.now (Err c.in_err-parts.field-0.0) tt tt c.in_err-parts.ensures.fault)

pub returns-in_err-parts-clause-written : goal.returns-in_err-parts-clause-written
returns-in_err-parts-clause-written c =
    let p = err_from_is_err_and c.from_residual.result c.from_residual.ensures.1 in
    rw (p.1, p.2) (written_again c.args.text.now (Err c.in_err-parts.field-0.0) tt tt c.in_err-parts.ensures.fault)

pub returns-in-Ok-clause-read : goal.returns-in-Ok-clause-read
returns-in-Ok-clause-read c =
    let fen = subst (IsFenOf c.args.text.now) (sym c.in-Ok.ensures.ok) c.in_ok-parts.ensures.fen in
    read_again c.args.text.now (Ok c.in-Ok.board) fen c.in-Ok.ensures.valid tt

pub returns-in-Ok-clause-written : goal.returns-in-Ok-clause-written
returns-in-Ok-clause-written c =
    let fen = subst (IsFenOf c.args.text.now) (sym c.in-Ok.ensures.ok) c.in_ok-parts.ensures.fen in
    written_again c.args.text.now (Ok c.in-Ok.board) fen c.in-Ok.ensures.valid tt

pub returns-in-Err-clause-one_fault : goal.returns-in-Err-clause-one_fault
returns-in-Err-clause-one_fault c = λ other h.
    let told = c.in_ok-parts.ensures in
    let fault : IsFenFault c.args.text.now (faults.Board c.in-Err.fault) =
    (described c.in_ok-parts.parts, told.whole, told.counters, told.fen, c.in-Err.ensures.err, told.target) in
    one_fault c.args.text.now other (faults.Board c.in-Err.fault) h fault

pub returns-in-Err-clause-read : goal.returns-in-Err-clause-read
returns-in-Err-clause-read c =
    let told = c.in_ok-parts.ensures in
    let fault : IsFenFault c.args.text.now (faults.Board c.in-Err.fault) =
    (described c.in_ok-parts.parts, told.whole, told.counters, told.fen, c.in-Err.ensures.err, told.target) in
    read_again c.args.text.now (Err (faults.Board c.in-Err.fault)) tt tt fault

pub returns-in-Err-clause-written : goal.returns-in-Err-clause-written
returns-in-Err-clause-written c =
    let told = c.in_ok-parts.ensures in
    let fault : IsFenFault c.args.text.now (faults.Board c.in-Err.fault) =
    (described c.in_ok-parts.parts, told.whole, told.counters, told.fen, c.in-Err.ensures.err, told.target) in
    written_again c.args.text.now (Err (faults.Board c.in-Err.fault)) tt tt fault
