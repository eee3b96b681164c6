use Rattle.std.proofs.Common.{sym, subst}
use Rattle.std.proofs.lemmas.Result.{err_from_is_err_and}
use Rattle.chess_board.specs.RightsOf.{rights_of}
use Rattle.chess_fen.specs.declared.fields.FenError.TheVariants.{Counter}
use Rattle.chess_fen.specs.Reading.{fields_of, IsFenFault, TellsPlacement, HasHalfmove, HasFullmove}
use Rattle.chess_fen.proofs.Faults.{TellsAll-IsFenOf}
use Rattle.chess_fen.proofs.reading.parts_of.Goals.{In_ok-target}
use Rattle.chess_fen.proofs.reading.parts_of.Goals as goal

pub returns-in_err-target-clause-fault : goal.returns-in_err-target-clause-fault
returns-in_err-target-clause-fault c =
    let p = err_from_is_err_and c.from_residual-in_err-target.result c.from_residual-in_err-target.ensures.1 in
    let f = c.in_ok-fields.fields in
    let fields = fields_of f.placement.now f.side.now f.castling.now f.target.now f.halfmove.now f.fullmove.now in
    rw (p.1, p.2) (rw c.in_err-target.ensures.fault (
      fields,
      c.in_ok-fields.ensures.split,
      (c.in_ok-men.men, c.in_ok-men.ensures.told),
      (c.in_ok-side.side, c.in_ok-side.ensures.told),
      (rights_of c.in_ok-rights.rights, c.in_ok-rights.ensures.told),
      λ h. c.in_err-target.ensures.none h.0 h.1,
    ))

-- the other fields say something
counter : (c : In_ok-target) →
    (let t = c.in_ok-fields.fields in
    let f = fields_of t.placement.now t.side.now t.castling.now t.target.now t.halfmove.now t.fullmove.now in
    ¬ (HasHalfmove f × HasFullmove f)) →
    IsFenFault c.args.text.now Counter
counter c none =
    let f = c.in_ok-fields.fields in (
      fields_of f.placement.now f.side.now f.castling.now f.target.now f.halfmove.now f.fullmove.now,
      c.in_ok-fields.ensures.split,
      (c.in_ok-men.men, c.in_ok-men.ensures.told),
      (c.in_ok-side.side, c.in_ok-side.ensures.told),
      (rights_of c.in_ok-rights.rights, c.in_ok-rights.ensures.told),
      (c.in_ok-target.target, c.in_ok-target.ensures.told),
      none,
    )

pub returns-in_err-halfmove-clause-fault : goal.returns-in_err-halfmove-clause-fault
returns-in_err-halfmove-clause-fault c =
    let p = err_from_is_err_and c.from_residual-in_err-halfmove.result c.from_residual-in_err-halfmove.ensures.1 in
    rw (p.1, p.2) (rw c.in_err-halfmove.ensures.fault
    (counter (goal.at.returns-in_err-halfmove-clause-fault c).In_ok-target
    (λ h. c.in_err-halfmove.ensures.none h.0.0 h.0.1)))

pub returns-in_err-fullmove-clause-fault : goal.returns-in_err-fullmove-clause-fault
returns-in_err-fullmove-clause-fault c =
    let p = err_from_is_err_and c.from_residual-in_err-fullmove.result c.from_residual-in_err-fullmove.ensures.1 in
    rw (p.1, p.2) (rw c.in_err-fullmove.ensures.fault
    (counter (goal.at.returns-in_err-fullmove-clause-fault c).In_ok-target
    (λ h. c.in_err-fullmove.ensures.none h.1.0 h.1.1)))

pub returns-clause-fen : goal.returns-clause-fen
returns-clause-fen c =
    let t = c.in_ok-fields.fields in
    let f = fields_of t.placement.now t.side.now t.castling.now t.target.now t.halfmove.now t.fullmove.now in
    TellsAll-IsFenOf c.args.text.now f _ c.in_ok-fields.ensures.split (record {
      placement = subst (TellsPlacement f.placement) (sym c.by_number.ensures) c.in_ok-men.ensures.told;
      side = c.in_ok-side.ensures.told;
      rights = c.in_ok-rights.ensures.told;
      target = c.in_ok-target.ensures.told;
      halfmove = c.in_ok-halfmove.ensures.told;
      fullmove = c.in_ok-fullmove.ensures.told;
    })
