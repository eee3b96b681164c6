use Rattle.std.proofs.Common.{◌≡◌, ◌∙◌, true, false, None, Some, sym}
use Rattle.chess_repeat.proofs.LiveTargets.{target_byte-some, target_byte-none}
use Rattle.chess_repeat.proofs.keys.target_byte.Goals as goal

pub returns-in-Some : goal.returns-in-Some
returns-in-Some c =
    let p = c.args.board.now in
    let t = c.in-Some.target in
    let e : p.target ≡ Some t = cc in
    c.number.ensures.number ∙ sym (target_byte-some p t true e (sym c.is_live.ensures ∙ c.if-is_live.true))

pub returns-in_default : goal.returns-in_default
returns-in_default c =
    let p = c.args.board.now in
    let t = c.in-Some.target in
    let e : p.target ≡ Some t = cc in
    sym (target_byte-some p t false e (sym c.is_live.ensures ∙ c.if-is_live.false))

pub returns-in_default-2 : goal.returns-in_default-2
returns-in_default-2 c =
    let p = c.args.board.now in
    let e : p.target ≡ None = cc in
    sym (target_byte-none p e)
