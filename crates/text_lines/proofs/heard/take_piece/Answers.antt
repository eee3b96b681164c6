use Rattle.std.proofs.Common.{◌≡◌, ℕ, ◌<◌, List, [], ◌∷◌, arith, true, false, Bool, subst, not, sym, length, ◌+◌, ◌++◌, ap, ◌∙◌, length-append, append-nil}
use Rattle.std.specs.Bool.{OnTrue, OnFalse}
use Rattle.text_lines.specs.Lines.{HasNoFeed, IsUnfinished}
use Rattle.text_lines.proofs.Wholes.{HasTaken, IsTaken, taken-line, taken-rest, taken-long}
use Rattle.text_lines.proofs.heard.take_piece.Goals as goal

pub returns-then-not-take_part : goal.returns-then-not-take_part
returns-then-not-take_part c =
    taken-long c.args.whole.now.items c.args.rest.now.items c.args.piece.now c.loop-part.whole.items c.loop-part.rest.items
    c.loop-part.more.now c.in-Some.part.now (10 ∷ c.in-Some.after.now) c.take_part.new.rest.items
    c.loop-part.invariant.0 c.in-Some.ensures.split c.in-Some.ensures.first c.if-not-take_part.ensures.long
    c.if-not-take_part.ensures.nothing c.if-not-take_part.ensures.unfinished

pub loop-part-preserved : goal.loop-part-preserved
loop-part-preserved c =
    let part = c.in-Some.part.now in
    let after = c.in-Some.after.now in
    let taken : c.take_part.new.rest.items ≡ c.loop-part.rest.items ++ part = c.if-not-take_part.ensures.taken in
    let more : length c.loop-part.more.now ≡ length part + (1 + length after) =
    ap length c.in-Some.ensures.split ∙ length-append part (10 ∷ after) ∙ omega arith in
    let held : length c.take_part.new.rest.items ≡ length c.loop-part.rest.items + length part =
    ap length taken ∙ length-append c.loop-part.rest.items part in
    let empty : length c.end_line.new.rest.items ≡ 0 = ap length c.end_line.ensures.empty in (
      subst (λ rest. HasTaken c.args.whole.now.items c.args.rest.now.items c.args.piece.now c.end_line.new.whole.items rest
          after) (sym c.end_line.ensures.empty)
          (taken-line c.args.whole.now.items c.args.rest.now.items c.args.piece.now c.loop-part.whole.items
          c.loop-part.rest.items c.loop-part.more.now part after c.take_part.new.rest.items c.end_line.new.whole.items
          c.loop-part.invariant.0 c.in-Some.ensures.split taken c.if-not-take_part.ensures.unfinished c.end_line.ensures.items),
      omega arith,
    )

-- where the rest fits, and where it does not
rest_taken : (fits : Bool) (whole came piece now rest more held : List ℕ) → HasTaken whole came piece now rest more →
    HasNoFeed more → OnTrue fits (held ≡ rest ++ more) → IsUnfinished held → OnFalse fits (255 < length rest + length more) →
    OnFalse fits (held ≡ []) → IsTaken whole came piece now held (not fits)
rest_taken true whole came piece now rest more held h f is u l n = taken-rest whole came piece now rest more held h is u
rest_taken false whole came piece now rest more held h f is u l n =
    taken-long whole came piece now rest more more [] held h (sym (append-nil more)) f l n u

pub returns : goal.returns
returns c =
    rest_taken c.take_part-2.result c.args.whole.now.items c.args.rest.now.items c.args.piece.now c.loop-part.whole.items
    c.loop-part.rest.items c.loop-part.more.now c.take_part-2.new.rest.items c.loop-part.invariant.0
    c.in_default.ensures.none c.take_part-2.ensures.taken c.take_part-2.ensures.unfinished c.take_part-2.ensures.long
    c.take_part-2.ensures.nothing
