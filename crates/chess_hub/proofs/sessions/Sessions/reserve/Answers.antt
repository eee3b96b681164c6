use Rattle.std.proofs.Common.{◌∙◌, sym, ap, take, ◌++◌, ◌∷◌, [], length, subst}
use Rattle.std.specs.Prelude.{IsSome}
use Rattle.std.proofs.lemmas.List.{take_more}
use Rattle.slab.specs.Slab.{get}
use Rattle.chess_hub.specs.declared.turn.TurnLine.{TurnLine}
use Rattle.chess_hub.proofs.RoomLemmas.{rooms-more, same-after, opens-kept}
use Rattle.chess_hub.proofs.sessions.Sessions.reserve.Goals as goal

pub make_room-requires : goal.make_room-requires
make_room-requires c =
    let t = c.line-item.result in
    opens-kept c.args.self.now c.loop-line.self t.sid c.loop-line.invariant.1
    (subst (λ (x : TurnLine). IsSome (get c.args.self.now.slab x.sid)) (sym c.line-item.is)
    (c.requires c.loop-line.line-index t c.loop-line-test.true))

pub loop-line-preserved : goal.loop-line-preserved
loop-line-preserved c =
    let lines = c.args.lines.now in
    let i = c.loop-line.line-index in
    let t = c.line-item.result in (
      rooms-more (length lines) i c.loop-line.self.slab c.make_room.new.slab lines t
          (take_more lines i t c.loop-line-test.true ∙ ap (λ x. take i lines ++ x ∷ []) (sym c.line-item.is))
          c.make_room.ensures.kept c.make_room.ensures.others c.in_ok-make_room.ensures.room c.loop-line.invariant.0,
      same-after c.args.self.now c.loop-line.self (record c.loop-line.self { slab = c.make_room.new.slab }) t.sid
          c.loop-line.invariant.1 c.make_room.ensures.shown c.make_room.ensures.others,
    )
