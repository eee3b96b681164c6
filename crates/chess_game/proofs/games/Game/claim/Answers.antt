use Rattle.std.proofs.Common.{true, false, sym, ap, ◌∙◌, subst}
use Rattle.std.specs.Prelude.{Option, is_some}
use Rattle.std.proofs.lemmas.Result.{err_from_is_err_and}
use Rattle.chess_board.specs.declared.moves.Move.{Move}
use Rattle.chess_board.specs.Legal.{IsLegal}
use Rattle.chess_end.specs.declared.ending.Ending.{Ending}
use Rattle.chess_entry.specs.Follow.{ended, moved, claimed_wrongly}
use Rattle.chess_game.specs.Scoresheet.{ScoresheetState, last_of}
use Rattle.chess_game.proofs.Refused.{on_err, not_ok}
use Rattle.chess_game.proofs.KeptGame.{IsGame-moved}
use Rattle.chess_game.proofs.Shown.{Shows-kept, IsGame-kept, IsSound-shown, state_of-shown}
use Rattle.chess_game.proofs.Acts.{HasRoom-playable, TimesFit-claim, TimesFit-turn, NotFallen-turn, IsOnWay-judged, IsGame-claimed, IsInTime-judged, IsPlayable-judged, Shows-claimed, claim-shows, granted-as, judged-granted, judged-none, judged-some}
use Rattle.chess_game.proofs.Offers.{runs_on, runs_from, IsByAct-claimed}
use Rattle.chess_game.proofs.games.Game.claim.Goals as goal

pub is_granted-requires : goal.is_granted-requires
is_granted-requires c = λ m e. c.requires.judgeable.stated m (sym c.stated_move-mv.ensures ∙ e)

pub end-requires-clause-by_act : goal.end-requires-clause-by_act
end-requires-clause-by_act c =
    IsByAct-claimed c.args.claim.now.fifty c.drawn_by_claim.result c.drawn_by_claim.ensures

pub claim_wrongly-requires-clause-running : goal.claim_wrongly-requires-clause-running
claim_wrongly-requires-clause-running c =
    let game = c.args.self.now in
    runs_on game c.self.inside.sides (Shows-kept c.self.inside game c.self.view_is c.self.invariant).sides
    c.requires.in_time.running.goes_on

pub claim_wrongly-requires-in-Some-clause-running : goal.claim_wrongly-requires-in-Some-clause-running
claim_wrongly-requires-in-Some-clause-running c =
    let game = c.args.self.now in
    runs_on game c.self.inside.sides (Shows-kept c.self.inside game c.self.view_is c.self.invariant).sides
    c.requires.in_time.running.goes_on

pub finish_turn-requires-clause-running : goal.finish_turn-requires-clause-running
finish_turn-requires-clause-running c =
    let game = c.args.self.now in
    let claim = c.args.claim.now in
    runs_on (claimed_wrongly game claim.by) c.claim_wrongly-in-Some.new.self
    (Shows-claimed c.self.inside game claim.by c.claim_wrongly-in-Some.new.self
    (Shows-kept c.self.inside game c.self.view_is c.self.invariant) c.claim_wrongly-in-Some.ensures).sides
    c.requires.in_time.running.goes_on

pub finish_turn-requires-clause-from_start : goal.finish_turn-requires-clause-from_start
finish_turn-requires-clause-from_start c =
    let game = c.args.self.now in
    let claim = c.args.claim.now in
    runs_from (claimed_wrongly game claim.by) c.args.at c.claim_wrongly-in-Some.new.self
    (Shows-claimed c.self.inside game claim.by c.claim_wrongly-in-Some.new.self
    (Shows-kept c.self.inside game c.self.view_is c.self.invariant) c.claim_wrongly-in-Some.ensures).sides
    c.requires.in_time.running.from_start

pub returns-then-is_granted-clause-refused : goal.returns-then-is_granted-clause-refused
returns-then-is_granted-clause-refused c = tt

pub returns-then-is_granted-clause-wrong : goal.returns-then-is_granted-clause-wrong
returns-then-is_granted-clause-wrong c = tt

pub returns-then-is_granted-clause-stating : goal.returns-then-is_granted-clause-stating
returns-then-is_granted-clause-stating c = tt

pub returns-in-None-clause-refused : goal.returns-in-None-clause-refused
returns-in-None-clause-refused c = tt

pub returns-in-None-clause-wrong : goal.returns-in-None-clause-wrong
returns-in-None-clause-wrong c = tt

pub returns-in-None-clause-stating : goal.returns-in-None-clause-stating
returns-in-None-clause-stating c = tt

pub returns-in_ok-ending-in-Some-clause-refused : goal.returns-in_ok-ending-in-Some-clause-refused
returns-in_ok-ending-in-Some-clause-refused c = tt

pub returns-in_ok-ending-in-Some-clause-wrong : goal.returns-in_ok-ending-in-Some-clause-wrong
returns-in_ok-ending-in-Some-clause-wrong c = tt

pub returns-in_ok-ending-in-Some-clause-stating : goal.returns-in_ok-ending-in-Some-clause-stating
returns-in_ok-ending-in-Some-clause-stating c = tt

pub returns-in_err-ending-in-Some-clause-judged : goal.returns-in_err-ending-in-Some-clause-judged
returns-in_err-ending-in-Some-clause-judged c =
    let e = err_from_is_err_and c.from_residual.result c.from_residual.ensures.1 in
    not_ok c.from_residual.result e.0 _ e.1

pub returns-then-is_granted-clause-judged : goal.returns-then-is_granted-clause-judged
returns-then-is_granted-clause-judged c =
    let game = c.args.self.now in
    let claim = c.args.claim.now in
    c.end.ensures ∙ ap (λ (e : Ending). ended game c.args.at e) c.drawn_by_claim.ensures
    ∙ judged-granted game c.args.at claim
    (granted-as game claim c.stated_move-mv.result c.is_granted.result true c.stated_move-mv.ensures
    c.is_granted.ensures c.if-is_granted.true)

pub claim_wrongly-requires-clause-fits : goal.claim_wrongly-requires-clause-fits
claim_wrongly-requires-clause-fits c =
    let game = c.args.self.now in
    let is = IsGame-kept c.self.inside game c.self.view_is c.self.invariant in
    TimesFit-claim c.self.inside game c.args.claim.now.by
    (Shows-kept c.self.inside game c.self.view_is c.self.invariant)
    (IsOnWay-judged game c.args.at c.args.claim.now is c.requires.in_time c.requires.judgeable)

pub invariant_of-self : goal.invariant_of-self
invariant_of-self c =
    let game = c.args.self.now in
    let claim = c.args.claim.now in
    let is = IsGame-kept c.self.inside game c.self.view_is c.self.invariant in
    IsSound-shown _ (claimed_wrongly game claim.by)
    (Shows-claimed c.self.inside game claim.by c.claim_wrongly.new.self
    (Shows-kept c.self.inside game c.self.view_is c.self.invariant) c.claim_wrongly.ensures)
    (IsGame-claimed game c.args.at claim is c.requires.in_time c.requires.judgeable)

pub push-requires-clause-legal : goal.push-requires-clause-legal
push-requires-clause-legal c =
    let shows = Shows-kept c.self.inside c.args.self.now c.self.view_is c.self.invariant in
    let P : ScoresheetState → Type 0 = λ line. IsLegal (last_of line) c.in-Some.mv in
    subst P (sym shows.line) (c.requires.judgeable.stated c.in-Some.mv (sym c.stated_move-mv.ensures ∙ c.in-Some.is)).legal

pub push-requires-clause-room : goal.push-requires-clause-room
push-requires-clause-room c =
    let game = c.args.self.now in
    HasRoom-playable c.self.inside game (Shows-kept c.self.inside game c.self.view_is c.self.invariant)
    (IsGame-kept c.self.inside game c.self.view_is c.self.invariant)
    (c.requires.judgeable.stated c.in-Some.mv (sym c.stated_move-mv.ensures ∙ c.in-Some.is)).room

pub claim_wrongly-requires-in-Some-clause-fits : goal.claim_wrongly-requires-in-Some-clause-fits
claim_wrongly-requires-in-Some-clause-fits c =
    let game = c.args.self.now in
    let is = IsGame-kept c.self.inside game c.self.view_is c.self.invariant in
    TimesFit-claim c.self.inside game c.args.claim.now.by
    (Shows-kept c.self.inside game c.self.view_is c.self.invariant)
    (IsOnWay-judged game c.args.at c.args.claim.now is c.requires.in_time c.requires.judgeable)

pub finish_turn-requires-clause-in_time : goal.finish_turn-requires-clause-in_time
finish_turn-requires-clause-in_time c =
    let game = c.args.self.now in
    let claim = c.args.claim.now in
    let is = IsGame-kept c.self.inside game c.self.view_is c.self.invariant in
    NotFallen-turn (claimed_wrongly game claim.by) c.args.at c.claim_wrongly-in-Some.new.self
    (Shows-claimed c.self.inside game claim.by c.claim_wrongly-in-Some.new.self
    (Shows-kept c.self.inside game c.self.view_is c.self.invariant) c.claim_wrongly-in-Some.ensures).sides
    (IsInTime-judged game c.args.at claim is c.requires.in_time c.requires.judgeable).in_time

pub finish_turn-requires-clause-fits : goal.finish_turn-requires-clause-fits
finish_turn-requires-clause-fits c =
    let game = c.args.self.now in
    let claim = c.args.claim.now in
    let is = IsGame-kept c.self.inside game c.self.view_is c.self.invariant in
    TimesFit-turn (claimed_wrongly game claim.by) c.args.at c.in-Some.mv c.claim_wrongly-in-Some.new.self
    (Shows-claimed c.self.inside game claim.by c.claim_wrongly-in-Some.new.self
    (Shows-kept c.self.inside game c.self.view_is c.self.invariant) c.claim_wrongly-in-Some.ensures).sides
    (IsGame-claimed game c.args.at claim is c.requires.in_time c.requires.judgeable)
    (IsInTime-judged game c.args.at claim is c.requires.in_time c.requires.judgeable).running
    (IsPlayable-judged game claim c.in-Some.mv c.requires.judgeable (sym c.stated_move-mv.ensures ∙ c.in-Some.is))

pub invariant_of-self-in-Some : goal.invariant_of-self-in-Some
invariant_of-self-in-Some c =
    let game = c.args.self.now in
    let claim = c.args.claim.now in
    let is = IsGame-kept c.self.inside game c.self.view_is c.self.invariant in
    IsSound-shown _ (moved (claimed_wrongly game claim.by) c.args.at c.in-Some.mv)
    (claim-shows c.self.inside game c.args.at claim c.in-Some.mv c.claim_wrongly-in-Some.new.self c.in_ok-ending-in-Some.ending
    c.push.new.self c.finish_turn.new.self c.self.view_is c.self.invariant c.requires.in_time c.requires.judgeable
    c.claim_wrongly-in-Some.ensures c.in_ok-ending-in-Some.ensures.pushed c.in_ok-ending-in-Some.ensures.ending c.finish_turn.ensures)
    (IsGame-moved (claimed_wrongly game claim.by) c.args.at c.in-Some.mv
    (IsGame-claimed game c.args.at claim is c.requires.in_time c.requires.judgeable)
    (IsInTime-judged game c.args.at claim is c.requires.in_time c.requires.judgeable)
    (IsPlayable-judged game claim c.in-Some.mv c.requires.judgeable (sym c.stated_move-mv.ensures ∙ c.in-Some.is)))

pub returns-in-None-clause-judged : goal.returns-in-None-clause-judged
returns-in-None-clause-judged c =
    let game = c.args.self.now in
    let claim = c.args.claim.now in
    state_of-shown _ (claimed_wrongly game claim.by)
    (Shows-claimed c.self.inside game claim.by c.claim_wrongly.new.self
    (Shows-kept c.self.inside game c.self.view_is c.self.invariant) c.claim_wrongly.ensures)
    ∙ judged-none game c.args.at claim
    (granted-as game claim c.stated_move-mv.result c.is_granted.result false c.stated_move-mv.ensures
    c.is_granted.ensures c.if-is_granted.false)
    (sym c.stated_move-mv.ensures ∙ c.in-None.is)

pub returns-in_ok-ending-in-Some-clause-judged : goal.returns-in_ok-ending-in-Some-clause-judged
returns-in_ok-ending-in-Some-clause-judged c =
    let game = c.args.self.now in
    let claim = c.args.claim.now in
    state_of-shown _ (moved (claimed_wrongly game claim.by) c.args.at c.in-Some.mv)
    (claim-shows c.self.inside game c.args.at claim c.in-Some.mv c.claim_wrongly-in-Some.new.self c.in_ok-ending-in-Some.ending
    c.push.new.self c.finish_turn.new.self c.self.view_is c.self.invariant c.requires.in_time c.requires.judgeable
    c.claim_wrongly-in-Some.ensures c.in_ok-ending-in-Some.ensures.pushed c.in_ok-ending-in-Some.ensures.ending c.finish_turn.ensures)
    ∙ judged-some game c.args.at claim c.in-Some.mv
    (granted-as game claim c.stated_move-mv.result c.is_granted.result false c.stated_move-mv.ensures
    c.is_granted.ensures c.if-is_granted.false)
    (sym c.stated_move-mv.ensures ∙ c.in-Some.is)

pub returns-in_err-ending-in-Some-clause-wrong : goal.returns-in_err-ending-in-Some-clause-wrong
returns-in_err-ending-in-Some-clause-wrong c =
    on_err c.from_residual.result _
    (granted-as c.args.self.now c.args.claim.now c.stated_move-mv.result c.is_granted.result false
    c.stated_move-mv.ensures c.is_granted.ensures c.if-is_granted.false)

pub returns-in_err-ending-in-Some-clause-stating : goal.returns-in_err-ending-in-Some-clause-stating
returns-in_err-ending-in-Some-clause-stating c =
    on_err c.from_residual.result _
    (ap (λ (mv : Option Move). is_some mv) (sym c.stated_move-mv.ensures ∙ c.in-Some.is))
