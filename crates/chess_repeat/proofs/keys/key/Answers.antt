use Rattle.std.proofs.Common.{◌∙◌, inl, inr, set, refl, ap, sym, arith}
use Rattle.std.proofs.lemmas.Bool.{cases_eq}
use Rattle.std.proofs.lemmas.Grind.{get_or-set_at}
use Rattle.std.proofs.lemmas.List.{get_or-set_other, length-set}
use Rattle.chess_repeat.specs.Key.{men_byte}
use Rattle.chess_repeat.proofs.KeyBytes.{key_of-written}
use Rattle.chess_repeat.proofs.LiveTargets.{target_byte-live, target_byte-dead}
use Rattle.chess_repeat.proofs.keys.key.Goals as goal

pub returns-clause-key : goal.returns-clause-key
returns-clause-key c =
    key_of-written c.args.board.now c.loop-pair.bytes c.state_byte.result c.target_byte.result
    c.loop-pair.invariant.whole
    (λ k h. c.loop-pair.invariant.written k (omega (arith, c.loop-pair-test.false, h)))
    c.state_byte.ensures c.target_byte.ensures

pub loop-pair-preserved : goal.loop-pair-preserved
loop-pair-preserved c =
    let bytes = c.loop-pair.bytes in
    let i = c.from.result in
    let x = c.men_byte.result in
    let placement = c.args.board.now.placement in
    record {
      whole = length-set bytes i x ∙ c.loop-pair.invariant.whole;
      written = λ k h. elim (cases_eq k i) [
        | inl e ↦
            get_or-set_at bytes i k x 0 e
            (omega (arith, c.from.ensures, c.loop-pair-test.true, c.loop-pair.invariant.whole))
            ∙ c.men_byte.ensures ∙ ap (men_byte placement) (sym (e ∙ c.from.ensures))
        | inr ne ↦
            get_or-set_other bytes i k x 0 ne
            ∙ c.loop-pair.invariant.written k (omega (arith, h, c.from.ensures, ne))
      ];
    }

pub returns-clause-live_target : goal.returns-clause-live_target
returns-clause-live_target c m capture =
    let bytes = c.loop-pair.bytes in
    get_or-set_at (set bytes 32 c.state_byte.result) 33 33 c.target_byte.result 0 refl
    (omega (arith, length-set bytes 32 c.state_byte.result, c.loop-pair.invariant.whole))
    ∙ c.target_byte.ensures ∙ target_byte-live c.args.board.now m c.rights-valid.ensures.valid capture

pub returns-clause-dead_target : goal.returns-clause-dead_target
returns-clause-dead_target c none =
    let bytes = c.loop-pair.bytes in
    get_or-set_at (set bytes 32 c.state_byte.result) 33 33 c.target_byte.result 0 refl
    (omega (arith, length-set bytes 32 c.state_byte.result, c.loop-pair.invariant.whole))
    ∙ c.target_byte.ensures ∙ target_byte-dead c.args.board.now none
