use Rattle.std.proofs.Common.{◌≡◌, ◌∙◌, ◌&&◌, Bool, sym}
use Rattle.std.proofs.lemmas.Bool.{and_parts}
use Rattle.chess_mates.proofs.likeness.is_like.Goals as goal

pub returns : goal.returns
returns c told =
    let turn : Bool = c.is_same_side-turn.result in
    let target : Bool = c.is_same_target-target.result in
    let rights : Bool = c.has_same_rights-rights.result in
    let men : Bool = c.has_same_men-men.result in
    let all = and_parts (turn && target && rights) men told in
    let three = and_parts (turn && target) rights all.0 in
    let two = and_parts turn target three.0 in
    record {
      placement = c.has_same_men-men.ensures all.1;
      side = sym c.side-2.ensures ∙ c.is_same_side-turn.ensures.0 two.0 ∙ c.side.ensures;
      rights = c.has_same_rights-rights.ensures three.1;
      target = sym c.target-2.ensures ∙ c.is_same_target-target.ensures two.1 ∙ c.target.ensures;
    }
