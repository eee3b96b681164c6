use Rattle.std.proofs.Common.{rules, arith, ◌<◌, length, ap, ◌∙◌, map, List, ℕ, Vec, Global}
use Rattle.std.proofs.lemmas.Str.Pattern.{split_once_first}
use Rattle.std.specs.Borrow.{Bor}
use Rattle.text_parts.proofs.FirstPart.{taken, taken_last, taken_all, some_left, none_left}
use Rattle.text_parts.proofs.cutting.parts.Goals as goal
use Rattle.text_parts.proofs.cutting.parts.Goals.{then-not-is_empty+in_ok-push-2, else-not-is_empty}

pub loop-part-preserved : goal.loop-part-preserved
loop-part-preserved c =
    let sign = c.args.sign in
    let rest = c.loop-part.rest.now in
    let cut = rw c.in-Some.is at (split_once_first sign rest c.split_once.result c.split_once.ensures.cases c.requires) in
    let some : 0 < length c.loop-part.rest.now = omega (arith, cut.0) in
    record {
      so_far = taken sign c.loop-part.parts.items c.push.new.self.items _ rest c.in-Some.behind.now c.args.text.now some
          c.loop-part.invariant.so_far c.in_ok-push.ensures.items cut.1 cut.2;
      text = search rules;
    }

pub returns : goal.returns
returns c =
    let sign = c.args.sign in
    let rest = c.loop-part.rest.now in
    let none = rw c.in_default.is at (split_once_first sign rest c.split_once.result c.split_once.ensures.cases c.requires) in
    elim c.if-not-is_empty.branch [
      | then-not-is_empty+in_ok-push-2 w ↦
          ap (λ (v : Vec (Bor (List ℕ)) Global). map (λ (p : Bor (List ℕ)). p.now) v.items) w.parts-is
          ∙ taken_last sign c.loop-part.parts.items w.push-then-not-is_empty.new.self.items c.loop-part.rest c.args.text.now
          (some_left c.loop-part.rest.now c.is_empty.result c.is_empty.ensures w.if-not-is_empty.true)
          c.loop-part.invariant.so_far w.in_ok-push-2.ensures.items none
      | else-not-is_empty w ↦
          ap (λ (v : Vec (Bor (List ℕ)) Global). map (λ (p : Bor (List ℕ)). p.now) v.items) w.parts-is
          ∙ taken_all sign (map (λ (p : Bor (List ℕ)). p.now) c.loop-part.parts.items) rest c.args.text.now
          (none_left c.loop-part.rest.now c.is_empty.result c.is_empty.ensures w.if-not-is_empty.false)
          c.loop-part.invariant.so_far
    ]
