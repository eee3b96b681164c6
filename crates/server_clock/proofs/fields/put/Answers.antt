use Rattle.std.proofs.Common.{◌≡◌, ◌+◌, ◌-◌, ◌++◌, ◌∙◌, ap, length, take, drop, arith}
use Rattle.std.proofs.lemmas.List.{drop-drop}
use Rattle.rec_codec.specs.Field.{over}
use Rattle.server_clock.proofs.fields.put.Goals as goal

pub returns : goal.returns
unfolding over
returns c =
    let xs = c.args.out.now in
    let a = c.args.at in
    let n = length c.args.bytes.now in
    let k : a + n - a ≡ n = omega arith in
    ap (λ k. take a xs ++ (c.copy_from_slice.new.self ++ drop k (drop a xs))) k
    ∙ (ap (λ ys. take a xs ++ (ys ++ drop n (drop a xs))) c.copy_from_slice.ensures.after
    ∙ ap (λ zs. take a xs ++ (c.args.bytes.now ++ zs)) (drop-drop n a xs))
