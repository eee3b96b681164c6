use Rattle.std.proofs.Common.{subst, ◌∙◌}
use Rattle.std.specs.Io.KnownBytes.{Appends}
use Rattle.std.specs.Prelude.{ℕ, ◌≡◌, ◌<◌, List, [], ◌++◌, length}
use Rattle.text_lines.proofs.Writes.{on_err, loses-ready}
use Rattle.text_lines.specs.Outlets.{Loses}
use Rattle.text_lines.proofs.outlet.hand_out.Goals as goal

pub returns-in_err-send-clause-loses : goal.returns-in_err-send-clause-loses
returns-in_err-send-clause-loses g c =
    let now = g.W.Write.contents c.args.writer.now in
    let new = g.W.Write.contents c.send.new.writer in
    let ready = c.args.ready.now.bytes in
    on_err c.from_residual.result (Loses now ready [] new) (loses-ready now new ready
    (subst (λ (text : List ℕ). (front : List ℕ) × (rest : List ℕ) × (text ≡ front ++ rest) × (0 < length rest)
    × Appends now new front) (c.as_bytes.ensures.value ∙ c.as_str.ensures.value) c.in_err-send.ensures.front))
