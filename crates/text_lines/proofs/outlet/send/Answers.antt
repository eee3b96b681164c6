use Rattle.std.proofs.Common.{◌≡◌, [], ◌++◌, rules, take, sym, ap, ◌∙◌, subst, append-nil, refl}
use Rattle.std.specs.Io.KnownBytes.{Appends}
use Rattle.std.proofs.lemmas.List.{nil_from_length}
use Rattle.text_lines.proofs.Writes.{split_on}
use Rattle.std.proofs.KnownBytes.{Appends-nil, Appends-kept, Appends-trans}
use Rattle.text_lines.proofs.outlet.send.Goals as goal
use Rattle.text_lines.proofs.outlet.send.Goals.{in-Ok, in-Err+else-ne}

pub loop-init : goal.loop-init
loop-init g c = ([], refl, Appends-nil _)

pub loop-preserved : goal.loop-preserved
loop-preserved g c =
    let (done, split, appended) = c.loop.invariant in
    elim c.match-write.branch [
      | in-Ok w ↦ (
        done ++ take w.in-Ok.count c.loop.rest.now,
        split_on c.args.text.now done c.loop.rest.now c.match-write.rest.now w.in-Ok.count split
            (ap (λ r. r.now) w.rest-is),
        Appends-trans (g.W.Write.contents c.args.writer.now) (g.W.Write.contents c.loop.writer)
            (g.W.Write.contents c.write.new.self) done (take w.in-Ok.count c.loop.rest.now)
            appended w.in-Ok.ensures.bytes,
      )
      | in-Err+else-ne w ↦ (
        done,
        split ∙ ap (λ r. done ++ r.now) (sym w.rest-is),
        Appends-kept (g.W.Write.contents c.args.writer.now) (g.W.Write.contents c.loop.writer)
            (g.W.Write.contents c.write.new.self) done appended w.in-Err.ensures.bytes,
      )
    ]

pub returns-then-is_empty-clause-whole : goal.returns-then-is_empty-clause-whole
returns-then-is_empty-clause-whole g c =
    let (done, split, appended) = c.loop.invariant in
    let empty : c.loop.rest.now ≡ [] = nil_from_length c.loop.rest.now (search rules) in
    subst (Appends (g.W.Write.contents c.args.writer.now) (g.W.Write.contents c.loop.writer))
    (sym (split ∙ ap (λ l. done ++ l) empty ∙ append-nil done)) appended

pub returns-in-Ok-eq0-clause-front : goal.returns-in-Ok-eq0-clause-front
returns-in-Ok-eq0-clause-front g c =
    let old = g.W.Write.contents c.args.writer.now in
    let now = g.W.Write.contents c.loop.writer in
    let new = g.W.Write.contents c.write.new.self in
    let (done, split, appended) = c.loop.invariant in (
      done,
      c.loop.rest.now,
      split,
      search rules,
      subst (Appends old new) (append-nil done)
          (Appends-trans old now new done [] appended
          (subst (λ n. Appends now new (take n c.loop.rest.now)) c.in-Ok-eq0.field-0-test
          c.in-Ok-eq0.ensures.bytes)),
    )

pub returns-then-ne-clause-front : goal.returns-then-ne-clause-front
returns-then-ne-clause-front g c =
    let old = g.W.Write.contents c.args.writer.now in
    let now = g.W.Write.contents c.loop.writer in
    let new = g.W.Write.contents c.write.new.self in
    let (done, split, appended) = c.loop.invariant in
    (done, c.loop.rest.now, split, search rules, Appends-kept old now new done appended c.in-Err.ensures.bytes)

pub returns-then-is_empty-2-clause-whole : goal.returns-then-is_empty-2-clause-whole
returns-then-is_empty-2-clause-whole g c =
    let (done, split, appended) = c.loop.invariant in
    let empty : c.loop.rest.now ≡ [] = nil_from_length c.loop.rest.now (search rules) in
    subst (Appends (g.W.Write.contents c.args.writer.now) (g.W.Write.contents c.loop.writer))
    (sym (split ∙ ap (λ l. done ++ l) empty ∙ append-nil done)) appended

pub returns-else-is_empty-2-clause-front : goal.returns-else-is_empty-2-clause-front
returns-else-is_empty-2-clause-front g c =
    let (done, split, appended) = c.loop.invariant in (done, c.loop.rest.now, split, search rules, appended)
