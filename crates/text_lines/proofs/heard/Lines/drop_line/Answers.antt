use Rattle.std.proofs.Common.{◌≡◌, ◌∙◌, [], ◌∷◌, ◌++◌, ◌<◌, ap, sym, subst, drop, length, arith}
use Rattle.std.proofs.lemmas.List.{take_rest}
use Rattle.text_lines.specs.Heard.{Heard}
use Rattle.text_lines.specs.Lines.{lines_of, HasNoFeed}
use Rattle.text_lines.proofs.Wholes.{TakesLine, line-within, holding-after, takes-line, takes-none}
use Rattle.text_lines.proofs.heard.Lines.drop_line.Goals as goal

pub drop_taken-self-inside-requires : goal.drop_taken-self-inside-requires
drop_taken-self-inside-requires c =
    let l = c.self.inside in
    let e : drop l.taken l.whole.items ≡ c.in-Some.part.now ++ 10 ∷ c.in-Some.field-0-1.now =
    sym (take_rest c.as_slice.result.now l.taken ∙ ap (drop l.taken) c.as_slice.ensures.value)
    ∙ c.in-Some.ensures.split in
    let within = line-within l.whole.items c.in-Some.part.now c.in-Some.field-0-1.now l.taken e in
    omega (arith, within)

pub invariant_of-self : goal.invariant_of-self
invariant_of-self c =
    let l = c.self.inside in
    let d = c.drop_taken-self-inside in
    let e : drop l.taken l.whole.items ≡ c.in-Some.part.now ++ 10 ∷ c.in-Some.field-0-1.now =
    sym (take_rest c.as_slice.result.now l.taken ∙ ap (drop l.taken) c.as_slice.ensures.value)
    ∙ c.in-Some.ensures.split in
    holding-after l.whole.items c.in-Some.part.now c.in-Some.field-0-1.now l.rest.items d.new.bytes.items l.taken d.result
    l.is_long c.self.invariant e c.in-Some.ensures.first d.ensures.kept d.ensures.half

pub returns-in-Some-clause-taken : goal.returns-in-Some-clause-taken
returns-in-Some-clause-taken c waits =
    let l = c.self.inside in
    let d = c.drop_taken-self-inside in
    let e : drop l.taken l.whole.items ≡ c.in-Some.part.now ++ 10 ∷ c.in-Some.field-0-1.now =
    sym (take_rest c.as_slice.result.now l.taken ∙ ap (drop l.taken) c.as_slice.ensures.value)
    ∙ c.in-Some.ensures.split in
    subst (λ (h : Heard). TakesLine h.bytes (drop d.result d.new.bytes.items ++ l.rest.items)) c.self.view_is
    (takes-line l.whole.items c.in-Some.part.now c.in-Some.field-0-1.now l.rest.items d.new.bytes.items l.taken d.result
    l.is_long c.self.invariant e c.in-Some.ensures.first d.ensures.kept)

pub returns-in_default-clause-taken : goal.returns-in_default-clause-taken
returns-in_default-clause-taken c waits =
    let l = c.self.inside in
    let free : HasNoFeed (drop l.taken l.whole.items) =
    subst HasNoFeed (take_rest c.as_slice.result.now l.taken ∙ ap (drop l.taken) c.as_slice.ensures.value)
    c.in_default.ensures.none in
    absurd (takes-none l.whole.items l.rest.items l.taken l.is_long c.self.invariant free
    (subst (λ (h : Heard). 0 < length (lines_of h.bytes)) (sym c.self.view_is) waits))

pub returns-in-Some-clause-none : goal.returns-in-Some-clause-none
returns-in-Some-clause-none c none =
    let l = c.self.inside in
    let d = c.drop_taken-self-inside in
    let e : drop l.taken l.whole.items ≡ c.in-Some.part.now ++ 10 ∷ c.in-Some.field-0-1.now =
    sym (take_rest c.as_slice.result.now l.taken ∙ ap (drop l.taken) c.as_slice.ensures.value)
    ∙ c.in-Some.ensures.split in
    let first = takes-line l.whole.items c.in-Some.part.now c.in-Some.field-0-1.now l.rest.items d.new.bytes.items l.taken
    d.result l.is_long c.self.invariant e c.in-Some.ensures.first d.ensures.kept in
    let bad : [] ≡ first.0 ∷ lines_of (drop d.result d.new.bytes.items ++ l.rest.items) =
    sym none ∙ sym (ap (λ (h : Heard). lines_of h.bytes) c.self.view_is) ∙ first.1.lines in
    absurd cc
