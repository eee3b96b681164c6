use Rattle.std.proofs.Common.{◌≡◌, sym, ◌∙◌, ◌∷◌, ◌++◌, codes}
use Rattle.std.proofs.lemmas.Bool.{false≢true}
use Rattle.std.proofs.lemmas.Slice.Eq.{bytes_eq-Decides}
use Rattle.chess_line.proofs.Cases.{is_list, act_after}
use Rattle.chess_line.proofs.lines.read.Goals as goal

pub returns-else-eq-clause-every : goal.returns-else-eq-clause-every
returns-else-eq-clause-every c = λ line is.
    let word = c.cut_word.result.0.now in
    let whole : c.args.text.now ≡ word = rw c.in_default.is at c.cut_word.ensures.joined in
    let list = is_list word line c.cut_word.ensures.unspaced
    (record { spelled = sym whole ∙ is.spelled; sayable = is.sayable }) in
    false≢true (sym c.if-eq.false ∙ (c.eq.ensures ∙ (bytes_eq-Decides word (codes "list")).1 list))

pub returns-in_err-act-clause-every : goal.returns-in_err-act-clause-every
returns-in_err-act-clause-every c = λ line is.
    let word = c.cut_word.result.0.now in
    let whole : c.args.text.now ≡ word ++ (32 ∷ c.in-Some.rest.now) = rw c.in-Some.is at c.cut_word.ensures.joined in
    let o = act_after c.args.text.now word c.in-Some.rest.now line c.cut_word.ensures.unspaced
    (λ e. false≢true (sym c.if-eq-2.false ∙ (c.eq-2.ensures ∙ (bytes_eq-Decides word (codes "name")).1 e))) whole is in
    absurd (c.in_err-act.ensures.every o.act o.after)
