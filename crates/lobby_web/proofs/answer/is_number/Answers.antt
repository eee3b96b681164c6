use Rattle.std.proofs.Common.{Bool, ap, sym, ◌∙◌, rules, tests, length}
use Rattle.std.proofs.lemmas.Bool.{lt-ltb}
use Rattle.std.specs.Prelude.{◌&&◌}
use Rattle.std.specs.Char.{is_ascii_digit}
use Rattle.std.specs.List.{list_all}
use Rattle.std.proofs.lemmas.Iterator.{YieldsList-from_slice}
use Rattle.std.proofs.lemmas.Iterator.Search.{all_from_yields_List}
use Rattle.lobby_web.proofs.answer.is_number.Goals as goal

pub returns-then-not-is_empty : goal.returns-then-not-is_empty
returns-then-not-is_empty c =
    let digits =
    all_from_yields_List is_ascii_digit _ _ c.all.result c.all.ensures.ran
    (YieldsList-from_slice c.args.text.now cc) (λ x b q k. search (rules, tests)) in
    let more = lt-ltb 0 (length c.args.text.now) (search (rules, tests)) in
    digits ∙ sym (ap (λ (b : Bool). b && list_all is_ascii_digit c.args.text.now) more)
