use Rattle.std.proofs.Common.{ℕ, ◌≡◌, Bool, List, Option, None, Some, IfSome, IfNone, ap, sym, ◌∙◌}
use Rattle.std.specs.Prelude.{if◌then◌else◌}
use Rattle.player_name.specs.Name.{IsName}
use Rattle.lobby_words.proofs.Names.{name_is, name_is_not}
use Rattle.night_rounds.specs.Rows.{name_in}
use Rattle.night_rounds.proofs.rows.name_of.Goals as goal

named : (text : List ℕ) (found : Option (List ℕ)) → IfSome found (λ name. (name ≡ text) × IsName name) →
    IfNone found (IsName text → ⊥) → found ≡ name_in text
named text (Some name) some none =
    ap Some some.0 ∙ sym (ap (λ (b : Bool). if b then Some text else None) (name_is text (rw some.0 at some.1)))
named text None some none = sym (ap (λ (b : Bool). if b then Some text else None) (name_is_not text none))

pub returns : goal.returns
returns c = named c.args.text.now c.try_new.result c.try_new.ensures.some c.try_new.ensures.none
