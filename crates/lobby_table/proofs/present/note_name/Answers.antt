use Rattle.std.proofs.Common.{ℕ, ◌≡◌, ◌||◌, Bool, true, false, List, Option, cond, refl, ap, sym, ◌∙◌}
use Rattle.std.specs.HashSet.{contains_text}
use Rattle.std.specs.Str.{bytes_eq}
use Rattle.std.specs.String.{string_bytes}
use Rattle.std.proofs.lemmas.Map.Text.{hash_set_updates_text}
use Rattle.lobby_words.specs.declared.planning.Identity.{Identity}
use Rattle.lobby_words.specs.Players.{is_named}
use Rattle.lobby_table.proofs.present.note_name.Goals as goal

added : (b x : Bool) → cond b true x ≡ (x || b)
added true true = refl
added true false = refl
added false true = refl
added false false = refl

pub returns-in_ok-insert : goal.returns-in_ok-insert
returns-in_ok-insert c = λ name.
    let before = contains_text c.args.names.now name in
    hash_set_updates_text (string_bytes c.in_ok-from_str.field-0) c.args.names.now c.insert.new.self true c.in_ok-insert.ensures.updates name
    ∙ (ap (λ (n : List ℕ). cond (bytes_eq n name) true before) (c.in_ok-from_str.ensures.ok ∙ c.as_str.ensures.text)
    ∙ (added (bytes_eq c.in-Some.who.name name) before
    ∙ sym (ap (λ (w : Option Identity). before || is_named w name) c.in-Some.is)))
