use Rattle.std.proofs.Common.{◌≡◌, ℕ, List, not, map, ap, ◌∙◌}
use Rattle.std.specs.List.{list_any}
use Rattle.std.specs.Str.{bytes_eq, str_to_ascii_lowercase}
use Rattle.std.specs.String.{string_bytes}
use Rattle.lobby_players.specs.Seen.{texts_of}
use Rattle.lobby_players.proofs.EachLine.{any_mapped}
use Rattle.lobby_players.proofs.seen.Seen.put_name.Goals as goal

pub returns-clause-new : goal.returns-clause-new
returns-clause-new c =
    let keys = c.args.self.now.names.keys in
    let small = c.in_ok-small.small in
    c.in_ok-insert.ensures.added
    ∙ ap not (any_mapped string_bytes (bytes_eq (string_bytes small)) keys
    ∙ ap (λ (l : List ℕ). list_any (bytes_eq l) (texts_of keys)) (c.in_ok-small.ensures.ok ∙ ap str_to_ascii_lowercase c.as_str.ensures.text))
