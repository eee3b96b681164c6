use Rattle.std.proofs.Common.{append_assoc}
use Rattle.text_pgn.specs.Spectators.{tags_json}
use Rattle.text_pgn.proofs.json_tags.push_tags.Goals as goal

pub returns : goal.returns
unfolding tags_json
returns c =
    simp (
      append_assoc,
      c.in_ok-extend_from_slice-2.ensures.items,
      c.in_ok-push_tag_list.ensures,
      c.in_ok-extend_from_slice.ensures.items,
      c.as_slice.ensures.value,
      c.in_ok-lines.ensures,
    )
