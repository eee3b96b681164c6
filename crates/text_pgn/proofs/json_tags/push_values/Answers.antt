use Rattle.std.proofs.Common.{append_assoc}
use Rattle.text_pgn.proofs.json_tags.push_values.Goals as goal

pub returns : goal.returns
returns c =
    simp (
      append_assoc,
      c.in_ok-extend_from_slice-3.ensures.items,
      c.in_ok-push_string-2.ensures,
      c.in_ok-extend_from_slice-2.ensures.items,
      c.in_ok-push_string.ensures,
      c.in_ok-extend_from_slice.ensures.items,
      c.as_slice.ensures.value,
      c.as_slice-2.ensures.value,
      c.in_ok-first.ensures,
      c.in_ok-second.ensures,
    )
