use Rattle.std.proofs.Common.{append_assoc}
use Rattle.text_pgn.specs.Spectators.{particulars_json}
use Rattle.text_pgn.proofs.json_tags.push_particulars.Goals as goal

pub returns : goal.returns
unfolding particulars_json
returns c =
    simp (
      append_assoc,
      c.in_ok-push_values-2.ensures,
      c.in_ok-extend_from_slice-2.ensures.items,
      c.in_ok-push_values.ensures,
      c.in_ok-extend_from_slice.ensures.items,
    )
