use Rattle.std.proofs.Common.{◌≡◌, ◌++◌, map, length}
use denote.Shadow.{shadow}
use denote.Text.{Utf8}
use Rattle.text_parts.specs.Parts.{parts_of}
use Rattle.text_parts.proofs.cutting.parts.Given as goal

abbrev pub invariant-loop-part : goal.invariant-loop-part
invariant-loop-part l = record {
  so_far : map (λ part. part.now) l.parts.items ++ parts_of l.sign l.rest ≡ parts_of l.sign l.text;
  text : shadow (Utf8 l.rest);
}

abbrev pub decreases-loop-part : goal.decreases-loop-part
decreases-loop-part l = length l.rest
