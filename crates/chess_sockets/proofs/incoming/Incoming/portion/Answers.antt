-- What stands in front.
use Rattle.std.proofs.Common.{◌≡◌, ◌∙◌, ◌+◌, false, [], drop, inl, inr, sym, take-append-drop, append-nil, arith}
use Rattle.std.proofs.lemmas.List.Elements.{All-nil}
use Rattle.text_lines.specs.Lines.{is_feed}
use Rattle.chess_sockets.proofs.PortionLemmas.{first-line, dear-line}
use Rattle.chess_sockets.proofs.incoming.Incoming.portion.Goals as goal

pub end_of_lines-requires-clause-line : goal.end_of_lines-requires-clause-line
end_of_lines-requires-clause-line c = first-line c.as_slice-bytes.result.now c.in-Some.at c.in-Some.ensures.found.0
    c.in-Some.ensures.found.1 c.in-Some.ensures.first (sym c.is_dear.ensures ∙ c.if-is_dear.false)

pub returns-in-Some-clause-portion : goal.returns-in-Some-clause-portion
returns-in-Some-clause-portion c =
    let bytes = c.as_slice-bytes.result.now in
    let at = c.in-Some.at in
    let dear = dear-line bytes at c.in-Some.ensures.found.0 c.in-Some.ensures.found.1 c.in-Some.ensures.first
    (sym c.is_dear.ensures ∙ c.if-is_dear.true) in
    record {
      rest = drop (at + 1) bytes;
      order = sym c.as_slice-bytes.ensures.value ∙ sym (take-append-drop (at + 1) bytes);
      given = inr (inl dear);
      most = inr (inl dear);
    }

pub returns-in-Some-2-clause-portion : goal.returns-in-Some-2-clause-portion
returns-in-Some-2-clause-portion c =
    let bytes = c.as_slice-bytes.result.now in
    let end = c.end_of_lines.result in
    record {
      rest = drop end bytes;
      order = sym c.as_slice-bytes.ensures.value ∙ sym (take-append-drop end bytes);
      given = inl c.end_of_lines.ensures.lines;
      most = elim c.end_of_lines.ensures.most [
        | inl sixteen ↦ inl sixteen
        | inr (inl none) ↦ inr (inr (inl none))
        | inr (inr dear) ↦ inr (inr (inr dear))
      ];
    }

pub returns-in-None-clause-portion : goal.returns-in-None-clause-portion
returns-in-None-clause-portion c =
    let bytes = c.as_slice-bytes.result.now in
    record {
      rest = [];
      order = sym c.as_slice-bytes.ensures.value ∙ sym (append-nil bytes);
      given = inr (inr (record { no_feed = c.in-None.ensures.none; long = omega arith }));
      most = inr (inr (inl (All-nil (λ b. is_feed b ≡ false))));
    }
