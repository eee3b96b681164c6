-- One line more.
use Rattle.std.proofs.Common.{ℕ, List, ◌≡◌, ◌∙◌, ◌+◌, ◌-◌, ◌<◌, true, false, length, drop, take, inr, subst, sym, arith}
use Rattle.std.specs.Prelude.{slice_index}
use Rattle.text_lines.specs.Lines.{HasNoFeed}
use Rattle.std.proofs.lemmas.List.{take_rest, length-drop}
use Rattle.chess_sockets.specs.Portions.{is_dear}
use Rattle.chess_sockets.proofs.PortionLemmas.{more-lines, begin-dear}
use Rattle.chess_sockets.proofs.incoming.end_of_lines.Goals as goal

abbrev IsFeedAt : ℕ → List ℕ → Type 0
IsFeedAt at bytes = (at < length bytes) × (slice_index bytes at ≡ 10)

-- the first feed of what is behind `end`
first_end : (bytes : List ℕ) (end at : ℕ) → IsFeedAt at (take (length bytes - end) (drop end bytes)) →
    HasNoFeed (take at (take (length bytes - end) (drop end bytes))) →
    (at < length (drop end bytes)) × (slice_index (drop end bytes) at ≡ 10) × HasNoFeed (take at (drop end bytes))
first_end bytes end at found first =
    let rest = take_rest bytes end in
    let (lt, feed) = subst (IsFeedAt at) rest found in (lt, feed, subst (λ l. HasNoFeed (take at l)) rest first)

pub loop-preserved : goal.loop-preserved
loop-preserved c =
    let (first, within, lines) = c.loop.invariant in
    let bytes = c.args.bytes.now in
    let end = c.loop.end in
    let at = c.in-Some.at in
    let (lt, feed, none) = first_end bytes end at c.in-Some.ensures.found c.in-Some.ensures.first in
    let same : (end + at) - end ≡ at = omega arith in
    let cheap = subst (λ n. is_dear (take n (drop end bytes)) ≡ false) same (sym c.is_dear.ensures ∙ c.if-is_dear.false) in (
      omega (arith, first),
      omega (arith, within, lt, length-drop end bytes),
      more-lines c.loop.counter bytes end at lines lt feed none cheap,
    )

pub returns-then-is_dear-clause-most : goal.returns-then-is_dear-clause-most
returns-then-is_dear-clause-most c =
    let bytes = c.args.bytes.now in
    let end = c.loop.end in
    let at = c.in-Some.at in
    let (lt, feed, none) = first_end bytes end at c.in-Some.ensures.found c.in-Some.ensures.first in
    let same : (end + at) - end ≡ at = omega arith in
    let dear = subst (λ n. is_dear (take n (drop end bytes)) ≡ true) same (sym c.is_dear.ensures ∙ c.if-is_dear.true) in
    inr (inr (begin-dear (drop end bytes) at lt feed none dear))
