use Rattle.std.proofs.Common.{◌∙◌, [], ◌∷◌, Some, ap}
use Rattle.std.specs.Prelude.{is_some}
use Rattle.rec_codec.specs.Flags.{flags_byte, is_set}
use Rattle.rec_codec.specs.Records.{ending_number}
use Rattle.rec_codec.proofs.FieldLemmas.{flag-1, flag-2, flag-4, flag-8, flag-16, flag-32}
use Rattle.rec_codec.proofs.EntryLemmas.{no_some, same_some}
use Rattle.rec_codec.proofs.SnapshotLemmas.{same_head, ending_number-below}
use Rattle.rec_codec.proofs.snapshot.read_head.Goals as goal

pub returns-in_err-start : goal.returns-in_err-start
returns-in_err-start c = λ h is s.
    absurd (no_some h.start c.position_at.result c.in_err-start.was
    (c.position_at.ensures h.start is.start s.1.1.1.1.1.1.1.1.1.0))

pub returns : goal.returns
returns c = λ h is s.
    let a = h.white.taken in
    let b = h.black.taken in
    let o = h.white.offers in
    let q = h.black.offers in
    let k = h.claimed in
    let p = is_some h.period in
    let flags = c.u8_at-flags.ensures (flags_byte (a ∷ b ∷ o ∷ q ∷ k ∷ p ∷ [])) s.1.0 in
    let start = same_some c.in_ok-start.start h.start c.position_at.result c.in_ok-start.was
    (c.position_at.ensures h.start is.start s.1.1.1.1.1.1.1.1.1.0) in
    ap Some (same_head h c.in_ok-game.game c.u64_at-moment.result c.u32_at-moves.result c.u32_at-initial.result
    c.u32_at-increment.result c.period_at-period.result c.in_ok-start.start c.seat_at-white.result c.seat_at-black.result
    c.is_set-claimed.result c.ending_of-ending.result
    (c.in_ok-game.ensures.some ∙ c.u32_at.ensures h.game is.game s.1.1.1.0)
    (c.u64_at-moment.ensures h.moment is.moment s.1.1.1.1.0)
    (c.u32_at-moves.ensures h.moves is.moves s.1.1.1.1.1.0)
    (c.u32_at-initial.ensures h.initial is.initial s.1.1.1.1.1.1.0)
    (c.u32_at-increment.ensures h.increment is.increment s.1.1.1.1.1.1.1.0)
    (c.period_at-period.ensures h.period is.period_moves is.period_second s.1.1.1.1.1.1.1.1.1.1.1.1.1.0 s.1.1.1.1.1.1.1.1.1.1.1.1.1.1.0
    (c.is_set-has_period.ensures ∙ (ap (λ f. is_set f 32) flags ∙ flag-32 a b o q k p [])))
    start
    (c.seat_at-white.ensures h.white is.white s.1.1.1.1.1.1.1.1.0 s.1.1.1.1.1.1.1.1.1.1.1.0
    (c.is_set-white_taken.ensures ∙ (ap (λ f. is_set f 1) flags ∙ flag-1 a (b ∷ o ∷ q ∷ k ∷ p ∷ [])))
    (c.is_set-white_offers.ensures ∙ (ap (λ f. is_set f 4) flags ∙ flag-4 a b o (q ∷ k ∷ p ∷ []))))
    (c.seat_at-black.ensures h.black is.black s.1.1.1.1.1.1.1.1.1.1.0 s.1.1.1.1.1.1.1.1.1.1.1.1.0
    (c.is_set-black_taken.ensures ∙ (ap (λ f. is_set f 2) flags ∙ flag-2 a b (o ∷ q ∷ k ∷ p ∷ [])))
    (c.is_set-black_offers.ensures ∙ (ap (λ f. is_set f 8) flags ∙ flag-8 a b o q (k ∷ p ∷ []))))
    (c.is_set-claimed.ensures ∙ (ap (λ f. is_set f 16) flags ∙ flag-16 a b o q k (p ∷ [])))
    (c.ending_of-ending.ensures h.ending (c.u16_at.ensures (ending_number h.ending)
    (ending_number-below h.ending) s.1.1.0)))
