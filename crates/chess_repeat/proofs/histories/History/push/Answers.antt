use Rattle.std.proofs.Common.{ℕ, ◌≡◌, ◌+◌, ◌∙◌, List, [], ◌∷◌, ◌++◌, length, ap, sym, subst, arith, refl, rules}
use Rattle.std.proofs.lemmas.Grind.{common_steps}
use Rattle.std.specs.Prelude.{count_by}
use Rattle.chess_repeat.specs.SamePosition.{IsTimes}
use Rattle.chess_repeat.specs.Key.{key_of}
use Rattle.chess_repeat.specs.History.{HistoryState, count_in, is_key, IsGivenCount}
use Rattle.chess_repeat.proofs.Counting.{CountsOneMore, counts_one_more, counted_more, counts_at_most, counted_times, bounded-push, history-push}
use Rattle.chess_repeat.proofs.histories.History.push.Goals.{After-push}
use Rattle.chess_repeat.proofs.histories.History.push.Goals as goal

once_more : (c : After-push) →
    CountsOneMore c.key_from-key.result c.self.inside.counts.entries c.count_more.new.counts.entries
once_more c =
    let key = c.key_from-key.result in
    let old = c.self.inside.counts.entries in
    let new = c.count_more.new.counts.entries in
    let Given' : ℕ → Type 0 = IsGivenCount key old new in
    counts_one_more key old new (count_in old key) refl
    (subst Given' c.in_ok-times.ensures.more c.in_ok-times.ensures.counted)

stands_now : (c : After-push) → c.in_ok-times.times ≡ count_in c.count_more.new.counts.entries (key_of c.args.board.now)
stands_now c =
    c.in_ok-times.ensures.more
    ∙ sym (counted_more c.key_from-key.result c.self.inside.counts.entries c.count_more.new.counts.entries (once_more c))
    ∙ ap (λ (key : List ℕ). count_in c.count_more.new.counts.entries key) c.key_from-key.ensures

pub count_more-requires : goal.count_more-requires
count_more-requires c =
    let seen : length c.self.inside.clocks.items ≡ length c.args.self.now.clocks =
    ap (λ (h : HistoryState). length h.clocks) c.self.view_is in
    omega (arith, seen, c.requires, c.self.invariant.0.each c.key_from-key.result)

pub invariant_of-self-2 : goal.invariant_of-self-2
invariant_of-self-2 c =
    let key = c.key_from-key.result in
    let inside = c.self.inside.clocks.items in
    let old = c.self.inside.counts.entries in
    let new = c.count_more.new.counts.entries in
    let seen : length inside ≡ length c.args.self.now.clocks =
    ap (λ (h : HistoryState). length h.clocks) c.self.view_is in
    let longer : length c.push.new.self.items ≡ length inside + 1 =
    first_of (search rules, grind (arith, common_steps)) in (
      bounded-push inside old new c.self.invariant.0 (omega (arith, seen, c.requires))
          (counts_at_most key old new c.in_ok-times.times (length inside) (omega (arith, c.in_ok-times.ensures.more))
          c.in_ok-times.ensures.counted)
          c.push.new.self.items longer,
      c.key_from-key.ensures,
    )

pub returns-clause-pushed : goal.returns-clause-pushed
returns-clause-pushed c list is =
    let p = c.args.board.now in
    let old = c.self.inside.counts.entries in
    let new = c.count_more.new.counts.entries in
    let clocks : c.push.new.self.items ≡ c.args.self.now.clocks ++ p.halfmove ∷ [] =
    first_of (search rules, grind (arith, common_steps)) in
    let more : CountsOneMore c.key_from-key.result old new =
    once_more (goal.at.returns-clause-pushed c).After-push in
    let More : List ℕ → Type 0 = λ key. CountsOneMore key old new in
    let Seen : HistoryState → Type 0 = λ h. CountsOneMore (key_of p) h.counts new in
    let now : HistoryState = record { clocks = c.push.new.self.items; counts = new } in
    history-push c.args.self.now now list p c.rights-valid.ensures.valid is clocks
    (subst Seen c.self.view_is (subst More c.key_from-key.ensures more))

pub returns-clause-count : goal.returns-clause-count
returns-clause-count c = stands_now (goal.at.returns-clause-count c).After-push

pub returns-clause-times : goal.returns-clause-times
returns-clause-times c list is =
    let p = c.args.board.now in
    let times : c.in_ok-times.times ≡ count_by (λ q. is_key (key_of q) (key_of p)) list =
    stands_now (goal.at.returns-clause-times c).After-push ∙ is.counts (key_of p) in
    let Times : ℕ → Type 0 = IsTimes p list in
    subst Times (sym times) (counted_times p list c.rights-valid.ensures.valid is.valid)

pub key_from-key-requires : goal.key_from-key-requires
key_from-key-requires c = c.self.invariant.1
