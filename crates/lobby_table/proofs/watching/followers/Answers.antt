use Rattle.std.proofs.Common.{ℕ, ◌≡◌, Bool, true, false, ◌++◌, ◌==◌, ◌&&◌, not, List, [], ◌∷◌, take, filter, get_or, refl, sym, ap, ◌∙◌, append_assoc, append-nil}
use Rattle.std.specs.Prelude.{if◌then◌else◌}
use Rattle.std.proofs.lemmas.List.{take_all}
use Rattle.std.proofs.lemmas.List.Elements.{filter_more}
use Rattle.lobby_table.specs.declared.watching.Watch.{Watch}
use Rattle.lobby_table.specs.Watching.{watched, followers}
use Rattle.lobby_table.proofs.Watched.{watching, watching_more}
use Rattle.lobby_table.proofs.watching.followers.Goals as goal

-- none of them, where that is not so
none_of : (test : ℕ → Bool) (xs : List ℕ) → filter (λ c. false && test c) xs ≡ []
none_of test [] = refl
none_of test (x ∷ xs) = none_of test xs

pub loop-watch-preserved : goal.loop-watch-preserved
loop-watch-preserved c =
    let ws = c.args.watches.now in
    let g = c.args.game in
    let i = c.loop-watch.watch-index in
    let w : Watch = get_or ws i (record { by = 0; game = 0 }) in
    c.in_ok-add_if.ensures
    ∙ (ap (λ (xs : List ℕ). xs ++ (if w.game == g then w.by ∷ [] else [])) c.loop-watch.invariant
    ∙ sym (watching_more ws g i (record { by = 0; game = 0 }) c.loop-watch-test.true))

-- those who watch the game, once all were looked at
pub loop-one-init : goal.loop-one-init
loop-one-init c =
    c.loop-watch.invariant
    ∙ (ap (watching c.args.game) (take_all c.loop-watch.watch-index c.args.watches.now c.loop-watch-test.false)
    ∙ sym (append-nil (watching c.args.game c.args.watches.now)))

pub loop-one-preserved : goal.loop-one-preserved
loop-one-preserved c =
    let ws = c.args.watches.now in
    let t = c.args.table.now in
    let g = c.args.game in
    let i = c.loop-one.one-index in
    let test = λ (q : ℕ). not (watched c.args.watches.now q c.args.game) in
    let one = get_or t i 0 in
    c.in_ok-add_if-2.ensures
    ∙ (ap (λ (b : Bool). c.loop-one.to.items ++ (if not b then one ∷ [] else [])) c.is_watched-is_told.ensures
    ∙ (ap (λ (xs : List ℕ). xs ++ (if test one then one ∷ [] else [])) c.loop-one.invariant
    ∙ (append_assoc (watching g ws) (filter test (take i t)) (if test one then one ∷ [] else [])
    ∙ ap (λ (xs : List ℕ). watching g ws ++ xs) (sym (filter_more test t i 0 c.loop-one-test.true)))))

pub returns-then-not-is_table : goal.returns-then-not-is_table
returns-then-not-is_table c =
    let test = λ (q : ℕ). not (watched c.args.watches.now q c.args.game) in
    c.loop-watch.invariant
    ∙ (ap (watching c.args.game) (take_all c.loop-watch.watch-index c.args.watches.now c.loop-watch-test.false)
    ∙ (sym (append-nil (watching c.args.game c.args.watches.now))
    ∙ (ap (λ (xs : List ℕ). watching c.args.game c.args.watches.now ++ xs) (sym (none_of test c.args.table.now))
    ∙ ap (λ (b : Bool). followers c.args.watches.now c.args.table.now c.args.game b) (sym c.if-not-is_table.true))))

pub returns : goal.returns
returns c =
    let test = λ (q : ℕ). not (watched c.args.watches.now q c.args.game) in
    c.loop-one.invariant
    ∙ (ap (λ (ts : List ℕ). watching c.args.game c.args.watches.now ++ filter test ts)
    (take_all c.loop-one.one-index c.args.table.now c.loop-one-test.false)
    ∙ ap (λ (b : Bool). followers c.args.watches.now c.args.table.now c.args.game b) (sym c.if-not-is_table.false))
