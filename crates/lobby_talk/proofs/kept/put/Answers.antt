-- It stands behind those of the other games that stay.
use Rattle.std.proofs.Common.{◌≤◌, ◌<◌, ◌≡◌, ◌-◌, ℕ, inl, inr, arith}
use Rattle.std.proofs.lemmas.Bool.{cases_lt}
use Rattle.lobby_talk.specs.Keeping.{size_of, kept_most}
use Rattle.lobby_talk.proofs.Keeping.{put_small, put_large}
use Rattle.lobby_talk.proofs.kept.put.Goals as goal

pub returns-in-None-clause-keeps : goal.returns-in-None-clause-keeps
returns-in-None-clause-keeps c =
    let one = c.args.one in
    let none = rw c.in-None.is at c.checked_sub.ensures in
    let large : kept_most < size_of one = elim (cases_lt kept_most (size_of one)) [
      | inl more ↦ more
      | inr fits ↦
          let small : c.size.result ≤ kept_most = omega (arith, c.size.ensures, fits) in
          absurd (none small)
    ] in
    put_large one c.args.answers.now.items c.take_off.new.answers.items c.let_go_beyond.new.answers.items large
    c.take_off.ensures c.let_go_beyond.ensures.newest

pub returns-in_ok-push-in-Some-clause-keeps : goal.returns-in_ok-push-in-Some-clause-keeps
returns-in_ok-push-in-Some-clause-keeps c =
    let one = c.args.one in
    let some = rw c.in-Some.is at c.checked_sub.ensures in
    let small : size_of one ≤ kept_most = omega (arith, c.size.ensures, some.0) in
    let room : c.in-Some.most ≡ kept_most - size_of one = omega (arith, c.size.ensures, some.0, some.1) in
    put_small one c.args.answers.now.items c.take_off.new.answers.items c.let_go_beyond-in-Some.new.answers.items
    c.push.new.self.items c.in-Some.most small room c.take_off.ensures c.let_go_beyond-in-Some.ensures.newest
    c.in_ok-push-in-Some.ensures.items
