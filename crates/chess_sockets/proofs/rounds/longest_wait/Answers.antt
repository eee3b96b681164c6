-- One client more.
use Rattle.std.proofs.Common.{◌≡◌, ◌<◌, ◌+◌, ◌∙◌, ℕ, List, [], ◌∷◌, ◌++◌, length, take, add-one, ap, sym, subst, arith}
use Rattle.std.proofs.Math.Seq.{take-suc, take-length}
use Rattle.chess_sockets.specs.declared.client.Client.{Client}
use Rattle.chess_sockets.specs.Clients.{IsLongest}
use Rattle.chess_sockets.proofs.WaitLemmas.{longest_none, longest_more}
use Rattle.chess_sockets.proofs.rounds.longest_wait.Goals as goal

pub loop-client-init : goal.loop-client-init
loop-client-init g c = record { within = omega arith; longest = longest_none c.args.hub.now.sessions }

pub loop-client-preserved : goal.loop-client-preserved
loop-client-preserved g c =
    let clients = c.args.clients.now in
    let i = c.loop-client.client-index in
    let client = c.client-item.result in
    let lt : i < length clients = omega (arith, c.loop-client-test.true) in
    let more : take i clients ++ client ∷ [] ≡ take (i + 1) clients =
    rw add-one (ap (λ (x : Client g.row.S.Denot). take i clients ++ x ∷ []) c.client-item.is
    ∙ sym (take-suc clients i client lt)) in
    record {
      within = omega (arith, lt);
      longest = subst (λ (l : List (Client g.row.S.Denot)). IsLongest c.args.hub.now.sessions l c.longer-longest.result) more
          (longest_more c.args.hub.now.sessions (take i clients) client c.loop-client.longest c.longer-longest.result
          c.loop-client.invariant.longest c.longer-longest.ensures.least c.longer-longest.ensures.own c.longer-longest.ensures.which);
    }

pub returns : goal.returns
returns g c =
    let clients = c.args.clients.now in
    let all : take c.loop-client.client-index clients ≡ clients =
    ap (λ (i : ℕ). take i clients) (omega (arith, c.loop-client-test.false, c.loop-client.invariant.within))
    ∙ take-length clients in
    subst (λ (l : List (Client g.row.S.Denot)). IsLongest c.args.hub.now.sessions l c.loop-client.longest) all
    c.loop-client.invariant.longest
