-- Each answer that was given goes behind what waits.
use Rattle.std.proofs.Common.{ℕ, ◌≡◌, ◌++◌, ◌∙◌, List, None, Some, refl}
use Rattle.chess_answer.specs.declared.reads.Reply.{Reply}
use Rattle.chess_hub.specs.Session.{said, session_at}
use Rattle.chess_sockets.specs.Clients.{bytes_of}
use Rattle.chess_sockets.specs.Sending.{waiting}
use Rattle.chess_sockets.specs.Rounds.{AreGiven}
use Rattle.chess_sockets.proofs.RoundLemmas.{given_more, output_gives}
use Rattle.chess_sockets.proofs.ClientLemmas.{Gives, gives, gives-none, gave_all, others-trans}
use Rattle.chess_sockets.proofs.ClosingLemmas.{on_err}
use Rattle.chess_sockets.proofs.client.gather.Given.{Over}
use Rattle.chess_sockets.proofs.client.gather.Goals.{After-output}
use Rattle.chess_sockets.proofs.client.gather.Goals as goal

-- nothing that is to go was lost by the call, behind which this waits
abbrev Keeps : (g : Over) → After-output g → List ℕ → Type 0
Keeps g c v =
    Gives (session_at c.loop.hub.sessions c.args.sid) c.loop.hub.sessions c.output.new.self.sessions c.args.sid (waiting c.loop.outgoing) v

gave : (g : Over) (c : After-output g) (reply : Reply) (v : List ℕ) → c.output.result ≡ Some reply →
    v ≡ waiting c.loop.outgoing ++ bytes_of (said reply) → Keeps g c v
gave g c reply v was is =
    gives (session_at c.loop.hub.sessions c.args.sid) c.loop.hub.sessions c.output.new.self.sessions c.args.sid c.output.result reply
    (waiting c.loop.outgoing) v was c.loop.invariant.0 c.output.ensures.given c.output.ensures.after is

gave_none : (g : Over) (c : After-output g) → c.output.result ≡ None → Keeps g c (waiting c.loop.outgoing)
gave_none g c was =
    gives-none (session_at c.loop.hub.sessions c.args.sid) c.loop.hub.sessions c.output.new.self.sessions c.args.sid c.output.result
    (waiting c.loop.outgoing) was c.loop.invariant.0 c.output.ensures.given c.output.ensures.after

-- the answers so far and that of the call were given
given_so_far : (g : Over) (c : After-output g) → AreGiven c.args.sid c.args.hub.now.sessions c.output.new.self.sessions
given_so_far g c =
    given_more c.args.sid c.args.hub.now.sessions c.loop.hub.sessions c.output.new.self.sessions c.loop.invariant.3
    (output_gives (session_at c.loop.hub.sessions c.args.sid) c.loop.hub.sessions c.output.new.self.sessions c.args.sid c.output.result refl
    c.loop.invariant.0 c.output.ensures.given c.output.ensures.after)

pub returns-in_err-push-clause-open : goal.returns-in_err-push-clause-open
returns-in_err-push-clause-open g c =
    (gave g (goal.at.returns-in_err-push-clause-open g c).After-output c.in-Some.reply
    (waiting c.loop.outgoing ++ bytes_of (said c.in-Some.reply)) c.in-Some.is refl).stays

pub returns-in_err-push-clause-others : goal.returns-in_err-push-clause-others
returns-in_err-push-clause-others g c =
    others-trans c.args.hub.now.sessions c.loop.hub.sessions c.output.new.self.sessions c.args.sid c.loop.invariant.2
    (gave g (goal.at.returns-in_err-push-clause-others g c).After-output c.in-Some.reply
    (waiting c.loop.outgoing ++ bytes_of (said c.in-Some.reply)) c.in-Some.is refl).others

pub loop-preserved : goal.loop-preserved
loop-preserved g c =
    let here = (goal.at.loop-preserved g c).After-output in
    let step = gave g here c.in-Some.reply (waiting c.push.new.outgoing) c.in-Some.is c.in_ok-push.ensures.ok in (
      step.stays,
      step.same ∙ c.loop.invariant.1,
      others-trans c.args.hub.now.sessions c.loop.hub.sessions c.output.new.self.sessions c.args.sid c.loop.invariant.2 step.others,
      given_so_far g here,
      c.output.ensures.store ∙ c.loop.invariant.4,
      c.output.ensures.refusals ∙ c.loop.invariant.5,
    )

pub returns-in_default-clause-open : goal.returns-in_default-clause-open
returns-in_default-clause-open g c =
    (gave_none g (goal.at.returns-in_default-clause-open g c).After-output c.in_default.is).stays

pub returns-in_default-clause-same : goal.returns-in_default-clause-same
returns-in_default-clause-same g c =
    (gave_none g (goal.at.returns-in_default-clause-same g c).After-output c.in_default.is).same ∙ c.loop.invariant.1

pub returns-in_default-clause-others : goal.returns-in_default-clause-others
returns-in_default-clause-others g c =
    others-trans c.args.hub.now.sessions c.loop.hub.sessions c.output.new.self.sessions c.args.sid c.loop.invariant.2
    (gave_none g (goal.at.returns-in_default-clause-others g c).After-output c.in_default.is).others

pub returns-in_default-clause-given : goal.returns-in_default-clause-given
returns-in_default-clause-given g c = given_so_far g (goal.at.returns-in_default-clause-given g c).After-output

pub returns-in_default-clause-all : goal.returns-in_default-clause-all
returns-in_default-clause-all g c =
    let (is_open, same, others, given, stored, counted) = c.loop.invariant in
    λ all. gave_all (session_at c.loop.hub.sessions c.args.sid) c.loop.hub.sessions c.output.new.self.sessions c.args.sid c.output.result
    c.in_default.is is_open c.output.ensures.given c.output.ensures.after

pub returns-in_err-push-clause-given : goal.returns-in_err-push-clause-given
returns-in_err-push-clause-given g c = given_so_far g (goal.at.returns-in_err-push-clause-given g c).After-output

pub returns-in_err-push-clause-refused : goal.returns-in_err-push-clause-refused
returns-in_err-push-clause-refused g c = on_err c.from_residual.result _ c.in_err-push.ensures.refused

pub returns-in_err-push-clause-store : goal.returns-in_err-push-clause-store
returns-in_err-push-clause-store g c = c.output.ensures.store ∙ c.loop.invariant.4

pub returns-in_default-clause-store : goal.returns-in_default-clause-store
returns-in_default-clause-store g c = c.output.ensures.store ∙ c.loop.invariant.4

pub returns-in_err-push-clause-refusals : goal.returns-in_err-push-clause-refusals
returns-in_err-push-clause-refusals g c = c.output.ensures.refusals ∙ c.loop.invariant.5

pub returns-in_default-clause-refusals : goal.returns-in_default-clause-refusals
returns-in_default-clause-refusals g c = c.output.ensures.refusals ∙ c.loop.invariant.5
