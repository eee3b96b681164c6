use Rattle.std.proofs.Common.{◌≡◌, inl, inr, ◌++◌, OnOk, sym, subst}
use Rattle.http_server.specs.Response.{fields_of}
use Rattle.lobby_web.specs.declared.site.Kind.{Kind}
use Rattle.lobby_web.specs.Answering.{readers}
use Rattle.lobby_web.proofs.GrantLemmas.{added}
use Rattle.lobby_web.proofs.answer.add_readers.Goals as goal

pub returns-in_ok-add_field-in-Pgn-clause-headers : goal.returns-in_ok-add_field-in-Pgn-clause-headers
returns-in_ok-add_field-in-Pgn-clause-headers c =
    let Added : Kind → Type 0 =
    λ kind. OnOk c.add_field-in-Pgn.result (fields_of c.add_field-in-Pgn.new.response ≡ fields_of c.args.response.now ++ readers kind) in
    let both =
    added c.add_field-in-Pgn.result (fields_of c.args.response.now) (fields_of c.add_field.new.response)
    (fields_of c.add_field-in-Pgn.new.response) _ _ c.in_ok-add_field-in-Pgn.ensures.headers c.add_field-in-Pgn.ensures.headers in
    elim c.in-Pgn.is [
      | inl e ↦ subst Added (sym e) both
      | inr e ↦ subst Added (sym e) both
    ]
