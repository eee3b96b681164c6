use Rattle.std.proofs.Common.{ap, sym, ◌∙◌}
use Rattle.lobby_web.specs.Requests.{served_path}
use Rattle.lobby_web.specs.Pages.{file_at}
use Rattle.lobby_web.proofs.GrantLemmas.{paged}
use Rattle.lobby_web.proofs.answer.send_page.Goals as goal

pub returns : goal.returns
returns c =
    let path = c.served_path.ensures ∙ ap served_path c.path_of.ensures in
    paged c.send_file.result c.args.site.now c.args.request.now _ _ c.send_file.new.response
    (sym c.only_reads.ensures ∙ c.if-not-only_reads.false) c.field.ensures (c.file_at.ensures ∙ ap (file_at c.args.site.now) path) c.send_file.ensures
