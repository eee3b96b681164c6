use Rattle.std.proofs.Common.{◌≡◌, List, not, None, refl, sym, subst, rules}
use Rattle.std.specs.List.{find}
use Rattle.std.proofs.lemmas.Fn.{filter_same}
use Rattle.lobby_web.specs.declared.site.File.{File}
use Rattle.lobby_web.proofs.PutLemmas.{is_at, but, there-off, others-off}
use Rattle.lobby_web.proofs.site.Site.take_off.Goals as goal

pub returns-clause-off : goal.returns-clause-off
returns-clause-off c =
    let files = c.args.self.now.files.items in
    let path = c.args.path.now in
    let items : c.retain.new.self.items ≡ but path files =
    filter_same _ (λ (file : File). not (is_at path file)) _ (λ x b f' k. search rules) _ _ c.retain.ensures.filtered in
    record {
      hosts = refl;
      there = subst (λ (l : List File). find (is_at path) l ≡ None) (sym items) (there-off path files);
      others = λ other differ. subst (λ (l : List File). find (is_at other) l ≡ find (is_at other) files) (sym items)
          (others-off path other files differ);
    }
