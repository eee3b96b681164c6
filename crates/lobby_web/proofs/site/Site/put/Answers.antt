use Rattle.std.proofs.Common.{◌≡◌, List, ◌∷◌, ◌++◌, [], Some, ap, refl, sym, subst, ◌∙◌}
use Rattle.std.specs.List.{find, position}
use Rattle.lobby_web.specs.declared.site.File.{File}
use Rattle.lobby_web.specs.Pages.{place_of}
use Rattle.lobby_web.proofs.PutLemmas.{is_at, its_own, one_path, there-set, others-set, no_place, there-push, others-push}
use Rattle.lobby_web.proofs.site.Site.put.Goals as goal

pub returns-in-Some-clause-put : goal.returns-in-Some-clause-put
returns-in-Some-clause-put c =
    let files = c.args.self.now.files.items in
    let found : position (is_at c.args.file.path.items) files ≡ Some c.in-Some.place =
    sym (c.place_of.ensures ∙ ap (place_of c.args.self.now) c.as_slice.ensures.value) ∙ c.in-Some.is in
    record {
      hosts = refl;
      there = there-set files c.in-Some.place c.args.file found;
      others = λ other differ. others-set other files c.in-Some.place c.args.file found differ;
    }

pub returns-in_ok-push-in-None-clause-put : goal.returns-in_ok-push-in-None-clause-put
returns-in_ok-push-in-None-clause-put c =
    let files = c.args.self.now.files.items in
    let file = c.args.file in
    let items : c.push.new.self.items ≡ files ++ file ∷ [] = c.in_ok-push-in-None.ensures.items in
    let none = no_place (is_at file.path.items) files (sym (c.place_of.ensures ∙ ap (place_of c.args.self.now) c.as_slice.ensures.value) ∙ c.in-None.is) in
    record {
      hosts = refl;
      there = subst (λ (l : List File). find (is_at file.path.items) l ≡ Some file) (sym items)
          (there-push (is_at file.path.items) files file none (its_own file));
      others = λ other differ. subst (λ (l : List File). find (is_at other) l ≡ find (is_at other) files) (sym items)
          (others-push (is_at other) files file (one_path file.path.items other file differ (its_own file)));
    }
