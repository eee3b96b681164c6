use Rattle.std.proofs.Common.{◌≡◌, ap, sym, ◌∙◌, Bool, ℕ, Option}
use Rattle.lobby_words.specs.declared.words.Sort.{Sort}
use Rattle.lobby_words.specs.declared.planning.Identity.{Identity}
use Rattle.lobby_words.specs.Words.{sort_of, u32_in, rest_of}
use Rattle.lobby_words.specs.Plans.{who_plan, plan_of}
use Rattle.lobby_words.proofs.planning.plan_of.Goals as goal
