-- What an iterator over the elements of a list has still to give.
use Rattle.std.specs.Prelude.{ℕ, List, [], Option, None, Some}
use Rattle.std.specs.Borrow.{Bor}
use Rattle.http1.specs.Fields.{elements}
use Rattle.lobby_web.specs.declared.listed.Elements.{Elements}

-- the elements of what is left, if anything is
abbrev pub elements_of_rest : Option (Bor (List ℕ)) → List (List ℕ)
elements_of_rest None = []
elements_of_rest (Some rest) = elements rest.now

-- the elements that are still to come
abbrev pub elements_left : Elements → List (List ℕ)
elements_left it = elements_of_rest it.rest
