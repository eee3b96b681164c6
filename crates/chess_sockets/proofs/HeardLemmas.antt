-- When something came last, and whether more comes.
use Rattle.std.proofs.Common.{◌≡◌, ◌∙◌, ◌<◌, ◌≤◌, ℕ, zero, suc, Bool, true, List, [], ◌∷◌, Option, length, take, refl, subst, sym, arith, inl, inr}
use Rattle.std.specs.Io.KnownBytes.{Consumes, Keeps, IsAtEnd}
use Rattle.std.proofs.KnownBytes.{Consumes-nil, Consumes-kept}
use Rattle.text_lines.specs.declared.pieces.Came.{Came}
use Rattle.text_lines.specs.declared.pieces.Came.TheVariants.{Nothing, Interrupted, Bytes, End, Fault}
use Rattle.chess_sockets.specs.Clients.{IsHeardAt, IsEndSeen, heard_since}
use Rattle.text_lines.specs.Pieces.{HasCome}
use Rattle.chess_sockets.specs.Pieces.{Brings}

none_brought : (before after : Option (List ℕ)) → Keeps before after → Consumes before after []
none_brought before after kept = Consumes-kept before before after [] (Consumes-nil before) kept

taken_some : (count : ℕ) (piece : List ℕ) → 0 < count → count ≤ length piece → take count piece ≡ [] → ⊥
taken_some count [] pos le none = absurd (omega arith)
taken_some (suc count) (byte ∷ piece) pos le none = absurd (cc)
taken_some zero (byte ∷ piece) pos le none = absurd (omega arith)

-- what a read brought, by what it told
pub brings : (before after : Option (List ℕ)) (piece : List ℕ) (came : Came) → HasCome before after piece came
    → Brings before after came
brings before after piece Nothing kept =
    record { taken = []; consumed = none_brought before after kept; brought = refl }
brings before after piece Interrupted kept =
    record { taken = []; consumed = none_brought before after kept; brought = refl }
brings before after piece (Bytes count) has = record {
  taken = take count piece;
  consumed = has.2;
  brought = taken_some count piece has.0 has.1;
}
brings before after piece End has = record { taken = []; consumed = has.0; brought = refl }
brings before after piece Fault kept =
    record { taken = []; consumed = none_brought before after kept; brought = refl }

-- bytes came
since_now : (at old : ℕ) (taken : List ℕ) → (taken ≡ [] → ⊥) → at ≡ heard_since taken at old
since_now at old [] some = absurd (some refl)
since_now at old (byte ∷ taken) some = refl

pub heard_now : (before after : Option (List ℕ)) (count at old : ℕ) → Brings before after (Bytes count)
    → IsHeardAt before after at old at
heard_now before after count at old has = record {
  taken = has.taken;
  consumed = has.consumed;
  moment = since_now at old has.taken has.brought;
}

-- none came
pub heard_before : (before after : Option (List ℕ)) (at old : ℕ) (taken : List ℕ) → Consumes before after taken
    → taken ≡ [] → IsHeardAt before after at old old
heard_before before after at old taken consumed none = record {
  taken = [];
  consumed = subst (λ (l : List ℕ). Consumes before after l) none consumed;
  moment = refl;
}

pub heard_nothing : (before after : Option (List ℕ)) (at old : ℕ) → Brings before after Nothing
    → IsHeardAt before after at old old
heard_nothing before after at old has = heard_before before after at old has.taken has.consumed has.brought

pub heard_interrupted : (before after : Option (List ℕ)) (at old : ℕ) → Brings before after Interrupted
    → IsHeardAt before after at old old
heard_interrupted before after at old has = heard_before before after at old has.taken has.consumed has.brought

pub heard_end : (before after : Option (List ℕ)) (at old : ℕ) → Brings before after End
    → IsHeardAt before after at old old
heard_end before after at old has = heard_before before after at old has.taken has.consumed has.brought

pub heard_fault : (before after : Option (List ℕ)) (at old : ℕ) → Brings before after Fault
    → IsHeardAt before after at old old
heard_fault before after at old has = heard_before before after at old has.taken has.consumed has.brought

-- nothing was read
pub heard_as_before : (now : Option (List ℕ)) (at old : ℕ) → IsHeardAt now now at old old
heard_as_before now at old = record { taken = []; consumed = Consumes-nil now; moment = refl }

-- and after it nothing more
pub heard_on : (before mid after : Option (List ℕ)) (at old new next : ℕ) → IsHeardAt before mid at old new
    → after ≡ mid → next ≡ new → IsHeardAt before after at old next
heard_on before mid after at old new next h same still =
    subst (λ (b : Option (List ℕ)). IsHeardAt before b at old next) (sym same)
    (subst (λ (n : ℕ). IsHeardAt before mid at old n) (sym still) h)

-- ---- whether more comes

-- a read that told the end found it
pub at_end : (before after : Option (List ℕ)) (piece : List ℕ) (came : Came) → HasCome before after piece came → came ≡ End
    → IsAtEnd after
at_end before after piece came has is = (subst (λ (c : Came). HasCome before after piece c) is has).1

pub end_now : (after : Option (List ℕ)) (old : Bool) → IsAtEnd after → IsEndSeen after old true
end_now after old is = λ known. inr is

pub end_as_before : (after : Option (List ℕ)) (old : Bool) → IsEndSeen after old old
end_as_before after old = λ known. inl known

-- and nothing more was read
pub end_on : (mid after : Option (List ℕ)) (old new next : Bool) → IsEndSeen mid old new → after ≡ mid → next ≡ new
    → IsEndSeen after old next
end_on mid after old new next seen same still = λ known. elim (seen (sym still ∙ known)) [
  | inl before ↦ inl before
  | inr is ↦ inr (subst (λ (b : Option (List ℕ)). IsAtEnd b) (sym same) is)
]

-- by which the contract of a read is shown
pub ruleset reading_steps =
    (heard_as_before, heard_now, heard_nothing, heard_interrupted, heard_end, heard_fault, end_now)
