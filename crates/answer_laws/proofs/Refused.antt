-- Refusals are written as they are read.
use Rattle.std.proofs.Common.{ℕ, ◌≡◌, List, [], ◌∷◌, ◌++◌, Some, codes, decimal, ap, ◌∙◌, arith}
use Rattle.std.proofs.lemmas.Fmt.{decimal_digit, decimal_step}
use Rattle.chess_entry.specs.declared.refusals.Refusal as server
use Rattle.chess_entry.specs.declared.refusals.Refusal.TheVariants as server_refusals
use Rattle.chess_answer.specs.Fields.{with_fields}
use Rattle.chess_answer.specs.Refusals.{refusal_text, row_of, ply_fields}
use Rattle.server_answers.specs.Refusals.{refusal_line, IsRefusal, refusal_in}
use Rattle.server_answers.proofs.Refused.{refusal_read}
use Rattle.answer_laws.specs.Refusals.{refusal_as, IsTold}

number_1 : decimal 1 ≡ codes "1"
number_1 = decimal_digit 1 (omega arith)

number_2 : decimal 2 ≡ codes "2"
number_2 = decimal_digit 2 (omega arith)

number_3 : decimal 3 ≡ codes "3"
number_3 = decimal_digit 3 (omega arith)

number_4 : decimal 4 ≡ codes "4"
number_4 = decimal_digit 4 (omega arith)

number_5 : decimal 5 ≡ codes "5"
number_5 = decimal_digit 5 (omega arith)

number_6 : decimal 6 ≡ codes "6"
number_6 = decimal_digit 6 (omega arith)

number_7 : decimal 7 ≡ codes "7"
number_7 = decimal_digit 7 (omega arith)

number_8 : decimal 8 ≡ codes "8"
number_8 = decimal_digit 8 (omega arith)

number_9 : decimal 9 ≡ codes "9"
number_9 = decimal_digit 9 (omega arith)

number_10 : decimal 10 ≡ codes "10"
number_10 = decimal_step 10 (omega arith) (omega arith) ∙ ap (λ (d : List ℕ). d ++ 48 ∷ []) (decimal_digit 1 (omega arith))

number_11 : decimal 11 ≡ codes "11"
number_11 = decimal_step 11 (omega arith) (omega arith) ∙ ap (λ (d : List ℕ). d ++ 49 ∷ []) (decimal_digit 1 (omega arith))

number_12 : decimal 12 ≡ codes "12"
number_12 = decimal_step 12 (omega arith) (omega arith) ∙ ap (λ (d : List ℕ). d ++ 50 ∷ []) (decimal_digit 1 (omega arith))

number_13 : decimal 13 ≡ codes "13"
number_13 = decimal_step 13 (omega arith) (omega arith) ∙ ap (λ (d : List ℕ). d ++ 51 ∷ []) (decimal_digit 1 (omega arith))

number_14 : decimal 14 ≡ codes "14"
number_14 = decimal_step 14 (omega arith) (omega arith) ∙ ap (λ (d : List ℕ). d ++ 52 ∷ []) (decimal_digit 1 (omega arith))

number_15 : decimal 15 ≡ codes "15"
number_15 = decimal_step 15 (omega arith) (omega arith) ∙ ap (λ (d : List ℕ). d ++ 53 ∷ []) (decimal_digit 1 (omega arith))

number_16 : decimal 16 ≡ codes "16"
number_16 = decimal_step 16 (omega arith) (omega arith) ∙ ap (λ (d : List ℕ). d ++ 54 ∷ []) (decimal_digit 1 (omega arith))

number_17 : decimal 17 ≡ codes "17"
number_17 = decimal_step 17 (omega arith) (omega arith) ∙ ap (λ (d : List ℕ). d ++ 55 ∷ []) (decimal_digit 1 (omega arith))

number_18 : decimal 18 ≡ codes "18"
number_18 = decimal_step 18 (omega arith) (omega arith) ∙ ap (λ (d : List ℕ). d ++ 56 ∷ []) (decimal_digit 1 (omega arith))

number_19 : decimal 19 ≡ codes "19"
number_19 = decimal_step 19 (omega arith) (omega arith) ∙ ap (λ (d : List ℕ). d ++ 57 ∷ []) (decimal_digit 1 (omega arith))

number_20 : decimal 20 ≡ codes "20"
number_20 = decimal_step 20 (omega arith) (omega arith) ∙ ap (λ (d : List ℕ). d ++ 48 ∷ []) (decimal_digit 2 (omega arith))

number_21 : decimal 21 ≡ codes "21"
number_21 = decimal_step 21 (omega arith) (omega arith) ∙ ap (λ (d : List ℕ). d ++ 49 ∷ []) (decimal_digit 2 (omega arith))

number_22 : decimal 22 ≡ codes "22"
number_22 = decimal_step 22 (omega arith) (omega arith) ∙ ap (λ (d : List ℕ). d ++ 50 ∷ []) (decimal_digit 2 (omega arith))

number_23 : decimal 23 ≡ codes "23"
number_23 = decimal_step 23 (omega arith) (omega arith) ∙ ap (λ (d : List ℕ). d ++ 51 ∷ []) (decimal_digit 2 (omega arith))

number_24 : decimal 24 ≡ codes "24"
number_24 = decimal_step 24 (omega arith) (omega arith) ∙ ap (λ (d : List ℕ). d ++ 52 ∷ []) (decimal_digit 2 (omega arith))

-- the refusal with its number spelled so
abbrev spelled : server.Refusal → List ℕ → List ℕ
spelled r number = with_fields (codes "no") (number ∷ (row_of r).name ∷ ply_fields r)

refusal_same : (r : server.Refusal) → refusal_text r ≡ refusal_line (refusal_as r)
refusal_same server_refusals.BadLine = ap (spelled server_refusals.BadLine) number_1
refusal_same server_refusals.NoName = ap (spelled server_refusals.NoName) number_2
refusal_same server_refusals.NoGame = ap (spelled server_refusals.NoGame) number_3
refusal_same server_refusals.NotSeated = ap (spelled server_refusals.NotSeated) number_4
refusal_same server_refusals.NotStarted = ap (spelled server_refusals.NotStarted) number_5
refusal_same server_refusals.Over = ap (spelled server_refusals.Over) number_6
refusal_same (server_refusals.WrongPly ply) = ap (spelled (server_refusals.WrongPly ply)) number_7
refusal_same server_refusals.NotYourMove = ap (spelled server_refusals.NotYourMove) number_8
refusal_same server_refusals.BadMove = ap (spelled server_refusals.BadMove) number_9
refusal_same server_refusals.OfferStands = ap (spelled server_refusals.OfferStands) number_10
refusal_same server_refusals.NoOffer = ap (spelled server_refusals.NoOffer) number_11
refusal_same server_refusals.TooEarly = ap (spelled server_refusals.TooEarly) number_12
refusal_same server_refusals.AlreadyClaimed = ap (spelled server_refusals.AlreadyClaimed) number_13
refusal_same server_refusals.FlagUp = ap (spelled server_refusals.FlagUp) number_14
refusal_same server_refusals.Taken = ap (spelled server_refusals.Taken) number_15
refusal_same server_refusals.SamePlayer = ap (spelled server_refusals.SamePlayer) number_16
refusal_same server_refusals.BadFen = ap (spelled server_refusals.BadFen) number_17
refusal_same server_refusals.BadTime = ap (spelled server_refusals.BadTime) number_18
refusal_same server_refusals.TooManyGames = ap (spelled server_refusals.TooManyGames) number_19
refusal_same server_refusals.TooLong = ap (spelled server_refusals.TooLong) number_20
refusal_same server_refusals.NotOver = ap (spelled server_refusals.NotOver) number_21
refusal_same server_refusals.NoMemory = ap (spelled server_refusals.NoMemory) number_22
refusal_same server_refusals.BadMoment = ap (spelled server_refusals.BadMoment) number_23
refusal_same server_refusals.Finished = ap (spelled server_refusals.Finished) number_24

is_refusal : (r : server.Refusal) → IsTold r → IsRefusal (refusal_as r)
is_refusal server_refusals.BadLine told = told
is_refusal server_refusals.NoName told = told
is_refusal server_refusals.NoGame told = told
is_refusal server_refusals.NotSeated told = told
is_refusal server_refusals.NotStarted told = told
is_refusal server_refusals.Over told = told
is_refusal (server_refusals.WrongPly ply) told = told
is_refusal server_refusals.NotYourMove told = told
is_refusal server_refusals.BadMove told = told
is_refusal server_refusals.OfferStands told = told
is_refusal server_refusals.NoOffer told = told
is_refusal server_refusals.TooEarly told = told
is_refusal server_refusals.AlreadyClaimed told = told
is_refusal server_refusals.FlagUp told = told
is_refusal server_refusals.Taken told = told
is_refusal server_refusals.SamePlayer told = told
is_refusal server_refusals.BadFen told = told
is_refusal server_refusals.BadTime told = told
is_refusal server_refusals.TooManyGames told = told
is_refusal server_refusals.TooLong told = told
is_refusal server_refusals.NotOver told = told
is_refusal server_refusals.NoMemory told = told
is_refusal server_refusals.BadMoment told = told
is_refusal server_refusals.Finished told = told

pub refused_read : (r : server.Refusal) → IsTold r → refusal_in (refusal_text r) ≡ Some (refusal_as r)
refused_read r told = ap refusal_in (refusal_same r) ∙ refusal_read (refusal_as r) (is_refusal r told)
