-- Which requests are answered by an upgrade, and what stands in answers.
use Rattle.std.proofs.Common.{ℕ, ◌≡◌, ◌⊎◌, inl, inr, List, Option, None, Some, [], Bool, true, false, MatchBool, Result, Ok, Err, OnOk, codes, refl, sym, ap, ◌++◌, ◌∷◌, ◌∙◌, append_assoc, arith, subst}
use Rattle.std.specs.Prelude.{◌&&◌}
use Rattle.http.specs.declared.request.Request.{Request}
use Rattle.http1.specs.Fields.{Header}
use Rattle.http_server.specs.declared.response.Response.{Response}
use Rattle.http_server.specs.Response.{IsResponse}
use Rattle.websocket.specs.declared.handshake.failure.HandshakeError.{HandshakeError}
use Rattle.websocket.specs.Handshake.{AnswersKey}
use Rattle.lobby_web.specs.declared.site.Site.{Site}
use Rattle.lobby_web.specs.declared.site.File.{File}
use Rattle.lobby_web.specs.Pages.{file_at}
use Rattle.lobby_web.specs.Requests.{field, path_of, is_taken, is_from_page, asks_socket, asks_upgrade, only_reads, served_path}
use Rattle.lobby_web.specs.Answering.{file_fields, same_fields, has_games, is_known, IsAnswer, IsPutOff, IsSocketAnswer, IsPageAnswer, IsKeyAnswer, IsFileAnswer, IsOtherMethodAnswer, IsTold, IsSwitch, IsGranted}

matched : (b : Bool) (P Q : Type 0) → MatchBool b P Q → ((b ≡ true) × P) ⊎ ((b ≡ false) × Q)
matched true P Q h = inl (refl, h)
matched false P Q h = inr (refl, h)

file-status : (full : Bool) (known : List ℕ) (file : Option File) (response : Response) → IsFileAnswer full known file response
    → response.status ≡ 101 → ⊥
file-status full known None response h switch = omega (arith, h.status, switch)
file-status full known (Some file) response h switch =
    elim (matched (full && has_games file.kind) (IsPutOff file response) (MatchBool (is_known known file) (IsResponse 304 (same_fields file) [] response) (IsResponse 200 (file_fields file) file.bytes response)) h) [
      | inl later ↦ omega (arith, later.1.status, switch)
      | inr served ↦
          elim (matched (is_known known file) (IsResponse 304 (same_fields file) [] response) (IsResponse 200 (file_fields file) file.bytes response) served.1) [
            | inl same ↦ omega (arith, same.1.status, switch)
            | inr other ↦ omega (arith, other.1.status, switch)
          ]
    ]

pub granted : (site : Site) (r : Request (List ℕ)) (response : Response) → IsAnswer site r response → response.status ≡ 101 → IsGranted site r
granted site r response answer switch =
    elim (matched (is_taken site r) (MatchBool (asks_socket r) (IsSocketAnswer r response) (IsPageAnswer site r response)) (IsTold 403 (codes "This host is not served here.") response) answer) [
      | inr other ↦ absurd (omega (arith, other.1.status, switch))
      | inl taken ↦
          elim (matched (asks_socket r) (IsSocketAnswer r response) (IsPageAnswer site r response) taken.1) [
            | inr page ↦
                elim (matched (only_reads r) (IsFileAnswer site.is_full (field r (codes "if-none-match")) (file_at site (served_path (path_of r))) response) (IsOtherMethodAnswer response) page.1) [
                  | inl file ↦ absurd (file-status site.is_full (field r (codes "if-none-match")) (file_at site (served_path (path_of r))) response file.1 switch)
                  | inr method ↦ absurd (omega (arith, method.1.status, switch))
                ]
            | inl socket ↦
                elim (matched (is_from_page r) (MatchBool (asks_upgrade r) (IsKeyAnswer (field r (codes "sec-websocket-key")) response) (IsTold 400 (codes "Here is a WebSocket of version 13.") response)) (IsTold 403 (codes "Only this site's own page opens this socket.") response) socket.1) [
                  | inr other ↦ absurd (omega (arith, other.1.status, switch))
                  | inl own ↦
                      elim (matched (asks_upgrade r) (IsKeyAnswer (field r (codes "sec-websocket-key")) response) (IsTold 400 (codes "Here is a WebSocket of version 13.") response) own.1) [
                        | inr other ↦ absurd (omega (arith, other.1.status, switch))
                        | inl asks ↦
                            elim asks.1 [
                              | inl key ↦ record { host = taken.0; socket = socket.0; page = own.0; asks = asks.0; key = key.0 }
                              | inr other ↦ absurd (omega (arith, other.1.status, switch))
                            ]
                      ]
                ]
          ]
    ]

-- the answer to a key that is one
pub accepted : {E : Type 0} (result : Result (Unit {0}) E) (key answer : List ℕ) (response : Response) → AnswersKey (Ok answer) key
    → OnOk result (IsSwitch answer response) → OnOk result (IsKeyAnswer key response)
accepted (Err e) key answer response answers sent = tt
accepted (Ok x) key answer response answers sent = inl (answers.0, subst (λ (k : List ℕ). IsSwitch k response) answers.1 sent)

-- and to one that is none
pub refused : {E : Type 0} (result : Result (Unit {0}) E) (key : List ℕ) (error : HandshakeError) (response : Response) → AnswersKey (Err error) key
    → OnOk result (IsTold 400 (codes "The key of this WebSocket is none.") response) → OnOk result (IsKeyAnswer key response)
refused (Err e) key error response answers sent = tt
refused (Ok x) key error response answers sent = inr (answers.0, sent)

-- a page of the host's own asks for an upgrade
pub asked : {E : Type 0} (result : Result (Unit {0}) E) (r : Request (List ℕ)) (response : Response) → is_from_page r ≡ true → asks_upgrade r ≡ true
    → OnOk result (IsKeyAnswer (field r (codes "sec-websocket-key")) response) → OnOk result (IsSocketAnswer r response)
asked (Err e) r response page asks answer = tt
asked (Ok x) r response page asks answer =
    subst (λ (b : Bool). MatchBool b (MatchBool (asks_upgrade r) (IsKeyAnswer (field r (codes "sec-websocket-key")) response) (IsTold 400 (codes "Here is a WebSocket of version 13.") response)) (IsTold 403 (codes "Only this site's own page opens this socket.") response)) (sym page)
    (subst (λ (b : Bool). MatchBool b (IsKeyAnswer (field r (codes "sec-websocket-key")) response) (IsTold 400 (codes "Here is a WebSocket of version 13.") response)) (sym asks) answer)

-- a page's file, for who only reads
pub paged : {E : Type 0} (result : Result (Unit {0}) E) (site : Site) (r : Request (List ℕ)) (known : List ℕ) (file : Option File) (response : Response)
    → only_reads r ≡ true → known ≡ field r (codes "if-none-match") → file ≡ file_at site (served_path (path_of r))
    → OnOk result (IsFileAnswer site.is_full known file response) → OnOk result (IsPageAnswer site r response)
paged (Err e) site r known file response reads asks is answer = tt
paged (Ok x) site r known file response reads asks is answer =
    subst (λ (b : Bool). MatchBool b (IsFileAnswer site.is_full (field r (codes "if-none-match")) (file_at site (served_path (path_of r))) response) (IsOtherMethodAnswer response)) (sym reads)
    (subst (λ (k : List ℕ). IsFileAnswer site.is_full k (file_at site (served_path (path_of r))) response) asks
    (subst (λ (f : Option File). IsFileAnswer site.is_full known f response) is answer))

-- one field behind the other
pub added : {E : Type 0} (result : Result (Unit {0}) E) (old between new : List Header) (a b : Header) → between ≡ old ++ a ∷ []
    → OnOk result (new ≡ between ++ b ∷ []) → OnOk result (new ≡ old ++ a ∷ b ∷ [])
added (Err e) old between new a b first second = tt
added (Ok x) old between new a b first second = second ∙ ap (λ (l : List Header). l ++ b ∷ []) first ∙ append_assoc old (a ∷ []) (b ∷ [])
