-- Bytes that only move TCK are served without an answer.
use Rattle.std.proofs.Common.{◌≡◌, ℕ, Bool, true, false, ◌&&◌, List, [], ◌∷◌, ◌++◌, ◌≤◌, length, take, drop, refl, ap, sym, ◌∙◌}
use Rattle.std.proofs.lemmas.List.{take-append-drop}
use Rattle.std.specs.Prelude.{Option, Some, None}
use Rattle.std.specs.List.{list_all}
use Rattle.bitbang_protocol.specs.declared.Message.{Message}
use Rattle.bitbang_protocol.specs.declared.Message.TheVariants.{Write}
use Rattle.bitbang_protocol.specs.Protocol.{decode}
use Rattle.board_model.specs.Chain.{BoardState, after_byte, after_bytes, reply_of}
use Rattle.board_model.specs.declared.Reply.TheVariants as said
use Rattle.jt_board.specs.Idling.{is_idle_byte, writes_idle}
use Rattle.play_links.specs.Leaving.{left_after, left_behind}
use Rattle.play_links.specs.Serves.{serve_bytes, serve_one}

both : (x y : Bool) → (x && y) ≡ true → (x ≡ true) × (y ≡ true)
both true true h = (refl, refl)
both true false h = cc
both false y h = cc

unanswered : (o : Option Message) (byte : ℕ) (b : BoardState) → writes_idle o ≡ true
    → (elim o [ Some m ↦ reply_of m b | None ↦ said.Refused byte ]) ≡ said.Nothing
unanswered (Some (Write tck tms tdi)) byte b h = refl
unanswered _ byte b h = cc

pub idle_served : (idle rest : List ℕ) (b : BoardState) → list_all is_idle_byte idle ≡ true
    → serve_bytes (idle ++ rest) b ≡ serve_bytes rest (after_bytes idle b)
idle_served [] rest b h = refl
idle_served (byte ∷ idle) rest b h =
    let parts = both (is_idle_byte byte) (list_all is_idle_byte idle) h in
    ap (λ r. serve_one r (serve_bytes (idle ++ rest) (after_byte byte b)) (after_byte byte b)) (unanswered (decode byte) byte b parts.0)
    ∙ idle_served idle rest (after_byte byte b) parts.1

pub behind_served : (bytes : List ℕ) (n : ℕ) (b : BoardState) → n ≤ length bytes → list_all is_idle_byte (take n bytes) ≡ true
    → serve_bytes (drop n bytes) (after_bytes (take n bytes) b) ≡ serve_bytes bytes b
behind_served bytes n b within h =
    sym (idle_served (take n bytes) (drop n bytes) b h) ∙ ap (λ l. serve_bytes l b) (take-append-drop n bytes)

pub idle_left : (idle rest : List ℕ) (b : BoardState) → list_all is_idle_byte idle ≡ true
    → left_behind (idle ++ rest) b ≡ left_behind rest (after_bytes idle b)
idle_left [] rest b h = refl
idle_left (byte ∷ idle) rest b h =
    let parts = both (is_idle_byte byte) (list_all is_idle_byte idle) h in
    ap (λ r. left_after r (idle ++ rest) (left_behind (idle ++ rest) (after_byte byte b))) (unanswered (decode byte) byte b parts.0)
    ∙ idle_left idle rest (after_byte byte b) parts.1

pub behind_left : (bytes : List ℕ) (n : ℕ) (b : BoardState) → n ≤ length bytes → list_all is_idle_byte (take n bytes) ≡ true
    → left_behind (drop n bytes) (after_bytes (take n bytes) b) ≡ left_behind bytes b
behind_left bytes n b within h =
    sym (idle_left (take n bytes) (drop n bytes) b h) ∙ ap (λ l. left_behind l b) (take-append-drop n bytes)
