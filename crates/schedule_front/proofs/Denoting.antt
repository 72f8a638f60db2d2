-- The tokens of a schedule's text are those among its pieces.
use Rattle.schedule_front.proofs.Words.{[], ◌∙◌, ◌≡◌, AreTokens, HasLines, IsScheduleOf, List, Token, Tree}
use Rattle.schedule_front.proofs.Words.{first_position, lexemes_of, lines_of, refl, script_limits, sym, tokens_of}
use Rattle.schedule_front.proofs.Words.{tree_lexemes, ℕ}
use Rattle.script_tokens.proofs.Pieces.{texts_are_cut}
use Rattle.script_front.proofs.Denoting.{ok_same, slices}

-- a tree whose tokens the text has, on their lines, is that of the text
pub is_schedule : (text : List ℕ) (tokens : List Token) (t : Tree) → AreTokens text tokens
    → lexemes_of text tokens ≡ tree_lexemes t → HasLines (lines_of tokens) t → IsScheduleOf text t
is_schedule text tokens t h spelled lined =
    let cut = h.1 in
    let first = slices [] first_position cut.pieces refl in
    record {
      pieces = cut.pieces;
      formed = cut.formed;
      whole = cut.whole;
      spelled = sym (rw (← cut.whole, ← cut.are) first) ∙ spelled;
      lined = rw (cut.are) lined;
      short = h.0;
      within = rw (cut.are) cut.within;
    }

-- the pieces of a schedule's text give its tokens
pub are_tokens : (text : List ℕ) (t : Tree) → (s : IsScheduleOf text t)
    → AreTokens text (tokens_of first_position s.pieces)
are_tokens text t s = (
  s.short,
  record { pieces = s.pieces; formed = s.formed; whole = s.whole; are = refl; within = s.within },
)

-- and it has no others
pub are_its_tokens : (text : List ℕ) (tokens : List Token) (t : Tree) → AreTokens text tokens
    → (s : IsScheduleOf text t) → tokens ≡ tokens_of first_position s.pieces
are_its_tokens text tokens t h s =
    let other = (texts_are_cut script_limits text (tokens_of first_position s.pieces)).1 (are_tokens text t s).1 in
    ok_same _ _ _ ((texts_are_cut script_limits text tokens).1 h.1) other

pub denoted_words : (text : List ℕ) (tokens : List Token) (t : Tree) → AreTokens text tokens → IsScheduleOf text t
    → lexemes_of text tokens ≡ tree_lexemes t
denoted_words text tokens t h s =
    rw ((are_its_tokens text tokens t h s), ← s.whole) ((slices [] first_position s.pieces refl) ∙ s.spelled)
