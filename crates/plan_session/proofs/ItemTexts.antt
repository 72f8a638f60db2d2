-- The tokens of items, and the texts that list them.
use Rattle.plan_session.proofs.Words.{◌∙◌, ◌∷◌, ◌≡◌, AreUnique, HasLexemes, HoldsOneListOf, List}
use Rattle.plan_session.proofs.Words.{ap, lexemes_of, sym, ℕ}
use Rattle.plan_session.proofs.Listed.{one_list}

-- ---- tokens

pub head_told : {T : Type 0} (x y : T) (xs ys : List T) → x ∷ xs ≡ y ∷ ys → (x ≡ y) × (xs ≡ ys)
head_told x y xs ys e = (cc, cc)

-- ---- texts

-- where tokens identify items, a text has at most one list
pub holds_one_list : {T : Type 0} (spelled : T → List (List ℕ)) (IsItem : T → Type 0) → AreUnique spelled IsItem
    → HasLexemes spelled → HoldsOneListOf spelled IsItem
holds_one_list spelled IsItem unique has text items others h k =
    let same : h.tokens ≡ k.tokens = cc in
    one_list spelled IsItem unique has items others h.in_range k.in_range
    (sym h.lexemes ∙ ap (lexemes_of text) same ∙ k.lexemes)
