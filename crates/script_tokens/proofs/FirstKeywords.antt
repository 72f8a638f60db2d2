-- The first keyword of some tokens: what is found begins them, and what begins them is found.
use Rattle.script_tokens.proofs.Words.{[], ◌>>=◌, ◌∙◌, ◌∷◌, ◌≡◌, BeginsWith, Bool, FirstKeywordsAreFound, IfSome}
use Rattle.script_tokens.proofs.Words.{IsNoKeyword, Keyword, Lexeme, List, None, Option, Some, Spelled, ap, bytes_eq}
use Rattle.script_tokens.proofs.Words.{bytes_eq-Decides, drop, false, if◌then◌else◌, key_of, keywords, letters}
use Rattle.script_tokens.proofs.Words.{lexeme_among, refl, sym, true, ℕ}
use Rattle.script_tokens.specs.declared.first_keyword.ComponentKeyword.{ComponentKeyword}
use Rattle.script_tokens.specs.declared.first_keyword.ItemKeyword.{ItemKeyword}
use Rattle.script_tokens.specs.declared.first_keyword.EditKeyword.{EditKeyword}
use Rattle.script_tokens.specs.declared.first_keyword.ActKeyword.{ActKeyword}
use Rattle.script_tokens.specs.declared.first_keyword.StatementKeyword.{StatementKeyword}
use Rattle.script_tokens.specs.First.{component_keyword, item_keyword, edit_keyword, act_keyword, statement_keyword}
use Rattle.script_tokens.specs.First.{statement_of, item_of}
use Rattle.script_tokens.specs.Keywords.{the as keyword, text as bare, word_of}
use Rattle.script_tokens.specs.Reading.{first_key, first_statement, first_item}
use Rattle.script_tokens.specs.declared.keyword.Keyword.TheVariants as the
use Rattle.script_tokens.specs.declared.first_keyword.ComponentKeyword.TheVariants as component
use Rattle.script_tokens.specs.declared.first_keyword.ItemKeyword.TheVariants as item
use Rattle.script_tokens.specs.declared.first_keyword.EditKeyword.TheVariants as edit
use Rattle.script_tokens.specs.declared.first_keyword.ActKeyword.TheVariants as act
use Rattle.script_tokens.specs.declared.first_keyword.StatementKeyword.TheVariants as statement
use Rattle.script_tokens.proofs.Keys.{word_the, word_text}
use Rattle.script_tokens.proofs.Taking.{bind_some}

pub key_found : (k : Keyword) (ws : Spelled) → first_key (letters k ∷ ws) ≡ Some k
unfolding first_key
key_found k ws = rw (word_the k) refl

pub nothing_first : (ws : Spelled) → ws ≡ [] → first_key ws ≡ None
unfolding first_key
nothing_first ws e = rw (e) refl

pub key_is_first : (r : Option Keyword) (w : List ℕ) (ws : Spelled) → BeginsWith ws w → IfSome r (λ k. w ≡ letters k)
    → (r ≡ None → IsNoKeyword w) → r ≡ first_key ws
unfolding first_key
key_is_first None w ws b h none = rw (b.begins, word_text w (none refl)) refl
key_is_first (Some k) w ws b h none = rw (b.begins, h, word_the k) refl

among : (ks : List Keyword) (w : List ℕ) (k : Keyword) → lexeme_among ks w ≡ keyword k → w ≡ letters k
among [] w k e = absurd cc
among (j ∷ ks) w k e = chosen (bytes_eq w (letters j)) refl (among ks w k) e
  where
    chosen : (b : Bool) → bytes_eq w (letters j) ≡ b → (lexeme_among ks w ≡ keyword k → w ≡ letters k)
        → if◌then◌else◌ {A = Lexeme} b (keyword j) (lexeme_among ks w) ≡ keyword k → w ≡ letters k
    chosen true is later f = (let same : j ≡ k = cc in (bytes_eq-Decides w (letters j)).0 is ∙ ap letters same)
    chosen false is later f = later f

word_is : (w : List ℕ) (k : Keyword) → key_of (word_of w) ≡ Some k → w ≡ letters k
unfolding word_of
word_is w k e = through (word_of w) refl e
  where
    through : (x : Lexeme) → word_of w ≡ x → key_of x ≡ Some k → w ≡ letters k
    through (keyword j) is f = (let same : j ≡ k = cc in among keywords w k (is ∙ ap keyword same))
    through (bare bytes) is f = absurd cc

key_given : (ws : Spelled) (k : Keyword) → first_key ws ≡ Some k → ws ≡ letters k ∷ drop 1 ws
unfolding first_key
key_given [] k e = absurd cc
key_given (w ∷ ws) k e = ap (λ (v : List ℕ). v ∷ ws) (word_is w k e)

-- the keyword that begins such a statement
abbrev begun : Option StatementKeyword → Keyword → Keyword
begun None k = k
begun (Some s) k = statement_keyword s

kept : (k : Keyword) → begun (statement_of k) k ≡ k
kept the.Sub = refl
kept the.Service = refl
kept the.Packet = refl
kept the.Audio = refl
kept the.Data = refl
kept the.Carry = refl
kept the.Drop = refl
kept the.Move = refl
kept the.Rate = refl
kept the.Wait = refl
kept the.Until = refl
kept the.Commit = refl
kept the.Join = refl
kept the.Settle = refl
kept the.End = refl
kept the.If = refl
kept the.Repeat = refl
kept the.Forever = refl
kept the.Apply = refl
kept k = refl

pub statement_given : (ws : Spelled) (s : StatementKeyword) → first_statement ws ≡ Some s
    → ws ≡ letters (statement_keyword s) ∷ drop 1 ws
unfolding first_statement
statement_given ws s e =
    let g = bind_some (first_key ws) statement_of s e in
    key_given ws g.x g.first ∙ ap (λ k. letters k ∷ drop 1 ws) (sym (kept g.x) ∙ ap (λ r. begun r g.x) g.second)

pub statement_found : (k : Keyword) (ws : Spelled) → first_statement (letters k ∷ ws) ≡ statement_of k
unfolding first_statement
statement_found k ws = rw (key_found k ws) refl

item_is : (s : StatementKeyword) (k : ItemKeyword) → item_of s ≡ Some k → statement_keyword s ≡ item_keyword k
item_is (statement.Act (act.Edit (edit.Item j))) k e = let same : j ≡ k = cc in ap item_keyword same
item_is s k e = absurd cc

pub item_given : (ws : Spelled) (k : ItemKeyword) → first_item ws ≡ Some k → ws ≡ letters (item_keyword k) ∷ drop 1 ws
unfolding first_item
item_given ws k e =
    let g = bind_some (first_statement ws) item_of k e in
    statement_given ws g.x g.first ∙ ap (λ j. letters j ∷ drop 1 ws) (item_is g.x k g.second)

pub item_found : (k : Keyword) (ws : Spelled) → first_item (letters k ∷ ws) ≡ (statement_of k >>= item_of)
unfolding first_item
item_found k ws = rw (statement_found k ws) refl

-- ---- keywords again

component_again : (k : ComponentKeyword) → statement_of (component_keyword k)
    ≡ Some (statement.Act (act.Edit (edit.Item (item.Component k))))
component_again component.Audio = refl
component_again component.Data = refl
component_again component.Carry = refl

pub item_again : (k : ItemKeyword) → statement_of (item_keyword k) ≡ Some (statement.Act (act.Edit (edit.Item k)))
item_again (item.Component k) = component_again k
item_again _ = refl

edit_again : (k : EditKeyword) → statement_of (edit_keyword k) ≡ Some (statement.Act (act.Edit k))
edit_again (edit.Item k) = item_again k
edit_again _ = refl

act_again : (k : ActKeyword) → statement_of (act_keyword k) ≡ Some (statement.Act k)
act_again (act.Edit k) = edit_again k
act_again _ = refl

pub keyword_again : (k : StatementKeyword) → statement_of (statement_keyword k) ≡ Some k
keyword_again (statement.Act k) = act_again k
keyword_again _ = refl

-- ---- the law

pub first_keywords_are_found : FirstKeywordsAreFound
first_keywords_are_found = record {
  statement_given = statement_given;
  statement_found = λ k rest. statement_found (statement_keyword k) rest ∙ keyword_again k;
  item_given = item_given;
  item_found = λ k rest. item_found (item_keyword k) rest ∙ rw (item_again k) refl;
}
