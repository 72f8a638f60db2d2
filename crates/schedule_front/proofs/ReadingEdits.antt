-- The reading of edits: what is read is spelled so, on its lines, and what is spelled so is read.
use Rattle.schedule_front.proofs.Words.{[], ◌++◌, ◌+◌, ◌-◌, ◌∙◌, ◌∷◌, ◌≡◌, ◌≢◌, ◌≤◌, AreEdits, EditKeyword}
use Rattle.schedule_front.proofs.Words.{Edits, EditsOn, HasMore, Input, List, None, Option, OverlayEdit, ReadsEdits}
use Rattle.schedule_front.proofs.Words.{Some, Spelled, StatementKeyword, after_edits, ap, append-nil, append_assoc}
use Rattle.schedule_front.proofs.Words.{arith, bind_some, drop, edit_keyword, edit_lexemes, edit_of, edit_on}
use Rattle.schedule_front.proofs.Words.{edits_from, edits_if, edits_lexemes, finish, first_statement, keyword_again}
use Rattle.schedule_front.proofs.Words.{length, letters, line_of, refl, statement_found, statement_given}
use Rattle.schedule_front.proofs.Words.{statement_keyword, suc, sym, zero, ℕ}
use Rattle.script_tokens.specs.declared.keyword.Keyword.TheVariants as the
use Rattle.script_tokens.specs.declared.first_keyword.StatementKeyword.TheVariants as statement
use Rattle.script_tokens.specs.declared.first_keyword.ActKeyword.TheVariants as act
use Rattle.script_front.specs.Readers.{edit_from}
use Rattle.script_front.proofs.Readings.{edit_first, edit_rest, edit_begins, edit_law}
use Rattle.schedule_front.specs.Readers.{first_edit, edits_at}

-- ---- the keyword that begins an edit

edit_is : (s : StatementKeyword) (k : EditKeyword) → edit_of s ≡ Some k → statement_keyword s ≡ edit_keyword k
edit_is (statement.Act (act.Edit j)) k e = let same : j ≡ k = cc in ap edit_keyword same
edit_is s k e = absurd cc

edit_given : (ws : Spelled) (k : EditKeyword) → first_edit ws ≡ Some k → ws ≡ letters (edit_keyword k) ∷ drop 1 ws
unfolding first_edit
edit_given ws k e =
    let g = bind_some (first_statement ws) edit_of k e in
    statement_given ws g.x g.first ∙ ap (λ j. letters j ∷ drop 1 ws) (edit_is g.x k g.second)

edit_found : (k : EditKeyword) (ws : Spelled) → first_edit (letters (edit_keyword k) ∷ ws) ≡ Some k
unfolding first_edit
edit_found k ws = rw (statement_found (edit_keyword k) ws, keyword_again (statement.Act (act.Edit k))) refl

-- a closing brace begins no edit
pub no_edit : (ws : Spelled) → first_edit (letters the.CloseBrace ∷ ws) ≡ None
unfolding first_edit
no_edit ws = rw (statement_found the.CloseBrace ws) refl

-- ---- what is read

pub record AreEditsRead (left : ℕ) (lines : List ℕ) (ws : Spelled) (p : Edits) : Type 0 where
  pub formed : AreEdits p.edits
  pub counts : length p.edits + p.left ≡ left
  pub spelled : ws ≡ edits_lexemes p.edits ++ p.rest
  pub lined : EditsOn lines p.edits p.rest

none_read : (left : ℕ) (lines : List ℕ) (ws : Spelled) (p : Edits)
    → Some (let q : Edits = record { edits = []; left = left; rest = ws } in q) ≡ Some p → AreEditsRead left lines ws p
none_read left lines ws p e =
    finish (AreEditsRead left lines ws) _ p e
    (record { formed = tt; counts = omega arith; spelled = refl; lined = tt })

record Later (e : OverlayEdit) (r : Option Edits) (p : Edits) : Type 0 where
  more : Edits
  read : r ≡ Some more
  is : Some (let q : Edits = record { edits = e ∷ more.edits; left = more.left; rest = more.rest } in q) ≡ Some p

later_some : (e : OverlayEdit) (r : Option Edits) (p : Edits) → after_edits (e ∷ []) r ≡ Some p → Later e r p
later_some e None p f = absurd cc
later_some e (Some q) p f = record { more = q; read = refl; is = f }

pub edits_given : (left : ℕ) (lines : List ℕ) (ws : Spelled) (p : Edits) → edits_at left lines ws ≡ Some p
    → AreEditsRead left lines ws p
unfolding edits_at
edits_given zero lines ws p e = chosen (first_edit ws) e
  where
    chosen : (r : Option EditKeyword) → edits_if 0 ws (λ k. None) r ≡ Some p → AreEditsRead 0 lines ws p
    chosen None f = none_read 0 lines ws p f
    chosen (Some k) f = absurd cc
edits_given (suc left) lines ws p e = chosen (edits_given left lines) (first_edit ws) refl e
  where
    chosen : ((vs : Spelled) (q : Edits) → edits_at left lines vs ≡ Some q → AreEditsRead left lines vs q)
        → (r : Option EditKeyword) → first_edit ws ≡ r
        → edits_if (suc left) ws (edits_from (edits_at left lines) lines ws) r ≡ Some p
        → AreEditsRead (suc left) lines ws p
    chosen given None is f = none_read (suc left) lines ws p f
    chosen given (Some k) is f = (
        let a = bind_some (edit_from k _) _ p f in
        let g = (edit_law k).given _ a.x a.first in
        let l = later_some (edit_on lines ws a.x.0) _ p a.second in
        let h = given a.x.1 l.more l.read in
        let here : ws ≡ edit_lexemes a.x.0 ++ a.x.1 = rw (edit_begins a.x.0, ← g.1, g.0.1) (edit_given ws k is) in
        let whole : ws ≡ edits_lexemes (edit_on lines ws a.x.0 ∷ l.more.edits) ++ l.more.rest =
        cc (here, h.spelled, append_assoc (edit_lexemes a.x.0) (edits_lexemes l.more.edits) l.more.rest) in
        finish (AreEditsRead (suc left) lines ws) _ p l.is (record {
          formed = (g.0.0, h.formed);
          counts = (let c = h.counts in omega (arith, c));
          spelled = whole;
          lined = (ap (line_of lines) whole, h.lined);
        })
        )

-- ---- what is spelled

-- the edits on the lines of their tokens, where `after` follows them
abbrev pub edits_on : List ℕ → List OverlayEdit → Spelled → List OverlayEdit
edits_on lines [] after = []
edits_on lines (e ∷ es) after = edit_on lines (edits_lexemes (e ∷ es) ++ after) e.edit ∷ edits_on lines es after

pub on_same : (lines : List ℕ) (es : List OverlayEdit) (after : Spelled) → EditsOn lines es after
    → edits_on lines es after ≡ es
on_same lines [] after h = refl
on_same lines (e ∷ es) after h = rw (h.0, on_same lines es after h.1)

pub begins_none : (left : ℕ) (lines : List ℕ) (ws : Spelled) → first_edit ws ≡ None
    → edits_at left lines ws ≡ Some (record { edits = []; left = left; rest = ws })
unfolding edits_at
begins_none zero lines ws none = rw (none) refl
begins_none (suc left) lines ws none = rw (none) refl

pub edits_found : (es : List OverlayEdit) (left new : ℕ) (lines : List ℕ) (rest : Spelled) → AreEdits es
    → length es + new ≡ left → first_edit rest ≡ None
    → edits_at left lines (edits_lexemes es ++ rest) ≡ Some
    (record { edits = edits_on lines es rest; left = new; rest = rest })
unfolding edits_at
edits_found [] left new lines rest h c none = let e : left ≡ new = omega (arith, c) in
    rw (e) (begins_none new lines rest none)
edits_found (e ∷ es) zero new lines rest h c none = absurd (omega (arith, c))
edits_found (e ∷ es) (suc left) new lines rest h c none =
    let ws : Spelled = edits_lexemes (e ∷ es) ++ rest in
    let later : Spelled = edits_lexemes es ++ rest in
    let spelled : ws ≡ letters (edit_keyword (edit_first e.edit)) ∷ (edit_rest e.edit ++ later) =
    cc (append_assoc (edit_lexemes e.edit) (edits_lexemes es) rest, edit_begins e.edit) in
    let first : first_edit ws ≡ Some (edit_first e.edit) = ap first_edit spelled
    ∙ edit_found (edit_first e.edit) (edit_rest e.edit ++ later) in
    let others = edits_found es left new lines rest h.1 (omega (arith, c)) none in
    rw (first, ap (drop 1) spelled, (edit_law (edit_first e.edit)).found e.edit later (h.0, refl), others) refl

-- ---- one edit after another

-- the edits that were read, in front of those that are read from here
pub record GoesOn (edits : List OverlayEdit) (old left : ℕ) (before now : Input) : Type 0 where
  pub read : edits_at old before.lines before.lexemes ≡ after_edits edits (edits_at left before.lines now.lexemes)
  pub same : now.lines ≡ before.lines

after_none : (r : Option Edits) → r ≡ after_edits [] r
after_none None = refl
after_none (Some p) = refl

pub begins_on : (left : ℕ) (i : Input) → GoesOn [] left left i i
begins_on left i = record { read = after_none (edits_at left i.lines i.lexemes); same = refl }

after_both : (es : List OverlayEdit) (x : OverlayEdit) (r : Option Edits)
    → after_edits es (after_edits (x ∷ []) r) ≡ after_edits (es ++ x ∷ []) r
after_both es x None = refl
after_both es x (Some p) = ap (λ (xs : List OverlayEdit). Some
    (let q : Edits = record { edits = xs; left = p.left; rest = p.rest } in q)) (sym (append_assoc es (x ∷ []) p.edits))

pub goes_on : (es fs : List OverlayEdit) (old left : ℕ) (i j k : Input) → GoesOn es old left i j → HasMore es fs j k
    → 1 ≤ left → GoesOn fs old (left - 1) i k
goes_on es fs old zero i j k h m some = absurd (omega (arith, some))
goes_on es fs old (suc left) i j k h m some = let less : suc left - 1 ≡ left = omega arith in
    rw (m.more, less) (record {
      read = h.read ∙ ap (λ (ls : List ℕ). after_edits es (edits_at (suc left) ls j.lexemes)) (sym h.same)
          ∙ ap (after_edits es) (m.read left)
          ∙ ap (λ (ls : List ℕ). after_edits es (after_edits (m.edit ∷ []) (edits_at left ls k.lexemes))) h.same
          ∙ after_both es m.edit (edits_at left i.lines k.lexemes);
      same = m.same ∙ h.same;
    })

pub all_read : (es : List OverlayEdit) (old left : ℕ) (i j : Input) → GoesOn es old left i j
    → first_edit j.lexemes ≡ None → ReadsEdits es old left i j
all_read es old left i j h none = record {
  read = h.read ∙ ap (after_edits es) (begins_none left i.lines j.lexemes none)
      ∙ ap (λ (xs : List OverlayEdit). Some (let q : Edits = record { edits = xs; left = left; rest = j.lexemes } in q))
      (append-nil es);
  same = h.same;
}

some_first : (r : Option EditKeyword) (ws : Spelled) → r ≢ None → edits_if 0 ws (λ k. None) r ≡ None
some_first None ws h = absurd (h refl)
some_first (Some k) ws h = refl

pub none_left : (es : List OverlayEdit) (old left : ℕ) (i j : Input) → GoesOn es old left i j → left ≡ 0
    → first_edit j.lexemes ≢ None → edits_at old i.lines i.lexemes ≡ None
unfolding edits_at
none_left es old left i j h none begins = h.read ∙ rw (none, some_first _ _ begins) refl

pub none_next : (es : List OverlayEdit) (old left : ℕ) (i j : Input) → GoesOn es old left i j → 1 ≤ left
    → ((n : ℕ) → edits_at (suc n) j.lines j.lexemes ≡ None) → edits_at old i.lines i.lexemes ≡ None
none_next es old zero i j h some none = absurd (omega (arith, some))
none_next es old (suc left) i j h some none = h.read ∙ rw (← h.same, none left) refl
